-- What reading bytes as JSON says of the object in them.
use Rattle.std.proofs.Common.{◌≡◌, ℕ, List, Bool, true, false, cond, Option, Some, None, refl}
use Rattle.std.specs.Prelude.{option_and_then}
use Rattle.std.specs.Str.{IsUtf8, is_utf8}
use Rattle.std.proofs.lemmas.Str.{IsUtf8-from_is_utf8, is_utf8-from_IsUtf8}
use Rattle.serde_json.specs.Data.{Data}
use Rattle.serde_json.specs.Read.{read}
use Rattle.manifest_doc.specs.Kinds.{is_object, object_in}

-- a value that was read, where it is an object
pub object_in-read : (bytes : List ℕ) (d : Data) → IsUtf8 bytes → read bytes ≡ Some d → is_object d ≡ true → object_in bytes ≡ Some d
unfolding object_in
object_in-read bytes d utf8 is here = rw (is_utf8-from_IsUtf8 bytes utf8, is, here)

-- a value that was read, where it is no object
pub object_in-other : (bytes : List ℕ) (d : Data) → IsUtf8 bytes → read bytes ≡ Some d → is_object d ≡ false → object_in bytes ≡ None
unfolding object_in
object_in-other bytes d utf8 is not_here = rw (is_utf8-from_IsUtf8 bytes utf8, is, not_here)

unread : (b : Bool) (o : Option Data) (f : Data → Option Data) → (b ≡ true → o ≡ None) → cond b (option_and_then f o) None ≡ None
unread true o f h = rw (h refl)
unread false o f h = refl

-- bytes that are no text, or no JSON text
pub object_in-unread : (bytes : List ℕ) → (IsUtf8 bytes → read bytes ≡ None) → object_in bytes ≡ None
unfolding object_in
object_in-unread bytes h = unread (is_utf8 bytes) (read bytes) _ (λ e. h (IsUtf8-from_is_utf8 bytes e))

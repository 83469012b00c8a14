-- The text of a Content-Type, as a call answers it.
use Rattle.std.proofs.Common.{◌≡◌, ℕ, List, [], ◌∷◌, codes, Option, Some, None, refl, ap, sym, ◌∙◌, Bool, true, false, if◌then◌else◌}
use Rattle.std.specs.Prelude.{MatchOption, option_copied}
use Rattle.std.proofs.lemmas.Bool.{false≢true}
use Rattle.std.specs.Borrow.{Bor}
use Rattle.std.specs.Str.{is_utf8, IsUtf8}
use Rattle.std.proofs.lemmas.Str.{IsUtf8-from_is_utf8, is_utf8-from_IsUtf8}
use Rattle.http_wire.specs.Questions.{IsTextOf}
use Rattle.reg_routes.specs.Routing.{first_text, text_or_none}

text_by : (value text : List ℕ) (b : Bool) → is_utf8 value ≡ b → IsTextOf value text → text ≡ (if b then value else [])
text_by value text true is h = h.0 (IsUtf8-from_is_utf8 value is)
text_by value text false is h = h.1 (λ u. false≢true (sym is ∙ is_utf8-from_IsUtf8 value u))

pub typed_told : (values : List (List ℕ)) (r : Option (Bor (List ℕ)))
    → MatchOption r (values ≡ []) (λ t. (v : List ℕ) × (rest : List (List ℕ)) × (values ≡ v ∷ rest) × IsTextOf v t.now)
    → option_copied r ≡ first_text values
typed_told values None h = sym (ap first_text h)
typed_told values (Some t) (v, rest, is, told) = ap Some (text_by v t.now (is_utf8 v) refl told) ∙ sym (ap first_text is)

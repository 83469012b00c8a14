-- A file that is longer than what it should hold does not hold it, so it need not be read whole.
use Rattle.std.proofs.Common.{◌≡◌, ℕ, Bool, true, false, cond, List, length, Option, Some, None, refl, ap, ◌∙◌, arith}
use Rattle.std.specs.Prelude.{nat_le, option_and_then}
use Rattle.std.proofs.lemmas.Bool.Decides.{nat_tests}
use Rattle.reg_names.specs.Digests.{digest_named}
use Rattle.reg_names.specs.Limits.{digest_text_length}
use Rattle.reg_names.proofs.DigestTexts.{digest_named-is, length-digest_text}
use Rattle.manifest_doc.specs.Stored.{manifest_limit, stored_in}
use Rattle.link_reading.specs.InnerAnswers.{short}

named_is_short : (bytes : List ℕ) (named : Option (List ℕ)) → digest_named bytes ≡ named → nat_le (length bytes) digest_text_length ≡ false → None ≡ named
named_is_short bytes None e long = refl
named_is_short bytes (Some digest) e long =
    let is = digest_named-is bytes digest e in
    let n = length-digest_text digest is.0 in
    let m : length bytes ≡ digest_text_length = ap length is.1 ∙ n in
    absurd (grind (arith, nat_tests))

pub named-short : (file : Option (List ℕ)) → option_and_then digest_named (short digest_text_length file) ≡ option_and_then digest_named file
named-short None = refl
named-short (Some bytes) = at_test _ refl where
  at_test : (b : Bool) → nat_le (length bytes) digest_text_length ≡ b → option_and_then digest_named (cond b (Some bytes) None) ≡ digest_named bytes
  at_test true e = refl
  at_test false e = named_is_short bytes _ refl e

pub stored-short : (file : Option (List ℕ)) (digest : List ℕ) → option_and_then (stored_in digest) (short manifest_limit file) ≡ option_and_then (stored_in digest) file
stored-short None digest = refl
stored-short (Some bytes) digest = at_test _ refl where
  at_test : (b : Bool) → nat_le (length bytes) manifest_limit ≡ b → option_and_then (stored_in digest) (cond b (Some bytes) None) ≡ stored_in digest bytes
  at_test true e = refl
  at_test false e = rw e refl

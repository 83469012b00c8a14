-- The texts of references: no text is both a tag and a digest's, since a digest's has a colon.
use Rattle.std.proofs.Common.{◌≡◌, Bool, true, false, ◌&&◌, List, ℕ, Some, refl, ap, ◌∙◌}
use Rattle.reg_names.specs.Tags.{is_tag}
use Rattle.reg_names.specs.Digests.{IsDigest, digest_text}
use Rattle.reg_names.specs.References.{IsReference, reference_text, reference_named}
use Rattle.reg_names.specs.declared.reference.Reference.{Reference}
use Rattle.reg_names.specs.declared.reference.Reference.TheVariants.{Tag, Digest}
use Rattle.reg_names.proofs.DigestTexts.{digest_named-text}

and_false : (b : Bool) → b && false ≡ false
and_false true = refl
and_false false = refl

digest-no-tag : (digest : List ℕ) → IsDigest digest → is_tag (digest_text digest) ≡ false
digest-no-tag digest is = ap (λ d. is_tag (digest_text d)) is.is ∙ and_false _

-- the text of a reference names it
pub reference_named-text : (r : Reference) → IsReference r → reference_named (reference_text r) ≡ Some r
reference_named-text (Tag tag) is = rw is refl
reference_named-text (Digest digest) is = rw (digest-no-tag digest is, digest_named-text digest is) refl

use Rattle.std.proofs.Common.{◌≡◌, ◌∷◌, codes, true, false, nat_eq, is_ok, is_some, ap, ◌∙◌, sym}
use Rattle.std.specs.Bool.{then_some}
use Rattle.std.specs.Cmp.Lexicographic.{pointwise}
use Rattle.std.proofs.lemmas.Slice.Eq.{strip_prefix_is}
use Rattle.std.proofs.lemmas.Bool.Decides.{Decides-eqb}
use Rattle.hex.specs.Hex.{decode_sized}
use Rattle.reg_names.specs.Digests.{digest_named}
use Rattle.reg_names.proofs.DigestTexts.{decoded, decode_sized-written, decode_sized-refused, digest_named-decoded, digest_named-undecoded, digest_named-unprefixed, digest_named-exact}
use Rattle.reg_names.proofs.digest.Digest.read_bytes.Goals as goal

pub returns-in_err-digits-clause-value : goal.returns-in_err-digits-clause-value
returns-in_err-digits-clause-value c =
    let prefix = strip_prefix_is Decides-eqb c.args.text.now (codes "sha256:") c.strip_prefix.result c.strip_prefix.ensures.cases in
    let absent = rw c.in_err-digits.was at prefix in
    cc (c.from_residual.ensures, digest_named-unprefixed c.args.text.now absent)

pub returns-in_err-ok-clause-value : goal.returns-in_err-ok-clause-value
returns-in_err-ok-clause-value c =
    let prefix = strip_prefix_is Decides-eqb c.args.text.now (codes "sha256:") c.strip_prefix.result c.strip_prefix.ensures.cases in
    let text = rw c.in_ok-digits.was at prefix in
    let digits = c.in_ok-digits.digits.now in
    let bad : is_ok c.decode_to_slice.result ≡ false = sym c.ok.ensures.variant ∙ ap is_some c.in_err-ok.was in
    let undecoded = decode_sized-refused (decode_sized digits 32) _ _ c.decode_to_slice.ensures.value bad in
    c.from_residual-in_err-ok.ensures ∙ sym (ap digest_named text ∙ digest_named-undecoded digits undecoded.0 undecoded.1)

pub returns-in_err-ok-clause-exact : goal.returns-in_err-ok-clause-exact
returns-in_err-ok-clause-exact c = rw (returns-in_err-ok-clause-value c) (digest_named-exact c.args.text.now)

pub invariant_of-then_some : goal.invariant_of-then_some
invariant_of-then_some c =
    let digits = c.in_ok-digits.digits.now in
    let ok : is_ok c.decode_to_slice.result ≡ true = sym c.ok.ensures.variant ∙ ap is_some c.in_ok-ok.was in
    decoded digits _ (decode_sized-written (decode_sized digits 32) _ _ c.decode_to_slice.ensures.value ok)

pub returns-clause-value : goal.returns-clause-value
returns-clause-value c =
    let prefix = strip_prefix_is Decides-eqb c.args.text.now (codes "sha256:") c.strip_prefix.result c.strip_prefix.ensures.cases in
    let text = rw c.in_ok-digits.was at prefix in
    let digits = c.in_ok-digits.digits.now in
    let raw = c.decode_to_slice.new.out in
    let ok : is_ok c.decode_to_slice.result ≡ true = sym c.ok.ensures.variant ∙ ap is_some c.in_ok-ok.was in
    let decodes = decode_sized-written (decode_sized digits 32) _ _ c.decode_to_slice.ensures.value ok in
    let same = c.eq.ensures ∙ ap (pointwise nat_eq digits) (c.as_slice.ensures ∙ c.digits_of.ensures) in
    c.then_some.ensures ∙ ap (λ b. then_some b (1 ∷ raw)) same ∙ sym (ap digest_named text ∙ digest_named-decoded digits raw decodes)

pub returns-clause-exact : goal.returns-clause-exact
returns-clause-exact c = rw (returns-clause-value c) (digest_named-exact c.args.text.now)

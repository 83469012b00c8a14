use Rattle.std.proofs.Common.{◌≡◌, ℕ, true, List, [], rules, tests}
use Rattle.std.proofs.lemmas.Iterator.{cases_from_any}
use Rattle.std.proofs.lemmas.Iterator.Consumers.{YieldsList-from_rest}
use Rattle.reg_names.specs.declared.kind.Kind.TheVariants.{OciImage}
use Rattle.reg_names.specs.Named.{has_digest, digests_of}
use Rattle.reg_entries.specs.Documents.{kept_of}
use Rattle.reg_plain.specs.declared.state.Standing.{Standing}
use Rattle.reg_plain.proofs.MapLaws.{walk_by}
use Rattle.reg_plain.proofs.FactLaws.{named_by}
use Rattle.reg_plain.proofs.state.State.is_named.Goals as goal

pub returns : goal.returns
returns c = λ entries.
    named_by c.args.self.now entries c.args.digest.now c.any.result
    (walk_by c.args.self.now.manifests (λ (e : (List ℕ × List ℕ) × Standing). (has_digest c.args.digest.now (digests_of e.1.doc.named)) ≡ true) (([], []), record { doc = kept_of OciImage 0 [] []; touched = 0 }) c.any.result c.iter.ensures.ordered
    (cases_from_any _ _ _ (λ (e : (List ℕ × List ℕ) × Standing). (has_digest c.args.digest.now (digests_of e.1.doc.named)) ≡ true) (λ (e : (List ℕ × List ℕ) × Standing). ¬ ((has_digest c.args.digest.now (digests_of e.1.doc.named)) ≡ true)) c.any.ensures.ran (YieldsList-from_rest c.args.self.now.manifests.entries c.iter.ensures.rest) (λ x q k. search (rules, tests)) (λ x q k. search (rules, tests))))

use Rattle.std.proofs.Common.{◌≡◌, ℕ, true, List, [], nat_eq, rules, tests}
use Rattle.std.specs.BTreeMap as tree
use Rattle.std.specs.Cmp.Lexicographic.{pointwise}
use Rattle.std.proofs.lemmas.Iterator.{cases_from_any}
use Rattle.std.proofs.lemmas.Iterator.Consumers.{YieldsList-from_rest}
use Rattle.reg_names.specs.declared.kind.Kind.TheVariants.{OciImage}
use Rattle.reg_entries.specs.Documents.{kept_of}
use Rattle.reg_plain.specs.declared.state.Standing.{Standing}
use Rattle.reg_plain.specs.Held.{spot_cmp}
use Rattle.reg_plain.proofs.MapLaws.{walk_by}
use Rattle.reg_plain.proofs.FactLaws.{has_in}
use Rattle.reg_plain.proofs.state.State.has_manifests.Goals as goal

pub returns : goal.returns
returns c =
    let m = c.args.self.now.manifests in
    let name = c.args.name.now in
    has_in (tree.get spot_cmp m) name c.any.result
    (walk_by m (λ (e : (List ℕ × List ℕ) × Standing). (pointwise nat_eq e.0.0 name) ≡ true) (([], []), record { doc = kept_of OciImage 0 [] []; touched = 0 }) c.any.result c.iter.ensures.ordered
    (cases_from_any _ _ _ (λ (e : (List ℕ × List ℕ) × Standing). (pointwise nat_eq e.0.0 name) ≡ true) (λ (e : (List ℕ × List ℕ) × Standing). ¬ ((pointwise nat_eq e.0.0 name) ≡ true)) c.any.ensures.ran (YieldsList-from_rest m.entries c.iter.ensures.rest) (λ x q k. search (rules, tests)) (λ x q k. search (rules, tests))))

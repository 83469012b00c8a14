use Rattle.std.proofs.Common.{◌≡◌, List, ℕ, ◌∷◌, ◌++◌, [], Bool, cond, rules, ap, sym, subst, ◌∙◌}
use Rattle.std.specs.Prelude.{IsTrue, ◌&&◌, ◌||◌, option_copied}
use Rattle.std.specs.Vec.Iter.{into_iter_items}
use Rattle.reg_names.specs.Named.{has_digest}
use Rattle.keeper_api.specs.Changes.{after}
use Rattle.keeper_api.specs.Rows.{Kept}
use Rattle.reg_tables.specs.InnerPending.{is_wanted, MayStandBehind}
use Rattle.reg_tables.proofs.GatherLaws.{stand_push, wanted_next}
use Rattle.reg_tables.proofs.gather.wanted_of.Goals as goal

pub loop-part-preserved : goal.loop-part-preserved
loop-part-preserved g c =
    let a = c.args in
    let first = c.in-Some.ensures.steps.0 in
    let front = a.table ∷ a.front.now in
    let grew : c.push_if.new.parts.items ≡ cond c.in_ok-stands.stands (c.loop-part.parts.items ++ c.in-Some.part ∷ []) c.loop-part.parts.items = rw c.in_ok-noting.ensures.ok at c.push_if.ensures in
    record {
      reads = search rules;
      stand = subst (MayStandBehind front) (sym grew)
          (stand_push front c.loop-part.parts.items c.in-Some.part c.in_ok-stands.stands c.loop-part.invariant.stand (λ s. rw c.as_slice.ensures at (c.in_ok-stands.ensures.fits s)));
      parts = λ told q.
          let rows = (g.K.Keeper.kept a.keeper.now).rows in
          let wanted : List ℕ → Bool = λ p. is_wanted (option_copied a.wanted) (after rows a.pending.now (a.table ∷ (a.front.now ++ p))) in
          let value = subst (λ (k : Kept). IsTrue k.tells → c.in_ok-stands.stands ≡ is_wanted (option_copied a.wanted) (after k.rows a.pending.now (a.table ∷ (a.front.now ++ c.as_slice.result.now)))) c.loop-part.invariant.reads.held_stays c.in_ok-stands.ensures.stands in
          let stands : c.in_ok-stands.stands ≡ wanted c.in-Some.part = value told ∙ ap wanted c.as_slice.ensures in
          let rest = into_iter_items c.next.new.self in
          ap (λ (ps : List (List ℕ)). has_digest q ps || (has_digest q rest && wanted q)) grew
          ∙ wanted_next wanted c.loop-part.parts.items rest c.in-Some.part q c.in_ok-stands.stands stands
          ∙ sym (ap (λ (ps : List (List ℕ)). has_digest q c.loop-part.parts.items || (has_digest q ps && wanted q)) first)
          ∙ c.loop-part.invariant.parts told q;
    }

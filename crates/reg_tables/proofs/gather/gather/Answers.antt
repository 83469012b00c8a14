use Rattle.std.proofs.Common.{◌≡◌, List, ℕ, [], true, ◌∷◌, ◌++◌, subst}
use Rattle.std.specs.Prelude.{IsTrue, ◌&&◌, ◌||◌, option_copied}
use Rattle.reg_names.specs.Named.{has_digest}
use Rattle.keeper_api.specs.Changes.{after}
use Rattle.keeper_api.specs.Rows.{Kept, is_below}
use Rattle.reg_tables.specs.InnerPending.{is_wanted, is_put}
use Rattle.reg_tables.proofs.GatherLaws.{gathered}
use Rattle.reg_tables.proofs.gather.gather.Goals as goal

pub returns-clause-parts : goal.returns-clause-parts
returns-clause-parts g c told =
    let a = c.args in
    let rows = (g.K.Keeper.kept a.keeper.now).rows in
    let more : (part : List ℕ) → is_below [] part ≡ true → has_digest part c.add_put.new.parts.items ≡ has_digest part c.in_ok-likely.likely.items || is_put (a.table ∷ (a.front.now ++ part)) a.pending.now = rw c.in_ok-noting.ensures.ok at c.add_put.ensures in
    let value = subst (λ (k : Kept). IsTrue k.tells → (part : List ℕ) → has_digest part c.in_ok-parts.parts.items ≡ has_digest part c.add_put.new.parts.items && is_wanted (option_copied a.wanted) (after k.rows a.pending.now (a.table ∷ (a.front.now ++ part)))) c.in_ok-likely.ensures.reads.reads.held_stays c.in_ok-parts.ensures.parts in
    gathered (a.table ∷ a.front.now) (option_copied a.wanted) rows a.pending.now c.in_ok-likely.likely.items c.add_put.new.parts.items c.in_ok-parts.parts.items (c.in_ok-likely.ensures.parts told) more (value told)

use Rattle.std.proofs.Common.{◌≡◌, ◌∷◌, ◌++◌, List, ℕ, Some, None, subst, sym, ◌∙◌}
use Rattle.std.specs.Prelude.{option_copied}
use Rattle.reg_names.specs.Digests.{IsDigest}
use Rattle.reg_names.specs.Names.{IsName}
use Rattle.reg_names.specs.Tags.{IsTag}
use Rattle.keeper_api.specs.Fields.{ended}
use Rattle.keeper_api.specs.Tables.{Fits}
use Rattle.reg_tables.specs.InnerNexts.{IsEndedTag, IsNextBehind, bound_of}
use Rattle.reg_tables.proofs.FormLaws.{tag_form}
use Rattle.reg_tables.proofs.NextLaws.{tag_part, tags_spelled, next_none, next_some}
use Rattle.reg_tables.proofs.next.next_tag.Goals as goal

pub tag_of-requires : goal.tag_of-requires
tag_of-requires g c =
    let a = c.args in
    let front : c.in_ok-front.front.items ≡ ended a.name.now = rw c.in_ok-front.ensures.ok at c.name_part.ensures.part in
    let name : IsName a.name.now = rw c.in_ok-front.ensures.ok at c.name_part.ensures.name in
    let fits : Fits (4 ∷ (ended a.name.now ++ c.in-Some.part)) c.in-Some.row = rw (c.deref.ensures.value, front, c.in-Some.is) at c.in_ok-part.ensures.fits in
    subst IsEndedTag (sym c.as_slice.ensures) (tag_part a.name.now c.in-Some.part c.in-Some.row name fits)

pub digest_of-requires : goal.digest_of-requires
digest_of-requires g c =
    let a = c.args in
    let front : c.in_ok-front.front.items ≡ ended a.name.now = rw c.in_ok-front.ensures.ok at c.name_part.ensures.part in
    let fits : Fits (4 ∷ (ended a.name.now ++ c.in-Some.part)) c.in-Some.row = rw (c.deref.ensures.value, front, c.in-Some.is) at c.in_ok-part.ensures.fits in
    subst IsDigest (sym c.as_slice-in-Some.ensures) (tag_form (ended a.name.now ++ c.in-Some.part) c.in-Some.row fits)

pub returns-in-Some-clause-value : goal.returns-in-Some-clause-value
returns-in-Some-clause-value g c told =
    let a = c.args in
    let rows = (g.K.Keeper.kept a.keeper.now).rows in
    let front : c.in_ok-front.front.items ≡ ended a.name.now = rw c.in_ok-front.ensures.ok at c.name_part.ensures.part in
    let bound : c.in_ok-bound.bound.items ≡ bound_of ended (option_copied a.after) = rw c.in_ok-bound.ensures.ok at c.tag_bound.ensures in
    let next : IsNextBehind (4 ∷ ended a.name.now) (bound_of ended (option_copied a.after)) rows (Some (c.in-Some.part, c.in-Some.row)) = rw (c.deref.ensures.value, front, c.deref-2.ensures.value, bound, c.in-Some.is) at (c.in_ok-part.ensures.value told) in
    let is : IsTag c.in_ok-tag-in-Some.tag = rw c.in_ok-tag-in-Some.ensures.ok at c.tag_of.ensures.tag in
    let part : ended c.in_ok-tag-in-Some.tag ≡ c.in-Some.part = rw c.in_ok-tag-in-Some.ensures.ok at c.tag_of.ensures.part ∙ c.as_slice.ensures in
    next_some IsTag ended tags_spelled (4 ∷ ended a.name.now) (λ (x : List ℕ × List ℕ). x.0) (λ x. x.1) (option_copied a.after) rows c.in-Some.part c.in-Some.row (c.in_ok-tag-in-Some.tag, c.digest_of.result) next is part (c.digest_of.ensures ∙ c.as_slice-in-Some.ensures)

pub returns-clause-value : goal.returns-clause-value
returns-clause-value g c told =
    let a = c.args in
    let rows = (g.K.Keeper.kept a.keeper.now).rows in
    let front : c.in_ok-front.front.items ≡ ended a.name.now = rw c.in_ok-front.ensures.ok at c.name_part.ensures.part in
    let bound : c.in_ok-bound.bound.items ≡ bound_of ended (option_copied a.after) = rw c.in_ok-bound.ensures.ok at c.tag_bound.ensures in
    let next : IsNextBehind (4 ∷ ended a.name.now) (bound_of ended (option_copied a.after)) rows None = rw (c.deref.ensures.value, front, c.deref-2.ensures.value, bound, c.in-None.is) at (c.in_ok-part.ensures.value told) in
    next_none IsTag ended tags_spelled (4 ∷ ended a.name.now) (λ (x : List ℕ × List ℕ). x.0) (λ x. x.1) (option_copied a.after) rows next

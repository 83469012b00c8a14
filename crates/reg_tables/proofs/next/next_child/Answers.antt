use Rattle.std.proofs.Common.{◌≡◌, ◌∷◌, ◌++◌, subst, sym}
use Rattle.reg_names.specs.Digests.{IsDigest}
use Rattle.reg_names.specs.Names.{IsName}
use Rattle.keeper_api.specs.Fields.{ended}
use Rattle.keeper_api.specs.Tables.{Fits}
use Rattle.reg_tables.proofs.NextLaws.{child_part}
use Rattle.reg_tables.proofs.next.next_child.Goals as goal

pub digest_of-requires : goal.digest_of-requires
digest_of-requires g c =
    let a = c.args in
    let front : c.in_ok-front.front.items ≡ ended a.name.now ++ a.parent.now = rw c.in_ok-front.ensures.ok at c.spot_part.ensures.part in
    let name : IsName a.name.now = rw c.in_ok-front.ensures.ok at c.spot_part.ensures.name in
    let parent : IsDigest a.parent.now = rw c.in_ok-front.ensures.ok at c.spot_part.ensures.digest in
    let fits : Fits (6 ∷ ((ended a.name.now ++ a.parent.now) ++ c.in-Some.part)) c.in-Some.field-0-1 = rw (c.deref.ensures.value, front, c.in-Some.is) at c.in_ok-part.ensures.fits in
    subst IsDigest (sym c.as_slice.ensures) (child_part a.name.now a.parent.now c.in-Some.part c.in-Some.field-0-1 name parent fits)

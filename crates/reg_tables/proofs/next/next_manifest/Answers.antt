use Rattle.std.proofs.Common.{◌≡◌, ◌∷◌, ◌++◌, subst, sym}
use Rattle.reg_names.specs.Digests.{IsDigest}
use Rattle.reg_names.specs.Names.{IsName}
use Rattle.keeper_api.specs.Fields.{ended}
use Rattle.keeper_api.specs.Tables.{Fits}
use Rattle.reg_tables.proofs.NextLaws.{manifest_part}
use Rattle.reg_tables.proofs.next.next_manifest.Goals as goal

pub digest_of-requires : goal.digest_of-requires
digest_of-requires g c =
    let a = c.args in
    let front : c.in_ok-front.front.items ≡ ended a.name.now = rw c.in_ok-front.ensures.ok at c.name_part.ensures.part in
    let name : IsName a.name.now = rw c.in_ok-front.ensures.ok at c.name_part.ensures.name in
    let fits : Fits (2 ∷ (ended a.name.now ++ c.in-Some.part)) c.in-Some.row = rw (c.deref.ensures.value, front, c.in-Some.is) at c.in_ok-part.ensures.fits in
    subst IsDigest (sym c.as_slice.ensures) (manifest_part a.name.now c.in-Some.part c.in-Some.row name fits)

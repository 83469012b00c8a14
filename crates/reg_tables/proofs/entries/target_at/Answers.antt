use Rattle.std.proofs.Common.{◌≡◌, ◌∷◌, ◌++◌, subst, sym}
use Rattle.reg_names.specs.Digests.{IsDigest}
use Rattle.keeper_api.specs.Fields.{ended}
use Rattle.keeper_api.specs.Tables.{Fits}
use Rattle.reg_tables.proofs.FormLaws.{tag_form}
use Rattle.reg_tables.proofs.entries.target_at.Goals as goal

pub digest_of-requires : goal.digest_of-requires
digest_of-requires g c =
    let part = ended c.args.name.now ++ ended c.args.tag.now in
    let key : c.in_ok-key.key ≡ 4 ∷ part = rw c.in_ok-key.ensures.ok at c.tag_key.ensures.key in
    let fits : Fits (4 ∷ part) c.in-Some.row = rw (key, c.in-Some.is) at c.in_ok-row.ensures.fits in
    subst IsDigest (sym c.as_slice.ensures) (tag_form part c.in-Some.row fits)

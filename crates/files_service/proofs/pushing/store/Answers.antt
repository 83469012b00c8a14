use Rattle.std.proofs.Common.{refl, rules}
use Rattle.link_paths.specs.Places.{data_path}
use Rattle.files_service.specs.InnerChanging.{manifest_files, manifest_links}
use Rattle.files_service.specs.declared.change.FileChange.TheVariants as file
use Rattle.files_service.proofs.ChangeLaws.{first_failed, rest_failed}
use Rattle.files_service.proofs.pushing.store.Goals as goal

pub returns-in_err-put_small-clause-changes : goal.returns-in_err-put_small-clause-changes
returns-in_err-put_small-clause-changes g c =
    let args = c.args in
    first_failed g.D.Depot.held g.D.Depot.faults (manifest_files args.name.now args.at.now args.digest.now args.bytes.now) (file.Put (data_path args.digest.now) args.bytes.now) (manifest_links args.name.now args.at.now args.digest.now) refl args.depot.now c.put_small.new.self c.put_small.result _ c.from_residual-in_err-put_small.result c.in_err-put_small.was (search rules) (search rules)

pub returns-in_err-make_all-clause-changes : goal.returns-in_err-make_all-clause-changes
returns-in_err-make_all-clause-changes g c =
    let args = c.args in
    rest_failed g.D.Depot.held g.D.Depot.faults (manifest_files args.name.now args.at.now args.digest.now args.bytes.now) (file.Put (data_path args.digest.now) args.bytes.now) (manifest_links args.name.now args.at.now args.digest.now) refl args.depot.now c.put_small.new.self c.make_all.new.depot c.put_small.result _ c.make_all.result _ c.from_residual-in_err-make_all.result c.in_ok-put_small.was c.in_err-make_all.was (search rules) (search rules) (search rules)

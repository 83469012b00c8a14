use Rattle.std.proofs.lemmas.Result.{err_from_is_err_and}
use Rattle.serde_json.specs.View.{view}
use Rattle.manifest_doc.proofs.DocumentLaws.{not_read, read_of, fault_of_object}
use Rattle.manifest_doc.proofs.SizeLaws.{sizes_of}
use Rattle.manifest_doc.proofs.document.read_doc.Goals as goal

pub returns-in_err-object-clause-err : goal.returns-in_err-object-clause-err
returns-in_err-object-clause-err c =
    let p = err_from_is_err_and c.from_residual.result c.from_residual.ensures.1 in
    rw (p.1, p.2) (not_read c.args.bytes.now _ c.in_err-object.ensures.err)

pub returns-clause-ok : goal.returns-clause-ok
returns-clause-ok c = read_of c.args.bytes.now (view c.in_ok-object.object) c.read_members.result c.in_ok-object.ensures.ok c.read_members.ensures.ok

pub returns-clause-named : goal.returns-clause-named
returns-clause-named c = (sizes_of c.args.bytes.now c.read_members.result (read_of c.args.bytes.now (view c.in_ok-object.object) c.read_members.result c.in_ok-object.ensures.ok c.read_members.ensures.ok)).0

pub returns-clause-children : goal.returns-clause-children
returns-clause-children c = (sizes_of c.args.bytes.now c.read_members.result (read_of c.args.bytes.now (view c.in_ok-object.object) c.read_members.result c.in_ok-object.ensures.ok c.read_members.ensures.ok)).1

pub returns-clause-err : goal.returns-clause-err
returns-clause-err c = fault_of_object c.args.bytes.now (view c.in_ok-object.object) c.read_members.result c.in_ok-object.ensures.ok c.read_members.ensures.err

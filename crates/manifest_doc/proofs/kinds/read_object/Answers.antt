use Rattle.std.proofs.Common.{sym, ◌∙◌}
use Rattle.std.proofs.lemmas.Bool.{iff_false}
use Rattle.serde_json.specs.View.{view}
use Rattle.manifest_doc.proofs.Objects.{object_in-read, object_in-other, object_in-unread}
use Rattle.manifest_doc.proofs.kinds.read_object.Goals as goal
use Rattle.manifest_doc.proofs.kinds.read_object.Goals.{in_default-via-in-Ok+else-is_object, in_default-via-in-Err+else-is_memory}

pub returns-in-Ok-clause-ok : goal.returns-in-Ok-clause-ok
returns-in-Ok-clause-ok c =
    object_in-read c.args.bytes.now (view c.in-Ok.value) c.in-Ok.ensures.ok.0 c.in-Ok.ensures.ok.1 cc

pub returns-in_default-clause-err : goal.returns-in_default-clause-err
returns-in_default-clause-err c =
    let bytes = c.args.bytes.now in
    elim c.in_default.branch [
      | in_default-via-in-Ok+else-is_object w ↦
          rw (object_in-other bytes (view w.in-Ok.value) w.in-Ok.ensures.ok.0 w.in-Ok.ensures.ok.1 (sym w.is_object.ensures ∙ w.if-is_object.false))
      | in_default-via-in-Err+else-is_memory w ↦
          rw (object_in-unread bytes (w.in-Err.ensures.err (iff_false w.is_memory.ensures w.if-is_memory.false)))
    ]

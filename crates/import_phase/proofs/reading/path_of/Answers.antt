use Rattle.std.proofs.Common.{◌∙◌}
use Rattle.import_phase.proofs.ReadLaws.{is_path, path_read}
use Rattle.import_phase.proofs.reading.path_of.Goals as goal

pub unreachable-requires-in-None : goal.unreachable-requires-in-None
unreachable-requires-in-None c =
    (rw c.in-None.is at c.in_ok-path.ensures) (is_path c.args.bytes.now c.in-Ok.text.now c.requires (c.in-Ok.ensures.cases.0 ∙ c.split_at.ensures.back))

pub returns : goal.returns
returns c =
    path_read c.args.bytes.now c.in-Ok.text.now c.requires (c.in-Ok.ensures.cases.0 ∙ c.split_at.ensures.back) c.in-Some.path (rw c.in-Some.is at c.in_ok-path.ensures).0

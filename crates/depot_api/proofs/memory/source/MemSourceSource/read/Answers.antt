use Rattle.std.proofs.Common.{length, arith}
use Rattle.std.proofs.lemmas.Grind.{common_steps}
use Rattle.depot_api.specs.MemSource.{source_pieces}
use Rattle.depot_api.proofs.ReadLaws.{read_front, read_end}
use Rattle.depot_api.proofs.memory.source.MemSourceSource.read.Goals as goal

pub returns-clause-bytes : goal.returns-clause-bytes
returns-clause-bytes c =
    let s = c.args.self.now in
    let n = c.next_length-given.ensures in
    (read_front s.bytes c.copy_from_slice.new.self _ s.at c.next_length-given.result (grind (arith, common_steps)) (omega (arith, n)), λ none some. read_end s.bytes (source_pieces s) s.at _ _ (length c.args.into.now) n none (grind (arith, common_steps)))

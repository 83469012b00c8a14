use Rattle.depot_api.proofs.PathLaws.{parts_of-path_text}
use Rattle.depot_api.proofs.path.Path.text_reads_back.Goals as goal

pub returns : goal.returns
returns c = parts_of-path_text

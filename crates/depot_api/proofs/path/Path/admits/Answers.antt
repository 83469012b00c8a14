use Rattle.depot_api.proofs.PathLaws.{text_is_path, bytes_are_none}
use Rattle.depot_api.proofs.path.Path.admits.Goals as goal

pub returns-in-Ok : goal.returns-in-Ok
returns-in-Ok c = text_is_path c.args.bytes.now c.in-Ok.text.now c.is_path.result c.in-Ok.ensures.cases.0 c.in-Ok.ensures.cases.1 c.is_path.ensures

pub returns-in-Err : goal.returns-in-Err
returns-in-Err c = bytes_are_none c.args.bytes.now c.in-Err.ensures.cases.0

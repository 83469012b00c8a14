use Rattle.reg_names.proofs.TextBytes.{IsUtf8-from_name}
use Rattle.reg_names.proofs.name.Name.read_bytes.Goals as goal

pub returns-in-Err : goal.returns-in-Err
returns-in-Err c = λ h. c.in-Err.ensures.cases.0 (IsUtf8-from_name c.args.text.now h)

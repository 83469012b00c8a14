use Rattle.reg_names.proofs.TextBytes.{IsUtf8-from_tag}
use Rattle.reg_names.proofs.tag.Tag.read_bytes.Goals as goal

pub returns-in-Err : goal.returns-in-Err
returns-in-Err c = λ h. c.in-Err.ensures.cases.0 (IsUtf8-from_tag c.args.text.now h)

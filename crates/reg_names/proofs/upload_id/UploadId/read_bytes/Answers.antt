use Rattle.std.proofs.Common.{sym, ap}
use Rattle.std.specs.Prelude.{Ok}
use Rattle.reg_names.proofs.UploadIdTexts.{named-exact, named-refused}
use Rattle.reg_names.proofs.upload_id.UploadId.read_bytes.Goals as goal

pub returns-in-Err-clause-value : goal.returns-in-Err-clause-value
returns-in-Err-clause-value c = ap Ok (sym (named-refused c.args.text.now c.in-Err.ensures.cases.0))

pub returns-in-Err-clause-exact : goal.returns-in-Err-clause-exact
returns-in-Err-clause-exact c = rw (named-refused c.args.text.now c.in-Err.ensures.cases.0) at (named-exact c.args.text.now)

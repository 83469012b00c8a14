use Rattle.reg_names.proofs.UploadIdTexts.{named-text}
use Rattle.reg_names.proofs.upload_id.upload_ids_read_back.Goals as goal

pub returns : goal.returns
returns c = named-text

use Rattle.reg_names.proofs.TextOrder.{upload_ids-cmp}
use Rattle.reg_names.proofs.upload_id.upload_ids_are_ordered_as_texts.Goals as goal

pub returns : goal.returns
returns c = upload_ids-cmp

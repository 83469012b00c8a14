use Rattle.reg_names.proofs.DigestTexts.{length-digest_text}
use Rattle.reg_names.proofs.digest.digest_texts_have_one_length.Goals as goal

pub returns : goal.returns
returns c = length-digest_text

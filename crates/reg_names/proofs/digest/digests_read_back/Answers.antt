use Rattle.reg_names.proofs.DigestTexts.{digest_named-text}
use Rattle.reg_names.proofs.digest.digests_read_back.Goals as goal

pub returns : goal.returns
returns c = digest_named-text

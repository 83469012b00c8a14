use Rattle.manifest_doc.proofs.MemberLaws.{names_of}
use Rattle.manifest_doc.proofs.laws.what_is_named_is_held.Goals as goal

pub returns : goal.returns
returns c = names_of

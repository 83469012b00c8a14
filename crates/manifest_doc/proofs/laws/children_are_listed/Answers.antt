use Rattle.manifest_doc.proofs.MemberLaws.{lists_of}
use Rattle.manifest_doc.proofs.laws.children_are_listed.Goals as goal

pub returns : goal.returns
returns c = lists_of

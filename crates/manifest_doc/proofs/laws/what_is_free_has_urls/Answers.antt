use Rattle.manifest_doc.proofs.MemberLaws.{frees_of}
use Rattle.manifest_doc.proofs.laws.what_is_free_has_urls.Goals as goal

pub returns : goal.returns
returns c = frees_of

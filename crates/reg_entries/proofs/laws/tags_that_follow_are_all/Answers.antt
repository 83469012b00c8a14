use Rattle.reg_entries.proofs.ListingLaws.{member, has_member}
use Rattle.reg_entries.proofs.laws.tags_that_follow_are_all.Goals as goal

pub returns : goal.returns
returns c = λ state name last tags tag chain. (member state name last tags tag chain, λ h. has_member state name last tags tag chain h.0 h.1 h.2)

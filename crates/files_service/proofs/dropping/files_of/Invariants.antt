use Rattle.std.proofs.Common.{◌≡◌, take}
use Rattle.files_service.proofs.DroppingLaws.{removals}
use Rattle.files_service.proofs.dropping.files_of.Given as goal

-- the links of the first tags are listed
abbrev pub invariant-loop-tag : goal.invariant-loop-tag
invariant-loop-tag l = l.files.items ≡ removals l.name (take l.tag-index l.tags)

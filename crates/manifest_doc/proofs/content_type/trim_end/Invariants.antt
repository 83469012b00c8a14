use Rattle.std.proofs.Common.{◌≡◌, length}
use Rattle.manifest_doc.specs.ContentTypes.{trim_end}
use Rattle.manifest_doc.proofs.content_type.trim_end.Given as goal

-- nothing but blanks was passed
abbrev pub invariant-loop-last : goal.invariant-loop-last
invariant-loop-last l = trim_end l.rest ≡ trim_end l.text

abbrev pub decreases-loop-last : goal.decreases-loop-last
decreases-loop-last l = length l.rest

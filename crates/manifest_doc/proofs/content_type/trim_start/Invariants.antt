use Rattle.std.proofs.Common.{◌≡◌, length}
use Rattle.manifest_doc.specs.ContentTypes.{trim_start}
use Rattle.manifest_doc.proofs.content_type.trim_start.Given as goal

-- nothing but blanks was passed
abbrev pub invariant-loop-first : goal.invariant-loop-first
invariant-loop-first l = trim_start l.rest ≡ trim_start l.text

abbrev pub decreases-loop-first : goal.decreases-loop-first
decreases-loop-first l = length l.rest

use Rattle.std.proofs.Common.{◌≡◌, ◌++◌, map}
use Rattle.manifest_doc.proofs.ListLaws.{entry}
use Rattle.manifest_doc.proofs.lists.named_of.Given as goal

-- the entries so far, and those that are left
abbrev pub invariant-loop-digest : goal.invariant-loop-digest
invariant-loop-digest l = l.named.items ++ map entry l.digest-iterator ≡ map entry l.initial.digest-iterator

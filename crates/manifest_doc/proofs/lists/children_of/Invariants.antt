use Rattle.std.proofs.Common.{◌≡◌, ◌++◌}
use Rattle.manifest_doc.proofs.lists.children_of.Given as goal

-- the digests so far, and those that are left
abbrev pub invariant-loop-digest : goal.invariant-loop-digest
invariant-loop-digest l = l.children.items ++ l.digest-iterator ≡ l.initial.digest-iterator

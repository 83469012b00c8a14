use Rattle.std.proofs.Common.{◌≡◌, ◌++◌, length, take}
use Rattle.std.specs.List.{flat_map, AllByRecursion}
use Rattle.reg_names.specs.Digests.{IsDigest}
use Rattle.reg_names.specs.Named.{digests_of}
use Rattle.reg_journal.specs.Spelling.{count_field, named_field}
use Rattle.reg_journal.proofs.writing.put_named_list.Given as goal

abbrev pub invariant-loop-item : goal.invariant-loop-item
invariant-loop-item l = record {
  written : l.out.items ≡ l.fn.out.items ++ (count_field (length l.named) ++ flat_map named_field (take l.item-index l.named));
  are : AllByRecursion IsDigest (digests_of (take l.item-index l.named));
}

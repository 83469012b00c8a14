use Rattle.std.proofs.Common.{◌≡◌, ◌++◌, length, take}
use Rattle.std.specs.List.{flat_map, AllByRecursion}
use Rattle.reg_names.specs.Digests.{IsDigest}
use Rattle.reg_journal.specs.Spelling.{count_field, digest_field}
use Rattle.reg_journal.proofs.writing.put_digest_list.Given as goal

abbrev pub invariant-loop-digest : goal.invariant-loop-digest
invariant-loop-digest l = record {
  written : l.out.items ≡ l.fn.out.items ++ (count_field (length l.digests) ++ flat_map digest_field (take l.digest-index l.digests));
  are : AllByRecursion IsDigest (take l.digest-index l.digests);
}

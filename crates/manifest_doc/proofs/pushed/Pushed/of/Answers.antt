use Rattle.std.specs.Prelude.{option_copied}
use Rattle.reg_digest.proofs.HashLaws.{hashes_by}
use Rattle.manifest_doc.proofs.PushedLaws.{told}
use Rattle.manifest_doc.proofs.pushed.Pushed.of.Goals as goal

pub invariant_of-result-clause-hashes : goal.invariant_of-result-clause-hashes
invariant_of-result-clause-hashes c = hashes_by _ _ _ c.digest_of-digest.ensures.value c.as_slice-2.ensures

pub invariant_of-result-clause-told : goal.invariant_of-result-clause-told
invariant_of-result-clause-told c =
    told (option_copied c.args.typed) c.args.bytes c.in_ok-judged.judged (rw c.as_slice.ensures at c.in_ok-judged.ensures)

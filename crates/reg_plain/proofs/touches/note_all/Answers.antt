use Rattle.std.proofs.Common.{sym, subst, ◌∙◌, take}
use Rattle.std.specs.Prelude.{IsSome}
use Rattle.std.specs.BTreeMap as tree
use Rattle.std.specs.Ordering.{nat_cmp}
use Rattle.std.specs.Cmp.Lexicographic.{slice_cmp}
use Rattle.reg_names.specs.Named.{has_digest, digests_of}
use Rattle.reg_journal.specs.Changes.{is_same}
use Rattle.reg_plain.proofs.MapLaws.{same}
use Rattle.reg_plain.proofs.TouchLaws.{one_named_more, one_of}
use Rattle.reg_plain.proofs.touches.note_all.Goals as goal

pub returns-in_err-note-clause-same : goal.returns-in_err-note-clause-same
returns-in_err-note-clause-same c = λ other. c.in_err-note.ensures.same other ∙ c.loop-named.invariant.same other

pub loop-named-preserved : goal.loop-named-preserved
loop-named-preserved c =
    let l = c.loop-named in
    let n = c.named-item.result in
    record {
      same = λ other. c.in_ok-note.ensures.same other ∙ l.invariant.same other;
      noted = λ other t.
          let before = has_digest other (digests_of (take l.named-index c.args.named.now)) in
          one_of before (is_same n.digest other)
          (λ b. c.in_ok-note.ensures.others other (l.invariant.noted other b))
          (λ b. subst (λ d. IsSome (tree.get (slice_cmp nat_cmp) c.note.new.digests d)) (same n.digest other b) c.in_ok-note.ensures.noted)
          (sym (one_named_more c.args.named.now l.named-index n other c.named-item.is c.loop-named-test.true) ∙ t);
    }

use Rattle.std.proofs.Common.{◌≡◌, ◌≤◌, length, map}
use Rattle.std.specs.Prelude.{IfSome, option_copied}
use Rattle.std.specs.Map.Iter.{deref_pair}
use Rattle.reg_plain.specs.InnerAnswers.{tags_asked}
use Rattle.reg_plain.proofs.state.State.listing.Given as goal

abbrev pub invariant-loop-spot : goal.invariant-loop-spot
invariant-loop-spot l = record {
  found : l.found.items ≡ tags_asked l.fn.name (option_copied l.fn.last) (map deref_pair l.yielded);
  room : IfSome l.fn.n (λ n. length l.found.items ≤ n);
}

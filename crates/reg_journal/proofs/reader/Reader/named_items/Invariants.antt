use Rattle.std.proofs.Common.{◌≡◌, ◌-◌}
use Rattle.reg_journal.specs.InnerReading.{named_at, items_at}
use Rattle.reg_journal.proofs.LoopLaws.{with_front}
use Rattle.reg_journal.proofs.reader.Reader.named_items.Given as goal

abbrev pub invariant-loop : goal.invariant-loop
invariant-loop l = with_front l.items.items (items_at named_at (l.count - l.counter) l.self) ≡ items_at named_at l.count l.fn.self

use Rattle.std.proofs.Common.{ap, sym, ◌∙◌}
use Rattle.depot_api.proofs.FileLaws.{with_all-turn}
use Rattle.depot_api.proofs.SlotLaws.{none_lent}
use Rattle.depot_api.proofs.memory.depot.MemDepot.new.Goals as goal

pub loop-path-preserved : goal.loop-path-preserved
loop-path-preserved c =
    let put = c.in_ok-put.ensures.put in
    record {
      files = with_all-turn _ _ c.in-Some.path c.in_ok-of.field-0 _ _ (λ q. ap (λ h. h.files q) put) (rw (sym c.in_ok-of.ensures) at c.in-Some.ensures.steps.0) ∙ c.loop-path.invariant.files;
      lent = ap (λ h. h.lent) put ∙ none_lent _ c.in-Some.path c.loop-path.invariant.lent;
    }

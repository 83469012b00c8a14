use Rattle.std.proofs.Common.{◌∙◌, sym, arith}
use Rattle.reg_routes.proofs.ColonLaws.{colon_within, colon_pushed, other_pushed}
use Rattle.reg_routes.proofs.colons.decoded.Goals as goal

pub loop-at-preserved-then-is_colon : goal.loop-at-preserved-then-is_colon
loop-at-preserved-then-is_colon c =
    let is = sym c.is_colon.ensures ∙ c.if-is_colon.true in
    record {
      within = colon_within c.args.path.now c.loop-at.at c.loop-at.invariant.within is;
      so_far = colon_pushed c.args.path.now c.loop-at.at _ _ is c.loop-at.invariant.so_far c.in_ok-push.ensures.items;
    }

pub loop-at-preserved : goal.loop-at-preserved
loop-at-preserved c = record {
  within = omega (arith, c.loop-at-test.true);
  so_far = other_pushed c.args.path.now c.loop-at.at _ _ c.loop-at-test.true (sym c.is_colon.ensures ∙ c.if-is_colon.false) c.loop-at.invariant.so_far c.in_ok-push-2.ensures.items;
}

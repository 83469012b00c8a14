use Rattle.std.proofs.Common.{◌≡◌}
use Rattle.form_urlencoded.specs.Form.{raw_pairs}
use Rattle.form_urlencoded.specs.Parse.{pairs_left}
use Rattle.reg_routes.specs.Queries.{value_in}
use Rattle.reg_routes.proofs.query.value_of.Given as goal

-- the pairs that are left have the value that all pairs have
abbrev pub invariant-loop-pair : goal.invariant-loop-pair
invariant-loop-pair l = value_in l.key (pairs_left l.pair-iterator) ≡ value_in l.key (raw_pairs l.query)

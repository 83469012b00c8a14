-- `all` answers what the tag's rest asks of each byte.
use Rattle.std.proofs.Common.{rules, tests, arith}
use Rattle.std.proofs.lemmas.Iterator.{YieldsList-from_slice}
use Rattle.std.proofs.lemmas.Iterator.Search.{all_from_yields_List}
use Rattle.std.proofs.lemmas.Bool.Decides.{nat_tests}
use Rattle.reg_names.specs.Tags.{is_tag_byte}
use Rattle.reg_names.proofs.tag.Tag.admits.Goals as goal

pub returns-then-rest-lt-TAG_LIMIT : goal.returns-then-rest-lt-TAG_LIMIT
returns-then-rest-lt-TAG_LIMIT c =
    let rest = all_from_yields_List is_tag_byte _ _ c.all.result c.all.ensures.ran (YieldsList-from_slice c.in-Some.rest.now cc) (λ x b q k. search (rules, tests)) in
    rw c.in-Some.ensures.cases.0 (grind (arith, nat_tests))

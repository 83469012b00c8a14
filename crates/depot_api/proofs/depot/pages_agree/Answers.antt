use Rattle.depot_api.proofs.PageLaws.{pages_agree}
use Rattle.depot_api.proofs.depot.pages_agree.Goals as goal

pub returns : goal.returns
returns c = λ files under after most one two. pages_agree files under most after one two

use Rattle.depot_api.proofs.ChangeLaws.{hides_put, hides_removed, hides_lent, hides_shelved, hides_placed}
use Rattle.depot_api.proofs.changes.lent_paths_stay_absent.Goals as goal

pub returns : goal.returns
returns c = record {
  put = hides_put;
  remove = hides_removed;
  stage = hides_lent;
  shelve = hides_shelved;
  place = hides_placed;
}

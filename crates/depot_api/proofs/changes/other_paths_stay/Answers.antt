use Rattle.depot_api.proofs.ChangeLaws.{stays_put, stays_removed, stays_lent, stays_shelved, stays_placed}
use Rattle.depot_api.proofs.changes.other_paths_stay.Goals as goal

pub returns : goal.returns
returns c = record {
  put = stays_put;
  remove = stays_removed;
  stage = stays_lent;
  shelve = stays_shelved;
  place = stays_placed;
}

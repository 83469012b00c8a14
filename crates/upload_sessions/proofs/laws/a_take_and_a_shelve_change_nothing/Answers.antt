use Rattle.reg_claims.proofs.SoundLaws.{made_and_ended}
use Rattle.upload_sessions.proofs.ShelvingLaws.{bytes_stay, ends_stay, loans_stay}
use Rattle.upload_sessions.proofs.laws.a_take_and_a_shelve_change_nothing.Goals as goal

pub returns : goal.returns
returns c = record {
  bytes = bytes_stay;
  ends = ends_stay;
  loans = loans_stay;
  claims = λ claims who name id sound. made_and_ended claims who name id sound;
}

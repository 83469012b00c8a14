-- A session that is taken.
use Rattle.std.proofs.Common.{◌≡◌, ℕ, ◌+◌, Bool, true, false, cond, List, [], length, Option, Some, None, Result, Ok, Err, refl, ap, subst, ◌∙◌, inr}
use Rattle.std.specs.Prelude.{◌==◌, IsTrue}
use Rattle.std.specs.Option.{option_map_or}
use Rattle.depot_api.specs.Changes.{IsLentOf}
use Rattle.depot_api.specs.Holdings.{Holding}
use Rattle.depot_api.specs.Stages.{Staged}
use Rattle.link_paths.specs.Places.{upload_data_path}
use Rattle.reg_claims.specs.Claims.{ClaimList, AreSound, claim_of, with_claim, without}
use Rattle.reg_claims.specs.Holding.{next_held}
use Rattle.reg_claims.specs.declared.claim.Held.{Held}
use Rattle.reg_claims.proofs.SoundLaws.{made_and_ended}
use Rattle.reg_entries.specs.declared.reply.Reply.{Reply}
use Rattle.reg_entries.specs.declared.reply.Reply.TheVariants as replies
use Rattle.reg_model.specs.Uploads.{met_from}
use Rattle.upload_sessions.specs.Meeting.{Meets}
use Rattle.upload_sessions.specs.Taking.{MeetsFrom, ClaimsSession, FindsFree}
use Rattle.upload_sessions.specs.Troubles.{IsOfDepot}
use Rattle.reg_entries.specs.declared.trouble.Trouble.{Trouble}
use Rattle.reg_entries.specs.declared.trouble.Trouble.TheVariants as troubles
use Rattle.upload_sessions.proofs.MeetingLaws.{met_end, data_ends}

-- a claim that is made and ended again
pub drawn_again : (claims : ClaimList) (who : ℕ) (name id : List ℕ) (token : Held) → AreSound claims → token ≡ next_held name id claims → without (claim_of token) (with_claim who (claim_of token) claims) ≡ record claims { next = claims.next + 1 }
drawn_again claims who name id token sound is =
    ap (λ (t : Held). without (claim_of t) (with_claim who (claim_of t) claims)) is ∙ made_and_ended claims who name id sound

-- the claims after a take that the depot refused
pub drawn_in_vain : (S : Type 0) (who : ℕ) (claims now : ClaimList) (trouble : Trouble) → IsOfDepot trouble → now ≡ record claims { next = claims.next + 1 } → ClaimsSession {S = S} who claims (Err trouble) now
drawn_in_vain S who claims now troubles.Depot of e = inr e
drawn_in_vain S who claims now troubles.Keeper of e = absurd of
drawn_in_vain S who claims now troubles.Full of e = absurd of
drawn_in_vain S who claims now troubles.NoMemory of e = inr e

-- ---- over a depot that tells its files

from_ok : (name : List ℕ) (start : Option ℕ) (met : Result (List ℕ × ℕ) ℕ) (key : List ℕ) (n : ℕ) → Ok (key, n) ≡ met_from name start met → met ≡ Ok (key, n)
from_ok name start (Err number) key n e = absurd (cc e)
from_ok name None (Ok met) key n e = let same : met ≡ (key, n) = cc in ap (λ (m : List ℕ × ℕ). Ok m) same
from_ok name (Some start) (Ok met) key n e = by (start == met.1) e where
  by : (b : Bool) → ◌≡◌ {A = Result (List ℕ × ℕ) Reply} (Ok (key, n)) (cond b (Ok met) (Err (replies.WrongStart name met.0 met.1))) → ◌≡◌ {A = Result (List ℕ × ℕ) ℕ} (Ok met) (Ok (key, n))
  by true e = let same : met ≡ (key, n) = cc in ap (λ (m : List ℕ × ℕ). Ok m) same
  by false e = absurd (cc e)

length_or : (w : Option (List ℕ)) → length (option_map_or (λ bytes. bytes) w []) ≡ option_map_or length w 0
length_or None = refl
length_or (Some bytes) = refl

pub lent_end : (held : Holding) (claims : ClaimList) (name : List ℕ) (id : Option (List ℕ)) (start : Option ℕ) (key : List ℕ) (ends : ℕ) (staged : Staged) → IsTrue held.tells → MeetsFrom held claims name id start (Ok (key, ends)) → IsLentOf held (upload_data_path name key) staged → staged.count ≡ ends
lent_end held claims name id start key ends staged tells from lent =
    let met = from_ok name start from.met key ends from.is in
    let meets = subst (λ (m : Result (List ℕ × ℕ) ℕ). Meets held claims name id m) met from.meets in
    lent.counts (lent.tells ∙ tells) ∙ ap length (lent.bytes tells) ∙ length_or (held.files (upload_data_path name key)) ∙ data_ends held.files name key ends (met_end held claims name id key ends tells meets)

-- where a session is free, numbers may end
pub finds_free : {A : Type 0} (held : Holding) (claims : ClaimList) (name : List ℕ) (id : Option (List ℕ)) (start : Option ℕ) (met : List ℕ × ℕ) (result : Result A Trouble) → MeetsFrom held claims name id start (Ok met) → FindsFree held claims name id start result
finds_free held claims name id start met (Err troubles.Full) free = (met, free)
finds_free held claims name id start met result free = tt

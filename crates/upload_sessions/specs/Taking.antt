-- What taking a session makes of the depot and of the claims, by cases on the answer.
use Rattle.std.specs.Prelude.{◌≡◌, ◌⊎◌, ℕ, ◌+◌, true, false, List, Option, Result, Ok, Err, ⊤}
use Rattle.depot_api.specs.Changes.{with_lent, IsLentOf}
use Rattle.depot_api.specs.Holdings.{Holding}
use Rattle.depot_api.specs.Stages.{Staged}
use Rattle.link_paths.specs.Places.{upload_data_path}
use Rattle.reg_claims.specs.Claims.{ClaimList, claim_of, with_claim}
use Rattle.reg_claims.specs.Holding.{is_full, next_held}
use Rattle.reg_claims.specs.declared.claim.Held.{Held}
use Rattle.reg_entries.specs.declared.reply.Reply.{Reply}
use Rattle.reg_entries.specs.declared.trouble.Trouble.{Trouble}
use Rattle.reg_entries.specs.declared.trouble.Trouble.TheVariants as troubles
use Rattle.reg_model.specs.Uploads.{met_from}
use Rattle.upload_sessions.specs.Meeting.{Meets}
use Rattle.upload_sessions.specs.declared.taking.Taken.{Taken}
use Rattle.upload_sessions.specs.declared.taking.Taken.TheVariants.{Out, Refused}

-- what a request meets that adds to an upload
pub record MeetsFrom (held : Holding) (claims : ClaimList) (name : List ℕ) (id : Option (List ℕ)) (start : Option ℕ)
    (from : Result (List ℕ × ℕ) Reply) : Type 0 where
  pub met : Result (List ℕ × ℕ) ℕ
  pub meets : Meets held claims name id met
  pub is : from ≡ met_from name start met

-- a session was free, its claim is given, and its bytes, which were there
pub record IsOut {S : Type 0} (staged : S → Staged) (held : Holding) (claims : ClaimList) (name : List ℕ)
    (id : Option (List ℕ)) (start : Option ℕ) (token : Held) (stage : S) (offset : ℕ) : Type 0 where
  pub key : List ℕ
  pub ends : ℕ
  pub free : MeetsFrom held claims name id start (Ok (key, ends))
  pub claimed : token ≡ next_held name key claims
  pub lent : IsLentOf held (upload_data_path name key) (staged stage)
  pub counted : offset ≡ (staged stage).count

-- a session was given, or why it is not
abbrev pub Takes : {S : Type 0} → (S → Staged) → Holding → ClaimList → List ℕ → Option (List ℕ) → Option ℕ → Taken S
    → Type 0
Takes staged held claims name id start (Out token stage offset) =
    IsOut staged held claims name id start token stage offset
Takes staged held claims name id start (Refused reply) = MeetsFrom held claims name id start (Err reply)

-- the stage that is given has had no fault
abbrev pub IsFresh : {S : Type 0} → (S → ℕ) → Taken S → Type 0
IsFresh faults (Out token stage offset) = faults stage ≡ 0
IsFresh faults (Refused reply) = ⊤

-- the bytes of the session are lent
abbrev pub LendsSession : {S : Type 0} → Result (Taken S) Trouble → Holding → Holding → Type 0
LendsSession (Ok (Out token stage offset)) before now = now ≡ with_lent before (upload_data_path token.name token.id)
LendsSession (Ok (Refused reply)) before now = now ≡ before
LendsSession (Err trouble) before now = now ≡ before

-- the claims are as before, or the number of the next one is one higher
abbrev pub MayDraw : ClaimList → ClaimList → Type 0
MayDraw before now = (now ≡ before) ⊎ (now ≡ record before { next = before.next + 1 })

-- the session is claimed, unless the next number would pass its limit
abbrev pub ClaimsSession : {S : Type 0} → ℕ → ClaimList → Result (Taken S) Trouble → ClaimList → Type 0
ClaimsSession who before (Ok (Out token stage offset)) now =
    (is_full before ≡ false) × (now ≡ with_claim who (claim_of token) before)
ClaimsSession who before (Ok (Refused reply)) now = now ≡ before
ClaimsSession who before (Err troubles.Full) now = (is_full before ≡ true) × (now ≡ before)
ClaimsSession who before (Err trouble) now = MayDraw before now

-- where no number was left for its claim, the session was free
abbrev pub FindsFree : {A : Type 0} → Holding → ClaimList → List ℕ → Option (List ℕ) → Option ℕ → Result A Trouble
    → Type 0
FindsFree held claims name id start (Err troubles.Full) =
    (met : List ℕ × ℕ) × MeetsFrom held claims name id start (Ok met)
FindsFree held claims name id start result = ⊤

-- the trouble is one of the depot, or that the next number would pass its limit
abbrev pub IsOfTake : Trouble → Type 0
IsOfTake troubles.Keeper = ⊥
IsOfTake trouble = ⊤

abbrev pub HasTakeTrouble : {A : Type 0} → Result A Trouble → Type 0
HasTakeTrouble (Ok answer) = ⊤
HasTakeTrouble (Err trouble) = IsOfTake trouble

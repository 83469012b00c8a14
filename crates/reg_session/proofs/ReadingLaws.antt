-- What stands at a place of a stream, as a session reads it in the room that its first hold leaves: it is one thing.
use Rattle.std.proofs.Common.{◌≡◌, ℕ, ◌<◌, ◌≤◌, Bool, true, false, List, [], ◌∷◌, length, Option, Some, None, Ok, Err, refl, sym, ap, subst, ◌∙◌, arith, inl, inr, ◌⊎◌}
use Rattle.std.specs.Prelude.{IsTrue, ⊤}
use Rattle.std.proofs.lemmas.Bool.{false≢true}
use Rattle.httparse.specs.Grammar.{RequestHead}
use Rattle.depot_api.specs.Ids.{Words}
use Rattle.depot_api.specs.Stages.{Staged}
use Rattle.http_wire.specs.declared.body.BodyState.{BodyState}
use Rattle.http_wire.specs.Bodies.{ends_before, due}
use Rattle.http_wire.specs.Filling.{Filling, within, is_too_long, Fills, passes, stops_within, goes_within}
use Rattle.http_wire.specs.Heads.{Verdict, begins, is_nothing, is_cut, is_malformed, is_too_large, Holds}
use Rattle.http_wire.specs.Messages.{ReadsBody}
use Rattle.http_wire.proofs.BodyLaws.{one_run}
use Rattle.http_wire.proofs.FillingLaws.{one_filling, whole_fits, fills_runs}
use Rattle.http_wire.proofs.VerdictLaws.{apart}
use Rattle.reg_claims.specs.declared.claim.Held.{Held}
use Rattle.reg_entries.specs.declared.ask.Ask.{Ask}
use Rattle.reg_entries.specs.declared.ask.Ask.TheVariants as asks
use Rattle.reg_model.specs.Answers.{Answer}
use Rattle.reg_routes.specs.Routing.{Answer as Asked}
use Rattle.upload_sessions.specs.declared.taking.Taken.TheVariants as taken
use Rattle.reg_world.specs.Worlds.{Data}
use Rattle.reg_world.specs.Moves.{Act, Seen, gave}
use Rattle.reg_session.specs.Chains.{Hold, Own, Brings}
use Rattle.reg_session.specs.Requests.{Parts, Request, parts_of, asked_in, awaits, upload_limit, limit_by, limit_of, body_state, HasHead, ReadsRequest}
use Rattle.reg_session.specs.Turns.{Replies, gives_session, goes_on, NeedsNoSession, MaySendBody}
use Rattle.reg_session.specs.Uploads.{IsTake, room_left, FailsToStage, AddsAll, GivesBack, TurnsDown}
use Rattle.reg_session.specs.Works.{Begun, room_of, room_by, MayHold, Leaves, IsBegun, HasBody}
use Rattle.reg_session.proofs.OneHold.{Same}
use Rattle.reg_session.proofs.HoldLaws.{Goes, Step, opens, Alike, one_step}
use Rattle.reg_session.proofs.OneUpload.{takes_alike, no_faults, not_both}

-- ---- what is asked for

-- to add to an upload
abbrev pub AddsBody : Asked → Type 0
AddsBody (Ok (asks.Patch name id start)) = ⊤
AddsBody (Ok (asks.Finish name id digest start)) = ⊤
AddsBody asked = ⊥

pub adds_or_not : (asked : Asked) → NeedsNoSession asked ⊎ AddsBody asked
adds_or_not (Ok (asks.Patch name id start)) = inr tt
adds_or_not (Ok (asks.Finish name id digest start)) = inr tt
adds_or_not asked = inl tt

adds_not_both : (asked : Asked) → NeedsNoSession asked → AddsBody asked → ⊥
adds_not_both (Ok (asks.Patch name id start)) none adds = none
adds_not_both (Ok (asks.Finish name id digest start)) none adds = none
adds_not_both asked none adds = adds

-- the act takes its session
abbrev pub TakesFor : Asked → Act → Type 0
TakesFor (Ok ask) act = IsTake ask act
TakesFor (Err reply) act = ⊥

takes_none : (asked : Asked) (act : Act) → NeedsNoSession asked → TakesFor asked act → ⊥
takes_none (Ok (asks.Patch name id start)) act none takes = none
takes_none (Ok (asks.Finish name id digest start)) act none takes = none
takes_none asked act none takes = takes

goes_without : (asked : Asked) (holds : List Hold) → NeedsNoSession asked → goes_on asked [] ≡ goes_on asked holds
goes_without (Ok (asks.Patch name id start)) holds none = absurd none
goes_without (Ok (asks.Finish name id digest start)) holds none = absurd none
goes_without asked holds none = refl

goes_given : (asked : Asked) (h : Hold) (holds : List Hold) → AddsBody asked → goes_on asked (h ∷ holds) ≡ gives_session h.seen
goes_given (Ok (asks.Patch name id start)) h holds adds = refl
goes_given (Ok (asks.Finish name id digest start)) h holds adds = refl
goes_given asked h holds adds = absurd adds

adds_limit : (asked : Asked) → AddsBody asked → limit_by asked ≡ Some upload_limit
adds_limit (Ok (asks.Patch name id start)) adds = refl
adds_limit (Ok (asks.Finish name id digest start)) adds = refl
adds_limit asked adds = absurd adds

-- ---- the first hold

-- in what room a body is read, and whether it is told to come: by the session that the first hold takes
pub data View (o : Own) (w : Data) (words : Words) (p : Parts) (room : Option ℕ) (goes : Bool) : Type 0 where
  plainly : NeedsNoSession (asked_in p) → room ≡ limit_of p → goes ≡ goes_on (asked_in p) [] → View o w words p room goes
  looked : (h : Hold) (mid : Words) → TakesFor (asked_in p) h.act → Step w h → Brings o words h.act mid → due (body_state p) ≤ upload_limit → room ≡ room_of (limit_of p) h.seen
      → goes ≡ gives_session h.seen → View o w words p room goes

takes_for_alike : (o : Own) (words after later : Words) (asked : Asked) (one two : Act) → TakesFor asked one → TakesFor asked two → Brings o words one after → Brings o words two later → Alike one two
takes_for_alike o words after later (Ok ask) one two is same h k = takes_alike o words words after later ask one two is same h k
takes_for_alike o words after later (Err reply) one two is same h k = absurd is

view_one : (o : Own) (w u : Data) (words : Words) (p : Parts) (room other : Option ℕ) (goes also : Bool) → Same w u → IsTrue w.held.tells → View o w words p room goes → View o u words p other also
    → (room ≡ other) × (goes ≡ also)
view_one o w u words p room other goes also same tells (plainly none limit says) (plainly nothing most told) = (limit ∙ sym most, says ∙ sym told)
view_one o w u words p room other goes also same tells (plainly none limit says) (looked h mid takes step brings short most told) = absurd (takes_none (asked_in p) h.act none takes)
view_one o w u words p room other goes also same tells (looked h mid takes step brings short most told) (plainly none limit says) = absurd (takes_none (asked_in p) h.act none takes)
view_one o w u words p room other goes also same tells (looked h mid takes step brings short limit says) (looked i last took steps brought few most told) =
    let one = one_step w u h i same tells (takes_for_alike o words mid last (asked_in p) h.act i.act takes took brings brought) step steps in
    (limit ∙ ap (room_of (limit_of p)) one.seen_so ∙ sym most, says ∙ ap gives_session one.seen_so ∙ sym told)

-- a body whose Content-Length passes the limit of uploads is not looked at
view_short : (o : Own) (w : Data) (words : Words) (p : Parts) (room : Option ℕ) (goes : Bool) → View o w words p room goes → AddsBody (asked_in p) → upload_limit < due (body_state p) → ⊥
view_short o w words p room goes (plainly none limit says) adds long = adds_not_both (asked_in p) none adds
view_short o w words p room goes (looked h mid takes step brings short limit says) adds long = omega (arith, short, long)

-- ---- readings

pub data Reading : Type 0 where
  -- no head
  bare : Verdict → Reading
  -- a head, and a body of which this is decoded and which ends so
  headed : Parts → List ℕ → Filling → Reading
  -- a head, whose refusal is known before its body
  early : Parts → Reading
  -- a head of an upload whose Content-Length passes its limit
  long : Parts → Reading

abbrev pub IsBare : Verdict → Type 0
IsBare (begins h rest) = ⊥
IsBare v = ⊤

pub record IsHeaded (o : Own) (w : Data) (words : Words) (x : List ℕ) (p : Parts) (d : List ℕ) (f : Filling) : Type 0 where
  pub behind : List ℕ
  pub room : Option ℕ
  pub goes : Bool
  pub head : HasHead x p behind
  pub view : View o w words p room goes
  pub body : ReadsBody room (body_state p) behind d f
  pub may : awaits p ≡ true → goes ≡ true

pub record IsEarly (o : Own) (w : Data) (words : Words) (x : List ℕ) (p : Parts) : Type 0 where
  pub behind : List ℕ
  pub room : Option ℕ
  pub goes : Bool
  pub head : HasHead x p behind
  pub view : View o w words p room goes
  pub waits : awaits p ≡ true
  pub silent : goes ≡ false

pub record IsLong (x : List ℕ) (p : Parts) : Type 0 where
  pub behind : List ℕ
  pub head : HasHead x p behind
  pub adds : AddsBody (asked_in p)
  pub over : upload_limit < due (body_state p)

abbrev pub IsReading : Own → Data → Words → List ℕ → Reading → Type 0
IsReading o w words x (bare v) = Holds x v × IsBare v
IsReading o w words x (headed p d f) = IsHeaded o w words x p d f
IsReading o w words x (early p) = IsEarly o w words x p
IsReading o w words x (long p) = IsLong x p

-- ---- a head is one, and so is the body behind it

abbrev head_in : RequestHead → Verdict → RequestHead
head_in h (begins k rest) = k
head_in h is_nothing = h
head_in h is_cut = h
head_in h is_malformed = h
head_in h is_too_large = h

abbrev rest_in : Verdict → List ℕ
rest_in (begins h rest) = rest
rest_in is_nothing = []
rest_in is_cut = []
rest_in is_malformed = []
rest_in is_too_large = []

one_head : (x : List ℕ) (p q : Parts) (b c : List ℕ) → HasHead x p b → HasHead x q c → (p ≡ q) × (b ≡ c)
one_head x p q b c (h, holds, is) (k, other, same) =
    let one = apart x (begins h b) (begins k c) holds other in
    (sym is ∙ ap (λ (v : Verdict). parts_of (head_in h v)) one ∙ same, ap rest_in one)

body_one : (room : Option ℕ) (state : BodyState) (bytes d e : List ℕ) (f g : Filling) → ReadsBody room state bytes d f → ReadsBody room state bytes e g → (d ≡ e) × (f ≡ g)
body_one (Some most) state bytes d e f g h k = one_filling most state bytes d e f g h k
body_one None state bytes d e f g (outcome, h, is) (other, k, same) =
    let one = one_run state bytes d e outcome other h k in
    (one.0, is ∙ ap within one.1 ∙ sym same)

has_none : (x : List ℕ) (v : Verdict) (p : Parts) (b : List ℕ) → Holds x v → IsBare v → HasHead x p b → ⊥
has_none x v p b holds is (h, head, same) = subst IsBare (apart x v (begins h b) holds head) is

module _ (o : Own) (w u : Data) (words : Words) (x : List ℕ) (same : Same w u) (tells : IsTrue w.held.tells) where
  views_one : (p q : Parts) (room other : Option ℕ) (goes also : Bool) → p ≡ q → View o w words p room goes → View o u words q other also → (room ≡ other) × (goes ≡ also)
  views_one p q room other goes also is h k = view_one o w u words p room other goes also same tells h (subst (λ (r : Parts). View o u words r other also) (sym is) k)

  headed_one : (p q : Parts) (d e : List ℕ) (f g : Filling) → IsHeaded o w words x p d f → IsHeaded o u words x q e g → headed p d f ≡ headed q e g
  headed_one p q d e f g h k =
      let head = one_head x p q h.behind k.behind h.head k.head in
      let views = views_one p q h.room k.room h.goes k.goes head.0 h.view k.view in
      let there = subst (λ (r : Parts). ReadsBody h.room (body_state r) h.behind e g) (sym head.0)
      (subst (λ (b : List ℕ). ReadsBody h.room (body_state q) b e g) (sym head.1) (subst (λ (l : Option ℕ). ReadsBody l (body_state q) k.behind e g) (sym views.0) k.body)) in
      let body = body_one h.room (body_state p) h.behind d e f g h.body there in
      λ i. headed (head.0 i) (body.0 i) (body.1 i)

  -- a request is not both refused before its body and read
  headed_or_early : (p q : Parts) (d : List ℕ) (f : Filling) → IsHeaded o w words x p d f → IsEarly o u words x q → ⊥
  headed_or_early p q d f h k =
      let head = one_head x p q h.behind k.behind h.head k.head in
      let views = views_one p q h.room k.room h.goes k.goes head.0 h.view k.view in
      false≢true (sym k.silent ∙ sym views.1 ∙ h.may (ap awaits head.0 ∙ k.waits))

  early_or_headed : (p q : Parts) (d : List ℕ) (f : Filling) → IsEarly o w words x p → IsHeaded o u words x q d f → ⊥
  early_or_headed p q d f h k =
      let head = one_head x p q h.behind k.behind h.head k.head in
      let views = views_one p q h.room k.room h.goes k.goes head.0 h.view k.view in
      false≢true (sym h.silent ∙ views.1 ∙ k.may (ap awaits (sym head.0) ∙ h.waits))

  not_long : (v : Data) (p q : Parts) (b : List ℕ) (room : Option ℕ) (goes : Bool) → HasHead x p b → View o v words p room goes → IsLong x q → ⊥
  not_long v p q b room goes head view k =
      let is = (one_head x p q b k.behind head k.head).0 in
      view_short o v words p room goes view (subst (λ (r : Parts). AddsBody (asked_in r)) (sym is) k.adds) (subst (λ (r : Parts). upload_limit < due (body_state r)) (sym is) k.over)

  pub one_reading : (r s : Reading) → IsReading o w words x r → IsReading o u words x s → r ≡ s
  one_reading (bare v) (bare a) h k = ap bare (apart x v a h.0 k.0)
  one_reading (bare v) (headed q e g) h k = absurd (has_none x v q k.behind h.0 h.1 k.head)
  one_reading (bare v) (early q) h k = absurd (has_none x v q k.behind h.0 h.1 k.head)
  one_reading (bare v) (long q) h k = absurd (has_none x v q k.behind h.0 h.1 k.head)
  one_reading (headed p d f) (bare a) h k = absurd (has_none x a p h.behind k.0 k.1 h.head)
  one_reading (headed p d f) (headed q e g) h k = headed_one p q d e f g h k
  one_reading (headed p d f) (early q) h k = absurd (headed_or_early p q d f h k)
  one_reading (headed p d f) (long q) h k = absurd (not_long w p q h.behind h.room h.goes h.head h.view k)
  one_reading (early p) (bare a) h k = absurd (has_none x a p h.behind k.0 k.1 h.head)
  one_reading (early p) (headed q e g) h k = absurd (early_or_headed p q e g h k)
  one_reading (early p) (early q) h k = ap early (one_head x p q h.behind k.behind h.head k.head).0
  one_reading (early p) (long q) h k = absurd (not_long w p q h.behind h.room h.goes h.head h.view k)
  one_reading (long p) (bare a) h k = absurd (has_none x a p h.behind k.0 k.1 h.head)
  one_reading (long p) (headed q e g) h k = absurd (not_long u q p k.behind k.room k.goes k.head k.view h)
  one_reading (long p) (early q) h k = absurd (not_long u q p k.behind k.room k.goes k.head k.view h)
  one_reading (long p) (long q) h k = ap long (one_head x p q h.behind k.behind h.head k.head).0

-- ---- what a request is read as

-- a body that ends in some way does not pass its limit at once
fills_due : (most : ℕ) (state : BodyState) (bytes d : List ℕ) (f : Filling) → (f ≡ is_too_long → ⊥) → Fills most state bytes d f → due state ≤ most
fills_due most state bytes d f ends (passes _ _ _ _ _ over none is) = absurd (ends is)
fills_due most state bytes d f ends (stops_within _ _ _ _ _ outcome few stop is) = few
fills_due most state bytes d f ends (goes_within _ _ _ _ _ next first rest more few step is run) = few

whole_due : (limit : Option ℕ) (most : ℕ) (state : BodyState) (bytes d rest : List ℕ) → limit ≡ Some most → ReadsBody limit state bytes d (within (ends_before rest)) → due state ≤ most
whole_due limit most state bytes d rest is body =
    fills_due most state bytes d (within (ends_before rest)) (λ e. absurd (cc e)) (subst (λ (l : Option ℕ). ReadsBody l state bytes d (within (ends_before rest))) is body)

-- a whole body that fits into the room of a session is read in it
in_room : (limit : Option ℕ) (most : ℕ) (state : BodyState) (bytes d rest : List ℕ) (seen : Seen) → limit ≡ Some most
    → ((held : Held) (staged : Staged) (offset : ℕ) → seen ≡ gave (taken.Out held staged offset) → length d ≤ room_left staged) → ReadsBody limit state bytes d (within (ends_before rest))
    → ReadsBody (room_of limit seen) state bytes d (within (ends_before rest))
in_room limit most state bytes d rest (gave (taken.Out held staged offset)) is fits body =
    let fills = subst (λ (l : Option ℕ). ReadsBody l state bytes d (within (ends_before rest))) is body in
    whole_fits (room_left staged) state bytes d (ends_before rest) rest refl (fills_runs most state bytes d (within (ends_before rest)) (ends_before rest) refl fills) (fits held staged offset refl)
in_room limit most state bytes d rest seen is fits body = body

-- the first hold of a request that was answered takes its session
first_takes : (asked : Asked) (body : List ℕ) (h : Hold) (holds : List Hold) (answer : Answer) → AddsBody asked → Replies asked body (h ∷ holds) answer → TakesFor asked h.act
first_takes (Ok (asks.Patch name id start)) body h [] answer adds replies = replies.took
first_takes (Ok (asks.Patch name id start)) body h (i ∷ []) answer adds replies = replies.gives.took
first_takes (Ok (asks.Patch name id start)) body h (i ∷ j ∷ holds) answer adds replies = absurd replies
first_takes (Ok (asks.Finish name id digest start)) body h [] answer adds replies = replies.took
first_takes (Ok (asks.Finish name id digest start)) body h (i ∷ []) answer adds replies = replies.gives.took
first_takes (Ok (asks.Finish name id digest start)) body h (i ∷ j ∷ []) answer adds replies = replies.gives.took
first_takes (Ok (asks.Finish name id digest start)) body h (i ∷ j ∷ k ∷ holds) answer adds replies = absurd replies
first_takes asked body h holds answer adds replies = absurd adds

-- there is one
some_hold : (asked : Asked) (body : List ℕ) (answer : Answer) → AddsBody asked → Replies asked body [] answer → ⊥
some_hold (Ok (asks.Patch name id start)) body answer adds replies = replies
some_hold (Ok (asks.Finish name id digest start)) body answer adds replies = replies
some_hold asked body answer adds replies = adds

-- and where it gives the session, the body fits into its room
room_after : (ask : Ask) (held : Held) (before after : Staged) (faults : ℕ) (body : List ℕ) (answer : Answer) → (0 < faults → ⊥)
    → FailsToStage before after faults body answer ⊎ AddsAll ask held before after body answer → length body ≤ room_left before
room_after ask held before after faults body answer calm (inl fails) = absurd (calm fails.rose)
room_after ask held before after faults body answer calm (inr adds) = adds.stages.room

same_room : (seen : Seen) (held claim : Held) (before staged : Staged) (offset other n : ℕ) → seen ≡ gave (taken.Out held before offset) → seen ≡ gave (taken.Out claim staged other)
    → n ≤ room_left before → n ≤ room_left staged
same_room seen held claim before staged offset other n is same fits =
    let out : gave (taken.Out held before offset) ≡ gave (taken.Out claim staged other) = sym is ∙ same in
    let bytes : before ≡ staged = cc in
    subst (λ (s : Staged). n ≤ room_left s) bytes fits

module _ (o : Own) (w v : Data) (words after : Words) (body : List ℕ) (answer : Answer) where
  back_fits : (ask : Ask) (h i : Hold) (claim : Held) (staged : Staged) (offset : ℕ) → h.seen ≡ gave (taken.Out claim staged offset) → GivesBack ask body h i answer
      → Goes o w words (h ∷ i ∷ []) v after → length body ≤ room_left staged
  back_fits ask h i claim staged offset given gives g =
      let a = opens o w v words after h (i ∷ []) g in
      let b = opens o h.left v a.mid after i [] a.more in
      let fits = room_after ask gives.held gives.before gives.after gives.faults body answer (no_faults gives.held gives.after gives.faults i gives.back b.step.sound) gives.so in
      same_room h.seen gives.held claim gives.before staged gives.gives.offset offset (length body) gives.gives.given given fits

  down_not : (ask : Ask) (h : Hold) (claim : Held) (staged : Staged) (offset : ℕ) → h.seen ≡ gave (taken.Out claim staged offset) → TurnsDown ask h answer → ⊥
  down_not ask h claim staged offset given down = not_both h.seen h.seen claim staged offset answer refl down.so given

  body_fits : (asked : Asked) (h : Hold) (holds : List Hold) (claim : Held) (staged : Staged) (offset : ℕ) → AddsBody asked → h.seen ≡ gave (taken.Out claim staged offset)
      → Replies asked body (h ∷ holds) answer → Goes o w words (h ∷ holds) v after → length body ≤ room_left staged
  body_fits (Ok (asks.Patch name id start)) h [] claim staged offset adds given replies g = absurd (down_not (asks.Patch name id start) h claim staged offset given replies)
  body_fits (Ok (asks.Patch name id start)) h (i ∷ []) claim staged offset adds given replies g = back_fits (asks.Patch name id start) h i claim staged offset given replies g
  body_fits (Ok (asks.Patch name id start)) h (i ∷ j ∷ holds) claim staged offset adds given replies g = absurd replies
  body_fits (Ok (asks.Finish name id digest start)) h [] claim staged offset adds given replies g = absurd (down_not (asks.Finish name id digest start) h claim staged offset given replies)
  body_fits (Ok (asks.Finish name id digest start)) h (i ∷ []) claim staged offset adds given replies g = back_fits (asks.Finish name id digest start) h i claim staged offset given replies g
  body_fits (Ok (asks.Finish name id digest start)) h (i ∷ j ∷ []) claim staged offset adds given replies g =
      same_room h.seen replies.held claim replies.before staged replies.gives.offset offset (length body) replies.gives.given given replies.stages.room
  body_fits (Ok (asks.Finish name id digest start)) h (i ∷ j ∷ k ∷ holds) claim staged offset adds given replies g = absurd replies
  body_fits asked h holds claim staged offset adds given replies g = absurd adds

-- a request that was served
module _ (o : Own) (w v : Data) (words after : Words) (x rest : List ℕ) (r : Request) (answer : Answer) where
  abbrev asks_for : Asked
  asks_for = asked_in r.parts

  served_adds : (holds : List Hold) → AddsBody asks_for → Replies asks_for r.body holds answer → MaySendBody r.parts holds → Goes o w words holds v after → ReadsRequest x r rest
      → IsHeaded o w words x r.parts r.body (within (ends_before rest))
  served_adds [] adds replies may g read = absurd (some_hold asks_for r.body answer adds replies)
  served_adds (h ∷ holds) adds replies may g (behind, head, body) =
      let a = opens o w v words after h holds g in
      let limit = adds_limit asks_for adds in
      record {
        behind = behind;
        room = room_of (limit_of r.parts) h.seen;
        goes = gives_session h.seen;
        head = head;
        view = looked h a.mid (first_takes asks_for r.body h holds answer adds replies) a.step a.brings (whole_due (limit_of r.parts) upload_limit (body_state r.parts) behind r.body rest limit body) refl refl;
        body = in_room (limit_of r.parts) upload_limit (body_state r.parts) behind r.body rest h.seen limit
            (λ held staged offset given. body_fits o w v words after r.body answer asks_for h holds held staged offset adds given replies g) body;
        may = λ waits. sym (goes_given asks_for h holds adds) ∙ may.told waits;
      }

  pub served_headed : (holds : List Hold) → Replies asks_for r.body holds answer → MaySendBody r.parts holds → Goes o w words holds v after → ReadsRequest x r rest
      → IsHeaded o w words x r.parts r.body (within (ends_before rest))
  served_headed holds replies may g read = by (adds_or_not asks_for)
    where
      by : NeedsNoSession asks_for ⊎ AddsBody asks_for → IsHeaded o w words x r.parts r.body (within (ends_before rest))
      by (inl none) = record {
        behind = read.0;
        room = limit_of r.parts;
        goes = goes_on asks_for [];
        head = read.1;
        view = plainly none refl refl;
        body = read.2;
        may = λ waits. goes_without asks_for holds none ∙ may.told waits;
      }
      by (inr adds) = served_adds holds adds replies may g read

-- ---- requests that are not answered

nothing_held : (asked : Asked) (begin : List ℕ) (holds : List Hold) → NeedsNoSession asked → Leaves asked begin holds → holds ≡ []
nothing_held (Err reply) begin [] none leaves = refl
nothing_held (Err reply) begin (h ∷ holds) none leaves = absurd leaves
nothing_held (Ok ask) begin [] none leaves = refl
nothing_held (Ok ask) begin (h ∷ []) none leaves = absurd (takes_none (Ok ask) h.act none leaves.1.took)
nothing_held (Ok ask) begin (h ∷ i ∷ []) none leaves = absurd (takes_none (Ok ask) h.act none leaves.gives.took)
nothing_held (Ok ask) begin (h ∷ i ∷ j ∷ holds) none leaves = absurd leaves

leaves_takes : (asked : Asked) (begin : List ℕ) (h : Hold) (holds : List Hold) → Leaves asked begin (h ∷ holds) → TakesFor asked h.act
leaves_takes (Err reply) begin h holds leaves = absurd leaves
leaves_takes (Ok ask) begin h [] leaves = leaves.1.took
leaves_takes (Ok ask) begin h (i ∷ []) leaves = leaves.gives.took
leaves_takes (Ok ask) begin h (i ∷ j ∷ holds) leaves = absurd leaves

module _ (o : Own) (w v : Data) (words after : Words) (x : List ℕ) (p : Parts) (begin : List ℕ) (f : Filling) where
  abbrev of : List Hold → Begun
  of holds = record { parts = p; begin = begin; holds = holds }

  begun_adds : (holds : List Hold) → AddsBody (asked_in p) → IsBegun (of holds) → MaySendBody p holds → Goes o w words holds v after → HasBody (of holds) f x → IsHeaded o w words x p begin f
  begun_adds [] adds is may g body = absurd (adds_not_both (asked_in p) may.looks adds)
  begun_adds (h ∷ holds) adds is may g (behind, head, body) =
      let a = opens o w v words after h holds g in
      record {
        behind = behind;
        room = room_of (limit_of p) h.seen;
        goes = gives_session h.seen;
        head = head;
        view = looked h a.mid (leaves_takes (asked_in p) begin h holds is.leaves) a.step a.brings is.may refl refl;
        body = body;
        may = λ waits. sym (goes_given (asked_in p) h holds adds) ∙ may.told waits;
      }

  pub begun_headed : (holds : List Hold) → IsBegun (of holds) → MaySendBody p holds → Goes o w words holds v after → HasBody (of holds) f x → IsHeaded o w words x p begin f
  begun_headed holds is may g body = by (adds_or_not (asked_in p))
    where
      by : NeedsNoSession (asked_in p) ⊎ AddsBody (asked_in p) → IsHeaded o w words x p begin f
      by (inl none) =
          let nothing = nothing_held (asked_in p) begin holds none is.leaves in
          record {
            behind = body.0;
            room = limit_of p;
            goes = goes_on (asked_in p) [];
            head = body.1;
            view = plainly none refl refl;
            body = subst (λ (hs : List Hold). ReadsBody (room_by (limit_of p) hs) (body_state p) body.0 begin f) nothing body.2;
            may = λ waits. goes_without (asked_in p) holds none ∙ may.told waits;
          }
      by (inr adds) = begun_adds holds adds is may g body

-- ---- requests that are refused before their body

module _ (o : Own) (w v : Data) (words after : Words) (x behind : List ℕ) (p : Parts) (answer : Answer) (waits : awaits p ≡ true) (head : HasHead x p behind) where
  denied_adds : (holds : List Hold) → AddsBody (asked_in p) → goes_on (asked_in p) holds ≡ false → MayHold p holds → Replies (asked_in p) [] holds answer → Goes o w words holds v after
      → IsEarly o w words x p
  denied_adds [] adds known may replies g = absurd (some_hold (asked_in p) [] answer adds replies)
  denied_adds (h ∷ holds) adds known may replies g =
      let a = opens o w v words after h holds g in
      record {
        behind = behind;
        room = room_of (limit_of p) h.seen;
        goes = gives_session h.seen;
        head = head;
        view = looked h a.mid (first_takes (asked_in p) [] h holds answer adds replies) a.step a.brings may refl refl;
        waits = waits;
        silent = sym (goes_given (asked_in p) h holds adds) ∙ known;
      }

  pub denied_early : (holds : List Hold) → goes_on (asked_in p) holds ≡ false → MayHold p holds → Replies (asked_in p) [] holds answer → Goes o w words holds v after → IsEarly o w words x p
  denied_early holds known may replies g = by (adds_or_not (asked_in p))
    where
      by : NeedsNoSession (asked_in p) ⊎ AddsBody (asked_in p) → IsEarly o w words x p
      by (inl none) = record {
        behind = behind;
        room = limit_of p;
        goes = goes_on (asked_in p) [];
        head = head;
        view = plainly none refl refl;
        waits = waits;
        silent = goes_without (asked_in p) holds none ∙ known;
      }
      by (inr adds) = denied_adds holds adds known may replies g

-- How a session ends at a place of a stream: what it writes there, and its ending, follow from what stands there and from
-- the answer.
use Rattle.std.proofs.Common.{◌≡◌, ℕ, Bool, true, false, List, [], ◌∷◌, ◌++◌, Option, None, Some, Ok, Err, refl, sym, ap, subst, ◌∙◌, arith, inl, inr, ◌⊎◌}
use Rattle.std.specs.Prelude.{IsTrue, ⊤, ◌&&◌, ◌||◌, if◌then◌else◌}
use Rattle.std.proofs.lemmas.Bool.{false≢true}
use Rattle.depot_api.specs.Ids.{Words}
use Rattle.http_wire.specs.declared.body.BodyState.{BodyState}
use Rattle.http_wire.specs.Bodies.{ends_before, is_cut_short, is_malformed}
use Rattle.http_wire.specs.Filling.{Filling, within, is_too_long}
use Rattle.http_wire.specs.Heads.{Verdict, begins, is_nothing, is_cut, is_too_large}
use Rattle.http_wire.specs.Heads as heads
use Rattle.http_wire.specs.Messages.{ReadsBody}
use Rattle.reg_entries.specs.Numbers as numbers
use Rattle.reg_entries.specs.declared.ask.Ask.TheVariants as asks
use Rattle.reg_entries.specs.declared.reply.Reply.TheVariants as replies
use Rattle.reg_model.specs.Answers.{Answer, plain, refusal}
use Rattle.reg_replies.specs.Replies.{wire}
use Rattle.reg_routes.specs.Routing.{Answer as Asked}
use Rattle.reg_world.specs.Worlds.{Data}
use Rattle.reg_world.specs.Moves.{Act, shelves, Seen, IsFaulty}
use Rattle.reg_session.specs.declared.ended.Ended.{Ended}
use Rattle.reg_session.specs.declared.ended.Ended.TheVariants as ends
use Rattle.reg_session.specs.Chains.{Hold, Own, own}
use Rattle.reg_session.specs.Requests.{Parts, asked_in, awaits, body_state, limit_by, limit_of, head_only, is_last, HasHead}
use Rattle.reg_session.specs.Turns.{continue_line, content, goes_on, interim, MaySendBody, Turn, talk, wants_memory}
use Rattle.reg_session.specs.Works.{Begun, Work, idle, began, turned_away, refused, denied, served, holds_of, text_of, room_by, HasFailedStage, IsOfFailed, IsBadBehind, IsTooLongAtOnce, IsRefusedBody, IsWork, Took, number_of, EndsWith, EndsOn}
use Rattle.reg_session.specs.Sessions.{EndsByInput}
use Rattle.reg_session.proofs.OneHold.{Same}
use Rattle.reg_session.proofs.HoldLaws.{Goes, opens, AreTold}
use Rattle.reg_session.proofs.OneAnswer.{Answered, one_answer}
use Rattle.reg_session.proofs.ReadingLaws.{AddsBody, Reading, bare, headed, early, long, IsReading, one_reading, served_headed, begun_headed, denied_early}

-- ---- the interim reply

-- a request that waits for it is told to go on
abbrev pub said : Parts → List ℕ
said p = if awaits p then continue_line else []

said_by : (waits goes : Bool) (line : List ℕ) → (waits ≡ true → goes ≡ true) → (if waits && goes then line else []) ≡ (if waits then line else [])
said_by true true line may = refl
said_by true false line may = absurd (false≢true (may refl))
said_by false goes line may = refl

pub interim_said : (p : Parts) (holds : List Hold) → MaySendBody p holds → interim p holds ≡ said p
interim_said p holds may = said_by (awaits p) (goes_on (asked_in p) holds) continue_line may.told

silent_by : (waits goes : Bool) (line : List ℕ) → goes ≡ false → (if waits && goes then line else []) ≡ []
silent_by true goes line is = ap (λ (b : Bool). if b then line else []) is
silent_by false goes line is = refl

interim_silent : (p : Parts) (holds : List Hold) → goes_on (asked_in p) holds ≡ false → interim p holds ≡ []
interim_silent p holds silent = silent_by (awaits p) (goes_on (asked_in p) holds) continue_line silent

-- ---- what follows from a reading and an answer

-- what is written of a request that was served
abbrev pub talk_of : Parts → Answer → List ℕ
talk_of p answer = (said p ++ wire answer.reply (head_only p) (is_last p || wants_memory answer.reply)) ++ content p answer

pub talk_is : (t : Turn) → MaySendBody t.request.parts t.holds → talk t ≡ talk_of t.request.parts t.answer
talk_is t may =
    let p = t.request.parts in
    ap (λ (line : List ℕ). (line ++ wire t.answer.reply (head_only p) (is_last p || wants_memory t.answer.reply)) ++ content p t.answer) (interim_said p t.holds may)

-- a refusal behind a body
abbrev refused_text : List ℕ → Parts → ℕ → List ℕ
refused_text line p n = line ++ wire (refusal n) (head_only p) true

abbrev pub text_at : Reading → ℕ → Answer → List ℕ
text_at (bare heads.is_malformed) n answer = wire (refusal n) false true
text_at (bare is_too_large) n answer = wire (refusal n) false true
text_at (bare v) n answer = []
text_at (headed p d (within (ends_before rest))) n answer = talk_of p answer
text_at (headed p d (within is_cut_short)) n answer = said p
text_at (headed p d (within is_malformed)) n answer = refused_text (said p) p n
text_at (headed p d is_too_long) n answer = refused_text (said p) p n
text_at (early p) n answer = wire answer.reply (head_only p) true
text_at (long p) n answer = refused_text [] p n

-- the number of the refusal, where there is one
abbrev pub number_at : Reading → Answer → ℕ
number_at (bare heads.is_malformed) answer = numbers.not_a_request
number_at (bare is_too_large) answer = numbers.head_too_large
number_at (bare v) answer = 0
number_at (headed p d (within is_malformed)) answer = numbers.not_a_request
number_at (headed p d (within outcome)) answer = 0
number_at (headed p d is_too_long) answer = numbers.body_too_large
number_at (early p) answer = number_of answer.reply
number_at (long p) answer = numbers.body_too_large

abbrev pub ending_at : {B : Type 0} → Reading → ℕ → Ended B
ending_at (bare is_nothing) n = ends.Done
ending_at (bare is_cut) n = ends.Cut
ending_at (bare v) n = ends.Refused n
ending_at (headed p d (within (ends_before rest))) n = ends.Done
ending_at (headed p d (within is_cut_short)) n = ends.Cut
ending_at (headed p d (within is_malformed)) n = ends.Refused n
ending_at (headed p d is_too_long) n = ends.Refused n
ending_at (early p) n = ends.Refused n
ending_at (long p) n = ends.Refused n

-- a whole request is the last one
abbrev pub IsLastOf : Reading → Type 0
IsLastOf (headed p d (within (ends_before rest))) = is_last p ≡ true
IsLastOf r = ⊤

abbrev no_answer : Answer
no_answer = plain replies.Base

-- a request was answered in a world, by a holder at a moment with these words to come
pub record HasAnswer (who now : ℕ) (w : Data) (words : Words) (asked : Asked) (body : List ℕ) (answer : Answer) : Type 0 where
  pub holds : List Hold
  pub left : Data
  pub after : Words
  pub answered : Answered who now w words asked body holds answer left after

-- where nothing is answered by what was asked for, there is only one answer to speak of
abbrev pub AnswersReading : ℕ → ℕ → Data → Words → Reading → Answer → Type 0
AnswersReading who now w words (headed p d (within (ends_before rest))) answer = HasAnswer who now w words (asked_in p) d answer
AnswersReading who now w words (early p) answer = HasAnswer who now w words (asked_in p) [] answer
AnswersReading who now w words r answer = answer ≡ no_answer

module _ (who now : ℕ) (w u : Data) (words also : Words) (told : AreTold words) (is : words ≡ also) (same : Same w u) (tells : IsTrue w.held.tells) (one two : Answer) where
  has_one : (asked : Asked) (body : List ℕ) → HasAnswer who now w words asked body one → HasAnswer who now u also asked body two → one ≡ two
  has_one asked body h k =
      (one_answer who now w u h.left k.left words also h.after k.after asked body h.holds k.holds one two told is same tells h.answered k.answered).answer_so

  one_of_reading : (r : Reading) → AnswersReading who now w words r one → AnswersReading who now u also r two → one ≡ two
  one_of_reading (bare v) h k = h ∙ sym k
  one_of_reading (headed p d (within (ends_before rest))) h k = has_one (asked_in p) d h k
  one_of_reading (headed p d (within is_cut_short)) h k = h ∙ sym k
  one_of_reading (headed p d (within is_malformed)) h k = h ∙ sym k
  one_of_reading (headed p d is_too_long) h k = h ∙ sym k
  one_of_reading (early p) h k = has_one (asked_in p) [] h k
  one_of_reading (long p) h k = h ∙ sym k

-- ---- how a session ends

pub record EndsAt {B : Type 0} (who now : ℕ) (w : Data) (words : Words) (x text : List ℕ) (ended : Ended B) : Type 0 where
  pub reading : Reading
  pub number : ℕ
  pub answer : Answer
  pub is : IsReading (own who (Some now)) w words x reading
  pub last : IsLastOf reading
  pub answers : AnswersReading who now w words reading answer
  pub numbered : number ≡ number_at reading answer
  pub text_is : text ≡ text_at reading number answer
  pub ended_is : ended ≡ ending_at reading number

-- it ends in one way
pub one_end : {B : Type 0} (who now : ℕ) (w u : Data) (words also : Words) (x text other : List ℕ) (ended last : Ended B) → AreTold words → words ≡ also → Same w u → IsTrue w.held.tells
    → EndsAt who now w words x text ended → EndsAt who now u also x other last → (text ≡ other) × (ended ≡ last)
one_end who now w u words also x text other ended last told is same tells h k =
    let there = subst (λ (b : Words). IsReading (own who (Some now)) u b x k.reading) (sym is) k.is in
    let reading = one_reading (own who (Some now)) w u words x same tells h.reading k.reading h.is there in
    let answered = subst (λ (r : Reading). AnswersReading who now u also r k.answer) (sym reading) k.answers in
    let answer = one_of_reading who now w u words also told is same tells h.answer k.answer h.reading h.answers answered in
    let number : h.number ≡ k.number = h.numbered ∙ (λ i. number_at (reading i) (answer i)) ∙ sym k.numbered in (
      h.text_is ∙ (λ i. text_at (reading i) (number i) (answer i)) ∙ sym k.text_is,
      h.ended_is ∙ (λ i. ending_at (reading i) (number i)) ∙ sym k.ended_is,
    )

-- ---- bodies that are refused

faulty_of : (act : Act) (seen : Seen) → IsOfFailed act → IsFaulty act seen
faulty_of (shelves held staged faults) seen is = is
faulty_of act seen is = absurd is

-- no stage has failed
failed_none : (o : Own) (w v : Data) (words after : Words) (holds : List Hold) → HasFailedStage holds → Goes o w words holds v after → ⊥
failed_none o w v words after [] failed g = failed
failed_none o w v words after (h ∷ []) failed g = failed
failed_none o w v words after (h ∷ i ∷ holds) failed g =
    let a = opens o w v words after h (i ∷ holds) g in
    let b = opens o h.left v a.mid after i holds a.more in
    b.step.sound.calm (faulty_of i.act i.seen failed)

-- what passes the limit of uploads at once is an upload
adds_of : (asked : Asked) → goes_on asked [] ≡ false → (limit_by asked ≡ None → ⊥) → AddsBody asked
adds_of (Err reply) silent limited = absurd (limited refl)
adds_of (Ok (asks.Patch name id start)) silent limited = tt
adds_of (Ok (asks.Finish name id digest start)) silent limited = tt
adds_of (Ok ask) silent limited = absurd (false≢true (sym silent))

never_too_long : (limit : Option ℕ) (state : BodyState) (bytes d : List ℕ) → limit ≡ None → ReadsBody limit state bytes d is_too_long → ⊥
never_too_long limit state bytes d none body =
    let all = subst (λ (l : Option ℕ). ReadsBody l state bytes d is_too_long) none body in
    absurd (cc all.2)

module _ (o : Own) (w v : Data) (words after : Words) where
  limited : (b : Begun) (n : ℕ) (behind : List ℕ) → n ≡ numbers.body_too_large → b.holds ≡ [] → IsBadBehind b n behind → Goes o w words b.holds v after → limit_of b.parts ≡ None → ⊥
  limited b n behind number none (inl (is, body)) g no_limit =
      never_too_long (room_by (limit_of b.parts) b.holds) (body_state b.parts) behind b.begin (ap (room_by (limit_of b.parts)) none ∙ no_limit) body
  limited b n behind number none (inr (inl (is, failed, front))) g no_limit = failed_none o w v words after b.holds failed g
  limited b n behind number none (inr (inr (is, body))) g no_limit = omega (arith, number, is)

-- ---- the last of a session

module _ {B : Type 0} (who now : ℕ) (w v : Data) (words after : Words) (x y : List ℕ) where
  done_ends : (work : Work) → IsWork work → EndsWith {B = B} ends.Done work → Goes (own who (Some now)) w words (holds_of work) v after → Took work x y → EndsOn {B = B} ends.Done work x
      → EndsAt {B = B} who now w words x (text_of work) ends.Done
  done_ends idle is so g took on =
      record { reading = bare is_nothing; number = 0; answer = no_answer; is = (on, tt); last = tt; answers = refl; numbered = refl; text_is = refl; ended_is = refl }
  done_ends (served t) is so g took on = record {
    reading = headed t.request.parts t.request.body (within (ends_before y));
    number = 0;
    answer = t.answer;
    is = served_headed (own who (Some now)) w v words after x y t.request t.answer t.holds is.replies_so is.told g took;
    last = so.0;
    answers = record { holds = t.holds; left = v; after = after; answered = record { replies_so = is.replies_so; goes = g; enough = so.1 } };
    numbered = refl;
    text_is = talk_is t is.told;
    ended_is = refl;
  }
  done_ends (began b) is so g took on = absurd so
  done_ends (turned_away n) is so g took on = absurd so
  done_ends (refused b n) is so g took on = absurd so
  done_ends (denied p holds reply) is so g took on = absurd so

  -- a body behind which the request is refused by this number
  refused_headed : (n m : ℕ) (b : Begun) (f : Filling) (number : ℕ) → n ≡ m → m ≡ number → number_at (headed b.parts b.begin f) no_answer ≡ number
      → ((k : ℕ) → text_at (headed b.parts b.begin f) k no_answer ≡ refused_text (said b.parts) b.parts k) → IsLastOf (headed b.parts b.begin f)
      → AnswersReading who now w words (headed b.parts b.begin f) no_answer → ((k : ℕ) → ending_at {B = B} (headed b.parts b.begin f) k ≡ ends.Refused k) → MaySendBody b.parts b.holds
      → IsReading (own who (Some now)) w words x (headed b.parts b.begin f) → EndsAt {B = B} who now w words x (text_of (refused b m)) (ends.Refused n)
  refused_headed n m b f number so numbered at text last answers ending may reading = record {
    reading = headed b.parts b.begin f;
    number = m;
    answer = no_answer;
    is = reading;
    last = last;
    answers = answers;
    numbered = numbered ∙ sym at;
    text_is = ap (λ (line : List ℕ). refused_text line b.parts m) (interim_said b.parts b.holds may) ∙ sym (text m);
    ended_is = ap ends.Refused so ∙ sym (ending m);
  }

  refused_told : (n m : ℕ) (b : Begun) (behind : List ℕ) → n ≡ m → IsRefusedBody b m → MaySendBody b.parts b.holds → HasHead x b.parts behind → IsBadBehind b m behind → Goes (own who (Some now)) w words b.holds v after
      → EndsAt {B = B} who now w words x (text_of (refused b m)) (ends.Refused n)
  refused_told n m b behind so is may head (inl (number, body)) g =
      refused_headed n m b is_too_long numbers.body_too_large so number refl (λ k. refl) tt refl (λ k. refl) may
      (begun_headed (own who (Some now)) w v words after x b.parts b.begin is_too_long b.holds is.begun may g (behind, head, body))
  refused_told n m b behind so is may head (inr (inl (number, failed, front))) g = absurd (failed_none (own who (Some now)) w v words after b.holds failed g)
  refused_told n m b behind so is may head (inr (inr (number, body))) g =
      refused_headed n m b (within is_malformed) numbers.not_a_request so number refl (λ k. refl) tt refl (λ k. refl) may
      (begun_headed (own who (Some now)) w v words after x b.parts b.begin (within is_malformed) b.holds is.begun may g (behind, head, body))

  refused_at_once : (n m : ℕ) (b : Begun) (behind : List ℕ) → n ≡ m → IsTooLongAtOnce b m → HasHead x b.parts behind → IsBadBehind b m behind → Goes (own who (Some now)) w words b.holds v after
      → EndsAt {B = B} who now w words x (text_of (refused b m)) (ends.Refused n)
  refused_at_once n m b behind so is head bad g = record {
    reading = long b.parts;
    number = m;
    answer = no_answer;
    is = record {
      behind = behind;
      head = head;
      adds = adds_of (asked_in b.parts) (ap (goes_on (asked_in b.parts)) (sym is.none_held) ∙ is.silent) (limited (own who (Some now)) w v words after b m behind is.number is.none_held bad g);
      over = is.long;
    };
    last = tt;
    answers = refl;
    numbered = is.number;
    text_is = ap (λ (line : List ℕ). refused_text line b.parts m) (interim_silent b.parts b.holds is.silent);
    ended_is = ap ends.Refused so;
  }

  refused_body : (n m : ℕ) (b : Begun) (behind : List ℕ) → n ≡ m → IsRefusedBody b m → HasHead x b.parts behind → IsBadBehind b m behind → Goes (own who (Some now)) w words b.holds v after
      → MaySendBody b.parts b.holds ⊎ IsTooLongAtOnce b m → EndsAt {B = B} who now w words x (text_of (refused b m)) (ends.Refused n)
  refused_body n m b behind so is head bad g (inl may) = refused_told n m b behind so is may head bad g
  refused_body n m b behind so is head bad g (inr at_once) = refused_at_once n m b behind so at_once head bad g

  refused_ends : (n : ℕ) (work : Work) → IsWork work → EndsWith {B = B} (ends.Refused n) work → Goes (own who (Some now)) w words (holds_of work) v after → Took work x y
      → EndsAt {B = B} who now w words x (text_of work) (ends.Refused n)
  refused_ends n (turned_away m) is so g (inl (number, holds)) =
      record { reading = bare heads.is_malformed; number = m; answer = no_answer; is = (holds, tt); last = tt; answers = refl; numbered = number; text_is = refl; ended_is = ap ends.Refused so }
  refused_ends n (turned_away m) is so g (inr (number, holds)) =
      record { reading = bare is_too_large; number = m; answer = no_answer; is = (holds, tt); last = tt; answers = refl; numbered = number; text_is = refl; ended_is = ap ends.Refused so }
  refused_ends n (refused b m) is so g (behind, head, bad) = refused_body n m b behind so is head bad g is.told
  refused_ends n (denied p holds reply) is so g took = record {
    reading = early p;
    number = number_of reply;
    answer = plain reply;
    is = denied_early (own who (Some now)) w v words after x y p (plain reply) is.waits took holds is.known is.may (is.replies_so []) g;
    last = tt;
    answers = record { holds = holds; left = v; after = after; answered = record { replies_so = is.replies_so []; goes = g; enough = is.enough } };
    numbered = refl;
    text_is = refl;
    ended_is = ap ends.Refused so;
  }
  refused_ends n idle is so g took = absurd so
  refused_ends n (began b) is so g took = absurd so
  refused_ends n (served t) is so g took = absurd so

  cut_ends : (work : Work) → IsWork work → EndsWith {B = B} ends.Cut work → Goes (own who (Some now)) w words (holds_of work) v after → EndsOn {B = B} ends.Cut work x
      → EndsAt {B = B} who now w words x (text_of work) ends.Cut
  cut_ends idle is so g on =
      record { reading = bare is_cut; number = 0; answer = no_answer; is = (on, tt); last = tt; answers = refl; numbered = refl; text_is = refl; ended_is = refl }
  cut_ends (began b) is so g on = record {
    reading = headed b.parts b.begin (within is_cut_short);
    number = 0;
    answer = no_answer;
    is = begun_headed (own who (Some now)) w v words after x b.parts b.begin (within is_cut_short) b.holds is so g on;
    last = tt;
    answers = refl;
    numbered = refl;
    text_is = interim_said b.parts b.holds so;
    ended_is = refl;
  }
  cut_ends (turned_away n) is so g on = absurd so
  cut_ends (refused b n) is so g on = absurd so
  cut_ends (denied p holds reply) is so g on = absurd so
  cut_ends (served t) is so g on = absurd so

  pub ends_at : (work : Work) (ended : Ended B) → EndsByInput ended → IsWork work → EndsWith ended work → Goes (own who (Some now)) w words (holds_of work) v after → Took work x y → EndsOn ended work x
      → EndsAt who now w words x (text_of work) ended
  ends_at work ends.Done input is so g took on = done_ends work is so g took on
  ends_at work (ends.Refused n) input is so g took on = refused_ends n work is so g took
  ends_at work ends.Cut input is so g took on = cut_ends work is so g on
  ends_at work ends.SourceFault input is so g took on = absurd input
  ends_at work ends.SinkFault input is so g took on = absurd input
  ends_at work (ends.BlobFault blob) input is so g took on = absurd input
  ends_at work ends.Long input is so g took on = absurd input
  ends_at work ends.NoMemory input is so g took on = absurd input

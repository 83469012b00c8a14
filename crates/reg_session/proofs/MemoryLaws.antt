-- Each hold of a request had memory, where its answer does not say that memory was wanting.
use Rattle.std.proofs.Common.{◌≡◌, ◌≢◌, ℕ, Bool, true, false, List, [], ◌∷◌, ◌++◌, Ok, Err, refl, sym, ap, subst, ◌∙◌}
use Rattle.std.specs.Prelude.{◌||◌, flat_map}
use Rattle.std.specs.List.{AllByRecursion}
use Rattle.std.proofs.lemmas.Bool.{false≢true}
use Rattle.depot_api.specs.Stages.{Staged}
use Rattle.files_service.specs.Finishing.{Ending}
use Rattle.files_service.specs.Finishing as endings
use Rattle.reg_claims.specs.declared.claim.Held.{Held}
use Rattle.reg_entries.specs.Numbers as numbers
use Rattle.reg_entries.specs.declared.ask.Ask.{Ask}
use Rattle.reg_entries.specs.declared.ask.Ask.TheVariants as asks
use Rattle.reg_entries.specs.declared.reply.Reply.{Reply}
use Rattle.reg_entries.specs.declared.trouble.Trouble.TheVariants as troubles
use Rattle.reg_model.specs.Answers.{Answer, plain, refusal}
use Rattle.reg_routes.specs.Routing.{Answer as Asked}
use Rattle.upload_sessions.specs.declared.taking.Taken.TheVariants as taken
use Rattle.reg_world.specs.Moves.{Seen, failed, gave, came_to, ended}
use Rattle.reg_session.specs.Answering.{AnswersAs}
use Rattle.reg_session.specs.Chains.{Hold}
use Rattle.reg_session.specs.Requests.{asked_in, is_last}
use Rattle.reg_session.specs.Sessions.{IsServed, EndsByInput}
use Rattle.reg_session.specs.Turns.{RepliesTo, Replies, Turn, wants_memory}
use Rattle.reg_session.specs.Uploads.{Gives, ClosesWith, SpendsBy, GivesBack, FinishesWith}
use Rattle.reg_session.specs.Works.{Work, idle, began, turned_away, refused, denied, served, holds_of, Leaves, IsWork, EndsWith}
use Rattle.reg_session.specs.declared.ended.Ended.{Ended}
use Rattle.reg_session.specs.declared.ended.Ended.TheVariants as ends
use Rattle.reg_session.proofs.OneHold.{HasMemory}

-- ---- one hold

abbrev pub HaveMemory : List Hold → Type 0
HaveMemory holds = AllByRecursion (λ (h : Hold). HasMemory h.seen) holds

seen_as : (seen other : Seen) → seen ≡ other → HasMemory other → HasMemory seen
seen_as seen other is memory = subst HasMemory (sym is) memory

-- ---- answers

pub no_want : (answer : Answer) → wants_memory answer.reply ≡ false → answer ≡ plain (refusal numbers.no_memory) → ⊥
no_want answer enough is = false≢true (sym enough ∙ ap (λ (a : Answer). wants_memory a.reply) is)

answers_memory : (seen : Seen) (answer : Answer) → AnswersAs seen answer → wants_memory answer.reply ≡ false → HasMemory seen
answers_memory (failed troubles.NoMemory) answer is enough = no_want answer enough is
answers_memory (came_to ending) answer is enough = absurd is
answers_memory seen answer is enough = tt

closes_memory : (reply : Reply) (seen : Seen) (answer : Answer) → ClosesWith reply seen answer → wants_memory answer.reply ≡ false → HasMemory seen
closes_memory reply (failed troubles.NoMemory) answer is enough = no_want answer enough is
closes_memory reply (came_to ending) answer is enough = absurd is
closes_memory reply seen answer is enough = tt

module _ (held : Held) (after : Staged) (j : Hold) (answer : Answer) (enough : wants_memory answer.reply ≡ false) where
  ending_memory : (ending : Ending) → SpendsBy held after ending j answer → HasMemory (came_to ending)
  ending_memory (endings.failed true troubles.NoMemory) spends = no_want answer enough spends.2
  ending_memory (endings.failed false troubles.NoMemory) spends = no_want answer enough spends.2
  ending_memory ending spends = tt

  spends_memory : (ending : Ending) → SpendsBy held after ending j answer → HasMemory j.seen
  spends_memory (endings.done reply) spends = closes_memory reply j.seen answer spends.1 enough
  spends_memory (endings.refused reply) spends = seen_as j.seen ended spends.1.seen tt
  spends_memory (endings.failed true trouble) spends = seen_as j.seen ended spends.1.seen tt
  spends_memory (endings.failed false trouble) spends = seen_as j.seen ended spends.1 tt

given_memory : (ask : Ask) (h : Hold) (held : Held) (before : Staged) → Gives ask h held before → HasMemory h.seen
given_memory ask h held before gives = seen_as h.seen (gave (taken.Out held before gives.offset)) gives.given tt

module _ (ask : Ask) (body : List ℕ) (answer : Answer) (enough : wants_memory answer.reply ≡ false) where
  back_memory : (h i : Hold) → GivesBack ask body h i answer → HaveMemory (h ∷ i ∷ [])
  back_memory h i gives = (given_memory ask h gives.held gives.before gives.gives, (seen_as i.seen ended gives.back.seen tt, tt))

  finish_memory : (digest : List ℕ) (h i j : Hold) → FinishesWith ask digest body h i j answer → HaveMemory (h ∷ i ∷ j ∷ [])
  finish_memory digest h i j finish = (
    given_memory ask h finish.held finish.before finish.gives,
    (
      seen_as i.seen (came_to finish.ending) finish.seen (ending_memory finish.held finish.after j answer enough finish.ending finish.ends),
      (spends_memory finish.held finish.after j answer enough finish.ending finish.ends, tt),
    ),
  )

asked_memory : (ask : Ask) (body : List ℕ) (holds : List Hold) (answer : Answer) → wants_memory answer.reply ≡ false → RepliesTo ask body holds answer → HaveMemory holds
asked_memory (asks.Patch name id start) body [] answer enough h = tt
asked_memory (asks.Patch name id start) body (i ∷ []) answer enough h = (answers_memory i.seen answer h.so enough, tt)
asked_memory (asks.Patch name id start) body (i ∷ j ∷ []) answer enough h = back_memory (asks.Patch name id start) body answer enough i j h
asked_memory (asks.Patch name id start) body (i ∷ j ∷ k ∷ holds) answer enough h = absurd h
asked_memory (asks.Finish name id digest start) body [] answer enough h = tt
asked_memory (asks.Finish name id digest start) body (i ∷ []) answer enough h = (answers_memory i.seen answer h.so enough, tt)
asked_memory (asks.Finish name id digest start) body (i ∷ j ∷ []) answer enough h = back_memory (asks.Finish name id digest start) body answer enough i j h
asked_memory (asks.Finish name id digest start) body (i ∷ j ∷ k ∷ []) answer enough h = finish_memory (asks.Finish name id digest start) body answer enough digest i j k h
asked_memory (asks.Finish name id digest start) body (i ∷ j ∷ k ∷ l ∷ holds) answer enough h = absurd h
asked_memory ask body [] answer enough h = tt
asked_memory ask body (i ∷ []) answer enough h = (answers_memory i.seen answer h.1 enough, tt)
asked_memory ask body (i ∷ j ∷ holds) answer enough h = absurd h

had_memory : (asked : Asked) (body : List ℕ) (holds : List Hold) (answer : Answer) → wants_memory answer.reply ≡ false → Replies asked body holds answer → HaveMemory holds
had_memory (Ok ask) body holds answer enough h = asked_memory ask body holds answer enough h
had_memory (Err reply) body [] answer enough h = tt
had_memory (Err reply) body (i ∷ holds) answer enough h = absurd h

-- ---- requests that are not answered

turned_memory : (seen : Seen) (answer : Answer) → AnswersAs seen answer → seen ≢ failed troubles.NoMemory → HasMemory seen
turned_memory (failed troubles.NoMemory) answer so memory = memory refl
turned_memory (came_to ending) answer so memory = absurd so
turned_memory seen answer so memory = tt

left_memory : (asked : Asked) (begin : List ℕ) (holds : List Hold) → Leaves asked begin holds → AllByRecursion (λ (h : Hold). h.seen ≢ failed troubles.NoMemory) holds → HaveMemory holds
left_memory (Err reply) begin [] leaves memory = tt
left_memory (Err reply) begin (h ∷ holds) leaves memory = absurd leaves
left_memory (Ok ask) begin [] leaves memory = tt
left_memory (Ok ask) begin (h ∷ []) leaves memory = (turned_memory h.seen leaves.0 leaves.1.so memory.0, tt)
left_memory (Ok ask) begin (h ∷ i ∷ []) leaves memory = (given_memory ask h leaves.held leaves.before leaves.gives, (seen_as i.seen ended leaves.back.seen tt, tt))
left_memory (Ok ask) begin (h ∷ i ∷ j ∷ holds) leaves memory = absurd leaves

-- ---- sessions

pub neither : (a b : Bool) → (a || b) ≡ false → (a ≡ false) × (b ≡ false)
neither true b is = absurd (false≢true (sym is))
neither false b is = (refl, is)

all_then : {A : Type 0} (P : A → Type 0) (first second : List A) → AllByRecursion P first → AllByRecursion P second → AllByRecursion P (first ++ second)
all_then P [] second all more = more
all_then P (x ∷ first) second all more = (all.0, all_then P first second all.1 more)

turns_memory : (turns : List Turn) → AllByRecursion IsServed turns → HaveMemory (flat_map (λ (t : Turn). t.holds) turns)
turns_memory [] served_so = tt
turns_memory (t ∷ turns) served_so =
    all_then (λ (h : Hold). HasMemory h.seen) t.holds (flat_map (λ (s : Turn). s.holds) turns)
    (had_memory (asked_in t.request.parts) t.request.body t.holds t.answer (neither (is_last t.request.parts) (wants_memory t.answer.reply) served_so.0.1).1 served_so.0.0.replies_so)
    (turns_memory turns served_so.1)

served_memory : {B : Type 0} (ended_so : Ended B) (t : Turn) → EndsByInput ended_so → IsWork (served t) → EndsWith ended_so (served t) → HaveMemory t.holds
served_memory ends.Done t input is so = had_memory (asked_in t.request.parts) t.request.body t.holds t.answer so.1 is.replies_so
served_memory (ends.Refused n) t input is so = absurd so
served_memory ends.Cut t input is so = absurd so
served_memory ends.SourceFault t input is so = absurd input
served_memory ends.SinkFault t input is so = absurd input
served_memory (ends.BlobFault blob) t input is so = absurd input
served_memory ends.Long t input is so = absurd input
served_memory ends.NoMemory t input is so = absurd input

work_memory : {B : Type 0} (ended_so : Ended B) (work : Work) → EndsByInput ended_so → IsWork work → EndsWith ended_so work
    → AllByRecursion (λ (h : Hold). h.seen ≢ failed troubles.NoMemory) (holds_of work) → HaveMemory (holds_of work)
work_memory ended_so idle input is so memory = tt
work_memory ended_so (began b) input is so memory = left_memory (asked_in b.parts) b.begin b.holds is.leaves memory
work_memory ended_so (turned_away n) input is so memory = tt
work_memory ended_so (refused b n) input is so memory = left_memory (asked_in b.parts) b.begin b.holds is.begun.leaves memory
work_memory ended_so (denied p holds reply) input is so memory = had_memory (asked_in p) [] holds (plain reply) is.enough (is.replies_so [])
work_memory ended_so (served t) input is so memory = served_memory ended_so t input is so

-- all holds of a session that its input ends
pub all_memory : {B : Type 0} (ended_so : Ended B) (turns : List Turn) (work : Work) → AllByRecursion IsServed turns → EndsByInput ended_so → IsWork work → EndsWith ended_so work
    → AllByRecursion (λ (h : Hold). h.seen ≢ failed troubles.NoMemory) (holds_of work) → HaveMemory (flat_map (λ (t : Turn). t.holds) turns ++ holds_of work)
all_memory ended_so turns work each input is so memory =
    all_then (λ (h : Hold). HasMemory h.seen) (flat_map (λ (t : Turn). t.holds) turns) (holds_of work) (turns_memory turns each) (work_memory ended_so work input is so memory)

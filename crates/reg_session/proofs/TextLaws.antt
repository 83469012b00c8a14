-- An input has one text.
use Rattle.std.proofs.Common.{◌≡◌, ℕ, true, List, [], ◌∷◌, ◌++◌, map, Option, None, Some, refl, sym, ap, subst, ◌∙◌, append_assoc}
use Rattle.std.specs.Prelude.{IsTrue, flat_map}
use Rattle.std.specs.List.{AllByRecursion}
use Rattle.std.proofs.lemmas.Bool.{false≢true}
use Rattle.std.specs.Io.KnownBytes.{Appends}
use Rattle.std.proofs.KnownBytes.{Appends-trans}
use Rattle.reg_names.specs.Cause.{Rose}
use Rattle.depot_api.specs.Holdings.{Holding}
use Rattle.depot_api.specs.Ids.{Words}
use Rattle.http_wire.specs.Bodies.{ends_before}
use Rattle.http_wire.specs.Filling.{within}
use Rattle.http_wire.specs.Flow.{OnStream}
use Rattle.http_wire.proofs.MessageLaws.{rest_behind}
use Rattle.reg_world.specs.Worlds.{Data}
use Rattle.reg_session.specs.declared.ended.Ended.{Ended}
use Rattle.reg_session.specs.declared.ended.Ended.TheVariants as ends
use Rattle.reg_session.specs.Chains.{Hold, Chain, own, BringsAll}
use Rattle.reg_session.specs.Requests.{Parts, asked_in, is_last, ReadsRequest, Reads}
use Rattle.reg_session.specs.Turns.{Turn, wants_memory, talk}
use Rattle.reg_session.specs.Works.{Work, holds_of, text_of, IsWork, Took, EndsWith, EndsOn, Wrote}
use Rattle.reg_session.specs.Sessions.{At, here, IsServed, EndsByInput, FollowsInput}
use Rattle.reg_session.proofs.MemoryLaws.{all_memory, neither}
use Rattle.reg_session.proofs.OneHold.{Same, HasMemory}
use Rattle.reg_session.proofs.OneUpload.{turned}
use Rattle.reg_session.proofs.OneAnswer.{Answered, one_answer}
use Rattle.reg_session.proofs.HoldLaws.{Alone, all_split, chain_later, calm_front, calm_back, Goes, goes_split, AreTold, told_behind, tells_behind}
use Rattle.reg_session.proofs.ReadingLaws.{Reading, headed, IsReading, IsHeaded, one_reading, served_headed}
use Rattle.reg_session.proofs.EndingLaws.{talk_of, talk_is, IsLastOf, EndsAt, one_end, ends_at}

-- ---- one request that was served

pub record ServedAt (who now : ℕ) (w : Data) (words : Words) (x : List ℕ) (t : Turn) (v : Data) (after : Words) (y : List ℕ) : Type 0 where
  pub is : IsServed t
  pub request : ReadsRequest x t.request y
  pub goes : Goes (own who (Some now)) w words t.holds v after

served_reading : (who now : ℕ) (w v : Data) (words after : Words) (x y : List ℕ) (t : Turn) → ServedAt who now w words x t v after y
    → IsHeaded (own who (Some now)) w words x t.request.parts t.request.body (within (ends_before y))
served_reading who now w v words after x y t h =
    served_headed (own who (Some now)) w v words after x y t.request t.answer t.holds h.is.0.replies_so h.is.0.told h.goes h.request

answered : (who now : ℕ) (w v : Data) (words after : Words) (x y : List ℕ) (t : Turn) → ServedAt who now w words x t v after y
    → Answered who now w words (asked_in t.request.parts) t.request.body t.holds t.answer v after
answered who now w v words after x y t h =
    record { replies_so = h.is.0.replies_so; goes = h.goes; enough = (neither (is_last t.request.parts) (wants_memory t.answer.reply) h.is.1).1 }

-- the parts of what was read
abbrev parts_at : Parts → Reading → Parts
parts_at p (headed q d f) = q
parts_at p r = p

abbrev body_at : Reading → List ℕ
body_at (headed p d f) = d
body_at r = []

abbrev rest_at : Reading → List ℕ
rest_at (headed p d f) = rest_behind f
rest_at r = []

-- the same request in the same world is answered alike, and leaves the same
record ServedOne (t s : Turn) (v z : Data) (after later : Words) (y r : List ℕ) : Type 0 where
  text_so : talk t ≡ talk s
  rest_so : y ≡ r
  left : Same v z
  words_so : after ≡ later

one_served : (who now : ℕ) (w u v z : Data) (words also after later : Words) (x y r : List ℕ) (t s : Turn) → AreTold words → words ≡ also → Same w u → IsTrue w.held.tells
    → ServedAt who now w words x t v after y → ServedAt who now u also x s z later r → ServedOne t s v z after later y r
one_served who now w u v z words also after later x y r t s told is same tells h k =
    let first = served_reading who now w v words after x y t h in
    let second = subst (λ (b : Words). IsHeaded (own who (Some now)) u b x s.request.parts s.request.body (within (ends_before r))) (sym is) (served_reading who now u z also later x r s k) in
    let reading = one_reading (own who (Some now)) w u words x same tells (headed t.request.parts t.request.body (within (ends_before y))) (headed s.request.parts s.request.body (within (ends_before r))) first second in
    let parts : t.request.parts ≡ s.request.parts = ap (parts_at t.request.parts) reading in
    let body : t.request.body ≡ s.request.body = ap body_at reading in
    let there = subst (λ (d : List ℕ). Answered who now u also (asked_in t.request.parts) d s.holds s.answer z later) (sym body)
    (subst (λ (p : Parts). Answered who now u also (asked_in p) s.request.body s.holds s.answer z later) (sym parts) (answered who now u z also later x r s k)) in
    let one = one_answer who now w u v z words also after later (asked_in t.request.parts) t.request.body t.holds s.holds t.answer s.answer told is same tells (answered who now w v words after x y t h) there in
    record {
      text_so = talk_is t h.is.0.told ∙ (λ i. talk_of (parts i) (one.answer_so i)) ∙ sym (talk_is s k.is.0.told);
      rest_so = ap rest_at reading;
      left = one.left;
      words_so = one.words_so;
    }

-- a session does not end where another one serves a request
not_last : {B : Type 0} (who now : ℕ) (w v u : Data) (words after also : Words) (x y text : List ℕ) (t : Turn) (ended : Ended B) → words ≡ also → Same w u → IsTrue w.held.tells
    → ServedAt who now w words x t v after y → EndsAt who now u also x text ended → ⊥
not_last who now w v u words after also x y text t ended is same tells h k =
    let there = subst (λ (b : Words). IsReading (own who (Some now)) u b x k.reading) (sym is) k.is in
    let reading = one_reading (own who (Some now)) w u words x same tells (headed t.request.parts t.request.body (within (ends_before y))) k.reading (served_reading who now w v words after x y t h) there in
    let last : is_last t.request.parts ≡ true = subst IsLastOf (sym reading) k.last in
    false≢true (sym (neither (is_last t.request.parts) (wants_memory t.answer.reply) h.is.1).0 ∙ last)

-- ---- a session from some place on

pub record Runs {B : Type 0} (who now : ℕ) (w : Data) (words : Words) (x : List ℕ) (turns : List Turn) (work : Work) (ended : Ended B) : Type 0 where
  pub mid : Data
  pub between : Words
  pub place : List ℕ
  pub left : Data
  pub after : Words
  pub rest : List ℕ
  pub each : AllByRecursion IsServed turns
  pub goes : Goes (own who (Some now)) w words (flat_map (λ (t : Turn). t.holds) turns) mid between
  pub read : Reads (map (λ (t : Turn). t.request) turns) x place
  pub done : IsWork work
  pub ends : EndsWith ended work
  pub last : Goes (own who (Some now)) mid between (holds_of work) left after
  pub took : Took work place rest
  pub on : EndsOn ended work place
  pub by_input : EndsByInput ended

abbrev run_text : List Turn → Work → List ℕ
run_text turns work = flat_map talk turns ++ text_of work

run_ends : {B : Type 0} (who now : ℕ) (w : Data) (words : Words) (x : List ℕ) (work : Work) (ended : Ended B) → Runs who now w words x [] work ended
    → EndsAt who now w words x (text_of work) ended
run_ends who now w words x work ended h =
    let world : h.mid ≡ w = h.goes.chain h.mid refl in
    let last = subst (λ (b : Words). Goes (own who (Some now)) w b (holds_of work) h.left h.after) h.goes.brings
    (subst (λ (d : Data). Goes (own who (Some now)) d h.between (holds_of work) h.left h.after) world h.last) in
    ends_at who now w h.left words h.after x h.rest work ended h.by_input h.done h.ends last (subst (λ (b : List ℕ). Took work b h.rest) h.read h.took)
    (subst (λ (b : List ℕ). EndsOn ended work b) h.read h.on)

-- its first request, and the rest of it
record RunsBy {B : Type 0} (who now : ℕ) (w : Data) (words : Words) (x : List ℕ) (t : Turn) (turns : List Turn) (work : Work) (ended : Ended B) : Type 0 where
  world : Data
  drawn : Words
  behind : List ℕ
  first : ServedAt who now w words x t world drawn behind
  more : Runs who now world drawn behind turns work ended

run_first : {B : Type 0} (who now : ℕ) (w : Data) (words : Words) (x : List ℕ) (t : Turn) (turns : List Turn) (work : Work) (ended : Ended B) → Runs who now w words x (t ∷ turns) work ended
    → RunsBy who now w words x t turns work ended
run_first who now w words x t turns work ended h =
    let split = goes_split (own who (Some now)) w h.mid words h.between t.holds (flat_map (λ (s : Turn). s.holds) turns) h.goes in
    record {
      world = split.mid;
      drawn = split.between;
      behind = h.read.0;
      first = record { is = h.each.0; request = h.read.1; goes = split.one };
      more = record {
        mid = h.mid;
        between = h.between;
        place = h.place;
        left = h.left;
        after = h.after;
        rest = h.rest;
        each = h.each.1;
        goes = split.two;
        read = h.read.2;
        done = h.done;
        ends = h.ends;
        last = h.last;
        took = h.took;
        on = h.on;
        by_input = h.by_input;
      };
    }

-- what is told before a request is told behind it
served_tells : (who now : ℕ) (w v : Data) (words after : Words) (x y : List ℕ) (t : Turn) → IsTrue w.held.tells → ServedAt who now w words x t v after y → IsTrue v.held.tells
served_tells who now w v words after x y t tells h = tells_behind w v t.holds tells h.goes.chain

served_told : (who now : ℕ) (w v : Data) (words after : Words) (x y : List ℕ) (t : Turn) → AreTold words → ServedAt who now w words x t v after y → AreTold after
served_told who now w v words after x y t told h = told_behind (own who (Some now)) words after t.holds told h.goes.brings

also_tells : (w u : Data) → Same w u → IsTrue w.held.tells → IsTrue u.held.tells
also_tells w u same tells = sym (ap (λ (d : Holding). d.tells) same.held) ∙ tells

one_run : {B : Type 0} (who now : ℕ) (turns others : List Turn) (k m : Work) (e f : Ended B) (w u : Data) (words also : Words) (x : List ℕ) → AreTold words → words ≡ also → Same w u → IsTrue w.held.tells
    → Runs who now w words x turns k e → Runs who now u also x others m f → (run_text turns k ≡ run_text others m) × (e ≡ f)
one_run who now [] [] k m e f w u words also x told is same tells h j =
    one_end who now w u words also x (text_of k) (text_of m) e f told is same tells (run_ends who now w words x k e h) (run_ends who now u also x m f j)
one_run who now (t ∷ turns) [] k m e f w u words also x told is same tells h j =
    let one = run_first who now w words x t turns k e h in
    absurd (not_last who now w one.world u words one.drawn also x one.behind (text_of m) t f is same tells one.first (run_ends who now u also x m f j))
one_run who now [] (s ∷ others) k m e f w u words also x told is same tells h j =
    let two = run_first who now u also x s others m f j in
    absurd (not_last who now u two.world w also two.drawn words x two.behind (text_of k) s e (sym is) (turned w u same) (also_tells w u same tells) two.first (run_ends who now w words x k e h))
one_run who now (t ∷ turns) (s ∷ others) k m e f w u words also x told is same tells h j =
    let one = run_first who now w words x t turns k e h in
    let two = run_first who now u also x s others m f j in
    let first = one_served who now w u one.world two.world words also one.drawn two.drawn x one.behind two.behind t s told is same tells one.first two.first in
    let rest = one_run who now turns others k m e f one.world two.world one.drawn two.drawn one.behind (served_told who now w one.world words one.drawn x one.behind t told one.first) first.words_so first.left
    (served_tells who now w one.world words one.drawn x one.behind t tells one.first) one.more (subst (λ (b : List ℕ). Runs who now two.world two.drawn b others m f) (sym first.rest_so) two.more) in
    (append_assoc (talk t) (flat_map talk turns) (text_of k) ∙ (λ i. first.text_so i ++ rest.0 i) ∙ sym (append_assoc (talk s) (flat_map talk others) (text_of m)), rest.1)

-- ---- whole sessions

known : (x : List ℕ) (b : Option (List ℕ)) (P : List ℕ → List ℕ → Type 0) → OnStream (Some x) b P → (y : List ℕ) × (b ≡ Some y) × P x y
known x None P h = absurd h
known x (Some y) P h = (y, refl, h)

wrote_all : {B : Type 0} (failed : Type 0) (ended : Ended B) (old new : Option (List ℕ)) (work : Work) → EndsByInput ended → Wrote failed ended old new work → Appends old new (text_of work)
wrote_all failed ends.Done old new work input h = h
wrote_all failed (ends.Refused n) old new work input h = h
wrote_all failed ends.Cut old new work input h = h
wrote_all failed ends.SourceFault old new work input h = absurd input
wrote_all failed ends.SinkFault old new work input h = absurd input
wrote_all failed (ends.BlobFault blob) old new work input h = absurd input
wrote_all failed ends.Long old new work input h = absurd input
wrote_all failed ends.NoMemory old new work input h = absurd input

appended : (start text : List ℕ) (new : Option (List ℕ)) → Appends (Some start) new text → new ≡ Some (start ++ text)
appended start text None h = absurd h
appended start text (Some x) h = ap (λ (b : List ℕ). Some b) h

-- the holds of the requests that were served, and of the one in work
whole_goes : (who now : ℕ) (w u v : Data) (words mid after : Words) (first second : List Hold) → Chain Alone w first u → Chain Alone u second v → BringsAll (own who (Some now)) words first mid
    → BringsAll (own who (Some now)) mid second after → (Rose w.faults v.faults → ⊥) → AllByRecursion (λ (h : Hold). HasMemory h.seen) (first ++ second)
    → Goes (own who (Some now)) w words first u mid × Goes (own who (Some now)) u mid second v after
whole_goes who now w u v words mid after first second chain last brings brought calm memory =
    let both = all_split (λ (h : Hold). HasMemory h.seen) first second memory in (
      record { chain = chain; brings = brings; calm = calm_front w.faults u.faults v.faults (chain_later u v second last) calm; memory = both.0 },
      record { chain = last; brings = brought; calm = calm_back w.faults u.faults v.faults (chain_later w u first chain) calm; memory = both.1 },
    )

record RunsFrom {B : Type 0} (who now : ℕ) (w : Data) (words : Words) (x start : List ℕ) (written : Option (List ℕ)) (ended : Ended B) : Type 0 where
  turns : List Turn
  work : Work
  runs : Runs who now w words x turns work ended
  wrote : written ≡ Some (start ++ run_text turns work)

session_runs : {B : Type 0} (who now : ℕ) (w : Data) (words : Words) (input start : List ℕ) (left : Option (List ℕ)) (new : At) (ended : Ended B)
    → FollowsInput (own who (Some now)) (here w words (Some input) left (Some start)) new ended → RunsFrom who now w words input start new.written ended
session_runs who now w words input start left new ended h =
    let s = h.session in
    let read = known input s.mid.bytes (Reads (map (λ (t : Turn). t.request) s.turns)) s.serves.read in
    let moved = subst (λ (b : Option (List ℕ)). OnStream b s.rest (λ bytes rest. Took s.work bytes rest × EndsOn ended s.work bytes)) read.1 s.ends.read in
    let last = known read.0 s.rest (λ bytes rest. Took s.work bytes rest × EndsOn ended s.work bytes) moved in
    let wrote = wrote_all (Rose h.sink_before h.sink_now) ended s.mid.written new.written s.work h.by_input s.ends.wrote in
    let all = whole_goes who now w s.mid.world new.world words s.mid.words new.words (flat_map (λ (t : Turn). t.holds) s.turns) (holds_of s.work) s.serves.holds s.ends.holds s.serves.brings s.ends.brings h.sound
    (all_memory ended s.turns s.work s.serves.each h.by_input s.ends.done s.ends.ends h.memory) in
    record {
      turns = s.turns;
      work = s.work;
      runs = record {
        mid = s.mid.world;
        between = s.mid.words;
        place = read.0;
        left = new.world;
        after = new.words;
        rest = last.0;
        each = s.serves.each;
        goes = all.0;
        read = read.2;
        done = s.ends.done;
        ends = s.ends.ends;
        last = all.1;
        took = last.2.0;
        on = last.2.1;
        by_input = h.by_input;
      };
      wrote = appended start (run_text s.turns s.work) new.written (Appends-trans (Some start) s.mid.written new.written (flat_map talk s.turns) (text_of s.work) s.serves.wrote wrote);
    }

pub one_text : {B : Type 0} (who now : ℕ) (world : Data) (words : ℕ → List ℕ) (input start : List ℕ) (left : Option (List ℕ)) (one two : At) (ended other : Ended B)
    → FollowsInput (own who (Some now)) (here world (Some words) (Some input) left (Some start)) one ended
    → FollowsInput (own who (Some now)) (here world (Some words) (Some input) left (Some start)) two other → (one.written ≡ two.written) × (ended ≡ other)
one_text who now world words input start left one two ended other h k =
    let first = session_runs who now world (Some words) input start left one ended h in
    let second = session_runs who now world (Some words) input start left two other k in
    let same = one_run who now first.turns second.turns first.work second.work ended other world world (Some words) (Some words) input (words, refl) refl (record { held = refl; claims = refl }) h.tells
    first.runs second.runs in
    (first.wrote ∙ ap (λ (t : List ℕ). Some (start ++ t)) same.0 ∙ sym second.wrote, same.1)

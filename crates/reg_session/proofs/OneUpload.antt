-- Requests that add their body to an upload, in one world: the session is given or not, and they are answered alike.
use Rattle.std.proofs.Common.{◌≡◌, ℕ, zero, suc, ◌+◌, ◌<◌, Bool, true, false, List, [], ◌∷◌, ◌++◌, length, Option, Some, None, refl, sym, ap, subst, ◌∙◌, arith, inl, inr, ◌⊎◌}
use Rattle.std.specs.Prelude.{IsTrue, ◌==◌, nat_eq, if◌then◌else◌}
use Rattle.std.specs.Option.{option_map_or}
use Rattle.std.specs.Cmp.Lexicographic.{pointwise, same_text}
use Rattle.std.proofs.lemmas.Bool.{false≢true}
use Rattle.reg_digest.specs.Hashing.{digest_by_sha256, algorithm_of, hashes_to}
use Rattle.reg_names.specs.Digests.{digest_text}
use Rattle.depot_api.specs.Holdings.{Holding}
use Rattle.depot_api.specs.Ids.{Words}
use Rattle.depot_api.specs.Stages.{Staged}
use Rattle.reg_claims.specs.Claims.{ClaimList}
use Rattle.reg_claims.specs.declared.claim.Held.{Held}
use Rattle.reg_entries.specs.Numbers as numbers
use Rattle.reg_entries.specs.declared.ask.Ask.{Ask}
use Rattle.reg_entries.specs.declared.ask.Ask.TheVariants as asks
use Rattle.reg_entries.specs.declared.reply.Reply.{Reply}
use Rattle.reg_entries.specs.declared.reply.Reply.TheVariants as replies
use Rattle.reg_model.specs.Answers.{Answer, plain, refusal}
use Rattle.reg_model.specs.Changing.{refusal_with}
use Rattle.files_service.specs.Finishing.{Ending}
use Rattle.upload_sessions.specs.declared.taking.Taken.TheVariants as taken
use Rattle.reg_world.specs.Worlds.{Data}
use Rattle.reg_world.specs.Moves.{Act, takes, shelves, finishes, closes, Seen, replied, failed, gave, came_to, ended, Move}
use Rattle.reg_session.specs.Answering.{AnswersAs}
use Rattle.reg_session.specs.Chains.{Hold, Own, Brings}
use Rattle.reg_session.specs.Turns.{wants_memory}
use Rattle.reg_session.specs.Uploads.{IsTake, TurnsDown, Gives, Stages, IsGivenBack, ClosesWith, SpendsBy, FailsToStage, Differs, RepliesBack, AddsAll, GivesBack, FinishesWith, Patches, Finishes}
use Rattle.reg_session.proofs.MemoryLaws.{no_want}
use Rattle.reg_session.proofs.OneHold.{Same, AreOne, IsSound, IsEnd, is_done, is_refused, is_end, untroubled}
use Rattle.reg_session.proofs.HoldLaws.{Goes, Step, Opens, opens, Keeps, more_kept, goes_end, Alike, alike, one_step, still_tells}

-- ---- answers by what is seen

pub answers_alone : (seen : Seen) (one two : Answer) → AnswersAs seen one → AnswersAs seen two → one ≡ two
answers_alone (replied answer) one two h k = h ∙ sym k
answers_alone (failed trouble) one two h k = h ∙ sym k
answers_alone (gave (taken.Refused reply)) one two h k = h ∙ sym k
answers_alone (gave (taken.Out held staged offset)) one two h k = absurd h
answers_alone (came_to ending) one two h k = absurd h
answers_alone ended one two h k = absurd h

-- answers of one request are one, and leave one world and one word to come
pub record OneEnd (answer other : Answer) (v z : Data) (after also : Words) : Type 0 where
  pub answer_so : answer ≡ other
  pub left : Same v z
  pub words_so : after ≡ also

-- ---- the first hold

take_kept : (o : Own) (words : Words) (ask : Ask) (act : Act) → IsTake ask act → Keeps o words act
take_kept o words (asks.Patch name id start) act (who, is) after brings = (subst (λ (a : Act). Brings o words a after) is brings).1
take_kept o words (asks.Finish name id digest start) act (who, is) after brings = (subst (λ (a : Act). Brings o words a after) is brings).1
take_kept o words ask act is after brings = absurd is

-- a session is taken for the holder
take_is : (o : Own) (words after : Words) (name : List ℕ) (id : Option (List ℕ)) (start : Option ℕ) (who : ℕ) (act : Act) → act ≡ takes who name id start → Brings o words act after
    → act ≡ takes o.who name id start
take_is o words after name id start who act is brings =
    is ∙ ap (λ (n : ℕ). takes n name id start) (subst (λ (a : Act). Brings o words a after) is brings).0

pub takes_alike : (o : Own) (words also after later : Words) (ask : Ask) (one two : Act) → IsTake ask one → IsTake ask two → Brings o words one after → Brings o also two later → Alike one two
takes_alike o words also after later (asks.Patch name id start) one two (who, is) (other, same) h k =
    alike (take_is o words after name id start who one is h ∙ sym (take_is o also later name id start other two same k))
takes_alike o words also after later (asks.Finish name id digest start) one two (who, is) (other, same) h k =
    alike (take_is o words after name id start who one is h ∙ sym (take_is o also later name id start other two same k))
takes_alike o words also after later ask one two is same h k = absurd is

-- what is given tells its bytes where the depot does
given_by : (who : ℕ) (name : List ℕ) (id : Option (List ℕ)) (start : Option ℕ) (w v : Data) (act : Act) (seen : Seen) (held : Held) (before : Staged) (offset : ℕ) → act ≡ takes who name id start
    → seen ≡ gave (taken.Out held before offset) → Move w act seen v → before.tells ≡ w.held.tells
given_by who name id start w v act seen held before offset is given move =
    let out = subst (λ (a : Act). Move w a (gave (taken.Out held before offset)) v) is (subst (λ (s : Seen). Move w act s v) given move) in
    out.0.lent.tells

given_tells : (ask : Ask) (w v : Data) (act : Act) (seen : Seen) (held : Held) (before : Staged) (offset : ℕ) → IsTake ask act → seen ≡ gave (taken.Out held before offset) → Move w act seen v
    → before.tells ≡ w.held.tells
given_tells (asks.Patch name id start) w v act seen held before offset (who, is) given move = given_by who name id start w v act seen held before offset is given move
given_tells (asks.Finish name id digest start) w v act seen held before offset (who, is) given move = given_by who name id start w v act seen held before offset is given move
given_tells ask w v act seen held before offset is given move = absurd is

-- a session that was given is not turned down
pub not_both : (one two : Seen) (held : Held) (before : Staged) (offset : ℕ) (answer : Answer) → one ≡ two → AnswersAs one answer → two ≡ gave (taken.Out held before offset) → ⊥
not_both one two held before offset answer same answers given = subst (λ (s : Seen). AnswersAs s answer) (same ∙ given) answers

-- ---- bytes

is_digest : (b : Bool) (digest by : List ℕ) → IsTrue (option_map_or (λ d. pointwise nat_eq d digest) (if b then Some by else None) false) → digest ≡ by
is_digest true digest by h = sym (same_text by digest (sym h))
is_digest false digest by h = absurd (false≢true h)

pub hashed_by : (digest bytes : List ℕ) → IsTrue (hashes_to digest bytes) → digest ≡ digest_by_sha256 bytes
hashed_by digest bytes h = is_digest (algorithm_of digest == 1) digest (digest_by_sha256 bytes) h

stage_one : (before also one two : Staged) (body : List ℕ) → before ≡ also → IsTrue before.tells → Stages before one body → Stages also two body → one ≡ two
stage_one before also one two body same tells h k =
    let path = h.path ∙ ap (λ (s : Staged). s.path) same ∙ sym k.path in
    let told = h.tells ∙ ap (λ (s : Staged). s.tells) same ∙ sym k.tells in
    let count = h.gains.0 ∙ ap (λ (s : Staged). s.count + length body) same ∙ sym k.gains.0 in
    let bytes = h.gains.1 tells ∙ ap (λ (s : Staged). s.bytes ++ body) same ∙ sym (k.gains.1 (sym (ap (λ (s : Staged). s.tells) same) ∙ tells)) in
    λ i. record { path = path i; tells = told i; count = count i; bytes = bytes i }

-- ---- the last hold

not_some : (n : ℕ) → (0 < n → ⊥) → n ≡ 0
not_some zero calm = refl
not_some (suc n) calm = absurd (calm (omega arith))

-- a stage that is given back has not failed
pub no_faults : (held : Held) (after : Staged) (faults : ℕ) (i : Hold) → IsGivenBack held after faults i → IsSound i.act i.seen → 0 < faults → ⊥
no_faults held after faults i back s rose =
    let there = subst (λ (a : Act). IsSound a i.seen) back.is s in
    there.calm rose

module _ (o : Own) (words : Words) where
  back_kept : (held : Held) (after : Staged) (faults : ℕ) (i : Hold) → IsGivenBack held after faults i → Keeps o words i.act
  back_kept held after faults i back later brings = subst (λ (a : Act). Brings o words a later) back.is brings

  close_kept : (held : Held) (i : Hold) → i.act ≡ closes held → Keeps o words i.act
  close_kept held i is later brings = subst (λ (a : Act). Brings o words a later) is brings

  finish_kept : (held : Held) (after : Staged) (digest : List ℕ) (i : Hold) → i.act ≡ finishes held after digest → Keeps o words i.act
  finish_kept held after digest i is later brings = subst (λ (a : Act). Brings o words a later) is brings

back_alike : (held other : Held) (after last : Staged) (faults more : ℕ) (h i : Hold) → held ≡ other → after ≡ last → IsGivenBack held after faults h → IsGivenBack other last more i
    → IsSound h.act h.seen → IsSound i.act i.seen → Alike h.act i.act
back_alike held other after last faults more h i claim staged back given s t =
    let none = not_some faults (no_faults held after faults h back s) in
    let nothing = not_some more (no_faults other last more i given t) in
    let counts : faults ≡ more = none ∙ sym nothing in
    alike (back.is ∙ (λ k. shelves (claim k) (staged k) (counts k)) ∙ sym given.is)

-- ---- answers

differs_one : (digest : List ℕ) (after last : Staged) (one two : Reply) → after ≡ last → IsTrue after.tells → Differs digest after one → Differs digest last two → one ≡ two
differs_one digest after last one two same tells h k =
    let first = hashed_by h.found after.bytes (h.hashes tells) in
    let second = hashed_by k.found last.bytes (k.hashes (sym (ap (λ (s : Staged). s.tells) same) ∙ tells)) in
    let found = first ∙ ap (λ (s : Staged). digest_by_sha256 s.bytes) same ∙ sym second in
    h.is ∙ ap (λ (d : List ℕ). refusal_with numbers.digest_differs (digest_text d)) found ∙ sym k.is

replies_back_one : (ask : Ask) (held other : Held) (after last : Staged) (one two : Reply) → held ≡ other → after ≡ last → IsTrue after.tells → RepliesBack ask held after one
    → RepliesBack ask other last two → one ≡ two
replies_back_one (asks.Patch name id start) held other after last one two claim same tells h k =
    h ∙ (λ i. replies.Patched (claim i).name (claim i).id (same i).count) ∙ sym k
replies_back_one (asks.Finish name id digest start) held other after last one two claim same tells h k = differs_one digest after last one two same tells h k
replies_back_one ask held other after last one two claim same tells h k = absurd h

-- the digest that an upload is to be finished with
abbrev ask_digest : Ask → Option (List ℕ)
ask_digest (asks.Finish name id digest start) = Some digest
ask_digest ask = None

-- bytes hash to a digest, and differ from it
apart_by : (ask : Ask) (digest : List ℕ) (held : Held) (after last : Staged) (reply : Reply) → ask_digest ask ≡ Some digest → after ≡ last → IsTrue after.tells → RepliesBack ask held after reply
    → (IsTrue last.tells → IsTrue (hashes_to digest last.bytes)) → ⊥
apart_by (asks.Finish name id other start) digest held after last reply asked same tells differs hashes =
    let here = hashed_by differs.found after.bytes (differs.hashes tells) in
    let there = hashed_by digest last.bytes (hashes (sym (ap (λ (s : Staged). s.tells) same) ∙ tells)) in
    let digests : other ≡ digest = cc asked in
    differs.other (here ∙ ap (λ (s : Staged). digest_by_sha256 s.bytes) same ∙ sym there ∙ sym digests)
apart_by (asks.Patch name id start) digest held after last reply asked same tells differs hashes = absurd (cc asked)
apart_by ask digest held after last reply asked same tells differs hashes = absurd differs

-- what is answered where the stage did not fail and memory was there
record AddedAll (ask : Ask) (held : Held) (before after : Staged) (body : List ℕ) (answer : Answer) : Type 0 where
  reply : Reply
  stages : Stages before after body
  is : answer ≡ plain reply
  so : RepliesBack ask held after reply

excused : (ask : Ask) (held : Held) (after : Staged) (answer : Answer) (reply : Reply) → wants_memory answer.reply ≡ false → answer ≡ plain reply
    → (reply ≡ refusal numbers.no_memory) ⊎ RepliesBack ask held after reply → RepliesBack ask held after reply
excused ask held after answer reply enough is (inl same) = absurd (no_want answer enough (is ∙ ap plain same))
excused ask held after answer reply enough is (inr so) = so

added_all : (ask : Ask) (held : Held) (before after : Staged) (faults : ℕ) (body : List ℕ) (answer : Answer) → (0 < faults → ⊥) → wants_memory answer.reply ≡ false
    → FailsToStage before after faults body answer ⊎ AddsAll ask held before after body answer → AddedAll ask held before after body answer
added_all ask held before after faults body answer calm enough (inl fails) = absurd (calm fails.rose)
added_all ask held before after faults body answer calm enough (inr adds) =
    record { reply = adds.reply; stages = adds.stages; is = adds.is; so = excused ask held after answer adds.reply enough adds.is adds.so }

closes_one : (reply : Reply) (held : Held) (w v : Data) (seen : Seen) (answer : Answer) → IsSound (closes held) seen → Move w (closes held) seen v → ClosesWith reply seen answer → answer ≡ plain reply
closes_one reply held w v ended answer s move so = so
closes_one reply held w v (failed trouble) answer s move so = absurd (untroubled (closes held) (failed trouble) w v (λ x. x) s move trouble refl)
closes_one reply held w v (replied a) answer s move so = absurd so
closes_one reply held w v (gave given) answer s move so = absurd so
closes_one reply held w v (came_to ending) answer s move so = absurd so

-- ---- a session that was finished is spent

-- the holds that spend it are alike, draw no word, and the answers are one
record SpentOne (o : Own) (words : Words) (j m : Hold) (answer other : Answer) : Type 0 where
  acts : Alike j.act m.act
  one_keeps : Keeps o words j.act
  two_keeps : Keeps o words m.act
  answer_so : answer ≡ other

spent_one : (o : Own) (words : Words) (w u : Data) (held claim : Held) (after last : Staged) (digest : List ℕ) (ending final : Ending) (j m : Hold) (answer other : Answer) (claims : ClaimList)
    (before now : Holding) → IsEnd claims held after digest ending before now → ending ≡ final → held ≡ claim → after ≡ last → SpendsBy held after ending j answer
    → SpendsBy claim last final m other → Step w j → Step u m → SpentOne o words j m answer other
spent_one o words w u held claim after last digest ending final j m answer other claims before now (is_done reply is x) ends same staged s t a b =
    let one = subst (λ (e : Ending). SpendsBy held after e j answer) is s in
    let two = subst (λ (e : Ending). SpendsBy claim last e m other) (sym ends ∙ is) t in
    let first = closes_one reply held w j.left j.seen answer (subst (λ (c : Act). IsSound c j.seen) one.0 a.sound) (subst (λ (c : Act). Move w c j.seen j.left) one.0 a.move) one.1 in
    let second = closes_one reply claim u m.left m.seen other (subst (λ (c : Act). IsSound c m.seen) two.0 b.sound) (subst (λ (c : Act). Move u c m.seen m.left) two.0 b.move) two.1 in
    record {
      acts = alike (one.0 ∙ ap closes same ∙ sym two.0);
      one_keeps = close_kept o words held j one.0;
      two_keeps = close_kept o words claim m two.0;
      answer_so = first ∙ sym second;
    }
spent_one o words w u held claim after last digest ending final j m answer other claims before now (is_refused reply is x) ends same staged s t a b =
    let one = subst (λ (e : Ending). SpendsBy held after e j answer) is s in
    let two = subst (λ (e : Ending). SpendsBy claim last e m other) (sym ends ∙ is) t in
    record {
      acts = back_alike held claim after last one.0 two.0 j m same staged one.1 two.1 a.sound b.sound;
      one_keeps = back_kept o words held after one.0 j one.1;
      two_keeps = back_kept o words claim last two.0 m two.1;
      answer_so = one.2 ∙ sym two.2;
    }

-- ---- requests

module _ (o : Own) (ask : Ask) (w u v z : Data) (words after also : Words) (body : List ℕ) (answer other : Answer) (same : Same w u) (tells : IsTrue w.held.tells) where
  first_one : (h i : Hold) (more less : List Hold) → IsTake ask h.act → IsTake ask i.act → Opens o w words h more v after → Opens o u words i less z also → AreOne h.seen i.seen h.left i.left
  first_one h i more less is took a b = one_step w u h i same tells (takes_alike o words words a.mid b.mid ask h.act i.act is took a.brings b.brings) a.step b.step

  down_one : (h i : Hold) → TurnsDown ask h answer → TurnsDown ask i other → Goes o w words (h ∷ []) v after → Goes o u words (i ∷ []) z also → OneEnd answer other v z after also
  down_one h i down low g k =
      let a = opens o w v words after h [] g in
      let b = opens o u z words also i [] k in
      let one = first_one h i [] [] down.took low.took a b in
      let last = goes_end o h.left i.left v z words after also one.left
      (more_kept o w v words after h [] (take_kept o words ask h.act down.took) a) (more_kept o u z words also i [] (take_kept o words ask i.act low.took) b) in
      record { answer_so = answers_alone i.seen answer other (subst (λ (s : Seen). AnswersAs s answer) one.seen_so down.so) low.so; left = last.0; words_so = last.1 }

  -- a session is not given to one and refused to the other
  down_or_given : (h i : Hold) (more less : List Hold) (held : Held) (before : Staged) → TurnsDown ask h answer → Gives ask i held before → Goes o w words (h ∷ more) v after
      → Goes o u words (i ∷ less) z also → ⊥
  down_or_given h i more less held before down gives g k =
      let one = first_one h i more less down.took gives.took (opens o w v words after h more g) (opens o u z words also i less k) in
      not_both h.seen i.seen held before gives.offset answer one.seen_so down.so gives.given

  given_or_down : (h i : Hold) (more less : List Hold) (held : Held) (before : Staged) → Gives ask h held before → TurnsDown ask i other → Goes o w words (h ∷ more) v after
      → Goes o u words (i ∷ less) z also → ⊥
  given_or_down h i more less held before gives down g k =
      let one = first_one h i more less gives.took down.took (opens o w v words after h more g) (opens o u z words also i less k) in
      not_both i.seen h.seen held before gives.offset other (sym one.seen_so) down.so gives.given

  -- one session was given, with one claim and the same bytes
  record GivenOne (h i : Hold) (more less : List Hold) (held claim : Held) (before lent : Staged) : Type 0 where
    claim_so : held ≡ claim
    bytes_so : before ≡ lent
    told : IsTrue before.tells
    next : Same h.left i.left
    next_tells : IsTrue h.left.held.tells
    one : Goes o h.left words more v after
    two : Goes o i.left words less z also

  gives_one : (h i : Hold) (more less : List Hold) (held claim : Held) (before lent : Staged) → Gives ask h held before → Gives ask i claim lent → Goes o w words (h ∷ more) v after
      → Goes o u words (i ∷ less) z also → GivenOne h i more less held claim before lent
  gives_one h i more less held claim before lent gives given g k =
      let a = opens o w v words after h more g in
      let b = opens o u z words also i less k in
      let one = first_one h i more less gives.took given.took a b in
      let out : gave (taken.Out held before gives.offset) ≡ gave (taken.Out claim lent given.offset) = sym gives.given ∙ one.seen_so ∙ given.given in
      let same_claim : held ≡ claim = cc in
      let same_bytes : before ≡ lent = cc in
      record {
        claim_so = same_claim;
        bytes_so = same_bytes;
        told = given_tells ask w h.left h.act h.seen held before gives.offset gives.took gives.given a.step.move ∙ tells;
        next = one.left;
        next_tells = still_tells w h tells a.step;
        one = more_kept o w v words after h more (take_kept o words ask h.act gives.took) a;
        two = more_kept o u z words also i less (take_kept o words ask i.act given.took) b;
      }

  back_one : (h i j k : Hold) → wants_memory answer.reply ≡ false → wants_memory other.reply ≡ false → GivesBack ask body h i answer → GivesBack ask body j k other
      → Goes o w words (h ∷ i ∷ []) v after → Goes o u words (j ∷ k ∷ []) z also → OneEnd answer other v z after also
  back_one h i j k enough also_enough gives given g l =
      let out = gives_one h j (i ∷ []) (k ∷ []) gives.held given.held gives.before given.before gives.gives given.gives g l in
      let a = opens o h.left v words after i [] out.one in
      let b = opens o j.left z words also k [] out.two in
      let first = added_all ask gives.held gives.before gives.after gives.faults body answer (no_faults gives.held gives.after gives.faults i gives.back a.step.sound) enough gives.so in
      let second = added_all ask given.held given.before given.after given.faults body other (no_faults given.held given.after given.faults k given.back b.step.sound) also_enough given.so in
      let staged = stage_one gives.before given.before gives.after given.after body out.bytes_so out.told first.stages second.stages in
      let told = first.stages.tells ∙ out.told in
      let reply = replies_back_one ask gives.held given.held gives.after given.after first.reply second.reply out.claim_so staged told first.so second.so in
      let acts = back_alike gives.held given.held gives.after given.after gives.faults given.faults i k out.claim_so staged gives.back given.back a.step.sound b.step.sound in
      let one = one_step h.left j.left i k out.next out.next_tells acts a.step b.step in
      let last = goes_end o i.left k.left v z words after also one.left
      (more_kept o h.left v words after i [] (back_kept o words gives.held gives.after gives.faults i gives.back) a)
      (more_kept o j.left z words also k [] (back_kept o words given.held given.after given.faults k given.back) b) in
      record { answer_so = first.is ∙ ap plain reply ∙ sym second.is; left = last.0; words_so = last.1 }

  -- a digest is that of the bytes in one and not in the other
  not_differs : (digest : List ℕ) (h i j k l : Hold) → ask_digest ask ≡ Some digest → wants_memory answer.reply ≡ false → GivesBack ask body h i answer → FinishesWith ask digest body j k l other
      → Goes o w words (h ∷ i ∷ []) v after → Goes o u words (j ∷ k ∷ l ∷ []) z also → ⊥
  not_differs digest h i j k l asked enough gives finish g n =
      let out = gives_one h j (i ∷ []) (k ∷ l ∷ []) gives.held finish.held gives.before finish.before gives.gives finish.gives g n in
      let a = opens o h.left v words after i [] out.one in
      let first = added_all ask gives.held gives.before gives.after gives.faults body answer (no_faults gives.held gives.after gives.faults i gives.back a.step.sound) enough gives.so in
      let staged = stage_one gives.before finish.before gives.after finish.after body out.bytes_so out.told first.stages finish.stages in
      let told = first.stages.tells ∙ out.told in
      apart_by ask digest gives.held gives.after finish.after first.reply asked staged told first.so finish.hashes

  finish_one : (digest : List ℕ) (h i j k l m : Hold) → FinishesWith ask digest body h i j answer → FinishesWith ask digest body k l m other
      → Goes o w words (h ∷ i ∷ j ∷ []) v after → Goes o u words (k ∷ l ∷ m ∷ []) z also → OneEnd answer other v z after also
  finish_one digest h i j k l m first second g n =
      let out = gives_one h k (i ∷ j ∷ []) (l ∷ m ∷ []) first.held second.held first.before second.before first.gives second.gives g n in
      let staged = stage_one first.before second.before first.after second.after body out.bytes_so out.told first.stages second.stages in
      let a = opens o h.left v words after i (j ∷ []) out.one in
      let b = opens o k.left z words also l (m ∷ []) out.two in
      let acts : Alike i.act l.act = alike (first.finish ∙ (λ x. finishes (out.claim_so x) (staged x) digest) ∙ sym second.finish) in
      let one = one_step h.left k.left i l out.next out.next_tells acts a.step b.step in
      let came : came_to first.ending ≡ came_to second.ending = sym first.seen ∙ one.seen_so ∙ second.seen in
      let ending : first.ending ≡ second.ending = cc in
      let sound = subst (λ (c : Act). IsSound c (came_to first.ending)) first.finish (subst (λ (x : Seen). IsSound i.act x) first.seen a.step.sound) in
      let move = subst (λ (c : Act). Move h.left c (came_to first.ending) i.left) first.finish (subst (λ (x : Seen). Move h.left i.act x i.left) first.seen a.step.move) in
      let end = is_end h.left.claims first.held first.after digest first.ending h.left.held i.left.held sound move.0 in
      let c = opens o i.left v words after j [] (more_kept o h.left v words after i (j ∷ []) (finish_kept o words first.held first.after digest i first.finish) a) in
      let d = opens o l.left z words also m [] (more_kept o k.left z words also l (m ∷ []) (finish_kept o words second.held second.after digest l second.finish) b) in
      let spent = spent_one o words i.left l.left first.held second.held first.after second.after digest first.ending second.ending j m answer other h.left.claims h.left.held i.left.held end ending
      out.claim_so staged first.ends second.ends c.step d.step in
      let third = one_step i.left l.left j m one.left (still_tells h.left i out.next_tells a.step) spent.acts c.step d.step in
      let last = goes_end o j.left m.left v z words after also third.left (more_kept o i.left v words after j [] spent.one_keeps c) (more_kept o l.left z words also m [] spent.two_keeps d) in
      record { answer_so = spent.answer_so; left = last.0; words_so = last.1 }

-- ---- all of them

pub turned : (w u : Data) → Same w u → Same u w
turned w u same = record { held = sym same.held; claims = sym same.claims }

module _ (o : Own) (name : List ℕ) (id : Option (List ℕ)) (start : Option ℕ) (w u v z : Data) (words after also : Words) (body : List ℕ) (answer other : Answer) (same : Same w u)
    (tells : IsTrue w.held.tells) (enough : wants_memory answer.reply ≡ false) (also_enough : wants_memory other.reply ≡ false) where
  pub patches_one : (holds more : List Hold) → Patches name id start body holds answer → Patches name id start body more other → Goes o w words holds v after → Goes o u words more z also
      → OneEnd answer other v z after also
  patches_one [] more h k g l = absurd h
  patches_one (a ∷ []) [] h k g l = absurd k
  patches_one (a ∷ []) (b ∷ []) h k g l = down_one o (asks.Patch name id start) w u v z words after also body answer other same tells a b h k g l
  patches_one (a ∷ []) (b ∷ c ∷ []) h k g l =
      absurd (down_or_given o (asks.Patch name id start) w u v z words after also body answer other same tells a b [] (c ∷ []) k.held k.before h k.gives g l)
  patches_one (a ∷ []) (b ∷ c ∷ d ∷ more) h k g l = absurd k
  patches_one (a ∷ b ∷ []) [] h k g l = absurd k
  patches_one (a ∷ b ∷ []) (c ∷ []) h k g l =
      absurd (given_or_down o (asks.Patch name id start) w u v z words after also body answer other same tells a c (b ∷ []) [] h.held h.before h.gives k g l)
  patches_one (a ∷ b ∷ []) (c ∷ d ∷ []) h k g l =
      back_one o (asks.Patch name id start) w u v z words after also body answer other same tells a b c d enough also_enough h k g l
  patches_one (a ∷ b ∷ []) (c ∷ d ∷ e ∷ more) h k g l = absurd k
  patches_one (a ∷ b ∷ c ∷ holds) more h k g l = absurd h

  pub finishes_one : (digest : List ℕ) (holds more : List Hold) → Finishes name id digest start body holds answer → Finishes name id digest start body more other → Goes o w words holds v after
      → Goes o u words more z also → OneEnd answer other v z after also
  finishes_one digest [] more h k g l = absurd h
  finishes_one digest (a ∷ []) [] h k g l = absurd k
  finishes_one digest (a ∷ []) (b ∷ []) h k g l = down_one o (asks.Finish name id digest start) w u v z words after also body answer other same tells a b h k g l
  finishes_one digest (a ∷ []) (b ∷ c ∷ []) h k g l =
      absurd (down_or_given o (asks.Finish name id digest start) w u v z words after also body answer other same tells a b [] (c ∷ []) k.held k.before h k.gives g l)
  finishes_one digest (a ∷ []) (b ∷ c ∷ d ∷ []) h k g l =
      absurd (down_or_given o (asks.Finish name id digest start) w u v z words after also body answer other same tells a b [] (c ∷ d ∷ []) k.held k.before h k.gives g l)
  finishes_one digest (a ∷ []) (b ∷ c ∷ d ∷ e ∷ more) h k g l = absurd k
  finishes_one digest (a ∷ b ∷ []) [] h k g l = absurd k
  finishes_one digest (a ∷ b ∷ []) (c ∷ []) h k g l =
      absurd (given_or_down o (asks.Finish name id digest start) w u v z words after also body answer other same tells a c (b ∷ []) [] h.held h.before h.gives k g l)
  finishes_one digest (a ∷ b ∷ []) (c ∷ d ∷ []) h k g l =
      back_one o (asks.Finish name id digest start) w u v z words after also body answer other same tells a b c d enough also_enough h k g l
  finishes_one digest (a ∷ b ∷ []) (c ∷ d ∷ e ∷ []) h k g l =
      absurd (not_differs o (asks.Finish name id digest start) w u v z words after also body answer other same tells digest a b c d e refl enough h k g l)
  finishes_one digest (a ∷ b ∷ []) (c ∷ d ∷ e ∷ f ∷ more) h k g l = absurd k
  finishes_one digest (a ∷ b ∷ c ∷ []) [] h k g l = absurd k
  finishes_one digest (a ∷ b ∷ c ∷ []) (d ∷ []) h k g l =
      absurd (given_or_down o (asks.Finish name id digest start) w u v z words after also body answer other same tells a d (b ∷ c ∷ []) [] h.held h.before h.gives k g l)
  finishes_one digest (a ∷ b ∷ c ∷ []) (d ∷ e ∷ []) h k g l =
      absurd (not_differs o (asks.Finish name id digest start) u w z v words also after body other answer (turned w u same) (sym (ap (λ (x : Holding). x.tells) same.held) ∙ tells) digest d e a b c refl
      also_enough k h l g)
  finishes_one digest (a ∷ b ∷ c ∷ []) (d ∷ e ∷ f ∷ []) h k g l =
      finish_one o (asks.Finish name id digest start) w u v z words after also body answer other same tells digest a b c d e f h k g l
  finishes_one digest (a ∷ b ∷ c ∷ []) (d ∷ e ∷ f ∷ x ∷ more) h k g l = absurd k
  finishes_one digest (a ∷ b ∷ c ∷ d ∷ holds) more h k g l = absurd h

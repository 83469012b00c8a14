-- A request is answered in one way in one world, by one holder at one moment with the same words to come.
use Rattle.std.proofs.Common.{◌≡◌, ℕ, false, List, [], ◌∷◌, Option, Some, Ok, Err, sym, ap, subst, ◌∙◌}
use Rattle.std.specs.Prelude.{IsTrue}
use Rattle.reg_digest.specs.Hashing.{digest_by_sha256}
use Rattle.reg_names.specs.UploadIds.{version_4}
use Rattle.reg_names.specs.declared.reference.Reference.{Reference}
use Rattle.depot_api.specs.Ids.{Words, Draws}
use Rattle.manifest_doc.specs.Pushed.{IsJudged}
use Rattle.manifest_doc.specs.declared.pushed.Judged.{Judged}
use Rattle.manifest_doc.specs.declared.pushed.Judged.TheVariants.{Good, Bad}
use Rattle.manifest_doc.proofs.DocumentLaws.{one_document}
use Rattle.reg_entries.specs.declared.ask.Ask.{Ask}
use Rattle.reg_entries.specs.declared.ask.Ask.TheVariants as asks
use Rattle.reg_model.specs.Answers.{Answer}
use Rattle.reg_routes.specs.Routing.{Answer as Asked}
use Rattle.reg_world.specs.Worlds.{Data}
use Rattle.reg_world.specs.Moves.{Act, answers, starts, drops, unlinks, locates, cancels, Seen}
use Rattle.reg_session.specs.Answering.{AnswersAs, AnswersAlways, IsActOf, PushesBody}
use Rattle.reg_session.specs.Chains.{Hold, Own, own, Brings}
use Rattle.reg_session.specs.Turns.{RepliesTo, Replies, wants_memory}
use Rattle.reg_session.proofs.OneHold.{Same}
use Rattle.reg_session.proofs.HoldLaws.{Goes, opens, goes_end, Alike, alike, pushed, one_step, AreTold}
use Rattle.reg_session.proofs.OneUpload.{OneEnd, answers_alone, hashed_by, patches_one, finishes_one}

-- ---- what is pushed

judged_one : (typed : Option (List ℕ)) (bytes : List ℕ) (one two : Judged) → IsJudged typed bytes one → IsJudged typed bytes two → one ≡ two
judged_one typed bytes (Good doc) (Good other) h k = ap Good (one_document bytes doc other h.0 k.0)
judged_one typed bytes (Good doc) (Bad word) h k = absurd (cc (sym h.1 ∙ k))
judged_one typed bytes (Bad word) (Good doc) h k = absurd (cc (sym k.1 ∙ h))
judged_one typed bytes (Bad word) (Bad other) h k = let same : Some word ≡ Some other = sym h ∙ k in ap Bad cc

pushes_alike : (name : List ℕ) (at : Option Reference) (typed : Option (List ℕ)) (body : List ℕ) (one two : Act) → PushesBody name at typed body one → PushesBody name at typed body two → Alike one two
pushes_alike name at typed body one two h k =
    let bytes = k.bytes ∙ sym h.bytes in
    let first = hashed_by h.pushed.digest h.pushed.bytes h.pushed.hashes in
    let second = hashed_by k.pushed.digest k.pushed.bytes k.pushed.hashes in
    pushed name at h.pushed k.pushed h.is k.is (second ∙ ap digest_by_sha256 bytes ∙ sym first) bytes (judged_one typed body k.pushed.judged h.pushed.judged k.judged h.judged)

-- ---- the act of an ask

-- the acts are alike, and so are the words to come
record ActsOne (one two : Act) (after later : Words) : Type 0 where
  acts : Alike one two
  words_so : after ≡ later

kept_one : (o : Own) (words after later : Words) (act one two : Act) → one ≡ act → two ≡ act → ((x : Words) → Brings o words act x → x ≡ words) → Brings o words one after → Brings o words two later
    → ActsOne one two after later
kept_one o words after later act one two is same keeps h k =
    let first = keeps after (subst (λ (a : Act). Brings o words a after) is h) in
    let second = keeps later (subst (λ (a : Act). Brings o words a later) same k) in
    record { acts = alike (is ∙ sym same); words_so = first ∙ sym second }

draws_one : (words after later : Words) (word other : List ℕ) → AreTold words → Draws words word after → Draws words other later → (word ≡ other) × (after ≡ later)
draws_one words after later word other (told, is) h k =
    let first = subst (λ (x : Words). Draws x word after) is h in
    let second = subst (λ (x : Words). Draws x other later) is k in
    (first.0 ∙ sym second.0, first.1 ∙ sym second.1)

module _ (who now : ℕ) (words after later : Words) (told : AreTold words) where
  starts_one : (name : List ℕ) (mount : Option (List ℕ × List ℕ)) (one two : Act) → ((id : List ℕ) × (moment : ℕ) × (one ≡ starts name mount id moment))
      → ((id : List ℕ) × (moment : ℕ) × (two ≡ starts name mount id moment)) → Brings (own who (Some now)) words one after → Brings (own who (Some now)) words two later
      → ActsOne one two after later
  starts_one name mount one two (id, moment, is) (key, instant, same) h k =
      let first = subst (λ (a : Act). Brings (own who (Some now)) words a after) is h in
      let second = subst (λ (a : Act). Brings (own who (Some now)) words a later) same k in
      let drawn = draws_one words after later first.0 second.0 told first.1 second.1 in
      let ids : id ≡ key = first.2 ∙ ap version_4 drawn.0 ∙ sym second.2 in
      let moments : moment ≡ instant = first.3 ∙ sym second.3 in
      record { acts = alike (is ∙ (λ i. starts name mount (ids i) (moments i)) ∙ sym same); words_so = drawn.1 }

  acts_one : (ask : Ask) (body : List ℕ) (one two : Act) → IsActOf ask body one → IsActOf ask body two → Brings (own who (Some now)) words one after → Brings (own who (Some now)) words two later
      → ActsOne one two after later
  acts_one asks.Base body one two is same h k = absurd is
  acts_one (asks.Patch name id start) body one two is same h k = absurd is
  acts_one (asks.Finish name id digest start) body one two is same h k = absurd is
  acts_one (asks.PutManifest name at typed) body one two is same h k =
      let first = subst (λ (a : Act). Brings (own who (Some now)) words a after) is.is h in
      let second = subst (λ (a : Act). Brings (own who (Some now)) words a later) same.is k in
      record { acts = pushes_alike name at typed body one two is same; words_so = first ∙ sym second }
  acts_one (asks.DropReference name at) body one two is same h k = kept_one (own who (Some now)) words after later (drops name at) one two is same (λ x e. e) h k
  acts_one (asks.DropBlob name digest) body one two is same h k = kept_one (own who (Some now)) words after later (unlinks name digest) one two is same (λ x e. e) h k
  acts_one (asks.Start name mount) body one two is same h k = starts_one name mount one two is same h k
  acts_one (asks.State name id) body one two is same h k = kept_one (own who (Some now)) words after later (locates name id) one two is same (λ x e. e) h k
  acts_one (asks.Cancel name id) body one two is same h k = kept_one (own who (Some now)) words after later (cancels name id) one two is same (λ x e. e) h k
  acts_one ask body one two is same h k = kept_one (own who (Some now)) words after later (answers ask) one two is same (λ x e. e) h k

-- ---- asks that take no hold

always_one : (ask : Ask) (one two : Answer) → AnswersAlways ask one → AnswersAlways ask two → one ≡ two
always_one asks.Base one two h k = h ∙ sym k
always_one ask one two h k = absurd h

always_none : (ask : Ask) (body : List ℕ) (answer : Answer) (act : Act) → AnswersAlways ask answer → IsActOf ask body act → ⊥
always_none asks.Base body answer act h k = k
always_none ask body answer act h k = h

-- ---- answers

module _ (who now : ℕ) (w u v z : Data) (words after also : Words) (told : AreTold words) (same : Same w u) (tells : IsTrue w.held.tells) where
  single_one : (ask : Ask) (body : List ℕ) (h i : Hold) (answer other : Answer) → IsActOf ask body h.act → AnswersAs h.seen answer → IsActOf ask body i.act → AnswersAs i.seen other
      → Goes (own who (Some now)) w words (h ∷ []) v after → Goes (own who (Some now)) u words (i ∷ []) z also → OneEnd answer other v z after also
  single_one ask body h i answer other act so acted did g k =
      let a = opens (own who (Some now)) w v words after h [] g in
      let b = opens (own who (Some now)) u z words also i [] k in
      let acts = acts_one who now words a.mid b.mid told ask body h.act i.act act acted a.brings b.brings in
      let one = one_step w u h i same tells acts.acts a.step b.step in
      let last = goes_end (own who (Some now)) h.left i.left v z b.mid after also one.left (subst (λ (x : Words). Goes (own who (Some now)) h.left x [] v after) acts.words_so a.more) b.more in
      record { answer_so = answers_alone i.seen answer other (subst (λ (s : Seen). AnswersAs s answer) one.seen_so so) did; left = last.0; words_so = last.1 }

  none_one : (answer other : Answer) → answer ≡ other → Goes (own who (Some now)) w words [] v after → Goes (own who (Some now)) u words [] z also → OneEnd answer other v z after also
  none_one answer other is g k =
      let last = goes_end (own who (Some now)) w u v z words after also same g k in
      record { answer_so = is; left = last.0; words_so = last.1 }

  asked_one : (ask : Ask) (body : List ℕ) (holds more : List Hold) (answer other : Answer) → wants_memory answer.reply ≡ false → wants_memory other.reply ≡ false → RepliesTo ask body holds answer
      → RepliesTo ask body more other → Goes (own who (Some now)) w words holds v after → Goes (own who (Some now)) u words more z also → OneEnd answer other v z after also
  asked_one (asks.Patch name id start) body holds more answer other enough also_enough h k g l =
      patches_one (own who (Some now)) name id start w u v z words after also body answer other same tells enough also_enough holds more h k g l
  asked_one (asks.Finish name id digest start) body holds more answer other enough also_enough h k g l =
      finishes_one (own who (Some now)) name id start w u v z words after also body answer other same tells enough also_enough digest holds more h k g l
  asked_one ask body [] [] answer other enough also_enough h k g l = none_one answer other (always_one ask answer other h k) g l
  asked_one ask body [] (i ∷ []) answer other enough also_enough h k g l = absurd (always_none ask body answer i.act h k.0)
  asked_one ask body [] (i ∷ j ∷ more) answer other enough also_enough h k g l = absurd k
  asked_one ask body (i ∷ []) [] answer other enough also_enough h k g l = absurd (always_none ask body other i.act k h.0)
  asked_one ask body (i ∷ []) (j ∷ []) answer other enough also_enough h k g l = single_one ask body i j answer other h.0 h.1 k.0 k.1 g l
  asked_one ask body (i ∷ []) (j ∷ m ∷ more) answer other enough also_enough h k g l = absurd k
  asked_one ask body (i ∷ j ∷ holds) more answer other enough also_enough h k g l = absurd h

  replies_one : (asked : Asked) (body : List ℕ) (holds more : List Hold) (answer other : Answer) → wants_memory answer.reply ≡ false → wants_memory other.reply ≡ false
      → Replies asked body holds answer → Replies asked body more other → Goes (own who (Some now)) w words holds v after → Goes (own who (Some now)) u words more z also
      → OneEnd answer other v z after also
  replies_one (Ok ask) body holds more answer other enough also_enough h k g l = asked_one ask body holds more answer other enough also_enough h k g l
  replies_one (Err reply) body [] [] answer other enough also_enough h k g l = none_one answer other (h ∙ sym k) g l
  replies_one (Err reply) body [] (i ∷ more) answer other enough also_enough h k g l = absurd k
  replies_one (Err reply) body (i ∷ holds) more answer other enough also_enough h k g l = absurd h

-- a request that was answered, from one world and words to come to others
pub record Answered (who now : ℕ) (w : Data) (words : Words) (asked : Asked) (body : List ℕ) (holds : List Hold) (answer : Answer) (v : Data) (after : Words) : Type 0 where
  pub replies_so : Replies asked body holds answer
  pub goes : Goes (own who (Some now)) w words holds v after
  pub enough : wants_memory answer.reply ≡ false

pub one_answer : (who now : ℕ) (w u v z : Data) (words also after later : Words) (asked : Asked) (body : List ℕ) (holds more : List Hold) (answer other : Answer) → AreTold words → words ≡ also → Same w u
    → IsTrue w.held.tells → Answered who now w words asked body holds answer v after → Answered who now u also asked body more other z later → OneEnd answer other v z after later
one_answer who now w u v z words also after later asked body holds more answer other told is same tells h k =
    replies_one who now w u v z words after later told same tells asked body holds more answer other h.enough k.enough h.replies_so k.replies_so h.goes
    (subst (λ (x : Words). Goes (own who (Some now)) u x more z later) (sym is) k.goes)

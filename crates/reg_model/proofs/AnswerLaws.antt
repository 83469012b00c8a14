-- An ask has one answer, and what is answered follows from the state.
use Rattle.std.proofs.Common.{◌≡◌, ℕ, Bool, true, false, List, Option, Some, None, refl, sym, ap, ◌∙◌, subst}
use Rattle.reg_names.specs.declared.reference.Reference.{Reference}
use Rattle.reg_entries.specs.Documents.{KeptManifest}
use Rattle.reg_entries.specs.State.{State}
use Rattle.reg_entries.specs.Numbers.{blob_unknown, manifest_unknown}
use Rattle.reg_entries.proofs.ListingLaws.{listing_alone}
use Rattle.reg_entries.specs.declared.ask.Ask.{Ask}
use Rattle.reg_entries.specs.declared.ask.Ask.TheVariants as asks
use Rattle.reg_entries.specs.declared.reply.Reply.{Reply}
use Rattle.reg_entries.specs.declared.reply.Reply.TheVariants as replies
use Rattle.reg_model.specs.Facts.{Facts}
use Rattle.reg_model.specs.Answers.{lacking, IsKnownAs, LacksIn, BlobBy, IsManifest, ManifestBy, ManifestUnder, referred, IsTagList, TagsBy, TagsIn, IsReply, Answer, SendsBy, IsAnswer, AreAlike}

some_same : {A : Type 0} (x y : A) → Some x ≡ Some y → x ≡ y
some_same x y e = cc e

-- ---- one reply, but for the bytes of a manifest

pub known_alone : (state : State) (name : List ℕ) (one two : Bool) → IsKnownAs state name one → IsKnownAs state name two → one ≡ two
known_alone state name true true h k = refl
known_alone state name true false h k = absurd (k h)
known_alone state name false true h k = absurd (h k)
known_alone state name false false h k = refl

lacking_alone : (state : State) (name : List ℕ) (number : ℕ) (one two : Reply) → LacksIn state name number one → LacksIn state name number two → one ≡ two
lacking_alone state name number one two h k = h.2 ∙ ap (λ b. lacking b number) (known_alone state name h.0 k.0 h.1 k.1) ∙ sym k.2

blob_alone : (state : State) (name digest : List ℕ) (size : Option ℕ) (one two : Reply) → BlobBy state name digest size one → BlobBy state name digest size two → one ≡ two
blob_alone state name digest (Some size) one two h k = h ∙ sym k
blob_alone state name digest None one two h k = lacking_alone state name blob_unknown one two h k

list_alone : (state : State) (name : List ℕ) (n : Option ℕ) (last : Option (List ℕ)) (one two : Reply) → IsTagList state name n last one → IsTagList state name n last two → one ≡ two
list_alone state name n last one two h k =
    let same = listing_alone state name n last h.tags k.tags h.more k.more h.listing k.listing in
    h.is ∙ (λ i. replies.Tags name (same.0 i) (same.1 i)) ∙ sym k.is

tags_by_alone : (state : State) (name : List ℕ) (n : Option ℕ) (last : Option (List ℕ)) (known : Bool) (one two : Reply) → TagsBy state name n last known one → TagsBy state name n last known two → one ≡ two
tags_by_alone state name n last true one two h k = list_alone state name n last one two h k
tags_by_alone state name n last false one two h k = h ∙ sym k

tags_alone : (state : State) (name : List ℕ) (n : Option ℕ) (last : Option (List ℕ)) (one two : Reply) → TagsIn state name n last one → TagsIn state name n last two → one ≡ two
tags_alone state name n last one two h k =
    let same = known_alone state name h.0 k.0 h.1 k.1 in
    tags_by_alone state name n last k.0 one two (subst (λ b. TagsBy state name n last b one) same h.2) k.2

-- two replies to an ask are one, or tell one manifest by its digest
data AreNear (ask : Ask) (one two : Reply) : Type 0 where
  same : one ≡ two → AreNear ask one two
  manifest : (name : List ℕ) (at : Option Reference) → ask ≡ asks.GetManifest name at → (digest : List ℕ) (kept : KeptManifest) → IsManifest digest kept one → IsManifest digest kept two → AreNear ask one two

manifest_near : (state : State) (name : List ℕ) (at : Option Reference) (digest : List ℕ) (kept : Option KeptManifest) (one two : Reply) → ManifestBy state name digest kept one → ManifestBy state name digest kept two → AreNear (asks.GetManifest name at) one two
manifest_near state name at digest (Some kept) one two h k = manifest name at refl digest kept h k
manifest_near state name at digest None one two h k = same (lacking_alone state name manifest_unknown one two h k)

under_near : (state : State) (name : List ℕ) (at : Option Reference) (digest : Option (List ℕ)) (one two : Reply) → ManifestUnder state name digest one → ManifestUnder state name digest two → AreNear (asks.GetManifest name at) one two
under_near state name at (Some digest) one two h k = manifest_near state name at digest (state.manifests name digest) one two h k
under_near state name at None one two h k = same (lacking_alone state name manifest_unknown one two h k)

replies_near : (state : State) (ask : Ask) (one two : Reply) → IsReply state ask one → IsReply state ask two → AreNear ask one two
replies_near state asks.Base one two h k = same (h ∙ sym k)
replies_near state (asks.GetBlob name digest) one two h k = same (blob_alone state name digest (state.links name digest) one two h k)
replies_near state (asks.GetManifest name at) one two h k = under_near state name at (referred state name at) one two h k
replies_near state (asks.Tags name n last) one two h k = same (tags_alone state name n last one two h k)
replies_near state ask one two h k = same (h ∙ sym k)

-- ---- replies follow the state

alike_itself : (reply : Reply) → AreAlike reply reply
alike_itself (replies.Manifest kind digest bytes) = (refl, refl, refl)
alike_itself reply = refl

near_alike : (ask : Ask) (one two : Reply) → AreNear ask one two → AreAlike one two
near_alike ask one two (same e) = subst (λ x. AreAlike one x) e (alike_itself one)
near_alike ask one two (manifest name at is digest kept h k) =
    subst (λ x. AreAlike x two) (sym h.is) (subst (λ x. AreAlike (replies.Manifest kept.kind digest h.bytes) x) (sym k.is) (refl, refl, h.of.size ∙ sym k.of.size))

pub replies_alike : (state : State) (ask : Ask) (one two : Reply) → IsReply state ask one → IsReply state ask two → AreAlike one two
replies_alike state ask one two h k = near_alike ask one two (replies_near state ask one two h k)

-- ---- answers are one

module _ (facts : Facts) where
  -- the bytes of a manifest that is answered are those that the registry has
  sent_bytes : (name : List ℕ) (at : Option Reference) (ask : Ask) → ask ≡ asks.GetManifest name at → (digest : List ℕ) (kept : KeptManifest) (reply : Reply) (content : List ℕ) → (m : IsManifest digest kept reply) → SendsBy facts ask content reply → facts.manifests name digest ≡ Some m.bytes
  sent_bytes name at ask is digest kept reply content m h =
      (subst (λ r. SendsBy facts (asks.GetManifest name at) content r) m.is (subst (λ a. SendsBy facts a content reply) is h)).0

  near_one : (ask : Ask) (one two : Answer) → AreNear ask one.reply two.reply → SendsBy facts ask one.content one.reply → SendsBy facts ask two.content two.reply → one.reply ≡ two.reply
  near_one ask one two (same e) h k = e
  near_one ask one two (manifest name at is digest kept m w) h k =
      let bytes = some_same m.bytes w.bytes (sym (sent_bytes name at ask is digest kept one.reply one.content m h) ∙ sent_bytes name at ask is digest kept two.reply two.content w k) in
      m.is ∙ ap (λ x. replies.Manifest kept.kind digest x) bytes ∙ sym w.is

  -- what follows a reply is told by it
  content_alone : (ask : Ask) (reply : Reply) (one two : List ℕ) → SendsBy facts ask one reply → SendsBy facts ask two reply → one ≡ two
  content_alone ask (replies.Blob digest size) one two h k = some_same one two (sym h ∙ k)
  content_alone ask (replies.Manifest kind digest bytes) one two h k = h.1 ∙ sym k.1
  content_alone ask reply one two h k = h ∙ sym k

  pub answer_alone : (ask : Ask) (one two : Answer) → IsAnswer facts ask one → IsAnswer facts ask two → one ≡ two
  answer_alone ask one two h k =
      let reply = near_one ask one two (replies_near facts.state ask one.reply two.reply h.reply k.reply) h.sends k.sends in
      let content = content_alone ask two.reply one.content two.content (subst (λ r. SendsBy facts ask one.content r) reply h.sends) k.sends in
      λ i. record { reply = reply i; content = content i }

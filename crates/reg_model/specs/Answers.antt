-- The registry as one thread runs it: what an ask is answered.
use Rattle.std.specs.Prelude.{◌≡◌, ℕ, Bool, true, false, IsTrue, List, [], length, Option, Some, None, ⊤}
use Rattle.reg_names.specs.declared.reference.Reference.{Reference}
use Rattle.reg_names.specs.declared.reference.Reference.TheVariants as references
use Rattle.reg_digest.specs.Hashing.{hashes_to}
use Rattle.reg_entries.specs.Documents.{KeptManifest}
use Rattle.reg_entries.specs.State.{State, IsKnown}
use Rattle.reg_entries.specs.Listing.{IsListing}
use Rattle.reg_entries.specs.Numbers.{name_unknown, blob_unknown, manifest_unknown, read_only}
use Rattle.reg_entries.specs.declared.ask.Ask.{Ask}
use Rattle.reg_entries.specs.declared.ask.Ask.TheVariants as asks
use Rattle.reg_entries.specs.declared.reply.Reply.{Reply}
use Rattle.reg_entries.specs.declared.reply.Reply.TheVariants as replies
use Rattle.reg_entries.specs.declared.reply.Detail.TheVariants as details
use Rattle.reg_model.specs.Facts.{Facts}

-- ---- refusals

-- the refusal with this number, which tells nothing beside it
abbrev pub refusal : ℕ → Reply
refusal number = replies.Refused (record { number = number; detail = details.Nothing })

-- the refusal for what a repository lacks, by whether the repository is known
abbrev pub lacking : Bool → ℕ → Reply
lacking true number = refusal number
lacking false number = refusal name_unknown

-- whether a repository is known
abbrev pub IsKnownAs : State → List ℕ → Bool → Type 0
IsKnownAs state name true = IsKnown state name
IsKnownAs state name false = ¬ IsKnown state name

-- what was asked for is not there: the repository is unknown, or else this number tells what it lacks
abbrev pub LacksIn : State → List ℕ → ℕ → Reply → Type 0
LacksIn state name number reply = (known : Bool) × IsKnownAs state name known × (reply ≡ lacking known number)

-- ---- blobs

abbrev pub BlobBy : State → List ℕ → List ℕ → Option ℕ → Reply → Type 0
BlobBy state name digest (Some size) reply = reply ≡ replies.Blob digest size
BlobBy state name digest None reply = LacksIn state name blob_unknown reply

-- the blob of a digest that the repository links, with the size of the link
abbrev pub BlobIn : State → List ℕ → List ℕ → Reply → Type 0
BlobIn state name digest reply = BlobBy state name digest (state.links name digest) reply

-- ---- manifests

-- the digest that a reference to a manifest of the repository stands for
abbrev pub referred : State → List ℕ → Option Reference → Option (List ℕ)
referred state name None = None
referred state name (Some (references.Tag tag)) = state.tags name tag
referred state name (Some (references.Digest digest)) = Some digest

-- the bytes have the digest, and the size that is kept of the manifest
pub record AreBytesOf (digest : List ℕ) (manifest : KeptManifest) (bytes : List ℕ) : Type 0 where
  pub hashes : IsTrue (hashes_to digest bytes)
  pub size : length bytes ≡ manifest.size

-- the reply with what is kept as a manifest under a digest
pub record IsManifest (digest : List ℕ) (manifest : KeptManifest) (reply : Reply) : Type 0 where
  pub bytes : List ℕ
  pub of : AreBytesOf digest manifest bytes
  pub is : reply ≡ replies.Manifest manifest.kind digest bytes

abbrev pub ManifestBy : State → List ℕ → List ℕ → Option KeptManifest → Reply → Type 0
ManifestBy state name digest (Some manifest) reply = IsManifest digest manifest reply
ManifestBy state name digest None reply = LacksIn state name manifest_unknown reply

abbrev pub ManifestUnder : State → List ℕ → Option (List ℕ) → Reply → Type 0
ManifestUnder state name (Some digest) reply = ManifestBy state name digest (state.manifests name digest) reply
ManifestUnder state name None reply = LacksIn state name manifest_unknown reply

-- the manifest that a reference stands for in the repository
abbrev pub ManifestIn : State → List ℕ → Option Reference → Reply → Type 0
ManifestIn state name at reply = ManifestUnder state name (referred state name at) reply

-- ---- tags

-- the reply with these tags of a repository
pub record IsTagList (state : State) (name : List ℕ) (n : Option ℕ) (last : Option (List ℕ)) (reply : Reply)
    : Type 0 where
  pub tags : List (List ℕ)
  pub more : Option ℕ
  pub listing : IsListing state name n last tags more
  pub is : reply ≡ replies.Tags name tags more

abbrev pub TagsBy : State → List ℕ → Option ℕ → Option (List ℕ) → Bool → Reply → Type 0
TagsBy state name n last true reply = IsTagList state name n last reply
TagsBy state name n last false reply = reply ≡ refusal name_unknown

-- the tags of a repository that is known
abbrev pub TagsIn : State → List ℕ → Option ℕ → Option (List ℕ) → Reply → Type 0
TagsIn state name n last reply = (known : Bool) × IsKnownAs state name known × TagsBy state name n last known reply

-- ---- all asks

-- The reply to an ask by what the repositories have. An ask that would change something, or is about an upload, is
-- refused.
abbrev pub IsReply : State → Ask → Reply → Type 0
IsReply state asks.Base reply = reply ≡ replies.Base
IsReply state (asks.GetBlob name digest) reply = BlobIn state name digest reply
IsReply state (asks.GetManifest name at) reply = ManifestIn state name at reply
IsReply state (asks.Tags name n last) reply = TagsIn state name n last reply
IsReply state ask reply = reply ≡ refusal read_only

-- a reply, and the bytes of the blob that follows it
pub record Answer : Type 0 where
  pub reply : Reply
  pub content : List ℕ

-- a reply that no blob follows
abbrev pub plain : Reply → Answer
plain reply = record { reply = reply; content = [] }

abbrev pub SendsManifest : Facts → Ask → List ℕ → List ℕ → Type 0
SendsManifest facts (asks.GetManifest name at) digest bytes = facts.manifests name digest ≡ Some bytes
SendsManifest facts ask digest bytes = ⊤

abbrev pub SendsBy : Facts → Ask → List ℕ → Reply → Type 0
SendsBy facts ask content (replies.Blob digest size) = facts.blobs digest ≡ Some content
SendsBy facts ask content (replies.Manifest kind digest bytes) = SendsManifest facts ask digest bytes × (content ≡ [])
SendsBy facts ask content reply = content ≡ []

-- the bytes that are sent: those of the manifest or of the blob that the reply names, and else none
abbrev pub Sends : Facts → Ask → Answer → Type 0
Sends facts ask answer = SendsBy facts ask answer.content answer.reply

-- the answer of the registry to an ask
pub record IsAnswer (facts : Facts) (ask : Ask) (answer : Answer) : Type 0 where
  pub reply : IsReply facts.state ask answer.reply
  pub sends : Sends facts ask answer

-- ---- what the state alone decides

-- two replies are one, or have the same manifest of one kind and size
abbrev pub AreAlike : Reply → Reply → Type 0
AreAlike (replies.Manifest kind digest bytes) (replies.Manifest other named content) =
    (kind ≡ other) × (digest ≡ named) × (length bytes ≡ length content)
AreAlike one two = one ≡ two

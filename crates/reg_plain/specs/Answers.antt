-- What the slow registry answers to a pull: what the registry that one thread runs answers, but for a manifest's bytes.
use Rattle.std.specs.Prelude.{◌≡◌, ℕ, List, [], length, Option, Some, ⊤}
use Rattle.reg_names.specs.declared.kind.Kind.{Kind}
use Rattle.reg_names.specs.declared.reference.Reference.{Reference}
use Rattle.reg_entries.specs.Documents.{KeptManifest}
use Rattle.reg_entries.specs.State.{State}
use Rattle.reg_entries.specs.declared.ask.Ask.{Ask}
use Rattle.reg_entries.specs.declared.ask.Ask.TheVariants as asks
use Rattle.reg_entries.specs.declared.reply.Reply.{Reply}
use Rattle.reg_entries.specs.declared.reply.Reply.TheVariants as replies
use Rattle.reg_journal.specs.Past.{shown}
use Rattle.reg_model.specs.Answers.{referred, IsReply}
use Rattle.reg_plain.specs.declared.state.State.{State as Holder}
use Rattle.reg_plain.specs.declared.answer.Plain.{Plain}
use Rattle.reg_plain.specs.declared.answer.Plain.TheVariants as plains
use Rattle.reg_plain.specs.Held.{held}

-- what the repositories have
abbrev pub shown_by : Holder → State
shown_by state = shown (held [] state)

-- an ask for a blob, for a manifest, or for the tags of a repository
abbrev pub IsPull : Ask → Type 0
IsPull (asks.GetBlob name digest) = ⊤
IsPull (asks.GetManifest name at) = ⊤
IsPull (asks.Tags name n last) = ⊤
IsPull ask = ⊥

-- a reference stands for a digest under which the repository has a manifest of that kind and size
pub record IsManifestOf (state : State) (name : List ℕ) (at : Option Reference) (kind : Kind) (digest : List ℕ) (size : ℕ)
    : Type 0 where
  pub refers : referred state name at ≡ Some digest
  pub manifest : KeptManifest
  pub stands : state.manifests name digest ≡ Some manifest
  pub kind_is : kind ≡ manifest.kind
  pub size_is : size ≡ manifest.size

abbrev pub TellsManifest : State → Ask → Kind → List ℕ → ℕ → Type 0
TellsManifest state (asks.GetManifest name at) kind digest size = IsManifestOf state name at kind digest size
TellsManifest state ask kind digest size = ⊥

abbrev pub TellsTags : State → Ask → List (List ℕ) → Option ℕ → Type 0
TellsTags state (asks.Tags name n last) tags more = IsReply state (asks.Tags name n last) (replies.Tags name tags more)
TellsTags state ask tags more = ⊥

-- the answer to a pull by what the repositories have
abbrev pub IsPlain : State → Ask → Plain → Type 0
IsPlain state ask (plains.Manifest kind digest size) = TellsManifest state ask kind digest size
IsPlain state ask (plains.Blob digest size) = IsReply state ask (replies.Blob digest size)
IsPlain state ask (plains.Tags tags more) = TellsTags state ask tags more
IsPlain state ask (plains.Refused refused) = IsReply state ask (replies.Refused refused)

-- the answer tells what a reply does, and of a manifest how many bytes it has
abbrev pub Tells : Plain → Reply → Type 0
Tells (plains.Manifest kind digest size) (replies.Manifest other named bytes) =
    (kind ≡ other) × (digest ≡ named) × (size ≡ length bytes)
Tells (plains.Blob digest size) reply = replies.Blob digest size ≡ reply
Tells (plains.Tags tags more) (replies.Tags name listed follow) = (tags ≡ listed) × (more ≡ follow)
Tells (plains.Refused refused) reply = replies.Refused refused ≡ reply
Tells plain reply = ⊥

-- What an answer is by its ask alone, whatever the registry has: also where its devices tell nothing of what they hold.
use Rattle.std.specs.Prelude.{◌≡◌, ℕ, Bool, List, [], length, Option, Some, None, ⊤}
use Rattle.reg_names.specs.declared.kind.Kind.{Kind}
use Rattle.reg_names.specs.declared.reference.Reference.{Reference}
use Rattle.reg_names.specs.declared.reference.Reference.TheVariants as references
use Rattle.manifest_doc.specs.declared.document.Doc.{Doc}
use Rattle.manifest_doc.specs.Stored.{IsStoredManifest}
use Rattle.reg_entries.specs.Numbers.{name_unknown, blob_unknown, manifest_unknown, read_only}
use Rattle.reg_entries.specs.declared.ask.Ask.{Ask}
use Rattle.reg_entries.specs.declared.ask.Ask.TheVariants as asks
use Rattle.reg_entries.specs.declared.reply.Reply.{Reply}
use Rattle.reg_entries.specs.declared.reply.Reply.TheVariants as replies
use Rattle.reg_model.specs.Answers.{refusal, lacking, Answer}

-- a refusal for what a repository lacks
abbrev pub IsLacking : ℕ → Reply → Type 0
IsLacking number reply = (known : Bool) × (reply ≡ lacking known number)

-- a blob of this digest with as many bytes as follow, or that there is none
abbrev pub FitsBlob : List ℕ → List ℕ → Reply → Type 0
FitsBlob digest content (replies.Blob named size) = (named ≡ digest) × (size ≡ length content)
FitsBlob digest content reply = IsLacking blob_unknown reply × (content ≡ [])

-- the reference may stand for this digest
abbrev pub MayBe : Option Reference → List ℕ → Type 0
MayBe None digest = ⊥
MayBe (Some (references.Tag tag)) digest = ⊤
MayBe (Some (references.Digest named)) digest = digest ≡ named

-- the bytes are a manifest of that kind under the digest
pub record IsVerified (kind : Kind) (digest bytes : List ℕ) : Type 0 where
  pub doc : Doc
  pub stored : IsStoredManifest digest bytes doc
  pub kind_is : doc.kind ≡ kind

-- a verified manifest under the reference, or that there is none
abbrev pub FitsManifest : Option Reference → Reply → Type 0
FitsManifest at (replies.Manifest kind digest bytes) = MayBe at digest × IsVerified kind digest bytes
FitsManifest at reply = IsLacking manifest_unknown reply

-- a list for this repository, or that it is unknown
abbrev pub FitsTags : List ℕ → Reply → Type 0
FitsTags name (replies.Tags named tags more) = named ≡ name
FitsTags name reply = reply ≡ refusal name_unknown

-- the answer is one to that ask
abbrev pub Fits : Ask → Answer → Type 0
Fits asks.Base answer = (answer.reply ≡ replies.Base) × (answer.content ≡ [])
Fits (asks.GetBlob name digest) answer = FitsBlob digest answer.content answer.reply
Fits (asks.GetManifest name at) answer = FitsManifest at answer.reply × (answer.content ≡ [])
Fits (asks.Tags name n last) answer = FitsTags name answer.reply × (answer.content ≡ [])
Fits ask answer = (answer.reply ≡ refusal read_only) × (answer.content ≡ [])

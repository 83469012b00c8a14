-- The registry as one thread runs it: what a request that changes it comes to (OCI Distribution Specification 1.1,
-- "Push" and "Content Management"). Each request comes to its reply and to what it changes, by what was looked up in the
-- state. What was looked up is the state's, where this is told; `told` says so.
use Rattle.std.specs.Prelude.{◌≡◌, ℕ, Bool, true, false, not, ◌&&◌, nat_eq, List, [], ◌∷◌, ◌++◌, length, map, find, codes, Option, Some, None, is_some, is_none, option_map, option_and_then, if◌then◌else◌, ⊤}
use Rattle.std.specs.Cmp.Lexicographic.{pointwise}
use Rattle.std.specs.Option.{option_or}
use Rattle.reg_names.specs.Digests.{digest_text}
use Rattle.reg_names.specs.declared.named.Named.{Named}
use Rattle.reg_names.specs.declared.reference.Reference.{Reference}
use Rattle.reg_names.specs.declared.reference.Reference.TheVariants.{Tag, Digest}
use Rattle.manifest_doc.specs.declared.document.Doc.{Doc}
use Rattle.manifest_doc.specs.declared.pushed.Judged.{Judged}
use Rattle.manifest_doc.specs.declared.pushed.Judged.TheVariants.{Good, Bad}
use Rattle.manifest_doc.specs.declared.pushed.Pushed.{Pushed}
use Rattle.reg_entries.specs.Documents.{kept_of}
use Rattle.reg_entries.specs.Listing.{AreTagsTo}
use Rattle.reg_entries.specs.Numbers.{blob_unknown, manifest_unknown, manifest_invalid, content_unknown, upload_in_use, digest_differs, manifest_listed}
use Rattle.reg_entries.specs.State.{State, IsLeastParent}
use Rattle.reg_entries.specs.declared.reply.Reply.{Reply}
use Rattle.reg_entries.specs.declared.reply.Reply.TheVariants as replies
use Rattle.reg_entries.specs.declared.reply.Detail.TheVariants as details
use Rattle.reg_journal.specs.declared.entry.What.{What}
use Rattle.reg_journal.specs.declared.entry.What.TheVariants.{Put, SetTag, DropTag, DropManifest, Link, Unlink}
use Rattle.reg_model.specs.Answers.{refusal, lacking, IsKnownAs}
use Rattle.reg_model.specs.Facts.{Facts}

-- ---- outcomes

-- what a request changes, which link files and tables both keep in their own way
pub data Change : Type 0 where
  -- an upload of a repository begins, with its id, at a moment
  begins : List ℕ → List ℕ → ℕ → Change
  -- the bytes of a repository's manifest are kept under its digest
  keeps : List ℕ → List ℕ → List ℕ → Change
  -- what an entry of the journal says
  enters : What → Change

-- the reply to a request, and what it changes, in the order in which that is made
pub record Outcome : Type 0 where
  pub reply : Reply
  pub changes : List Change

abbrev pub makes : Reply → List Change → Outcome
makes reply changes = record { reply = reply; changes = changes }

-- a request that is refused changes nothing
abbrev pub refuses : Reply → Outcome
refuses reply = makes reply []

-- the refusal with this number that tells a word
abbrev pub refusal_with : ℕ → List ℕ → Reply
refusal_with number word = replies.Refused (record { number = number; detail = details.Word word })

-- a repository lacks what was asked for
abbrev pub Lacks : Type 0 → State → List ℕ → ℕ → Outcome → Type 0
Lacks told state name number outcome =
    (known : Bool) × (told → IsKnownAs state name known) × (outcome ≡ refuses (lacking known number))

-- where all is told, a request comes to one outcome at most
abbrev pub HasOneOutcome : (Type 0 → Facts → Outcome → Type 0) → Type 0
HasOneOutcome Comes = (facts : Facts) (one two : Outcome) → Comes ⊤ facts one → Comes ⊤ facts two → one ≡ two

-- ---- uploads that begin, and blobs that are linked instead

-- An upload begins, or a digest is linked, where another repository links it: `size` is that of the other's link. An id
-- of an upload that stands is refused.
abbrev pub start_outcome : List ℕ → List ℕ → Option (List ℕ × List ℕ) → ℕ → Bool → Option ℕ → Outcome
start_outcome name id mount now true size = refuses (refusal upload_in_use)
start_outcome name id (Some mount) now false (Some size) =
    makes (replies.Mounted name mount.0) (enters (Link name mount.0 size) ∷ [])
start_outcome name id mount now false size = makes (replies.Started name id) (begins name id now ∷ [])

-- the size of the link of the digest that is to be mounted, in the repository that it is mounted from
abbrev pub source_size : State → Option (List ℕ × List ℕ) → Option ℕ
source_size state mount = option_and_then (λ m. state.links m.1 m.0) mount

-- a start of an upload
pub record Starts (name id : List ℕ) (mount : Option (List ℕ × List ℕ)) (now : ℕ) (told : Type 0) (facts : Facts)
    (outcome : Outcome) : Type 0 where
  pub stands : Bool
  pub size : Option ℕ
  pub stands_so : told → stands ≡ is_some (facts.uploads name id)
  pub size_so : told → size ≡ source_size facts.state mount
  pub is : outcome ≡ start_outcome name id mount now stands size

-- ---- manifests that are pushed

-- a digest that a manifest names is missing: it is not free, and the repository does not link it
abbrev pub is_missing : State → List ℕ → Named → Bool
is_missing state name named = not named.free && is_none (state.links name named.digest)

-- a child is missing: the repository does not have it as a manifest
abbrev pub is_absent : State → List ℕ → List ℕ → Bool
is_absent state name child = is_none (state.manifests name child)

-- the least named digest that is missing, or else the least child; the lists of a document ascend
abbrev pub missing_in : State → List ℕ → Doc → Option (List ℕ)
missing_in state name doc =
    option_or (option_map (λ n. n.digest) (find (is_missing state name) doc.named))
    (find (is_absent state name) doc.children)

-- a reference that is a digest is another one than that of the bytes
abbrev pub is_other : Reference → List ℕ → Bool
is_other (Tag tag) digest = false
is_other (Digest named) digest = not (pointwise nat_eq named digest)

-- a tag that is pushed to points to the digest
abbrev pub tagged : List ℕ → Reference → List ℕ → List Change
tagged name (Tag tag) digest = enters (SetTag name tag digest) ∷ []
tagged name (Digest named) digest = []

-- a manifest that lacks this is refused, and else it is kept, and stands
abbrev pub stored_outcome : List ℕ → Reference → List ℕ → List ℕ → Doc → Option (List ℕ) → Outcome
stored_outcome name at digest bytes doc (Some missing) = refuses (refusal_with content_unknown (digest_text missing))
stored_outcome name at digest bytes doc None =
    makes (replies.Stored name digest)
    (keeps name digest bytes
    ∷ enters (Put name digest (kept_of doc.kind (length bytes) doc.named doc.children)) ∷ tagged name at digest)

-- a document is pushed under a reference, which has to be its digest where it is one
abbrev pub document_outcome : List ℕ → Reference → List ℕ → List ℕ → Doc → Option (List ℕ) → Outcome
document_outcome name at digest bytes doc missing =
    if is_other at digest then refuses (refusal_with digest_differs (digest_text digest))
    else stored_outcome name at digest bytes doc missing

pub record PushesDocument (name : List ℕ) (at : Reference) (digest bytes : List ℕ) (doc : Doc) (told : Type 0)
    (facts : Facts) (outcome : Outcome) : Type 0 where
  pub missing : Option (List ℕ)
  pub missing_so : told → missing ≡ missing_in facts.state name doc
  pub is : outcome ≡ document_outcome name at digest bytes doc missing

abbrev pub PushesJudged : List ℕ → Reference → List ℕ → List ℕ → Judged → Type 0 → Facts → Outcome → Type 0
PushesJudged name at digest bytes (Bad word) told facts outcome =
    outcome ≡ refuses (refusal_with manifest_invalid word)
PushesJudged name at digest bytes (Good doc) told facts outcome =
    PushesDocument name at digest bytes doc told facts outcome

-- a push of a manifest; a text that is no reference is refused first, and then bytes that are no manifest
abbrev pub Pushes : List ℕ → Option Reference → Pushed → Type 0 → Facts → Outcome → Type 0
Pushes name None pushed told facts outcome =
    outcome ≡ refuses (refusal_with manifest_invalid (codes "Reference"))
Pushes name (Some at) pushed told facts outcome =
    PushesJudged name at pushed.digest pushed.bytes pushed.judged told facts outcome

-- ---- what is removed

-- a link goes, or the repository does not link the digest
abbrev pub UnlinksBy : Type 0 → State → List ℕ → List ℕ → Bool → Outcome → Type 0
UnlinksBy told state name digest true outcome = outcome ≡ makes replies.Dropped (enters (Unlink name digest) ∷ [])
UnlinksBy told state name digest false outcome = Lacks told state name blob_unknown outcome

-- a removal of a repository's link to a blob
pub record Unlinks (name digest : List ℕ) (told : Type 0) (facts : Facts) (outcome : Outcome) : Type 0 where
  pub linked : Bool
  pub linked_so : told → linked ≡ is_some (facts.state.links name digest)
  pub is : UnlinksBy told facts.state name digest linked outcome

abbrev pub UntagsBy : Type 0 → State → List ℕ → List ℕ → Bool → Outcome → Type 0
UntagsBy told state name tag true outcome = outcome ≡ makes replies.Dropped (enters (DropTag name tag) ∷ [])
UntagsBy told state name tag false outcome = Lacks told state name manifest_unknown outcome

-- a removal of a tag
pub record Untags (name tag : List ℕ) (told : Type 0) (facts : Facts) (outcome : Outcome) : Type 0 where
  pub stands : Bool
  pub stands_so : told → stands ≡ is_some (facts.state.tags name tag)
  pub is : UntagsBy told facts.state name tag stands outcome

-- a manifest goes, and the tags that point to it go before it
abbrev pub dropped : List ℕ → List ℕ → List (List ℕ) → List Change
dropped name digest tags = map (λ tag. enters (DropTag name tag)) tags ++ enters (DropManifest name digest) ∷ []

-- it goes with these tags, unless another manifest lists it
abbrev pub drop_outcome : List ℕ → List ℕ → Option (List ℕ) → List (List ℕ) → Outcome
drop_outcome name digest (Some lister) tags = refuses (refusal_with manifest_listed (digest_text lister))
drop_outcome name digest None tags = makes replies.Dropped (dropped name digest tags)

-- it stands, with this lister, if there is one, and these tags that point to it
pub record DropsStanding (told : Type 0) (state : State) (name digest : List ℕ) (outcome : Outcome) : Type 0 where
  pub lister : Option (List ℕ)
  pub tags : List (List ℕ)
  pub lister_so : told → IsLeastParent state name digest lister
  pub tags_so : told → lister ≡ None → AreTagsTo state name digest tags
  pub is : outcome ≡ drop_outcome name digest lister tags

abbrev pub DropsBy : Type 0 → State → List ℕ → List ℕ → Bool → Outcome → Type 0
DropsBy told state name digest true outcome = DropsStanding told state name digest outcome
DropsBy told state name digest false outcome = Lacks told state name manifest_unknown outcome

-- a removal of a manifest
pub record DropsManifest (name digest : List ℕ) (told : Type 0) (facts : Facts) (outcome : Outcome) : Type 0 where
  pub stands : Bool
  pub stands_so : told → stands ≡ is_some (facts.state.manifests name digest)
  pub is : DropsBy told facts.state name digest stands outcome

-- a removal of what a reference stands for: a tag, or a manifest; a text that is no reference stands for nothing
abbrev pub Drops : List ℕ → Option Reference → Type 0 → Facts → Outcome → Type 0
Drops name None told facts outcome = Lacks told facts.state name manifest_unknown outcome
Drops name (Some (Tag tag)) told facts outcome = Untags name tag told facts outcome
Drops name (Some (Digest digest)) told facts outcome = DropsManifest name digest told facts outcome

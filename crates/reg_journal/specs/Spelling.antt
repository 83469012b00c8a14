-- The one spelling of an entry: a byte for its kind, its moment, and its fields. Numbers are big-endian.
use Rattle.std.specs.Prelude.{ℕ, Bool, true, false, List, [], ◌∷◌, ◌++◌, length}
use Rattle.std.specs.List.{flat_map}
use Rattle.std.specs.Int.{w16, w64, to_be_bytes}
use Rattle.reg_names.specs.declared.kind.Kind.{Kind}
use Rattle.reg_names.specs.declared.kind.Kind.TheVariants.{OciImage, OciIndex, DockerImage, DockerList}
use Rattle.reg_names.specs.declared.named.Named.{Named}
use Rattle.reg_entries.specs.Documents.{KeptManifest}
use Rattle.reg_journal.specs.declared.entry.Entry.{Entry}
use Rattle.reg_journal.specs.declared.entry.What.{What}
use Rattle.reg_journal.specs.declared.entry.What.TheVariants.{Put, SetTag, DropTag, DropManifest, Mark, Link, Unlink, Brought, BroughtLink, BroughtTag, RemovedManifest, RemovedLink, Opened, BroughtBlob, Collect, DropLink, Doom, Erase}
use Rattle.reg_journal.specs.Numbers.{number_of}

-- ---- fields

-- a moment or a size: eight bytes
abbrev pub number_field : ℕ → List ℕ
number_field n = to_be_bytes w64 n

-- how many items follow: two bytes
abbrev pub count_field : ℕ → List ℕ
count_field n = to_be_bytes w16 n

-- a name or a tag: a byte for its length, and its bytes
abbrev pub text_field : List ℕ → List ℕ
text_field text = length text ∷ text

-- a digest: its algorithm's byte, which is 1, and its 32 bytes
abbrev pub digest_field : List ℕ → List ℕ
digest_field digest = digest

-- whether a digest is free: 1 where it is, and else 0
abbrev pub free_number : Bool → ℕ
free_number true = 1
free_number false = 0

abbrev pub free_field : Bool → List ℕ
free_field free = free_number free ∷ []

-- a kind of manifests: its number
abbrev pub kind_number : Kind → ℕ
kind_number OciImage = 1
kind_number OciIndex = 2
kind_number DockerImage = 3
kind_number DockerList = 4

abbrev pub kind_field : Kind → List ℕ
kind_field kind = kind_number kind ∷ []

-- a digest that a manifest names, and whether it is free
abbrev pub named_field : Named → List ℕ
named_field named = digest_field named.digest ++ free_field named.free

-- how many items there are, and each of them
abbrev pub list_field : {A : Type 0} → (A → List ℕ) → List A → List ℕ
list_field item items = count_field (length items) ++ flat_map item items

-- what is kept of a manifest
abbrev pub document_field : KeptManifest → List ℕ
document_field doc =
    kind_field doc.kind
    ++ (number_field doc.size ++ (list_field named_field doc.named ++ list_field digest_field doc.children))

-- ---- entries

-- the fields of an entry, by its kind
abbrev pub fields_of : What → List ℕ
fields_of (Put name digest doc) = text_field name ++ (digest_field digest ++ document_field doc)
fields_of (SetTag name tag digest) = text_field name ++ (text_field tag ++ digest_field digest)
fields_of (DropTag name tag) = text_field name ++ text_field tag
fields_of (DropManifest name digest) = text_field name ++ digest_field digest
fields_of (Mark digest) = digest_field digest
fields_of (Link name digest size) = text_field name ++ (digest_field digest ++ number_field size)
fields_of (Unlink name digest) = text_field name ++ digest_field digest
fields_of (Brought name digest doc) = text_field name ++ (digest_field digest ++ document_field doc)
fields_of (BroughtLink name digest size) = text_field name ++ (digest_field digest ++ number_field size)
fields_of (BroughtTag name tag digest) = text_field name ++ (text_field tag ++ digest_field digest)
fields_of (RemovedManifest name digest) = text_field name ++ digest_field digest
fields_of (RemovedLink name digest) = text_field name ++ digest_field digest
fields_of Opened = []
fields_of (BroughtBlob digest size) = digest_field digest ++ number_field size
fields_of (Collect name digest) = text_field name ++ digest_field digest
fields_of (DropLink name digest) = text_field name ++ digest_field digest
fields_of (Doom digest) = digest_field digest
fields_of (Erase digest) = digest_field digest

-- an entry's bytes
abbrev pub entry_spelled : Entry → List ℕ
entry_spelled entry = number_of entry.what ∷ (number_field entry.moment ++ fields_of entry.what)

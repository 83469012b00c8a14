-- The proof's own: no public clause cites what stands here.
-- How the fields of an entry are read, from left to right: each with the bytes behind it.
use Rattle.std.specs.Prelude.{◌≡◌, ℕ, zero, suc, ◌==◌, ◌&&◌, nat_lt, nat_le, if◌then◌else◌, Bool, true, false, List, [], ◌∷◌, length, take, drop, Option, Some, None, Result, Ok, Err, ⊤}
use Rattle.std.specs.List.{list_all}
use Rattle.std.specs.Int.{Width, w16, w64, byte_len, from_be_bytes}
use Rattle.std.specs.Ordering.{nat_cmp, is_lt}
use Rattle.std.specs.Cmp.Lexicographic.{slice_cmp}
use Rattle.reg_names.specs.declared.kind.Kind.{Kind}
use Rattle.reg_names.specs.declared.kind.Kind.TheVariants.{OciImage, OciIndex, DockerImage, DockerList}
use Rattle.reg_names.specs.declared.named.Named.{Named}
use Rattle.reg_names.specs.Limits.{sha256_length}
use Rattle.reg_names.specs.Named.{digests_of}
use Rattle.reg_names.specs.Names.{is_name}
use Rattle.reg_names.specs.Tags.{is_tag}
use Rattle.reg_entries.specs.Documents.{KeptManifest, kept_of, list_limit}
use Rattle.reg_journal.specs.declared.entry.Entry.{Entry}
use Rattle.reg_journal.specs.declared.entry.What.{What}
use Rattle.reg_journal.specs.declared.entry.What.TheVariants.{Put, SetTag, DropTag, DropManifest, Mark, Link, Unlink, Brought, BroughtLink, BroughtTag, RemovedManifest, RemovedLink, Opened, BroughtBlob, Collect, DropLink, Doom, Erase}
use Rattle.reg_journal.specs.declared.unread.Unread.{Unread}
use Rattle.reg_journal.specs.declared.unread.Unread.TheVariants as unread

infixl 10 ◌>>=◌
abbrev pub ◌>>=◌ : {A B : Type 0} → Option A → (A → Option B) → Option B
(Some x) >>= f = f x
None >>= f = None

-- what a function gave, seen so, is what reading gives, unless memory was wanting
abbrev pub Fails : {Y : Type 0} → Unread → Option Y → Type 0
Fails unread.NoMemory read = ⊤
Fails unread.Malformed read = read ≡ None

abbrev pub Gives : {X Y : Type 0} → (X → Y) → Result X Unread → Option Y → Type 0
Gives view (Ok x) read = read ≡ Some (view x)
Gives view (Err e) read = Fails e read

-- ---- fields

unfoldable pub byte_at : List ℕ → Option (ℕ × List ℕ)
byte_at [] = None
byte_at (b ∷ bs) = Some (b, bs)

unfoldable pub number_at : Width → List ℕ → Option (ℕ × List ℕ)
number_at w bytes =
    if nat_lt (length bytes) (byte_len w) then None
    else Some (from_be_bytes w (take (byte_len w) bytes), drop (byte_len w) bytes)

-- so many bytes
unfoldable pub bytes_at : ℕ → List ℕ → Option (List ℕ × List ℕ)
bytes_at n bytes = if nat_lt (length bytes) n then None else Some (take n bytes, drop n bytes)

unfoldable pub text_at : List ℕ → Option (List ℕ × List ℕ)
text_at bytes = do
  len ← byte_at bytes
  bytes_at len.0 len.1

abbrev pub name_of : List ℕ → Option (List ℕ)
name_of text = if is_name text then Some text else None

unfoldable pub name_at : List ℕ → Option (List ℕ × List ℕ)
name_at bytes = do
  text ← text_at bytes
  name ← name_of text.0
  Some (name, text.1)

abbrev pub tag_of : List ℕ → Option (List ℕ)
tag_of text = if is_tag text then Some text else None

unfoldable pub tag_at : List ℕ → Option (List ℕ × List ℕ)
tag_at bytes = do
  text ← text_at bytes
  tag ← tag_of text.0
  Some (tag, text.1)

unfoldable pub digest_at : List ℕ → Option (List ℕ × List ℕ)
digest_at bytes = do
  algorithm ← byte_at bytes
  raw ← bytes_at sha256_length algorithm.1
  if algorithm.0 == 1 then Some (1 ∷ raw.0, raw.1) else None

-- ---- documents

abbrev pub free_of : ℕ → Option Bool
free_of n = if n == 0 then Some false else if n == 1 then Some true else None

abbrev pub kind_of : ℕ → Option Kind
kind_of n =
    if n == 1 then Some OciImage
    else if n == 2 then Some OciIndex
    else if n == 3 then Some DockerImage
    else if n == 4 then Some DockerList
    else None

unfoldable pub kind_at : List ℕ → Option (Kind × List ℕ)
kind_at bytes = do
  number ← byte_at bytes
  kind ← kind_of number.0
  Some (kind, number.1)

unfoldable pub free_at : List ℕ → Option (Bool × List ℕ)
free_at bytes = do
  number ← byte_at bytes
  free ← free_of number.0
  Some (free, number.1)

-- a named digest of these parts
abbrev pub named_of : List ℕ → Bool → Named
named_of digest free = record { digest = digest; free = free }

unfoldable pub named_at : List ℕ → Option (Named × List ℕ)
named_at bytes = do
  digest ← digest_at bytes
  free ← free_at digest.1
  Some (named_of digest.0 free.0, free.1)

-- so many items
unfoldable pub items_at : {A : Type 0} → (List ℕ → Option (A × List ℕ)) → ℕ → List ℕ → Option (List A × List ℕ)
items_at item_at zero bytes = Some ([], bytes)
items_at item_at (suc n) bytes = do
  first ← item_at bytes
  others ← items_at item_at n first.1
  Some (first.0 ∷ others.0, others.1)

-- how many items there are, and the items
unfoldable pub list_at : {A : Type 0} → (List ℕ → Option (A × List ℕ)) → List ℕ → Option (List A × List ℕ)
list_at item_at bytes = do
  count ← number_at w16 bytes
  items_at item_at count.0 count.1

-- each digest is below those that follow
abbrev pub ascends : List (List ℕ) → Bool
ascends [] = true
ascends (d ∷ ds) = list_all (λ e. is_lt (slice_cmp nat_cmp d e)) ds && ascends ds

abbrev pub is_digest_list : List (List ℕ) → Bool
is_digest_list ds = nat_le (length ds) list_limit && ascends ds

unfoldable pub is_kept : KeptManifest → Bool
is_kept doc = is_digest_list (digests_of doc.named) && is_digest_list doc.children

unfoldable pub document_at : List ℕ → Option (KeptManifest × List ℕ)
document_at bytes = do
  kind ← kind_at bytes
  size ← number_at w64 kind.1
  named ← list_at named_at size.1
  children ← list_at digest_at named.1
  let doc = kept_of kind.0 size.0 named.0 children.0 in
      if is_kept doc then Some (doc, children.1) else None

-- ---- entries

-- a repository and a digest
unfoldable pub spot_at : List ℕ → Option ((List ℕ × List ℕ) × List ℕ)
spot_at bytes = do
  name ← name_at bytes
  digest ← digest_at name.1
  Some ((name.0, digest.0), digest.1)

-- a repository and a tag
unfoldable pub tag_spot_at : List ℕ → Option ((List ℕ × List ℕ) × List ℕ)
tag_spot_at bytes = do
  name ← name_at bytes
  tag ← tag_at name.1
  Some ((name.0, tag.0), tag.1)

-- a tag of a repository, and where it points to
unfoldable pub target_at : List ℕ → Option (((List ℕ × List ℕ) × List ℕ) × List ℕ)
target_at bytes = do
  spot ← tag_spot_at bytes
  digest ← digest_at spot.1
  Some ((spot.0, digest.0), digest.1)

-- a manifest of a repository
unfoldable pub manifest_at : List ℕ → Option (((List ℕ × List ℕ) × KeptManifest) × List ℕ)
manifest_at bytes = do
  spot ← spot_at bytes
  doc ← document_at spot.1
  Some ((spot.0, doc.0), doc.1)

-- a link of a repository
unfoldable pub link_at : List ℕ → Option (((List ℕ × List ℕ) × ℕ) × List ℕ)
link_at bytes = do
  spot ← spot_at bytes
  size ← number_at w64 spot.1
  Some ((spot.0, size.0), size.1)

-- a blob
unfoldable pub blob_at : List ℕ → Option ((List ℕ × ℕ) × List ℕ)
blob_at bytes = do
  digest ← digest_at bytes
  size ← number_at w64 digest.1
  Some ((digest.0, size.0), size.1)

-- what fields make, with the bytes behind them
abbrev pub made : {A : Type 0} → (A → What) → Option (A × List ℕ) → Option (What × List ℕ)
made make (Some x) = Some (make x.0, x.1)
made make None = None

-- the number of each kind, and how its fields are read
unfoldable pub kinds : List (ℕ × (List ℕ → Option (What × List ℕ)))
kinds =
    (1, λ bytes. made (λ m. Put m.0.0 m.0.1 m.1) (manifest_at bytes))
    ∷ (2, λ bytes. made (λ t. SetTag t.0.0 t.0.1 t.1) (target_at bytes))
    ∷ (3, λ bytes. made (λ t. DropTag t.0 t.1) (tag_spot_at bytes))
    ∷ (4, λ bytes. made (λ s. DropManifest s.0 s.1) (spot_at bytes))
    ∷ (5, λ bytes. made Mark (digest_at bytes))
    ∷ (6, λ bytes. made (λ l. Link l.0.0 l.0.1 l.1) (link_at bytes))
    ∷ (7, λ bytes. made (λ s. Unlink s.0 s.1) (spot_at bytes))
    ∷ (8, λ bytes. made (λ m. Brought m.0.0 m.0.1 m.1) (manifest_at bytes))
    ∷ (9, λ bytes. made (λ l. BroughtLink l.0.0 l.0.1 l.1) (link_at bytes))
    ∷ (10, λ bytes. made (λ t. BroughtTag t.0.0 t.0.1 t.1) (target_at bytes))
    ∷ (11, λ bytes. made (λ s. RemovedManifest s.0 s.1) (spot_at bytes))
    ∷ (12, λ bytes. made (λ s. RemovedLink s.0 s.1) (spot_at bytes))
    ∷ (13, λ bytes. Some (Opened, bytes))
    ∷ (14, λ bytes. made (λ b. BroughtBlob b.0 b.1) (blob_at bytes))
    ∷ (15, λ bytes. made (λ s. Collect s.0 s.1) (spot_at bytes))
    ∷ (16, λ bytes. made (λ s. DropLink s.0 s.1) (spot_at bytes))
    ∷ (17, λ bytes. made Doom (digest_at bytes))
    ∷ (18, λ bytes. made Erase (digest_at bytes))
    ∷ []

abbrev pub first_kind : ℕ → List (ℕ × (List ℕ → Option (What × List ℕ))) → List ℕ → Option (What × List ℕ)
first_kind n [] bytes = None
first_kind n (k ∷ ks) bytes = if n == k.0 then k.1 bytes else first_kind n ks bytes

unfoldable pub what_at : ℕ → List ℕ → Option (What × List ℕ)
what_at n bytes = first_kind n kinds bytes

abbrev pub entry_of : ℕ → What → Entry
entry_of moment what = record { moment = moment; what = what }

-- all of the bytes
unfoldable pub entry_at : List ℕ → Option Entry
entry_at bytes = do
  number ← byte_at bytes
  moment ← number_at w64 number.1
  what ← what_at number.0 moment.1
  if length what.1 == 0 then Some (entry_of moment.0 what.0) else None

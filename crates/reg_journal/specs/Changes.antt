-- What entries change and touch, each by its kind, and what a journal replays to.
use Rattle.std.specs.Prelude.{ℕ, nat_eq, ◌++◌, ◌&&◌, ◌||◌, Bool, false, if◌then◌else◌, List, [], ◌∷◌, Option, Some, None, is_some}
use Rattle.std.specs.Option.{option_map_or}
use Rattle.std.specs.Cmp.Lexicographic.{pointwise}
use Rattle.reg_names.specs.Named.{has_digest, digests_of}
use Rattle.reg_entries.specs.Documents.{KeptManifest}
use Rattle.reg_entries.specs.State.{lists_child}
use Rattle.reg_journal.specs.declared.entry.Entry.{Entry}
use Rattle.reg_journal.specs.declared.entry.What.{What}
use Rattle.reg_journal.specs.declared.entry.What.TheVariants.{Put, SetTag, DropTag, DropManifest, Mark, Link, Unlink, Brought, BroughtLink, BroughtTag, RemovedManifest, RemovedLink, Opened, BroughtBlob, Collect, DropLink, Doom, Erase}
use Rattle.reg_journal.specs.declared.past.KeptLink.{KeptLink}
use Rattle.reg_journal.specs.declared.past.Condemned.{Condemned}
use Rattle.reg_journal.specs.Past.{Past, nothing, next_number}

-- ---- tests

-- whether two names, tags or digests are one
abbrev pub is_same : List ℕ → List ℕ → Bool
is_same one other = pointwise nat_eq one other

-- whether two repositories are one, and two digests or tags
abbrev pub is_at : List ℕ → List ℕ → List ℕ → List ℕ → Bool
is_at name key of other = is_same name of && is_same key other

-- whether a tag that points so points to the digest
abbrev pub points_to : List ℕ → Option (List ℕ) → Bool
points_to digest target = option_map_or (λ d. is_same d digest) target false

-- whether a manifest, where there is one, names the digest
abbrev pub names_digest : List ℕ → Option KeptManifest → Bool
names_digest digest manifest = option_map_or (λ m. has_digest digest (digests_of m.named)) manifest false

-- ---- what changes

-- f with something else at one digest, or at one place of a repository
abbrev pub with_one : {A : Type 0} → (List ℕ → A) → List ℕ → A → List ℕ → A
with_one f digest new = λ other. if is_same digest other then new else f other

abbrev pub with_in : {A : Type 0} → (List ℕ → List ℕ → A) → List ℕ → List ℕ → A → List ℕ → List ℕ → A
with_in f name key new = λ of other. if is_at name key of other then new else f of other

abbrev pub with_manifest : List ℕ → List ℕ → Option KeptManifest → Past → Past
with_manifest name digest manifest past = record past { manifests = with_in past.manifests name digest manifest }

abbrev pub with_link : List ℕ → List ℕ → Option KeptLink → Past → Past
with_link name digest link past = record past { links = with_in past.links name digest link }

abbrev pub with_tag : List ℕ → List ℕ → Option (List ℕ) → Past → Past
with_tag name tag target past = record past { tags = with_in past.tags name tag target }

-- the repository has no tag to the digest
abbrev pub without_tags : List ℕ → List ℕ → Past → Past
without_tags name digest past = record past {
  tags = λ of tag.
      if is_same name of && points_to digest (past.tags of tag) then None else past.tags of tag;
}

abbrev pub with_condemned : List ℕ → Option Condemned → Past → Past
with_condemned digest condemned past = record past { condemned = with_one past.condemned digest condemned }

abbrev pub link_of : ℕ → ℕ → KeptLink
link_of size moment = record { size = size; moment = moment }

abbrev pub condemned_at : ℕ → ℕ → Condemned
condemned_at number moment = record { number = number; moment = moment }

-- what an entry with this number and moment changes
abbrev pub changed : ℕ → ℕ → What → Past → Past
changed number now (Put name digest doc) past = with_manifest name digest (Some doc) past
changed number now (SetTag name tag digest) past = with_tag name tag (Some digest) past
changed number now (DropTag name tag) past = with_tag name tag None past
changed number now (DropManifest name digest) past = with_manifest name digest None past
changed number now (Mark digest) past = past
changed number now (Link name digest size) past = with_link name digest (Some (link_of size now)) past
changed number now (Unlink name digest) past = with_link name digest None past
changed number now (Brought name digest doc) past = with_manifest name digest (Some doc) past
changed number now (BroughtLink name digest size) past = with_link name digest (Some (link_of size now)) past
changed number now (BroughtTag name tag digest) past = with_tag name tag (Some digest) past
changed number now (RemovedManifest name digest) past = without_tags name digest (with_manifest name digest None past)
changed number now (RemovedLink name digest) past = with_link name digest None past
changed number now Opened past = past
changed number now (BroughtBlob digest size) past = past
changed number now (Collect name digest) past = with_manifest name digest None past
changed number now (DropLink name digest) past = with_link name digest None past
changed number now (Doom digest) past = with_condemned digest (Some (condemned_at number now)) past
changed number now (Erase digest) past = with_condemned digest None past

-- ---- what is touched

-- whether an entry touches a manifest of a repository, where it stands behind the entry
abbrev pub touches_manifest : Past → What → List ℕ → List ℕ → Bool
touches_manifest past (Put name digest doc) of other = is_at name digest of other
touches_manifest past (SetTag name tag digest) of other =
    is_at name digest of other || (is_same name of && points_to other (past.tags name tag))
touches_manifest past (DropTag name tag) of other = is_same name of && points_to other (past.tags name tag)
touches_manifest past (DropManifest name digest) of other =
    is_same name of && lists_child other (past.manifests name digest)
touches_manifest past (Brought name digest doc) of other = is_at name digest of other
touches_manifest past (BroughtTag name tag digest) of other =
    is_at name digest of other || (is_same name of && points_to other (past.tags name tag))
touches_manifest past (RemovedManifest name digest) of other =
    is_same name of && lists_child other (past.manifests name digest)
touches_manifest past (Collect name digest) of other =
    is_same name of && lists_child other (past.manifests name digest)
touches_manifest past what of other = false

-- whether an entry touches a blob
abbrev pub touches_blob : Past → What → List ℕ → Bool
touches_blob past (DropManifest name digest) other = names_digest other (past.manifests name digest)
touches_blob past (Mark digest) other = is_same digest other
touches_blob past (Link name digest size) other = is_same digest other
touches_blob past (Unlink name digest) other = is_same digest other
touches_blob past (BroughtLink name digest size) other = is_same digest other
touches_blob past (RemovedManifest name digest) other = names_digest other (past.manifests name digest)
touches_blob past (RemovedLink name digest) other = is_same digest other
touches_blob past (BroughtBlob digest size) other = is_same digest other
touches_blob past (Collect name digest) other = names_digest other (past.manifests name digest)
touches_blob past (DropLink name digest) other = is_same digest other
touches_blob past what other = false

-- ---- what is rowed

-- a digest that is rowed keeps its size; another one is rowed now
abbrev pub kept_size : Option (Option ℕ) → Option (Option ℕ)
kept_size None = Some None
kept_size (Some size) = Some size

abbrev pub sizes_after : (List ℕ → Option (Option ℕ)) → What → List ℕ → Option (Option ℕ)
sizes_after sizes (Mark digest) = with_one sizes digest (kept_size (sizes digest))
sizes_after sizes (Link name digest size) = with_one sizes digest (Some (Some size))
sizes_after sizes (BroughtLink name digest size) = with_one sizes digest (Some (Some size))
sizes_after sizes (BroughtBlob digest size) = with_one sizes digest (Some (Some size))
sizes_after sizes (Erase digest) = with_one sizes digest None
sizes_after sizes what = sizes

-- ---- journals

-- when something was touched last, by whether it is touched now
abbrev pub touched : Bool → ℕ → Option ℕ → Option ℕ
touched now moment before = if now then Some moment else before

-- what an entry leaves
abbrev pub apply : Past → Entry → Past
apply past entry =
    let after = changed (next_number past) entry.moment entry.what past in
    record after {
      entries = past.entries ++ entry ∷ [];
      manifest_touched = λ name digest.
          if is_some (after.manifests name digest)
          then touched (touches_manifest past entry.what name digest) entry.moment (past.manifest_touched name digest)
          else None;
      blob_touched = λ digest. touched (touches_blob past entry.what digest) entry.moment (past.blob_touched digest);
      sizes = sizes_after past.sizes entry.what;
    }

-- what a journal leaves
abbrev pub replay_from : Past → List Entry → Past
replay_from past [] = past
replay_from past (entry ∷ entries) = replay_from (apply past entry) entries

abbrev pub replay : List Entry → Past
replay journal = replay_from nothing journal

-- What a journal of entries keeps, it keeps by names, digests and tags.
use Rattle.std.proofs.Common.{◌≡◌, ℕ, Bool, true, false, cond, List, [], ◌∷◌, Option, Some, None, refl, subst}
use Rattle.std.specs.Prelude.{◌&&◌, IsSome}
use Rattle.std.specs.List.{AllByRecursion}
use Rattle.std.proofs.lemmas.Bool.{false≢true, and_parts}
use Rattle.reg_names.specs.Digests.{IsDigest}
use Rattle.reg_names.specs.Names.{IsName}
use Rattle.reg_names.specs.Tags.{IsTag}
use Rattle.reg_journal.specs.declared.entry.Entry.{Entry}
use Rattle.reg_journal.specs.declared.entry.What.{What}
use Rattle.reg_journal.specs.declared.entry.What.TheVariants.{Put, SetTag, DropTag, DropManifest, Mark, Link, Unlink, Brought, BroughtLink, BroughtTag, RemovedManifest, RemovedLink, Opened, BroughtBlob, Collect, DropLink, Doom, Erase}
use Rattle.reg_journal.specs.Changes.{is_same, is_at, points_to, with_in, link_of, apply, replay_from, replay}
use Rattle.reg_journal.specs.Entries.{IsEntry, IsWhat}
use Rattle.reg_journal.specs.Keeping.{IsKeptBy, AreKeptByNames}
use Rattle.reg_journal.specs.Legal.{made_at}
use Rattle.reg_journal.specs.Past.{Past, nothing}
use Rattle.reg_journal.proofs.JournalLaws.{one}

absent : {X : Type 0} → false ≡ true → X
absent h = absurd (false≢true h)

module _ {A : Type 0} (IsKey : List ℕ → Type 0) (keeps : List ℕ → List ℕ → Option A) (r d : List ℕ) where
  put_by : (x : A) → IsKeptBy IsKey keeps → IsName r × IsKey d → IsKeptBy IsKey (with_in keeps r d (Some x))
  put_by x kept is name key = by (is_at r d name key) refl
    where
      by : (b : Bool) → is_at r d name key ≡ b → IsSome (cond b (Some x) (keeps name key)) → IsName name × IsKey key
      by true e h =
          let both = and_parts (is_same r name) (is_same d key) e in
          (subst IsName (one r name both.0) is.0, subst IsKey (one d key both.1) is.1)
      by false e h = kept name key h

  dropped_by : IsKeptBy IsKey keeps → IsKeptBy IsKey (with_in keeps r d None)
  dropped_by kept name key = by (is_at r d name key)
    where
      by : (b : Bool) → IsSome (cond b None (keeps name key)) → IsName name × IsKey key
      by true h = absent h
      by false h = kept name key h

untagged_by : (tags : List ℕ → List ℕ → Option (List ℕ)) (r d : List ℕ) → IsKeptBy IsTag tags → IsKeptBy IsTag (λ (of tag : List ℕ). cond (is_same r of && points_to d (tags of tag)) None (tags of tag))
untagged_by tags r d kept name key = by (is_same r name && points_to d (tags name key))
  where
    by : (b : Bool) → IsSome (cond b None (tags name key)) → IsName name × IsTag key
    by true h = absent h
    by false h = kept name key h

named_after : (past : Past) (now : ℕ) (what : What) → IsWhat what → AreKeptByNames past → AreKeptByNames (apply past (made_at now what))
named_after past now (Put r d doc) is h = record { manifests = put_by IsDigest past.manifests r d doc h.manifests (is.0, is.1); links = h.links; tags = h.tags }
named_after past now (SetTag r t d) is h = record { manifests = h.manifests; links = h.links; tags = put_by IsTag past.tags r t d h.tags (is.0, is.1) }
named_after past now (DropTag r t) is h = record { manifests = h.manifests; links = h.links; tags = dropped_by IsTag past.tags r t h.tags }
named_after past now (DropManifest r d) is h = record { manifests = dropped_by IsDigest past.manifests r d h.manifests; links = h.links; tags = h.tags }
named_after past now (Mark d) is h = record { manifests = h.manifests; links = h.links; tags = h.tags }
named_after past now (Link r d size) is h = record { manifests = h.manifests; links = put_by IsDigest past.links r d (link_of size now) h.links (is.0, is.1); tags = h.tags }
named_after past now (Unlink r d) is h = record { manifests = h.manifests; links = dropped_by IsDigest past.links r d h.links; tags = h.tags }
named_after past now (Brought r d doc) is h = record { manifests = put_by IsDigest past.manifests r d doc h.manifests (is.0, is.1); links = h.links; tags = h.tags }
named_after past now (BroughtLink r d size) is h = record { manifests = h.manifests; links = put_by IsDigest past.links r d (link_of size now) h.links (is.0, is.1); tags = h.tags }
named_after past now (BroughtTag r t d) is h = record { manifests = h.manifests; links = h.links; tags = put_by IsTag past.tags r t d h.tags (is.0, is.1) }
named_after past now (RemovedManifest r d) is h = record { manifests = dropped_by IsDigest past.manifests r d h.manifests; links = h.links; tags = untagged_by past.tags r d h.tags }
named_after past now (RemovedLink r d) is h = record { manifests = h.manifests; links = dropped_by IsDigest past.links r d h.links; tags = h.tags }
named_after past now Opened is h = record { manifests = h.manifests; links = h.links; tags = h.tags }
named_after past now (BroughtBlob d size) is h = record { manifests = h.manifests; links = h.links; tags = h.tags }
named_after past now (Collect r d) is h = record { manifests = dropped_by IsDigest past.manifests r d h.manifests; links = h.links; tags = h.tags }
named_after past now (DropLink r d) is h = record { manifests = h.manifests; links = dropped_by IsDigest past.links r d h.links; tags = h.tags }
named_after past now (Doom d) is h = record { manifests = h.manifests; links = h.links; tags = h.tags }
named_after past now (Erase d) is h = record { manifests = h.manifests; links = h.links; tags = h.tags }

named_from : (past : Past) (h : List Entry) → AllByRecursion IsEntry h → AreKeptByNames past → AreKeptByNames (replay_from past h)
named_from past [] are kept = kept
named_from past (e ∷ h) are kept = named_from (apply past e) h are.1 (named_after past e.moment e.what are.0.what kept)

pub kept_by_names : (h : List Entry) → AllByRecursion IsEntry h → AreKeptByNames (replay h)
kept_by_names h are = named_from nothing h are (record { manifests = λ name key. absent; links = λ name key. absent; tags = λ name key. absent })

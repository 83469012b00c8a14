-- What is broken.
use Rattle.std.proofs.Common.{◌≡◌, ℕ, List, None, refl, sym, subst}
use Rattle.std.specs.Prelude.{◌↔◌, IsSome}
use Rattle.reg_names.specs.Names.{IsName}
use Rattle.reg_names.specs.Tags.{IsTag}
use Rattle.reg_names.specs.Digests.{IsDigest}
use Rattle.depot_api.specs.Files.{Files}
use Rattle.link_paths.specs.declared.place.Place.{Place}
use Rattle.link_paths.specs.declared.place.Place.TheVariants.{BlobData, Revision, TagCurrent, TagIndex, Layer, UploadData, UploadStarted}
use Rattle.link_paths.specs.Places.{IsPlace, place_path, layer_path, revision_path, tag_path}
use Rattle.link_paths.proofs.ApartPlaces.{same_place}
use Rattle.reg_entries.specs.State.{State}
use Rattle.link_reading.specs.Meaning.{Means, MeansNothing, MeansNothingWithTags, HasPlace, IsBroken, IsBrokenWithTags}

-- what holds of the place of a path, holds of each place with that path
held : (Holds : Place → Type 0) (files : Files) (place : Place) → IsPlace place → HasPlace Holds files (place_path place) → Holds place
held Holds files place is b = subst Holds (same_place b.place place b.is is (sym b.at)) b.holds

exactly : (Holds : Place → Type 0) (files : Files) (place : Place) → IsPlace place → HasPlace Holds files (place_path place) ↔ (IsSome (files (place_path place)) × Holds place)
exactly Holds files place is = (
  λ b. (b.there, held Holds files place is b),
  λ h. record { place = place; is = is; at = refl; there = h.0; holds = h.1 },
)

pub broken_layers : (files : Files) (name digest : List ℕ) → IsName name → IsDigest digest → IsBroken files (layer_path name digest) ↔ (IsSome (files (layer_path name digest)) × ((Means files).links name digest ≡ None))
broken_layers files name digest n d = exactly (MeansNothing (Means files)) files (Layer name digest) (n, d)

pub broken_revisions : (files : Files) (name digest : List ℕ) → IsName name → IsDigest digest → IsBroken files (revision_path name digest) ↔ (IsSome (files (revision_path name digest)) × ((Means files).manifests name digest ≡ None))
broken_revisions files name digest n d = exactly (MeansNothing (Means files)) files (Revision name digest) (n, d)

pub broken_tags : (files : Files) (name tag : List ℕ) → IsName name → IsTag tag → IsBrokenWithTags files (tag_path name tag) ↔ (IsSome (files (tag_path name tag)) × ((Means files).tags name tag ≡ None))
broken_tags files name tag n t = exactly (MeansNothingWithTags (Means files)) files (TagCurrent name tag) (n, t)

pub tags_apart : (files : Files) (name tag : List ℕ) → IsName name → IsTag tag → ¬ IsBroken files (tag_path name tag)
tags_apart files name tag n t b = held (MeansNothing (Means files)) files (TagCurrent name tag) (n, t) b

counts_with_tags : (state : State) (place : Place) → MeansNothing state place → MeansNothingWithTags state place
counts_with_tags state (BlobData digest) h = h
counts_with_tags state (Revision name digest) h = h
counts_with_tags state (TagCurrent name tag) h = absurd h
counts_with_tags state (TagIndex name tag digest) h = h
counts_with_tags state (Layer name digest) h = h
counts_with_tags state (UploadData name id) h = h
counts_with_tags state (UploadStarted name id) h = h

pub with_tags : (files : Files) (path : List (List ℕ)) → IsBroken files path → IsBrokenWithTags files path
with_tags files path b = record { place = b.place; is = b.is; at = b.at; there = b.there; holds = counts_with_tags (Means files) b.place b.holds }

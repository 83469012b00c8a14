-- What files mean: the manifests, links and tags that the repositories of a registry have by its link files.
use Rattle.std.specs.Prelude.{◌≡◌, ℕ, Bool, false, ◌&&◌, nat_eq, if◌then◌else◌, List, length, Option, Some, None, IsSome, is_some, option_map, option_and_then}
use Rattle.std.specs.Option.{option_map_or}
use Rattle.std.specs.Cmp.Lexicographic.{pointwise}
use Rattle.reg_names.specs.Names.{is_name}
use Rattle.reg_names.specs.Tags.{is_tag}
use Rattle.reg_names.specs.Digests.{digest_named}
use Rattle.manifest_doc.specs.declared.document.Doc.{Doc}
use Rattle.manifest_doc.specs.Stored.{stored_in}
use Rattle.depot_api.specs.Files.{Files}
use Rattle.link_paths.specs.declared.place.Place.{Place}
use Rattle.link_paths.specs.declared.place.Place.TheVariants.{Layer, Revision, TagCurrent, TagIndex}
use Rattle.link_paths.specs.Places.{IsPlace, place_path, data_path, layer_path, revision_path, tag_path}
use Rattle.reg_entries.specs.Documents.{KeptManifest, kept_of}
use Rattle.reg_entries.specs.State.{State}

-- ---- what the tests read

-- the bytes of a digest's data file
abbrev pub data_at : Files → List ℕ → Option (List ℕ)
data_at files digest = files (data_path digest)

-- whether a link file holds exactly the text of this digest
abbrev pub links_to : Option (List ℕ) → List ℕ → Bool
links_to file digest = option_map_or (pointwise nat_eq digest) (option_and_then digest_named file) false

-- what is kept of a document with so many bytes
abbrev pub kept : ℕ → Doc → KeptManifest
kept size doc = kept_of doc.kind size doc.named doc.children

-- what is kept of the manifest that bytes are under a digest
abbrev pub manifest_in : List ℕ → List ℕ → Option KeptManifest
manifest_in digest bytes = option_map (kept (length bytes)) (stored_in digest bytes)

-- ---- the three tests

-- the size of a blob that a repository has: its link holds the digest's text, and the digest's data file is there
abbrev pub link_at : Files → List ℕ → List ℕ → Option ℕ
link_at files name digest =
    if is_name name && links_to (files (layer_path name digest)) digest
    then option_map length (data_at files digest) else None

-- the manifest that a repository has under a digest: its link holds the digest's text, and the data file is a manifest
abbrev pub manifest_at : Files → List ℕ → List ℕ → Option KeptManifest
manifest_at files name digest =
    if is_name name && links_to (files (revision_path name digest)) digest
    then option_and_then (manifest_in digest) (data_at files digest) else None

-- a digest under which the repository has a manifest
abbrev pub only_manifest : Files → List ℕ → List ℕ → Option (List ℕ)
only_manifest files name digest = if is_some (manifest_at files name digest) then Some digest else None

-- the digest that a tag points to: its link holds the text of a digest, under which the repository has a manifest
abbrev pub target_at : Files → List ℕ → List ℕ → Option (List ℕ)
target_at files name tag =
    if is_name name && is_tag tag
    then option_and_then (only_manifest files name) (option_and_then digest_named (files (tag_path name tag))) else None

-- what the files mean
abbrev pub Means : Files → State
Means files = record { manifests = manifest_at files; links = link_at files; tags = target_at files }

-- ---- link files

-- the places of link files
abbrev pub IsLink : Place → Type 0
IsLink (Layer name digest) = Unit {0}
IsLink (Revision name digest) = Unit {0}
IsLink (TagCurrent name tag) = Unit {0}
IsLink (TagIndex name tag digest) = Unit {0}
IsLink place = ⊥

-- a link to a blob or to a manifest through which nothing is meant
abbrev pub MeansNothing : State → Place → Type 0
MeansNothing state (Layer name digest) = state.links name digest ≡ None
MeansNothing state (Revision name digest) = state.manifests name digest ≡ None
MeansNothing state place = ⊥

-- such a link, or one of a tag through which nothing is meant
abbrev pub MeansNothingWithTags : State → Place → Type 0
MeansNothingWithTags state (TagCurrent name tag) = state.tags name tag ≡ None
MeansNothingWithTags state place = MeansNothing state place

-- a path is that of a place of which this holds, and a file is there
pub record HasPlace (Holds : Place → Type 0) (files : Files) (path : List (List ℕ)) : Type 0 where
  pub place : Place
  pub is : IsPlace place
  pub at : path ≡ place_path place
  pub there : IsSome (files path)
  pub holds : Holds place

-- a path is broken where a link to a blob or to a manifest is there, and nothing is meant through it
abbrev pub IsBroken : Files → List (List ℕ) → Type 0
IsBroken files path = HasPlace (MeansNothing (Means files)) files path

-- and also where the link of a tag is there, and nothing is meant through it
abbrev pub IsBrokenWithTags : Files → List (List ℕ) → Type 0
IsBrokenWithTags files path = HasPlace (MeansNothingWithTags (Means files)) files path

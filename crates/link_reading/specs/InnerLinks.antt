-- The proof's own: no public clause cites what stands here.
-- What is looked for among the links of a repository.
use Rattle.std.specs.Prelude.{◌≡◌, ℕ, Bool, false, ◌&&◌, if◌then◌else◌, List, Option, Some, None, IsTrue, is_some}
use Rattle.std.specs.BTreeMap.{is_at}
use Rattle.std.specs.Ordering.{nat_cmp, is_lt}
use Rattle.std.specs.Cmp.Lexicographic.{slice_cmp}
use Rattle.depot_api.specs.Files.{Files}
use Rattle.link_paths.specs.Places.{layer_path, revision_path, tag_path}
use Rattle.link_paths.specs.Folders.{layers_folder, revisions_folder}
use Rattle.reg_entries.specs.State.{State, lists_child}
use Rattle.reg_entries.specs.Listing.{is_behind}
use Rattle.link_reading.specs.Meaning.{Means}
use Rattle.link_reading.specs.InnerWalks.{Quest}
use Rattle.link_reading.specs.declared.links_below.Wanted.{Wanted}
use Rattle.link_reading.specs.declared.links_below.Wanted.TheVariants.{Layer, Manifest, ListerOf}

-- the digest is that of a blob or a manifest that the repository has, or of a manifest that lists another
abbrev pub wants : State → List ℕ → Wanted → List ℕ → Bool
wants state name Layer digest = is_some (state.links name digest)
wants state name Manifest digest = is_some (state.manifests name digest)
wants state name (ListerOf child) digest = lists_child child (state.manifests name digest)

-- where the link to the digest lies
abbrev pub link_path : List ℕ → Wanted → List ℕ → List (List ℕ)
link_path name Layer digest = layer_path name digest
link_path name Manifest digest = revision_path name digest
link_path name (ListerOf child) digest = revision_path name digest

-- the folder of such links
abbrev pub links_folder : List ℕ → Wanted → List (List ℕ)
links_folder name Layer = layers_folder name
links_folder name Manifest = revisions_folder name
links_folder name (ListerOf child) = revisions_folder name

abbrev pub link_quest : List ℕ → Wanted → Quest (List ℕ)
link_quest name wanted =
    record { place = link_path name wanted; wanted = λ files digest. wants (Means files) name wanted digest }

-- the least digest that is wanted, or that none is
abbrev pub IsLeastWanted : State → List ℕ → Wanted → Option (List ℕ) → Type 0
IsLeastWanted state name wanted (Some digest) =
    IsTrue (wants state name wanted digest)
    × ((other : List ℕ) → IsTrue (is_lt (slice_cmp nat_cmp other digest)) → wants state name wanted other ≡ false)
IsLeastWanted state name wanted None = (digest : List ℕ) → wants state name wanted digest ≡ false

-- a tag is listed where it is behind the text that is given, and means something
abbrev pub tag_quest : List ℕ → Option (List ℕ) → Quest (List ℕ)
tag_quest name last =
    record { place = tag_path name; wanted = λ files tag. is_behind last tag && is_some ((Means files).tags name tag) }

-- what was noted of digests is so: whether the repository has a manifest under each
abbrev pub AreNoted : Files → List ℕ → (List ℕ → Option Bool) → Type 0
AreNoted files name noted =
    (digest : List ℕ) (has : Bool) → noted digest ≡ Some has → is_some ((Means files).manifests name digest) ≡ has

-- one digest more was noted
abbrev pub with_note : (List ℕ → Option Bool) → List ℕ → Bool → List ℕ → Option Bool
with_note noted digest has = λ q. if is_at (slice_cmp nat_cmp digest) q then Some has else noted q

-- The proof's own: no public clause cites what stands here.
-- The tags of a repository whose links are to one digest.
use Rattle.std.specs.Prelude.{◌↔◌, ℕ, nat_eq, Bool, ◌&&◌, List, IsTrue}
use Rattle.std.specs.List.{list_any}
use Rattle.std.specs.List.Sorted.{IsStrictlySortedBy}
use Rattle.std.specs.Ordering.{nat_cmp}
use Rattle.std.specs.Cmp.Lexicographic.{slice_cmp, pointwise}
use Rattle.reg_names.specs.Names.{is_name}
use Rattle.reg_names.specs.Tags.{is_tag}
use Rattle.depot_api.specs.Files.{Files}
use Rattle.link_paths.specs.Places.{tag_path}
use Rattle.link_reading.specs.Meaning.{links_to}
use Rattle.link_reading.specs.InnerWalks.{Quest}

-- the tag's link holds the digest's text, whether or not the repository has a manifest under the digest
abbrev pub is_linked_to : Files → List ℕ → List ℕ → List ℕ → Bool
is_linked_to files name digest tag = is_name name && (is_tag tag && links_to (files (tag_path name tag)) digest)

abbrev pub pointing_quest : List ℕ → List ℕ → Quest (List ℕ)
pointing_quest name digest =
    record { place = tag_path name; wanted = λ files tag. is_linked_to files name digest tag }

-- the tags whose links hold the digest's text, in byte order
pub record AreLinkedTo (files : Files) (name digest : List ℕ) (tags : List (List ℕ)) : Type 0 where
  pub in_order : IsStrictlySortedBy (slice_cmp nat_cmp) tags
  pub each : (tag : List ℕ) → IsTrue (list_any (pointwise nat_eq tag) tags) ↔ IsTrue (is_linked_to files name digest tag)

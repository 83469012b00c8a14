-- The proof's own: no public clause cites what stands here.
use Rattle.std.specs.Prelude.{ℕ, List, Option, IsTrue}
use Rattle.reg_names.specs.Tags.{IsTag}
use Rattle.depot_api.specs.Pages.{is_after}
use Rattle.link_paths.specs.Places.{tag_path}
use Rattle.reg_entries.specs.Listing.{is_behind}

-- the links of the tags behind a text lie above a path, where there is one
abbrev pub LiesBefore : List ℕ → Option (List ℕ) → Option (List (List ℕ)) → Type 0
LiesBefore name last after =
    (tag : List ℕ) → IsTag tag → IsTrue (is_behind last tag) → IsTrue (is_after after (tag_path name tag))

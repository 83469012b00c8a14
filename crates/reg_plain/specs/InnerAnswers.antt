-- The proof's own: no public clause cites what stands here. The tags that a walk meets.
use Rattle.std.specs.Prelude.{ℕ, Bool, ◌&&◌, List, map, Option}
use Rattle.std.specs.List.{filter}
use Rattle.reg_entries.specs.Listing.{is_behind}
use Rattle.reg_journal.specs.Changes.{is_same}

-- whether a tag is one of the repository, behind a text
abbrev pub is_asked : List ℕ → Option (List ℕ) → List ℕ × List ℕ → Bool
is_asked name last spot = is_same spot.0 name && is_behind last spot.1

-- the tags of such entries
abbrev pub tags_asked : List ℕ → Option (List ℕ) → List ((List ℕ × List ℕ) × List ℕ) → List (List ℕ)
tags_asked name last entries = map (λ e. e.0.1) (filter (λ e. is_asked name last e.0) entries)

-- The tags of a repository in byte order, from some text on, and at most so many of them.
use Rattle.std.specs.Prelude.{◌≡◌, ◌↔◌, ℕ, zero, nat_eq, Bool, true, List, [], ◌∷◌, length, ◌≤◌, Option, Some, None, IsSome, IfSome, IsTrue, ⊤}
use Rattle.std.specs.List.{list_any}
use Rattle.std.specs.List.Sorted.{IsStrictlySortedBy}
use Rattle.std.specs.Ordering.{nat_cmp, is_lt}
use Rattle.std.specs.Cmp.Lexicographic.{slice_cmp, pointwise}
use Rattle.reg_entries.specs.State.{State}

-- the first text is below the second in byte order
abbrev pub is_lesser : List ℕ → List ℕ → Bool
is_lesser text other = is_lt (slice_cmp nat_cmp text other)

-- a tag is behind a text, where there is one
abbrev pub is_behind : Option (List ℕ) → List ℕ → Bool
is_behind None tag = true
is_behind (Some text) tag = is_lesser text tag

-- the least tag of the repository behind a text, or that there is none
abbrev pub IsNextTag : State → List ℕ → Option (List ℕ) → Option (List ℕ) → Type 0
IsNextTag state name after None = (tag : List ℕ) → IsTrue (is_behind after tag) → state.tags name tag ≡ None
IsNextTag state name after (Some next) =
    IsTrue (is_behind after next) × IsSome (state.tags name next)
    × ((tag : List ℕ) → IsTrue (is_behind after tag) → IsTrue (is_lesser tag next) → state.tags name tag ≡ None)

-- each of these tags is the next one behind that before it, and the first of them behind `after`
abbrev pub AreNextTags : State → List ℕ → Option (List ℕ) → List (List ℕ) → Type 0
AreNextTags state name after [] = ⊤
AreNextTags state name after (tag ∷ tags) =
    IsNextTag state name after (Some tag) × AreNextTags state name (Some tag) tags

-- the last of some tags, or `after` where there is none
abbrev pub last_of : Option (List ℕ) → List (List ℕ) → Option (List ℕ)
last_of after [] = after
last_of after (tag ∷ tags) = last_of (Some tag) tags

-- The tags of a repository behind `last`: all of them, and at most as many as asked for. Or just as many, and then
-- there is another one behind them. Where none are asked for, there are none, whether or not there would be any.
abbrev pub IsListing : State → List ℕ → Option ℕ → Option (List ℕ) → List (List ℕ) → Option ℕ → Type 0
IsListing state name (Some zero) last tags more = (tags ≡ []) × (more ≡ None)
IsListing state name most last tags None =
    AreNextTags state name last tags × IsNextTag state name (last_of last tags) None
    × IfSome most (λ n. length tags ≤ n)
IsListing state name most last tags (Some n) =
    AreNextTags state name last tags × ((next : List ℕ) × IsNextTag state name (last_of last tags) (Some next))
    × (most ≡ Some n) × (length tags ≡ n)

-- the tags of the repository that point to a digest, in byte order
pub record AreTagsTo (state : State) (name digest : List ℕ) (tags : List (List ℕ)) : Type 0 where
  pub in_order : IsStrictlySortedBy (slice_cmp nat_cmp) tags
  pub each : (tag : List ℕ) → IsTrue (list_any (pointwise nat_eq tag) tags) ↔ (state.tags name tag ≡ Some digest)

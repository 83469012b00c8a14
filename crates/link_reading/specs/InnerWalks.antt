-- The proof's own: no public clause cites what stands here.
-- A walk goes through the files below a folder, in the order of their paths, to the first at which something is wanted.
use Rattle.std.specs.Prelude.{◌≡◌, ℕ, Bool, false, List, [], ◌∷◌, Option, Some, None, IsSome, IsTrue, ⊤}
use Rattle.depot_api.specs.Files.{Files}
use Rattle.depot_api.specs.Paths.{is_below}
use Rattle.depot_api.specs.Pages.{IsAsked, IsNextPath}

-- where a walk stands: below a folder and behind a path, with the next paths that it holds
pub record Spot : Type 0 where
  pub folder : List (List ℕ)
  pub after : Option (List (List ℕ))
  pub left : List (List (List ℕ))

-- these paths are those of the next files behind `after`, one behind the other
abbrev pub AreNext : Files → List (List ℕ) → Option (List (List ℕ)) → List (List (List ℕ)) → Type 0
AreNext files folder after [] = ⊤
AreNext files folder after (p ∷ rest) = IsNextPath files folder after (Some p) × AreNext files folder (Some p) rest

-- the paths that the walk holds are the next
abbrev pub IsReady : Files → Spot → Type 0
IsReady files spot = AreNext files spot.folder spot.after spot.left

-- the path of the next file, behind which those that are left follow, or that there is none
abbrev pub PassesOn : Files → Spot → List (List (List ℕ)) → Option (List (List ℕ)) → Type 0
PassesOn files spot left (Some p) =
    IsNextPath files spot.folder spot.after (Some p) × AreNext files spot.folder (Some p) left
PassesOn files spot left None = IsNextPath files spot.folder spot.after None

-- what is looked for: where each thing lies, and whether it is wanted by the files
pub record Quest (V : Type 0) : Type 0 where
  pub place : V → List (List ℕ)
  pub wanted : Files → V → Bool

-- what is wanted and lies at a path, or that nothing does
abbrev pub LiesAt : {V : Type 0} → Quest V → Files → List (List ℕ) → Option V → Type 0
LiesAt {V} quest files path (Some v) = (quest.place v ≡ path) × IsTrue (quest.wanted files v)
LiesAt {V} quest files path None = (v : V) → quest.place v ≡ path → quest.wanted files v ≡ false

-- no file below a folder and behind a path is that of a thing that is wanted and lies at such a path
abbrev pub NoneWanted : {V : Type 0} → Quest V → Files → List (List ℕ) → Option (List (List ℕ))
    → (List (List ℕ) → Type 0) → Type 0
NoneWanted {V} quest files folder after Lies =
    (v : V) → IsAsked folder after (quest.place v) → Lies (quest.place v) → IsSome (files (quest.place v))
    → quest.wanted files v ≡ false

-- the first that is wanted below a folder and behind a path, or that nothing is
abbrev pub IsFirst : {V : Type 0} → Quest V → Files → List (List ℕ) → Option (List (List ℕ)) → Option V → Type 0
IsFirst quest files folder after (Some v) =
    IsAsked folder after (quest.place v) × IsTrue (quest.wanted files v)
    × NoneWanted quest files folder after (λ p. IsTrue (is_below p (quest.place v)))
IsFirst quest files folder after None = NoneWanted quest files folder after (λ p. ⊤)

-- a walk came to the first that is wanted, and is ready to go on behind it, or to the end
abbrev pub WalksTo : {V : Type 0} → Quest V → Files → Spot → Spot → Option V → Type 0
WalksTo quest files old new (Some v) =
    IsFirst quest files old.folder old.after (Some v) × (new.after ≡ Some (quest.place v)) × IsReady files new
WalksTo quest files old new None = IsFirst quest files old.folder old.after None

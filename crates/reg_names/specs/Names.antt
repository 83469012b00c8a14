-- Repository names: components joined by `/`, at most 255 bytes in all, each component
-- [a-z0-9]+((\.|_|__|-+)[a-z0-9]+)* (OCI Distribution Specification 1.1, "Pulling manifests").
use Rattle.std.specs.Prelude.{ℕ, ◌++◌, ◌≤◌, Bool, true, false, ◌&&◌, ◌||◌, ◌==◌, nat_le, if◌then◌else◌, List, [], ◌∷◌, length, IsTrue}
use Rattle.reg_names.specs.Limits.{name_limit}
use Rattle.reg_names.specs.Tags.{is_lower, is_digit}

-- a letter or digit of a name
abbrev pub is_alphanumeric : ℕ → Bool
is_alphanumeric b = is_lower b || is_digit b

-- ---- a scan that computes

abbrev mutual
  -- a letter or digit is wanted
  pub begins : List ℕ → Bool
  begins [] = false
  begins (b ∷ bs) = is_alphanumeric b && goes_on bs

  -- behind a letter or digit
  pub goes_on : List ℕ → Bool
  goes_on [] = true
  goes_on (b ∷ bs) =
      if is_alphanumeric b then goes_on bs
      else if b == 47 || b == 46 then begins bs
      else if b == 95 then underscored bs
      else b == 45 && dashed bs

  -- behind one underscore
  pub underscored : List ℕ → Bool
  underscored [] = false
  underscored (b ∷ bs) = if b == 95 then begins bs else is_alphanumeric b && goes_on bs

  -- behind dashes
  pub dashed : List ℕ → Bool
  dashed [] = false
  dashed (b ∷ bs) = if b == 45 then dashed bs else is_alphanumeric b && goes_on bs

abbrev pub is_name : List ℕ → Bool
is_name text = nat_le (length text) name_limit && begins text

abbrev pub IsName : List ℕ → Type 0
IsName text = IsTrue (is_name text)

-- ---- the grammar by productions

-- one letter or digit, or more
pub data IsWord : List ℕ → Type 0 where
  last : (b : ℕ) → IsTrue (is_alphanumeric b) → IsWord (b ∷ [])
  more : (b : ℕ) (bs : List ℕ) → IsTrue (is_alphanumeric b) → IsWord bs → IsWord (b ∷ bs)

-- one dash or more
pub data AreDashes : List ℕ → Type 0 where
  one : AreDashes (45 ∷ [])
  another : (bs : List ℕ) → AreDashes bs → AreDashes (45 ∷ bs)

-- what may stand between two words
pub data IsSeparator : List ℕ → Type 0 where
  dot : IsSeparator (46 ∷ [])
  underscore : IsSeparator (95 ∷ [])
  underscores : IsSeparator (95 ∷ 95 ∷ [])
  dashes : (bs : List ℕ) → AreDashes bs → IsSeparator bs

-- words with separators between them
pub data IsComponent : List ℕ → Type 0 where
  word : (w : List ℕ) → IsWord w → IsComponent w
  joined : (w s c : List ℕ) → IsWord w → IsSeparator s → IsComponent c → IsComponent (w ++ (s ++ c))

-- components with slashes between them
pub data AreComponents : List ℕ → Type 0 where
  component : (c : List ℕ) → IsComponent c → AreComponents c
  under : (c cs : List ℕ) → IsComponent c → AreComponents cs → AreComponents (c ++ 47 ∷ cs)

-- a repository name
pub record IsRepositoryName (text : List ℕ) : Type 0 where
  pub short : length text ≤ name_limit
  pub components : AreComponents text

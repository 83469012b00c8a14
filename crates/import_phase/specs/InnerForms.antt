-- The proof's own: no public clause cites what stands here.
use Rattle.std.specs.Prelude.{◌≡◌, ℕ, List}

-- the bytes are those of something that is such
pub record IsSpelling {A : Type 0} (spelled : A → List ℕ) (Is : A → Type 0) (bytes : List ℕ) : Type 0 where
  pub of : A
  pub such : Is of
  pub same : bytes ≡ spelled of

-- what was read is such, and spelled so
pub record IsRead {A : Type 0} (spelled : A → List ℕ) (Is : A → Type 0) (bytes : List ℕ) (found : A) : Type 0 where
  pub such : Is found
  pub same : spelled found ≡ bytes

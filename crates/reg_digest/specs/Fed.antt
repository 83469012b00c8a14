-- What was fed to a hasher.
use Rattle.std.specs.Prelude.{ℕ, List}
use Rattle.sha2.specs.Hashers.{Holds256}
use Rattle.reg_digest.specs.declared.hashing.Hashing.{Hashing}

-- these bytes were fed so far
pub record Holds (hashing : Hashing) (fed : List ℕ) : Type 0 where
  pub hasher : Holds256 hashing.hasher fed

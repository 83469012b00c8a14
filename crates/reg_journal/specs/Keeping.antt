-- What each legal journal leaves, and each journal of entries.
use Rattle.std.specs.Prelude.{◌≡◌, ◌≢◌, ℕ, false, List, Option, Some, IsSome}
use Rattle.reg_names.specs.Digests.{IsDigest}
use Rattle.reg_names.specs.Named.{free_in}
use Rattle.reg_names.specs.Names.{IsName}
use Rattle.reg_names.specs.Tags.{IsTag}
use Rattle.reg_entries.specs.Documents.{KeptManifest}
use Rattle.reg_journal.specs.Past.{Past}

-- manifests name the digest freely, where they name it
abbrev pub IsFreely : Past → List ℕ → Type 0
IsFreely past digest =
    (name of : List ℕ) (manifest : KeptManifest) → past.manifests name of ≡ Some manifest
    → free_in digest manifest.named ≢ Some false

-- something is kept only by a name, and by a key that is such
abbrev pub IsKeptBy : {A : Type 0} → (List ℕ → Type 0) → (List ℕ → List ℕ → Option A) → Type 0
IsKeptBy IsKey keeps = (name key : List ℕ) → IsSome (keeps name key) → IsName name × IsKey key

-- manifests and links are kept by names and digests, and tags by names and tags
pub record AreKeptByNames (past : Past) : Type 0 where
  pub manifests : IsKeptBy IsDigest past.manifests
  pub links : IsKeptBy IsDigest past.links
  pub tags : IsKeptBy IsTag past.tags

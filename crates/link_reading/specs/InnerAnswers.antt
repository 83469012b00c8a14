-- The proof's own: no public clause cites what stands here.
use Rattle.std.specs.Prelude.{◌≡◌, ℕ, nat_le, if◌then◌else◌, List, length, Option, Some, None, option_and_then}
use Rattle.manifest_doc.specs.declared.document.Doc.{Doc}
use Rattle.manifest_doc.specs.Stored.{stored_in}

-- a file that is there and has at most so many bytes
abbrev pub short : ℕ → Option (List ℕ) → Option (List ℕ)
short most file = option_and_then (λ bytes. if nat_le (length bytes) most then Some bytes else None) file

-- the manifest in a digest's data file, or that it holds none
abbrev pub FindsStored : List ℕ → Option (List ℕ) → Option (Doc × List ℕ) → Type 0
FindsStored digest file (Some found) = (file ≡ Some found.1) × (stored_in digest found.1 ≡ Some found.0)
FindsStored digest file None = option_and_then (stored_in digest) file ≡ None

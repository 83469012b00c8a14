-- The proof's own: no public clause cites what stands here.
use Rattle.std.specs.Prelude.{◌≡◌, ℕ, List}
use Rattle.reg_names.specs.Digests.{IsDigest, digest_text}

-- the text is that of some digest
abbrev pub IsDigestText : List ℕ → Type 0
IsDigestText text = (digest : List ℕ) × IsDigest digest × (text ≡ digest_text digest)

-- The lengths of texts.
use Rattle.std.specs.Prelude.{ℕ}

-- the longest repository name, in bytes
abbrev pub name_limit : ℕ
name_limit = 255

-- the longest tag, in bytes
abbrev pub tag_limit : ℕ
tag_limit = 128

-- the bytes of a digest by SHA-256
abbrev pub sha256_length : ℕ
sha256_length = 32

-- the bytes of the text of a digest: `sha256:` and two digits for each byte
abbrev pub digest_text_length : ℕ
digest_text_length = 71

-- The limits of messages.
use Rattle.std.specs.Prelude.{ℕ, ◌^◌}

-- the most bytes of a head, of a chunk's size line, and of the trailer section behind the last chunk
abbrev pub head_limit : ℕ
head_limit = 16384

abbrev pub size_line_limit : ℕ
size_line_limit = 1024

abbrev pub trailer_limit : ℕ
trailer_limit = 16384

-- the most fields of a head
abbrev pub field_limit : ℕ
field_limit = 64

-- more fields than the bytes of a head can hold, each with its span
abbrev pub span_limit : ℕ
span_limit = 8192

-- a feed that has taken so many bytes takes no more
abbrev pub feed_limit : ℕ
feed_limit = 2 ^ 50

-- The limits of devices.
use Rattle.std.specs.Prelude.{ℕ, ◌^◌}

-- the longest name of a path, and the longest text of a path, in bytes
abbrev pub part_limit : ℕ
part_limit = 255

abbrev pub path_limit : ℕ
path_limit = 4096

-- the longest file, in bytes
abbrev pub file_limit : ℕ
file_limit = 2 ^ 62

-- as far as this a source counts the bytes that it has given
abbrev pub given_limit : ℕ
given_limit = 2 ^ 62

-- the last moment that a clock reads, in seconds since 1970
abbrev pub moment_limit : ℕ
moment_limit = 2 ^ 62

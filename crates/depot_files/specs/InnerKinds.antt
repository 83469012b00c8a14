-- The proof's own: no public clause cites what stands here.
-- What the kinds of the system's errors tell.
use Rattle.std.specs.Prelude.{◌≡◌, ◌⊎◌}
use Rattle.std.specs.declared.io.ErrorKind.{ErrorKind}
use Rattle.std.specs.declared.io.ErrorKind.TheVariants.{NotFound, NotADirectory, OutOfMemory}

-- nothing lies at a path: nothing has the name, or a front of the path is no folder
abbrev pub IsAbsent : ErrorKind → Type 0
IsAbsent kind = (kind ≡ NotFound) ⊎ (kind ≡ NotADirectory)

-- memory was wanting
abbrev pub IsWantOfMemory : ErrorKind → Type 0
IsWantOfMemory kind = kind ≡ OutOfMemory

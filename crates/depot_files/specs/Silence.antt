-- A directory tells which paths are lent, and nothing of its files.
use Rattle.std.specs.Prelude.{ℕ, false, List, [], None}
use Rattle.std.specs.BTreeSet.{contains}
use Rattle.depot_api.specs.Blobs.{Rest}
use Rattle.depot_api.specs.Holdings.{Holding}
use Rattle.depot_api.specs.Paths.{path_cmp}
use Rattle.depot_api.specs.Stages.{Staged}
use Rattle.depot_files.specs.declared.loans.Loans.{Loans}

-- no files are told, and which paths are lent
abbrev pub untold : Loans → Holding
untold loans = record { tells = false; files = λ _. None; lent = λ q. contains path_cmp loans.paths q }

-- so many bytes are left, and it is not told which
abbrev pub untold_rest : ℕ → Rest
untold_rest n = record { tells = false; count = n; bytes = [] }

-- so many bytes are staged from a path, and it is not told which
abbrev pub untold_staged : List (List ℕ) → ℕ → Staged
untold_staged path n = record { path = path; tells = false; count = n; bytes = [] }

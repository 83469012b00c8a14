-- Ids that are listed.
use Rattle.std.specs.Prelude.{ℕ, ◌+◌, List}
use Rattle.depot_api.specs.Memory.{listed}
use Rattle.depot_api.specs.declared.memory.ids.ListedIds.{ListedIds}

-- the words to come
abbrev pub words_of : ListedIds → ℕ → List ℕ
words_of ids = λ k. listed ids.words.items (ids.at + k)

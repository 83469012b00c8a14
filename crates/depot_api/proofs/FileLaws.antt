-- Files of a list.
use Rattle.std.proofs.Common.{◌≡◌, ℕ, List, ◌∷◌, Some, ap, sym, ◌∙◌}
use Rattle.depot_api.specs.Files.{Files, with_at}
use Rattle.depot_api.specs.Memory.{with_all}

-- the first of a list is put, and then the rest
pub with_all-turn : (old new : Files) (path : List (List ℕ)) (bytes : List ℕ) (left rest : List (List (List ℕ) × List ℕ)) → ((q : List (List ℕ)) → new q ≡ with_at old path (Some bytes) q) → left ≡ (path, bytes) ∷ rest → with_all new rest ≡ with_all old left
with_all-turn old new path bytes left rest put is =
    ap (λ (f : Files). with_all f rest) (λ i q. put q i) ∙ sym (ap (with_all old) is)

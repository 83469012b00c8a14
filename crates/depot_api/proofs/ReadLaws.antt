-- Reads of bytes in memory.
use Rattle.std.proofs.Common.{◌≡◌, ℕ, ◌+◌, ◌<◌, ◌≤◌, List, [], ◌++◌, length, take, drop, Option, Some, None, min, max, ap, sym, ◌∙◌, arith, length-drop}
use Rattle.std.specs.List.{slice_get}
use Rattle.std.specs.Option.{option_map_or}
use Rattle.std.proofs.lemmas.List.{take-append-drop, nil_from_length, drop-drop}
use Rattle.std.proofs.lemmas.Grind.{common_steps}
use Rattle.depot_api.specs.Memory.{read_length}

-- what was written in front are the next bytes, and the others are left
pub read_front : (bytes written tail : List ℕ) (at n : ℕ) → written ≡ take n (drop at bytes) → n ≤ length (drop at bytes) → drop at bytes ≡ take n (written ++ tail) ++ drop (at + n) bytes
read_front bytes written tail at n is within =
    let front : take n (drop at bytes) ≡ take n (written ++ tail) = grind (arith, common_steps) in
    sym (take-append-drop n (drop at bytes)) ∙ ap (λ (xs : List ℕ). xs ++ drop n (drop at bytes)) front ∙ ap (λ (xs : List ℕ). take n (written ++ tail) ++ xs) (drop-drop n at bytes)

-- nothing is read into room only where nothing is left
nothing_left : (piece : Option ℕ) (left room : ℕ) → min (min left room) (option_map_or (λ p. max 1 p) piece left) ≡ 0 → 0 < room → left ≡ 0
nothing_left None left room none some = omega arith
nothing_left (Some p) left room none some = omega arith

pub read_end : (bytes : List ℕ) (pieces : List ℕ) (at k n room : ℕ) → n ≡ read_length pieces k (length (drop at bytes)) room → n ≡ 0 → 0 < room → drop (at + n) bytes ≡ []
read_end bytes pieces at k n room is none some =
    let left = nothing_left (slice_get pieces k) (length (drop at bytes)) room (sym is ∙ none) some in
    nil_from_length (drop (at + n) bytes) (omega (arith, length-drop at bytes, length-drop (at + n) bytes))

-- Lists of tags.
use Rattle.std.proofs.Common.{◌≡◌, ℕ, suc, ◌-◌, List, [], ◌∷◌, length, Option, Some, arith}
use Rattle.std.specs.Prelude.{slice_get}
use Rattle.reg_entries.specs.Listing.{last_of}

-- the last of some tags is the one at the last place
pub last_at : (xs : List (List ℕ)) (after : Option (List ℕ)) (x : List ℕ) → slice_get xs (length xs - 1) ≡ Some x → last_of after xs ≡ Some x
last_at [] after x h = cc h
last_at (y ∷ []) after x h = h
last_at (y ∷ z ∷ zs) after x h =
    let next : length (y ∷ z ∷ zs) - 1 ≡ suc (length (z ∷ zs) - 1) = omega arith in
    last_at (z ∷ zs) (Some y) x (rw next at h)

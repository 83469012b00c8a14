-- A page that grows behind its last path.
use Rattle.std.proofs.Common.{◌≡◌, ◌∙◌, ◌-◌, ℕ, List, [], ◌∷◌, ◌++◌, length, Option, Some, None, Bor, refl, ap, subst}
use Rattle.std.specs.Option.{option_copied, option_or}
use Rattle.std.specs.List.{slice_get}
use Rattle.depot_api.specs.Pages.{IsAsked, ArePathsAbove}
use Rattle.depot_api.proofs.PageLaws.{ArePathsAbove-push}

copied_or : {T : Type 0} (x y : Option (Bor T)) → option_copied (option_or x y) ≡ option_or (option_copied x) (option_copied y)
copied_or (Some x) y = refl
copied_or None y = refl

-- `both` is `last().or(after)` of the page, and q is asked for behind it
pub ArePathsAbove-pushed : (under : List (List ℕ)) (after last both : Option (Bor (List (List ℕ)))) (page shown : List (List (List ℕ))) (q : List (List ℕ)) → shown ≡ page → option_copied last ≡ slice_get shown (length shown - 1) → both ≡ option_or last after → ArePathsAbove under (option_copied after) page → IsAsked under (option_copied both) q → ArePathsAbove under (option_copied after) (page ++ q ∷ [])
ArePathsAbove-pushed under after last both page shown q same e is all asked =
    let behind = ap option_copied is ∙ copied_or last after ∙ ap (λ o. option_or o (option_copied after)) (e ∙ ap (λ xs. slice_get xs (length xs - 1)) same) in
    ArePathsAbove-push under (option_copied after) page q all (subst (λ o. IsAsked under o q) behind asked)

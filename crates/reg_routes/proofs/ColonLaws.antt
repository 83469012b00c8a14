-- What a path stands for, from some place on.
use Rattle.std.proofs.Common.{◌≡◌, ℕ, ◌+◌, ◌-◌, ◌<◌, ◌≤◌, ◌++◌, true, false, List, [], ◌∷◌, length, take, drop, get_or, refl, sym, ap, ◌∙◌, append_assoc, arith}
use Rattle.std.proofs.lemmas.List.{take_all, length-drop, drop-drop}
use Rattle.std.proofs.Math.Seq.{drop-cons}
use Rattle.reg_routes.specs.Colons.{begins_colon, with_colons}

colon_first : (text : List ℕ) → begins_colon text ≡ true → with_colons text ≡ 58 ∷ with_colons (drop 3 text)
colon_first [] h = cc h
colon_first (a ∷ []) h = cc h
colon_first (a ∷ b ∷ []) h = cc h
colon_first (a ∷ b ∷ c ∷ rest) h = rw h refl

colon_long : (text : List ℕ) → begins_colon text ≡ true → 3 ≤ length text
colon_long [] h = cc h
colon_long (a ∷ []) h = cc h
colon_long (a ∷ b ∷ []) h = cc h
colon_long (a ∷ b ∷ c ∷ rest) h = omega arith

other_first : (text : List ℕ) → begins_colon text ≡ false → 0 < length text → with_colons text ≡ get_or text 0 0 ∷ with_colons (drop 1 text)
other_first [] h some = absurd (omega (arith, some))
other_first (a ∷ []) h some = refl
other_first (a ∷ b ∷ []) h some = refl
other_first (a ∷ b ∷ c ∷ rest) h some = rw h refl

module _ (path : List ℕ) (i : ℕ) where
  rest_whole : take (length path - i) (drop i path) ≡ drop i path
  rest_whole = take_all (length path - i) (drop i path) (omega (arith, length-drop i path))

  pub colon_within : i ≤ length path → begins_colon (take (length path - i) (drop i path)) ≡ true → i + 3 ≤ length path
  colon_within within h = omega (arith, within, length-drop i path, colon_long (drop i path) (ap begins_colon (sym rest_whole) ∙ h))

  pub colon_pushed : (out new : List ℕ) → begins_colon (take (length path - i) (drop i path)) ≡ true → out ++ with_colons (drop i path) ≡ with_colons path → new ≡ out ++ 58 ∷ []
      → new ++ with_colons (drop (i + 3) path) ≡ with_colons path
  colon_pushed out new h before pushed =
      ap (λ t. t ++ with_colons (drop (i + 3) path)) pushed
      ∙ append_assoc out (58 ∷ []) (with_colons (drop (i + 3) path))
      ∙ ap (λ t. out ++ 58 ∷ with_colons t) (sym (drop-drop 3 i path))
      ∙ ap (λ t. out ++ t) (sym (colon_first (drop i path) (ap begins_colon (sym rest_whole) ∙ h)))
      ∙ before

  pub other_pushed : (out new : List ℕ) → i < length path → begins_colon (take (length path - i) (drop i path)) ≡ false → out ++ with_colons (drop i path) ≡ with_colons path → new ≡ out ++ get_or path i 0 ∷ []
      → new ++ with_colons (drop (i + 1) path) ≡ with_colons path
  other_pushed out new within h before pushed =
      let some : 0 < length (drop i path) = omega (arith, within, length-drop i path) in
      let byte : get_or (drop i path) 0 0 ≡ get_or path i 0 = ap (λ t. get_or t 0 0) (drop-cons path i 0 within) in
      ap (λ t. t ++ with_colons (drop (i + 1) path)) pushed
      ∙ append_assoc out (get_or path i 0 ∷ []) (with_colons (drop (i + 1) path))
      ∙ ap (λ t. out ++ get_or path i 0 ∷ with_colons t) (sym (drop-drop 1 i path))
      ∙ ap (λ b. out ++ b ∷ with_colons (drop 1 (drop i path))) (sym byte)
      ∙ ap (λ t. out ++ t) (sym (other_first (drop i path) (ap begins_colon (sym rest_whole) ∙ h) some))
      ∙ before

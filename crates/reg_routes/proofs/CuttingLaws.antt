-- A text is cut at its last slash.
use Rattle.std.proofs.Common.{◌≡◌, ℕ, suc, ◌+◌, ◌-◌, ◌<◌, ◌≤◌, ◌==◌, ◌++◌, Bool, true, false, List, [], ◌∷◌, length, take, drop, get_or, Some, None, refl, sym, ap, ◌∙◌, take-append-drop, arith}
use Rattle.std.proofs.Math.Seq.{drop-cons}
use Rattle.std.proofs.lemmas.List.{take_all, length-drop}
use Rattle.std.specs.Prelude.{not}
use Rattle.std.proofs.lemmas.Bool.{and_parts}
use Rattle.reg_routes.specs.Targets.{cut_last}
use Rattle.reg_routes.specs.Targets.{IsFree}

not_slash : (b : Bool) → not b ≡ true → b ≡ false
not_slash false h = refl
not_slash true h = cc h

pub cut_free : (text : List ℕ) → IsFree text → cut_last text ≡ None
cut_free [] h = refl
cut_free (b ∷ text) h =
    let parts = and_parts (not (b == 47)) _ h in
    rw (cut_free text parts.1, not_slash (b == 47) parts.0) refl

pub cut_found : (front back : List ℕ) → IsFree back → cut_last (front ++ 47 ∷ back) ≡ Some (front, back)
cut_found [] back h = rw (cut_free back h) refl
cut_found (b ∷ front) back h = rw (cut_found front back h) refl

-- a text with a slash, behind which there is none
pub cut_seen : (text : List ℕ) (i : ℕ) → i < length text → get_or text i 0 ≡ 47 → IsFree (drop (i + 1) text)
    → cut_last text ≡ Some (take i text, take (length text - (i + 1)) (drop (i + 1) text))
cut_seen text i within at free =
    let next : suc i ≡ i + 1 = omega arith in
    let slash : drop i text ≡ 47 ∷ drop (i + 1) text = drop-cons text i 0 within ∙ ap (λ b. b ∷ drop (suc i) text) at ∙ ap (λ n. 47 ∷ drop n text) next in
    let whole : text ≡ take i text ++ 47 ∷ drop (i + 1) text = sym (take-append-drop i text) ∙ ap (λ t. take i text ++ t) slash in
    ap cut_last whole ∙ cut_found (take i text) (drop (i + 1) text) free
    ∙ ap (λ t. Some (take i text, t)) (sym (take_all (length text - (i + 1)) (drop (i + 1) text) (omega (arith, length-drop (i + 1) text))))

pub not_seen : (text : List ℕ) (i : ℕ) → i ≤ 0 → IsFree (drop i text) → cut_last text ≡ None
not_seen text i none free =
    let first : i ≡ 0 = omega arith in
    cut_free text (rw first at free)

-- The components of a name are parts of a path, and none begins with an underscore.
use Rattle.std.proofs.Common.{◌≡◌, ℕ, ◌≤◌, Bool, true, false, List, [], ◌∷◌, ◌++◌, length, refl, ◌∙◌, arith, length-append}
use Rattle.std.specs.Prelude.{IsTrue}
use Rattle.std.specs.List.{list_all}
use Rattle.std.proofs.lemmas.Bool.{and_from}
use Rattle.std.proofs.lemmas.Bool.Decides.{nat_tests}
use Rattle.std.proofs.lemmas.List.Folds.{list_all-append, list_any-append}
use Rattle.reg_names.specs.Names.{is_alphanumeric, IsName, IsWord, last, more, AreDashes, one, another, IsSeparator, dot, underscore, underscores, dashes, IsComponent, word, joined, AreComponents, component, under}
use Rattle.reg_names.proofs.NamesLaw.{IsName-grammar}
use Rattle.depot_api.specs.Paths.{parts_of, is_part_byte, is_part}
use Rattle.link_paths.specs.InnerParts.{is_hidden, AreOpen}
use Rattle.link_paths.proofs.Parts.{is_led, IsPart-led, parts_of-append, parts_of-one, Spells}

-- ---- a component

letter_byte : (b : ℕ) → IsTrue (is_alphanumeric b) → is_part_byte b ≡ true
letter_byte b h = grind (arith, nat_tests)

word_bytes : (w : List ℕ) → IsWord w → list_all is_part_byte w ≡ true
word_bytes _ (last b l) = and_from _ _ (letter_byte b l) refl
word_bytes _ (more b bs l h) = and_from _ _ (letter_byte b l) (word_bytes bs h)

dash_bytes : (bs : List ℕ) → AreDashes bs → list_all is_part_byte bs ≡ true
dash_bytes _ one = refl
dash_bytes _ (another bs h) = dash_bytes bs h

separator_bytes : (s : List ℕ) → IsSeparator s → list_all is_part_byte s ≡ true
separator_bytes _ dot = refl
separator_bytes _ underscore = refl
separator_bytes _ underscores = refl
separator_bytes _ (dashes bs h) = dash_bytes bs h

appended : (xs ys : List ℕ) → list_all is_part_byte xs ≡ true → list_all is_part_byte ys ≡ true → list_all is_part_byte (xs ++ ys) ≡ true
appended xs ys h k = list_all-append is_part_byte xs ys ∙ and_from _ _ h k

component_bytes : (c : List ℕ) → IsComponent c → list_all is_part_byte c ≡ true
component_bytes _ (word w h) = word_bytes w h
component_bytes _ (joined w s c h i j) = appended w (s ++ c) (word_bytes w h) (appended s c (separator_bytes s i) (component_bytes c j))

-- it begins with a letter or digit
abbrev begins_so : List ℕ → Bool
begins_so [] = false
begins_so (b ∷ bs) = is_alphanumeric b

begins_so-word : (w t : List ℕ) → IsWord w → begins_so (w ++ t) ≡ true
begins_so-word _ t (last b l) = l
begins_so-word _ t (more b bs l h) = l

begins_so-component : (c : List ℕ) → IsComponent c → begins_so c ≡ true
begins_so-component _ (word _ (last b l)) = l
begins_so-component _ (word _ (more b bs l h)) = l
begins_so-component _ (joined w s c h i j) = begins_so-word w (s ++ c) h

begins_so-led : (c : List ℕ) → begins_so c ≡ true → is_led c ≡ true
begins_so-led [] h = h
begins_so-led (b ∷ bs) h = grind (arith, nat_tests)

begins_so-open : (c : List ℕ) → begins_so c ≡ true → is_hidden c ≡ false
begins_so-open [] h = refl
begins_so-open (b ∷ bs) h = grind (arith, nat_tests)

-- ---- all of them

record AreOpenParts (parts : List (List ℕ)) : Type 0 where
  all : list_all is_part parts ≡ true
  none_hidden : AreOpen parts

component_part : (c : List ℕ) → IsComponent c → length c ≤ 255 → AreOpenParts (parts_of c)
component_part c h short =
    let bytes = component_bytes c h in
    let begins = begins_so-component c h in
    rw (parts_of-one c bytes)
    (record { all = and_from _ _ (IsPart-led c (begins_so-led c begins) bytes short) refl; none_hidden = rw (begins_so-open c begins) refl })

AreOpenParts-append : (xs ys : List (List ℕ)) → AreOpenParts xs → AreOpenParts ys → AreOpenParts (xs ++ ys)
AreOpenParts-append xs ys h k = record {
  all = list_all-append is_part xs ys ∙ and_from _ _ h.all k.all;
  none_hidden = list_any-append is_hidden xs ys ∙ rw (h.none_hidden) k.none_hidden;
}

components_parts : (cs : List ℕ) → AreComponents cs → length cs ≤ 255 → AreOpenParts (parts_of cs)
components_parts _ (component c h) short = component_part c h short
components_parts _ (under c cs h i) short =
    rw (parts_of-append c cs)
    (AreOpenParts-append (parts_of c) (parts_of cs)
    (component_part c h (omega (arith, short, length-append c (47 ∷ cs))))
    (components_parts cs i (omega (arith, short, length-append c (47 ∷ cs)))))

name_parts : (name : List ℕ) → IsName name → AreOpenParts (parts_of name)
name_parts name h = let form = (IsName-grammar name).0 h in components_parts name form.components form.short

pub name_is_open : (name : List ℕ) → IsName name → AreOpen (parts_of name)
name_is_open name h = (name_parts name h).none_hidden

pub name_spelled : (name : List ℕ) → IsName name → Spells 255 name (parts_of name)
name_spelled name h = record { are = refl; all = (name_parts name h).all; short = ((IsName-grammar name).0 h).short }

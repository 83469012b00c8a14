-- Which bytes names and tags are made of.
use Rattle.std.proofs.Common.{◌≡◌, ℕ, zero, suc, Bool, true, false, ◌&&◌, ◌||◌, ◌==◌, nat_le, List, [], ◌∷◌, ◌++◌, length, refl, ◌∙◌, arith}
use Rattle.std.specs.Prelude.{nat_lt}
use Rattle.std.specs.List.{list_all}
use Rattle.std.specs.Str.{IsAscii, IsUtf8}
use Rattle.std.proofs.lemmas.Str.{IsUtf8-from_ascii}
use Rattle.std.proofs.lemmas.Bool.{and_parts, and_from}
use Rattle.std.proofs.lemmas.Bool.Decides.{nat_tests}
use Rattle.std.proofs.lemmas.List.Folds.{list_all-append}
use Rattle.reg_names.specs.Names.{is_alphanumeric, IsName, IsWord, last, more, AreDashes, one, another, IsSeparator, dot, underscore, underscores, dashes, IsComponent, word, joined, AreComponents, component, under}
use Rattle.reg_names.proofs.NamesLaw.{IsName-grammar}
use Rattle.reg_names.specs.Tags.{is_tag_byte, is_word, IsTag}

-- a byte that may stand in a name
abbrev pub is_name_byte : ℕ → Bool
is_name_byte b = is_alphanumeric b || b == 47 || b == 46 || b == 95 || b == 45

and_first : (x y : Bool) → x && y ≡ true → x ≡ true
and_first true y h = refl
and_first false y h = h

and_second : (x y : Bool) → x && y ≡ true → y ≡ true
and_second true y h = h
and_second false y h = cc h

pub list_all-implied : (p q : ℕ → Bool) → ((b : ℕ) → p b ≡ true → q b ≡ true) → (bs : List ℕ) → list_all p bs ≡ true → list_all q bs ≡ true
list_all-implied p q f [] h = refl
list_all-implied p q f (b ∷ bs) h =
    let at = f b (and_first (p b) (list_all p bs) h) in
    let rest = list_all-implied p q f bs (and_second (p b) (list_all p bs) h) in
    cc_and _ _ at rest
  where
    cc_and : (x y : Bool) → x ≡ true → y ≡ true → x && y ≡ true
    cc_and x y e f = rw (e, f) refl

pub IsAscii-from_list_all : (bs : List ℕ) → list_all (λ b. nat_lt b 128) bs ≡ true → IsAscii bs
IsAscii-from_list_all [] h i = omega arith
IsAscii-from_list_all (b ∷ bs) h zero = let e = and_first (nat_lt b 128) _ h in grind (arith, nat_tests)
IsAscii-from_list_all (b ∷ bs) h (suc i) = IsAscii-from_list_all bs (and_second (nat_lt b 128) _ h) i

alphanumeric_name_byte : (b : ℕ) → is_alphanumeric b ≡ true → is_name_byte b ≡ true
alphanumeric_name_byte b h = rw h refl

-- two parts of name bytes make one
joined-bytes : (xs ys : List ℕ) → list_all is_name_byte xs ≡ true → list_all is_name_byte ys ≡ true → list_all is_name_byte (xs ++ ys) ≡ true
joined-bytes xs ys h k = list_all-append is_name_byte xs ys ∙ and_from _ _ h k

word-bytes : (bs : List ℕ) → IsWord bs → list_all is_name_byte bs ≡ true
word-bytes _ (last b l) = and_from _ _ (alphanumeric_name_byte b l) refl
word-bytes _ (more b bs l w) = and_from _ _ (alphanumeric_name_byte b l) (word-bytes bs w)

dashes-bytes : (bs : List ℕ) → AreDashes bs → list_all is_name_byte bs ≡ true
dashes-bytes _ one = refl
dashes-bytes _ (another bs d) = dashes-bytes bs d

separator-bytes : (bs : List ℕ) → IsSeparator bs → list_all is_name_byte bs ≡ true
separator-bytes _ dot = refl
separator-bytes _ underscore = refl
separator-bytes _ underscores = refl
separator-bytes _ (dashes bs d) = dashes-bytes bs d

component-bytes : (bs : List ℕ) → IsComponent bs → list_all is_name_byte bs ≡ true
component-bytes _ (word w h) = word-bytes w h
component-bytes _ (joined w s c h i j) = joined-bytes w (s ++ c) (word-bytes w h) (joined-bytes s c (separator-bytes s i) (component-bytes c j))

components-bytes : (bs : List ℕ) → AreComponents bs → list_all is_name_byte bs ≡ true
components-bytes _ (component c h) = component-bytes c h
components-bytes _ (under c cs h i) = joined-bytes c (47 ∷ cs) (component-bytes c h) (components-bytes cs i)

pub name-bytes : (text : List ℕ) → IsName text → list_all is_name_byte text ≡ true
name-bytes text h = components-bytes text ((IsName-grammar text).0 h).components

pub tag-bytes : (text : List ℕ) → IsTag text → list_all is_tag_byte text ≡ true
tag-bytes [] h = refl
tag-bytes (b ∷ bs) h =
    let front = and_parts (is_word b && nat_le (length bs) 127) (list_all is_tag_byte bs) h in
    and_from _ _ (word_tag_byte b (and_parts _ _ front.0).0) front.1
  where
    word_tag_byte : (c : ℕ) → is_word c ≡ true → is_tag_byte c ≡ true
    word_tag_byte c e = rw e refl

pub IsUtf8-from_name : (text : List ℕ) → IsName text → IsUtf8 text
IsUtf8-from_name text h = IsUtf8-from_ascii text (IsAscii-from_list_all text (list_all-implied is_name_byte (λ b. nat_lt b 128) (λ b e. grind (arith, nat_tests)) text (name-bytes text h)))

pub IsUtf8-from_tag : (text : List ℕ) → IsTag text → IsUtf8 text
IsUtf8-from_tag text h = IsUtf8-from_ascii text (IsAscii-from_list_all text (list_all-implied is_tag_byte (λ b. nat_lt b 128) (λ b e. grind (arith, nat_tests)) text (tag-bytes text h)))

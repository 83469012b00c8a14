-- The JSON of names and tags, which have no byte that a JSON string would escape.
use Rattle.std.proofs.Common.{◌≡◌, ◌≢◌, ℕ, ◌≤◌, Bool, true, false, List, [], ◌∷◌, ◌++◌, ◌&&◌, map, codes, refl, sym, ap, ◌∙◌, append_assoc, arith}
use Rattle.std.specs.List.{flat_map, list_all, join_by}
use Rattle.std.proofs.lemmas.Bool.Decides.{nat_tests}
use Rattle.json.specs.Print.{escape_byte, escape, quoted}
use Rattle.serde_json.specs.Data.{string}
use Rattle.serde_json.specs.View.{items_of}
use Rattle.serde_json.specs.Written.{compact_text, items_text}
use Rattle.reg_names.specs.Names.{IsName}
use Rattle.reg_names.specs.Tags.{IsTag, is_tag_byte}
use Rattle.reg_names.proofs.TextBytes.{is_name_byte, name-bytes, tag-bytes}
use Rattle.reg_replies.specs.Json.{tags_json}

plain_byte : (b : ℕ) → 32 ≤ b → b ≢ 34 → b ≢ 92 → escape_byte b ≡ b ∷ []
unfolding escape_byte
plain_byte b low quote slash = grind (arith, nat_tests)

and_first : (x y : Bool) → x && y ≡ true → x ≡ true
and_first true y h = refl
and_first false y h = h

and_second : (x y : Bool) → x && y ≡ true → y ≡ true
and_second true y h = h
and_second false y h = cc h

plain_text : (p : ℕ → Bool) → ((b : ℕ) → p b ≡ true → escape_byte b ≡ b ∷ []) → (text : List ℕ) → list_all p text ≡ true → escape text ≡ text
plain_text p f [] h = refl
plain_text p f (b ∷ text) h =
    ap (λ t. t ++ flat_map escape_byte text) (f b (and_first (p b) (list_all p text) h))
    ∙ ap (λ t. b ∷ t) (plain_text p f text (and_second (p b) (list_all p text) h))

tag_byte : (b : ℕ) → is_tag_byte b ≡ true → escape_byte b ≡ b ∷ []
tag_byte b h = plain_byte b (grind (arith, nat_tests)) (grind (arith, nat_tests)) (grind (arith, nat_tests))

name_byte : (b : ℕ) → is_name_byte b ≡ true → escape_byte b ≡ b ∷ []
name_byte b h = plain_byte b (grind (arith, nat_tests)) (grind (arith, nat_tests)) (grind (arith, nat_tests))

-- a tag is written as it is, between quotation marks
pub tag_quoted : (tag : List ℕ) → IsTag tag → quoted tag ≡ codes "\"" ++ (tag ++ codes "\"")
tag_quoted tag h = ap (λ t. codes "\"" ++ (t ++ codes "\"")) (plain_text is_tag_byte tag_byte tag (tag-bytes tag h))

name_escaped : (name : List ℕ) → IsName name → name ≡ escape name
name_escaped name h = sym (plain_text is_name_byte name_byte name (name-bytes name h))

-- ---- the list of tags

later_items : (tags : List (List ℕ)) → items_text true (items_of (map string tags)) ≡ flat_map (λ t. codes "," ++ quoted t) tags ++ codes "]"
later_items [] = refl
later_items (tag ∷ tags) =
    ap (λ t. codes "," ++ (quoted tag ++ t)) (later_items tags)
    ∙ ap (λ t. codes "," ++ t) (sym (append_assoc (quoted tag) (flat_map (λ t. codes "," ++ quoted t) tags) (codes "]")))

all_items : (tags : List (List ℕ)) → items_text false (items_of (map string tags)) ≡ join_by quoted (codes ",") tags ++ codes "]"
all_items [] = refl
all_items (tag ∷ tags) =
    ap (λ t. quoted tag ++ t) (later_items tags)
    ∙ sym (append_assoc (quoted tag) (flat_map (λ t. codes "," ++ quoted t) tags) (codes "]"))

-- the text up to the name, and from the name on up to the tags
front : List ℕ → List ℕ
front rest = codes "{\"name\":\"" ++ rest

middle : List ℕ → List ℕ
middle rest = codes ",\"tags\":[" ++ rest

-- the text of the whole value
whole : (name : List ℕ) (tags : List (List ℕ)) → IsName name
    → front (name ++ (codes "\"" ++ middle (join_by quoted (codes ",") tags ++ codes "]}"))) ≡ compact_text (tags_json name tags)
unfolding escape_byte front middle
whole name tags is =
    let strings = join_by quoted (codes ",") tags in
    ap front (sym (append_assoc name (codes "\"") (middle (strings ++ codes "]}"))))
    ∙ ap (λ x. front ((x ++ codes "\"") ++ middle (strings ++ codes "]}"))) (name_escaped name is)
    ∙ ap (λ x. front ((escape name ++ codes "\"") ++ middle x)) (sym (append_assoc strings (codes "]") (codes "}")) ∙ ap (λ y. y ++ codes "}") (sym (all_items tags)))

pub tags_written : (name : List ℕ) (tags : List (List ℕ)) (first second third : List ℕ) → IsName name
    → first ≡ codes "{\"name\":\"" ++ (name ++ codes "\",\"tags\":[") → second ≡ first ++ join_by quoted (codes ",") tags → third ≡ second ++ codes "]}"
    → third ≡ compact_text (tags_json name tags)
unfolding front middle
tags_written name tags first second third is f g h =
    h ∙ rw (g, f)
    (ap (λ x. codes "{\"name\":\"" ++ x)
    (append_assoc (name ++ codes "\",\"tags\":[") (join_by quoted (codes ",") tags) (codes "]}")
    ∙ append_assoc name (codes "\",\"tags\":[") (join_by quoted (codes ",") tags ++ codes "]}"))
    ∙ whole name tags is)

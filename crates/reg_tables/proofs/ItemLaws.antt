-- What a key is of, by how it is spelled.
use Rattle.std.proofs.Common.{◌≡◌, ℕ, zero, suc, ◌+◌, ◌-◌, Bool, true, false, cond, ltb, eqb, List, [], ◌∷◌, ◌++◌, length, take, drop, append_assoc, append-nil, take-append-drop, length-append, Option, Some, None, refl, sym, ap, ◌∙◌, inl, inr, arith}
use Rattle.std.specs.Prelude.{not}
use Rattle.std.specs.List.{position_or_len}
use Rattle.std.proofs.lemmas.Bool.{cases_Bool, true≢false, false≢true, eqb-true, ltb-true}
use Rattle.std.proofs.lemmas.Option.{none-some, cond_some, same_Some}
use Rattle.std.proofs.lemmas.List.{length-drop, take_at, drop_at}
use Rattle.reg_names.specs.Digests.{IsDigest}
use Rattle.reg_names.specs.Names.{is_name, IsName}
use Rattle.reg_names.specs.Tags.{is_tag, IsTag}
use Rattle.keeper_api.specs.declared.field.Field.TheVariants as field
use Rattle.keeper_api.specs.Fields.{ended}
use Rattle.keeper_api.specs.InnerFields as inner
use Rattle.keeper_api.specs.InnerFields.{strip, rest_if}
use Rattle.keeper_api.proofs.FieldLaws.{strips}
use Rattle.reg_tables.specs.Items.{Item, last_number, manifest_at, tag_at, named_at, child_at, link_at, blob_at, none_at, elsewhere, with_byte, ended_at, of_digest, of_spot, of_pair, of_tag_end, of_tag, of_meta, in_table, item_of}
use Rattle.reg_tables.specs.InnerItems.{key_of, is_proper}

-- ---- names and tags are read off the front

abbrev zero_place : List ℕ → ℕ
zero_place bytes = position_or_len (λ b. eqb b 0) bytes

suc_apart : (n : ℕ) → eqb (suc n) 0 ≡ false
suc_apart n = elim (cases_Bool (eqb (suc n) 0)) [ inl y ↦ absurd (omega (arith, eqb-true (suc n) 0 y)) | inr f ↦ f ]

-- a text ends at the first zero byte
by_place : (text rest : List ℕ) → zero_place (text ++ 0 ∷ rest) ≡ length text → ended_at (text ++ 0 ∷ rest) ≡ Some (text, rest)
by_place [] rest e = refl
by_place (zero ∷ text) rest e = absurd (omega (arith, e))
by_place (suc b ∷ text) rest e =
    let next : zero_place (text ++ 0 ∷ rest) ≡ length text = by (eqb (suc b) 0) (suc_apart b) e in
    ap (with_byte (suc b)) (by_place text rest next)
  where
    by : (t : Bool) → t ≡ false → cond (not t) (1 + zero_place (text ++ 0 ∷ rest)) 0 ≡ suc (length text) → zero_place (text ++ 0 ∷ rest) ≡ length text
    by true f h = absurd (true≢false f)
    by false f h = omega (arith, h)

place_is : (test : List ℕ → Bool) (text rest : List ℕ) → rest_if test (inner.ended_at (ended text ++ rest)) ≡ Some rest → zero_place (ended text ++ rest) ≡ length text
unfolding inner.ended_at
place_is test text rest e = by (ended text ++ rest) (zero_place (ended text ++ rest)) long (ltb (zero_place (ended text ++ rest)) (length (ended text ++ rest))) refl e
  where
    long : length (ended text ++ rest) ≡ length text + 1 + length rest
    long = length-append (ended text) rest ∙ ap (λ (n : ℕ). n + length rest) (length-append text (0 ∷ []))

    by : (bytes : List ℕ) (place : ℕ) → length bytes ≡ length text + 1 + length rest → (b : Bool) → ltb place (length bytes) ≡ b → rest_if test (cond b (Some (take place bytes, drop (place + 1) bytes)) None) ≡ Some rest → place ≡ length text
    by bytes place len false l h = absurd (none-some rest h)
    by bytes place len true l h =
        let left : drop (place + 1) bytes ≡ rest = (cond_some (test (take place bytes)) (drop (place + 1) bytes) rest h).1 in
        let more : length rest ≡ length bytes - (place + 1) = ap length (sym left) ∙ length-drop (place + 1) bytes in
        omega (arith, ltb-true place (length bytes) l, len, more)

module _ (test : List ℕ → Bool) (text rest : List ℕ) (again : rest_if test (inner.ended_at (ended text ++ rest)) ≡ Some rest) where
  text_own : ended_at (ended text ++ rest) ≡ Some (text, rest)
  text_own =
      let parts : ended text ++ rest ≡ text ++ 0 ∷ rest = append_assoc text (0 ∷ []) rest in
      ap ended_at parts ∙ by_place text rest (ap zero_place (sym parts) ∙ place_is test text rest again)

pub name_own : (name rest : List ℕ) → IsName name → ended_at (ended name ++ rest) ≡ Some (name, rest)
unfolding strip
name_own name rest is = text_own is_name name rest ((strips field.EndedName).again (ended name) rest (name, is, refl))

pub tag_own : (tag : List ℕ) → IsTag tag → ended_at (ended tag) ≡ Some (tag, [])
unfolding strip
tag_own tag is = ap ended_at (sym (append-nil (ended tag))) ∙ text_own is_tag tag [] ((strips field.EndedTag).again (ended tag) [] (tag, is, refl))

-- ---- keys are of what they are spelled for

pub digest_long : (digest : List ℕ) → IsDigest digest → length digest ≡ 33
digest_long digest is = ap length is.is ∙ ap (λ (n : ℕ). suc n) is.long

pub digest_own : (item : List ℕ → Item) (digest : List ℕ) → IsDigest digest → of_digest item digest ≡ item digest
digest_own item digest is = ap (λ (n : ℕ). cond (eqb n 33) (item digest) none_at) (digest_long digest is)

pub spot_own : (item : List ℕ → List ℕ → Item) (name digest : List ℕ) → IsName name → IsDigest digest → of_spot item (ended_at (ended name ++ digest)) ≡ item name digest
spot_own item name digest is digest_is = ap (of_spot item) (name_own name digest is) ∙ digest_own (item name) digest digest_is

pub tag_key_own : (name tag : List ℕ) → IsName name → IsTag tag → of_tag (ended_at (ended name ++ ended tag)) ≡ tag_at name tag
tag_key_own name tag is tag_is = ap of_tag (name_own name (ended tag) is) ∙ ap (of_tag_end name) (tag_own tag tag_is)

-- of a name, a digest, and what is behind it
pub pair_of : (item : List ℕ → List ℕ → List ℕ → Item) (name first rest : List ℕ) → IsName name → IsDigest first → of_pair item (ended_at ((ended name ++ first) ++ rest)) ≡ of_digest (item name first) rest
pair_of item name first rest is first_is =
    let long : length first ≡ 33 = digest_long first first_is in
    ap (λ (t : List ℕ). of_pair item (ended_at t)) (append_assoc (ended name) first rest)
    ∙ ap (of_pair item) (name_own name (first ++ rest) is)
    ∙ ap (λ (x : List ℕ). of_digest (item name x) (drop 33 (first ++ rest))) (take_at first rest 33 long)
    ∙ ap (of_digest (item name first)) (drop_at first rest 33 long)

pub pair_own : (item : List ℕ → List ℕ → List ℕ → Item) (name first second : List ℕ) → IsName name → IsDigest first → IsDigest second → of_pair item (ended_at ((ended name ++ first) ++ second)) ≡ item name first second
pair_own item name first second is first_is second_is = pair_of item name first second is first_is ∙ digest_own (item name first) second second_is

-- ---- and are spelled so

ended_spelled : (key : List ℕ) (p : List ℕ × List ℕ) → ended_at key ≡ Some p → key ≡ ended p.0 ++ p.1
ended_spelled [] p e = absurd (none-some p e)
ended_spelled (zero ∷ key) p e = ap (λ (z : List ℕ × List ℕ). ended z.0 ++ z.1) (same_Some ([], key) p e)
ended_spelled (suc b ∷ key) p e = by (ended_at key) (ended_spelled key) e
  where
    by : (o : Option (List ℕ × List ℕ)) → ((q : List ℕ × List ℕ) → o ≡ Some q → key ≡ ended q.0 ++ q.1) → with_byte (suc b) o ≡ Some p → suc b ∷ key ≡ ended p.0 ++ p.1
    by None rest h = absurd (none-some p h)
    by (Some q) rest h = ap (λ (t : List ℕ). suc b ∷ t) (rest q refl) ∙ ap (λ (z : List ℕ × List ℕ). ended z.0 ++ z.1) (same_Some (suc b ∷ q.0, q.1) p h)

abbrev Spelled : ℕ → List ℕ → Item → Type 0
Spelled table key item = is_proper item ≡ true → table ∷ key ≡ key_of item

-- a key that is of one item where the table is this one, and of another elsewhere
step : (table n : ℕ) (key : List ℕ) (here other : Item) → Spelled n key here → Spelled table key other → Spelled table key (cond (eqb table n) here other)
step table n key here other first rest = by (eqb table n) refl
  where
    by : (b : Bool) → eqb table n ≡ b → Spelled table key (cond b here other)
    by true e proper = ap (λ (t : ℕ). t ∷ key) (eqb-true table n e) ∙ first proper
    by false e proper = rest proper

digest_spelled : (key : List ℕ) (item : List ℕ → Item) (digest : List ℕ) → key ≡ key_of (item digest) → is_proper (of_digest item digest) ≡ true → key ≡ key_of (of_digest item digest)
digest_spelled key item digest is = by (eqb (length digest) 33)
  where
    by : (b : Bool) → is_proper (cond b (item digest) none_at) ≡ true → key ≡ key_of (cond b (item digest) none_at)
    by true proper = is
    by false proper = absurd (false≢true proper)

spot_spelled : (n : ℕ) (item : List ℕ → List ℕ → Item) (key : List ℕ) → ((name digest : List ℕ) → key_of (item name digest) ≡ n ∷ (ended name ++ digest)) → (o : Option (List ℕ × List ℕ)) → ended_at key ≡ o → Spelled n key (of_spot item o)
spot_spelled n item key is None e proper = absurd (false≢true proper)
spot_spelled n item key is (Some p) e proper = digest_spelled (n ∷ key) (item p.0) p.1 (ap (λ (t : List ℕ). n ∷ t) (ended_spelled key p e) ∙ sym (is p.0 p.1)) proper

pair_spelled : (n : ℕ) (item : List ℕ → List ℕ → List ℕ → Item) (key : List ℕ) → ((name first second : List ℕ) → key_of (item name first second) ≡ n ∷ ((ended name ++ first) ++ second)) → (o : Option (List ℕ × List ℕ)) → ended_at key ≡ o → Spelled n key (of_pair item o)
pair_spelled n item key is None e proper = absurd (false≢true proper)
pair_spelled n item key is (Some p) e proper =
    digest_spelled (n ∷ key) (item p.0 (take 33 p.1)) (drop 33 p.1)
    (ap (λ (t : List ℕ). n ∷ t) (ended_spelled key p e) ∙ ap (λ (t : List ℕ). n ∷ (ended p.0 ++ t)) (sym (take-append-drop 33 p.1)) ∙ ap (λ (t : List ℕ). n ∷ t) (sym (append_assoc (ended p.0) (take 33 p.1) (drop 33 p.1))) ∙ sym (is p.0 (take 33 p.1) (drop 33 p.1)))
    proper

tag_end_spelled : (name rest : List ℕ) (o : Option (List ℕ × List ℕ)) → ended_at rest ≡ o → is_proper (of_tag_end name o) ≡ true → 4 ∷ (ended name ++ rest) ≡ key_of (of_tag_end name o)
tag_end_spelled name rest None e proper = absurd (false≢true proper)
tag_end_spelled name rest (Some (tag, [])) e proper = ap (λ (t : List ℕ). 4 ∷ (ended name ++ t)) (ended_spelled rest (tag, []) e ∙ append-nil (ended tag))
tag_end_spelled name rest (Some (tag, b ∷ bs)) e proper = absurd (false≢true proper)

tag_spelled : (key : List ℕ) (o : Option (List ℕ × List ℕ)) → ended_at key ≡ o → Spelled 4 key (of_tag o)
tag_spelled key None e proper = absurd (false≢true proper)
tag_spelled key (Some p) e proper = ap (λ (t : List ℕ). 4 ∷ t) (ended_spelled key p e) ∙ tag_end_spelled p.0 p.1 (ended_at p.1) refl proper

meta_spelled : (key : List ℕ) → Spelled 0 key (of_meta key)
meta_spelled [] proper = absurd (false≢true proper)
meta_spelled (b ∷ []) proper = by (eqb b 3) refl proper
  where
    by : (t : Bool) → eqb b 3 ≡ t → is_proper (cond t last_number elsewhere) ≡ true → 0 ∷ b ∷ [] ≡ key_of (cond t last_number elsewhere)
    by true e p = ap (λ (n : ℕ). 0 ∷ n ∷ []) (eqb-true b 3 e)
    by false e p = absurd (false≢true p)
meta_spelled (b ∷ c ∷ bs) proper = absurd (false≢true proper)

in_table_spelled : (table : ℕ) (key : List ℕ) → Spelled table key (in_table table key)
in_table_spelled table key =
    step table 0 key _ _ (meta_spelled key)
    (step table 1 key _ _ (λ p. refl)
    (step table 2 key _ _ (spot_spelled 2 manifest_at key (λ name digest. refl) (ended_at key) refl)
    (step table 4 key _ _ (tag_spelled key (ended_at key) refl)
    (step table 5 key _ _ (pair_spelled 5 named_at key (λ name first second. refl) (ended_at key) refl)
    (step table 6 key _ _ (pair_spelled 6 child_at key (λ name first second. refl) (ended_at key) refl)
    (step table 7 key _ _ (spot_spelled 7 link_at key (λ name digest. refl) (ended_at key) refl)
    (step table 8 key _ _ (digest_spelled (8 ∷ key) blob_at key refl) (λ p. absurd (false≢true p)))))))))

pub spelled : (key : List ℕ) → is_proper (item_of key) ≡ true → key ≡ key_of (item_of key)
spelled [] proper = absurd (false≢true proper)
spelled (table ∷ key) proper = in_table_spelled table key proper

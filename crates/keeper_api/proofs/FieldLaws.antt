-- A field that is passed over is spelled by what was in front, and what spells a field is passed over.
use Rattle.std.proofs.Common.{◌≡◌, ℕ, zero, suc, ◌+◌, ◌^◌, ◌<◌, ◌≤◌, Bool, true, false, cond, ltb, leb, eqb, List, [], ◌∷◌, ◌++◌, length, take, drop, Option, Some, None, refl, sym, ap, subst, ◌∙◌, append_assoc, arith, inl, inr}
use Rattle.std.specs.Prelude.{◌&&◌, ◌||◌, not}
use Rattle.std.specs.List.{list_all, position_or_len}
use Rattle.std.specs.Int.{w16, w32, w64, from_be_bytes, to_be_bytes}
use Rattle.std.specs.Str.{is_utf8}
use Rattle.std.proofs.lemmas.Bool.{cases_Bool, ltb-true, lt-ltb, leb-true, le-leb, eqb-true, eqb-false, and_parts, and_from, cond-true, true≢false}
use Rattle.std.proofs.lemmas.Option.{same_Some, none-some, cond_some}
use Rattle.std.proofs.lemmas.List.{take_at, drop_at, length-append}
use Rattle.std.proofs.lemmas.List.Splits.{join_with_byte-slice_split}
use Rattle.std.proofs.lemmas.Nat.{be_bytes_4}
use Rattle.std.proofs.lemmas.Str.{is_utf8-from_IsUtf8, IsUtf8-from_is_utf8}
use Rattle.reg_names.specs.declared.kind.Kind.{Kind}
use Rattle.reg_names.specs.declared.kind.Kind.TheVariants.{OciImage, OciIndex, DockerImage, DockerList}
use Rattle.reg_names.specs.Digests.{AreBytes, IsDigest}
use Rattle.reg_names.specs.Names.{is_alphanumeric, begins, goes_on, underscored, dashed, is_name, IsName}
use Rattle.reg_names.specs.Limits.{name_limit}
use Rattle.reg_names.specs.Tags.{is_word, is_tag_byte, is_tag, IsTag}
use Rattle.reg_journal.specs.Entries.{IsNumber}
use Rattle.reg_journal.specs.Spelling.{number_field, count_field, digest_field, kind_number, free_number}
use Rattle.reg_journal.specs.InnerReading.{byte_at, number_at, bytes_at, digest_at}
use Rattle.reg_journal.proofs.FieldLaws.{Takes, Reads, bind_some, takes_both, byte_reads, number_reads, count_reads, bytes_reads, digest_reads}
use Rattle.depot_api.specs.Paths.{is_path, parts_of, path_text}
use Rattle.depot_api.specs.Limits.{path_limit}
use Rattle.keeper_api.specs.Fields.{ended, counted, IsPathText, Spells}
use Rattle.depot_api.specs.Paths.{is_path_text}
use Rattle.keeper_api.specs.InnerFields.{rest_if, rest_of, ended_at, counted_at, is_event, is_kind, strip}
use Rattle.keeper_api.specs.declared.field.Field.{Field}
use Rattle.keeper_api.specs.declared.field.Field.TheVariants as field

-- ---- what is passed over

pub record Passed (f : Field) (bytes rest : List ℕ) : Type 0 where
  pub front : List ℕ
  pub spells : Spells f front
  pub takes : Takes bytes front rest

pub record Strips (f : Field) : Type 0 where
  pub passed : (bytes rest : List ℕ) → AreBytes bytes → strip f bytes ≡ Some rest → Passed f bytes rest
  pub again : (front rest : List ℕ) → Spells f front → strip f (front ++ rest) ≡ Some rest

-- a value that was read and passed a test
record Read {A : Type 0} (spelled : A → List ℕ) (I : A → Type 0) (test : A → Bool) (bytes rest : List ℕ) : Type 0 where
  value : A
  passes : test value ≡ true
  is : I value
  takes : Takes bytes (spelled value) rest

module _ {A : Type 0} (split : List ℕ → Option (A × List ℕ)) (spelled : A → List ℕ) (I : A → Type 0) (reads : Reads split spelled I) where
  if_read : (test : A → Bool) (bytes rest : List ℕ) → AreBytes bytes → rest_if test (split bytes) ≡ Some rest → Read spelled I test bytes rest
  if_read test bytes rest fits e = by (split bytes) refl e
    where
      by : (o : Option (A × List ℕ)) → split bytes ≡ o → rest_if test o ≡ Some rest → Read spelled I test bytes rest
      by None is h = absurd (none-some rest h)
      by (Some x) is h =
          let passed = cond_some (test x.0) x.1 rest h in
          let taken = reads.takes bytes x.0 x.1 fits is in
          record { value = x.0; passes = passed.0; is = taken.1; takes = subst (λ (r : List ℕ). Takes bytes (spelled x.0) r) passed.1 taken.0 }

  if_again : (test : A → Bool) (x : A) (rest : List ℕ) → I x → test x ≡ true → rest_if test (split (spelled x ++ rest)) ≡ Some rest
  if_again test x rest is passes = rw (reads.again x rest is) (cond-true (test x) (Some rest) None passes)

  of_read : (bytes rest : List ℕ) → AreBytes bytes → rest_of (split bytes) ≡ Some rest → Read spelled I (λ _. true) bytes rest
  of_read bytes rest fits e = by (split bytes) refl e
    where
      by : (o : Option (A × List ℕ)) → split bytes ≡ o → rest_of o ≡ Some rest → Read spelled I (λ _. true) bytes rest
      by None is h = absurd (none-some rest h)
      by (Some x) is h =
          let taken = reads.takes bytes x.0 x.1 fits is in
          record { value = x.0; passes = refl; is = taken.1; takes = subst (λ (r : List ℕ). Takes bytes (spelled x.0) r) (same_Some x.1 rest h) taken.0 }

  of_again : (x : A) (rest : List ℕ) → I x → rest_of (split (spelled x ++ rest)) ≡ Some rest
  of_again x rest is = ap rest_of (reads.again x rest is)

-- ---- bytes

front_fits : (x y : List ℕ) → AreBytes (x ++ y) → AreBytes x
front_fits [] y h i = omega arith
front_fits (b ∷ x) y h zero = h 0
front_fits (b ∷ x) y h (suc i) = front_fits x y (λ j. h (suc j)) i

rest_fits : (x y : List ℕ) → AreBytes (x ++ y) → AreBytes y
rest_fits [] y h = h
rest_fits (b ∷ x) y h = rest_fits x y (λ j. h (suc j))

abbrev one_byte : ℕ → List ℕ
one_byte b = b ∷ []

pub eqb-itself : (n : ℕ) → eqb n n ≡ true
eqb-itself n = elim (cases_Bool (eqb n n)) [ inl y ↦ y | inr f ↦ absurd (eqb-false n n f refl) ]

suc_apart : (n : ℕ) → eqb (suc n) 0 ≡ false
suc_apart n = elim (cases_Bool (eqb (suc n) 0)) [ inl y ↦ absurd (omega (arith, eqb-true (suc n) 0 y)) | inr f ↦ f ]

byte_strips : (b : ℕ) → Strips (field.Byte b)
unfolding strip byte_at
byte_strips b = record {
  passed = λ bytes rest fits e.
      let r = if_read byte_at one_byte (λ n. n < 256) byte_reads (λ x. eqb x b) bytes rest fits e in
      record { front = one_byte r.value; spells = ap one_byte (eqb-true r.value b r.passes); takes = r.takes };
  again = λ front rest is. ap (λ (t : List ℕ). strip (field.Byte b) (t ++ rest)) is ∙ cond-true (eqb b b) (Some rest) None (eqb-itself b);
}

-- ---- numbers

number_strips : Strips field.Number
unfolding strip
number_strips = record {
  passed = λ bytes rest fits e.
      let r = of_read (number_at w64) number_field IsNumber number_reads bytes rest fits e in
      record { front = number_field r.value; spells = (r.value, r.is, refl); takes = r.takes };
  again = λ front rest s. ap (λ (t : List ℕ). strip field.Number (t ++ rest)) s.2 ∙ of_again (number_at w64) number_field IsNumber number_reads s.0 rest s.1;
}

positive_strips : Strips field.Positive
unfolding strip
positive_strips = record {
  passed = λ bytes rest fits e.
      let r = if_read (number_at w64) number_field IsNumber number_reads (leb 1) bytes rest fits e in
      record { front = number_field r.value; spells = (r.value, r.is, leb-true 1 r.value r.passes, refl); takes = r.takes };
  again = λ front rest s.
      ap (λ (t : List ℕ). strip field.Positive (t ++ rest)) s.3 ∙ if_again (number_at w64) number_field IsNumber number_reads (leb 1) s.0 rest s.1 (le-leb 1 s.0 s.2);
}

one_strips : Strips field.One
unfolding strip
one_strips = record {
  passed = λ bytes rest fits e.
      let r = if_read (number_at w64) number_field IsNumber number_reads (λ n. eqb n 1) bytes rest fits e in
      record { front = number_field r.value; spells = ap number_field (eqb-true r.value 1 r.passes); takes = r.takes };
  again = λ front rest s.
      ap (λ (t : List ℕ). strip field.One (t ++ rest)) s ∙ if_again (number_at w64) number_field IsNumber number_reads (λ n. eqb n 1) 1 rest (omega arith) refl;
}

-- any four bytes are a number
abbrev IsFour : List ℕ → Type 0
IsFour bytes = length bytes ≡ 4

four_at : (bytes : List ℕ) → rest_of (number_at w32 bytes) ≡ rest_of (bytes_at 4 bytes)
unfolding number_at bytes_at
four_at bytes = by (ltb (length bytes) 4)
  where
    by : (c : Bool) → rest_of (cond {A = Option (ℕ × List ℕ)} c None (Some (from_be_bytes w32 (take 4 bytes), drop 4 bytes))) ≡ rest_of (cond {A = Option (List ℕ × List ℕ)} c None (Some (take 4 bytes, drop 4 bytes)))
    by true = refl
    by false = refl

four_below : (bytes : List ℕ) → AreBytes bytes → from_be_bytes w32 bytes < 2 ^ 32
four_below bytes fits = omega (arith, fits 0, fits 1, fits 2, fits 3)

count_strips : Strips field.Count
unfolding strip
count_strips = record {
  passed = λ bytes rest fits e.
      let r = of_read (bytes_at 4) (λ t. t) IsFour (bytes_reads 4) bytes rest fits (sym (four_at bytes) ∙ e) in
      let mine : AreBytes r.value = front_fits r.value rest (subst AreBytes r.takes.parts fits) in
      let n = from_be_bytes w32 r.value in
      record { front = r.value; spells = (n, four_below r.value mine, sym (be_bytes_4 r.value n r.is mine refl)); takes = r.takes };
  again = λ front rest s.
      four_at (front ++ rest)
      ∙ ap (λ (t : List ℕ). rest_of (bytes_at 4 (t ++ rest))) s.2
      ∙ of_again (bytes_at 4) (λ t. t) IsFour (bytes_reads 4) (to_be_bytes w32 s.0) rest refl;
}

-- ---- names and tags, ended by a zero byte

HasNoZero : List ℕ → Type 0
HasNoZero [] = Unit {0}
HasNoZero (b ∷ bs) = (eqb b 0 ≡ false) × HasNoZero bs

abbrev zero_place : List ℕ → ℕ
zero_place bytes = position_or_len (λ b. eqb b 0) bytes

record EndsAt (bytes : List ℕ) (end : ℕ) : Type 0 where
  parts : bytes ≡ ended (take end bytes) ++ drop (end + 1) bytes
  none : HasNoZero (take end bytes)

-- one byte more in front
abbrev further : Bool → ℕ → ℕ
further c place = cond (not c) (1 + place) 0

ends_at : (bytes : List ℕ) → zero_place bytes < length bytes → EndsAt bytes (zero_place bytes)
unfolding HasNoZero
ends_at [] lt = absurd (omega (arith, lt))
ends_at (b ∷ bs) lt = by (eqb b 0) refl lt (ends_at bs)
  where
    by : (c : Bool) → eqb b 0 ≡ c → further c (zero_place bs) < length (b ∷ bs) → (zero_place bs < length bs → EndsAt bs (zero_place bs)) → EndsAt (b ∷ bs) (further c (zero_place bs))
    by true is lt later = record { parts = ap (λ (n : ℕ). n ∷ bs) (eqb-true b 0 is); none = tt }
    by false is lt later =
        let more = later (omega (arith, lt)) in
        let place : 1 + zero_place bs ≡ suc (zero_place bs) = omega arith in
        let behind : suc (zero_place bs + 1) ≡ suc (zero_place bs) + 1 = omega arith in
        subst (EndsAt (b ∷ bs)) (sym place)
        (record { parts = ap (λ (t : List ℕ). b ∷ t) more.parts ∙ ap (λ (n : ℕ). ended (b ∷ take (zero_place bs) bs) ++ drop n (b ∷ bs)) behind; none = (is, more.none) })

first_zero : (text rest : List ℕ) → HasNoZero text → zero_place (ended text ++ rest) ≡ length text
unfolding HasNoZero
first_zero [] rest h = refl
first_zero (b ∷ text) rest h = rw h.0 (ap (λ n. 1 + n) (first_zero text rest h.1) ∙ omega arith)

ended_reads : Reads ended_at ended HasNoZero
unfolding ended_at
ended_reads = record {
  takes = λ bytes x rest fits e.
      let end = zero_place bytes in
      let found : List ℕ × List ℕ = (take end bytes, drop (end + 1) bytes) in
      let g = cond_some (ltb end (length bytes)) found (x, rest) e in
      let at = ends_at bytes (ltb-true end (length bytes) g.0) in
      subst (λ (y : List ℕ × List ℕ). Takes bytes (ended y.0) y.1 × HasNoZero y.0) g.1
      (record { parts = at.parts; rest_fits = rest_fits (ended (take end bytes)) (drop (end + 1) bytes) (subst AreBytes at.parts fits) }, at.none);
  again = λ x rest h.
      let whole = ended x ++ rest in
      let end : zero_place whole ≡ length x = first_zero x rest h in
      let long : length whole ≡ length x + 1 + length rest = omega (arith, length-append (ended x) rest, length-append x (0 ∷ [])) in
      let front : take (length x) whole ≡ x = ap (take (length x)) (append_assoc x (0 ∷ []) rest) ∙ take_at x (0 ∷ rest) (length x) refl in
      let back : drop (length x + 1) whole ≡ rest = drop_at (ended x) rest (length x + 1) (omega (arith, length-append x (0 ∷ []))) in
      let test : ltb (length x) (length whole) ≡ true = lt-ltb (length x) (length whole) (omega (arith, long)) in
      rw (end, test, front, back) refl;
}

no_zero : (test : ℕ → Bool) → test 0 ≡ false → (b : ℕ) → test b ≡ true → eqb b 0 ≡ false
no_zero test none zero h = absurd (true≢false (sym h ∙ none))
no_zero test none (suc b) h = suc_apart b

-- whichever way a test goes on
either : {P : Type 0} (c x y : Bool) → cond c x y ≡ true → (x ≡ true → P) → (y ≡ true → P) → P
either true x y h one other = one h
either false x y h one other = other h

mutual
  unfolding HasNoZero

  begins_none : (bs : List ℕ) → begins bs ≡ true → HasNoZero bs
  begins_none [] h = tt
  begins_none (zero ∷ bs) h = absurd (true≢false (sym h))
  begins_none (suc b ∷ bs) h = (suc_apart b, goes_none bs (and_parts (is_alphanumeric (suc b)) (goes_on bs) h).1)

  goes_none : (bs : List ℕ) → goes_on bs ≡ true → HasNoZero bs
  goes_none [] h = tt
  goes_none (zero ∷ bs) h = absurd (true≢false (sym h))
  goes_none (suc b ∷ bs) h =
      let last : Bool = eqb (suc b) 45 && dashed bs in
      let more : Bool = cond (eqb (suc b) 95) (underscored bs) last in
      let others : Bool = cond (eqb (suc b) 47 || eqb (suc b) 46) (begins bs) more in (
        suc_apart b,
        either (is_alphanumeric (suc b)) (goes_on bs) others h (goes_none bs)
            (λ g. either (eqb (suc b) 47 || eqb (suc b) 46) (begins bs) more g (begins_none bs)
            (λ k. either (eqb (suc b) 95) (underscored bs) last k (under_none bs)
            (λ m. dashed_none bs (and_parts (eqb (suc b) 45) (dashed bs) m).1))),
      )

  under_none : (bs : List ℕ) → underscored bs ≡ true → HasNoZero bs
  under_none [] h = tt
  under_none (zero ∷ bs) h = absurd (true≢false (sym h))
  under_none (suc b ∷ bs) h =
      (suc_apart b, either (eqb (suc b) 95) (begins bs) (is_alphanumeric (suc b) && goes_on bs) h (begins_none bs) (λ g. goes_none bs (and_parts (is_alphanumeric (suc b)) (goes_on bs) g).1))

  dashed_none : (bs : List ℕ) → dashed bs ≡ true → HasNoZero bs
  dashed_none [] h = tt
  dashed_none (zero ∷ bs) h = absurd (true≢false (sym h))
  dashed_none (suc b ∷ bs) h =
      (suc_apart b, either (eqb (suc b) 45) (dashed bs) (is_alphanumeric (suc b) && goes_on bs) h (dashed_none bs) (λ g. goes_none bs (and_parts (is_alphanumeric (suc b)) (goes_on bs) g).1))

name_has_none : (text : List ℕ) → IsName text → HasNoZero text
name_has_none text h = begins_none text (and_parts (leb (length text) name_limit) (begins text) h).1

tag_bytes_none : (bs : List ℕ) → list_all is_tag_byte bs ≡ true → HasNoZero bs
unfolding HasNoZero
tag_bytes_none [] h = tt
tag_bytes_none (b ∷ bs) h =
    let p = and_parts (is_tag_byte b) (list_all is_tag_byte bs) h in (no_zero is_tag_byte refl b p.0, tag_bytes_none bs p.1)

tag_has_none : (text : List ℕ) → IsTag text → HasNoZero text
unfolding HasNoZero
tag_has_none [] h = tt
tag_has_none (b ∷ bs) h =
    let p = and_parts _ (list_all is_tag_byte bs) h in
    (no_zero is_word refl b (and_parts (is_word b) _ p.0).0, tag_bytes_none bs p.1)

name_strips : Strips field.EndedName
unfolding strip
name_strips = record {
  passed = λ bytes rest fits e.
      let r = if_read ended_at ended HasNoZero ended_reads is_name bytes rest fits e in
      record { front = ended r.value; spells = (r.value, r.passes, refl); takes = r.takes };
  again = λ front rest s.
      ap (λ (t : List ℕ). strip field.EndedName (t ++ rest)) s.2 ∙ if_again ended_at ended HasNoZero ended_reads is_name s.0 rest (name_has_none s.0 s.1) s.1;
}

tag_strips : Strips field.EndedTag
unfolding strip
tag_strips = record {
  passed = λ bytes rest fits e.
      let r = if_read ended_at ended HasNoZero ended_reads is_tag bytes rest fits e in
      record { front = ended r.value; spells = (r.value, r.passes, refl); takes = r.takes };
  again = λ front rest s.
      ap (λ (t : List ℕ). strip field.EndedTag (t ++ rest)) s.2 ∙ if_again ended_at ended HasNoZero ended_reads is_tag s.0 rest (tag_has_none s.0 s.1) s.1;
}

digest_strips : Strips field.Digest
unfolding strip
digest_strips = record {
  passed = λ bytes rest fits e.
      let r = of_read digest_at digest_field IsDigest digest_reads bytes rest fits e in
      record { front = r.value; spells = r.is; takes = r.takes };
  again = λ front rest s. of_again digest_at digest_field IsDigest digest_reads front rest s;
}

-- ---- what is told by one byte

kind_from : (n : ℕ) → is_kind n ≡ true → (kind : Kind) × (n ≡ kind_number kind)
kind_from n h =
    let p = and_parts (leb 1 n) (leb n 4) h in
    let low = leb-true 1 n p.0 in
    let high = leb-true n 4 p.1 in
    elim (cases_Bool (eqb n 1)) [
      | inl y ↦ (OciImage, eqb-true n 1 y)
      | inr a ↦ elim (cases_Bool (eqb n 2)) [
        | inl y ↦ (OciIndex, eqb-true n 2 y)
        | inr b ↦ elim (cases_Bool (eqb n 3)) [
          | inl y ↦ (DockerImage, eqb-true n 3 y)
          | inr c ↦ (DockerList, omega (arith, low, high, eqb-false n 1 a, eqb-false n 2 b, eqb-false n 3 c))
        ]
      ]
    ]

kind_is : (kind : Kind) → (is_kind (kind_number kind) ≡ true) × (kind_number kind < 256)
kind_is OciImage = (refl, omega arith)
kind_is OciIndex = (refl, omega arith)
kind_is DockerImage = (refl, omega arith)
kind_is DockerList = (refl, omega arith)

kind_strips : Strips field.Kind
unfolding strip
kind_strips = record {
  passed = λ bytes rest fits e.
      let r = if_read byte_at one_byte (λ n. n < 256) byte_reads is_kind bytes rest fits e in
      let k = kind_from r.value r.passes in
      record { front = one_byte r.value; spells = (k.0, ap one_byte k.1); takes = r.takes };
  again = λ front rest s.
      ap (λ (t : List ℕ). strip field.Kind (t ++ rest)) s.1
      ∙ if_again byte_at one_byte (λ n. n < 256) byte_reads is_kind (kind_number s.0) rest (kind_is s.0).1 (kind_is s.0).0;
}

free_from : (n : ℕ) → leb n 1 ≡ true → (free : Bool) × (n ≡ free_number free)
free_from n h =
    elim (cases_Bool (eqb n 0)) [
      | inl y ↦ (false, eqb-true n 0 y)
      | inr a ↦ (true, omega (arith, leb-true n 1 h, eqb-false n 0 a))
    ]

free_is : (free : Bool) → (leb (free_number free) 1 ≡ true) × (free_number free < 256)
free_is true = (refl, omega arith)
free_is false = (refl, omega arith)

free_strips : Strips field.Free
unfolding strip
free_strips = record {
  passed = λ bytes rest fits e.
      let r = if_read byte_at one_byte (λ n. n < 256) byte_reads (λ n. leb n 1) bytes rest fits e in
      let k = free_from r.value r.passes in
      record { front = one_byte r.value; spells = (k.0, ap one_byte k.1); takes = r.takes };
  again = λ front rest s.
      ap (λ (t : List ℕ). strip field.Free (t ++ rest)) s.1
      ∙ if_again byte_at one_byte (λ n. n < 256) byte_reads (λ n. leb n 1) (free_number s.0) rest (free_is s.0).1 (free_is s.0).0;
}

event_strips : Strips field.Event
unfolding strip
event_strips = record {
  passed = λ bytes rest fits e.
      let r = if_read byte_at one_byte (λ n. n < 256) byte_reads is_event bytes rest fits e in
      let p = and_parts (leb 1 r.value) (leb r.value 18) r.passes in
      record { front = one_byte r.value; spells = (r.value, leb-true 1 r.value p.0, leb-true r.value 18 p.1, refl); takes = r.takes };
  again = λ front rest s.
      ap (λ (t : List ℕ). strip field.Event (t ++ rest)) s.3
      ∙ if_again byte_at one_byte (λ n. n < 256) byte_reads is_event s.0 rest (omega (arith, s.2)) (and_from _ _ (le-leb 1 s.0 s.1) (le-leb s.0 18 s.2));
}

table_strips : Strips field.Table
unfolding strip
table_strips = record {
  passed = λ bytes rest fits e.
      let r = of_read byte_at one_byte (λ n. n < 256) byte_reads bytes rest fits e in
      record { front = one_byte r.value; spells = (r.value, r.is, refl); takes = r.takes };
  again = λ front rest s. ap (λ (t : List ℕ). strip field.Table (t ++ rest)) s.2 ∙ of_again byte_at one_byte (λ n. n < 256) byte_reads s.0 rest s.1;
}

-- ---- what two bytes count

IsCounted : List ℕ → Type 0
IsCounted bytes = length bytes < 2 ^ 16

counted_reads : Reads counted_at counted IsCounted
unfolding counted_at IsCounted
counted_reads = record {
  takes = λ bytes x rest fits e.
      let a = bind_some (number_at w16 bytes) (λ count. bytes_at count.0 count.1) (x, rest) e in
      let one = count_reads.takes bytes a.0.0 a.0.1 fits a.1 in
      let two = (bytes_reads a.0.0).takes a.0.1 x rest one.0.rest_fits a.2 in
      (subst (λ (n : ℕ). Takes bytes (count_field n ++ x) rest) (sym two.1) (takes_both bytes (count_field a.0.0) a.0.1 x rest one.0 two.0), omega (arith, two.1, one.1));
  again = λ x rest h.
      ap counted_at (append_assoc (count_field (length x)) x rest)
      ∙ rw (count_reads.again (length x) (x ++ rest) h) ((bytes_reads (length x)).again x rest refl);
}

path_from : (text : List ℕ) → is_path_text text ≡ true → IsPathText text
path_from text h =
    let p = and_parts (is_utf8 text) (is_path (parts_of text)) h in
    record { utf8 = IsUtf8-from_is_utf8 text p.0; path = p.1 }

path_is : (text : List ℕ) → IsPathText text → is_path_text text ≡ true
path_is text h = and_from (is_utf8 text) (is_path (parts_of text)) (is_utf8-from_IsUtf8 text h.utf8) h.path

path_is_short : (text : List ℕ) → IsPathText text → IsCounted text
unfolding IsCounted
path_is_short text h =
    let short = leb-true (length (path_text (parts_of text))) path_limit (and_parts _ (leb (length (path_text (parts_of text))) path_limit) h.path).1 in
    omega (arith, subst (λ (t : List ℕ). length t ≤ path_limit) (join_with_byte-slice_split 47 text) short)

path_strips : Strips field.Path
unfolding strip
path_strips = record {
  passed = λ bytes rest fits e.
      let r = if_read counted_at counted IsCounted counted_reads is_path_text bytes rest fits e in
      record { front = counted r.value; spells = (r.value, path_from r.value r.passes, refl); takes = r.takes };
  again = λ front rest s.
      ap (λ (t : List ℕ). strip field.Path (t ++ rest)) s.2
      ∙ if_again counted_at counted IsCounted counted_reads is_path_text s.0 rest (path_is_short s.0 s.1) (path_is s.0 s.1);
}

key_strips : Strips field.Key
unfolding strip IsCounted
key_strips = record {
  passed = λ bytes rest fits e.
      let r = of_read counted_at counted IsCounted counted_reads bytes rest fits e in
      let whole : AreBytes (counted r.value ++ rest) = subst AreBytes r.takes.parts fits in
      let mine : AreBytes r.value = rest_fits (count_field (length r.value)) r.value (front_fits (counted r.value) rest whole) in
      record { front = counted r.value; spells = (r.value, mine, r.is, refl); takes = r.takes };
  again = λ front rest s.
      ap (λ (t : List ℕ). strip field.Key (t ++ rest)) s.3 ∙ of_again counted_at counted IsCounted counted_reads s.0 rest s.2;
}

pub strips : (f : Field) → Strips f
strips (field.Byte b) = byte_strips b
strips field.Number = number_strips
strips field.Positive = positive_strips
strips field.One = one_strips
strips field.Count = count_strips
strips field.EndedName = name_strips
strips field.EndedTag = tag_strips
strips field.Digest = digest_strips
strips field.Kind = kind_strips
strips field.Free = free_strips
strips field.Event = event_strips
strips field.Table = table_strips
strips field.Path = path_strips
strips field.Key = key_strips

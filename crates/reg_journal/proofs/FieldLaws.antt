-- A field that is read is the one that was written, and what was written is read again, whatever follows it.
use Rattle.std.proofs.Common.{◌≡◌, ℕ, zero, suc, ◌+◌, ◌^◌, ◌<◌, ◌≤◌, Bool, true, false, cond, ltb, eqb, List, [], ◌∷◌, ◌++◌, length, take, drop, Option, Some, None, refl, sym, ap, subst, ◌∙◌, append_assoc, arith, inl, inr}
use Rattle.std.specs.List.{flat_map, AllByRecursion}
use Rattle.std.specs.Int.{Width, w16, w64, byte_len, from_be_bytes, to_be_bytes}
use Rattle.std.proofs.lemmas.Bool.{cases_lt, ltb-false, le-ltb, leb-true, eqb-true, and_parts, cond-true}
use Rattle.std.proofs.lemmas.Option.{same_Some, none-some, cond_some}
use Rattle.std.proofs.lemmas.List.{take_at, drop_at, take-append-drop, length-append, length-take, get_or-drop, get_or-take, get_or_past}
use Rattle.std.proofs.lemmas.Nat.{be_bytes_2, be_bytes_8, from_be_bytes-to_be_bytes_2, from_be_bytes-to_be_bytes_8}
use Rattle.reg_names.specs.declared.kind.Kind.{Kind}
use Rattle.reg_names.specs.declared.kind.Kind.TheVariants.{OciImage, OciIndex, DockerImage, DockerList}
use Rattle.reg_names.specs.declared.named.Named.{Named}
use Rattle.reg_names.specs.Digests.{AreBytes, IsDigest}
use Rattle.reg_names.specs.Limits.{name_limit, sha256_length}
use Rattle.reg_names.specs.Names.{is_name, IsName}
use Rattle.reg_names.specs.Tags.{is_tag, IsTag}
use Rattle.reg_journal.specs.Entries.{IsNumber}
use Rattle.reg_journal.specs.Spelling.{number_field, count_field, text_field, digest_field, free_number, free_field, kind_number, kind_field, named_field, list_field}
use Rattle.reg_journal.specs.InnerReading.{◌>>=◌, byte_at, number_at, bytes_at, text_at, name_of, name_at, tag_of, tag_at, digest_at, free_of, free_at, kind_of, kind_at, named_of, named_at, items_at, list_at}

-- what a field took from the front
pub record Takes (bytes text rest : List ℕ) : Type 0 where
  pub parts : bytes ≡ text ++ rest
  pub rest_fits : AreBytes rest

-- a field is read so, spelled so, and is one of these
pub record Reads {A : Type 0} (split : List ℕ → Option (A × List ℕ)) (spelled : A → List ℕ) (IsIn : A → Type 0) : Type 0 where
  pub takes : (bytes : List ℕ) (x : A) (rest : List ℕ) → AreBytes bytes → split bytes ≡ Some (x, rest) → Takes bytes (spelled x) rest × IsIn x
  pub again : (x : A) (rest : List ℕ) → IsIn x → split (spelled x ++ rest) ≡ Some (x, rest)

bytes_behind : (n : ℕ) (bytes : List ℕ) → AreBytes bytes → AreBytes (drop n bytes)
bytes_behind n bytes h i = rw get_or-drop (h (n + i))

bytes_before : (n : ℕ) (bytes : List ℕ) → AreBytes bytes → AreBytes (take n bytes)
bytes_before n bytes h i =
    elim (cases_lt i n) [
      | inl lt ↦ rw (get_or-take n bytes i 0 lt) (h i)
      | inr le ↦ rw (get_or_past (take n bytes) i 0 (omega (arith, length-take n bytes))) (omega arith)
    ]

-- the value of a step that did not fail
pub bind_some : {A B : Type 0} (r : Option A) (f : A → Option B) (y : B) → (r >>= f) ≡ Some y → (x : A) × (r ≡ Some x) × (f x ≡ Some y)
bind_some (Some x) f y e = (x, refl, e)
bind_some None f y e = absurd cc

pub takes_both : (a x b y c : List ℕ) → Takes a x b → Takes b y c → Takes a (x ++ y) c
takes_both a x b y c p q = record { parts = p.parts ∙ ap (λ (t : List ℕ). x ++ t) q.parts ∙ sym (append_assoc x y c); rest_fits = q.rest_fits }

-- ---- one field behind another, and what a field makes

module _ {A B : Type 0} (f : List ℕ → Option (A × List ℕ)) (s : A → List ℕ) (I : A → Type 0) where
  pub both_read : (g : List ℕ → Option (B × List ℕ)) (t : B → List ℕ) (K : B → Type 0) → Reads f s I → Reads g t K
      → Reads {A = A × B} (λ bytes. f bytes >>= λ a. g a.1 >>= λ b. Some ((a.0, b.0), b.1)) (λ p. s p.0 ++ t p.1) (λ p. I p.0 × K p.1)
  both_read g t K first second = record {
    takes = λ bytes p rest fits e.
        let a = bind_some (f bytes) (λ a. g a.1 >>= λ b. Some ((a.0, b.0), b.1)) (p, rest) e in
        let b = bind_some (g a.0.1) (λ b. Some ((a.0.0, b.0), b.1)) (p, rest) a.2 in
        let one = first.takes bytes a.0.0 a.0.1 fits a.1 in
        let two = second.takes a.0.1 b.0.0 b.0.1 one.0.rest_fits b.1 in
        let found : (A × B) × List ℕ = ((a.0.0, b.0.0), b.0.1) in
        subst (λ (y : (A × B) × List ℕ). Takes bytes (s y.0.0 ++ t y.0.1) y.1 × (I y.0.0 × K y.0.1)) (same_Some found (p, rest) b.2)
        (takes_both bytes (s a.0.0) a.0.1 (t b.0.0) b.0.1 one.0 two.0, (one.1, two.1));
    again = λ p rest h.
        ap (λ (bytes : List ℕ). f bytes >>= λ a. g a.1 >>= λ b. Some ((a.0, b.0), b.1)) (append_assoc (s p.0) (t p.1) rest)
        ∙ rw (first.again p.0 (t p.1 ++ rest) h.0, second.again p.1 rest h.1) refl;
  }

  pub made_read : (to : A → Option B) (from : B → A) (K : B → Type 0) → Reads f s I
      → ((a : A) (b : B) → I a → to a ≡ Some b → (a ≡ from b) × K b) → ((b : B) → K b → (to (from b) ≡ Some b) × I (from b))
      → Reads {A = B} (λ bytes. f bytes >>= λ a. to a.0 >>= λ b. Some (b, a.1)) (λ b. s (from b)) K
  made_read to from K reads there back = record {
    takes = λ bytes x rest fits e.
        let a = bind_some (f bytes) (λ a. to a.0 >>= λ b. Some (b, a.1)) (x, rest) e in
        let b = bind_some (to a.0.0) (λ b. Some (b, a.0.1)) (x, rest) a.2 in
        let one = reads.takes bytes a.0.0 a.0.1 fits a.1 in
        let made = there a.0.0 b.0 one.1 b.1 in
        let found : B × List ℕ = (b.0, a.0.1) in
        subst (λ (y : B × List ℕ). Takes bytes (s (from y.0)) y.1 × K y.0) (same_Some found (x, rest) b.2)
        (subst (λ (z : A). Takes bytes (s z) a.0.1) made.0 one.0, made.1);
    again = λ x rest h.
        let made = back x h in
        rw (reads.again (from x) rest made.1, made.0) refl;
  }

-- ---- bytes and numbers

pub byte_reads : Reads byte_at (λ b. b ∷ []) (λ b. b < 256)
unfolding byte_at
byte_reads = record {
  takes = taken;
  again = λ b rest h. refl;
}
  where
    taken : (bytes : List ℕ) (b : ℕ) (rest : List ℕ) → AreBytes bytes → byte_at bytes ≡ Some (b, rest) → Takes bytes (b ∷ []) rest × (b < 256)
    taken [] b rest fits e = absurd cc
    taken (x ∷ xs) b rest fits e =
        let found : ℕ × List ℕ = (x, xs) in
        subst (λ (y : ℕ × List ℕ). Takes (x ∷ xs) (y.0 ∷ []) y.1 × (y.0 < 256)) (same_Some found (b, rest) e) (record { parts = refl; rest_fits = λ i. fits (suc i) }, fits 0)

pub record IsWide (w : Width) (limit : ℕ) : Type 0 where
  pub len : (n : ℕ) → length (to_be_bytes w n) ≡ byte_len w
  pub back : (bytes : List ℕ) → length bytes ≡ byte_len w → AreBytes bytes → to_be_bytes w (from_be_bytes w bytes) ≡ bytes
  pub again : (n : ℕ) → n < limit → from_be_bytes w (to_be_bytes w n) ≡ n
  pub below : (bytes : List ℕ) → AreBytes bytes → from_be_bytes w bytes < limit

wide16 : IsWide w16 (2 ^ 16)
wide16 = record {
  len = λ n. refl;
  back = λ bytes len fits. be_bytes_2 bytes _ len fits refl;
  again = λ n lt. from_be_bytes-to_be_bytes_2 n lt;
  below = λ bytes fits. omega (arith, fits 0, fits 1);
}

wide64 : IsWide w64 (2 ^ 64)
wide64 = record {
  len = λ n. refl;
  back = λ bytes len fits. be_bytes_8 bytes _ len fits refl;
  again = λ n lt. from_be_bytes-to_be_bytes_8 n lt;
  below = λ bytes fits. omega (arith, fits 0, fits 1, fits 2, fits 3, fits 4, fits 5, fits 6, fits 7);
}

wide_reads : (w : Width) (limit : ℕ) → IsWide w limit → Reads (number_at w) (to_be_bytes w) (λ n. n < limit)
unfolding number_at
wide_reads w limit wide = record {
  takes = λ bytes n rest fits e.
      let test = ltb (length bytes) (byte_len w) in
      let g = guard test (from_be_bytes w (take (byte_len w) bytes), drop (byte_len w) bytes) (n, rest) e in
      let long : byte_len w ≤ length bytes = ltb-false _ _ g.0 in
      let front : to_be_bytes w (from_be_bytes w (take (byte_len w) bytes)) ≡ take (byte_len w) bytes = wide.back (take (byte_len w) bytes) (omega (arith, length-take (byte_len w) bytes)) (bytes_before (byte_len w) bytes fits) in
      subst (λ (y : ℕ × List ℕ). Takes bytes (to_be_bytes w y.0) y.1 × (y.0 < limit)) g.1
      (record { parts = rw front (sym (take-append-drop (byte_len w) bytes)); rest_fits = bytes_behind (byte_len w) bytes fits }, wide.below (take (byte_len w) bytes) (bytes_before (byte_len w) bytes fits));
  again = λ n rest lt.
      let len = wide.len n in
      let long : ltb (length (to_be_bytes w n ++ rest)) (byte_len w) ≡ false = le-ltb _ _ (omega (arith, length-append (to_be_bytes w n) rest)) in
      rw (long, take_at (to_be_bytes w n) rest (byte_len w) len, drop_at (to_be_bytes w n) rest (byte_len w) len, wide.again n lt) refl;
}
  where
    guard : (b : Bool) (x y : ℕ × List ℕ) → cond b None (Some x) ≡ Some y → (b ≡ false) × (x ≡ y)
    guard true x y e = absurd cc
    guard false x y e = (refl, same_Some x y e)

pub number_reads : Reads (number_at w64) number_field IsNumber
number_reads = wide_reads w64 (2 ^ 64) wide64

pub count_reads : Reads (number_at w16) count_field (λ n. n < 2 ^ 16)
count_reads = wide_reads w16 (2 ^ 16) wide16

pub bytes_reads : (n : ℕ) → Reads (bytes_at n) (λ bytes. bytes) (λ bytes. length bytes ≡ n)
unfolding bytes_at
bytes_reads n = record {
  takes = λ bytes x rest fits e.
      let g = guard (ltb (length bytes) n) (take n bytes, drop n bytes) (x, rest) e in
      let long : n ≤ length bytes = ltb-false _ _ g.0 in
      subst (λ (y : List ℕ × List ℕ). Takes bytes y.0 y.1 × (length y.0 ≡ n)) g.1
      (record { parts = sym (take-append-drop n bytes); rest_fits = bytes_behind n bytes fits }, omega (arith, length-take n bytes));
  again = λ x rest h.
      let long : ltb (length (x ++ rest)) n ≡ false = le-ltb _ _ (omega (arith, h, length-append x rest)) in
      rw (long, take_at x rest n h, drop_at x rest n h) refl;
}
  where
    guard : (b : Bool) (x y : List ℕ × List ℕ) → cond b None (Some x) ≡ Some y → (b ≡ false) × (x ≡ y)
    guard true x y e = absurd cc
    guard false x y e = (refl, same_Some x y e)

-- ---- names, tags, digests

front_fits : (x y : List ℕ) → AreBytes (x ++ y) → AreBytes x
front_fits x y h = subst AreBytes (take_at x y (length x) refl) (bytes_before (length x) (x ++ y) h)

-- a text of at most 255 bytes
abbrev IsShort : List ℕ → Type 0
IsShort text = length text < 256

text_reads : Reads text_at text_field IsShort
unfolding text_at byte_at
text_reads = record {
  takes = λ bytes x rest fits e.
      let a = bind_some (byte_at bytes) (λ len. bytes_at len.0 len.1) (x, rest) e in
      let one = byte_reads.takes bytes a.0.0 a.0.1 fits a.1 in
      let two = (bytes_reads a.0.0).takes a.0.1 x rest one.0.rest_fits a.2 in
      (subst (λ (n : ℕ). Takes bytes (n ∷ x) rest) (sym two.1) (takes_both bytes (a.0.0 ∷ []) a.0.1 x rest one.0 two.0), omega (arith, two.1, one.1));
  again = λ x rest h. (bytes_reads (length x)).again x rest refl;
}

name_is_short : (text : List ℕ) → IsName text → IsShort text
name_is_short text h = let le : length text ≤ name_limit = leb-true (length text) name_limit (and_parts _ _ h).0 in omega arith

tag_is_short : (text : List ℕ) → IsTag text → IsShort text
tag_is_short [] h = omega arith
tag_is_short (b ∷ bs) h = let le : length bs ≤ 127 = leb-true (length bs) 127 (and_parts _ _ (and_parts _ _ h).0).1 in omega arith

pub name_reads : Reads name_at text_field IsName
unfolding name_at
name_reads =
    made_read text_at text_field IsShort name_of (λ text. text) IsName text_reads
    (λ a b short e. let g = cond_some (is_name a) a b e in (g.1, subst IsName g.1 g.0))
    (λ b h. (cond-true (is_name b) (Some b) None h, name_is_short b h))

pub tag_reads : Reads tag_at text_field IsTag
unfolding tag_at
tag_reads =
    made_read text_at text_field IsShort tag_of (λ text. text) IsTag text_reads
    (λ a b short e. let g = cond_some (is_tag a) a b e in (g.1, subst IsTag g.1 g.0))
    (λ b h. (cond-true (is_tag b) (Some b) None h, tag_is_short b h))

pub digest_reads : Reads digest_at digest_field IsDigest
unfolding digest_at byte_at
digest_reads = record {
  takes = λ bytes x rest fits e.
      let a = bind_some (byte_at bytes) (λ algorithm. bytes_at sha256_length algorithm.1 >>= λ raw. cond (eqb algorithm.0 1) (Some (1 ∷ raw.0, raw.1)) None) (x, rest) e in
      let b = bind_some (bytes_at sha256_length a.0.1) (λ raw. cond (eqb a.0.0 1) (Some (1 ∷ raw.0, raw.1)) None) (x, rest) a.2 in
      let c = cond_some (eqb a.0.0 1) (1 ∷ b.0.0, b.0.1) (x, rest) b.2 in
      let one = byte_reads.takes bytes a.0.0 a.0.1 fits a.1 in
      let two = (bytes_reads sha256_length).takes a.0.1 b.0.0 b.0.1 one.0.rest_fits b.1 in
      let both = takes_both bytes (a.0.0 ∷ []) a.0.1 b.0.0 b.0.1 one.0 two.0 in
      subst (λ (y : List ℕ × List ℕ). Takes bytes y.0 y.1 × IsDigest y.0) c.1
      (subst (λ (n : ℕ). Takes bytes (n ∷ b.0.0) b.0.1) (eqb-true a.0.0 1 c.0) both, record { raw = b.0.0; is = refl; long = two.1; bytes = front_fits b.0.0 b.0.1 (subst AreBytes two.0.parts one.0.rest_fits) });
  again = λ d rest h.
      subst (λ (x : List ℕ). digest_at (x ++ rest) ≡ Some (x, rest)) (sym h.is)
      (rw ((bytes_reads sha256_length).again h.raw rest h.long) refl);
}

-- ---- what is told by one byte

-- of tests in order, this one decides, or those behind it
pub first_case : {A P : Type 0} (c : Bool) (x y : A) (next : Option A) → cond c (Some x) next ≡ Some y → (c ≡ true → x ≡ y → P) → (next ≡ Some y → P) → P
first_case true x y next e here later = here refl (same_Some x y e)
first_case false x y next e here later = later e

free_is : (a : ℕ) (b : Bool) → free_of a ≡ Some b → a ≡ free_number b
free_is a b e =
    first_case (eqb a 0) false b (cond (eqb a 1) (Some true) None) e
    (λ t s. eqb-true a 0 t ∙ ap free_number s)
    (λ f. first_case (eqb a 1) true b None f (λ t s. eqb-true a 1 t ∙ ap free_number s) (λ g. absurd (none-some b g)))

free_back : (b : Bool) → (free_of (free_number b) ≡ Some b) × (free_number b < 256)
free_back true = (refl, omega arith)
free_back false = (refl, omega arith)

free_reads : Reads free_at free_field (λ free. Unit {0})
unfolding free_at
free_reads = made_read byte_at (λ b. b ∷ []) (λ b. b < 256) free_of free_number (λ free. Unit {0}) byte_reads (λ a b lt e. (free_is a b e, tt)) (λ b h. free_back b)

kind_is : (a : ℕ) (k : Kind) → kind_of a ≡ Some k → a ≡ kind_number k
kind_is a k e =
    first_case (eqb a 1) OciImage k (cond (eqb a 2) (Some OciIndex) (cond (eqb a 3) (Some DockerImage) (cond (eqb a 4) (Some DockerList) None))) e
    (λ t s. eqb-true a 1 t ∙ ap kind_number s)
    (λ f. first_case (eqb a 2) OciIndex k (cond (eqb a 3) (Some DockerImage) (cond (eqb a 4) (Some DockerList) None)) f
    (λ t s. eqb-true a 2 t ∙ ap kind_number s)
    (λ g. first_case (eqb a 3) DockerImage k (cond (eqb a 4) (Some DockerList) None) g
    (λ t s. eqb-true a 3 t ∙ ap kind_number s)
    (λ h. first_case (eqb a 4) DockerList k None h (λ t s. eqb-true a 4 t ∙ ap kind_number s) (λ i. absurd (none-some k i)))))

kind_back : (k : Kind) → (kind_of (kind_number k) ≡ Some k) × (kind_number k < 256)
kind_back OciImage = (refl, omega arith)
kind_back OciIndex = (refl, omega arith)
kind_back DockerImage = (refl, omega arith)
kind_back DockerList = (refl, omega arith)

pub kind_reads : Reads kind_at kind_field (λ kind. Unit {0})
unfolding kind_at
kind_reads = made_read byte_at (λ b. b ∷ []) (λ b. b < 256) kind_of kind_number (λ kind. Unit {0}) byte_reads (λ a b lt e. (kind_is a b e, tt)) (λ b h. kind_back b)

-- ---- lists

abbrev pub HasDigest : Named → Type 0
HasDigest named = IsDigest named.digest

pub named_reads : Reads named_at named_field HasDigest
unfolding named_at
named_reads = record {
  takes = λ bytes x rest fits e.
      let a = bind_some (digest_at bytes) (λ digest. free_at digest.1 >>= λ free. Some (named_of digest.0 free.0, free.1)) (x, rest) e in
      let b = bind_some (free_at a.0.1) (λ free. Some (named_of a.0.0 free.0, free.1)) (x, rest) a.2 in
      let one = digest_reads.takes bytes a.0.0 a.0.1 fits a.1 in
      let two = free_reads.takes a.0.1 b.0.0 b.0.1 one.0.rest_fits b.1 in
      let found : Named × List ℕ = (named_of a.0.0 b.0.0, b.0.1) in
      subst (λ (y : Named × List ℕ). Takes bytes (named_field y.0) y.1 × HasDigest y.0) (same_Some found (x, rest) b.2)
      (takes_both bytes a.0.0 a.0.1 (free_field b.0.0) b.0.1 one.0 two.0, one.1);
  again = λ x rest h.
      ap named_at (append_assoc x.digest (free_field x.free) rest)
      ∙ rw (digest_reads.again x.digest (free_field x.free ++ rest) h, free_reads.again x.free rest tt) refl;
}

module _ {A : Type 0} (f : List ℕ → Option (A × List ℕ)) (s : A → List ℕ) (I : A → Type 0) (reads : Reads f s I) where
  -- so many of these
  abbrev AreSo : ℕ → List A → Type 0
  AreSo n xs = (length xs ≡ n) × AllByRecursion I xs

  items_taken : (n : ℕ) (bytes : List ℕ) (xs : List A) (rest : List ℕ) → AreBytes bytes → items_at f n bytes ≡ Some (xs, rest) → Takes bytes (flat_map s xs) rest × AreSo n xs
  unfolding items_at
  items_taken zero bytes xs rest fits e =
      let found : List A × List ℕ = ([], bytes) in
      subst (λ (y : List A × List ℕ). Takes bytes (flat_map s y.0) y.1 × AreSo 0 y.0) (same_Some found (xs, rest) e)
      (record { parts = refl; rest_fits = fits }, (refl, tt))
  items_taken (suc n) bytes xs rest fits e =
      let a = bind_some (f bytes) (λ first. items_at f n first.1 >>= λ others. Some (first.0 ∷ others.0, others.1)) (xs, rest) e in
      let b = bind_some (items_at f n a.0.1) (λ others. Some (a.0.0 ∷ others.0, others.1)) (xs, rest) a.2 in
      let one = reads.takes bytes a.0.0 a.0.1 fits a.1 in
      let more = items_taken n a.0.1 b.0.0 b.0.1 one.0.rest_fits b.1 in
      let found : List A × List ℕ = (a.0.0 ∷ b.0.0, b.0.1) in
      subst (λ (y : List A × List ℕ). Takes bytes (flat_map s y.0) y.1 × AreSo (suc n) y.0) (same_Some found (xs, rest) b.2)
      (takes_both bytes (s a.0.0) a.0.1 (flat_map s b.0.0) b.0.1 one.0 more.0, (ap suc more.1.0, (one.1, more.1.1)))

  items_again : (xs : List A) (rest : List ℕ) → AllByRecursion I xs → items_at f (length xs) (flat_map s xs ++ rest) ≡ Some (xs, rest)
  unfolding items_at
  items_again [] rest h = refl
  items_again (x ∷ xs) rest h =
      ap (items_at f (suc (length xs))) (append_assoc (s x) (flat_map s xs) rest)
      ∙ rw (reads.again x (flat_map s xs ++ rest) h.0, items_again xs rest h.1) refl

  pub list_reads : Reads (list_at f) (list_field s) (λ xs. (length xs < 2 ^ 16) × AllByRecursion I xs)
  unfolding list_at
  list_reads = record {
    takes = λ bytes xs rest fits e.
        let a = bind_some (number_at w16 bytes) (λ count. items_at f count.0 count.1) (xs, rest) e in
        let one = count_reads.takes bytes a.0.0 a.0.1 fits a.1 in
        let two = items_taken a.0.0 a.0.1 xs rest one.0.rest_fits a.2 in
        (subst (λ (n : ℕ). Takes bytes (count_field n ++ flat_map s xs) rest) (sym two.1.0) (takes_both bytes (count_field a.0.0) a.0.1 (flat_map s xs) rest one.0 two.0), (omega (arith, two.1.0, one.1), two.1.1));
    again = λ xs rest h.
        ap (list_at f) (append_assoc (count_field (length xs)) (flat_map s xs) rest)
        ∙ rw (count_reads.again (length xs) (flat_map s xs ++ rest) h.0) (items_again xs rest h.1);
  }

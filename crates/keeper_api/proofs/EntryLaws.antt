-- Bytes are passed over as an entry exactly where they spell one.
use Rattle.std.proofs.Common.{◌≡◌, ℕ, zero, suc, Bool, true, false, cond, leb, eqb, List, [], ◌∷◌, map, length, Option, Some, None, refl, sym, ap, subst, ◌∙◌, arith, inl, inr, is_some}
use Rattle.std.specs.Prelude.{◌&&◌, ◌++◌}
use Rattle.std.specs.List.{list_all}
use Rattle.std.specs.Option.{option_map}
use Rattle.std.specs.Int.{w16, w64}
use Rattle.std.specs.Ordering.{nat_cmp, is_lt}
use Rattle.std.specs.declared.cmp.Ordering.{Ordering}
use Rattle.std.specs.declared.cmp.Ordering.TheVariants.{Less, Equal, Greater}
use Rattle.std.specs.Cmp.Lexicographic.{slice_cmp, nat_list_cmp_total}
use Rattle.std.proofs.lemmas.Bool.{cases_Bool, leb-true, le-leb, eqb-true, eqb-false, and_parts, and_from, true≢false}
use Rattle.reg_names.specs.declared.kind.Kind.{Kind}
use Rattle.reg_names.specs.declared.named.Named.{Named}
use Rattle.reg_names.specs.Digests.{AreBytes, IsDigest}
use Rattle.reg_names.specs.Named.{digests_of}
use Rattle.reg_names.specs.Names.{is_name, IsName}
use Rattle.reg_names.specs.Tags.{is_tag, IsTag}
use Rattle.reg_entries.specs.Documents.{KeptManifest, kept_of, list_limit}
use Rattle.reg_journal.specs.declared.entry.Entry.{Entry}
use Rattle.reg_journal.specs.declared.entry.What.{What}
use Rattle.reg_journal.specs.declared.entry.What.TheVariants.{Put, SetTag, DropTag, DropManifest, Mark, Link, Unlink, Brought, BroughtLink, BroughtTag, RemovedManifest, RemovedLink, Opened, BroughtBlob, Collect, DropLink, Doom, Erase}
use Rattle.reg_journal.specs.Entries.{IsEntry}
use Rattle.reg_journal.specs.Spelling.{text_field, digest_field, named_field, entry_spelled}
use Rattle.reg_journal.specs.InnerReading as reading
use Rattle.reg_journal.specs.InnerReading.{◌>>=◌, byte_at, number_at, text_at, name_of, name_at, tag_of, tag_at, digest_at, free_of, kind_of, kind_at, free_at, named_of, named_at, items_at, list_at, ascends, is_digest_list, is_kept, document_at, spot_at, tag_spot_at, target_at, manifest_at, link_at, blob_at, made, entry_at}
use Rattle.reg_journal.proofs.FieldLaws.{Reads, both_read, byte_reads, number_reads, name_reads, tag_reads, digest_reads, kind_reads, HasDigest, named_reads, list_reads}
use Rattle.reg_journal.proofs.EntryLaws.{entry_takes, entry_again}
use Rattle.keeper_api.specs.InnerFields.{rest_if, rest_of, is_kind, strip}
use Rattle.keeper_api.specs.InnerEntries.{is_behind, with_free, item_at, items_passed, list_passed, name_passed, tag_passed, spot_passed, tag_spot_passed, document_passed, kinds, first_kind, what_passed, is_at_end, is_entry}
use Rattle.keeper_api.specs.declared.field.Field.TheVariants as field

-- what is passed over is what is read
Told : {A : Type 0} → (List ℕ → Option (A × List ℕ)) → (List ℕ → Option (List ℕ)) → Type 0
Told read pass = (bytes : List ℕ) → AreBytes bytes → pass bytes ≡ rest_of (read bytes)

not_from : (b : Bool) → (b ≡ true → ⊥) → b ≡ false
not_from true h = absurd (h refl)
not_from false h = refl

-- ---- kinds, and what is free

made_told : {A : Type 0} (c : Bool) (o : Option A) (rest : List ℕ) → c ≡ is_some o → cond c (Some rest) None ≡ rest_of (o >>= λ a. Some (a, rest))
made_told c None rest told = ap (λ b. cond b (Some rest) None) told
made_told c (Some a) rest told = ap (λ b. cond b (Some rest) None) told

kind_told : (n : ℕ) → is_kind n ≡ is_some (kind_of n)
kind_told n =
    elim (cases_Bool (eqb n 1)) [
      | inl y ↦ subst (λ m. is_kind m ≡ is_some (kind_of m)) (sym (eqb-true n 1 y)) refl
      | inr a ↦ elim (cases_Bool (eqb n 2)) [
        | inl y ↦ subst (λ m. is_kind m ≡ is_some (kind_of m)) (sym (eqb-true n 2 y)) refl
        | inr b ↦ elim (cases_Bool (eqb n 3)) [
          | inl y ↦ subst (λ m. is_kind m ≡ is_some (kind_of m)) (sym (eqb-true n 3 y)) refl
          | inr c ↦ elim (cases_Bool (eqb n 4)) [
            | inl y ↦ subst (λ m. is_kind m ≡ is_some (kind_of m)) (sym (eqb-true n 4 y)) refl
            | inr d ↦ rw (a, b, c, d) (not_from (is_kind n) (λ h. let p = and_parts (leb 1 n) (leb n 4) h in absurd (omega (arith, leb-true 1 n p.0, leb-true n 4 p.1, eqb-false n 1 a, eqb-false n 2 b, eqb-false n 3 c, eqb-false n 4 d))))
          ]
        ]
      ]
    ]

kind_passed : (bytes : List ℕ) → strip field.Kind bytes ≡ rest_of (kind_at bytes)
unfolding strip kind_at
kind_passed bytes = by (byte_at bytes)
  where
    by : (o : Option (ℕ × List ℕ)) → rest_if is_kind o ≡ rest_of (o >>= λ number. kind_of number.0 >>= λ kind. Some (kind, number.1))
    by None = refl
    by (Some x) = made_told (is_kind x.0) (kind_of x.0) x.1 (kind_told x.0)

free_told : (n : ℕ) → leb n 1 ≡ is_some (free_of n)
free_told n =
    elim (cases_Bool (eqb n 0)) [
      | inl y ↦ subst (λ m. leb m 1 ≡ is_some (free_of m)) (sym (eqb-true n 0 y)) refl
      | inr a ↦ elim (cases_Bool (eqb n 1)) [
        | inl y ↦ subst (λ m. leb m 1 ≡ is_some (free_of m)) (sym (eqb-true n 1 y)) refl
        | inr b ↦ rw (a, b) (not_from (leb n 1) (λ h. absurd (omega (arith, leb-true n 1 h, eqb-false n 0 a, eqb-false n 1 b))))
      ]
    ]

free_passed : (bytes : List ℕ) → strip field.Free bytes ≡ rest_of (free_at bytes)
unfolding strip free_at
free_passed bytes = by (byte_at bytes)
  where
    by : (o : Option (ℕ × List ℕ)) → rest_if (λ n. leb n 1) o ≡ rest_of (o >>= λ number. free_of number.0 >>= λ free. Some (free, number.1))
    by None = refl
    by (Some x) = made_told (leb x.0 1) (free_of x.0) x.1 (free_told x.0)

-- ---- lists

abbrev showing : {A : Type 0} → (A → List ℕ) → A × List ℕ → List ℕ × List ℕ
showing digest x = (digest x.0, x.1)

-- an item is passed over as what is read, of which it shows the digest
Shows : {A : Type 0} → Bool → (List ℕ → Option (A × List ℕ)) → (A → List ℕ) → Type 0
Shows {A} free read digest = (bytes : List ℕ) → item_at free bytes ≡ option_map (showing digest) (read bytes)

digest_shown : Shows false digest_at (λ d. d)
unfolding item_at Shows
digest_shown bytes = by (digest_at bytes)
  where
    by : (o : Option (List ℕ × List ℕ)) → (o >>= with_free false) ≡ option_map (showing (λ d. d)) o
    by None = refl
    by (Some x) = refl

abbrev pair : List ℕ → List ℕ → Option (List ℕ × List ℕ)
pair digest rest = Some (digest, rest)

abbrev named : List ℕ → Bool × List ℕ → Option (Named × List ℕ)
named digest free = Some (named_of digest free.0, free.1)

named_shown : Shows true named_at (λ (n : Named). n.digest)
unfolding item_at named_at Shows
named_shown bytes = by (digest_at bytes)
  where
    with : (d : List ℕ) (o : Option (Bool × List ℕ)) → (rest_of o >>= λ rest. pair d rest) ≡ option_map (showing (λ (n : Named). n.digest)) (o >>= λ free. named d free)
    with d None = refl
    with d (Some x) = refl

    by : (o : Option (List ℕ × List ℕ)) → (o >>= with_free true) ≡ option_map (showing (λ (n : Named). n.digest)) (o >>= λ digest. free_at digest.1 >>= λ free. named digest.0 free)
    by None = refl
    by (Some x) = ap (λ (o : Option (List ℕ)). o >>= λ rest. pair x.0 rest) (free_passed x.1) ∙ with x.0 (free_at x.1)

-- each of them is behind the last digest, where there is one
abbrev all_behind : Option (List ℕ) → List (List ℕ) → Bool
all_behind None ds = true
all_behind (Some last) ds = list_all (λ d. is_lt (slice_cmp nat_cmp last d)) ds

-- what is left behind a list, where its digests are in order
abbrev in_order : {A : Type 0} → (A → List ℕ) → Option (List ℕ) → List A × List ℕ → Option (List ℕ)
in_order digest last l = cond (all_behind last (map digest l.0) && ascends (map digest l.0)) (Some l.1) None

less_is : (o : Ordering) → is_lt o ≡ true → o ≡ Less
less_is Less h = refl
less_is Equal h = absurd (true≢false (sym h))
less_is Greater h = absurd (true≢false (sym h))

-- what is behind a digest is behind those before it
all_further : (last d : List ℕ) (ds : List (List ℕ)) → is_lt (slice_cmp nat_cmp last d) ≡ true → list_all (λ e. is_lt (slice_cmp nat_cmp d e)) ds ≡ true → list_all (λ e. is_lt (slice_cmp nat_cmp last e)) ds ≡ true
all_further last d [] below all = refl
all_further last d (e ∷ es) below all =
    let p = and_parts (is_lt (slice_cmp nat_cmp d e)) (list_all (λ x. is_lt (slice_cmp nat_cmp d x)) es) all in
    and_from _ _ (ap is_lt (nat_list_cmp_total.trans last d e (less_is (slice_cmp nat_cmp last d) below) (less_is (slice_cmp nat_cmp d e) p.0))) (all_further last d es below p.1)

further : (last : Option (List ℕ)) (d : List ℕ) (ds : List (List ℕ)) → is_behind last d ≡ true → list_all (λ e. is_lt (slice_cmp nat_cmp d e)) ds ≡ true → all_behind last (d ∷ ds) ≡ true
further None d ds below all = refl
further (Some last) d ds below all = and_from _ _ below (all_further last d ds below all)

-- a first digest that is not behind the last one
not_behind : (last : Option (List ℕ)) (d : List ℕ) (ds : List (List ℕ)) → is_behind last d ≡ false → all_behind last (d ∷ ds) ≡ false
not_behind None d ds h = absurd (true≢false h)
not_behind (Some last) d ds h = ap (λ b. b && list_all (λ e. is_lt (slice_cmp nat_cmp last e)) ds) h

one_in_order : (last : Option (List ℕ)) (d : List ℕ) (ds : List (List ℕ)) (rest : List ℕ)
    → cond (is_behind last d) (cond (all_behind (Some d) ds && ascends ds) (Some rest) None) None ≡ cond (all_behind last (d ∷ ds) && (all_behind (Some d) ds && ascends ds)) (Some rest) None
one_in_order last d ds rest = by (is_behind last d) (all_behind (Some d) ds) refl refl
  where
    by : (b c : Bool) → is_behind last d ≡ b → all_behind (Some d) ds ≡ c → cond b (cond (c && ascends ds) (Some rest) None) None ≡ cond (all_behind last (d ∷ ds) && (c && ascends ds)) (Some rest) None
    by true true is all = rw (further last d ds is all) refl
    by true false is all = none (all_behind last (d ∷ ds))
      where
        none : (x : Bool) → None ≡ cond {A = Option (List ℕ)} (x && false) (Some rest) None
        none true = refl
        none false = refl
    by false c is all = rw (not_behind last d ds is) refl

module _ {A : Type 0} (free : Bool) (read : List ℕ → Option (A × List ℕ)) (digest : A → List ℕ) (shown : Shows free read digest) where
  items_told : (last : Option (List ℕ)) (n : ℕ) (bytes : List ℕ) → items_passed free last n bytes ≡ (items_at read n bytes >>= in_order digest last)
  unfolding items_passed items_at Shows
  items_told None zero bytes = refl
  items_told (Some last) zero bytes = refl
  items_told last (suc n) bytes =
      ap (λ (o : Option (List ℕ × List ℕ)). o >>= λ item. cond (is_behind last item.0) (items_passed free (Some item.0) n item.1) None) (shown bytes) ∙ by (λ (x : A × List ℕ). items_told (Some (digest x.0)) n x.1) (read bytes)
    where
      more : (x : A) (o : Option (List A × List ℕ)) → cond (is_behind last (digest x)) (o >>= in_order digest (Some (digest x))) None ≡ ((o >>= λ others. Some (x ∷ others.0, others.1)) >>= in_order digest last)
      more x None = nothing (is_behind last (digest x))
        where
          nothing : (b : Bool) → cond {A = Option (List ℕ)} b None None ≡ None
          nothing true = refl
          nothing false = refl
      more x (Some l) = one_in_order last (digest x) (map digest l.0) l.1

      by : ((x : A × List ℕ) → items_passed free (Some (digest x.0)) n x.1 ≡ (items_at read n x.1 >>= in_order digest (Some (digest x.0)))) → (o : Option (A × List ℕ))
          → (option_map (showing digest) o >>= λ item. cond (is_behind last item.0) (items_passed free (Some item.0) n item.1) None)
          ≡ ((o >>= λ first. items_at read n first.1 >>= λ others. Some (first.0 ∷ others.0, others.1)) >>= in_order digest last)
      by later None = refl
      by later (Some x) =
          ap (λ o. cond (is_behind last (digest x.0)) o None) (later x) ∙ more x.0 (items_at read n x.1)

  -- what is left behind a list that may be kept
  abbrev if_list : List A × List ℕ → Option (List ℕ)
  if_list l = cond (is_digest_list (map digest l.0)) (Some l.1) None

  list_told : (spelled : A → List ℕ) (I : A → Type 0) → Reads read spelled I → ((xs : List A) → length (map digest xs) ≡ length xs) → (bytes : List ℕ) → AreBytes bytes → list_passed free bytes ≡ (list_at read bytes >>= if_list)
  unfolding list_passed list_at
  list_told spelled I reads same bytes fits =
      regroup (number_at w16 bytes) ∙ by (list_at read bytes) refl
    where
      regroup : (o : Option (ℕ × List ℕ)) → (o >>= λ count. items_passed free None count.0 count.1) ≡ ((o >>= λ count. items_at read count.0 count.1) >>= in_order digest None)
      regroup None = refl
      regroup (Some count) = items_told None count.0 count.1

      by : (o : Option (List A × List ℕ)) → list_at read bytes ≡ o → (o >>= in_order digest None) ≡ (o >>= if_list)
      by None is = refl
      by (Some l) is =
          let few = (list_reads read spelled I reads).takes bytes l.0 l.1 fits is in
          let short : leb (length (map digest l.0)) list_limit ≡ true = le-leb (length (map digest l.0)) list_limit (omega (arith, same l.0, few.1.0)) in
          ap (λ b. cond (b && ascends (map digest l.0)) (Some l.1) None) (sym short)

same_length : {A : Type 0} (f : A → List ℕ) (xs : List A) → length (map f xs) ≡ length xs
same_length f [] = refl
same_length f (x ∷ xs) = ap suc (same_length f xs)

map_itself : (ds : List (List ℕ)) → map (λ d. d) ds ≡ ds
map_itself [] = refl
map_itself (d ∷ ds) = ap (λ (es : List (List ℕ)). d ∷ es) (map_itself ds)

-- ---- documents

-- a document, where it may be kept
abbrev ended : Kind → ℕ → List Named × List ℕ → List (List ℕ) × List ℕ → Option (KeptManifest × List ℕ)
ended kind size named children =
    let doc = kept_of kind size named.0 children.0 in cond (is_kept doc) (Some (doc, children.1)) None

document_told : Told document_at document_passed
unfolding Told document_at document_passed strip is_kept
document_told bytes fits =
    ap (λ (o : Option (List ℕ)). o >>= λ size. strip field.Number size >>= λ named. list_passed true named >>= list_passed false) (kind_passed bytes)
    ∙ by_kind (kind_at bytes) refl
  where
    last : (kind : Kind) (size : ℕ) (named : List Named × List ℕ) (a : Bool) → is_digest_list (digests_of named.0) ≡ a → (o : Option (List (List ℕ) × List ℕ)) → list_passed false named.1 ≡ (o >>= λ l. cond (is_digest_list (map (λ d. d) l.0)) (Some l.1) None)
        → (cond a (Some named.1) None >>= list_passed false) ≡ rest_of (o >>= ended kind size named)
    last kind size named true is None told = told
    last kind size named false is None told = refl
    last kind size named true is (Some l) told = told ∙ rw (map_itself l.0, is) (kept (is_digest_list l.0))
      where
        kept : (b : Bool) → cond b (Some l.1) None ≡ rest_of (cond {A = Option (KeptManifest × List ℕ)} b (Some (kept_of kind size named.0 l.0, l.1)) None)
        kept true = refl
        kept false = refl
    last kind size named false is (Some l) told = rw is refl

    by_named : (kind : Kind) (size : ℕ × List ℕ) → AreBytes size.1 → (o : Option (List Named × List ℕ)) → list_at named_at size.1 ≡ o
        → ((o >>= λ l. cond (is_digest_list (digests_of l.0)) (Some l.1) None) >>= list_passed false) ≡ rest_of (o >>= λ named. list_at digest_at named.1 >>= ended kind size.0 named)
    by_named kind size fits None is = refl
    by_named kind size fits (Some l) is =
        let more = (list_reads named_at named_field HasDigest named_reads).takes size.1 l.0 l.1 fits is in
        last kind size.0 l (is_digest_list (digests_of l.0)) refl (list_at digest_at l.1)
        (list_told false digest_at (λ d. d) digest_shown digest_field IsDigest digest_reads (same_length (λ d. d)) l.1 more.0.rest_fits)

    by_size : (kind : Kind) (bytes : List ℕ) → AreBytes bytes → (o : Option (ℕ × List ℕ)) → number_at w64 bytes ≡ o
        → (rest_of o >>= λ named. list_passed true named >>= list_passed false) ≡ rest_of (o >>= λ size. list_at named_at size.1 >>= λ named. list_at digest_at named.1 >>= ended kind size.0 named)
    by_size kind bytes fits None is = refl
    by_size kind bytes fits (Some s) is =
        let more = number_reads.takes bytes s.0 s.1 fits is in
        ap (λ (o : Option (List ℕ)). o >>= list_passed false) (list_told true named_at (λ n. n.digest) named_shown named_field HasDigest named_reads (same_length (λ (n : Named). n.digest)) s.1 more.0.rest_fits)
        ∙ by_named kind s more.0.rest_fits (list_at named_at s.1) refl

    by_kind : (o : Option (Kind × List ℕ)) → kind_at bytes ≡ o
        → (rest_of o >>= λ size. strip field.Number size >>= λ named. list_passed true named >>= list_passed false)
        ≡ rest_of (o >>= λ kind. number_at w64 kind.1 >>= λ size. list_at named_at size.1 >>= λ named. list_at digest_at named.1 >>= ended kind.0 size.0 named)
    by_kind None is = refl
    by_kind (Some k) is =
        let more = kind_reads.takes bytes k.0 k.1 fits is in by_size k.0 k.1 more.0.rest_fits (number_at w64 k.1) refl

-- ---- fields together

name_told : Told name_at name_passed
unfolding Told name_at name_passed
name_told bytes fits = by (text_at bytes)
  where
    by : (o : Option (List ℕ × List ℕ)) → rest_if is_name o ≡ rest_of (o >>= λ text. name_of text.0 >>= λ name. Some (name, text.1))
    by None = refl
    by (Some x) = is (is_name x.0)
      where
        is : (c : Bool) → cond c (Some x.1) None ≡ rest_of (cond {A = Option (List ℕ)} c (Some x.0) None >>= λ name. Some (name, x.1))
        is true = refl
        is false = refl

tag_told : Told tag_at tag_passed
unfolding Told tag_at tag_passed
tag_told bytes fits = by (text_at bytes)
  where
    by : (o : Option (List ℕ × List ℕ)) → rest_if is_tag o ≡ rest_of (o >>= λ text. tag_of text.0 >>= λ tag. Some (tag, text.1))
    by None = refl
    by (Some x) = is (is_tag x.0)
      where
        is : (c : Bool) → cond c (Some x.1) None ≡ rest_of (cond {A = Option (List ℕ)} c (Some x.0) None >>= λ tag. Some (tag, x.1))
        is true = refl
        is false = refl

digest_told : Told digest_at (strip field.Digest)
unfolding Told strip
digest_told bytes fits = refl

number_told : Told (number_at w64) (strip field.Number)
unfolding Told strip
number_told bytes fits = refl

-- one read behind another
module _ {A B : Type 0} (f : List ℕ → Option (A × List ℕ)) (s : A → List ℕ) (I : A → Type 0) (reads : Reads f s I) (p : List ℕ → Option (List ℕ)) (first : Told f p) where
  both_told : (g : List ℕ → Option (B × List ℕ)) (q : List ℕ → Option (List ℕ)) → Told g q → Told {A = A × B} (λ bytes. f bytes >>= λ a. g a.1 >>= λ b. Some ((a.0, b.0), b.1)) (λ bytes. p bytes >>= q)
  unfolding Told
  both_told g q second bytes fits =
      ap (λ (o : Option (List ℕ)). o >>= q) (first bytes fits) ∙ by (f bytes) refl
    where
      end : (a : A) (o : Option (B × List ℕ)) → rest_of o ≡ rest_of {A = A × B} (o >>= λ b. Some ((a, b.0), b.1))
      end a None = refl
      end a (Some b) = refl

      by : (o : Option (A × List ℕ)) → f bytes ≡ o → (rest_of o >>= q) ≡ rest_of {A = A × B} (o >>= λ a. g a.1 >>= λ b. Some ((a.0, b.0), b.1))
      by None is = refl
      by (Some a) is = second a.1 (reads.takes bytes a.0 a.1 fits is).0.rest_fits ∙ end a.0 (g a.1)

spot_reads : Reads spot_at (λ p. text_field p.0 ++ digest_field p.1) (λ p. IsName p.0 × IsDigest p.1)
unfolding spot_at
spot_reads = both_read name_at text_field IsName digest_at digest_field IsDigest name_reads digest_reads

tag_spot_reads : Reads tag_spot_at (λ p. text_field p.0 ++ text_field p.1) (λ p. IsName p.0 × IsTag p.1)
unfolding tag_spot_at
tag_spot_reads = both_read name_at text_field IsName tag_at text_field IsTag name_reads tag_reads

spot_told : Told spot_at spot_passed
unfolding spot_at spot_passed
spot_told = both_told name_at text_field IsName name_reads name_passed name_told digest_at (strip field.Digest) digest_told

tag_spot_told : Told tag_spot_at tag_spot_passed
unfolding tag_spot_at tag_spot_passed
tag_spot_told = both_told name_at text_field IsName name_reads name_passed name_told tag_at tag_passed tag_told

target_told : Told target_at (λ bytes. tag_spot_passed bytes >>= strip field.Digest)
unfolding target_at
target_told = both_told tag_spot_at _ _ tag_spot_reads tag_spot_passed tag_spot_told digest_at (strip field.Digest) digest_told

manifest_told : Told manifest_at (λ bytes. spot_passed bytes >>= document_passed)
unfolding manifest_at
manifest_told = both_told spot_at _ _ spot_reads spot_passed spot_told document_at document_passed document_told

link_told : Told link_at (λ bytes. spot_passed bytes >>= strip field.Number)
unfolding link_at
link_told = both_told spot_at _ _ spot_reads spot_passed spot_told (number_at w64) (strip field.Number) number_told

blob_told : Told blob_at (λ bytes. strip field.Digest bytes >>= strip field.Number)
unfolding blob_at
blob_told = both_told digest_at digest_field IsDigest digest_reads (strip field.Digest) digest_told (number_at w64) (strip field.Number) number_told

-- ---- kinds

made_passed : {A : Type 0} (make : A → What) (split : List ℕ → Option (A × List ℕ)) (pass : List ℕ → Option (List ℕ)) → Told split pass → Told (λ bytes. made make (split bytes)) pass
unfolding Told
made_passed make split pass told bytes fits = told bytes fits ∙ by (split bytes)
  where
    by : (o : Option (_ × List ℕ)) → rest_of o ≡ rest_of (made make o)
    by None = refl
    by (Some x) = refl

AllTold : List (ℕ × (List ℕ → Option (What × List ℕ))) → List (ℕ × (List ℕ → Option (List ℕ))) → Type 0
AllTold [] [] = Unit {0}
AllTold [] (p ∷ ps) = ⊥
AllTold (k ∷ ks) [] = ⊥
AllTold (k ∷ ks) (p ∷ ps) = (p.0 ≡ k.0) × Told k.1 p.1 × AllTold ks ps

first_told : (n : ℕ) (ks : List (ℕ × (List ℕ → Option (What × List ℕ)))) (ps : List (ℕ × (List ℕ → Option (List ℕ)))) → AllTold ks ps → Told (reading.first_kind n ks) (first_kind n ps)
unfolding Told AllTold
first_told n [] [] h bytes fits = refl
first_told n [] (p ∷ ps) h bytes fits = absurd h
first_told n (k ∷ ks) [] h bytes fits = absurd h
first_told n (k ∷ ks) (p ∷ ps) h bytes fits = ap (λ m. cond (eqb n m) (p.1 bytes) (first_kind n ps bytes)) h.0 ∙ by (first_told n ks ps h.2 bytes fits) (eqb n k.0)
  where
    by : first_kind n ps bytes ≡ rest_of (reading.first_kind n ks bytes) → (c : Bool) → cond c (p.1 bytes) (first_kind n ps bytes) ≡ rest_of (cond c (k.1 bytes) (reading.first_kind n ks bytes))
    by later true = h.1 bytes fits
    by later false = later

opened_passed : Told {A = What} (λ bytes. Some (Opened, bytes)) (λ bytes. Some bytes)
unfolding Told
opened_passed bytes fits = refl

kinds_told : AllTold reading.kinds kinds
unfolding reading.kinds kinds AllTold
kinds_told =
    (refl, made_passed (λ m. Put m.0.0 m.0.1 m.1) manifest_at _ manifest_told, (refl, made_passed (λ t. SetTag t.0.0 t.0.1 t.1) target_at _ target_told, (refl, made_passed (λ t. DropTag t.0 t.1) tag_spot_at _ tag_spot_told, (refl, made_passed (λ s. DropManifest s.0 s.1) spot_at _ spot_told, (refl, made_passed Mark digest_at _ digest_told, (refl, made_passed (λ l. Link l.0.0 l.0.1 l.1) link_at _ link_told, (refl, made_passed (λ s. Unlink s.0 s.1) spot_at _ spot_told, (refl, made_passed (λ m. Brought m.0.0 m.0.1 m.1) manifest_at _ manifest_told, (refl, made_passed (λ l. BroughtLink l.0.0 l.0.1 l.1) link_at _ link_told, (refl, made_passed (λ t. BroughtTag t.0.0 t.0.1 t.1) target_at _ target_told, (refl, made_passed (λ s. RemovedManifest s.0 s.1) spot_at _ spot_told, (refl, made_passed (λ s. RemovedLink s.0 s.1) spot_at _ spot_told, (refl, opened_passed, (refl, made_passed (λ b. BroughtBlob b.0 b.1) blob_at _ blob_told, (refl, made_passed (λ s. Collect s.0 s.1) spot_at _ spot_told, (refl, made_passed (λ s. DropLink s.0 s.1) spot_at _ spot_told, (refl, made_passed Doom digest_at _ digest_told, (refl, made_passed Erase digest_at _ digest_told, tt))))))))))))))))))

what_told : (n : ℕ) → Told (reading.what_at n) (what_passed n)
unfolding reading.what_at what_passed
what_told n = first_told n reading.kinds kinds kinds_told

-- ---- entries

entry_told : (bytes : List ℕ) → AreBytes bytes → is_entry bytes ≡ is_some (entry_at bytes)
unfolding is_entry entry_at Told
entry_told bytes fits = by_byte (byte_at bytes) refl
  where
    end : (moment : ℕ) (o : Option (What × List ℕ)) → is_at_end (rest_of o) ≡ is_some (o >>= λ what. cond {A = Option Entry} (eqb (length what.1) 0) (Some (reading.entry_of moment what.0)) None)
    end moment None = refl
    end moment (Some what) = by (eqb (length what.1) 0)
      where
        by : (c : Bool) → c ≡ is_some (cond {A = Option Entry} c (Some (reading.entry_of moment what.0)) None)
        by true = refl
        by false = refl

    by_moment : (n : ℕ) (rest : List ℕ) → AreBytes rest → (o : Option (ℕ × List ℕ)) → number_at w64 rest ≡ o
        → is_at_end (rest_of o >>= what_passed n) ≡ is_some (o >>= λ moment. reading.what_at n moment.1 >>= λ what. cond {A = Option Entry} (eqb (length what.1) 0) (Some (reading.entry_of moment.0 what.0)) None)
    by_moment n rest fits None is = refl
    by_moment n rest fits (Some m) is =
        ap is_at_end (what_told n m.1 (number_reads.takes rest m.0 m.1 fits is).0.rest_fits) ∙ end m.0 (reading.what_at n m.1)

    by_byte : (o : Option (ℕ × List ℕ)) → byte_at bytes ≡ o
        → is_at_end (o >>= λ number. rest_of (number_at w64 number.1) >>= what_passed number.0)
        ≡ is_some (o >>= λ number. number_at w64 number.1 >>= λ moment. reading.what_at number.0 moment.1 >>= λ what. cond {A = Option Entry} (eqb (length what.1) 0) (Some (reading.entry_of moment.0 what.0)) None)
    by_byte None is = refl
    by_byte (Some n) is =
        by_moment n.0 n.1 (byte_reads.takes bytes n.0 n.1 fits is).0.rest_fits (number_at w64 n.1) refl

-- the bytes are the spelling of an entry
abbrev pub SpellsEntry : List ℕ → Type 0
SpellsEntry bytes = (entry : Entry) × IsEntry entry × (bytes ≡ entry_spelled entry)

pub entry_from : (bytes : List ℕ) → AreBytes bytes → is_entry bytes ≡ true → SpellsEntry bytes
entry_from bytes fits h = by (entry_at bytes) refl
  where
    by : (o : Option Entry) → entry_at bytes ≡ o → SpellsEntry bytes
    by None is = absurd (true≢false (sym h ∙ entry_told bytes fits ∙ ap is_some is))
    by (Some e) is = let found = entry_takes bytes e fits is in (e, found.0, sym found.1)

pub entry_is : (bytes : List ℕ) → AreBytes bytes → SpellsEntry bytes → is_entry bytes ≡ true
entry_is bytes fits s =
    entry_told bytes fits ∙ ap (λ t. is_some (entry_at t)) s.2 ∙ ap is_some (entry_again s.0 s.1)

-- An entry that is read is the one that was written, and what was written is read again.
use Rattle.std.proofs.Common.{◌≡◌, ℕ, ◌≤◌, Bool, true, false, cond, eqb, List, [], ◌∷◌, ◌++◌, length, Option, Some, None, refl, sym, ap, subst, ◌∙◌, append_assoc, arith}
use Rattle.std.specs.List.{list_all, AllByRecursion}
use Rattle.std.specs.List.Sorted.{IsStrictlySortedBy}
use Rattle.std.specs.Int.{w64}
use Rattle.std.specs.Ordering.{nat_cmp, is_lt}
use Rattle.std.specs.declared.cmp.Ordering.{Ordering}
use Rattle.std.specs.declared.cmp.Ordering.TheVariants.{Less, Equal, Greater}
use Rattle.std.specs.Cmp.Lexicographic.{slice_cmp}
use Rattle.std.proofs.lemmas.Bool.{leb-true, le-leb, eqb-true, and_parts, and_from, cond-true, true≢false}
use Rattle.std.proofs.lemmas.Option.{same_Some, none-some, cond_some}
use Rattle.std.proofs.lemmas.List.{append-nil, nil_from_length, length-map}
use Rattle.reg_names.specs.declared.kind.Kind.{Kind}
use Rattle.reg_names.specs.declared.named.Named.{Named}
use Rattle.reg_names.specs.Digests.{AreBytes, IsDigest}
use Rattle.reg_names.specs.Named.{AscendStrictly, digests_of}
use Rattle.reg_names.specs.Names.{IsName}
use Rattle.reg_names.specs.Tags.{IsTag}
use Rattle.reg_entries.specs.Documents.{KeptManifest, kept_of, list_limit, IsDigestList, IsKept}
use Rattle.reg_journal.specs.declared.entry.Entry.{Entry}
use Rattle.reg_journal.specs.declared.entry.What.{What}
use Rattle.reg_journal.specs.declared.entry.What.TheVariants.{Put, SetTag, DropTag, DropManifest, Mark, Link, Unlink, Brought, BroughtLink, BroughtTag, RemovedManifest, RemovedLink, Opened, BroughtBlob, Collect, DropLink, Doom, Erase}
use Rattle.reg_journal.specs.Numbers.{number_of}
use Rattle.reg_journal.specs.Entries.{IsNumber, IsDocument, IsWhat, IsEntry}
use Rattle.reg_journal.specs.Spelling.{number_field, text_field, digest_field, kind_field, named_field, list_field, document_field, fields_of, entry_spelled}
use Rattle.reg_journal.specs.InnerReading.{◌>>=◌, byte_at, number_at, name_at, tag_at, digest_at, kind_at, named_at, list_at, ascends, is_digest_list, is_kept, document_at, spot_at, tag_spot_at, target_at, manifest_at, link_at, blob_at, made, kinds, first_kind, what_at, entry_of, entry_at}
use Rattle.reg_journal.proofs.FieldLaws.{Takes, Reads, bind_some, takes_both, both_read, byte_reads, number_reads, name_reads, tag_reads, digest_reads, kind_reads, HasDigest, named_reads, list_reads}

-- ---- lists of digests

less_is : (o : Ordering) → is_lt o ≡ true → o ≡ Less
less_is Less h = refl
less_is Equal h = absurd (true≢false (sym h))
less_is Greater h = absurd (true≢false (sym h))

all_below : (d : List ℕ) (ds : List (List ℕ)) → list_all (λ e. is_lt (slice_cmp nat_cmp d e)) ds ≡ true → AllByRecursion (λ e. slice_cmp nat_cmp d e ≡ Less) ds
all_below d [] h = tt
all_below d (e ∷ es) h = let p = and_parts _ _ h in (less_is _ p.0, all_below d es p.1)

below_all : (d : List ℕ) (ds : List (List ℕ)) → AllByRecursion (λ e. slice_cmp nat_cmp d e ≡ Less) ds → list_all (λ e. is_lt (slice_cmp nat_cmp d e)) ds ≡ true
below_all d [] h = refl
below_all d (e ∷ es) h = and_from _ _ (ap is_lt h.0) (below_all d es h.1)

ascending : (ds : List (List ℕ)) → ascends ds ≡ true → AscendStrictly ds
unfolding IsStrictlySortedBy
ascending [] h = tt
ascending (d ∷ ds) h = let p = and_parts _ _ h in (all_below d ds p.0, ascending ds p.1)

ascended : (ds : List (List ℕ)) → AscendStrictly ds → ascends ds ≡ true
unfolding IsStrictlySortedBy
ascended [] h = refl
ascended (d ∷ ds) h = and_from _ _ (below_all d ds h.0) (ascended ds h.1)

list_is : (ds : List (List ℕ)) → is_digest_list ds ≡ true → IsDigestList ds
list_is ds h = let p = and_parts _ _ h in record { ascending = ascending ds p.1; few = leb-true (length ds) list_limit p.0 }

list_tested : (ds : List (List ℕ)) → IsDigestList ds → is_digest_list ds ≡ true
list_tested ds h = and_from _ _ (le-leb (length ds) list_limit h.few) (ascended ds h.ascending)

pub kept_is : (doc : KeptManifest) → is_kept doc ≡ true → IsKept doc
unfolding is_kept
kept_is doc h = let p = and_parts _ _ h in record { named = list_is (digests_of doc.named) p.0; children = list_is doc.children p.1 }

pub kept_tested : (doc : KeptManifest) → IsKept doc → is_kept doc ≡ true
unfolding is_kept
kept_tested doc h = and_from _ _ (list_tested (digests_of doc.named) h.named) (list_tested doc.children h.children)

digests_are : (named : List Named) → AllByRecursion HasDigest named → AllByRecursion IsDigest (digests_of named)
digests_are [] h = tt
digests_are (n ∷ ns) h = (h.0, digests_are ns h.1)

digests_were : (named : List Named) → AllByRecursion IsDigest (digests_of named) → AllByRecursion HasDigest named
digests_were [] h = tt
digests_were (n ∷ ns) h = (h.0, digests_were ns h.1)

-- ---- documents

document_reads : Reads document_at document_field IsDocument
unfolding document_at
document_reads = record {
  takes = λ bytes x rest fits e.
      let ended = λ (kind : Kind × List ℕ) (size : ℕ × List ℕ) (named : List Named × List ℕ) (children : List (List ℕ) × List ℕ). let doc = kept_of kind.0 size.0 named.0 children.0 in cond (is_kept doc) (Some (doc, children.1)) None in
      let a = bind_some (kind_at bytes) (λ kind. number_at w64 kind.1 >>= λ size. list_at named_at size.1 >>= λ named. list_at digest_at named.1 >>= λ children. ended kind size named children) (x, rest) e in
      let b = bind_some (number_at w64 a.0.1) (λ size. list_at named_at size.1 >>= λ named. list_at digest_at named.1 >>= λ children. ended a.0 size named children) (x, rest) a.2 in
      let c = bind_some (list_at named_at b.0.1) (λ named. list_at digest_at named.1 >>= λ children. ended a.0 b.0 named children) (x, rest) b.2 in
      let d = bind_some (list_at digest_at c.0.1) (λ children. ended a.0 b.0 c.0 children) (x, rest) c.2 in
      let doc : KeptManifest = kept_of a.0.0 b.0.0 c.0.0 d.0.0 in
      let kept = cond_some (is_kept doc) (doc, d.0.1) (x, rest) d.2 in
      let one = kind_reads.takes bytes a.0.0 a.0.1 fits a.1 in
      let two = number_reads.takes a.0.1 b.0.0 b.0.1 one.0.rest_fits b.1 in
      let three = (list_reads named_at named_field HasDigest named_reads).takes b.0.1 c.0.0 c.0.1 two.0.rest_fits c.1 in
      let four = (list_reads digest_at digest_field IsDigest digest_reads).takes c.0.1 d.0.0 d.0.1 three.0.rest_fits d.1 in
      let lists = takes_both b.0.1 (list_field named_field c.0.0) c.0.1 (list_field digest_field d.0.0) d.0.1 three.0 four.0 in
      let sized = takes_both a.0.1 (number_field b.0.0) b.0.1 (list_field named_field c.0.0 ++ list_field digest_field d.0.0) d.0.1 two.0 lists in
      let whole = takes_both bytes (kind_field a.0.0) a.0.1 (number_field b.0.0 ++ (list_field named_field c.0.0 ++ list_field digest_field d.0.0)) d.0.1 one.0 sized in
      subst (λ (y : KeptManifest × List ℕ). Takes bytes (document_field y.0) y.1 × IsDocument y.0) kept.1
      (whole, record { kept = kept_is doc kept.0; size = two.1; named = digests_are c.0.0 three.1.1; children = four.1.1 });
  again = λ x rest h.
      let few : length x.named ≤ list_limit = subst (λ (n : ℕ). n ≤ list_limit) (length-map x.named (λ n. n.digest)) h.kept.named.few in
      let lists : List ℕ = list_field named_field x.named ++ list_field digest_field x.children in
      let regrouped : document_field x ++ rest ≡ kind_field x.kind ++ (number_field x.size ++ (list_field named_field x.named ++ (list_field digest_field x.children ++ rest))) =
      append_assoc (kind_field x.kind) (number_field x.size ++ lists) rest
      ∙ ap (λ (t : List ℕ). kind_field x.kind ++ t) (append_assoc (number_field x.size) lists rest)
      ∙ ap (λ (t : List ℕ). kind_field x.kind ++ (number_field x.size ++ t)) (append_assoc (list_field named_field x.named) (list_field digest_field x.children) rest) in
      ap document_at regrouped
      ∙ rw (
        kind_reads.again x.kind (number_field x.size ++ (list_field named_field x.named ++ (list_field digest_field x.children ++ rest))) tt,
        number_reads.again x.size (list_field named_field x.named ++ (list_field digest_field x.children ++ rest)) h.size,
        (list_reads named_at named_field HasDigest named_reads).again x.named (list_field digest_field x.children ++ rest) (omega (arith, few), digests_were x.named h.named),
        (list_reads digest_at digest_field IsDigest digest_reads).again x.children rest (omega (arith, h.kept.children.few), h.children),
      )
      (cond-true (is_kept x) (Some (x, rest)) None (kept_tested x h.kept));
}

-- ---- fields together

abbrev spot_spelled : List ℕ × List ℕ → List ℕ
spot_spelled p = text_field p.0 ++ digest_field p.1

abbrev IsSpot : List ℕ × List ℕ → Type 0
IsSpot p = IsName p.0 × IsDigest p.1

abbrev tag_spot_spelled : List ℕ × List ℕ → List ℕ
tag_spot_spelled p = text_field p.0 ++ text_field p.1

abbrev IsTagSpot : List ℕ × List ℕ → Type 0
IsTagSpot p = IsName p.0 × IsTag p.1

abbrev target_spelled : (List ℕ × List ℕ) × List ℕ → List ℕ
target_spelled p = tag_spot_spelled p.0 ++ digest_field p.1

abbrev IsTarget : (List ℕ × List ℕ) × List ℕ → Type 0
IsTarget p = IsTagSpot p.0 × IsDigest p.1

abbrev manifest_spelled : (List ℕ × List ℕ) × KeptManifest → List ℕ
manifest_spelled p = spot_spelled p.0 ++ document_field p.1

abbrev IsManifest : (List ℕ × List ℕ) × KeptManifest → Type 0
IsManifest p = IsSpot p.0 × IsDocument p.1

abbrev link_spelled : (List ℕ × List ℕ) × ℕ → List ℕ
link_spelled p = spot_spelled p.0 ++ number_field p.1

abbrev IsLink : (List ℕ × List ℕ) × ℕ → Type 0
IsLink p = IsSpot p.0 × IsNumber p.1

abbrev blob_spelled : List ℕ × ℕ → List ℕ
blob_spelled p = digest_field p.0 ++ number_field p.1

abbrev IsBlob : List ℕ × ℕ → Type 0
IsBlob p = IsDigest p.0 × IsNumber p.1

spot_reads : Reads spot_at spot_spelled IsSpot
unfolding spot_at
spot_reads = both_read name_at text_field IsName digest_at digest_field IsDigest name_reads digest_reads

tag_spot_reads : Reads tag_spot_at tag_spot_spelled IsTagSpot
unfolding tag_spot_at
tag_spot_reads = both_read name_at text_field IsName tag_at text_field IsTag name_reads tag_reads

target_reads : Reads target_at target_spelled IsTarget
unfolding target_at
target_reads = both_read tag_spot_at tag_spot_spelled IsTagSpot digest_at digest_field IsDigest tag_spot_reads digest_reads

manifest_reads : Reads manifest_at manifest_spelled IsManifest
unfolding manifest_at
manifest_reads = both_read spot_at spot_spelled IsSpot document_at document_field IsDocument spot_reads document_reads

link_reads : Reads link_at link_spelled IsLink
unfolding link_at
link_reads = both_read spot_at spot_spelled IsSpot (number_at w64) number_field IsNumber spot_reads number_reads

blob_reads : Reads blob_at blob_spelled IsBlob
unfolding blob_at
blob_reads = both_read digest_at digest_field IsDigest (number_at w64) number_field IsNumber digest_reads number_reads

-- ---- kinds

-- the fields of an entry of a kind were taken
record TakesWhat (n : ℕ) (bytes : List ℕ) (what : What) (rest : List ℕ) : Type 0 where
  takes : Takes bytes (fields_of what) rest
  is : IsWhat what
  number : number_of what ≡ n

abbrev IsReaderOf : ℕ → (List ℕ → Option (What × List ℕ)) → Type 0
IsReaderOf n split = (bytes : List ℕ) (what : What) (rest : List ℕ) → AreBytes bytes → split bytes ≡ Some (what, rest) → TakesWhat n bytes what rest

made_some : {A : Type 0} (make : A → What) (o : Option (A × List ℕ)) (what : What) (rest : List ℕ) → made make o ≡ Some (what, rest) → (x : A) × (o ≡ Some (x, rest)) × (make x ≡ what)
made_some make (Some x) what rest e =
    let p : (make x.0, x.1) ≡ (what, rest) = same_Some (make x.0, x.1) (what, rest) e in
    (x.0, ap (λ (r : List ℕ). Some (x.0, r)) (ap (λ (y : What × List ℕ). y.1) p), ap (λ (y : What × List ℕ). y.0) p)
made_some make None what rest e = absurd cc

module _ {A : Type 0} (n : ℕ) (split : List ℕ → Option (A × List ℕ)) (spelled : A → List ℕ) (IsIn : A → Type 0) (make : A → What) (reads : Reads split spelled IsIn) where
  reader_of : ((x : A) → fields_of (make x) ≡ spelled x) → ((x : A) → IsIn x → IsWhat (make x)) → ((x : A) → number_of (make x) ≡ n) → IsReaderOf n (λ bytes. made make (split bytes))
  reader_of fields is number bytes what rest fits e =
      let m = made_some make (split bytes) what rest e in
      let found = reads.takes bytes m.0 rest fits m.1 in
      subst (λ (w : What). TakesWhat n bytes w rest) m.2
      (record { takes = subst (λ (t : List ℕ). Takes bytes t rest) (sym (fields m.0)) found.0; is = is m.0 found.1; number = number m.0 })

  made_again : (x : A) (rest fields : List ℕ) → fields ≡ spelled x → IsIn x → made make (split (fields ++ rest)) ≡ Some (make x, rest)
  made_again x rest fields same h =
      ap (λ (t : List ℕ). made make (split (t ++ rest))) same ∙ ap (made make) (reads.again x rest h)

opened_reader : IsReaderOf 13 (λ bytes. Some (Opened, bytes))
opened_reader bytes what rest fits e =
    let found : What × List ℕ = (Opened, bytes) in
    subst (λ (y : What × List ℕ). TakesWhat 13 bytes y.0 y.1) (same_Some found (what, rest) e)
    (record { takes = record { parts = refl; rest_fits = fits }; is = tt; number = refl })

assoc_spot : {A : Type 0} (f : A → List ℕ) (p : (List ℕ × List ℕ) × A) → text_field p.0.0 ++ (digest_field p.0.1 ++ f p.1) ≡ spot_spelled p.0 ++ f p.1
assoc_spot f p = sym (append_assoc (text_field p.0.0) (digest_field p.0.1) (f p.1))

assoc_tag : (p : (List ℕ × List ℕ) × List ℕ) → text_field p.0.0 ++ (text_field p.0.1 ++ digest_field p.1) ≡ target_spelled p
assoc_tag p = sym (append_assoc (text_field p.0.0) (text_field p.0.1) (digest_field p.1))

readers : AllByRecursion (λ k. IsReaderOf k.0 k.1) kinds
unfolding kinds
readers = (
  reader_of 1 manifest_at manifest_spelled IsManifest (λ m. Put m.0.0 m.0.1 m.1) manifest_reads (assoc_spot document_field) (λ x h. (h.0.0, h.0.1, h.1)) (λ x. refl),
  (
    reader_of 2 target_at target_spelled IsTarget (λ t. SetTag t.0.0 t.0.1 t.1) target_reads assoc_tag (λ x h. (h.0.0, h.0.1, h.1)) (λ x. refl),
    (
      reader_of 3 tag_spot_at tag_spot_spelled IsTagSpot (λ t. DropTag t.0 t.1) tag_spot_reads (λ x. refl) (λ x h. h) (λ x. refl),
      (
        reader_of 4 spot_at spot_spelled IsSpot (λ s. DropManifest s.0 s.1) spot_reads (λ x. refl) (λ x h. h) (λ x. refl),
        (
          reader_of 5 digest_at digest_field IsDigest Mark digest_reads (λ x. refl) (λ x h. h) (λ x. refl),
          (
            reader_of 6 link_at link_spelled IsLink (λ l. Link l.0.0 l.0.1 l.1) link_reads (assoc_spot number_field) (λ x h. (h.0.0, h.0.1, h.1)) (λ x. refl),
            (
              reader_of 7 spot_at spot_spelled IsSpot (λ s. Unlink s.0 s.1) spot_reads (λ x. refl) (λ x h. h) (λ x. refl),
              (
                reader_of 8 manifest_at manifest_spelled IsManifest (λ m. Brought m.0.0 m.0.1 m.1) manifest_reads (assoc_spot document_field) (λ x h. (h.0.0, h.0.1, h.1)) (λ x. refl),
                (
                  reader_of 9 link_at link_spelled IsLink (λ l. BroughtLink l.0.0 l.0.1 l.1) link_reads (assoc_spot number_field) (λ x h. (h.0.0, h.0.1, h.1)) (λ x. refl),
                  (
                    reader_of 10 target_at target_spelled IsTarget (λ t. BroughtTag t.0.0 t.0.1 t.1) target_reads assoc_tag (λ x h. (h.0.0, h.0.1, h.1)) (λ x. refl),
                    (
                      reader_of 11 spot_at spot_spelled IsSpot (λ s. RemovedManifest s.0 s.1) spot_reads (λ x. refl) (λ x h. h) (λ x. refl),
                      (
                        reader_of 12 spot_at spot_spelled IsSpot (λ s. RemovedLink s.0 s.1) spot_reads (λ x. refl) (λ x h. h) (λ x. refl),
                        (
                          opened_reader,
                          (
                            reader_of 14 blob_at blob_spelled IsBlob (λ b. BroughtBlob b.0 b.1) blob_reads (λ x. refl) (λ x h. h) (λ x. refl),
                            (
                              reader_of 15 spot_at spot_spelled IsSpot (λ s. Collect s.0 s.1) spot_reads (λ x. refl) (λ x h. h) (λ x. refl),
                              (
                                reader_of 16 spot_at spot_spelled IsSpot (λ s. DropLink s.0 s.1) spot_reads (λ x. refl) (λ x h. h) (λ x. refl),
                                (
                                  reader_of 17 digest_at digest_field IsDigest Doom digest_reads (λ x. refl) (λ x h. h) (λ x. refl),
                                  (
                                    reader_of 18 digest_at digest_field IsDigest Erase digest_reads (λ x. refl) (λ x h. h) (λ x. refl),
                                    tt,
                                  ),
                                ),
                              ),
                            ),
                          ),
                        ),
                      ),
                    ),
                  ),
                ),
              ),
            ),
          ),
        ),
      ),
    ),
  ),
)

first_takes : (n : ℕ) (ks : List (ℕ × (List ℕ → Option (What × List ℕ)))) → AllByRecursion (λ k. IsReaderOf k.0 k.1) ks → IsReaderOf n (first_kind n ks)
first_takes n [] h bytes what rest fits e = absurd (none-some (what, rest) e)
first_takes n (k ∷ ks) h bytes what rest fits e = by (eqb n k.0) refl e (first_takes n ks h.1 bytes what rest fits)
  where
    by : (c : Bool) → eqb n k.0 ≡ c → cond c (k.1 bytes) (first_kind n ks bytes) ≡ Some (what, rest) → (first_kind n ks bytes ≡ Some (what, rest) → TakesWhat n bytes what rest) → TakesWhat n bytes what rest
    by true t e later = subst (λ (m : ℕ). TakesWhat m bytes what rest) (sym (eqb-true n k.0 t)) (h.0 bytes what rest fits e)
    by false t e later = later e

what_takes : (n : ℕ) → IsReaderOf n (what_at n)
unfolding what_at
what_takes n = first_takes n kinds readers

what_again : (what : What) (rest : List ℕ) → IsWhat what → what_at (number_of what) (fields_of what ++ rest) ≡ Some (what, rest)
unfolding what_at kinds
what_again (Put name digest doc) rest h = made_again 1 manifest_at manifest_spelled IsManifest (λ m. Put m.0.0 m.0.1 m.1) manifest_reads ((name, digest), doc) rest _ (assoc_spot document_field ((name, digest), doc)) ((h.0, h.1), h.2)
what_again (SetTag name tag digest) rest h = made_again 2 target_at target_spelled IsTarget (λ t. SetTag t.0.0 t.0.1 t.1) target_reads ((name, tag), digest) rest _ (assoc_tag ((name, tag), digest)) ((h.0, h.1), h.2)
what_again (DropTag name tag) rest h = made_again 3 tag_spot_at tag_spot_spelled IsTagSpot (λ t. DropTag t.0 t.1) tag_spot_reads (name, tag) rest _ refl h
what_again (DropManifest name digest) rest h = made_again 4 spot_at spot_spelled IsSpot (λ s. DropManifest s.0 s.1) spot_reads (name, digest) rest _ refl h
what_again (Mark digest) rest h = made_again 5 digest_at digest_field IsDigest Mark digest_reads digest rest _ refl h
what_again (Link name digest size) rest h = made_again 6 link_at link_spelled IsLink (λ l. Link l.0.0 l.0.1 l.1) link_reads ((name, digest), size) rest _ (assoc_spot number_field ((name, digest), size)) ((h.0, h.1), h.2)
what_again (Unlink name digest) rest h = made_again 7 spot_at spot_spelled IsSpot (λ s. Unlink s.0 s.1) spot_reads (name, digest) rest _ refl h
what_again (Brought name digest doc) rest h = made_again 8 manifest_at manifest_spelled IsManifest (λ m. Brought m.0.0 m.0.1 m.1) manifest_reads ((name, digest), doc) rest _ (assoc_spot document_field ((name, digest), doc)) ((h.0, h.1), h.2)
what_again (BroughtLink name digest size) rest h = made_again 9 link_at link_spelled IsLink (λ l. BroughtLink l.0.0 l.0.1 l.1) link_reads ((name, digest), size) rest _ (assoc_spot number_field ((name, digest), size)) ((h.0, h.1), h.2)
what_again (BroughtTag name tag digest) rest h = made_again 10 target_at target_spelled IsTarget (λ t. BroughtTag t.0.0 t.0.1 t.1) target_reads ((name, tag), digest) rest _ (assoc_tag ((name, tag), digest)) ((h.0, h.1), h.2)
what_again (RemovedManifest name digest) rest h = made_again 11 spot_at spot_spelled IsSpot (λ s. RemovedManifest s.0 s.1) spot_reads (name, digest) rest _ refl h
what_again (RemovedLink name digest) rest h = made_again 12 spot_at spot_spelled IsSpot (λ s. RemovedLink s.0 s.1) spot_reads (name, digest) rest _ refl h
what_again Opened rest h = refl
what_again (BroughtBlob digest size) rest h = made_again 14 blob_at blob_spelled IsBlob (λ b. BroughtBlob b.0 b.1) blob_reads (digest, size) rest _ refl h
what_again (Collect name digest) rest h = made_again 15 spot_at spot_spelled IsSpot (λ s. Collect s.0 s.1) spot_reads (name, digest) rest _ refl h
what_again (DropLink name digest) rest h = made_again 16 spot_at spot_spelled IsSpot (λ s. DropLink s.0 s.1) spot_reads (name, digest) rest _ refl h
what_again (Doom digest) rest h = made_again 17 digest_at digest_field IsDigest Doom digest_reads digest rest _ refl h
what_again (Erase digest) rest h = made_again 18 digest_at digest_field IsDigest Erase digest_reads digest rest _ refl h

-- ---- entries

pub entry_takes : (bytes : List ℕ) (entry : Entry) → AreBytes bytes → entry_at bytes ≡ Some entry → IsEntry entry × (entry_spelled entry ≡ bytes)
unfolding entry_at
entry_takes bytes entry fits e =
    let ended = λ (moment : ℕ) (what : What × List ℕ). cond (eqb (length what.1) 0) (Some (entry_of moment what.0)) None in
    let a = bind_some (byte_at bytes) (λ number. number_at w64 number.1 >>= λ moment. what_at number.0 moment.1 >>= λ what. ended moment.0 what) entry e in
    let b = bind_some (number_at w64 a.0.1) (λ moment. what_at a.0.0 moment.1 >>= λ what. ended moment.0 what) entry a.2 in
    let c = bind_some (what_at a.0.0 b.0.1) (λ what. ended b.0.0 what) entry b.2 in
    let d = cond_some (eqb (length c.0.1) 0) (entry_of b.0.0 c.0.0) entry c.2 in
    let one = byte_reads.takes bytes a.0.0 a.0.1 fits a.1 in
    let two = number_reads.takes a.0.1 b.0.0 b.0.1 one.0.rest_fits b.1 in
    let three = what_takes a.0.0 b.0.1 c.0.0 c.0.1 two.0.rest_fits c.1 in
    let ends : c.0.1 ≡ [] = nil_from_length c.0.1 (eqb-true (length c.0.1) 0 d.0) in
    let fields : b.0.1 ≡ fields_of c.0.0 = three.takes.parts ∙ ap (λ (t : List ℕ). fields_of c.0.0 ++ t) ends ∙ append-nil (fields_of c.0.0) in
    let whole : entry_spelled (entry_of b.0.0 c.0.0) ≡ bytes =
    ap (λ (n : ℕ). n ∷ (number_field b.0.0 ++ fields_of c.0.0)) three.number
    ∙ ap (λ (t : List ℕ). a.0.0 ∷ (number_field b.0.0 ++ t)) (sym fields)
    ∙ ap (λ (t : List ℕ). a.0.0 ∷ t) (sym two.0.parts)
    ∙ sym one.0.parts in
    subst (λ (y : Entry). IsEntry y × (entry_spelled y ≡ bytes)) d.1 (record { moment = two.1; what = three.is }, whole)

pub entry_again : (entry : Entry) → IsEntry entry → entry_at (entry_spelled entry) ≡ Some entry
unfolding entry_at byte_at
entry_again entry h =
    let fields : what_at (number_of entry.what) (fields_of entry.what) ≡ Some (entry.what, []) =
    ap (what_at (number_of entry.what)) (sym (append-nil (fields_of entry.what))) ∙ what_again entry.what [] h.what in
    rw (number_reads.again entry.moment (fields_of entry.what) h.moment, fields) refl

-- entries with one spelling are one
pub spelled_alike : (one two : Entry) → IsEntry one → IsEntry two → entry_spelled one ≡ entry_spelled two → one ≡ two
spelled_alike one two h k e = same_Some one two (sym (entry_again one h) ∙ (ap entry_at e ∙ entry_again two k))

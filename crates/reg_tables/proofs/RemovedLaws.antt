-- What goes with a manifest is touched.
use Rattle.std.proofs.Common.{◌≡◌, ℕ, zero, suc, ◌+◌, ◌<◌, Bool, true, false, cond, eqb, List, [], ◌∷◌, ◌++◌, length, take, get_or, Option, Some, None, refl, ap, sym, subst, ◌∙◌, arith}
use Rattle.std.specs.Prelude.{◌&&◌, ◌||◌, nat_eq, option_map, IsTrue}
use Rattle.std.specs.List.{AllByRecursion}
use Rattle.std.specs.Cmp.Lexicographic.{pointwise}
use Rattle.std.proofs.lemmas.Bool.{false≢true}
use Rattle.std.proofs.lemmas.List.Folds.{list_any_more}
use Rattle.reg_names.specs.declared.named.Named.{Named}
use Rattle.reg_names.specs.Digests.{IsDigest}
use Rattle.reg_names.specs.Named.{has_digest, digests_of, free_in}
use Rattle.reg_names.specs.Names.{IsName}
use Rattle.reg_entries.specs.Documents.{KeptManifest}
use Rattle.reg_entries.specs.State.{lists_child}
use Rattle.reg_journal.specs.Changes.{is_same, names_digest, with_manifest}
use Rattle.reg_journal.specs.Past.{Past}
use Rattle.reg_journal.specs.Spelling.{free_field}
use Rattle.keeper_api.specs.Fields.{ended}
use Rattle.keeper_api.specs.declared.change.Change.{Change}
use Rattle.keeper_api.specs.Changes.{after}
use Rattle.keeper_api.specs.Rows.{Rows, Kept}
use Rattle.keeper_api.specs.Tables.{Fits}
use Rattle.reg_tables.specs.Derived.{row_of, with_past, manifest_row, named_row, child_row, blob_row}
use Rattle.reg_tables.specs.InnerItems.{key_of, is_proper}
use Rattle.reg_tables.specs.InnerPending.{is_wanted, ArePartsBehind, MayStandBehind}
use Rattle.reg_tables.specs.InnerSteps.{touched_manifests, touched_blobs, removed}
use Rattle.reg_tables.specs.Items.{Item, last_number, entry_at, manifest_at, tag_at, named_at, child_at, link_at, blob_at, none_at, elsewhere, of_digest, of_spot, item_of}
use Rattle.reg_tables.proofs.GatherLaws.{same_is, or_false}
use Rattle.reg_tables.proofs.ItemLaws.{spelled, name_own, pair_of}
use Rattle.reg_tables.proofs.NextLaws.{named_part, child_part}
use Rattle.reg_tables.proofs.RemoveLaws.{some_bytes}

-- ---- digests that stand behind a front

pub all_at : {A : Type 0} (P : A → Type 0) (xs : List A) (i : ℕ) (x : A) → AllByRecursion P xs → i < length xs → x ≡ get_or xs i x → P x
all_at P [] i x all within is = absurd (omega (arith, within))
all_at P (y ∷ ys) zero x all within is = subst P (sym is) all.0
all_at P (y ∷ ys) (suc i) x all within is = all_at P ys i x all.1 (omega (arith, within)) is

pub all_so : {A : Type 0} (P Q : A → Type 0) (xs : List A) → ((x : A) → P x → Q x) → AllByRecursion P xs → AllByRecursion Q xs
all_so P Q [] so all = tt
all_so P Q (x ∷ xs) so all = (so x all.0, all_so P Q xs so all.1)

pub named_digests : (name manifest : List ℕ) (parts : List (List ℕ)) → IsName name → IsDigest manifest → MayStandBehind (5 ∷ (ended name ++ manifest)) parts → AllByRecursion IsDigest parts
named_digests name manifest parts is manifest_is stand =
    all_so (λ part. (row : List ℕ) × Fits (5 ∷ ((ended name ++ manifest) ++ part)) row) IsDigest parts (λ part f. named_part name manifest part f.0 is manifest_is f.1) stand

pub child_digests : (name parent : List ℕ) (parts : List (List ℕ)) → IsName name → IsDigest parent → MayStandBehind (6 ∷ (ended name ++ parent)) parts → AllByRecursion IsDigest parts
child_digests name parent parts is parent_is stand =
    all_so (λ part. (row : List ℕ) × Fits (6 ∷ ((ended name ++ parent) ++ part)) row) IsDigest parts (λ part f. child_part name parent part f.0 is parent_is f.1) stand

-- ---- one digest more

once_more : {A : Type 0} (here before one : Bool) (new old : A) → cond (here && one) new (cond (here && before) new old) ≡ cond (here && (before || one)) new old
once_more true true true new old = refl
once_more true true false new old = refl
once_more true false true new old = refl
once_more true false false new old = refl
once_more false before one new old = refl

-- whether a digest is among those so far and one more
among : (digest d : List ℕ) (digests : List (List ℕ)) (i : ℕ) → i < length digests → d ≡ get_or digests i d → (has_digest digest (take i digests) || has_digest digest (d ∷ [])) ≡ has_digest digest (take (i + 1) digests)
among digest d digests i within is =
    ap (λ b. has_digest digest (take i digests) || b) (or_false (is_same digest d) ∙ ap (is_same digest) is)
    ∙ sym (list_any_more (pointwise nat_eq digest) digests i d within)

pub manifests_next : (name d : List ℕ) (digests : List (List ℕ)) (i now : ℕ) (past : Past) → i < length digests → d ≡ get_or digests i d
    → touched_manifests name (d ∷ []) now (touched_manifests name (take i digests) now past) ≡ touched_manifests name (take (i + 1) digests) now past
manifests_next name d digests i now past within is = λ j. record past { manifest_touched = λ of other. at of other j }
  where
    at : (of other : List ℕ) → cond (is_same name of && has_digest other (d ∷ [])) (Some now) (cond (is_same name of && has_digest other (take i digests)) (Some now) (past.manifest_touched of other))
        ≡ cond (is_same name of && has_digest other (take (i + 1) digests)) (Some now) (past.manifest_touched of other)
    at of other =
        once_more (is_same name of) (has_digest other (take i digests)) (has_digest other (d ∷ [])) (Some now) (past.manifest_touched of other)
        ∙ ap (λ b. cond (is_same name of && b) (Some now) (past.manifest_touched of other)) (among other d digests i within is)

-- where no digest is among them, none is touched
pub manifests_none : (name : List ℕ) (now : ℕ) (past : Past) → touched_manifests name [] now past ≡ past
manifests_none name now past = λ j. record past { manifest_touched = λ of other. at of other (is_same name of) j }
  where
    at : (of other : List ℕ) (b : Bool) → cond (b && false) (Some now) (past.manifest_touched of other) ≡ past.manifest_touched of other
    at of other true = refl
    at of other false = refl

pub blobs_next : (d : List ℕ) (digests : List (List ℕ)) (i now : ℕ) (past : Past) → i < length digests → d ≡ get_or digests i d
    → touched_blobs (d ∷ []) now (touched_blobs (take i digests) now past) ≡ touched_blobs (take (i + 1) digests) now past
blobs_next d digests i now past within is = λ j. record past { blob_touched = λ other. at other j }
  where
    at : (other : List ℕ) → cond (has_digest other (d ∷ [])) (Some now) (cond (has_digest other (take i digests)) (Some now) (past.blob_touched other)) ≡ cond (has_digest other (take (i + 1) digests)) (Some now) (past.blob_touched other)
    at other =
        once_more true (has_digest other (take i digests)) (has_digest other (d ∷ [])) (Some now) (past.blob_touched other)
        ∙ ap (λ b. cond b (Some now) (past.blob_touched other)) (among other d digests i within is)

-- ---- all that goes with it

-- what was gathered later, since nothing changed
pub gathered : (table : ℕ) (pending : List Change) (items parts : List (List ℕ)) (front spot : List ℕ) (first now : Kept) → front ≡ spot → now ≡ first → parts ≡ items
    → (IsTrue now.tells → ArePartsBehind (table ∷ front) None (after now.rows pending) items) → IsTrue first.tells → ArePartsBehind (table ∷ spot) None (after first.rows pending) parts
gathered table pending items parts front spot first now front_is kept_is parts_is found =
    subst (λ (k : Kept). IsTrue k.tells → ArePartsBehind (table ∷ spot) None (after k.rows pending) parts) kept_is
    (subst (λ (f : List ℕ). IsTrue now.tells → ArePartsBehind (table ∷ f) None (after now.rows pending) parts) front_is
    (subst (λ (ps : List (List ℕ)). IsTrue now.tells → ArePartsBehind (table ∷ front) None (after now.rows pending) ps) (sym parts_is) found))

-- what is named has a row
named_wanted : (d : List ℕ) (ns : List Named) → is_wanted None (option_map free_field (free_in d ns)) ≡ has_digest d (digests_of ns)
named_wanted d [] = refl
named_wanted d (n ∷ ns) = by (is_same d n.digest) (named_wanted d ns)
  where
    by : (b : Bool) → is_wanted None (option_map free_field (free_in d ns)) ≡ has_digest d (digests_of ns) → is_wanted None (option_map free_field (cond b (Some n.free) (free_in d ns))) ≡ (b || has_digest d (digests_of ns))
    by true rest = refl
    by false rest = rest

names : (d : List ℕ) (manifest : Option KeptManifest) → is_wanted None (named_row d manifest) ≡ names_digest d manifest
names d None = refl
names d (Some m) = named_wanted d m.named

lists : (d : List ℕ) (manifest : Option KeptManifest) → is_wanted None (child_row d manifest) ≡ lists_child d manifest
lists d None = refl
lists d (Some m) = by (has_digest d m.children)
  where
    by : (b : Bool) → is_wanted None (cond b (Some []) None) ≡ b
    by true = refl
    by false = refl

-- what is of a digest has as many bytes as one
long_of : (item : List ℕ → Item) (d : List ℕ) → is_proper (of_digest item d) ≡ true → eqb (length d) 33 ≡ true
long_of item d proper = by (eqb (length d) 33) proper
  where
    by : (b : Bool) → is_proper (cond b (item d) none_at) ≡ true → b ≡ true
    by true p = refl
    by false p = absurd (false≢true p)

module _ (past : Past) (base : Rows) (name digest : List ℕ) (now : ℕ) (named children : List (List ℕ)) (is : IsName name) (digest_is : IsDigest digest)
    (named_found : ArePartsBehind (5 ∷ (ended name ++ digest)) None (with_past past base) named) (children_found : ArePartsBehind (6 ∷ (ended name ++ digest)) None (with_past past base) children) where
  abbrev gone : Past
  gone = with_manifest name digest None past

  -- what is gathered behind the front of a list is just what it has
  found_as : (table : ℕ) (item : List ℕ → Item) (parts : List (List ℕ)) (d : List ℕ) → ((p : List ℕ) → item_of (table ∷ ((ended name ++ digest) ++ p)) ≡ of_digest item p) → is_proper (item d) ≡ true
      → ArePartsBehind (table ∷ (ended name ++ digest)) None (with_past past base) parts → eqb (length d) 33 ≡ true
      → has_digest d parts ≡ is_wanted None (row_of past (item d) (base (table ∷ ((ended name ++ digest) ++ d))))
  found_as table item parts d own proper found long =
      let here : of_digest item d ≡ item d = ap (λ b. cond b (item d) none_at) long in
      found d (some_bytes item (item d) d proper here)
      ∙ ap (λ (i : Item). is_wanted None (row_of past i (base (table ∷ ((ended name ++ digest) ++ d))))) (own d ∙ here)

  pub removed_step : with_past (touched_blobs named now (touched_manifests name children now (with_manifest name digest None past))) base ≡ with_past (removed name digest now past) base
  removed_step = λ i q. at q i
    where
      at : (q : List ℕ) → with_past (touched_blobs named now (touched_manifests name children now (with_manifest name digest None past))) base q ≡ with_past (removed name digest now past) base q
      at q = by (item_of q) refl
        where
          listed : (of d : List ℕ) → item_of q ≡ manifest_at of d → (b : Bool) → is_same name of ≡ b → (b && has_digest d children) ≡ (b && lists_child d (past.manifests name digest))
          listed of d item false e = refl
          listed of d item true e =
              let q_is : q ≡ 2 ∷ (ended name ++ d) = spelled q (ap is_proper item) ∙ ap key_of item ∙ ap (λ (n : List ℕ). 2 ∷ (ended n ++ d)) (sym (same_is name of e)) in
              let spot : item_of q ≡ of_digest (manifest_at name) d = ap item_of q_is ∙ ap (of_spot manifest_at) (name_own name d is) in
              found_as 6 (child_at name digest) children d (λ p. pair_of child_at name digest p is digest_is) refl children_found (long_of (manifest_at name) d (ap is_proper (sym spot ∙ item)))
              ∙ lists d (past.manifests name digest)

          has : (d : List ℕ) → item_of q ≡ blob_at d → has_digest d named ≡ names_digest d (past.manifests name digest)
          has d item =
              let q_is : q ≡ 8 ∷ d = spelled q (ap is_proper item) ∙ ap key_of item in
              found_as 5 (named_at name digest) named d (λ p. pair_of named_at name digest p is digest_is) refl named_found (long_of blob_at d (ap is_proper (sym (ap item_of q_is) ∙ item)))
              ∙ names d (past.manifests name digest)

          by : (item : Item) → item_of q ≡ item → row_of (touched_blobs named now (touched_manifests name children now (with_manifest name digest None past))) item (base q) ≡ row_of (removed name digest now past) item (base q)
          by last_number same = refl
          by (entry_at n) same = refl
          by (manifest_at of d) same = ap (λ b. manifest_row (gone.manifests of d) (cond b (Some now) (past.manifest_touched of d))) (listed of d same (is_same name of) refl)
          by (tag_at of t) same = refl
          by (named_at of m d) same = refl
          by (child_at of m d) same = refl
          by (link_at of d) same = refl
          by (blob_at d) same = ap (λ b. blob_row (past.condemned d) (past.sizes d) (cond b (Some now) (past.blob_touched d))) (has d same)
          by none_at same = refl
          by elsewhere same = refl

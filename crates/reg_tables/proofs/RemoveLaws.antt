-- A manifest that is dropped with its lists.
use Rattle.std.proofs.Common.{◌≡◌, ℕ, Bool, true, false, cond, eqb, List, [], ◌∷◌, ◌++◌, length, Option, Some, None, refl, ap, sym, ◌∙◌}
use Rattle.std.specs.List.{list_any}
use Rattle.std.proofs.lemmas.Bool.{true≢false, false≢true}
use Rattle.reg_names.specs.Digests.{IsDigest}
use Rattle.reg_names.specs.Names.{IsName}
use Rattle.reg_entries.specs.Documents.{KeptManifest}
use Rattle.reg_journal.specs.Changes.{is_same, with_manifest}
use Rattle.reg_journal.specs.Past.{Past}
use Rattle.keeper_api.specs.Fields.{ended}
use Rattle.keeper_api.specs.Rows as keys
use Rattle.keeper_api.specs.Rows.{Rows, with_row, is_below}
use Rattle.reg_tables.specs.Derived.{row_of, with_past, manifest_row, named_row, child_row}
use Rattle.reg_tables.specs.InnerItems.{key_of, is_proper}
use Rattle.reg_tables.specs.InnerPending.{is_wanted, ArePartsBehind, without_parts}
use Rattle.reg_tables.specs.Items.{Item, last_number, entry_at, manifest_at, tag_at, named_at, child_at, link_at, blob_at, none_at, elsewhere, of_digest, item_of}
use Rattle.reg_tables.specs.Keys.{manifest_key}
use Rattle.reg_tables.proofs.GatherLaws.{same_is, same_itself}
use Rattle.reg_tables.proofs.ItemLaws.{spelled, spot_own, pair_of}
use Rattle.reg_tables.proofs.PendingLaws.{same_key, at_itself}
use Rattle.reg_tables.proofs.StepLaws.{at_place, other_place}
use Rattle.reg_tables.proofs.UntagLaws.{any_here, any_found}

unwanted : (row : Option (List ℕ)) → is_wanted None row ≡ false → row ≡ None
unwanted None e = refl
unwanted (Some r) e = absurd (true≢false e)

-- a part that is of an item is some bytes
pub some_bytes : (item : List ℕ → Item) (here : Item) (d : List ℕ) → is_proper here ≡ true → of_digest item d ≡ here → is_below [] d ≡ true
some_bytes item here [] proper is = absurd (false≢true (ap is_proper is ∙ proper))
some_bytes item here (b ∷ bs) proper is = refl

module _ (past : Past) (base : Rows) (name digest : List ℕ) (named children : List (List ℕ)) (is : IsName name) (digest_is : IsDigest digest)
    (named_found : ArePartsBehind (5 ∷ (ended name ++ digest)) None (with_past past base) named) (children_found : ArePartsBehind (6 ∷ (ended name ++ digest)) None (with_past past base) children) where
  abbrev front5 : List ℕ
  front5 = 5 ∷ (ended name ++ digest)

  abbrev front6 : List ℕ
  front6 = 6 ∷ (ended name ++ digest)

  abbrev rest : Past
  rest = with_manifest name digest None past

  rest_here : rest.manifests name digest ≡ None
  rest_here = at_place name digest None (past.manifests name digest)

  named_item : (p : List ℕ) → item_of (front5 ++ p) ≡ of_digest (named_at name digest) p
  named_item p = pair_of named_at name digest p is digest_is

  child_item : (p : List ℕ) → item_of (front6 ++ p) ≡ of_digest (child_at name digest) p
  child_item p = pair_of child_at name digest p is digest_is

  -- what is behind a front has no row in the rest
  no_named : (p : List ℕ) (old : Option (List ℕ)) → row_of rest (of_digest (named_at name digest) p) old ≡ None
  no_named p old = by (eqb (length p) 33)
    where
      by : (b : Bool) → row_of rest (cond b (named_at name digest p) none_at) old ≡ None
      by true = ap (named_row p) rest_here
      by false = refl

  no_child : (p : List ℕ) (old : Option (List ℕ)) → row_of rest (of_digest (child_at name digest) p) old ≡ None
  no_child p old = by (eqb (length p) 33)
    where
      by : (b : Bool) → row_of rest (cond b (child_at name digest p) none_at) old ≡ None
      by true = ap (child_row p) rest_here
      by false = refl

  abbrev listed : List ℕ → Bool
  listed q = list_any (λ p. keys.is_at (front6 ++ p) q) children

  abbrev is_named : List ℕ → Bool
  is_named q = list_any (λ p. keys.is_at (front5 ++ p) q) named

  pub remove_step : with_row (without_parts front6 children (without_parts front5 named (with_past past base))) (manifest_key name digest) None ≡ with_past rest base
  remove_step = λ i q. at q i
    where
      at : (q : List ℕ) → with_row (without_parts front6 children (without_parts front5 named (with_past past base))) (manifest_key name digest) None q ≡ with_past rest base q
      at q = by_manifest (keys.is_at (manifest_key name digest) q) refl
        where
          -- a row that no walk found is none
          named_none : (is_named q) ≡ false → (d : List ℕ) → item_of q ≡ named_at name digest d → q ≡ front5 ++ d → named_row d (past.manifests name digest) ≡ None
          named_none e d item q_is =
              let some = some_bytes (named_at name digest) (named_at name digest d) d refl (sym (named_item d) ∙ ap item_of (sym q_is) ∙ item) in
              unwanted (named_row d (past.manifests name digest))
              (sym (named_found d some ∙ ap (λ (k : List ℕ). is_wanted None (with_past past base k)) (sym q_is) ∙ ap (λ (i : Item). is_wanted None (row_of past i (base q))) item)
              ∙ sym (any_here front5 named d) ∙ ap (λ (k : List ℕ). list_any (λ p. keys.is_at (front5 ++ p) k) named) (sym q_is) ∙ e)

          child_none : (listed q) ≡ false → (d : List ℕ) → item_of q ≡ child_at name digest d → q ≡ front6 ++ d → child_row d (past.manifests name digest) ≡ None
          child_none e d item q_is =
              let some = some_bytes (child_at name digest) (child_at name digest d) d refl (sym (child_item d) ∙ ap item_of (sym q_is) ∙ item) in
              unwanted (child_row d (past.manifests name digest))
              (sym (children_found d some ∙ ap (λ (k : List ℕ). is_wanted None (with_past past base k)) (sym q_is) ∙ ap (λ (i : Item). is_wanted None (row_of past i (base q))) item)
              ∙ sym (any_here front6 children d) ∙ ap (λ (k : List ℕ). list_any (λ p. keys.is_at (front6 ++ p) k) children) (sym q_is) ∙ e)

          keep_named : (is_named q) ≡ false → (of m d : List ℕ) → item_of q ≡ named_at of m d → (a : Bool) → is_same name of ≡ a → (b : Bool) → is_same digest m ≡ b → named_row d (past.manifests of m) ≡ named_row d (rest.manifests of m)
          keep_named e of m d item true f true g =
              let of_is = same_is name of f in
              let m_is = same_is digest m g in
              let here : named_at of m d ≡ named_at name digest d = ap (λ (n : List ℕ). named_at n m d) (sym of_is) ∙ ap (λ (k : List ℕ). named_at name k d) (sym m_is) in
              let q_is : q ≡ front5 ++ d = spelled q (ap is_proper item) ∙ ap key_of item ∙ ap key_of here in
              ap (λ (n : List ℕ). named_row d (past.manifests n m)) (sym of_is) ∙ ap (λ (k : List ℕ). named_row d (past.manifests name k)) (sym m_is)
              ∙ named_none e d (item ∙ here) q_is
              ∙ sym (ap (λ (n : List ℕ). named_row d (rest.manifests n m)) (sym of_is) ∙ ap (λ (k : List ℕ). named_row d (rest.manifests name k)) (sym m_is) ∙ ap (named_row d) rest_here)
          keep_named e of m d item true f false g = sym (ap (named_row d) (other_place name digest of m None (past.manifests of m) (λ x y. true≢false (sym (ap (is_same digest) (sym y) ∙ same_itself digest) ∙ g))))
          keep_named e of m d item false f b g = sym (ap (named_row d) (other_place name digest of m None (past.manifests of m) (λ x y. true≢false (sym (ap (is_same name) (sym x) ∙ same_itself name) ∙ f))))

          keep_child : (listed q) ≡ false → (of m d : List ℕ) → item_of q ≡ child_at of m d → (a : Bool) → is_same name of ≡ a → (b : Bool) → is_same digest m ≡ b → child_row d (past.manifests of m) ≡ child_row d (rest.manifests of m)
          keep_child e of m d item true f true g =
              let of_is = same_is name of f in
              let m_is = same_is digest m g in
              let here : child_at of m d ≡ child_at name digest d = ap (λ (n : List ℕ). child_at n m d) (sym of_is) ∙ ap (λ (k : List ℕ). child_at name k d) (sym m_is) in
              let q_is : q ≡ front6 ++ d = spelled q (ap is_proper item) ∙ ap key_of item ∙ ap key_of here in
              ap (λ (n : List ℕ). child_row d (past.manifests n m)) (sym of_is) ∙ ap (λ (k : List ℕ). child_row d (past.manifests name k)) (sym m_is)
              ∙ child_none e d (item ∙ here) q_is
              ∙ sym (ap (λ (n : List ℕ). child_row d (rest.manifests n m)) (sym of_is) ∙ ap (λ (k : List ℕ). child_row d (rest.manifests name k)) (sym m_is) ∙ ap (child_row d) rest_here)
          keep_child e of m d item true f false g = sym (ap (child_row d) (other_place name digest of m None (past.manifests of m) (λ x y. true≢false (sym (ap (is_same digest) (sym y) ∙ same_itself digest) ∙ g))))
          keep_child e of m d item false f b g = sym (ap (child_row d) (other_place name digest of m None (past.manifests of m) (λ x y. true≢false (sym (ap (is_same name) (sym x) ∙ same_itself name) ∙ f))))

          keep_manifest : (keys.is_at (manifest_key name digest) q ≡ false) → (of d : List ℕ) → item_of q ≡ manifest_at of d → manifest_row (past.manifests of d) (past.manifest_touched of d) ≡ manifest_row (rest.manifests of d) (past.manifest_touched of d)
          keep_manifest e of d item =
              sym (ap (λ (m : Option KeptManifest). manifest_row m (past.manifest_touched of d)) (other_place name digest of d None (past.manifests of d)
              (λ x y. true≢false (sym (ap (keys.is_at (manifest_key name digest))
              (spelled q (ap is_proper item) ∙ ap key_of item ∙ ap (λ (n : List ℕ). manifest_key n d) (sym x) ∙ ap (manifest_key name) (sym y)) ∙ at_itself (manifest_key name digest)) ∙ e))))

          others : (keys.is_at (manifest_key name digest) q ≡ false) → (listed q) ≡ false → (is_named q) ≡ false → (item : Item) → item_of q ≡ item → row_of past item (base q) ≡ row_of rest item (base q)
          others m l n last_number same = refl
          others m l n (entry_at k) same = refl
          others m l n (manifest_at of d) same = keep_manifest m of d same
          others m l n (tag_at of t) same = refl
          others m l n (named_at of o d) same = keep_named n of o d same (is_same name of) refl (is_same digest o) refl
          others m l n (child_at of o d) same = keep_child l of o d same (is_same name of) refl (is_same digest o) refl
          others m l n (link_at of d) same = refl
          others m l n (blob_at d) same = refl
          others m l n none_at same = refl
          others m l n elsewhere same = refl

          by_named : (keys.is_at (manifest_key name digest) q ≡ false) → (listed q) ≡ false → (b : Bool) → (is_named q) ≡ b → cond b None (row_of past (item_of q) (base q)) ≡ row_of rest (item_of q) (base q)
          by_named m l true e =
              let f = any_found front5 named q e in
              sym (ap (λ (i : Item). row_of rest i (base q)) (ap item_of f.1 ∙ named_item f.0) ∙ no_named f.0 (base q))
          by_named m l false e = others m l e (item_of q) refl

          by_child : (keys.is_at (manifest_key name digest) q ≡ false) → (b : Bool) → (listed q) ≡ b → cond b None (without_parts front5 named (with_past past base) q) ≡ row_of rest (item_of q) (base q)
          by_child m true e =
              let f = any_found front6 children q e in
              sym (ap (λ (i : Item). row_of rest i (base q)) (ap item_of f.1 ∙ child_item f.0) ∙ no_child f.0 (base q))
          by_child m false e = by_named m e (is_named q) refl

          by_manifest : (b : Bool) → keys.is_at (manifest_key name digest) q ≡ b → cond b None (without_parts front6 children (without_parts front5 named (with_past past base)) q) ≡ row_of rest (item_of q) (base q)
          by_manifest true e =
              sym (ap (λ (k : List ℕ). row_of rest (item_of k) (base k)) (sym (same_key (manifest_key name digest) q e))
              ∙ ap (λ (i : Item). row_of rest i (base (manifest_key name digest))) (spot_own manifest_at name digest is digest_is)
              ∙ ap (λ (m : Option KeptManifest). manifest_row m (past.manifest_touched name digest)) rest_here)
          by_manifest false e = by_child e (listed q) refl

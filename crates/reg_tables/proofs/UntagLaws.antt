-- Tags that are dropped since they point to a digest.
use Rattle.std.proofs.Common.{◌≡◌, ℕ, Bool, true, false, cond, List, [], ◌∷◌, ◌++◌, Option, Some, None, refl, ap, sym, ◌∙◌}
use Rattle.std.specs.Prelude.{◌&&◌, ◌||◌}
use Rattle.std.specs.List.{list_any}
use Rattle.std.proofs.lemmas.Bool.{true≢false}
use Rattle.std.proofs.lemmas.Option.{none-some}
use Rattle.std.proofs.lemmas.List.{append_cancel_left}
use Rattle.reg_names.specs.Named.{has_digest}
use Rattle.reg_names.specs.Names.{IsName}
use Rattle.reg_journal.specs.Changes.{is_same, points_to, without_tags}
use Rattle.reg_journal.specs.Past.{Past}
use Rattle.keeper_api.specs.Fields.{ended}
use Rattle.keeper_api.specs.Rows as keys
use Rattle.keeper_api.specs.Rows.{Rows, is_below}
use Rattle.reg_tables.specs.Derived.{row_of, with_past}
use Rattle.reg_tables.specs.InnerItems.{key_of, is_proper}
use Rattle.reg_tables.specs.InnerPending.{is_wanted, ArePartsBehind, without_parts}
use Rattle.reg_tables.specs.Items.{Item, last_number, entry_at, manifest_at, tag_at, named_at, child_at, link_at, blob_at, none_at, elsewhere, ended_at, of_tag, of_tag_end, item_of}
use Rattle.reg_tables.proofs.GatherLaws.{same_is, same_itself}
use Rattle.reg_tables.proofs.ItemLaws.{spelled, name_own}
use Rattle.reg_tables.proofs.PendingLaws.{same_key, at_itself}

-- ---- keys behind a front

same_behind : (front p x : List ℕ) → keys.is_at (front ++ p) (front ++ x) ≡ is_same x p
same_behind front p x = by (is_same x p) refl
  where
    there : (b : Bool) → keys.is_at (front ++ p) (front ++ x) ≡ b → is_same x p ≡ false → b ≡ false
    there true at e =
        let same : p ≡ x = append_cancel_left front p x (same_key (front ++ p) (front ++ x) at) in
        absurd (true≢false (sym (ap (is_same x) same ∙ same_itself x) ∙ e))
    there false at e = refl

    by : (b : Bool) → is_same x p ≡ b → keys.is_at (front ++ p) (front ++ x) ≡ b
    by true e = ap (λ (y : List ℕ). keys.is_at (front ++ p) (front ++ y)) (same_is x p e) ∙ at_itself (front ++ p)
    by false e = there (keys.is_at (front ++ p) (front ++ x)) refl e

pub any_here : (front : List ℕ) (parts : List (List ℕ)) (x : List ℕ) → list_any (λ p. keys.is_at (front ++ p) (front ++ x)) parts ≡ has_digest x parts
any_here front [] x = refl
any_here front (p ∷ ps) x =
    ap (λ b. b || list_any (λ p. keys.is_at (front ++ p) (front ++ x)) ps) (same_behind front p x)
    ∙ ap (λ b. is_same x p || b) (any_here front ps x)

pub any_found : (front : List ℕ) (parts : List (List ℕ)) (q : List ℕ) → list_any (λ p. keys.is_at (front ++ p) q) parts ≡ true → (p : List ℕ) × (q ≡ front ++ p)
any_found front [] q e = absurd (true≢false (sym e))
any_found front (p ∷ ps) q e = by (keys.is_at (front ++ p) q) refl (any_found front ps q)
  where
    by : (b : Bool) → keys.is_at (front ++ p) q ≡ b → (list_any (λ p. keys.is_at (front ++ p) q) ps ≡ true → (p : List ℕ) × (q ≡ front ++ p)) → (p : List ℕ) × (q ≡ front ++ p)
    by true at rest = (p, sym (same_key (front ++ p) q at))
    by false at rest = rest (sym (ap (λ b. b || list_any (λ p. keys.is_at (front ++ p) q) ps) at) ∙ e)

-- ---- tags

wanted_points : (digest : List ℕ) (row : Option (List ℕ)) → is_wanted (Some digest) row ≡ points_to digest row
wanted_points digest None = refl
wanted_points digest (Some r) = refl

ended_some : (text : List ℕ) → is_below [] (ended text) ≡ true
ended_some [] = refl
ended_some (b ∷ bs) = refl

some_of : (p t : List ℕ) → ended_at p ≡ Some (t, []) → is_below [] p ≡ true
some_of [] t e = absurd (none-some (t, []) e)
some_of (b ∷ bs) t e = refl

module _ (past : Past) (base : Rows) (name digest : List ℕ) (tags : List (List ℕ)) (is : IsName name) (found : ArePartsBehind (4 ∷ ended name) (Some digest) (with_past past base) tags) where
  abbrev front : List ℕ
  front = 4 ∷ ended name

  abbrev rest : Past
  rest = without_tags name digest past

  front_item : (p : List ℕ) → item_of (front ++ p) ≡ of_tag_end name (ended_at p)
  front_item p = ap of_tag (name_own name p is)

  -- the row at a part is of its tag
  told : (q p : List ℕ) (of t : List ℕ) → q ≡ front ++ p → is_below [] p ≡ true → item_of q ≡ tag_at of t → has_digest p tags ≡ points_to digest (past.tags of t)
  told q p of t q_is some item =
      found p some
      ∙ ap (λ (k : List ℕ). is_wanted (Some digest) (with_past past base k)) (sym q_is)
      ∙ ap (λ (i : Item). is_wanted (Some digest) (row_of past i (base q))) item
      ∙ wanted_points digest (past.tags of t)

  pub untag_step : without_parts front tags (with_past past base) ≡ with_past rest base
  untag_step = λ i q. at q i
    where
      at : (q : List ℕ) → without_parts front tags (with_past past base) q ≡ with_past rest base q
      at q = by (list_any (λ p. keys.is_at (front ++ p) q) tags) refl
        where
          here : (p : List ℕ) (b : Bool) → q ≡ front ++ p → list_any (λ p. keys.is_at (front ++ p) q) tags ≡ b → has_digest p tags ≡ b
          here p b q_is e = sym (any_here front tags p) ∙ ap (λ (k : List ℕ). list_any (λ p. keys.is_at (front ++ p) k) tags) (sym q_is) ∙ e

          gone : (p : List ℕ) → q ≡ front ++ p → list_any (λ p. keys.is_at (front ++ p) q) tags ≡ true → (o : Option (List ℕ × List ℕ)) → ended_at p ≡ o → None ≡ row_of rest (of_tag_end name o) (base q)
          gone p q_is e None o_is = refl
          gone p q_is e (Some (t, [])) o_is =
              let item : item_of q ≡ tag_at name t = ap item_of q_is ∙ front_item p ∙ ap (of_tag_end name) o_is in
              let points : points_to digest (past.tags name t) ≡ true = sym (told q p name t q_is (some_of p t o_is) item) ∙ here p true q_is e in
              sym (ap (λ b. cond (b && points_to digest (past.tags name t)) None (past.tags name t)) (same_itself name) ∙ ap (λ b. cond b None (past.tags name t)) points)
          gone p q_is e (Some (t, b ∷ bs)) o_is = refl

          kept : (list_any (λ p. keys.is_at (front ++ p) q) tags ≡ false) → (of t : List ℕ) → item_of q ≡ tag_at of t → (b : Bool) → is_same name of ≡ b → past.tags of t ≡ cond (b && points_to digest (past.tags of t)) None (past.tags of t)
          kept e of t item true same =
              let q_is : q ≡ front ++ ended t =
              spelled q (ap is_proper item) ∙ ap key_of item ∙ ap (λ (n : List ℕ). 4 ∷ (ended n ++ ended t)) (sym (same_is name of same)) in
              let none : points_to digest (past.tags of t) ≡ false = sym (told q (ended t) of t q_is (ended_some t) item) ∙ here (ended t) false q_is e in
              sym (ap (λ b. cond b None (past.tags of t)) none)
          kept e of t item false same = refl

          others : (list_any (λ p. keys.is_at (front ++ p) q) tags ≡ false) → (item : Item) → item_of q ≡ item → row_of past item (base q) ≡ row_of rest item (base q)
          others e last_number same = refl
          others e (entry_at n) same = refl
          others e (manifest_at of d) same = refl
          others e (tag_at of t) same = kept e of t same (is_same name of) refl ∙ refl
          others e (named_at of m d) same = refl
          others e (child_at of m d) same = refl
          others e (link_at of d) same = refl
          others e (blob_at d) same = refl
          others e none_at same = refl
          others e elsewhere same = refl

          by : (b : Bool) → list_any (λ p. keys.is_at (front ++ p) q) tags ≡ b → cond b None (row_of past (item_of q) (base q)) ≡ row_of rest (item_of q) (base q)
          by true e =
              let f = any_found front tags q e in
              gone f.0 f.1 e (ended_at f.0) refl ∙ ap (λ (i : Item). row_of rest i (base q)) (sym (ap item_of f.1 ∙ front_item f.0))
          by false e = others e (item_of q) refl

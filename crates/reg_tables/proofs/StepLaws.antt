-- What a row that is put or dropped makes of the rows of what a journal left.
use Rattle.std.proofs.Common.{◌≡◌, ℕ, Bool, true, false, cond, List, [], ◌∷◌, Option, Some, refl, ap, sym, ◌∙◌}
use Rattle.std.specs.Prelude.{◌&&◌}
use Rattle.std.proofs.lemmas.Bool.{true≢false}
use Rattle.reg_names.specs.Digests.{IsDigest}
use Rattle.reg_names.specs.Names.{IsName}
use Rattle.reg_names.specs.Named.{has_digest}
use Rattle.reg_names.specs.Tags.{IsTag}
use Rattle.reg_journal.specs.declared.past.KeptLink.{KeptLink}
use Rattle.reg_journal.specs.declared.past.Condemned.{Condemned}
use Rattle.reg_journal.specs.Changes.{is_same, is_at, with_one, with_tag, with_link}
use Rattle.reg_journal.specs.Past.{Past}
use Rattle.keeper_api.specs.Rows as keys
use Rattle.keeper_api.specs.Rows.{Rows, with_row}
use Rattle.reg_tables.specs.Derived.{row_of, with_past, manifest_row, link_row, blob_row}
use Rattle.reg_tables.specs.Items.{Item, last_number, entry_at, manifest_at, tag_at, named_at, child_at, link_at, blob_at, none_at, elsewhere, item_of}
use Rattle.reg_tables.specs.InnerItems.{key_of, is_proper}
use Rattle.reg_tables.specs.InnerSteps.{touched_manifests, with_blob}
use Rattle.reg_tables.specs.Keys.{manifest_key, tag_key, link_key, blob_key}
use Rattle.reg_tables.proofs.GatherLaws.{same_is, same_itself, differs, or_false}
use Rattle.reg_tables.proofs.ItemLaws.{spelled, spot_own, tag_key_own, digest_own}
use Rattle.reg_tables.proofs.PendingLaws.{same_key, at_itself}

-- ---- one place and the others

pub at_place : {A : Type 0} (name key : List ℕ) (new old : A) → cond (is_at name key name key) new old ≡ new
at_place name key new old = ap (λ b. cond (b && is_same key key) new old) (same_itself name) ∙ ap (λ b. cond b new old) (same_itself key)

pub other_place : {A : Type 0} (name key of other : List ℕ) (new old : A) → (name ≡ of → key ≡ other → ⊥) → cond (is_at name key of other) new old ≡ old
other_place name key of other new old apart = by (is_same name of) refl (is_same key other) refl
  where
    by : (a : Bool) → is_same name of ≡ a → (b : Bool) → is_same key other ≡ b → cond (is_same name of && is_same key other) new old ≡ old
    by true e true f = absurd (apart (same_is name of e) (same_is key other f))
    by true e false f = ap (λ t. cond (t && is_same key other) new old) e ∙ ap (λ t. cond t new old) f
    by false e b f = ap (λ t. cond (t && is_same key other) new old) e

pub at_one : {A : Type 0} (key : List ℕ) (new old : A) → cond (is_same key key) new old ≡ new
at_one key new old = ap (λ b. cond b new old) (same_itself key)

pub other_one : {A : Type 0} (key other : List ℕ) (new old : A) → (key ≡ other → ⊥) → cond (is_same key other) new old ≡ old
other_one key other new old apart = by (is_same key other) refl
  where
    by : (a : Bool) → is_same key other ≡ a → cond a new old ≡ old
    by true e = absurd (apart (same_is key other e))
    by false e = refl

-- one digest is among these where it is this one
pub one_is : (d digest : List ℕ) → has_digest d (digest ∷ []) ≡ is_same digest d
one_is d digest = or_false (is_same d digest) ∙ by (is_same digest d) refl
  where
    by : (b : Bool) → is_same digest d ≡ b → is_same d digest ≡ b
    by true e = ap (λ (x : List ℕ). is_same x digest) (sym (same_is digest d e)) ∙ same_itself digest
    by false e = differs d digest (λ same. true≢false (sym (ap (is_same digest) same ∙ same_itself digest) ∙ e))

-- ---- one row

-- the row of one item is what it is to be, and what is left of the others stayed
pub only_at : (past past′ : Past) (key : List ℕ) (item : Item) (row : Option (List ℕ)) (base : Rows) → item_of key ≡ item → is_proper item ≡ true → row_of past′ item (base key) ≡ row
    → ((other : Item) (old : Option (List ℕ)) → (other ≡ item → ⊥) → row_of past′ other old ≡ row_of past other old) → with_row (with_past past base) key row ≡ with_past past′ base
only_at past past′ key item row base own proper here others = λ i q. at q i
  where
    at : (q : List ℕ) → with_row (with_past past base) key row q ≡ with_past past′ base q
    at q = by (keys.is_at key q) refl
      where
        away : (keys.is_at key q ≡ false) → item_of q ≡ item → ⊥
        away e same =
            let q_is : q ≡ key_of item = spelled q (ap is_proper same ∙ proper) ∙ ap key_of same in
            let key_is : key ≡ key_of item = spelled key (ap is_proper own ∙ proper) ∙ ap key_of own in
            true≢false (sym (ap (keys.is_at key) (q_is ∙ sym key_is) ∙ at_itself key) ∙ e)

        by : (b : Bool) → keys.is_at key q ≡ b → cond b row (row_of past (item_of q) (base q)) ≡ row_of past′ (item_of q) (base q)
        by true e = sym (ap (λ (k : List ℕ). row_of past′ (item_of k) (base k)) (sym (same_key key q e)) ∙ ap (λ (j : Item). row_of past′ j (base key)) own ∙ here)
        by false e = sym (others (item_of q) (base q) (away e))

-- ---- by what the row is of

pub tag_step : (past : Past) (base : Rows) (name tag : List ℕ) (target : Option (List ℕ)) → IsName name → IsTag tag → with_row (with_past past base) (tag_key name tag) target ≡ with_past (with_tag name tag target past) base
tag_step past base name tag target is tag_is =
    only_at past (with_tag name tag target past) (tag_key name tag) (tag_at name tag) target base (tag_key_own name tag is tag_is) refl (at_place name tag target (past.tags name tag)) others
  where
    others : (other : Item) (old : Option (List ℕ)) → (other ≡ tag_at name tag → ⊥) → row_of (with_tag name tag target past) other old ≡ row_of past other old
    others last_number old n = refl
    others (entry_at number) old n = refl
    others (manifest_at of d) old n = refl
    others (tag_at of t) old n = other_place name tag of t target (past.tags of t) (λ a b. n (sym (ap (λ (x : List ℕ). tag_at x tag) a ∙ ap (tag_at of) b)))
    others (named_at of m d) old n = refl
    others (child_at of m d) old n = refl
    others (link_at of d) old n = refl
    others (blob_at d) old n = refl
    others none_at old n = refl
    others elsewhere old n = refl

pub link_step : (past : Past) (base : Rows) (name digest : List ℕ) (link : Option KeptLink) → IsName name → IsDigest digest → with_row (with_past past base) (link_key name digest) (link_row link) ≡ with_past (with_link name digest link past) base
link_step past base name digest link is digest_is =
    only_at past (with_link name digest link past) (link_key name digest) (link_at name digest) (link_row link) base (spot_own link_at name digest is digest_is) refl
    (ap link_row (at_place name digest link (past.links name digest))) others
  where
    others : (other : Item) (old : Option (List ℕ)) → (other ≡ link_at name digest → ⊥) → row_of (with_link name digest link past) other old ≡ row_of past other old
    others last_number old n = refl
    others (entry_at number) old n = refl
    others (manifest_at of d) old n = refl
    others (tag_at of t) old n = refl
    others (named_at of m d) old n = refl
    others (child_at of m d) old n = refl
    others (link_at of d) old n = ap link_row (other_place name digest of d link (past.links of d) (λ a b. n (sym (ap (λ (x : List ℕ). link_at x digest) a ∙ ap (link_at of) b))))
    others (blob_at d) old n = refl
    others none_at old n = refl
    others elsewhere old n = refl

-- a manifest that stands is touched; one that does not has no row
pub touch_step : (past : Past) (base : Rows) (name digest : List ℕ) (now : ℕ) → IsName name → IsDigest digest
    → with_row (with_past past base) (manifest_key name digest) (manifest_row (past.manifests name digest) (Some now)) ≡ with_past (touched_manifests name (digest ∷ []) now past) base
touch_step past base name digest now is digest_is =
    only_at past (touched_manifests name (digest ∷ []) now past) (manifest_key name digest) (manifest_at name digest) (manifest_row (past.manifests name digest) (Some now)) base (spot_own manifest_at name digest is digest_is) refl
    (ap (manifest_row (past.manifests name digest)) (place name digest ∙ at_place name digest (Some now) (past.manifest_touched name digest))) others
  where
    -- one digest is among these where it is this one
    place : (of d : List ℕ) → cond (is_same name of && has_digest d (digest ∷ [])) (Some now) (past.manifest_touched of d) ≡ cond (is_at name digest of d) (Some now) (past.manifest_touched of d)
    place of d = ap (λ b. cond (is_same name of && b) (Some now) (past.manifest_touched of d)) (one_is d digest)

    others : (other : Item) (old : Option (List ℕ)) → (other ≡ manifest_at name digest → ⊥) → row_of (touched_manifests name (digest ∷ []) now past) other old ≡ row_of past other old
    others last_number old n = refl
    others (entry_at number) old n = refl
    others (manifest_at of d) old n =
        ap (manifest_row (past.manifests of d)) (place of d ∙ other_place name digest of d (Some now) (past.manifest_touched of d) (λ a b. n (sym (ap (λ (x : List ℕ). manifest_at x digest) a ∙ ap (manifest_at of) b))))
    others (tag_at of t) old n = refl
    others (named_at of m d) old n = refl
    others (child_at of m d) old n = refl
    others (link_at of d) old n = refl
    others (blob_at d) old n = refl
    others none_at old n = refl
    others elsewhere old n = refl

-- how a blob stands
pub blob_step : (past : Past) (base : Rows) (digest : List ℕ) (condemned : Option Condemned) (size : Option (Option ℕ)) (touched : Option ℕ) → IsDigest digest
    → with_row (with_past past base) (blob_key digest) (blob_row condemned size touched) ≡ with_past (with_blob digest condemned size touched past) base
blob_step past base digest condemned size touched is =
    only_at past (with_blob digest condemned size touched past) (blob_key digest) (blob_at digest) (blob_row condemned size touched) base (digest_own blob_at digest is) refl here others
  where
    here : row_of (with_blob digest condemned size touched past) (blob_at digest) (base (blob_key digest)) ≡ blob_row condemned size touched
    here =
        ap (λ (c : Option Condemned). blob_row c (with_one past.sizes digest size digest) (with_one past.blob_touched digest touched digest)) (at_one digest condemned (past.condemned digest))
        ∙ ap (λ (s : Option (Option ℕ)). blob_row condemned s (with_one past.blob_touched digest touched digest)) (at_one digest size (past.sizes digest))
        ∙ ap (blob_row condemned size) (at_one digest touched (past.blob_touched digest))

    others : (other : Item) (old : Option (List ℕ)) → (other ≡ blob_at digest → ⊥) → row_of (with_blob digest condemned size touched past) other old ≡ row_of past other old
    others last_number old n = refl
    others (entry_at number) old n = refl
    others (manifest_at of d) old n = refl
    others (tag_at of t) old n = refl
    others (named_at of m d) old n = refl
    others (child_at of m d) old n = refl
    others (link_at of d) old n = refl
    others (blob_at d) old n =
        let away : digest ≡ d → ⊥ = λ e. n (ap blob_at (sym e)) in
        ap (λ (c : Option Condemned). blob_row c (with_one past.sizes digest size d) (with_one past.blob_touched digest touched d)) (other_one digest d condemned (past.condemned d) away)
        ∙ ap (λ (s : Option (Option ℕ)). blob_row (past.condemned d) s (with_one past.blob_touched digest touched d)) (other_one digest d size (past.sizes d) away)
        ∙ ap (blob_row (past.condemned d) (past.sizes d)) (other_one digest d touched (past.blob_touched d) away)
    others none_at old n = refl
    others elsewhere old n = refl

-- What walks tell of all that is held.
use Rattle.std.proofs.Common.{◌≡◌, ℕ, Bool, true, false, List, MatchBool, Option, Some, None, nat_eq, refl, sym, ap, subst, ◌∙◌}
use Rattle.std.specs.Prelude.{◌&&◌, is_some, IsSome}
use Rattle.std.specs.Option.{option_map, option_map_or}
use Rattle.std.specs.BTreeMap as tree
use Rattle.std.specs.Cmp.Lexicographic.{pointwise, bytes_decides}
use Rattle.std.proofs.lemmas.Bool.{true≢false, and_parts, and_from, false_from_ne_true}
use Rattle.reg_names.specs.Named.{has_digest, digests_of}
use Rattle.reg_entries.specs.Documents.{KeptManifest}
use Rattle.reg_journal.specs.declared.entry.Entry.{Entry}
use Rattle.reg_journal.specs.declared.past.KeptLink.{KeptLink}
use Rattle.reg_journal.specs.Legal.{IsUntagged, IsUnlisted, IsUnnamed, IsUnlinked}
use Rattle.reg_plain.specs.declared.state.State.{State}
use Rattle.reg_plain.specs.declared.state.Standing.{Standing}
use Rattle.reg_plain.specs.Held.{spot_cmp, held, standing_at, link_at, tag_at}

same : (x y : List ℕ) → pointwise nat_eq x y ≡ true → x ≡ y
same x y h = (bytes_decides x y).0 h

itself : (x : List ℕ) → pointwise nat_eq x x ≡ true
itself x = (bytes_decides x x).1 refl

abbrev Found : {X : Type 0} → (List ℕ × List ℕ → Option X) → ((List ℕ × List ℕ) × X → Bool) → Bool → Type 0
Found {X} at test b = MatchBool b ((key : List ℕ × List ℕ) × (x : X) × (at key ≡ Some x) × (test (key, x) ≡ true)) ((key : List ℕ × List ℕ) (x : X) → at key ≡ Some x → ¬ (test (key, x) ≡ true))

module _ (state : State) (entries : List Entry) where
  pub tagged_by : (name digest : List ℕ) (b : Bool) → Found (tree.get spot_cmp state.tags) (λ e. pointwise nat_eq e.0.0 name && pointwise nat_eq e.1 digest) b
      → MatchBool b (¬ (IsUntagged (held entries state) name digest)) (IsUntagged (held entries state) name digest)
  tagged_by name digest true h = λ un.
      let p = and_parts _ _ h.3 in
      un h.0.1 (subst (λ (n : List ℕ). tag_at state n h.0.1 ≡ Some digest) (same h.0.0 name p.0) (h.2 ∙ ap Some (same h.1 digest p.1)))
  tagged_by name digest false h = λ tag t. h (name, tag) digest t (and_from _ _ (itself name) (itself digest))

  pub listed_by : (name digest : List ℕ) (b : Bool) → Found (tree.get spot_cmp state.manifests) (λ e. pointwise nat_eq e.0.0 name && has_digest digest e.1.doc.children) b
      → MatchBool b (¬ (IsUnlisted (held entries state) name digest)) (IsUnlisted (held entries state) name digest)
  listed_by name digest true h = λ un.
      let p = and_parts _ _ h.3 in
      let at : standing_at state name h.0.1 ≡ Some h.1 = subst (λ (n : List ℕ). standing_at state n h.0.1 ≡ Some h.1) (same h.0.0 name p.0) h.2 in
      true≢false (sym (ap (λ (o : Option Standing). option_map_or (λ (m : KeptManifest). has_digest digest m.children) (option_map (λ (s : Standing). s.doc) o) false) at ∙ p.1) ∙ un h.0.1)
  listed_by name digest false h = λ parent. by parent (standing_at state name parent) refl
    where
      by : (parent : List ℕ) (o : Option Standing) → standing_at state name parent ≡ o → option_map_or (λ (m : KeptManifest). has_digest digest m.children) (option_map (λ (s : Standing). s.doc) o) false ≡ false
      by parent None e = refl
      by parent (Some s) e = false_from_ne_true _ (λ t. h (name, parent) s e (and_from _ _ (itself name) t))

  pub named_by : (digest : List ℕ) (b : Bool) → Found (tree.get spot_cmp state.manifests) (λ e. has_digest digest (digests_of e.1.doc.named)) b
      → MatchBool b (¬ (IsUnnamed (held entries state) digest)) (IsUnnamed (held entries state) digest)
  named_by digest true h = λ un.
      true≢false (sym (ap (λ (o : Option Standing). option_map_or (λ (m : KeptManifest). has_digest digest (digests_of m.named)) (option_map (λ (s : Standing). s.doc) o) false) h.2 ∙ h.3) ∙ un h.0.0 h.0.1)
  named_by digest false h = λ name of. by name of (standing_at state name of) refl
    where
      by : (name of : List ℕ) (o : Option Standing) → standing_at state name of ≡ o → option_map_or (λ (m : KeptManifest). has_digest digest (digests_of m.named)) (option_map (λ (s : Standing). s.doc) o) false ≡ false
      by name of None e = refl
      by name of (Some s) e = false_from_ne_true _ (λ t. h (name, of) s e t)

  pub linked_by : (digest : List ℕ) (b : Bool) → Found (tree.get spot_cmp state.links) (λ e. pointwise nat_eq e.0.1 digest) b
      → MatchBool b (¬ (IsUnlinked (held entries state) digest)) (IsUnlinked (held entries state) digest)
  linked_by digest true h = λ un.
      let at : link_at state h.0.0 digest ≡ Some h.1 = subst (λ (d : List ℕ). link_at state h.0.0 d ≡ Some h.1) (same h.0.1 digest h.3) h.2 in
      true≢false (ap is_some (sym at ∙ un h.0.0))
  linked_by digest false h = λ name. by name (link_at state name digest) refl
    where
      by : (name : List ℕ) (o : Option KeptLink) → link_at state name digest ≡ o → o ≡ None
      by name None e = refl
      by name (Some l) e = absurd (h (name, digest) l e (itself digest))

-- ---- repositories that are known

pub has_in : {X : Type 0} (find : List ℕ × List ℕ → Option X) (name : List ℕ) (b : Bool) → Found find (λ e. pointwise nat_eq e.0.0 name) b
    → MatchBool b ((digest : List ℕ) × IsSome (find (name, digest))) (¬ ((digest : List ℕ) × IsSome (find (name, digest))))
has_in {X} find name true h = (h.0.1, subst (λ (n : List ℕ). IsSome (find (n, h.0.1))) (same h.0.0 name h.3) (ap is_some h.2))
has_in {X} find name false h = λ w. by w.0 (find (name, w.0)) refl w.1
  where
    by : (digest : List ℕ) (o : Option X) → find (name, digest) ≡ o → IsSome o → ⊥
    by digest (Some x) e s = h (name, digest) x e (itself name)
    by digest None e s = true≢false (sym s)

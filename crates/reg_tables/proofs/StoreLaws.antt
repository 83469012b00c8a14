-- A manifest that is stored, row by row.
use Rattle.std.proofs.Common.{◌≡◌, ℕ, Bool, true, false, cond, List, [], ◌∷◌, ◌++◌, length, Option, Some, None, refl, ap, sym, ◌∙◌, arith}
use Rattle.std.specs.Prelude.{◌&&◌, ◌||◌, option_map}
use Rattle.reg_names.specs.declared.kind.Kind.{Kind}
use Rattle.reg_names.specs.declared.named.Named.{Named}
use Rattle.reg_names.specs.Digests.{IsDigest}
use Rattle.reg_names.specs.Named.{has_digest, free_in}
use Rattle.reg_names.specs.Names.{IsName}
use Rattle.reg_entries.specs.Documents.{KeptManifest, kept_of}
use Rattle.reg_journal.specs.Changes.{is_same, is_at, with_manifest}
use Rattle.reg_journal.specs.Past.{Past}
use Rattle.reg_journal.specs.Spelling.{number_field, kind_field, free_field}
use Rattle.keeper_api.specs.Rows.{Rows, with_row}
use Rattle.reg_tables.specs.Derived.{row_of, with_past, manifest_row, named_row, child_row}
use Rattle.reg_tables.specs.InnerSteps.{touched_manifests, with_lists}
use Rattle.reg_tables.specs.Items.{Item, last_number, entry_at, manifest_at, tag_at, named_at, child_at, link_at, blob_at, none_at, elsewhere}
use Rattle.reg_tables.specs.Keys.{manifest_key, named_key, child_key}
use Rattle.reg_tables.proofs.GatherLaws.{same_is, same_itself}
use Rattle.reg_tables.proofs.ItemLaws.{spot_own, pair_own}
use Rattle.reg_tables.proofs.StepLaws.{only_at, at_place, other_place, one_is}

-- nothing is left of a list in front of what was done
pub all_done : {A : Type 0} (all rest done : List A) → length rest ≡ 0 → all ≡ rest ++ done → all ≡ done
all_done all [] done none is = is
all_done all (x ∷ xs) done none is = absurd (omega (arith, none))

module _ (past : Past) (base : Rows) (name digest : List ℕ) (kind : Kind) (size : ℕ) (is : IsName name) (digest_is : IsDigest digest) where
  abbrev standing : List Named → List (List ℕ) → Past
  standing named children = with_lists name digest kind size named children past

  -- ---- the manifest itself

  abbrev absent : Past
  absent = with_manifest name digest None past

  pub put_step : (now : ℕ) → with_row (with_past absent base) (manifest_key name digest) (Some (kind_field kind ++ (number_field size ++ number_field now))) ≡ with_past (touched_manifests name (digest ∷ []) now (standing [] [])) base
  put_step now =
      only_at absent (touched_manifests name (digest ∷ []) now (standing [] [])) (manifest_key name digest) (manifest_at name digest) (Some (kind_field kind ++ (number_field size ++ number_field now))) base
      (spot_own manifest_at name digest is digest_is) refl here others
    where
      touched : (of d : List ℕ) → cond (is_same name of && has_digest d (digest ∷ [])) (Some now) (past.manifest_touched of d) ≡ cond (is_at name digest of d) (Some now) (past.manifest_touched of d)
      touched of d = ap (λ b. cond (is_same name of && b) (Some now) (past.manifest_touched of d)) (one_is d digest)

      here : row_of (touched_manifests name (digest ∷ []) now (standing [] [])) (manifest_at name digest) (base (manifest_key name digest)) ≡ Some (kind_field kind ++ (number_field size ++ number_field now))
      here =
          ap (λ (m : Option KeptManifest). manifest_row m (cond (is_same name name && has_digest digest (digest ∷ [])) (Some now) (past.manifest_touched name digest))) (at_place name digest (Some (kept_of kind size [] [])) (past.manifests name digest))
          ∙ ap (manifest_row (Some (kept_of kind size [] []))) (touched name digest ∙ at_place name digest (Some now) (past.manifest_touched name digest))

      no_named : (d : List ℕ) (b : Bool) (m : Option KeptManifest) → named_row d (cond b (Some (kept_of kind size [] [])) m) ≡ named_row d (cond b None m)
      no_named d true m = refl
      no_named d false m = refl

      no_child : (d : List ℕ) (b : Bool) (m : Option KeptManifest) → child_row d (cond b (Some (kept_of kind size [] [])) m) ≡ child_row d (cond b None m)
      no_child d true m = refl
      no_child d false m = refl

      others : (other : Item) (old : Option (List ℕ)) → (other ≡ manifest_at name digest → ⊥) → row_of (touched_manifests name (digest ∷ []) now (standing [] [])) other old ≡ row_of absent other old
      others last_number old n = refl
      others (entry_at number) old n = refl
      others (manifest_at of d) old n =
          let away : name ≡ of → digest ≡ d → ⊥ = λ a b. n (sym (ap (λ (x : List ℕ). manifest_at x digest) a ∙ ap (manifest_at of) b)) in
          ap (λ (m : Option KeptManifest). manifest_row m (cond (is_same name of && has_digest d (digest ∷ [])) (Some now) (past.manifest_touched of d))) (other_place name digest of d (Some (kept_of kind size [] [])) (past.manifests of d) away)
          ∙ ap (manifest_row (past.manifests of d)) (touched of d ∙ other_place name digest of d (Some now) (past.manifest_touched of d) away)
          ∙ sym (ap (λ (m : Option KeptManifest). manifest_row m (past.manifest_touched of d)) (other_place name digest of d None (past.manifests of d) away))
      others (tag_at of t) old n = refl
      others (named_at of m d) old n = no_named d (is_at name digest of m) (past.manifests of m)
      others (child_at of m d) old n = no_child d (is_at name digest of m) (past.manifests of m)
      others (link_at of d) old n = refl
      others (blob_at d) old n = refl
      others none_at old n = refl
      others elsewhere old n = refl

  -- ---- what it names

  pub named_step : (n : Named) (ns : List Named) (children : List (List ℕ)) → IsDigest n.digest → with_row (with_past (standing ns children) base) (named_key name digest n.digest) (Some (free_field n.free)) ≡ with_past (standing (n ∷ ns) children) base
  named_step n ns children n_is =
      only_at (standing ns children) (standing (n ∷ ns) children) (named_key name digest n.digest) (named_at name digest n.digest) (Some (free_field n.free)) base
      (pair_own named_at name digest n.digest is digest_is n_is) refl here others
    where
      here : row_of (standing (n ∷ ns) children) (named_at name digest n.digest) (base (named_key name digest n.digest)) ≡ Some (free_field n.free)
      here =
          ap (named_row n.digest) (at_place name digest (Some (kept_of kind size (n ∷ ns) children)) (past.manifests name digest))
          ∙ ap (λ b. option_map free_field (cond b (Some n.free) (free_in n.digest ns))) (same_itself n.digest)

      same_manifest : (b : Bool) (m : Option KeptManifest) (t : Option ℕ) → manifest_row (cond b (Some (kept_of kind size (n ∷ ns) children)) m) t ≡ manifest_row (cond b (Some (kept_of kind size ns children)) m) t
      same_manifest true m t = refl
      same_manifest false m t = refl

      same_child : (d : List ℕ) (b : Bool) (m : Option KeptManifest) → child_row d (cond b (Some (kept_of kind size (n ∷ ns) children)) m) ≡ child_row d (cond b (Some (kept_of kind size ns children)) m)
      same_child d true m = refl
      same_child d false m = refl

      -- another digest
      same_named : (of m d : List ℕ) → (named_at of m d ≡ named_at name digest n.digest → ⊥) → (a : Bool) → is_same name of ≡ a → (b : Bool) → is_same digest m ≡ b → (c : Bool) → is_same d n.digest ≡ c → (old : Option KeptManifest)
          → named_row d (cond (a && b) (Some (kept_of kind size (n ∷ ns) children)) old) ≡ named_row d (cond (a && b) (Some (kept_of kind size ns children)) old)
      same_named of m d away true f true g true h old =
          absurd (away (ap (λ (x : List ℕ). named_at x m d) (sym (same_is name of f)) ∙ ap (λ (x : List ℕ). named_at name x d) (sym (same_is digest m g)) ∙ ap (named_at name digest) (same_is d n.digest h)))
      same_named of m d away true f true g false h old = ap (λ b. option_map free_field (cond b (Some n.free) (free_in d ns))) h
      same_named of m d away true f false g c h old = refl
      same_named of m d away false f b g c h old = refl

      others : (other : Item) (old : Option (List ℕ)) → (other ≡ named_at name digest n.digest → ⊥) → row_of (standing (n ∷ ns) children) other old ≡ row_of (standing ns children) other old
      others last_number old away = refl
      others (entry_at number) old away = refl
      others (manifest_at of d) old away = same_manifest (is_at name digest of d) (past.manifests of d) (past.manifest_touched of d)
      others (tag_at of t) old away = refl
      others (named_at of m d) old away = same_named of m d away (is_same name of) refl (is_same digest m) refl (is_same d n.digest) refl (past.manifests of m)
      others (child_at of m d) old away = same_child d (is_at name digest of m) (past.manifests of m)
      others (link_at of d) old away = refl
      others (blob_at d) old away = refl
      others none_at old away = refl
      others elsewhere old away = refl

  -- ---- what it lists

  pub child_step : (named : List Named) (c : List ℕ) (cs : List (List ℕ)) → IsDigest c → with_row (with_past (standing named cs) base) (child_key name digest c) (Some []) ≡ with_past (standing named (c ∷ cs)) base
  child_step named c cs c_is =
      only_at (standing named cs) (standing named (c ∷ cs)) (child_key name digest c) (child_at name digest c) (Some []) base
      (pair_own child_at name digest c is digest_is c_is) refl here others
    where
      here : row_of (standing named (c ∷ cs)) (child_at name digest c) (base (child_key name digest c)) ≡ Some []
      here =
          ap (child_row c) (at_place name digest (Some (kept_of kind size named (c ∷ cs))) (past.manifests name digest))
          ∙ ap (λ (b : Bool). cond (b || has_digest c cs) (Some []) None) (same_itself c)

      same_manifest : (b : Bool) (m : Option KeptManifest) (t : Option ℕ) → manifest_row (cond b (Some (kept_of kind size named (c ∷ cs))) m) t ≡ manifest_row (cond b (Some (kept_of kind size named cs)) m) t
      same_manifest true m t = refl
      same_manifest false m t = refl

      same_named : (d : List ℕ) (b : Bool) (m : Option KeptManifest) → named_row d (cond b (Some (kept_of kind size named (c ∷ cs))) m) ≡ named_row d (cond b (Some (kept_of kind size named cs)) m)
      same_named d true m = refl
      same_named d false m = refl

      same_child : (of m d : List ℕ) → (child_at of m d ≡ child_at name digest c → ⊥) → (a : Bool) → is_same name of ≡ a → (b : Bool) → is_same digest m ≡ b → (t : Bool) → is_same d c ≡ t → (old : Option KeptManifest)
          → child_row d (cond (a && b) (Some (kept_of kind size named (c ∷ cs))) old) ≡ child_row d (cond (a && b) (Some (kept_of kind size named cs)) old)
      same_child of m d away true f true g true h old =
          absurd (away (ap (λ (x : List ℕ). child_at x m d) (sym (same_is name of f)) ∙ ap (λ (x : List ℕ). child_at name x d) (sym (same_is digest m g)) ∙ ap (child_at name digest) (same_is d c h)))
      same_child of m d away true f true g false h old = ap (λ (b : Bool). cond (b || has_digest d cs) (Some []) None) h
      same_child of m d away true f false g t h old = refl
      same_child of m d away false f b g t h old = refl

      others : (other : Item) (old : Option (List ℕ)) → (other ≡ child_at name digest c → ⊥) → row_of (standing named (c ∷ cs)) other old ≡ row_of (standing named cs) other old
      others last_number old away = refl
      others (entry_at number) old away = refl
      others (manifest_at of d) old away = same_manifest (is_at name digest of d) (past.manifests of d) (past.manifest_touched of d)
      others (tag_at of t) old away = refl
      others (named_at of m d) old away = same_named d (is_at name digest of m) (past.manifests of m)
      others (child_at of m d) old away = same_child of m d away (is_same name of) refl (is_same digest m) refl (is_same d c) refl (past.manifests of m)
      others (link_at of d) old away = refl
      others (blob_at d) old away = refl
      others none_at old away = refl
      others elsewhere old away = refl

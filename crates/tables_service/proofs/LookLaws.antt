-- What single rows tell of the state.
use Rattle.std.proofs.Common.{◌≡◌, ℕ, Bool, true, List, Option, Some, None, Result, Ok, Err, refl, sym, ap, ◌∙◌, true≢false}
use Rattle.std.specs.Prelude.{IsTrue, IsSome, IfOk, is_some, option_map}
use Rattle.reg_names.specs.Digests.{IsDigest}
use Rattle.reg_names.specs.Names.{IsName}
use Rattle.reg_names.specs.Tags.{IsTag}
use Rattle.reg_entries.specs.State.{State}
use Rattle.reg_entries.specs.Listing.{IsNextTag}
use Rattle.reg_entries.specs.declared.trouble.Trouble.{Trouble}
use Rattle.reg_journal.specs.Changes.{replay}
use Rattle.reg_journal.specs.Keeping.{IsKeptBy}
use Rattle.reg_journal.specs.Past.{shown}
use Rattle.reg_journal.specs.declared.entry.Entry.{Entry}
use Rattle.reg_journal.proofs.NameLaws.{kept_by_names}
use Rattle.keeper_api.specs.Rows.{Kept, Finds}
use Rattle.reg_tables.specs.Items.{manifest_at, tag_at, link_at}
use Rattle.reg_tables.specs.Finds.{IsFoundAt}
use Rattle.reg_tables.specs.Keys.{manifest_key, tag_key, link_key}
use Rattle.reg_tables.specs.Nexts.{IsNextAt}
use Rattle.reg_tables.proofs.DerivedLaws.{told}
use Rattle.reg_tables.proofs.ItemLaws.{spot_own, tag_key_own}
use Rattle.tables_service.specs.Telling.{TellsJournal}

-- ---- options

some_mapped : {A B : Type 0} (f : A → B) (o : Option A) → is_some (option_map f o) ≡ is_some o
some_mapped f None = refl
some_mapped f (Some x) = refl

mapped_itself : {A : Type 0} (o : Option A) → option_map (λ (x : A). x) o ≡ o
mapped_itself None = refl
mapped_itself (Some x) = refl

-- what is told to be nothing wherever something may be is nothing
nothing_there : {A : Type 0} (o : Option A) → (IsSome o → o ≡ None) → o ≡ None
nothing_there None h = refl
nothing_there (Some x) h = h refl

module _ (journal : List Entry) (kept : Kept) (t : TellsJournal journal kept) where
  abbrev state : State
  state = shown (replay journal)

  -- ---- rows

  pub tag_told : (name tag : List ℕ) → IsName name → IsTag tag → kept.rows (tag_key name tag) ≡ state.tags name tag
  tag_told name tag is tag_is = told journal kept.rows (tag_key name tag) (tag_at name tag) t.derived (tag_key_own name tag is tag_is)

  pub manifest_told : (name digest : List ℕ) → IsName name → IsDigest digest → is_some (kept.rows (manifest_key name digest)) ≡ is_some (state.manifests name digest)
  manifest_told name digest is digest_is =
      ap is_some (told journal kept.rows (manifest_key name digest) (manifest_at name digest) t.derived (spot_own manifest_at name digest is digest_is))
      ∙ some_mapped _ ((replay journal).manifests name digest)

  pub link_told : (name digest : List ℕ) → IsName name → IsDigest digest → is_some (kept.rows (link_key name digest)) ≡ is_some (state.links name digest)
  link_told name digest is digest_is =
      ap is_some (told journal kept.rows (link_key name digest) (link_at name digest) t.derived (spot_own link_at name digest is digest_is))
      ∙ some_mapped _ ((replay journal).links name digest)
      ∙ sym (some_mapped _ ((replay journal).links name digest))

  -- ---- look-ups

  pub target_found : (name tag : List ℕ) → IsName name → IsTag tag → (result : Result (Option (List ℕ)) Trouble) → Finds kept result (IsFoundAt (tag_key name tag) (λ (d : List ℕ). d)) → IfOk result (λ target. target ≡ state.tags name tag)
  target_found name tag is tag_is (Ok found) finds = sym (mapped_itself found) ∙ finds t.tells ∙ tag_told name tag is tag_is
  target_found name tag is tag_is (Err e) finds = tt

  pub has_found : {A : Type 0} (spelled : A → List ℕ) (key : List ℕ) (found : Option A) (has : Bool) → (IsTrue kept.tells → IsFoundAt key spelled kept.rows found) → is_some (kept.rows key) ≡ has → is_some found ≡ has
  has_found spelled key found has finds tells = sym (some_mapped spelled found) ∙ ap is_some (finds t.tells) ∙ tells

  -- ---- the next tag

  pub next_found : (name tag row : List ℕ) (after : Option (List ℕ)) → IsName name → IsTag tag → IsNextAt {A = List ℕ × List ℕ} IsTag (λ u. tag_key name u) (λ x. x.0) (λ x. x.1) after kept.rows (Some (tag, row)) → IsNextTag state name after (Some tag)
  next_found name tag row after is tag_is next = (
    next.0,
    ap is_some (sym (tag_told name tag is tag_is) ∙ next.1),
    λ u behind lesser. nothing_there (state.tags name u) (λ some.
        let both = (kept_by_names journal t.entries).tags name u some in
        sym (tag_told name u is both.1) ∙ next.2 u both.1 behind lesser),
  )

  pub next_none : (name : List ℕ) (after : Option (List ℕ)) → IsName name → IsNextAt {A = List ℕ × List ℕ} IsTag (λ u. tag_key name u) (λ x. x.0) (λ x. x.1) after kept.rows None → IsNextTag state name after None
  next_none name after is next u behind = nothing_there (state.tags name u) (λ some.
      let both = (kept_by_names journal t.entries).tags name u some in
      sym (tag_told name u is both.1) ∙ next u both.1 behind)

  -- ---- whether there is any

  none_of : {A : Type 0} (name : List ℕ) (key : List ℕ → List ℕ) (keeps : List ℕ → List ℕ → Option A) → IsKeptBy IsDigest keeps → ((digest : List ℕ) → IsDigest digest → is_some (kept.rows (key digest)) ≡ is_some (keeps name digest))
      → ((digest : List ℕ) → IsDigest digest → true ≡ true → kept.rows (key digest) ≡ None) → ¬ ((digest : List ℕ) × IsSome (keeps name digest))
  none_of name key keeps by_names tells none h =
      let both = by_names name h.0 h.1 in
      true≢false (sym h.1 ∙ sym (tells h.0 both.1) ∙ ap is_some (none h.0 both.1 refl))

  pub no_links : (name : List ℕ) → IsName name → ((digest : List ℕ) → IsDigest digest → true ≡ true → kept.rows (link_key name digest) ≡ None) → ¬ ((digest : List ℕ) × IsSome (state.links name digest))
  no_links name is none =
      none_of name (λ d. link_key name d) state.links
      (λ of key some. (kept_by_names journal t.entries).links of key (sym (some_mapped _ ((replay journal).links of key)) ∙ some))
      (λ d digest_is. link_told name d is digest_is) none

  pub no_manifests : (name : List ℕ) → IsName name → ((digest : List ℕ) → IsDigest digest → true ≡ true → kept.rows (manifest_key name digest) ≡ None) → ¬ ((digest : List ℕ) × IsSome (state.manifests name digest))
  no_manifests name is none =
      none_of name (λ d. manifest_key name d) state.manifests (kept_by_names journal t.entries).manifests (λ d digest_is. manifest_told name d is digest_is) none

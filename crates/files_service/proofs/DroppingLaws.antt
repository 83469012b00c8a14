-- What a removal comes to, by what was looked up.
use Rattle.std.proofs.Common.{◌≡◌, ℕ, zero, suc, ◌+◌, ◌<◌, true, false, List, [], ◌∷◌, ◌++◌, length, take, get_or, Option, Some, None, refl, sym, ap, subst, ◌∙◌, add-one, arith}
use Rattle.std.specs.Prelude.{is_some}
use Rattle.reg_names.specs.Digests.{digest_text}
use Rattle.reg_names.specs.declared.reference.Reference.{Reference}
use Rattle.manifest_doc.specs.declared.document.Doc.{Doc}
use Rattle.depot_api.specs.Files.{Files}
use Rattle.link_paths.specs.Places.{revision_path, tag_path}
use Rattle.link_reading.specs.Meaning.{Means}
use Rattle.link_reading.specs.Answers.{FindsManifest}
use Rattle.reg_entries.specs.Listing.{AreTagsTo}
use Rattle.reg_entries.specs.Numbers.{blob_unknown, manifest_unknown, manifest_listed}
use Rattle.reg_entries.specs.State.{State, IsLeastParent}
use Rattle.reg_entries.specs.declared.reply.Reply.{Reply}
use Rattle.reg_entries.specs.declared.reply.Reply.TheVariants as replies
use Rattle.reg_journal.specs.declared.entry.What.TheVariants.{DropTag, Unlink}
use Rattle.reg_model.specs.Facts.{Facts}
use Rattle.reg_model.specs.Changing.{Outcome, enters, makes, refuses, refusal_with, Lacks, Unlinks, Untags, DropsStanding, DropsManifest, Drops, dropped, drop_outcome}
use Rattle.files_service.specs.Changing.{files_of_all}
use Rattle.files_service.specs.declared.change.FileChange.{FileChange}
use Rattle.files_service.specs.declared.change.FileChange.TheVariants as file

-- ---- links and tags

module _ (name digest : List ℕ) (told : Type 0) (facts : Facts) (found : Option ℕ) (so : told → found ≡ facts.state.links name digest) where
  pub links_none : is_some found ≡ false → (outcome : Outcome) → Lacks told facts.state name blob_unknown outcome → Unlinks name digest told facts outcome
  links_none none outcome lacks =
      record { linked = false; linked_so = λ t. sym none ∙ ap is_some (so t); is = lacks }

  pub unlinks : is_some found ≡ true → Unlinks name digest told facts (makes replies.Dropped (enters (Unlink name digest) ∷ []))
  unlinks some = record { linked = true; linked_so = λ t. sym some ∙ ap is_some (so t); is = refl }

module _ (name tag : List ℕ) (told : Type 0) (facts : Facts) (found : Option (List ℕ)) (so : told → found ≡ facts.state.tags name tag) where
  pub tags_none : is_some found ≡ false → (outcome : Outcome) → Lacks told facts.state name manifest_unknown outcome → Untags name tag told facts outcome
  tags_none none outcome lacks =
      record { stands = false; stands_so = λ t. sym none ∙ ap is_some (so t); is = lacks }

  pub untags : is_some found ≡ true → Untags name tag told facts (makes replies.Dropped (enters (DropTag name tag) ∷ []))
  untags some = record { stands = true; stands_so = λ t. sym some ∙ ap is_some (so t); is = refl }

-- ---- manifests

there : (files : Files) (name digest : List ℕ) (found : Option (Doc × List ℕ)) → FindsManifest files name digest found → is_some found ≡ is_some ((Means files).manifests name digest)
there files name digest (Some m) h = sym (ap is_some h.meant)
there files name digest None h = sym (ap is_some h)

module _ (name digest : List ℕ) (told : Type 0) (facts : Facts) (files : Files) (is : facts.state ≡ Means files) (found : Option (Doc × List ℕ)) (so : told → FindsManifest files name digest found) where
  stands_so : told → is_some found ≡ is_some (facts.state.manifests name digest)
  stands_so t = there files name digest found (so t) ∙ ap (λ (s : State). is_some (s.manifests name digest)) (sym is)

  pub manifest_none : is_some found ≡ false → (outcome : Outcome) → Lacks told facts.state name manifest_unknown outcome → DropsManifest name digest told facts outcome
  manifest_none none outcome lacks = record { stands = false; stands_so = λ t. sym none ∙ stands_so t; is = lacks }

  pub drops_standing : is_some found ≡ true → (outcome : Outcome) → DropsStanding told facts.state name digest outcome → DropsManifest name digest told facts outcome
  drops_standing some outcome drops = record { stands = true; stands_so = λ t. sym some ∙ stands_so t; is = drops }

pub drops_nothing : (name : List ℕ) (at : Option Reference) (told : Type 0) (facts : Facts) (outcome : Outcome) → at ≡ None → Lacks told facts.state name manifest_unknown outcome → Drops name at told facts outcome
drops_nothing name at told facts outcome none lacks =
    subst (λ (a : Option Reference). Drops name a told facts outcome) (sym none) lacks

pub is_listed : (name digest : List ℕ) (told : Type 0) (state : State) (lister : List ℕ) (reply : Reply) → (told → IsLeastParent state name digest (Some lister)) → reply ≡ refusal_with manifest_listed (digest_text lister) → DropsStanding told state name digest (refuses reply)
is_listed name digest told state lister reply so same = record {
  lister = Some lister;
  tags = [];
  lister_so = so;
  tags_so = λ t e. absurd (cc e);
  is = ap refuses same;
}

pub drops_with_tags : (name digest : List ℕ) (told : Type 0) (state : State) (tags : List (List ℕ)) → (told → IsLeastParent state name digest None) → (told → AreTagsTo state name digest tags) → DropsStanding told state name digest (drop_outcome name digest None tags)
drops_with_tags name digest told state tags so tags_so = record {
  lister = None;
  tags = tags;
  lister_so = so;
  tags_so = λ t e. tags_so t;
  is = refl;
}

-- ---- the files of tags

-- the links of tags, to be removed
abbrev pub removals : List ℕ → List (List ℕ) → List FileChange
removals name [] = []
removals name (tag ∷ tags) = file.Remove (tag_path name tag) ∷ removals name tags

more : (name : List ℕ) (tags : List (List ℕ)) (k : ℕ) (d : List ℕ) → k < length tags → removals name (take (suc k) tags) ≡ removals name (take k tags) ++ file.Remove (tag_path name (get_or tags k d)) ∷ []
more name [] k d within = absurd (omega (arith, within))
more name (t ∷ ts) zero d within = refl
more name (t ∷ ts) (suc k) d within = ap (λ fs. file.Remove (tag_path name t) ∷ fs) (more name ts k d (omega (arith, within)))

pub one_more_removal : (name : List ℕ) (tags : List (List ℕ)) (k : ℕ) (tag : List ℕ) (files next : List FileChange) → k < length tags → tag ≡ get_or tags k tag → files ≡ removals name (take k tags) → next ≡ files ++ file.Remove (tag_path name tag) ∷ [] → next ≡ removals name (take (k + 1) tags)
one_more_removal name tags k tag files next within is so_far pushed =
    pushed ∙ ap (λ fs. fs ++ file.Remove (tag_path name tag) ∷ []) so_far
    ∙ ap (λ t. removals name (take k tags) ++ file.Remove (tag_path name t) ∷ []) is
    ∙ sym (more name tags k tag within) ∙ ap (λ n. removals name (take n tags)) (sym (add-one k))

pub all_removals : (name digest : List ℕ) (tags : List (List ℕ)) → removals name tags ++ file.Remove (revision_path name digest) ∷ [] ≡ files_of_all (dropped name digest tags)
all_removals name digest [] = refl
all_removals name digest (t ∷ ts) = ap (λ fs. file.Remove (tag_path name t) ∷ fs) (all_removals name digest ts)

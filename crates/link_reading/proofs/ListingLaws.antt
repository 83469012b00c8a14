-- What a walk through the links of a repository's tags tells of them.
use Rattle.std.proofs.Common.{◌≡◌, ℕ, true, List, [], ◌∷◌, ◌++◌, codes, Option, Some, None, refl, sym, ap, ◌∙◌, true≢false}
use Rattle.std.specs.Prelude.{◌&&◌, IsTrue, IsSome, is_some}
use Rattle.std.proofs.lemmas.Bool.{and_parts}
use Rattle.reg_names.specs.Names.{IsName}
use Rattle.reg_names.specs.Tags.{IsTag}
use Rattle.reg_names.specs.Digests.{IsDigest}
use Rattle.depot_api.specs.Files.{Files}
use Rattle.depot_api.specs.Paths.{is_below}
use Rattle.depot_api.specs.Pages.{is_after}
use Rattle.link_paths.specs.Places.{tag_path, tag_index_path}
use Rattle.link_paths.specs.Folders.{tags_folder, digest_link}
use Rattle.link_paths.proofs.FolderPlaces.{tag_begins, tag_index_begins}
use Rattle.link_paths.proofs.PathOrder.{in_order, tags_in_order}
use Rattle.reg_entries.specs.Listing.{is_lesser, is_behind, IsNextTag, AreNextTags, last_of}
use Rattle.reg_entries.proofs.ListingLaws.{behind_all, last_pushed, next_pushed}
use Rattle.link_reading.specs.Meaning.{Means}
use Rattle.link_reading.specs.InnerWalks.{IsFirst}
use Rattle.link_reading.specs.InnerLinks.{tag_quest}
use Rattle.link_reading.specs.InnerListing.{LiesBefore}
use Rattle.link_reading.proofs.LinkLaws.{listed_by, tag_path_begins}

-- ---- links of tags in order

-- the links of a greater tag lie above those of a tag
pub above_links : (name tag digest greater : List ℕ) → IsName name → IsTag tag → IsDigest digest → IsTag greater → is_lesser tag greater ≡ true → is_below (tag_index_path name tag digest) (tag_path name greater) ≡ true
above_links name tag digest greater n t d g h =
    rw (tag_index_begins name tag digest n t d, tag_begins name greater n g)
    (in_order (tags_folder name) tag greater (codes "index" ∷ digest_link digest) (codes "current" ∷ codes "link" ∷ []) h)

means_nothing : (x : Option (List ℕ)) → ¬ IsSome x → x ≡ None
means_nothing None h = refl
means_nothing (Some v) h = absurd (h refl)

-- ---- a walk

-- the walk stands behind `after`, has found these tags, which follow each other from `last` on, and the next are above
pub record HasListed (files : Files) (name : List ℕ) (last : Option (List ℕ)) (after : Option (List (List ℕ))) (found : List (List ℕ)) : Type 0 where
  pub chain : AreNextTags (Means files) name last found
  pub before : LiesBefore name (last_of last found) after
  pub ahead : (t : List ℕ) → IsTag t → is_behind last t ≡ true → is_after after (tag_path name t) ≡ true → is_behind (last_of last found) t ≡ true

pub lists_first : (files : Files) (name : List ℕ) (last : Option (List ℕ)) (after : Option (List (List ℕ))) → LiesBefore name last after → HasListed files name last after []
lists_first files name last after before = record { chain = tt; before = before; ahead = λ t k lies later. lies }

module _ (files : Files) (name : List ℕ) (last : Option (List ℕ)) (after : Option (List (List ℕ))) (found : List (List ℕ)) (s : HasListed files name last after found) where
  abbrev bound : Option (List ℕ)
  bound = last_of last found

  -- what is behind the last that was found, and means something, is wanted
  wanted : (t : List ℕ) → is_behind bound t ≡ true → IsSome ((Means files).tags name t) → is_behind last t && is_some ((Means files).tags name t) ≡ true
  wanted t lies some = ap (λ b. b && is_some ((Means files).tags name t)) (behind_all (Means files) name last found t s.chain lies) ∙ some

  -- the walk has come to its end
  pub lists_all : IsFirst (tag_quest name last) files (tags_folder name) after None → IsNextTag (Means files) name bound None
  lists_all none t lies = means_nothing _ (λ some.
      let is = wanted t lies some in
      let at = listed_by files name last t is in
      true≢false (sym is ∙ none t (s.before t at.1.0 lies, tag_path_begins name t at.0 at.1.0) tt at.1.1))

  module _ (u : List ℕ) (first : IsFirst (tag_quest name last) files (tags_folder name) after (Some u)) where
    parts : IsTrue (is_behind last u) × IsSome ((Means files).tags name u)
    parts = and_parts (is_behind last u) _ first.1

    -- the tag that it came to is the next
    pub lists_next : IsNextTag (Means files) name bound (Some u)
    lists_next =
        let own = listed_by files name last u first.1 in (
          s.ahead u own.1.0 parts.0 first.0.0,
          parts.1,
          λ t lies less. means_nothing _ (λ some.
              let is = wanted t lies some in
              let at = listed_by files name last t is in
              let below = tags_in_order name t u at.0 at.1.0 own.1.0 ∙ less in
              true≢false (sym is ∙ first.2 t (s.before t at.1.0 lies, tag_path_begins name t at.0 at.1.0) below at.1.1)),
        )

    -- and it was found
    pub lists_more : HasListed files name last (Some (tag_path name u)) (found ++ u ∷ [])
    lists_more =
        let own = listed_by files name last u first.1 in
        record {
          chain = next_pushed (Means files) name last found u s.chain lists_next;
          before = λ t k lies. tags_in_order name u t own.0 own.1.0 k ∙ sym (ap (λ l. is_behind l t) (last_pushed last found u)) ∙ lies;
          ahead = λ t k lies later. ap (λ l. is_behind l t) (last_pushed last found u) ∙ sym (tags_in_order name u t own.0 own.1.0 k) ∙ later;
        }

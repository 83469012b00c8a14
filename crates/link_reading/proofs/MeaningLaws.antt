-- Laws of what files mean.
use Rattle.std.proofs.Common.{◌≡◌, ◌≢◌, ℕ, Bool, true, false, cond, List, length, nat_eq, Option, Some, None, refl, sym, ap, subst, ◌∙◌, true≢false}
use Rattle.std.specs.Prelude.{◌↔◌, ◌&&◌, IsTrue, IsSome, is_some, option_map, option_and_then}
use Rattle.std.specs.Option.{option_map_or}
use Rattle.std.specs.Ordering.{is_eq}
use Rattle.std.specs.Cmp.Lexicographic.{pointwise, same_text, nat_list_eq_equiv}
use Rattle.std.proofs.lemmas.Cmp.{tied_itself}
use Rattle.reg_names.specs.Names.{IsName, is_name}
use Rattle.reg_names.specs.Tags.{IsTag, is_tag}
use Rattle.reg_names.specs.Digests.{IsDigest, digest_text, digest_named}
use Rattle.reg_names.proofs.DigestTexts.{digest_named-is, digest_named-text}
use Rattle.manifest_doc.specs.declared.document.Doc.{Doc}
use Rattle.manifest_doc.specs.Stored.{stored_in}
use Rattle.depot_api.specs.Files.{Files, with_at}
use Rattle.depot_api.specs.Paths.{path_cmp, is_at}
use Rattle.depot_api.proofs.OrderLaws.{path_same, equal_from, path_total}
use Rattle.link_paths.specs.declared.place.Place.{Place}
use Rattle.link_paths.specs.declared.place.Place.TheVariants.{BlobData, Layer, Revision, TagCurrent}
use Rattle.link_paths.specs.Places.{IsPlace, place_path, data_path, layer_path, revision_path, tag_path}
use Rattle.link_paths.proofs.ApartPlaces.{same_place}
use Rattle.reg_entries.specs.Documents.{KeptManifest}
use Rattle.reg_entries.specs.State.{empty}
use Rattle.link_reading.specs.Meaning.{only_manifest, data_at, links_to, kept, manifest_in, link_at, manifest_at, target_at, Means, IsLink}

-- ---- link files

named_is : (named : Option (List ℕ)) (bytes digest : List ℕ) → digest_named bytes ≡ named → option_map_or (pointwise nat_eq digest) named false ≡ true → IsDigest digest × (Some bytes ≡ Some (digest_text digest))
named_is None bytes digest e h = absurd (true≢false (sym h))
named_is (Some d) bytes digest e h =
    let one = same_text digest d (sym h) in
    let is = digest_named-is bytes d e in
    subst (λ k. IsDigest k × (Some bytes ≡ Some (digest_text k))) (sym one) (is.0, ap Some is.1)

pub links_to-is : (file : Option (List ℕ)) (digest : List ℕ) → links_to file digest ≡ true → IsDigest digest × (file ≡ Some (digest_text digest))
links_to-is None digest h = absurd (true≢false (sym h))
links_to-is (Some bytes) digest h = named_is (digest_named bytes) bytes digest refl h

pub links_to-text : (file : Option (List ℕ)) (digest : List ℕ) → IsDigest digest → file ≡ Some (digest_text digest) → links_to file digest ≡ true
links_to-text file digest is at =
    ap (λ f. links_to f digest) at ∙ ap (λ n. option_map_or (pointwise nat_eq digest) n false) (digest_named-text digest is) ∙ nat_list_eq_equiv.refl digest

pub links_exactly : (file : Option (List ℕ)) (digest : List ℕ) → IsTrue (links_to file digest) ↔ (IsDigest digest × (file ≡ Some (digest_text digest)))
links_exactly file digest = (links_to-is file digest, λ h. links_to-text file digest h.0 h.1)

-- ---- manifests and tags

found_there : (b : Bool) (o : Option (List ℕ)) (has : List ℕ → Bool) (digest : List ℕ) → cond b (option_and_then (λ d. cond (has d) (Some d) None) o) None ≡ Some digest → has digest ≡ true
found_there true (Some d) has digest h = at_test (has d) refl h where
  at_test : (t : Bool) → has d ≡ t → cond t (Some d) None ≡ Some digest → has digest ≡ true
  at_test true e h = let same : d ≡ digest = cc h in subst (λ k. has k ≡ true) same e
  at_test false e h = absurd (cc h)
found_there true None has digest h = absurd (cc h)
found_there false o has digest h = absurd (cc h)

pub tag_there : (files : Files) (name tag digest : List ℕ) → target_at files name tag ≡ Some digest → IsSome (manifest_at files name digest)
tag_there files name tag digest h =
    found_there (is_name name && is_tag tag) (option_and_then digest_named (files (tag_path name tag))) (λ d. is_some (manifest_at files name d)) digest h

kept_size : (size : ℕ) (o : Option Doc) (m : KeptManifest) → option_map (kept size) o ≡ Some m → size ≡ m.size
kept_size size (Some doc) m h = let same : kept size doc ≡ m = cc h in ap (λ d. d.size) same
kept_size size None m h = absurd (cc h)

size_of : (b : Bool) (digest : List ℕ) (o : Option (List ℕ)) (m : KeptManifest) → cond b (option_and_then (manifest_in digest) o) None ≡ Some m → option_map length o ≡ Some m.size
size_of true digest (Some bytes) m h = ap Some (kept_size (length bytes) (stored_in digest bytes) m h)
size_of true digest None m h = absurd (cc h)
size_of false digest o m h = absurd (cc h)

pub size_is : (files : Files) (name digest : List ℕ) (m : KeptManifest) → manifest_at files name digest ≡ Some m → option_map length (data_at files digest) ≡ Some m.size
size_is files name digest m h = size_of _ digest (data_at files digest) m h

-- ---- no link files

pub shut : {X : Type 0} (b c : Bool) (x : Option X) → (b ≡ true → c ≡ true → x ≡ None) → cond (b && c) x None ≡ None
shut true true x h = h refl refl
shut true false x h = refl
shut false c x h = refl

pub unlinked : {X : Type 0} (file : Option (List ℕ)) (digest : List ℕ) → (IsDigest digest → file ≡ None) → links_to file digest ≡ true → X
unlinked file digest h linked =
    absurd (true≢false (sym linked ∙ ap (λ f. links_to f digest) (h (links_to-is file digest linked).0)))

pub mean_nothing : (files : Files) → ((place : Place) → IsPlace place → IsLink place → files (place_path place) ≡ None) → Means files ≡ empty
mean_nothing files h =
    let manifests = λ (name digest : List ℕ). shut (is_name name) (links_to (files (revision_path name digest)) digest) (option_and_then (manifest_in digest) (data_at files digest)) (λ n l. unlinked (files (revision_path name digest)) digest (λ d. h (Revision name digest) (n, d) tt) l) in
    let links = λ (name digest : List ℕ). shut (is_name name) (links_to (files (layer_path name digest)) digest) (option_map length (data_at files digest)) (λ n l. unlinked (files (layer_path name digest)) digest (λ d. h (Layer name digest) (n, d) tt) l) in
    let tags = λ (name tag : List ℕ). shut (is_name name) (is_tag tag) (option_and_then (λ digest. cond (is_some (manifest_at files name digest)) (Some digest) None) (option_and_then digest_named (files (tag_path name tag)))) (λ n t. ap (λ f. option_and_then (λ digest. cond (is_some (manifest_at files name digest)) (Some digest) None) (option_and_then digest_named f)) (h (TagCurrent name tag) (n, t) tt)) in
    λ i. record { manifests = λ name digest. manifests name digest i; links = λ name digest. links name digest i; tags = λ name tag. tags name tag i }

-- ---- other files

agree : (c d : Bool) → (c ≡ true → d ≡ true) → (d ≡ true → c ≡ true) → c ≡ d
agree true d h k = sym (h refl)
agree false true h k = k refl
agree false false h k = refl

alike : {X : Type 0} (b c d : Bool) (x y : Option X) → (b ≡ true → c ≡ d) → (b ≡ true → d ≡ true → x ≡ y) → cond (b && c) x None ≡ cond (b && d) y None
alike true c d x y h k = ap (λ t. cond t x None) (h refl) ∙ under d (k refl) where
  under : (t : Bool) → (t ≡ true → x ≡ y) → cond t x None ≡ cond t y None
  under true e = e refl
  under false e = refl
alike false c d x y h k = refl

same_links : (file other : Option (List ℕ)) (digest : List ℕ) → (IsDigest digest → file ≡ other) → links_to file digest ≡ links_to other digest
same_links file other digest h =
    agree _ _ (λ l. ap (λ f. links_to f digest) (sym (h (links_to-is file digest l).0)) ∙ l) (λ l. ap (λ f. links_to f digest) (h (links_to-is other digest l).0) ∙ l)

-- two sets of files that are alike at each place
module _ (f g : Files) (same : (place : Place) → IsPlace place → f (place_path place) ≡ g (place_path place)) where
  same_data : (file : Option (List ℕ)) (digest : List ℕ) → links_to file digest ≡ true → data_at f digest ≡ data_at g digest
  same_data file digest l = same (BlobData digest) (links_to-is file digest l).0

  same_link : (name digest : List ℕ) → link_at f name digest ≡ link_at g name digest
  same_link name digest =
      alike (is_name name) _ _ _ _ (λ n. same_links (f (layer_path name digest)) (g (layer_path name digest)) digest (λ d. same (Layer name digest) (n, d))) (λ n l. ap (option_map length) (same_data (g (layer_path name digest)) digest l))

  same_manifest : (name digest : List ℕ) → manifest_at f name digest ≡ manifest_at g name digest
  same_manifest name digest =
      alike (is_name name) _ _ _ _ (λ n. same_links (f (revision_path name digest)) (g (revision_path name digest)) digest (λ d. same (Revision name digest) (n, d))) (λ n l. ap (option_and_then (manifest_in digest)) (same_data (g (revision_path name digest)) digest l))

  same_targets : (name : List ℕ) (o : Option (List ℕ)) → option_and_then (λ digest. cond (is_some (manifest_at f name digest)) (Some digest) None) o ≡ option_and_then (λ digest. cond (is_some (manifest_at g name digest)) (Some digest) None) o
  same_targets name (Some digest) = ap (λ m. cond (is_some m) (Some digest) None) (same_manifest name digest)
  same_targets name None = refl

  same_tag : (name tag : List ℕ) → target_at f name tag ≡ target_at g name tag
  same_tag name tag =
      alike (is_name name) _ _ _ _ (λ n. refl) (λ n t. same_targets name (option_and_then digest_named (f (tag_path name tag))) ∙ ap (λ file. option_and_then (λ digest. cond (is_some (manifest_at g name digest)) (Some digest) None) (option_and_then digest_named file)) (same (TagCurrent name tag) (n, t)))

  pub same_meaning : Means f ≡ Means g
  same_meaning = λ i. record { manifests = λ name digest. same_manifest name digest i; links = λ name digest. same_link name digest i; tags = λ name tag. same_tag name tag i }

elsewhere : (t : Bool) (files : Files) (path at : List (List ℕ)) (file : Option (List ℕ)) → is_at path at ≡ t → at ≢ path → cond t file (files at) ≡ files at
elsewhere true files path at file is other = absurd (other (sym (path_same path at (equal_from (path_cmp path at) is))))
elsewhere false files path at file is other = refl

pub change_nothing : (files : Files) (path : List (List ℕ)) (file : Option (List ℕ)) → ((place : Place) → IsPlace place → place_path place ≢ path) → Means (with_at files path file) ≡ Means files
change_nothing files path file other =
    same_meaning (with_at files path file) files (λ place is. elsewhere (is_at path (place_path place)) files path (place_path place) file refl (other place is))

-- ---- dangling links

at_path : (files : Files) (path : List (List ℕ)) (file : Option (List ℕ)) → with_at files path file path ≡ file
at_path files path file = ap (λ t. cond t file (files path)) (ap is_eq (tied_itself path_total path))

pub linked : {X : Type 0} (file : Option (List ℕ)) (name digest : List ℕ) (x : Option X) → IsName name → links_to file digest ≡ true → cond (is_name name && links_to file digest) x None ≡ x
linked file name digest x n l = ap (λ b. cond (b && links_to file digest) x None) n ∙ ap (λ b. cond b x None) l

pub dangles : (files : Files) (name digest bytes : List ℕ) → IsName name → IsDigest digest → files (layer_path name digest) ≡ Some (digest_text digest) → files (data_path digest) ≡ None
    → (link_at files name digest ≡ None) × (link_at (with_at files (data_path digest) (Some bytes)) name digest ≡ Some (length bytes))
dangles files name digest bytes n d link gone =
    let g = with_at files (data_path digest) (Some bytes) in
    let apart : layer_path name digest ≢ data_path digest = λ e. cc (same_place (Layer name digest) (BlobData digest) (n, d) d e) in
    let kept_link : g (layer_path name digest) ≡ Some (digest_text digest) = elsewhere (is_at (data_path digest) (layer_path name digest)) files (data_path digest) (layer_path name digest) (Some bytes) refl apart ∙ link in (
      linked (files (layer_path name digest)) name digest _ n (links_to-text _ digest d link) ∙ ap (option_map length) gone,
      linked (g (layer_path name digest)) name digest _ n (links_to-text _ digest d kept_link) ∙ ap (option_map length) (at_path files (data_path digest) (Some bytes)),
    )

pub manifest_dangles : (files : Files) (name digest bytes : List ℕ) → IsName name → IsDigest digest → files (revision_path name digest) ≡ Some (digest_text digest) → files (data_path digest) ≡ None
    → (manifest_at files name digest ≡ None) × (manifest_at (with_at files (data_path digest) (Some bytes)) name digest ≡ manifest_in digest bytes)
manifest_dangles files name digest bytes n d link gone =
    let g = with_at files (data_path digest) (Some bytes) in
    let apart : revision_path name digest ≢ data_path digest = λ e. cc (same_place (Revision name digest) (BlobData digest) (n, d) d e) in
    let kept_link : g (revision_path name digest) ≡ Some (digest_text digest) = elsewhere (is_at (data_path digest) (revision_path name digest)) files (data_path digest) (revision_path name digest) (Some bytes) refl apart ∙ link in (
      linked (files (revision_path name digest)) name digest _ n (links_to-text _ digest d link) ∙ ap (option_and_then (manifest_in digest)) gone,
      linked (g (revision_path name digest)) name digest _ n (links_to-text _ digest d kept_link) ∙ ap (option_and_then (manifest_in digest)) (at_path files (data_path digest) (Some bytes)),
    )

-- ---- one data file

only_moves : (f g : Files) (name other : List ℕ) → manifest_at f name other ≡ manifest_at g name other → (o : Option (List ℕ)) → option_and_then (only_manifest f name) o ≡ Some other → option_and_then (only_manifest g name) o ≡ Some other
only_moves f g name other same None h = absurd (cc h)
only_moves f g name other same (Some d) h = at_test (is_some (manifest_at f name d)) refl h where
  at_test : (t : Bool) → is_some (manifest_at f name d) ≡ t → cond t (Some d) None ≡ Some other → only_manifest g name d ≡ Some other
  at_test true e k =
      let is : d ≡ other = cc k in
      subst (λ x. only_manifest g name x ≡ Some other) (sym is) (ap (λ t. cond t (Some other) None) (ap is_some (sym same) ∙ subst (λ x. is_some (manifest_at f name x) ≡ true) is e))
  at_test false e k = absurd (cc k)

opens : {X : Type 0} (b c : Bool) (x y : Option X) (v : X) → (b ≡ true → c ≡ true → x ≡ Some v → y ≡ Some v) → cond (b && c) x None ≡ Some v → cond (b && c) y None ≡ Some v
opens true true x y v h k = h refl refl k
opens true false x y v h k = absurd (cc k)
opens false c x y v h k = absurd (cc k)

target_moves : (f g : Files) (name tag other : List ℕ) → (IsName name → IsTag tag → f (tag_path name tag) ≡ g (tag_path name tag)) → manifest_at f name other ≡ manifest_at g name other → target_at f name tag ≡ Some other → target_at g name tag ≡ Some other
target_moves f g name tag other link same =
    opens (is_name name) (is_tag tag) _ _ other (λ n t h. only_moves f g name other same _ (subst (λ file. option_and_then (only_manifest f name) (option_and_then digest_named file) ≡ Some other) (link n t) h))

module _ (files : Files) (digest : List ℕ) (file : Option (List ℕ)) (d : IsDigest digest) where
  abbrev changed : Files
  changed = with_at files (data_path digest) file

  spared : (place : Place) → IsPlace place → place_path place ≢ data_path digest → changed (place_path place) ≡ files (place_path place)
  spared place is apart = elsewhere (is_at (data_path digest) (place_path place)) files (data_path digest) (place_path place) file refl apart

  spared_data : (link : Option (List ℕ)) (other : List ℕ) → other ≢ digest → links_to link other ≡ true → data_at changed other ≡ data_at files other
  spared_data link other apart l =
      let o = (links_to-is link other l).0 in
      spared (BlobData other) o (λ e. apart (cc (same_place (BlobData other) (BlobData digest) o d e)))

  pub spared_link : (name other : List ℕ) → other ≢ digest → link_at changed name other ≡ link_at files name other
  spared_link name other apart =
      alike (is_name name) _ _ _ _ (λ n. same_links (changed (layer_path name other)) (files (layer_path name other)) other (λ o. spared (Layer name other) (n, o) (λ e. cc (same_place (Layer name other) (BlobData digest) (n, o) d e)))) (λ n l. ap (option_map length) (spared_data (files (layer_path name other)) other apart l))

  pub spared_manifest : (name other : List ℕ) → other ≢ digest → manifest_at changed name other ≡ manifest_at files name other
  spared_manifest name other apart =
      alike (is_name name) _ _ _ _ (λ n. same_links (changed (revision_path name other)) (files (revision_path name other)) other (λ o. spared (Revision name other) (n, o) (λ e. cc (same_place (Revision name other) (BlobData digest) (n, o) d e)))) (λ n l. ap (option_and_then (manifest_in other)) (spared_data (files (revision_path name other)) other apart l))

  pub spared_target : (name tag other : List ℕ) → other ≢ digest → (target_at changed name tag ≡ Some other) ↔ (target_at files name tag ≡ Some other)
  spared_target name tag other apart =
      let link = λ (n : IsName name) (t : IsTag tag). spared (TagCurrent name tag) (n, t) (λ e. cc (same_place (TagCurrent name tag) (BlobData digest) (n, t) d e)) in (
        target_moves changed files name tag other link (spared_manifest name other apart),
        target_moves files changed name tag other (λ n t. sym (link n t)) (sym (spared_manifest name other apart)),
      )

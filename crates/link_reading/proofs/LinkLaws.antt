-- What is looked for among a repository's links: the least digest that is wanted, and the tags that are listed.
use Rattle.std.proofs.Common.{◌≡◌, ℕ, Bool, true, false, cond, List, [], Option, Some, None, Result, Ok, Err, refl, sym, ap, subst, ◌∙◌, inl, inr, ⊎_elim, true≢false}
use Rattle.std.specs.Prelude.{◌&&◌, ⊤, IfOk, IsTrue, IsSome, is_some, option_map, option_and_then}
use Rattle.std.specs.Bool.{then_some}
use Rattle.std.specs.BTreeMap.{is_at}
use Rattle.std.specs.Ordering.{nat_cmp, is_lt}
use Rattle.std.specs.Cmp.Lexicographic.{slice_cmp, texts_ties, same_text}
use Rattle.std.proofs.lemmas.Bool.{and_parts}
use Rattle.reg_names.specs.Names.{IsName, is_name}
use Rattle.reg_names.specs.Digests.{IsDigest, digest_named}
use Rattle.reg_names.specs.Tags.{IsTag, is_tag}
use Rattle.reg_names.specs.Reading.{ReadsBack}
use Rattle.depot_api.specs.Files.{Files}
use Rattle.depot_api.specs.Paths.{begins_with, is_below}
use Rattle.depot_api.proofs.OrderLaws.{begins_with_from_prefix}
use Rattle.link_paths.specs.declared.place.Place.TheVariants as places
use Rattle.link_paths.specs.Places.{layer_path, revision_path, tag_path}
use Rattle.link_paths.specs.Folders.{digest_link, layers_folder, revisions_folder, tags_folder, current_link}
use Rattle.link_paths.proofs.ApartPlaces.{same_place}
use Rattle.link_paths.proofs.FolderPlaces.{layer_begins, revision_begins, tag_begins}
use Rattle.link_paths.proofs.PathOrder.{layers_in_order, revisions_in_order}
use Rattle.reg_entries.specs.State.{State, lists_child, IsLeastParent}
use Rattle.reg_entries.specs.Listing.{is_behind}
use Rattle.link_reading.specs.declared.links_below.Wanted.{Wanted}
use Rattle.link_reading.specs.declared.links_below.Wanted.TheVariants.{Layer, Manifest, ListerOf}
use Rattle.manifest_doc.specs.declared.document.Doc.{Doc}
use Rattle.link_reading.specs.Answers.{FindsManifest, Knows}
use Rattle.link_reading.specs.Meaning.{Means, only_manifest, data_at, links_to, manifest_in, manifest_at, target_at}
use Rattle.link_reading.specs.InnerWalks.{Spot, AreNext, IsReady, Quest, LiesAt, IsFirst, WalksTo}
use Rattle.link_reading.specs.InnerLinks.{wants, link_path, links_folder, link_quest, IsLeastWanted, tag_quest, with_note, AreNoted}
use Rattle.link_reading.proofs.MeaningLaws.{links_to-is}

pub unless : (b : Bool) → ¬ (b ≡ true) → b ≡ false
unless true h = absurd (h refl)
unless false h = refl

-- ---- digests

-- what is found behind two tests passed both
both_pass : {X : Type 0} (b c : Bool) (x : Option X) (test : Option X → Bool) → test None ≡ false → test (cond (b && c) x None) ≡ true → (b ≡ true) × (c ≡ true)
both_pass true true x test none h = (refl, refl)
both_pass true false x test none h = absurd (true≢false (sym h ∙ none))
both_pass false c x test none h = absurd (true≢false (sym h ∙ none))

-- a digest that is wanted has a link that holds its text
wanted_by : (files : Files) (name : List ℕ) (w : Wanted) (d : List ℕ) → wants (Means files) name w d ≡ true → IsName name × (links_to (files (link_path name w d)) d ≡ true)
wanted_by files name Layer d h = both_pass (is_name name) _ (option_map _ (data_at files d)) is_some refl h
wanted_by files name Manifest d h = both_pass (is_name name) _ (option_and_then (manifest_in d) (data_at files d)) is_some refl h
wanted_by files name (ListerOf child) d h = both_pass (is_name name) _ (option_and_then (manifest_in d) (data_at files d)) (lists_child child) refl h

wanted_digest : (files : Files) (name : List ℕ) (w : Wanted) (d : List ℕ) → wants (Means files) name w d ≡ true → IsDigest d
wanted_digest files name w d h = (links_to-is (files (link_path name w d)) d (wanted_by files name w d h).1).0

wanted_file : (files : Files) (name : List ℕ) (w : Wanted) (d : List ℕ) → wants (Means files) name w d ≡ true → IsSome (files (link_path name w d))
wanted_file files name w d h = ap is_some (links_to-is (files (link_path name w d)) d (wanted_by files name w d h).1).1

alone : (name : List ℕ) (w : Wanted) (d e : List ℕ) → IsName name → IsDigest d → IsDigest e → link_path name w d ≡ link_path name w e → d ≡ e
alone name Layer d e n h k same = cc (same_place (places.Layer name d) (places.Layer name e) (n, h) (n, k) same)
alone name Manifest d e n h k same = cc (same_place (places.Revision name d) (places.Revision name e) (n, h) (n, k) same)
alone name (ListerOf child) d e n h k same = cc (same_place (places.Revision name d) (places.Revision name e) (n, h) (n, k) same)

link_begins : (name : List ℕ) (w : Wanted) (d : List ℕ) → IsName name → IsDigest d → IsTrue (begins_with (links_folder name w) (link_path name w d))
link_begins name Layer d n h = begins_with_from_prefix (layers_folder name) (layer_path name d) (digest_link d, layer_begins name d n h)
link_begins name Manifest d n h = begins_with_from_prefix (revisions_folder name) (revision_path name d) (digest_link d, revision_begins name d n h)
link_begins name (ListerOf child) d n h = begins_with_from_prefix (revisions_folder name) (revision_path name d) (digest_link d, revision_begins name d n h)

links_in_order : (name : List ℕ) (w : Wanted) (d e : List ℕ) → IsName name → IsDigest d → IsDigest e → is_below (link_path name w d) (link_path name w e) ≡ is_lt (slice_cmp nat_cmp d e)
links_in_order name Layer d e n h k = layers_in_order name d e n h k
links_in_order name Manifest d e n h k = revisions_in_order name d e n h k
links_in_order name (ListerOf child) d e n h k = revisions_in_order name d e n h k

-- at a path that is no link's nothing is wanted
pub none_lies : (files : Files) (name : List ℕ) (w : Wanted) (path : List (List ℕ)) → ReadsBack IsDigest (link_path name w) path None → LiesAt (link_quest name w) files path None
none_lies files name w path read = λ v at. unless _ (λ t. read v (wanted_digest files name w v t) at)

-- at a link's, its digest where it is wanted
pub digest_lies : (files : Files) (name : List ℕ) (w : Wanted) (path : List (List ℕ)) (d : List ℕ) (b : Bool) → IsName name → ReadsBack IsDigest (link_path name w) path (Some d) → b ≡ wants (Means files) name w d → LiesAt (link_quest name w) files path (then_some b d)
digest_lies files name w path d true n read e = (read.1, sym e)
digest_lies files name w path d false n read e = λ v at.
    unless _ (λ t.
    let same = alone name w v d n (wanted_digest files name w v t) read.0 (at ∙ sym read.1) in
    true≢false (sym t ∙ ap (wants (Means files) name w) same ∙ sym e))

-- the first below the folder is the least
pub least_is : (files : Files) (name : List ℕ) (w : Wanted) (found : Option (List ℕ)) → IsFirst (link_quest name w) files (links_folder name w) None found → IsLeastWanted (Means files) name w found
least_is files name w (Some d) h = (
  h.1,
  λ other less. unless _ (λ t.
      let n = (wanted_by files name w other t).0 in
      let o = wanted_digest files name w other t in
      let below = links_in_order name w other d n o (wanted_digest files name w d h.1) ∙ less in
      true≢false (sym t ∙ h.2 other (refl, link_begins name w other n o) below (wanted_file files name w other t))),
)
least_is files name w None h = λ d. unless _ (λ t.
    let n = (wanted_by files name w d t).0 in
    true≢false (sym t ∙ h d (refl, link_begins name w d n (wanted_digest files name w d t)) tt (wanted_file files name w d t)))

-- ---- repositories and parents

pub knows_by_layer : (state : State) (name digest : List ℕ) → IsLeastWanted state name Layer (Some digest) → Knows state name true
knows_by_layer state name digest h = inr (digest, h.0)

pub knows_by_manifest : (state : State) (name : List ℕ) (found : Option (List ℕ)) → IsLeastWanted state name Layer None → IsLeastWanted state name Manifest found → Knows state name (is_some found)
knows_by_manifest state name (Some digest) none h = inl (digest, h.0)
knows_by_manifest state name None none h = λ known.
    ⊎_elim (λ m. true≢false (sym m.1 ∙ h m.0)) (λ b. true≢false (sym b.1 ∙ none b.0)) known

pub least_lister : (state : State) (name child : List ℕ) (found : Option (List ℕ)) → IsLeastWanted state name (ListerOf child) found → IsLeastParent state name child found
least_lister state name child (Some digest) h = (h.0, λ other less lists. true≢false (sym lists ∙ h.1 other less))
least_lister state name child None h = λ digest lists. true≢false (sym lists ∙ h digest)

-- ---- tags

-- a tag that means something has a link
target_by : (b c : Bool) (name : List ℕ) (files : Files) (file : Option (List ℕ)) → is_some (cond (b && c) (option_and_then (only_manifest files name) (option_and_then digest_named file)) None) ≡ true → (b ≡ true) × ((c ≡ true) × IsSome file)
target_by true true name files (Some bytes) h = (refl, (refl, refl))
target_by true true name files None h = absurd (true≢false (sym h))
target_by true false name files file h = absurd (true≢false (sym h))
target_by false c name files file h = absurd (true≢false (sym h))

pub listed_by : (files : Files) (name : List ℕ) (last : Option (List ℕ)) (tag : List ℕ) → is_behind last tag && is_some (target_at files name tag) ≡ true → IsName name × (IsTag tag × IsSome (files (tag_path name tag)))
listed_by files name last tag h = target_by (is_name name) (is_tag tag) name files (files (tag_path name tag)) (and_parts (is_behind last tag) _ h).1

pub tag_alone : (name t u : List ℕ) → IsName name → IsTag t → IsTag u → tag_path name t ≡ tag_path name u → t ≡ u
tag_alone name t u n h k e = cc (same_place (places.TagCurrent name t) (places.TagCurrent name u) (n, h) (n, k) e)

pub tag_path_begins : (name t : List ℕ) → IsName name → IsTag t → IsTrue (begins_with (tags_folder name) (tag_path name t))
tag_path_begins name t n k = begins_with_from_prefix (tags_folder name) (tag_path name t) (current_link t, tag_begins name t n k)

pub no_tag_lies : (files : Files) (name : List ℕ) (last : Option (List ℕ)) (path : List (List ℕ)) → ReadsBack IsTag (tag_path name) path None → LiesAt (tag_quest name last) files path None
no_tag_lies files name last path read = λ v at. unless _ (λ t. read v (listed_by files name last v t).1.0 at)

-- at a tag's link nothing is wanted where the tag is not
pub other_tag_lies : (files : Files) (name : List ℕ) (last : Option (List ℕ)) (path : List (List ℕ)) (tag : List ℕ) → IsName name → ReadsBack IsTag (tag_path name) path (Some tag) → (tag_quest name last).wanted files tag ≡ false → LiesAt (tag_quest name last) files path None
other_tag_lies files name last path tag n read not = λ v at.
    unless _ (λ t.
    let same = tag_alone name v tag n (listed_by files name last v t).1.0 read.0 (at ∙ sym read.1) in
    true≢false (sym t ∙ ap ((tag_quest name last).wanted files) same ∙ not))

pub not_behind_lies : (files : Files) (name : List ℕ) (last : Option (List ℕ)) (path : List (List ℕ)) (tag : List ℕ) → IsName name → ReadsBack IsTag (tag_path name) path (Some tag) → is_behind last tag ≡ false → LiesAt (tag_quest name last) files path None
not_behind_lies files name last path tag n read e = other_tag_lies files name last path tag n read (ap (λ b. b && is_some (target_at files name tag)) e)

-- what a tag means, by what its link holds
pub target_of : (files : Files) (name tag : List ℕ) (path : List (List ℕ)) (named : Option (List ℕ)) → IsName name → ReadsBack IsTag (tag_path name) path (Some tag) → named ≡ option_and_then digest_named (files path) → target_at files name tag ≡ option_and_then (only_manifest files name) named
target_of files name tag path named n read e =
    ap (λ b. cond (b && is_tag tag) (option_and_then (only_manifest files name) (option_and_then digest_named (files (tag_path name tag)))) None) n
    ∙ ap (λ b. cond b (option_and_then (only_manifest files name) (option_and_then digest_named (files (tag_path name tag)))) None) read.0
    ∙ ap (λ p. option_and_then (only_manifest files name) (option_and_then digest_named (files p))) read.1
    ∙ ap (option_and_then (only_manifest files name)) (sym e)

and_false : (b : Bool) → b && false ≡ false
and_false true = refl
and_false false = refl

pub unnamed_lies : (files : Files) (name : List ℕ) (last : Option (List ℕ)) (path : List (List ℕ)) (tag : List ℕ) → IsName name → ReadsBack IsTag (tag_path name) path (Some tag) → None ≡ option_and_then digest_named (files path) → LiesAt (tag_quest name last) files path None
unnamed_lies files name last path tag n read e =
    other_tag_lies files name last path tag n read (ap (λ t. is_behind last tag && is_some t) (target_of files name tag path None n read e) ∙ and_false (is_behind last tag))

pub tag_lies : (files : Files) (name : List ℕ) (last : Option (List ℕ)) (path : List (List ℕ)) (tag digest : List ℕ) (b : Bool) → IsName name → ReadsBack IsTag (tag_path name) path (Some tag) → is_behind last tag ≡ true → Some digest ≡ option_and_then digest_named (files path) → b ≡ is_some (manifest_at files name digest) → LiesAt (tag_quest name last) files path (then_some b tag)
tag_lies files name last path tag digest true n read behind e has =
    let target = target_of files name tag path (Some digest) n read e ∙ ap (λ b. cond b (Some digest) None) (sym has) in
    (read.1, ap (λ b. b && is_some (target_at files name tag)) behind ∙ ap is_some target)
tag_lies files name last path tag digest false n read behind e has =
    let target = target_of files name tag path (Some digest) n read e ∙ ap (λ b. cond b (Some digest) None) (sym has) in
    other_tag_lies files name last path tag n read (ap (λ b. b && is_some (target_at files name tag)) behind ∙ ap is_some target)

-- ---- what was noted

noted_at : (t : Bool) (files : Files) (name : List ℕ) (noted : List ℕ → Option Bool) (digest q : List ℕ) (has was : Bool) → is_at (slice_cmp nat_cmp digest) q ≡ t → AreNoted files name noted → has ≡ is_some (manifest_at files name digest) → cond t (Some has) (noted q) ≡ Some was → is_some (manifest_at files name q) ≡ was
noted_at true files name noted digest q has was at are is h =
    let same = same_text digest q (sym (texts_ties digest q ∙ at)) in
    ap (λ d. is_some (manifest_at files name d)) (sym same) ∙ sym is ∙ cc h
noted_at false files name noted digest q has was at are is h = are q was h

pub noted_more : (files : Files) (name : List ℕ) (old new : List ℕ → Option Bool) (digest : List ℕ) (has : Bool) → AreNoted files name old → has ≡ is_some (manifest_at files name digest) → ((q : List ℕ) → new q ≡ with_note old digest has q) → AreNoted files name new
noted_more files name old new digest has are is put q was h = noted_at _ files name old digest q has was refl are is (sym (put q) ∙ h)

pub none_noted : (files : Files) (name : List ℕ) (noted : List ℕ → Option Bool) → ((digest : List ℕ) → noted digest ≡ None) → AreNoted files name noted
none_noted files name noted none digest has h = absurd (cc (h, none digest))

-- whether there is a manifest, by what was found
pub found_is : (files : Files) (name digest : List ℕ) (found : Option (Doc × List ℕ)) → FindsManifest files name digest found → is_some found ≡ is_some (manifest_at files name digest)
found_is files name digest (Some m) h = sym (ap is_some h.meant)
found_is files name digest None h = sym (ap is_some h)

-- the answer of a walk through all links
pub least_of : {E : Type 0} (files : Files) (name other : List ℕ) (w : Wanted) (from to : Spot) (r : Result (Option (List ℕ)) E) → other ≡ name → from.folder ≡ links_folder name w → from.after ≡ None → from.left ≡ [] → IfOk r (λ found. IsReady files from → ⊤ → WalksTo (link_quest other w) files from to found) → IfOk r (IsLeastWanted (Means files) name w)
least_of files name other w from to (Err e) named folder after left h = h
least_of files name other w from to (Ok found) named folder after left h =
    let ready = subst (AreNext files from.folder from.after) (sym left) tt in
    let first = first_walked (link_quest other w) files from to found (h ready tt) in
    least_is files name w found
    (subst (λ n. IsFirst (link_quest n w) files (links_folder name w) None found) named
    (subst (λ a. IsFirst (link_quest other w) files (links_folder name w) a found) after
    (subst (λ f. IsFirst (link_quest other w) files f from.after found) folder first)))
  where
    first_walked : (quest : Quest (List ℕ)) (fs : Files) (old new : Spot) (o : Option (List ℕ)) → WalksTo quest fs old new o → IsFirst quest fs old.folder old.after o
    first_walked quest fs old new (Some v) walks = walks.0
    first_walked quest fs old new None walks = walks

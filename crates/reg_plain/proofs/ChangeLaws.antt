-- What becomes of all that is held where a map changes.
use Rattle.std.proofs.Common.{◌≡◌, ℕ, Bool, true, false, cond, List, [], Option, Some, None, refl, sym, ap, subst, ◌∙◌}
use Rattle.std.specs.Prelude.{◌&&◌, ◌||◌, is_some, unwrap_or, IsSome, IsTrue}
use Rattle.std.specs.Option.{option_map, option_or}
use Rattle.std.specs.BTreeMap as tree
use Rattle.std.specs.BTreeMap.{BTreeMap}
use Rattle.std.specs.Map.{lookup}
use Rattle.std.specs.Ordering.{nat_cmp}
use Rattle.std.specs.Cmp.Lexicographic.{slice_cmp}
use Rattle.std.proofs.lemmas.Bool.{false≢true}
use Rattle.reg_names.specs.declared.named.Named.{Named}
use Rattle.reg_names.specs.Named.{has_digest, digests_of}
use Rattle.reg_entries.specs.Documents.{KeptManifest}
use Rattle.reg_entries.specs.State.{lists_child}
use Rattle.reg_journal.specs.declared.entry.What.TheVariants.{Put, SetTag, DropTag, DropManifest, Mark, Link, Unlink, BroughtBlob, Doom, Erase, RemovedManifest}
use Rattle.reg_journal.specs.declared.past.KeptLink.{KeptLink}
use Rattle.reg_journal.specs.Past.{Past, nothing}
use Rattle.reg_journal.specs.Changes.{is_same, is_at, points_to, names_digest, kept_size, link_of, condemned_at, without_tags}
use Rattle.reg_plain.specs.declared.state.State.{State}
use Rattle.reg_plain.specs.declared.state.Standing.{Standing}
use Rattle.reg_plain.specs.declared.state.Known.{Known}
use Rattle.reg_plain.specs.Held.{spot_cmp, standing_at, link_at, tag_at, known_at, unknown, IsLeftOf}
use Rattle.reg_plain.specs.InnerChanges.{IsMoved, left_by, staying, is_spot, touched_where, known_where, known_touched_at, known_in}
use Rattle.reg_plain.proofs.MapLaws.{same, same_spot, either}

abbrev pub doc_of : Option Standing → Option KeptManifest
doc_of o = option_map (λ (m : Standing). m.doc) o

abbrev pub moment_of : Option Standing → Option ℕ
moment_of o = option_map (λ (m : Standing). m.touched) o

-- one step after another
pub moved_then : (f g : Past → Past) (one two three : State) → IsMoved f one two → IsMoved g two three → IsMoved (λ past. g (f past)) one three
moved_then f g one two three h k = record {
  is = λ entries. k.is entries ∙ ap g (h.is entries);
  delay = k.delay ∙ h.delay;
  last = k.last ∙ h.last;
  opened = k.opened ∙ h.opened;
}

-- ---- manifests

-- what stands is touched at some time
pub unmoved : (o : Option Standing) → moment_of o ≡ cond (is_some (doc_of o)) (moment_of o) None
unmoved None = refl
unmoved (Some s) = refl

doc_stays : (b : Bool) (now : ℕ) (o : Option Standing) → doc_of (touched_where b now o) ≡ doc_of o
doc_stays false now o = refl
doc_stays true now None = refl
doc_stays true now (Some s) = refl

moment_now : (b : Bool) (now : ℕ) (o : Option Standing) → moment_of (touched_where b now o) ≡ cond (is_some (doc_of o)) (cond b (Some now) (moment_of o)) None
moment_now false now o = unmoved o
moment_now true now None = refl
moment_now true now (Some s) = refl

touched_both : (a b : Bool) (now : ℕ) (o : Option Standing) → touched_where b now (touched_where a now o) ≡ touched_where (a || b) now o
touched_both false b now o = refl
touched_both true false now o = refl
touched_both true true now None = refl
touched_both true true now (Some s) = refl

doc_put : (b : Bool) (s : Standing) (o : Option Standing) → doc_of (cond b (Some s) o) ≡ cond b (Some s.doc) (doc_of o)
doc_put true s o = refl
doc_put false s o = refl

moment_put : (b : Bool) (s : Standing) (o : Option Standing) → moment_of (cond b (Some s) o) ≡ cond (is_some (cond b (Some s.doc) (doc_of o))) (cond b (Some s.touched) (moment_of o)) None
moment_put true s o = refl
moment_put false s o = unmoved o

doc_without : (a b : Bool) (now : ℕ) (o : Option Standing) → doc_of (touched_where b now (cond a None o)) ≡ cond a None (doc_of o)
doc_without true true now o = refl
doc_without true false now o = refl
doc_without false b now o = doc_stays b now o

moment_without : (a b : Bool) (now : ℕ) (o : Option Standing) → moment_of (touched_where b now (cond a None o)) ≡ cond (is_some (cond a None (doc_of o))) (cond b (Some now) (moment_of o)) None
moment_without true true now o = refl
moment_without true false now o = refl
moment_without false b now o = moment_now b now o

module _ (old : State) (name : List ℕ) (now : ℕ) where
  pub put_moved : (digest : List ℕ) (doc : KeptManifest) (ms : BTreeMap (List ℕ × List ℕ) Standing)
      → ((key : List ℕ × List ℕ) → tree.get spot_cmp ms key ≡ cond (is_spot (name, digest) key) (Some (record { doc = doc; touched = now })) (tree.get spot_cmp old.manifests key))
      → IsMoved (left_by 0 now (Put name digest doc)) old (record old { manifests = ms })
  put_moved digest doc ms h = record {
    is = λ entries i. record {
      entries = entries;
      manifests = λ n q. (ap doc_of (h (n, q)) ∙ doc_put (is_at name digest n q) (record { doc = doc; touched = now }) (standing_at old n q)) i;
      links = λ n q. link_at old n q;
      tags = λ n t. tag_at old n t;
      condemned = λ q. (known_at old q).condemned;
      manifest_touched = λ n q. (ap moment_of (h (n, q)) ∙ moment_put (is_at name digest n q) (record { doc = doc; touched = now }) (standing_at old n q)) i;
      blob_touched = λ q. (known_at old q).touched;
      sizes = λ q. (known_at old q).size;
    };
    delay = refl;
    last = refl;
    opened = refl;
  }

  pub tag_moved : (tag digest : List ℕ) (ts : BTreeMap (List ℕ × List ℕ) (List ℕ)) (ms : BTreeMap (List ℕ × List ℕ) Standing)
      → ((key : List ℕ × List ℕ) → tree.get spot_cmp ts key ≡ cond (is_spot (name, tag) key) (Some digest) (tree.get spot_cmp old.tags key))
      → ((key : List ℕ × List ℕ) → tree.get spot_cmp ms key ≡ touched_where (is_same name key.0 && points_to key.1 (tag_at old name tag)) now (touched_where (is_spot (name, digest) key) now (tree.get spot_cmp old.manifests key)))
      → IsMoved (left_by 0 now (SetTag name tag digest)) old (record old { tags = ts; manifests = ms })
  tag_moved tag digest ts ms t h =
      let both : (n q : List ℕ) → tree.get spot_cmp ms (n, q) ≡ touched_where (is_at name digest n q || (is_same name n && points_to q (tag_at old name tag))) now (standing_at old n q) =
      λ n q. h (n, q) ∙ touched_both (is_at name digest n q) (is_same name n && points_to q (tag_at old name tag)) now (standing_at old n q) in
      record {
        is = λ entries i. record {
          entries = entries;
          manifests = λ n q. (ap doc_of (both n q) ∙ doc_stays (is_at name digest n q || (is_same name n && points_to q (tag_at old name tag))) now (standing_at old n q)) i;
          links = λ n q. link_at old n q;
          tags = λ n q. t (n, q) i;
          condemned = λ q. (known_at old q).condemned;
          manifest_touched = λ n q. (ap moment_of (both n q) ∙ moment_now (is_at name digest n q || (is_same name n && points_to q (tag_at old name tag))) now (standing_at old n q)) i;
          blob_touched = λ q. (known_at old q).touched;
          sizes = λ q. (known_at old q).size;
        };
        delay = refl;
        last = refl;
        opened = refl;
      }

  pub untag_moved : (tag : List ℕ) (ts : BTreeMap (List ℕ × List ℕ) (List ℕ)) (ms : BTreeMap (List ℕ × List ℕ) Standing)
      → ((key : List ℕ × List ℕ) → tree.get spot_cmp ts key ≡ cond (is_spot (name, tag) key) None (tree.get spot_cmp old.tags key))
      → ((key : List ℕ × List ℕ) → tree.get spot_cmp ms key ≡ touched_where (is_same name key.0 && points_to key.1 (tag_at old name tag)) now (tree.get spot_cmp old.manifests key))
      → IsMoved (left_by 0 now (DropTag name tag)) old (record old { tags = ts; manifests = ms })
  untag_moved tag ts ms t h = record {
    is = λ entries i. record {
      entries = entries;
      manifests = λ n q. (ap doc_of (h (n, q)) ∙ doc_stays (is_same name n && points_to q (tag_at old name tag)) now (standing_at old n q)) i;
      links = λ n q. link_at old n q;
      tags = λ n q. t (n, q) i;
      condemned = λ q. (known_at old q).condemned;
      manifest_touched = λ n q. (ap moment_of (h (n, q)) ∙ moment_now (is_same name n && points_to q (tag_at old name tag)) now (standing_at old n q)) i;
      blob_touched = λ q. (known_at old q).touched;
      sizes = λ q. (known_at old q).size;
    };
    delay = refl;
    last = refl;
    opened = refl;
  }

-- ---- manifests that go

-- nothing is listed or named by what does not stand
unlisted : (a : Bool) (o : Option Standing) → moment_of o ≡ cond (is_some (doc_of o)) (cond (a && false) (Some 0) (moment_of o)) None
unlisted true o = unmoved o
unlisted false o = unmoved o

absent_at : (old : State) (name digest : List ℕ) → standing_at old name digest ≡ None → (n q : List ℕ) → standing_at old n q ≡ cond (is_at name digest n q) None (standing_at old n q)
absent_at old name digest at n q =
    either (is_at name digest n q)
    (λ t. subst (λ b. standing_at old n q ≡ cond b None (standing_at old n q)) (sym t) (ap (tree.get spot_cmp old.manifests) (sym (same_spot (name, digest) (n, q) t)) ∙ at))
    (λ f. subst (λ b. standing_at old n q ≡ cond b None (standing_at old n q)) (sym f) refl)

not_touched : (a b : Bool) (now : ℕ) (o : Option Standing) → o ≡ cond b None o → moment_of o ≡ cond (is_some (cond b None (doc_of o))) (cond (a && false) (Some now) (moment_of o)) None
not_touched a true now o h = ap moment_of h
not_touched true false now o h = unmoved o
not_touched false false now o h = unmoved o

not_there : (b : Bool) (o : Option Standing) → o ≡ cond b None o → doc_of o ≡ cond b None (doc_of o)
not_there true o h = ap doc_of h
not_there false o h = refl

pub known_after : (ds d1 d0 : BTreeMap (List ℕ) Known) (named : List Named) (now : ℕ)
    → ((q : List ℕ) → tree.get (slice_cmp nat_cmp) ds q ≡ known_where (has_digest q (digests_of named)) now (tree.get (slice_cmp nat_cmp) d1 q))
    → ((q : List ℕ) → IsTrue (has_digest q (digests_of named)) → IsSome (tree.get (slice_cmp nat_cmp) d1 q))
    → ((q : List ℕ) → known_in d1 q ≡ known_in d0 q)
    → (q : List ℕ) → known_in ds q ≡ cond (has_digest q (digests_of named)) (known_touched_at now (known_in d0 q)) (known_in d0 q)
known_after ds d1 d0 named now h noted stays q =
    ap (λ o. unwrap_or o unknown) (h q)
    ∙ by (has_digest q (digests_of named)) (tree.get (slice_cmp nat_cmp) d1 q) (noted q)
    ∙ ap (λ k. cond (has_digest q (digests_of named)) (known_touched_at now k) k) (stays q)
  where
    by : (b : Bool) (o : Option Known) → (IsTrue b → IsSome o) → unwrap_or (known_where b now o) unknown ≡ cond b (known_touched_at now (unwrap_or o unknown)) (unwrap_or o unknown)
    by false o s = refl
    by true (Some k) s = refl
    by true None s = absurd (false≢true (s refl))

module _ (old : State) (name digest : List ℕ) (now : ℕ) where
  pub absent_moved : standing_at old name digest ≡ None → IsMoved (left_by 0 now (DropManifest name digest)) old old
  absent_moved at = record {
    is = λ entries i. record {
      entries = entries;
      manifests = λ n q. not_there (is_at name digest n q) (standing_at old n q) (absent_at old name digest at n q) i;
      links = λ n q. link_at old n q;
      tags = λ n t. tag_at old n t;
      condemned = λ q. (known_at old q).condemned;
      manifest_touched = λ n q. (not_touched (is_same name n) (is_at name digest n q) now (standing_at old n q) (absent_at old name digest at n q)
          ∙ ap (λ (o : Option Standing). cond (is_some (cond (is_at name digest n q) None (doc_of (standing_at old n q)))) (cond (is_same name n && lists_child q (doc_of o)) (Some now) (moment_of (standing_at old n q))) None) (sym at)) i;
      blob_touched = λ q. ap (λ (o : Option Standing). cond (names_digest q (doc_of o)) (Some now) (known_at old q).touched) (sym at) i;
      sizes = λ q. (known_at old q).size;
    };
    delay = refl;
    last = refl;
    opened = refl;
  }

  pub gone_moved : (s : Standing) (ms : BTreeMap (List ℕ × List ℕ) Standing) (ds : BTreeMap (List ℕ) Known) → standing_at old name digest ≡ Some s
      → ((key : List ℕ × List ℕ) → tree.get spot_cmp ms key ≡ touched_where (is_same name key.0 && has_digest key.1 s.doc.children) now (cond (is_spot (name, digest) key) None (tree.get spot_cmp old.manifests key)))
      → ((q : List ℕ) → known_in ds q ≡ cond (has_digest q (digests_of s.doc.named)) (known_touched_at now (known_in old.digests q)) (known_in old.digests q))
      → IsMoved (left_by 0 now (DropManifest name digest)) old (record old { manifests = ms; digests = ds })
  gone_moved s ms ds at h k = record {
    is = λ entries i. record {
      entries = entries;
      manifests = λ n q. (ap doc_of (h (n, q)) ∙ doc_without (is_at name digest n q) (is_same name n && has_digest q s.doc.children) now (standing_at old n q)) i;
      links = λ n q. link_at old n q;
      tags = λ n t. tag_at old n t;
      condemned = λ q. (ap (λ (x : Known). x.condemned) (k q) ∙ condemned_stays (has_digest q (digests_of s.doc.named)) (known_in old.digests q)) i;
      manifest_touched = λ n q. (ap moment_of (h (n, q))
          ∙ moment_without (is_at name digest n q) (is_same name n && has_digest q s.doc.children) now (standing_at old n q)
          ∙ ap (λ (o : Option Standing). cond (is_some (cond (is_at name digest n q) None (doc_of (standing_at old n q)))) (cond (is_same name n && lists_child q (doc_of o)) (Some now) (moment_of (standing_at old n q))) None) (sym at)) i;
      blob_touched = λ q. (ap (λ (x : Known). x.touched) (k q)
          ∙ touched_now (has_digest q (digests_of s.doc.named)) (known_in old.digests q)
          ∙ ap (λ (o : Option Standing). cond (names_digest q (doc_of o)) (Some now) (known_at old q).touched) (sym at)) i;
      sizes = λ q. (ap (λ (x : Known). x.size) (k q) ∙ size_stays (has_digest q (digests_of s.doc.named)) (known_in old.digests q)) i;
    };
    delay = refl;
    last = refl;
    opened = refl;
  }
    where
      condemned_stays : (b : Bool) (x : Known) → (cond b (known_touched_at now x) x).condemned ≡ x.condemned
      condemned_stays true x = refl
      condemned_stays false x = refl

      size_stays : (b : Bool) (x : Known) → (cond b (known_touched_at now x) x).size ≡ x.size
      size_stays true x = refl
      size_stays false x = refl

      touched_now : (b : Bool) (x : Known) → (cond b (known_touched_at now x) x).touched ≡ cond b (Some now) x.touched
      touched_now true x = refl
      touched_now false x = refl

pub removed_moved : (old mid new : State) (name digest : List ℕ) (number now : ℕ) → IsMoved (left_by 0 now (DropManifest name digest)) old mid → IsMoved (without_tags name digest) mid new
    → IsMoved (left_by number now (RemovedManifest name digest)) old new
removed_moved old mid new name digest number now h k = moved_then (left_by 0 now (DropManifest name digest)) (without_tags name digest) old mid new h k

pub tags_moved : (old : State) (name digest : List ℕ) (ts : BTreeMap (List ℕ × List ℕ) (List ℕ))
    → ((key : List ℕ × List ℕ) → tree.get spot_cmp ts key ≡ cond (is_same name key.0 && points_to digest (tree.get spot_cmp old.tags key)) None (tree.get spot_cmp old.tags key))
    → IsMoved (without_tags name digest) old (record old { tags = ts })
tags_moved old name digest ts t = record {
  is = λ entries i. record {
    entries = entries;
    manifests = λ n q. doc_of (standing_at old n q);
    links = λ n q. link_at old n q;
    tags = λ n q. t (n, q) i;
    condemned = λ q. (known_at old q).condemned;
    manifest_touched = λ n q. moment_of (standing_at old n q);
    blob_touched = λ q. (known_at old q).touched;
    sizes = λ q. (known_at old q).size;
  };
  delay = refl;
  last = refl;
  opened = refl;
}

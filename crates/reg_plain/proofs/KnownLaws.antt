-- What becomes of all that is held where something is known of a digest, and before all entries.
use Rattle.std.proofs.Common.{◌≡◌, ℕ, Bool, true, false, cond, List, [], Option, Some, None, refl, sym, ap, subst, ◌∙◌}
use Rattle.std.specs.Prelude.{◌&&◌, ◌||◌, is_some, unwrap_or, IsSome, IsTrue}
use Rattle.std.specs.Option.{option_map, option_or}
use Rattle.std.specs.BTreeMap as tree
use Rattle.std.specs.BTreeMap.{BTreeMap}
use Rattle.std.specs.Map.{lookup}
use Rattle.std.specs.Ordering.{nat_cmp}
use Rattle.std.specs.Cmp.Lexicographic.{slice_cmp}
use Rattle.std.proofs.lemmas.Bool.{false≢true}
use Rattle.reg_names.specs.declared.named.Named.{Named}
use Rattle.reg_names.specs.Named.{has_digest, digests_of}
use Rattle.reg_entries.specs.Documents.{KeptManifest}
use Rattle.reg_entries.specs.State.{lists_child}
use Rattle.reg_journal.specs.declared.entry.What.TheVariants.{Put, SetTag, DropTag, DropManifest, Mark, Link, Unlink, BroughtBlob, Doom, Erase, RemovedManifest}
use Rattle.reg_journal.specs.declared.past.KeptLink.{KeptLink}
use Rattle.reg_journal.specs.Past.{Past, nothing}
use Rattle.reg_journal.specs.Changes.{is_same, is_at, points_to, names_digest, kept_size, link_of, condemned_at, without_tags}
use Rattle.reg_plain.specs.declared.state.State.{State}
use Rattle.reg_plain.specs.declared.state.Standing.{Standing}
use Rattle.reg_plain.specs.declared.state.Known.{Known}
use Rattle.reg_plain.specs.Held.{spot_cmp, standing_at, link_at, tag_at, known_at, unknown, IsLeftOf}
use Rattle.reg_plain.specs.InnerChanges.{IsMoved, left_by, staying, is_spot, touched_where, known_where, known_touched_at, known_in}
use Rattle.reg_plain.proofs.MapLaws.{same, same_spot, either}
use Rattle.reg_plain.proofs.ChangeLaws.{doc_of, moment_of, unmoved, moved_then}

-- ---- digests

-- the same is known of all
pub same_moved : (old : State) (ds : BTreeMap (List ℕ) Known) → ((q : List ℕ) → known_in ds q ≡ known_in old.digests q) → IsMoved staying old (record old { digests = ds })
same_moved old ds at = record {
  is = λ entries i. record {
    entries = entries;
    manifests = λ n q. doc_of (standing_at old n q);
    links = λ n q. link_at old n q;
    tags = λ n q. tag_at old n q;
    condemned = λ q. (at q i).condemned;
    manifest_touched = λ n q. moment_of (standing_at old n q);
    blob_touched = λ q. (at q i).touched;
    sizes = λ q. (at q i).size;
  };
  delay = refl;
  last = refl;
  opened = refl;
}

module _ (old : State) (ds : BTreeMap (List ℕ) Known) (digest : List ℕ) (k : Known) (at : (q : List ℕ) → known_in ds q ≡ cond (is_same digest q) k (known_in old.digests q)) where
  -- what is read of it is another thing, or as it was
  becomes : {A : Type 0} (f : Known → A) (w : A) → f k ≡ w → (q : List ℕ) → f (known_in ds q) ≡ cond (is_same digest q) w (f (known_in old.digests q))
  becomes f w is q = ap f (at q) ∙ by (is_same digest q)
    where
      by : (b : Bool) → f (cond b k (known_in old.digests q)) ≡ cond b w (f (known_in old.digests q))
      by true = is
      by false = refl

  stays : {A : Type 0} (f : Known → A) → f k ≡ f (known_in old.digests digest) → (q : List ℕ) → f (known_in ds q) ≡ f (known_in old.digests q)
  stays f is q =
      becomes f (f (known_in old.digests digest)) is q
      ∙ either (is_same digest q)
      (λ t. subst (λ b. cond b (f (known_in old.digests digest)) (f (known_in old.digests q)) ≡ f (known_in old.digests q)) (sym t) (ap (λ d. f (known_in old.digests d)) (same digest q t)))
      (λ e. subst (λ b. cond b (f (known_in old.digests digest)) (f (known_in old.digests q)) ≡ f (known_in old.digests q)) (sym e) refl)

  pub mark_moved : (now : ℕ) → k.touched ≡ Some now → k.size ≡ kept_size (known_in old.digests digest).size → k.condemned ≡ (known_in old.digests digest).condemned
      → IsMoved (left_by 0 now (Mark digest)) old (record old { digests = ds })
  mark_moved now t s c = record {
    is = λ entries i. record {
      entries = entries;
      manifests = λ n q. doc_of (standing_at old n q);
      links = λ n q. link_at old n q;
      tags = λ n q. tag_at old n q;
      condemned = λ q. stays (λ x. x.condemned) c q i;
      manifest_touched = λ n q. unmoved (standing_at old n q) i;
      blob_touched = λ q. becomes (λ x. x.touched) (Some now) t q i;
      sizes = λ q. becomes (λ x. x.size) (kept_size (known_in old.digests digest).size) s q i;
    };
    delay = refl;
    last = refl;
    opened = refl;
  }

  pub blob_moved : (size now : ℕ) → k.touched ≡ Some now → k.size ≡ Some (Some size) → k.condemned ≡ (known_in old.digests digest).condemned
      → IsMoved (left_by 0 now (BroughtBlob digest size)) old (record old { digests = ds })
  blob_moved size now t s c = record {
    is = λ entries i. record {
      entries = entries;
      manifests = λ n q. doc_of (standing_at old n q);
      links = λ n q. link_at old n q;
      tags = λ n q. tag_at old n q;
      condemned = λ q. stays (λ x. x.condemned) c q i;
      manifest_touched = λ n q. unmoved (standing_at old n q) i;
      blob_touched = λ q. becomes (λ x. x.touched) (Some now) t q i;
      sizes = λ q. becomes (λ x. x.size) (Some (Some size)) s q i;
    };
    delay = refl;
    last = refl;
    opened = refl;
  }

  pub doom_moved : (number now : ℕ) → k.touched ≡ (known_in old.digests digest).touched → k.size ≡ (known_in old.digests digest).size → k.condemned ≡ Some (condemned_at number now)
      → IsMoved (left_by number now (Doom digest)) old (record old { digests = ds })
  doom_moved number now t s c = record {
    is = λ entries i. record {
      entries = entries;
      manifests = λ n q. doc_of (standing_at old n q);
      links = λ n q. link_at old n q;
      tags = λ n q. tag_at old n q;
      condemned = λ q. becomes (λ x. x.condemned) (Some (condemned_at number now)) c q i;
      manifest_touched = λ n q. unmoved (standing_at old n q) i;
      blob_touched = λ q. stays (λ x. x.touched) t q i;
      sizes = λ q. stays (λ x. x.size) s q i;
    };
    delay = refl;
    last = refl;
    opened = refl;
  }

  pub erase_moved : k.touched ≡ (known_in old.digests digest).touched → k.size ≡ None → k.condemned ≡ None
      → IsMoved (left_by 0 0 (Erase digest)) old (record old { digests = ds })
  erase_moved t s c = record {
    is = λ entries i. record {
      entries = entries;
      manifests = λ n q. doc_of (standing_at old n q);
      links = λ n q. link_at old n q;
      tags = λ n q. tag_at old n q;
      condemned = λ q. becomes (λ x. x.condemned) None c q i;
      manifest_touched = λ n q. unmoved (standing_at old n q) i;
      blob_touched = λ q. stays (λ x. x.touched) t q i;
      sizes = λ q. becomes (λ x. x.size) None s q i;
    };
    delay = refl;
    last = refl;
    opened = refl;
  }

  pub unlink_moved : (name : List ℕ) (now : ℕ) (ls : BTreeMap (List ℕ × List ℕ) KeptLink)
      → ((key : List ℕ × List ℕ) → tree.get spot_cmp ls key ≡ cond (is_spot (name, digest) key) None (tree.get spot_cmp old.links key))
      → k.touched ≡ Some now → k.size ≡ (known_in old.digests digest).size → k.condemned ≡ (known_in old.digests digest).condemned
      → IsMoved (left_by 0 now (Unlink name digest)) old (record old { links = ls; digests = ds })
  unlink_moved name now ls l t s c = record {
    is = λ entries i. record {
      entries = entries;
      manifests = λ n q. doc_of (standing_at old n q);
      links = λ n q. l (n, q) i;
      tags = λ n q. tag_at old n q;
      condemned = λ q. stays (λ x. x.condemned) c q i;
      manifest_touched = λ n q. unmoved (standing_at old n q) i;
      blob_touched = λ q. becomes (λ x. x.touched) (Some now) t q i;
      sizes = λ q. stays (λ x. x.size) s q i;
    };
    delay = refl;
    last = refl;
    opened = refl;
  }

-- a link changes alone
abbrev pub with_link_at : List ℕ → List ℕ → ℕ → ℕ → Past → Past
with_link_at name digest size now past = record past { links = λ of other. cond (is_at name digest of other) (Some (link_of size now)) (past.links of other) }

pub link_moved : (old : State) (name digest : List ℕ) (size now : ℕ) (ls : BTreeMap (List ℕ × List ℕ) KeptLink)
    → ((key : List ℕ × List ℕ) → tree.get spot_cmp ls key ≡ cond (is_spot (name, digest) key) (Some (link_of size now)) (tree.get spot_cmp old.links key))
    → IsMoved (with_link_at name digest size now) old (record old { links = ls })
link_moved old name digest size now ls l = record {
  is = λ entries i. record {
    entries = entries;
    manifests = λ n q. doc_of (standing_at old n q);
    links = λ n q. l (n, q) i;
    tags = λ n q. tag_at old n q;
    condemned = λ q. (known_at old q).condemned;
    manifest_touched = λ n q. moment_of (standing_at old n q);
    blob_touched = λ q. (known_at old q).touched;
    sizes = λ q. (known_at old q).size;
  };
  delay = refl;
  last = refl;
  opened = refl;
}

-- ---- nothing

pub nothing_left : (delay : ℕ) (ms : BTreeMap (List ℕ × List ℕ) Standing) (ls : BTreeMap (List ℕ × List ℕ) KeptLink) (ts : BTreeMap (List ℕ × List ℕ) (List ℕ)) (ds : BTreeMap (List ℕ) Known)
    → ms.entries ≡ [] → ls.entries ≡ [] → ts.entries ≡ [] → ds.entries ≡ []
    → IsLeftOf nothing (record { delay = delay; last = 0; opened = false; manifests = ms; links = ls; tags = ts; digests = ds })
nothing_left delay ms ls ts ds m l t d = record {
  is = λ i. record {
    entries = [];
    manifests = λ n q. doc_of (lookup (tree.is_at (spot_cmp (n, q))) (sym m i));
    links = λ n q. lookup (tree.is_at (spot_cmp (n, q))) (sym l i);
    tags = λ n q. lookup (tree.is_at (spot_cmp (n, q))) (sym t i);
    condemned = λ q. (unwrap_or (lookup (tree.is_at (slice_cmp nat_cmp q)) (sym d i)) unknown).condemned;
    manifest_touched = λ n q. moment_of (lookup (tree.is_at (spot_cmp (n, q))) (sym m i));
    blob_touched = λ q. (unwrap_or (lookup (tree.is_at (slice_cmp nat_cmp q)) (sym d i)) unknown).touched;
    sizes = λ q. (unwrap_or (lookup (tree.is_at (slice_cmp nat_cmp q)) (sym d i)) unknown).size;
  };
  last = refl;
  opened = refl;
}

pub kept : (o : Option (Option ℕ)) → option_or o (Some None) ≡ kept_size o
kept None = refl
kept (Some s) = refl

-- a link is made, where the digest is there already
pub linked_moved : (old : State) (name digest : List ℕ) (size now : ℕ) (d1 d2 : BTreeMap (List ℕ) Known) (k : Known) (ls : BTreeMap (List ℕ × List ℕ) KeptLink)
    → ((q : List ℕ) → known_in d1 q ≡ known_in old.digests q)
    → ((key : List ℕ × List ℕ) → tree.get spot_cmp ls key ≡ cond (is_spot (name, digest) key) (Some (link_of size now)) (tree.get spot_cmp old.links key))
    → ((q : List ℕ) → known_in d2 q ≡ cond (is_same digest q) k (known_in d1 q))
    → k.touched ≡ Some now → k.size ≡ Some (Some size) → k.condemned ≡ (known_in d1 digest).condemned
    → IsMoved (left_by 0 now (Link name digest size)) old (record old { links = ls; digests = d2 })
linked_moved old name digest size now d1 d2 k ls stays l at t s c =
    let one = record old { digests = d1 } in
    let two = record old { links = ls; digests = d1 } in
    let a : IsMoved staying old one = same_moved old d1 stays in
    let b : IsMoved (with_link_at name digest size now) one two = link_moved one name digest size now ls l in
    let m : IsMoved (left_by 0 now (BroughtBlob digest size)) two (record old { links = ls; digests = d2 }) = blob_moved two d2 digest k at size now t s c in
    moved_then (λ past. with_link_at name digest size now past) (left_by 0 now (BroughtBlob digest size)) old two (record old { links = ls; digests = d2 }) (moved_then staying (with_link_at name digest size now) old one two a b) m

-- What an entry makes of the rows is what the replay makes of them.
use Rattle.std.specs.Prelude.{Result, Ok, Err, OnOk, IfOk, ◌&&◌, ◌||◌, is_some}
use Rattle.std.proofs.Common.{◌≡◌, ℕ, Bool, true, false, cond, List, [], ◌∷◌, Option, Some, None, refl, ap, sym, subst, ◌∙◌}
use Rattle.reg_names.specs.Named.{has_digest}
use Rattle.reg_entries.specs.Documents.{KeptManifest}
use Rattle.reg_journal.specs.declared.entry.Entry.{Entry}
use Rattle.reg_journal.specs.declared.entry.What.{What}
use Rattle.reg_journal.specs.declared.entry.What.TheVariants.{Put, SetTag, DropTag, DropManifest, Mark, Link, Unlink, Brought, BroughtLink, BroughtTag, RemovedManifest, RemovedLink, Opened, BroughtBlob, Collect, DropLink, Doom, Erase}
use Rattle.reg_journal.specs.declared.past.Condemned.{Condemned}
use Rattle.reg_journal.specs.Changes.{is_same, is_at, with_one, points_to, apply, condemned_at}
use Rattle.reg_journal.specs.Past.{Past, next_number}
use Rattle.keeper_api.specs.declared.change.Change.{Change}
use Rattle.keeper_api.specs.Rows as keys
use Rattle.keeper_api.specs.Rows.{Rows, with_row}
use Rattle.reg_tables.specs.Derived.{row_of, with_past, last_row, entry_row, manifest_row, named_row, child_row, link_row, blob_row, takes, without_taken}
use Rattle.reg_tables.specs.InnerPending.{Works}
use Rattle.reg_tables.specs.InnerSteps.{logged, touched_manifests, touched_target, made, without_beside_manifest, without_beside}
use Rattle.reg_tables.specs.Items.{Item, last_number, entry_at, manifest_at, tag_at, named_at, child_at, link_at, blob_at, none_at, elsewhere, item_of}
use Rattle.reg_tables.specs.Keys.{payload_key, manifest_queue_key}
use Rattle.reg_tables.proofs.GatherLaws.{same_is, or_false}
use Rattle.reg_tables.proofs.PendingLaws.{same_key}
use Rattle.reg_tables.proofs.StepLaws.{one_is}
use Rattle.reg_tables.proofs.TouchLaws.{noted}

-- ---- results that are handed on

pub so_on : {A E P Q : Type 0} (result : Result A E) → (P → Q) → OnOk result P → OnOk result Q
so_on (Ok x) so holds = so holds
so_on (Err e) so holds = holds

pub noted_on : {A E F : Type 0} (P : Type 0) (first : Result A E) (result : Result A F) → IfOk result (λ x. first ≡ Ok x) → OnOk first P → OnOk result P
noted_on P first (Ok x) is holds = noted first x is holds
noted_on P first (Err e) is holds = tt

-- by the kind of an entry
pub told_by : {A E : Type 0} (result : Result A E) (rows : Rows) (old new : List Change) (number now : ℕ) (what kind : What) → what ≡ kind → OnOk result (Works rows old new (made number now kind) (without_beside kind))
    → OnOk result (Works rows old new (made number now what) (without_beside what))
told_by result rows old new number now what kind is works = subst (λ (w : What). OnOk result (Works rows old new (made number now w) (without_beside w))) (sym is) works

-- ---- pasts that no row tells apart

record SameRows (p q : Past) : Type 0 where
  entries : p.entries ≡ q.entries
  manifests : (name digest : List ℕ) → p.manifests name digest ≡ q.manifests name digest
  tags : (name tag : List ℕ) → p.tags name tag ≡ q.tags name tag
  links : (name digest : List ℕ) → p.links name digest ≡ q.links name digest
  condemned : (digest : List ℕ) → p.condemned digest ≡ q.condemned digest
  sizes : (digest : List ℕ) → p.sizes digest ≡ q.sizes digest
  blob_touched : (digest : List ℕ) → p.blob_touched digest ≡ q.blob_touched digest
  -- where a manifest stands
  manifest_touched : (name digest : List ℕ) → manifest_row (q.manifests name digest) (p.manifest_touched name digest) ≡ manifest_row (q.manifests name digest) (q.manifest_touched name digest)

same_rows : (p q : Past) (base : Rows) → SameRows p q → with_past p base ≡ with_past q base
same_rows p q base s = λ i key. at (item_of key) (base key) i
  where
    at : (item : Item) (old : Option (List ℕ)) → row_of p item old ≡ row_of q item old
    at last_number old = ap last_row s.entries
    at (entry_at n) old = ap (λ (es : List Entry). entry_row 1 es n) s.entries
    at (manifest_at n d) old = ap (λ (m : Option KeptManifest). manifest_row m (p.manifest_touched n d)) (s.manifests n d) ∙ s.manifest_touched n d
    at (tag_at n t) old = s.tags n t
    at (named_at n m d) old = ap (named_row d) (s.manifests n m)
    at (child_at n m d) old = ap (child_row d) (s.manifests n m)
    at (link_at n d) old = ap link_row (s.links n d)
    at (blob_at d) old =
        ap (λ (c : Option Condemned). blob_row c (p.sizes d) (p.blob_touched d)) (s.condemned d)
        ∙ ap (λ (z : Option (Option ℕ)). blob_row (q.condemned d) z (p.blob_touched d)) (s.sizes d)
        ∙ ap (blob_row (q.condemned d) (q.sizes d)) (s.blob_touched d)
    at none_at old = refl
    at elsewhere old = refl

-- ---- each kind of entry

where_stands : (m : Option KeptManifest) (t : Option ℕ) → manifest_row m t ≡ manifest_row m (cond (is_some m) t None)
where_stands None t = refl
where_stands (Some m) t = refl

either : {A : Type 0} (a b : Bool) (new old : A) → cond a new (cond b new old) ≡ cond (a || b) new old
either true b new old = refl
either false b new old = refl

-- a digest that keeps what it has
kept_one : {A : Type 0} (f : List ℕ → A) (digest other : List ℕ) → with_one f digest (f digest) other ≡ f other
kept_one f digest other = by (is_same digest other) refl
  where
    by : (b : Bool) → is_same digest other ≡ b → cond b (f digest) (f other) ≡ f other
    by true e = ap f (same_is digest other e)
    by false e = refl

module _ (past : Past) (number now : ℕ) (is : number ≡ next_number past) where
  abbrev entry_of : What → Entry
  entry_of what = record { moment = now; what = what }

  -- touched as the kind of entry tells
  told : (m : Option KeptManifest) (t x : Option ℕ) → t ≡ x → manifest_row m t ≡ manifest_row m (cond (is_some m) x None)
  told m t x same = ap (manifest_row m) same ∙ where_stands m x

  one_touched : (name digest of d : List ℕ) (t : Option ℕ) → cond (is_same name of && has_digest d (digest ∷ [])) (Some now) t ≡ cond (is_at name digest of d) (Some now) t
  one_touched name digest of d t = ap (λ b. cond (is_same name of && b) (Some now) t) (one_is d digest)

  one_blob : (digest d : List ℕ) (t : Option ℕ) → cond (has_digest d (digest ∷ [])) (Some now) t ≡ cond (is_same digest d) (Some now) t
  one_blob digest d t = ap (λ b. cond b (Some now) t) (one_is d digest)

  abbrev Agrees : What → Type 0
  Agrees what = SameRows (logged (entry_of what) (made number now what past)) (apply past (entry_of what))

  put_agrees : (name digest : List ℕ) (doc : KeptManifest) → Agrees (Put name digest doc)
  put_agrees name digest doc = record {
    entries = refl;
    manifests = λ n d. refl;
    tags = λ n t. refl;
    links = λ n d. refl;
    condemned = λ d. refl;
    sizes = λ d. refl;
    blob_touched = λ d. refl;
    manifest_touched = λ n d. told _ _ _ (one_touched name digest n d (past.manifest_touched n d));
  }

  brought_agrees : (name digest : List ℕ) (doc : KeptManifest) → Agrees (Brought name digest doc)
  brought_agrees name digest doc = record {
    entries = refl;
    manifests = λ n d. refl;
    tags = λ n t. refl;
    links = λ n d. refl;
    condemned = λ d. refl;
    sizes = λ d. refl;
    blob_touched = λ d. refl;
    manifest_touched = λ n d. told _ _ _ (one_touched name digest n d (past.manifest_touched n d));
  }

  pointed_touched : (name tag digest n d : List ℕ) → cond (is_same name n && has_digest d (digest ∷ [])) (Some now) (cond (is_same name n && points_to d (past.tags name tag)) (Some now) (past.manifest_touched n d))
      ≡ cond (is_at name digest n d || (is_same name n && points_to d (past.tags name tag))) (Some now) (past.manifest_touched n d)
  pointed_touched name tag digest n d =
      one_touched name digest n d (cond (is_same name n && points_to d (past.tags name tag)) (Some now) (past.manifest_touched n d))
      ∙ either (is_at name digest n d) (is_same name n && points_to d (past.tags name tag)) (Some now) (past.manifest_touched n d)

  set_agrees : (name tag digest : List ℕ) → Agrees (SetTag name tag digest)
  set_agrees name tag digest = record {
    entries = refl;
    manifests = λ n d. refl;
    tags = λ n t. refl;
    links = λ n d. refl;
    condemned = λ d. refl;
    sizes = λ d. refl;
    blob_touched = λ d. refl;
    manifest_touched = λ n d. told _ _ _ (pointed_touched name tag digest n d);
  }

  brought_tag_agrees : (name tag digest : List ℕ) → Agrees (BroughtTag name tag digest)
  brought_tag_agrees name tag digest = record {
    entries = refl;
    manifests = λ n d. refl;
    tags = λ n t. refl;
    links = λ n d. refl;
    condemned = λ d. refl;
    sizes = λ d. refl;
    blob_touched = λ d. refl;
    manifest_touched = λ n d. told _ _ _ (pointed_touched name tag digest n d);
  }

  agrees : (what : What) → Agrees what
  agrees (Put name digest doc) = put_agrees name digest doc
  agrees (Brought name digest doc) = brought_agrees name digest doc
  agrees (SetTag name tag digest) = set_agrees name tag digest
  agrees (BroughtTag name tag digest) = brought_tag_agrees name tag digest
  agrees (DropTag name tag) = record {
    entries = refl;
    manifests = λ n d. refl;
    tags = λ n t. refl;
    links = λ n d. refl;
    condemned = λ d. refl;
    sizes = λ d. refl;
    blob_touched = λ d. refl;
    manifest_touched = λ n d. where_stands _ _;
  }
  agrees (DropManifest name digest) = record {
    entries = refl;
    manifests = λ n d. refl;
    tags = λ n t. refl;
    links = λ n d. refl;
    condemned = λ d. refl;
    sizes = λ d. refl;
    blob_touched = λ d. refl;
    manifest_touched = λ n d. where_stands _ _;
  }
  agrees (Collect name digest) = record {
    entries = refl;
    manifests = λ n d. refl;
    tags = λ n t. refl;
    links = λ n d. refl;
    condemned = λ d. refl;
    sizes = λ d. refl;
    blob_touched = λ d. refl;
    manifest_touched = λ n d. where_stands _ _;
  }
  agrees (RemovedManifest name digest) = record {
    entries = refl;
    manifests = λ n d. refl;
    tags = λ n t. refl;
    links = λ n d. refl;
    condemned = λ d. refl;
    sizes = λ d. refl;
    blob_touched = λ d. refl;
    manifest_touched = λ n d. where_stands _ _;
  }
  agrees (Mark digest) = record {
    entries = refl;
    manifests = λ n d. refl;
    tags = λ n t. refl;
    links = λ n d. refl;
    condemned = λ d. refl;
    sizes = λ d. refl;
    blob_touched = λ d. one_blob digest d (past.blob_touched d);
    manifest_touched = λ n d. where_stands _ _;
  }
  agrees (Link name digest size) = record {
    entries = refl;
    manifests = λ n d. refl;
    tags = λ n t. refl;
    links = λ n d. refl;
    condemned = λ d. refl;
    sizes = λ d. refl;
    blob_touched = λ d. one_blob digest d (past.blob_touched d);
    manifest_touched = λ n d. where_stands _ _;
  }
  agrees (BroughtLink name digest size) = record {
    entries = refl;
    manifests = λ n d. refl;
    tags = λ n t. refl;
    links = λ n d. refl;
    condemned = λ d. refl;
    sizes = λ d. refl;
    blob_touched = λ d. one_blob digest d (past.blob_touched d);
    manifest_touched = λ n d. where_stands _ _;
  }
  agrees (BroughtBlob digest size) = record {
    entries = refl;
    manifests = λ n d. refl;
    tags = λ n t. refl;
    links = λ n d. refl;
    condemned = λ d. refl;
    sizes = λ d. refl;
    blob_touched = λ d. one_blob digest d (past.blob_touched d);
    manifest_touched = λ n d. where_stands _ _;
  }
  agrees (Unlink name digest) = record {
    entries = refl;
    manifests = λ n d. refl;
    tags = λ n t. refl;
    links = λ n d. refl;
    condemned = λ d. refl;
    sizes = λ d. refl;
    blob_touched = λ d. one_blob digest d (past.blob_touched d);
    manifest_touched = λ n d. where_stands _ _;
  }
  agrees (RemovedLink name digest) = record {
    entries = refl;
    manifests = λ n d. refl;
    tags = λ n t. refl;
    links = λ n d. refl;
    condemned = λ d. refl;
    sizes = λ d. refl;
    blob_touched = λ d. one_blob digest d (past.blob_touched d);
    manifest_touched = λ n d. where_stands _ _;
  }
  agrees (DropLink name digest) = record {
    entries = refl;
    manifests = λ n d. refl;
    tags = λ n t. refl;
    links = λ n d. refl;
    condemned = λ d. refl;
    sizes = λ d. refl;
    blob_touched = λ d. one_blob digest d (past.blob_touched d);
    manifest_touched = λ n d. where_stands _ _;
  }
  agrees Opened = record {
    entries = refl;
    manifests = λ n d. refl;
    tags = λ n t. refl;
    links = λ n d. refl;
    condemned = λ d. refl;
    sizes = λ d. refl;
    blob_touched = λ d. refl;
    manifest_touched = λ n d. where_stands _ _;
  }
  agrees (Doom digest) = record {
    entries = refl;
    manifests = λ n d. refl;
    tags = λ n t. refl;
    links = λ n d. refl;
    sizes = λ d. refl;
    blob_touched = λ d. refl;
    condemned = λ d. ap (λ (k : ℕ). with_one past.condemned digest (Some (condemned_at k now)) d) is;
    manifest_touched = λ n d. where_stands _ _;
  }
  agrees (Erase digest) = record {
    entries = refl;
    manifests = λ n d. refl;
    tags = λ n t. refl;
    links = λ n d. refl;
    condemned = λ d. refl;
    sizes = λ d. refl;
    blob_touched = λ d. kept_one past.blob_touched digest d;
    manifest_touched = λ n d. where_stands _ _;
  }

-- an entry that is made and logged is applied
pub entered : (past : Past) (base : Rows) (number : ℕ) (entry : Entry) → number ≡ next_number past → with_past (logged entry (made number entry.moment entry.what past)) base ≡ with_past (apply past entry) base
entered past base number entry is = same_rows _ _ base (agrees past number entry.moment is entry.what)

-- the journal waits for it
pub made_entries : (past : Past) (number now : ℕ) (what : What) → (made number now what past).entries ≡ past.entries
made_entries past number now (Put name digest doc) = refl
made_entries past number now (SetTag name tag digest) = refl
made_entries past number now (DropTag name tag) = refl
made_entries past number now (DropManifest name digest) = refl
made_entries past number now (Mark digest) = refl
made_entries past number now (Link name digest size) = refl
made_entries past number now (Unlink name digest) = refl
made_entries past number now (Brought name digest doc) = refl
made_entries past number now (BroughtLink name digest size) = refl
made_entries past number now (BroughtTag name tag digest) = refl
made_entries past number now (RemovedManifest name digest) = refl
made_entries past number now (RemovedLink name digest) = refl
made_entries past number now Opened = refl
made_entries past number now (BroughtBlob digest size) = refl
made_entries past number now (Collect name digest) = refl
made_entries past number now (DropLink name digest) = refl
made_entries past number now (Doom digest) = refl
made_entries past number now (Erase digest) = refl

-- ---- rows beside those of the journal

pub beside_step : (past : Past) (base : Rows) (key : List ℕ) (row : Option (List ℕ)) → item_of key ≡ elsewhere → with_row (with_past past base) key row ≡ with_past past (with_row base key row)
beside_step past base key row is = λ i q. at q i
  where
    at : (q : List ℕ) → with_row (with_past past base) key row q ≡ with_past past (with_row base key row) q
    at q = by (keys.is_at key q) refl
      where
        by : (b : Bool) → keys.is_at key q ≡ b → cond b row (row_of past (item_of q) (base q)) ≡ row_of past (item_of q) (cond b row (base q))
        by true e = sym (ap (λ (k : List ℕ). row_of past (item_of k) row) (sym (same_key key q e)) ∙ ap (λ (i : Item). row_of past i row) is)
        by false e = refl

-- the rows beside a manifest, dropped one after the other
pub beside_manifest : (name digest : List ℕ) (base : Rows) → with_row (with_row base (payload_key name digest) None) (manifest_queue_key name digest) None ≡ without_beside_manifest name digest base
beside_manifest name digest base = λ i q. by (keys.is_at (payload_key name digest) q) (keys.is_at (manifest_queue_key name digest) q) (base q) i
  where
    by : (a b : Bool) (row : Option (List ℕ)) → cond b None (cond a None row) ≡ cond (a || b) None row
    by true true row = refl
    by true false row = refl
    by false true row = refl
    by false false row = refl

-- what one entry takes
pub taken_one : (entry : Entry) (base : Rows) → without_beside entry.what base ≡ without_taken (entry ∷ []) base
taken_one entry base = λ i key. ap (λ b. cond b None (base key)) (sym (or_false (takes entry.what key))) i

-- ---- tags

-- what a tag points to is touched by its digest
pub target_some : (past : Past) (name tag d : List ℕ) (now : ℕ) → Some d ≡ past.tags name tag → touched_manifests name (d ∷ []) now past ≡ touched_target name tag now past
target_some past name tag d now is = λ j. record past { manifest_touched = λ of other. at of other j }
  where
    at : (of other : List ℕ) → cond (is_same name of && has_digest other (d ∷ [])) (Some now) (past.manifest_touched of other) ≡ cond (is_same name of && points_to other (past.tags name tag)) (Some now) (past.manifest_touched of other)
    at of other =
        ap (λ b. cond (is_same name of && b) (Some now) (past.manifest_touched of other)) (one_is other d)
        ∙ ap (λ (t : Option (List ℕ)). cond (is_same name of && points_to other t) (Some now) (past.manifest_touched of other)) is

pub target_none : (past : Past) (name tag : List ℕ) (now : ℕ) → None ≡ past.tags name tag → past ≡ touched_target name tag now past
target_none past name tag now is = λ j. record past { manifest_touched = λ of other. at of other j }
  where
    by : (b : Bool) (t : Option ℕ) → t ≡ cond (b && false) (Some now) t
    by true t = refl
    by false t = refl

    at : (of other : List ℕ) → past.manifest_touched of other ≡ cond (is_same name of && points_to other (past.tags name tag)) (Some now) (past.manifest_touched of other)
    at of other =
        by (is_same name of) (past.manifest_touched of other)
        ∙ ap (λ (t : Option (List ℕ)). cond (is_same name of && points_to other t) (Some now) (past.manifest_touched of other)) is

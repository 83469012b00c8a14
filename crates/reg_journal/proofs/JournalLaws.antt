-- Journals by their entries: what one more adds, and what legal ones leave.
use Rattle.std.proofs.Common.{◌≡◌, ℕ, ◌+◌, ◌≤◌, Bool, true, false, cond, List, [], ◌∷◌, ◌++◌, Option, Some, None, nat_eq, refl, sym, ap, subst, ◌∙◌, append_assoc, arith}
use Rattle.std.specs.Prelude.{◌||◌, ◌&&◌, not, IsSome, is_some, ◌↔◌}
use Rattle.std.specs.List.{count_by}
use Rattle.std.specs.Cmp.Lexicographic.{pointwise, bytes_decides}
use Rattle.std.proofs.lemmas.Bool.{true≢false, and_parts, and_from, or_left}
use Rattle.std.proofs.lemmas.Option.{same_Some}
use Rattle.std.proofs.lemmas.List.{append-nil}
use Rattle.std.proofs.lemmas.List.Folds.{list_any-append}
use Rattle.std.proofs.lemmas.List.Sums.{sum_by-cons}
use Rattle.reg_names.specs.declared.named.Named.{Named}
use Rattle.reg_names.specs.Named.{has_digest, digests_of, free_in}
use Rattle.reg_entries.specs.Documents.{KeptManifest}
use Rattle.reg_journal.specs.declared.entry.Entry.{Entry}
use Rattle.reg_journal.specs.declared.entry.What.{What}
use Rattle.reg_journal.specs.declared.entry.What.TheVariants.{Put, SetTag, DropTag, DropManifest, Mark, Link, Unlink, Brought, BroughtLink, BroughtTag, RemovedManifest, RemovedLink, Opened, BroughtBlob, Collect, DropLink, Doom, Erase}
use Rattle.reg_journal.specs.declared.past.KeptLink.{KeptLink}
use Rattle.reg_journal.specs.declared.past.Condemned.{Condemned}
use Rattle.reg_journal.specs.Kinds.{is_opening, is_early}
use Rattle.reg_journal.specs.Past.{Past, nothing, next_number, is_opened}
use Rattle.reg_journal.specs.Changes.{is_same, is_at, points_to, names_digest, with_one, with_in, link_of, condemned_at, apply, replay_from, replay}
use Rattle.reg_journal.specs.Legal.{Meets, IsLegal, LegalFrom, Legal, made_at}

-- ---- one entry more

pub replay_append : (past : Past) (h es : List Entry) → replay_from past (h ++ es) ≡ replay_from (replay_from past h) es
replay_append past [] es = refl
replay_append past (e ∷ h) es = replay_append (apply past e) h es

entries_from : (past : Past) (h : List Entry) → (replay_from past h).entries ≡ past.entries ++ h
entries_from past [] = sym (append-nil past.entries)
entries_from past (e ∷ h) = entries_from (apply past e) h ∙ append_assoc past.entries (e ∷ []) h

pub entries_are : (h : List Entry) → (replay h).entries ≡ h
entries_are h = entries_from nothing h

module _ (delay : ℕ) where
  pub legal_front : (past : Past) (h es : List Entry) → LegalFrom delay past (h ++ es) → LegalFrom delay past h
  legal_front past [] es l = tt
  legal_front past (e ∷ h) es l = (l.0, legal_front (apply past e) h es l.1)

  pub legal_rest : (past : Past) (h es : List Entry) → LegalFrom delay past (h ++ es) → LegalFrom delay (replay_from past h) es
  legal_rest past [] es l = l
  legal_rest past (e ∷ h) es l = legal_rest (apply past e) h es l.1

  legal_join : (past : Past) (h es : List Entry) → LegalFrom delay past h → LegalFrom delay (replay_from past h) es → LegalFrom delay past (h ++ es)
  legal_join past [] es l m = m
  legal_join past (e ∷ h) es l m = (l.0, legal_join (apply past e) h es l.1 m)

  pub legal_more : (h : List Entry) (e : Entry) → Legal delay (h ++ e ∷ []) ↔ (Legal delay h × IsLegal delay (replay h) e)
  legal_more h e = (λ l. (legal_front nothing h (e ∷ []) l, (legal_rest nothing h (e ∷ []) l).0), λ p. legal_join nothing h (e ∷ []) p.0 (p.1, tt))

-- ---- whether the tables are opened

or_false : (a b : Bool) → (a || (b || false)) ≡ (a || b)
or_false true b = refl
or_false false true = refl
or_false false false = refl

opened_more : (past : Past) (e : Entry) → is_opened (apply past e) ≡ (is_opened past || is_opening e.what)
opened_more past e = list_any-append (λ x. is_opening x.what) past.entries (e ∷ []) ∙ or_false (is_opened past) (is_opening e.what)

unopened_before : (past : Past) (e : Entry) → is_opened (apply past e) ≡ false → is_opened past ≡ false
unopened_before past e h = by (is_opened past) (is_opening e.what) (sym (opened_more past e) ∙ h)
  where
    by : (a b : Bool) → (a || b) ≡ false → a ≡ false
    by true b h = h
    by false b h = refl

opening_is_early : (what : What) → is_opening what ≡ true → is_early what ≡ true
opening_is_early Opened h = refl
opening_is_early (Put name digest doc) h = absurd (true≢false (sym h))
opening_is_early (SetTag name tag digest) h = absurd (true≢false (sym h))
opening_is_early (DropTag name tag) h = absurd (true≢false (sym h))
opening_is_early (DropManifest name digest) h = absurd (true≢false (sym h))
opening_is_early (Mark digest) h = absurd (true≢false (sym h))
opening_is_early (Link name digest size) h = absurd (true≢false (sym h))
opening_is_early (Unlink name digest) h = absurd (true≢false (sym h))
opening_is_early (Brought name digest doc) h = refl
opening_is_early (BroughtLink name digest size) h = refl
opening_is_early (BroughtTag name tag digest) h = refl
opening_is_early (RemovedManifest name digest) h = refl
opening_is_early (RemovedLink name digest) h = refl
opening_is_early (BroughtBlob digest size) h = absurd (true≢false (sym h))
opening_is_early (Collect name digest) h = absurd (true≢false (sym h))
opening_is_early (DropLink name digest) h = absurd (true≢false (sym h))
opening_is_early (Doom digest) h = absurd (true≢false (sym h))
opening_is_early (Erase digest) h = absurd (true≢false (sym h))

or_none : (b : Bool) → (b || false) ≡ b
or_none true = refl
or_none false = refl

-- at most one entry opens the tables, where they may be opened already
opened_once : (delay : ℕ) (past : Past) (es : List Entry) → LegalFrom delay past es → count_by (λ e. is_opening e.what) es + cond (is_opened past) 1 0 ≤ 1
opened_once delay past [] l = by (is_opened past)
  where
    by : (b : Bool) → 0 + cond b 1 0 ≤ 1
    by true = omega arith
    by false = omega arith
opened_once delay past (e ∷ es) l =
    subst (λ n. n + cond (is_opened past) 1 0 ≤ 1) (sym (sum_by-cons (λ x. cond (is_opening x.what) 1 0) e es)) (by (is_opening e.what) refl (opened_once delay (apply past e) es l.1))
  where
    by : (b : Bool) → is_opening e.what ≡ b → count_by (λ x. is_opening x.what) es + cond (is_opened (apply past e)) 1 0 ≤ 1 → (cond b 1 0 + count_by (λ x. is_opening x.what) es) + cond (is_opened past) 1 0 ≤ 1
    by true t more =
        let before : is_opened past ≡ false = l.0.early ∙ ap not (opening_is_early e.what t) in
        let after : is_opened (apply past e) ≡ true = opened_more past e ∙ ap (λ b. is_opened past || b) t ∙ ap (λ b. b || true) before in
        let now : count_by (λ x. is_opening x.what) es + 1 ≤ 1 = subst (λ b. count_by (λ x. is_opening x.what) es + cond b 1 0 ≤ 1) after more in
        subst (λ b. (1 + count_by (λ x. is_opening x.what) es) + cond b 1 0 ≤ 1) (sym before) (omega (arith, now))
    by false t more =
        let after : is_opened (apply past e) ≡ is_opened past = opened_more past e ∙ ap (λ b. is_opened past || b) t ∙ or_none (is_opened past) in
        let now : count_by (λ x. is_opening x.what) es + cond (is_opened past) 1 0 ≤ 1 = subst (λ b. count_by (λ x. is_opening x.what) es + cond b 1 0 ≤ 1) after more in
        omega (arith, now)

pub opened_at_most_once : (delay : ℕ) (h : List Entry) → Legal delay h → count_by (λ e. is_opening e.what) h ≤ 1
opened_at_most_once delay h l = let n = opened_once delay nothing h l in omega (arith, n)

-- ---- what legal entries keep

pub one : (x y : List ℕ) → is_same x y ≡ true → x ≡ y
one x y h = (bytes_decides x y).0 h

pub itself : (x y : List ℕ) → x ≡ y → is_same x y ≡ true
itself x y h = (bytes_decides x y).1 h

-- two values by a test
either : {P : Type 0} (c : Bool) → (c ≡ true → P) → (c ≡ false → P) → P
either true f g = f refl
either false f g = g refl

none_is_some : {A : Type 0} (o : Option A) → IsSome o → o ≡ None → ⊥
none_is_some o h e = true≢false (sym h ∙ ap is_some e)

abbrev Manifests : Type 0
Manifests = List ℕ → List ℕ → Option KeptManifest

abbrev Links : Type 0
Links = List ℕ → List ℕ → Option KeptLink

abbrev TagsOf : Type 0
TagsOf = List ℕ → List ℕ → Option (List ℕ)

abbrev Condemneds : Type 0
Condemneds = List ℕ → Option Condemned

abbrev Pointed : Manifests → TagsOf → Type 0
Pointed manifests tags = (name tag digest : List ℕ) → tags name tag ≡ Some digest → IsSome (manifests name digest)

abbrev Unlinked : Links → Condemneds → Type 0
Unlinked links condemned = (digest name : List ℕ) → IsSome (condemned digest) → links name digest ≡ None

abbrev Freely : Manifests → Condemneds → Type 0
Freely manifests condemned = (digest name of : List ℕ) (m : KeptManifest) → IsSome (condemned digest) → manifests name of ≡ Some m → free_in digest m.named ≡ Some false → ⊥

abbrev Uncondemned : Condemneds → Bool → Type 0
Uncondemned condemned opened = opened ≡ false → (digest : List ℕ) → condemned digest ≡ None

pub record Keeps (past : Past) : Type 0 where
  pub pointed : Pointed past.manifests past.tags
  pub unlinked : Unlinked past.links past.condemned
  pub freely : Freely past.manifests past.condemned
  pub early : Uncondemned past.condemned (is_opened past)

-- one manifest, link, tag or condemned digest is another one
module _ (name digest : List ℕ) where
  pointed_put : (ms : Manifests) (ts : TagsOf) (doc : KeptManifest) → Pointed ms ts → Pointed (with_in ms name digest (Some doc)) ts
  pointed_put ms ts doc h of tag d t = by (is_at name digest of d) (h of tag d t)
    where
      by : (c : Bool) → IsSome (ms of d) → IsSome (cond c (Some doc) (ms of d))
      by true s = refl
      by false s = s

  pointed_without : (ms : Manifests) (ts : TagsOf) → ((tag : List ℕ) → ts name tag ≡ Some digest → ⊥) → Pointed ms ts → Pointed (with_in ms name digest None) ts
  pointed_without ms ts untagged h of tag d t =
      either (is_at name digest of d)
      (λ at. let p = and_parts (is_same name of) (is_same digest d) at in
      absurd (untagged tag (subst (λ n. ts n tag ≡ Some digest) (sym (one name of p.0)) (t ∙ ap Some (sym (one digest d p.1))))))
      (λ at. subst (λ c. IsSome (cond c None (ms of d))) (sym at) (h of tag d t))

  pointed_tag : (ms : Manifests) (ts : TagsOf) (target : List ℕ) → IsSome (ms name target) → Pointed ms ts → Pointed ms (with_in ts name digest (Some target))
  pointed_tag ms ts target stands h of tag d t =
      either (is_at name digest of tag)
      (λ at. let p = and_parts (is_same name of) (is_same digest tag) at in
      let same : target ≡ d = same_Some target d (subst (λ c. cond c (Some target) (ts of tag) ≡ Some d) at t) in
      subst (λ n. IsSome (ms n d)) (one name of p.0) (subst (λ x. IsSome (ms name x)) same stands))
      (λ at. h of tag d (subst (λ c. cond c (Some target) (ts of tag) ≡ Some d) at t))

  pointed_untag : (ms : Manifests) (ts : TagsOf) → Pointed ms ts → Pointed ms (with_in ts name digest None)
  pointed_untag ms ts h of tag d t =
      either (is_at name digest of tag)
      (λ at. absurd (true≢false (ap is_some (sym (subst (λ c. cond c None (ts of tag) ≡ Some d) at t)))))
      (λ at. h of tag d (subst (λ c. cond c None (ts of tag) ≡ Some d) at t))

  pointed_removed : (ms : Manifests) (ts : TagsOf) → Pointed ms ts → Pointed (with_in ms name digest None) (λ of tag. cond (is_same name of && points_to digest (ts of tag)) None (ts of tag))
  pointed_removed ms ts h of tag d t =
      either (is_same name of && points_to digest (ts of tag))
      (λ c. absurd (true≢false (ap is_some (sym (subst (λ c. cond c None (ts of tag) ≡ Some d) c t)))))
      (λ c.
      let target : ts of tag ≡ Some d = subst (λ c. cond c None (ts of tag) ≡ Some d) c t in
      either (is_at name digest of d)
      (λ at. let p = and_parts (is_same name of) (is_same digest d) at in
      absurd (true≢false (sym (and_from _ _ p.0 (ap (points_to digest) target ∙ itself d digest (sym (one digest d p.1)))) ∙ c)))
      (λ at. subst (λ c. IsSome (cond c None (ms of d))) (sym at) (h of tag d target)))

  freely_put : (ms : Manifests) (cs : Condemneds) (doc : KeptManifest) → ((d : List ℕ) → IsSome (cs d) → free_in d doc.named ≡ Some false → ⊥) → Freely ms cs → Freely (with_in ms name digest (Some doc)) cs
  freely_put ms cs doc new h d n of m s e f =
      either (is_at name digest n of)
      (λ at. let same : doc ≡ m = same_Some doc m (subst (λ c. cond c (Some doc) (ms n of) ≡ Some m) at e) in new d s (ap (λ (x : KeptManifest). free_in d x.named) same ∙ f))
      (λ at. h d n of m s (subst (λ c. cond c (Some doc) (ms n of) ≡ Some m) at e) f)

  freely_without : (ms : Manifests) (cs : Condemneds) → Freely ms cs → Freely (with_in ms name digest None) cs
  freely_without ms cs h d n of m s e f =
      either (is_at name digest n of)
      (λ at. absurd (true≢false (ap is_some (sym (subst (λ c. cond c None (ms n of) ≡ Some m) at e)))))
      (λ at. h d n of m s (subst (λ c. cond c None (ms n of) ≡ Some m) at e) f)

  unlinked_link : (ls : Links) (cs : Condemneds) (link : KeptLink) → cs digest ≡ None → Unlinked ls cs → Unlinked (with_in ls name digest (Some link)) cs
  unlinked_link ls cs link none h d n s =
      either (is_at name digest n d)
      (λ at. absurd (none_is_some (cs d) s (ap cs (sym (one digest d (and_parts (is_same name n) (is_same digest d) at).1)) ∙ none)))
      (λ at. ap (λ c. cond c (Some link) (ls n d)) at ∙ h d n s)

  unlinked_without : (ls : Links) (cs : Condemneds) → Unlinked ls cs → Unlinked (with_in ls name digest None) cs
  unlinked_without ls cs h d n s =
      either (is_at name digest n d)
      (λ at. ap (λ c. cond c None (ls n d)) at)
      (λ at. ap (λ c. cond c None (ls n d)) at ∙ h d n s)

some_with_none : (c : Bool) (o : Option Condemned) → IsSome (cond c None o) → IsSome o
some_with_none true o h = absurd (true≢false (sym h))
some_with_none false o h = h

-- what a manifest names is named
named_in : (d : List ℕ) (b : Bool) (ns : List Named) → free_in d ns ≡ Some b → has_digest d (digests_of ns) ≡ true
named_in d b [] e = absurd (true≢false (ap is_some (sym e)))
named_in d b (n ∷ ns) e =
    either (pointwise nat_eq d n.digest)
    (λ t. or_left _ _ t)
    (λ t. ap (λ c. c || has_digest d (digests_of ns)) t ∙ named_in d b ns (subst (λ c. cond c (Some n.free) (free_in d ns) ≡ Some b) t e))

module _ (digest : List ℕ) (cs : Condemneds) where
  unlinked_doom : (ls : Links) (condemned : Condemned) → ((name : List ℕ) → ls name digest ≡ None) → Unlinked ls cs → Unlinked ls (with_one cs digest (Some condemned))
  unlinked_doom ls condemned none h d n s =
      either (is_same digest d)
      (λ t. subst (λ x. ls n x ≡ None) (one digest d t) (none n))
      (λ t. h d n (subst (λ c. IsSome (cond c (Some condemned) (cs d))) t s))

  freely_doom : (ms : Manifests) (condemned : Condemned) → ((name of : List ℕ) → names_digest digest (ms name of) ≡ false) → Freely ms cs → Freely ms (with_one cs digest (Some condemned))
  freely_doom ms condemned unnamed h d n of m s e f =
      either (is_same digest d)
      (λ t. true≢false (sym (named_in digest false m.named (ap (λ x. free_in x m.named) (one digest d t) ∙ f)) ∙ (ap (names_digest digest) (sym e) ∙ unnamed n of)))
      (λ t. h d n of m (subst (λ c. IsSome (cond c (Some condemned) (cs d))) t s) e f)

  unlinked_erase : (ls : Links) → Unlinked ls cs → Unlinked ls (with_one cs digest None)
  unlinked_erase ls h d n s = h d n (some_with_none (is_same digest d) (cs d) s)

  freely_erase : (ms : Manifests) → Freely ms cs → Freely ms (with_one cs digest None)
  freely_erase ms h d n of m s e f = h d n of m (some_with_none (is_same digest d) (cs d) s) e f

  early_erase : (d : List ℕ) → cs d ≡ None → with_one cs digest None d ≡ None
  early_erase d none = by (is_same digest d)
    where
      by : (c : Bool) → cond c None (cs d) ≡ None
      by true = refl
      by false = none

-- each kind of entry keeps this, where it is legal
keeps_what : (delay : ℕ) (past : Past) (now : ℕ) (what : What) → Keeps past → is_opened past ≡ not (is_early what) → Meets delay past now what → Keeps (apply past (made_at now what))
keeps_what delay past now (Put name digest doc) k opened m = record {
  pointed = pointed_put name digest past.manifests past.tags doc k.pointed;
  unlinked = k.unlinked;
  freely = freely_put name digest past.manifests past.condemned doc (λ d s f. none_is_some (past.links name d) (m.named d f) (k.unlinked d name s)) k.freely;
  early = λ h d. k.early (unopened_before past (made_at now (Put name digest doc)) h) d;
}
keeps_what delay past now (Brought name digest doc) k opened m = record {
  pointed = pointed_put name digest past.manifests past.tags doc k.pointed;
  unlinked = k.unlinked;
  freely = freely_put name digest past.manifests past.condemned doc (λ d s f. none_is_some (past.condemned d) s (k.early opened d)) k.freely;
  early = λ h d. k.early (unopened_before past (made_at now (Brought name digest doc)) h) d;
}
keeps_what delay past now (SetTag name tag digest) k opened m = record {
  pointed = pointed_tag name tag past.manifests past.tags digest m k.pointed;
  unlinked = k.unlinked;
  freely = k.freely;
  early = λ h d. k.early (unopened_before past (made_at now (SetTag name tag digest)) h) d;
}
keeps_what delay past now (BroughtTag name tag digest) k opened m = record {
  pointed = pointed_tag name tag past.manifests past.tags digest m k.pointed;
  unlinked = k.unlinked;
  freely = k.freely;
  early = λ h d. k.early (unopened_before past (made_at now (BroughtTag name tag digest)) h) d;
}
keeps_what delay past now (DropTag name tag) k opened m = record {
  pointed = pointed_untag name tag past.manifests past.tags k.pointed;
  unlinked = k.unlinked;
  freely = k.freely;
  early = λ h d. k.early (unopened_before past (made_at now (DropTag name tag)) h) d;
}
keeps_what delay past now (DropManifest name digest) k opened m = record {
  pointed = pointed_without name digest past.manifests past.tags m.untagged k.pointed;
  unlinked = k.unlinked;
  freely = freely_without name digest past.manifests past.condemned k.freely;
  early = λ h d. k.early (unopened_before past (made_at now (DropManifest name digest)) h) d;
}
keeps_what delay past now (Collect name digest) k opened m = record {
  pointed = pointed_without name digest past.manifests past.tags m.0.untagged k.pointed;
  unlinked = k.unlinked;
  freely = freely_without name digest past.manifests past.condemned k.freely;
  early = λ h d. k.early (unopened_before past (made_at now (Collect name digest)) h) d;
}
keeps_what delay past now (RemovedManifest name digest) k opened m = record {
  pointed = pointed_removed name digest past.manifests past.tags k.pointed;
  unlinked = k.unlinked;
  freely = freely_without name digest past.manifests past.condemned k.freely;
  early = λ h d. k.early (unopened_before past (made_at now (RemovedManifest name digest)) h) d;
}
keeps_what delay past now (Mark digest) k opened m = record {
  pointed = k.pointed;
  unlinked = k.unlinked;
  freely = k.freely;
  early = λ h d. k.early (unopened_before past (made_at now (Mark digest)) h) d;
}
keeps_what delay past now Opened k opened m = record {
  pointed = k.pointed;
  unlinked = k.unlinked;
  freely = k.freely;
  early = λ h d. k.early (unopened_before past (made_at now Opened) h) d;
}
keeps_what delay past now (BroughtBlob digest size) k opened m = record {
  pointed = k.pointed;
  unlinked = k.unlinked;
  freely = k.freely;
  early = λ h d. k.early (unopened_before past (made_at now (BroughtBlob digest size)) h) d;
}
keeps_what delay past now (Link name digest size) k opened m = record {
  pointed = k.pointed;
  unlinked = unlinked_link name digest past.links past.condemned (link_of size now) m k.unlinked;
  freely = k.freely;
  early = λ h d. k.early (unopened_before past (made_at now (Link name digest size)) h) d;
}
keeps_what delay past now (BroughtLink name digest size) k opened m = record {
  pointed = k.pointed;
  unlinked = unlinked_link name digest past.links past.condemned (link_of size now) (k.early opened digest) k.unlinked;
  freely = k.freely;
  early = λ h d. k.early (unopened_before past (made_at now (BroughtLink name digest size)) h) d;
}
keeps_what delay past now (Unlink name digest) k opened m = record {
  pointed = k.pointed;
  unlinked = unlinked_without name digest past.links past.condemned k.unlinked;
  freely = k.freely;
  early = λ h d. k.early (unopened_before past (made_at now (Unlink name digest)) h) d;
}
keeps_what delay past now (RemovedLink name digest) k opened m = record {
  pointed = k.pointed;
  unlinked = unlinked_without name digest past.links past.condemned k.unlinked;
  freely = k.freely;
  early = λ h d. k.early (unopened_before past (made_at now (RemovedLink name digest)) h) d;
}
keeps_what delay past now (DropLink name digest) k opened m = record {
  pointed = k.pointed;
  unlinked = unlinked_without name digest past.links past.condemned k.unlinked;
  freely = k.freely;
  early = λ h d. k.early (unopened_before past (made_at now (DropLink name digest)) h) d;
}
keeps_what delay past now (Doom digest) k opened m = record {
  pointed = k.pointed;
  unlinked = unlinked_doom digest past.condemned past.links (condemned_at (next_number past) now) m.0.unlinked k.unlinked;
  freely = freely_doom digest past.condemned past.manifests (condemned_at (next_number past) now) m.0.unnamed k.freely;
  early = λ h d. absurd (true≢false (sym opened ∙ unopened_before past (made_at now (Doom digest)) h));
}
keeps_what delay past now (Erase digest) k opened m = record {
  pointed = k.pointed;
  unlinked = unlinked_erase digest past.condemned past.links k.unlinked;
  freely = freely_erase digest past.condemned past.manifests k.freely;
  early = λ h d. early_erase digest past.condemned d (k.early (unopened_before past (made_at now (Erase digest)) h) d);
}

keeps_all : (delay : ℕ) (past : Past) (es : List Entry) → Keeps past → LegalFrom delay past es → Keeps (replay_from past es)
keeps_all delay past [] k l = k
keeps_all delay past (e ∷ es) k l = keeps_all delay (apply past e) es (keeps_what delay past e.moment e.what k l.0.early l.0.meets) l.1

nothing_keeps : Keeps nothing
nothing_keeps = record {
  pointed = λ name tag digest t. absurd (true≢false (ap is_some (sym t)));
  unlinked = λ digest name s. refl;
  freely = λ digest name of m s e f. true≢false (ap is_some (sym e));
  early = λ h digest. refl;
}

pub legal_keeps : (delay : ℕ) (h : List Entry) → Legal delay h → Keeps (replay h)
legal_keeps delay h l = keeps_all delay nothing h nothing_keeps l

-- the entry behind a beginning is legal
pub legal_at : (delay : ℕ) (h es : List Entry) (e : Entry) → Legal delay (h ++ e ∷ es) → IsLegal delay (replay h) e
legal_at delay h es e l = (legal_rest delay nothing h (e ∷ es) l).0

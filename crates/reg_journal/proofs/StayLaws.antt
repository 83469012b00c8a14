-- What entries leave as it was.
use Rattle.std.proofs.Common.{◌≡◌, ℕ, Bool, false, cond, List, Option, Some, None, refl, sym, ap}
use Rattle.std.specs.Prelude.{◌≢◌, ◌&&◌, IfSome}
use Rattle.std.proofs.lemmas.Bool.{false_from_ne_true, and_left, and_right}
use Rattle.reg_journal.specs.declared.entry.Entry.{Entry}
use Rattle.reg_journal.specs.declared.entry.What.{What}
use Rattle.reg_journal.specs.declared.entry.What.TheVariants.{Put, SetTag, DropTag, DropManifest, Mark, Link, Unlink, Brought, BroughtLink, BroughtTag, RemovedManifest, RemovedLink, Opened, BroughtBlob, Collect, DropLink, Doom, Erase}
use Rattle.reg_journal.specs.Kinds.{repository_of, digest_of}
use Rattle.reg_journal.specs.Past.{Past, next_number, shown}
use Rattle.reg_journal.specs.Changes.{is_same, is_at, points_to, with_one, with_in, kept_size, link_of, condemned_at, apply}
use Rattle.reg_journal.specs.Legal.{made_at}
use Rattle.reg_journal.specs.Staying.{IsSameIn, IsSameAt, IsApart}
use Rattle.reg_journal.proofs.JournalLaws.{one}

-- texts of which the one is not the other
apart : (x y : List ℕ) → Some x ≢ Some y → is_same x y ≡ false
apart x y h = false_from_ne_true (is_same x y) (λ t. h (ap Some (one x y t)))

other : {A : Type 0} (c : Bool) (new old : A) → c ≡ false → cond c new old ≡ old
other c new old e = ap (λ b. cond b new old) e

module _ {A : Type 0} (f : List ℕ → List ℕ → A) (name key : List ℕ) (new : A) where
  -- what is at another repository, and at another digest or tag
  in_other : (of q : List ℕ) → Some name ≢ Some of → with_in f name key new of q ≡ f of q
  in_other of q h = other (is_at name key of q) new (f of q) (and_left (is_same name of) (is_same key q) (apart name of h))

  at_other : (of q : List ℕ) → Some key ≢ Some q → with_in f name key new of q ≡ f of q
  at_other of q h = other (is_at name key of q) new (f of q) (and_right (is_same name of) (is_same key q) (apart key q h))

one_other : {A : Type 0} (f : List ℕ → A) (digest : List ℕ) (new : A) (q : List ℕ) → Some digest ≢ Some q → with_one f digest new q ≡ f q
one_other f digest new q h = other (is_same digest q) new (f q) (apart digest q h)

abbrev untagged : (List ℕ → List ℕ → Option (List ℕ)) → List ℕ → List ℕ → List ℕ → List ℕ → Option (List ℕ)
untagged tags name digest of tag = cond (is_same name of && points_to digest (tags of tag)) None (tags of tag)

same_in : (past : Past) (now : ℕ) (what : What) (name : List ℕ) → repository_of what ≢ Some name → IsSameIn name past (apply past (made_at now what))
same_in past now (Put r d doc) name h = record { manifests = λ q. in_other past.manifests r d (Some doc) name q h; links = λ q. refl; tags = λ q. refl }
same_in past now (SetTag r t d) name h = record { manifests = λ q. refl; links = λ q. refl; tags = λ q. in_other past.tags r t (Some d) name q h }
same_in past now (DropTag r t) name h = record { manifests = λ q. refl; links = λ q. refl; tags = λ q. in_other past.tags r t None name q h }
same_in past now (DropManifest r d) name h = record { manifests = λ q. in_other past.manifests r d None name q h; links = λ q. refl; tags = λ q. refl }
same_in past now (Mark d) name h = record { manifests = λ q. refl; links = λ q. refl; tags = λ q. refl }
same_in past now (Link r d size) name h = record { manifests = λ q. refl; links = λ q. in_other past.links r d (Some (link_of size now)) name q h; tags = λ q. refl }
same_in past now (Unlink r d) name h = record { manifests = λ q. refl; links = λ q. in_other past.links r d None name q h; tags = λ q. refl }
same_in past now (Brought r d doc) name h = record { manifests = λ q. in_other past.manifests r d (Some doc) name q h; links = λ q. refl; tags = λ q. refl }
same_in past now (BroughtLink r d size) name h = record { manifests = λ q. refl; links = λ q. in_other past.links r d (Some (link_of size now)) name q h; tags = λ q. refl }
same_in past now (BroughtTag r t d) name h = record { manifests = λ q. refl; links = λ q. refl; tags = λ q. in_other past.tags r t (Some d) name q h }
same_in past now (RemovedManifest r d) name h = record {
  manifests = λ q. in_other past.manifests r d None name q h;
  links = λ q. refl;
  tags = λ q. other (is_same r name && points_to d (past.tags name q)) None (past.tags name q) (and_left (is_same r name) (points_to d (past.tags name q)) (apart r name h));
}
same_in past now (RemovedLink r d) name h = record { manifests = λ q. refl; links = λ q. in_other past.links r d None name q h; tags = λ q. refl }
same_in past now Opened name h = record { manifests = λ q. refl; links = λ q. refl; tags = λ q. refl }
same_in past now (BroughtBlob d size) name h = record { manifests = λ q. refl; links = λ q. refl; tags = λ q. refl }
same_in past now (Collect r d) name h = record { manifests = λ q. in_other past.manifests r d None name q h; links = λ q. refl; tags = λ q. refl }
same_in past now (DropLink r d) name h = record { manifests = λ q. refl; links = λ q. in_other past.links r d None name q h; tags = λ q. refl }
same_in past now (Doom d) name h = record { manifests = λ q. refl; links = λ q. refl; tags = λ q. refl }
same_in past now (Erase d) name h = record { manifests = λ q. refl; links = λ q. refl; tags = λ q. refl }

same_at : (past : Past) (now : ℕ) (what : What) (digest : List ℕ) → digest_of what ≢ Some digest → IsSameAt digest past (apply past (made_at now what))
same_at past now (Put r d doc) digest h = record { manifests = λ n. at_other past.manifests r d (Some doc) n digest h; links = λ n. refl; sizes = refl; condemned = refl }
same_at past now (SetTag r t d) digest h = record { manifests = λ n. refl; links = λ n. refl; sizes = refl; condemned = refl }
same_at past now (DropTag r t) digest h = record { manifests = λ n. refl; links = λ n. refl; sizes = refl; condemned = refl }
same_at past now (DropManifest r d) digest h = record { manifests = λ n. at_other past.manifests r d None n digest h; links = λ n. refl; sizes = refl; condemned = refl }
same_at past now (Mark d) digest h = record { manifests = λ n. refl; links = λ n. refl; sizes = one_other past.sizes d (kept_size (past.sizes d)) digest h; condemned = refl }
same_at past now (Link r d size) digest h = record { manifests = λ n. refl; links = λ n. at_other past.links r d (Some (link_of size now)) n digest h; sizes = one_other past.sizes d (Some (Some size)) digest h; condemned = refl }
same_at past now (Unlink r d) digest h = record { manifests = λ n. refl; links = λ n. at_other past.links r d None n digest h; sizes = refl; condemned = refl }
same_at past now (Brought r d doc) digest h = record { manifests = λ n. at_other past.manifests r d (Some doc) n digest h; links = λ n. refl; sizes = refl; condemned = refl }
same_at past now (BroughtLink r d size) digest h = record { manifests = λ n. refl; links = λ n. at_other past.links r d (Some (link_of size now)) n digest h; sizes = one_other past.sizes d (Some (Some size)) digest h; condemned = refl }
same_at past now (BroughtTag r t d) digest h = record { manifests = λ n. refl; links = λ n. refl; sizes = refl; condemned = refl }
same_at past now (RemovedManifest r d) digest h = record { manifests = λ n. at_other past.manifests r d None n digest h; links = λ n. refl; sizes = refl; condemned = refl }
same_at past now (RemovedLink r d) digest h = record { manifests = λ n. refl; links = λ n. at_other past.links r d None n digest h; sizes = refl; condemned = refl }
same_at past now Opened digest h = record { manifests = λ n. refl; links = λ n. refl; sizes = refl; condemned = refl }
same_at past now (BroughtBlob d size) digest h = record { manifests = λ n. refl; links = λ n. refl; sizes = one_other past.sizes d (Some (Some size)) digest h; condemned = refl }
same_at past now (Collect r d) digest h = record { manifests = λ n. at_other past.manifests r d None n digest h; links = λ n. refl; sizes = refl; condemned = refl }
same_at past now (DropLink r d) digest h = record { manifests = λ n. refl; links = λ n. at_other past.links r d None n digest h; sizes = refl; condemned = refl }
same_at past now (Doom d) digest h = record { manifests = λ n. refl; links = λ n. refl; sizes = refl; condemned = one_other past.condemned d (Some (condemned_at (next_number past) now)) digest h }
same_at past now (Erase d) digest h = record { manifests = λ n. refl; links = λ n. refl; sizes = one_other past.sizes d None digest h; condemned = one_other past.condemned d None digest h }

-- a tag that points elsewhere stays
not_removed : (r d name : List ℕ) (target : Option (List ℕ)) → IfSome target (λ t. Some d ≢ Some t) → cond (is_same r name && points_to d target) None target ≡ target
not_removed r d name None h = other (is_same r name && false) None None (and_right (is_same r name) false refl)
not_removed r d name (Some t) h =
    other (is_same r name && is_same t d) None (Some t) (and_right (is_same r name) (is_same t d) (apart t d (λ e. h (sym e))))

tag_stays : (past : Past) (now : ℕ) (what : What) (name tag : List ℕ) → IsApart what tag (past.tags name tag) → (apply past (made_at now what)).tags name tag ≡ past.tags name tag
tag_stays past now (Put r d doc) name tag h = refl
tag_stays past now (SetTag r t d) name tag h = at_other past.tags r t (Some d) name tag h.other
tag_stays past now (DropTag r t) name tag h = at_other past.tags r t None name tag h.other
tag_stays past now (DropManifest r d) name tag h = refl
tag_stays past now (Mark d) name tag h = refl
tag_stays past now (Link r d size) name tag h = refl
tag_stays past now (Unlink r d) name tag h = refl
tag_stays past now (Brought r d doc) name tag h = refl
tag_stays past now (BroughtLink r d size) name tag h = refl
tag_stays past now (BroughtTag r t d) name tag h = at_other past.tags r t (Some d) name tag h.other
tag_stays past now (RemovedManifest r d) name tag h = not_removed r d name (past.tags name tag) h.elsewhere
tag_stays past now (RemovedLink r d) name tag h = refl
tag_stays past now Opened name tag h = refl
tag_stays past now (BroughtBlob d size) name tag h = refl
tag_stays past now (Collect r d) name tag h = refl
tag_stays past now (DropLink r d) name tag h = refl
tag_stays past now (Doom d) name tag h = refl
tag_stays past now (Erase d) name tag h = refl

pub others_in : (past : Past) (entry : Entry) (name : List ℕ) → repository_of entry.what ≢ Some name → IsSameIn name past (apply past entry)
others_in past entry name h = same_in past entry.moment entry.what name h

pub others_at : (past : Past) (entry : Entry) (digest : List ℕ) → digest_of entry.what ≢ Some digest → IsSameAt digest past (apply past entry)
others_at past entry digest h = same_at past entry.moment entry.what digest h

pub other_tags : (past : Past) (entry : Entry) (name tag : List ℕ) → IsApart entry.what tag (past.tags name tag) → (apply past entry).tags name tag ≡ past.tags name tag
other_tags past entry name tag h = tag_stays past entry.moment entry.what name tag h

-- an entry that names no repository leaves the state
state_stays : (past : Past) (now : ℕ) (what : What) → repository_of what ≡ None → shown (apply past (made_at now what)) ≡ shown past
state_stays past now (Mark d) h = refl
state_stays past now Opened h = refl
state_stays past now (BroughtBlob d size) h = refl
state_stays past now (Doom d) h = refl
state_stays past now (Erase d) h = refl
state_stays past now (Put r d doc) h = absurd cc
state_stays past now (SetTag r t d) h = absurd cc
state_stays past now (DropTag r t) h = absurd cc
state_stays past now (DropManifest r d) h = absurd cc
state_stays past now (Link r d size) h = absurd cc
state_stays past now (Unlink r d) h = absurd cc
state_stays past now (Brought r d doc) h = absurd cc
state_stays past now (BroughtLink r d size) h = absurd cc
state_stays past now (BroughtTag r t d) h = absurd cc
state_stays past now (RemovedManifest r d) h = absurd cc
state_stays past now (RemovedLink r d) h = absurd cc
state_stays past now (Collect r d) h = absurd cc
state_stays past now (DropLink r d) h = absurd cc

pub same_state : (past : Past) (entry : Entry) → repository_of entry.what ≡ None → shown (apply past entry) ≡ shown past
same_state past entry h = state_stays past entry.moment entry.what h

-- What the slow registry holds, and of which journal it is left.
use Rattle.std.specs.Prelude.{◌≡◌, ℕ, Bool, List, length, MatchBool, Option, None, option_map, unwrap_or}
use Rattle.std.specs.BTreeMap as tree
use Rattle.std.specs.Ordering.{nat_cmp, ordering_then}
use Rattle.std.specs.declared.cmp.Ordering.{Ordering}
use Rattle.std.specs.Cmp.Lexicographic.{slice_cmp}
use Rattle.reg_journal.specs.declared.entry.Entry.{Entry}
use Rattle.reg_journal.specs.declared.past.KeptLink.{KeptLink}
use Rattle.reg_journal.specs.Past.{Past, is_opened}
use Rattle.reg_plain.specs.declared.state.State.{State}
use Rattle.reg_plain.specs.declared.state.Standing.{Standing}
use Rattle.reg_plain.specs.declared.state.Known.{Known}

-- by the name of a repository, and then by the digest or tag
abbrev pub spot_cmp : List ℕ × List ℕ → List ℕ × List ℕ → Ordering
spot_cmp one other = ordering_then (slice_cmp nat_cmp one.0 other.0) (slice_cmp nat_cmp one.1 other.1)

abbrev pub standing_at : State → List ℕ → List ℕ → Option Standing
standing_at state name digest = tree.get spot_cmp state.manifests (name, digest)

abbrev pub link_at : State → List ℕ → List ℕ → Option KeptLink
link_at state name digest = tree.get spot_cmp state.links (name, digest)

abbrev pub tag_at : State → List ℕ → List ℕ → Option (List ℕ)
tag_at state name tag = tree.get spot_cmp state.tags (name, tag)

-- nothing is known
abbrev pub unknown : Known
unknown = record { touched = None; size = None; condemned = None }

abbrev pub known_at : State → List ℕ → Known
known_at state digest = unwrap_or (tree.get (slice_cmp nat_cmp) state.digests digest) unknown

-- what is held behind these entries
abbrev pub held : List Entry → State → Past
held entries state = record {
  entries = entries;
  manifests = λ name digest. option_map (λ m. m.doc) (standing_at state name digest);
  links = λ name digest. link_at state name digest;
  tags = λ name tag. tag_at state name tag;
  condemned = λ digest. (known_at state digest).condemned;
  manifest_touched = λ name digest. option_map (λ m. m.touched) (standing_at state name digest);
  blob_touched = λ digest. (known_at state digest).touched;
  sizes = λ digest. (known_at state digest).size;
}

-- it is what that past left
pub record IsLeftOf (past : Past) (state : State) : Type 0 where
  pub is : past ≡ held past.entries state
  pub last : length past.entries ≡ state.last
  pub opened : is_opened past ≡ state.opened

-- a test that is true where this holds, and false where it does not
abbrev pub Decided : Bool → Type 0 → Type 0
Decided test P = MatchBool test P (¬ P)

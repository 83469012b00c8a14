-- The proof's own: no public clause cites what stands here. What becomes of what is held.
use Rattle.std.specs.Prelude.{◌≡◌, ℕ, Bool, ◌&&◌, if◌then◌else◌, List, Option, Some, None, option_map, is_some, unwrap_or}
use Rattle.std.specs.BTreeMap as tree
use Rattle.std.specs.BTreeMap.{BTreeMap}
use Rattle.std.specs.Ordering.{nat_cmp}
use Rattle.std.specs.Cmp.Lexicographic.{slice_cmp}
use Rattle.reg_journal.specs.declared.entry.Entry.{Entry}
use Rattle.reg_journal.specs.declared.entry.What.{What}
use Rattle.reg_journal.specs.Past.{Past}
use Rattle.reg_journal.specs.Changes.{is_same, changed, touched, touches_manifest, touches_blob, sizes_after}
use Rattle.reg_plain.specs.declared.state.State.{State}
use Rattle.reg_plain.specs.declared.state.Standing.{Standing}
use Rattle.reg_plain.specs.declared.state.Known.{Known}
use Rattle.reg_plain.specs.Held.{held, unknown}

-- ---- what an entry leaves

-- what an entry of this number and moment leaves, before it is counted
abbrev pub left_by : ℕ → ℕ → What → Past → Past
left_by number now what past =
    let after = changed number now what past in
    record after {
      manifest_touched = λ name digest.
          if is_some (after.manifests name digest)
          then touched (touches_manifest past what name digest) now (past.manifest_touched name digest)
          else None;
      blob_touched = λ digest. touched (touches_blob past what digest) now (past.blob_touched digest);
      sizes = sizes_after past.sizes what;
    }

-- nothing becomes of it
abbrev pub staying : Past → Past
staying past = past

-- what is held becomes something else, behind the same entries
pub record IsMoved (step : Past → Past) (old new : State) : Type 0 where
  pub is : (entries : List Entry) → held entries new ≡ step (held entries old)
  pub delay : new.delay ≡ old.delay
  pub last : new.last ≡ old.last
  pub opened : new.opened ≡ old.opened

-- ---- maps

-- whether a repository and a digest or tag are those of a key
abbrev pub is_spot : List ℕ × List ℕ → List ℕ × List ℕ → Bool
is_spot spot key = is_same spot.0 key.0 && is_same spot.1 key.1

-- a manifest, and what is known of a digest, touched at a moment
abbrev pub touched_at : ℕ → Standing → Standing
touched_at now standing = record standing { touched = now }

abbrev pub known_touched_at : ℕ → Known → Known
known_touched_at now known = record known { touched = Some now }

-- the manifest, touched where it stands and the test is true
abbrev pub touched_where : Bool → ℕ → Option Standing → Option Standing
touched_where test now standing =
    if test then option_map (touched_at now) standing else standing

-- what is known of a digest, touched where the digest is there and the test is true
abbrev pub known_where : Bool → ℕ → Option Known → Option Known
known_where test now known = if test then option_map (known_touched_at now) known else known

-- what is known of a digest by a map
abbrev pub known_in : BTreeMap (List ℕ) Known → List ℕ → Known
known_in digests digest = unwrap_or (tree.get (slice_cmp nat_cmp) digests digest) unknown

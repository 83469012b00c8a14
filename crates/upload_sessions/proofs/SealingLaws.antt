-- The bytes that a stage gave to a hasher, a piece at a time.
use Rattle.std.proofs.Common.{◌≡◌, ℕ, ◌+◌, ◌≤◌, List, ◌++◌, length, take, drop, take-append-drop, length-take, length-drop, length-append, Result, Err, ap, sym, subst, ◌∙◌, arith}
use Rattle.std.specs.Prelude.{IsTrue, ⊤}
use Rattle.reg_names.specs.Cause.{OnlyReads}
use Rattle.reg_names.specs.Refusals.{HasFailed}
use Rattle.reg_names.specs.declared.refused.Refused.{Refused}
use Rattle.reg_names.specs.declared.refused.Refused.TheVariants as refusals
use Rattle.reg_digest.specs.Fed.{Holds}
use Rattle.reg_digest.specs.declared.hashing.Hashing.{Hashing}
use Rattle.std.proofs.lemmas.List.{take_at, take-take, drop-take, take_all}
use Rattle.reg_digest.specs.Hashing.{digest_by_sha256, hashes_to}
use Rattle.reg_digest.proofs.HashLaws.{hashes_by}
use Rattle.depot_api.specs.Stages.{Staged, CountsStaged}
use Rattle.upload_sessions.specs.Sealing.{IsSealOf}
use mathlib.Core.HLevel.{is_prop→PathP}
use Rattle.std.proofs.Props.{props}
use Rattle.depot_api.specs.declared.stage.Stage.{Ghosts}
use Rattle.upload_sessions.specs.declared.sealed.Sealed.{Sealed}

-- the next piece behind what was given
pub piece_behind : (bytes buffer filled : List ℕ) (at given : ℕ) → at + given ≤ length bytes → filled ≡ take given (drop at bytes) ++ drop given buffer → take at bytes ++ take given filled ≡ take (at + given) bytes
piece_behind bytes buffer filled at given within is =
    let long : length (take given (drop at bytes)) ≡ given = omega (arith, length-take given (drop at bytes), length-drop at bytes) in
    let piece : take given filled ≡ take given (drop at bytes) = ap (take given) is ∙ take_at (take given (drop at bytes)) (drop given buffer) given long in
    let front : take at (take (at + given) bytes) ≡ take at bytes = take-take at (at + given) bytes (omega arith) in
    let behind : drop at (take (at + given) bytes) ≡ take given (drop at bytes) = drop-take at given bytes in
    ap (λ (xs : List ℕ). take at bytes ++ xs) (piece ∙ sym behind) ∙ ap (λ (xs : List ℕ). xs ++ drop at (take (at + given) bytes)) (sym front) ∙ take-append-drop at (take (at + given) bytes)

pub fed_on : (staged before : Staged) (hashing next : Hashing) (at given : ℕ) (buffer filled : List ℕ) → before ≡ staged → CountsStaged staged → at + given ≤ staged.count → (IsTrue staged.tells → Holds hashing (take at staged.bytes))
    → (IsTrue before.tells → filled ≡ take given (drop at before.bytes) ++ drop given buffer) → ((fed : List ℕ) → Holds hashing fed → Holds next (fed ++ take given filled)) → IsTrue staged.tells → Holds next (take (at + given) staged.bytes)
fed_on staged before hashing next at given buffer filled same counts within fed fills feeds tells =
    let is : filled ≡ take given (drop at staged.bytes) ++ drop given buffer = subst (λ (s : Staged). IsTrue s.tells → filled ≡ take given (drop at s.bytes) ++ drop given buffer) same fills tells in
    let inside : at + given ≤ length staged.bytes = omega (arith, within, counts tells) in
    subst (λ (bytes : List ℕ). Holds next bytes) (piece_behind staged.bytes buffer filled at given inside is) (feeds (take at staged.bytes) (fed tells))

-- the digest of all that was fed
pub digest_of_all : (staged : Staged) (digest : List ℕ) (hashing : Hashing) (at : ℕ) → CountsStaged staged → staged.count ≤ at → (IsTrue staged.tells → Holds hashing (take at staged.bytes)) → ((fed : List ℕ) → Holds hashing fed → digest ≡ digest_by_sha256 fed)
    → IsTrue staged.tells → IsTrue (hashes_to digest staged.bytes)
digest_of_all staged digest hashing at counts all fed done tells =
    let long : length staged.bytes ≤ at = omega (arith, all, counts tells) in
    hashes_by digest staged.bytes (take at staged.bytes) (done (take at staged.bytes) (fed tells)) (take_all at staged.bytes long)

-- ---- what reads leave

module _ {S : Type 0} (held : S → Staged) (faults : S → ℕ) where
  pub reads_on : (one two three : S) (failed : Type 0) → OnlyReads held faults one two ⊥ → OnlyReads held faults two three failed → OnlyReads held faults one three ⊥
  reads_on one two three failed h k = record {
    held_stays = k.held_stays ∙ h.held_stays;
    cause = record { later = omega (arith, h.cause.later, k.cause.later); rose = λ none. absurd none };
  }

  pub has_failed : {A : Type 0} (result : Result A Refused) (refused : Refused) (one two : S) → result ≡ Err refused → refused ≡ refusals.Failed → OnlyReads held faults one two (HasFailed result) → OnlyReads held faults one two ⊤
  has_failed result refused one two is fault h = record {
    held_stays = h.held_stays;
    cause = record { later = h.cause.later; rose = λ _. h.cause.rose (is ∙ ap (λ (r : Refused). Err r) fault) };
  }

pub appended_is_sealed : (before appended : Staged) (piece digest : List ℕ) (size : ℕ) → IsTrue appended.tells → CountsStaged appended → appended.bytes ≡ before.bytes ++ piece → IsSealOf appended digest size
    → IsTrue (hashes_to digest (before.bytes ++ piece)) × (size ≡ length before.bytes + length piece)
appended_is_sealed before appended piece digest size tells counts is seal = (
  subst (λ (b : List ℕ). IsTrue (hashes_to digest b)) is (seal.hashed tells),
  seal.counted ∙ counts tells ∙ ap length is ∙ length-append before.bytes piece,
)

-- ---- sealed bytes

-- of one stage, digest and size there is one sealed value
pub same_sealed : {S : Type 0} {g : Ghosts S} (one two : Sealed S g) → one.stage ≡ two.stage → one.digest ≡ two.digest → one.size ≡ two.size → one ≡ two
same_sealed {S} {g} one two stage digest size = λ i. record {
  stage = stage i;
  digest = digest i;
  size = size i;
  counted = is_prop→PathP (λ j. size j ≡ (g.held (stage j)).count) (λ j. hlevel props) one.counted two.counted i;
  hashed = is_prop→PathP (λ j. IsTrue (g.held (stage j)).tells → IsTrue (hashes_to (digest j) (g.held (stage j)).bytes)) (λ j. hlevel props) one.hashed two.hashed i;
}

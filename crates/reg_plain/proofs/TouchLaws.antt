-- What is touched by one item of a list more.
use Rattle.std.proofs.Common.{◌≡◌, ℕ, ◌+◌, ◌<◌, Bool, true, false, List, [], ◌∷◌, ◌++◌, length, get_or, take, Option, Some, None, refl, sym, ap, ◌∙◌, add-one}
use Rattle.std.specs.Prelude.{◌&&◌, ◌||◌}
use Rattle.std.proofs.Math.Seq.{take-suc}
use Rattle.std.proofs.lemmas.List.Folds.{list_any-append}
use Rattle.std.specs.Cmp.Lexicographic.{pointwise}
use Rattle.std.specs.Prelude.{nat_eq}
use Rattle.reg_names.specs.declared.named.Named.{Named}
use Rattle.reg_names.specs.Named.{has_digest, digests_of}
use Rattle.reg_journal.specs.Changes.{is_same}
use Rattle.reg_plain.specs.declared.state.Standing.{Standing}
use Rattle.reg_plain.specs.declared.state.Known.{Known}
use Rattle.reg_plain.specs.InnerChanges.{touched_where, known_where}
use Rattle.reg_plain.proofs.MapLaws.{turned}

or_none : (a b : Bool) → (a || (b || false)) ≡ (a || b)
or_none true b = refl
or_none false true = refl
or_none false false = refl

-- the item at a place is told by what a loop reads there
pub one_digest_more : (digests : List (List ℕ)) (i : ℕ) (d q : List ℕ) → d ≡ get_or digests i d → i < length digests
    → has_digest q (take (i + 1) digests) ≡ (has_digest q (take i digests) || is_same d q)
one_digest_more digests i d q at h =
    ap (has_digest q) (ap (λ k. take k digests) (add-one i) ∙ take-suc digests i d h)
    ∙ list_any-append (pointwise nat_eq q) (take i digests) (get_or digests i d ∷ [])
    ∙ or_none (has_digest q (take i digests)) (is_same q (get_or digests i d))
    ∙ ap (λ b. has_digest q (take i digests) || b) (turned q (get_or digests i d) ∙ ap (λ x. is_same x q) (sym at))

named_append : (q : List ℕ) (ns : List Named) (n : Named) → has_digest q (digests_of (ns ++ n ∷ [])) ≡ (has_digest q (digests_of ns) || is_same q n.digest)
named_append q [] n = or_none false (is_same q n.digest)
named_append q (m ∷ ns) n = ap (λ b. is_same q m.digest || b) (named_append q ns n) ∙ by (is_same q m.digest)
  where
    by : (b : Bool) → (b || (has_digest q (digests_of ns) || is_same q n.digest)) ≡ ((b || has_digest q (digests_of ns)) || is_same q n.digest)
    by true = refl
    by false = refl

pub one_named_more : (named : List Named) (i : ℕ) (d : Named) (q : List ℕ) → d ≡ get_or named i d → i < length named
    → has_digest q (digests_of (take (i + 1) named)) ≡ (has_digest q (digests_of (take i named)) || is_same d.digest q)
one_named_more named i d q at h =
    ap (λ ns. has_digest q (digests_of ns)) (ap (λ k. take k named) (add-one i) ∙ take-suc named i d h)
    ∙ named_append q (take i named) (get_or named i d)
    ∙ ap (λ b. has_digest q (digests_of (take i named)) || b) (turned q (get_or named i d).digest ∙ ap (λ (n : Named). is_same n.digest q) (sym at))

-- touched twice is touched once
pub touched_again : (here before one : Bool) (now : ℕ) (o : Option Standing) → touched_where (here && one) now (touched_where (here && before) now o) ≡ touched_where (here && (before || one)) now o
touched_again false before one now o = refl
touched_again true false one now o = refl
touched_again true true false now o = refl
touched_again true true true now None = refl
touched_again true true true now (Some s) = refl

pub known_again : (before one : Bool) (now : ℕ) (o : Option Known) → known_where one now (known_where before now o) ≡ known_where (before || one) now o
known_again false one now o = refl
known_again true false now o = refl
known_again true true now None = refl
known_again true true now (Some s) = refl

pub none_touched : (here : Bool) (now : ℕ) (o : Option Standing) → o ≡ touched_where (here && false) now o
none_touched true now o = refl
none_touched false now o = refl

-- one of two tests is true
pub one_of : {P : Type 0} (a b : Bool) → (a ≡ true → P) → (b ≡ true → P) → (a || b) ≡ true → P
one_of true b f g t = f refl
one_of false b f g t = g t

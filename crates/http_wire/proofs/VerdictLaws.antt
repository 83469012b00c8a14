-- One verdict at most holds of a stream.
use Rattle.std.proofs.Common.{◌≡◌, ℕ, ◌≤◌, true, List, ◌++◌, length, refl, sym, ap, subst, ◌∙◌, arith, append_assoc, length-append, inl, inr}
use Rattle.std.proofs.lemmas.Bool.{false≢true}
use Rattle.httparse.specs.Grammar.{RequestHead, print_request, ReadsRequest, HasNoRequest}
use Rattle.httparse.proofs.GrammarLemmas.{request_unique}
use Rattle.http_wire.specs.Heads.{has_line, IsOpen, BeginsWithHead, IsMalformed, IsOverfull, IsNothing, IsCutHead, Verdict, begins, is_nothing, is_cut, is_malformed, is_too_large, Holds}
use Rattle.http_wire.proofs.LineLaws.{longer, has_line-append, no_line_in_blank, head_has_line}

-- a front of a stream with a head, which is as long as the head, has it too
front_has_head : (front rest : List ℕ) (h : RequestHead) (after : List ℕ) → ReadsRequest (front ++ rest) h after
    → length (print_request h) ≤ length front → HasNoRequest front → ⊥
front_has_head front rest h after reads fits none =
    let more = longer (print_request h) after front rest (sym reads.1) fits in
    none h more.0 (reads.0, more.1)

head_not_malformed : (bytes : List ℕ) (h : RequestHead) (rest : List ℕ) → ReadsRequest bytes h rest → IsMalformed bytes → ⊥
head_not_malformed bytes h rest reads (begin, after, split, few, (line, never)) =
    never after h rest (subst (λ (b : List ℕ). ReadsRequest b h rest) split reads)

head_not_overfull : (bytes : List ℕ) (h : RequestHead) (rest : List ℕ) → BeginsWithHead bytes h rest → IsOverfull bytes → ⊥
head_not_overfull bytes h rest (reads, fits) (begin, after, split, full, open_begin) =
    front_has_head begin after h rest (subst (λ (b : List ℕ). ReadsRequest b h rest) split reads) (omega arith) open_begin.0

head_not_nothing : (bytes : List ℕ) (h : RequestHead) (rest : List ℕ) → ReadsRequest bytes h rest → IsNothing bytes → ⊥
head_not_nothing bytes h rest reads (few, all) = false≢true (sym (no_line_in_blank bytes all) ∙ head_has_line bytes h rest reads)

malformed_has_line : (bytes : List ℕ) → IsMalformed bytes → has_line bytes ≡ true
malformed_has_line bytes (begin, after, split, few, (line, never)) = ap has_line split ∙ has_line-append begin after line

malformed_not_open : (bytes : List ℕ) → IsMalformed bytes → IsOpen bytes → ⊥
malformed_not_open bytes (begin, after, split, few, (line, never)) is_open =
    let may = is_open.1 (ap has_line split ∙ has_line-append begin after line) in
    never (after ++ may.0) may.1 may.2 (subst (λ (b : List ℕ). ReadsRequest b may.1 may.2) (ap (λ (b : List ℕ). b ++ may.0) split ∙ append_assoc begin after may.0) may.3)

malformed_not_overfull : (bytes : List ℕ) → IsMalformed bytes → IsOverfull bytes → ⊥
malformed_not_overfull bytes (begin, after, split, few, (line, never)) (whole, rest, cut, full, open_whole) =
    let more = longer begin after whole rest (sym split ∙ cut) (omega arith) in
    malformed_not_open whole (begin, more.0, more.1, few, (line, never)) open_whole

overfull_is_long : (bytes : List ℕ) → IsOverfull bytes → 16384 ≤ length bytes
overfull_is_long bytes (begin, after, split, full, open_begin) = omega (arith, ap length split, length-append begin after)

too_large : (bytes : List ℕ) (h : RequestHead) (rest : List ℕ) → BeginsWithHead bytes h rest → length h.fields ≤ 64 → Holds bytes is_too_large → ⊥
too_large bytes h rest x few (inl overfull) = head_not_overfull bytes h rest x overfull
too_large bytes h rest x few (inr (k, after, y, many)) =
    let same = request_unique bytes h k rest after x.0 y.0 in
    omega (arith, ap (λ (head : RequestHead). length head.fields) same.0)

nothing_too_large : (bytes : List ℕ) → IsNothing bytes → Holds bytes is_too_large → ⊥
nothing_too_large bytes x (inl overfull) = omega (arith, overfull_is_long bytes overfull, x.0)
nothing_too_large bytes x (inr (h, rest, y, many)) = head_not_nothing bytes h rest y.0 x

cut_too_large : (bytes : List ℕ) → IsCutHead bytes → Holds bytes is_too_large → ⊥
cut_too_large bytes x (inl overfull) = omega (arith, overfull_is_long bytes overfull, x.0)
cut_too_large bytes x (inr (h, rest, y, many)) = x.1.0 h rest y.0

malformed_too_large : (bytes : List ℕ) → IsMalformed bytes → Holds bytes is_too_large → ⊥
malformed_too_large bytes x (inl overfull) = malformed_not_overfull bytes x overfull
malformed_too_large bytes x (inr (h, rest, y, many)) = head_not_malformed bytes h rest y.0 x

pub apart : (bytes : List ℕ) (one other : Verdict) → Holds bytes one → Holds bytes other → one ≡ other
apart bytes (begins h rest) (begins k after) (x, few) (y, also) =
    let same = request_unique bytes h k rest after x.0 y.0 in
    λ i. begins (same.0 i) (same.1 i)
apart bytes (begins h rest) is_nothing (x, few) y = absurd (head_not_nothing bytes h rest x.0 y)
apart bytes (begins h rest) is_cut (x, few) y = absurd (y.1.0 h rest x.0)
apart bytes (begins h rest) is_malformed (x, few) y = absurd (head_not_malformed bytes h rest x.0 y)
apart bytes (begins h rest) is_too_large (x, few) y = absurd (too_large bytes h rest x few y)
apart bytes is_nothing (begins h rest) x (y, few) = absurd (head_not_nothing bytes h rest y.0 x)
apart bytes is_nothing is_nothing x y = refl
apart bytes is_nothing is_cut x y = absurd (false≢true (sym y.2 ∙ x.1))
apart bytes is_nothing is_malformed x y = absurd (false≢true (sym (no_line_in_blank bytes x.1) ∙ malformed_has_line bytes y))
apart bytes is_nothing is_too_large x y = absurd (nothing_too_large bytes x y)
apart bytes is_cut (begins h rest) x (y, few) = absurd (x.1.0 h rest y.0)
apart bytes is_cut is_nothing x y = absurd (false≢true (sym x.2 ∙ y.1))
apart bytes is_cut is_cut x y = refl
apart bytes is_cut is_malformed x y = absurd (malformed_not_open bytes y x.1)
apart bytes is_cut is_too_large x y = absurd (cut_too_large bytes x y)
apart bytes is_malformed (begins h rest) x (y, few) = absurd (head_not_malformed bytes h rest y.0 x)
apart bytes is_malformed is_nothing x y = absurd (false≢true (sym (no_line_in_blank bytes y.1) ∙ malformed_has_line bytes x))
apart bytes is_malformed is_cut x y = absurd (malformed_not_open bytes x y.1)
apart bytes is_malformed is_malformed x y = refl
apart bytes is_malformed is_too_large x y = absurd (malformed_too_large bytes x y)
apart bytes is_too_large (begins h rest) x (y, few) = absurd (too_large bytes h rest y few x)
apart bytes is_too_large is_nothing x y = absurd (nothing_too_large bytes y x)
apart bytes is_too_large is_cut x y = absurd (cut_too_large bytes y x)
apart bytes is_too_large is_malformed x y = absurd (malformed_too_large bytes y x)
apart bytes is_too_large is_too_large x y = refl

-- From what waits in a feed to what the stream is.
use Rattle.std.proofs.Common.{◌≡◌, ℕ, zero, suc, ◌+◌, ◌-◌, ◌<◌, ◌≤◌, true, false, List, [], ◌∷◌, ◌++◌, length, take, drop, slice_range, refl, sym, ap, subst, ◌∙◌, arith, append-nil, append_assoc, length-take, length-drop, inl, inr, Option, Some, None, Ok}
use Rattle.std.proofs.lemmas.List.{drop-drop, drop-take}
use lib.Seq.{take-add}
use Rattle.std.specs.Io.KnownBytes.{prepend_known, Keeps, Consumes, IsAtEnd}
use Rattle.http_wire.specs.declared.head.Heading.{Heading}
use Rattle.http_wire.specs.Answers.{TellsHead}
use Rattle.http_wire.specs.InnerHeads.{Judges, EndsAs}
use Rattle.std.specs.List.{list_all}
use Rattle.httparse.specs.Pieces.{is_newline}
use Rattle.http_wire.specs.Flow.{Flow, spent, IsBounded, OnStream}
use Rattle.http_wire.specs.Heads.{IsOpen}

-- a call that kept the stream left it as it was
pub stays : (old new : Option (List ℕ)) → Keeps old new → OnStream old new (λ a b. b ≡ a)
stays None new x = tt
stays (Some a) None x = x
stays (Some a) (Some b) x = x

-- what waits once bytes were taken off the front
pub skipped : (b : List ℕ) (start count end : ℕ) → start + count ≤ end → slice_range b (start + count) end ≡ drop count (slice_range b start end)
skipped b start count end fits =
    let m = end - (start + count) in
    let e : count + m ≡ end - start = omega arith in
    ap (take m) (sym (drop-drop count start b)) ∙ sym (drop-take count m (drop start b)) ∙ ap (λ (k : ℕ). drop count (take k (drop start b))) e

-- what waits once bytes came in behind
pub filled : (b p : List ℕ) (w n : ℕ) → take w b ≡ p → slice_range b 0 (w + n) ≡ p ++ take n (drop w b)
filled b p w n front =
    let e : w + n - 0 ≡ w + n = omega arith in
    ap (λ (k : ℕ). take k b) e ∙ take-add w n b ∙ ap (λ (f : List ℕ). f ++ take n (drop w b)) front

-- a reader that took bytes off the front has moved on
pub moved_on : (before flow after : Flow) (count : ℕ) → spent flow ≡ spent before → IsBounded flow → 0 < count → count ≤ length flow.pending
    → after.pending ≡ drop count flow.pending → after.taken ≡ flow.taken → spent before + count ≤ spent after
moved_on before flow after count same bounded some fits pending taken =
    omega (arith, bounded.0, ap length pending, length-drop count flow.pending)

-- bytes that a source gave behind those that wait
pub refilled : (p t : List ℕ) (left now : Option (List ℕ)) → Consumes left now t → Keeps (prepend_known p left) (prepend_known (p ++ t) now)
refilled p t None now x = tt
refilled p t (Some xs) None x = absurd x
refilled p t (Some xs) (Some ys) x = append_assoc p t ys ∙ ap (λ (b : List ℕ). p ++ b) (sym x)

pub ends : (old left : Option (List ℕ)) (p : List ℕ) (answer : Heading) → Keeps old (prepend_known p left) → IsAtEnd left
    → Judges (Ok None) p → EndsAs answer p → OnStream old (prepend_known p left) (TellsHead answer)
ends None left p answer kept over x y = tt
ends (Some a) None p answer kept over x y = kept
ends (Some a) (Some q) p answer kept over x (inl (blank, is_end)) =
    let same : a ≡ p = sym kept ∙ ap (λ (b : List ℕ). p ++ b) over ∙ append-nil p in
    subst (λ (v : Heading). TellsHead v a (p ++ q)) (sym is_end) (subst (λ (b : List ℕ). (length b < 16384) × (list_all is_newline b ≡ true)) (sym same) (x.1, blank), kept)
ends (Some a) (Some q) p answer kept over x (inr (blank, is_cut)) =
    let same : a ≡ p = sym kept ∙ ap (λ (b : List ℕ). p ++ b) over ∙ append-nil p in
    subst (λ (v : Heading). TellsHead v a (p ++ q)) (sym is_cut) (subst (λ (b : List ℕ). (length b < 16384) × IsOpen b × (list_all is_newline b ≡ false)) (sym same) (x.1, x.0, blank), kept)

pub pending_fits : (b : List ℕ) (start end count : ℕ) → start ≤ end → count ≤ length (slice_range b start end) → start + count ≤ end
pending_fits b start end count ordered few = omega (arith, length-take (end - start) (drop start b))

-- ---- streams before, between and after two calls

pub on_then : {P Q R : List ℕ → List ℕ → Type 0} (a b c : Option (List ℕ)) → OnStream a b P → OnStream b c Q
    → ((x y z : List ℕ) → P x y → Q y z → R x z) → OnStream a c R
on_then None b c p q both = tt
on_then (Some x) None c p q both = absurd p
on_then (Some x) (Some y) None p q both = q
on_then (Some x) (Some y) (Some z) p q both = both x y z p q

pub on_then_both : {P Q T R : List ℕ → List ℕ → Type 0} (a b c : Option (List ℕ)) → OnStream a b P → OnStream b c Q → OnStream b c T
    → ((x y z : List ℕ) → P x y → Q y z → T y z → R x z) → OnStream a c R
on_then_both None b c p q t all = tt
on_then_both (Some x) None c p q t all = absurd p
on_then_both (Some x) (Some y) None p q t all = q
on_then_both (Some x) (Some y) (Some z) p q t all = all x y z p q t

pub on_both : {P Q R : List ℕ → List ℕ → Type 0} (a b : Option (List ℕ)) → OnStream a b P → OnStream a b Q → ((x y : List ℕ) → P x y → Q x y → R x y) → OnStream a b R
on_both None b p q both = tt
on_both (Some x) None p q both = absurd p
on_both (Some x) (Some y) p q both = both x y p q

pub on_same : {P Q : List ℕ → List ℕ → Type 0} (a b : Option (List ℕ)) → OnStream a b P → ((x y : List ℕ) → P x y → Q x y) → OnStream a b Q
on_same None b p with_it = tt
on_same (Some x) None p with_it = absurd p
on_same (Some x) (Some y) p with_it = with_it x y p

-- ---- parts of a buffer

pub slice_split : (b : List ℕ) (start middle end : ℕ) → start ≤ middle → middle ≤ end → slice_range b start end ≡ slice_range b start middle ++ slice_range b middle end
slice_split b start middle end first second =
    let n = middle - start in
    let m = end - middle in
    let e : end - start ≡ n + m = omega arith in
    let k : start + n ≡ middle = omega arith in
    ap (λ (i : ℕ). take i (drop start b)) e ∙ take-add n m (drop start b)
    ∙ ap (λ (t : List ℕ). take n (drop start b) ++ take m t) (drop-drop n start b ∙ ap (λ (i : ℕ). drop i b) k)

take_front : (a b : List ℕ) (n : ℕ) → n ≡ length a → take n (a ++ b) ≡ a
take_front a b n is = ap (λ (k : ℕ). take k (a ++ b)) is ∙ whole a b
  where
    whole : (a b : List ℕ) → take (length a) (a ++ b) ≡ a
    whole [] b = refl
    whole (x ∷ a) b = ap (λ (t : List ℕ). x ∷ t) (whole a b)

pub length_slice : (b : List ℕ) (start end : ℕ) → start ≤ end → end ≤ length b → length (slice_range b start end) ≡ end - start
length_slice b start end ordered within = omega (arith, length-take (end - start) (drop start b), length-drop start b)

-- bytes copied off the front
pub copied : (b p s room : List ℕ) (start end n : ℕ) → start ≤ end → end ≤ length b → n ≤ end - start → slice_range b start end ≡ p → s ≡ slice_range b start (start + n)
    → p ≡ take n (s ++ room) ++ slice_range b (start + n) end
copied b p s room start end n ordered within few is same =
    let long : n ≡ length s = omega (arith, ap length same, length_slice b start (start + n) (omega arith) (omega arith)) in
    sym is ∙ slice_split b start (start + n) end (omega arith) (omega arith) ∙ ap (λ (t : List ℕ). t ++ slice_range b (start + n) end) (sym same ∙ sym (take_front s room n long))

pub drop_front : (n : ℕ) (a b : List ℕ) → n ≤ length a → drop n (a ++ b) ≡ drop n a ++ b
drop_front zero a b fits = refl
drop_front (suc n) [] b fits = absurd (omega arith)
drop_front (suc n) (x ∷ a) b fits = drop_front n a b (omega arith)

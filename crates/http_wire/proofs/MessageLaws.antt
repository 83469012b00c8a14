-- A stream has one list of messages, and no message begins another.
use Rattle.std.proofs.Common.{◌≡◌, ℕ, ◌≤◌, true, false, List, [], ◌∷◌, ◌++◌, refl, sym, ap, subst, ◌∙◌, arith, length-append, inl, inr, ◌⊎◌, Option, Some, None}
use Rattle.std.proofs.lemmas.Bool.{false≢true}
use Rattle.std.proofs.lemmas.List.{take-append-le, drop-append-le}
use Rattle.httparse.specs.Grammar.{RequestHead}
use Rattle.httparse.proofs.GrammarLemmas.{ReadsRequest-append}
use Rattle.http_wire.specs.declared.body.BodyState.{BodyState}
use Rattle.http_wire.specs.declared.body.BodyState.TheVariants as states
use Rattle.http_wire.specs.Bodies.{Outcome, ends_before, is_cut_short, is_malformed, Goes, Stops, Runs, stops, goes}
use Rattle.http_wire.specs.Heads.{Verdict, begins, is_nothing, is_cut, is_too_large, Holds}
use Rattle.http_wire.specs.Heads as heads
use Rattle.http_wire.specs.Filling.{Filling, within, is_too_long}
use Rattle.http_wire.specs.Messages.{Message, body_start, is_last, Limits, behind_first, ReadsBody, HasBody, ReadsMessage, HasSomeBody, Ending, closed_before, is_complete, is_broken_off, is_no_message, has_large_head, has_long_body, HasNoMessage, Messages}
use Rattle.http_wire.proofs.BodyLaws.{Passes-append, one_run, outcome_kind, behind_in, whole_is_done}
use Rattle.http_wire.proofs.FillingLaws.{one_filling, fills_runs}
use Rattle.http_wire.proofs.VerdictLaws.{apart}

-- ---- a verdict in a number, to tell two of them apart

abbrev kind_of : Verdict → ℕ
kind_of (begins h rest) = 0
kind_of is_nothing = 1
kind_of is_cut = 2
kind_of heads.is_malformed = 3
kind_of is_too_large = 4

abbrev head_in : RequestHead → Verdict → RequestHead
head_in h (begins k rest) = k
head_in h is_nothing = h
head_in h is_cut = h
head_in h heads.is_malformed = h
head_in h is_too_large = h

abbrev rest_in : Verdict → List ℕ
rest_in (begins h rest) = rest
rest_in is_nothing = []
rest_in is_cut = []
rest_in heads.is_malformed = []
rest_in is_too_large = []

-- ---- one body behind one head

-- an ending of a body in a number, to tell two of them apart
abbrev pub filling_number : Filling → ℕ
filling_number (within outcome) = outcome_kind outcome
filling_number is_too_long = 3

abbrev pub rest_behind : Filling → List ℕ
rest_behind (within outcome) = behind_in outcome
rest_behind is_too_long = []

one_reading : (limit : Option ℕ) (state : BodyState) (bytes d e : List ℕ) (o p : Filling) → ReadsBody limit state bytes d o → ReadsBody limit state bytes e p → (d ≡ e) × (o ≡ p)
one_reading (Some most) state bytes d e o p x y = one_filling most state bytes d e o p x y
one_reading None state bytes d e o p (q, x, is) (r, y, same) =
    let one = one_run state bytes d e q r x y in
    (one.0, is ∙ ap within one.1 ∙ sym same)

pub one_body : (limit : RequestHead → Option ℕ) (bytes : List ℕ) (h k : RequestHead) (d e : List ℕ) (o p : Filling) → HasBody (limit h) bytes h d o → HasBody (limit k) bytes k e p → (h ≡ k) × (d ≡ e) × (o ≡ p)
one_body limit bytes h k d e o p (b, x, run) (c, y, other) =
    let same = apart bytes (begins h b) (begins k c) x y in
    let head : h ≡ k = ap (head_in h) same in
    let behind : b ≡ c = ap rest_in same in
    let moved : ReadsBody (limit h) (body_start h) b e p =
    subst (λ (l : RequestHead). ReadsBody (limit l) (body_start l) b e p) (sym head) (subst (λ (q : List ℕ). ReadsBody (limit k) (body_start k) q e p) (sym behind) other) in
    let runs = one_reading (limit h) (body_start h) b d e o p run moved in
    (head, runs.0, runs.1)

pub one_message : (limit : RequestHead → Option ℕ) (bytes : List ℕ) (m n : Message) (r q : List ℕ) → ReadsMessage (limit m.head) bytes m r → ReadsMessage (limit n.head) bytes n q → (m ≡ n) × (r ≡ q)
one_message limit bytes m n r q x y =
    let same = one_body limit bytes m.head n.head m.body n.body (within (ends_before r)) (within (ends_before q)) x y in
    (λ i. record { head = same.0 i; body = same.1 i }, ap rest_behind same.2)

-- ---- no message where none begins

module _ (limit : RequestHead → Option ℕ) (bytes : List ℕ) where
  no_head : (m : Message) (rest : List ℕ) (v : Verdict) → ReadsMessage (limit m.head) bytes m rest → Holds bytes v → kind_of v ≡ 0
  no_head m rest v (behind, x, run) y = sym (ap kind_of (apart bytes (begins m.head behind) v x y))

  no_body : (m : Message) (rest : List ℕ) (o : Filling) → ReadsMessage (limit m.head) bytes m rest → HasSomeBody limit bytes o → filling_number o ≡ 0
  no_body m rest o x (h, d, y) = sym (ap filling_number (one_body limit bytes m.head h m.body d (within (ends_before rest)) o x y).2)

  pub no_message : (m : Message) (rest : List ℕ) (e : Ending) → ReadsMessage (limit m.head) bytes m rest → HasNoMessage limit bytes e → ⊥
  no_message m rest (closed_before q) x y = y
  no_message m rest is_complete x y = omega (arith, no_head m rest is_nothing x y)
  no_message m rest is_broken_off x (inl y) = omega (arith, no_head m rest is_cut x y)
  no_message m rest is_broken_off x (inr y) = omega (arith, no_body m rest (within is_cut_short) x y)
  no_message m rest is_no_message x (inl y) = omega (arith, no_head m rest heads.is_malformed x y)
  no_message m rest is_no_message x (inr y) = omega (arith, no_body m rest (within is_malformed) x y)
  no_message m rest has_large_head x y = omega (arith, no_head m rest is_too_large x y)
  no_message m rest has_long_body x y = omega (arith, no_body m rest is_too_long x y)

-- ---- one reason why there is none

abbrev by_head : Verdict → Ending
by_head (begins h rest) = is_complete
by_head is_nothing = is_complete
by_head is_cut = is_broken_off
by_head heads.is_malformed = is_no_message
by_head is_too_large = has_large_head

abbrev by_body : Filling → Ending
by_body (within (ends_before rest)) = is_complete
by_body (within is_cut_short) = is_broken_off
by_body (within is_malformed) = is_no_message
by_body is_too_long = has_long_body

-- what the head is, or the body behind one
abbrev Reason : (RequestHead → Option ℕ) → List ℕ → Ending → Type 0
Reason limit bytes e =
    ((v : Verdict) × Holds bytes v × (1 ≤ kind_of v) × (e ≡ by_head v)) ⊎ ((o : Filling) × HasSomeBody limit bytes o × (1 ≤ filling_number o) × (e ≡ by_body o))

reason : (limit : RequestHead → Option ℕ) (bytes : List ℕ) (e : Ending) → HasNoMessage limit bytes e → Reason limit bytes e
reason limit bytes (closed_before rest) x = absurd x
reason limit bytes is_complete x = inl (is_nothing, x, omega arith, refl)
reason limit bytes is_broken_off (inl x) = inl (is_cut, x, omega arith, refl)
reason limit bytes is_broken_off (inr x) = inr (within is_cut_short, x, omega arith, refl)
reason limit bytes is_no_message (inl x) = inl (heads.is_malformed, x, omega arith, refl)
reason limit bytes is_no_message (inr x) = inr (within is_malformed, x, omega arith, refl)
reason limit bytes has_large_head x = inl (is_too_large, x, omega arith, refl)
reason limit bytes has_long_body x = inr (is_too_long, x, omega arith, refl)

-- where a body stands a head does
body_has_head : (limit : RequestHead → Option ℕ) (bytes : List ℕ) (v : Verdict) (o : Filling) → Holds bytes v → HasSomeBody limit bytes o → kind_of v ≡ 0
body_has_head limit bytes v o x (h, d, (behind, y, run)) = sym (ap kind_of (apart bytes (begins h behind) v y x))

one_reason : (limit : RequestHead → Option ℕ) (bytes : List ℕ) (e f : Ending) → Reason limit bytes e → Reason limit bytes f → e ≡ f
one_reason limit bytes e f (inl (v, x, some, is)) (inl (w, y, also, same)) = is ∙ ap by_head (apart bytes v w x y) ∙ sym same
one_reason limit bytes e f (inl (v, x, some, is)) (inr (o, y, also, same)) = absurd (omega (arith, some, body_has_head limit bytes v o x y))
one_reason limit bytes e f (inr (o, x, some, is)) (inl (v, y, also, same)) = absurd (omega (arith, also, body_has_head limit bytes v o y x))
one_reason limit bytes e f (inr (o, (h, d, x), some, is)) (inr (p, (k, c, y), also, same)) = is ∙ ap by_body (one_body limit bytes h k d c o p x y).2 ∙ sym same

-- ---- one list

abbrev Behind : Limits → Message → List ℕ → List Message → Ending → Type 0
Behind limits m rest messages e = ((is_last m ≡ true) × (messages ≡ []) × (e ≡ closed_before rest)) ⊎ ((is_last m ≡ false) × Messages (behind_first limits) rest messages e)

one_behind : (limits : Limits) (m : Message) (rest : List ℕ) (ms ns : List Message) (e f : Ending)
    → (Messages (behind_first limits) rest ms e → Messages (behind_first limits) rest ns f → (ms ≡ ns) × (e ≡ f)) → Behind limits m rest ms e → Behind limits m rest ns f → (ms ≡ ns) × (e ≡ f)
one_behind limits m rest ms ns e f same_list (inl (last, none, is)) (inl (also, nothing, same)) = (none ∙ sym nothing, is ∙ sym same)
one_behind limits m rest ms ns e f same_list (inl (last, none, is)) (inr (more, y)) = absurd (false≢true (sym more ∙ last))
one_behind limits m rest ms ns e f same_list (inr (more, x)) (inl (last, none, is)) = absurd (false≢true (sym more ∙ last))
one_behind limits m rest ms ns e f same_list (inr (more, x)) (inr (also, y)) = same_list x y

pub one_list : (limits : Limits) (bytes : List ℕ) (ms ns : List Message) (e f : Ending) → Messages limits bytes ms e → Messages limits bytes ns f → (ms ≡ ns) × (e ≡ f)
one_list limits bytes [] [] e f x y = (refl, one_reason (limits 0) bytes e f (reason (limits 0) bytes e x) (reason (limits 0) bytes f y))
one_list limits bytes [] (n ∷ ns) e f x (rest, y, more) = absurd (no_message (limits 0) bytes n rest e y x)
one_list limits bytes (m ∷ ms) [] e f (rest, x, more) y = absurd (no_message (limits 0) bytes m rest f x y)
one_list limits bytes (m ∷ ms) (n ∷ ns) e f (r, x, more) (q, y, also) =
    let same = one_message (limits 0) bytes m n r q x y in
    let moved : Behind limits m r ns f = subst (λ (k : Message). Behind limits k r ns f) (sym same.0) (subst (λ (b : List ℕ). Behind limits n b ns f) (sym same.1) also) in
    let rest = one_behind limits m r ms ns e f (one_list (behind_first limits) r ms ns e f) more moved in
    (λ i. same.0 i ∷ rest.0 i, rest.1)

goes_on : (limits : Limits) (m : Message) (rest : List ℕ) (ms : List Message) (e : Ending) → is_last m ≡ false → Behind limits m rest ms e → Messages (behind_first limits) rest ms e
goes_on limits m rest ms e more (inl (last, none, is)) = absurd (false≢true (sym more ∙ last))
goes_on limits m rest ms e more (inr (also, x)) = x

pub list_goes_on : (limits : Limits) (bytes rest : List ℕ) (m : Message) (ms : List Message) (e : Ending) → ReadsMessage (limits 0 m.head) bytes m rest → is_last m ≡ false → Messages limits bytes ms e
    → (behind : List Message) × (ms ≡ m ∷ behind) × Messages (behind_first limits) rest behind e
list_goes_on limits bytes rest m [] e x more y = absurd (no_message (limits 0) bytes m rest e x y)
list_goes_on limits bytes rest m (n ∷ ns) e x more (q, y, also) =
    let same = one_message (limits 0) bytes m n rest q x y in
    let moved : Behind limits m rest ns e = subst (λ (k : Message). Behind limits k rest ns e) (sym same.0) (subst (λ (b : List ℕ). Behind limits n b ns e) (sym same.1) also) in
    (ns, λ i. sym same.0 i ∷ ns, goes_on limits m rest ns e more moved)

-- ---- what follows does not change a message

Goes-append : (state : BodyState) (bytes : List ℕ) (next : BodyState) (d rest more : List ℕ) → Goes state bytes next d rest → Goes state (bytes ++ more) next d (rest ++ more)
Goes-append (states.Fixed n) bytes next d rest more (few, is, given, behind) = (
  omega (arith, few, length-append bytes more),
  is,
  given ∙ sym (take-append-le n bytes more few),
  ap (λ (b : List ℕ). b ++ more) behind ∙ sym (drop-append-le n bytes more few),
)
Goes-append (states.Data n) bytes next d rest more (few, is, given, behind) = (
  omega (arith, few, length-append bytes more),
  is,
  given ∙ sym (take-append-le n bytes more few),
  ap (λ (b : List ℕ). b ++ more) behind ∙ sym (drop-append-le n bytes more few),
)
Goes-append (states.Before piece) bytes next d rest more (passes, none) = (Passes-append piece bytes next rest more passes, none)
Goes-append states.Done bytes next d rest more x = x
Goes-append states.Refused bytes next d rest more x = x

Runs-append : (state : BodyState) (bytes d : List ℕ) (o : Outcome) (rest more : List ℕ) → o ≡ ends_before rest → Runs state bytes d o → Runs state (bytes ++ more) d (ends_before (rest ++ more))
Runs-append state bytes d o rest more whole (stops _ _ _ _ x) =
    let is = whole_is_done state bytes d rest (subst (Stops state bytes d) whole x) in
    subst (λ (s : BodyState). Runs s (bytes ++ more) d (ends_before (rest ++ more))) (sym is.0)
    (stops states.Done (bytes ++ more) d (ends_before (rest ++ more)) (is.1, ap (λ (b : List ℕ). ends_before (b ++ more)) is.2))
Runs-append state bytes d o rest more whole (goes _ _ _ _ next first behind others x is run) =
    goes state (bytes ++ more) d (ends_before (rest ++ more)) next first (behind ++ more) others (Goes-append state bytes next first behind more x) is
    (Runs-append next behind others o rest more whole run)

-- a message is one whatever its limit
pub without_limit : (limit : Option ℕ) (bytes : List ℕ) (m : Message) (rest : List ℕ) → ReadsMessage limit bytes m rest → ReadsMessage None bytes m rest
without_limit (Some most) bytes m rest (behind, x, fills) =
    (behind, x, (ends_before rest, fills_runs most (body_start m.head) behind m.body (within (ends_before rest)) (ends_before rest) refl fills, refl))
without_limit None bytes m rest x = x

pub outcome_of : (rest : List ℕ) (outcome : Outcome) → within (ends_before rest) ≡ within outcome → outcome ≡ ends_before rest
outcome_of rest outcome is = sym (ap (inside outcome) is)
  where
    inside : Outcome → Filling → Outcome
    inside other (within o) = o
    inside other is_too_long = other

pub ReadsMessage-append : (bytes : List ℕ) (m : Message) (rest more : List ℕ) → ReadsMessage None bytes m rest → ReadsMessage None (bytes ++ more) m (rest ++ more)
ReadsMessage-append bytes m rest more (behind, ((reads, fits), few), (outcome, run, is)) = (
  behind ++ more,
  ((ReadsRequest-append bytes m.head behind more reads, fits), few),
  (ends_before (rest ++ more), Runs-append (body_start m.head) behind m.body outcome rest more (outcome_of rest outcome is) run, refl),
)

pub nothing_behind : (limit other : Option ℕ) (bytes more : List ℕ) (m n : Message) → ReadsMessage limit bytes m [] → ReadsMessage other (bytes ++ more) n [] → more ≡ []
nothing_behind limit other bytes more m n x y =
    (one_message (λ h. None) (bytes ++ more) m n more [] (ReadsMessage-append bytes m [] more (without_limit limit bytes m [] x)) (without_limit other (bytes ++ more) n [] y)).1

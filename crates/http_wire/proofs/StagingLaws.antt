-- A body that is put into a stage, from call to call.
use Rattle.std.proofs.Common.{◌≡◌, ℕ, ◌+◌, ◌-◌, ◌<◌, ◌≤◌, ◌⊎◌, List, [], ◌++◌, length, take, refl, sym, ap, subst, ◌∙◌, arith, append_assoc, append-nil, length-append, inl, inr, Option, Some, None, Ok, Err}
use Rattle.std.specs.Prelude.{Result, IsTrue, ⊤}
use Rattle.depot_api.specs.Stages.{Staged}
use Rattle.http_wire.specs.declared.body.BodyState.{BodyState}
use Rattle.http_wire.specs.declared.body.BodyState.TheVariants as states
use Rattle.http_wire.specs.declared.body.BodyTaken.{BodyTaken}
use Rattle.http_wire.specs.declared.body.BodyTaken.TheVariants as answers
use Rattle.http_wire.specs.declared.stop.Stop.{Stop}
use Rattle.http_wire.specs.declared.stop.Stop.TheVariants as stopped
use Rattle.http_wire.specs.Bodies.{is_cut_short, Stops, due, less, Skips}
use Rattle.http_wire.specs.Filling.{FillsOn, takes_none, takes_data, Gains, GainsSome, GainsGiven, TakesBody, IsTakingEnd, Extends, CanAnswer, AnswersLength, IsBodyOpen}
use Rattle.http_wire.specs.InnerPuts.{IsInData, PutsNone, PutsSome, TakesOff}
use Rattle.http_wire.specs.InnerReaching.{taking_of, CanReach}
use Rattle.http_wire.specs.Flow.{OnStream}
use Rattle.http_wire.proofs.FillingLaws.{takes_over, takes_end}
use Rattle.http_wire.proofs.MovingLaws.{AtHand}
use Rattle.http_wire.proofs.TakingLaws.{cut_in}
use Rattle.http_wire.proofs.StreamLaws.{on_then, on_same}

-- ---- what a stage gains

gains_none : (held : Staged) → Gains held held []
gains_none held = (omega arith, λ tells. sym (append-nil held.bytes))

gains_then : (a b c : Staged) (x y : List ℕ) → b.tells ≡ a.tells → Gains a b x → Gains b c y → Gains a c (x ++ y)
gains_then a b c x y same (count, bytes) (more, also) = (
  omega (arith, count, more, length-append x y),
  λ tells. also (subst IsTrue (sym same) tells) ∙ ap (λ (l : List ℕ). l ++ y) (bytes tells) ∙ append_assoc a.bytes x y,
)

gains_nothing : (a b c : Staged) (x : List ℕ) → b.tells ≡ a.tells → Gains a b x → Gains b c [] → Gains a c x
gains_nothing a b c x same one two = subst (Gains a c) (append-nil x) (gains_then a b c x [] same one two)

pub extends_none : (held : Staged) → Extends held held
extends_none held = record { path = refl; tells = refl; bytes = λ tells. ([], sym (append-nil held.bytes)) }

pub extends_then : (a b c : Staged) → Extends a b → Extends b c → Extends a c
extends_then a b c one two = record {
  path = two.path ∙ one.path;
  tells = two.tells ∙ one.tells;
  bytes = λ tells.
      let first = one.bytes tells in
      let then = two.bytes (subst IsTrue (sym one.tells) tells) in
      (first.0 ++ then.0, then.1 ∙ ap (λ (l : List ℕ). l ++ then.0) first.1 ∙ append_assoc a.bytes first.0 then.0);
}

-- ---- moving on

-- what was staged so far, and so much room is left
abbrev pub Filled : ℕ → ℕ → BodyState → BodyState → Staged → Staged → List ℕ → List ℕ → Type 0
Filled most room first now before held old new = (given : List ℕ) × FillsOn most first old given now new × (length given + room ≡ most) × Gains before held given

pub filled_none : (most : ℕ) (state : BodyState) (before : Staged) (a : Option (List ℕ)) → OnStream a a (Filled most most state state before before)
filled_none most state before None = tt
filled_none most state before (Some bytes) = ([], takes_none most state bytes [] state bytes refl refl refl, omega arith, gains_none before)

over : (most room : ℕ) (first now next : BodyState) (before held : Staged) (x y z : List ℕ) → Filled most room first now before held x y → Skips now y next z
    → Filled most room first next before held x z
over most room first now next before held x y z (given, takes, whole, gains) skip = (given, takes_over most first x given now y next z takes skip, whole, gains)

put : (most room left n : ℕ) (first now : BodyState) (before held after : Staged) (x y z : List ℕ) → held.tells ≡ before.tells → n ≤ due now → due now ≤ room
    → Filled most room first now before held x y → PutsSome (Ok n) left y z held after → Filled most (room - n) first (less now n) before after x z
put most room left n first now before held after x y z same few fits (given, takes, whole, gains) (bytes, is, long, more) = (
  given ++ bytes,
  takes_data most first x (given ++ bytes) (less now n) z now y given bytes takes (omega arith) (omega arith) is (ap (less now) (sym long)) refl,
  omega (arith, length-append given bytes),
  gains_then before held after given bytes same gains more,
)

some : (held before after : Staged) (given next : List ℕ) (left : ℕ) → held.tells ≡ before.tells → Gains before held given → GainsSome held after [] left next
    → GainsSome before after given left next
some held before after given next left same (count, bytes) (more, few, also) = (
  omega (arith, count, more),
  omega (arith, count, few),
  λ tells.
      let is = also (subst IsTrue (sym same) tells) in
      (is.0, is.1, is.2, is.3 ∙ ap (λ (l : List ℕ). l ++ take is.0 next) (bytes tells) ∙ append_assoc before.bytes given (take is.0 next)),
)

-- ---- on the stream

-- ---- on the stream

module _ (most room : ℕ) (first now next : BodyState) (before held : Staged) (a b c : Option (List ℕ)) (filled : OnStream a b (Filled most room first now before held))
    (moved : OnStream b c (λ old new. Skips now old next new)) where
  pub reached_on : OnStream a c (Filled most room first next before held)
  reached_on = on_then a b c filled moved (λ x y z m t. over most room first now next before held x y z m t)

  pub stopped_long : OnStream a c (λ old new. TakesBody answers.TooLong most first old next new before held)
  stopped_long = on_same a c reached_on (λ x z m. (m.0, m.1, m.3))

  pub stopped_whole : (n : ℕ) → n + room ≡ most → OnStream a c (λ old new. TakesBody (answers.Whole n) most first old next new before held)
  stopped_whole n is = on_same a c reached_on (λ x z m. (m.0, m.1, (m.3, omega (arith, m.2))))

  pub stopped_at : (stop : Stop) → OnStream a c (λ old new. TakesBody (taking_of stop) most first old next new before held)
  stopped_at stop = on_same a c reached_on (λ x z m. (m.0, m.1, given_at stop x z m.0 m.3))
    where
      given_at : (stop : Stop) (x z given : List ℕ) → Gains before held given → GainsGiven (taking_of stop) before held given (due next) z
      given_at stopped.Ended x z given g = g
      given_at stopped.Malformed x z given g = g
      given_at stopped.SourceFault x z given g = g
      given_at stopped.Long x z given g = g

module _ (most room left : ℕ) (first now : BodyState) (before held after : Staged) (same : held.tells ≡ before.tells) (a b c : Option (List ℕ))
    (filled : OnStream a b (Filled most room first now before held)) where
  pub put_on : (n : ℕ) → n ≤ due now → due now ≤ room → OnStream b c (λ old new. PutsSome (Ok n) left old new held after)
      → OnStream a c (Filled most (room - n) first (less now n) before after)
  put_on n few fits more = on_then a b c filled more (λ x y z m t. put most room left n first now before held after x y z same few fits m t)

  gave : (x z given : List ℕ) (y : List ℕ) → z ≡ y → FillsOn most first x given now y → FillsOn most first x given now z
  gave x z given y is takes = subst (λ (r : List ℕ). FillsOn most first x given now r) (sym is) takes

  pub put_none : (answer : BodyTaken) → IsInData answer → due now ≡ left → OnStream b c (λ old new. PutsSome (Err answer) left old new held after)
      → OnStream a c (λ old new. TakesBody answer most first old now new before after)
  put_none answer inside is more = on_then a b c filled more (λ x y z m t. at answer inside x y z m t)
    where
      at : (answer : BodyTaken) → IsInData answer → (x y z : List ℕ) → Filled most room first now before held x y → PutsNone answer left y z held after → TakesBody answer most first x now z before after
      at (answers.Whole n) inside x y z m t = absurd inside
      at answers.TooLong inside x y z m t = absurd inside
      at answers.Cut inside x y z m t = (m.0, gave x z m.0 y t.0 m.1, gains_nothing before held after m.0 same m.3 t.2)
      at answers.Bad inside x y z m t = absurd inside
      at answers.SourceFault inside x y z m t = (m.0, gave x z m.0 y t.0 m.1, gains_nothing before held after m.0 same m.3 t.1)
      at answers.Long inside x y z m t = (m.0, gave x z m.0 y t.0 m.1, gains_nothing before held after m.0 same m.3 t.1)
      at answers.StageFault inside x y z m t =
          (m.0, gave x z m.0 y t.0 m.1, subst (λ (k : ℕ). GainsSome before after m.0 k z) (sym is) (some held before after m.0 z left same m.3 t.1))
      at answers.NoMemory inside x y z m t = (m.0, gave x z m.0 y t.0 m.1, gains_nothing before held after m.0 same m.3 t.1)

  pub put_end : (answer : BodyTaken) → IsInData answer → 0 < due now → OnStream b c (λ old new. PutsSome (Err answer) left old new held after)
      → OnStream a c (λ old new. IsTakingEnd answer now new)
  put_end answer inside some more = on_then a b c filled more (λ x y z m t. at answer inside y z t)
    where
      at : (answer : BodyTaken) → IsInData answer → (y z : List ℕ) → PutsNone answer left y z held after → IsTakingEnd answer now z
      at (answers.Whole n) inside y z t = absurd inside
      at answers.TooLong inside y z t = absurd inside
      at answers.Cut inside y z t = cut_in now z some (t.0 ∙ t.1)
      at answers.Bad inside y z t = absurd inside
      at answers.SourceFault inside y z t = tt
      at answers.Long inside y z t = tt
      at answers.StageFault inside y z t = tt
      at answers.NoMemory inside y z t = tt

-- ---- what a state tells of the answer

-- where a reader stood, so much room was left of `most`; where it stands, this is left
abbrev pub Leaves : ℕ → ℕ → BodyState → BodyState → Type 0
Leaves most room (states.Fixed n) now = (n + room ≡ most + due now) × ((now ≡ states.Fixed (due now)) ⊎ (now ≡ states.Done))
Leaves most room (states.Data n) now = most < n → (room ≡ most) × (now ≡ states.Data n)
Leaves most room (states.Before piece) now = ⊤
Leaves most room state now = (room ≡ most) × (now ≡ state)

pub leaves_all : (most : ℕ) (state : BodyState) → Leaves most most state state
leaves_all most (states.Fixed n) = (omega arith, inl refl)
leaves_all most (states.Data n) = λ many. (refl, refl)
leaves_all most (states.Before piece) = tt
leaves_all most states.Done = (refl, refl)
leaves_all most states.Refused = (refl, refl)

reaches : (now at next : BodyState) (what : Result ℕ Stop) → now ≡ at → CanReach now what next → CanReach at what next
reaches now at next what is x = subst (λ (s : BodyState). CanReach s what next) is x

same_left : (n left : ℕ) → ◌≡◌ {A = Result ℕ Stop} (Ok left) (Ok n) → left ≡ n
same_left n left e = cc

-- what is due stays so on the way to it
fixed_reached : (n : ℕ) (what : Result ℕ Stop) (next : BodyState) → CanReach (states.Fixed n) what next → (due next ≡ n) × ((next ≡ states.Fixed (due next)) ⊎ (next ≡ states.Done))
fixed_reached n what next (same, inl (is, some)) = let e : due next ≡ n = ap due is in (e, inl (is ∙ ap states.Fixed (sym e)))
fixed_reached n what next (same, inr (none, is)) = (ap due is ∙ sym none, inr is)

pub leaves_reached : (most room : ℕ) (first now next : BodyState) (what : Result ℕ Stop) → Leaves most room first now → CanReach now what next → Leaves most room first next
leaves_reached most room (states.Fixed n) now next what (all, inl is) y =
    let found = fixed_reached (due now) what next (reaches now (states.Fixed (due now)) next what is y) in
    (omega (arith, all, found.0), found.1)
leaves_reached most room (states.Fixed n) now next what (all, inr is) y =
    let done = (reaches now states.Done next what is y).1 in
    (omega (arith, all, ap due is, ap due done), inr done)
leaves_reached most room (states.Data n) now next what x y = λ many.
    let all = (x many).0 in
    (all, (reaches now (states.Data n) next what (x many).1 y (omega (arith, many))).1)
leaves_reached most room (states.Before piece) now next what x y = tt
leaves_reached most room states.Done now next what (all, is) y = (all, (reaches now states.Done next what is y).1)
leaves_reached most room states.Refused now next what (all, is) y = (all, (reaches now states.Refused next what is y).1)

pub leaves_put : (most room n : ℕ) (first next : BodyState) → Leaves most room first next → n ≤ due next → due next ≤ room → Leaves most (room - n) first (less next n)
leaves_put most room n (states.Fixed m) next (all, inl is) few fits =
    let e : less next n ≡ states.Fixed (due next - n) = ap (λ (s : BodyState). less s n) is in
    let left : due (less next n) ≡ due next - n = ap due e in
    (omega (arith, all, few, fits, left), inl (e ∙ ap states.Fixed (sym left)))
leaves_put most room n (states.Fixed m) next (all, inr is) few fits =
    let e : less next n ≡ states.Done = ap (λ (s : BodyState). less s n) is in
    (omega (arith, all, few, fits, ap due is, ap due e), inr e)
leaves_put most room n (states.Data m) next x few fits = λ many. absurd (omega (arith, (x many).0, many, fits, ap due (x many).1))
leaves_put most room n (states.Before piece) next x few fits = tt
leaves_put most room n states.Done next (all, is) few fits = (omega (arith, few, all, ap due is), ap (λ (s : BodyState). less s n) is)
leaves_put most room n states.Refused next (all, is) few fits = (omega (arith, few, all, ap due is), ap (λ (s : BodyState). less s n) is)

-- ---- and at each answer

pub known_whole : (most room n k : ℕ) (first now next : BodyState) → n + room ≡ most → k ≡ 0 → Leaves most room first now → CanReach now (Ok k) next → CanAnswer first most (answers.Whole n)
known_whole most room n k (states.Fixed m) now next all none (left, inl is) y =
    let e = same_left (due now) k (reaches now (states.Fixed (due now)) next (Ok k) is y).0 in
    (omega (arith, all, left, none, e), omega (arith, all, left, none, e))
known_whole most room n k (states.Fixed m) now next all none (left, inr is) y = (omega (arith, all, left, ap due is), omega (arith, all, left, ap due is))
known_whole most room n k (states.Data m) now next all none x y = λ many.
    absurd (omega (arith, many, none, same_left m k (reaches now (states.Data m) next (Ok k) (x many).1 y (omega (arith, many))).0))
known_whole most room n k (states.Before piece) now next all none x y = tt
known_whole most room n k states.Done now next all none (full, is) y = ap answers.Whole (omega (arith, all, full))
known_whole most room n k states.Refused now next all none (full, is) y = let found = (reaches now states.Refused next (Ok k) is y).0 in absurd (cc found)

pub known_stop : (most room : ℕ) (first now next : BodyState) (stop : Stop) → Leaves most room first now → CanReach now (Err stop) next → CanAnswer first most (taking_of stop)
known_stop most room (states.Fixed m) now next stop (all, inl is) y = let found = (reaches now (states.Fixed (due now)) next (Err stop) is y).0 in absurd (cc found)
known_stop most room (states.Fixed m) now next stop (all, inr is) y = let found = (reaches now states.Done next (Err stop) is y).0 in absurd (cc found)
known_stop most room (states.Data m) now next stop x y = λ many.
    let found = (reaches now (states.Data m) next (Err stop) (x many).1 y (omega (arith, many))).0 in
    absurd (cc found)
known_stop most room (states.Before piece) now next stop x y = tt
known_stop most room states.Done now next stop (all, is) y = let found = (reaches now states.Done next (Err stop) is y).0 in absurd (cc found)
known_stop most room states.Refused now next stop (all, is) y =
    let bad = (reaches now states.Refused next (Err stop) is y).0 in
    let e : stop ≡ stopped.Malformed = cc in
    ap taking_of e

pub known_long : (most room : ℕ) (first next : BodyState) → Leaves most room first next → room < due next → CanAnswer first most answers.TooLong
known_long most room (states.Fixed m) next (all, at) many = omega (arith, all, many)
known_long most room (states.Data m) next x many = λ over. refl
known_long most room (states.Before piece) next x many = tt
known_long most room states.Done next (all, is) many = absurd (omega (arith, many, ap due is))
known_long most room states.Refused next (all, is) many = absurd (omega (arith, many, ap due is))

within_length : (answer : BodyTaken) (n most : ℕ) → IsInData answer → 0 < n → n ≤ most → AnswersLength answer n most
within_length (answers.Whole count) n most inside some few = absurd inside
within_length answers.TooLong n most inside some few = absurd inside
within_length answers.Cut n most inside some few = (some, few)
within_length answers.Bad n most inside some few = absurd inside
within_length answers.SourceFault n most inside some few = (some, few)
within_length answers.Long n most inside some few = (some, few)
within_length answers.StageFault n most inside some few = (some, few)
within_length answers.NoMemory n most inside some few = (some, few)

pub known_data : (most room : ℕ) (first next : BodyState) (answer : BodyTaken) → IsInData answer → Leaves most room first next → room ≤ most → 0 < due next → due next ≤ room
    → CanAnswer first most answer
known_data most room (states.Fixed m) next answer inside (all, at) less_room some fits = within_length answer m most inside (omega (arith, all, less_room, some)) (omega (arith, all, fits))
known_data most room (states.Data m) next answer inside x less_room some fits = λ many. absurd (omega (arith, (x many).0, many, fits, ap due (x many).1))
known_data most room (states.Before piece) next answer inside x less_room some fits = tt
known_data most room states.Done next answer inside (all, is) less_room some fits = absurd (omega (arith, some, ap due is))
known_data most room states.Refused next answer inside (all, is) less_room some fits = absurd (omega (arith, some, ap due is))

-- ---- over what waits

-- the source is as it was, and the body so far is what waited; or that does not say how the body ends
abbrev pub BodyAtHand : {S : Type 0} → S → S → ℕ → ℕ → BodyState → List ℕ → BodyState → List ℕ → Type 0
BodyAtHand old new most room first bytes now rest =
    ((new ≡ old) × (given : List ℕ) × FillsOn most first bytes given now rest × (length given + room ≡ most)) ⊎ IsBodyOpen most first bytes

pub body_hand_none : {S : Type 0} (source : S) (most : ℕ) (first : BodyState) (bytes : List ℕ) → BodyAtHand source source most most first bytes first bytes
body_hand_none source most first bytes = inl (refl, [], takes_none most first bytes [] first bytes refl refl refl, omega arith)

open_at : (most room : ℕ) (first : BodyState) (bytes given : List ℕ) (now : BodyState) (rest : List ℕ) → FillsOn most first bytes given now rest → length given + room ≡ most
    → due now ≤ room → Stops now rest [] is_cut_short → IsBodyOpen most first bytes
open_at most room first bytes given now rest takes all few stop = (given, takes_end most first bytes given now rest is_cut_short takes (omega (arith, all, few)) stop)

module _ {S : Type 0} (old mid new : S) (most room : ℕ) (first now next : BodyState) (x y z : List ℕ) (waits : BodyAtHand old mid most room first x now y) where
  pub body_hand_over : AtHand mid new now y next z → BodyAtHand old new most room first x next z
  body_hand_over moved = elim waits [
    | inl w ↦ elim moved [
      | inl m ↦ inl (m.0 ∙ w.0, w.1, takes_over most first x w.1 now y next z w.2 m.1, w.3)
      | inr cut ↦ inr (open_at most room first x w.1 (states.Before cut.0) cut.1 (takes_over most first x w.1 now y (states.Before cut.0) cut.1 w.2 cut.2) w.3 (omega arith) (refl, inr (cut.3, refl)))
    ]
    | inr w ↦ inr w
  ]

module _ {S : Type 0} (old mid new : S) (most room : ℕ) (first now : BodyState) (x y z : List ℕ) (waits : BodyAtHand old mid most room first x now y) (fits : due now ≤ room) (some : 0 < due now) where
  pub body_hand_put : (n : ℕ) → n ≤ due now → ((new ≡ mid) × TakesOff n y z) ⊎ (y ≡ []) → BodyAtHand old new most (room - n) first x (less now n) z
  body_hand_put n few gave = elim waits [
    | inl w ↦ elim gave [
      | inl g ↦ inl (
        g.0 ∙ w.0,
        w.1 ++ g.1.0,
        takes_data most first x (w.1 ++ g.1.0) (less now n) z now y w.1 g.1.0 w.2 (omega (arith, w.3, fits)) (omega (arith, few, g.1.2)) g.1.1 (ap (less now) (sym g.1.2)) refl,
        omega (arith, length-append w.1 g.1.0, w.3, g.1.2, few, fits),
      )
      | inr none ↦ inr (open_at most room first x w.1 now y w.2 w.3 fits (cut_in now y some none))
    ]
    | inr w ↦ inr w
  ]

  pub body_hand_end : {P : Type 0} → ((new ≡ mid) × P) ⊎ (y ≡ []) → ¬ (IsBodyOpen most first x) → new ≡ old
  body_hand_end gave decided = elim waits [
    | inl w ↦ elim gave [
      | inl g ↦ g.0 ∙ w.0
      | inr none ↦ absurd (decided (open_at most room first x w.1 now y w.2 w.3 fits (cut_in now y some none)))
    ]
    | inr w ↦ absurd (decided w)
  ]

pub body_hand_read : {S : Type 0} (old new : S) (most room : ℕ) (first now : BodyState) (x y : List ℕ) → BodyAtHand old new most room first x now y
    → ¬ (IsBodyOpen most first x) → new ≡ old
body_hand_read old new most room first now x y waits decided = elim waits [ inl w ↦ w.0 | inr w ↦ absurd (decided w) ]

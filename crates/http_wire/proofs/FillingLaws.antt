-- Bodies of at most so many bytes, from step to step.
use Rattle.std.proofs.Common.{◌≡◌, ℕ, ◌+◌, ◌-◌, ◌<◌, ◌≤◌, List, [], ◌++◌, length, refl, sym, ap, subst, ◌∙◌, arith, append_assoc, append-nil, length-append, inl, inr}
use Rattle.std.proofs.lemmas.List.{length-take-le}
use Rattle.std.proofs.Math.Nat.{sub-zero}
use Rattle.std.proofs.lemmas.Bool.{cases_lt}
use Rattle.http_wire.specs.declared.body.BodyState.{BodyState}
use Rattle.http_wire.specs.declared.body.BodyState.TheVariants as states
use Rattle.http_wire.specs.Bodies.{Outcome, ends_before, Goes, Stops, Runs, stops, goes, due, less, Skips, stays, skips}
use Rattle.http_wire.specs.Filling.{Filling, within, is_too_long, Fills, passes, stops_within, goes_within, FillsOn, takes_none, takes_piece, takes_data}
use Rattle.http_wire.proofs.BodyLaws.{Goes_unique, goes_not_stops, Stops_unique, goes_in, stops_in, whole_is_done}

-- ---- one way

pub one_filling : (most : ℕ) (state : BodyState) (bytes d e : List ℕ) (o p : Filling) → Fills most state bytes d o → Fills most state bytes e p → (d ≡ e) × (o ≡ p)
one_filling most state bytes d e o p (passes _ _ _ _ _ over none is) (passes _ _ _ _ _ also nothing same) = (none ∙ sym nothing, is ∙ sym same)
one_filling most state bytes d e o p (passes _ _ _ _ _ over none is) (stops_within _ _ _ _ _ q few y same) = absurd (omega arith)
one_filling most state bytes d e o p (passes _ _ _ _ _ over none is) (goes_within _ _ _ _ _ k g q l few y also other) = absurd (omega arith)
one_filling most state bytes d e o p (stops_within _ _ _ _ _ q few x is) (passes _ _ _ _ _ over nothing same) = absurd (omega arith)
one_filling most state bytes d e o p (stops_within _ _ _ _ _ q few x is) (stops_within _ _ _ _ _ r also y same) =
    let one = Stops_unique state bytes d e q r x y in
    (one.0, is ∙ ap within one.1 ∙ sym same)
one_filling most state bytes d e o p (stops_within _ _ _ _ _ q few x is) (goes_within _ _ _ _ _ k g r l also y same other) = absurd (goes_not_stops state bytes k g r d q y x)
one_filling most state bytes d e o p (goes_within _ _ _ _ _ n f r m few x is run) (passes _ _ _ _ _ over nothing same) = absurd (omega arith)
one_filling most state bytes d e o p (goes_within _ _ _ _ _ n f r m few x is run) (stops_within _ _ _ _ _ q also y same) = absurd (goes_not_stops state bytes n f r e q x y)
one_filling most state bytes d e o p (goes_within _ _ _ _ _ n f r m few x is run) (goes_within _ _ _ _ _ k g q l also y other more) =
    let same = Goes_unique state bytes n k f g r q x y in
    let fits : Fills (most - length f) n r l p =
    subst (λ (h : List ℕ). Fills (most - length h) n r l p) (sym same.1)
    (subst (λ (s : BodyState). Fills (most - length g) s r l p) (sym same.0) (subst (λ (b : List ℕ). Fills (most - length g) k b l p) (sym same.2) more)) in
    let rest = one_filling (most - length f) n r m l o p run fits in
    (is ∙ (λ i. same.1 i ++ rest.0 i) ∙ sym other, rest.1)

-- ---- whole bodies by their length

-- what a step gives was due
first_is_due : (state : BodyState) (bytes : List ℕ) (next : BodyState) (first rest : List ℕ) → Goes state bytes next first rest → length first ≡ due state
first_is_due (states.Fixed n) bytes next first rest (fits, is, given, behind) = ap length given ∙ length-take-le n bytes fits
first_is_due (states.Data n) bytes next first rest (fits, is, given, behind) = ap length given ∙ length-take-le n bytes fits
first_is_due (states.Before piece) bytes next first rest (passes_it, none) = ap length none
first_is_due states.Done bytes next first rest x = absurd x
first_is_due states.Refused bytes next first rest x = absurd x

pub whole_fits : (most : ℕ) (state : BodyState) (bytes body : List ℕ) (outcome : Outcome) (rest : List ℕ) → outcome ≡ ends_before rest → Runs state bytes body outcome
    → length body ≤ most → Fills most state bytes body (within outcome)
whole_fits most state bytes body outcome rest whole (stops _ _ _ _ x) few =
    let none : due state ≡ 0 = ap due (whole_is_done state bytes body rest (subst (Stops state bytes body) whole x)).0 in
    stops_within most state bytes body (within outcome) outcome (omega arith) x refl
whole_fits most state bytes body outcome rest whole (goes _ _ _ _ next first behind more x is run) few =
    let long = first_is_due state bytes next first behind x in
    let all : length body ≡ length first + length more = ap length is ∙ length-append first more in
    goes_within most state bytes body (within outcome) next first behind more (omega arith) x is
    (whole_fits (most - length first) next behind more outcome rest whole run (omega arith))

pub whole_passes : (most : ℕ) (state : BodyState) (bytes body : List ℕ) (outcome : Outcome) (rest : List ℕ) → outcome ≡ ends_before rest → Runs state bytes body outcome
    → most < length body → (begin : List ℕ) × (more : List ℕ) × (body ≡ begin ++ more) × (length begin ≤ most) × Fills most state bytes begin is_too_long
whole_passes most state bytes body outcome rest whole (stops _ _ _ _ x) many =
    absurd (omega (arith, many, ap length (whole_is_done state bytes body rest (subst (Stops state bytes body) whole x)).1))
whole_passes most state bytes body outcome rest whole (goes _ _ _ _ next first behind others x is run) many = elim (cases_lt most (due state)) [
  | inr few ↦
      let long = first_is_due state bytes next first behind x in
      let all : length body ≡ length first + length others = ap length is ∙ length-append first others in
      let (begin, more, split, fits, fills) = whole_passes (most - length first) next behind others outcome rest whole run (omega arith) in (
        first ++ begin,
        more,
        is ∙ ap (λ (b : List ℕ). first ++ b) split ∙ sym (append_assoc first begin more),
        omega (arith, length-append first begin),
        goes_within most state bytes (first ++ begin) is_too_long next first behind begin few x refl fills,
      )
  | inl over ↦ ([], body, refl, omega arith, passes most state bytes [] is_too_long over refl refl)
]

-- ---- a body that is taken is the one that is read

abbrev filling_kind : Filling → ℕ
filling_kind (within outcome) = 0
filling_kind is_too_long = 1

abbrev outcome_in : Outcome → Filling → Outcome
outcome_in other (within outcome) = outcome
outcome_in other is_too_long = other

pub fills_runs : (most : ℕ) (state : BodyState) (bytes decoded : List ℕ) (filling : Filling) (outcome : Outcome) → filling ≡ within outcome → Fills most state bytes decoded filling
    → Runs state bytes decoded outcome
fills_runs most state bytes decoded filling outcome whole (passes _ _ _ _ _ over none is) = absurd (omega (arith, ap filling_kind (sym is ∙ whole)))
fills_runs most state bytes decoded filling outcome whole (stops_within _ _ _ _ _ end few x is) =
    subst (Runs state bytes decoded) (ap (outcome_in outcome) (sym is ∙ whole)) (stops state bytes decoded end x)
fills_runs most state bytes decoded filling outcome whole (goes_within _ _ _ _ _ next first rest more few x is run) =
    goes state bytes decoded outcome next first rest more x is (fills_runs (most - length first) next rest more filling outcome whole run)

-- ---- moving on

-- whatever the reader makes of the rest, it made that of the whole, behind the bytes that it gave
abbrev pub Leads : ℕ → BodyState → List ℕ → List ℕ → BodyState → List ℕ → Type 0
Leads most old bytes given new rest = (decoded : List ℕ) (filling : Filling) → Fills (most - length given) new rest decoded filling → Fills most old bytes (given ++ decoded) filling

leads_then : (most : ℕ) (a b c : BodyState) (s t u x y : List ℕ) → Leads most a s x b t → Leads (most - length x) b t y c u → Leads most a s (x ++ y) c u
leads_then most a b c s t u x y one two decoded filling more =
    let room : most - length (x ++ y) ≡ most - length x - length y = omega (arith, length-append x y) in
    subst (λ (d : List ℕ). Fills most a s d filling) (sym (append_assoc x y decoded))
    (one (y ++ decoded) filling (two decoded filling (subst (λ (k : ℕ). Fills k c u decoded filling) room more)))

leads_none : (most : ℕ) (old : BodyState) (bytes : List ℕ) → Leads most old bytes [] old bytes
leads_none most old bytes decoded filling more = subst (λ (k : ℕ). Fills k old bytes decoded filling) (sub-zero most) more

-- a step that gives nothing
leads_by : (most : ℕ) (old : BodyState) (bytes : List ℕ) (new : BodyState) (rest : List ℕ) → Goes old bytes new [] rest → Leads most old bytes [] new rest
leads_by most old bytes new rest step decoded filling more =
    let none = first_is_due old bytes new [] rest step in
    goes_within most old bytes decoded filling new [] rest decoded (omega arith) step refl more

less_due : (state : BodyState) (count : ℕ) → due (less state count) ≡ due state - count
less_due (states.Fixed n) count = refl
less_due (states.Data n) count = refl
less_due (states.Before piece) count = omega arith
less_due states.Done count = omega arith
less_due states.Refused count = omega arith

-- bytes of the data that a reader stands in
leads_in : (most : ℕ) (state : BodyState) (bytes rest : List ℕ) → due state ≤ most → length bytes ≤ due state → Leads most state (bytes ++ rest) bytes (less state (length bytes)) rest
leads_in most state bytes rest few fits decoded filling (passes _ _ _ _ _ over none is) = absurd (omega (arith, over, less_due state (length bytes)))
leads_in most state bytes rest few fits decoded filling (stops_within _ _ _ _ _ outcome fit x ends) =
    stops_within most state (bytes ++ rest) (bytes ++ decoded) filling outcome few (stops_in state bytes rest decoded outcome fits x) ends
leads_in most state bytes rest few fits decoded filling (goes_within _ _ _ _ _ next first behind more fit x is run) =
    let room : most - length bytes - length first ≡ most - length (bytes ++ first) = omega (arith, length-append bytes first) in
    goes_within most state (bytes ++ rest) (bytes ++ decoded) filling next (bytes ++ first) behind more few (goes_in state bytes rest next first behind fits x)
    (ap (λ (b : List ℕ). bytes ++ b) is ∙ sym (append_assoc bytes first more)) (subst (λ (m : ℕ). Fills m next behind more filling) room run)

pub takes_lead : (most : ℕ) (old : BodyState) (bytes given : List ℕ) (new : BodyState) (rest : List ℕ) → FillsOn most old bytes given new rest → Leads most old bytes given new rest
takes_lead most old bytes given new rest (takes_none _ _ _ _ _ _ same is none) =
    subst (λ (g : List ℕ). Leads most old bytes g new rest) (sym none)
    (subst (λ (s : BodyState). Leads most old bytes [] s rest) same (subst (λ (r : List ℕ). Leads most old bytes [] old r) is (leads_none most old bytes)))
takes_lead most old bytes given new rest (takes_piece _ _ _ _ _ _ last behind before step) =
    subst (λ (g : List ℕ). Leads most old bytes g new rest) (append-nil given)
    (leads_then most old last new bytes behind rest given [] (takes_lead most old bytes given last behind before) (leads_by (most - length given) last behind new rest step))
takes_lead most old bytes given new rest (takes_data _ _ _ _ _ _ last behind begin more before few fits split is all) =
    let step = leads_in (most - length begin) last more rest few fits in
    let also : Leads (most - length begin) last behind more new rest =
    subst (λ (s : BodyState). Leads (most - length begin) last behind more s rest) (sym is)
    (subst (λ (b : List ℕ). Leads (most - length begin) last b more (less last (length more)) rest) (sym split) step) in
    subst (λ (g : List ℕ). Leads most old bytes g new rest) (sym all) (leads_then most old last new bytes behind rest begin more (takes_lead most old bytes begin last behind before) also)

-- ---- where a call ends

pub takes_end : (most : ℕ) (old : BodyState) (bytes given : List ℕ) (new : BodyState) (rest : List ℕ) (outcome : Outcome) → FillsOn most old bytes given new rest
    → due new ≤ most - length given → Stops new rest [] outcome → Fills most old bytes given (within outcome)
takes_end most old bytes given new rest outcome takes few stop =
    subst (λ (g : List ℕ). Fills most old bytes g (within outcome)) (append-nil given)
    (takes_lead most old bytes given new rest takes [] (within outcome) (stops_within (most - length given) new rest [] (within outcome) outcome few stop refl))

pub takes_too_much : (most : ℕ) (old : BodyState) (bytes given : List ℕ) (new : BodyState) (rest : List ℕ) → FillsOn most old bytes given new rest
    → most - length given < due new → Fills most old bytes given is_too_long
takes_too_much most old bytes given new rest takes many =
    subst (λ (g : List ℕ). Fills most old bytes g is_too_long) (append-nil given)
    (takes_lead most old bytes given new rest takes [] is_too_long (passes (most - length given) new rest [] is_too_long many refl refl))

-- ---- over what gives nothing

pub takes_over : (most : ℕ) (old : BodyState) (bytes given : List ℕ) (mid : BodyState) (behind : List ℕ) (new : BodyState) (rest : List ℕ) → FillsOn most old bytes given mid behind
    → Skips mid behind new rest → FillsOn most old bytes given new rest
takes_over most old bytes given mid behind new rest takes (stays _ _ _ _ same is) =
    subst (λ (s : BodyState). FillsOn most old bytes given s rest) same (subst (FillsOn most old bytes given mid) is takes)
takes_over most old bytes given mid behind new rest takes (skips _ _ _ _ last front before step) =
    takes_piece most old bytes given new rest last front (takes_over most old bytes given mid behind last front takes before) step

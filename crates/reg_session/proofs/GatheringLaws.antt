-- Bodies that are put into a stage.
use Rattle.std.proofs.Common.{◌≡◌, ℕ, zero, suc, ◌+◌, ◌-◌, ◌<◌, ◌≤◌, Bool, true, false, List, [], ◌∷◌, ◌++◌, length, take, drop, Some, Result, Ok, Err, refl, sym, ap, subst, ◌∙◌, append_assoc, append-nil, length-append, arith, inl}
use Rattle.std.specs.Prelude.{IsTrue}
use Rattle.std.proofs.lemmas.Bool.{false≢true}
use Rattle.std.proofs.lemmas.List.{take-append-drop, take-append-le, take-take, take_all, take_at, length-take-le}
use Rattle.reg_names.specs.Cause.{Rose}
use Rattle.depot_api.specs.Stages.{Staged, CountsStaged}
use Rattle.http_wire.specs.declared.body.BodyState.{BodyState}
use Rattle.http_wire.specs.declared.body.BodyState.TheVariants as states
use Rattle.http_wire.specs.declared.body.BodyTaken.{BodyTaken}
use Rattle.http_wire.specs.declared.body.BodyTaken.TheVariants as answers
use Rattle.http_wire.specs.Bodies.{Outcome, Goes, Stops, ends_before, is_cut_short, is_malformed, due}
use Rattle.http_wire.specs.Filling.{Filling, within, is_too_long, Fills, passes, stops_within, goes_within, FillsOn, takes_none, takes_piece, takes_data, Gains, Extends, TakesBody, IsTakingEnd, KeepsLimit}
use Rattle.http_wire.proofs.FillingLaws.{takes_end, takes_lead, takes_too_much}
use Rattle.http_wire.specs.Messages.{ReadsBody}
use Rattle.manifest_doc.specs.declared.pushed.Pushed.{Pushed}
use Rattle.reg_session.specs.Bodies.{Drops}
use Rattle.reg_session.specs.declared.bodies.Dropped.{Dropped}
use Rattle.reg_session.specs.declared.bodies.Dropped.TheVariants as dropped
use Rattle.reg_session.specs.declared.gathering.Gathered.{Gathered}
use Rattle.reg_session.specs.declared.gathering.Gathered.TheVariants as gathered
use Rattle.reg_session.specs.InnerBodies.{DropsFront}
use Rattle.reg_session.specs.InnerGathering.{dropped_of, gathered_of, Grows, BreaksOffIn, Gathers}
use Rattle.reg_session.specs.InnerSteps.{IsBroken}
use Rattle.reg_session.specs.Requests.{ReadsFront, upload_limit}
use Rattle.reg_session.specs.Uploads.{room_left, Stages, StagesSome}

-- ---- a wider limit

-- a body that keeps a limit keeps a wider one
pub fills_more : (few most : ℕ) (state : BodyState) (bytes decoded : List ℕ) (filling : Filling) (outcome : Outcome) → few ≤ most → filling ≡ within outcome
    → Fills few state bytes decoded filling → Fills most state bytes decoded filling
fills_more few most state bytes decoded filling outcome wider is (passes _ _ _ _ _ over none long) = absurd (cc (sym is ∙ long))
fills_more few most state bytes decoded filling outcome wider is (stops_within _ _ _ _ _ end fit stop same) =
    stops_within most state bytes decoded filling end (omega (arith, fit, wider)) stop same
fills_more few most state bytes decoded filling outcome wider is (goes_within _ _ _ _ _ next first rest more fit step all run) =
    goes_within most state bytes decoded filling next first rest more (omega (arith, fit, wider)) step all
    (fills_more (few - length first) (most - length first) next rest more filling outcome (omega (arith, wider)) is run)

pub fills_on_more : (few most : ℕ) (old : BodyState) (bytes given : List ℕ) (new : BodyState) (rest : List ℕ) → few ≤ most
    → FillsOn few old bytes given new rest → FillsOn most old bytes given new rest
fills_on_more few most old bytes given new rest wider (takes_none _ _ _ _ _ _ same is none) = takes_none most old bytes given new rest same is none
fills_on_more few most old bytes given new rest wider (takes_piece _ _ _ _ _ _ last behind before step) =
    takes_piece most old bytes given new rest last behind (fills_on_more few most old bytes given last behind wider before) step
fills_on_more few most old bytes given new rest wider (takes_data _ _ _ _ _ _ last behind begin more before fit short split is all) =
    takes_data most old bytes given new rest last behind begin more (fills_on_more few most old bytes begin last behind wider before) (omega (arith, fit, wider)) short split is all

-- one front, and then another
pub fills_on_then : (most room : ℕ) (a : BodyState) (s x : List ℕ) (b : BodyState) (t y : List ℕ) (c : BodyState) (u : List ℕ) → room ≡ most - length x → FillsOn most a s x b t
    → FillsOn room b t y c u → FillsOn most a s (x ++ y) c u
fills_on_then most room a s x b t y c u left one (takes_none _ _ _ _ _ _ same is none) =
    subst (λ (g : List ℕ). FillsOn most a s g c u) (sym (append-nil x) ∙ ap (λ (g : List ℕ). x ++ g) (sym none))
    (subst (λ (e : BodyState). FillsOn most a s x e u) same (subst (λ (r : List ℕ). FillsOn most a s x b r) is one))
fills_on_then most room a s x b t y c u left one (takes_piece _ _ _ _ _ _ last behind before step) =
    takes_piece most a s (x ++ y) c u last behind (fills_on_then most room a s x b t y last behind left one before) step
fills_on_then most room a s x b t y c u left one (takes_data _ _ _ _ _ _ last behind begin more before fit short split is all) =
    takes_data most a s (x ++ y) c u last behind (x ++ begin) more (fills_on_then most room a s x b t begin last behind left one before)
    (omega (arith, fit, left, length-append x begin)) short split is (ap (λ (g : List ℕ). x ++ g) all ∙ sym (append_assoc x begin more))

-- ---- what a reader decodes first

take_front : (n k : ℕ) (bytes more : List ℕ) → n ≤ k → k ≤ length bytes → take n (take k bytes ++ more) ≡ take n bytes
take_front n k bytes more few fits =
    take-append-le n (take k bytes) more (omega (arith, few, length-take-le k bytes fits)) ∙ take-take n k bytes few

take_nothing : (n : ℕ) (x y : List ℕ) → n ≤ 0 → take n x ≡ take n y
take_nothing zero x y none = refl
take_nothing (suc n) x y none = absurd (omega (arith, none))

stopped_first : (n : ℕ) (state : BodyState) (bytes decoded : List ℕ) (outcome : Outcome) → n ≤ due state → Stops state bytes decoded outcome → take n decoded ≡ take n bytes
stopped_first n (states.Fixed k) bytes decoded outcome few stop = ap (λ (d : List ℕ). take n d) stop.1
stopped_first n (states.Data k) bytes decoded outcome few stop = ap (λ (d : List ℕ). take n d) stop.1
stopped_first n (states.Before piece) bytes decoded outcome few stop = take_nothing n decoded bytes few
stopped_first n states.Done bytes decoded outcome few stop = take_nothing n decoded bytes few
stopped_first n states.Refused bytes decoded outcome few stop = take_nothing n decoded bytes few

went_first : (n : ℕ) (state next : BodyState) (bytes first rest more : List ℕ) → n ≤ due state → Goes state bytes next first rest → take n (first ++ more) ≡ take n bytes
went_first n (states.Fixed k) next bytes first rest more few step =
    ap (λ (f : List ℕ). take n (f ++ more)) step.2 ∙ take_front n k bytes more few step.0
went_first n (states.Data k) next bytes first rest more few step =
    ap (λ (f : List ℕ). take n (f ++ more)) step.2 ∙ take_front n k bytes more few step.0
went_first n (states.Before piece) next bytes first rest more few step = take_nothing n (first ++ more) bytes few
went_first n states.Done next bytes first rest more few step = absurd step
went_first n states.Refused next bytes first rest more few step = absurd step

-- the data that a reader stands in are the first that it decodes of a body that keeps its limit
due_first : (n most : ℕ) (state : BodyState) (bytes decoded : List ℕ) (filling : Filling) (outcome : Outcome) → n ≤ due state → filling ≡ within outcome
    → Fills most state bytes decoded filling → take n decoded ≡ take n bytes
due_first n most state bytes decoded filling outcome few is (passes _ _ _ _ _ over none long) = absurd (cc (sym is ∙ long))
due_first n most state bytes decoded filling outcome few is (stops_within _ _ _ _ _ end fit stop same) = stopped_first n state bytes decoded end few stop
due_first n most state bytes decoded filling outcome few is (goes_within _ _ _ _ _ next first rest more fit step all run) =
    ap (λ (d : List ℕ). take n d) all ∙ went_first n state next bytes first rest more few step

-- ---- a body that a stage gains, where nothing tells what it is

abbrev zeros : ℕ → List ℕ
zeros zero = []
zeros (suc n) = 0 ∷ zeros n

length_zeros : (n : ℕ) → length (zeros n) ≡ n
length_zeros zero = refl
length_zeros (suc n) = ap suc (length_zeros n)

-- what a stage took within a room is within that of its upload
pub grows_within : (before now : Staged) (count room : ℕ) → Extends before now → before.count ≤ now.count → now.count ≤ before.count + room
    → count ≡ before.count → room ≡ upload_limit - count → CountsStaged before → CountsStaged now → Grows before now
grows_within before now count room kept grew fits is left first last = record {
  path = kept.path;
  tells = kept.tells;
  bytes = kept.bytes;
  later = grew;
  room = subst (λ (r : ℕ). now.count ≤ before.count + r) (left ∙ ap (λ (n : ℕ). upload_limit - n) is) fits;
  counted_before = first;
  counted = last;
}

pub grown_by : (before now : Staged) (bytes : List ℕ) → Grows before now → Gains before now bytes → Stages before now bytes
grown_by before now bytes grows gains =
    let fits = grows.room in
    record { path = grows.path; tells = grows.tells; gains = gains; room = omega (arith, gains.0, fits) }

more_counts : (before now : Staged) (more : List ℕ) → before.count ≡ length before.bytes → now.count ≡ length now.bytes → now.bytes ≡ before.bytes ++ more
    → now.count ≡ before.count + length more
more_counts before now more first last is = omega (arith, first, last, ap length is, length-append before.bytes more)

some_by : (before now : Staged) (tells : Bool) → before.tells ≡ tells → Grows before now → (bytes : List ℕ) × Stages before now bytes
some_by before now true told grows =
    let more = grows.bytes told in
    let counted = more_counts before now more.0 (grows.counted_before told) (grows.counted (grows.tells ∙ told)) more.1 in
    (more.0, grown_by before now more.0 grows (counted, λ _. more.1))
some_by before now false told grows =
    let few = length_zeros (now.count - before.count) in
    let later = grows.later in (
      zeros (now.count - before.count),
      grown_by before now (zeros (now.count - before.count)) grows (omega (arith, later, few), λ is. absurd (false≢true (sym told ∙ is))),
    )

-- some bytes were put behind those that a stage had
pub some_staged : (before now : Staged) → Grows before now → (bytes : List ℕ) × Stages before now bytes
some_staged before now grows = some_by before now before.tells refl grows

-- all of them are some of them
pub all_some : (before now : Staged) (bytes : List ℕ) → Grows before now → Stages before now bytes → StagesSome before now bytes
all_some before now bytes grows h = record {
  path = h.path;
  tells = h.tells;
  grew = grows.later;
  room = grows.room;
  some = λ is. (length bytes, h.gains.1 is ∙ ap (λ (b : List ℕ). before.bytes ++ b) (sym (take_all (length bytes) bytes (omega arith))));
}

-- ---- what a call answers

-- where the stage did not fail
pub gathered_all : (taken : BodyTaken) (failed : Type 0) (most : ℕ) (first last : BodyState) (old new : List ℕ) (before now : Staged)
    → most ≡ room_left before → Grows before now → now.count ≤ before.count + most → (taken ≡ answers.StageFault → ⊥)
    → TakesBody taken most first old last new before now → IsTakingEnd taken last new → KeepsLimit taken most (now.count - before.count) (due last)
    → Gathers (gathered_of taken) failed first before now old new
gathered_all (answers.Whole n) failed most first last old new before now room grows kept other (given, takes, gains) ended few = (
  given,
  subst (λ (m : ℕ). Fills m first old given (within (ends_before new))) room (takes_end most first old given last new (ends_before new) takes (omega (arith, few, gains.0.0)) ended),
  grown_by before now given grows gains.0,
)
gathered_all answers.TooLong failed most first last old new before now room grows kept other (given, takes, gains) ended many = (
  given,
  inl (subst (λ (m : ℕ). Fills m first old given is_too_long) room (takes_too_much most first old given last new takes (omega (arith, kept, many, gains.0))), grown_by before now given grows gains),
)
gathered_all answers.Cut failed most first last old new before now room grows kept other (given, takes, gains) ended few = (
  given,
  inl (
    (subst (λ (m : ℕ). ReadsFront (Some m) first old given new) room (last, takes), subst (λ (m : ℕ). Fills m first old given (within is_cut_short)) room (takes_end most first old given last new is_cut_short takes (omega (arith, few, gains.0)) ended)),
    grown_by before now given grows gains,
  ),
)
gathered_all answers.Bad failed most first last old new before now room grows kept other (given, takes, gains) ended few = (
  given,
  inl (subst (λ (m : ℕ). Fills m first old given (within is_malformed)) room (takes_end most first old given last new is_malformed takes (omega (arith, few, gains.0)) ended), grown_by before now given grows gains),
)
gathered_all answers.SourceFault failed most first last old new before now room grows kept other (given, takes, gains) ended few =
    (given, inl (subst (λ (m : ℕ). ReadsFront (Some m) first old given new) room (last, takes), grown_by before now given grows gains))
gathered_all answers.Long failed most first last old new before now room grows kept other (given, takes, gains) ended few =
    (given, inl (subst (λ (m : ℕ). ReadsFront (Some m) first old given new) room (last, takes), grown_by before now given grows gains))
gathered_all answers.NoMemory failed most first last old new before now room grows kept other (given, takes, gains) ended few =
    (given, inl (subst (λ (m : ℕ). ReadsFront (Some m) first old given new) room (last, takes), grown_by before now given grows gains))
gathered_all answers.StageFault failed most first last old new before now room grows kept other takes ended few = absurd (other refl)

-- ---- where the stage failed

module _ (most rest : ℕ) (first last : BodyState) (old mid new : List ℕ) (before now : Staged) (fits : rest ≤ most - (now.count - before.count))
    (takes : TakesBody answers.StageFault most first old last mid before now) where
  -- what may still come is not more than the limit leaves behind what was given
  room_behind : rest ≤ most - length takes.0
  room_behind = let many = takes.2.0 in omega (arith, fits, many)

  behind_all : (decoded : List ℕ) (outcome : Outcome) → Fills rest last mid decoded (within outcome) → Fills most first old (takes.0 ++ decoded) (within outcome)
  behind_all decoded outcome run =
      takes_lead most first old takes.0 last mid takes.1 decoded (within outcome)
      (fills_more rest (most - length takes.0) last mid decoded (within outcome) outcome room_behind refl run)

  behind_front : (decoded : List ℕ) → ReadsFront (Some rest) last mid decoded new → ReadsFront (Some most) first old (takes.0 ++ decoded) new
  behind_front decoded front = (
    front.0,
    fills_on_then most (most - length takes.0) first old takes.0 last mid decoded front.0 new refl takes.1
        (fills_on_more rest (most - length takes.0) last mid decoded front.0 new room_behind front.1),
  )

  -- the rest came whole: some of the body is staged
  pub failed_whole : Grows before now → Drops dropped.Whole (Some rest) last mid new
      → (body : List ℕ) × ReadsBody (Some most) first old body (within (ends_before new)) × StagesSome before now body
  failed_whole grows (decoded, run) = (
    takes.0 ++ decoded,
    behind_all decoded (ends_before new) run,
    record {
      path = grows.path;
      tells = grows.tells;
      grew = grows.later;
      room = grows.room;
      some = λ is.
          let (some, few, fit, bytes) = takes.2.2 is in
          let front = takes.0 ++ take some decoded in
          let same : take some mid ≡ take some decoded = sym (due_first some rest last mid decoded (within (ends_before new)) (ends_before new) few refl run) in
          let all : takes.0 ++ decoded ≡ front ++ drop some decoded =
          ap (λ (d : List ℕ). takes.0 ++ d) (sym (take-append-drop some decoded)) ∙ sym (append_assoc takes.0 (take some decoded) (drop some decoded)) in (
            length front,
            bytes ∙ ap (λ (d : List ℕ). before.bytes ++ (takes.0 ++ d)) same
                ∙ ap (λ (d : List ℕ). before.bytes ++ d) (sym (ap (λ (d : List ℕ). take (length front) d) all ∙ take_at front (drop some decoded) (length front) refl)),
          );
    },
  )

  -- it broke off
  pub failed_broken : (d : Dropped) → Drops d (Some rest) last mid new → (begin : List ℕ) × BreaksOffIn d most first begin old new
  failed_broken dropped.Whole (decoded, run) = (takes.0 ++ decoded, behind_all decoded (ends_before new) run)
  failed_broken dropped.TooLong drops = (takes.0, (mid, (last, takes.1)))
  failed_broken dropped.Cut (decoded, front, run) = (takes.0 ++ decoded, (behind_front decoded front, behind_all decoded is_cut_short run))
  failed_broken dropped.Malformed (decoded, run) = (takes.0 ++ decoded, behind_all decoded is_malformed run)
  failed_broken dropped.SourceFault (decoded, front) = (takes.0 ++ decoded, behind_front decoded front)
  failed_broken dropped.Long (decoded, front) = (takes.0 ++ decoded, behind_front decoded front)
  failed_broken dropped.NoMemory (decoded, front) = (takes.0 ++ decoded, behind_front decoded front)

-- ---- what an answer is of

abbrev dropped_in : Gathered → Dropped
dropped_in (gathered.Broken d) = d
dropped_in other = dropped.Whole

pub broken_is : (taken : BodyTaken) (d : Dropped) → gathered_of taken ≡ gathered.Broken d → dropped_of taken ≡ d
broken_is (answers.Whole n) d is = absurd (cc is)
broken_is answers.TooLong d is = ap dropped_in is
broken_is answers.Cut d is = ap dropped_in is
broken_is answers.Bad d is = ap dropped_in is
broken_is answers.SourceFault d is = ap dropped_in is
broken_is answers.Long d is = ap dropped_in is
broken_is answers.StageFault d is = ap dropped_in is
broken_is answers.NoMemory d is = ap dropped_in is

never_whole : (d : Dropped) → (d ≡ dropped.Whole → ⊥) → IsBroken d
never_whole dropped.Whole other = absurd (other refl)
never_whole dropped.TooLong other = tt
never_whole dropped.Cut other = tt
never_whole dropped.Malformed other = tt
never_whole dropped.SourceFault other = tt
never_whole dropped.Long other = tt
never_whole dropped.NoMemory other = tt

pub broken_behind_fault : (one d : Dropped) → (one ≡ dropped.Whole → ⊥) → gathered.Broken one ≡ gathered.Broken d → IsBroken d
broken_behind_fault one d other is = subst IsBroken (ap dropped_in is) (never_whole one other)

pub same_dropped : (one d : Dropped) → gathered.Broken one ≡ gathered.Broken d → one ≡ d
same_dropped one d is = ap dropped_in is

pub never_failed : (taken : BodyTaken) → gathered_of taken ≡ gathered.Failed → ⊥
never_failed (answers.Whole n) is = cc is
never_failed answers.TooLong is = cc is
never_failed answers.Cut is = cc is
never_failed answers.Bad is = cc is
never_failed answers.SourceFault is = cc is
never_failed answers.Long is = cc is
never_failed answers.StageFault is = cc is
never_failed answers.NoMemory is = cc is

pub gathered_broken : (taken : BodyTaken) (d : Dropped) → gathered_of taken ≡ gathered.Broken d → IsBroken d
gathered_broken (answers.Whole n) d is = absurd (cc is)
gathered_broken answers.TooLong d is = subst IsBroken (ap dropped_in is) tt
gathered_broken answers.Cut d is = subst IsBroken (ap dropped_in is) tt
gathered_broken answers.Bad d is = subst IsBroken (ap dropped_in is) tt
gathered_broken answers.SourceFault d is = subst IsBroken (ap dropped_in is) tt
gathered_broken answers.Long d is = subst IsBroken (ap dropped_in is) tt
gathered_broken answers.StageFault d is = subst IsBroken (ap dropped_in is) tt
gathered_broken answers.NoMemory d is = subst IsBroken (ap dropped_in is) tt

pub dropped_cut : (taken : BodyTaken) → dropped_of taken ≡ dropped.Cut → taken ≡ answers.Cut
dropped_cut (answers.Whole n) is = absurd (cc is)
dropped_cut answers.TooLong is = absurd (cc is)
dropped_cut answers.Cut is = refl
dropped_cut answers.Bad is = absurd (cc is)
dropped_cut answers.SourceFault is = absurd (cc is)
dropped_cut answers.Long is = absurd (cc is)
dropped_cut answers.StageFault is = absurd (cc is)
dropped_cut answers.NoMemory is = absurd (cc is)

pub dropped_fault : (taken : BodyTaken) → dropped_of taken ≡ dropped.SourceFault → taken ≡ answers.SourceFault
dropped_fault (answers.Whole n) is = absurd (cc is)
dropped_fault answers.TooLong is = absurd (cc is)
dropped_fault answers.Cut is = absurd (cc is)
dropped_fault answers.Bad is = absurd (cc is)
dropped_fault answers.SourceFault is = refl
dropped_fault answers.Long is = absurd (cc is)
dropped_fault answers.StageFault is = absurd (cc is)
dropped_fault answers.NoMemory is = absurd (cc is)

pub dropped_long : (taken : BodyTaken) → dropped_of taken ≡ dropped.Long → taken ≡ answers.Long
dropped_long (answers.Whole n) is = absurd (cc is)
dropped_long answers.TooLong is = absurd (cc is)
dropped_long answers.Cut is = absurd (cc is)
dropped_long answers.Bad is = absurd (cc is)
dropped_long answers.SourceFault is = absurd (cc is)
dropped_long answers.Long is = refl
dropped_long answers.StageFault is = absurd (cc is)
dropped_long answers.NoMemory is = absurd (cc is)

pub broken_cut : (taken : BodyTaken) → gathered_of taken ≡ gathered.Broken dropped.Cut → taken ≡ answers.Cut
broken_cut taken is = dropped_cut taken (broken_is taken dropped.Cut is)

pub broken_fault : (taken : BodyTaken) → gathered_of taken ≡ gathered.Broken dropped.SourceFault → taken ≡ answers.SourceFault
broken_fault taken is = dropped_fault taken (broken_is taken dropped.SourceFault is)

pub broken_long : (taken : BodyTaken) → gathered_of taken ≡ gathered.Broken dropped.Long → taken ≡ answers.Long
broken_long taken is = dropped_long taken (broken_is taken dropped.Long is)

-- a fault is one more, as far as faults are counted
pub some_faults : (before now : ℕ) → Rose before now → 0 < now
some_faults before now rose = omega (arith, rose)

-- ---- bodies that are taken into memory

module _ (most : ℕ) (first last : BodyState) (old new : List ℕ) (before now : Staged) where
  -- a stage that had no bytes, and tells them, has the body
  pub kept_whole : (n : ℕ) → before.bytes ≡ [] → IsTrue before.tells → TakesBody (answers.Whole n) most first old last new before now → IsTakingEnd (answers.Whole n) last new
      → KeepsLimit (answers.Whole n) most (now.count - before.count) (due last) → ReadsBody (Some most) first old now.bytes (within (ends_before new))
  kept_whole n none told (given, takes, gains) ended few =
      let same : now.bytes ≡ given = gains.0.1 told ∙ ap (λ (b : List ℕ). b ++ given) none in
      subst (λ (b : List ℕ). Fills most first old b (within (ends_before new))) (sym same) (takes_end most first old given last new (ends_before new) takes (omega (arith, few, gains.0.0)) ended)

  -- what was read of one is its front
  pub kept_front : (n : ℕ) → TakesBody (answers.Whole n) most first old last new before now → (begin : List ℕ) × DropsFront dropped.NoMemory (Some most) first begin old new
  kept_front n (given, takes, gains) = (given, (last, takes))

  pub not_kept : (taken : BodyTaken) → ((n : ℕ) → taken ≡ answers.Whole n → ⊥) → now.count ≤ before.count + most → TakesBody taken most first old last new before now → IsTakingEnd taken last new
      → KeepsLimit taken most (now.count - before.count) (due last) → (begin : List ℕ) × DropsFront (dropped_of taken) (Some most) first begin old new
  not_kept (answers.Whole n) other kept takes ended few = absurd (other n refl)
  not_kept answers.TooLong other kept (given, takes, gains) ended many = (given, takes_too_much most first old given last new takes (omega (arith, kept, many, gains.0)))
  not_kept answers.Cut other kept (given, takes, gains) ended few = (given, ((last, takes), takes_end most first old given last new is_cut_short takes (omega (arith, few, gains.0)) ended))
  not_kept answers.Bad other kept (given, takes, gains) ended few = (given, takes_end most first old given last new is_malformed takes (omega (arith, few, gains.0)) ended)
  not_kept answers.SourceFault other kept (given, takes, gains) ended few = (given, (last, takes))
  not_kept answers.Long other kept (given, takes, gains) ended few = (given, (last, takes))
  not_kept answers.StageFault other kept (given, takes, gains) ended few = (given, (last, takes))
  not_kept answers.NoMemory other kept (given, takes, gains) ended few = (given, (last, takes))

pub kept_broken : (taken : BodyTaken) → ((n : ℕ) → taken ≡ answers.Whole n → ⊥) → IsBroken (dropped_of taken)
kept_broken (answers.Whole n) other = absurd (other n refl)
kept_broken answers.TooLong other = tt
kept_broken answers.Cut other = tt
kept_broken answers.Bad other = tt
kept_broken answers.SourceFault other = tt
kept_broken answers.Long other = tt
kept_broken answers.StageFault other = tt
kept_broken answers.NoMemory other = tt

abbrev dropped_by : Result Pushed Dropped → Dropped
dropped_by (Ok pushed) = dropped.Whole
dropped_by (Err d) = d

abbrev pub not_pushed : Dropped → Result Pushed Dropped
not_pushed d = Err d

pub same_broken : (one d : Dropped) → not_pushed one ≡ not_pushed d → one ≡ d
same_broken one d is = ap dropped_by is

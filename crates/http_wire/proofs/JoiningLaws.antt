-- Heads and bodies that were read are messages of the stream.
use Rattle.std.proofs.Common.{◌≡◌, ℕ, suc, ◌+◌, ◌-◌, ◌≤◌, false, List, [], ◌∷◌, ◌++◌, length, refl, sym, ap, subst, ◌∙◌, arith, append-nil, append_assoc, inl, inr, Option, Some, None}
use Rattle.depot_api.specs.Stages.{Staged}
use Rattle.httparse.specs.Grammar.{RequestHead}
use Rattle.http_wire.specs.declared.head.Head.{Head}
use Rattle.http_wire.specs.declared.head.Heading.{Heading}
use Rattle.http_wire.specs.declared.head.Heading.TheVariants as headings
use Rattle.http_wire.specs.declared.body.BodyState.{BodyState}
use Rattle.http_wire.specs.declared.body.BodyStep.{BodyStep}
use Rattle.http_wire.specs.declared.body.BodyStep.TheVariants as steps
use Rattle.http_wire.specs.declared.body.BodyTaken.{BodyTaken}
use Rattle.http_wire.specs.declared.body.BodyTaken.TheVariants as answers
use Rattle.http_wire.specs.Answers.{TellsHead, IsBadHead}
use Rattle.http_wire.specs.Bodies.{Outcome, ends_before, is_cut_short, is_malformed, Runs, stops, Stops, due}
use Rattle.http_wire.specs.BodyAnswers.{first_state, IsStepEnd}
use Rattle.http_wire.specs.Fields.{Shows}
use Rattle.http_wire.specs.Filling.{Filling, within, is_too_long, Fills, Gains, TakesBody, IsTakingEnd, KeepsLimit}
use Rattle.http_wire.specs.Framing.{framing_by}
use Rattle.http_wire.specs.Messages.{Message, body_start, is_last, Limits, behind_first, ReadsBody, HasBody, ReadsMessage, Ending, HasNoMessage, Messages}
use Rattle.http_wire.specs.Reading.{body_behind, Decodes, decodes_none, decodes_more, IsRead, ReadsMessages, behind_all, HeadEnds, StepEnds, TakingEnds}
use Rattle.http_wire.proofs.FillingLaws.{takes_end, takes_too_much}
use Rattle.http_wire.proofs.MovingLaws.{adds_up}

-- ---- one body

advances : (old : BodyState) (bytes given : List ℕ) (new : BodyState) (rest : List ℕ) → Decodes old bytes given new rest → (decoded : List ℕ) (outcome : Outcome)
    → Runs new rest decoded outcome → Runs old bytes (given ++ decoded) outcome
advances old bytes given new rest (decodes_none _ _ _ _ _ same is none) decoded outcome run =
    subst (λ (g : List ℕ). Runs old bytes (g ++ decoded) outcome) (sym none)
    (subst (λ (s : BodyState). Runs s bytes decoded outcome) (sym same) (subst (λ (b : List ℕ). Runs new b decoded outcome) (sym is) run))
advances old bytes given new rest (decodes_more _ _ _ _ _ last mid before more first moves is) decoded outcome run =
    subst (λ (g : List ℕ). Runs old bytes g outcome) (sym (append_assoc before more decoded) ∙ ap (λ (g : List ℕ). g ++ decoded) (sym is))
    (advances old bytes before last mid first (more ++ decoded) outcome (adds_up last new mid more rest moves decoded outcome run))

pub decoded_runs : (old : BodyState) (bytes given : List ℕ) (new : BodyState) (rest : List ℕ) (outcome : Outcome) → Decodes old bytes given new rest → Stops new rest [] outcome → Runs old bytes given outcome
decoded_runs old bytes given new rest outcome decodes stop =
    subst (λ (g : List ℕ). Runs old bytes g outcome) (append-nil given) (advances old bytes given new rest decodes [] outcome (stops new rest [] outcome stop))

same_start : (head : Head) (h : RequestHead) → Shows head h → body_behind head ≡ body_start h
same_start head h shows = λ i. first_state (framing_by (shows.minor i) (shows.fields i))

-- a body that was read, or staged, whole
pub decoded_body : (first : BodyState) (mid body : List ℕ) (last : BodyState) (new : List ℕ) → Decodes first mid body last new → IsStepEnd steps.End last new
    → ReadsBody None first mid body (within (ends_before new))
decoded_body first mid body last new decodes ended = (ends_before new, decoded_runs first mid body last new (ends_before new) decodes ended, refl)

pub staged_body : (first : BodyState) (mid : List ℕ) (last : BodyState) (new : List ℕ) (most n : ℕ) (before now : Staged) → TakesBody (answers.Whole n) most first mid last new before now
    → IsTakingEnd (answers.Whole n) last new → KeepsLimit (answers.Whole n) most (now.count - before.count) (due last)
    → (body : List ℕ) × ReadsBody (Some most) first mid body (within (ends_before new)) × Gains before now body × (length body ≡ n)
staged_body first mid last new most n before now (given, takes, (gains, long)) ended few =
    (given, takes_end most first mid given last new (ends_before new) takes (omega (arith, few, gains.0)) ended, gains, sym long)

-- ---- one message

pub head_message : (head : Head) (old mid new : List ℕ) (limit : Option ℕ) (body : List ℕ) → TellsHead (headings.Head head) old mid
    → ReadsBody limit (body_behind head) mid body (within (ends_before new)) → (m : Message) × IsRead head body m × ReadsMessage limit old m new
head_message head old mid new limit body (h, holds, shows) reads =
    (record { head = h; body = body }, (shows, refl), (mid, holds, subst (λ (s : BodyState). ReadsBody limit s mid body (within (ends_before new))) (same_start head h shows) reads))

module _ (head : Head) (first last : BodyState) (old mid new : List ℕ) (tells : TellsHead (headings.Head head) old mid) (is : first ≡ body_behind head) where
  abbrev h : RequestHead
  h = tells.0

  starts : first ≡ body_start h
  starts = is ∙ same_start head h tells.2

  reads_at : (limit : Option ℕ) (body : List ℕ) → ReadsBody limit first mid body (within (ends_before new)) → ReadsBody limit (body_behind head) mid body (within (ends_before new))
  reads_at limit body reads = subst (λ (s : BodyState). ReadsBody limit s mid body (within (ends_before new))) is reads

  pub decoded_message : (body : List ℕ) → Decodes first mid body last new → IsStepEnd steps.End last new → (m : Message) × IsRead head body m × ReadsMessage None old m new
  decoded_message body decodes ended = head_message head old mid new None body tells (reads_at None body (decoded_body first mid body last new decodes ended))

  pub staged_message : (most n : ℕ) (before now : Staged) → TakesBody (answers.Whole n) most first mid last new before now → IsTakingEnd (answers.Whole n) last new
      → KeepsLimit (answers.Whole n) most (now.count - before.count) (due last)
      → (body : List ℕ) × (m : Message) × IsRead head body m × Gains before now body × (length body ≡ n) × ReadsMessage (Some most) old m new
  staged_message most n before now took ended few =
      let (body, reads, gains, long) = staged_body first mid last new most n before now took ended few in
      let (m, read, is_message) = head_message head old mid new (Some most) body tells (reads_at (Some most) body reads) in
      (body, m, read, gains, long, is_message)

  fills_at : (most : ℕ) (given : List ℕ) (filling : Filling) → Fills most first mid given filling → Fills most (body_start h) mid given filling
  fills_at most given filling fills = subst (λ (s : BodyState). Fills most s mid given filling) starts fills

  -- a body that ends otherwise
  pub decoded_end : (limits : Limits) (body : List ℕ) (step : BodyStep) (ending : Ending) → ((k : RequestHead) → Shows head k → limits 0 k ≡ None) → Decodes first mid body last new
      → IsStepEnd step last new → StepEnds step ending → Messages limits old [] ending
  decoded_end limits body step ending none decodes ended ends = at step ended ends
    where
      some : (outcome : Outcome) → Stops last new [] outcome → HasBody (limits 0 h) old h body (within outcome)
      some outcome stop =
          let run = subst (λ (s : BodyState). Runs s mid body outcome) starts (decoded_runs first mid body last new outcome decodes stop) in
          (mid, tells.1, subst (λ (l : Option ℕ). ReadsBody l (body_start h) mid body (within outcome)) (sym (none h tells.2)) (outcome, run, refl))

      at : (step : BodyStep) → IsStepEnd step last new → StepEnds step ending → HasNoMessage (limits 0) old ending
      at (steps.Bytes n) stop e = absurd e
      at steps.End stop e = absurd e
      at steps.Cut stop e = subst (HasNoMessage (limits 0) old) (sym e) (inr (h, body, some is_cut_short stop))
      at steps.Bad stop e = subst (HasNoMessage (limits 0) old) (sym e) (inr (h, body, some is_malformed stop))
      at steps.SourceFault stop e = absurd e
      at steps.Long stop e = absurd e

  pub staged_end : (limits : Limits) (most : ℕ) (answer : BodyTaken) (before now : Staged) (ending : Ending) → now.count ≤ before.count + most → ((k : RequestHead) → Shows head k → limits 0 k ≡ Some most)
      → TakesBody answer most first mid last new before now → IsTakingEnd answer last new → KeepsLimit answer most (now.count - before.count) (due last) → TakingEnds answer ending
      → Messages limits old [] ending
  staged_end limits most answer before now ending fits limit took ended keeps ends = at answer took ended keeps ends
    where
      some : (given : List ℕ) (filling : Filling) → Fills most first mid given filling → HasBody (limits 0 h) old h given filling
      some given filling fills = (mid, tells.1, subst (λ (l : Option ℕ). ReadsBody l (body_start h) mid given filling) (sym (limit h tells.2)) (fills_at most given filling fills))

      at : (answer : BodyTaken) → TakesBody answer most first mid last new before now → IsTakingEnd answer last new → KeepsLimit answer most (now.count - before.count) (due last)
          → TakingEnds answer ending → HasNoMessage (limits 0) old ending
      at (answers.Whole n) t stop few e = absurd e
      at answers.TooLong (given, takes, gains) stop many e = subst (HasNoMessage (limits 0) old) (sym e)
          (h, given, some given is_too_long (takes_too_much most first mid given last new takes (omega (arith, many, fits, gains.0))))
      at answers.Cut (given, takes, gains) stop few e = subst (HasNoMessage (limits 0) old) (sym e)
          (inr (h, given, some given (within is_cut_short) (takes_end most first mid given last new is_cut_short takes (omega (arith, few, gains.0)) stop)))
      at answers.Bad (given, takes, gains) stop few e = subst (HasNoMessage (limits 0) old) (sym e)
          (inr (h, given, some given (within is_malformed) (takes_end most first mid given last new is_malformed takes (omega (arith, few, gains.0)) stop)))
      at answers.SourceFault t stop few e = absurd e
      at answers.Long t stop few e = absurd e
      at answers.StageFault t stop few e = absurd e
      at answers.NoMemory t stop few e = absurd e

-- ---- no message

refused : (limits : Limits) (old : List ℕ) (number : ℕ) (ending : Ending) → IsBadHead old number → HeadEnds (headings.Bad number) ending → Messages limits old [] ending
refused limits old number ending (inl (is, bad)) (inl (same, e)) = subst (HasNoMessage (limits 0) old) (sym e) (inl bad)
refused limits old number ending (inl (is, bad)) (inr (same, e)) = absurd (omega (arith, is, same))
refused limits old number ending (inr (is, bad)) (inl (same, e)) = absurd (omega (arith, is, same))
refused limits old number ending (inr (is, bad)) (inr (same, e)) = subst (HasNoMessage (limits 0) old) (sym e) bad

pub head_end : (limits : Limits) (answer : Heading) (old new : List ℕ) (ending : Ending) → TellsHead answer old new → HeadEnds answer ending → Messages limits old [] ending
head_end limits (headings.Head head) old new ending tells e = absurd e
head_end limits headings.End old new ending tells e = subst (HasNoMessage (limits 0) old) (sym e) tells.0
head_end limits headings.Cut old new ending tells e = subst (HasNoMessage (limits 0) old) (sym e) (inl tells.0)
head_end limits (headings.Bad number) old new ending (bad, same) e = refused limits old number ending bad e
head_end limits headings.SourceFault old new ending tells e = absurd e
head_end limits headings.Long old new ending tells e = absurd e
head_end limits headings.NoMemory old new ending tells e = absurd e

-- ---- many messages

pub messages_then : (limits : Limits) (bytes : List ℕ) (messages : List Message) (rest : List ℕ) (more : List Message) (ending : Ending) → ReadsMessages limits bytes messages rest
    → Messages (behind_all (length messages) limits) rest more ending → Messages limits bytes (messages ++ more) ending
messages_then limits bytes [] rest more ending same then =
    let e : (n : ℕ) → 0 + n ≡ n = λ n. omega arith in
    subst (λ (b : List ℕ). Messages limits b more ending) same (subst (λ (l : Limits). Messages l rest more ending) (λ i n. limits (e n i)) then)
messages_then limits bytes (m ∷ messages) rest more ending (mid, reads, goes_on, others) then =
    let e : (n : ℕ) → suc (length messages) + n ≡ suc (length messages + n) = λ n. omega arith in
    (mid, reads, inr (goes_on, messages_then (behind_first limits) mid messages rest more ending others (subst (λ (l : Limits). Messages l rest more ending) (λ i n. limits (e n i)) then)))

pub one_message_more : (limits : Limits) (bytes : List ℕ) (messages : List Message) (rest : List ℕ) (m : Message) (behind_it : List ℕ) → ReadsMessages limits bytes messages rest
    → ReadsMessage (limits (length messages) m.head) rest m behind_it → is_last m ≡ false → ReadsMessages limits bytes (messages ++ m ∷ []) behind_it
one_message_more limits bytes [] rest m behind_it same reads goes_on = (behind_it, subst (λ (b : List ℕ). ReadsMessage (limits 0 m.head) b m behind_it) same reads, goes_on, refl)
one_message_more limits bytes (n ∷ messages) rest m behind_it (mid, first, also, others) reads goes_on =
    (mid, first, also, one_message_more (behind_first limits) mid messages rest m behind_it others reads goes_on)

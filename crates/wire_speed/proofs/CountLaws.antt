-- Messages that are counted one by one.
use Rattle.std.proofs.Common.{◌≡◌, ℕ, ◌+◌, ◌-◌, ◌^◌, ◌≤◌, true, false, Bool, List, [], ◌∷◌, ◌++◌, length, take, refl, sym, ap, subst, ◌∙◌, arith, append-nil, length-append, inl, Option, Some, None}
use Rattle.std.proofs.lemmas.List.{length-take-le}
use Rattle.std.proofs.lemmas.List.Sums.{sum_by-append}
use Rattle.http_wire.specs.declared.head.Framing.{Framing}
use Rattle.http_wire.specs.declared.head.Head.{Head}
use Rattle.http_wire.specs.declared.head.Heading.TheVariants as headings
use Rattle.http_wire.specs.declared.body.BodyState.{BodyState}
use Rattle.http_wire.specs.declared.body.BodyStep.TheVariants as steps
use Rattle.depot_api.specs.Stages.{Staged}
use Rattle.http_wire.specs.declared.body.BodyTaken.TheVariants as takings
use Rattle.http_wire.specs.Answers.{TellsHead}
use Rattle.http_wire.specs.Bodies.{ends_before, due, Moves}
use Rattle.http_wire.specs.BodyAnswers.{first_state, IsStepEnd}
use Rattle.http_wire.specs.Fields.{fields_of}
use Rattle.http_wire.specs.Filling.{within, TakesBody, IsTakingEnd, KeepsLimit}
use Rattle.http_wire.specs.Flow.{OnStream}
use Rattle.http_wire.specs.Framing.{framing_by}
use Rattle.http_wire.specs.Messages.{Message, closed_before, is_complete, Messages, ReadsBody}
use Rattle.http_wire.specs.Questions.{ends_connection}
use Rattle.http_wire.specs.Reading.{Decodes, decodes_none, decodes_more, ReadsMessages}
use Rattle.http_wire.proofs.JoiningLaws.{decoded_body, staged_body, head_message, one_message_more, messages_then}
use Rattle.http_wire.proofs.StreamLaws.{on_then, on_then_both, on_both}
use Rattle.wire_speed.specs.declared.Totals.{Totals}
use Rattle.wire_speed.specs.declared.Next.TheVariants as nexts
use Rattle.wire_speed.specs.declared.Way.{Way}
use Rattle.wire_speed.specs.declared.Way.TheVariants as ways
use Rattle.wire_speed.specs.Counting.{body_bytes, limit_of, limits_of, IsCounted}
use Rattle.wire_speed.specs.InnerCounting.{HasLength, IsNextRequest}

-- so many messages were read, with so many bytes
abbrev pub Counted : Way → ℕ → ℕ → List ℕ → List ℕ → Type 0
Counted way requests bytes old new =
    (messages : List Message) × ReadsMessages (limits_of way) old messages new × (length messages ≡ requests) × (body_bytes messages ≡ bytes)

one_more : (messages : List Message) (m : Message) → body_bytes (messages ++ m ∷ []) ≡ body_bytes messages + length m.body
one_more messages m = let all = sum_by-append (λ (n : Message). length n.body) messages (m ∷ []) in omega (arith, all)

pub counted_none : (way : Way) (a : Option (List ℕ)) → OnStream a a (Counted way 0 0)
counted_none way None = tt
counted_none way (Some bytes) = ([], refl, refl, refl)

module _ (way : Way) (so_far : Totals) (a b c : Option (List ℕ)) (counted : OnStream a b (Counted way so_far.requests so_far.bytes)) where
  module _ (count : ℕ) (last : Bool) (totals : Totals) (one_more_request : totals.requests ≡ so_far.requests + 1) (more_bytes : totals.bytes ≡ so_far.bytes + count)
      (next : OnStream b c (IsNextRequest way (nexts.Request count last))) where
    pub counted_more : last ≡ false → OnStream a c (Counted way totals.requests totals.bytes)
    counted_more goes_on = on_then a b c counted next (λ x y z s t. (
      s.0 ++ t.0 ∷ [],
      one_message_more (limits_of way) x s.0 y t.0 z s.1 t.1 (t.3 ∙ goes_on),
      omega (arith, s.2, one_more_request, length-append s.0 (t.0 ∷ [])),
      omega (arith, s.3, t.2, more_bytes, one_more s.0 t.0),
    ))

    pub counted_last : last ≡ true → OnStream a c (λ old new. IsCounted way totals old)
    counted_last ends = on_then a b c counted next (λ x y z s t. (
      s.0 ++ t.0 ∷ [],
      closed_before z,
      messages_then (limits_of way) x s.0 y (t.0 ∷ []) (closed_before z) s.1 (z, t.1, inl (t.3 ∙ ends, refl, refl)),
      omega (arith, s.2, one_more_request, length-append s.0 (t.0 ∷ [])),
      omega (arith, s.3, t.2, more_bytes, one_more s.0 t.0),
    ))

  pub counted_end : OnStream b c (IsNextRequest way nexts.End) → OnStream a c (λ old new. IsCounted way so_far old)
  counted_end next = on_then a b c counted next (λ x y z s t. (
    s.0,
    is_complete,
    subst (λ (l : List Message). Messages (limits_of way) x l is_complete) (append-nil s.0) (messages_then (limits_of way) x s.0 y [] is_complete s.1 t),
    s.2,
    s.3,
  ))

-- ---- one message

pub next_message : (way : Way) (head : Head) (framing : Framing) (count : ℕ) (last : Bool) (a b c : Option (List ℕ)) → framing ≡ framing_by head.minor (fields_of head)
    → last ≡ ends_connection head.minor (fields_of head) → OnStream a b (TellsHead (headings.Head head)) → OnStream b c (HasLength way framing count)
    → OnStream a c (IsNextRequest way (nexts.Request count last))
next_message way head framing count last a b c is ends tells body = on_then a b c tells body (λ x y z t s.
    let reads = subst (λ (f : Framing). ReadsBody (limit_of way) (first_state f) y s.0 (within (ends_before z))) is s.1 in
    let (m, (shows, same), message) = head_message head x y z (limit_of way) s.0 t reads in
    (m, message, ap length same ∙ s.2, sym (ends ∙ (λ i. ends_connection (shows.minor i) (shows.fields i)))))

-- ---- one body

-- so many bytes were read of it
abbrev pub Read : BodyState → BodyState → ℕ → List ℕ → List ℕ → Type 0
Read first now count old new = (given : List ℕ) × Decodes first old given now new × (length given ≡ count)

pub read_none : (state : BodyState) (a : Option (List ℕ)) → OnStream a a (Read state state 0)
read_none state None = tt
read_none state (Some bytes) = ([], decodes_none state bytes [] state bytes refl refl refl, refl)

module _ (first now next : BodyState) (count : ℕ) (a b c : Option (List ℕ)) (so_far : OnStream a b (Read first now count)) where
  pub read_more : (n : ℕ) (buffer : List ℕ) → n ≤ length buffer → OnStream b c (λ old new. Moves now old (take n buffer) next new) → OnStream a c (Read first next (count + n))
  read_more n buffer fits more = on_then a b c so_far more (λ x y z s t. (
    s.0 ++ take n buffer,
    decodes_more first x (s.0 ++ take n buffer) next z now y s.0 (take n buffer) s.1 t refl,
    omega (arith, s.2, length-append s.0 (take n buffer), length-take-le n buffer fits),
  ))

  pub read_end : (framing : Framing) → first ≡ first_state framing → OnStream b c (λ old new. Moves now old [] next new) → OnStream b c (λ old new. IsStepEnd steps.End next new)
      → OnStream a c (HasLength ways.Read framing count)
  read_end framing is more ended = on_then_both a b c so_far more ended (λ x y z s t e.
      let decodes = decodes_more first x s.0 next z now y s.0 [] s.1 t (sym (append-nil s.0)) in
      (s.0, subst (λ (f : BodyState). ReadsBody None f x s.0 (within (ends_before z))) is (decoded_body first x s.0 next z decodes e), s.2))

pub staged_length : (framing : Framing) (first last : BodyState) (n : ℕ) (before now : Staged) (a b : Option (List ℕ)) → first ≡ first_state framing
    → KeepsLimit (takings.Whole n) (2 ^ 62) (now.count - before.count) (due last) → OnStream a b (λ old new. TakesBody (takings.Whole n) (2 ^ 62) first old last new before now)
    → OnStream a b (λ old new. IsTakingEnd (takings.Whole n) last new) → OnStream a b (HasLength ways.Stage framing n)
staged_length framing first last n before now a b is keeps took ended = on_both a b took ended (λ x y t stop.
    let (body, reads, gains, long) = staged_body first x last y (2 ^ 62) n before now t stop keeps in
    (body, subst (λ (f : BodyState). ReadsBody (Some (2 ^ 62)) f x body (within (ends_before y))) is reads, long))

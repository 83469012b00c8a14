-- A request: its head, and what stands behind it.
use Rattle.std.proofs.Common.{◌≡◌, ℕ, ◌<◌, ◌≤◌, Bool, false, true, List, [], ◌++◌, Option, Some, None, Ok, Err, refl, sym, ap, subst, arith, inl, inr}
use Rattle.std.specs.Io.KnownBytes.{Appends}
use Rattle.std.proofs.KnownBytes.{Appends-nil}
use Rattle.reg_names.specs.Cause.{Rose, HasCause}
use Rattle.httparse.specs.Grammar.{RequestHead}
use Rattle.http_wire.specs.declared.head.Head.{Head}
use Rattle.http_wire.specs.declared.head.Heading.{Heading}
use Rattle.http_wire.specs.declared.head.Heading.TheVariants as headings
use Rattle.http_wire.specs.declared.body.BodyState.{BodyState}
use Rattle.http_wire.specs.Answers.{TellsHead}
use Rattle.http_wire.specs.Fields.{Shows}
use Rattle.http_wire.specs.Filling.{takes_none}
use Rattle.http_wire.specs.Flow.{Flow, spent, IsBounded, OnStream}
use Rattle.http_wire.specs.Reading.{decodes_none}
use Rattle.http_wire.proofs.StreamLaws.{on_then, on_same}
use Rattle.reg_entries.specs.declared.reply.Reply.{Reply}
use Rattle.reg_model.specs.Answers.{refusal}
use Rattle.reg_replies.specs.Replies.{wire}
use Rattle.reg_replies.specs.Writing.{memory_wire}
use Rattle.reg_world.specs.Worlds.{Data}
use Rattle.reg_session.specs.declared.ended.Ended.{Ended}
use Rattle.reg_session.specs.declared.ended.Ended.TheVariants as ends
use Rattle.reg_session.specs.declared.ended.Step.{Step}
use Rattle.reg_session.specs.declared.ended.Step.TheVariants as steps
use Rattle.reg_session.specs.Requests.{Parts, parts_of, parts_in, head_only, asked_in, body_state, HasHead, ReadsFront}
use Rattle.reg_session.specs.Sending.{Tries}
use Rattle.reg_session.specs.Sessions.{here}
use Rattle.depot_api.specs.Ids.{Words}
use Rattle.reg_routes.specs.Routing.{Answer as Asked}
use Rattle.reg_session.specs.Chains.{Hold, Chain, Own, BringsAll}
use Rattle.reg_session.specs.Works.{Begun, Work, idle, began, turned_away, refused, denied, served, number_of, text_of, room_in, IsBegun, Leaves, Took, EndsWith, EndsOn, EndsBetween, EndsInside, LeavesNothing, IsBefore, WroteMemory, Wrote, before_reply, is_head}
use Rattle.reg_session.specs.InnerReplies.{RefusesWith, IfStepBlob}
use Rattle.reg_session.specs.InnerSteps.{Exchanges, line, store, TookBehind, IsCutBehind, EndsOnBehind, Behind, Responds, StepCauses, Advances}

-- ---- a head, and what stands behind it

head_parts : (head : Head) (h : RequestHead) → Shows head h → parts_of h ≡ parts_in head
head_parts head h shows =
    λ i. record { method = sym shows.method i; target = sym shows.target i; minor = sym shows.minor i; fields = sym shows.fields i }

has_head : (head : Head) (x y : List ℕ) → TellsHead (headings.Head head) x y → HasHead x (parts_in head) y
has_head head x y (h, holds, shows) = (h, holds, head_parts head h shows)

of_parts : (p q : Parts) (x y : List ℕ) → q ≡ p → HasHead x p y → HasHead x q y
of_parts p q x y is head = subst (λ (r : Parts). HasHead x r y) (sym is) head

took_head : (p : Parts) (work : Work) (x y z : List ℕ) → HasHead x p y → TookBehind p work y z → Took work x z
took_head p idle x y z head took = absurd took
took_head p (began b) x y z head (is, front) = (y, of_parts p b.parts x y is head, front)
took_head p (turned_away n) x y z head took = absurd took
took_head p (refused b n) x y z head (is, bad) = (y, of_parts p b.parts x y is head, bad)
took_head p (denied q holds reply) x y z head (is, same) =
    subst (λ (r : List ℕ). HasHead x q r) (sym same) (of_parts p q x y is head)
took_head p (served t) x y z head (is, body) = (y, of_parts p t.request.parts x y is head, body)

cut_head : (p : Parts) (work : Work) (x y z : List ℕ) → HasHead x p y → TookBehind p work y z → IsCutBehind work y → EndsInside work x
cut_head p idle x y z head took cut = absurd cut
cut_head p (began b) x y z head (is, front) cut = (y, of_parts p b.parts x y is head, cut)
cut_head p (turned_away n) x y z head took cut = absurd cut
cut_head p (refused b n) x y z head took cut = absurd cut
cut_head p (denied q holds reply) x y z head took cut = absurd cut
cut_head p (served t) x y z head took cut = absurd cut

done_head : (p : Parts) (work : Work) (x y z : List ℕ) → TookBehind p work y z → EndsBetween work x
done_head p idle x y z took = absurd took
done_head p (began b) x y z took = tt
done_head p (turned_away n) x y z took = tt
done_head p (refused b n) x y z took = tt
done_head p (denied q holds reply) x y z took = tt
done_head p (served t) x y z took = tt

ends_head : {B : Type 0} (ended : Ended B) (p : Parts) (work : Work) (x y z : List ℕ) → HasHead x p y → TookBehind p work y z
    → EndsOnBehind ended work y → EndsOn ended work x
ends_head ends.Done p work x y z head took on = done_head p work x y z took
ends_head (ends.Refused n) p work x y z head took on = tt
ends_head ends.Cut p work x y z head took on = cut_head p work x y z head took on
ends_head ends.SourceFault p work x y z head took on = tt
ends_head ends.SinkFault p work x y z head took on = tt
ends_head (ends.BlobFault blob) p work x y z head took on = tt
ends_head ends.Long p work x y z head took on = tt
ends_head ends.NoMemory p work x y z head took on = tt

-- a request whose head was read
pub headed : {B : Type 0} (between : Data → Data → Type 0) (o : Own) (failed : Type 0) (head : Head) (w v : Data) (before after : Words) (a b c left mid last start new : Option (List ℕ))
    (step : Step B) → OnStream a b (TellsHead (headings.Head head))
    → Responds between o failed (parts_in head) (store w before) (store v after) (line b mid start) (line c last new) step
    → Exchanges between o failed (here w before a left start) (here v after c last new) step
headed between o failed head w v before after a b c left mid last start new steps.Next tells responds =
    let (t, same, one) = responds.behind in (
      t,
      record {
        is = one.is;
        holds = subst (λ (l : List Hold). Chain between w l v) (sym same) responds.makes.chain;
        brings = subst (λ (l : List Hold). BringsAll o before l after) (sym same) responds.makes.brings;
        read = on_then a b c tells one.read (λ x y z p q. took_head (parts_in head) (served t) x y z (has_head head x y p) q);
        wrote = one.wrote;
      },
    )
headed between o failed head w v before after a b c left mid last start new (steps.Ended ended) tells responds =
    let (work, same, end) = responds.behind in (
      work,
      record {
        done = end.done;
        ends = end.ends;
        holds = subst (λ (l : List Hold). Chain between w l v) (sym same) responds.makes.chain;
        brings = subst (λ (l : List Hold). BringsAll o before l after) (sym same) responds.makes.brings;
        read = on_then a b c tells end.read (λ x y z p q.
            let have = has_head head x y p in
            (took_head (parts_in head) work x y z have q.0, ends_head ended (parts_in head) work x y z have q.0 q.1));
        at_end = end.at_end;
        wrote = end.wrote;
      },
    )

-- ---- causes

pub later_than : (a b c : ℕ) (told : Type 0) → a ≤ b → HasCause b c told → HasCause a c told
later_than a b c told later cause = record {
  later = omega (arith, later, cause.later);
  rose = λ x. let rose = cause.rose x in omega (arith, later, rose);
}

-- the same once the source gave a head before
pub causes_behind : {B : Type 0} (source mid source_now sink sink_now taken : ℕ) (faults : B → ℕ) (step : Step B) → source ≤ mid
    → StepCauses mid source_now sink sink_now taken faults step → StepCauses source source_now sink sink_now taken faults step
causes_behind source mid source_now sink sink_now taken faults step later causes = record {
  source = later_than source mid source_now (step ≡ steps.Ended ends.SourceFault) later causes.source;
  sink = causes.sink;
  blob = causes.blob;
  long = causes.long;
}

pub advances_behind : {B : Type 0} (old mid new : Flow) (step : Step B) → spent old < spent mid → IsBounded mid → spent mid ≤ spent new
    → Advances old new step
advances_behind old mid new steps.Next head bounded later = (omega (arith, head, later), omega (arith, head, bounded.1))
advances_behind old mid new (steps.Ended ended) head bounded later = tt

-- ---- bytes that are no head

turned_end : {B : Type 0} (n : ℕ) (ended : Ended B) → RefusesWith n ended → EndsWith ended (turned_away n)
turned_end n ends.Done x = absurd x
turned_end n (ends.Refused m) x = x
turned_end n ends.Cut x = absurd x
turned_end n ends.SourceFault x = absurd x
turned_end n ends.SinkFault x = λ e. cc e
turned_end n (ends.BlobFault blob) x = absurd x
turned_end n ends.Long x = absurd x
turned_end n ends.NoMemory x = tt

turned_on : {B : Type 0} (n : ℕ) (ended : Ended B) (x : List ℕ) → RefusesWith n ended → EndsOn ended (turned_away n) x
turned_on n ends.Done x h = tt
turned_on n (ends.Refused m) x h = tt
turned_on n ends.Cut x h = absurd h
turned_on n ends.SourceFault x h = tt
turned_on n ends.SinkFault x h = tt
turned_on n (ends.BlobFault blob) x h = tt
turned_on n ends.Long x h = tt
turned_on n ends.NoMemory x h = tt

turned_left : {B : Type 0} (n : ℕ) (ended : Ended B) (left : Option (List ℕ)) → RefusesWith n ended → LeavesNothing ended (turned_away n) left
turned_left n ends.Done left h = tt
turned_left n (ends.Refused m) left h = tt
turned_left n ends.Cut left h = absurd h
turned_left n ends.SourceFault left h = tt
turned_left n ends.SinkFault left h = tt
turned_left n (ends.BlobFault blob) left h = tt
turned_left n ends.Long left h = tt
turned_left n ends.NoMemory left h = tt

pub turned : {B : Type 0} (between : Data → Data → Type 0) (o : Own) (failed : Type 0) (n : ℕ) (reply : Reply) (w : Data) (words : Words) (a b left last start new : Option (List ℕ)) (ended : Ended B)
    → reply ≡ refusal n → OnStream a b (TellsHead (headings.Bad n)) → RefusesWith (number_of reply) ended
    → ((work : Work) (begin : Option (List ℕ)) → Appends begin start (before_reply work)
    → text_of work ≡ before_reply work ++ wire reply false true → is_head work ≡ false → Wrote failed ended begin new work)
    → Exchanges between o failed (here w words a left start) (here w words b last new) (steps.Ended ended)
turned between o failed n reply w words a b left last start new ended is tells refuses wrote =
    let so : RefusesWith n ended = subst (λ (r : Reply). RefusesWith (number_of r) ended) is refuses in (
      turned_away n,
      record {
        done = tt;
        ends = turned_end n ended so;
        holds = λ next x. x;
        brings = refl;
        read = on_same a b tells (λ x y t. (t.0, turned_on n ended x so));
        at_end = turned_left n ended last so;
        wrote = wrote (turned_away n) start (Appends-nil start) (ap (λ (r : Reply). wire r false true) (sym is)) refl;
      },
    )

not_by_source : {B : Type 0} (n : ℕ) (ended : Ended B) → RefusesWith n ended → steps.Ended ended ≡ steps.Ended ends.SourceFault → ⊥
not_by_source n ends.Done x e = absurd x
not_by_source n (ends.Refused m) x e = absurd cc
not_by_source n ends.Cut x e = absurd x
not_by_source n ends.SourceFault x e = absurd x
not_by_source n ends.SinkFault x e = absurd cc
not_by_source n (ends.BlobFault blob) x e = absurd x
not_by_source n ends.Long x e = absurd x
not_by_source n ends.NoMemory x e = absurd cc

not_by_length : {B : Type 0} (n : ℕ) (ended : Ended B) → RefusesWith n ended → steps.Ended ended ≡ steps.Ended ends.Long → ⊥
not_by_length n ends.Done x e = absurd x
not_by_length n (ends.Refused m) x e = absurd cc
not_by_length n ends.Cut x e = absurd x
not_by_length n ends.SourceFault x e = absurd x
not_by_length n ends.SinkFault x e = absurd cc
not_by_length n (ends.BlobFault blob) x e = absurd x
not_by_length n ends.Long x e = absurd x
not_by_length n ends.NoMemory x e = absurd cc

not_by_blob : {B : Type 0} (n : ℕ) (faults : B → ℕ) (ended : Ended B) → RefusesWith n ended → IfStepBlob faults (steps.Ended ended)
not_by_blob n faults ends.Done x = tt
not_by_blob n faults (ends.Refused m) x = tt
not_by_blob n faults ends.Cut x = tt
not_by_blob n faults ends.SourceFault x = tt
not_by_blob n faults ends.SinkFault x = tt
not_by_blob n faults (ends.BlobFault blob) x = absurd x
not_by_blob n faults ends.Long x = tt
not_by_blob n faults ends.NoMemory x = tt

abbrev ended_in : {B : Type 0} → Ended B → Step B → Ended B
ended_in other steps.Next = other
ended_in other (steps.Ended ended) = ended

-- a refusal tells no fault but the sink's
pub turned_causes : {B : Type 0} (n source source_now sink sink_now taken : ℕ) (faults : B → ℕ) (ended : Ended B) → RefusesWith n ended
    → source ≤ source_now → HasCause sink sink_now (ended ≡ ends.SinkFault)
    → StepCauses source source_now sink sink_now taken faults (steps.Ended ended)
turned_causes n source source_now sink sink_now taken faults ended refuses later cause = record {
  source = record { later = later; rose = λ e. absurd (not_by_source n ended refuses e) };
  sink = record { later = cause.later; rose = λ e. cause.rose (ap (ended_in ended) e) };
  blob = not_by_blob n faults ended refuses;
  long = λ e. absurd (not_by_length n ended refuses e);
}

-- ---- the source failed

abbrev stopped : {B : Type 0} → Ended B → Step B
stopped ended = steps.Ended ended

source_not_sink : {B : Type 0} → stopped {B = B} ends.SourceFault ≡ stopped ends.SinkFault → ⊥
source_not_sink e = absurd cc

source_not_long : {B : Type 0} → stopped {B = B} ends.SourceFault ≡ stopped ends.Long → ⊥
source_not_long e = absurd cc

pub source_failed_causes : {B : Type 0} (source source_now sink taken : ℕ) (faults : B → ℕ) → source ≤ source_now → Rose source source_now
    → StepCauses {B = B} source source_now sink sink taken faults (steps.Ended ends.SourceFault)
source_failed_causes source source_now sink taken faults later rose = record {
  source = record { later = later; rose = λ _. rose };
  sink = record { later = omega arith; rose = λ e. absurd (source_not_sink e) };
  blob = tt;
  long = λ e. absurd (source_not_long e);
}

-- ---- no request was in work

pub ended_idle : {B : Type 0} (between : Data → Data → Type 0) (o : Own) (failed : Type 0) (heading : Heading) (w : Data) (words : Words) (a b left last start new : Option (List ℕ)) (ended : Ended B)
    → OnStream a b (TellsHead heading) → ((x y : List ℕ) → TellsHead heading x y → (y ≡ x) × EndsOn ended idle x)
    → EndsWith ended idle → LeavesNothing ended idle last → Wrote failed ended start new idle
    → Exchanges between o failed (here w words a left start) (here w words b last new) (steps.Ended ended)
ended_idle between o failed heading w words a b left last start new ended tells on with_idle over wrote = (
  idle,
  record {
    done = tt;
    ends = with_idle;
    holds = λ next x. x;
    brings = refl;
    read = on_same a b tells on;
    at_end = over;
    wrote = wrote;
  },
)

-- nothing was written before
wants : (failed : Type 0) (work : Work) (start new : Option (List ℕ)) (only : Bool) → only ≡ is_head work → IsBefore work [] → Tries failed start new (memory_wire only)
    → WroteMemory failed start new work
wants failed work start new only is silent took = record {
  said = [];
  before = silent;
  mid = start;
  took = Appends-nil start;
  reply = subst (λ (o : Bool). Tries failed start new (memory_wire o)) is took;
}

pub idle_wanting : {B : Type 0} (between : Data → Data → Type 0) (o : Own) (failed : Type 0) (w : Data) (words : Words) (a b left last start new : Option (List ℕ)) (ended : Ended B)
    → ended ≡ ends.NoMemory → OnStream a b (TellsHead headings.NoMemory) → Tries failed start new (memory_wire false)
    → Exchanges between o failed (here w words a left start) (here w words b last new) (steps.Ended ended)
idle_wanting {B} between o failed w words a b left last start new ended is tells took =
    subst (λ (e : Ended B). Exchanges between o failed (here w words a left start) (here w words b last new) (steps.Ended e)) (sym is)
    (ended_idle between o failed headings.NoMemory w words a b left last start new ends.NoMemory tells (λ x y t. (t, tt)) tt tt (wants failed idle start new false refl refl took))

-- ---- memory was wanting once a head was read

front_none : (limit : Option ℕ) (state : BodyState) (x : List ℕ) → ReadsFront limit state x [] x
front_none (Some most) state x = (state, takes_none most state x [] state x refl refl refl)
front_none None state x = (state, decodes_none state x [] state x refl refl refl)

-- a request that was begun, and whose body did not come
abbrev pub only_begun : Parts → List Hold → Begun
only_begun p holds = record { parts = p; begin = []; holds = holds }

pub just_begun : (p : Parts) (holds : List Hold) (a : Option (List ℕ)) → OnStream a a (λ x y. TookBehind p (began (only_begun p holds)) x y × Unit {0})
just_begun p holds None = tt
just_begun p holds (Some x) = ((refl, front_none (room_in (only_begun p holds)) (body_state p) x), tt)

-- no hold was made yet
pub leaves_none : (asked : Asked) (begin : List ℕ) → Leaves asked begin []
leaves_none (Ok ask) begin = tt
leaves_none (Err reply) begin = tt

-- memory was wanting before its body was read
pub wanting_behind : {B : Type 0} (failed : Type 0) (p : Parts) (holds : List Hold) (a left start new : Option (List ℕ)) (only : Bool) (ended : Ended B)
    → IsBegun (only_begun p holds) → ended ≡ ends.NoMemory → only ≡ head_only p → Tries failed start new (memory_wire only)
    → Behind failed p (line a left start) (line a left new) holds (steps.Ended ended)
wanting_behind {B} failed p holds a left start new only ended begun is head took =
    let b = only_begun p holds in
    let at : Behind {B = B} failed p (line a left start) (line a left new) holds (steps.Ended ends.NoMemory) = (
      began b,
      refl,
      record {
        done = begun;
        ends = tt;
        read = just_begun p holds a;
        at_end = tt;
        wrote = wants failed (began b) start new only head (inr (refl, refl)) took;
      },
    ) in
    subst (λ (e : Ended B). Behind failed p (line a left start) (line a left new) holds (steps.Ended e)) (sym is) at

pub begun_wanting : {B : Type 0} (between : Data → Data → Type 0) (o : Own) (failed : Type 0) (p : Parts) (w : Data) (words : Words) (a left start new : Option (List ℕ)) (only : Bool) (ended : Ended B)
    → ended ≡ ends.NoMemory → only ≡ head_only p → Tries failed start new (memory_wire only)
    → Responds between o failed p (store w words) (store w words) (line a left start) (line a left new) (steps.Ended ended)
begun_wanting between o failed p w words a left start new only ended is head took = record {
  holds = [];
  makes = record { chain = λ next x. x; brings = refl };
  behind = wanting_behind failed p [] a left start new only ended (record { may = tt; leaves = leaves_none (asked_in p) [] }) is head took;
}

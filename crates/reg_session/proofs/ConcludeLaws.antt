-- Replies that were written, as far as sink and blob went.
use Rattle.std.proofs.Common.{◌≡◌, ℕ, ◌≤◌, ◌⊎◌, Bool, true, false, ◌||◌, if◌then◌else◌, List, [], ◌++◌, Option, Some, Result, Ok, Err, refl, sym, ap, subst, ◌∙◌, append_assoc, append-nil, inl, inr, arith}
use Rattle.std.specs.Prelude.{MatchResult, IsErr, ⊤}
use Rattle.std.specs.Io.KnownBytes.{Appends}
use Rattle.std.proofs.KnownBytes.{Appends-trans}
use Rattle.reg_names.specs.Cause.{Rose, HasCause}
use Rattle.depot_api.specs.Blobs.{Rest}
use Rattle.reg_entries.specs.declared.reply.Reply.{Reply}
use Rattle.reg_model.specs.Answers.{Answer}
use Rattle.reg_model.specs.Blobs.{HasLeft, IsBlob}
use Rattle.reg_replies.specs.Replies.{wire}
use Rattle.reg_replies.specs.Writing.{Sends, TookFront, memory_wire}
use Rattle.reg_session.specs.declared.ended.Ended.{Ended}
use Rattle.reg_session.specs.declared.ended.Ended.TheVariants as ends
use Rattle.reg_session.specs.declared.ended.Step.{Step}
use Rattle.reg_session.specs.declared.ended.Step.TheVariants as steps
use Rattle.reg_session.specs.InnerReplies.{GoesOn, WritesAll, SendsAfter, IsWhole, closing, ConcludesSo, Concludes}
use Rattle.reg_session.specs.Requests.{Parts, head_only, is_last}
use Rattle.reg_session.specs.Sending.{Tries, BreaksOff}
use Rattle.reg_session.specs.Turns.{wants_memory, content}
use Rattle.reg_session.specs.Works.{Work, idle, began, turned_away, refused, denied, served, text_of, before_reply, is_head, IsBefore, Wrote}

-- ---- fronts

-- a front of what follows a text is one of both
pub front_behind : (a b c : Option (List ℕ)) (x y : List ℕ) → Appends a b x → TookFront b c y → TookFront a c (x ++ y)
front_behind a b c x y took h = record {
  front = x ++ h.front;
  rest = h.rest;
  split = ap (λ (t : List ℕ). x ++ t) h.split ∙ sym (append_assoc x h.front h.rest);
  took = Appends-trans a b c x h.front took h.took;
}

pub front_whole : (a b : Option (List ℕ)) (x : List ℕ) → Appends a b x → TookFront a b x
front_whole a b x took = record { front = x; rest = []; split = sym (append-nil x); took = took }

-- what came of a write
pub tried : {T E : Type 0} (a b : Option (List ℕ)) (x : List ℕ) (before now : ℕ) (r : Result T E) → Sends a b x r
    → HasCause before now (IsErr r) → Tries (Rose before now) a b x
tried a b x before now (Ok _) took cause = inl took
tried a b x before now (Err _) took cause = inr (cause.rose refl, took)

-- ---- a sink that failed since then failed since earlier

pub rose_before : (first before now : ℕ) → first ≤ before → Rose before now → Rose first now
rose_before first before now later rose = omega (arith, later, rose)

tries_before : (failed since : Type 0) (a b : Option (List ℕ)) (x : List ℕ) → (failed → since) → Tries failed a b x → Tries since a b x
tries_before failed since a b x earlier (inl took) = inl took
tries_before failed since a b x earlier (inr (is, took)) = inr (earlier is, took)

pub wrote_before : {B : Type 0} (failed since : Type 0) (ended : Ended B) (old new : Option (List ℕ)) (work : Work) → (failed → since)
    → Wrote failed ended old new work → Wrote since ended old new work
wrote_before failed since ends.Done old new work earlier h = h
wrote_before failed since (ends.Refused n) old new work earlier h = h
wrote_before failed since ends.Cut old new work earlier h = h
wrote_before failed since ends.SourceFault old new work earlier h = h
wrote_before failed since ends.SinkFault old new work earlier h = h
wrote_before failed since (ends.BlobFault blob) old new work earlier h = h
wrote_before failed since ends.Long old new work earlier h = h
wrote_before failed since ends.NoMemory old new work earlier h = record {
  said = h.said;
  before = h.before;
  mid = h.mid;
  took = h.took;
  reply = tries_before failed since h.mid new (memory_wire (is_head work)) earlier h.reply;
}

pub concludes_before : {B : Type 0} (failed since : Type 0) (p : Parts) (answer : Answer) (old new : Option (List ℕ)) (step : Step B) → (failed → since)
    → ConcludesSo failed p answer old new step → ConcludesSo since p answer old new step
concludes_before failed since p answer old new steps.Next earlier h = h
concludes_before failed since p answer old new (steps.Ended ends.Done) earlier h = h
concludes_before failed since p answer old new (steps.Ended (ends.Refused n)) earlier h = h
concludes_before failed since p answer old new (steps.Ended ends.Cut) earlier h = h
concludes_before failed since p answer old new (steps.Ended ends.SourceFault) earlier h = h
concludes_before failed since p answer old new (steps.Ended ends.SinkFault) earlier h = h
concludes_before failed since p answer old new (steps.Ended (ends.BlobFault blob)) earlier h = h
concludes_before failed since p answer old new (steps.Ended ends.Long) earlier h = h
concludes_before failed since p answer old new (steps.Ended ends.NoMemory) earlier h = tries_before failed since old new (memory_wire (head_only p)) earlier h

-- ---- refusals, behind what comes before them

all_before : (work : Work) → IsBefore work (before_reply work)
all_before idle = refl
all_before (began b) = inl refl
all_before (turned_away n) = refl
all_before (refused b n) = refl
all_before (denied p holds reply) = refl
all_before (served t) = refl

pub refuses_memory : {B : Type 0} (failed : Type 0) (only : Bool) (old new : Option (List ℕ)) (ended : Ended B) → ended ≡ ends.NoMemory → Tries failed old new (memory_wire only)
    → (work : Work) (start : Option (List ℕ)) → Appends start old (before_reply work) → is_head work ≡ only → Wrote failed ended start new work
refuses_memory {B} failed only old new ended is took work start before head =
    let all : Wrote {B = B} failed ends.NoMemory start new work = record {
      said = before_reply work;
      before = all_before work;
      mid = old;
      took = before;
      reply = subst (λ (b : Bool). Tries failed old new (memory_wire b)) (sym head) took;
    } in
    subst (λ (e : Ended B). Wrote failed e start new work) (sym is) all

pub refuses_whole : (text : List ℕ) (old new : Option (List ℕ)) → Appends old new text → (work : Work) (start : Option (List ℕ)) → Appends start old (before_reply work) → text_of work ≡ before_reply work ++ text → Appends start new (text_of work)
refuses_whole text old new took work start before is =
    subst (λ (t : List ℕ). Appends start new t) (sym is) (Appends-trans start old new (before_reply work) text before took)

pub refuses_front : (text : List ℕ) (old new : Option (List ℕ)) → TookFront old new text → (work : Work) (start : Option (List ℕ)) → Appends start old (before_reply work) → text_of work ≡ before_reply work ++ text → TookFront start new (text_of work)
refuses_front text old new took work start before is =
    subst (λ (t : List ℕ). TookFront start new t) (sym is) (front_behind start old new (before_reply work) text before took)

-- ---- a head, and a blob behind it

went_on : {B : Type 0} (last : Bool) (head body : List ℕ) (old new : Option (List ℕ)) (step : Step B) → Appends old new (head ++ body) → GoesOn last step → WritesAll last head body old new step
went_on last head body old new steps.Next took goes = (goes, took)
went_on {B} last head body old new (steps.Ended ended) took goes =
    let all : WritesAll {B = B} last head body old new (steps.Ended ends.Done) = (goes.0, took) in
    subst (λ (e : Ended B). WritesAll last head body old new (steps.Ended e)) (sym goes.1) all

-- what follows a write
pub writes_all : {B T E : Type 0} (last : Bool) (head body : List ℕ) (old new : Option (List ℕ)) (r : Result T E) (step : Step B) → Sends old new (head ++ body) r → MatchResult r (λ _. GoesOn last step) (λ _. step ≡ steps.Ended ends.SinkFault) → WritesAll last head body old new step
writes_all last head body old new (Ok _) step took goes = went_on last head body old new step took goes
writes_all {B} last head body old new (Err _) step took is =
    let all : WritesAll {B = B} last head body old new (steps.Ended ends.SinkFault) = took in
    subst (λ (s : Step B). WritesAll last head body old new s) (sym is) all

only_head : (only : Bool) (bytes : List ℕ) → only ≡ true → (if only then [] else bytes) ≡ []
only_head only bytes is = ap (λ (b : Bool). if b then [] else bytes) is

-- the head is all that was asked for
pub sends_head : {B T E : Type 0} (rest : Rest) (bytes : List ℕ) (only last : Bool) (head : List ℕ) (old new : Option (List ℕ)) (r : Result T E) (step : Step B) → HasLeft rest bytes → only ≡ true → Sends old new head r → MatchResult r (λ _. GoesOn last step) (λ _. step ≡ steps.Ended ends.SinkFault) → SendsAfter rest only last head old new step
sends_head {B} {T} {E} rest bytes only last head old new r step left is took goes = record {
  bytes = bytes;
  of_blob = left;
  writes = subst (λ (t : List ℕ). WritesAll last head t old new step) (sym (only_head only bytes is))
      (writes_all last head [] old new r step (subst (λ (t : List ℕ). Sends old new t r) (sym (append-nil head)) took) goes);
}

-- ---- a reply to a request

or_false : (a b : Bool) → b ≡ false → (a || b) ≡ a
or_false true b none = refl
or_false false b none = none

not_true : (b : Bool) → (b ≡ true → ⊥) → b ≡ false
not_true true other = absurd (other refl)
not_true false other = refl

-- a step that breaks off in a blob is behind a reply that tells one, and has a body
abbrev BreaksOnlyIn : {B : Type 0} (p : Parts) (reply : Reply) → Step B → Type 0
BreaksOnlyIn p reply (steps.Ended (ends.BlobFault blob)) = IsBlob reply × (head_only p ≡ false)
BreaksOnlyIn p reply step = ⊤

breaks_only : {B : Type 0} (p : Parts) (reply : Reply) (step : Step B) (only : Bool) → only ≡ head_only p → IsBlob reply → (only ≡ true → IsWhole step) → BreaksOnlyIn p reply step
breaks_only p reply steps.Next only is of_blob whole = tt
breaks_only p reply (steps.Ended ends.Done) only is of_blob whole = tt
breaks_only p reply (steps.Ended (ends.Refused n)) only is of_blob whole = tt
breaks_only p reply (steps.Ended ends.Cut) only is of_blob whole = tt
breaks_only p reply (steps.Ended ends.SourceFault) only is of_blob whole = tt
breaks_only p reply (steps.Ended ends.SinkFault) only is of_blob whole = tt
breaks_only p reply (steps.Ended (ends.BlobFault blob)) only is of_blob whole = (of_blob, not_true (head_only p) (λ e. whole (is ∙ e)))
breaks_only p reply (steps.Ended ends.Long) only is of_blob whole = tt
breaks_only p reply (steps.Ended ends.NoMemory) only is of_blob whole = tt

so_written : {B : Type 0} (failed : Type 0) (p : Parts) (answer : Answer) (old new : Option (List ℕ)) (step : Step B) → wants_memory answer.reply ≡ false → closing p answer ≡ is_last p
    → WritesAll (is_last p) (wire answer.reply (head_only p) (is_last p)) (content p answer) old new step → BreaksOnlyIn p answer.reply step → ConcludesSo failed p answer old new step
so_written failed p answer old new steps.Next plain is w breaks =
    (is ∙ w.0, subst (λ (b : Bool). Appends old new (wire answer.reply (head_only p) b ++ content p answer)) (sym is) w.1)
so_written failed p answer old new (steps.Ended ends.Done) plain is w breaks =
    (w.0, plain, subst (λ (b : Bool). Appends old new (wire answer.reply (head_only p) b ++ content p answer)) (sym is) w.1)
so_written failed p answer old new (steps.Ended (ends.Refused n)) plain is w breaks = absurd w
so_written failed p answer old new (steps.Ended ends.Cut) plain is w breaks = absurd w
so_written failed p answer old new (steps.Ended ends.SourceFault) plain is w breaks = absurd w
so_written failed p answer old new (steps.Ended ends.SinkFault) plain is w breaks =
    (plain, subst (λ (b : Bool). TookFront old new (wire answer.reply (head_only p) b ++ content p answer)) (sym is) w)
so_written failed p answer old new (steps.Ended (ends.BlobFault blob)) plain is w breaks =
    (breaks.0, breaks.1, subst (λ (b : Bool). BreaksOff old new (wire answer.reply (head_only p) b) (content p answer)) (sym is) w)
so_written failed p answer old new (steps.Ended ends.Long) plain is w breaks = absurd w
so_written failed p answer old new (steps.Ended ends.NoMemory) plain is w breaks = absurd w

-- the head that was written is that of the reply to the request
pub record IsHeadOf (p : Parts) (reply : Reply) (only last : Bool) (text : List ℕ) : Type 0 where
  pub plain : wants_memory reply ≡ false
  pub only_is : only ≡ head_only p
  pub last_is : last ≡ is_last p
  pub text_is : text ≡ wire reply only last

of_reply : {B : Type 0} (p : Parts) (reply : Reply) (only last : Bool) (text bytes : List ℕ) (old new : Option (List ℕ)) (step : Step B) → IsHeadOf p reply only last text → WritesAll last text (if only then [] else bytes) old new step → WritesAll (is_last p) (wire reply (head_only p) (is_last p)) (if head_only p then [] else bytes) old new step
of_reply p reply only last text bytes old new step is w =
    let head = subst (λ (t : List ℕ). WritesAll last t (if only then [] else bytes) old new step) is.text_is w in
    let only_so = subst (λ (o : Bool). WritesAll last (wire reply o last) (if o then [] else bytes) old new step) is.only_is head in
    subst (λ (l : Bool). WritesAll l (wire reply (head_only p) l) (if head_only p then [] else bytes) old new step) is.last_is only_so

pub blob_concludes : {B : Type 0} (rest : B → Rest) (failed : Type 0) (p : Parts) (reply : Reply) (blob : B) (only last : Bool) (text : List ℕ) (old new : Option (List ℕ)) (step : Step B) → IsHeadOf p reply only last text → IsBlob reply → SendsAfter (rest blob) only last text old new step → (only ≡ true → IsWhole step) → Concludes rest failed p reply (Some blob) old new step
blob_concludes rest failed p reply blob only last text old new step is of_blob h whole = record {
  bytes = h.bytes;
  of_blob = h.of_blob;
  so = so_written failed p (record { reply = reply; content = h.bytes }) old new step is.plain (or_false (is_last p) (wants_memory reply) is.plain)
      (of_reply p reply only last text h.bytes old new step is h.writes)
      (breaks_only p reply step only is.only_is of_blob whole);
}

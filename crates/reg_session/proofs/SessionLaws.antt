-- Requests one after the other.
use Rattle.std.proofs.Common.{◌≡◌, ℕ, ◌≤◌, false, List, [], ◌∷◌, ◌++◌, map, Option, Some, None, refl, sym, ap, subst, ◌∙◌, append_assoc, append-nil, arith}
use Rattle.std.specs.Prelude.{flat_map}
use Rattle.std.specs.List.{AllByRecursion}
use Rattle.std.specs.Io.KnownBytes.{Appends, prepend_known}
use Rattle.std.proofs.KnownBytes.{Appends-nil, Appends-trans}
use Rattle.http_wire.specs.Flow.{Flow, OnStream, Counts}
use Rattle.http_wire.specs.Limits.{feed_limit}
use Rattle.http_wire.proofs.StreamLaws.{on_then}
use Rattle.reg_replies.specs.Writing.{memory_wire}
use Rattle.reg_world.specs.Worlds.{Data}
use Rattle.reg_session.specs.declared.ended.Ended.{Ended}
use Rattle.reg_session.specs.declared.ended.Ended.TheVariants as ends
use Rattle.reg_session.specs.declared.ended.Step.{Step}
use Rattle.reg_session.specs.declared.ended.Step.TheVariants as steps
use Rattle.reg_session.specs.Requests.{ReadsRequest, Reads}
use Rattle.depot_api.specs.Ids.{Words}
use Rattle.reg_session.specs.Chains.{Hold, Chain, Own, BringsAll}
use Rattle.reg_session.specs.Turns.{Turn, talk}
use Rattle.reg_session.specs.Sending.{Tries}
use Rattle.reg_session.specs.Works.{Work, idle, Took, WroteMemory}
use Rattle.reg_session.specs.Sessions.{At, here, IsServed, Serves, EndsBy, IfBlobFault, GaveMany, Causes}
use Rattle.reg_session.specs.InnerReplies.{IfStepBlob}
use Rattle.reg_session.specs.InnerSteps.{ServesOne, StepCauses}
use Rattle.reg_session.proofs.ChainLaws.{chain_then, brings_then}
use Rattle.reg_session.proofs.ConcludeLaws.{wrote_before}
use Rattle.reg_session.proofs.ExchangeLaws.{later_than}

-- ---- one more

all_more : {A : Type 0} (P : A → Type 0) (xs : List A) (x : A) → AllByRecursion P xs → P x → AllByRecursion P (xs ++ x ∷ [])
all_more P [] x all p = (p, tt)
all_more P (y ∷ xs) x all p = (all.0, all_more P xs x all.1 p)

flat_more : {A B : Type 0} (f : A → List B) (xs : List A) (x : A) → flat_map f (xs ++ x ∷ []) ≡ flat_map f xs ++ f x
flat_more f [] x = append-nil (f x)
flat_more {A} {B} f (y ∷ xs) x = ap (λ (l : List B). f y ++ l) (flat_more f xs x) ∙ sym (append_assoc (f y) (flat_map f xs) (f x))

reads_more : (turns : List Turn) (t : Turn) (x y z : List ℕ) → Reads (map (λ (u : Turn). u.request) turns) x y
    → ReadsRequest y t.request z → Reads (map (λ (u : Turn). u.request) (turns ++ t ∷ [])) x z
reads_more [] t x y z is one = (z, subst (λ (b : List ℕ). ReadsRequest b t.request z) is one, refl)
reads_more (u ∷ turns) t x y z reads one = (reads.0, reads.1, reads_more turns t reads.0 y z reads.2 one)

pub serves_more : (between : Data → Data → Type 0) (o : Own) (a b c : At) (turns : List Turn) (t : Turn)
    → Serves between o a b turns → ServesOne between o b c t → Serves between o a c (turns ++ t ∷ [])
serves_more between o a b c turns t so_far one = record {
  each = all_more IsServed turns t so_far.each one.is;
  holds = subst (λ (l : List Hold). Chain between a.world l c.world) (sym (flat_more (λ (u : Turn). u.holds) turns t))
      (chain_then between a.world b.world c.world (flat_map (λ (u : Turn). u.holds) turns) t.holds so_far.holds one.holds);
  brings = subst (λ (l : List Hold). BringsAll o a.words l c.words) (sym (flat_more (λ (u : Turn). u.holds) turns t))
      (brings_then o a.words b.words c.words (flat_map (λ (u : Turn). u.holds) turns) t.holds so_far.brings one.brings);
  read = on_then a.bytes b.bytes c.bytes so_far.read one.read (λ x y z p q. reads_more turns t x y z p q);
  wrote = subst (λ (l : List ℕ). Appends a.written c.written l) (sym (flat_more talk turns t))
      (Appends-trans a.written b.written c.written (flat_map talk turns) (talk t) so_far.wrote one.wrote);
}

reads_none : (bytes : Option (List ℕ)) → OnStream bytes bytes (Reads [])
reads_none None = tt
reads_none (Some x) = refl

pub serves_none : (between : Data → Data → Type 0) (o : Own) (w : Data) (words : Words) (bytes left written : Option (List ℕ))
    → Serves between o (here w words bytes left written) (here w words bytes left written) []
serves_none between o w words bytes left written =
    record { each = tt; holds = λ next x. x; brings = refl; read = reads_none bytes; wrote = Appends-nil written }

-- the requests so far
abbrev pub SoFar : (Data → Data → Type 0) → Own → At → At → Type 0
SoFar between o old new = (turns : List Turn) × Serves between o old new turns

-- ---- an empty feed

empty_stream : (left : Option (List ℕ)) → prepend_known [] left ≡ left
empty_stream None = refl
empty_stream (Some x) = refl

pub from_empty : (pending : List ℕ) (left : Option (List ℕ)) → pending ≡ [] → prepend_known pending left ≡ left
from_empty pending left none = ap (λ (p : List ℕ). prepend_known p left) none ∙ empty_stream left

-- what a feed has taken since it was empty was given
pub gave_many : (first last : Flow) (given given_now : ℕ) → first.taken ≡ 0 → Counts first given last given_now
    → feed_limit ≤ last.taken → GaveMany given given_now
gave_many first last given given_now none counts many few = omega (arith, none, many, counts.as_given few)

-- ---- causes

blob_fault : {B : Type 0} (faults : B → ℕ) (ended : Ended B) → IfStepBlob faults (steps.Ended ended) → IfBlobFault faults ended
blob_fault faults ends.Done x = tt
blob_fault faults (ends.Refused n) x = tt
blob_fault faults ends.Cut x = tt
blob_fault faults ends.SourceFault x = tt
blob_fault faults ends.SinkFault x = tt
blob_fault faults (ends.BlobFault blob) x = x
blob_fault faults ends.Long x = tt
blob_fault faults ends.NoMemory x = tt

-- what a step that ends a session tells, of the whole session
pub session_causes : {B : Type 0} (source mid_source source_now sink mid_sink sink_now given given_now : ℕ) (first last : Flow) (faults : B → ℕ) (ended : Ended B)
    → source ≤ mid_source → sink ≤ mid_sink → first.taken ≡ 0 → Counts first given last given_now
    → StepCauses mid_source source_now mid_sink sink_now last.taken faults (steps.Ended ended)
    → Causes source source_now sink sink_now given given_now faults ended
session_causes {B} source mid_source source_now sink mid_sink sink_now given given_now first last faults ended source_later sink_later none counts causes =
    let step : Ended B → Step B = λ e. steps.Ended e in
    record {
      source = later_than source mid_source source_now (ended ≡ ends.SourceFault) source_later
          (record { later = causes.source.later; rose = λ is. causes.source.rose (ap step is) });
      sink = later_than sink mid_sink sink_now (ended ≡ ends.SinkFault) sink_later
          (record { later = causes.sink.later; rose = λ is. causes.sink.rose (ap step is) });
      blob = blob_fault faults ended causes.blob;
      long = λ is. gave_many first last given given_now none counts (causes.long (ap step is));
    }

-- a sink that failed since then failed since earlier
pub ends_before : {B : Type 0} (between : Data → Data → Type 0) (o : Own) (failed since : Type 0) (old new : At) (ended : Ended B) (work : Work) → (failed → since)
    → EndsBy between o failed old new ended work → EndsBy between o since old new ended work
ends_before between o failed since old new ended work earlier h = record {
  done = h.done;
  ends = h.ends;
  holds = h.holds;
  brings = h.brings;
  read = h.read;
  at_end = h.at_end;
  wrote = wrote_before failed since ended old.written new.written work earlier h.wrote;
}

-- ---- want of memory where no request is in work

took_idle : (bytes : Option (List ℕ)) → OnStream bytes bytes (λ x y. Took idle x y × Unit {0})
took_idle None = tt
took_idle (Some x) = (refl, tt)

wrote_idle : (failed : Type 0) (start new : Option (List ℕ)) → Tries failed start new (memory_wire false) → WroteMemory failed start new idle
wrote_idle failed start new took = record { said = []; before = refl; mid = start; took = Appends-nil start; reply = took }

pub idle_wants : {B : Type 0} (between : Data → Data → Type 0) (o : Own) (failed : Type 0) (w : Data) (words : Words) (bytes left start new : Option (List ℕ)) (ended : Ended B)
    → ended ≡ ends.NoMemory → Tries failed start new (memory_wire false)
    → EndsBy between o failed (here w words bytes left start) (here w words bytes left new) ended idle
idle_wants {B} between o failed w words bytes left start new ended is took =
    let at : EndsBy {B = B} between o failed (here w words bytes left start) (here w words bytes left new) ends.NoMemory idle = record {
      done = tt;
      ends = tt;
      holds = λ next x. x;
      brings = refl;
      read = took_idle bytes;
      at_end = tt;
      wrote = wrote_idle failed start new took;
    } in
    subst (λ (e : Ended B). EndsBy between o failed (here w words bytes left start) (here w words bytes left new) e idle) (sym is) at

-- Answers of the slow registry, and replies of the registry that one thread runs.
use Rattle.std.proofs.Common.{◌≡◌, ℕ, List, length, refl, sym, ap, subst, ◌∙◌}
use Rattle.std.specs.Prelude.{Result, IfOk, IsTrue}
use Rattle.std.proofs.lemmas.Result.{IfOk-weaker}
use Rattle.reg_names.specs.declared.kind.Kind.{Kind}
use Rattle.reg_names.specs.declared.refused.NoMemory.{NoMemory}
use Rattle.reg_digest.specs.Hashing.{hashes_to}
use Rattle.reg_entries.specs.State.{State}
use Rattle.reg_entries.specs.declared.ask.Ask.{Ask}
use Rattle.reg_entries.specs.declared.ask.Ask.TheVariants as asks
use Rattle.reg_entries.specs.declared.reply.Reply.{Reply}
use Rattle.reg_entries.specs.declared.reply.Reply.TheVariants as replies
use Rattle.reg_journal.specs.Past.{Past, shown}
use Rattle.reg_model.specs.Answers.{IsReply, IsManifest, ManifestBy, ManifestUnder}
use Rattle.reg_model.proofs.AnswerLaws.{replies_alike}
use Rattle.reg_plain.specs.declared.state.State.{State as Holder}
use Rattle.reg_plain.specs.declared.answer.Plain.{Plain}
use Rattle.reg_plain.specs.declared.answer.Plain.TheVariants as plains
use Rattle.reg_plain.specs.Held.{IsLeftOf}
use Rattle.reg_plain.specs.Answers.{IsPlain, Tells, TellsManifest, shown_by}

pub answered : (r : Result Plain NoMemory) (state : Holder) (ask kind : Ask) → ask ≡ kind → IfOk r (IsPlain (shown_by state) kind)
    → IfOk r (λ plain. (past : Past) → IsLeftOf past state → IsPlain (shown past) ask plain)
answered r state ask kind is h =
    IfOk-weaker r (IsPlain (shown_by state) kind) (λ plain. (past : Past) → IsLeftOf past state → IsPlain (shown past) ask plain)
    (λ plain told past left. subst (λ (a : Ask). IsPlain (shown past) a plain) (sym is) (subst (λ (s : State). IsPlain s kind plain) (sym (ap shown left.is)) told)) h

-- with its bytes a manifest that is told is replied
pub replied : (state : State) (ask : Ask) (kind : Kind) (digest : List ℕ) (size : ℕ) (bytes : List ℕ) → TellsManifest state ask kind digest size
    → IsTrue (hashes_to digest bytes) → length bytes ≡ size → IsReply state ask (replies.Manifest kind digest bytes)
replied state (asks.GetManifest name at) kind digest size bytes told hashes len =
    subst (λ o. ManifestUnder state name o (replies.Manifest kind digest bytes)) (sym told.refers)
    (subst (λ o. ManifestBy state name digest o (replies.Manifest kind digest bytes)) (sym told.stands)
    (record { bytes = bytes; of = record { hashes = hashes; size = len ∙ told.size_is }; is = ap (λ (k : Kind). replies.Manifest k digest bytes) told.kind_is }))
replied state ask kind digest size bytes told hashes len = absurd told

-- what is told is what is replied
pub told : (state : State) (ask : Ask) (plain : Plain) (reply : Reply) → IsPlain state ask plain → IsReply state ask reply → Tells plain reply
told state (asks.GetManifest name at) (plains.Manifest kind digest size) reply h r =
    let under = subst (λ o. ManifestUnder state name o reply) h.refers r in
    let m : IsManifest digest h.manifest reply = subst (λ o. ManifestBy state name digest o reply) h.stands under in
    subst (Tells (plains.Manifest kind digest size)) (sym m.is) (h.kind_is, refl, h.size_is ∙ sym m.of.size)
told state ask (plains.Blob digest size) reply h r = replies_alike state ask (replies.Blob digest size) reply h r
told state (asks.Tags name n last) (plains.Tags tags more) reply h r =
    subst (Tells (plains.Tags tags more)) (replies_alike state (asks.Tags name n last) (replies.Tags name tags more) reply h r) (refl, refl)
told state ask (plains.Refused refused) reply h r = replies_alike state ask (replies.Refused refused) reply h r
told state ask plain reply h r = absurd h

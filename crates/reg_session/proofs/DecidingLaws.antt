-- What an ask is answered by its hold.
use Rattle.std.proofs.Common.{◌≡◌, ℕ, List, [], ◌∷◌, Option, refl, sym, subst, ◌∙◌, true, Result, Ok, Err, MatchResult}
use Rattle.depot_api.specs.Ids.{Words}
use Rattle.reg_names.specs.declared.reference.Reference.{Reference}
use Rattle.reg_entries.specs.declared.ask.Ask.{Ask}
use Rattle.reg_entries.specs.declared.ask.Ask.TheVariants as asks
use Rattle.reg_entries.specs.declared.reply.Reply.{Reply}
use Rattle.reg_entries.specs.declared.reply.Reply.TheVariants as replies
use Rattle.reg_entries.specs.declared.trouble.Trouble.{Trouble}
use Rattle.reg_model.specs.Answers.{Answer, plain}
use Rattle.reg_world.specs.Worlds.{Data}
use Rattle.reg_world.specs.Moves.{Act, Seen, seen_of}
use Rattle.reg_session.specs.Holds.{Held}
use Rattle.reg_session.specs.Answering.{AnswersAs, trouble_reply}
use Rattle.reg_session.specs.Chains.{Hold, Own, Brings}
use Rattle.reg_session.specs.InnerSteps.{Decides, is_plain_single, is_single, Store, store}
use Rattle.reg_session.specs.Turns.{RepliesTo, goes_on_for, NeedsNoSession}
use Rattle.reg_session.proofs.ChainLaws.{hold_of, chain_one, makes_none}
use Rattle.reg_session.proofs.RespondLaws.{asked_as}

-- an answer is its parts
pub is_plain : (answer : Answer) (reply : Reply) → answer.reply ≡ reply → answer.content ≡ [] → answer ≡ plain reply
is_plain answer reply is none = λ i. record { reply = is i; content = none i }

-- the reply of a call, or that for its trouble, is the answer by what was seen
pub told : (found : Result Reply Trouble) (reply : Reply) (answer : Answer)
    → MatchResult found (λ r. reply ≡ r) (λ t. reply ≡ trouble_reply t) → answer.reply ≡ reply → answer.content ≡ []
    → AnswersAs (seen_of found) answer
told (Ok r) reply answer is same none = is_plain answer r (same ∙ is) none
told (Err t) reply answer is same none = is_plain answer (trouble_reply t) (same ∙ is) none

-- one hold decides
pub decided : (between : Data → Data → Type 0) (o : Own) (old new : Data) (words after : Words) (ask : Ask) (body : List ℕ) (act : Act) (seen : Seen) (answer : Answer)
    → Brings o words act after → ((h : Hold) → h.act ≡ act → AnswersAs h.seen answer → RepliesTo ask body (h ∷ []) answer)
    → Held between old act seen new → AnswersAs seen answer → Decides between o (store old words) (store new after) ask body answer
decided between o old new words after ask body act seen answer brings replies held so = record {
  holds = hold_of act seen held ∷ [];
  replies_so = replies (hold_of act seen held) refl so;
  makes = record { chain = chain_one between old new act seen held; brings = (after, brings, refl) };
}

-- the same of a call that answers a reply
pub decided_by : (between : Data → Data → Type 0) (o : Own) (old new : Data) (words after : Words) (ask : Ask) (body : List ℕ) (act : Act) (found : Result Reply Trouble) (reply : Reply)
    → Brings o words act after → ((h : Hold) → h.act ≡ act → AnswersAs h.seen (plain reply) → RepliesTo ask body (h ∷ []) (plain reply))
    → Held between old act (seen_of found) new → MatchResult found (λ r. reply ≡ r) (λ t. reply ≡ trouble_reply t)
    → Decides between o (store old words) (store new after) ask body (plain reply)
decided_by between o old new words after ask body act found reply brings replies held is =
    decided between o old new words after ask body act (seen_of found) (plain reply) brings replies held (told found reply (plain reply) is refl refl)

-- an ask is decided as what it is
pub as_asked : {between : Data → Data → Type 0} {o : Own} {from to : Store} {ask real : Ask} {body : List ℕ} {answer : Answer} → ask ≡ real → Decides between o from to real body answer
    → Decides between o from to ask body answer
as_asked {between} {o} {from} {to} {ask} {real} {body} {answer} is decides = subst (λ (a : Ask). Decides between o from to a body answer) (sym is) decides

-- with no blob, its answer is the reply
pub as_plain : {between : Data → Data → Type 0} {o : Own} {from to : Store} {ask : Ask} {body : List ℕ} {answer : Answer} {reply : Reply} → answer.reply ≡ reply → answer.content ≡ []
    → Decides between o from to ask body (plain reply) → Decides between o from to ask body answer
as_plain {between} {o} {from} {to} {ask} {body} {answer} {reply} is none decides = subst (λ (a : Answer). Decides between o from to ask body a) (sym (is_plain answer reply is none)) decides

-- no hold is needed
pub base_decided : (between : Data → Data → Type 0) (o : Own) (s : Store) (body : List ℕ) → Decides between o s s asks.Base body (plain replies.Base)
base_decided between o s body = record { holds = []; replies_so = refl; makes = makes_none between o s }

-- an ask that is a single one and no blob's
pub plain_single : (ask : Ask) → ((name digest : List ℕ) → ask ≡ asks.GetBlob name digest → ⊥) → is_single ask ≡ true → is_plain_single ask ≡ true
plain_single (asks.GetBlob name digest) other single = absurd (other name digest refl)
plain_single asks.Base other single = refl
plain_single (asks.GetManifest name at) other single = refl
plain_single (asks.PutManifest name at typed) other single = single
plain_single (asks.DropReference name at) other single = refl
plain_single (asks.DropBlob name digest) other single = refl
plain_single (asks.Start name mount) other single = refl
plain_single (asks.State name id) other single = refl
plain_single (asks.Patch name id start) other single = single
plain_single (asks.Finish name id digest start) other single = single
plain_single (asks.Cancel name id) other single = refl
plain_single (asks.Tags name n last) other single = refl

-- one that waits is told to go on
pub single_goes : (ask : Ask) (holds : List Hold) → is_single ask ≡ true → goes_on_for ask holds ≡ true
single_goes asks.Base holds single = refl
single_goes (asks.GetBlob name digest) holds single = refl
single_goes (asks.GetManifest name at) holds single = refl
single_goes (asks.PutManifest name at typed) holds single = refl
single_goes (asks.DropReference name at) holds single = refl
single_goes (asks.DropBlob name digest) holds single = refl
single_goes (asks.Start name mount) holds single = refl
single_goes (asks.State name id) holds single = refl
single_goes (asks.Patch name id start) holds single = cc single
single_goes (asks.Finish name id digest start) holds single = cc single
single_goes (asks.Cancel name id) holds single = refl
single_goes (asks.Tags name n last) holds single = refl

-- and adds to no upload
pub single_looks : (ask : Ask) → is_single ask ≡ true → NeedsNoSession (asked_as ask)
single_looks asks.Base single = tt
single_looks (asks.GetBlob name digest) single = tt
single_looks (asks.GetManifest name at) single = tt
single_looks (asks.PutManifest name at typed) single = tt
single_looks (asks.DropReference name at) single = tt
single_looks (asks.DropBlob name digest) single = tt
single_looks (asks.Start name mount) single = tt
single_looks (asks.State name id) single = tt
single_looks (asks.Patch name id start) single = cc single
single_looks (asks.Finish name id digest start) single = cc single
single_looks (asks.Cancel name id) single = tt
single_looks (asks.Tags name n last) single = tt

-- the other asks
pub single_by : (ask : Ask) → ((name : List ℕ) (at : Option Reference) (typed : Option (List ℕ)) → ask ≡ asks.PutManifest name at typed → ⊥)
    → ((name : List ℕ) (id : Option (List ℕ)) (start : Option ℕ) → ask ≡ asks.Patch name id start → ⊥)
    → ((name : List ℕ) (id : Option (List ℕ)) (digest : List ℕ) (start : Option ℕ) → ask ≡ asks.Finish name id digest start → ⊥) → is_single ask ≡ true
single_by (asks.PutManifest name at typed) push patch finish = absurd (push name at typed refl)
single_by (asks.Patch name id start) push patch finish = absurd (patch name id start refl)
single_by (asks.Finish name id digest start) push patch finish = absurd (finish name id digest start refl)
single_by asks.Base push patch finish = refl
single_by (asks.GetBlob name digest) push patch finish = refl
single_by (asks.GetManifest name at) push patch finish = refl
single_by (asks.DropReference name at) push patch finish = refl
single_by (asks.DropBlob name digest) push patch finish = refl
single_by (asks.Start name mount) push patch finish = refl
single_by (asks.State name id) push patch finish = refl
single_by (asks.Cancel name id) push patch finish = refl
single_by (asks.Tags name n last) push patch finish = refl

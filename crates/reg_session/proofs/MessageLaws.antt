-- Requests that were read, and the messages of the stream.
use Rattle.std.proofs.Common.{◌≡◌, ℕ, false, List, [], ◌∷◌, ◌++◌, refl, sym, ap, subst, ◌∙◌, inr}
use Rattle.std.specs.List.{AllByRecursion}
use Rattle.http_wire.specs.Bodies.{ends_before}
use Rattle.http_wire.specs.Filling.{within}
use Rattle.http_wire.specs.Messages.{Message, Ending, Messages, ReadsMessage, ReadsBody}
use Rattle.reg_session.specs.Requests.{Parts, parts_of, Request, body_state, is_last, limit_of, limits, Reads, AreMessagesOf}

pub read_are_messages : (requests : List Request) (old new : List ℕ) (more : List Message) (ending : Ending)
    → Reads requests old new → AllByRecursion (λ r. is_last r.parts ≡ false) requests → Messages limits new more ending
    → (messages : List Message) × AreMessagesOf requests messages × Messages limits old (messages ++ more) ending
read_are_messages [] old new more ending reads goes rest =
    ([], tt, subst (λ (b : List ℕ). Messages limits b more ending) reads rest)
read_are_messages (r ∷ requests) old new more ending (mid, (behind, (h, holds, is), body), reads) goes rest =
    let m : Message = record { head = h; body = r.body } in
    let (messages, are, all) = read_are_messages requests mid new more ending reads goes.1 rest in
    let message : ReadsMessage (limit_of (parts_of h)) old m mid =
    (behind, holds, subst (λ (p : Parts). ReadsBody (limit_of p) (body_state p) behind r.body (within (ends_before mid))) (sym is) body) in
    (m ∷ messages, ((is, refl), are), (mid, message, inr (ap is_last is ∙ goes.0, all)))

-- What was taken of a text, piece after piece.
use Rattle.std.proofs.Common.{◌≡◌, ℕ, ◌+◌, ◌-◌, List, ◌++◌, length, take, drop, Option, Result, Ok, Err, sym, ap, ◌∙◌, take-append-drop, arith}
use Rattle.std.specs.Prelude.{IsErr}
use Rattle.std.specs.Io.KnownBytes.{Appends, Keeps}
use Rattle.std.proofs.KnownBytes.{Appends-trans, Appends-kept}
use Rattle.std.proofs.Math.Seq.{take-add}
use Rattle.std.proofs.lemmas.List.{length-drop, take_all}
use Rattle.reg_replies.specs.Writing.{TookFront, Sends}

-- a piece that was refused leaves the front that was taken before
pub TookFront-refused : (start old new : Option (List ℕ)) (text : List ℕ) (n : ℕ) → Appends start old (take n text) → Keeps old new → TookFront start new text
TookFront-refused start old new text n took kept = record { front = take n text; rest = drop n text; split = sym (take-append-drop n text); took = Appends-kept start old new (take n text) took kept }

pub Sends-err : {T E : Type 0} (old new : Option (List ℕ)) (text : List ℕ) (r : Result T E) → IsErr r → TookFront old new text → Sends old new text r
Sends-err old new text (Ok _) bad h = cc bad
Sends-err old new text (Err _) bad h = h

-- the text so far, and a piece of the rest
pub take-piece : (text : List ℕ) (done more : ℕ) → take (done + more) text ≡ take done text ++ take more (take (length text - done) (drop done text))
take-piece text done more = take-add done more text ∙ ap (λ t. take done text ++ take more t) (sym (take_all (length text - done) (drop done text) (omega (arith, length-drop done text))))

pub Appends-piece : (start old new : Option (List ℕ)) (text : List ℕ) (done more : ℕ) → Appends start old (take done text) → Appends old new (take more (take (length text - done) (drop done text))) → Appends start new (take (done + more) text)
Appends-piece start old new text done more took h = rw (take-piece text done more) (Appends-trans start old new _ _ took h)

-- What was taken of a blob, piece after piece.
use Rattle.std.proofs.Common.{◌≡◌, ◌≢◌, ℕ, ◌+◌, ◌<◌, ◌≤◌, Bool, true, false, List, [], ◌∷◌, ◌++◌, length, take, drop, Option, Result, Ok, Err, replicate, refl, sym, ap, ◌∙◌, subst, append_assoc, append-nil, take-append-drop, length-append, arith}
use Rattle.std.specs.Prelude.{IsTrue, is_err}
use Rattle.std.specs.Io.KnownBytes.{Appends}
use Rattle.std.proofs.KnownBytes.{Appends-nil, Appends-trans}
use Rattle.std.proofs.lemmas.List.{length-take, length-replicate, take_at}
use Rattle.depot_api.specs.Blobs.{Rest, CountsRest, ReadsSome, ReadsNext}
use Rattle.depot_api.specs.declared.blob.BlobFault.{BlobFault as BlobFailed}
use Rattle.reg_model.specs.Blobs.{HasLeft}
use Rattle.reg_replies.specs.Writing.{Sends, TookFront}
use Rattle.reg_session.specs.Sending.{SendsBlob, Sends as Ends}
use Rattle.reg_session.specs.declared.sending.Sent.{Sent}
use Rattle.reg_session.specs.declared.sending.Sent.TheVariants.{Whole, BlobFault, SinkFault}

some_of : (tells : Bool) (count : ℕ) (told : List ℕ) → (IsTrue tells → count ≡ length told) → (bytes : List ℕ) × HasLeft (record { tells = tells; count = count; bytes = told }) bytes
some_of true count told h = (told, record { count = sym (h refl); told = λ _. refl })
some_of false count told h = (replicate count 0, record { count = length-replicate count 0; told = λ e. cc e })

-- what is left of a blob are some bytes
pub some_left : (rest : Rest) → CountsRest rest → (bytes : List ℕ) × HasLeft rest bytes
some_left rest h = some_of rest.tells rest.count rest.bytes h

-- a front of a blob was taken, behind which this is left
pub record SentFront (whole : Rest) (start : Option (List ℕ)) (left : Rest) (now : Option (List ℕ)) : Type 0 where
  pub front : List ℕ
  pub took : Appends start now front
  pub sum : length front + left.count ≡ whole.count
  pub same : left.tells ≡ whole.tells
  pub rest : IsTrue whole.tells → front ++ left.bytes ≡ whole.bytes

pub sent_nothing : (whole : Rest) (start : Option (List ℕ)) → SentFront whole start whole start
sent_nothing whole start = record { front = []; took = Appends-nil start; sum = omega arith; same = refl; rest = λ _. refl }

-- a piece was read, and is the next one where the blob tells its bytes
pub record Reads (n : ℕ) (piece : List ℕ) (before now : Rest) : Type 0 where
  pub long : length piece ≡ n
  pub fewer : now.count + n ≡ before.count
  pub same : now.tells ≡ before.tells
  pub next : IsTrue before.tells → piece ++ now.bytes ≡ before.bytes

-- the front of the buffer holds the piece that a read gave
next_piece : (n : ℕ) (buffer filled told told' : List ℕ) → n ≤ length told → filled ≡ take n told ++ drop n buffer → told' ≡ drop n told → take n filled ++ told' ≡ told
next_piece n buffer filled told told' within is rest =
    let size : length (take n told) ≡ n = omega (arith, length-take n told, within) in
    let piece : take n filled ≡ take n told = ap (take n) is ∙ take_at (take n told) (drop n buffer) n size in
    rw (piece, rest) (take-append-drop n told)

pub sent_more : (whole mid left : Rest) (start between new : Option (List ℕ)) (n : ℕ) (piece : List ℕ) → SentFront whole start mid between → Reads n piece mid left → Appends between new piece → SentFront whole start left new
sent_more whole mid left start between new n piece s r took = record {
  front = s.front ++ piece;
  took = Appends-trans start between new s.front piece s.took took;
  sum = omega (arith, length-append s.front piece, s.sum, r.long, r.fewer);
  same = r.same ∙ s.same;
  rest = λ t. append_assoc s.front piece left.bytes ∙ ap (λ x. s.front ++ x) (r.next (subst IsTrue (sym s.same) t)) ∙ s.rest t;
}

-- what a read gave is the next piece
pub read_piece : (before now : Rest) (n : ℕ) (buffer filled : List ℕ) → ReadsSome {E = BlobFailed} (length buffer) before now (Ok n) → ReadsNext {E = BlobFailed} buffer filled before now (Ok n) → now.tells ≡ before.tells → CountsRest before → length filled ≡ length buffer → Reads n (take n filled) before now
read_piece before now n buffer filled count bytes same counts long = record {
  long = omega (arith, length-take n filled, count.0, long);
  fewer = count.1;
  same = same;
  next = λ t. next_piece n buffer filled before.bytes now.bytes (omega (arith, counts t, count.1)) (bytes t).0 (bytes t).1;
}

-- what was taken of a text, where it was told whether the sink failed
pub took_front : {T E : Type 0} (old new : Option (List ℕ)) (text : List ℕ) (r : Result T E) → is_err r ≡ true → Sends old new text r → TookFront old new text
took_front old new text (Ok _) failed h = cc failed
took_front old new text (Err _) failed h = h

pub took_all : {T E : Type 0} (old new : Option (List ℕ)) (text : List ℕ) (r : Result T E) → is_err r ≡ false → Sends old new text r → Appends old new text
took_all old new text (Ok _) failed h = h
took_all old new text (Err _) failed h = cc failed

empty : (xs : List ℕ) → length xs ≡ 0 → xs ≡ []
empty [] e = refl
empty (x ∷ xs) e = absurd (omega (arith, e))

pub sent_whole : (whole left : Rest) (start now : Option (List ℕ)) → SentFront whole start left now → CountsRest left → left.count ≡ 0 → SendsBlob whole [] start now Whole
sent_whole whole left start now s counts none = record {
  body = s.front;
  of_blob = record { count = omega (arith, s.sum, none); told = λ t. sym (append-nil s.front) ∙ ap (λ x. s.front ++ x) (sym (empty left.bytes (sym (counts (subst IsTrue (sym s.same) t)) ∙ none))) ∙ s.rest t };
  sends = s.took;
}

some_more : (xs : List ℕ) (n : ℕ) → length xs ≡ n → 0 < n → xs ≢ []
some_more xs n long more e = let none : length xs ≡ 0 = ap length e in absurd (omega (arith, long, more, none))

-- the bytes that were taken, and those that are left
with_rest : (whole left : Rest) (start now : Option (List ℕ)) (bytes : List ℕ) → (s : SentFront whole start left now) → HasLeft left bytes → HasLeft whole (s.front ++ bytes)
with_rest whole left start now bytes s h =
    record { count = omega (arith, length-append s.front bytes, s.sum, h.count); told = λ t. ap (λ x. s.front ++ x) (h.told (subst IsTrue (sym s.same) t)) ∙ s.rest t }

pub sent_part : (whole left : Rest) (start now : Option (List ℕ)) → SentFront whole start left now → CountsRest left → 0 < left.count → SendsBlob whole [] start now BlobFault
sent_part whole left start now s counts more =
    let rest = some_left left counts in
    record {
      body = s.front ++ rest.0;
      of_blob = with_rest whole left start now rest.0 s rest.1;
      sends = record { front = s.front; rest = rest.0; split = refl; more = some_more rest.0 left.count rest.1.count more; took = s.took };
    }

-- what is left behind a piece has its count
pub counts_on : (before now : Rest) (n : ℕ) (piece : List ℕ) → CountsRest before → Reads n piece before now → CountsRest now
counts_on before now n piece counts r = λ e. let was = subst IsTrue r.same e in omega (arith, ap length (r.next was), length-append piece now.bytes, r.long, r.fewer, counts was)

pub sent_front : (whole left after : Rest) (start mid new : Option (List ℕ)) (n : ℕ) (piece : List ℕ) → SentFront whole start left mid → CountsRest left → Reads n piece left after → TookFront mid new piece → SendsBlob whole [] start new SinkFault
sent_front whole left after start mid new n piece s counts r t =
    let rest = some_left after (counts_on left after n piece counts r) in
    let more : HasLeft left (piece ++ rest.0) = record { count = omega (arith, length-append piece rest.0, r.long, r.fewer, rest.1.count); told = λ e. ap (λ x. piece ++ x) (rest.1.told (subst IsTrue (sym r.same) e)) ∙ r.next e } in
    record {
      body = s.front ++ (piece ++ rest.0);
      of_blob = with_rest whole left start mid (piece ++ rest.0) s more;
      sends = record {
        front = s.front ++ t.front;
        rest = t.rest ++ rest.0;
        split = ap (λ x. s.front ++ (x ++ rest.0)) t.split ∙ ap (λ x. s.front ++ x) (append_assoc t.front t.rest rest.0) ∙ sym (append_assoc s.front t.front (t.rest ++ rest.0));
        took = Appends-trans start mid new s.front t.front s.took t.took;
      };
    }

-- ---- behind a head

pub behind_head : (whole : Rest) (head : List ℕ) (start mid new : Option (List ℕ)) (sent : Sent) → Appends start mid head → SendsBlob whole [] mid new sent → SendsBlob whole head start new sent
behind_head whole head start mid new Whole took h = record { body = h.body; of_blob = h.of_blob; sends = Appends-trans start mid new head h.body took h.sends }
behind_head whole head start mid new BlobFault took h = record {
  body = h.body;
  of_blob = h.of_blob;
  sends = record { front = h.sends.front; rest = h.sends.rest; split = h.sends.split; more = h.sends.more; took = Appends-trans start mid new head h.sends.front took h.sends.took };
}
behind_head whole head start mid new SinkFault took h = record {
  body = h.body;
  of_blob = h.of_blob;
  sends = record {
    front = head ++ h.sends.front;
    rest = h.sends.rest;
    split = ap (λ x. head ++ x) h.sends.split ∙ sym (append_assoc head h.sends.front h.sends.rest);
    took = Appends-trans start mid new head h.sends.front took h.sends.took;
  };
}

pub cut_head : (whole : Rest) (head : List ℕ) (old new : Option (List ℕ)) → CountsRest whole → TookFront old new head → SendsBlob whole head old new SinkFault
cut_head whole head old new counts t =
    let rest = some_left whole counts in
    record {
      body = rest.0;
      of_blob = rest.1;
      sends = record { front = t.front; rest = t.rest ++ rest.0; split = ap (λ x. x ++ rest.0) t.split ∙ append_assoc t.front t.rest rest.0; took = t.took };
    }

-- the blob failed before a byte of it was sent
pub bare_head : (whole : Rest) (head : List ℕ) (old new : Option (List ℕ)) → CountsRest whole → 0 < whole.count → Appends old new head → SendsBlob whole head old new BlobFault
bare_head whole head old new counts more took = behind_head whole head old new new BlobFault took (sent_part whole whole new new (sent_nothing whole new) counts more)

with_piece : (head piece body : List ℕ) (old new : Option (List ℕ)) (sent : Sent) → Ends old new (head ++ piece) body sent → Ends old new head (piece ++ body) sent
with_piece head piece body old new Whole h = subst (λ (t : List ℕ). Appends old new t) (append_assoc head piece body) h
with_piece head piece body old new BlobFault h = record {
  front = piece ++ h.front;
  rest = h.rest;
  split = ap (λ (t : List ℕ). piece ++ t) h.split ∙ sym (append_assoc piece h.front h.rest);
  more = h.more;
  took = subst (λ (t : List ℕ). Appends old new t) (append_assoc head piece h.front) h.took;
}
with_piece head piece body old new SinkFault h = subst (λ (t : List ℕ). TookFront old new t) (append_assoc head piece body) h

-- the first piece went out with the head
pub behind_piece : (before now : Rest) (head piece : List ℕ) (n : ℕ) (old new : Option (List ℕ)) (sent : Sent) → Reads n piece before now → SendsBlob now (head ++ piece) old new sent → SendsBlob before head old new sent
behind_piece before now head piece n old new sent r h = record {
  body = piece ++ h.body;
  of_blob = record {
    count = omega (arith, length-append piece h.body, r.long, r.fewer, h.of_blob.count);
    told = λ t. ap (λ (x : List ℕ). piece ++ x) (h.of_blob.told (subst IsTrue (sym r.same) t)) ∙ r.next t;
  };
  sends = with_piece head piece h.body old new sent h.sends;
}

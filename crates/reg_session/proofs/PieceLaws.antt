-- The first piece of a blob, in one room with the head before it.
use Rattle.std.proofs.Common.{◌≡◌, ℕ, ◌+◌, ◌-◌, ◌<◌, ◌≤◌, List, ◌++◌, length, take, drop, Ok, refl, sym, ap, ◌∙◌, arith, length-append, length-drop, take-take, take-append-drop}
use Rattle.std.proofs.Math.Seq.{take-append_seam, take-append-add}
use Rattle.std.proofs.lemmas.List.{length-take, take_at}
use Rattle.std.proofs.lemmas.Slice.{take-put_mid}
use borrow.Rule.Slice.PartMut.{put_mid, same_len_mid}
use Rattle.depot_api.specs.Blobs.{Rest, ReadsSome, ReadsNext}
use Rattle.depot_api.specs.declared.blob.BlobFault.{BlobFault as BlobFailed}
use Rattle.reg_session.specs.InnerSending.{PutsFirst}
use Rattle.reg_session.proofs.BlobLaws.{Reads}

-- what was put behind the head, as far as it counts
front_put : (head copied tail now : List ℕ) (k n : ℕ) → copied ≡ head → length now ≡ k → n ≤ k → take (length head + n) (put_mid (length head) k (copied ++ tail) now) ≡ head ++ take n now
front_put head copied tail now k n is long few =
    let whole : take (length head + k) (put_mid (length head) k (copied ++ tail) now) ≡ take (length head) (copied ++ tail) ++ now =
    take-put_mid (length head) k (copied ++ tail) now (length head + k) (omega (arith, long)) (omega (arith, length-append copied tail, ap length is)) in
    let front : take (length head) (copied ++ tail) ≡ head = rw is (take-append_seam head tail) in
    sym (take-take (length head + n) (length head + k) (put_mid (length head) k (copied ++ tail) now) (omega (arith, few)))
    ∙ ap (take (length head + n)) (whole ∙ ap (λ (t : List ℕ). t ++ now) front)
    ∙ take-append-add head now n

-- a read gave the next bytes
next_bytes : (into now told : List ℕ) (n : ℕ) → length now ≡ length into → n ≤ length into → now ≡ take n told ++ drop n into → take n now ≡ take n told
next_bytes into now told n long few is =
    let size : length (take n told) ≡ n = omega (arith, long, few, ap length is, length-append (take n told) (drop n into), length-take n told, length-drop n into) in
    ap (take n) is ∙ take_at (take n told) (drop n into) n size

pub puts_first : (head copied tail into now : List ℕ) (k n : ℕ) (before after : Rest) → copied ≡ head → 0 < length tail → k ≡ length (copied ++ tail) - length head → into ≡ take k (drop (length head) (copied ++ tail)) → length now ≡ length into → ReadsSome {E = BlobFailed} (length into) before after (Ok n) → ReadsNext {E = BlobFailed} into now before after (Ok n) → after.tells ≡ before.tells → PutsFirst {E = BlobFailed} head before after (put_mid (length head) k (copied ++ tail) now) (Ok (length head + n))
puts_first head copied tail into now k n before after is more room part long count bytes same =
    let all : length (copied ++ tail) ≡ length head + length tail = omega (arith, length-append copied tail, ap length is) in
    let size : length into ≡ k = omega (arith, all, room, ap length part, length-take k (drop (length head) (copied ++ tail)), length-drop (length head) (copied ++ tail)) in
    let piece : length (take n now) ≡ n = omega (arith, length-take n now, long, count.0) in
    let kept : length (put_mid (length head) k (copied ++ tail) now) ≡ length (copied ++ tail) = same_len_mid (length head) k (copied ++ tail) now (long ∙ ap length part) in (
      take n now,
      front_put head copied tail now k n is (long ∙ size) (omega (arith, count.0, size)),
      omega (arith, piece),
      omega (arith, kept, all, room, size, count.0),
      same,
      omega (arith, piece, count.1),
      λ some. omega (arith, piece, count.2 (omega (arith, size, room, all, more)) some),
      λ t. (rw piece (next_bytes into now before.bytes n long count.0 (bytes t).0), rw piece (bytes t).1),
    )

-- so the piece was read
pub piece_read : (head room : List ℕ) (before after : Rest) (n : ℕ) → (p : PutsFirst {E = BlobFailed} head before after room (Ok n)) → Reads (length p.0) p.0 before after
piece_read head room before after n p = record {
  long = refl;
  fewer = p.5;
  same = p.4;
  next = λ t. let told = p.7 t in ap (λ (x : List ℕ). x ++ after.bytes) told.0 ∙ ap (λ (x : List ℕ). take (length p.0) before.bytes ++ x) told.1 ∙ take-append-drop (length p.0) before.bytes;
}

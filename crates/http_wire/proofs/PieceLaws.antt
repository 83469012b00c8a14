-- Laws of a piece of the grammar, of which the bytes have one, a bad one, or a cut one.
use Rattle.std.proofs.Common.{ℕ, List, ◌++◌, length, sym, ap, ◌∙◌, arith, append_assoc, length-append, inl, inr}
use Rattle.http_wire.specs.Bodies.{HasPiece, IsBadPiece, IsCutPiece}
use Rattle.http_wire.proofs.LineLaws.{longer}

module _ {A : Type 0} (Ok : A → Type 0) (print : A → List ℕ) where
  pub HasPiece-append : (limit : ℕ) (bytes : List ℕ) (tree : A) (rest more : List ℕ) → HasPiece Ok print limit bytes tree rest
      → HasPiece Ok print limit (bytes ++ more) tree (rest ++ more)
  HasPiece-append limit bytes tree rest more ((ok, is), few) = ((ok, ap (λ (b : List ℕ). b ++ more) is ∙ append_assoc (print tree) rest more), few)

  pub IsBadPiece-append : (limit : ℕ) (bytes more : List ℕ) → IsBadPiece Ok print limit bytes → IsBadPiece Ok print limit (bytes ++ more)
  IsBadPiece-append limit bytes more (begin, rest, split, few, why) = (begin, rest ++ more, ap (λ (b : List ℕ). b ++ more) split ∙ append_assoc begin rest more, few, why)

  pub piece_not_bad : (limit : ℕ) (bytes : List ℕ) (tree : A) (rest : List ℕ) → HasPiece Ok print limit bytes tree rest → IsBadPiece Ok print limit bytes → ⊥
  piece_not_bad limit bytes tree rest ((ok, is), few) (begin, behind, split, fits, inl never) = never behind tree rest (ok, sym split ∙ is)
  piece_not_bad limit bytes tree rest ((ok, is), few) (begin, behind, split, fits, inr (full, none)) =
      let more = longer (print tree) rest begin behind (sym is ∙ split) (omega arith) in
      none tree more.0 (ok, more.1)

  pub piece_not_cut : (limit : ℕ) (bytes : List ℕ) (tree : A) (rest : List ℕ) → HasPiece Ok print limit bytes tree rest → IsCutPiece Ok print limit bytes → ⊥
  piece_not_cut limit bytes tree rest (reads, few) cut = cut.1 tree rest reads

  pub bad_not_cut : (limit : ℕ) (bytes : List ℕ) → IsBadPiece Ok print limit bytes → IsCutPiece Ok print limit bytes → ⊥
  bad_not_cut limit bytes (begin, behind, split, fits, inl never) (short, none, (more, tree, rest, (ok, is))) =
      never (behind ++ more) tree rest (ok, sym (ap (λ (b : List ℕ). b ++ more) split ∙ append_assoc begin behind more) ∙ is)
  bad_not_cut limit bytes (begin, behind, split, fits, inr (full, none)) (short, none_cut, may) =
      omega (arith, ap length split, length-append begin behind)

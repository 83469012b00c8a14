-- A link below a folder is known by what follows the folder.
use Rattle.std.proofs.Common.{◌≡◌, ◌≢◌, ℕ, ◌+◌, true, false, List, ◌++◌, length, take, drop, Option, Some, None, Result, Ok, Err, IfOk, MatchOption, nat_eq, take-append-drop, true≢false, sym, ap, ◌∙◌}
use Rattle.std.specs.Cmp.Lexicographic.{pointwise, pointwise_decides, bytes_decides}
use Rattle.std.proofs.Math.Seq.{take-append_seam}
use Rattle.std.proofs.lemmas.List.{append_cancel_left}
use Rattle.reg_names.specs.Names.{IsName}
use Rattle.link_paths.specs.Folders.{ReadsBelow}
use Rattle.link_paths.specs.InnerParts.{Follows}
use Rattle.reg_names.specs.Reading.{ReadsBack}

-- what follows a folder
pub after_folder : {R : Type 0} (now : R → List (List ℕ)) (folder path : List (List ℕ)) (r : Option R) → MatchOption r (pointwise (pointwise nat_eq) (take (length folder) path) folder ≡ false) (λ x. (pointwise (pointwise nat_eq) (take (length folder) path) folder ≡ true) × (now x ≡ drop (length folder) path) × (length (now x) + length folder ≡ length path)) → Follows r now folder path
after_folder now folder path (Some x) h =
    sym (take-append-drop (length folder) path) ∙ ap (λ parts. parts ++ drop (length folder) path) ((pointwise_decides bytes_decides (take (length folder) path) folder).0 h.0) ∙ ap (λ parts. folder ++ parts) (sym h.1)
after_folder now folder path None h = λ rest is.
    true≢false (sym ((pointwise_decides bytes_decides (take (length folder) path) folder).1 (ap (take (length folder)) is ∙ take-append_seam folder rest)) ∙ h)

-- links of one kind, below their folders
module _ (folder_of : List ℕ → List (List ℕ)) (IsIn : List ℕ → Type 0) (path_of : List ℕ → List ℕ → List (List ℕ)) (link : List ℕ → List (List ℕ)) (begins : (name key : List ℕ) → IsName name → IsIn key → path_of name key ≡ folder_of name ++ link key) (folder path : List (List ℕ)) where
  pub read_below : {E : Type 0} (rest : List (List ℕ)) (r : Result (Option (List ℕ)) E) → path ≡ folder ++ rest → IfOk r (ReadsBack IsIn link rest) → IfOk r (ReadsBelow folder_of IsIn path_of folder path)
  read_below rest (Ok (Some key)) at read = λ name n is. (read.0, begins name key n read.0 ∙ ap (λ f. f ++ link key) (sym is) ∙ ap (λ parts. folder ++ parts) read.1 ∙ sym at)
  read_below rest (Ok None) at read = λ name n is key h there. read key h (append_cancel_left folder (link key) rest (ap (λ f. f ++ link key) is ∙ sym (begins name key n h) ∙ there ∙ at))
  read_below rest (Err e) at read = tt

  pub none_below : ((rest : List (List ℕ)) → path ≢ folder ++ rest) → ReadsBelow folder_of IsIn path_of folder path None
  none_below other = λ name n is key h there. other (link key) (sym there ∙ begins name key n h ∙ ap (λ f. f ++ link key) (sym is))

-- Fields that were put one behind the other.
use Rattle.std.proofs.Common.{◌≡◌, ℕ, List, ◌++◌, ap, ◌∙◌, append_assoc}

pub put_two : (a b c x y : List ℕ) → b ≡ a ++ x → c ≡ b ++ y → c ≡ a ++ (x ++ y)
put_two a b c x y p q = q ∙ ap (λ (t : List ℕ). t ++ y) p ∙ append_assoc a x y

pub put_four : (a b c d e x y z w : List ℕ) → b ≡ a ++ x → c ≡ b ++ y → d ≡ c ++ z → e ≡ d ++ w → e ≡ a ++ (x ++ (y ++ (z ++ w)))
put_four a b c d e x y z w p q r s =
    let zw : e ≡ c ++ (z ++ w) = put_two c d e z w r s in
    let yzw : e ≡ b ++ (y ++ (z ++ w)) = put_two b c e y (z ++ w) q zw in
    put_two a b e x (y ++ (z ++ w)) p yzw

-- two fields were put together, and then another one
pub put_pair : (a b c x y z : List ℕ) → b ≡ a ++ (x ++ y) → c ≡ b ++ z → c ≡ a ++ (x ++ (y ++ z))
put_pair a b c x y z p q = put_two a b c (x ++ y) z p q ∙ ap (λ (t : List ℕ). a ++ t) (append_assoc x y z)

-- A list of two.
use Rattle.std.proofs.Common.{◌≡◌, List, [], ◌∷◌, ◌++◌, length, length-append, ap, ◌∙◌, arith}

pub pair_is : {X : Type 0} (xs ys zs : List X) (a b : X) → length xs ≡ 2 → xs ≡ ys ++ b ∷ [] → ys ≡ zs ++ a ∷ [] → xs ≡ a ∷ b ∷ []
pair_is xs ys [] a b two first second = first ∙ ap (λ us. us ++ b ∷ []) second
pair_is xs ys (z ∷ zs) a b two first second =
    let long = ap length first ∙ length-append ys (b ∷ []) in
    let more = ap length second ∙ length-append (z ∷ zs) (a ∷ []) in
    absurd (omega (arith, two, long, more))

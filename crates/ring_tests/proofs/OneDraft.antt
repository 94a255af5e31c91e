-- A batch with one filled frame.
use Rattle.std.proofs.Common.{◌≡◌, ◌<◌, List, [], ◌∷◌, ◌++◌, length, sym, ap, ◌∙◌, subst, arith}
use Rattle.std.specs.List.{AllByRecursion}

only_one : {X : Type 0} (new old : List X) (x : X) → new ≡ old ++ x ∷ [] → old ≡ [] → new ≡ x ∷ []
only_one new old x last none = last ∙ ap (λ l. l ++ x ∷ []) none

pub some_filled : {X : Type 0} (new old : List X) (x : X) → new ≡ old ++ x ∷ [] → old ≡ [] → 0 < length new
some_filled new old x last none = let one = ap length (only_one new old x last none) in omega (arith, one)

pub all_filled : {X : Type 0} (P : X → Type 0) (new old : List X) (x : X) → new ≡ old ++ x ∷ [] → old ≡ [] → P x → AllByRecursion P new
all_filled P new old x last none here = subst (λ l. AllByRecursion P l) (sym (only_one new old x last none)) (here, tt)

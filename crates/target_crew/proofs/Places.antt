-- What stands at each place of a list.
use Rattle.std.proofs.Common.{◌≡◌, ◌<◌, ◌+◌, ⊎_elim, ℕ, List, [], ◌∷◌, ◌++◌, length, length-append, slice_get, sym, ap, subst, ◌∙◌, arith}
use Rattle.std.proofs.lemmas.Bool.{cases_lt}
use Rattle.std.proofs.lemmas.Option.{same_Some, slice_get_within}
use Rattle.pblk_model.proofs.Parts.{get_first, get_last, get_more}
use Rattle.target_crew.specs.Numbers.{EachFits}

-- all but the last one
pub each_front : {X : Type 0} (Fits : ℕ → X → Type 0) (xs : List X) (x : X) → EachFits Fits (xs ++ x ∷ []) → EachFits Fits xs
each_front Fits xs x each k y there = each k y (get_more xs (x ∷ []) k y there)

pub each_last : {X : Type 0} (Fits : ℕ → X → Type 0) (xs : List X) (x : X) → EachFits Fits (xs ++ x ∷ []) → Fits (length xs) x
each_last Fits xs x each = each (length xs) x (get_last xs x)

-- one more
pub each_more : {X : Type 0} (Fits : ℕ → X → Type 0) (xs : List X) (x : X) → EachFits Fits xs → Fits (length xs) x → EachFits Fits (xs ++ x ∷ [])
each_more Fits xs x each last k y there =
    ⊎_elim
    (λ below. each k y (sym (get_first xs (x ∷ []) k below) ∙ there))
    (λ past.
    let within = slice_get_within (xs ++ x ∷ []) k y there in
    let long = length-append xs (x ∷ []) in
    let same : k ≡ length xs = omega (arith, within, long, past) in
    let is : x ≡ y = same_Some x y (sym (get_last xs x) ∙ ap (slice_get (xs ++ x ∷ [])) (sym same) ∙ there) in
    subst (λ n. Fits n y) (sym same) (subst (λ z. Fits (length xs) z) is last))
    (cases_lt k (length xs))

-- none at all
pub each_none : {X : Type 0} (Fits : ℕ → X → Type 0) → EachFits Fits []
each_none Fits k x there = absurd (let within : k < 0 = slice_get_within [] k x there in omega (arith, within))

-- one is taken off the end
pub taken_off : {X : Type 0} (xs ys : List X) (x : X) (Fits : ℕ → X → Type 0) → xs ≡ ys ++ x ∷ [] → EachFits Fits xs
    → EachFits Fits ys × Fits (length ys) x × (length xs ≡ length ys + 1)
taken_off xs ys x Fits are each =
    let all = subst (λ zs. EachFits Fits zs) are each in
    (each_front Fits ys x all, each_last Fits ys x all, ap length are ∙ length-append ys (x ∷ []))

-- one is put at the end
pub put_on : {X : Type 0} (xs ys : List X) (x : X) (Fits : ℕ → X → Type 0) → ys ≡ xs ++ x ∷ [] → EachFits Fits xs → Fits (length xs) x
    → EachFits Fits ys × (length ys ≡ length xs + 1)
put_on xs ys x Fits are each last =
    (subst (λ zs. EachFits Fits zs) (sym are) (each_more Fits xs x each last), ap length are ∙ length-append xs (x ∷ []))

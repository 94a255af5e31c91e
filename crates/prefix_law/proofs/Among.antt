-- What is in lists that are made of others.
use Rattle.std.proofs.Common.{◌≡◌, ℕ, ◌⊎◌, zero, suc, Some, None, Option, List, [], ◌∷◌, ◌++◌, refl, ap, ◌∙◌, inl, inr}
use Rattle.std.specs.Prelude.{slice_get}
use Rattle.std.specs.List.{filter_map, flat_map, cons_option}
use Rattle.std.proofs.lemmas.Option.{same_Some, none-some}
use Rattle.pblk_model.proofs.Lists.{IsAmong, among_more, later}

pub behind : {X : Type 0} (xs ys : List X) (x : X) → IsAmong ys x → IsAmong (xs ++ ys) x
behind [] ys x at = at
behind (y ∷ xs) ys x at = let rest = behind xs ys x at in (suc rest.0, rest.1)

pub of_both : {X : Type 0} (xs ys : List X) (x : X) → IsAmong (xs ++ ys) x → IsAmong xs x ⊎ IsAmong ys x
of_both [] ys x at = inr at
of_both (y ∷ xs) ys x (zero, e) = inl (0, e)
of_both (y ∷ xs) ys x (suc k, e) = go (of_both xs ys x (k, e))
  where
    go : IsAmong xs x ⊎ IsAmong ys x → IsAmong (y ∷ xs) x ⊎ IsAmong ys x
    go (inl at) = inl (suc at.0, at.1)
    go (inr at) = inr at

pub flat_into : {X Y : Type 0} (f : X → List Y) (xs : List X) (k : ℕ) (x : X) (y : Y) → slice_get xs k ≡ Some x → IsAmong (f x) y
    → IsAmong (flat_map f xs) y
flat_into f [] k x y there at = absurd (none-some x there)
flat_into {X} {Y} f (z ∷ xs) zero x y there at = among_more (f z) (flat_map f xs) y (at.0, ap (λ v. slice_get (f v) at.0) (same_Some z x there) ∙ at.1)
flat_into f (z ∷ xs) (suc k) x y there at = behind (f z) (flat_map f xs) y (flat_into f xs k x y there at)

pub flat_from : {X Y : Type 0} (f : X → List Y) (xs : List X) (y : Y) → IsAmong (flat_map f xs) y
    → (k : ℕ) × (x : X) × (slice_get xs k ≡ Some x) × IsAmong (f x) y
flat_from f [] y at = absurd (none-some y at.1)
flat_from {X} {Y} f (z ∷ xs) y at = go (of_both (f z) (flat_map f xs) y at) (λ h. flat_from f xs y h)
  where
    go : IsAmong (f z) y ⊎ IsAmong (flat_map f xs) y
        → (IsAmong (flat_map f xs) y → (k : ℕ) × (x : X) × (slice_get xs k ≡ Some x) × IsAmong (f x) y)
        → (k : ℕ) × (x : X) × (slice_get (z ∷ xs) k ≡ Some x) × IsAmong (f x) y
    go (inl here) rest = (0, z, refl, here)
    go (inr there) rest = let r = rest there in (suc r.0, r.1, r.2, r.3)

pub made_into : {X Y : Type 0} (f : X → Option Y) (xs : List X) (k : ℕ) (x : X) (y : Y) → slice_get xs k ≡ Some x → f x ≡ Some y
    → IsAmong (filter_map f xs) y
made_into f [] k x y there is = absurd (none-some x there)
made_into {X} {Y} f (z ∷ xs) zero x y there is = by (f z) (ap f (same_Some z x there) ∙ is)
  where
    by : (o : Option Y) → o ≡ Some y → IsAmong (cons_option o (filter_map f xs)) y
    by None e = absurd (none-some y e)
    by (Some v) e = (0, e)
made_into {X} {Y} f (z ∷ xs) (suc k) x y there is = by (f z) (made_into f xs k x y there is)
  where
    by : (o : Option Y) → IsAmong (filter_map f xs) y → IsAmong (cons_option o (filter_map f xs)) y
    by None at = at
    by (Some v) at = later v (filter_map f xs) y at

pub made_from : {X Y : Type 0} (f : X → Option Y) (xs : List X) (y : Y) → IsAmong (filter_map f xs) y
    → (k : ℕ) × (x : X) × (slice_get xs k ≡ Some x) × (f x ≡ Some y)
made_from f [] y at = absurd (none-some y at.1)
made_from {X} {Y} f (z ∷ xs) y at = by (f z) refl at (λ h. made_from f xs y h)
  where
    by : (o : Option Y) → f z ≡ o → IsAmong (cons_option o (filter_map f xs)) y
        → (IsAmong (filter_map f xs) y → (k : ℕ) × (x : X) × (slice_get xs k ≡ Some x) × (f x ≡ Some y))
        → (k : ℕ) × (x : X) × (slice_get (z ∷ xs) k ≡ Some x) × (f x ≡ Some y)
    by None e at rest = let r = rest at in (suc r.0, r.1, r.2, r.3)
    by (Some v) e (zero, got) rest = (0, z, refl, e ∙ got)
    by (Some v) e (suc k, got) rest = let r = rest (k, got) in (suc r.0, r.1, r.2, r.3)

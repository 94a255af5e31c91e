-- Options, and what is made of them.
use Rattle.std.proofs.Common.{Bool, None, Option, Some, ap, cond, false, refl, sym, true, ℕ, ◌≡◌}
use Rattle.std.proofs.lemmas.Option.{none-some, same_Some}
use Rattle.std.specs.Option.{is_some, option_and_then, option_map}

pub none_there : {X : Type 0} (o : Option X) → is_some o ≡ false → o ≡ None
none_there None e = refl
none_there (Some x) e = absurd cc

pub none_of_map : {X Y : Type 0} (f : X → Y) (o : Option X) → option_map f o ≡ None → o ≡ None
none_of_map f None is = refl
none_of_map f (Some x) is = absurd cc

pub not_noted : (o : Option ℕ) → is_some o ≡ false → o ≡ None
not_noted None e = refl
not_noted (Some line) e = absurd cc

pub first_passes : (b : Bool) (o : Option ℕ) (n : ℕ) → cond b o (Some n) ≡ None → (b ≡ true) × (o ≡ None)
first_passes true o n h = (refl, h)
first_passes false o n h = absurd (none-some n (sym h))

pub map_some : {A B : Type 0} (f : A → B) (o : Option A) (y : B) → option_map f o ≡ Some y → (x : A) × (o ≡ Some x) × (f x ≡ y)
map_some f None y e = absurd (cc)
map_some f (Some x) y e = (x, refl, cc)

pub split_then : {A B : Type 0} (f : A → Option B) (o : Option A) (y : B) → option_and_then f o ≡ Some y → (x : A) × (o ≡ Some x) × (f x ≡ Some y)
split_then f None y e = absurd (cc)
split_then f (Some x) y e = (x, refl, e)

pub none_unless : {X : Type 0} (o : Option X) → ((x : X) → o ≡ Some x → ⊥) → None ≡ o
none_unless None h = refl
none_unless (Some x) h = absurd (h x refl)

pub mapped_some : (o : Option ℕ) (block unit at : ℕ) → option_map {U = ℕ × ℕ} (λ u. (u, block)) o ≡ Some (unit, at) → (o ≡ Some unit) × (at ≡ block)
mapped_some None block unit at e = absurd (none-some (unit, at) e)
mapped_some (Some u) block unit at e =
    let same : (u, block) ≡ (unit, at) = same_Some (u, block) (unit, at) e in
    (ap (λ (x : ℕ × ℕ). Some x.0) same, ap (λ (x : ℕ × ℕ). x.1) (sym same))

pub some_value : {X : Type 0} (o : Option X) → is_some o ≡ true → (x : X) × (o ≡ Some x)
some_value None e = absurd (cc)
some_value (Some x) e = (x, refl)

pub some_mapped : {X Y : Type 0} (f : X → Y) (o : Option X) → is_some (option_map f o) ≡ is_some o
some_mapped f None = refl
some_mapped f (Some x) = refl

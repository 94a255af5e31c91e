-- The first index at which something holds, and the one refusal of addresses.
use Rattle.std.proofs.Common.{ℕ, ◌+◌, ◌<◌, ◌≤◌, ◌≡◌, ◌⊎◌, ◌↔◌, ⊎_elim, List, length, slice_get, slice_index_or, Some, Ok, Err, refl, sym, ap, ◌∙◌, subst, arith, IsErrOf}
use Rattle.std.proofs.lemmas.Bool.{cases_lt, cases_order}
use Rattle.std.proofs.lemmas.Option.{slice_get-get_or, slice_get_within}
use Rattle.pblk_model.specs.declared.shape.Address.{Address}
use Rattle.pblk_model.specs.Geometry.{Geometry, IsAddress}
use Rattle.vector_io.specs.declared.vector.VectorErr.{VectorErr}
use Rattle.vector_io.specs.declared.vector.VectorErr.TheVariants as errors
use Rattle.vector_io.specs.Addresses.{IsVector, AreApart, IsRepeated, IsFirstOutside, IsFirstRepeated, IsRefused}

some_same : {A : Type 0} {x y : A} → Some x ≡ Some y → x ≡ y
some_same h = cc

same_place : {A : Type 0} (xs : List A) (i k : ℕ) (d x : A) → i < length xs → k ≡ i → slice_get xs k ≡ Some x → slice_index_or xs i d ≡ x
same_place xs i k d x within same there = some_same (sym (slice_get-get_or xs i d within) ∙ ap (slice_get xs) (sym same) ∙ there)

-- what holds below i and at i holds below i + 1
pub inside_more : (g : Geometry) (xs : List Address) (i : ℕ) (d : Address) → i < length xs
    → ((k : ℕ) (a : Address) → k < i → slice_get xs k ≡ Some a → IsAddress g a)
    → IsAddress g (slice_index_or xs i d) → (k : ℕ) (a : Address) → k < i + 1 → slice_get xs k ≡ Some a → IsAddress g a
inside_more g xs i d within before here k a below there = ⊎_elim (λ less. before k a less there)
    (λ (most : i ≤ k). let same : k ≡ i = omega arith in subst (IsAddress g) (same_place xs i k d a within same there) here) (cases_lt k i)

pub first_outside : (g : Geometry) (xs : List Address) (i : ℕ) (d : Address) → i < length xs
    → ((k : ℕ) (a : Address) → k < i → slice_get xs k ≡ Some a → IsAddress g a)
    → ¬ IsAddress g (slice_index_or xs i d) → IsFirstOutside g xs i
first_outside g xs i d within before here = record { address = slice_index_or xs i d; there = slice_get-get_or xs i d within; outside = here; before = before }

pub unlike_more : (xs : List Address) (i j : ℕ) (d : Address) → i < length xs → j < i
    → ((k : ℕ) (a : Address) → k < j → slice_get xs k ≡ Some a → ¬ slice_get xs i ≡ Some a)
    → (slice_index_or xs j d ≡ slice_index_or xs i d → ⊥) → (k : ℕ) (a : Address) → k < j + 1 → slice_get xs k ≡ Some a → ¬ slice_get xs i ≡ Some a
unlike_more xs i j d within less before here k a below there again = ⊎_elim (λ (l : k < j). before k a l there again)
    (λ (most : j ≤ k). let same : k ≡ j = omega arith in here (same_place xs j k d a (omega arith) same there ∙ sym (same_place xs i i d a within refl again)))
    (cases_lt k j)

pub not_repeated : (xs : List Address) (i : ℕ) → ((k : ℕ) (a : Address) → k < i → slice_get xs k ≡ Some a → ¬ slice_get xs i ≡ Some a) → ¬ IsRepeated xs i
not_repeated xs i before h = before h.index h.address h.before h.there h.again

pub none_repeated : (xs : List Address) → ((k : ℕ) → k < length xs → ¬ IsRepeated xs k) → AreApart xs
none_repeated xs none i h = none i (slice_get_within xs i h.address h.again) h

-- There is at most one refusal, and none of a vector.

one_outside : (g : Geometry) (xs : List Address) (i j : ℕ) → IsFirstOutside g xs i → IsFirstOutside g xs j → i ≡ j
one_outside g xs i j hi hj = ⊎_elim (λ (e : i ≡ j). e)
    (λ (apart : (i < j) ⊎ (j < i)). ⊎_elim (λ (l : i < j). absurd (hi.outside (hj.before i hi.address l hi.there)))
    (λ (l : j < i). absurd (hj.outside (hi.before j hj.address l hj.there))) apart) (cases_order i j)

one_repeated : (xs : List Address) (i j : ℕ) → IsFirstRepeated xs i → IsFirstRepeated xs j → i ≡ j
one_repeated xs i j hi hj = ⊎_elim (λ (e : i ≡ j). e) (λ (apart : (i < j) ⊎ (j < i)). ⊎_elim (λ (l : i < j). absurd (hj.before i l hi.repeated))
    (λ (l : j < i). absurd (hi.before j l hj.repeated)) apart) (cases_order i j)

one_refusal : (g : Geometry) (xs : List Address) (e f : VectorErr) → IsRefused g xs e → IsRefused g xs f → e ≡ f
one_refusal g xs errors.Count errors.Count he hf = refl
one_refusal g xs errors.Count (errors.Address j) he hf = absurd (he hf.0)
one_refusal g xs errors.Count (errors.Repeated j) he hf = absurd (he hf.0)
one_refusal g xs errors.Count errors.Memory he hf = absurd hf
one_refusal g xs (errors.Address i) errors.Count he hf = absurd (hf he.0)
one_refusal g xs (errors.Address i) (errors.Address j) he hf = ap errors.Address (one_outside g xs i j he.1 hf.1)
one_refusal g xs (errors.Address i) (errors.Repeated j) he hf = absurd (he.1.outside (hf.1 i he.1.address he.1.there))
one_refusal g xs (errors.Address i) errors.Memory he hf = absurd hf
one_refusal g xs (errors.Repeated i) errors.Count he hf = absurd (hf he.0)
one_refusal g xs (errors.Repeated i) (errors.Address j) he hf = absurd (hf.1.outside (he.1 j hf.1.address hf.1.there))
one_refusal g xs (errors.Repeated i) (errors.Repeated j) he hf = ap errors.Repeated (one_repeated xs i j he.2 hf.2)
one_refusal g xs (errors.Repeated i) errors.Memory he hf = absurd hf
one_refusal g xs errors.Memory f he hf = absurd he

none_of_vector : (g : Geometry) (xs : List Address) (e : VectorErr) → IsVector g xs → IsRefused g xs e → ⊥
none_of_vector g xs errors.Count v h = h v.count
none_of_vector g xs (errors.Address i) v h = h.1.outside (v.inside i h.1.address h.1.there)
none_of_vector g xs (errors.Repeated i) v h = v.apart i h.2.repeated
none_of_vector g xs errors.Memory v h = h

err_same : {T : Type 0} {e f : VectorErr} → IsErrOf {T = T} (Err e) f → e ≡ f
err_same h = cc

-- a refusal is told exactly where it is theirs
pub refused_exactly : {T : Type 0} (g : Geometry) (xs : List Address) (e f : VectorErr) → IsRefused g xs e → IsErrOf {T = T} (Err e) f ↔ IsRefused g xs f
refused_exactly g xs e f h = (λ is. subst (IsRefused g xs) (err_same is) h, λ other. ap Err (one_refusal g xs e f h other))

ok_no_err : {T : Type 0} (v : T) (f : VectorErr) → IsErrOf (Ok v) f → ⊥
ok_no_err v f h = cc

pub vector_not_refused : {T : Type 0} (g : Geometry) (xs : List Address) (v : T) (f : VectorErr) → IsVector g xs → IsErrOf {T = T} (Ok v) f ↔ IsRefused g xs f
vector_not_refused g xs v f h = (λ is. absurd (ok_no_err v f is), λ other. absurd (none_of_vector g xs f h other))

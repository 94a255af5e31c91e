-- Lemmas on the words of OpenLines.
use Rattle.std.proofs.Common.{List, [], ap, false, length, refl, replicate, suc, zero, ℕ, ◌&&◌, ◌∷◌, ◌≡◌}
use Rattle.std.specs.List.{AllByRecursion}
use Rattle.std.specs.Option.{option_map_or}
use Rattle.std.specs.Prelude.{slice_get}
use Rattle.pblk_model.proofs.Maps.{none_any}
use Rattle.stripe_placer.specs.OpenLines.{OpenLine, Stripe, in_one_chunk, is_closed, is_lost, numbers, stripe_is}
use Rattle.stripe_placer.specs.OpenLines.Stripe.{Unplaced}

pub none_at : (xs : List Stripe) (j : ℕ) → AllByRecursion (λ x. is_lost x ≡ false) xs → option_map_or is_lost (slice_get xs j) false ≡ false
none_at [] j all = refl
none_at (x ∷ xs) zero all = all.0
none_at (x ∷ xs) (suc j) all = none_at xs j all.1

pub no_chunk_closed : (l : OpenLine) (j : ℕ) → AllByRecursion (λ x. is_lost x ≡ false) l.stripes → is_closed l j ≡ false
no_chunk_closed l j all = none_any (λ i. stripe_is l is_lost i && in_one_chunk l i j) (λ i. ap (λ b. b && in_one_chunk l i j) (none_at l.stripes i all))
    (numbers l)

pub length_new : (m : ℕ) → length (replicate m Unplaced) ≡ m
length_new zero = refl
length_new (suc m) = ap suc (length_new m)

-- How many sectors are live in all lines together: each is live in one line at most.
use Rattle.std.proofs.Common.{◌≡◌, ℕ, ◌+◌, ◌*◌, ◌≤◌, zero, suc, Bool, true, false, cond, Some, None, Option, List, [], ◌∷◌, length, refl, ap, arith}
use Rattle.std.specs.Prelude.{sum_by}
use Rattle.std.specs.List.{AllByRecursion, filter, range_with_len}
use Rattle.std.proofs.lemmas.List.FromFn.{length-range_with_len}
use Rattle.std.proofs.lemmas.List.Sums.{sum_by-cons}
use Rattle.pblk_model.specs.Contents.{is_of}
use Rattle.pblk_model.specs.Image.{Image}
use Rattle.pblk_world.specs.Fronts.{last_take}
use Rattle.pblk_world.specs.Victims.{is_live_in, line_of, live}
use Rattle.pblk_world.specs.World.{Logs}
use Rattle.pblk_model.proofs.Maps.{none_kept}
use Rattle.pblk_model.proofs.Tests.{other_number, same}

-- ---- counting pairs by their first and by their second parts

abbrev pub as_number : Bool → ℕ
as_number b = cond b 1 0

pub passing_first : {X : Type 0} (test : X → Bool) (x : X) (xs : List X) → length (filter test (x ∷ xs)) ≡ as_number (test x) + length (filter test xs)
passing_first {X} test x xs = go (test x)
  where
    go : (b : Bool) → length (cond b (x ∷ filter test xs) (filter test xs)) ≡ as_number b + length (filter test xs)
    go true = omega arith
    go false = omega arith

-- a sum of ones and of other numbers
ones_apart : {X : Type 0} (test : X → Bool) (f g : X → ℕ) → ((x : X) → g x ≡ as_number (test x) + f x) → (xs : List X)
    → sum_by g xs ≡ length (filter test xs) + sum_by f xs
ones_apart test f g is [] = refl
ones_apart test f g is (x ∷ xs) =
    let first : sum_by g (x ∷ xs) ≡ g x + sum_by g xs = sum_by-cons g x xs in
    let second : sum_by f (x ∷ xs) ≡ f x + sum_by f xs = sum_by-cons f x xs in
    let count : length (filter test (x ∷ xs)) ≡ as_number (test x) + length (filter test xs) = passing_first test x xs in
    let rest : sum_by g xs ≡ length (filter test xs) + sum_by f xs = ones_apart test f g is xs in
    let here : g x ≡ as_number (test x) + f x = is x in
    omega arith

-- Where each y is of at most one x, the numbers of ys that are of each x add up to no more than
-- there are.
pub pairs_within : {X Y : Type 0} (of : X → Y → Bool) (xs : List X) (ys : List Y) → ((y : Y) → length (filter (λ x. of x y) xs) ≤ 1)
    → sum_by (λ x. length (filter (of x) ys)) xs ≤ length ys
pairs_within {X} {Y} of xs [] once = none xs
  where
    none : (xs : List X) → sum_by (λ (x : X). 0) xs ≤ 0
    none [] = omega arith
    none (x ∷ xs) = let first : sum_by (λ (x : X). 0) (x ∷ xs) ≡ 0 + sum_by (λ (x : X). 0) xs = sum_by-cons (λ (x : X). 0) x xs in omega (arith, none xs)
pairs_within of xs (y ∷ ys) once =
    let split : sum_by (λ x. length (filter (of x) (y ∷ ys))) xs ≡ length (filter (λ x. of x y) xs) + sum_by (λ x. length (filter (of x) ys)) xs =
    ones_apart (λ x. of x y) (λ x. length (filter (of x) ys)) (λ x. length (filter (of x) (y ∷ ys))) (λ x. passing_first (of x) y ys) xs in
    omega (arith, once y, pairs_within of xs ys once)

-- Where f is at least m for each of them that passes, the sum is at least so many times m.
pub sum_of_passing : {X : Type 0} (P : X → Type 0) (test : X → Bool) (f : X → ℕ) (m : ℕ) (xs : List X) → ((x : X) → P x → test x ≡ true → m ≤ f x)
    → AllByRecursion P xs → length (filter test xs) * m ≤ sum_by f xs
sum_of_passing P test f m [] least all = omega arith
sum_of_passing {X} P test f m (x ∷ xs) least all =
    let sum : sum_by f (x ∷ xs) ≡ f x + sum_by f xs = sum_by-cons f x xs in
    go (test x) refl sum (sum_of_passing P test f m xs least all.1)
  where
    go : (b : Bool) → test x ≡ b → sum_by f (x ∷ xs) ≡ f x + sum_by f xs → length (filter test xs) * m ≤ sum_by f xs
        → length (cond b (x ∷ filter test xs) (filter test xs)) * m ≤ sum_by f (x ∷ xs)
    go true e sum rest =
        let here : m ≤ f x = least x all.0 e in
        let more : suc (length (filter test xs)) * m ≡ m + length (filter test xs) * m = omega arith in
        omega arith
    go false e sum rest = omega arith

-- ---- sectors

-- one number of a range is this one at most
once_in_range : (o : Option ℕ) (a n : ℕ) → length (filter (λ line. is_of line o) (range_with_len a n)) ≤ 1
once_in_range o a zero = omega arith
once_in_range None a (suc n) = once_in_range None (a + 1) n
once_in_range (Some m) a (suc n) = go (is_of a (Some m)) refl (once_in_range (Some m) (a + 1) n)
  where
    go : (b : Bool) → is_of a (Some m) ≡ b → length (filter (λ line. is_of line (Some m)) (range_with_len (a + 1) n)) ≤ 1
        → length (cond b (a ∷ filter (λ line. is_of line (Some m)) (range_with_len (a + 1) n))
        (filter (λ line. is_of line (Some m)) (range_with_len (a + 1) n))) ≤ 1
    go false e rest = rest
    go true e rest =
        let here : m ≡ a = same m a e in
        let none : filter (λ line. is_of line (Some m)) (range_with_len (a + 1) n) ≡ [] =
        none_kept (λ line. is_of line (Some m)) (a + 1) n (λ k below. other_number m (a + 1 + k) (λ there. absurd (omega arith))) in
        let one : length (filter (λ line. is_of line (Some m)) (range_with_len (a + 1) n)) ≡ 0 = ap (λ (xs : List ℕ). length xs) none in
        omega arith

-- What is live in all lines together is at most what the drive holds.
pub live_within : (i : Image) (logs : Logs) → sum_by (live i logs) (range_with_len 0 i.shape.chunks) ≤ i.shape.capacity
live_within i logs =
    let count : length (range_with_len 0 i.shape.capacity) ≡ i.shape.capacity = length-range_with_len 0 i.shape.capacity in
    let within : sum_by (live i logs) (range_with_len 0 i.shape.chunks) ≤ length (range_with_len 0 i.shape.capacity) =
    pairs_within (is_live_in i logs) (range_with_len 0 i.shape.chunks) (range_with_len 0 i.shape.capacity) (λ lba.
    once_in_range (line_of i logs lba (last_take (logs 0) lba)) 0 i.shape.chunks) in
    omega arith

-- The data addresses of the Free lines are those of so many full lines.
use Rattle.std.proofs.Common.{◌≡◌, ◌⊎◌, inl, inr, ◌≤◌, nat_le, ℕ, ◌+◌, ◌*◌, ◌<◌, suc, cond, Bool, true, false, List, [], ◌∷◌, length, refl, ap, ◌∙◌, arith, if◌then◌else◌}
use Rattle.std.specs.Prelude.{sum_by}
use Rattle.std.specs.List.{AllByRecursion, filter, range_with_len}
use Rattle.std.proofs.lemmas.Bool.{cases_lt}
use Rattle.std.proofs.Math.Nat.{lt_of_mul-lt-mul_right, mul-le-mul_right}
use Rattle.std.proofs.lemmas.List.Sums.{sum_by-cons}
use Rattle.pblk_model.specs.Accepted.{IsAccepted}
use Rattle.pblk_model.specs.LineOrder.{data_len}
use Rattle.pblk_model.specs.Image.{Image}
use Rattle.pblk_world.specs.Lines.{is_free_line, known_image, line_data}
use Rattle.pblk_world.specs.Space.{free_addresses, full_data, is_due}
use Rattle.pblk_world.specs.World.{Logs}
use Rattle.pblk_model.proofs.Maps.{all_in_range}
use Rattle.pblk_model.proofs.Tests.{le_true, not_both, within_is}
use Rattle.rest_laws.specs.RoomSteps.{free_data, free_lines}
use Rattle.rest_laws.specs.Tidy.{AreWide}
use Rattle.rest_laws.proofs.RoomyShapes.{eight_stripes}

-- Where f is m for each of them that passes, and 0 for the others, the sum is so many times m.
sum_is : {X : Type 0} (P : X → Type 0) (test : X → Bool) (f : X → ℕ) (m : ℕ) (xs : List X) → ((x : X) → P x → test x ≡ true → f x ≡ m)
    → ((x : X) → P x → test x ≡ false → f x ≡ 0) → AllByRecursion P xs → sum_by f xs ≡ length (filter test xs) * m
sum_is P test f m [] most none all = omega arith
sum_is {X} P test f m (x ∷ xs) most none all =
    let sum : sum_by f (x ∷ xs) ≡ f x + sum_by f xs = sum_by-cons f x xs in
    go (test x) refl sum (sum_is P test f m xs most none all.1)
  where
    go : (b : Bool) → test x ≡ b → sum_by f (x ∷ xs) ≡ f x + sum_by f xs → sum_by f xs ≡ length (filter test xs) * m
        → sum_by f (x ∷ xs) ≡ length (cond b (x ∷ filter test xs) (filter test xs)) * m
    go true e sum rest =
        let here : f x ≡ m = most x all.0 e in
        let more : suc (length (filter test xs)) * m ≡ m + length (filter test xs) * m = omega arith in
        omega arith
    go false e sum rest = let here : f x ≡ 0 = none x all.0 e in omega arith

pub free_are : (i : Image) (logs : Logs) → AreWide (known_image i logs) → free_addresses i logs ≡ free_lines i logs * full_data i.shape
free_are i logs wide =
    sum_is (λ line. line < i.shape.chunks) (is_free_line i logs) (free_data i logs) (full_data i.shape) (range_with_len 0 i.shape.chunks)
    (λ line inside free. ap (λ t. if t then line_data (known_image i logs) line else 0) free ∙ ap (data_len i.shape) (wide line inside))
    (λ line inside used. ap (λ t. if t then line_data (known_image i logs) line else 0) used)
    (all_in_range 0 i.shape.chunks i.shape.chunks (omega arith))

-- where collection isn't due, at least four lines are Free
pub many_free : (i : Image) (logs : Logs) → AreWide (known_image i logs) → is_due i logs ≡ false → 4 ≤ free_lines i logs
many_free i logs wide not_due = go (cases_lt (3 * full_data i.shape) (free_addresses i logs))
  where
    below_same : {a b c : ℕ} → a < b → b ≡ c → a < c
    below_same x y = omega (arith, x, y)

    go : (3 * full_data i.shape < free_addresses i logs) ⊎ (free_addresses i logs ≤ 3 * full_data i.shape) → 4 ≤ free_lines i logs
    go (inl more) =
        let above : 3 < free_lines i logs = lt_of_mul-lt-mul_right (full_data i.shape) (below_same more (free_are i logs wide)) in
        omega arith
    go (inr few) = absurd (not_both (nat_le (free_addresses i logs) (3 * full_data i.shape))
        (le_true (free_addresses i logs) (3 * full_data i.shape) few) not_due)

-- where it is, three are at most
pub few_free : (i : Image) (logs : Logs) → AreWide (known_image i logs) → IsAccepted i.shape → is_due i logs ≡ true → free_lines i logs ≤ 3
few_free i logs wide accepted due = go (cases_lt 3 (free_lines i logs))
  where
    above : (f d a w : ℕ) → 4 * d ≤ f * d → a ≡ f * d → a ≤ 3 * d → 8 * w ≤ d → 0 < w → ⊥
    above f d a w four sum most eight one = omega arith

    go : (3 < free_lines i logs) ⊎ (free_lines i logs ≤ 3) → free_lines i logs ≤ 3
    go (inr few) = few
    go (inl many) = absurd (above (free_lines i logs) (full_data i.shape) (free_addresses i logs) i.shape.ws_opt
        (mul-le-mul_right (full_data i.shape) many) (free_are i logs wide)
        (within_is (free_addresses i logs) (3 * full_data i.shape) due) (eight_stripes i.shape accepted) accepted.drive.ws_opt)

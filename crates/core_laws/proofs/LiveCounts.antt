-- How many live sectors a row can have.
use Rattle.std.proofs.Common.{◌≡◌, ℕ, ◌+◌, ◌<◌, ◌≤◌, zero, suc, Bool, true, false, cond, Some, ◌∷◌, length, sym, ap, ◌∙◌, arith, subst}
use Rattle.std.specs.List.{filter, range_with_len}
use Rattle.pblk_model.specs.Contents.{is_of}
use Rattle.pblk_model.specs.Image.{Image}
use Rattle.pblk_world.specs.World.{Logs}
use Rattle.pblk_world.specs.Fronts.{last_take}
use Rattle.pblk_world.specs.Victims.{line_of, is_live_in, live}
use Rattle.pblk_model.proofs.Maps.{few_pass}
use Rattle.pblk_model.proofs.Tests.{same_number}

some_passes : (test : ℕ → Bool) (a n k : ℕ) → k < n → test (a + k) ≡ true → 0 < length (filter test (range_with_len a n))
some_passes test a zero k within e = absurd (omega arith)
some_passes test a (suc n) zero within e =
    let first : a + 0 ≡ a = omega arith in
    subst (λ b. 0 < length (cond b (a ∷ filter test (range_with_len (a + 1) n)) (filter test (range_with_len (a + 1) n)))) (sym (ap test (sym first) ∙ e))
    (omega arith)
some_passes test a (suc n) (suc k) within e =
    let next : a + suc k ≡ a + 1 + k = omega arith in
    go (test a) (some_passes test (a + 1) n k (omega arith) (ap test (sym next) ∙ e))
  where
    go : (b : Bool) → 0 < length (filter test (range_with_len (a + 1) n))
        → 0 < length (cond b (a ∷ filter test (range_with_len (a + 1) n)) (filter test (range_with_len (a + 1) n)))
    go true h = omega arith
    go false h = h

pub live_few : (i : Image) (logs : Logs) (line : ℕ) → live i logs line ≤ i.shape.capacity
live_few i logs line = few_pass (is_live_in i logs line) 0 i.shape.capacity

pub live_some : (i : Image) (logs : Logs) (line lba : ℕ) → lba < i.shape.capacity → line_of i logs lba (last_take (logs 0) lba) ≡ Some line
    → 0 < live i logs line
live_some i logs line lba inside e =
    let first : 0 + lba ≡ lba = omega arith in
    some_passes (is_live_in i logs line) 0 i.shape.capacity lba inside (ap (is_live_in i logs line) first ∙ ap (is_of line) e ∙ same_number line)

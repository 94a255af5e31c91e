-- At rest there is room for a command of a user.
use Rattle.std.proofs.Common.{◌≡◌, ◌⊎◌, inl, inr, ℕ, ◌+◌, ◌-◌, ◌*◌, ◌/◌, ◌<◌, ◌≤◌, min, Bool, true, false, List, [], ◌∷◌, length, refl, ap, ◌∙◌, arith}
use Rattle.std.specs.List.{filter, range_with_len}
use Rattle.std.proofs.lemmas.Bool.{cases_lt}
use Rattle.std.proofs.Math.Nat.{le-div_iff_mul-le, mul-add, mul-le-mul_left, mul-le-mul_right, mul-pos, mul_left_comm}
use Rattle.pblk_model.specs.declared.shape.Shape.{Shape}
use Rattle.pblk_model.specs.Image.{Image}
use Rattle.pblk_model.specs.Shape.{units}
use Rattle.pblk_world.specs.EngineLog.{life_of, Opening, openings}
use Rattle.pblk_world.specs.Fronts.{taken, waiting}
use Rattle.pblk_world.specs.Lines.{found_image}
use Rattle.pblk_world.specs.Space.{addresses, free_addresses, freed, full_data, is_due, open_addresses, placed_front, position_limit, ring_limit, room, space_limit}
use Rattle.pblk_world.specs.World.{World, log_of}
use Rattle.pblk_model.proofs.Lists.{among_contained}
use Rattle.world_laws.proofs.StartRecords.{nth_opening}
use Rattle.core_laws.proofs.LosslessMounts.{IsLosslessMount}
use Rattle.rest_laws.specs.RestingMounts.{IsRestingMount, IsStillMount}
use Rattle.rest_laws.specs.Tidy.{has_free_chunks}
use Rattle.rest_laws.proofs.FreedNear.{taken_near, taken_waits}
use Rattle.rest_laws.proofs.FreeCounts.{free_are, many_free}
use Rattle.rest_laws.proofs.NothingOpened.{unopened_waits}
use Rattle.rest_laws.proofs.OnlyLastOpen.{others_over}
use Rattle.rest_laws.proofs.RestingVictims as victims
use Rattle.rest_laws.proofs.RestingWork.{none_urgent}
use Rattle.rest_laws.proofs.StillMounts.{still}
use Rattle.rest_laws.proofs.SomeOpened as some_opened
use Rattle.rest_laws.proofs.SomeOpened.{last_of_some}

-- n entries wait for stripes of w blocks, and a addresses are left, as many as four lines of d have
space_numbers : (t p n a d w : ℕ) → t ≡ p + n → n < w → 4 * d ≤ a → (16 + w) * w ≤ 2 * d → 0 < w → t + 16 ≤ p + (a - 2 * d) / w
space_numbers t p n a d w all few many spare some =
    let wide : (n + 16) * w ≤ (16 + w) * w = mul-le-mul_right w (omega arith) in
    let fits : (n + 16) * w ≤ a - 2 * d = omega arith in
    let quotient : n + 16 ≤ (a - 2 * d) / w = (le-div_iff_mul-le some).1 fits in
    omega arith

-- the front taken t is as near to the front freed f, in a ring of r slots
ring_numbers : (t f u m w n r : ℕ) → t ≤ f + u * (m + (w - 1)) + n → n < w → 0 < w → 0 < u → u * (m + 4 * w) + 16 ≤ r → t + 16 ≤ f + r - u * w
ring_numbers t f u m w n r near few some units_some long =
    let first : u * (m + (w - 1)) ≤ u * (m + w) = mul-le-mul_left u (omega arith) in
    let second : u * (m + w) ≡ u * m + u * w = mul-add u m w in
    let third : u * (m + 4 * w) ≡ u * m + 4 * (u * w) = mul-add u m (4 * w) ∙ ap (λ k. u * m + k) (mul_left_comm u 4 w) in
    let one : 1 * w ≤ u * w = mul-le-mul_right w units_some in
    omega arith

-- Where nothing is in flight, to be placed or to be opened, the ring has room.
module _ (i : Image) (w : World) (asked : ℕ) (r : IsStillMount i w asked) where
  abbrev s : Shape
  s = i.shape

  lossless : IsLosslessMount i w
  lossless = record { mount = r.mount; none_lost = r.none_lost }

  -- less than a stripe waits
  pub few_wait : 0 < addresses i (log_of w) → length (waiting i.shape (log_of w 0)) < i.shape.ws_opt
  few_wait some = go (cases_lt (length (waiting s (log_of w 0))) s.ws_opt)
    where
      go : (length (waiting i.shape (log_of w 0)) < i.shape.ws_opt) ⊎ (i.shape.ws_opt ≤ length (waiting i.shape (log_of w 0)))
          → length (waiting i.shape (log_of w 0)) < i.shape.ws_opt
      go (inl few) = few
      go (inr long) = absurd (none_urgent i w asked r some (inl long))

  near : taken (log_of w 0) ≤ freed i.shape (log_of w 0) + units i.shape * (i.shape.mw_cunits + (i.shape.ws_opt - 1))
      + length (waiting i.shape (log_of w 0))
  near = go (openings (log_of w 0)) refl
    where
      go : (os : List Opening) → openings (log_of w 0) ≡ os → taken (log_of w 0) ≤ freed i.shape (log_of w 0)
          + units i.shape * (i.shape.mw_cunits + (i.shape.ws_opt - 1)) + length (waiting i.shape (log_of w 0))
      go [] e = further (taken (log_of w 0)) (freed s (log_of w 0)) (units s * (s.mw_cunits + (s.ws_opt - 1))) (length (waiting s (log_of w 0)))
          (unopened_waits i w lossless e)
        where
          further : (t f k n : ℕ) → t ≤ f + n → t ≤ f + k + n
          further t f k n x = omega arith
      go (o ∷ os) e =
          let last = last_of_some (log_of w 0) (length os) (ap (λ (xs : List Opening). length xs) e) in
          let at = among_contained (openings (log_of w 0)) last.0 last.1.opened in
          taken_near i w lossless r.full last.0 last.1 (r.wide last.0.line (nth_opening i w at.0 last.0 r.mount.legal at.1).may.in_range) r.stripes
          (λ x before is_open. others_over i w lossless r.full last.0 last.1.opened x before is_open r.stripes (λ stripe its end.
          r.no_program stripe (record { opening = x; is_open = ap (life_of (log_of w 0)) its ∙ is_open; kind = inr (inl end) })))

  pub ring : 0 < addresses i (log_of w) → taken (log_of w 0) + 16 ≤ ring_limit i.shape (log_of w 0)
  ring some = ring_numbers (taken (log_of w 0)) (freed s (log_of w 0)) (units s) s.mw_cunits s.ws_opt (length (waiting s (log_of w 0))) s.ring near (few_wait some)
      r.mount.accepted.drive.ws_opt (mul-pos r.mount.accepted.drive.groups r.mount.accepted.drive.pus) r.mount.accepted.target.ring_low

-- At rest the drive has, too.
module _ (i : Image) (w : World) (asked : ℕ) (r : IsRestingMount i w asked) where
  module _ (four : 4 ≤ length (filter (has_free_chunks (found_image i (log_of w))) (range_with_len 0 i.shape.chunks)))
      (position : taken (log_of w 0) < position_limit (log_of w 0)) (address : length (waiting i.shape (log_of w 0)) < addresses i (log_of w)) where
    pub not_due : is_due i (log_of w) ≡ false
    not_due = go (openings (log_of w 0)) refl
      where
        go : (os : List Opening) → openings (log_of w 0) ≡ os → is_due i (log_of w) ≡ false
        go [] e = by (is_due i (log_of w)) refl
          where
            by : (t : Bool) → is_due i (log_of w) ≡ t → is_due i (log_of w) ≡ false
            by false f = f
            by true f = absurd (some_opened.not_due i w r.mount r.beginning r.begins e r.wide r.resting.no_work.no_reset four f)
        go (o ∷ os) e =
            let last = last_of_some (log_of w 0) (length os) (ap (λ (xs : List Opening). length xs) e) in
            victims.not_due i w asked r last.0 last.1 position address

    -- at least four lines are Free
    free_many : 4 * full_data i.shape ≤ free_addresses i (log_of w)
    free_many = above_same (mul-le-mul_right (full_data i.shape) (many_free i (log_of w) r.wide not_due)) (free_are i (log_of w) r.wide)
      where
        above_same : {a b c : ℕ} → a ≤ b → c ≡ b → a ≤ c
        above_same x y = omega (arith, x, y)

    some : 0 < addresses i (log_of w)
    some = above (length (waiting i.shape (log_of w 0))) (addresses i (log_of w)) address
      where
        above : (a b : ℕ) → a < b → 0 < b
        above a b x = omega arith

    space : taken (log_of w 0) + 16 ≤ space_limit i (log_of w)
    space = space_numbers (taken (log_of w 0)) (placed_front i.shape (log_of w 0)) (length (waiting i.shape (log_of w 0))) (addresses i (log_of w)) (full_data i.shape) i.shape.ws_opt
        (taken_waits i w (record { mount = r.mount; none_lost = r.none_lost })) (few_wait i w asked (still i w asked r) some) (longer (4 * full_data i.shape) (open_addresses i (log_of w)) (free_addresses i (log_of w)) free_many)
        r.mount.accepted.target.room r.mount.accepted.drive.ws_opt
      where
        longer : (a b c : ℕ) → a ≤ c → a ≤ b + c
        longer a b c x = omega arith

    pub has_room : taken (log_of w 0) + 16 ≤ position_limit (log_of w 0) → taken (log_of w 0) + 16 ≤ room i (log_of w)
    has_room limit =
        least (taken (log_of w 0) + 16) (ring_limit i.shape (log_of w 0)) (space_limit i (log_of w)) (position_limit (log_of w 0)) (ring i w asked (still i w asked r) some) space limit
      where
        least : (a b c d : ℕ) → a ≤ b → a ≤ c → a ≤ d → a ≤ min (min b c) d
        least a b c d x y z = omega arith

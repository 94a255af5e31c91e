-- The most pieces of work by the shape alone: a line that was opened has no more chunks than there
-- are units.
use Rattle.std.proofs.Common.{◌≡◌, ℕ, ◌+◌, ◌-◌, ◌*◌, ◌/◌, ◌<◌, ◌≤◌, max, zero, suc, Bool, true, false, List, ◌∷◌, length, take, refl, ap, arith, nat_lt, if◌then◌else◌}
use Rattle.std.specs.Prelude.{sum_by}
use Rattle.std.specs.List.{range_with_len}
use Rattle.std.proofs.Math.Nat.{div-mul-le_self, mul-le-mul_left, mul-le-mul_right}
use Rattle.std.proofs.lemmas.List.Sums.{sum_by-cons}
use Rattle.std.proofs.lemmas.Nat.{le-div}
use Rattle.pblk_model.specs.declared.shape.Shape.{Shape}
use Rattle.pblk_model.specs.Image.{Image}
use Rattle.pblk_model.specs.LineOrder.{data_len, end_len, start_len}
use Rattle.pblk_model.specs.Shape.{units}
use Rattle.pblk_world.specs.EngineLog.{AsFound, Freed, LineLife, Opened, Opening, has_failed, last_opening, life_of}
use Rattle.pblk_world.specs.Events.{Logged}
use Rattle.pblk_world.specs.Fronts.{waiting}
use Rattle.pblk_world.specs.LegalMounts.{IsLegalMount}
use Rattle.pblk_world.specs.Placing.{end_address, next_address}
use Rattle.pblk_world.specs.Space.{full_data, open_addresses, unplaced_in}
use Rattle.pblk_world.specs.Victims.{engine_prefix}
use Rattle.pblk_world.specs.World.{World, log_of}
use Rattle.world_laws.proofs.Lives.{life_is_known}
use Rattle.world_laws.proofs.StartFits.{opening_narrow}
use Rattle.world_laws.proofs.Stripes.{opening_of_prefix}
use Rattle.rest_laws.specs.RoomSteps.{stripes_left, stripes_left_in}
use Rattle.settle_laws.specs.Quiet.{address_work, line_stripes, most_work, most_work_by}

-- a sum of so many numbers that are no greater than one
sum_few : (f : ℕ → ℕ) (a n m : ℕ) → ((x : ℕ) → f x ≤ m) → sum_by f (range_with_len a n) ≤ n * m
sum_few f a zero m few = omega arith
sum_few f a (suc n) m few =
    let rest : sum_by f (range_with_len (a + 1) n) ≤ n * m = sum_few f (a + 1) n m few in
    let all : sum_by f (a ∷ range_with_len (a + 1) n) ≡ f a + sum_by f (range_with_len (a + 1) n) = sum_by-cons f a (range_with_len (a + 1) n) in
    omega (arith, rest, few a)

div_rises : (a b k : ℕ) → 0 < k → a ≤ b → a / k ≤ b / k
div_rises a b k some low =
    let part : a / k * k ≤ a = div-mul-le_self a k in
    le-div (a / k) b k some (omega arith)

-- the data addresses of a line are among the blocks of one on all units
few_data : (s : Shape) (g : ℕ) → g ≤ units s → data_len s g ≤ units s * s.clba
few_data s g low = go (nat_lt (g * s.clba - start_len s - end_len s g) s.ws_opt)
  where
    blocks : g * s.clba ≤ units s * s.clba
    blocks = mul-le-mul_right s.clba low

    go : (b : Bool) → (if b then 0 else g * s.clba - start_len s - end_len s g) ≤ units s * s.clba
    go true = omega arith
    go false = omega (arith, blocks)

module _ (i : Image) (w : World) (mount : IsLegalMount i w) (n : ℕ) where
  abbrev log : List Logged
  log = take n (log_of w 0)

  narrow : (line : ℕ) (o : Opening) → life_of (take n (log_of w 0)) line ≡ Opened o → o.start.width ≤ units i.shape
  narrow line o is =
      opening_narrow i w o mount.fit mount.legal (opening_of_prefix (log_of w 0) n o (life_is_known log line o (ap last_opening is)).0)

  few_stripes : (line : ℕ) → stripes_left_in i.shape (take n (log_of w 0)) (life_of (take n (log_of w 0)) line) ≤ line_stripes i.shape
  few_stripes line = go (life_of log line) refl
    where
      go : (life : LineLife) → life_of (take n (log_of w 0)) line ≡ life → stripes_left_in i.shape (take n (log_of w 0)) life ≤ line_stripes i.shape
      go AsFound e = omega arith
      go (Freed was knows) e = omega arith
      go (Opened o) e =
          let blocks : o.start.width * i.shape.clba ≤ units i.shape * i.shape.clba = mul-le-mul_right i.shape.clba (narrow line o e) in
          let low : o.start.width * i.shape.clba / i.shape.ws_opt ≤ units i.shape * i.shape.clba / i.shape.ws_opt =
          div_rises (o.start.width * i.shape.clba) (units i.shape * i.shape.clba) i.shape.ws_opt mount.accepted.drive.ws_opt blocks in
          omega arith

  few_unplaced : (line : ℕ) → unplaced_in i.shape (take n (log_of w 0)) (life_of (take n (log_of w 0)) line) ≤ units i.shape * i.shape.clba
  few_unplaced line = go (life_of log line) refl
    where
      by : (o : Opening) → o.start.width ≤ units i.shape → (b : Bool)
          → (if b then 0 else end_address i.shape o - max (start_len i.shape) (next_address i.shape (take n (log_of w 0)) o))
          ≤ units i.shape * i.shape.clba
      by o low true = omega arith
      by o low false = omega (arith, few_data i.shape o.start.width low)

      go : (life : LineLife) → life_of (take n (log_of w 0)) line ≡ life
          → unplaced_in i.shape (take n (log_of w 0)) life ≤ units i.shape * i.shape.clba
      go AsFound e = omega arith
      go (Freed was knows) e = omega arith
      go (Opened o) e = by o (narrow line o e) (has_failed log o)

  pub most_by_shape : most_work i (engine_prefix n (log_of w)) ≤ most_work_by i.shape (length (waiting i.shape (take n (log_of w 0))))
  most_by_shape =
      let stripes : stripes_left i (engine_prefix n (log_of w)) ≤ i.shape.chunks * line_stripes i.shape =
      sum_few (λ line. stripes_left_in i.shape log (life_of log line)) 0 i.shape.chunks (line_stripes i.shape) few_stripes in
      let left : open_addresses i (engine_prefix n (log_of w)) ≤ i.shape.chunks * (units i.shape * i.shape.clba) =
      sum_few (λ line. unplaced_in i.shape log (life_of log line)) 0 i.shape.chunks (units i.shape * i.shape.clba) few_unplaced in
      let all : address_work i.shape * (length (waiting i.shape log) + open_addresses i (engine_prefix n (log_of w))
      + (2 * i.shape.chunks + 3) * full_data i.shape + 3 * (i.shape.ws_opt - 1) + 1)
      ≤ address_work i.shape * (length (waiting i.shape log) + i.shape.chunks * (units i.shape * i.shape.clba)
      + (2 * i.shape.chunks + 3) * full_data i.shape + 3 * (i.shape.ws_opt - 1) + 1) =
      mul-le-mul_left (address_work i.shape) (omega arith) in
      omega (arith, stripes, all)

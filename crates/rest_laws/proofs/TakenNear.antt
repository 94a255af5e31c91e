-- Where no stripe was lost and all that was taken had its reason, the front taken is near the front
-- synced. What was placed from that front on stands in lines that weren't freed, so it is no more
-- than the drive has blocks.
use Rattle.std.proofs.Common.{◌≡◌, ◌⊎◌, inl, inr, ℕ, ◌+◌, ◌-◌, ◌*◌, ◌^◌, ◌<◌, ◌≤◌, nat_le, nat_lt, min, zero, suc, Bool, true, false, Some, None, Option, List, [], ◌∷◌, ◌++◌, length, max, take, refl, sym, subst, ap, ◌∙◌, arith, length-append, if◌then◌else◌}
use Rattle.std.specs.Prelude.{slice_get, sum_by}
use Rattle.std.specs.List.{AllByRecursion, Contains, flat_map, range_with_len}
use Rattle.std.proofs.lemmas.Bool.{cases_lt}
use Rattle.std.proofs.lemmas.List.FromFn.{length-range_with_len}
use Rattle.std.proofs.lemmas.List.Sums.{sum_by-cons}
use Rattle.std.proofs.lemmas.Option.{slice_get_within}
use Rattle.std.proofs.Math.Nat.{mul-le-mul_left, mul-le-mul_right, mul_assoc, mul_left_comm}
use Rattle.pblk_model.specs.declared.shape.Shape.{Shape}
use Rattle.pblk_model.specs.Accepted.{IsAccepted}
use Rattle.pblk_model.specs.Image.{Image, width}
use Rattle.pblk_model.specs.LineOrder.{data_len, end_len, start_len}
use Rattle.pblk_model.specs.Shape.{units}
use Rattle.pblk_laws.proofs.Widths.{filter_map_length}
use Rattle.pblk_world.specs.AtRest.{logs_at}
use Rattle.pblk_world.specs.EngineLog.{AsFound, Freed, has_failed, holds_position, is_answered, is_life, life_of, LineLife, Opened, Opening, openings, Placed, placements, stripes_of, Taken, takes}
use Rattle.pblk_world.specs.Events.{Decides, Event, Logged, Source, Take}
use Rattle.pblk_world.specs.Fronts.{first_position, synced, taken, waiting}
use Rattle.pblk_world.specs.Lines.{is_free_line, known_image, line_data}
use Rattle.pblk_world.specs.Placing.{end_address, line_end, next_address}
use Rattle.pblk_world.specs.Space.{addresses, free_addresses, freed, open_addresses, placed_front, room, unplaced_in}
use Rattle.pblk_world.specs.Victims.{position_in}
use Rattle.pblk_world.specs.World.{World, Logs, log_of}
use Rattle.pblk_world.proofs.LinesLemmas.{length_known}
use Rattle.pblk_model.proofs.Lists.{IsAmong, among_contained}
use Rattle.pblk_model.proofs.Maps.{in_filter, range_get}
use Rattle.pblk_model.proofs.Parts.{all_at, all_by_get, all_taken, contained_among, got_within}
use Rattle.pblk_model.proofs.Tests.{and_both, le_true, lt_true, same_number}
use Rattle.pblk_world.specs.LegalMounts.{decides, is_losing, IsLegalMount, NoStripeLost}
use Rattle.pblk_world.specs.Reasons.{AreGranted, WasRoom}
use Rattle.world_laws.proofs.Fronts.{synced_from}
use Rattle.world_laws.proofs.LineStripes.{stripe_count}
use Rattle.world_laws.proofs.NextPrograms.{landed_of_answered}
use Rattle.world_laws.proofs.Positions.{position_of}
use Rattle.world_laws.proofs.StartFits.{opening_narrow, width_few}
use Rattle.world_laws.proofs.StartRecords.{synced_by_now}
use Rattle.world_laws.proofs.Stripes.{opening_then}
use Rattle.world_laws.proofs.TakenEvents.{IsTakenAt, taken_at}
use Rattle.core_laws.specs.InOrder.{FitsItsLine, IsInPlace}
use Rattle.core_laws.specs.PlacerOf.{positions_in_stripe}
use Rattle.core_laws.proofs.LosslessMounts.{IsLosslessMount}
use Rattle.core_laws.proofs.Distinct.{in_made, IsIn, passing}
use Rattle.core_laws.proofs.Growing.{freed_within}
use Rattle.core_laws.proofs.LandedNow.{opened_now}
use Rattle.core_laws.proofs.LatestLines.{standing_or_synced}
use Rattle.core_laws.proofs.LineRoom.{has_room}
use Rattle.core_laws.proofs.LogOrders.{in_order}
use Rattle.core_laws.proofs.Placed.{stripe_holds}
use Rattle.core_laws.proofs.PlacedInOrder.{ordered, some_hold_below}
use Rattle.core_laws.proofs.PlainLogs.{never_lost}
use Rattle.rest_laws.specs.RoomRuns.{AreBegunInTurn, WasBegunInTurn}
use Rattle.rest_laws.proofs.FreedNear.{taken_waits}
use Rattle.rest_laws.proofs.LengthLogs.{IsWorldAt, world_at}
use Rattle.rest_laws.proofs.PlacedOnce.{enough}

-- ---- lists

sum_most : (f : ℕ → ℕ) (m : ℕ) (xs : List ℕ) → ((x : ℕ) → f x ≤ m) → sum_by f xs ≤ length xs * m
sum_most f m [] most = omega arith
sum_most f m (x ∷ xs) most =
    let sum : sum_by f (x ∷ xs) ≡ f x + sum_by f xs = sum_by-cons f x xs in
    let rest : sum_by f xs ≤ length xs * m = sum_most f m xs most in
    let here : f x ≤ m = most x in
    let more : suc (length xs) * m ≡ m + length xs * m = omega arith in
    omega arith

made_most : {X : Type 0} (f : X → List ℕ) (m : ℕ) (xs : List X) → AllByRecursion (λ x. length (f x) ≤ m) xs → length (flat_map f xs) ≤ length xs * m
made_most f m [] all = omega arith
made_most f m (x ∷ xs) all =
    let parts : length (f x ++ flat_map f xs) ≡ length (f x) + length (flat_map f xs) = length-append (f x) (flat_map f xs) in
    let rest : length (flat_map f xs) ≤ length xs * m = made_most f m xs all.1 in
    let here : length (f x) ≤ m = all.0 in
    let more : suc (length xs) * m ≡ m + length xs * m = omega arith in
    omega arith

-- ---- the drive

-- how many blocks the chunks of a line have
abbrev line_blocks : Shape → ℕ
line_blocks s = units s * s.clba

abbrev drive_blocks : Shape → ℕ
drive_blocks s = s.chunks * line_blocks s

few_blocks : (s : Shape) → IsAccepted s → drive_blocks s ≤ 268435456
few_blocks s accepted =
    let same : s.chunks * (units s * s.clba) ≡ units s * s.chunks * s.clba =
    mul_left_comm s.chunks (units s) s.clba ∙ sym (mul_assoc (units s) s.chunks s.clba) in
    let size : units s * s.chunks * s.clba * s.sector ≤ 268435456 = accepted.target.size in
    by (units s * s.chunks * s.clba) s.sector (elim accepted.target.sector [ inl e ↦ omega arith | inr e ↦ omega arith ]) size same
  where
    by : (n m : ℕ) → 1 ≤ m → n * m ≤ 268435456 → s.chunks * (units s * s.clba) ≡ n → s.chunks * (units s * s.clba) ≤ 268435456
    by n m some size same = let more : n * 1 ≤ n * m = mul-le-mul_left n some in omega arith

few_data : (s : Shape) (g : ℕ) → g ≤ units s → data_len s g ≤ line_blocks s
few_data s g narrow = go (nat_lt (g * s.clba - start_len s - end_len s g) s.ws_opt) refl (mul-le-mul_right s.clba narrow)
  where
    go : (t : Bool) → nat_lt (g * s.clba - start_len s - end_len s g) s.ws_opt ≡ t → g * s.clba ≤ units s * s.clba → data_len s g ≤ units s * s.clba
    go true e low =
        let none : data_len s g ≡ 0 = ap (λ t. if t then 0 else g * s.clba - start_len s - end_len s g) e in
        omega arith
    go false e low =
        let all : data_len s g ≡ g * s.clba - start_len s - end_len s g = ap (λ t. if t then 0 else g * s.clba - start_len s - end_len s g) e in
        omega arith

-- ---- data addresses

module _ (i : Image) (w : World) (mount : IsLegalMount i w) (at : ℕ) where
  abbrev then_ : Logs
  then_ = logs_at at (log_of w)

  free_few : (line : ℕ) → (if is_free_line i then_ line then line_data (known_image i then_) line else 0) ≤ line_blocks i.shape
  free_few line = go (is_free_line i then_ line)
    where
      go : (t : Bool) → (if t then line_data (known_image i (logs_at at (log_of w))) line else 0) ≤ line_blocks i.shape
      go false = omega arith
      go true =
          let narrow : width (known_image i then_) line ≤ length (known_image i then_).units = width_few (known_image i then_) line in
          let all : length (known_image i then_).units ≡ length i.units = length_known i then_ in
          let fit : length i.units ≡ units i.shape = mount.fit.units in
          few_data i.shape (width (known_image i then_) line) (omega arith)

  open_few : (line : ℕ) → unplaced_in i.shape (take at (log_of w 0)) (life_of (take at (log_of w 0)) line) ≤ line_blocks i.shape
  open_few line = go (life_of (take at (log_of w 0)) line) refl
    where
      go : (l : LineLife) → life_of (take at (log_of w 0)) line ≡ l → unplaced_in i.shape (take at (log_of w 0)) l ≤ line_blocks i.shape
      go AsFound e = omega arith
      go (Freed was knows) e = omega arith
      go (Opened o) e = by (has_failed (take at (log_of w 0)) o)
        where
          by : (t : Bool) → (if t then 0 else end_address i.shape o - max (start_len i.shape) (next_address i.shape (take at (log_of w 0)) o))
              ≤ line_blocks i.shape
          by true = omega arith
          by false =
              let opened = opening_then (log_of w 0) at line o e in
              let few : data_len i.shape o.start.width ≤ line_blocks i.shape =
              few_data i.shape o.start.width (opening_narrow i w o mount.fit mount.legal opened.0) in
              numbers (start_len i.shape) (data_len i.shape o.start.width) (next_address i.shape (take at (log_of w 0)) o) (line_blocks i.shape) few
            where
              numbers : (a d m n : ℕ) → d ≤ n → a + d - max a m ≤ n
              numbers a d m n x = omega arith

  addresses_few : addresses i (logs_at at (log_of w)) ≤ drive_blocks i.shape + drive_blocks i.shape
  addresses_few =
      let count : length (range_with_len 0 i.shape.chunks) ≡ i.shape.chunks = length-range_with_len 0 i.shape.chunks in
      let opens : open_addresses i then_ ≤ length (range_with_len 0 i.shape.chunks) * line_blocks i.shape =
      sum_most (λ line. unplaced_in i.shape (take at (log_of w 0)) (life_of (take at (log_of w 0)) line)) (line_blocks i.shape)
      (range_with_len 0 i.shape.chunks) open_few in
      let frees : free_addresses i then_ ≤ length (range_with_len 0 i.shape.chunks) * line_blocks i.shape =
      sum_most (λ line. if is_free_line i then_ line then line_data (known_image i then_) line else 0) (line_blocks i.shape)
      (range_with_len 0 i.shape.chunks) free_few in
      let all : length (range_with_len 0 i.shape.chunks) * line_blocks i.shape ≡ drive_blocks i.shape = ap (λ n. n * line_blocks i.shape) count in
      omega arith

-- ---- what was placed

module _ (i : Image) (w : World) (lossless : IsLosslessMount i w) where
  abbrev log : List Logged
  log = log_of w 0

  mount : IsLegalMount i w
  mount = lossless.mount

  abbrev in_stripe : Placed → List ℕ
  in_stripe p = positions_in_stripe i.shape p.stripe

  -- the positions in the stripes of a line that is opened
  abbrev in_life : LineLife → List ℕ
  in_life AsFound = []
  in_life (Opened o) = flat_map in_stripe (stripes_of log o)
  in_life (Freed was knows) = []

  abbrev in_line : ℕ → List ℕ
  in_line line = in_life (life_of log line)

  line_few : (line : ℕ) → length (in_line line) ≤ line_blocks i.shape
  line_few line = go (life_of (log_of w 0) line) refl
    where
      go : (l : LineLife) → life_of (log_of w 0) line ≡ l → length (in_life l) ≤ line_blocks i.shape
      go AsFound e = omega arith
      go (Freed was knows) e = omega arith
      go (Opened o) e =
          let opened : Contains (openings log) o = (opened_now i w lossless.mount line o e).0 in
          let stripes : length (flat_map in_stripe (stripes_of log o)) ≤ length (stripes_of log o) * i.shape.ws_opt =
          made_most in_stripe i.shape.ws_opt (stripes_of log o) (all_by_get (λ p. length (in_stripe p) ≤ i.shape.ws_opt) (stripes_of log o) (λ k p there.
          let size : length p.stripe.blocks ≡ i.shape.ws_opt =
          stripe_count i w o p lossless.mount.accepted lossless.mount.legal opened (contained_among (stripes_of log o) p (k, there)) in
          let fewer : length (in_stripe p) ≤ length p.stripe.blocks = filter_map_length (position_in i.shape) p.stripe.blocks in
          omega arith)) in
          let room : FitsItsLine i.shape log o = has_room i w line o lossless.mount e in
          let within : length (stripes_of log o) * i.shape.ws_opt ≤ line_end i.shape o = room.within in
          let narrow : line_end i.shape o ≤ line_blocks i.shape =
          mul-le-mul_right i.shape.clba (opening_narrow i w o lossless.mount.fit lossless.mount.legal opened) in
          omega arith

  -- A stripe whose line is as it was when it was placed has its positions among those.
  stands_in : (p : Placed) (o : Opening) (q : ℕ) → Contains (placements (log_of w 0)) p → p.life ≡ Opened o → life_of (log_of w 0) p.stripe.line ≡ Opened o
      → p.stripe.line < i.shape.chunks → holds_position i.shape q p ≡ true → IsIn (flat_map in_line (range_with_len 0 i.shape.chunks)) q
  stands_in p o q there life stands inside holds =
      let of_life : IsAmong (stripes_of log o) p = in_filter (λ (x : Placed). is_life o.number x.life) (placements log) p
      (among_contained (placements log) p there) (ap (is_life o.number) life ∙ same_number o.number) in
      let here : IsIn (in_stripe p) q = sym (stripe_holds i.shape q p) ∙ holds in
      let of_line : IsIn (in_line p.stripe.line) q =
      subst (λ (l : LineLife). IsIn (in_life l) q) (sym stands) (in_made in_stripe (stripes_of log o) p of_life.0 q of_life.1 here) in
      in_made in_line (range_with_len 0 i.shape.chunks) p.stripe.line p.stripe.line q
      (range_get 0 i.shape.chunks p.stripe.line inside ∙ ap Some (omega arith)) of_line

  is_in_some : (q : ℕ) → synced i.shape (log_of w 0) ≤ q → q < placed_front i.shape (log_of w 0)
      → IsIn (flat_map in_line (range_with_len 0 i.shape.chunks)) q
  is_in_some q from below = by at.0 (contained_among (placements log) at.0 at.1) at.2
    where
      at : (p : Placed) × IsAmong (placements (log_of w 0)) p × (holds_position i.shape q p ≡ true)
      at = let first : first_position log ≤ synced i.shape log = synced_from i.shape log in
          passing (holds_position i.shape q) (placements log)
          (some_hold_below i.shape log (ordered i w lossless.mount) q
          ∙ and_both (nat_le (first_position log) q) (nat_lt q (placed_front i.shape log)) (le_true (first_position log) q (omega arith))
          (lt_true q (placed_front i.shape log) below))

      by : (p : Placed) → Contains (placements (log_of w 0)) p → holds_position i.shape q p ≡ true
          → IsIn (flat_map in_line (range_with_len 0 i.shape.chunks)) q
      by p there holds = go (is_answered log p) refl
        where
          among : IsAmong (placements (log_of w 0)) p
          among = among_contained (placements log) p there

          place : IsInPlace i (log_of w 0) p
          place = all_at (IsInPlace i log) (placements log) among.0 p among.1 (in_order i w lossless.mount).placed

          landed : (life_of (log_of w 0) p.stripe.line ≡ p.life) ⊎ (q < synced i.shape (log_of w 0))
              → IsIn (flat_map in_line (range_with_len 0 i.shape.chunks)) q
          landed (inl stands) = stands_in p place.opening q there place.life (stands ∙ place.life) place.in_range holds
          landed (inr under) = absurd (omega arith)

          go : (t : Bool) → is_answered (log_of w 0) p ≡ t → IsIn (flat_map in_line (range_with_len 0 i.shape.chunks)) q
          go false e = stands_in p place.opening q there place.life (place.stands e) place.in_range holds
          go true e =
              landed (standing_or_synced i w lossless.mount p q there (landed_of_answered log p e (never_lost log lossless.none_lost p)) holds)

  pub placed_near : placed_front i.shape (log_of w 0) ≤ synced i.shape (log_of w 0) + drive_blocks i.shape
  placed_near = go (cases_lt (synced i.shape log) (placed_front i.shape log))
    where
      go : (synced i.shape (log_of w 0) < placed_front i.shape (log_of w 0)) ⊎ (placed_front i.shape (log_of w 0) ≤ synced i.shape (log_of w 0))
          → placed_front i.shape (log_of w 0) ≤ synced i.shape (log_of w 0) + drive_blocks i.shape
      go (inr few) = omega arith
      go (inl many) =
          let all : List ℕ = flat_map in_line (range_with_len 0 i.shape.chunks) in
          let far : placed_front i.shape log - synced i.shape log ≤ length all =
          enough (synced i.shape log) (placed_front i.shape log - synced i.shape log) all (λ q low high. is_in_some q low (omega arith)) in
          let most : length all ≤ length (range_with_len 0 i.shape.chunks) * line_blocks i.shape =
          made_most in_line (line_blocks i.shape) (range_with_len 0 i.shape.chunks)
          (all_by_get (λ line. length (in_line line) ≤ line_blocks i.shape) (range_with_len 0 i.shape.chunks) (λ k line there. line_few line)) in
          let count : length (range_with_len 0 i.shape.chunks) * line_blocks i.shape ≡ drive_blocks i.shape =
          ap (λ n. n * line_blocks i.shape) (length-range_with_len 0 i.shape.chunks) in
          omega arith

-- ---- what was taken

module _ (i : Image) (w : World) (mount : IsLegalMount i w) (none_lost : NoStripeLost (log_of w 0)) (granted : AreGranted i (log_of w))
    (begun : AreBegunInTurn i (log_of w)) where
  -- what there was room for is near
  room_near : (n upto : ℕ) → WasRoom i (log_of w) n upto → upto ≤ synced i.shape (log_of w 0) + i.shape.ring
  room_near n upto was =
      let then_ : List Logged = take was.at (log_of w 0) in
      let within : freed i.shape then_ ≤ synced i.shape then_ = freed_within i.shape then_ in
      let rise : synced i.shape then_ ≤ synced i.shape (log_of w 0) = synced_by_now i.shape was.at (log_of w 0) in
      let limit : room i (logs_at was.at (log_of w)) ≤ freed i.shape then_ + i.shape.ring = by_numbers _ _ _ _ _ in
      let upto_room : upto ≤ room i (logs_at was.at (log_of w)) = was.room in
      omega arith
    where
      by_numbers : (f r k a b : ℕ) → min (min (f + r - k) a) b ≤ f + r
      by_numbers f r k a b = omega arith

  -- what was taken at a length at which a copy was due is near
  due_near : (at : ℕ) → at ≤ length (log_of w 0) → length (waiting i.shape (take at (log_of w 0))) < addresses i (logs_at at (log_of w))
      → taken (take at (log_of w 0)) ≤ synced i.shape (log_of w 0) + 3 * drive_blocks i.shape
  due_near at within few =
      let v : IsWorldAt i w at = world_at i w at mount.legal within in
      let lossless : IsLosslessMount i v.world = record {
        mount = record { accepted = mount.accepted; fit = mount.fit; legal = v.legal };
        none_lost = subst NoStripeLost (sym v.own) (all_taken (λ (x : Logged). decides is_losing x.event ≡ false) at (log_of w 0) none_lost);
      } in
      let all : taken (take at (log_of w 0)) ≡ placed_front i.shape (take at (log_of w 0)) + length (waiting i.shape (take at (log_of w 0))) =
      subst (λ (xs : List Logged). taken xs ≡ placed_front i.shape xs + length (waiting i.shape xs)) v.own (taken_waits i v.world lossless) in
      let placed : placed_front i.shape (take at (log_of w 0)) ≤ synced i.shape (take at (log_of w 0)) + drive_blocks i.shape =
      subst (λ (xs : List Logged). placed_front i.shape xs ≤ synced i.shape xs + drive_blocks i.shape) v.own (placed_near i v.world lossless) in
      let rise : synced i.shape (take at (log_of w 0)) ≤ synced i.shape (log_of w 0) = synced_by_now i.shape at (log_of w 0) in
      let more : addresses i (logs_at at (log_of w)) ≤ drive_blocks i.shape + drive_blocks i.shape = addresses_few i w mount at in
      omega arith

  entry_near : (k : ℕ) (t : Taken) → slice_get (takes (log_of w 0)) k ≡ Some t
      → t.entry.position ≤ synced i.shape (log_of w 0) + i.shape.ring + 3 * drive_blocks i.shape
  entry_near k t at = by t.entry.source refl
    where
      its : IsTakenAt (log_of w 0) k t
      its = taken_at (log_of w 0) k t at

      there : slice_get (log_of w 0) its.number ≡ Some (record { event = Decides (Take t.entry t.mark); knows = its.logged.knows })
      there = its.there ∙ ap (λ (e : Event). Some (record { event = e; knows = its.logged.knows })) its.event

      by : (o : Option Source) → t.entry.source ≡ o → t.entry.position ≤ synced i.shape (log_of w 0) + i.shape.ring + 3 * drive_blocks i.shape
      by None e =
          let near : t.entry.position + 1 ≤ synced i.shape (log_of w 0) + i.shape.ring =
          room_near its.number (t.entry.position + 1) (granted.each its.number its.logged.knows t.entry t.mark there e) in
          omega arith
      by (Some source) e = go turn.claimed
        where
          turn : WasBegunInTurn i (log_of w) its.number t.entry source
          turn = begun.each its.number t.entry t.mark
              (record { knows = its.logged.knows; there = there; source = source; is_copy = e })

          go : (t.entry.position ≤ taken (take turn.begun.at (log_of w 0))) ⊎ WasRoom i (log_of w) turn.begun.at t.entry.position
              → t.entry.position ≤ synced i.shape (log_of w 0) + i.shape.ring + 3 * drive_blocks i.shape
          go (inr was) =
              let near : t.entry.position ≤ synced i.shape (log_of w 0) + i.shape.ring = room_near turn.begun.at t.entry.position was in
              omega arith
          go (inl low) =
              let inside : its.number < length (log_of w 0) = slice_get_within (log_of w 0) its.number its.logged its.there in
              let early : turn.begun.at ≤ its.number = turn.begun.within in
              let near : taken (take turn.begun.at (log_of w 0)) ≤ synced i.shape (log_of w 0) + 3 * drive_blocks i.shape =
              due_near turn.begun.at (omega arith) turn.begun.due.has_address in
              omega arith

  pub taken_near_synced : taken (log_of w 0) ≤ synced i.shape (log_of w 0) + 2 ^ 30
  taken_near_synced = go (length (takes (log_of w 0))) refl
    where
      from : first_position (log_of w 0) ≤ synced i.shape (log_of w 0)
      from = synced_from i.shape (log_of w 0)

      go : (n : ℕ) → length (takes (log_of w 0)) ≡ n → taken (log_of w 0) ≤ synced i.shape (log_of w 0) + 2 ^ 30
      go zero none = let low = from in omega arith
      go (suc k) some =
          let last = got_within (takes (log_of w 0)) k (omega arith) in
          let position : last.0.entry.position ≡ first_position (log_of w 0) + k = position_of i w k last.0 mount.legal last.1 in
          let near : last.0.entry.position ≤ synced i.shape (log_of w 0) + i.shape.ring + 3 * drive_blocks i.shape = entry_near k last.0 last.1 in
          let few : drive_blocks i.shape ≤ 268435456 = few_blocks i.shape mount.accepted in
          let ring : i.shape.ring ≤ 16384 = mount.accepted.target.ring_high in
          numbers (taken (log_of w 0)) (length (takes (log_of w 0))) (first_position (log_of w 0)) last.0.entry.position (synced i.shape (log_of w 0))
          i.shape.ring (drive_blocks i.shape) refl some position near few ring
        where
          numbers : (t n f p s r d : ℕ) → t ≡ f + n → n ≡ suc k → p ≡ f + k → p ≤ s + r + 3 * d → d ≤ 268435456 → r ≤ 16384 → t ≤ s + 2 ^ 30
          numbers t n f p s r d a b c e g h = omega arith

-- At rest the front freed is near the front taken: what can't be read yet stands in the line that
-- was opened last, at the ends of its chunks.
use Rattle.std.proofs.Common.{◌≡◌, ◌⊎◌, inl, inr, ℕ, ◌+◌, ◌-◌, ◌*◌, ◌/◌, ◌%◌, ◌<◌, ◌≤◌, ◌&&◌, ◌||◌, nat_le, nat_lt, Bool, true, false, Some, List, length, take, drop, refl, sym, subst, ap, ◌∙◌, arith, div-add-mod', length-drop, length-take}
use Rattle.std.specs.Prelude.{slice_get}
use Rattle.std.specs.List.{Contains, enumerate_from, filter, list_any}
use Rattle.std.proofs.lemmas.Bool.{cases_lt, cases_order}
use Rattle.std.proofs.Math.Nat.{add-mul, mul-le-mul_left, mul-le-mul_right, mul_assoc, mul_comm, mul_left_comm}
use Rattle.pblk_model.specs.declared.shape.Shape.{Shape}
use Rattle.pblk_model.specs.Chunk.{Block}
use Rattle.pblk_model.specs.Image.{Image, line_units, width}
use Rattle.pblk_model.specs.Shape.{units}
use Rattle.pblk_laws.proofs.LineUnits.{line_units_count}
use Rattle.pblk_world.specs.EngineLog.{bears_position, has_landed, holds_position, is_answered, is_life, life_of, Opened, Opening, Placed, placements, stripes_of, stripes_on, Taken, takes, was_lost}
use Rattle.pblk_world.specs.Events.{Logged}
use Rattle.pblk_world.specs.Fronts.{first_position, taken, waiting, was_placed}
use Rattle.pblk_world.specs.Lines.{are_over, known_image}
use Rattle.pblk_world.specs.Space.{freed, gives_back, is_closed_in, is_readable_in, landed_blocks, placed_front}
use Rattle.pblk_world.specs.World.{World, log_of}
use Rattle.pblk_world.proofs.SyncedFront.{IsLeast, least}
use Rattle.pblk_model.proofs.Lists.{IsAmong, among_contained}
use Rattle.pblk_model.proofs.Maps.{any_member, enumerate_get, in_filter}
use Rattle.pblk_model.proofs.Parts.{contained_among, get_below, take_and_drop}
use Rattle.pblk_model.proofs.Tests.{and_both, either_false, le_of_lt_false, le_true, lt_true, not_both, same_number}
use Rattle.pblk_world.specs.LegalMounts.{IsLegalMount}
use Rattle.world_laws.proofs.Later.{placed_later, placed_within}
use Rattle.world_laws.proofs.LineStripes.{stripe_count}
use Rattle.world_laws.proofs.NextPrograms.{landed_of_answered}
use Rattle.world_laws.proofs.Stripes.{one_opening, stripe_is}
use Rattle.core_laws.proofs.LosslessMounts.{IsLosslessMount}
use Rattle.core_laws.specs.Spent.{OpensWhenFull}
use Rattle.core_laws.proofs.Distinct.{passing}
use Rattle.core_laws.proofs.PlacedInOrder.{IsOrdered, count_is, front_within, ordered, some_hold_below, waiting_are_last}
use Rattle.core_laws.proofs.PlainLogs.{never_lost}
use Rattle.rest_laws.specs.NewestOpened.{IsLastOpened}
use Rattle.rest_laws.proofs.ChunkRows.{IsInRow, blocks_landed, few_rows, in_row}
use Rattle.rest_laws.proofs.FullChunks.{closed_chunk}
use Rattle.rest_laws.proofs.LastStarts.{last_stands}
use Rattle.rest_laws.proofs.OverSynced.{IsOf, first_then, of, ordered_then, placed_before}
use Rattle.rest_laws.proofs.PlacedSince.{placed_since}

-- ---- what was taken and not placed waits

pub taken_waits : (i : Image) (w : World) → IsLosslessMount i w
    → taken (log_of w 0) ≡ placed_front i.shape (log_of w 0) + length (waiting i.shape (log_of w 0))
taken_waits i w lossless =
    let log : List Logged = log_of w 0 in
    let order : IsOrdered i.shape log = ordered i w lossless.mount in
    let left : length (waiting i.shape log) ≡ length (takes log) - order.order.count =
    ap (λ (ts : List Taken). length ts) (waiting_are_last i.shape log (never_lost log lossless.none_lost) order)
    ∙ length-drop order.order.count (takes log) in
    let count : length (filter (was_placed i.shape log) (takes log)) ≡ order.order.count = count_is i.shape log order in
    let few : order.order.count ≤ length (takes log) = order.order.within in
    omega arith

-- ---- the front freed

pub freed_is_least : (s : Shape) (log : List Logged)
    → IsLeast (λ position. list_any (gives_back s log position) (placements log)) (length (takes log)) (first_position log) (freed s log)
freed_is_least s log = least (λ position. list_any (gives_back s log position) (placements log)) (length (takes log)) (first_position log)

-- ---- numbers

-- m rows of u columns, of which the stripe j in row r is not readable
row_bound : (t j m r c u w index mw : ℕ) → t ≤ m * u + c → j ≡ r * u + c → m * w ≤ r * w + index + mw → index < w → w * (t - j) ≤ u * (mw + (w - 1))
row_bound t j m r c u w index mw long here near inside = go (cases_lt r m)
  where
    go : (r < m) ⊎ (m ≤ r) → w * (t - j) ≤ u * (mw + (w - 1))
    go (inr few) =
        let rows : m * u ≤ r * u = mul-le-mul_right u few in
        let none : t - j ≡ 0 = omega arith in
        subst (λ k. w * k ≤ u * (mw + (w - 1))) (sym none) (omega arith)
    go (inl more) =
        let e : ℕ = m - r in
        let whole : m ≡ r + e = omega (arith, more) in
        let columns : m * u ≡ r * u + e * u = ap (λ k. k * u) whole ∙ add-mul r e u in
        let blocks : m * w ≡ r * w + e * w = ap (λ k. k * w) whole ∙ add-mul r e w in
        let left : t - j ≤ e * u = omega arith in
        let first : w * (t - j) ≤ w * (e * u) = mul-le-mul_left w left in
        let turned : w * (e * u) ≡ u * (e * w) = mul_comm w (e * u) ∙ mul_assoc e u w ∙ sym (mul_left_comm u e w) in
        let near_end : e * w ≤ mw + (w - 1) = omega arith in
        let last : u * (e * w) ≤ u * (mw + (w - 1)) = mul-le-mul_left u near_end in
        omega arith

module _ (i : Image) (w : World) (lossless : IsLosslessMount i w) (full : OpensWhenFull i (log_of w)) (n : Opening) (last : IsLastOpened (log_of w 0) n)
    (wide : width (known_image i (log_of w)) n.line ≡ units i.shape)
    (answered : (p : Placed) → Contains (placements (log_of w 0)) p → is_answered (log_of w 0) p ≡ true)
    (over : (o : Opening) → o.number < n.number → life_of (log_of w 0) o.line ≡ Opened o → are_over i (log_of w) o.line ≡ true) where
  abbrev log : List Logged
  log = log_of w 0

  abbrev s : Shape
  s = i.shape

  mount : IsLegalMount i w
  mount = lossless.mount

  order : IsOrdered i.shape (log_of w 0)
  order = ordered i w lossless.mount

  not_lost : (p : Placed) → was_lost (log_of w 0) p ≡ false
  not_lost p = never_lost log lossless.none_lost p

  landed : (p : Placed) → Contains (placements (log_of w 0)) p → has_landed (log_of w 0) p ≡ true
  landed p there = landed_of_answered log p (answered p there) (not_lost p)

  abbrev q : ℕ
  q = freed i.shape (log_of w 0)

  -- the block of a stripe that holds the position at the front
  record IsHeldIn (p : Placed) : Type 0 where
    there : Contains (placements (log_of w 0)) p
    holds : holds_position i.shape (freed i.shape (log_of w 0)) p ≡ true
    index : ℕ
    block : Block
    is_block : slice_get p.stripe.blocks index ≡ Some block
    unread : is_readable_in i.shape (log_of w 0) p.stripe.unit (p.stripe.at + index) p.life ≡ false

  held : freed i.shape (log_of w 0) < placed_front i.shape (log_of w 0) → (p : Placed) × IsHeldIn p
  held below =
      let from : first_position log ≤ q = (freed_is_least s log).from in
      let within : placed_front s log ≤ taken log = front_within s log order in
      let also : list_any (holds_position s q) (placements log) ≡ true =
      some_hold_below s log order q
      ∙ and_both (nat_le (first_position log) q) (nat_lt q (placed_front s log)) (le_true (first_position log) q from) (lt_true q (placed_front s log) below) in
      let at = passing (holds_position s q) (placements log) also in
      let p : Placed = at.0 in
      let there : Contains (placements log) p = contained_among (placements log) p at.1 in
      let missing : list_any (gives_back s log q) (placements log) ≡ false = (freed_is_least s log).missing (omega arith) in
      let block = passing (bears_position s q) p.stripe.blocks at.2 in (
        p,
        record {
          there = there;
          holds = at.2;
          index = block.1.0;
          block = block.0;
          is_block = block.1.1;
          unread = none_read p at.1 (landed p there) missing block.0 block.1.0 block.1.1 block.2
              (is_readable_in s log p.stripe.unit (p.stripe.at + block.1.0) p.life) refl;
        },
      )
    where
      none_read : (p : Placed) → IsAmong (placements (log_of w 0)) p → has_landed (log_of w 0) p ≡ true
          → list_any (gives_back i.shape (log_of w 0) (freed i.shape (log_of w 0))) (placements (log_of w 0)) ≡ false
          → (block : Block) (index : ℕ) → slice_get p.stripe.blocks index ≡ Some block
          → bears_position i.shape (freed i.shape (log_of w 0)) block ≡ true → (t : Bool)
          → is_readable_in i.shape (log_of w 0) p.stripe.unit (p.stripe.at + index) p.life ≡ t
          → is_readable_in i.shape (log_of w 0) p.stripe.unit (p.stripe.at + index) p.life ≡ false
      none_read p among its_landing missing block index is bears false e = e
      none_read p among its_landing missing block index is bears true e =
          let test : ℕ × Block → Bool = λ b. bears_position s q b.1 && is_readable_in s log p.stripe.unit b.0 p.life in
          let all : List (ℕ × Block) = enumerate_from p.stripe.at p.stripe.blocks in
          let here : slice_get all index ≡ Some (p.stripe.at + index, block) = enumerate_get p.stripe.at p.stripe.blocks index block is in
          let passes : list_any test all ≡ true = any_member test all index (p.stripe.at + index, block) here
          (and_both (bears_position s q block) (is_readable_in s log p.stripe.unit (p.stripe.at + index) p.life) bears e) in
          absurd (not_both (list_any (gives_back s log q) (placements log))
          (any_member (gives_back s log q) (placements log) among.0 p among.1 (and_both (has_landed log p) (list_any test all) its_landing passes)) missing)

  -- nothing at the front or beyond was placed before it
  not_beyond : (p : Placed) → IsHeldIn p → 0 < p.number → placed_front i.shape (take p.number (log_of w 0)) ≤ freed i.shape (log_of w 0)
  not_beyond p h some = go (cases_lt q (placed_front s (take p.number log)))
    where
      go : (freed i.shape (log_of w 0) < placed_front i.shape (take p.number (log_of w 0)))
          ⊎ (placed_front i.shape (take p.number (log_of w 0)) ≤ freed i.shape (log_of w 0))
          → placed_front i.shape (take p.number (log_of w 0)) ≤ freed i.shape (log_of w 0)
      go (inr few) = few
      go (inl more) =
          let then_ : List Logged = take p.number log in
          let first : first_position then_ ≡ first_position log = first_then i w lossless full p.number some in
          let from : first_position log ≤ q = (freed_is_least s log).from in
          let also : list_any (holds_position s q) (placements then_) ≡ true =
          some_hold_below s then_ (ordered_then i w lossless full p h.there) q
          ∙ and_both (nat_le (first_position then_) q) (nat_lt q (placed_front s then_)) (le_true (first_position then_) q (omega arith))
          (lt_true q (placed_front s then_) more) in
          let other = passing (holds_position s q) (placements then_) also in
          let there : Contains (placements then_) other.0 = contained_among (placements then_) other.0 other.1 in
          let now : Contains (placements log) other.0 =
          subst (λ (xs : List Logged). Contains (placements xs) other.0) (take_and_drop p.number log) (placed_later then_ (drop p.number log) other.0 there) in
          let low : other.0.number < length then_ = placed_within then_ other.0 there in
          let short : length then_ ≤ p.number = omega (arith, length-take p.number log) in
          absurd (placed_before i w lossless full other.0 p q q now h.there other.2 h.holds from (omega arith) (omega arith))

  pub front_near : placed_front i.shape (log_of w 0) ≤ freed i.shape (log_of w 0) + units i.shape * (i.shape.mw_cunits + (i.shape.ws_opt - 1))
  front_near = go (cases_lt q (placed_front s log))
    where
      in_last : (p : Placed) → IsHeldIn p → (its : IsOf i w lossless full p n)
          → placed_front i.shape (log_of w 0) ≤ freed i.shape (log_of w 0) + units i.shape * (i.shape.mw_cunits + (i.shape.ws_opt - 1))
      in_last p h its =
          let is_open : life_of log n.line ≡ Opened n = last_stands i w lossless n last in
          let at : IsAmong (stripes_of log n) p =
          in_filter (λ (y : Placed). is_life n.number y.life) (placements log) p (among_contained (placements log) p h.there)
          (ap (is_life n.number) its.life ∙ same_number n.number) in
          let j : ℕ = at.0 in
          let us : List ℕ = line_units (known_image i (log_of w)) n.line in
          let row : IsInRow i w lossless n is_open j p = in_row i w lossless n is_open j p at.1 in
          let m : ℕ = length (stripes_on log n p.stripe.unit) in
          let few : length (stripes_of log n) ≤ m * length us + j % length us = few_rows i w lossless n is_open (j % length us) p.stripe.unit row.unit in
          let here : j ≡ j / length us * length us + j % length us = sym (div-add-mod' j (length us)) in
          let blocks : landed_blocks s log n p.stripe.unit ≡ m * s.ws_opt =
          blocks_landed s log n (λ y y_its. landed y (stripe_is i w n y mount.legal last.opened y_its).0) p.stripe.unit in
          let unread : (is_closed_in s log n p.stripe.unit || nat_lt (p.stripe.at + h.index + s.mw_cunits) (landed_blocks s log n p.stripe.unit)) ≡ false =
          ap (is_readable_in s log p.stripe.unit (p.stripe.at + h.index)) (sym its.life) ∙ h.unread in
          let near : landed_blocks s log n p.stripe.unit ≤ p.stripe.at + h.index + s.mw_cunits =
          le_of_lt_false (p.stripe.at + h.index + s.mw_cunits) (landed_blocks s log n p.stripe.unit)
          (either_false (is_closed_in s log n p.stripe.unit) (nat_lt (p.stripe.at + h.index + s.mw_cunits) (landed_blocks s log n p.stripe.unit)) unread).1 in
          let at_row : p.stripe.at ≡ j / length us * s.ws_opt = row.at in
          let long : length p.stripe.blocks ≡ s.ws_opt =
          stripe_count i w n p mount.accepted mount.legal last.opened (contained_among (stripes_of log n) p at) in
          let low : h.index < length p.stripe.blocks = get_below p.stripe.blocks h.index h.block h.is_block in
          let bound : s.ws_opt * (length (stripes_of log n) - j) ≤ length us * (s.mw_cunits + (s.ws_opt - 1)) =
          row_bound (length (stripes_of log n)) j m (j / length us) (j % length us) (length us) s.ws_opt h.index s.mw_cunits few here
          (near_row (landed_blocks s log n p.stripe.unit) (m * s.ws_opt) p.stripe.at h.index s.mw_cunits (j / length us * s.ws_opt) blocks near at_row)
          (below_by low long) in
          let all_units : length us ≡ units s = line_units_count (known_image i (log_of w)) n.line ∙ wide in
          let since : placed_front s log ≤ placed_front s (take p.number log) + s.ws_opt * (length (stripes_of log n) - j) =
          placed_since i w lossless full n last j p at.1 h.there its.before in
          let was : placed_front s (take p.number log) ≤ q = not_beyond p h (above its.before) in
          joined since was (subst (λ u. s.ws_opt * (length (stripes_of log n) - j) ≤ u * (s.mw_cunits + (s.ws_opt - 1))) all_units bound)
        where
          near_row : (l m at index mw r : ℕ) → l ≡ m → l ≤ at + index + mw → at ≡ r → m ≤ r + index + mw
          near_row l m at index mw r x y z = omega (arith, x, y, z)

          below_by : {a b c : ℕ} → a < b → b ≡ c → a < c
          below_by x y = omega (arith, x, y)

          above : {a b : ℕ} → a < b → 0 < b
          above x = omega (arith, x)

          joined : {a b c d e : ℕ} → a ≤ b + c → b ≤ d → c ≤ e → a ≤ d + e
          joined x y z = omega (arith, x, y, z)

      by_opening : (p : Placed) → IsHeldIn p → (x : Opening) → IsOf i w lossless full p x
          → placed_front i.shape (log_of w 0) ≤ freed i.shape (log_of w 0) + units i.shape * (i.shape.mw_cunits + (i.shape.ws_opt - 1))
      by_opening p h x its = by (cases_order x.number n.number)
        where
          by : (x.number ≡ n.number) ⊎ ((x.number < n.number) ⊎ (n.number < x.number))
              → placed_front i.shape (log_of w 0) ≤ freed i.shape (log_of w 0) + units i.shape * (i.shape.mw_cunits + (i.shape.ws_opt - 1))
          by (inl same) = in_last p h (subst (IsOf i w lossless full p) (one_opening log x n its.opened last.opened same) its)
          by (inr (inr after)) = let few : x.number ≤ n.number = last.last x its.opened in absurd (omega arith)
          by (inr (inl older)) =
              let mine : IsAmong (stripes_of log x) p =
              in_filter (λ (y : Placed). is_life x.number y.life) (placements log) p (among_contained (placements log) p h.there)
              (ap (is_life x.number) its.life ∙ same_number x.number) in
              let closed : is_closed_in s log x p.stripe.unit ≡ true =
              closed_chunk i w lossless x its.opened (over x older) p (contained_among (stripes_of log x) p mine) in
              let unread : (is_closed_in s log x p.stripe.unit || nat_lt (p.stripe.at + h.index + s.mw_cunits) (landed_blocks s log x p.stripe.unit)) ≡ false =
              ap (is_readable_in s log p.stripe.unit (p.stripe.at + h.index)) (sym its.life) ∙ h.unread in
              absurd (not_both (is_closed_in s log x p.stripe.unit) closed
              (either_false (is_closed_in s log x p.stripe.unit) (nat_lt (p.stripe.at + h.index + s.mw_cunits) (landed_blocks s log x p.stripe.unit)) unread).0)

      go : (freed i.shape (log_of w 0) < placed_front i.shape (log_of w 0)) ⊎ (placed_front i.shape (log_of w 0) ≤ freed i.shape (log_of w 0))
          → placed_front i.shape (log_of w 0) ≤ freed i.shape (log_of w 0) + units i.shape * (i.shape.mw_cunits + (i.shape.ws_opt - 1))
      go (inr few) = longer (units s * (s.mw_cunits + (s.ws_opt - 1))) few
        where
          longer : {a b : ℕ} (c : ℕ) → a ≤ b → a ≤ b + c
          longer c x = omega (arith, x)
      go (inl below) =
          let h = held below in
          let x = of i w lossless full h.0 h.1.there in
          by_opening h.0 h.1 x.0 x.1

  pub taken_near : taken (log_of w 0) ≤ freed i.shape (log_of w 0) + units i.shape * (i.shape.mw_cunits + (i.shape.ws_opt - 1))
      + length (waiting i.shape (log_of w 0))
  taken_near =
      by (taken log) (placed_front s log) (length (waiting s log)) q (units s * (s.mw_cunits + (s.ws_opt - 1))) (taken_waits i w lossless) front_near
    where
      by : (t p n f b : ℕ) → t ≡ p + n → p ≤ f + b → t ≤ f + b + n
      by t p n f b x y = omega arith

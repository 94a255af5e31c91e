-- An opened line to which nothing more is written has no stripe left: each of its chunks is full of
-- stripes or has one that was lost, and each stripe was answered. If none was lost, all were
-- placed.
use Rattle.std.proofs.Common.{◌≡◌, ◌⊎◌, inl, inr, ℕ, ◌+◌, ◌-◌, ◌*◌, ◌/◌, ◌%◌, max, if◌then◌else◌, ◌<◌, ◌≤◌, ◌==◌, ◌&&◌, ◌||◌, suc, not, Bool, true, false, Some, None, Option, List, [], ◌∷◌, length, take, refl, sym, ap, ap₂, ◌∙◌, arith, div-add-mod', mod-lt}
use Rattle.std.specs.Prelude.{slice_get}
use Rattle.std.specs.List.{Contains, filter, filter_map, find, list_all, list_any, slice_index_or}
use Rattle.std.specs.Option.{is_some, option_and_then, option_map, option_map_or}
use Rattle.std.proofs.lemmas.Bool.{cases_lt, eqb-true}
use Rattle.std.proofs.lemmas.List.FromFn.{length-map-range_with_len}
use Rattle.std.proofs.lemmas.Nat.{div-mul-add, mod-mul-add}
use Rattle.std.proofs.lemmas.Option.{get_or_from_slice_get, same_Some, slice_get_past}
use Rattle.std.proofs.Math.Nat.{div-le_of_le-mul, lt_of_mul-lt-mul_right, mul-div_cancel, mul-le-mul_right, mul-mod_left}
use Rattle.std.proofs.Math.Seq.{take-length}
use Rattle.pblk_model.specs.declared.chunk.ChunkState.{ChunkState}
use Rattle.pblk_model.specs.declared.chunk.ChunkState.TheVariants as states
use Rattle.pblk_model.specs.Chunk.{Chunk}
use Rattle.pblk_model.specs.Image.{Image, is_online_in, line_chunks, line_units, width}
use Rattle.pblk_model.specs.LineOrder.{block_of, column_of, data_len, end_len, start_len}
use Rattle.pblk_model.proofs.LineOrderLemmas.{whole_line}
use Rattle.pblk_layout.specs.Online.{units_in}
use Rattle.pblk_laws.specs.LineBlocks.{chunk_in}
use Rattle.pblk_laws.proofs.LineUnits.{line_units_chunks, line_units_count}
use Rattle.pblk_world.specs.Events.{Logged}
use Rattle.pblk_world.specs.World.{World, Logs, log_of, media}
use Rattle.pblk_world.specs.EngineLog.{Answer, DidLand, WasLost, answer_of, answers, begun, has_failed, has_landed, is_land, is_life, is_loss, life_of, Opened, Opening, Placed, placed_on, placements, stripes_of, stripes_on, was_lost}
use Rattle.pblk_world.specs.Lines.{are_over, is_over_state, known_image, place_of}
use Rattle.pblk_world.specs.Placing.{IsNext, end_address, line_end, next_address}
use Rattle.pblk_world.specs.Space.{unplaced_in}
use Rattle.pblk_world.specs.Starts.{have_landed}
use Rattle.pblk_world.specs.Victims.{engine_prefix}
use Rattle.pblk_world.proofs.EngineLogLemmas.{begun_knows}
use Rattle.pblk_world.proofs.LinesLemmas.{length_known}
use Rattle.pblk_world.proofs.VictimsLemmas.{whole_prefix}
use Rattle.stripe_placer.specs.OpenLines.{OpenLine, has_left, in_one_chunk, is_closed, is_lost, is_to_place, is_unanswered, is_unplaced, numbers, stripe_is, unit_of}
use Rattle.line_table.specs.declared.row.LineState.TheVariants as states_of_line
use Rattle.stripe_placer.specs.OpenLines as lines
use Rattle.stripe_placer.specs.OpenLines.Stripe.{Unplaced}
use Rattle.pblk_model.proofs.Lists.{IsAmong, all_of, length_replicate}
use Rattle.pblk_model.proofs.Maps.{all_mapped, all_passed, any_fail, any_found, any_member, fewer_taken, filters_swap, found_passes, from_filter, in_filter, range_get}
use Rattle.pblk_model.proofs.Options.{some_value, split_then}
use Rattle.pblk_model.proofs.Parts.{all_at, contained_among, get_below, get_whole_within, got_within}
use Rattle.pblk_model.proofs.Tests.{and_false, both, le_true, lt_true, not_both, same_number}
use Rattle.pblk_world.specs.LegalMounts.{IsLegalMount}
use Rattle.world_laws.proofs.LifePlaces.{began, units_now}
use Rattle.world_laws.proofs.LifeUnits.{chunk_known}
use Rattle.world_laws.proofs.LineBlocks.{IsLineOf, one_address, opened_line}
use Rattle.world_laws.proofs.LineStarts.{in_order_at}
use Rattle.world_laws.proofs.LineStripes.{IsKind, failed_later, some_data, stripe_kind, turn_of_stripe}
use Rattle.world_laws.proofs.StripePlaces.{kth_place}
use Rattle.core_laws.specs.OpenedLines.{as_opened, became, bits_of, by_answer, is_stripe_at, open_line, outcome, placed_as}
use Rattle.core_laws.specs.RowsOf.{state_in}
use Rattle.core_laws.proofs.FreedWidths.{opened_width}
use Rattle.core_laws.proofs.LandedOn.{landed_on}
use Rattle.core_laws.proofs.KeptLines.{few_units, keeps_units}
use Rattle.core_laws.proofs.KnownFilling.{HasLoss, IsFilled, filled_now}
use Rattle.core_laws.proofs.OpenedRows.{has_width}
use Rattle.core_laws.proofs.OverAnswered.{over_answered}
use Rattle.core_laws.proofs.OverLines.{over_chunk}
use Rattle.core_laws.proofs.PlacedLines.{get_row}
use Rattle.core_laws.proofs.StripeEnds.{below_end, of_unit}
use Rattle.core_laws.proofs.StripesByPlace.{at_its_place}
use Rattle.core_laws.proofs.UnitBits.{bits_back}

module _ (i : Image) (w : World) (mount : IsLegalMount i w) (o : Opening) (is_open : life_of (log_of w 0) o.line ≡ Opened o) where
  abbrev log : List Logged
  log = log_of w 0

  abbrev known : Image
  known = known_image i (log_of w)

  abbrev n : ℕ
  n = i.shape.ws_opt

  -- how many stripes a chunk has
  abbrev rows : ℕ
  rows = i.shape.clba / i.shape.ws_opt

  -- the line's units, in their order
  abbrev us : List ℕ
  us = line_units (known_image i (log_of w)) o.line

  line_is : IsLineOf i w o
  line_is = opened_line i w mount o is_open

  -- ---- its units and stripes

  -- the line without stripes
  abbrev bare : OpenLine
  bare = as_opened i (log_of w) o

  pub units_are : units_in (as_opened i (log_of w) o).online ≡ line_units (known_image i (log_of w)) o.line
  units_are =
      ap (λ xs. units_in (bits_of xs)) (sym (keeps_units i w o.line o mount is_open))
      ∙ bits_back known o.line (few_units i w (log_of w) mount)

  pub wide : lines.width (as_opened i (log_of w) o) ≡ length (line_units (known_image i (log_of w)) o.line)
  wide = ap (λ (xs : List ℕ). length xs) units_are

  pub some_unit : 0 < length (line_units (known_image i (log_of w)) o.line)
  some_unit =
      let some : 0 < o.start.width =
      has_width i.shape o.start.width (lt_true 0 (data_len i.shape o.start.width) (some_data i w o mount.legal line_is.opened)) in
      let same : o.start.width ≡ width known o.line = opened_width i w mount o.line o is_open in
      let count : length us ≡ width known o.line = line_units_count known o.line in
      omega arith

  pub count : length (as_opened i (log_of w) o).stripes ≡ length (line_units (known_image i (log_of w)) o.line) * (i.shape.clba / i.shape.ws_opt)
  count = length_replicate (lines.width bare * rows) Unplaced ∙ ap (λ g. g * rows) wide

  pub whole_rows : i.shape.clba ≡ i.shape.clba / i.shape.ws_opt * i.shape.ws_opt
  whole_rows = let none_over : i.shape.clba % i.shape.ws_opt ≡ 0 = mount.accepted.drive.whole_stripes in
      omega (arith, div-add-mod' i.shape.clba i.shape.ws_opt)

  -- the k-th stripe on the c-th unit is at its place in the line
  pub at_place : (k c unit : ℕ) (p : Placed) → slice_get (line_units (known_image i (log_of w)) o.line) c ≡ Some unit
      → slice_get (stripes_on (log_of w 0) o unit) k ≡ Some p
      → is_stripe_at i.shape (as_opened i (log_of w) o) p.stripe.unit p.stripe.at (k * length (line_units (known_image i (log_of w)) o.line) + c) ≡ true
  at_place k c unit p its there =
      let inside : c < length us = get_below us c unit its in
      at_its_place i.shape bare p.stripe.unit p.stripe.at (k * length us + c)
      (ap₂ (λ (xs : List ℕ) g. slice_index_or xs ((k * length us + c) % g) 0) units_are wide
      ∙ ap (λ m. slice_index_or us m 0) (mod-mul-add k (length us) c inside) ∙ get_or_from_slice_get us c unit 0 its
      ∙ sym (of_unit i w mount o is_open unit p (k, there)).1)
      (ap (λ g. (k * length us + c) / g * n) wide ∙ ap (λ m. m * n) (div-mul-add k (length us) c inside)
      ∙ sym (kth_place i w o unit k p mount line_is.opened there))

  -- two stripes at one place are one
  pub one_there : (unit j k : ℕ) (q p : Placed) → slice_get (stripes_on (log_of w 0) o unit) j ≡ Some q
      → slice_get (stripes_on (log_of w 0) o unit) k ≡ Some p → q.stripe.at ≡ p.stripe.at → q ≡ p
  one_there unit j k q p a b same =
      let first : q.stripe.at ≡ j * n = kth_place i w o unit j q mount line_is.opened a in
      let second : p.stripe.at ≡ k * n = kth_place i w o unit k p mount line_is.opened b in
      let product : j * n ≡ k * n = omega arith in
      let some : 0 < n = mount.accepted.drive.ws_opt in
      let one : j ≡ k = sym (mul-div_cancel j {n = n} some) ∙ ap (λ m. m / n) product ∙ mul-div_cancel k {n = n} some in
      same_Some q p (sym a ∙ ap (slice_get (stripes_on log o unit)) one ∙ b)

  pub on_its_unit : (q : Placed) → IsAmong (stripes_of (log_of w 0) o) q → IsAmong (stripes_on (log_of w 0) o q.stripe.unit) q
  on_its_unit q at = in_filter (λ (x : Placed). x.stripe.unit == q.stripe.unit) (stripes_of log o) q at (same_number q.stripe.unit)

  -- a stripe is the one of its number
  placed_there : (j unit k : ℕ) (p : Placed) → slice_get (stripes_on (log_of w 0) o unit) k ≡ Some p
      → is_stripe_at i.shape (as_opened i (log_of w) o) p.stripe.unit p.stripe.at j ≡ true
      → placed_as i.shape (log_of w 0) o (as_opened i (log_of w) o) j ≡ Some p
  placed_there j unit k p there at =
      let mine = of_unit i w mount o is_open unit p (k, there) in
      let among = from_filter (λ (x : Placed). x.stripe.unit == unit) (stripes_of log o) p (k, there) in
      let test : Placed → Bool = λ (q : Placed). is_stripe_at i.shape bare q.stripe.unit q.stripe.at j in
      let found = some_value (find test (stripes_of log o))
      (sym (any_found test (stripes_of log o)) ∙ any_member test (stripes_of log o) among.0 p among.1 at) in
      let passes = found_passes test (stripes_of log o) found.0 found.1 in
      let a = both (unit_of bare j == found.0.stripe.unit) (j / lines.width bare * n == found.0.stripe.at) passes.0 in
      let b = both (unit_of bare j == p.stripe.unit) (j / lines.width bare * n == p.stripe.at) at in
      let same_unit : found.0.stripe.unit ≡ p.stripe.unit =
      sym (eqb-true (unit_of bare j) found.0.stripe.unit a.0) ∙ eqb-true (unit_of bare j) p.stripe.unit b.0 in
      let same_at : found.0.stripe.at ≡ p.stripe.at =
      sym (eqb-true (j / lines.width bare * n) found.0.stripe.at a.1) ∙ eqb-true (j / lines.width bare * n) p.stripe.at b.1 in
      let on = on_its_unit found.0 passes.1 in
      let here : slice_get (stripes_on log o unit) on.0 ≡ Some found.0 =
      ap (λ u. slice_get (stripes_on log o u) on.0) (sym (same_unit ∙ mine.1)) ∙ on.1 in
      found.1 ∙ ap Some (one_there unit on.0 k found.0 p here there same_at)

  -- ---- what became of its stripes

  pub became_of : (j unit k : ℕ) (p : Placed) → slice_get (stripes_on (log_of w 0) o unit) k ≡ Some p
      → is_stripe_at i.shape (as_opened i (log_of w) o) p.stripe.unit p.stripe.at j ≡ true
      → outcome i.shape (log_of w 0) o (as_opened i (log_of w) o) j ≡ by_answer (answer_of (log_of w 0) p)
  became_of j unit k p there at = ap (became log) (placed_there j unit k p there at)

  abbrev line_now : OpenLine
  line_now = open_line i (log_of w) o

  pub all_numbers : length (open_line i (log_of w) o).stripes ≡ length (line_units (known_image i (log_of w)) o.line) * (i.shape.clba / i.shape.ws_opt)
  all_numbers = length-map-range_with_len (outcome i.shape log o bare) 0 (length bare.stripes) ∙ count

  pub stripe_now : (test : lines.Stripe → Bool) (j : ℕ) → j < length (line_units (known_image i (log_of w)) o.line) * (i.shape.clba / i.shape.ws_opt)
      → stripe_is (open_line i (log_of w) o) test j ≡ test (outcome i.shape (log_of w 0) o (as_opened i (log_of w) o) j)
  stripe_now test j inside =
      let first : 0 + j ≡ j = omega arith in
      let all : length bare.stripes ≡ length us * rows = count in
      ap (λ (x : Option lines.Stripe). option_map_or test x false)
      (get_row (outcome i.shape log o bare) (length bare.stripes) 0 j (omega arith) ∙ ap (λ m. Some (outcome i.shape log o bare m)) first)

  -- ---- a chunk of which a stripe was lost

  lost_by : (a : Option Answer) → is_loss a ≡ true → is_lost (by_answer a) ≡ true
  lost_by None e = absurd cc
  lost_by (Some (DidLand x)) e = absurd cc
  lost_by (Some (WasLost x)) e = refl

  -- that stripe by its number
  pub lost_number : (c unit m : ℕ) (p : Placed) → slice_get (line_units (known_image i (log_of w)) o.line) c ≡ Some unit
      → slice_get (stripes_on (log_of w 0) o unit) m ≡ Some p → was_lost (log_of w 0) p ≡ true
      → (m * length (line_units (known_image i (log_of w)) o.line) + c
      < length (line_units (known_image i (log_of w)) o.line) * (i.shape.clba / i.shape.ws_opt))
      × (stripe_is (open_line i (log_of w) o) is_lost (m * length (line_units (known_image i (log_of w)) o.line) + c) ≡ true)
  lost_number c unit m p its there lost =
      let c_low : c < length us = get_below us c unit its in
      let other : ℕ = m * length us + c in
      let at : is_stripe_at i.shape bare p.stripe.unit p.stripe.at other ≡ true = at_place m c unit p its there in
      let place : p.stripe.at ≡ m * n = kth_place i w o unit m p mount line_is.opened there in
      let low : p.stripe.at < i.shape.clba = below_end i w mount o is_open unit m p there in
      let m_low : m < rows = lt_of_mul-lt-mul_right n (omega (arith, whole_rows)) in
      let fits : suc m * length us ≤ rows * length us = mul-le-mul_right (length us) (omega arith) in
      let more : suc m * length us ≡ m * length us + length us = omega arith in
      let turned : length us * rows ≡ rows * length us = omega arith in
      let within : other < length us * rows = omega (arith, c_low) in (
        within,
        stripe_now is_lost other within ∙ ap is_lost (became_of other unit m p there at) ∙ lost_by (answer_of log p) lost,
      )

  pub closed_by_loss : (c unit j : ℕ) → slice_get (line_units (known_image i (log_of w)) o.line) c ≡ Some unit
      → j % length (line_units (known_image i (log_of w)) o.line) ≡ c → list_any (was_lost (log_of w 0)) (stripes_on (log_of w 0) o unit) ≡ true
      → is_closed (open_line i (log_of w) o) j ≡ true
  closed_by_loss c unit j its column loss =
      let lost = some_value (find (was_lost log) (stripes_on log o unit)) (sym (any_found (was_lost log) (stripes_on log o unit)) ∙ loss) in
      let passes = found_passes (was_lost log) (stripes_on log o unit) lost.0 lost.1 in
      let m : ℕ = passes.1.0 in
      let other : ℕ = m * length us + c in
      let is = lost_number c unit m lost.0 its passes.1.1 passes.0 in
      let within : other < length us * rows = is.0 in
      let one_chunk : in_one_chunk line_now other j ≡ true =
      ap (λ g. (other % g) == (j % g)) wide
      ∙ ap₂ (λ x y. x == y) (mod-mul-add m (length us) c (get_below us c unit its)) column ∙ same_number c in
      let first : 0 + other ≡ other = omega arith in
      let there : slice_get (numbers line_now) other ≡ Some other =
      range_get 0 (length line_now.stripes) other (let all : length line_now.stripes ≡ length us * rows = all_numbers in omega arith)
      ∙ ap (λ x. Some x) first in
      any_member (λ x. stripe_is line_now is_lost x && in_one_chunk line_now x j) (numbers line_now) other other there
      (ap₂ (λ a b. a && b) is.1 one_chunk)

  -- ---- where each stripe is answered, none of them waits

  pub none_unanswered : ((p : Placed) → Contains (stripes_of (log_of w 0) o) p → is_some (answer_of (log_of w 0) p) ≡ true)
      → list_any is_unanswered (open_line i (log_of w) o).stripes ≡ false
  none_unanswered all = any_fail is_unanswered line_now.stripes (all_mapped (λ (x : lines.Stripe). is_unanswered x ≡ false) (outcome i.shape log o bare)
      (numbers bare) (all_of (λ j. is_unanswered (outcome i.shape log o bare j) ≡ false) (λ j. go j (placed_as i.shape log o bare j) refl) (numbers bare)))
    where
      answered : (a : Option Answer) → is_some a ≡ true → is_unanswered (by_answer a) ≡ false
      answered None e = absurd cc
      answered (Some (DidLand x)) e = refl
      answered (Some (WasLost x)) e = refl

      go : (j : ℕ) (x : Option Placed) → placed_as i.shape (log_of w 0) o (as_opened i (log_of w) o) j ≡ x → is_unanswered (became (log_of w 0) x) ≡ false
      go j None e = refl
      go j (Some p) e =
          let passes = found_passes (λ (q : Placed). is_stripe_at i.shape bare q.stripe.unit q.stripe.at j) (stripes_of log o) p e in
          answered (answer_of log p) (all p (contained_among (stripes_of log o) p passes.1))

  -- ---- nothing more is written

  module _ (over : are_over i (log_of w) o.line ≡ true) where
    -- its c-th chunk is full of stripes, or one in it was lost
    abbrev IsDone : ℕ → Type 0
    IsDone unit = (i.shape.clba ≤ length (stripes_on (log_of w 0) o unit) * i.shape.ws_opt) ⊎ HasLoss (log_of w 0) o unit

    pub is_done : (c unit : ℕ) → slice_get (line_units (known_image i (log_of w)) o.line) c ≡ Some unit → IsDone unit
    is_done c unit there =
        let inside : c < length us = get_below us c unit there in
        let count : length us ≡ length (line_chunks known o.line) = line_units_count known o.line in
        let at = got_within (line_chunks known o.line) c (omega arith) in
        let chunk : chunk_in known o.line unit ≡ Some at.0 =
        ap (option_and_then (chunk_in known o.line)) (sym there) ∙ sym (line_units_chunks known o.line c) ∙ at.1 in
        let online : is_online_in at.0.state ≡ true =
        all_at (λ (x : Chunk). is_online_in x.state ≡ true) (line_chunks known o.line) c at.0 at.1
        (all_passed (λ (x : Chunk). is_online_in x.state) (filter_map (λ u. slice_get u o.line) known.units)) in
        let closed : at.0.state ≡ states.Closed = only_closed at.0.state (over_chunk i w mount o is_open over unit at.0 chunk) online in
        let its_units = split_then (λ (cs : List Chunk). slice_get cs o.line) (slice_get known.units unit) at.0 chunk in
        let below : unit < length known.units = get_below known.units unit its_units.0 its_units.1 in
        let same_count : length known.units ≡ length i.units = length_known i (log_of w) in
        let has = got_within i.units unit (omega arith) in
        let b = began i w o.line o mount.legal is_open in
        let some : 0 < length log = begun_knows (length log) log b.0 (ap begun (take-length log) ∙ b.1) in
        let filled : IsFilled i.shape log o unit at.0 = filled_now i w mount o is_open unit has.0 has.1 at.0
        (sym (chunk_known i w mount.legal b.0 b.1 unit o.line has.0 has.1 (length log) some)
        ∙ ap (λ (logs : Logs). chunk_in (known_image i logs) o.line unit) (whole_prefix (log_of w)) ∙ chunk) in
        by at.0 (filled.closed closed) filled.blocks
      where
        only_closed : (state : ChunkState) → is_over_state false state ≡ true → is_online_in state ≡ true → state ≡ states.Closed
        only_closed states.Free a b = absurd cc
        only_closed states.Open a b = absurd cc
        only_closed states.Closed a b = refl
        only_closed states.Offline a b = absurd cc

        by : (c : Chunk) → (i.shape.clba ≤ length c.blocks) ⊎ HasLoss (log_of w 0) o unit
            → length c.blocks ≤ length (landed_on (log_of w 0) o unit) * i.shape.ws_opt → IsDone unit
        by c (inr loss) few = inr loss
        by c (inl full) few =
            let mine : Placed → Bool = λ (p : Placed). is_life o.number p.life in
            let less : length (landed_on log o unit) ≤ length (filter mine (placed_on log unit)) =
            fewer_taken mine (length (answers log unit)) (placed_on log unit) in
            let swapped : length (filter mine (placed_on log unit)) ≡ length (stripes_on log o unit) =
            ap length (filters_swap mine (λ (p : Placed). p.stripe.unit == unit) (placements log)) in
            let times : length (landed_on log o unit) * n ≤ length (stripes_on log o unit) * n = mul-le-mul_right n (omega arith) in
            inl (omega (arith, full, few))

    -- ---- none is to be placed

    none_placed : (j : ℕ) → is_to_place (open_line i (log_of w) o) j ≡ false
    none_placed j = go (cases_lt j (length us * rows))
      where
        go : (j < length (line_units (known_image i (log_of w)) o.line) * (i.shape.clba / i.shape.ws_opt))
            ⊎ (length (line_units (known_image i (log_of w)) o.line) * (i.shape.clba / i.shape.ws_opt) ≤ j)
            → is_to_place (open_line i (log_of w) o) j ≡ false
        go (inr past) =
            let all : length line_now.stripes ≡ length us * rows = all_numbers in
            ap (λ (x : Option lines.Stripe). option_map_or is_unplaced x false && not (is_closed line_now j))
            (slice_get_past line_now.stripes j (omega arith))
        go (inl inside) = by (is_done c unit.0 unit.1)
          where
            c : ℕ
            c = j % length (line_units (known_image i (log_of w)) o.line)

            k : ℕ
            k = j / length (line_units (known_image i (log_of w)) o.line)

            c_low : j % length (line_units (known_image i (log_of w)) o.line) < length (line_units (known_image i (log_of w)) o.line)
            c_low = mod-lt j some_unit

            unit : (u : ℕ) × (slice_get (line_units (known_image i (log_of w)) o.line) (j % length (line_units (known_image i (log_of w)) o.line)) ≡ Some u)
            unit = got_within us (j % length us) c_low

            parts : j / length (line_units (known_image i (log_of w)) o.line) * length (line_units (known_image i (log_of w)) o.line)
                + j % length (line_units (known_image i (log_of w)) o.line) ≡ j
            parts = div-add-mod' j (length us)

            k_low : j / length (line_units (known_image i (log_of w)) o.line) < i.shape.clba / i.shape.ws_opt
            k_low = lt_of_mul-lt-mul_right (length us) (let turned : length us * rows ≡ rows * length us = omega arith in omega (arith, parts, inside))

            placed_now : (a : Option Answer) → is_unplaced (by_answer a) ≡ false
            placed_now None = refl
            placed_now (Some (DidLand x)) = refl
            placed_now (Some (WasLost x)) = refl

            by : IsDone unit.0 → is_to_place (open_line i (log_of w) o) j ≡ false
            by (inl full) =
                let some : 0 < n = mount.accepted.drive.ws_opt in
                let fits : suc k * n ≤ rows * n = mul-le-mul_right n (omega (arith, k_low)) in
                let more : suc k * n ≡ k * n + n = omega arith in
                let within : k < length (stripes_on log o unit.0) = lt_of_mul-lt-mul_right n (omega (arith, whole_rows, full)) in
                let p = got_within (stripes_on log o unit.0) k within in
                let at : is_stripe_at i.shape bare p.0.stripe.unit p.0.stripe.at j ≡ true =
                ap (is_stripe_at i.shape bare p.0.stripe.unit p.0.stripe.at) (sym parts) ∙ at_place k c unit.0 p.0 unit.1 p.1 in
                ap (λ b. b && not (is_closed line_now j))
                (stripe_now is_unplaced j inside ∙ ap is_unplaced (became_of j unit.0 k p.0 p.1 at) ∙ placed_now (answer_of log p.0))
            by (inr loss) =
                and_false (stripe_is line_now is_unplaced j) (not (is_closed line_now j)) (ap not (closed_by_loss c unit.0 j unit.1 refl loss))

    pub none_left : has_left (open_line i (log_of w) o) ≡ false
    none_left =
        ap₂ (λ a b. a || b)
        (any_fail (is_to_place line_now) (numbers line_now) (all_of (λ j. is_to_place line_now j ≡ false) none_placed (numbers line_now)))
        (none_unanswered (over_answered i w mount o is_open over))

    -- ---- where none was lost, all were placed

    module _ (kept : has_failed (log_of w 0) o ≡ false) where
      -- so each chunk is full
      full_unit : (c unit : ℕ) → slice_get (line_units (known_image i (log_of w)) o.line) c ≡ Some unit
          → i.shape.clba ≤ length (stripes_on (log_of w 0) o unit) * i.shape.ws_opt
      full_unit c unit there = by (is_done c unit there)
        where
          by : IsDone unit → i.shape.clba ≤ length (stripes_on (log_of w 0) o unit) * i.shape.ws_opt
          by (inl full) = full
          by (inr loss) =
              let lost = some_value (find (was_lost log) (stripes_on log o unit)) (sym (any_found (was_lost log) (stripes_on log o unit)) ∙ loss) in
              let passes = found_passes (was_lost log) (stripes_on log o unit) lost.0 lost.1 in
              let among = from_filter (λ (x : Placed). x.stripe.unit == unit) (stripes_of log o) lost.0 passes.1 in
              absurd (not_both (has_failed log o) (any_member (was_lost log) (stripes_of log o) among.0 lost.0 among.1 passes.0) kept)

      -- a stripe stands at the address of its number
      in_order : (x : ℕ) (p : Placed) → slice_get (stripes_of (log_of w 0) o) x ≡ Some p
          → place_of (media i (log_of w)) o.line (x * i.shape.ws_opt + 0) ≡ Some (p.stripe.unit, p.stripe.at + 0)
      in_order x p there = go (stripe_kind i w o p mount.legal line_is.opened among)
        where
          among : Contains (stripes_of (log_of w 0) o) p
          among = contained_among (stripes_of log o) p (x, there)

          next : IsNext i (engine_prefix p.number (log_of w)) o p.stripe
              → place_of (media i (log_of w)) o.line (x * i.shape.ws_opt + 0) ≡ Some (p.stripe.unit, p.stripe.at + 0)
          next is = ap (λ m. place_of (media i (log_of w)) o.line (m * n + 0)) (sym (turn_of_stripe log o x p there))
              ∙ in_order_at i w mount o line_is p 0 among is mount.accepted.drive.ws_opt

          go : IsKind i (engine_prefix p.number (log_of w)) o p.stripe
              → place_of (media i (log_of w)) o.line (x * i.shape.ws_opt + 0) ≡ Some (p.stripe.unit, p.stripe.at + 0)
          go (inl is) = next is.next
          go (inr (inl is)) = next is.next
          go (inr (inr (inl is))) = next is.next
          go (inr (inr (inr is))) = absurd (not_both (has_failed log o) (failed_later log o p.number is.failed) kept)

      all_stripes : length (line_units (known_image i (log_of w)) o.line) * (i.shape.clba / i.shape.ws_opt) ≤ length (stripes_of (log_of w 0) o)
      all_stripes = go (cases_lt (length (stripes_of log o)) (length us * rows))
        where
          m : ℕ
          m = length (stripes_of (log_of w 0) o)

          go : (length (stripes_of (log_of w 0) o) < length (line_units (known_image i (log_of w)) o.line) * (i.shape.clba / i.shape.ws_opt))
              ⊎ (length (line_units (known_image i (log_of w)) o.line) * (i.shape.clba / i.shape.ws_opt) ≤ length (stripes_of (log_of w 0) o))
              → length (line_units (known_image i (log_of w)) o.line) * (i.shape.clba / i.shape.ws_opt) ≤ length (stripes_of (log_of w 0) o)
          go (inr enough) = enough
          go (inl few) =
              let now : Image = media i (log_of w) in
              let g : ℕ = length us in
              let some : 0 < n = mount.accepted.drive.ws_opt in
              let low : m % g < g = mod-lt m some_unit in
              let unit = got_within us (m % g) low in
              let parts : m / g * g + m % g ≡ m = div-add-mod' m g in
              let turned : g * rows ≡ rows * g = omega arith in
              let k_low : m / g < rows = lt_of_mul-lt-mul_right g (omega (arith, parts, few)) in
              let full : i.shape.clba ≤ length (stripes_on log o unit.0) * n = full_unit (m % g) unit.0 unit.1 in
              let fits : suc (m / g) * n ≤ rows * n = mul-le-mul_right n (omega (arith, k_low)) in
              let more : suc (m / g) * n ≡ m / g * n + n = omega arith in
              let within : m / g < length (stripes_on log o unit.0) = lt_of_mul-lt-mul_right n (omega (arith, whole_rows, full)) in
              let p = got_within (stripes_on log o unit.0) (m / g) within in
              let mine = of_unit i w mount o is_open unit.0 p.0 (m / g, p.1) in
              let at : p.0.stripe.at ≡ m / g * n = kth_place i w o unit.0 (m / g) p.0 mount line_is.opened p.1 in
              let among = from_filter (λ (x : Placed). x.stripe.unit == unit.0) (stripes_of log o) p.0 (m / g, p.1) in
              let below : among.0 < m = get_below (stripes_of log o) among.0 p.0 among.1 in
              let same_units : us ≡ line_units now o.line = units_now i w mount o is_open in
              let wide_now : width now o.line ≡ g = sym (line_units_count now o.line) ∙ ap length (sym same_units) in
              let none_over : m * n % n ≡ 0 = mul-mod_left m n in
              let place : place_of now o.line (m * n) ≡ Some (p.0.stripe.unit, p.0.stripe.at + 0) =
              ap₂ (λ h (xs : List ℕ). option_map (λ u. (u, block_of i.shape h (m * n))) (slice_get xs (column_of i.shape h (m * n)))) wide_now (sym same_units)
              ∙ ap (λ q. option_map (λ u. (u, q / g * n + m * n % n)) (slice_get us (q % g))) (mul-div_cancel m {n = n} some)
              ∙ ap (λ (x : Option ℕ). option_map (λ u. (u, m / g * n + m * n % n)) x) unit.1
              ∙ ap₂ (λ a b. Some (a, b)) (sym mine.1) (omega (arith, at, none_over)) in
              let one : among.0 * n + 0 ≡ m * n = one_address now o.line (among.0 * n + 0) (m * n) p.0.stripe.unit (p.0.stripe.at + 0) some
              (in_order among.0 p.0 among.1) place in
              let plain : among.0 * n ≡ m * n = omega (arith, one) in
              let same : among.0 ≡ m = sym (mul-div_cancel among.0 {n = n} some) ∙ ap (λ x. x / n) plain ∙ mul-div_cancel m {n = n} some in
              absurd (omega (arith, below))

      pub all_placed : line_end i.shape o ≤ next_address i.shape (log_of w 0) o
      all_placed =
          let enough : length us * rows ≤ length (stripes_of log o) = all_stripes in
          let times : length us * rows * n ≤ length (stripes_of log o) * n = mul-le-mul_right n enough in
          let wide_is : o.start.width ≡ length us = opened_width i w mount o.line o is_open ∙ sym (line_units_count known o.line) in
          let whole : o.start.width * i.shape.clba ≡ length us * rows * n =
          ap₂ (λ g c. g * c) wide_is whole_rows ∙ (let turned : length us * (rows * n) ≡ length us * rows * n = omega arith in turned) in
          omega (arith, times, whole)

    -- ---- what follows of the line

    pub none_unplaced : unplaced_in i.shape (log_of w 0) (Opened o) ≡ 0
    none_unplaced = go (has_failed log o) refl
      where
        go : (b : Bool) → has_failed (log_of w 0) o ≡ b
            → (if b then 0 else end_address i.shape o - max (start_len i.shape) (next_address i.shape (log_of w 0) o)) ≡ 0
        go true e = refl
        go false e =
            let placed : o.start.width * i.shape.clba ≤ next_address i.shape log o = all_placed e in
            let all : start_len i.shape + data_len i.shape o.start.width + end_len i.shape o.start.width ≡ o.start.width * i.shape.clba =
            whole_line i.shape o.start.width (some_data i w o mount.legal line_is.opened) in
            omega (arith, placed, all)

    pub full_or_failed : (state_in i (log_of w) o.line (Opened o) ≡ states_of_line.Full) ⊎ (state_in i (log_of w) o.line (Opened o) ≡ states_of_line.Failed)
    full_or_failed = go (has_failed log o) refl
      where
        landed : (a : Option Answer) → is_some a ≡ true → is_loss a ≡ false → is_land a ≡ true
        landed None e f = absurd cc
        landed (Some (DidLand x)) e f = refl
        landed (Some (WasLost x)) e f = absurd cc

        all_true : {X : Type 0} (f : X → Bool) (xs : List X) → ((k : ℕ) (x : X) → slice_get xs k ≡ Some x → f x ≡ true) → list_all f xs ≡ true
        all_true f [] each = refl
        all_true f (x ∷ xs) each = ap₂ (λ a b. a && b) (each 0 x refl) (all_true f xs (λ k y at. each (suc k) y at))

        go : (b : Bool) → has_failed (log_of w 0) o ≡ b
            → (state_in i (log_of w) o.line (Opened o) ≡ states_of_line.Full) ⊎ (state_in i (log_of w) o.line (Opened o) ≡ states_of_line.Failed)
        go true e = inr (ap (λ b. if b then states_of_line.Failed
            else if have_landed log o (line_end i.shape o / n) then states_of_line.Full else states_of_line.Open) e)
        go false e =
            let placed : line_end i.shape o ≤ length (stripes_of log o) * n = all_placed e in
            let less : line_end i.shape o / n ≤ length (stripes_of log o) =
            div-le_of_le-mul n (let turned : n * length (stripes_of log o) ≡ length (stripes_of log o) * n = omega arith in omega (arith, placed)) in
            let each : list_all (has_landed log) (take (line_end i.shape o / n) (stripes_of log o)) ≡ true =
            all_true (has_landed log) (take (line_end i.shape o / n) (stripes_of log o)) (λ k q at.
            let there = (get_whole_within (line_end i.shape o / n) (stripes_of log o) k q at).0 in
            landed (answer_of log q) (over_answered i w mount o is_open over q (contained_among (stripes_of log o) q (k, there)))
            (none_lost k q there e)) in
            inl (ap₂ (λ a b. if a then states_of_line.Failed else if b then states_of_line.Full else states_of_line.Open) e
            (ap₂ (λ a b. a && b) (le_true (line_end i.shape o / n) (length (stripes_of log o)) less) each))
          where
            none_lost : (k : ℕ) (q : Placed) → slice_get (stripes_of (log_of w 0) o) k ≡ Some q → has_failed (log_of w 0) o ≡ false
                → was_lost (log_of w 0) q ≡ false
            none_lost k q there none = by (was_lost log q) refl
              where
                by : (t : Bool) → was_lost (log_of w 0) q ≡ t → t ≡ false
                by false f = refl
                by true f = absurd (not_both (has_failed log o) (any_member (was_lost log) (stripes_of log o) k q there f) none)

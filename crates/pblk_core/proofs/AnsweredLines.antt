-- What an answer of a stripe makes of the open lines: it has landed, or was lost.
use Rattle.std.proofs.Common.{◌≡◌, ◌⊎◌, inl, inr, ℕ, ◌+◌, ◌-◌, ◌*◌, ◌/◌, ◌%◌, ◌<◌, ◌≤◌, ◌&&◌, ◌||◌, not, true, false, Some, None, Option, List, [], length, refl, sym, subst, ap, ap₂, ◌∙◌, arith, div-add-mod'}
use Rattle.std.specs.Prelude.{slice_get}
use Rattle.std.specs.List.{filter, list_any}
use Rattle.std.proofs.Math.Nat.{lt_of_mul-lt-mul_right, mul-div_cancel}
use Rattle.pblk_model.specs.Image.{Image, line_units}
use Rattle.pblk_world.specs.Events.{EngineEvent, Landed, Decides, Logged}
use Rattle.pblk_world.specs.World.{World, Logs, log_of}
use Rattle.pblk_world.specs.EngineLog.{Answer, DidLand, WasLost, answer_of, has_landed, is_land, is_life, was_lost, Opening, Placed, placements, stripes_on}
use Rattle.pblk_world.specs.Lines.{known_image}
use Rattle.stripe_placer.specs.OpenLines.{OpenLine, has_left, in_line, is_closed, is_unanswered, is_unplaced, width, with_stripe}
use Rattle.stripe_placer.specs.OpenLines.Stripe.{Unplaced, Lost as WasIt}
use Rattle.stripe_placer.specs.Placing.{Program}
use Rattle.core_laws.specs.LeftOpenings.{left_openings}
use Rattle.core_laws.specs.OpenedLines.{as_opened, became, by_answer, is_stripe_at, open_line, opened_units, outcome, placed_as, standing}
use Rattle.core_laws.specs.PlacerOf.{IsAwaited}
use Rattle.core_laws.specs.Stepping.{after}
use Rattle.pblk_world.specs.LegalMounts.{IsLegalMount}
use Rattle.world_laws.proofs.StripePlaces.{kth_place}
use Rattle.core_laws.proofs.Answered.{IsAnswer, answered_at, line_answered}
use Rattle.core_laws.proofs.ChunksInRows.{rows_of_chunks}
use Rattle.core_laws.proofs.DoneLines.{all_numbers, at_place, became_of, on_its_unit, stripe_now, whole_rows, wide}
use Rattle.core_laws.proofs.Engine.{prefix_same}
use Rattle.core_laws.proofs.GivenBack.{IsLandedNow, of_unit_landed}
use Rattle.core_laws.proofs.GivenNow.{IsOfChunk, chunk_life, chunk_members, chunk_unit}
use Rattle.core_laws.proofs.LandedNow.{opened_now}
use Rattle.core_laws.proofs.LandedWindow.{landed_now}
use Rattle.core_laws.proofs.LeftLines.{left_landed, left_lost}
use Rattle.core_laws.proofs.NewBlocks.{last_in_chunk}
use Rattle.core_laws.proofs.NotedAnswers.{answer_is, noting}
use Rattle.core_laws.proofs.NewWindow.{newest_in}
use Rattle.core_laws.proofs.OpenWhileLeft.{IsOfNumber, not_closed, of_number, unit_in}
use Rattle.core_laws.proofs.OverAnswered.{none_lost_there}
use Rattle.core_laws.proofs.PlacedLines.{IsStanding, all_standing, get_row}
use Rattle.pblk_model.proofs.Lists.{IsAmong}
use Rattle.pblk_model.proofs.Maps.{from_filter}
use Rattle.pblk_model.proofs.Parts.{all_at, get_below, got_within}
use Rattle.pblk_core.specs.LineRecords.{AreRecordsOf, RecordsView}
use Rattle.pblk_core.specs.Stands.{is_left, stripes_left}
use Rattle.pblk_core.proofs.AnsweredOpen.{IsAnswered, has_more}
use Rattle.pblk_core.proofs.LandedWay.{IsOnWay, unit_is, waits_there}
use Rattle.pblk_core.proofs.LineCounts as counts
use Rattle.pblk_core.proofs.WholeMarks.{records_kept}

module _ (i : Image) (w : World) (mount : IsLegalMount i w) (unit : ℕ) (of : Program) (is : IsOnWay i w unit of) where
  abbrev log : List Logged
  log = log_of w 0

  abbrev o : Opening
  o = is.row.opening

  abbrev p : Placed
  p = is.row.stripe

  abbrev us : List ℕ
  us = line_units (known_image i (log_of w)) is.row.opening.line

  abbrev g : ℕ
  g = length (line_units (known_image i (log_of w)) is.row.opening.line)

  abbrev rows : ℕ
  rows = i.shape.clba / i.shape.ws_opt

  abbrev line_now : OpenLine
  line_now = open_line i (log_of w) is.row.opening

  some : 0 < i.shape.ws_opt
  some = mount.accepted.drive.ws_opt

  -- ---- its chunk

  wide_is : width (open_line i (log_of w) is.row.opening) ≡ length (line_units (known_image i (log_of w)) is.row.opening.line)
  wide_is = wide i w mount is.row.opening is.is_open

  pub all : length (open_line i (log_of w) is.row.opening).stripes
      ≡ width (open_line i (log_of w) is.row.opening) * (i.shape.clba / i.shape.ws_opt)
  all = all_numbers i w mount is.row.opening is.is_open ∙ ap (λ n. n * rows) (sym wide_is)

  record IsInChunk : Type 0 where
    row : ℕ
    there : slice_get (stripes_on (log_of w 0) is.row.opening is.row.stripe.stripe.unit) row ≡ Some is.row.stripe
    last : length (stripes_on (log_of w 0) is.row.opening is.row.stripe.stripe.unit) ≤ row + 1
    number : is.number / length (line_units (known_image i (log_of w)) is.row.opening.line) ≡ row
    low : is.number < length (line_units (known_image i (log_of w)) is.row.opening.line) * (i.shape.clba / i.shape.ws_opt)
    some_units : 0 < length (line_units (known_image i (log_of w)) is.row.opening.line)

  in_chunk : IsInChunk
  in_chunk =
      let on = on_its_unit i w mount o is.is_open p is.among in
      let at : p.stripe.at ≡ on.0 * i.shape.ws_opt = kth_place i w o p.stripe.unit on.0 p mount (opened_now i w mount o.line o is.is_open).0 on.1 in
      let count : length (as_opened i (log_of w) o).stripes ≡ g * rows = is.line_is.count in
      let within : is.number < length (as_opened i (log_of w) o).stripes = is.inside in
      let low : is.number < g * rows = omega arith in
      record {
        row = on.0;
        there = on.1;
        last = last_in_chunk log p o on.0 (newest_in i w unit p mount.legal is.row.waits) on.1;
        number = sym (mul-div_cancel (is.number / g) {n = i.shape.ws_opt} some) ∙ ap (λ n. n / i.shape.ws_opt) (sym is.begins ∙ at)
            ∙ mul-div_cancel on.0 {n = i.shape.ws_opt} some;
        low = low;
        some_units = is.line_is.striped.wide;
      }

  -- a number in its column
  module _ (m : ℕ) (low : m < length (line_units (known_image i (log_of w)) is.row.opening.line) * (i.shape.clba / i.shape.ws_opt))
      (column : m % length (line_units (known_image i (log_of w)) is.row.opening.line)
      ≡ is.number % length (line_units (known_image i (log_of w)) is.row.opening.line)) where
    its : slice_get (line_units (known_image i (log_of w)) is.row.opening.line) (m % length (line_units (known_image i (log_of w)) is.row.opening.line))
        ≡ Some is.row.stripe.stripe.unit
    its = ap (slice_get us) column ∙ is.column

    parts : m / g * g + m % g ≡ m
    parts = div-add-mod' m g

    own_parts : is.number / g * g + is.number % g ≡ is.number
    own_parts = div-add-mod' is.number g

    unclosed : is_closed (open_line i (log_of w) is.row.opening) m ≡ false
    unclosed = not_closed i w mount o is.is_open (m % g) p.stripe.unit its
        (subst (λ u. list_any (was_lost log) (stripes_on log o u) ≡ false) (sym is.its_unit) (none_lost_there i w unit p o mount is.row.waits is.row.life))
        m low refl

    -- those before it in the chunk have landed
    landed_before : m < is.number → is_left (open_line i (log_of w) is.row.opening) m ≡ false
    landed_before before =
        let here : IsInChunk = in_chunk in
        let row : m / g < IsInChunk.row here = lt_of_mul-lt-mul_right g
        (let a = parts in let b = own_parts in let k : is.number / g * g ≡ IsInChunk.row here * g = ap (λ n. n * g) (IsInChunk.number here) in omega arith) in
        let short : IsInChunk.row here < length (stripes_on log o p.stripe.unit) =
        get_below (stripes_on log o p.stripe.unit) (IsInChunk.row here) p (IsInChunk.there here) in
        let q = got_within (stripes_on log o p.stripe.unit) (m / g) (omega arith) in
        let at : is_stripe_at i.shape (as_opened i (log_of w) o) q.0.stripe.unit q.0.stripe.at m ≡ true =
        ap (is_stripe_at i.shape (as_opened i (log_of w) o) q.0.stripe.unit q.0.stripe.at) (sym parts)
        ∙ at_place i w mount o is.is_open (m / g) (m % g) p.stripe.unit q.0 its q.1 in
        let became_is = became_of i w mount o is.is_open m p.stripe.unit (m / g) q.0 q.1 at in
        let lands : has_landed log q.0 ≡ true = landed_there q.0 (m / g) q.1 (λ e. absurd (omega arith)) in
        ap₂ (λ a b. (a && not (is_closed line_now m)) || b)
        (stripe_now i w mount o is.is_open is_unplaced m low ∙ ap is_unplaced became_is ∙ placed_by (answer_of log q.0) lands)
        (stripe_now i w mount o is.is_open is_unanswered m low ∙ ap is_unanswered became_is ∙ answered_by (answer_of log q.0) lands)
      where
        placed_by : (a : Option Answer) → is_land a ≡ true → is_unplaced (by_answer a) ≡ false
        placed_by None e = absurd cc
        placed_by (Some (DidLand x)) e = refl
        placed_by (Some (WasLost x)) e = absurd cc

        answered_by : (a : Option Answer) → is_land a ≡ true → is_unanswered (by_answer a) ≡ false
        answered_by None e = absurd cc
        answered_by (Some (DidLand x)) e = refl
        answered_by (Some (WasLost x)) e = absurd cc

        landed_there : (q : Placed) (k : ℕ) → slice_get (stripes_on (log_of w 0) is.row.opening is.row.stripe.stripe.unit) k ≡ Some q
            → (k ≡ IsInChunk.row in_chunk → ⊥) → has_landed (log_of w 0) q ≡ true
        landed_there q k there apart =
            let new : List Logged = after (log_of w) (Landed unit 0) [] 0 in
            let now : IsLandedNow i.shape log new p o =
            landed_now i w unit 0 [] p o mount is.row.waits is.row.life (rows_of_chunks i w o unit mount) in
            let chunk : IsOfChunk log p o q = all_at (IsOfChunk log p o) (stripes_on log o p.stripe.unit) k q there (chunk_members log p o) in
            let lands : has_landed new q ≡ true =
            of_unit_landed i.shape log new p o now q chunk.among (chunk_unit p o q chunk.of) (chunk_life p o q chunk.of) in
            by (all_at (λ (r : Placed). (r ≡ p) ⊎ (answer_of new r ≡ answer_of log r)) (placements log) chunk.among.0 q chunk.among.1 now.one_more.others) lands
          where
            by : (q ≡ is.row.stripe) ⊎ (answer_of (after (log_of w) (Landed unit 0) [] 0) q ≡ answer_of (log_of w 0) q)
                → has_landed (after (log_of w) (Landed unit 0) [] 0) q ≡ true → has_landed (log_of w 0) q ≡ true
            by (inr kept) e = sym (ap is_land kept) ∙ e
            by (inl same) e =
                let place : q.stripe.at ≡ k * i.shape.ws_opt =
                kth_place i w o p.stripe.unit k q mount (opened_now i w mount o.line o is.is_open).0 there in
                let own : p.stripe.at ≡ IsInChunk.row in_chunk * i.shape.ws_opt =
                kth_place i w o p.stripe.unit (IsInChunk.row in_chunk) p mount (opened_now i w mount o.line o is.is_open).0 (IsInChunk.there in_chunk) in
                let product : k * i.shape.ws_opt ≡ IsInChunk.row in_chunk * i.shape.ws_opt =
                sym place ∙ ap (λ (x : Placed). x.stripe.at) same ∙ own in
                absurd (apart (sym (mul-div_cancel k {n = i.shape.ws_opt} some) ∙ ap (λ n. n / i.shape.ws_opt) product
                ∙ mul-div_cancel (IsInChunk.row in_chunk) {n = i.shape.ws_opt} some))

    -- those behind it weren't placed
    unplaced_after : is.number < m → slice_get (open_line i (log_of w) is.row.opening).stripes m ≡ Some Unplaced
    unplaced_after behind =
        let first : 0 + m ≡ m = omega arith in
        get_row (outcome i.shape log o (as_opened i (log_of w) o)) (length (as_opened i (log_of w) o).stripes) 0 m
        (let count : length (as_opened i (log_of w) o).stripes ≡ g * rows = is.line_is.count in omega arith)
        ∙ ap (λ n. Some (outcome i.shape log o (as_opened i (log_of w) o) n)) first
        ∙ ap (λ x. Some x) (go (placed_as i.shape log o (as_opened i (log_of w) o) m) refl)
      where
        go : (x : Option Placed) → placed_as i.shape (log_of w 0) is.row.opening (as_opened i (log_of w) is.row.opening) m ≡ x
            → became (log_of w 0) x ≡ Unplaced
        go None e = refl
        go (Some q) e =
            let here : IsInChunk = in_chunk in
            let numbered_is : IsOfNumber i w mount o is.is_open m q = of_number i w mount o is.is_open m q e in
            let unit_of_it : q.stripe.unit ≡ p.stripe.unit = sym numbered_is.unit ∙ unit_in i w mount o is.is_open m (m % g) p.stripe.unit refl its in
            let on = on_its_unit i w mount o is.is_open q numbered_is.among in
            let there : slice_get (stripes_on log o p.stripe.unit) on.0 ≡ Some q = ap (λ u. slice_get (stripes_on log o u) on.0) (sym unit_of_it) ∙ on.1 in
            let low_row : on.0 < length (stripes_on log o p.stripe.unit) = get_below (stripes_on log o p.stripe.unit) on.0 q there in
            let place : q.stripe.at ≡ on.0 * i.shape.ws_opt =
            kth_place i w o p.stripe.unit on.0 q mount (opened_now i w mount o.line o is.is_open).0 there in
            let row : m / g ≡ on.0 =
            sym (mul-div_cancel (m / g) {n = i.shape.ws_opt} some) ∙ ap (λ n. n / i.shape.ws_opt) (numbered_is.block ∙ place)
            ∙ mul-div_cancel on.0 {n = i.shape.ws_opt} some in
            let above : IsInChunk.row here < m / g = lt_of_mul-lt-mul_right g
            (let a = parts in let b = own_parts in let k : is.number / g * g ≡ IsInChunk.row here * g =
            ap (λ n. n * g) (IsInChunk.number here) in omega arith) in
            let last : length (stripes_on log o p.stripe.unit) ≤ IsInChunk.row here + 1 = IsInChunk.last here in
            absurd (omega arith)

  -- ---- it is lost

  -- so many stripes of the chunk are never placed, and it isn't answered any more
  pub lost_fewer : stripes_left (with_stripe (open_line i (log_of w) is.row.opening) is.number WasIt)
      + (i.shape.clba / i.shape.ws_opt - is.number / width (open_line i (log_of w) is.row.opening))
      ≡ stripes_left (open_line i (log_of w) is.row.opening)
  lost_fewer = counts.left_lost line_now is.number rows (waits_there i w unit of mount is)
      (subst (λ n. 0 < n) (sym wide_is) (IsInChunk.some_units in_chunk)) all
      (λ m low column before. landed_before m (by_all m low) (by_width m column) before)
      (λ m low column behind. unplaced_after m (by_all m low) (by_width m column) behind)
      (λ m low column. unclosed m (by_all m low) (by_width m column))
    where
      by_all : (m : ℕ) → m < length (open_line i (log_of w) is.row.opening).stripes
          → m < length (line_units (known_image i (log_of w)) is.row.opening.line) * (i.shape.clba / i.shape.ws_opt)
      by_all m low = let count = all_numbers i w mount o is.is_open in omega arith

      by_width : (m : ℕ) → m % width (open_line i (log_of w) is.row.opening) ≡ is.number % width (open_line i (log_of w) is.row.opening)
          → m % length (line_units (known_image i (log_of w)) is.row.opening.line)
          ≡ is.number % length (line_units (known_image i (log_of w)) is.row.opening.line)
      by_width m e = ap (λ n. m % n) (sym wide_is) ∙ e ∙ ap (λ n. is.number % n) wide_is

  -- by its block
  pub rows_left : i.shape.clba / i.shape.ws_opt - is.number / width (open_line i (log_of w) is.row.opening)
      ≡ (i.shape.clba - of.block) / i.shape.ws_opt
  rows_left =
      let whole : i.shape.clba ≡ rows * i.shape.ws_opt = whole_rows i w mount o is.is_open in
      let block : of.block ≡ is.number / g * i.shape.ws_opt = sym (ap (λ (x : Program). x.block) is.row.is) ∙ is.begins in
      let q : ℕ = is.number / g in
      let below : q < rows = lt_of_mul-lt-mul_right g
      (let low = IsInChunk.low in_chunk in let parts : q * g + is.number % g ≡ is.number = div-add-mod' is.number g in
      let turned : g * rows ≡ rows * g = omega arith in omega arith) in
      let split : (rows - q + q) * i.shape.ws_opt ≡ (rows - q) * i.shape.ws_opt + q * i.shape.ws_opt = grind arith in
      let back : rows - q + q ≡ rows = omega arith in
      let total : (rows - q + q) * i.shape.ws_opt ≡ rows * i.shape.ws_opt = ap (λ n. n * i.shape.ws_opt) back in
      let less : (rows - q) * i.shape.ws_opt ≡ rows * i.shape.ws_opt - q * i.shape.ws_opt = omega arith in
      ap (λ n. rows - is.number / n) wide_is
      ∙ sym (mul-div_cancel (rows - is.number / g) {n = i.shape.ws_opt} some)
      ∙ ap (λ n. n / i.shape.ws_opt) (less ∙ omega (arith, whole, block))

-- ---- the two answers

-- so many stripes of the line less are left then
abbrev pub stripes_less : Image → Program → Answer → ℕ
stripes_less i of (DidLand event) = 1
stripes_less i of (WasLost event) = (i.shape.clba - of.block) / i.shape.ws_opt

module _ (i : Image) (w : World) (mount : IsLegalMount i w) (unit : ℕ) (knows : List ℕ) (pad : ℕ) (again : List ℕ) (of : Program)
    (is : IsOnWay i w unit of) (waits : IsAwaited i (log_of w) pad again of) where
  same_line : (e : EngineEvent) (a : Answer) → IsAnswer (log_of w 0) (after (log_of w) e knows 0) unit a → (k : ℕ) (o : Opening)
      → slice_get (left_openings i (log_of w)) k ≡ Some o
      → open_line i (after (log_of w) e knows) o ≡ in_line of.line (of.at / i.shape.ws_opt) (by_answer (Some a)) (open_line i (log_of w) o)
  same_line e a answer k o there =
      let at = answered_at i (log_of w) of waits.stripe waits.one in
      let among : IsAmong (standing (log_of w 0)) o =
      from_filter (λ (x : Opening). has_left (open_line i (log_of w) x)) (standing (log_of w 0)) o (k, there) in
      line_answered i (log_of w) e knows at.0 of a at.1 mount.accepted.drive.ws_opt
      (subst (λ u. IsAnswer (log_of w 0) (after (log_of w) e knows 0) u a) (sym (unit_is i w unit of is)) answer) at.2 o
      (all_at (IsStanding (log_of w 0)) (standing (log_of w 0)) among.0 o among.1 (all_standing (log_of w 0)))

  units_kept : (e : EngineEvent) (o : Opening) → o.number ≤ length (log_of w 0)
      → opened_units i (after (log_of w) e knows) o ≡ opened_units i (log_of w) o
  units_kept e o before = ap (λ (ls : Logs). line_units (known_image i ls) o.line) (prefix_same (log_of w) e knows o.number before)

  records_then : (e : EngineEvent) (a : Answer) → IsAnswer (log_of w 0) (after (log_of w) e knows 0) unit a → (o : Opening) (r : RecordsView)
      → AreRecordsOf i.shape (log_of w 0) o r → AreRecordsOf i.shape (after (log_of w) e knows 0) o r
  records_then e a answer o r was =
      records_kept i.shape (log_of w 0) (record { event = Decides e; knows = knows }) o r
      (ap (filter (λ (x : Placed). is_life o.number x.life)) answer.placements) was

  left_is : (a : Answer) → left_openings i (after (log_of w) (noting of.unit a) knows)
      ≡ filter (has_more i w of (by_answer (Some a))) (left_openings i (log_of w))
  left_is (DidLand event) = left_landed i (log_of w) event knows pad again of mount.accepted.drive.ws_opt waits
  left_is (WasLost event) = left_lost i (log_of w) event knows pad again of mount.accepted.drive.ws_opt waits

  fewer_is : (a : Answer)
      → stripes_left (with_stripe (open_line i (log_of w) is.row.opening) is.number (by_answer (Some a))) + stripes_less i of a
      ≡ stripes_left (open_line i (log_of w) is.row.opening)
  fewer_is (DidLand event) = counts.left_landed (open_line i (log_of w) is.row.opening) is.number (waits_there i w unit of mount is)
  fewer_is (WasLost event) =
      ap (λ n. stripes_left (with_stripe (open_line i (log_of w) is.row.opening) is.number WasIt) + n) (sym (rows_left i w mount unit of is))
      ∙ lost_fewer i w mount unit of is

  pub answered_open : (a : Answer) → IsAnswered i w (after (log_of w) (noting unit a) knows) unit of is (by_answer (Some a)) (stripes_less i of a)
  answered_open a = record {
    left = ap (λ u. left_openings i (after (log_of w) (noting u a) knows)) (sym (unit_is i w unit of is)) ∙ left_is a;
    line = same_line (noting unit a) a (answer_is (log_of w 0) unit knows a);
    units = units_kept (noting unit a);
    kept = records_then (noting unit a) a (answer_is (log_of w 0) unit knows a);
    fewer = fewer_is a;
  }

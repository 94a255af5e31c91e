-- In a line of which a stripe was lost the next stripe to place is a pad: the next block of the first
-- chunk, in line order, that isn't done with.
use Rattle.std.proofs.Common.{◌≡◌, ◌⊎◌, inl, inr, ℕ, ◌+◌, ◌*◌, ◌/◌, ◌%◌, ◌<◌, ◌≤◌, ◌==◌, ◌||◌, zero, suc, not, Bool, true, false, cond, Some, None, Option, List, length, replicate, refl, sym, ap, ap₂, ◌∙◌, arith, div-add-mod', mod-lt}
use Rattle.std.specs.Prelude.{slice_get}
use Rattle.std.specs.List.{find, list_any, range_with_len}
use Rattle.std.specs.Option.{option_map_or}
use Rattle.std.proofs.lemmas.Bool.{cases_order}
use Rattle.std.proofs.lemmas.Nat.{div-mul-add, mod-mul-add}
use Rattle.std.proofs.lemmas.Option.{same_Some}
use Rattle.std.proofs.Math.Nat.{lt_of_mul-lt-mul_right, mul-div_cancel, mul-le-mul_right}
use Rattle.pblk_model.specs.Image.{Image, line_units, width}
use Rattle.pblk_model.specs.LineOrder.{block_of, column_of}
use Rattle.pblk_model.specs.Marks.{pad_block}
use Rattle.pblk_world.specs.Events.{Logged, Stripe}
use Rattle.pblk_world.specs.World.{World, log_of}
use Rattle.pblk_world.specs.EngineLog.{Opened, Opening, life_of, Placed, stripes_of, stripes_on, Answer, DidLand, WasLost, answer_of, was_lost, has_failed}
use Rattle.pblk_world.specs.Lines.{known_image, place_of}
use Rattle.pblk_world.specs.Placing.{IsPad, next_block, is_done_with}
use Rattle.pblk_world.specs.LegalMounts.{IsLegalMount}
use Rattle.world_laws.proofs.StripePlaces.{kth_place}
use Rattle.stripe_placer.specs.OpenLines.{OpenLine, numbers, is_closed, is_lost, is_unplaced, is_to_place, next_of, stripe_is, unit_of}
use Rattle.stripe_placer.specs.OpenLines as lines
use Rattle.core_laws.specs.OpenedLines.{as_opened, became, by_answer, is_stripe_at, open_line, placed_as}
use Rattle.core_laws.proofs.ChangedTables.{range_below}
use Rattle.core_laws.proofs.DoneLines.{all_numbers, at_place, became_of, closed_by_loss, lost_number, on_its_unit, stripe_now, whole_rows, wide}
use Rattle.core_laws.proofs.Followed.{units_width}
use Rattle.core_laws.proofs.LandedNow.{opened_now}
use Rattle.core_laws.proofs.LineNumbers.{unit_there}
use Rattle.core_laws.proofs.OpenWhileLeft.{IsOfNumber, of_number, unit_in, not_closed}
use Rattle.core_laws.proofs.Placeable.{place_at}
use Rattle.pblk_model.proofs.Lists.{IsAmong}
use Rattle.pblk_model.proofs.Maps.{any_found, any_member, found_passes}
use Rattle.pblk_model.proofs.Options.{some_value, mapped_some}
use Rattle.pblk_model.proofs.Parts.{all_at, contained_among, get_below, got_within}
use Rattle.pblk_model.proofs.Tests.{and_both, first_of, not_both, not_true, or_left, other_number, second_of}

-- no number before the first that passes does
find_earlier : (test : ℕ → Bool) (n a j x : ℕ) → find test (range_with_len a n) ≡ Some j → a ≤ x → x < j → test x ≡ false
find_earlier test zero a j x e low high = absurd cc
find_earlier test (suc n) a j x e low high = go (test a) refl e (λ f more. find_earlier test n (a + 1) j x f more high)
  where
    here : test a ≡ false → (find test (range_with_len (a + 1) n) ≡ Some j → a + 1 ≤ x → test x ≡ false) → find test (range_with_len (a + 1) n) ≡ Some j
        → (a ≡ x) ⊎ ((a < x) ⊎ (x < a)) → test x ≡ false
    here h rest f (inl same) = ap test (sym same) ∙ h
    here h rest f (inr (inl less)) = rest f (omega arith)
    here h rest f (inr (inr more)) = absurd (omega arith)

    go : (b : Bool) → test a ≡ b → cond b (Some a) (find test (range_with_len (a + 1) n)) ≡ Some j
        → (find test (range_with_len (a + 1) n) ≡ Some j → a + 1 ≤ x → test x ≡ false) → test x ≡ false
    go true h f rest = let same : a ≡ j = same_Some a j f in absurd (omega arith)
    go false h f rest = here h rest f (cases_order a x)

module _ (i : Image) (w : World) (mount : IsLegalMount i w) (o : Opening) (is_open : life_of (log_of w 0) o.line ≡ Opened o) where
  abbrev log : List Logged
  log = log_of w 0

  abbrev us : List ℕ
  us = line_units (known_image i (log_of w)) o.line

  abbrev g : ℕ
  g = length (line_units (known_image i (log_of w)) o.line)

  abbrev rows : ℕ
  rows = i.shape.clba / i.shape.ws_opt

  abbrev line_now : OpenLine
  line_now = open_line i (log_of w) o

  -- how many stripes of a unit's chunk were placed
  abbrev placed_on_unit : ℕ → ℕ
  placed_on_unit unit = length (stripes_on (log_of w 0) o unit)

  answered_placed : (a : Option Answer) → is_unplaced (by_answer a) ≡ false
  answered_placed None = refl
  answered_placed (Some (DidLand x)) = refl
  answered_placed (Some (WasLost x)) = refl

  -- ---- the stripe of a number, by its chunk

  module _ (x unit : ℕ) (inside : x < g * rows) (there : slice_get us (x % g) ≡ Some unit) where
    parts : x / g * g + x % g ≡ x
    parts = div-add-mod' x g

    -- it is unplaced where its chunk's stripes end before its row
    unplaced_after : stripe_is (open_line i (log_of w) o) is_unplaced x ≡ true → length (stripes_on (log_of w 0) o unit) ≤ x / g
    unplaced_after unplaced = go (cases_order (x / g) (placed_on_unit unit))
      where
        go : (x / g ≡ placed_on_unit unit) ⊎ ((x / g < placed_on_unit unit) ⊎ (placed_on_unit unit < x / g))
            → length (stripes_on (log_of w 0) o unit) ≤ x / g
        go (inl same) = omega arith
        go (inr (inr more)) = omega arith
        go (inr (inl less)) =
            let p = got_within (stripes_on log o unit) (x / g) less in
            let at : is_stripe_at i.shape (as_opened i (log_of w) o) p.0.stripe.unit p.0.stripe.at x ≡ true =
            ap (is_stripe_at i.shape (as_opened i (log_of w) o) p.0.stripe.unit p.0.stripe.at) (sym parts)
            ∙ at_place i w mount o is_open (x / g) (x % g) unit p.0 there p.1 in
            absurd (not_both (stripe_is line_now is_unplaced x) unplaced
            (stripe_now i w mount o is_open is_unplaced x inside
            ∙ ap is_unplaced (became_of i w mount o is_open x unit (x / g) p.0 p.1 at) ∙ answered_placed (answer_of log p.0)))

    after_unplaced : length (stripes_on (log_of w 0) o unit) ≤ x / g → stripe_is (open_line i (log_of w) o) is_unplaced x ≡ true
    after_unplaced after = stripe_now i w mount o is_open is_unplaced x inside ∙ go (placed_as i.shape log o (as_opened i (log_of w) o) x) refl
      where
        go : (q : Option Placed) → placed_as i.shape (log_of w 0) o (as_opened i (log_of w) o) x ≡ q → is_unplaced (became (log_of w 0) q) ≡ true
        go None e = refl
        go (Some q) e =
            let its : IsOfNumber i w mount o is_open x q = of_number i w mount o is_open x q e in
            let unit_is : q.stripe.unit ≡ unit = sym its.unit ∙ unit_in i w mount o is_open x (x % g) unit refl there in
            let on = on_its_unit i w mount o is_open q its.among in
            let k : ℕ = on.0 in
            let at : slice_get (stripes_on log o unit) k ≡ Some q = ap (λ u. slice_get (stripes_on log o u) k) (sym unit_is) ∙ on.1 in
            let low : k < placed_on_unit unit = get_below (stripes_on log o unit) k q at in
            let place : q.stripe.at ≡ k * i.shape.ws_opt = kth_place i w o unit k q mount (opened_now i w mount o.line o is_open).0 at in
            let some : 0 < i.shape.ws_opt = mount.accepted.drive.ws_opt in
            let row : x / g ≡ k =
            sym (mul-div_cancel (x / g) {n = i.shape.ws_opt} some) ∙ ap (λ m. m / i.shape.ws_opt) (its.block ∙ place)
            ∙ mul-div_cancel k {n = i.shape.ws_opt} some in
            absurd (omega arith)

    -- and its chunk is closed where a stripe of it was lost
    closed_is : is_closed (open_line i (log_of w) o) x ≡ list_any (was_lost (log_of w 0)) (stripes_on (log_of w 0) o unit)
    closed_is = go (list_any (was_lost log) (stripes_on log o unit)) refl
      where
        go : (b : Bool) → list_any (was_lost (log_of w 0)) (stripes_on (log_of w 0) o unit) ≡ b → is_closed (open_line i (log_of w) o) x ≡ b
        go true e = closed_by_loss i w mount o is_open (x % g) unit x there refl e
        go false e = not_closed i w mount o is_open (x % g) unit there e x inside refl

  -- ---- the line has failed

  pub fails_with : has_failed (log_of w 0) o ≡ true → lines.has_failed (open_line i (log_of w) o) ≡ true
  fails_with failed =
      let found = some_value (find (was_lost log) (stripes_of log o)) (sym (any_found (was_lost log) (stripes_of log o)) ∙ failed) in
      let passes = found_passes (was_lost log) (stripes_of log o) found.0 found.1 in
      let unit = unit_there i w mount o is_open found.0 (contained_among (stripes_of log o) found.0 passes.1) in
      let on = on_its_unit i w mount o is_open found.0 passes.1 in
      let is = lost_number i w mount o is_open unit.0 found.0.stripe.unit on.0 found.0 unit.1 on.1 passes.0 in
      some_lost (on.0 * g + unit.0) (slice_get line_now.stripes (on.0 * g + unit.0)) refl is.1
    where
      some_lost : (k : ℕ) (x : Option lines.Stripe) → slice_get (open_line i (log_of w) o).stripes k ≡ x → option_map_or is_lost x false ≡ true
          → list_any is_lost (open_line i (log_of w) o).stripes ≡ true
      some_lost k None e lost = absurd cc
      some_lost k (Some s) e lost = any_member is_lost (open_line i (log_of w) o).stripes k s e lost

  -- ---- the next stripe

  module _ (j : ℕ) (next : next_of (open_line i (log_of w) o) ≡ Some j) where
    found : (is_to_place (open_line i (log_of w) o) j ≡ true) × IsAmong (numbers (open_line i (log_of w) o)) j
    found = found_passes (is_to_place line_now) (numbers line_now) j next

    pub low : j < length (line_units (known_image i (log_of w)) o.line) * (i.shape.clba / i.shape.ws_opt)
    low =
        let below : j < 0 + length line_now.stripes =
        all_at (λ m. m < 0 + length line_now.stripes) (numbers line_now) found.1.0 j found.1.1 (range_below 0 (length line_now.stripes)) in
        let all : length line_now.stripes ≡ g * rows = all_numbers i w mount o is_open in
        omega arith

    some_unit : 0 < length (line_units (known_image i (log_of w)) o.line)
    some_unit = go g low
      where
        go : (m : ℕ) → j < m * rows → 0 < m
        go zero h = absurd (omega arith)
        go (suc m) h = omega arith

    earlier : (x : ℕ) → x < j → is_to_place (open_line i (log_of w) o) x ≡ false
    earlier x less = find_earlier (is_to_place line_now) (length line_now.stripes) 0 j x next (omega arith) less

    pub unit : (u : ℕ) × (slice_get (line_units (known_image i (log_of w)) o.line) (j % length (line_units (known_image i (log_of w)) o.line)) ≡ Some u)
    unit = got_within us (j % g) (mod-lt j some_unit)

    pub unit_is : unit_of (open_line i (log_of w) o) j ≡ unit.0
    unit_is = unit_in i w mount o is_open j (j % g) unit.0 refl unit.1

    unplaced : stripe_is (open_line i (log_of w) o) is_unplaced j ≡ true
    unplaced = first_of (stripe_is line_now is_unplaced j) (not (is_closed line_now j)) found.0

    not_lost : list_any (was_lost (log_of w 0)) (stripes_on (log_of w 0) o unit.0) ≡ false
    not_lost = sym (closed_is j unit.0 low unit.1)
        ∙ not_true (is_closed line_now j) (second_of (stripe_is line_now is_unplaced j) (not (is_closed line_now j)) found.0)

    -- it is the next one of its chunk
    its_row : j / length (line_units (known_image i (log_of w)) o.line) ≡ length (stripes_on (log_of w 0) o unit.0)
    its_row = go (cases_order (placed_on_unit unit.0) (j / g))
      where
        n : ℕ
        n = length (stripes_on (log_of w 0) o unit.0)

        after : length (stripes_on (log_of w 0) o unit.0) ≤ j / g
        after = unplaced_after j unit.0 low unit.1 unplaced

        go : (placed_on_unit unit.0 ≡ j / g) ⊎ ((placed_on_unit unit.0 < j / g) ⊎ (j / g < placed_on_unit unit.0))
            → j / length (line_units (known_image i (log_of w)) o.line) ≡ length (stripes_on (log_of w 0) o unit.0)
        go (inl same) = sym same
        go (inr (inr more)) = absurd (let a = after in omega arith)
        go (inr (inl less)) =
            let m : ℕ = placed_on_unit unit.0 in
            let c : ℕ = j % g in
            let x : ℕ = m * g + c in
            let column : c < g = mod-lt j some_unit in
            let fits : suc m * g ≤ j / g * g = mul-le-mul_right g (omega arith) in
            let more : suc m * g ≡ m * g + g = omega arith in
            let whole : j / g * g + c ≡ j = div-add-mod' j g in
            let before : x < j = omega arith in
            let inside : x < g * rows = (let below = low in omega arith) in
            let same : x % g ≡ j % g = mod-mul-add m g c column in
            let row : x / g ≡ m = div-mul-add m g c column in
            let there : slice_get us (x % g) ≡ Some unit.0 = ap (slice_get us) same ∙ unit.1 in
            let open_ : stripe_is line_now is_unplaced x ≡ true = after_unplaced x unit.0 inside there (omega arith) in
            let left : is_closed line_now x ≡ false = closed_is x unit.0 inside there ∙ not_lost in
            absurd (not_both (is_to_place line_now x) (and_both (stripe_is line_now is_unplaced x) (not (is_closed line_now x)) open_ (ap not left))
            (earlier x before))

    -- the pad there
    pub pad_is : (stripe : Stripe) → has_failed (log_of w 0) o ≡ true → stripe.line ≡ o.line → stripe.unit ≡ unit_of (open_line i (log_of w) o) j
        → stripe.at ≡ j / lines.width (open_line i (log_of w) o) * i.shape.ws_opt → stripe.blocks ≡ replicate i.shape.ws_opt (pad_block i.shape)
        → IsPad i (log_of w) o stripe
    pad_is stripe failed line of_unit of_at blocks = record {
      failed = failed;
      chunk_left = ap (is_done_with i.shape log o) its_unit ∙ ap₂ (λ a b. a || b) not_lost not_full;
      at = its_at ∙ ap (λ u. next_block i.shape log o u) (sym its_unit);
      address = j * i.shape.ws_opt;
      place = ap (λ n. place_of (known_image i (log_of w)) n (j * i.shape.ws_opt)) line
          ∙ place_at i (line_units (known_image i (log_of w))) (log_of w) o.line j unit.0 (next_block i.shape log o unit.0) refl some
          (record { its_unit = unit.1; its_block = ap (λ n. n * i.shape.ws_opt) (sym its_row) })
          ∙ ap₂ (λ u b. Some (u, b)) (sym its_unit) (sym its_at);
      in_order = λ a v less there. done a v less (ap (λ n. place_of (known_image i (log_of w)) n a) (sym line) ∙ there);
      blocks = blocks;
    }
      where
        some : 0 < i.shape.ws_opt
        some = mount.accepted.drive.ws_opt

        its_unit : stripe.unit ≡ unit.0
        its_unit = of_unit ∙ unit_is

        its_at : stripe.at ≡ next_block i.shape (log_of w 0) o unit.0
        its_at = of_at ∙ ap (λ m. j / m * i.shape.ws_opt) (wide i w mount o is_open) ∙ ap (λ m. m * i.shape.ws_opt) its_row

        not_full : (next_block i.shape (log_of w 0) o unit.0 == i.shape.clba) ≡ false
        not_full = other_number (next_block i.shape log o unit.0) i.shape.clba (λ e. short e)
          where
            short : next_block i.shape (log_of w 0) o unit.0 ≡ i.shape.clba → ⊥
            short e =
                let whole : i.shape.clba ≡ rows * i.shape.ws_opt = whole_rows i w mount o is_open in
                let row : j / g < rows =
                lt_of_mul-lt-mul_right g (let below = low in let parts : j / g * g + j % g ≡ j = div-add-mod' j g in
                let turned : g * rows ≡ rows * g = omega arith in omega arith) in
                let n : ℕ = placed_on_unit unit.0 in
                let same : j / g ≡ n = its_row in
                let fits : suc n * i.shape.ws_opt ≤ rows * i.shape.ws_opt = mul-le-mul_right i.shape.ws_opt (omega arith) in
                let more : suc n * i.shape.ws_opt ≡ n * i.shape.ws_opt + i.shape.ws_opt = omega arith in
                let enough : 0 < i.shape.ws_opt = some in
                absurd (omega arith)

        done : (a v : ℕ) → a < j * i.shape.ws_opt → place_of (known_image i (log_of w)) o.line a ≡ Some (v, next_block i.shape (log_of w 0) o v)
            → is_done_with i.shape (log_of w 0) o v ≡ true
        done a v less there =
            let ws : ℕ = i.shape.ws_opt in
            let x : ℕ = a / ws in
            let two = mapped_some (slice_get us (column_of i.shape (width (known_image i (log_of w)) o.line) a))
            (block_of i.shape (width (known_image i (log_of w)) o.line) a) v (next_block i.shape log o v) there in
            let wide_is : width (known_image i (log_of w)) o.line ≡ g = units_width i (line_units (known_image i (log_of w))) (log_of w) o.line refl in
            let its : slice_get us (x % g) ≡ Some v = ap (λ m. slice_get us (x % m)) (sym wide_is) ∙ two.0 in
            let whole : x * ws + a % ws ≡ a = div-add-mod' a ws in
            let before : x < j = lt_of_mul-lt-mul_right ws (omega arith) in
            let inside : x < g * rows = (let below = low in omega arith) in
            let enough : 0 < ws = some in
            let rest : a % ws < ws = mod-lt a enough in
            let block : placed_on_unit v * ws ≡ x / g * ws + a % ws = two.1 ∙ ap (λ m. x / m * ws + a % ws) wide_is in
            let row : placed_on_unit v ≡ x / g =
            sym (mul-div_cancel (placed_on_unit v) {n = ws} enough) ∙ ap (λ m. m / ws) block ∙ div-mul-add (x / g) ws (a % ws) rest in
            let open_ : stripe_is line_now is_unplaced x ≡ true = after_unplaced x v inside its (omega arith) in
            let closed : is_closed line_now x ≡ true = by (is_closed line_now x) refl open_ (earlier x before) in
            or_left (list_any (was_lost log) (stripes_on log o v)) (next_block i.shape log o v == i.shape.clba) (sym (closed_is x v inside its) ∙ closed)
          where
            by : (b : Bool) → is_closed (open_line i (log_of w) o) (a / i.shape.ws_opt) ≡ b
                → stripe_is (open_line i (log_of w) o) is_unplaced (a / i.shape.ws_opt) ≡ true
                → is_to_place (open_line i (log_of w) o) (a / i.shape.ws_opt) ≡ false → b ≡ true
            by true e open_ none = refl
            by false e open_ none =
                absurd (not_both (is_to_place (open_line i (log_of w) o) (a / i.shape.ws_opt))
                (and_both (stripe_is (open_line i (log_of w) o) is_unplaced (a / i.shape.ws_opt))
                (not (is_closed (open_line i (log_of w) o) (a / i.shape.ws_opt))) open_ (ap not e)) none)

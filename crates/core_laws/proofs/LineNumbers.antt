-- The stripes of an opened line have numbers in line order, each its own, below the line's count.
-- So there are no more of them than the line has places.
use Rattle.std.proofs.lemmas.Nat.{div-mul-add, mod-mul-add}
use Rattle.std.proofs.lemmas.List.FromFn.{length-range_with_len}
use Rattle.std.proofs.lemmas.Option.{same_Some}
use Rattle.std.proofs.Common.{◌≡◌, ℕ, ◌+◌, ◌*◌, ◌/◌, ◌<◌, ◌≤◌, ◌==◌, ◌||◌, suc, Bool, true, false, Some, Option, List, [], ◌∷◌, map, length, refl, sym, ap, ◌∙◌, arith, ◌%◌}
use Rattle.std.specs.Prelude.{slice_get}
use Rattle.std.specs.List.{Contains, find, list_any, range_with_len}
use Rattle.std.specs.Option.{unwrap_or}
use Rattle.std.proofs.lemmas.Bool.{eqb-true}
use Rattle.std.proofs.lemmas.List.{length-map}
use Rattle.std.proofs.Math.Nat.{lt_of_mul-lt-mul_right, mul-le-mul_right}
use Rattle.pblk_model.specs.Image.{Image, line_units, width}
use Rattle.pblk_model.specs.LineOrder.{block_of, column_of}
use Rattle.pblk_world.specs.Events.{Logged}
use Rattle.pblk_world.specs.World.{World, log_of, media}
use Rattle.pblk_world.specs.EngineLog.{Opened, Opening, Placed, is_life, life_of, placements, stripes_of, stripes_on}
use Rattle.pblk_world.specs.Lines.{known_image}
use Rattle.pblk_model.proofs.Lists.{IsAmong, later}
use Rattle.pblk_model.proofs.Maps.{any_found, any_member, found_passes, range_get}
use Rattle.pblk_model.proofs.Options.{mapped_some, some_value}
use Rattle.pblk_model.proofs.Parts.{all_at, contained_among, get_below}
use Rattle.pblk_model.proofs.Tests.{both}
use Rattle.stripe_placer.specs.OpenLines.{OpenLine, numbers, unit_of}
use Rattle.stripe_placer.specs.OpenLines as lines
use Rattle.pblk_world.specs.LegalMounts.{IsLegalMount}
use Rattle.world_laws.proofs.LifePlaces.{HasPlace, has_place, units_now}
use Rattle.world_laws.proofs.LineBlocks.{IsLineOf, opened_line}
use Rattle.world_laws.proofs.StripePlaces.{kth_place}
use Rattle.world_laws.proofs.UnitTurns.{Rises, rise_all, some_rise}
use Rattle.core_laws.specs.OpenedLines.{as_opened, is_stripe_at}
use Rattle.core_laws.specs.PlacerOf.{number_of}
use Rattle.core_laws.proofs.Distinct.{Distinct, IsIn, distinct_few, passing}
use Rattle.core_laws.proofs.DoneLines.{at_place, count, on_its_unit, one_there, whole_rows}
use Rattle.core_laws.proofs.Placed.{is_in_list}
use Rattle.core_laws.proofs.StripeEnds.{below_end}

-- ---- numbers of rising stripes

mapped_in : (f : Placed → ℕ) (ps : List Placed) (q : ℕ) → IsIn (map f ps) q → (p : Placed) × IsAmong ps p × (f p ≡ q)
mapped_in f ps q e =
    let at = passing (λ (p : Placed). f p == q) ps (sym (any_mapped ps) ∙ e) in
    (at.0, at.1, eqb-true (f at.0) q at.2)
  where
    any_mapped : (xs : List Placed) → is_in_list (map f xs) q ≡ list_any (λ (p : Placed). f p == q) xs
    any_mapped [] = refl
    any_mapped (x ∷ xs) = ap (λ b. (f x == q) || b) (any_mapped xs)

distinct_numbers : (f : Placed → ℕ) (ps : List Placed) → Rises ps → ((p q : Placed) → IsAmong ps p → IsAmong ps q → f p ≡ f q → p ≡ q) → Distinct (map f ps)
distinct_numbers f [] rise one = tt
distinct_numbers f (p ∷ ps) rise one = (
  go (is_in_list (map f ps) (f p)) refl,
  distinct_numbers f ps rise.1 (λ x y a b e. one x y (later p ps x a) (later p ps y b) e),
)
  where
    go : (b : Bool) → is_in_list (map f ps) (f p) ≡ b → b ≡ false
    go false e = refl
    go true e =
        let at = mapped_in f ps (f p) e in
        let same : at.0 ≡ p = one at.0 p (later p ps at.0 at.1) (0, refl) at.2 in
        let number : at.0.number ≡ p.number = ap (λ (x : Placed). x.number) same in
        let above : p.number < at.0.number = all_at (λ (x : Placed). p.number < x.number) ps at.1.0 at.0 at.1.1 rise.0 in
        absurd (omega arith)

-- ---- the stripes

module _ (i : Image) (w : World) (mount : IsLegalMount i w) (o : Opening) (is_open : life_of (log_of w 0) o.line ≡ Opened o) where
  abbrev log : List Logged
  log = log_of w 0

  -- the line's units, in their order
  abbrev us : List ℕ
  us = line_units (known_image i (log_of w)) o.line

  abbrev rows : ℕ
  rows = i.shape.clba / i.shape.ws_opt

  -- the line without stripes
  abbrev bare : OpenLine
  bare = as_opened i (log_of w) o

  line_is : IsLineOf i w o
  line_is = opened_line i w mount o is_open

  pub unit_there : (p : Placed) → Contains (stripes_of (log_of w 0) o) p
      → (c : ℕ) × (slice_get (line_units (known_image i (log_of w)) o.line) c ≡ Some p.stripe.unit)
  unit_there p there =
      let now : Image = media i (log_of w) in
      let at : HasPlace i w mount.accepted mount.legal o p is_open there = has_place i w mount.accepted mount.legal o p is_open there in
      let column : ℕ = column_of i.shape (width now o.line) at.first in
      let parts = mapped_some (slice_get (line_units now o.line) column) (block_of i.shape (width now o.line) at.first) p.stripe.unit p.stripe.at at.place in
      (column, ap (λ us. slice_get us column) (units_now i w mount o is_open) ∙ parts.0)

  -- the row of a stripe in its chunk
  pub row_within : (unit k : ℕ) (p : Placed) → slice_get (stripes_on (log_of w 0) o unit) k ≡ Some p → k < i.shape.clba / i.shape.ws_opt
  row_within unit k p at =
      let place : p.stripe.at ≡ k * i.shape.ws_opt = kth_place i w o unit k p mount line_is.opened at in
      let low : p.stripe.at < i.shape.clba = below_end i w mount o is_open unit k p at in
      lt_of_mul-lt-mul_right i.shape.ws_opt (omega (arith, whole_rows i w mount o is_open, place, low))

  pub record IsNumbered (p : Placed) : Type 0 where
    pub number : ℕ
    pub inside : number < length (line_units (known_image i (log_of w)) o.line) * (i.shape.clba / i.shape.ws_opt)
    -- its unit is in this column of the line, and it begins in this row
    pub unit : slice_get (line_units (known_image i (log_of w)) o.line) (number % length (line_units (known_image i (log_of w)) o.line)) ≡ Some p.stripe.unit
    pub row : p.stripe.at ≡ number / length (line_units (known_image i (log_of w)) o.line) * i.shape.ws_opt
    pub at : is_stripe_at i.shape (as_opened i (log_of w) o) p.stripe.unit p.stripe.at number ≡ true

  pub numbered : (p : Placed) → IsAmong (stripes_of (log_of w 0) o) p → IsNumbered p
  numbered p among =
      let c = unit_there p (contained_among (stripes_of log o) p among) in
      let on = on_its_unit i w mount o is_open p among in
      let k : ℕ = on.0 in
      let g : ℕ = length us in
      let low : k < rows = row_within p.stripe.unit k p on.1 in
      let inside : c.0 < g = get_below us c.0 p.stripe.unit c.1 in
      let fits : suc k * g ≤ rows * g = mul-le-mul_right g (omega arith) in
      let next : suc k * g ≡ k * g + g = omega arith in
      let turned : rows * g ≡ g * rows = omega arith in
      record {
        number = k * g + c.0;
        inside = omega arith;
        unit = ap (slice_get us) (mod-mul-add k g c.0 inside) ∙ c.1;
        row = kth_place i w o p.stripe.unit k p mount line_is.opened on.1 ∙ ap (λ n. n * i.shape.ws_opt) (sym (div-mul-add k g c.0 inside));
        at = at_place i w mount o is_open k c.0 p.stripe.unit p c.1 on.1;
      }

  -- two of one number are one
  pub one_numbered : (p q : Placed) (j : ℕ) → IsAmong (stripes_of (log_of w 0) o) p → IsAmong (stripes_of (log_of w 0) o) q
      → is_stripe_at i.shape (as_opened i (log_of w) o) p.stripe.unit p.stripe.at j ≡ true
      → is_stripe_at i.shape (as_opened i (log_of w) o) q.stripe.unit q.stripe.at j ≡ true → p ≡ q
  one_numbered p q j a b first second =
      let x = both (unit_of bare j == p.stripe.unit) (j / lines.width bare * i.shape.ws_opt == p.stripe.at) first in
      let y = both (unit_of bare j == q.stripe.unit) (j / lines.width bare * i.shape.ws_opt == q.stripe.at) second in
      let same_unit : p.stripe.unit ≡ q.stripe.unit = sym (eqb-true (unit_of bare j) p.stripe.unit x.0) ∙ eqb-true (unit_of bare j) q.stripe.unit y.0 in
      let same_at : p.stripe.at ≡ q.stripe.at =
      sym (eqb-true (j / lines.width bare * i.shape.ws_opt) p.stripe.at x.1) ∙ eqb-true (j / lines.width bare * i.shape.ws_opt) q.stripe.at y.1 in
      let on = on_its_unit i w mount o is_open p a in
      let other = on_its_unit i w mount o is_open q b in
      let here : slice_get (stripes_on log o p.stripe.unit) other.0 ≡ Some q = ap (λ u. slice_get (stripes_on log o u) other.0) same_unit ∙ other.1 in
      one_there i w mount o is_open p.stripe.unit on.0 other.0 p q on.1 here same_at

  -- ---- how many

  number : Placed → ℕ
  number p = number_of i.shape (as_opened i (log_of w) o) p.stripe

  record IsOfNumber (p : Placed) : Type 0 where
    inside : number p < length (line_units (known_image i (log_of w)) o.line) * (i.shape.clba / i.shape.ws_opt)
    at : is_stripe_at i.shape (as_opened i (log_of w) o) p.stripe.unit p.stripe.at (number p) ≡ true

  of_number : (p : Placed) → IsAmong (stripes_of (log_of w 0) o) p → IsOfNumber p
  unfolding number
  of_number p among =
      let is : IsNumbered p = numbered p among in
      let all : length bare.stripes ≡ length us * rows = count i w mount o is_open in
      let test : ℕ → Bool = is_stripe_at i.shape bare p.stripe.unit p.stripe.at in
      let first : 0 + is.number ≡ is.number = omega arith in
      let there : slice_get (numbers bare) is.number ≡ Some is.number =
      range_get 0 (length bare.stripes) is.number (let inside = is.inside in omega arith) ∙ ap (λ x. Some x) first in
      let found = some_value (find test (numbers bare))
      (sym (any_found test (numbers bare)) ∙ any_member test (numbers bare) is.number is.number there is.at) in
      let passes = found_passes test (numbers bare) found.0 found.1 in
      let same : unwrap_or (find test (numbers bare)) 0 ≡ found.0 = ap (λ (x : Option ℕ). unwrap_or x 0) found.1 in
      let low : found.0 < length bare.stripes = below_count (length bare.stripes) passes.1.0 found.0 passes.1.1 in
      record {
        inside = omega (arith, same, low, all);
        at = ap test same ∙ passes.0;
      }
    where
      below_count : (n k j : ℕ) → slice_get (range_with_len 0 n) k ≡ Some j → j < n
      below_count n k j e =
          let inside : k < length (range_with_len 0 n) = get_below (range_with_len 0 n) k j e in
          let all : length (range_with_len 0 n) ≡ n = length-range_with_len 0 n in
          let first : 0 + k ≡ k = omega arith in
          let same : k ≡ j = same_Some k j (sym (range_get 0 n k (omega arith) ∙ ap (λ x. Some x) first) ∙ e) in
          omega arith

  pub few_stripes : length (stripes_of (log_of w 0) o) ≤ length (line_units (known_image i (log_of w)) o.line) * (i.shape.clba / i.shape.ws_opt)
  few_stripes =
      let ps : List Placed = stripes_of log o in
      let same : length (map number ps) ≡ length ps = length-map ps number in
      let few : length (map number ps) ≤ length us * rows =
      distinct_few 0 (length us * rows) (map number ps)
      (distinct_numbers number ps (some_rise (λ (p : Placed). is_life o.number p.life) (placements log) (rise_all log))
      (λ p q a b e. one_numbered p q (number p) a b (IsOfNumber.at (of_number p a))
      (ap (is_stripe_at i.shape bare q.stripe.unit q.stripe.at) e ∙ IsOfNumber.at (of_number q b))))
      (λ n e.
      let at = mapped_in number ps n e in
      let low : number at.0 < length us * rows = IsOfNumber.inside (of_number at.0 at.1) in
      let is : number at.0 ≡ n = at.2 in
      (omega arith, omega arith)) in
      omega arith

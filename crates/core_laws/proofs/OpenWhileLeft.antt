-- A line without a stripe left has only chunks to which nothing more is written: each is full, or a
-- stripe of it was lost. So a line with a stripe left is one of the placer's.
use Rattle.std.proofs.lemmas.List.FromFn.{length-range_with_len}
use Rattle.std.proofs.Common.{◌≡◌, ℕ, ◌+◌, ◌*◌, ◌/◌, ◌%◌, ◌<◌, ◌≤◌, ◌==◌, ◌&&◌, zero, suc, not, Bool, true, false, Some, None, Option, List, [], ◌∷◌, map, length, refl, sym, subst, ap, ap₂, ◌∙◌, arith}
use Rattle.std.specs.Prelude.{slice_get}
use Rattle.std.specs.List.{Contains, filter_map, find, cons_option, list_all, list_any, range_with_len, slice_index_or}
use Rattle.std.specs.Option.{option_map_or, is_some}
use Rattle.std.proofs.lemmas.Bool.{eqb-true}
use Rattle.std.proofs.lemmas.Option.{get_or_from_slice_get, same_Some, slice_get_within}
use Rattle.std.proofs.lemmas.Nat.{div-mul-add, mod-mul-add}
use Rattle.pblk_model.specs.declared.chunk.ChunkState.{ChunkState}
use Rattle.pblk_model.specs.declared.chunk.ChunkState.TheVariants as states
use Rattle.pblk_model.specs.Chunk.{Chunk}
use Rattle.pblk_model.specs.Image.{Image, is_online_in, line_units}
use Rattle.pblk_layout.specs.Online.{is_online}
use Rattle.pblk_world.specs.Events.{Logged}
use Rattle.pblk_world.specs.World.{World, log_of}
use Rattle.pblk_world.specs.EngineLog.{LineLife, AsFound, Opened, Freed, is_opened, is_as_found, Opening, life_of, Placed, stripes_of, stripes_on, Answer, DidLand, WasLost, answer_of, is_loss, has_landed, was_lost}
use Rattle.pblk_world.specs.Lines.{known_image, is_over_state, are_over, has_stripe_left}
use Rattle.pblk_world.specs.LegalMounts.{IsLegalMount}
use Rattle.world_laws.proofs.LineStripes.{stripe_count}
use Rattle.stripe_placer.specs.OpenLines.{OpenLine, numbers, in_one_chunk, is_closed, is_lost, is_unplaced, is_unanswered, is_to_place, has_left, stripe_is, unit_of}
use Rattle.stripe_placer.specs.OpenLines as lines
use Rattle.core_laws.specs.OpenedLines.{as_opened, became, by_answer, is_stripe_at, open_line, outcome, placed_as, standing, open_lines}
use Rattle.core_laws.proofs.DoneLines.{all_numbers, none_left, stripe_now, units_are, whole_rows, wide}
use Rattle.core_laws.proofs.Followed.{follow}
use Rattle.core_laws.proofs.GivenBack.{none_at}
use Rattle.core_laws.proofs.KeptLines.{few_units}
use Rattle.core_laws.proofs.LandedChunks.{landed_fills}
use Rattle.core_laws.proofs.LandedNow.{opened_now}
use Rattle.core_laws.proofs.LostChunks.{lost_closes}
use Rattle.core_laws.proofs.PlainOpenings.{life_stands}
use Rattle.core_laws.proofs.PlainStripes.{answered_lands}
use Rattle.core_laws.proofs.StripeEnds.{of_unit}
use Rattle.core_laws.proofs.UnitBits.{units_are as units_by_bits}
use Rattle.pblk_model.proofs.Lists.{IsAmong}
use Rattle.pblk_model.proofs.Maps.{any_found, found_passes, in_filter, in_map, range_get}
use Rattle.pblk_model.proofs.Options.{some_value}
use Rattle.pblk_model.proofs.Parts.{contained_among, get_below}
use Rattle.pblk_model.proofs.Tests.{both, either_false, not_both, same_number}

offline_over : (b : Bool) (state : ChunkState) → is_online_in state ≡ false → is_over_state b state ≡ true
offline_over b states.Free e = absurd cc
offline_over b states.Open e = absurd cc
offline_over b states.Closed e = absurd cc
offline_over b states.Offline e = refl

all_over : (b : Bool) (line : ℕ) (units : List (List Chunk))
    → ((unit : ℕ) (chunks : List Chunk) (c : Chunk) → slice_get units unit ≡ Some chunks → slice_get chunks line ≡ Some c → is_over_state b c.state ≡ true)
    → list_all (λ (c : Chunk). is_over_state b c.state) (filter_map (λ (unit : List Chunk). slice_get unit line) units) ≡ true
all_over b line [] over = refl
all_over b line (chunks ∷ units) over = go (slice_get chunks line) refl (all_over b line units (λ u cs c e f. over (suc u) cs c e f))
  where
    go : (o : Option Chunk) → slice_get chunks line ≡ o
        → list_all (λ (c : Chunk). is_over_state b c.state) (filter_map (λ (unit : List Chunk). slice_get unit line) units) ≡ true
        → list_all (λ (c : Chunk). is_over_state b c.state) (cons_option o (filter_map (λ (unit : List Chunk). slice_get unit line) units)) ≡ true
    go None e rest = rest
    go (Some c) e rest = ap₂ (λ x y. x && y) (over 0 chunks c refl e) rest

-- a test that no element of a list passes
none_passes : {X : Type 0} (test : X → Bool) (xs : List X) (j : ℕ) → list_any test xs ≡ false → option_map_or test (slice_get xs j) false ≡ false
none_passes {X} test xs j none = go (slice_get xs j) refl
  where
    go : (o : Option X) → slice_get xs j ≡ o → option_map_or test o false ≡ false
    go None e = refl
    go (Some x) e = none_at test xs x none (j, e)

module _ (i : Image) (w : World) (mount : IsLegalMount i w) (o : Opening) (is_open : life_of (log_of w 0) o.line ≡ Opened o) where
  abbrev log : List Logged
  log = log_of w 0

  -- the line's units, in their order
  abbrev us : List ℕ
  us = line_units (known_image i (log_of w)) o.line

  abbrev rows : ℕ
  rows = i.shape.clba / i.shape.ws_opt

  -- the line without stripes, and with what became of them
  abbrev bare : OpenLine
  bare = as_opened i (log_of w) o

  abbrev line_now : OpenLine
  line_now = open_line i (log_of w) o

  -- ---- the stripe of a number

  -- it is on the unit of that number, and begins at its row
  pub record IsOfNumber (j : ℕ) (p : Placed) : Type 0 where
    pub among : IsAmong (stripes_of (log_of w 0) o) p
    pub unit : unit_of (as_opened i (log_of w) o) j ≡ p.stripe.unit
    pub block : j / length (line_units (known_image i (log_of w)) o.line) * i.shape.ws_opt ≡ p.stripe.at

  pub of_number : (j : ℕ) (p : Placed) → placed_as i.shape (log_of w 0) o (as_opened i (log_of w) o) j ≡ Some p → IsOfNumber j p
  of_number j p e =
      let passes = found_passes (λ (q : Placed). is_stripe_at i.shape bare q.stripe.unit q.stripe.at j) (stripes_of log o) p e in
      let two = both (unit_of bare j == p.stripe.unit) (j / lines.width bare * i.shape.ws_opt == p.stripe.at) passes.0 in
      record {
        among = passes.1;
        unit = eqb-true (unit_of bare j) p.stripe.unit two.0;
        block = ap (λ g. j / g * i.shape.ws_opt) (sym (wide i w mount o is_open)) ∙ eqb-true (j / lines.width bare * i.shape.ws_opt) p.stripe.at two.1;
      }

  -- the unit of a number in a column
  pub unit_in : (j c unit : ℕ) → j % length (line_units (known_image i (log_of w)) o.line) ≡ c
      → slice_get (line_units (known_image i (log_of w)) o.line) c ≡ Some unit
      → unit_of (as_opened i (log_of w) o) j ≡ unit
  unit_in j c unit column there =
      ap₂ (λ (xs : List ℕ) g. slice_index_or xs (j % g) 0) (units_are i w mount o is_open) (wide i w mount o is_open)
      ∙ ap (λ m. slice_index_or us m 0) column ∙ get_or_from_slice_get us c unit 0 there

  -- a chunk of which no stripe was lost
  module _ (c unit : ℕ) (there : slice_get (line_units (known_image i (log_of w)) o.line) c ≡ Some unit)
      (kept : list_any (was_lost (log_of w 0)) (stripes_on (log_of w 0) o unit) ≡ false) where
    on_unit : (p : Placed) → IsAmong (stripes_of (log_of w 0) o) p → p.stripe.unit ≡ unit → IsAmong (stripes_on (log_of w 0) o unit) p
    on_unit p among its =
        in_filter (λ (q : Placed). q.stripe.unit == unit) (stripes_of log o) p among (ap (λ u. u == unit) its ∙ same_number unit)

    pub not_lost : (p : Placed) → IsAmong (stripes_of (log_of w 0) o) p → p.stripe.unit ≡ unit → was_lost (log_of w 0) p ≡ false
    not_lost p among its = none_at (was_lost log) (stripes_on log o unit) p kept (on_unit p among its)

    -- it isn't closed by a loss
    pub not_closed : (j : ℕ) → j < length (line_units (known_image i (log_of w)) o.line) * (i.shape.clba / i.shape.ws_opt)
        → j % length (line_units (known_image i (log_of w)) o.line) ≡ c → is_closed (open_line i (log_of w) o) j ≡ false
    not_closed j inside column = go (is_closed line_now j) refl
      where
        lost_there : (x : ℕ) → x < length line_now.stripes → (stripe_is line_now is_lost x && in_one_chunk line_now x j) ≡ true → ⊥
        lost_there x low e =
            let two = both (stripe_is line_now is_lost x) (in_one_chunk line_now x j) e in
            let all : length line_now.stripes ≡ length us * rows = all_numbers i w mount o is_open in
            let lost : is_lost (outcome i.shape log o bare x) ≡ true = sym (stripe_now i w mount o is_open is_lost x (omega arith)) ∙ two.0 in
            let g = wide i w mount o is_open in
            let same : x % length us ≡ c =
            ap (λ g. x % g) (sym g) ∙ eqb-true (x % lines.width bare) (j % lines.width bare) two.1 ∙ ap (λ g. j % g) g ∙ column in
            by (placed_as i.shape log o bare x) refl lost same
          where
            lost_by : (a : Option Answer) → is_lost (by_answer a) ≡ true → is_loss a ≡ true
            lost_by None h = absurd cc
            lost_by (Some (DidLand n)) h = absurd cc
            lost_by (Some (WasLost n)) h = refl

            by : (q : Option Placed) → placed_as i.shape (log_of w 0) o (as_opened i (log_of w) o) x ≡ q → is_lost (became (log_of w 0) q) ≡ true
                → x % length (line_units (known_image i (log_of w)) o.line) ≡ c → ⊥
            by None f h same = absurd cc
            by (Some q) f h same =
                let is : IsOfNumber x q = of_number x q f in
                not_both (was_lost log q) (lost_by (answer_of log q) h)
                (not_lost q (IsOfNumber.among is) (sym (IsOfNumber.unit is) ∙ unit_in x c unit same there))

        go : (b : Bool) → is_closed (open_line i (log_of w) o) j ≡ b → b ≡ false
        go false e = refl
        go true e =
            let test : ℕ → Bool = λ x. stripe_is line_now is_lost x && in_one_chunk line_now x j in
            let found = some_value (find test (numbers line_now)) (sym (any_found test (numbers line_now)) ∙ e) in
            let passes = found_passes test (numbers line_now) found.0 found.1 in
            absurd (lost_there found.0 (low_of (length line_now.stripes) passes.1.0 found.0 passes.1.1) passes.0)
          where
            low_of : (n k x : ℕ) → slice_get (range_with_len 0 n) k ≡ Some x → x < n
            low_of n k x e =
                let inside : k < length (range_with_len 0 n) = get_below (range_with_len 0 n) k x e in
                let all : length (range_with_len 0 n) ≡ n = length-range_with_len 0 n in
                let first : 0 + k ≡ k = omega arith in
                let same : k ≡ x = same_Some k x (sym (range_get 0 n k (omega arith) ∙ ap (λ y. Some y) first) ∙ e) in
                omega arith

  -- ---- no stripe is left

  module _ (none : has_left (open_line i (log_of w) o) ≡ false) where
    none_to_place : list_any (is_to_place (open_line i (log_of w) o)) (numbers (open_line i (log_of w) o)) ≡ false
    none_to_place = (either_false (list_any (is_to_place line_now) (numbers line_now)) (list_any is_unanswered line_now.stripes) none).0

    none_waits : list_any is_unanswered (open_line i (log_of w) o).stripes ≡ false
    none_waits = (either_false (list_any (is_to_place line_now) (numbers line_now)) (list_any is_unanswered line_now.stripes) none).1

    -- a chunk of which no stripe was lost
    module _ (c unit : ℕ) (there : slice_get (line_units (known_image i (log_of w)) o.line) c ≡ Some unit)
        (kept : list_any (was_lost (log_of w 0)) (stripes_on (log_of w 0) o unit) ≡ false) where
      -- so its last stripe was placed and has landed
      record IsLast : Type 0 where
        placed : Placed
        among : IsAmong (stripes_of (log_of w 0) o) placed
        unit_is : placed.stripe.unit ≡ unit
        fills : placed.stripe.at + i.shape.ws_opt ≡ i.shape.clba
        landed : has_landed (log_of w 0) placed ≡ true

      last : IsLast
      last = by (i.shape.clba / i.shape.ws_opt) refl
        where
          inside : c < length us
          inside = get_below us c unit there

          from_outcome : (r : ℕ) → i.shape.clba / i.shape.ws_opt ≡ suc r → (j : ℕ) → j ≡ r * length us + c → (q : Option Placed)
              → placed_as i.shape (log_of w 0) o (as_opened i (log_of w) o) j ≡ q → is_unplaced (became (log_of w 0) q) ≡ false
              → is_unanswered (became (log_of w 0) q) ≡ false → IsLast
          from_outcome r e j number None f placed answered = absurd cc
          from_outcome r e j number (Some p) f placed answered =
              let is : IsOfNumber j p = of_number j p f in
              let among : IsAmong (stripes_of log o) p = IsOfNumber.among is in
              let its : p.stripe.unit ≡ unit = sym (IsOfNumber.unit is)
              ∙ unit_in j c unit (ap (λ m. m % length us) number ∙ mod-mul-add r (length us) c inside) there in
              let row : j / length us ≡ r = ap (λ m. m / length us) number ∙ div-mul-add r (length us) c inside in
              let block : p.stripe.at ≡ r * i.shape.ws_opt = sym (IsOfNumber.block is) ∙ ap (λ m. m * i.shape.ws_opt) row in
              let full : i.shape.clba ≡ suc r * i.shape.ws_opt = whole_rows i w mount o is_open ∙ ap (λ m. m * i.shape.ws_opt) e in
              let next : suc r * i.shape.ws_opt ≡ r * i.shape.ws_opt + i.shape.ws_opt = omega arith in
              record {
                placed = p;
                among = among;
                unit_is = its;
                fills = omega arith;
                landed = answered_lands (answer_of log p) (answered_by (answer_of log p) answered) (not_lost c unit there kept p among its);
              }
            where
              answered_by : (a : Option Answer) → is_unanswered (by_answer a) ≡ false → is_some a ≡ true
              answered_by None h = absurd cc
              answered_by (Some a) h = refl

          by : (r : ℕ) → i.shape.clba / i.shape.ws_opt ≡ r → IsLast
          by zero e =
              let some : 0 < i.shape.clba = mount.accepted.drive.clba in
              let none_is : i.shape.clba ≡ 0 * i.shape.ws_opt = whole_rows i w mount o is_open ∙ ap (λ n. n * i.shape.ws_opt) e in
              let zero_is : 0 * i.shape.ws_opt ≡ 0 = omega arith in
              absurd (omega arith)
          by (suc r) e =
              let j : ℕ = r * length us + c in
              let all : length line_now.stripes ≡ length us * rows = all_numbers i w mount o is_open in
              let product : length us * suc r ≡ r * length us + length us = omega arith in
              let count : length us * rows ≡ length us * suc r = ap (λ n. length us * n) e in
              let low_column : c < length us = inside in
              let low : j < length us * rows = omega arith in
              let column : j % length us ≡ c = mod-mul-add r (length us) c inside in
              let first : 0 + j ≡ j = omega arith in
              let at : slice_get (numbers line_now) j ≡ Some j = range_get 0 (length line_now.stripes) j (omega arith) ∙ ap (λ x. Some x) first in
              let no_more : is_to_place line_now j ≡ false = none_at (is_to_place line_now) (numbers line_now) j none_to_place (j, at) in
              let unplaced : stripe_is line_now is_unplaced j ≡ false =
              sym (ap (λ b. stripe_is line_now is_unplaced j && not b) (not_closed c unit there kept j low column)
              ∙ and_true (stripe_is line_now is_unplaced j)) ∙ no_more in
              from_outcome r e j refl (placed_as i.shape log o bare j) refl (sym (stripe_now i w mount o is_open is_unplaced j low) ∙ unplaced)
              (sym (stripe_now i w mount o is_open is_unanswered j low) ∙ none_passes is_unanswered line_now.stripes j none_waits)
            where
              and_true : (b : Bool) → (b && true) ≡ b
              and_true true = refl
              and_true false = refl

    -- ---- its chunks

    in_units : (unit : ℕ) → unit < 64 → is_online (known_image i (log_of w)) o.line unit ≡ true → IsAmong (line_units (known_image i (log_of w)) o.line) unit
    in_units unit inside live =
        let from : 0 + unit ≡ unit = omega arith in
        subst (λ xs. IsAmong xs unit) (sym (units_by_bits (known_image i (log_of w)) o.line (is_online (known_image i (log_of w)) o.line)
        (few_units i w (log_of w) mount) (λ u. refl)))
        (in_filter (is_online (known_image i (log_of w)) o.line) (range_with_len 0 64) unit (unit, range_get 0 64 unit inside ∙ ap (λ m. Some m) from) live)

    chunk_over : (b : Bool) (unit : ℕ) (chunks : List Chunk) (c : Chunk) → slice_get (known_image i (log_of w)).units unit ≡ Some chunks
        → slice_get chunks o.line ≡ Some c → is_over_state b c.state ≡ true
    chunk_over b unit chunks c at there = go (is_online_in c.state) refl
      where
        live : is_online (known_image i (log_of w)) o.line unit ≡ is_online_in c.state
        live = ap (λ (o2 : Option (List Chunk)). option_map_or (λ chunks. option_map_or (λ (c : Chunk). is_online_in c.state)
            (slice_get chunks o.line) false) o2 false) at
            ∙ ap (λ (o2 : Option Chunk). option_map_or (λ (c : Chunk). is_online_in c.state) o2 false) there

        closed : IsAmong (line_units (known_image i (log_of w)) o.line) unit → (lost : Bool)
            → list_any (was_lost (log_of w 0)) (stripes_on (log_of w 0) o unit) ≡ lost → c.state ≡ states.Closed
        closed among true e =
            let found = some_value (find (was_lost log) (stripes_on log o unit)) (sym (any_found (was_lost log) (stripes_on log o unit)) ∙ e) in
            let passes = found_passes (was_lost log) (stripes_on log o unit) found.0 found.1 in
            let mine = of_unit i w mount o is_open unit found.0 passes.1 in
            lost_closes i w mount o found.0 is_open mine.0 passes.0 chunks c (ap (slice_get (known_image i (log_of w)).units) mine.1 ∙ at) there
        closed among false e =
            let it : IsLast among.0 unit among.1 e = last among.0 unit among.1 e in
            let p : Placed = IsLast.placed it in
            let of_it : Contains (stripes_of log o) p = contained_among (stripes_of log o) p (IsLast.among it) in
            let long : length p.stripe.blocks ≡ i.shape.ws_opt =
            stripe_count i w o p mount.accepted mount.legal (opened_now i w mount o.line o is_open).0 of_it in
            landed_fills i w mount o p is_open of_it (IsLast.landed it) chunks c
            (ap (slice_get (known_image i (log_of w)).units) (IsLast.unit_is it) ∙ at) there (omega arith) (IsLast.fills it)

        go : (online : Bool) → is_online_in c.state ≡ online → is_over_state b c.state ≡ true
        go false e = offline_over b c.state e
        go true e =
            let few : length (known_image i (log_of w)).units ≤ 64 = few_units i w (log_of w) mount in
            let inside : unit < length (known_image i (log_of w)).units = slice_get_within (known_image i (log_of w)).units unit chunks at in
            let among = in_units unit (omega arith) (live ∙ e) in
            ap (is_over_state b) (closed among (list_any (was_lost log) (stripes_on log o unit)) refl)

    pub over_where_none_left : are_over i (log_of w) o.line ≡ true
    over_where_none_left =
        all_over (is_as_found (life_of (log_of w 0) o.line)) o.line (known_image i (log_of w)).units
        (λ unit chunks c at there. chunk_over (is_as_found (life_of (log_of w 0) o.line)) unit chunks c at there)

  -- nothing more is written exactly where no stripe is left
  pub over_is : are_over i (log_of w) o.line ≡ not (has_left (open_line i (log_of w) o))
  over_is = go (has_left line_now) refl (are_over i (log_of w) o.line) refl
    where
      go : (b : Bool) → has_left (open_line i (log_of w) o) ≡ b → (c : Bool) → are_over i (log_of w) o.line ≡ c → c ≡ not b
      go false e c f = sym f ∙ over_where_none_left e
      go true e false f = refl
      go true e true f = absurd (not_both (has_left line_now) e (none_left i w mount o is_open f))

-- ---- one line

-- a line with a stripe left is one of the placer's
pub left_is_open : (i : Image) (w : World) (line : ℕ) → IsLegalMount i w → has_stripe_left i (log_of w) line ≡ true
    → (o : Opening) × IsAmong (open_lines i (log_of w)) (open_line i (log_of w) o) × (o.line ≡ line)
left_is_open i w line mount left = go (life_of (log_of w 0) line) refl left
  where
    go : (life : LineLife) → life_of (log_of w 0) line ≡ life → (is_opened life && not (are_over i (log_of w) line)) ≡ true
        → (o : Opening) × IsAmong (open_lines i (log_of w)) (open_line i (log_of w) o) × (o.line ≡ line)
    go AsFound e f = absurd cc
    go (Freed past knows) e f = absurd cc
    go (Opened o) e f =
        let us : ℕ → List ℕ = line_units (known_image i (log_of w)) in
        let its : o.line ≡ line = (opened_now i w mount line o e).1 in
        let life : life_of (log_of w 0) o.line ≡ Opened o = ap (life_of (log_of w 0)) its ∙ e in
        let has : has_left (open_line i (log_of w) o) ≡ true = by (has_left (open_line i (log_of w) o)) refl its life f in (
          o,
          in_filter has_left (map (open_line i (log_of w)) (standing (log_of w 0))) (open_line i (log_of w) o)
              (in_map (open_line i (log_of w)) (standing (log_of w 0)) o (life_stands i us w (follow i w mount) line o e)) has,
          its,
        )
      where
        by : (b : Bool) → has_left (open_line i (log_of w) o) ≡ b → o.line ≡ line → life_of (log_of w 0) o.line ≡ Opened o
            → not (are_over i (log_of w) line) ≡ true → b ≡ true
        by true e its life f = refl
        by false e its life f =
            let over : are_over i (log_of w) line ≡ true = ap (are_over i (log_of w)) (sym its) ∙ over_where_none_left i w mount o life e in
            absurd (cc (sym (ap not over) ∙ f))

one_of : {X : Type 0} (xs : List X) (x y : X) (j k : ℕ) → length xs ≤ 1 → slice_get xs j ≡ Some x → slice_get xs k ≡ Some y → x ≡ y
one_of xs x y j k h a b =
    let p : j < length xs = slice_get_within xs j x a in
    let q : k < length xs = slice_get_within xs k y b in
    let same : j ≡ k = omega arith in
    same_Some x y (sym a ∙ ap (slice_get xs) same ∙ b)

pub one_is_open : (i : Image) (w : World) (m n : ℕ) → IsLegalMount i w → length (open_lines i (log_of w)) ≤ 1 → has_stripe_left i (log_of w) m ≡ true
    → has_stripe_left i (log_of w) n ≡ true → m ≡ n
one_is_open i w m n mount few a b =
    let p = left_is_open i w m mount a in
    let q = left_is_open i w n mount b in
    let one : open_line i (log_of w) p.0 ≡ open_line i (log_of w) q.0 =
    one_of (open_lines i (log_of w)) (open_line i (log_of w) p.0) (open_line i (log_of w) q.0) p.1.0 q.1.0 few p.1.1 q.1.1 in
    sym p.2 ∙ ap (λ (l : OpenLine). l.line) one ∙ q.2

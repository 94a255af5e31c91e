-- A program under way in a core's placer, by the logs: its stripe, and which one of its line it is.
use Rattle.std.proofs.Common.{◌≡◌, ℕ, ◌+◌, ◌*◌, ◌/◌, ◌%◌, ◌<◌, ◌≤◌, ◌==◌, ◌&&◌, not, Bool, true, Some, None, Option, List, [], length, refl, sym, subst, ap, ◌∙◌, arith, zero-add}
use Rattle.std.specs.Prelude.{slice_get}
use Rattle.std.specs.List.{list_any, range_with_len, slice_index_or}
use Rattle.std.specs.Option.{option_map_or, unwrap_or}
use Rattle.std.proofs.lemmas.Bool.{eqb-true}
use Rattle.std.proofs.lemmas.List.{length-map}
use Rattle.std.proofs.lemmas.List.FromFn.{length-range_with_len}
use Rattle.std.proofs.lemmas.Option.{same_Some, slice_get_within}
use Rattle.std.proofs.Math.Nat.{mul-div_cancel}
use Rattle.pblk_model.specs.declared.shape.Shape.{Shape}
use Rattle.pblk_model.specs.Shape.{units}
use Rattle.pblk_model.specs.Image.{Image}
use Rattle.pblk_layout.specs.Online.{units_in}
use Rattle.pblk_world.specs.Events.{Stripe, Logged}
use Rattle.pblk_world.specs.World.{World, Logs, log_of}
use Rattle.pblk_world.specs.EngineLog.{AsFound, Opened, Freed, Opening, LineLife, is_life, life_of, Placed, placements, placed_on, stripes_of, stripes_on, answers}
use Rattle.pblk_world.specs.Victims.{engine_prefix}
use Rattle.stripe_placer.specs.Inside.{IsUnanswered}
use Rattle.stripe_placer.specs.OpenLines.{OpenLine, opened, width, unit_of, numbers, has_left, is_to_place, is_unanswered}
use Rattle.stripe_placer.specs.OpenLines.Stripe.{Unplaced, Unanswered}
use Rattle.stripe_placer.specs.Placing.{Program}
use Rattle.stripe_placer.specs.Placing.UnitRow.{Idle, UnderWay, Stopped}
use Rattle.core_laws.proofs.DoneLines.{became_of, on_its_unit}
use Rattle.core_laws.proofs.LineNumbers.{IsNumbered, numbered}
use Rattle.core_laws.proofs.PlacedLines.{get_row}
use Rattle.core_laws.proofs.PartLengths.{IsStriped}
use Rattle.core_laws.specs.OpenedLines.{as_opened, by_answer, is_stripe_at, outcome, open_line, open_lines, standing}
use Rattle.core_laws.specs.PlacerOf.{IsAwaited, number_of, placing_of, program_of_placed, row_in, unit_row_in, contains_unit, unanswered_on, waits_again, was_stopped_on}
use Rattle.pblk_world.specs.LegalMounts.{IsLegalMount}
use Rattle.core_laws.proofs.UnitRows.{under_way_is, stopped_is}
use Rattle.core_laws.proofs.StripesByPlace.{find_only, not_at}
use Rattle.core_laws.proofs.Answered.{first_unanswered}
use Rattle.core_laws.proofs.LandedStripe.{one_more}
use Rattle.core_laws.proofs.UnansweredLines.{first_open}
use Rattle.core_laws.specs.LeftOpenings.{left_openings}
use Rattle.core_laws.proofs.LeftLines.{lines_of_left, left_apart}
use Rattle.core_laws.proofs.OneStripe.{one_stripe}
use Rattle.core_laws.proofs.LineForms.{units_back}
use Rattle.core_laws.proofs.StripesInOrder.{its_stripes, stripe_count, wide}
use Rattle.core_laws.proofs.PlainOpenings.{IsOpenedLine, life_stands, opened_lines}
use Rattle.core_laws.proofs.Followed.{IsFollowed, follow}
use Rattle.pblk_core.proofs.LineUnits.{now_units, opened_earlier, same_live}
use Rattle.pblk_model.proofs.Lists.{IsAmong, length_replicate}
use Rattle.pblk_model.proofs.Maps.{any_member, from_map, in_filter, in_map, row_at}
use Rattle.pblk_model.proofs.Tests.{first_of, or_right, same_number}

-- ---- the stripe of a row

pub record IsOfRow (i : Image) (logs : Logs) (unit : ℕ) (of : Program) : Type 0 where
  pub inside : unit < units i.shape
  pub stripe : Placed
  pub opening : Opening
  pub waits : unanswered_on (logs 0) unit ≡ Some stripe
  pub life : stripe.life ≡ Opened opening
  pub is : program_of_placed i logs opening stripe ≡ of

of_stripe : (i : Image) (logs : Logs) (stopped : Bool) (x : Option Placed) (of : Program)
    → option_map_or (λ (p : Placed). row_in i logs stopped p.life p) x Idle ≡ UnderWay of
    → (p : Placed) × (o : Opening) × (x ≡ Some p) × (p.life ≡ Opened o) × (program_of_placed i logs o p ≡ of)
of_stripe i logs stopped None of e = absurd cc
of_stripe i logs stopped (Some p) of e = go p.life refl e
  where
    go : (life : LineLife) → p.life ≡ life → row_in i logs stopped life p ≡ UnderWay of
        → (q : Placed) × (o : Opening) × (Some p ≡ Some q) × (q.life ≡ Opened o) × (program_of_placed i logs o q ≡ of)
    go AsFound is e = absurd cc
    go (Opened o) is e = (p, o, refl, is, under_way_is stopped (program_of_placed i logs o p) of e)
    go (Freed past knows) is e = absurd cc

pub of_row : (i : Image) (logs : Logs) (pad : ℕ) (again : List ℕ) (unit : ℕ) (of : Program)
    → slice_get (placing_of i logs pad again).units unit ≡ Some (UnderWay of) → IsOfRow i logs unit of
of_row i logs pad again unit of there =
    let row : (unit < units i.shape) × (unit_row_in i logs again (0 + unit) ≡ UnderWay of) =
    row_at (unit_row_in i logs again) (units i.shape) 0 unit (UnderWay of) there in
    let whole : 0 + unit ≡ unit = zero-add unit in
    let its = of_stripe i logs (waits_again (logs 0) again unit) (unanswered_on (logs 0) unit) of (ap (unit_row_in i logs again) (sym whole) ∙ row.1) in
    record { inside = row.0; stripe = its.0; opening = its.1; waits = its.2; life = its.3; is = its.4 }

-- of a unit whose program was stopped
of_stop : (i : Image) (logs : Logs) (stopped : Bool) (x : Option Placed) (of : Program)
    → option_map_or (λ (p : Placed). row_in i logs stopped p.life p) x Idle ≡ Stopped of
    → (p : Placed) × (o : Opening) × (x ≡ Some p) × (p.life ≡ Opened o) × (program_of_placed i logs o p ≡ of) × (stopped ≡ true)
of_stop i logs stopped None of e = absurd cc
of_stop i logs stopped (Some p) of e = go p.life refl e
  where
    go : (life : LineLife) → p.life ≡ life → row_in i logs stopped life p ≡ Stopped of
        → (q : Placed) × (o : Opening) × (Some p ≡ Some q) × (q.life ≡ Opened o) × (program_of_placed i logs o q ≡ of) × (stopped ≡ true)
    go AsFound is e = absurd cc
    go (Opened o) is e = let same = stopped_is stopped (program_of_placed i logs o p) of e in (p, o, refl, is, same.1, same.0)
    go (Freed past knows) is e = absurd cc

pub of_stopped_row : (i : Image) (logs : Logs) (pad : ℕ) (again : List ℕ) (unit : ℕ) (of : Program)
    → slice_get (placing_of i logs pad again).units unit ≡ Some (Stopped of) → IsOfRow i logs unit of × (was_stopped_on (logs 0) unit ≡ true)
of_stopped_row i logs pad again unit of there =
    let row : (unit < units i.shape) × (unit_row_in i logs again (0 + unit) ≡ Stopped of) =
    row_at (unit_row_in i logs again) (units i.shape) 0 unit (Stopped of) there in
    let whole : 0 + unit ≡ unit = zero-add unit in
    let its = of_stop i logs (waits_again (logs 0) again unit) (unanswered_on (logs 0) unit) of (ap (unit_row_in i logs again) (sym whole) ∙ row.1) in (
      record { inside = row.0; stripe = its.0; opening = its.1; waits = its.2; life = its.3; is = its.4 },
      first_of (was_stopped_on (logs 0) unit) (not (contains_unit again unit)) its.5,
    )

-- ---- its number in its line

seen_at : Shape → ℕ → ℕ → ℕ → ℕ → Bool
seen_at s live unit block j = (slice_index_or (units_in live) (j % length (units_in live)) 0 == unit) && (j / length (units_in live) * s.ws_opt == block)

-- the number by a line of the same units
pub number_at : (s : Shape) (l m : OpenLine) (stripe : Stripe) (j : ℕ) → l.online ≡ m.online → 0 < s.ws_opt → 0 < width m → j < length l.stripes
    → is_stripe_at s m stripe.unit stripe.at j ≡ true → number_of s l stripe ≡ j
unfolding seen_at
number_at s l m stripe j same some wide inside there =
    let from : 0 + j ≡ j = zero-add j in
    let wide_too : 0 < width l = subst (λ live. 0 < length (units_in live)) (sym same) wide in
    let here : is_stripe_at s l stripe.unit stripe.at j ≡ true = ap (λ live. seen_at s live stripe.unit stripe.at j) same ∙ there in
    ap (λ (x : Option ℕ). unwrap_or x 0)
    (find_only (is_stripe_at s l stripe.unit stripe.at) (length l.stripes) 0 j inside (ap (is_stripe_at s l stripe.unit stripe.at) from ∙ here)
    (λ k other. not_at s l stripe.unit stripe.at k j some wide_too here (λ e. other (e ∙ sym from))))
    ∙ from

-- the line without stripes
pub record IsLineKept (i : Image) (w : World) (o : Opening) : Type 0 where
  pub units : units_in (as_opened i (log_of w) o).online ≡ now_units i w o.line
  pub wide_is : width (as_opened i (log_of w) o) ≡ wide (now_units i w) o.line
  pub count : length (as_opened i (log_of w) o).stripes ≡ stripe_count i (now_units i w) o.line
  pub well : IsOpenedLine i (now_units i w) o.line o
  pub striped : IsStriped i.shape (wide (now_units i w) o.line)

pub line_kept : (i : Image) (w : World) (o : Opening) → IsLegalMount i w → life_of (log_of w 0) o.line ≡ Opened o → IsLineKept i w o
line_kept i w o mount life =
    let steady : IsFollowed i (now_units i w) w = follow i w mount in
    let units : units_in (as_opened i (log_of w) o).online ≡ now_units i w o.line = units_back i (now_units i w) w o steady life in
    let wide_is : width (as_opened i (log_of w) o) ≡ wide (now_units i w) o.line = ap (λ (us : List ℕ). length us) units in
    let well : IsOpenedLine i (now_units i w) o.line o = opened_lines i (now_units i w) w steady o.line o life in
    record {
      units = units;
      wide_is = wide_is;
      count = length_replicate (width (as_opened i (log_of w) o) * (i.shape.clba / i.shape.ws_opt)) Unplaced
          ∙ ap (λ g. g * (i.shape.clba / i.shape.ws_opt)) wide_is;
      well = well;
      striped = its_stripes i (now_units i w) o.line o mount.accepted.drive.ws_opt mount.accepted.drive.whole_stripes well;
    }

-- The stripe has a number in its line, in line order: in a Failed line it needn't be how many were
-- placed before it.
pub record IsOnWay (i : Image) (w : World) (unit : ℕ) (of : Program) : Type 0 where
  pub row : IsOfRow i (log_of w) unit of
  pub its_unit : row.stripe.stripe.unit ≡ unit
  pub stands : life_of (log_of w 0) row.stripe.stripe.line ≡ Opened row.opening
  pub its_line : row.opening.line ≡ row.stripe.stripe.line
  pub is_open : life_of (log_of w 0) row.opening.line ≡ Opened row.opening
  pub line_is : IsLineKept i w row.opening
  pub among : IsAmong (stripes_of (log_of w 0) row.opening) row.stripe
  pub number : ℕ
  pub inside : number < length (as_opened i (log_of w) row.opening).stripes
  pub here : is_stripe_at i.shape (as_opened i (log_of w) row.opening) row.stripe.stripe.unit row.stripe.stripe.at number ≡ true
  pub number_is : of.at ≡ number * i.shape.ws_opt
  -- its unit is in this column of the line, and it begins in this row
  pub column : slice_get (now_units i w row.opening.line) (number % length (now_units i w row.opening.line)) ≡ Some row.stripe.stripe.unit
  pub begins : row.stripe.stripe.at ≡ number / length (now_units i w row.opening.line) * i.shape.ws_opt

pub long : (i : Image) (w : World) (o : Opening) (n : ℕ) → o.number ≤ n
    → length (open_line i (engine_prefix n (log_of w)) o).stripes ≡ length (as_opened i (log_of w) o).stripes
long i w o n later =
    length-map (range_with_len 0 (length (as_opened i (engine_prefix n (log_of w)) o).stripes))
    (outcome i.shape (engine_prefix n (log_of w) 0) o (as_opened i (engine_prefix n (log_of w)) o))
    ∙ length-range_with_len 0 (length (as_opened i (engine_prefix n (log_of w)) o).stripes)
    ∙ ap (λ live. length (opened i.shape o.line live).stripes) (same_live i (log_of w) o n later)

pub on_way : (i : Image) (w : World) (unit : ℕ) (of : Program) → IsLegalMount i w → IsOfRow i (log_of w) unit of → IsOnWay i w unit of
on_way i w unit of mount row =
    let log : List Logged = log_of w 0 in
    let o : Opening = row.opening in
    let p : Placed = row.stripe in
    let first = first_unanswered (log_of w 0) unit p row.waits in
    let stands : life_of (log_of w 0) row.stripe.stripe.line ≡ Opened row.opening = first_open i w unit p mount.legal row.waits ∙ row.life in
    let its_line : row.opening.line ≡ row.stripe.stripe.line =
    (opened_lines i (now_units i w) w (follow i w mount) row.stripe.stripe.line row.opening stands).its_line in
    let is_open : life_of (log_of w 0) row.opening.line ≡ Opened row.opening = ap (life_of (log_of w 0)) its_line ∙ stands in
    let line_is : IsLineKept i w row.opening = line_kept i w row.opening mount is_open in
    let among : IsAmong (stripes_of (log_of w 0) row.opening) row.stripe =
    in_filter (λ (q : Placed). is_life row.opening.number q.life) (placements (log_of w 0)) row.stripe first.among
    (ap (is_life row.opening.number) row.life ∙ same_number row.opening.number) in
    let own : IsNumbered i w mount row.opening is_open row.stripe = numbered i w mount row.opening is_open row.stripe among in
    let count : length (as_opened i (log_of w) row.opening).stripes ≡ stripe_count i (now_units i w) row.opening.line = line_is.count in
    let low = own.inside in
    let inside : own.number < length (as_opened i (log_of w) row.opening).stripes = omega arith in
    let later : row.opening.number ≤ row.stripe.number = opened_earlier (log_of w 0) first.among.0 row.stripe row.opening first.among.1 row.life in
    let g = line_is.wide_is in
    let wide : 0 < width (as_opened i (log_of w) row.opening) = (let h = line_is.striped.wide in omega arith) in
    record {
      row = row;
      its_unit = first.of_unit;
      stands = stands;
      its_line = its_line;
      is_open = is_open;
      line_is = line_is;
      among = among;
      number = own.number;
      inside = inside;
      here = own.at;
      column = own.unit;
      begins = own.row;
      number_is = sym (ap (λ (x : Program). x.at) row.is) ∙ ap (λ n. n * i.shape.ws_opt)
          (number_at i.shape (open_line i (engine_prefix row.stripe.number (log_of w)) row.opening)
          (as_opened i (log_of w) row.opening) row.stripe.stripe own.number
          (same_live i (log_of w) row.opening row.stripe.number later) line_is.striped.some wide
          (subst (λ n. own.number < n) (sym (long i w row.opening row.stripe.number later)) inside) own.at);
    }

-- ---- the program is awaited

pub waits_there : (i : Image) (w : World) (unit : ℕ) (of : Program) → IsLegalMount i w → (is : IsOnWay i w unit of)
    → slice_get (open_line i (log_of w) is.row.opening).stripes is.number ≡ Some Unanswered
waits_there i w unit of mount is =
    let on : IsAmong (stripes_on (log_of w 0) is.row.opening is.row.stripe.stripe.unit) is.row.stripe =
    on_its_unit i w mount is.row.opening is.is_open is.row.stripe is.among in
    let first : 0 + is.number ≡ is.number = zero-add is.number in
    get_row (outcome i.shape (log_of w 0) is.row.opening (as_opened i (log_of w) is.row.opening))
    (length (as_opened i (log_of w) is.row.opening).stripes) 0 is.number is.inside
    ∙ ap (λ m. Some (outcome i.shape (log_of w 0) is.row.opening (as_opened i (log_of w) is.row.opening) m)) first
    ∙ ap (λ x. Some x) (became_of i w mount is.row.opening is.is_open is.number is.row.stripe.stripe.unit on.0 is.row.stripe on.1 is.here)
    ∙ ap (λ a. Some (by_answer a)) (one_more (log_of w 0) unit 0 [] is.row.stripe is.row.waits).before

pub left_there : (i : Image) (w : World) (unit : ℕ) (of : Program) → IsLegalMount i w → (is : IsOnWay i w unit of)
    → IsAmong (left_openings i (log_of w)) is.row.opening
left_there i w unit of mount is =
    let l : OpenLine = open_line i (log_of w) is.row.opening in
    in_filter (λ (o : Opening). has_left (open_line i (log_of w) o)) (standing (log_of w 0)) is.row.opening
    (life_stands i (now_units i w) w (follow i w mount) is.row.opening.line is.row.opening (ap (life_of (log_of w 0)) is.its_line ∙ is.stands))
    (or_right (list_any (is_to_place l) (numbers l)) (list_any is_unanswered l.stripes)
    (any_member is_unanswered l.stripes is.number Unanswered (waits_there i w unit of mount is) refl))

pub unit_is : (i : Image) (w : World) (unit : ℕ) (of : Program) → IsOnWay i w unit of → of.unit ≡ unit
unit_is i w unit of is = sym (ap (λ (x : Program). x.unit) is.row.is) ∙ is.its_unit

pub line_of_way : (i : Image) (w : World) (unit : ℕ) (of : Program) → (is : IsOnWay i w unit of) → is.row.opening.line ≡ of.line
line_of_way i w unit of is = ap (λ (x : Program). x.line) is.row.is

pub stripe_number : (i : Image) (w : World) (unit : ℕ) (of : Program) → (is : IsOnWay i w unit of) → of.at / i.shape.ws_opt ≡ is.number
stripe_number i w unit of is = ap (λ n. n / i.shape.ws_opt) is.number_is ∙ mul-div_cancel is.number is.line_is.striped.some

-- no other open line is of its line
only_line : (i : Image) (w : World) (unit : ℕ) (of : Program) → IsLegalMount i w → (is : IsOnWay i w unit of) → (l : OpenLine)
    → IsAmong (open_lines i (log_of w)) l → l.line ≡ of.line → open_line i (log_of w) is.row.opening ≡ l
only_line i w unit of mount is l among same =
    let from : (o : Opening) × IsAmong (left_openings i (log_of w)) o × (open_line i (log_of w) o ≡ l) =
    from_map (open_line i (log_of w)) (left_openings i (log_of w)) l (subst (λ ls. IsAmong ls l) (lines_of_left i (log_of w)) among) in
    let own : IsAmong (left_openings i (log_of w)) is.row.opening = left_there i w unit of mount is in
    let line : is.row.opening.line ≡ from.0.line = line_of_way i w unit of is ∙ sym same ∙ ap (λ (x : OpenLine). x.line) (sym from.2) in
    let at : own.0 ≡ from.1.0 = left_apart i (log_of w) own.0 from.1.0 is.row.opening from.0 own.1 from.1.1 line in
    ap (open_line i (log_of w)) (same_Some is.row.opening from.0 (sym own.1 ∙ ap (slice_get (left_openings i (log_of w))) at ∙ from.1.1)) ∙ from.2

pub awaited : (i : Image) (w : World) (pad : ℕ) (again : List ℕ) (unit : ℕ) (of : Program) → IsLegalMount i w → IsOnWay i w unit of
    → slice_get (placing_of i (log_of w) pad again).units unit ≡ Some (UnderWay of)
    → IsAwaited i (log_of w) pad again of
awaited i w pad again unit of mount is row =
    let u : of.unit ≡ unit = unit_is i w unit of is in
    let j : of.at / i.shape.ws_opt ≡ is.number = stripe_number i w unit of is in
    let own : IsAmong (left_openings i (log_of w)) is.row.opening = left_there i w unit of mount is in
    let among : IsAmong (open_lines i (log_of w)) (open_line i (log_of w) is.row.opening) =
    subst (λ ls. IsAmong ls (open_line i (log_of w) is.row.opening)) (sym (lines_of_left i (log_of w)))
    (in_map (open_line i (log_of w)) (left_openings i (log_of w)) is.row.opening own) in
    let few : length (placed_on (log_of w 0) unit) ≤ length (answers (log_of w 0) unit) + 1 = one_stripe i w unit mount.legal in
    let some : length (answers (log_of w 0) unit) < length (placed_on (log_of w 0) unit) =
    slice_get_within (placed_on (log_of w 0) unit) (length (answers (log_of w 0) unit)) is.row.stripe is.row.waits in
    let one : length (placed_on (log_of w 0) unit) ≡ length (answers (log_of w 0) unit) + 1 = omega arith in
    let here : unit_of (open_line i (log_of w) is.row.opening) is.number ≡ unit =
    eqb-true (unit_of (as_opened i (log_of w) is.row.opening) is.number) is.row.stripe.stripe.unit
    (first_of (unit_of (as_opened i (log_of w) is.row.opening) is.number == is.row.stripe.stripe.unit)
    (is.number / width (as_opened i (log_of w) is.row.opening) * i.shape.ws_opt == is.row.stripe.stripe.at) is.here) ∙ is.its_unit in
    record {
      under_way = ap (slice_get (placing_of i (log_of w) pad again).units) u ∙ row;
      stripe = record {
        unit_is = refl;
        line = (open_line i (log_of w) is.row.opening, among, line_of_way i w unit of is);
        stripe = λ l at same.
            subst (λ (m : OpenLine). IsUnanswered m (of.at / i.shape.ws_opt) × (unit_of m (of.at / i.shape.ws_opt) ≡ of.unit))
            (only_line i w unit of mount is l at same) (
              ap (slice_get (open_line i (log_of w) is.row.opening).stripes) j
                  ∙ waits_there i w unit of mount is,
              ap (unit_of (open_line i (log_of w) is.row.opening)) j ∙ here ∙ sym u,
            );
      };
      one = subst (λ v. length (placed_on (log_of w 0) v) ≡ length (answers (log_of w 0) v) + 1) (sym u) one;
    }

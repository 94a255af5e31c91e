-- What the placer of a mount offers beside stopped stripes: the next stripe of an opened
-- line, on an idle unit.
use Rattle.std.proofs.Common.{◌≡◌, ℕ, ◌-◌, ◌*◌, ◌/◌, ◌%◌, ◌<◌, ◌≤◌, ◌&&◌, not, nat_lt, Bool, true, false, Some, None, Option, List, ◌++◌, map, length, refl, sym, ap, ap₂, ◌∙◌, arith, mod-lt}
use Rattle.std.specs.Prelude.{slice_get}
use Rattle.std.specs.List.{filter_map, find, range_with_len, slice_index_or}
use Rattle.std.specs.Option.{option_map_or}
use Rattle.std.proofs.lemmas.Option.{same_Some, none-some, slice_get-get_or}
use Rattle.pblk_model.specs.declared.shape.Shape.{Shape}
use Rattle.pblk_model.specs.Shape.{units}
use Rattle.pblk_model.specs.Image.{Image}
use Rattle.pblk_layout.specs.Online.{is_in, is_online, units_in}
use Rattle.pblk_world.specs.Events.{Logged}
use Rattle.pblk_world.specs.World.{World, log_of}
use Rattle.pblk_world.specs.Lines.{known_image}
use Rattle.pblk_world.specs.EngineLog.{is_opened, Opening, Opened, life_of, placed_on, answers, stripes_of, has_failed}
use Rattle.stripe_placer.specs.Entries.{Entries}
use Rattle.stripe_placer.specs.OpenLines.{OpenLine, width, has_left, next_of, kind_of}
use Rattle.stripe_placer.specs.Placing.{Program, UnitRow, stopped_in, is_under_way, is_ready, allows, next_positions, program_of, next_in, next_stripe}
use Rattle.stripe_placer.proofs.Named.{IsProgramIn, its_program}
use Rattle.stripe_placer.proofs.Chunks.{lt_of as is_below}
use Rattle.core_laws.specs.OpenedLines.{open_line, standing, open_lines}
use Rattle.core_laws.specs.PlacerOf.{entries_of, unit_row_in, placing_of}
use Rattle.core_laws.proofs.Followed.{IsFollowed}
use Rattle.core_laws.proofs.StandingOpenings.{standing_opened}
use Rattle.core_laws.proofs.KeptLines.{few_units, live_inside, unit_live}
use Rattle.core_laws.proofs.StripesInOrder.{wide, stripe_count, IsAtPlace}
use Rattle.core_laws.proofs.LineForms.{IsLineOf, line_of, formed}
use Rattle.core_laws.proofs.NextStripes.{next_is, none_next}
use Rattle.core_laws.proofs.IdleRows.{not_again, is_idle, row_there}
use Rattle.stripe_placer.proofs.Rows.{find_first, find_second}
use Rattle.pblk_model.proofs.Lists.{IsAmong}
use Rattle.pblk_model.proofs.Maps.{found_passes, from_filter, from_given, from_map}
use Rattle.pblk_model.proofs.Parts.{all_at}
use Rattle.pblk_model.proofs.Tests.{le_of_lt_false}
use Rattle.pblk_world.proofs.LinesLemmas.{length_known}

-- ---- the opened line of an offered program

-- what is offered is the next program of a line
pub record IsOfferedBy (i : Image) (us : ℕ → List ℕ) (w : World) (pad : ℕ) (of : Program) (o : Opening) : Type 0 where
  pub life : life_of (log_of w 0) o.line ≡ Opened o
  pub next : next_in i.shape (entries_of i.shape (log_of w 0) pad) (open_line i (log_of w) o) ≡ Some of

offered_by : (i : Image) (us : ℕ → List ℕ) (w : World) (pad : ℕ) (of : Program) → IsFollowed i us w
    → IsAmong (filter_map (next_in i.shape (entries_of i.shape (log_of w 0) pad)) (open_lines i (log_of w))) of → (o : Opening) × IsOfferedBy i us w pad of o
offered_by i us w pad of is among =
    let e : Entries = entries_of i.shape (log_of w 0) pad in
    let from = from_given (next_in i.shape e) (open_lines i (log_of w)) of among.0 among.1 in
    let line = from_map (open_line i (log_of w)) (standing (log_of w 0)) from.0
    (from_filter has_left (map (open_line i (log_of w)) (standing (log_of w 0))) from.0 from.1) in
    let life : life_of (log_of w 0) line.0.line ≡ Opened line.0 =
    all_at (λ (o : Opening). life_of (log_of w 0) o.line ≡ Opened o) (standing (log_of w 0)) line.1.0 line.0 line.1.1 (standing_opened (log_of w 0)) in
    (line.0, record { life = life; next = ap (next_in i.shape e) line.2 ∙ from.2 })

-- ---- units

pub unit_within : (i : Image) (us : ℕ → List ℕ) (w : World) (line k unit : ℕ) → IsFollowed i us w → is_opened (life_of (log_of w 0) line) ≡ true
    → slice_get (us line) k ≡ Some unit → unit < units i.shape
unit_within i us w line k unit is opened e =
    let j : Image = known_image i (log_of w) in
    let few : length (known_image i (log_of w)).units ≤ 64 = few_units i w (log_of w) is.mount in
    let live : is_online (known_image i (log_of w)) line unit ≡ true =
    unit_live (known_image i (log_of w)) line k unit few (ap (λ (xs : List ℕ). slice_get xs k) (is.keeps line opened) ∙ e) in
    let inside : unit < length (known_image i (log_of w)).units =
    live_inside (known_image i (log_of w)) line unit live in
    let same : length (known_image i (log_of w)).units ≡ length i.units = length_known i (log_of w) in
    let count = is.mount.fit.units in
    omega arith

get_at : (us : List ℕ) (k u : ℕ) → k < length us → slice_index_or us k 0 ≡ u → slice_get us k ≡ Some u
get_at us k u h e = slice_get-get_or us k 0 h ∙ ap (λ n. Some n) e

-- ---- the offered program

-- all that is known of it, and of its stripe's number
pub record IsOffered (i : Image) (us : ℕ → List ℕ) (w : World) (pad : ℕ) (of : Program) (o : Opening) : Type 0 where
  pub life : life_of (log_of w 0) o.line ≡ Opened o
  pub line_is : IsLineOf i us w o
  pub next : next_in i.shape (entries_of i.shape (log_of w 0) pad) (open_line i (log_of w) o) ≡ Some of
  pub its_line : of.line ≡ o.line
  pub inside : length (stripes_of (log_of w 0) o) < stripe_count i us o.line
  pub at : of.at ≡ length (stripes_of (log_of w 0) o) * i.shape.ws_opt
  pub place : IsAtPlace i us o.line (length (stripes_of (log_of w 0) o)) of.unit of.block
  pub kind : kind_of (open_line i (log_of w) o) (length (stripes_of (log_of w 0) o)) ≡ of.kind
  pub allowed : allows i.shape (entries_of i.shape (log_of w 0) pad) (open_line i (log_of w) o) of.kind ≡ true
  pub positions : next_positions i.shape (entries_of i.shape (log_of w 0) pad) of.kind ≡ of.positions
  pub unit : of.unit < units i.shape
  pub idle : length (answers (log_of w 0) of.unit) ≡ length (placed_on (log_of w 0) of.unit)

-- the number of a line's next stripe, and that the line has so many
next_number : (i : Image) (us : ℕ → List ℕ) (w : World) (o : Opening) (j : ℕ) → has_failed (log_of w 0) o ≡ false → IsLineOf i us w o
    → next_of (open_line i (log_of w) o) ≡ Some j
    → (length (stripes_of (log_of w 0) o) < stripe_count i us o.line) × (length (stripes_of (log_of w 0) o) ≡ j)
next_number i us w o j whole line e = go (nat_lt (length (stripes_of (log_of w 0) o)) (stripe_count i us o.line)) refl
  where
    go : (b : Bool) → nat_lt (length (stripes_of (log_of w 0) o)) (stripe_count i us o.line) ≡ b
        → (length (stripes_of (log_of w 0) o) < stripe_count i us o.line) × (length (stripes_of (log_of w 0) o) ≡ j)
    go true f =
        let inside : length (stripes_of (log_of w 0) o) < stripe_count i us o.line =
        is_below (length (stripes_of (log_of w 0) o)) (stripe_count i us o.line) f in (
          inside,
          same_Some (length (stripes_of (log_of w 0) o)) j
              (sym (next_is (open_line i (log_of w) o) (log_of w 0) (stripes_of (log_of w 0) o) (stripe_count i us o.line - length (stripes_of (log_of w 0) o))
              whole (formed i us w o line) (omega arith)) ∙ e),
        )
    go false f =
        let outside : stripe_count i us o.line ≤ length (stripes_of (log_of w 0) o) =
        le_of_lt_false (length (stripes_of (log_of w 0) o)) (stripe_count i us o.line) f in
        absurd (none-some j (sym (none_next (open_line i (log_of w) o) (log_of w 0) (stripes_of (log_of w 0) o)
        (stripe_count i us o.line - length (stripes_of (log_of w 0) o)) whole (formed i us w o line) (omega arith)) ∙ e))

not_true : (a b : Bool) → (not a && not b) ≡ true → b ≡ false
not_true true b e = absurd cc
not_true false true e = absurd cc
not_true false false e = refl

-- its unit is idle
pub unit_idle : (i : Image) (us : ℕ → List ℕ) (w : World) (again : List ℕ) (busy : ℕ) (of : Program) → IsFollowed i us w → of.unit < units i.shape
    → is_ready (map (unit_row_in i (log_of w) again) (range_with_len 0 (units i.shape))) busy of.unit ≡ true
    → stopped_in (unit_row_in i (log_of w) again of.unit) ≡ None
    → length (answers (log_of w 0) of.unit) ≡ length (placed_on (log_of w 0) of.unit)
unit_idle i us w again busy of is within ready none =
    is_idle i us w again of.unit is
    (ap (λ (r : Option UnitRow). option_map_or is_under_way r false) (sym (row_there i (log_of w) again of.unit within))
    ∙ not_true (is_in busy of.unit)
    (option_map_or is_under_way (slice_get (map (unit_row_in i (log_of w) again) (range_with_len 0 (units i.shape))) of.unit) false) ready)
    none

pub offered : (i : Image) (us : ℕ → List ℕ) (w : World) (pad : ℕ) (again : List ℕ) (busy : ℕ) (of : Program) (o : Opening) → IsFollowed i us w
    → has_failed (log_of w 0) o ≡ false → IsOfferedBy i us w pad of o
    → is_ready (map (unit_row_in i (log_of w) again) (range_with_len 0 (units i.shape))) busy of.unit ≡ true
    → stopped_in (unit_row_in i (log_of w) again of.unit) ≡ None
    → IsOffered i us w pad of o
offered i us w pad again busy of o is whole by ready none =
    let s : Shape = i.shape in
    let log : List Logged = log_of w 0 in
    let e : Entries = entries_of s log pad in
    let l : OpenLine = open_line i (log_of w) o in
    let line : IsLineOf i us w o = line_of i us w o is by.life whole in
    let its : (j : ℕ) × IsProgramIn s e l of j = its_program s e l of by.next in
    let j : ℕ = its.0 in
    let number = next_number i us w o j whole line its.1.next in
    let k : ℕ = length (stripes_of log o) in
    let made : Program = program_of s l j (kind_of l j) (next_positions s e (kind_of l j)) in
    let same : made ≡ of = its.1.is in
    let kind : kind_of l j ≡ of.kind = ap (λ (x : Program). x.kind) same in
    let unit : slice_index_or (units_in l.online) (j % width l) 0 ≡ of.unit = ap (λ (x : Program). x.unit) same in
    let g : width l ≡ wide us o.line = line.wide_is in
    let inside : k % wide us o.line < wide us o.line = mod-lt k {m = wide us o.line} line.striped.wide in
    let unit_here : slice_get (us o.line) (k % wide us o.line) ≡ Some of.unit =
    get_at (us o.line) (k % wide us o.line) of.unit inside
    (ap₂ (λ (us : List ℕ) m. slice_index_or us m 0) (sym line.units) (ap₂ (λ a b. a % b) number.1 (sym g)) ∙ unit) in
    let within : of.unit < units i.shape = unit_within i us w o.line (k % wide us o.line) of.unit is (ap is_opened by.life) unit_here in
    record {
      life = by.life;
      line_is = line;
      next = by.next;
      its_line = sym (ap (λ (x : Program). x.line) same);
      inside = number.0;
      at = sym (ap (λ (x : Program). x.at) same) ∙ ap (λ n. n * s.ws_opt) (sym number.1);
      place = record {
        its_unit = unit_here;
        its_block = sym (ap (λ (x : Program). x.block) same) ∙ ap₂ (λ a b. a / b * s.ws_opt) (sym number.1) g;
      };
      kind = ap (kind_of l) number.1 ∙ kind;
      allowed = ap (allows s e l) (sym kind) ∙ its.1.allowed;
      positions = ap (next_positions s e) (sym kind) ∙ ap (λ (x : Program). x.positions) same;
      unit = within;
      idle = unit_idle i us w again busy of is within ready none;
    }

-- what is none of the stopped is of the others
new_only : (test : Program → Bool) (stopped given : List Program) (of : Program) → ((k : ℕ) → slice_get stopped k ≡ Some of → ⊥)
    → find test (stopped ++ given) ≡ Some of → find test given ≡ Some of
new_only test stopped given of never next = go (find test stopped) refl
  where
    go : (o : Option Program) → find test stopped ≡ o → find test given ≡ Some of
    go None e = sym (find_second test stopped given e) ∙ next
    go (Some x) e =
        let same : x ≡ of = same_Some x of (sym (find_first test stopped given x e) ∙ next) in
        let at = found_passes test stopped of (e ∙ ap (λ y. Some y) same) in
        absurd (never at.1.0 at.1.1)

-- the line of the program, whose unit is ready
pub offered_line : (i : Image) (us : ℕ → List ℕ) (w : World) (pad : ℕ) (again : List ℕ) (busy : ℕ) (of : Program) → IsFollowed i us w
    → next_stripe (placing_of i (log_of w) pad again) busy ≡ Some of → stopped_in (unit_row_in i (log_of w) again of.unit) ≡ None
    → (o : Opening) × IsOfferedBy i us w pad of o × (is_ready (map (unit_row_in i (log_of w) again) (range_with_len 0 (units i.shape))) busy of.unit ≡ true)
offered_line i us w pad again busy of is next none =
    let rows : List UnitRow = map (unit_row_in i (log_of w) again) (range_with_len 0 (units i.shape)) in
    let given : List Program = filter_map (next_in i.shape (entries_of i.shape (log_of w 0) pad)) (open_lines i (log_of w)) in
    let only : find (λ (x : Program). is_ready rows busy x.unit) given ≡ Some of =
    new_only (λ (x : Program). is_ready rows busy x.unit) (filter_map stopped_in rows) given of
    (λ k there. not_again i (log_of w) again 0 (units i.shape) k of none there) next in
    let found = found_passes (λ (x : Program). is_ready rows busy x.unit) given of only in
    let by = offered_by i us w pad of is found.1 in
    (by.0, by.1, found.0)

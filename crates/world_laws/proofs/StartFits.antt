-- The start record with which a line is opened fits its line: it reads back whole.
use Rattle.std.proofs.Common.{◌≡◌, ◌≢◌, ◌⊎◌, inl, inr, ℕ, ◌+◌, ◌-◌, ◌^◌, ◌<◌, ◌≤◌, ◌==◌, ◌&&◌, not, nat_lt, nat_le, zero, suc, Bool, true, false, Some, None, Option, List, ◌∷◌, length, take, refl, sym, subst, ap, ◌∙◌, arith, if◌then◌else◌}
use Rattle.std.specs.Prelude.{slice_get}
use Rattle.std.specs.List.{Contains, cons_option, filter_map, range_with_len}
use Rattle.std.specs.Option.{IfSome, is_some, option_map_or}
use Rattle.std.proofs.lemmas.Bool.{cases_order, eq-eqb}
use Rattle.pblk_model.specs.declared.shape.Shape.{Shape}
use Rattle.pblk_model.specs.Chunk.{Chunk}
use Rattle.pblk_model.specs.Contents.{head, end}
use Rattle.pblk_model.specs.Image.{Image, IsFit, is_online_in, width}
use Rattle.pblk_model.specs.Shape.{units}
use Rattle.pblk_model.specs.StartRecord.{Row, StartRecord, rows_fit, start_fits, start_of}
use Rattle.pblk_world.specs.World.{World, Logs, log_of}
use Rattle.pblk_world.specs.EngineLog.{Begun, begun, Opening, openings, LineLife, AsFound, Opened, Freed, is_as_found, life_of}
use Rattle.pblk_world.specs.Fronts.{first_position}
use Rattle.pblk_world.specs.Legal.{IsLegal}
use Rattle.pblk_world.specs.Lines.{are_empty, found_by, found_image, has_number, known_image, line_data, next_seq}
use Rattle.pblk_world.specs.Opening.{MayOpen}
use Rattle.pblk_world.specs.Starts.{bound_by, found_row, older_bound, older_row}
use Rattle.pblk_world.specs.Victims.{engine_prefix}
use Rattle.pblk_world.proofs.EngineLogLemmas.{begun_taken}
use Rattle.pblk_world.proofs.LinesLemmas.{length_known}
use Rattle.pblk_laws.proofs.Starts.{HasNumbers, found_is, numbers}
use Rattle.pblk_laws.proofs.Widths.{filter_map_length}
use Rattle.pblk_model.proofs.Lists.{among_contained}
use Rattle.pblk_model.proofs.Maps.{filter_short, longer_option}
use Rattle.pblk_model.proofs.Tests.{and_both, first_of, le_true, lt_true, not_both, not_true, other_number, same_number}
use Rattle.world_laws.proofs.Begun.{IsBegunWith, begun_with}
use Rattle.world_laws.proofs.FoundCounts.{bound_within, seq_older}
use Rattle.world_laws.proofs.StartRecords.{IsNthOpening, front_from_first, nth_opening, opened_later}
use Rattle.world_laws.proofs.ToldImages.{found_at}

-- ---- how wide a line is

pub width_few : (j : Image) (line : ℕ) → width j line ≤ length j.units
width_few j line =
    let online : width j line ≤ length (filter_map (λ (unit : List Chunk). slice_get unit line) j.units) =
    filter_short (λ (c : Chunk). is_online_in c.state) _ in
    let there : length (filter_map (λ (unit : List Chunk). slice_get unit line) j.units) ≤ length j.units =
    filter_map_length (λ (unit : List Chunk). slice_get unit line) j.units in
    omega arith

-- an opened line has no more chunks than there are units
pub opening_narrow : (i : Image) (w : World) (o : Opening) → IsFit i → IsLegal i w → Contains (openings (log_of w 0)) o → o.start.width ≤ units i.shape
opening_narrow i w o fit legal there =
    let at = among_contained (openings (log_of w 0)) o there in
    let is : IsNthOpening i w at.0 o = nth_opening i w at.0 o legal at.1 in
    let logs : Logs = engine_prefix o.number (log_of w) in
    let wide : o.start.width ≡ width (known_image i (engine_prefix o.number (log_of w))) o.line = is.may.own_width in
    let few : width (known_image i (engine_prefix o.number (log_of w))) o.line ≤ length (known_image i (engine_prefix o.number (log_of w))).units =
    width_few (known_image i logs) o.line in
    let all : length (known_image i (engine_prefix o.number (log_of w))).units ≡ length i.units = length_known i logs in
    let units_are : length i.units ≡ units i.shape = fit.units in
    omega arith

-- ---- rows that fit a start record

-- a line's row in a start record of another line
pub record IsRowFor (r : StartRecord) (line : ℕ) (row : Row) : Type 0 where
  pub line_is : row.line ≡ line
  pub other : line ≢ r.line
  pub some_seq : 1 ≤ row.seq
  pub older : row.seq < r.first_seq
  pub bound : row.bound ≤ r.front

module _ (s : Shape) (r : StartRecord) (give : ℕ → Option Row) (each : (line : ℕ) → line < s.chunks → IfSome (give line) (IsRowFor r line)) where
  abbrev given : ℕ → ℕ → List Row
  given a k = filter_map give (range_with_len a k)

  one_fits : (least line : ℕ) (row : Row) (rows : List Row) → IsRowFor r line row → least ≤ line → line < s.chunks → rows_fit s r (line + 1) rows ≡ true
      → rows_fit s r least (row ∷ rows) ≡ true
  one_fits least line row rows is low inside rest =
      let same : row.line ≡ line = is.line_is in
      let p1 = and_both (nat_le least row.line) (nat_lt row.line s.chunks) (le_true least row.line (omega arith)) (lt_true row.line s.chunks (omega arith)) in
      let p2 = and_both _ (not (row.line == r.line)) p1 (ap not (other_number row.line r.line (λ e. is.other (sym is.line_is ∙ e)))) in
      let p3 = and_both _ (nat_le 1 row.seq) p2 (le_true 1 row.seq is.some_seq) in
      let p4 = and_both _ (nat_lt row.seq r.first_seq) p3 (lt_true row.seq r.first_seq is.older) in
      let p5 = and_both _ (nat_le row.bound r.front) p4 (le_true row.bound r.front is.bound) in
      and_both _ (rows_fit s r (row.line + 1) rows) p5 (ap (λ n. rows_fit s r (n + 1) rows) is.line_is ∙ rest)

  all_fit : (k a least : ℕ) → least ≤ a → a + k ≤ s.chunks → rows_fit s r least (given a k) ≡ true
  all_fit zero a least low within = refl
  all_fit (suc k) a least low within =
      go (give a) (each a (omega arith)) (all_fit k (a + 1) least (omega arith) (omega arith)) (all_fit k (a + 1) (a + 1) (omega arith) (omega arith))
    where
      go : (o : Option Row) → IfSome o (IsRowFor r a) → rows_fit s r least (given (a + 1) k) ≡ true → rows_fit s r (a + 1) (given (a + 1) k) ≡ true
          → rows_fit s r least (cons_option o (given (a + 1) k)) ≡ true
      go None is skip rest = skip
      go (Some row) is skip rest = one_fits least a row (given (a + 1) k) is low (omega arith) rest

  few_all : (k a : ℕ) → length (given a k) ≤ k
  few_all zero a = omega arith
  few_all (suc k) a = let one = longer_option (give a) (given (a + 1) k) in let rest = few_all k (a + 1) in omega arith

  none_of : (o : Option Row) → IfSome o (IsRowFor r r.line) → o ≡ None
  none_of None is = refl
  none_of (Some row) is = absurd (is.other refl)

  -- the record's own line has none
  few_but_own : (k a : ℕ) → a ≤ r.line → r.line < a + k → a + k ≤ s.chunks → length (given a k) + 1 ≤ k
  few_but_own zero a low high within = absurd (omega arith)
  few_but_own (suc k) a low high within = go (cases_order a r.line) (λ later. few_but_own k (a + 1) later (omega arith) (omega arith))
    where
      go : (a ≡ r.line) ⊎ ((a < r.line) ⊎ (r.line < a)) → (a + 1 ≤ r.line → length (given (a + 1) k) + 1 ≤ k)
          → length (cons_option (give a) (given (a + 1) k)) + 1 ≤ suc k
      go (inl same) rest =
          let gone : give a ≡ None = ap give same ∙ none_of (give r.line) (each r.line (omega arith)) in
          let left : length (cons_option (give a) (given (a + 1) k)) ≡ length (given (a + 1) k) = ap (λ o. length (cons_option o (given (a + 1) k))) gone in
          let few = few_all k (a + 1) in
          omega arith
      go (inr (inl less)) rest = let one = longer_option (give a) (given (a + 1) k) in let few = rest (omega arith) in omega arith
      go (inr (inr more)) rest = absurd (omega arith)

  given_fit : r.line < s.chunks → r.rows ≡ given 0 s.chunks → (length r.rows ≤ s.chunks - 1) × (rows_fit s r 0 r.rows ≡ true)
  given_fit inside rows =
      let few : length (given 0 s.chunks) + 1 ≤ s.chunks = few_but_own s.chunks 0 (omega arith) (omega arith) (omega arith) in
      let same : length r.rows ≡ length (given 0 s.chunks) = ap length rows in
      (omega arith, ap (rows_fit s r 0) rows ∙ all_fit s.chunks 0 0 (omega arith) (omega arith))

-- ---- the rows of older lines

as_found_is : (life : LineLife) → is_as_found life ≡ true → life ≡ AsFound
as_found_is AsFound e = refl
as_found_is (Opened o) e = absurd (cc)
as_found_is (Freed was knows) e = absurd (cc)

found_shape : (i : Image) (logs : Logs) (o : Option Begun) → (found_by i logs o).shape ≡ i.shape
found_shape i logs None = refl
found_shape i logs (Some b) = refl

-- the line that is opened had no number
no_number : (i : Image) (logs : Logs) (g : Begun) (line : ℕ) (start : StartRecord) → MayOpen i logs g line start → life_of (logs 0) line ≡ AsFound
    → is_some (start_of (found_image i logs) line) ≡ false
no_number i logs g line start may life =
    let number : Bool = has_number i logs (life_of (logs 0) line) line in
    let known : Image = known_image i logs in
    ap (λ x. has_number i logs x line) (sym life)
    ∙ not_true number (first_of (not number) (are_empty known line)
    (first_of (not number && are_empty known line) (nat_lt 0 (line_data known line)) may.is_free))

rows_for : (i : Image) (logs : Logs) (g : Begun) (line : ℕ) (start : StartRecord) → MayOpen i logs g line start
    → first_position (logs 0) ≡ end (found_image i logs) → start.first_seq ≡ next_seq (head (found_image i logs))
    → end (found_image i logs) ≤ start.front → (other : ℕ) → other < i.shape.chunks
    → IfSome (older_row i logs other) (IsRowFor start other)
rows_for i logs g line start may first seq front other inside = go (is_as_found (life_of (logs 0) other)) refl (start_of (found_image i logs) other) refl
  where
    found : Image
    found = found_image i logs

    go : (c : Bool) → is_as_found (life_of (logs 0) other) ≡ c → (o : Option StartRecord) → start_of (found_image i logs) other ≡ o
        → IfSome (if c then found_row i logs other o else None) (IsRowFor start other)
    go false c o e = tt
    go true c None e = tt
    go true c (Some r) e =
        let range : other < (found_image i logs).shape.chunks = subst (λ (s : Shape). other < s.chunks) (sym (found_shape i logs (begun (logs 0)))) inside in
        let has : HasNumbers (found_image i logs).shape other (width (found_image i logs) other) r =
        numbers (found_image i logs).shape other (width (found_image i logs) other) r (found_is (found_image i logs) other r e).0 in
        let some : 1 ≤ r.first_seq = has.some_first in
        let own : r.first_seq ≤ r.seq = has.first_seq in
        let older : r.seq < next_seq (head (found_image i logs)) = seq_older (found_image i logs) other r range e in
        let low : bound_by (head (found_image i logs)) (end (found_image i logs)) other r.seq ≤ end (found_image i logs) =
        bound_within (found_image i logs) (head (found_image i logs)) (end (found_image i logs)) other r.seq refl refl in
        let bound : older_bound i logs other r.seq ≡ bound_by (head (found_image i logs)) (end (found_image i logs)) other r.seq =
        ap (λ p. bound_by (head (found_image i logs)) p other r.seq) first in
        record {
          line_is = refl;
          other = λ same.
              let here : other ≡ line = same ∙ may.own_line in
              let life : life_of (logs 0) line ≡ AsFound = ap (life_of (logs 0)) (sym here) ∙ as_found_is (life_of (logs 0) other) c in
              not_both (is_some (start_of (found_image i logs) line)) (ap (λ l. is_some (start_of (found_image i logs) l)) (sym here) ∙ ap is_some e)
              (no_number i logs g line start may life);
          some_seq = omega arith;
          older = omega arith;
          bound = omega arith;
        }

pub next_positive : (o : Option StartRecord) → 1 ≤ next_seq o
next_positive None = omega arith
next_positive (Some h) = omega arith

-- ---- the whole record

pub opening_fits : (i : Image) (w : World) (o : Opening) → IsLegal i w → Contains (openings (log_of w 0)) o
    → start_fits i.shape o.line o.start.width o.start ≡ true
opening_fits i w o legal there =
    let at = among_contained (openings (log_of w 0)) o there in
    let is : IsNthOpening i w at.0 o = nth_opening i w at.0 o legal at.1 in
    let logs : Logs = engine_prefix o.number (log_of w) in
    let s : Shape = i.shape in
    let r : StartRecord = o.start in
    let later_on : 0 < o.number = opened_later i w at.0 o legal at.1 in
    let with_ : IsBegunWith i w is.g = begun_with i w is.g legal is.is_begun in
    let found : found_image i (engine_prefix o.number (log_of w)) ≡ found_image i (log_of w) = found_at i (log_of w) o.number later_on in
    let position : first_position (log_of w 0) ≡ is.g.beginning.first = ap (λ e. option_map_or (λ (b : Begun). b.beginning.first) e 0) is.is_begun in
    let first : first_position (take o.number (log_of w 0)) ≡ end (found_image i (engine_prefix o.number (log_of w))) =
    ap (λ e. option_map_or (λ (b : Begun). b.beginning.first) e 0) (begun_taken o.number (log_of w 0) later_on) ∙ position ∙ with_.first ∙ ap end (sym found) in
    let mount : o.start.first_seq ≡ next_seq (head (found_image i (engine_prefix o.number (log_of w)))) =
    is.may.first_seq ∙ with_.seq ∙ ap (λ (j : Image). next_seq (head j)) (sym found) in
    let low : first_position (log_of w 0) ≤ o.start.front = front_from_first i w at.0 o legal at.1 in
    let end_is : end (found_image i (engine_prefix o.number (log_of w))) ≡ first_position (log_of w 0) = ap end found ∙ sym with_.first ∙ sym position in
    let own : o.start.first_seq ≡ is.g.beginning.seq = is.may.first_seq in
    let seq : o.start.seq ≡ is.g.beginning.seq + length (openings (take o.number (log_of w 0))) = is.may.seq in
    let some : 1 ≤ next_seq (head (found_image i (engine_prefix o.number (log_of w)))) =
    next_positive (head (found_image i (engine_prefix o.number (log_of w)))) in
    let inside : o.line < i.shape.chunks = is.may.in_range in
    let its : o.start.line ≡ o.line = is.may.own_line in
    let rows = given_fit i.shape o.start (older_row i (engine_prefix o.number (log_of w)))
    (rows_for i (engine_prefix o.number (log_of w)) is.g o.line o.start is.may first mount (omega arith)) (omega arith) is.may.rows in
    let p1 = and_both (r.line == o.line) (r.width == r.width) (eq-eqb r.line o.line its) (same_number r.width) in
    let p2 = and_both _ (r.capacity == s.capacity) p1 (eq-eqb r.capacity s.capacity is.may.own_capacity) in
    let p3 = and_both _ (nat_le 1 r.first_seq) p2 (le_true 1 r.first_seq (omega arith)) in
    let p4 = and_both _ (nat_le r.first_seq r.seq) p3 (le_true r.first_seq r.seq (omega arith)) in
    let p5 = and_both _ (nat_lt r.seq (2 ^ 61)) p4 (lt_true r.seq (2 ^ 61) is.may.seq_number) in
    let p6 = and_both _ (nat_lt r.front (2 ^ 61)) p5 (lt_true r.front (2 ^ 61) is.may.front_number) in
    let p7 = and_both _ (nat_le (length r.rows) (s.chunks - 1)) p6 (le_true (length r.rows) (s.chunks - 1) rows.0) in
    and_both _ (rows_fit s r 0 r.rows) p7 rows.1

-- What a core that opens a line keeps, and what is known of the line.
use Rattle.std.proofs.Common.{◌≡◌, ℕ, ◌+◌, ◌*◌, ◌/◌, ◌^◌, ◌<◌, ◌≤◌, not, zero, suc, nat_lt, Bool, true, false, Some, None, Option, length, refl, sym, subst, ap, ◌∙◌, arith, le_refl, mul-suc}
use Rattle.std.specs.Prelude.{position, slice_get}
use Rattle.std.specs.List.{AllByRecursion, slice_index_or}
use Rattle.std.specs.Option.{is_some, unwrap_or}
use Rattle.std.proofs.Math.Nat.{add-mul, mul-le-mul_right}
use Rattle.std.proofs.lemmas.Bool.{eqb-true}
use Rattle.std.proofs.lemmas.Option.{get_or_from_slice_get, slice_get-get_or, same_Some}
use Rattle.pblk_model.specs.declared.shape.Shape.{Shape}
use Rattle.pblk_model.specs.Accepted.{IsAccepted}
use Rattle.pblk_model.specs.Shape.{units}
use Rattle.pblk_model.specs.LineOrder.{data_len}
use Rattle.pblk_model.specs.Image.{Image, width}
use Rattle.pblk_world.specs.World.{World, Logs, log_of}
use Rattle.pblk_world.specs.EngineLog.{Begun, begun, Opening, Opened, is_opened, life_of}
use Rattle.pblk_world.specs.Lines.{known_image, has_number, are_empty, line_data}
use Rattle.pblk_world.specs.Opening.{MayOpen}
use Rattle.pblk_layout.specs.Online.{units_in}
use Rattle.line_table.specs.Rows.{is_free}
use Rattle.write_window.specs.Window as view
use Rattle.stripe_placer.specs.OpenLines.{OpenLine as PlacedLine, opened}
use Rattle.stripe_placer.specs.OpenLines.Stripe.{Unplaced}
use Rattle.core_laws.specs.OpenedLines.{online_now, open_line, open_lines}
use Rattle.pblk_world.specs.LegalMounts.{IsLegalMount}
use Rattle.core_laws.proofs.PlacedLines.{get_row as row_there}
use Rattle.core_laws.proofs.LeftLines.{lines_of_left, left_opened}
use Rattle.core_laws.specs.LeastFree.{IsLeastFree}
use Rattle.core_laws.proofs.NextLine.{least_free}
use Rattle.core_laws.proofs.OpenWhileLeft.{one_is_open}
use Rattle.core_laws.proofs.PartLengths.{IsStriped, striped}
use Rattle.core_laws.proofs.PlainOpenings.{third}
use Rattle.pblk_core.specs.declared.target_core.Core.{Core}
use Rattle.pblk_core.specs.declared.work.Work.{Work}
use Rattle.pblk_core.specs.declared.work.Work.TheVariants.{Open}
use Rattle.pblk_core.specs.declared.resets.LineChunk.{LineChunk}
use Rattle.pblk_core.specs.Resets.{resets_left}
use Rattle.stripe_placer.proofs.Opening.{width_some}
use Rattle.stripe_placer.proofs.Chunks.{lt_of as below_is}
use Rattle.pblk_core.proofs.LineBits.{known_bits, known_width, bits_width}
use Rattle.pblk_core.specs.Stands.{Stands, left_openings}
use Rattle.pblk_core.specs.Named.{choice, reset_or, named_beside, named, next_line, next_units, next_start}
use Rattle.pblk_core.proofs.WorkOf.{open_count, synced_at}
use Rattle.pblk_model.proofs.Lists.{all_imply, length_replicate}
use Rattle.pblk_model.proofs.Maps.{all_mapped}
use Rattle.pblk_model.proofs.Parts.{all_at}
use Rattle.pblk_model.proofs.Tests.{both}
use Rattle.pblk_model.proofs.AcceptedLemmas.{line_is_short}
use Rattle.pblk_world.proofs.LinesLemmas.{free_unopened}

-- ---- what its next work tells

opens : (a b c d e f : Bool) → choice a b c d e f ≡ Open → (b ≡ true) × (c ≡ true) × (d ≡ true)
opens true b c d e f h = absurd cc
opens false true true true e f h = (refl, refl, refl)
opens false true true false true f h = absurd cc
opens false true true false false f h = absurd cc
opens false true false d true f h = absurd cc
opens false true false d false f h = absurd cc
opens false false c d true f h = absurd cc
opens false false c d false f h = absurd cc

-- what a core is that names the opening of a line
pub record MayOpenNext (c : Core) : Type 0 where
  pub left : c.left ≡ 0
  pub few : c.open.count < 2
  pub seq : c.start.seq < 2 ^ 61
  pub front : (view.synced c.window).position < 2 ^ 61
  pub line : position is_free c.lines.rows ≡ Some (next_line c)

some_is : (o : Option ℕ) → is_some o ≡ true → o ≡ Some (unwrap_or o 0)
some_is None e = absurd cc
some_is (Some n) e = refl

-- no chunk is to be reset
pub named_opens : (o : Option LineChunk) (otherwise : Work) → reset_or o otherwise ≡ Open → otherwise ≡ Open
named_opens None otherwise e = e
named_opens (Some chunk) otherwise e = absurd cc

pub open_is_named : (c : Core) → named c ≡ Open → MayOpenNext c
open_is_named c h =
    let parts = opens _ _ _ _ _ _ (named_opens (slice_get (resets_left c.resets) 0) (named_beside c) h) in
    let asks = both _ _ parts.0 in
    let numbers = both _ _ parts.2 in
    let fit = both _ _ numbers.1 in
    record {
      left = eqb-true c.left 0 asks.1;
      few = below_is c.open.count 2 numbers.0;
      seq = below_is c.start.seq (2 ^ 61) fit.0;
      front = below_is (view.synced c.window).position (2 ^ 61) fit.1;
      line = some_is (position is_free c.lines.rows) parts.1;
    }

-- ---- lengths of a line of all units

pub has_data : (s : Shape) → IsAccepted s → 0 < data_len s (units s)
has_data s accepted =
    let room : (16 + s.ws_opt) * s.ws_opt ≤ 2 * data_len s (units s) = accepted.target.room in
    let some : 0 < s.ws_opt = accepted.drive.ws_opt in
    let parts : (16 + s.ws_opt) * s.ws_opt ≡ 16 * s.ws_opt + s.ws_opt * s.ws_opt = add-mul 16 s.ws_opt s.ws_opt in
    omega arith

some_factor : (n w m : ℕ) → n * w ≡ m → 0 < m → 0 < n
some_factor zero w m e some = absurd (omega arith)
some_factor (suc n) w m e some = omega arith

-- a line of some data has a stripe
pub has_stripes : (s : Shape) (g : ℕ) → IsAccepted s → 0 < data_len s g → 0 < g * (s.clba / s.ws_opt)
has_stripes s g accepted some_data =
    let is : IsStriped s g = striped s g accepted.drive.ws_opt accepted.drive.whole_stripes some_data
    (width_some s g accepted.drive.ws_opt (λ e. absurd (omega arith))) in
    let rows : 0 < data_len s g / s.ws_opt = some_factor (data_len s g / s.ws_opt) s.ws_opt (data_len s g) is.data_is some_data in
    let fits = is.fits in omega arith

all_stripes_few : (s : Shape) → IsAccepted s → units s * (s.clba / s.ws_opt) < 2 ^ 32
all_stripes_few s accepted =
    let is : IsStriped s (units s) =
    striped s (units s) accepted.drive.ws_opt accepted.drive.whole_stripes (has_data s accepted)
    (width_some s (units s) accepted.drive.ws_opt (λ e. let some : 0 < data_len s (units s) = has_data s accepted in absurd (omega arith))) in
    let short : units s * s.clba ≤ 65536 = line_is_short s (units s) accepted (le_refl (units s)) in
    let whole : units s * (s.clba / s.ws_opt) * s.ws_opt ≡ units s * s.clba = is.line_is in
    below_product (units s * (s.clba / s.ws_opt)) s.ws_opt (units s * s.clba) whole accepted.drive.ws_opt short
  where
    below_product : (n w m : ℕ) → n * w ≡ m → 0 < w → m ≤ 65536 → n < 2 ^ 32
    below_product n zero m e some low = absurd (omega arith)
    below_product n (suc w) m e some low =
        let parts : n * suc w ≡ n * w + n = mul-suc n w in
        omega arith

pub stripes_few : (s : Shape) (g : ℕ) → IsAccepted s → g ≤ units s → g * (s.clba / s.ws_opt) < 2 ^ 32
stripes_few s g accepted few =
    let all : units s * (s.clba / s.ws_opt) < 2 ^ 32 = all_stripes_few s accepted in
    let less : g * (s.clba / s.ws_opt) ≤ units s * (s.clba / s.ws_opt) = mul-le-mul_right (s.clba / s.ws_opt) few in
    omega arith

-- ---- the line that is opened next

pub record IsNextLine (i : Image) (w : World) (c : Core) : Type 0 where
  pub least : IsLeastFree i (log_of w) (next_line c)
  pub closed : is_opened (life_of (log_of w 0) (next_line c)) ≡ false
  -- its units are those that are known
  pub online : slice_get c.online.items (next_line c) ≡ Some (online_now i (log_of w) (next_line c))
  pub units_are : next_units c ≡ online_now i (log_of w) (next_line c)
  pub small : next_units c < 2 ^ units i.shape
  pub wide : length (units_in (next_units c)) ≡ width (known_image i (log_of w)) (next_line c)
  pub few : width (known_image i (log_of w)) (next_line c) ≤ units i.shape
  pub data_some : 0 < data_len i.shape (width (known_image i (log_of w)) (next_line c))
  pub stripes : 0 < length (opened i.shape (next_line c) (online_now i (log_of w) (next_line c))).stripes

pub next_line_is : (i : Image) (w : World) (c : Core) → IsLegalMount i w → Stands i (log_of w) c → MayOpenNext c → IsNextLine i w c
next_line_is i w c mount st may = record {
  least = least;
  closed = free_unopened i (log_of w) line least.is_free;
  online = there;
  units_are = is;
  small = subst (λ m. m < 2 ^ units i.shape) (sym is) (known_bits i w (log_of w) (next_line c) mount);
  wide = ap (λ m. length (units_in m)) is ∙ count;
  few = known_width i w (log_of w) (next_line c) mount;
  data_some = data_is;
  stripes = subst (λ k. 0 < k) (sym (length_replicate (length (units_in (online_now i (log_of w) line)) * (i.shape.clba / i.shape.ws_opt)) Unplaced))
      (subst (λ g. 0 < g * (i.shape.clba / i.shape.ws_opt)) (sym count)
      (has_stripes i.shape (width (known_image i (log_of w)) (next_line c)) mount.accepted data_is));
}
  where
    line : ℕ
    line = next_line c

    least : IsLeastFree i (log_of w) (next_line c)
    least = least_free i (log_of w) (next_line c) (ap (λ t. position is_free t.rows) (sym st.table) ∙ may.line)

    data_is : 0 < data_len i.shape (width (known_image i (log_of w)) (next_line c))
    data_is = below_is 0 (data_len i.shape (width (known_image i (log_of w)) (next_line c)))
        (third (not (has_number i (log_of w) (life_of (log_of w 0) (next_line c)) (next_line c))) (are_empty (known_image i (log_of w)) (next_line c))
        (nat_lt 0 (line_data (known_image i (log_of w)) (next_line c))) least.is_free)

    count : length (units_in (online_now i (log_of w) (next_line c))) ≡ width (known_image i (log_of w)) (next_line c)
    count = bits_width i w (log_of w) (next_line c) mount

    there : slice_get c.online.items (next_line c) ≡ Some (online_now i (log_of w) (next_line c))
    there =
        let first : 0 + next_line c ≡ next_line c = omega arith in
        ap (λ us. slice_get us (next_line c)) st.units ∙ row_there (online_now i (log_of w)) i.shape.chunks 0 (next_line c) least.in_range
        ∙ ap (λ m. Some (online_now i (log_of w) m)) first

    is : next_units c ≡ online_now i (log_of w) (next_line c)
    is = get_or_from_slice_get c.online.items (next_line c) (online_now i (log_of w) (next_line c)) 0 there

-- what is found of it
pub chosen : (i : Image) (w : World) (c : Core) (line live d : ℕ) → IsLegalMount i w → Stands i (log_of w) c → MayOpenNext c
    → position is_free c.lines.rows ≡ Some line → live ≡ slice_index_or c.online.items line d
    → (next_line c ≡ line) × (live ≡ next_units c)
chosen i w c line live d mount st may found is =
    let next : IsNextLine i w c = next_line_is i w c mount st may in
    let at : next_line c ≡ line = same_Some (next_line c) line (sym may.line ∙ found) in (
      at,
      is ∙ ap (λ n. slice_index_or c.online.items n d) (sym at)
          ∙ get_or_from_slice_get c.online.items (next_line c) (online_now i (log_of w) (next_line c)) d next.online ∙ sym next.units_are,
    )

-- its width is at most the number of units
pub chosen_few : (i : Image) (w : World) (c : Core) (line live d width : ℕ) → IsLegalMount i w → Stands i (log_of w) c → MayOpenNext c
    → position is_free c.lines.rows ≡ Some line
    → live ≡ slice_index_or c.online.items line d → ((n : ℕ) → live < 2 ^ n → width ≤ n) → width ≤ units c.layout
chosen_few i w c line live d width mount st may found is few =
    let small : live < 2 ^ units i.shape =
    subst (λ m. m < 2 ^ units i.shape) (sym (chosen i w c line live d mount st may found is).1) (next_line_is i w c mount st may).small in
    few (units c.layout) (subst (λ (s : Shape). live < 2 ^ units s) (sym st.layout) small)

abbrev Holds : Bool → Type 0
Holds true = Unit {0}
Holds false = ⊥

pub none_open : (i : Image) (logs : Logs) (line k : ℕ) (d : PlacedLine) → is_opened (life_of (logs 0) line) ≡ false → k < length (open_lines i logs)
    → (slice_index_or (open_lines i logs) k d).line ≡ line → ⊥
none_open i logs line k d closed inside same =
    let all : AllByRecursion (λ (l : PlacedLine). is_opened (life_of (logs 0) l.line) ≡ true) (open_lines i logs) =
    subst (AllByRecursion (λ (l : PlacedLine). is_opened (life_of (logs 0) l.line) ≡ true)) (sym (lines_of_left i logs))
    (all_mapped (λ (l : PlacedLine). is_opened (life_of (logs 0) l.line) ≡ true) (open_line i logs) (left_openings i logs)
    (all_imply (λ (o : Opening). life_of (logs 0) o.line ≡ Opened o) (λ o. is_opened (life_of (logs 0) o.line) ≡ true) (λ o h. ap is_opened h)
    (left_openings i logs) (left_opened i logs))) in
    let is : is_opened (life_of (logs 0) (slice_index_or (open_lines i logs) k d).line) ≡ true =
    all_at (λ (l : PlacedLine). is_opened (life_of (logs 0) l.line) ≡ true) (open_lines i logs) k (slice_index_or (open_lines i logs) k d)
    (slice_get-get_or (open_lines i logs) k d inside) all in
    let clash : true ≡ false = sym is ∙ ap (λ n. is_opened (life_of (logs 0) n)) same ∙ closed in
    subst Holds clash tt

-- it may be opened
pub next_may_open : (i : Image) (w : World) (c : Core) (b : Begun) → IsLegalMount i w → Stands i (log_of w) c → MayOpenNext c → begun (log_of w 0) ≡ Some b
    → MayOpen i (log_of w) b (next_line c) (next_start c)
next_may_open i w c b mount st may has = record {
  in_range = is.least.in_range;
  is_free = is.least.is_free;
  is_first = is.least.is_first;
  one_other = λ m n inside within. one_is_open i w m n mount few;
  own_line = refl;
  own_width = is.wide;
  own_capacity = st.own_capacity;
  seq = st.next_seq ∙ ap (λ (x : Begun). x.beginning.seq + _) same;
  first_seq = st.first_seq ∙ ap (λ (x : Begun). x.beginning.seq) same;
  front = synced_at i w c mount st;
  rows = st.older;
  seq_number = may.seq;
  front_number = may.front;
}
  where
    is : IsNextLine i w c
    is = next_line_is i w c mount st may

    same : st.beginning ≡ b
    same = same_Some st.beginning b (sym st.has_begun ∙ has)

    few : length (open_lines i (log_of w)) ≤ 1
    few = let count : c.open.count ≡ length (open_lines i (log_of w)) = open_count i w c st in let two : c.open.count < 2 = may.few in omega arith

use Rattle.std.proofs.Common.{◌≡◌, ℕ, ◌+◌, ◌*◌, ◌/◌, ◌<◌, ◌≤◌, ◌^◌, arith, rules, List, length, refl, sym, subst, ap, ap₂, ◌∙◌, IsTrue}
use Rattle.std.specs.Prelude.{slice_get, slice_set}
use Rattle.std.specs.List.{slice_index_or}
use Rattle.std.proofs.lemmas.Option.{none-some}
use Rattle.pblk_model.specs.declared.shape.Shape.{Shape}
use Rattle.pblk_model.specs.Shape.{units}
use Rattle.pblk_model.specs.LineOrder.{data_len}
use Rattle.pblk_model.specs.StartRecord.{StartRecord, start_fits}
use Rattle.pblk_model.specs.Image.{width}
use Rattle.pblk_meta.specs.Records.{start_numbers}
use Rattle.pblk_world.specs.World.{log_of}
use Rattle.pblk_world.specs.Lines.{known_image}
use Rattle.pblk_world.specs.Starts.{start_stripes}
use Rattle.pblk_layout.specs.Online.{units_in}
use Rattle.line_table.specs.declared.row.LineState.TheVariants as states
use Rattle.line_table.specs.Rows.{Changes, turned}
use Rattle.stripe_placer.specs.Placing.{Placing, begun as line_begun}
use Rattle.core_laws.specs.OpenedLines.{open_lines}
use Rattle.pblk_model.proofs.Parts.{get_set_other}
use Rattle.pblk_core.specs.declared.line_notes.LineNote.{LineNote}
use Rattle.pblk_core.specs.LineNotes.{note_opened}
use Rattle.pblk_core.specs.Slots.{opened_slot}
use Rattle.pblk_core.specs.Named.{next_line, next_start}
use Rattle.pblk_core.proofs.BarrenLines.{brings_none, set_unclosed, turned_elsewhere}
use Rattle.pblk_core.proofs.OpeningFacts.{open_is_named, next_line_is, next_may_open, chosen, chosen_few, none_open, stripes_few}
use Rattle.pblk_core.proofs.ResetConditions.{table_shape}
use Rattle.pblk_core.proofs.OpeningNumbers.{next_fits}
use Rattle.pblk_core.proofs.StandsOpened.{opened_stands}
use Rattle.pblk_core.proofs.TabledLines.{each_line}
use Rattle.pblk_core.proofs.WorkOf.{open_count}
use Rattle.pblk_core.proofs.target_core.Core.open_least.Goals as goal

-- a line is Free
pub unreachable-requires : goal.unreachable-requires
unreachable-requires c =
    let may = open_is_named c.args.self.now c.requires.named in
    none-some (next_line c.args.self.now) (sym c.in-None.is ∙ c.least_free.ensures.least ∙ may.line)

pub overflow_mul-stripes : goal.overflow_mul-stripes
overflow_mul-stripes c =
    let st = c.requires.standing in
    let may = open_is_named c.args.self.now c.requires.named in
    let is = next_line_is st.image st.world c.args.self.now st.legal st.stands may in
    let it = chosen st.image st.world c.args.self.now c.in-Some.line c.index-online.result.now c.index-online.result.now st.legal st.stands may
    (sym c.least_free.ensures.least ∙ c.in-Some.is) c.index-online.ensures in
    let value : c.width-width.result * (c.shape-shape.result.now.clba / c.shape-shape.result.now.ws_opt) ≡ width (known_image st.image (log_of st.world))
    (next_line c.args.self.now) * (st.image.shape.clba / st.image.shape.ws_opt) =
    ap₂ (λ g (s : Shape). g * (s.clba / s.ws_opt)) (c.width-width.ensures.width ∙ ap (λ m. length (units_in m)) it.1 ∙ is.wide)
    (c.shape-shape.ensures.shape ∙ st.stands.layout) in
    let low : c.width-width.result * (c.shape-shape.result.now.clba / c.shape-shape.result.now.ws_opt) < 2 ^ 32 =
    subst (λ n. n < 2 ^ 32) (sym value)
    (stripes_few st.image.shape (width (known_image st.image (log_of st.world)) (next_line c.args.self.now)) st.legal.accepted is.few) in
    search rules

pub begin-requires-clause-room : goal.begin-requires-clause-room
begin-requires-clause-room c =
    let may = open_is_named c.args.self.now c.requires.named in
    let few : c.args.self.now.open.count < 2 = may.few in
    let two : length c.args.self.now.open.slots.items ≡ 2 = c.requires.standing.stands.open_lines.two in
    omega arith

pub begin-requires-clause-width : goal.begin-requires-clause-width
begin-requires-clause-width c = λ line there.
    let st = c.requires.standing in
    let may = open_is_named c.args.self.now c.requires.named in
    let few : c.width-width.result ≤ units c.args.self.now.layout =
    chosen_few st.image st.world c.args.self.now c.in-Some.line c.index-online.result.now c.index-online.result.now c.width-width.result
    st.legal st.stands may
    (sym c.least_free.ensures.least ∙ c.in-Some.is) c.index-online.ensures c.width-width.ensures.few in
    subst (λ (s : Shape). c.width-width.result ≤ units s) (st.stands.layout ∙ sym (st.stands.open_lines.shapes c.args.self.now.open.count line there)) few

-- the line has a row
pub open-requires : goal.open-requires
open-requires c =
    let st = c.requires.standing in
    let may = open_is_named c.args.self.now c.requires.named in
    let is = next_line_is st.image st.world c.args.self.now st.legal st.stands may in
    let it = chosen st.image st.world c.args.self.now c.in-Some.line c.index-online.result.now c.index-online.result.now st.legal st.stands may
    (sym c.least_free.ensures.least ∙ c.in-Some.is) c.index-online.ensures in
    subst (λ n. n < length c.args.self.now.notes.rows.items) it.0 (subst (λ n. next_line c.args.self.now < n) (sym st.stands.notes.count) is.least.in_range)

pub overflow_add-self : goal.overflow_add-self
overflow_add-self c =
    let few : c.args.self.now.start.seq < 2 ^ 61 = (open_is_named c.args.self.now c.requires.named).seq in
    search rules

pub turn-requires-clause-width : goal.turn-requires-clause-width
turn-requires-clause-width c =
    let st = c.requires.standing in
    let may = open_is_named c.args.self.now c.requires.named in
    subst (λ (s : Shape). c.width-width.result ≤ units s) (table_shape c.args.self.now st)
    (chosen_few st.image st.world c.args.self.now c.in-Some.line c.index-online.result.now c.index-online.result.now c.width-width.result
    st.legal st.stands may
    (sym c.least_free.ensures.least ∙ c.in-Some.is) c.index-online.ensures c.width-width.ensures.few)

pub data_len-requires : goal.data_len-requires
data_len-requires c =
    let st = c.requires.standing in
    let may = open_is_named c.args.self.now c.requires.named in
    chosen_few st.image st.world c.args.self.now c.in-Some.line c.index-online.result.now c.index-online.result.now c.width-width.result
    st.legal st.stands may
    (sym c.least_free.ensures.least ∙ c.in-Some.is) c.index-online.ensures c.width-width.ensures.few

pub begin-requires-clause-fits : goal.begin-requires-clause-fits
begin-requires-clause-fits c = λ line there.
    let st = c.requires.standing in
    let may = open_is_named c.args.self.now c.requires.named in
    let it = chosen st.image st.world c.args.self.now c.in-Some.line c.index-online.result.now c.index-online.result.now st.legal st.stands may
    (sym c.least_free.ensures.least ∙ c.in-Some.is) c.index-online.ensures in
    let wide : c.width-width.result ≡ (next_start c.args.self.now).width = c.width-width.ensures.width ∙ ap (λ m. length (units_in m)) it.1 in
    let front : c.synced.result.position ≡ (next_start c.args.self.now).front = ap (λ f. f.position) c.synced.ensures.synced in
    let same : next_start c.args.self.now ≡ record {
      line = c.in-Some.line;
      width = c.width-width.result;
      seq = c.args.self.now.start.seq;
      first_seq = c.args.self.now.start.first_seq;
      front = c.synced.result.position;
      capacity = c.args.self.now.start.capacity;
      rows = (start_numbers c.args.self.now.start).rows;
    } = (λ j. record {
      line = it.0 j;
      width = sym wide j;
      seq = c.args.self.now.start.seq;
      first_seq = c.args.self.now.start.first_seq;
      front = sym front j;
      capacity = c.args.self.now.start.capacity;
      rows = (start_numbers c.args.self.now.start).rows;
    }) in
    subst (λ (s : Shape). IsTrue (start_fits s c.in-Some.line c.width-width.result (start_numbers (record {
      line = c.in-Some.line;
      width = c.width-width.result;
      seq = c.args.self.now.start.seq;
      first_seq = c.args.self.now.start.first_seq;
      front = c.synced.result.position;
      capacity = c.args.self.now.start.capacity;
      rows = c.args.self.now.start.rows;
    })))) (sym (st.stands.open_lines.shapes c.args.self.now.open.count line there))
    (subst (λ (r : StartRecord). IsTrue (start_fits st.image.shape r.line r.width r)) same
    (next_fits st.image st.world c.args.self.now st.legal st.stands may))

pub begin-requires-2-clause-line : goal.begin-requires-2-clause-line
begin-requires-2-clause-line c =
    let st = c.requires.standing in
    let may = open_is_named c.args.self.now c.requires.named in
    let is = next_line_is st.image st.world c.args.self.now st.legal st.stands may in
    let it = chosen st.image st.world c.args.self.now c.in-Some.line c.index-online.result.now c.index-online.result.now st.legal st.stands may
    (sym c.least_free.ensures.least ∙ c.in-Some.is) c.index-online.ensures in
    subst (λ n. n < c.args.self.now.placer.shape.chunks) it.0
    (subst (λ p. next_line c.args.self.now < p.shape.chunks) (sym st.stands.placing) is.least.in_range)

pub begin-requires-2-clause-another : goal.begin-requires-2-clause-another
begin-requires-2-clause-another c = λ k d within same.
    let st = c.requires.standing in
    let may = open_is_named c.args.self.now c.requires.named in
    let is = next_line_is st.image st.world c.args.self.now st.legal st.stands may in
    let it = chosen st.image st.world c.args.self.now c.in-Some.line c.index-online.result.now c.index-online.result.now st.legal st.stands may
    (sym c.least_free.ensures.least ∙ c.in-Some.is) c.index-online.ensures in
    none_open st.image (log_of st.world) (next_line c.args.self.now) k d is.closed
    (subst (λ p. k < length p.lines) st.stands.placing within)
    (sym (ap (λ p. (slice_index_or p.lines k d).line) st.stands.placing) ∙ same ∙ sym it.0)

pub begin-requires-2-clause-units : goal.begin-requires-2-clause-units
begin-requires-2-clause-units c =
    let st = c.requires.standing in
    let may = open_is_named c.args.self.now c.requires.named in
    let is = next_line_is st.image st.world c.args.self.now st.legal st.stands may in
    let it = chosen st.image st.world c.args.self.now c.in-Some.line c.index-online.result.now c.index-online.result.now st.legal st.stands may
    (sym c.least_free.ensures.least ∙ c.in-Some.is) c.index-online.ensures in
    rw c.bits-2.ensures (subst (λ p. c.index-online.result.now < 2 ^ units p.shape) (sym st.stands.placing)
    (subst (λ m. m < 2 ^ units st.image.shape) (sym it.1) is.small))

pub begin-requires-2-clause-data : goal.begin-requires-2-clause-data
begin-requires-2-clause-data c = λ none.
    let st = c.requires.standing in
    let may = open_is_named c.args.self.now c.requires.named in
    let is = next_line_is st.image st.world c.args.self.now st.legal st.stands may in
    let it = chosen st.image st.world c.args.self.now c.in-Some.line c.index-online.result.now c.index-online.result.now st.legal st.stands may
    (sym c.least_free.ensures.least ∙ c.in-Some.is) c.index-online.ensures in
    let same : data_len c.args.self.now.placer.shape (length (units_in c.index-online.result.now)) ≡ data_len st.image.shape
    (width (known_image st.image (log_of st.world)) (next_line c.args.self.now)) =
    ap₂ data_len (ap (λ p. p.shape) st.stands.placing) (ap (λ m. length (units_in m)) it.1 ∙ is.wide) in
    no_data (data_len st.image.shape (width (known_image st.image (log_of st.world)) (next_line c.args.self.now)))
    (sym same ∙ ap (λ m. data_len c.args.self.now.placer.shape (length (units_in m))) (sym c.bits-2.ensures) ∙ none) is.data_some
  where
    no_data : (n : ℕ) → n ≡ 0 → 0 < n → ⊥
    no_data n e some = absurd (omega arith)

pub begin-requires-2-clause-few : goal.begin-requires-2-clause-few
begin-requires-2-clause-few c =
    let st = c.requires.standing in
    let may = open_is_named c.args.self.now c.requires.named in
    let few : c.args.self.now.open.count < 2 = may.few in
    let count : c.args.self.now.open.count ≡ length (open_lines st.image (log_of st.world)) = open_count st.image st.world c.args.self.now st.stands in
    let low : length (open_lines st.image (log_of st.world)) ≤ 1 = omega arith in
    subst (λ p. length p.lines ≤ 1) (sym st.stands.placing) low

pub overflow_add-self-2 : goal.overflow_add-self-2
overflow_add-self-2 c =
    let may = open_is_named c.args.self.now c.requires.named in
    let none : c.args.self.now.left ≡ 0 = may.left in
    search rules

pub returns-clause-legal : goal.returns-clause-legal
returns-clause-legal c = λ i w mount st begun has.
    next_may_open i w c.args.self.now begun mount st (open_is_named c.args.self.now c.requires.named) has

pub returns-clause-stands : goal.returns-clause-stands
returns-clause-stands c = λ i w knows mount st.
    let may = open_is_named c.args.self.now c.requires.named in
    let it = chosen i w c.args.self.now c.in-Some.line c.index-online.result.now c.index-online.result.now mount st may
    (sym c.least_free.ensures.least ∙ c.in-Some.is) c.index-online.ensures in
    let width : c.width-width.result ≡ (next_start c.args.self.now).width = c.width-width.ensures.width ∙ ap (λ m. length (units_in m)) it.1 in
    let front : c.synced.result.position ≡ (next_start c.args.self.now).front = ap (λ f. f.position) c.synced.ensures.synced in
    let stripes : c.width-width.result * (c.shape-shape.result.now.clba / c.shape-shape.result.now.ws_opt) ≡ (next_start c.args.self.now).width *
    (c.args.self.now.layout.clba / c.args.self.now.layout.ws_opt) =
    ap₂ (λ g (s : Shape). g * (s.clba / s.ws_opt)) width c.shape-shape.ensures.shape in
    let live = c.bits.ensures ∙ it.1 in
    let starts : c.start_len.result / c.shape-shape.result.now.ws_opt ≡ start_stripes c.args.self.now.layout =
    ap₂ (λ n (s : Shape). n / s.ws_opt) c.start_len.ensures.len c.shape-shape.ensures.shape in
    opened_stands i w knows c.args.self.now _ mount st may (record {
      layout = refl;
      map = refl;
      lines = subst (λ n. Changes c.args.self.now.lines c.turn.new.self n (turned states.Open (next_start c.args.self.now).width)) (sym it.0)
          (subst (λ g. Changes c.args.self.now.lines c.turn.new.self c.in-Some.line (turned states.Open g)) width c.turn.ensures);
      window = refl;
      placer = c.begin-2.ensures ∙ ap₂ (line_begun c.args.self.now.placer) (sym it.0) (c.bits-2.ensures ∙ it.1);
      holds = refl;
      open_count = c.begin.ensures.count;
      open_slots = λ slot there. c.begin.ensures.slots slot there
          ∙ (λ j. slice_set c.args.self.now.open.slots.items c.args.self.now.open.count (opened_slot slot (record {
            line = sym it.0 j;
            width = width j;
            seq = c.args.self.now.start.seq;
            first_seq = c.args.self.now.start.first_seq;
            front = front j;
            capacity = c.args.self.now.start.capacity;
            rows = (start_numbers c.args.self.now.start).rows;
          }) (live j) (stripes j)));
      online = refl;
      resets = refl;
      note_rows = c.«open».ensures.rows
          ∙ (λ j. slice_set c.args.self.now.notes.rows.items (sym it.0 j) (note_opened c.args.self.now.start.seq (front j) (starts j)));
      newest = c.«open».ensures.newest;
      seq = refl;
      first_seq = refl;
      own_capacity = refl;
      older = refl;
      first = refl;
      placed = refl;
      left = ap (λ n. c.args.self.now.left + n) (c.from.ensures ∙ c.data_len.ensures.len ∙ ap (data_len c.args.self.now.layout) width);
      under_way = refl;
      answers = refl;
      users = refl;
    })

pub returns-clause-rows : goal.returns-clause-rows
returns-clause-rows c = ap (λ (p : Placing). p.units) c.begin-2.ensures

-- the line that is opened isn't closed
pub returns-clause-brings : goal.returns-clause-brings
returns-clause-brings c =
    let st = c.requires.standing in
    let may = open_is_named c.args.self.now c.requires.named in
    let is = next_line_is st.image st.world c.args.self.now st.legal st.stands may in
    let it = chosen st.image st.world c.args.self.now c.in-Some.line c.index-online.result.now c.index-online.result.now st.legal st.stands may
    (sym c.least_free.ensures.least ∙ c.in-Some.is) c.index-online.ensures in
    let each = each_line st.image st.world (log_of st.world) st.legal st.stands in
    let inside : c.in-Some.line < c.args.self.now.layout.chunks = subst (λ n. n < c.args.self.now.layout.chunks) it.0
    (subst (λ (s : Shape). next_line c.args.self.now < s.chunks) (sym st.stands.layout) is.least.in_range) in
    brings_none c.args.self.now (record c.args.self.now { notes = c.«open».new.self; lines = c.turn.new.self }) c.in-Some.line (record {
      layout = refl;
      newest = c.«open».ensures.newest;
      others = λ other apart. record {
        notes = ap (λ (rs : List LineNote). slice_get rs other) c.«open».ensures.rows
            ∙ get_set_other c.args.self.now.notes.rows.items c.in-Some.line other _ apart;
        rows = turned_elsewhere c.args.self.now.lines c.turn.new.self c.in-Some.line other _
            (subst (λ n. c.in-Some.line < n) (sym each.rows) inside) c.turn.ensures apart;
        online = refl;
      };
    }) (set_unclosed c.args.self.now.notes.rows.items c.«open».new.self.rows.items c.in-Some.line _
    (subst (λ n. c.in-Some.line < n) (sym each.noted) inside) c.«open».ensures.rows refl)

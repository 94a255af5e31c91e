use Rattle.std.proofs.Common.{◌≡◌, ℕ, ◌^◌, ◌<◌, ◌≤◌, true, false, Some, List, [], length, length-take, take, refl, sym, subst, ap, ◌∙◌, arith, rules}
use Rattle.std.specs.Prelude.{slice_get, slice_set}
use Rattle.std.proofs.lemmas.List.FromFn.{length-map-range_with_len}
use Rattle.std.proofs.lemmas.Option.{get_or_from_slice_get, same_Some, slice_get_within}
use Rattle.pblk_model.specs.declared.shape.Shape.{Shape}
use Rattle.pblk_model.specs.Shape.{units}
use Rattle.pblk_model.specs.Image.{Image}
use Rattle.pblk_world.specs.EngineLog.{DidLand}
use Rattle.pblk_world.specs.World.{World, log_of}
use Rattle.stripe_placer.specs.declared.placement.Placement.{Placement}
use Rattle.stripe_placer.specs.Placing.{Placing, Program, UnitRow, positions_in, program}
use Rattle.stripe_placer.specs.Placing.UnitRow.{UnderWay}
use Rattle.core_laws.specs.ClosedLines.{top_of}
use Rattle.core_laws.proofs.HistorySectors.{set_length}
use Rattle.pblk_model.proofs.Parts.{got_within}
use Rattle.pblk_core.specs.Answering.{IsLessIn, IsLineOf, IsRemoved, IsStandingBut}
use Rattle.pblk_core.specs.LineNotes.{note_added}
use Rattle.pblk_core.specs.Stands.{answer_count, under_way}
use Rattle.pblk_core.specs.declared.line_notes.LineNote.{LineNote}
use Rattle.pblk_core.specs.declared.open_lines.OpenLine.{OpenLine}
use Rattle.pblk_core.specs.declared.target_core.Core.{Core}
use Rattle.pblk_core.proofs.AnsweredLogs.{one_less_under_way}
use Rattle.pblk_core.proofs.LandedConditions.{first_small, line_in_use, line_live, none_to_reset}
use Rattle.pblk_core.proofs.LandedCore.{IsGot, IsOfCore, count_is, got_line, live_few, of_core, told_under_way}
use Rattle.pblk_core.proofs.LandedNotes.{set_closed}
use Rattle.pblk_core.proofs.LandedWay.{line_of_way}
use Rattle.pblk_core.proofs.target_core.Core.answer.Goals as goal
use Rattle.pblk_core.proofs.target_core.Core.answer.Goals.{After-get-slot, After-positions-positions}

-- a core that stands but for what was made already, and its program
module _ (self : Core) (at : Placement) (but : IsStandingBut self)
    (there : slice_get self.placer.units at.unit ≡ Some (UnderWay (program self.placer at))) where
  abbrev of : Program
  of = program self.placer at

  abbrev core : Core
  core = record self { lines = but.lines; window = but.window; holds = but.holds; notes = but.notes }

  abbrev i : Image
  i = but.standing.image

  abbrev w : World
  w = but.standing.world

  its : IsOfCore i w core at.unit of
  its = of_core i w core at.unit of but.standing.legal but.standing.stands there

  two_slots : length self.open.slots.items ≡ 2
  two_slots = but.standing.stands.open_lines.two

  its_slot : (k : ℕ) (slot : OpenLine) → IsLineOf self.open at.line k slot → IsGot i w core at.unit of k slot its
  its_slot k slot found = got_line i w core at.unit of k slot but.standing.stands its found

  slot_live : (k : ℕ) (slot : OpenLine) → IsLineOf self.open at.line k slot → slot.online < 2 ^ units self.layout
  slot_live k slot found =
      subst (λ s. slot.online < 2 ^ units s) (sym but.standing.stands.layout)
      (subst (λ (l : OpenLine). l.online < 2 ^ units i.shape) (sym (its_slot k slot found).slot)
      (live_few i w core at.unit of but.standing.legal its.is its.has))

  slot_shape : (k : ℕ) (slot : OpenLine) → IsLineOf self.open at.line k slot → slot.records.shape ≡ self.layout
  slot_shape k slot found =
      ap (λ (l : OpenLine). l.records.shape) (its_slot k slot found).slot ∙ its.has.is.records.shape ∙ sym but.standing.stands.layout

  -- the positions of its entries
  told_positions : (told : List ℕ) → ((row : UnitRow) → slice_get self.placer.units at.unit ≡ Some row → told ≡ positions_in row) → told ≡ of.positions
  told_positions told tells = told_under_way self.placer at.unit at.unit of told refl there tells

  many : length of.positions ≡ at.count
  many = count_is i w at.unit of its.is

  inside : at.unit < units self.placer.shape
  inside = subst (λ s. at.unit < units s) (sym (ap (λ (p : Placing). p.shape) but.standing.stands.placing)) its.is.row.inside

pub positions-positions-requires : goal.positions-positions-requires
positions-positions-requires c = inside c.args.self.now c.args.of.now c.requires.standing c.requires.under_way

pub slice_bounds-add-end : goal.slice_bounds-add-end
slice_bounds-add-end c =
    let told = told_positions c.args.self.now c.args.of.now c.requires.standing c.requires.under_way c.positions-positions.result.now
    c.positions-positions.ensures in
    let long : length c.positions-positions.result.now ≡ c.args.of.now.count =
    ap (λ (qs : List ℕ). length qs) told ∙ many c.args.self.now c.args.of.now c.requires.standing c.requires.under_way in
    let few : c.args.written ≤ c.args.of.now.count = c.requires.written in
    omega (arith, length-take c.args.written c.positions-positions.result.now)

pub add-requires-clause-small : goal.add-requires-clause-small
add-requires-clause-small c = λ k q at.
    let self : Core = c.args.self.now in
    let of : Placement = c.args.of.now in
    let but = c.requires.standing in
    let told = told_positions self of but c.requires.under_way c.positions-positions.result.now c.positions-positions.ensures in
    first_small but.standing.image but.standing.world _ of.unit (program self.placer of) but.standing.legal but.standing.stands
    (its self of but c.requires.under_way).is c.args.written k q (ap (λ qs. slice_get (take c.args.written qs) k) (sym told) ∙ at)

pub find-index-requires-clause-two : goal.find-index-requires-clause-two
find-index-requires-clause-two c = two_slots c.args.self.now c.args.of.now c.requires.standing c.requires.under_way

pub find-index-requires-clause-there : goal.find-index-requires-clause-there
find-index-requires-clause-there c =
    let self : Core = c.args.self.now in
    let of : Placement = c.args.of.now in
    let but = c.requires.standing in
    let mine = its self of but c.requires.under_way in
    let own = mine.has.is.records.line ∙ line_of_way but.standing.image but.standing.world of.unit (program self.placer of) mine.is in
    (mine.has.k, mine.has.slot, mine.has.inside, mine.has.there, own)

pub get-slot-requires : goal.get-slot-requires
get-slot-requires c =
    let two : length c.args.self.now.open.slots.items ≡ 2 = two_slots c.args.self.now c.args.of.now c.requires.standing c.requires.under_way in
    let low : c.find-index.result < 2 = c.find-index.ensures.inside in
    omega arith

-- its line among the open ones
found : (c : After-get-slot) → IsLineOf c.args.self.now.open c.args.of.now.line c.find-index.result c.get-slot.result.now
found c = record {
  inside = c.find-index.ensures.inside;
  there = c.get-slot.ensures;
  its_line = c.find-index.ensures.line c.get-slot.result.now c.get-slot.ensures;
  first = c.find-index.ensures.first;
}

pub make_readable-requires-clause-shape : goal.make_readable-requires-clause-shape
make_readable-requires-clause-shape c =
    slot_shape c.args.self.now c.args.of.now c.requires.standing c.requires.under_way c.find-index.result c.get-slot.result.now
    (found (goal.at.make_readable-requires-clause-shape c).After-get-slot)

pub make_readable-requires-clause-online : goal.make_readable-requires-clause-online
make_readable-requires-clause-online c =
    slot_live c.args.self.now c.args.of.now c.requires.standing c.requires.under_way c.find-index.result c.get-slot.result.now
    (found (goal.at.make_readable-requires-clause-online c).After-get-slot)

pub make_readable-requires-clause-capacity : goal.make_readable-requires-clause-capacity
make_readable-requires-clause-capacity c =
    let st = c.requires.standing.standing.stands in
    st.capacity ∙ ap (λ (s : Shape). s.capacity) (sym st.layout)

pub make_readable-requires-clause-held : goal.make_readable-requires-clause-held
make_readable-requires-clause-held c =
    c.requires.held c.find-index.result c.get-slot.result.now (found (goal.at.make_readable-requires-clause-held c).After-get-slot)

pub overflow_sub-self : goal.overflow_sub-self
overflow_sub-self c =
    let sd = c.requires.standing.standing in
    let mine = its c.args.self.now c.args.of.now c.requires.standing c.requires.under_way in
    let less = one_less_under_way sd.image sd.world c.args.of.now.unit (DidLand 0) [] mine.is.row.stripe sd.legal mine.is.row.inside mine.is.row.waits in
    let now : c.args.self.now.under_way ≡ under_way sd.image.shape (log_of sd.world 0) = sd.stands.in_flight in
    omega arith

pub add_answer-requires : goal.add_answer-requires
add_answer-requires c =
    let sd = c.requires.standing.standing in
    let mine = its c.args.self.now c.args.of.now c.requires.standing c.requires.under_way in
    record {
      inside = subst (λ n. c.args.of.now.unit < n)
          (sym (ap (λ (ns : List ℕ). length ns) sd.stands.answers ∙ length-map-range_with_len (answer_count (log_of sd.world 0)) 0 (units sd.image.shape)))
          mine.is.row.inside;
    }

pub answer-requires-clause-inside : goal.answer-requires-clause-inside
answer-requires-clause-inside c =
    let two : length c.args.self.now.open.slots.items ≡ 2 = two_slots c.args.self.now c.args.of.now c.requires.standing c.requires.under_way in
    let low : c.find-index.result < 2 = c.find-index.ensures.inside in
    omega arith

pub answer-requires-clause-some : goal.answer-requires-clause-some
answer-requires-clause-some c = λ slot there.
    let same : c.get-slot.result.now ≡ slot = same_Some c.get-slot.result.now slot (sym c.get-slot.ensures ∙ there) in
    subst (λ (l : OpenLine). c.args.stripes ≤ l.stripes_left) same
    (c.requires.stripes c.find-index.result c.get-slot.result.now (found (goal.at.answer-requires-clause-some c).After-get-slot))

pub index-requires : goal.index-requires
index-requires c =
    let but = c.requires.standing in
    let mine = its c.args.self.now c.args.of.now but c.requires.under_way in
    let low = line_live but.standing.image but.standing.world (core c.args.self.now c.args.of.now but c.requires.under_way) c.args.of.now.unit
    (program c.args.self.now.placer c.args.of.now) but.standing.legal but.standing.stands mine.is in
    search rules

pub set_used-requires-clause-inside : goal.set_used-requires-clause-inside
set_used-requires-clause-inside c =
    let but = c.requires.standing in
    let mine = its c.args.self.now c.args.of.now but c.requires.under_way in
    line_in_use but.standing.image but.standing.world (core c.args.self.now c.args.of.now but c.requires.under_way) c.args.of.now.unit
    (program c.args.self.now.placer c.args.of.now) but.standing.legal but.standing.stands mine.is

pub set_used-requires-clause-none : goal.set_used-requires-clause-none
set_used-requires-clause-none c =
    let but = c.requires.standing in
    let mine = its c.args.self.now c.args.of.now but c.requires.under_way in
    none_to_reset but.standing.image but.standing.world (core c.args.self.now c.args.of.now but c.requires.under_way) c.args.of.now.unit
    (program c.args.self.now.placer c.args.of.now) but.standing.legal but.standing.stands mine.is

pub close-requires : goal.close-requires
close-requires c =
    let rows : List LineNote = c.args.self.now.notes.rows.items in
    let note = got_within rows c.args.of.now.line c.requires.noted in
    subst (λ n. c.args.of.now.line < n)
    (sym (ap (λ (rs : List LineNote). length rs) (c.add.ensures.rows note.0 note.1) ∙ set_length rows c.args.of.now.line _)) c.requires.noted

pub remove-requires-clause-two : goal.remove-requires-clause-two
remove-requires-clause-two c =
    ap length (c.answer.ensures.slots c.get-slot.result.now c.get-slot.ensures)
    ∙ set_length c.args.self.now.open.slots.items c.find-index.result _
    ∙ two_slots c.args.self.now c.args.of.now c.requires.standing c.requires.under_way

pub remove-requires-clause-inside : goal.remove-requires-clause-inside
remove-requires-clause-inside c =
    let self : Core = c.args.self.now in
    let but = c.requires.standing in
    let mine = its self c.args.of.now but c.requires.under_way in
    let got_is = its_slot self c.args.of.now but c.requires.under_way c.find-index.result c.get-slot.result.now
    (found (goal.at.remove-requires-clause-inside c).After-get-slot) in
    subst (λ n. c.find-index.result < n) (sym c.answer.ensures.count) (subst (λ n. n < self.open.count) (sym got_is.index) mine.has.below)

pub remove-requires-clause-few : goal.remove-requires-clause-few
remove-requires-clause-few c = subst (λ n. n ≤ 2) (sym c.answer.ensures.count) c.requires.standing.standing.stands.open_lines.few

-- ---- what it makes of the core

written_in : (c : After-positions-positions) → take c.args.written c.positions-positions.result.now
    ≡ take c.args.written (Program.positions (program c.args.self.now.placer c.args.of.now))
written_in c = ap (take c.args.written)
    (told_positions c.args.self.now c.args.of.now c.requires.standing c.requires.under_way c.positions-positions.result.now c.positions-positions.ensures)

pub returns-then-answer-eq0 : goal.returns-then-answer-eq0
returns-then-answer-eq0 c =
    let at = goal.at.returns-then-answer-eq0 c in
    let self : Core = c.args.self.now in
    let line : ℕ = c.args.of.now.line in
    let rows : List LineNote = self.notes.rows.items in
    let slot : OpenLine = c.get-slot.result.now in
    let removed : IsRemoved c.answer.new.self c.remove.new.self c.find-index.result = record {
      count = c.remove.ensures.count;
      first = λ s. c.remove.ensures.first s;
      second = λ s. c.remove.ensures.second s;
      two = c.remove.ensures.two;
      same = c.remove.ensures.same;
    } in
    let less : IsLessIn self.open c.answer.new.self c.find-index.result slot c.args.stripes =
    record { slots = c.answer.ensures.slots slot c.get-slot.ensures; same = c.answer.ensures.count } in
    record {
      k = c.find-index.result;
      slot = slot;
      mid = c.answer.new.self;
      found = found at.After-get-slot;
      line = record {
        in_slot = less;
        stay = λ e. absurd (let wrong : true ≡ false = e in cc);
        gone = λ e. removed;
        last = λ e. refl;
        none_left = λ e. sym (c.answer.ensures.left slot c.get-slot.ensures) ∙ c.if-answer-eq0.true;
        resets = c.set_used.ensures.left;
        used_lines = c.set_used.ensures.lines;
        used = λ e units there. c.set_used.ensures.used ∙ c.index.ensures ∙ get_or_from_slice_get self.online.items line units _ there;
        used_others = c.set_used.ensures.others;
      };
      counts = record { under_way = refl; answers = c.add_answer.ensures };
      kept = record { layout = refl; online = refl; start = refl; first = refl; placed = refl; users = refl; collection = refl };
      map = c.make_readable.ensures.map;
      capacity = c.make_readable.ensures.capacity;
      window = c.make_readable.ensures.window;
      notes = λ row there. set_closed rows c.add.new.self.rows.items c.close.new.self.rows.items line _ (slice_get_within rows line row there)
          (c.add.ensures.rows row there ∙ ap (λ qs. slice_set rows line (note_added (top_of qs) row)) (written_in at.After-positions-positions))
          c.close.ensures.rows;
      newest = c.close.ensures.newest ∙ c.add.ensures.newest;
      online = refl;
      data_left = c.data_left-data_left.ensures;
      lines = refl;
      placer = refl;
      holds = refl;
      left = refl;
    }

pub returns-else-answer-eq0 : goal.returns-else-answer-eq0
returns-else-answer-eq0 c =
    let at = goal.at.returns-else-answer-eq0 c in
    let self : Core = c.args.self.now in
    let line : ℕ = c.args.of.now.line in
    let rows : List LineNote = self.notes.rows.items in
    let slot : OpenLine = c.get-slot.result.now in
    let less : IsLessIn self.open c.answer.new.self c.find-index.result slot c.args.stripes =
    record { slots = c.answer.ensures.slots slot c.get-slot.ensures; same = c.answer.ensures.count } in
    record {
      k = c.find-index.result;
      slot = slot;
      mid = c.answer.new.self;
      found = found at.After-get-slot;
      line = record {
        in_slot = less;
        stay = λ e. refl;
        gone = λ e. absurd (let wrong : false ≡ true = e in cc);
        last = λ e. absurd (c.if-answer-eq0.false (c.answer.ensures.left slot c.get-slot.ensures ∙ e));
        none_left = λ e. absurd (let wrong : false ≡ true = e in cc);
        resets = refl;
        used_lines = refl;
        used = λ e. absurd (let wrong : false ≡ true = e in cc);
        used_others = λ other apart. refl;
      };
      counts = record { under_way = refl; answers = c.add_answer.ensures };
      kept = record { layout = refl; online = refl; start = refl; first = refl; placed = refl; users = refl; collection = refl };
      map = c.make_readable.ensures.map;
      capacity = c.make_readable.ensures.capacity;
      window = c.make_readable.ensures.window;
      notes = λ row there.
          c.add.ensures.rows row there ∙ ap (λ qs. slice_set rows line (note_added (top_of qs) row)) (written_in at.After-positions-positions);
      newest = c.add.ensures.newest;
      online = refl;
      data_left = c.data_left-data_left.ensures;
      lines = refl;
      placer = refl;
      holds = refl;
      left = refl;
    }

use Rattle.std.proofs.Common.{◌≡◌, ℕ, ◌<◌, ◌≤◌, List, get_or, length, refl, sym, subst, ap, ◌∙◌, rules}
use Rattle.std.specs.Prelude.{slice_get}
use Rattle.std.specs.List.{filter}
use Rattle.std.specs.Option.{IfNone}
use Rattle.std.proofs.lemmas.Option.{get_or_from_slice_get, slice_get-get_or}
use Rattle.pblk_model.specs.Shape.{units}
use Rattle.pblk_layout.specs.Online.{units_in}
use Rattle.pblk_world.specs.Freeing.{MayFree}
use Rattle.pblk_world.specs.World.{log_of}
use Rattle.line_table.specs.declared.row.LineState.TheVariants.{Freed}
use Rattle.line_table.specs.Rows.{Changes, turned}
use Rattle.pblk_core.specs.declared.line_notes.LineNote.{LineNote}
use Rattle.pblk_core.specs.Mounts.{InItsMount}
use Rattle.pblk_model.proofs.Parts.{get_set_other}
use Rattle.pblk_core.proofs.BarrenLines.{brings_none, set_unclosed, turned_elsewhere}
use Rattle.pblk_core.proofs.FreedConditions.{fewer_closed, may_give_up}
use Rattle.pblk_core.proofs.SpentTables.{freed_where_spent, spent_where_freed}
use Rattle.pblk_core.proofs.StandsFreed.{freed_stands}
use Rattle.pblk_core.proofs.target_core.Core.free_spent.Goals as goal

pub returns-in_err-line-clause-none : goal.returns-in_err-line-clause-none
returns-in_err-line-clause-none c =
    subst (λ r. IfNone r (InItsMount c.args.self.now (λ i w. (line : ℕ) → ¬ MayFree i (log_of w) line))) (sym c.from_residual.ensures)
    (λ i w mount st line may. c.in_err-line.ensures.none line (spent_where_freed i w mount st line may))

pub index-requires : goal.index-requires
index-requires c =
    let low = (may_give_up c.args.self.now c.in_ok-line.line c.requires.standing c.in_ok-line.ensures.found).line_units in
    search rules

pub turn-requires-clause-inside : goal.turn-requires-clause-inside
turn-requires-clause-inside c = (may_give_up c.args.self.now c.in_ok-line.line c.requires.standing c.in_ok-line.ensures.found).line_row

pub turn-requires-clause-width : goal.turn-requires-clause-width
turn-requires-clause-width c =
    let may = may_give_up c.args.self.now c.in_ok-line.line c.requires.standing c.in_ok-line.ensures.found in
    let live = get_or c.args.self.now.online.items c.in_ok-line.line c.index.result.now in
    let few = may.few live (slice_get-get_or c.args.self.now.online.items c.in_ok-line.line c.index.result.now may.line_units) in
    subst (λ n. n ≤ units c.args.self.now.lines.shape) (sym (c.width-width.ensures.width ∙ ap (λ us. length (units_in us)) c.index.ensures)) few

pub turn-requires-clause-change : goal.turn-requires-clause-change
turn-requires-clause-change c = λ row there.
    (may_give_up c.args.self.now c.in_ok-line.line c.requires.standing c.in_ok-line.ensures.found).turns row _ there

pub free-requires : goal.free-requires
free-requires c = (may_give_up c.args.self.now c.in_ok-line.line c.requires.standing c.in_ok-line.ensures.found).noted

pub give_up-requires-clause-none : goal.give_up-requires-clause-none
give_up-requires-clause-none c = (may_give_up c.args.self.now c.in_ok-line.line c.requires.standing c.in_ok-line.ensures.found).none_left

pub give_up-requires-clause-some : goal.give_up-requires-clause-some
give_up-requires-clause-some c = (may_give_up c.args.self.now c.in_ok-line.line c.requires.standing c.in_ok-line.ensures.found).some_used

pub remove_row-requires : goal.remove_row-requires
remove_row-requires c = record {
  rise = (may_give_up c.args.self.now c.in_ok-line.line c.requires.standing c.in_ok-line.ensures.found).risen;
}

pub returns-clause-may : goal.returns-clause-may
returns-clause-may c = λ i w mount st. freed_where_spent i w mount st c.in_ok-line.line c.in_ok-line.ensures.found

pub returns-clause-least : goal.returns-clause-least
returns-clause-least c = λ i w mount st m low may. c.in_ok-line.ensures.least m low (spent_where_freed i w mount st m may)

pub returns-clause-stands : goal.returns-clause-stands
returns-clause-stands c = λ i w knows mount st own.
    freed_stands i w c.in_ok-line.line knows c.args.self.now _ mount st c.in_ok-line.ensures.found own (record {
      layout = refl;
      map = refl;
      window = refl;
      placer = refl;
      holds = refl;
      open_same = refl;
      online = refl;
      lines = λ live there.
          let value : c.index.result.now ≡ live = c.index.ensures ∙ get_or_from_slice_get c.args.self.now.online.items c.in_ok-line.line live _ there in
          let wide : c.width-width.result ≡ length (units_in live) = c.width-width.ensures.width ∙ ap (λ us. length (units_in us)) value in
          subst (λ n. Changes c.args.self.now.lines c.turn.new.self c.in_ok-line.line (turned Freed n)) wide c.turn.ensures;
      resets = c.give_up.ensures.left;
      used = c.give_up.ensures.used;
      notes = c.free.ensures.rows;
      newest = c.free.ensures.newest;
      seq = refl;
      first_seq = refl;
      own_capacity = refl;
      older = c.remove_row.ensures;
      first = refl;
      placed = refl;
      left = refl;
      under_way = refl;
      answers = refl;
      users = refl;
    })

pub returns-clause-fewer : goal.returns-clause-fewer
returns-clause-fewer c =
    let spent = c.in_ok-line.ensures.found in
    subst (λ (rows : List LineNote).
    length (filter (λ (r : LineNote). r.closed) rows) < length (filter (λ (r : LineNote). r.closed) c.args.self.now.notes.rows.items))
    (sym (c.free.ensures.rows spent.note spent.is_note))
    (fewer_closed c.args.self.now.notes.rows.items c.in_ok-line.line spent.note spent.is_note spent.spent.closed)

-- the line that is freed isn't closed any more
pub returns-clause-brings : goal.returns-clause-brings
returns-clause-brings c =
    let line : ℕ = c.in_ok-line.line in
    let spent = c.in_ok-line.ensures.found in
    let may = may_give_up c.args.self.now line c.requires.standing spent in
    let rows = c.free.ensures.rows spent.note spent.is_note in
    brings_none c.args.self.now (record c.args.self.now { notes = c.free.new.self; lines = c.turn.new.self }) line (record {
      layout = refl;
      newest = c.free.ensures.newest;
      others = λ other apart. record {
        notes = ap (λ (rs : List LineNote). slice_get rs other) rows ∙ get_set_other c.args.self.now.notes.rows.items line other _ apart;
        rows = turned_elsewhere c.args.self.now.lines c.turn.new.self line other _ may.line_row c.turn.ensures apart;
        online = refl;
      };
    }) (set_unclosed c.args.self.now.notes.rows.items c.free.new.self.rows.items line _ may.noted rows refl)

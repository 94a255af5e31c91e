use Rattle.std.proofs.Common.{◌≡◌, ℕ, ◌<◌, ◌≤◌, is_some, true, false, length, refl, sym, subst, ap, ◌∙◌, rules}
use Rattle.std.specs.Prelude.{slice_get}
use Rattle.std.specs.List.{slice_index_or}
use Rattle.std.proofs.lemmas.Option.{get_or_from_slice_get, slice_get_within}
use Rattle.pblk_model.specs.declared.shape.Shape.{Shape}
use Rattle.pblk_model.specs.Shape.{units}
use Rattle.pblk_model.specs.LineOrder.{data_len}
use Rattle.pblk_layout.specs.Online.{units_in}
use Rattle.line_table.specs.declared.row.LineState.TheVariants.{Failed, Freed, Full}
use Rattle.line_table.specs.Rows.{Changes, IsChange, turned}
use Rattle.pblk_core.specs.declared.target_core.Core.{Core}
use Rattle.pblk_core.specs.declared.work.Work.TheVariants.{Reset}
use Rattle.pblk_core.specs.Named.{named}
use Rattle.pblk_core.specs.Resets.{emptied}
use Rattle.pblk_core.specs.Stands.{IsStanding}
use Rattle.pblk_core.proofs.BarrenLines.{IsUnclosed, brings_none, turned_elsewhere, unclosed_by_state}
use Rattle.pblk_core.proofs.NamedReset.{named_first}
use Rattle.pblk_core.proofs.ResetConditions.{each_reset, reset_next, kept_beside, kept_few, kept_there, emptied_change, table_shape}
use Rattle.pblk_core.proofs.StandsReset.{reset_stands}
use Rattle.pblk_core.proofs.target_core.Core.note_reset.Goals as goal

pub advance-requires : goal.advance-requires
advance-requires c = ap is_some (named_first c.args.self.now c.args.line c.args.unit c.requires.named)

pub keep_unit-requires-clause-line : goal.keep_unit-requires-clause-line
keep_unit-requires-clause-line c = (reset_next c.args.self.now c.args.line c.args.unit c.requires.standing c.requires.named).line_units

pub keep_unit-requires-clause-unit : goal.keep_unit-requires-clause-unit
keep_unit-requires-clause-unit c = (reset_next c.args.self.now c.args.line c.args.unit c.requires.standing c.requires.named).small

pub keep_unit-requires-clause-there : goal.keep_unit-requires-clause-there
keep_unit-requires-clause-there c = (reset_next c.args.self.now c.args.line c.args.unit c.requires.standing c.requires.named).unit_in

pub index-requires : goal.index-requires
index-requires c =
    let kept = kept_there c.args.self.now c.args.line c.args.unit c.args.state c.requires.standing c.requires.named in
    let low : c.args.line < length c.keep_unit.new.online.items =
    slice_get_within c.keep_unit.new.online.items c.args.line kept.0 (ap (λ us. slice_get us c.args.line) c.keep_unit.ensures ∙ kept.1) in
    search rules

pub emptied-requires : goal.emptied-requires
emptied-requires c =
    kept_few c.args.self.now c.args.line c.args.unit c.index.result.now c.index.result.now c.width-width.result c.args.state c.requires.standing
    c.requires.named
    (c.index.ensures ∙ ap (λ us. slice_index_or us c.args.line c.index.result.now) c.keep_unit.ensures) c.width-width.ensures.few

pub turn-requires-clause-width : goal.turn-requires-clause-width
turn-requires-clause-width c =
    let few = kept_few c.args.self.now c.args.line c.args.unit c.index.result.now c.index.result.now c.width-width.result c.args.state c.requires.standing
    c.requires.named
    (c.index.ensures ∙ ap (λ us. slice_index_or us c.args.line c.index.result.now) c.keep_unit.ensures) c.width-width.ensures.few in
    subst (λ (s : Shape). c.width-width.result ≤ units s) (table_shape c.args.self.now c.requires.standing) few

pub turn-requires-clause-inside : goal.turn-requires-clause-inside
turn-requires-clause-inside c = (reset_next c.args.self.now c.args.line c.args.unit c.requires.standing c.requires.named).line_row

pub turn-requires-clause-change : goal.turn-requires-clause-change
turn-requires-clause-change c = λ row there.
    subst (λ was. IsChange was c.emptied.result (data_len c.args.self.now.lines.shape c.width-width.result))
    (sym ((reset_next c.args.self.now c.args.line c.args.unit c.requires.standing c.requires.named).freed row there))
    (subst (λ to. IsChange Freed to (data_len c.args.self.now.lines.shape c.width-width.result)) (sym c.emptied.ensures)
    (subst (λ s. IsChange Freed (emptied c.args.self.now.layout c.width-width.result) (data_len s c.width-width.result))
    (table_shape c.args.self.now c.requires.standing)
    (emptied_change c.args.self.now.layout c.width-width.result)))

pub returns-then-not-is_at-clause-stands : goal.returns-then-not-is_at-clause-stands
returns-then-not-is_at-clause-stands c = λ i w event knows mount st to.
    reset_stands i w c.args.line c.args.unit event knows c.args.state c.args.self.now _ mount st c.requires.named to (record {
      layout = refl;
      map = refl;
      window = refl;
      placer = refl;
      holds = refl;
      open_same = refl;
      start = refl;
      online = c.keep_unit.ensures;
      resets = c.advance.ensures.left;
      used_lines = c.advance.ensures.lines;
      used = c.advance.ensures.others;
      notes = refl;
      lines_stay = λ at. let held : c.is_at.result ≡ true = c.is_at.ensures ∙ at in let gone = c.if-not-is_at.true in absurd cc;
      lines_turn = λ live off there.
          let value : c.index.result.now ≡ live = c.index.ensures ∙ get_or_from_slice_get c.keep_unit.new.online.items c.args.line live _ there in
          let wide : c.width-width.result ≡ length (units_in live) = c.width-width.ensures.width ∙ ap (λ us. length (units_in us)) value in
          subst (λ n. Changes c.args.self.now.lines c.turn.new.self c.args.line (turned (emptied c.args.self.now.layout n) n)) wide
          (subst (λ to. Changes c.args.self.now.lines c.turn.new.self c.args.line (turned to c.width-width.result)) c.emptied.ensures c.turn.ensures);
      first = refl;
      placed = refl;
      left = refl;
      under_way = refl;
      answers = refl;
      users = refl;
    })

pub returns-else-not-is_at-clause-stands : goal.returns-else-not-is_at-clause-stands
returns-else-not-is_at-clause-stands c = λ i w event knows mount st to.
    reset_stands i w c.args.line c.args.unit event knows c.args.state c.args.self.now _ mount st c.requires.named to (record {
      layout = refl;
      map = refl;
      window = refl;
      placer = refl;
      holds = refl;
      open_same = refl;
      start = refl;
      online = c.keep_unit.ensures;
      resets = c.advance.ensures.left;
      used_lines = c.advance.ensures.lines;
      used = c.advance.ensures.others;
      notes = refl;
      lines_stay = λ at. refl;
      lines_turn = λ live off there. let none : c.is_at.result ≡ false = c.is_at.ensures ∙ off in let held = c.if-not-is_at.false in absurd cc;
      first = refl;
      placed = refl;
      left = refl;
      under_way = refl;
      answers = refl;
      users = refl;
    })

pub returns-then-not-is_at-clause-each : goal.returns-then-not-is_at-clause-each
returns-then-not-is_at-clause-each c =
    each_reset c.args.self.now _ c.args.line c.args.unit c.args.state c.requires.standing refl refl c.turn.ensures.lines c.keep_unit.ensures

pub returns-else-not-is_at-clause-each : goal.returns-else-not-is_at-clause-each
returns-else-not-is_at-clause-each c =
    each_reset c.args.self.now _ c.args.line c.args.unit c.args.state c.requires.standing refl refl refl c.keep_unit.ensures

-- the line whose chunk is reset isn't closed
unclosed : (c : Core) (line unit : ℕ) → IsStanding c → named c ≡ Reset line unit → IsUnclosed c line
unclosed c line unit sd names = unclosed_by_state sd.image sd.world c line sd.legal sd.stands (λ row there.
    let freed = (reset_next c line unit sd names).freed row there in
    (λ full. (let both : Freed ≡ Full = sym freed ∙ full in cc), λ failed. (let both : Freed ≡ Failed = sym freed ∙ failed in cc)))

pub returns-then-not-is_at-clause-brings : goal.returns-then-not-is_at-clause-brings
returns-then-not-is_at-clause-brings c =
    brings_none c.args.self.now (record c.args.self.now { online = c.keep_unit.new.online; lines = c.turn.new.self }) c.args.line (record {
      layout = refl;
      newest = refl;
      others = λ other apart. record {
        notes = refl;
        rows = turned_elsewhere c.args.self.now.lines c.turn.new.self c.args.line other _
            (reset_next c.args.self.now c.args.line c.args.unit c.requires.standing c.requires.named).line_row c.turn.ensures apart;
        online = ap (λ us. slice_get us other) c.keep_unit.ensures
            ∙ kept_beside c.args.self.now.online.items c.args.line c.args.unit other c.args.state apart;
      };
    }) (unclosed c.args.self.now c.args.line c.args.unit c.requires.standing c.requires.named)

pub returns-else-not-is_at-clause-brings : goal.returns-else-not-is_at-clause-brings
returns-else-not-is_at-clause-brings c =
    brings_none c.args.self.now (record c.args.self.now { online = c.keep_unit.new.online }) c.args.line (record {
      layout = refl;
      newest = refl;
      others = λ other apart. record {
        notes = refl;
        rows = refl;
        online = ap (λ us. slice_get us other) c.keep_unit.ensures
            ∙ kept_beside c.args.self.now.online.items c.args.line c.args.unit other c.args.state apart;
      };
    }) (unclosed c.args.self.now c.args.line c.args.unit c.requires.standing c.requires.named)

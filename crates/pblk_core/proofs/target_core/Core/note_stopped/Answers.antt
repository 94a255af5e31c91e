use Rattle.std.proofs.Common.{◌<◌, length, refl, sym, ap, ◌∙◌}
use Rattle.std.specs.Prelude.{slice_get}
use Rattle.std.proofs.lemmas.Option.{slice_get_within}
use Rattle.stripe_placer.specs.Placing.{Placing, Program, program, stopped}
use Rattle.stripe_placer.specs.Placing.UnitRow.{Stopped, UnderWay}
use Rattle.pblk_model.proofs.Parts.{get_set_same}
use Rattle.pblk_core.proofs.StandsAgain.{stopped_stands}
use Rattle.pblk_core.proofs.StripeUnderWay.{each_was, here}
use Rattle.pblk_core.proofs.target_core.Core.note_stopped.Goals as goal
use Rattle.pblk_core.proofs.UnitRows.{row_beside}

pub stopped-requires : goal.stopped-requires
stopped-requires c = here c.requires.standing c.place_of-of.ensures

pub returns-clause-stands : goal.returns-clause-stands
returns-clause-stands c = λ i w event knows mount st may.
    stopped_stands i w c.args.stripe.now.stripe.unit event knows c.args.self.now _ (program c.args.self.now.placer c.place_of-of.result) mount st
    c.place_of-of.ensures.its_unit (here c.requires.standing c.place_of-of.ensures) (record {
      layout = refl;
      map = refl;
      lines = refl;
      window = refl;
      placer = c.stopped.ensures;
      holds = refl;
      open_same = refl;
      online = refl;
      resets = refl;
      notes = refl;
      start = refl;
      first = refl;
      placed = refl;
      left = refl;
      under_way = refl;
      answers = refl;
      users = refl;
    })

pub returns-clause-offered : goal.returns-clause-offered
returns-clause-offered c =
    let of : Program = program c.args.self.now.placer c.place_of-of.result in
    let old : Placing = c.args.self.now.placer in
    let inside : of.unit < length old.units = slice_get_within old.units of.unit (UnderWay of) (here c.requires.standing c.place_of-of.ensures) in (
      of,
      ap (λ (p : Placing). slice_get p.units c.args.stripe.now.stripe.unit) c.stopped.ensures
          ∙ ap (slice_get (Placing.units (stopped old of))) (sym c.place_of-of.ensures.its_unit)
          ∙ get_set_same old.units of.unit (Stopped of) inside,
    )

pub returns-clause-pad : goal.returns-clause-pad
returns-clause-pad c = ap (λ (p : Placing). p.entries.pad) c.stopped.ensures

pub returns-clause-rows : goal.returns-clause-rows
returns-clause-rows c = λ other apart.
    ap (λ (p : Placing). slice_get p.units other) c.stopped.ensures
    ∙ row_beside c.args.self.now.placer (program c.args.self.now.placer c.place_of-of.result)
    (Stopped (program c.args.self.now.placer c.place_of-of.result)) c.args.stripe.now.stripe.unit other c.place_of-of.ensures.its_unit apart

pub returns-clause-each : goal.returns-clause-each
returns-clause-each c =
    let each = each_was c.requires.standing c.place_of-of.ensures in
    record { rows = each.rows; noted = each.noted; online = each.online; few = each.few }

use Rattle.std.proofs.Common.{◌≡◌, refl, sym, ap, subst, ◌∙◌, arith, length-set}
use Rattle.std.specs.List.{slice_set}
use Rattle.stripe_placer.specs.Placing.{Program, program, UnitRow, Placing, stopped}
use Rattle.stripe_placer.specs.Placing.UnitRow.{UnderWay, Stopped}
use Rattle.stripe_placer.specs.Inside.{Agree}
use Rattle.stripe_placer.proofs.Steps.{row_changed}
use Rattle.stripe_placer.proofs.Placers.{under_way, unit_inside, with_units, stopped_row}
use Rattle.stripe_placer.proofs.placer.Placer.stopped.Goals as goal
use Rattle.stripe_placer.proofs.placer.Placer.stopped.Goals.{After-stop}

pub index_mut-requires : goal.index_mut-requires
index_mut-requires c =
    let of : Program = program c.args.self.now c.args.of.now in
    omega (arith, unit_inside c.self.inside c.args.self.now of c.self.view_is c.requires, c.self.inside.units.ok.0)

its_row : (c : After-stop) → c.stop.new.self ≡ Stopped (program c.args.self.now c.args.of.now)
its_row c =
    stopped_row c.self.inside c.args.self.now (program c.args.self.now c.args.of.now) c.index_mut.result.now c.stop.new.self
    c.self.view_is c.requires c.index_mut.ensures.value c.stop.ensures

pub invariant_of-self : goal.invariant_of-self
invariant_of-self c =
    let p = c.self.inside in
    let of : Program = program c.args.self.now c.args.of.now in
    let is = c.self.invariant in
    let row = its_row (goal.at.invariant_of-self c).After-stop in
    let was = under_way p c.args.self.now of c.self.view_is c.requires in
    record {
      accepted = is.accepted;
      ring = is.ring;
      rows = length-set p.units.items of.unit c.stop.new.self ∙ is.rows;
      few = is.few;
      room = is.room;
      agree = subst (λ (r : UnitRow). Agree p.layout (slice_set p.units.items of.unit r) p.slots.items) (sym row)
          (row_changed p.layout p.units.items p.slots.items of.unit (UnderWay of) (Stopped of) of is.agree was refl refl);
    }

pub returns : goal.returns
returns c =
    let p = c.self.inside in
    let of : Program = program c.args.self.now c.args.of.now in
    let row = its_row (goal.at.returns c).After-stop in
    ap (λ (r : UnitRow). with_units p.layout p.queue.entries p.slots.items (slice_set p.units.items of.unit r)) row
    ∙ ap (λ (v : Placing). stopped v of) c.self.view_is

use Rattle.std.proofs.Common.{◌≡◌, ◌/◌, sym, subst, ap, ◌∙◌, arith, length-set}
use Rattle.std.specs.Prelude.{map}
use Rattle.std.specs.List.{filter, slice_set}
use Rattle.pblk_model.specs.declared.shape.Shape.{Shape}
use Rattle.stripe_placer.specs.OpenLines.{in_line, has_left}
use Rattle.stripe_placer.specs.OpenLines.Stripe.{Lost}
use Rattle.stripe_placer.specs.Placing.{Program, program, UnitRow}
use Rattle.stripe_placer.specs.Inside.{Agree}
use Rattle.stripe_placer.proofs.Placers.{its_line, its_waits, unit_inside, with_units, answered_slots, answered_view, AfterAnswer, after_answer, lost_other}
use Rattle.stripe_placer.proofs.placer.Placer.lost.Goals as goal

pub lose_in-requires : goal.lose_in-requires
lose_in-requires c =
    let of : Program = program c.args.self.now c.args.of.now in
    record {
      few = c.self.invariant.few;
      apart = c.self.invariant.agree.apart;
      there = (its_line c.self.inside c.args.self.now of c.self.invariant c.self.view_is c.requires).line;
      waits = its_waits c.self.inside c.args.self.now of c.shape.result.now.ws_opt c.self.invariant c.self.view_is c.requires
          (ap (λ (s : Shape). s.ws_opt) c.shape.ensures.shape);
    }

pub index_mut-requires : goal.index_mut-requires
index_mut-requires c =
    let of : Program = program c.args.self.now c.args.of.now in
    omega (arith, unit_inside c.self.inside c.args.self.now of c.self.view_is c.requires, c.self.inside.units.ok.0)

pub invariant_of-self : goal.invariant_of-self
invariant_of-self c =
    let p = c.self.inside in
    let of : Program = program c.args.self.now c.args.of.now in
    let lines : c.lose_in.new.slots.items ≡ filter has_left (map (in_line of.line (of.at / p.layout.ws_opt) Lost) p.slots.items) =
    answered_slots p of Lost c.shape.result.now.ws_opt c.lose_in.new.slots.items (ap (λ (s : Shape). s.ws_opt) c.shape.ensures.shape) c.lose_in.ensures.items in
    let after : AfterAnswer p of c.lose_in.new.slots.items =
    after_answer p c.args.self.now of Lost c.lose_in.new.slots.items c.self.invariant c.self.view_is c.requires lost_other lines in
    record {
      accepted = c.self.invariant.accepted;
      ring = c.self.invariant.ring;
      rows = length-set p.units.items of.unit c.end.new.self ∙ c.self.invariant.rows;
      few = after.few;
      room = omega (arith, c.self.invariant.room, c.lose_in.ensures.capacity);
      agree = subst (λ (r : UnitRow). Agree p.layout (slice_set p.units.items of.unit r) c.lose_in.new.slots.items) (sym c.end.ensures) after.agree;
    }

pub returns : goal.returns
returns c =
    let p = c.self.inside in
    let of : Program = program c.args.self.now c.args.of.now in
    ap (λ (r : UnitRow). with_units p.layout p.queue.entries c.lose_in.new.slots.items (slice_set p.units.items of.unit r)) c.end.ensures
    ∙ answered_view p c.args.self.now of Lost c.lose_in.new.slots.items c.self.view_is
    (answered_slots p of Lost c.shape.result.now.ws_opt c.lose_in.new.slots.items (ap (λ (s : Shape). s.ws_opt) c.shape.ensures.shape) c.lose_in.ensures.items)

use Rattle.std.proofs.Common.{◌≡◌, ◌/◌, Some, length, sym, ap, subst, ◌∙◌, arith, length-set}
use Rattle.std.specs.List.{slice_get, slice_set}
use Rattle.pblk_model.specs.declared.shape.Shape.{Shape}
use Rattle.stripe_placer.specs.OpenLines.{in_line}
use Rattle.stripe_placer.specs.OpenLines.Stripe.{Unanswered}
use Rattle.stripe_placer.specs.Placing.{Program, UnitRow, program, placed}
use Rattle.stripe_placer.specs.Placing.UnitRow.{UnderWay, Stopped}
use Rattle.stripe_placer.specs.Inside.{Agree}
use Rattle.stripe_placer.specs.declared.placer.Placer.TheInside.{Inside}
use Rattle.stripe_placer.proofs.Rows.{length_map}
use Rattle.stripe_placer.proofs.Named.{IsNew, IsPlaceableIn, new_placeable}
use Rattle.stripe_placer.proofs.Placers.{rows_in, with_units, next_within, it_was_stopped, it_is_new, again_view, again_agree, first_view, first_agree, TakesFirst, takes_first, again_row, new_row, placed_under_way}
use Rattle.stripe_placer.proofs.placer.Placer.placed.Goals as goal
use Rattle.stripe_placer.proofs.placer.Placer.placed.Goals.{After-again, After-shape, After-begin, After-place_in}

pub index-requires : goal.index-requires
index-requires c =
    let of : Program = program c.args.self.now c.args.of.now in
    omega (arith, next_within c.self.inside c.args.self.now of c.self.invariant c.self.view_is c.requires, c.self.inside.units.ok.0)

pub index_mut-requires : goal.index_mut-requires
index_mut-requires c =
    let of : Program = program c.args.self.now c.args.of.now in
    omega (arith, next_within c.self.inside c.args.self.now of c.self.invariant c.self.view_is c.requires, c.self.inside.units.ok.0)

-- ---- a stripe that was stopped

its_stop : (c : After-again) → slice_get (rows_in c.self.inside) c.args.of.now.unit ≡ Some (Stopped (program c.args.self.now c.args.of.now))
its_stop c =
    let stopped = sym c.is_stopped.ensures ∙ c.if-is_stopped.true in
    it_was_stopped c.self.inside c.args.self.now (program c.args.self.now c.args.of.now) c.index.result.now
    c.self.invariant c.self.view_is c.requires c.index.ensures stopped

its_row_again : (c : After-again) → c.again.new.self ≡ UnderWay (program c.args.self.now c.args.of.now)
its_row_again c =
    let stopped = sym c.is_stopped.ensures ∙ c.if-is_stopped.true in
    again_row c.self.inside c.args.self.now (program c.args.self.now c.args.of.now) c.index.result.now c.index_mut.result.now c.again.new.self
    c.self.invariant c.self.view_is c.requires c.index.ensures stopped c.index_mut.ensures.value c.again.ensures

is_placed_again : (c : After-again)
    → with_units c.self.inside.layout c.self.inside.queue.entries c.self.inside.slots.items
    (slice_set (rows_in c.self.inside) c.args.of.now.unit c.again.new.self) ≡ placed c.args.self.now (program c.args.self.now c.args.of.now)
is_placed_again c =
    let p : Inside = c.self.inside in
    let of : Program = program c.args.self.now c.args.of.now in
    ap (λ (r : UnitRow). with_units p.layout p.queue.entries p.slots.items (slice_set p.units.items of.unit r)) (its_row_again c)
    ∙ again_view p c.args.self.now of c.self.view_is (its_stop c)

pub invariant_of-self : goal.invariant_of-self
invariant_of-self c =
    let at = (goal.at.invariant_of-self c).After-again in
    let p = c.self.inside in
    let is = c.self.invariant in
    let of : Program = program c.args.self.now c.args.of.now in
    record {
      accepted = is.accepted;
      ring = is.ring;
      rows = length-set p.units.items of.unit c.again.new.self ∙ is.rows;
      few = is.few;
      room = is.room;
      agree = subst (λ (r : UnitRow). Agree p.layout (slice_set p.units.items of.unit r) p.slots.items) (sym (its_row_again at))
          (again_agree p of is (its_stop at));
    }

pub returns-then-is_stopped-clause-placed : goal.returns-then-is_stopped-clause-placed
returns-then-is_stopped-clause-placed c = is_placed_again (goal.at.returns-then-is_stopped-clause-placed c).After-again

pub returns-then-is_stopped-clause-under_way : goal.returns-then-is_stopped-clause-under_way
returns-then-is_stopped-clause-under_way c =
    placed_under_way c.self.inside c.args.self.now _ c.args.of.now c.self.invariant c.self.view_is c.requires
    (is_placed_again (goal.at.returns-then-is_stopped-clause-under_way c).After-again)

-- ---- a new stripe

pub index_mut-requires-2 : goal.index_mut-requires-2
index_mut-requires-2 c =
    let of : Program = program c.args.self.now c.args.of.now in
    omega (arith, next_within c.self.inside c.args.self.now of c.self.invariant c.self.view_is c.requires, c.self.inside.units.ok.0)

its_new : (c : After-shape)
    → IsNew c.self.inside.layout c.self.inside.queue.entries (rows_in c.self.inside) c.self.inside.slots.items (program c.args.self.now c.args.of.now)
its_new c =
    let fresh = sym c.is_stopped.ensures ∙ c.if-is_stopped.false in
    it_is_new c.self.inside c.args.self.now (program c.args.self.now c.args.of.now) c.index.result.now
    c.self.invariant c.self.view_is c.requires c.index.ensures fresh

its_row_new : (c : After-begin) → c.begin.new.self ≡ UnderWay (program c.args.self.now c.args.of.now)
its_row_new c =
    let fresh = sym c.is_stopped.ensures ∙ c.if-is_stopped.false in
    new_row c.self.inside c.args.self.now c.args.of.now c.index.result.now c.begin.new.self
    c.self.invariant c.self.view_is c.requires c.index.ensures fresh c.begin.ensures

pub begin-requires : goal.begin-requires
begin-requires c =
    let p = c.self.inside in
    let of : Program = program c.args.self.now c.args.of.now in
    let takes : TakesFirst p of = takes_first p of c.self.invariant (its_new (goal.at.begin-requires c).After-shape) in
    record { few = takes.few; waiting = takes.waiting_enough }

pub place_in-requires : goal.place_in-requires
place_in-requires c =
    let p = c.self.inside in
    let is = c.self.invariant in
    let of : Program = program c.args.self.now c.args.of.now in
    let new = its_new (goal.at.place_in-requires c).After-shape in
    let can : IsPlaceableIn p.layout p.slots.items of (of.at / c.shape.result.now.ws_opt) =
    new_placeable p.layout p.queue.entries (rows_in p) p.slots.items of (of.at / c.shape.result.now.ws_opt) is.accepted.drive.ws_opt is.agree new
    (ap (λ (s : Shape). of.at / s.ws_opt) c.shape.ensures.shape) in
    record { few = is.few; apart = is.agree.apart; there = can.there; next = can.next; alone = can.alone }

pub invariant_of-self-2 : goal.invariant_of-self-2
invariant_of-self-2 c =
    let at = goal.at.invariant_of-self-2 c in
    let p = c.self.inside in
    let is = c.self.invariant in
    let of : Program = program c.args.self.now c.args.of.now in
    let turn = in_line of.line (of.at / c.shape.result.now.ws_opt) Unanswered in
    let size = ap (λ (s : Shape). s.ws_opt) c.shape.ensures.shape in
    record {
      accepted = is.accepted;
      ring = c.remove_first.ensures.room ∙ is.ring;
      rows = length-set p.units.items of.unit c.begin.new.self ∙ is.rows;
      few = omega (arith, is.few, ap (λ xs. length xs) c.place_in.ensures.items, length_map turn p.slots.items);
      room = omega (arith, is.room, c.place_in.ensures.capacity);
      agree = subst (λ (r : UnitRow). Agree p.layout (slice_set p.units.items of.unit r) c.place_in.new.slots.items) (sym (its_row_new at.After-begin))
          (first_agree p of c.shape.result.now.ws_opt c.place_in.new.slots.items is (its_new at.After-shape) size c.place_in.ensures.items);
    }

is_placed_first : (c : After-place_in)
    → IsNew c.self.inside.layout c.self.inside.queue.entries (rows_in c.self.inside) c.self.inside.slots.items (program c.args.self.now c.args.of.now)
    → c.begin.new.self ≡ UnderWay (program c.args.self.now c.args.of.now)
    → with_units c.self.inside.layout c.remove_first.new.self.entries c.place_in.new.slots.items
    (slice_set (rows_in c.self.inside) c.args.of.now.unit c.begin.new.self) ≡ placed c.args.self.now (program c.args.self.now c.args.of.now)
is_placed_first c new row =
    let p : Inside = c.self.inside in
    let of : Program = program c.args.self.now c.args.of.now in
    let entries = c.remove_first.new.self.entries in
    let lines = c.place_in.new.slots.items in
    let size = ap (λ (s : Shape). s.ws_opt) c.shape.ensures.shape in
    ap (λ (r : UnitRow). with_units p.layout entries lines (slice_set p.units.items of.unit r)) row
    ∙ first_view p c.args.self.now of c.shape.result.now.ws_opt entries lines c.self.view_is new size c.remove_first.ensures.entries c.place_in.ensures.items

pub returns-clause-placed : goal.returns-clause-placed
returns-clause-placed c =
    let at = goal.at.returns-clause-placed c in
    is_placed_first at.After-place_in (its_new at.After-shape) (its_row_new at.After-begin)

pub returns-clause-under_way : goal.returns-clause-under_way
returns-clause-under_way c =
    let at = goal.at.returns-clause-under_way c in
    placed_under_way c.self.inside c.args.self.now _ c.args.of.now c.self.invariant c.self.view_is c.requires
    (is_placed_first at.After-place_in (its_new at.After-shape) (its_row_new at.After-begin))

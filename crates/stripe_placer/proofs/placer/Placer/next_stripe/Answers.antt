use Rattle.std.proofs.Common.{ℕ, ◌↔◌, ◌<◌, ◌≡◌, ◌⊎◌, inl, inr, Option, Some, None, List, refl, sym, ap, subst, ◌∙◌, arith}
use Rattle.std.specs.List.{filter_map, slice_get}
use Rattle.std.specs.Option.{option_map, IsNone, IfSome}
use Rattle.stripe_placer.specs.Entries.{Rises}
use Rattle.stripe_placer.specs.OpenLines.{OpenLine}
use Rattle.stripe_placer.specs.Placing.{Program, placement, program, Placing, UnitRow, stopped_in, is_ready, next_in, next_stripe, IsNext}
use Rattle.stripe_placer.specs.NextUnits.{IsForUnit}
use Rattle.stripe_placer.specs.Placing.UnitRow.{Stopped}
use Rattle.stripe_placer.proofs.Named.{IsNew}
use Rattle.stripe_placer.specs.Inside.{OwnUnits, IsAmongLines, FitsShape, IsPlacer, first_given, placing}
use Rattle.stripe_placer.proofs.Rows.{find_first, find_second, named_by, none_named}
use Rattle.stripe_placer.proofs.Placers.{rows_in, next_known, next_within, next_back}
use Rattle.pblk_model.specs.Shape.{units}
use Rattle.stripe_placer.specs.declared.placement.Placement.{Placement}
use Rattle.stripe_placer.specs.declared.placer.Placer.TheInside.{Inside}
use Rattle.stripe_placer.proofs.placer.Placer.next_stripe.Goals as goal

pub stopped_stripe-requires-clause-own : goal.stopped_stripe-requires-clause-own
stopped_stripe-requires-clause-own c =
    subst (λ (xs : List UnitRow). OwnUnits xs) (sym c.deref.ensures.value) (λ unit of at. (c.self.invariant.agree.rows_of unit _ at).unit_is)

pub next_new-requires-clause-fit : goal.next_new-requires-clause-fit
next_new-requires-clause-fit c =
    subst (λ (xs : List OpenLine). (l : OpenLine) → IsAmongLines xs l → FitsShape c.self.inside.layout l)
    (sym c.deref-in-None-2.ensures.value) c.self.invariant.agree.fit

-- what the placement that was found comes to
record Told (v : Placing) (busy : ℕ) (r : Option Placement) : Type 0 where
  next : option_map (program v) r ≡ next_stripe v busy
  none : IsNone r ↔ (next_stripe v busy ≡ None)
  placeable : IfSome r (λ of. IsNext v (program v of))
  unit : IfSome r (λ of. of.unit < units v.shape)
  turn : IfSome r (λ of. IsForUnit v (program v of))

some_none : (of : Program) → ◌≡◌ {A = Option Program} (Some of) None → ⊥
some_none of e = absurd cc

for_unit : (p : Inside) (of : Program)
    → (slice_get (rows_in p) of.unit ≡ Some (Stopped of)) ⊎ IsNew p.layout p.queue.entries (rows_in p) p.slots.items of → IsForUnit (placing p) of
for_unit p of (inl stops) = inr stops
for_unit p of (inr new) = inl new.row

told_by : (p : Inside) (v : Placing) (busy : ℕ) (o : Option Program) → IsPlacer p → placing p ≡ v → next_stripe v busy ≡ o
    → Told v busy (option_map placement o)
told_by p v busy None is same next = record { next = sym next; none = ((λ _. next), (λ _. refl)); placeable = tt; unit = tt; turn = tt }
told_by p v busy (Some q) is same next =
    let named : IsNext v q = (busy, next) in
    let back : program v (placement q) ≡ q = next_back p v q is same named in
    let inside : q.unit < units p.layout = omega (arith, next_within p v q is same named, is.rows) in
    record {
      next = ap (λ x. Some x) back ∙ sym next;
      none = ((λ h. absurd cc), (λ h. absurd (some_none q (sym next ∙ h))));
      placeable = subst (IsNext v) (sym back) named;
      unit = subst (λ (w : Placing). q.unit < units w.shape) same inside;
      turn = subst (IsForUnit v) (sym back) (subst (λ (w : Placing). IsForUnit w q) same (for_unit p q (next_known p v q is same named)));
    }

told : (p : Inside) (v : Placing) (r : Option Placement) (busy : ℕ) → IsPlacer p → placing p ≡ v → r ≡ option_map placement (next_stripe v busy) → Told v busy r
told p v r busy is same next = subst (Told v busy) (sym next) (told_by p v busy (next_stripe v busy) is same refl)

found : (c : goal.In-Some) → ◌≡◌ {A = Option Placement} (Some c.in-Some.of) (option_map placement (next_stripe c.args.self.now c.args.busy))
found c =
    let p = c.self.inside in
    let b = c.args.busy in
    let stops : List UnitRow → Option Program = λ xs. first_given (λ of. is_ready xs b of.unit) stopped_in xs in
    let told = ap (λ xs. option_map placement (stops xs)) (sym c.deref.ensures.value) ∙ sym c.stopped_stripe.ensures ∙ c.in-Some.is in
    let hit = named_by (stops p.units.items) c.in-Some.of told in
    let nexts : List Program = filter_map (next_in p.layout p.queue.entries) p.slots.items in
    ap (λ o. Some o) (sym hit.2)
    ∙ ap (option_map placement) (
    sym (find_first (λ of. is_ready (rows_in p) b of.unit) (filter_map stopped_in (rows_in p)) nexts hit.0 hit.1)
    ∙ ap (λ (v : Placing). next_stripe v b) c.self.view_is)

pub returns-in-Some : goal.returns-in-Some
returns-in-Some c =
    let t = told c.self.inside c.args.self.now (Some c.in-Some.of) c.args.busy c.self.invariant c.self.view_is (found c) in
    let order = c.are_in_order.ensures in
    record {
      next = t.next;
      none = t.none;
      placeable = t.placeable;
      unit = t.unit;
      turn = t.turn;
      lost_rise = subst (λ (v : Placing). Rises v.entries.lost) c.self.view_is order.lost;
      fresh_rise = subst (λ (v : Placing). Rises v.entries.fresh) c.self.view_is order.fresh;
    }

after : (c : goal.After-next_new) → c.next_new.result ≡ option_map placement (next_stripe c.args.self.now c.args.busy)
after c =
    let p = c.self.inside in
    let b = c.args.busy in
    let stops : List UnitRow → Option Program = λ xs. first_given (λ of. is_ready xs b of.unit) stopped_in xs in
    let news : List UnitRow → List OpenLine → Option Program = λ xs ls. first_given (λ of. is_ready xs b of.unit) (next_in p.layout p.queue.entries) ls in
    let told = ap (λ xs. option_map placement (stops xs)) (sym c.deref.ensures.value) ∙ sym c.stopped_stripe.ensures ∙ c.in-None.is in
    let none : stops p.units.items ≡ None = none_named (stops p.units.items) told in
    let nexts : List Program = filter_map (next_in p.layout p.queue.entries) p.slots.items in
    c.next_new.ensures ∙ ap (option_map placement) (
    ap (λ xs. news xs c.deref-in-None-2.result.now) c.deref-in-None.ensures.value ∙ ap (news p.units.items) c.deref-in-None-2.ensures.value
    ∙ sym (find_second (λ of. is_ready (rows_in p) b of.unit) (filter_map stopped_in (rows_in p)) nexts none)
    ∙ ap (λ (v : Placing). next_stripe v b) c.self.view_is)

pub returns-in-None : goal.returns-in-None
returns-in-None c =
    let t = told c.self.inside c.args.self.now c.next_new.result c.args.busy c.self.invariant c.self.view_is (after c) in
    let order = c.are_in_order.ensures in
    record {
      next = t.next;
      none = t.none;
      placeable = t.placeable;
      unit = t.unit;
      turn = t.turn;
      lost_rise = subst (λ (v : Placing). Rises v.entries.lost) c.self.view_is order.lost;
      fresh_rise = subst (λ (v : Placing). Rises v.entries.fresh) c.self.view_is order.fresh;
    }

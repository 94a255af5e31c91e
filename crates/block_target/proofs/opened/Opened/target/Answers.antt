use Rattle.std.proofs.Common.{◌≡◌, length, map, sym, subst, ◌∙◌}
use Rattle.std.proofs.lemmas.List.{length-map}
use Rattle.block_target.specs.OpenedTargets.{OpenedView}
use Rattle.block_target.specs.Targets.{Names}
use Rattle.block_target.proofs.OpenedParts.{beginning, early, handed_units, mounted, unused}
use Rattle.block_target.proofs.opened.Opened.target.Goals as goal

pub give_up-requires : goal.give_up-requires
give_up-requires g c = unused (map g.U.Unit.model c.self.inside.units.items) c.self.inside.parts c.self.invariant

pub lock_units-requires-clause-mounted : goal.lock_units-requires-clause-mounted
lock_units-requires-clause-mounted g c =
    let m = g.M.Mount in
    let us = c.self.inside.units.items in
    let many : length (map g.U.Unit.wear us) ≡ length (map g.U.Unit.model us) = length-map us g.U.Unit.wear ∙ sym (length-map us g.U.Unit.model) in
    mounted (map g.U.Unit.model us) (map g.U.Unit.wear us) c.self.inside.parts c.self.invariant many m.chronicle m.past m.ring m.key m.handed m.wear
    (subst (λ (v : OpenedView). Names m.chronicle m.past m.ring m.key m.handed m.wear v) (sym c.self.view_is) c.requires.named)

pub lock_units-requires-clause-early : goal.lock_units-requires-clause-early
lock_units-requires-clause-early g c =
    let m = g.M.Mount in
    let us = c.self.inside.units.items in
    let many : length (map g.U.Unit.wear us) ≡ length (map g.U.Unit.model us) = length-map us g.U.Unit.wear ∙ sym (length-map us g.U.Unit.model) in
    early (map g.U.Unit.model us) (map g.U.Unit.wear us) c.self.inside.parts c.self.invariant many m.chronicle m.past m.ring m.key m.handed m.wear
    (subst (λ (v : OpenedView). Names m.chronicle m.past m.ring m.key m.handed m.wear v) (sym c.self.view_is) c.requires.named)

pub lock_units-requires-clause-units : goal.lock_units-requires-clause-units
lock_units-requires-clause-units g c =
    let m = g.M.Mount in
    let us = c.self.inside.units.items in
    let many : length (map g.U.Unit.wear us) ≡ length (map g.U.Unit.model us) = length-map us g.U.Unit.wear ∙ sym (length-map us g.U.Unit.model) in
    handed_units (map g.U.Unit.model us) (map g.U.Unit.wear us) c.self.inside.parts c.self.invariant many m.chronicle m.past m.ring m.key m.handed m.wear
    (subst (λ (v : OpenedView). Names m.chronicle m.past m.ring m.key m.handed m.wear v) (sym c.self.view_is) c.requires.named)

pub put_together-target-requires-clause-beginning : goal.put_together-target-requires-clause-beginning
put_together-target-requires-clause-beginning g c =
    let m = g.M.Mount in
    let us = c.self.inside.units.items in
    let many : length (map g.U.Unit.wear us) ≡ length (map g.U.Unit.model us) = length-map us g.U.Unit.wear ∙ sym (length-map us g.U.Unit.model) in
    beginning (map g.U.Unit.model us) (map g.U.Unit.wear us) c.self.inside.parts c.self.invariant many m.chronicle m.past m.ring m.key m.handed m.wear
    (subst (λ (v : OpenedView). Names m.chronicle m.past m.ring m.key m.handed m.wear v) (sym c.self.view_is) c.requires.named)

pub give_up-requires-in-Err : goal.give_up-requires-in-Err
give_up-requires-in-Err g c = unused (map g.U.Unit.model c.self.inside.units.items) c.self.inside.parts c.self.invariant

use Rattle.std.proofs.Common.{◌<◌, ◌+◌, ◌-◌, ◌*◌, ◌/◌, map, length, Err, refl, ap, ◌∙◌, arith}
use Rattle.unit_port.proofs.Units.{model_there}
use Rattle.pblk_model.specs.declared.shape.Shape.{Shape}
use Rattle.scan_recovery.proofs.PadSteps.{open_below, pads_taken, pads_are, stripe_short}
use Rattle.scan_recovery.proofs.PadLoops.{done_stripe, failed_stripe, stopped_stripe}
use Rattle.scan_recovery.proofs.padding.pad_stripe.Goals as goal

pub overflow_add-end : goal.overflow_add-end
overflow_add-end g c =
    let below = open_below c.args.shape.now (map g.U.Unit.model c.args.units.now) c.args.line c.args.unit c.args.at c.requires.fit c.requires.found in
    let short = stripe_short c.args.shape.now c.args.at c.requires.accepted below.0 in
    omega arith

pub overflow_mul-end : goal.overflow_mul-end
overflow_mul-end g c =
    let below = open_below c.args.shape.now (map g.U.Unit.model c.args.units.now) c.args.line c.args.unit c.args.at c.requires.fit c.requires.found in
    let short = stripe_short c.args.shape.now c.args.at c.requires.accepted below.0 in
    omega arith

pub program_at-requires-clause-sector : goal.program_at-requires-clause-sector
program_at-requires-clause-sector g c = λ k u h. ap (λ (x : Shape). x.sector) (c.requires.fit.each k u h).shape

pub program_at-requires-clause-taken : goal.program_at-requires-clause-taken
program_at-requires-clause-taken g c =
    let s = c.args.shape.now in
    let n = (c.args.at / s.ws_opt + 1) * s.ws_opt - c.args.at in
    pads_taken s (map g.U.Unit.model c.args.units.now) c.args.line c.args.unit c.args.at _ c.requires.accepted c.requires.fit c.requires.found
    (pads_are s c.args.at c.args.bytes.now c.args.marks.now n c.requires.accepted.drive.ws_opt c.requires.blank refl)

pub returns-in-Ok : goal.returns-in-Ok
returns-in-Ok g c =
    let s = c.args.shape.now in
    let n = (c.args.at / s.ws_opt + 1) * s.ws_opt - c.args.at in
    let done = done_stripe s (map g.U.Unit.model c.args.units.now)
    (map g.U.Unit.model c.program_at.new.units) c.args.line c.args.unit c.args.at _ c.requires.accepted c.requires.fit c.requires.found c.requires.before
    (pads_are s c.args.at c.args.bytes.now c.args.marks.now n c.requires.accepted.drive.ws_opt c.requires.blank refl) c.program_at.result c.in-Ok.field-0
    c.in-Ok.is c.program_at.ensures.did in
    record { padded = done.0; smaller = done.1; before = done.2; kept = c.program_at.ensures.kept; wear = c.program_at.ensures.wear }

pub returns-in-Err-Failed : goal.returns-in-Err-Failed
returns-in-Err-Failed g c =
    let s = c.args.shape.now in
    let n = (c.args.at / s.ws_opt + 1) * s.ws_opt - c.args.at in
    let done = failed_stripe s (map g.U.Unit.model c.args.units.now)
    (map g.U.Unit.model c.program_at.new.units) c.args.line c.args.unit c.args.at _ c.requires.accepted c.requires.fit c.requires.found c.requires.before
    (pads_are s c.args.at c.args.bytes.now c.args.marks.now n c.requires.accepted.drive.ws_opt c.requires.blank refl) c.program_at.result
    (c.in-Err-Failed.is ∙ ap Err c.in-Err-Failed.field-0-is) c.program_at.ensures.did in
    record { padded = done.0; smaller = done.1; before = done.2; kept = c.program_at.ensures.kept; wear = c.program_at.ensures.wear }

pub returns-in-Err-Stopped : goal.returns-in-Err-Stopped
returns-in-Err-Stopped g c =
    let s = c.args.shape.now in
    let n = (c.args.at / s.ws_opt + 1) * s.ws_opt - c.args.at in
    let inside : c.args.unit < length c.program_at.new.units = omega arith in
    let done = stopped_stripe s (map g.U.Unit.model c.args.units.now)
    (map g.U.Unit.model c.program_at.new.units) c.args.line c.args.unit c.args.at _ c.requires.accepted c.requires.fit c.requires.found c.requires.before
    (pads_are s c.args.at c.args.bytes.now c.args.marks.now n c.requires.accepted.drive.ws_opt c.requires.blank refl) c.program_at.result _ c.events.result
    (c.in-Err-Stopped.is ∙ ap Err c.in-Err-Stopped.field-0-is) c.program_at.ensures.did
    (model_there g.U.Unit.model c.program_at.new.units c.args.unit c.index-units-unit.result inside) c.events.ensures.count in
    record { padded = done.0; smaller = tt; before = done.1; kept = c.program_at.ensures.kept; wear = c.program_at.ensures.wear }

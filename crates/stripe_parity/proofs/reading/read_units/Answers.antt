use Rattle.std.proofs.Common.{◌≡◌, ◌+◌, ◌<◌, ◌≤◌, Vec, Global, length, map, sym, ap, subst, ◌∙◌, arith}
use Rattle.std.proofs.lemmas.Result.{err_from_is_err_and}
use Rattle.pblk_model.specs.Shape.{units}
use Rattle.pblk_model.proofs.Maps.{map_last}
use Rattle.stripe_parity.specs.declared.kept.KeptChunk.{KeptChunk}
use Rattle.stripe_parity.specs.ParityBytes.{AreUnitParts, kept_end}
use Rattle.stripe_parity.proofs.FileParts.{begins, file_refused, one_unit_more}
use Rattle.stripe_parity.proofs.reading.read_units.Goals as goal

pub returns-in_err-of-clause-refused : goal.returns-in_err-of-clause-refused
returns-in_err-of-clause-refused c =
    let p = err_from_is_err_and c.from_residual.result c.from_residual.ensures.1 in
    let s = c.args.shape.now in
    let reaches : kept_end s ≤ length c.args.bytes.now = rw (← c.units.ensures) (omega (arith, c.if-bytes-count.false)) in
    let within : c.loop-unit.unit < units s = omega (arith, c.loop-unit-test.true, c.units-unit-end.ensures) in
    rw (p.1, p.2) (file_refused s c.args.bytes.now c.loop-unit.unit
    (map (λ (of : Vec KeptChunk Global). of.items) c.loop-unit.kept.items) c.in_err-of.field-0.0 c.requires.header reaches within c.loop-unit.invariant
    c.in_err-of.ensures.refused)

pub loop-unit-preserved : goal.loop-unit-preserved
loop-unit-preserved c =
    let s = c.args.shape.now in
    let more = ap (map (λ (of : Vec KeptChunk Global). of.items)) c.in_ok-push_unit.ensures
    ∙ map_last (λ (of : Vec KeptChunk Global). of.items) c.loop-unit.kept.items c.in_ok-of.of in
    subst (AreUnitParts s c.args.bytes.now (c.loop-unit.unit + 1)) (sym more)
    (one_unit_more s c.args.bytes.now c.loop-unit.unit
    (map (λ (of : Vec KeptChunk Global). of.items) c.loop-unit.kept.items) c.in_ok-of.of.items c.loop-unit.invariant c.in_ok-of.ensures.kept)

pub returns-clause-kept : goal.returns-clause-kept
returns-clause-kept c =
    let s = c.args.shape.now in
    let kept = map (λ (of : Vec KeptChunk Global). of.items) c.loop-unit.kept.items in
    let reaches : kept_end s ≤ length c.args.bytes.now = rw (← c.units.ensures) (omega (arith, c.if-bytes-count.false)) in
    let end : c.loop-unit.unit ≡ units s = omega (arith, c.loop-unit-test.false, c.loop-unit.auto.unit-end, c.units-unit-end.ensures) in
    begins s c.args.bytes.now kept c.requires.header reaches (subst (λ n. AreUnitParts s c.args.bytes.now n kept) end c.loop-unit.invariant)

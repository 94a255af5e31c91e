use Rattle.std.proofs.Common.{◌∙◌, subst}
use Rattle.std.specs.Prelude.{IfErr, map}
use Rattle.scan_recovery.proofs.HandedBack.{PadEnd, pad_done, pad_ends, scanned}
use Rattle.scan_recovery.proofs.readying.make_ready.Goals as goal

pub returns-in-Ok : goal.returns-in-Ok
returns-in-Ok g c =
    let s = c.args.shape.now in
    let old = map g.U.Unit.model c.args.units.now in
    let mid = map g.U.Unit.model c.pad.new.units in
    let is = scanned s old mid (map g.U.Unit.model c.scan.new.units) c.in-Ok.field-0
    (pad_done s old mid c.pad.result c.in-Ok.field-0 c.in-Ok.is c.pad.ensures.padded) c.pad.ensures.kept
    (record { is_sealed = c.pad.ensures.sealed; contents_are = c.pad.ensures.contents; end_is = c.pad.ensures.end }) c.in-Ok.ensures.closed c.scan.ensures.kept
    c.scan.result c.scan.ensures.found c.scan.ensures.fetched in
    record { found = is.0; handed_back = is.1; memory = is.2; cause = is.3; wear = c.scan.ensures.wear ∙ c.pad.ensures.wear }

pub returns-in-Err : goal.returns-in-Err
returns-in-Err g c =
    let s = c.args.shape.now in
    let old = map g.U.Unit.model c.args.units.now in
    let mid = map g.U.Unit.model c.pad.new.units in
    let ends = subst (λ r. IfErr r (PadEnd s old mid)) c.in-Err.is
    (pad_ends s old mid c.pad.result c.pad.ensures.padded c.pad.ensures.memory c.pad.ensures.kept
    (record { is_sealed = c.pad.ensures.sealed; contents_are = c.pad.ensures.contents; end_is = c.pad.ensures.end })) in
    record { found = tt; handed_back = ends.0; memory = λ same. ends.1 cc; cause = ends.2; wear = c.pad.ensures.wear }

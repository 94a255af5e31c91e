use Rattle.std.proofs.Common.{◌++◌, ◌∷◌, [], map, ap, ◌∙◌}
use Rattle.scan_recovery.specs.Units.{image_of}
use Rattle.scan_recovery.proofs.PadLoops.{fit_image}
use Rattle.scan_recovery.proofs.ScanSteps.{states_more, states_done}
use Rattle.scan_recovery.proofs.reading.unit_states.Goals as goal

pub loop-line-preserved : goal.loop-line-preserved
loop-line-preserved g c = λ media there.
    states_more (image_of c.args.shape.now (map g.U.Unit.model c.args.units.now)) c.loop-line.line c.args.unit media c.state_of.result c.args.states.now.items
    c.loop-line.states.items c.push.new.self.items there c.state_of.ensures
    (c.in_ok-push.ensures.items ∙ ap (λ st. c.loop-line.states.items ++ st ∷ []) c.taken.ensures) (c.loop-line.invariant media there)

pub returns : goal.returns
returns g c = λ media there.
    states_done (image_of c.args.shape.now (map g.U.Unit.model c.args.units.now)) c.loop-line.line c.args.unit media c.args.states.now.items
    c.loop-line.states.items
    (fit_image c.args.shape.now (map g.U.Unit.model c.args.units.now) c.requires.fit) there c.loop-line-test.false (c.loop-line.invariant media there)

use Rattle.std.proofs.Common.{List, [], ◌∷◌, ◌++◌, map, sym, subst}
use Rattle.pblk_world.specs.Fronts.{taken}
use Rattle.write_ring.specs.declared.view.Part.{Part}
use Rattle.write_ring.specs.Handles.{AreAllClaims, pass_view}
use Rattle.chronicle.specs.Prefixes.{logs_of}
use Rattle.pblk_engine.specs.Endings.{HasEndedOf}
use Rattle.pblk_engine.specs.Workers.{WorkerView}
use Rattle.pblk_engine.proofs.WorkedOff.{closed_then}
use Rattle.pblk_engine.proofs.engine.Engine.close.Goals as goal

pub close-units-requires-clause-all : goal.close-units-requires-clause-all
close-units-requires-clause-all g c =
    let heart = c.work_off-apart.result.0.heart in
    subst (λ (p : Part). AreAllClaims g.M.Mount.key.first (taken (logs_of heart.author.known 0)) p heart.intake.pass) (sym c.work_off-apart.ensures.same_pass)
    c.work_off-apart.ensures.all

pub returns : goal.returns
returns g c =
    let heart = c.work_off-apart.result.0.heart in
    let units = map g.U.Unit.model c.close-units.result.items in
    let worn = map g.U.Unit.wear c.close-units.result.items in
    let pass = (pass_view c.args.pass).pass in
    let ws : List WorkerView = c.args.workers.items ++ c.work_off-apart.new.worker ∷ [] in
    closed_then g.M.Mount.past g.M.Mount.key g.M.Mount.handed g.M.Mount.wear heart c.args.first c.work_off-apart.new.worker c.args.workers.items
    c.args.names.spare pass c.work_off-apart.result.1 units worn c.work_off-apart.ensures.worked
    (subst (λ (p : Part). HasEndedOf heart g.M.Mount.past g.M.Mount.key g.M.Mount.handed g.M.Mount.wear ws c.args.names.spare p units worn)
    c.work_off-apart.ensures.same_pass
    (subst (λ (vs : List WorkerView). HasEndedOf heart g.M.Mount.past g.M.Mount.key g.M.Mount.handed g.M.Mount.wear vs c.args.names.spare
    (pass_view c.work_off-apart.new.pass).pass units worn) c.put.ensures.items c.close-units.ensures))
    c.work_off-apart.ensures.ticks.0 c.work_off-apart.ensures.ticks.1 c.work_off-apart.ensures.knows

use Rattle.std.proofs.Common.{refl, sym, subst}
use Rattle.std.specs.Prelude.{IsOk}
use Rattle.chronicle.specs.Prefixes.{Prefixes}
use Rattle.pblk_engine.specs.ChunkResets.{HasReset}
use Rattle.pblk_engine.specs.WorkSince.{HasWorkSince}
use Rattle.pblk_engine.proofs.PumpSteps.{pumped_reset, pumped_stopped}
use Rattle.pblk_engine.proofs.RoleCommands.{reset_of_lane}
use Rattle.pblk_engine.proofs.shared.Shared.reset.Goals as goal

pub returns-in-Ok-clause-pumped : goal.returns-in-Ok-clause-pumped
returns-in-Ok-clause-pumped g c = λ role.
    let old = c.args.worker.now in
    let new = c.reset_chunk-arm.new.worker in
    pumped_reset g.M.Mount.past.image g.M.Mount.handed role old new c.args.unit c.args.line
    (subst (HasReset g.M.Mount.handed c.args.unit c.args.line old new) c.in-Ok.is c.reset_chunk-arm.ensures.worker)
    (subst (λ (k : Prefixes). HasWorkSince k new.known) (sym c.requires.known) (c.reset_chunk-arm.ensures.worked (subst (λ r. IsOk r) (sym c.in-Ok.is) refl)))

pub returns-in-Err-clause-pumped : goal.returns-in-Err-clause-pumped
returns-in-Err-clause-pumped g c = λ role.
    let old = c.args.worker.now in
    let new = c.reset_chunk-arm.new.worker in
    pumped_stopped g.M.Mount.past.image g.M.Mount.handed role old new c.args.unit c.args.line c.in-Err.event
    (subst (HasReset g.M.Mount.handed c.args.unit c.args.line old new) c.in-Err.is c.reset_chunk-arm.ensures.worker)

pub returns-in-Ok-clause-made : goal.returns-in-Ok-clause-made
returns-in-Ok-clause-made g c =
    reset_of_lane g.M.Mount.handed c.args.unit c.args.line c.args.worker.now c.reset_chunk-arm.new.worker _ c.reset_chunk-arm.ensures.worker

pub returns-in-Err-clause-made : goal.returns-in-Err-clause-made
returns-in-Err-clause-made g c =
    reset_of_lane g.M.Mount.handed c.args.unit c.args.line c.args.worker.now c.reset_chunk-arm.new.worker _ c.reset_chunk-arm.ensures.worker

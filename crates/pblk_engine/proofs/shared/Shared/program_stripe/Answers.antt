use Rattle.std.proofs.Common.{◌≡◌, subst, ◌∙◌, le_trans}
use Rattle.chronicle.proofs.Rests.{still_begun}
use Rattle.pblk_engine.specs.Programs.{HasTried}
use Rattle.pblk_engine.proofs.ArmPrograms.{placed_more}
use Rattle.pblk_engine.proofs.MadePrograms.{counted_later}
use Rattle.pblk_engine.proofs.shared.Shared.program_stripe.Goals as goal

pub loop-preserved : goal.loop-preserved
loop-preserved g c =
    let i = c.loop.invariant in
    let e = c.try_program-told.ensures in
    let told = c.try_program-told.result.0.known in
    let waits : c.try_program-told.new.worker ≡ c.loop.worker =
    subst (HasTried g.M.Mount.handed c.loop.worker c.try_program-told.new.worker told c.args.stops) c.in-Waits.is e.tried in (
      still_begun c.args.note.known c.loop.note.known told i.0 e.learns,
      waits ∙ i.1,
      e.note,
      still_begun c.args.worker.now.known c.loop.note.known told i.3 e.learns,
      placed_more c.loop.note.known told c.args.worker.now.stripe e.learns i.4,
      le_trans i.5 (counted_later c.loop.note.known told c.args.worker.now.stripe.stripe.unit e.learns),
    )

pub returns-in-Made-clause-learns : goal.returns-in-Made-clause-learns
returns-in-Made-clause-learns g c =
    still_begun c.args.note.known c.loop.note.known c.try_program-told.result.0.known c.loop.invariant.0 c.try_program-told.ensures.learns

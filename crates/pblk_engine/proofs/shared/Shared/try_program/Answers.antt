use Rattle.std.proofs.Common.{◌≡◌, sym, ap, ◌∙◌}
use Rattle.pblk_core.specs.Filling.{Filling}
use Rattle.pblk_engine.specs.Arms.{ArmView}
use Rattle.pblk_engine.proofs.MadePrograms.{has_tried}
use Rattle.pblk_engine.proofs.shared.Shared.try_program.Goals as goal

pub returns-clause-tried : goal.returns-clause-tried
returns-clause-tried g c =
    let arm : ArmView = c.lock-held.result.1 in
    let e = c.program-note.ensures in
    let on : c.args.worker.now.stripe.stripe.unit ≡ arm.number =
    sym (ap (λ (f : Filling). f.stripe.unit) c.stripe.ensures.stripe) ∙ sym c.unit.ensures ∙ sym c.lock-held.ensures.kept in
    has_tried g.M.Mount.past.image g.M.Mount.handed c.args.note.known c.program-note.result.0.known arm c.program-note.new.self c.args.worker.now
    c.program-note.new.worker c.args.stops on c.program-note.result.1 e.programmed e.event e.knows e.note.legal c.requires.inside c.requires.placed
    c.requires.stops e.learns

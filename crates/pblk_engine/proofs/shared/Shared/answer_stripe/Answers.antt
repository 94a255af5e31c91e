use Rattle.std.proofs.Common.{sym, subst, ap}
use Rattle.chronicle.specs.Prefixes.{ArePrefixes}
use Rattle.chronicle.proofs.Rests.{still_begun}
use Rattle.pblk_engine.specs.Workers.{WorkerView}
use Rattle.pblk_engine.proofs.shared.Shared.answer_stripe.Goals as goal

pub returns-clause-learns : goal.returns-clause-learns
returns-clause-learns g c =
    let note = c.args.note.known in
    let heart = c.answer.new.self.author.known in
    subst (ArePrefixes note) (sym (ap (λ (w : WorkerView). w.known) c.tell.ensures.worker))
    (still_begun note heart c.tell.new.heart.author.known c.answer.ensures.learns c.tell.ensures.heart_keeps)

use Rattle.std.proofs.Common.{sym, subst, ap}
use Rattle.chronicle.specs.Prefixes.{Prefixes}
use Rattle.pblk_engine.specs.WorkSince.{HasOpened}
use Rattle.pblk_engine.specs.Workers.{WorkerView}
use Rattle.pblk_engine.proofs.GoingOn.{goes_told}
use Rattle.pblk_engine.proofs.WorkSince.{decided_still}
use Rattle.pblk_engine.proofs.PumpSteps.{pumped_opened}
use Rattle.pblk_engine.proofs.RoleCommands.{still_of_role}
use Rattle.pblk_engine.proofs.shared.Shared.open_line.Goals as goal

pub returns-clause-pumped : goal.returns-clause-pumped
returns-clause-pumped g c =
    let old : WorkerView = c.args.worker.now in
    let new : WorkerView = c.tell.new.worker in
    let told : Prefixes = c.tell.new.heart.author.known in
    let opened : HasOpened old.known told =
    subst (λ (k : Prefixes). HasOpened k told) (sym c.requires.known)
    (decided_still _ c.args.heart.now.author.known c.open_line.new.self.author.known told c.open_line.ensures.opened
    c.tell.ensures.heart_keeps) in
    λ role. pumped_opened g.M.Mount.past.image g.M.Mount.handed role old new (goes_told old new told c.tell.ensures.worker c.tell.ensures.keeps)
    (subst (HasOpened old.known) (sym (ap (λ (w : WorkerView). w.known) c.tell.ensures.worker)) opened)

pub returns-clause-made : goal.returns-clause-made
returns-clause-made g c = λ role. still_of_role role c.args.worker.now c.tell.new.worker (ap (λ (w : WorkerView). w.made) c.tell.ensures.worker)

use Rattle.std.proofs.Common.{sym, subst, ap, arith}
use Rattle.pblk_world.specs.Orders.{AreReset}
use Rattle.chronicle.specs.Prefixes.{Prefixes, logs_of}
use Rattle.pblk_engine.specs.Pumps.{IsNothing}
use Rattle.pblk_engine.specs.Workers.{WorkerView}
use Rattle.pblk_engine.proofs.GoingOn.{goes_told}
use Rattle.pblk_engine.proofs.PumpSteps.{came_on_then, is_nothing, pumped_since}
use Rattle.pblk_engine.proofs.engine.Engine.pump.Goals as goal

pub pump_held-requires-clause-reset : goal.pump_held-requires-clause-reset
pump_held-requires-clause-reset g c = λ line unit is. (c.next_work-work.ensures.reset line unit is).unit_in_range

pub pump_held-requires-clause-rest : goal.pump_held-requires-clause-rest
pump_held-requires-clause-rest g c = λ why is.
    subst (λ (k : Prefixes). IsNothing g.M.Mount.past.image k why) (sym (ap (λ (w : WorkerView). w.known) c.tell.ensures.worker))
    (is_nothing g.M.Mount.past.image c.tell.new.heart.author.known c.next_work-work.result c.tell.new.heart.pad c.next_work-work.ensures.rest
    c.next_work-work.ensures.busy (omega arith) why is)

pub pump_held-requires-clause-reset_first : goal.pump_held-requires-clause-reset_first
pump_held-requires-clause-reset_first g c = λ is.
    subst (λ (k : Prefixes). AreReset g.M.Mount.past.image (logs_of k)) (sym (ap (λ (w : WorkerView). w.known) c.tell.ensures.worker))
    (c.next_work-work.ensures.reset_first is)

pub returns-clause-pumped : goal.returns-clause-pumped
returns-clause-pumped g c =
    pumped_since g.M.Mount.past.image g.M.Mount.handed c.args.role c.args.worker.now c.tell.new.worker c.pump_held.new.worker c.pump_held.result
    (goes_told c.args.worker.now c.tell.new.worker c.tell.new.heart.author.known c.tell.ensures.worker c.tell.ensures.keeps) c.pump_held.ensures.pumped

pub returns-clause-progress : goal.returns-clause-progress
returns-clause-progress g c =
    came_on_then g.M.Mount.past.image g.M.Mount.handed c.args.role c.args.worker.now c.pump_held.new.worker c.pump_held.result
    (pumped_since g.M.Mount.past.image g.M.Mount.handed c.args.role c.args.worker.now c.tell.new.worker c.pump_held.new.worker c.pump_held.result
    (goes_told c.args.worker.now c.tell.new.worker c.tell.new.heart.author.known c.tell.ensures.worker c.tell.ensures.keeps) c.pump_held.ensures.pumped)

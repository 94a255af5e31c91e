use Rattle.std.proofs.Common.{◌≡◌, ◌∷◌, ◌++◌, [], List, ap, subst, if◌then◌else◌, ◌∙◌}
use Rattle.std.specs.Result.{is_ok}
use Rattle.pblk_engine.specs.Workers.{WorkerView}
use Rattle.block_target.specs.Sessions.{SessionView}
use Rattle.target_crew.proofs.OneSession.{all_back}
use Rattle.pump_tests.proofs.worn.close.Goals as goal

pub close-units-requires : goal.close-units-requires
close-units-requires g c = record {
  all = all_back g.M.Mount.key c.args.target c.push.new.self.items c.push-2.new.self.items c.args.ticket c.args.worker c.requires.target
      (subst (λ r. c.push.new.self.items ≡ (if is_ok r then c.args.tickets.items ++ c.args.ticket ∷ [] else c.args.tickets.items)) c.unwrap.ensures
      c.push.ensures.items ∙ ap (λ (ts : List SessionView). ts ++ c.args.ticket ∷ []) c.requires.no_ticket)
      (subst (λ r. c.push-2.new.self.items ≡ (if is_ok r then c.args.workers.items ++ c.args.worker ∷ [] else c.args.workers.items)) c.unwrap-2.ensures
      c.push-2.ensures.items ∙ ap (λ (ws : List WorkerView). ws ++ c.args.worker ∷ []) c.requires.no_worker)
      c.requires.number c.requires.worker;
}

use Rattle.std.proofs.Common.{◌≡◌, ◌∷◌, ◌++◌, [], List, ap, subst, if◌then◌else◌, ◌∙◌}
use Rattle.std.specs.Result.{is_ok}
use Rattle.block_target.specs.Sessions.{SessionView}
use Rattle.block_target.proofs.AllBack.{one_back}
use Rattle.target_tests.proofs.harness.close.Goals as goal

pub close-requires : goal.close-requires
close-requires g c = record {
  all = one_back g.M.Mount.past g.M.Mount.key c.args.target c.push.new.self.items c.args.workers.items c.args.ticket c.requires.target
      (subst (λ r. c.push.new.self.items ≡ (if is_ok r then c.args.tickets.items ++ c.args.ticket ∷ [] else c.args.tickets.items)) c.unwrap.ensures
      c.push.ensures.items ∙ ap (λ (ts : List SessionView). ts ++ c.args.ticket ∷ []) c.requires.empty)
      c.requires.workers c.requires.number;
}

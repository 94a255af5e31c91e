use Rattle.std.proofs.Common.{◌≡◌, ◌∷◌, ◌++◌, [], List, ap, subst, if◌then◌else◌, ◌∙◌}
use Rattle.std.specs.Result.{is_ok}
use Rattle.block_target.specs.Sessions.{SessionView}
use Rattle.target_tests.proofs.OneSession.{number_comes_back, one_comes_back}
use Rattle.target_tests.proofs.harness.run_session.Goals as goal

pub only_port-requires : goal.only_port-requires
only_port-requires g c =
    one_comes_back g.M.Mount.past g.M.Mount.handed g.M.Mount.wear c.args.script.now c.in-Ok-run.records c.session.result c.push.new.self.items
    c.in-Ok-run.ports.items c.requires.one
    (subst (λ r. c.push.new.self.items ≡ (if is_ok r then c.in-Ok.ports.items ++ c.session.result ∷ [] else c.in-Ok.ports.items)) c.unwrap.ensures
    c.push.ensures.items ∙ ap (λ (ts : List SessionView). ts ++ c.session.result ∷ []) c.in-Ok.ensures.items)
    c.in-Ok-run.ensures.run

pub returns-in-Ok-run : goal.returns-in-Ok-run
returns-in-Ok-run g c =
    ap (λ (t : SessionView). t.worker.number) c.end.ensures
    ∙ number_comes_back g.M.Mount.past g.M.Mount.handed g.M.Mount.wear c.args.script.now c.in-Ok-run.records c.session.result c.only_port.result
    c.push.new.self.items c.in-Ok-run.ports.items c.requires.one
    (subst (λ r. c.push.new.self.items ≡ (if is_ok r then c.in-Ok.ports.items ++ c.session.result ∷ [] else c.in-Ok.ports.items)) c.unwrap.ensures
    c.push.ensures.items ∙ ap (λ (ts : List SessionView). ts ++ c.session.result ∷ []) c.in-Ok.ensures.items)
    c.only_port.ensures c.in-Ok-run.ensures.run
    ∙ ap (λ (t : SessionView). t.worker.number) c.session.ensures

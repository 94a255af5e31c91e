use Rattle.std.proofs.Common.{◌≡◌, ◌+◌, IfOk, length, ap, subst, ◌∙◌, arith}
use Rattle.std.proofs.lemmas.Result.{IfErr-weaker}
use Rattle.pblk_world.specs.World.{log_of}
use Rattle.block_target.specs.Targets.{first_sessions}
use Rattle.block_target.proofs.AllBack.{helped_back}
use Rattle.pblk_cli.specs.Serving.{HaveRun, sessions_for}
use Rattle.pblk_cli.proofs.Servings.{troubles}
use Rattle.pblk_cli.proofs.Sessions.{lasts_count, over_count, over_numbered, some_session}
use Rattle.pblk_cli.proofs.serving.serve_target.Goals as goal

pub close-units-requires : goal.close-units-requires
close-units-requires g c =
    let s = sessions_for (length c.args.script.now) in
    let lasts = c.work-workers.new.tickets.items in
    let w = c.work-workers.ensures in
    let unrun = IfErr-weaker c.work-workers.result.1 _ (λ _. lasts ≡ first_sessions g.M.Mount.past g.M.Mount.key s) (λ e is. is ∙ c.requires.tickets) w.unrun in
    record {
      all = helped_back g.M.Mount.key s (c.args.lanes + 1) c.args.target lasts c.work-workers.result.0.items (some_session (length c.args.script.now))
          (omega (arith, c.requires.few)) c.requires.target
          (over_count g.M.Mount.past g.M.Mount.key g.M.Mount.handed g.M.Mount.wear c.args.script.now c.work-workers.result.1 lasts w.ran unrun)
          (over_numbered g.M.Mount.past g.M.Mount.key g.M.Mount.handed g.M.Mount.wear c.args.script.now c.work-workers.result.1 lasts w.ran unrun) w.workers
          w.helped.numbers;
    }

pub returns-in-Ok-clause-served : goal.returns-in-Ok-clause-served
returns-in-Ok-clause-served g c =
    let lasts = c.work-workers.new.tickets.items in
    let before = c.in-Ok.records in
    let settled = c.close-units.result.1 in
    let closed = c.close-units.ensures.closed in
    let ran : HaveRun g.M.Mount.past g.M.Mount.key g.M.Mount.handed g.M.Mount.wear c.args.script.now before lasts =
    subst (λ r. IfOk r (λ records. HaveRun g.M.Mount.past g.M.Mount.key g.M.Mount.handed g.M.Mount.wear c.args.script.now records lasts)) c.in-Ok.is
    c.work-workers.ensures.ran in
    record {
      before = before;
      lasts = lasts;
      ran = ran;
      count = lasts_count g.M.Mount.past g.M.Mount.key g.M.Mount.handed g.M.Mount.wear c.args.script.now before lasts ran;
      workers = c.work-workers.result.0.items;
      workers_count = c.work-workers.ensures.workers;
      helped = c.work-workers.ensures.helped;
      settled = settled;
      back = record {
        closed = closed;
        trouble = troubles settled g.M.Mount.past.image (log_of closed.world) closed.tells c.trouble_of.ensures.number c.trouble_of.ensures.event;
      };
      records_are = c.closed_records.ensures
          ∙ ap (λ closing. record { threads = before.threads; opening = before.opening; closing = closing }) c.trouble_of.ensures.is;
    }

use Rattle.std.proofs.Common.{◌≡◌, ◌<◌, ◌+◌, ℕ, List, [], ◌∷◌, ◌++◌, Result, length, map, sym, subst, ap, ◌∙◌, arith}
use Rattle.std.specs.List.{AllByRecursion}
use Rattle.unit_port.specs.Unit.{ModelUnit}
use Rattle.chronicle.specs.Prefixes.{ArePrefixes}
use Rattle.chronicle.specs.Views.{Past}
use Rattle.write_ring.specs.declared.view.Key.{Key}
use Rattle.pblk_engine.specs.Closed.{HasClosed}
use Rattle.pblk_engine.specs.Mounts.{IsMounted}
use Rattle.pblk_engine.specs.declared.errors.SettleErr.{SettleErr}
use Rattle.block_target.specs.Closes.{AreAllBack, IsClosed, IsKept, joined, with_workers}
use Rattle.block_target.specs.Sessions.{SessionView}
use Rattle.write_ring.specs.Handles.{pass_view}
use Rattle.block_target.proofs.ClosingWorlds.{is_closed}
use Rattle.block_target.proofs.ClosingParts.{shares_are, some_workers}
use Rattle.pblk_engine.specs.Workers.{WorkerView}
use Rattle.write_ring.specs.declared.view.Part.{Part}
use Rattle.block_target.specs.Targets.{TargetView, target_view}
use Rattle.block_target.proofs.target.Target.close.Goals as goal
use Rattle.block_target.proofs.FirstArms.{last_same}

-- all workers have room there
pub gather-workers-requires-clause-room : goal.gather-workers-requires-clause-room
gather-workers-requires-clause-room g c =
    let named = ap (λ (v : TargetView). v.named) c.self.view_is ∙ c.requires.all.named in
    let seats = c.self.invariant.seats_are (length c.args.tickets.items + length c.args.workers.items) named in
    omega (arith, seats)

pub take_all_in-requires-clause-room : goal.take_all_in-requires-clause-room
take_all_in-requires-clause-room g c =
    let named = ap (λ (v : TargetView). v.named) c.self.view_is ∙ c.requires.all.named in
    let seats = c.self.invariant.seats_are (length c.args.tickets.items + length c.args.workers.items) named in
    let same = ap length c.gather-workers.ensures.items in
    omega (arith, seats, same, c.gather-workers.ensures.capacity)

pub take_last-first-requires : goal.take_last-first-requires
take_last-first-requires g c = record {
  some = subst (λ (ws : List WorkerView). 0 < length ws) (sym c.take_all_in.ensures.workers)
      (some_workers c.gather-workers.result.items c.args.tickets.items c.requires.all.some);
}

pub close-requires-clause-shares : goal.close-requires-clause-shares
close-requires-clause-shares g c =
    ap (λ (p : Part). p.shares) c.take_all_in.ensures.joined
    ∙ shares_are g.M.Mount.past g.M.Mount.handed (pass_view c.self.inside.pass).pass c.args.tickets.items c.take_all_in.ensures.kept
    ∙ subst (λ (v : TargetView). v.pass.pass.shares + length c.args.tickets.items ≡ 127) (sym c.self.view_is) c.requires.all.shares

-- of a target and its tickets, of which there is one at least
closes : (past : Past) (key : Key) (handed : List ModelUnit) (wear : List (List ℕ)) (target : TargetView) (tickets : List SessionView)
    (workers rest : List WorkerView) (first : WorkerView) (settled : Result (Unit {0}) SettleErr) (units : List ModelUnit) (worn : List (List ℕ))
    → IsMounted past key handed wear → ArePrefixes past.logs first.known → AreAllBack target tickets workers → AllByRecursion (IsKept past handed) tickets
    → with_workers workers tickets ≡ rest ++ first ∷ []
    → HasClosed past key handed wear first rest target.named (joined target.pass.pass tickets) settled units worn
    → IsClosed past key handed wear tickets workers settled units worn
closes past key handed wear target [] workers rest first settled units worn mounted begins all kept split closed = absurd (omega (arith, all.some))
closes past key handed wear target (t ∷ ts) workers rest first settled units worn mounted begins all kept split closed =
    let parts = last_same (with_workers workers ts) rest t.worker first split in
    is_closed past key handed wear target t ts workers settled units worn mounted
    (subst (λ (v : WorkerView). ArePrefixes past.logs v.known) (sym parts.1) begins) all kept
    (subst (λ (v : WorkerView). HasClosed past key handed wear v (with_workers workers ts) target.named (joined target.pass.pass (t ∷ ts)) settled units worn)
    (sym parts.1)
    (subst (λ (vs : List WorkerView). HasClosed past key handed wear first vs target.named (joined target.pass.pass (t ∷ ts)) settled units worn)
    (sym parts.0) closed))

pub returns : goal.returns
returns g c =
    let past = g.M.Mount.past in
    let key = g.M.Mount.key in
    let handed = g.M.Mount.handed in
    let wear = g.M.Mount.wear in
    let inside : TargetView = target_view (pass_view c.self.inside.pass) c.self.inside.token.spare in
    let tickets = c.args.tickets.items in
    record {
      closed = closes past key handed wear inside tickets c.args.workers.items c.take_last-first.new.values.items c.take_last-first.result
          c.close.result.1 (map g.U.Unit.model c.close.result.0.items) (map g.U.Unit.wear c.close.result.0.items)
          c.self.invariant.mounted c.stands.ensures.begun
          (subst (λ (v : TargetView). AreAllBack v tickets c.args.workers.items) (sym c.self.view_is) c.requires.all) c.take_all_in.ensures.kept
          (ap (λ (ws : List WorkerView). with_workers ws tickets) (sym c.gather-workers.ensures.items) ∙ sym c.take_all_in.ensures.workers
          ∙ c.take_last-first.ensures.items)
          (subst (λ (p : Part). HasClosed past key handed wear c.take_last-first.result c.take_last-first.new.values.items inside.named p c.close.result.1
          (map g.U.Unit.model c.close.result.0.items) (map g.U.Unit.wear c.close.result.0.items)) c.take_all_in.ensures.joined c.close.ensures);
    }

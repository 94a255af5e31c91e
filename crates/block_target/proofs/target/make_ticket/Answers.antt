use Rattle.std.proofs.Common.{◌≡◌, ◌+◌, ◌-◌, ap, ◌∙◌, arith}
use Rattle.pblk_model.specs.declared.shape.Shape.{Shape}
use Rattle.write_ring.specs.Handles.{pass_view}
use Rattle.write_ring.specs.declared.view.View.{View}
use Rattle.block_target.specs.MountFrames.{IsFreeIn, first_pass}
use Rattle.block_target.specs.Rooms.{AreNewLists}
use Rattle.block_target.specs.Targets.{first_worker, naming}
use Rattle.block_target.proofs.FirstTickets.{both_hold, first_stands, session_is}
use Rattle.block_target.proofs.target.make_ticket.Goals as goal

pub returns-clause-ticket : goal.returns-clause-ticket
returns-clause-ticket g c =
    let list = (both_hold AreNewLists _ _ _ c.take_last-lists.ensures.items c.requires.supply.lists).1 in
    let at : c.from.result ≡ c.args.number = omega (arith, c.from.ensures) in
    session_is g.M.Mount.past g.M.Mount.key c.args.number c.name_worker-worker.result (pass_view c.split-pass.result) c.take_last-lists.result.own
    c.take_last-lists.result.faults c.take_last-lists.result.worns (c.name_worker-worker.ensures.worker ∙ ap (first_worker g.M.Mount.past) at)
    (c.split-pass.ensures.new ∙ ap (first_pass 1) c.requires.ring.1) list.own list.faults list.worns

pub invariant_of-result : goal.invariant_of-result
invariant_of-result g c =
    let batch = (both_hold (IsFreeIn g.M.Mount.key.origin.region 16) _ _ _ c.take_last-batch.ensures.items c.requires.supply.batches).1 in (
      record {
        its_ring = (c.split-pass.ensures.new_ring.0 ∙ c.requires.ring.0, c.split-pass.ensures.new_ring.1 ∙ c.requires.ring.1);
        first = c.requires.supply.first;
        frames = record { region = batch.region_is; free = batch.free; empty = batch.empty };
        capacity = ap (λ (s : Shape). s.capacity) c.requires.shape;
        sector = ap (λ (s : Shape). s.sector) c.requires.shape;
      },
      first_stands g.M.Mount.past g.M.Mount.key g.M.Mount.handed c.args.number _ (returns-clause-ticket g c),
    )

pub returns-clause-supply : goal.returns-clause-supply
returns-clause-supply g c =
    let key = g.M.Mount.key in
    let at : c.from.result ≡ c.args.number = omega (arith, c.from.ensures) in
    let less : 127 - c.args.number - 1 ≡ 127 - (c.args.number + 1) = omega arith in
    record {
      token = c.name_worker-worker.ensures.token ∙ ap (λ n. naming g.M.Mount.chronicle g.M.Mount.past (n + 1)) at;
      pass_of = (c.split-pass.ensures.ring.0 ∙ c.requires.ring.0, c.split-pass.ensures.ring.1 ∙ c.requires.ring.1);
      pass = c.split-pass.ensures.less
          ∙ ap (λ (v : View). record v { pass = record v.pass { shares = v.pass.shares - 1 } }) c.requires.supply.pass
          ∙ ap (λ n. first_pass n key) less;
      workers = c.name_worker-worker.ensures.still_new;
      lists = (both_hold AreNewLists _ _ _ c.take_last-lists.ensures.items c.requires.supply.lists).0;
      batches = (both_hold (IsFreeIn key.origin.region 16) _ _ _ c.take_last-batch.ensures.items c.requires.supply.batches).0;
      first = c.requires.supply.first;
    }

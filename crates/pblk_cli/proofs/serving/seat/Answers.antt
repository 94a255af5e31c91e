use Rattle.std.proofs.Common.{◌++◌, ◌∷◌, [], take, ap, sym, ◌∙◌, arith}
use Rattle.pblk_cli.proofs.Tasks.{taken_first}
use Rattle.pblk_cli.proofs.serving.seat.Goals as goal

pub loop-preserved : goal.loop-preserved
loop-preserved g c =
    let all = c.args.tickets.now.items in
    let next = taken_first all c.loop.counter c.take_first.result c.take_first.new.values.items
    (sym c.loop.invariant.tickets ∙ c.take_first.ensures.items) in
    record {
      ports = c.put.ensures.items ∙ ap (λ xs. xs ++ c.session.result ∷ []) c.loop.invariant.ports
          ∙ ap (λ x. take c.loop.counter all ++ x ∷ []) c.session.ensures ∙ next.0;
      tickets = next.1;
      within = omega (arith, c.loop-test.true);
      capacity = c.take_first.ensures.capacity ∙ c.loop.invariant.capacity;
      room = omega (arith, c.loop.invariant.room, c.put.ensures.capacity);
    }

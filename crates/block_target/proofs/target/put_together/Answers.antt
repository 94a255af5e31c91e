use Rattle.std.proofs.Common.{refl, arith}
use Rattle.block_target.proofs.PutTogether.{heart_parts, target_stands}
use Rattle.block_target.proofs.target.put_together.Goals as goal

pub new-requires-clause-first : goal.new-requires-clause-first
new-requires-clause-first g c =
    let m = g.M.Mount in
    let is = c.requires.beginning in (
      is.found,
      heart_parts m.chronicle m.past m.ring m.key m.handed m.wear c.args.beginning is _ refl
          c.requires.engine refl refl refl refl (omega (arith, c.from.ensures)),
    )

pub invariant_of-result : goal.invariant_of-result
invariant_of-result g c =
    let m = g.M.Mount in
    let of = c.make_tickets.ensures.supply in
    target_stands m.chronicle m.past m.ring m.key m.handed m.wear c.args.beginning
    c.requires.beginning c.make_tickets.new.supply.pass c.make_workers.new.token _ _ _ _ _ of.pass_of of.pass
    c.make_workers.ensures.token c.requires.empty c.requires.room c.requires.no_room c.requires.seats

use Rattle.std.proofs.Common.{◌≤◌, arith, subst, sym, ◌∙◌}
use Rattle.write_ring.specs.Handles.{limit_of, ring_key}
use Rattle.write_ring.proofs.Plays.{claims_user_at, claims_copy_at}
use Rattle.write_ring.proofs.table.Ring.exchange.Goals as goal

pub compare_exchange-requires : goal.compare_exchange-requires
compare_exchange-requires c =
    let r = c.args.self.now in
    let below = subst (λ k. c.args.new ≤ limit_of k (ring_key r) c.args.seat.now.me.0) c.in-User.is c.requires.limit in (
      c.requires.ring,
      omega (arith, r.words),
      claims_user_at _ _ _ _ _ _ (r.slots ∙ sym r.sized) c.requires.at_rest c.requires.shares c.requires.all_put c.requires.saw c.requires.rises
          c.requires.most below,
    )

pub compare_exchange-requires-in-Copy : goal.compare_exchange-requires-in-Copy
compare_exchange-requires-in-Copy c =
    let r = c.args.self.now in
    let below = subst (λ k. c.args.new ≤ limit_of k (ring_key r) c.args.seat.now.me.0) c.in-Copy.is c.requires.limit in (
      c.requires.ring,
      omega (arith, r.words),
      claims_copy_at _ _ _ _ _ _ (r.slots ∙ sym r.sized) c.requires.at_rest c.requires.shares c.requires.all_put c.requires.saw c.requires.rises c.requires.most
          (omega arith) (c.requires.copier c.in-Copy.is),
    )

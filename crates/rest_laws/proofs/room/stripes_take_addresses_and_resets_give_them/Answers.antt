use Rattle.world_laws.proofs.EarlierLogs.{some_begun}
use Rattle.rest_laws.proofs.RoomChanges.{before, engine_keeps, reset_gives, stripe_takes, unit_keeps}
use Rattle.rest_laws.proofs.room.stripes_take_addresses_and_resets_give_them.Goals as goal

pub returns : goal.returns
returns c = record {
  unit = λ i s w unit mount own. unit_keeps i s w mount unit own;
  kept = λ i s w e is.
      let b = some_begun i w (before i s w is.mount).legal is.has_begun in engine_keeps i s w is.mount is.own b.0 b.1 e is.decides;
  stripe = λ i s w stripe is none.
      let b = some_begun i w (before i s w is.mount).legal is.has_begun in stripe_takes i s w is.mount is.own b.0 b.1 none stripe is.decides;
  reset = λ i s w e is.
      let b = some_begun i w (before i s w is.step.mount).legal is.step.has_begun in
      reset_gives i s w is.step.mount is.step.own b.0 b.1 is.unit is.number e is.step.decides is.there;
}

use Rattle.world_laws.proofs.EarlierLogs.{some_begun}
use Rattle.rest_laws.proofs.RoomChanges.{before}
use Rattle.rest_laws.proofs.StripeChanges.{engine_keeps_stripes, freeing_takes, opening_adds, stripe_leaves, unit_keeps_stripes}
use Rattle.rest_laws.proofs.room.each_stripe_leaves_one_less.Goals as goal

pub returns : goal.returns
returns c = record {
  unit = λ i s w unit mount own. unit_keeps_stripes i s w mount unit own;
  kept = λ i s w e is.
      let b = some_begun i w (before i s w is.mount).legal is.has_begun in engine_keeps_stripes i s w is.mount is.own b.0 b.1 e is.decides;
  stripe = λ i s w stripe is none.
      let b = some_begun i w (before i s w is.mount).legal is.has_begun in stripe_leaves i s w is.mount is.own b.0 b.1 none stripe is.decides;
  opened = λ i s w line start is.
      let b = some_begun i w (before i s w is.mount).legal is.has_begun in opening_adds i s w is.mount is.own b.0 b.1 line start is.decides;
  freed = λ i s w line is.
      let b = some_begun i w (before i s w is.mount).legal is.has_begun in freeing_takes i s w is.mount is.own b.0 b.1 line is.decides;
}

use Rattle.world_laws.proofs.EarlierLogs.{some_begun}
use Rattle.rest_laws.proofs.FreedNear.{taken_waits}
use Rattle.rest_laws.proofs.RoomChanges.{before}
use Rattle.rest_laws.proofs.WaitingChanges.{entry_taken, fronts_kept, stripe_placed}
use Rattle.rest_laws.proofs.room.what_waits_was_taken_and_not_placed.Goals as goal

pub returns : goal.returns
returns c = record {
  waits = λ i w mount none. taken_waits i w (record { mount = mount; none_lost = none });
  take = λ i s w entry mark is.
      let b = some_begun i w (before i s w is.mount).legal is.has_begun in entry_taken i s w is.mount is.own b.0 b.1 entry mark is.decides;
  stripe = λ i s w stripe is none.
      let b = some_begun i w (before i s w is.mount).legal is.has_begun in stripe_placed i s w is.mount is.own b.0 b.1 none stripe is.decides;
  kept = λ i s w e is.
      let b = some_begun i w (before i s w is.mount).legal is.has_begun in fronts_kept i s w is.mount is.own b.0 b.1 e is.decides;
}

use Rattle.world_laws.proofs.EarlierLogs.{some_begun}
use Rattle.rest_laws.proofs.FreeChanges.{engine_keeps, open_takes, reset_gives, unit_keeps}
use Rattle.rest_laws.proofs.FreeCounts.{free_are}
use Rattle.rest_laws.proofs.RoomChanges.{before}
use Rattle.rest_laws.proofs.room.free_lines_are_opened_and_come_by_resets.Goals as goal

pub returns : goal.returns
returns c = record {
  whole = λ i logs wide. free_are i logs wide;
  unit = λ i s w unit mount own. unit_keeps i s w mount unit own;
  kept = λ i s w e is.
      let b = some_begun i w (before i s w is.mount).legal is.has_begun in engine_keeps i s w is.mount is.own b.0 b.1 e is.decides;
  opened = λ i s w line start is.
      let b = some_begun i w (before i s w is.mount).legal is.has_begun in open_takes i s w is.mount is.own b.0 b.1 line start is.decides;
  reset = λ i s w e is.
      let b = some_begun i w (before i s w is.step.mount).legal is.step.has_begun in
      reset_gives i s w is.step.mount is.step.own b.0 b.1 is.unit is.number e is.step.decides is.there;
}

use Rattle.std.proofs.Common.{◌≡◌, ◌==◌, ◌≤◌, ◌*◌, ◌^◌, filter, length, take, map}
use Rattle.std.specs.List.{flat_map}
use Rattle.pblk_model.specs.Descriptor.{state_code}
use Rattle.ocssd_drive.specs.Units.{stored_chunks}
use Rattle.command_text.proofs.numbers.chunks_in.Given as goal

abbrev pub invariant-loop-unit : goal.invariant-loop-unit
invariant-loop-unit l = record {
  counted : l.count ≡ length (filter (λ k. state_code k.chunk.state == state_code l.state)
      (flat_map (λ unit. unit) (map stored_chunks (take l.unit l.drive.units))));
  few : l.count ≤ l.unit * 2 ^ 32;
}

use Rattle.std.proofs.Common.{◌≡◌, ◌≤◌, ◌==◌, filter, length, take}
use Rattle.pblk_model.specs.Descriptor.{state_code}
use Rattle.command_text.proofs.numbers.unit_chunks_in.Given as goal

abbrev pub invariant-loop-chunk : goal.invariant-loop-chunk
invariant-loop-chunk l = record {
  counted : l.count ≡ length (filter (λ k. state_code k.state == state_code l.state) (take l.chunk l.unit.unit.media));
  few : l.count ≤ l.chunk;
}

use Rattle.std.specs.Prelude.{◌≡◌, map}
use Rattle.std.specs.List.{range_with_len}
use Rattle.load_maker.specs.Loads.{thread_load}
use Rattle.load_maker.proofs.make.Given as goal

abbrev pub invariant-loop-thread : goal.invariant-loop-thread
invariant-loop-thread l = record {
  made : l.script ≡ map (thread_load l.number l.rounds l.capacity) (range_with_len 0 l.thread);
}

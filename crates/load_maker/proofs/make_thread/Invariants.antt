use Rattle.std.specs.Prelude.{◌≡◌, map}
use Rattle.std.specs.List.{range_with_len}
use Rattle.load_maker.specs.Loads.{command_of, seed, state}
use Rattle.load_maker.proofs.make_thread.Given as goal

abbrev pub invariant-loop-index : goal.invariant-loop-index
invariant-loop-index l = record {
  drawn : l.x ≡ state (seed l.number l.thread) l.index;
  made : l.commands ≡ map (command_of l.number l.capacity l.thread) (range_with_len 0 l.index);
}

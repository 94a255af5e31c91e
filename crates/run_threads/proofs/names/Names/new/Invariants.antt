use Rattle.std.proofs.Common.{take}
use Rattle.run_threads.specs.Names.{AreNames, all_of}
use Rattle.run_threads.proofs.names.Names.new.Given as goal

abbrev pub invariant-loop-thread : goal.invariant-loop-thread
invariant-loop-thread l = AreNames l.names (all_of (take l.thread-index l.thread-items))

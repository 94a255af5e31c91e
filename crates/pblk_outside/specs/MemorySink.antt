-- What clients see of a sink in memory.
use Rattle.std.specs.Prelude.{ℕ, List, true}
use Rattle.pblk_outside.specs.Sink.{SinkView}
use Rattle.pblk_outside.specs.declared.memory_sink.MemorySink.{MemorySink}

-- the bytes taken so far
abbrev pub taken_of : MemorySink → List ℕ
taken_of sink = sink.bytes.items

-- the numbers of the calls that are to fail
abbrev pub failing_of : MemorySink → List ℕ
failing_of sink = sink.plan.failing.items

-- how many calls were made
abbrev pub calls_of : MemorySink → ℕ
calls_of sink = sink.plan.calls

-- how many faults there were
abbrev pub faults_of : MemorySink → ℕ
faults_of sink = sink.faults.count

-- it tells what it has taken
abbrev pub sink_view : MemorySink → SinkView
sink_view sink = record { told = true; taken = taken_of sink; faults = faults_of sink }

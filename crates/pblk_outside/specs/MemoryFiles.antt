-- What clients see of files in memory.
use Rattle.std.specs.Prelude.{ℕ, List, Option, true}
use Rattle.std.specs.Option.{option_map}
use Rattle.std.specs.BTreeMap.{get_by_text}
use Rattle.pblk_outside.specs.Files.{FileFault, FilesView}
use Rattle.pblk_outside.specs.declared.memory_files.MemoryFiles.{MemoryFiles}

-- what the file of this name holds, if there is one
abbrev pub file_of : MemoryFiles → List ℕ → Option (List ℕ)
file_of store name = option_map (λ bytes. bytes.items) (get_by_text store.contents name)

-- the numbers of the calls that are to fail
abbrev pub failing_of : MemoryFiles → List ℕ
failing_of store = store.plan.failing.items

-- how many calls were made
abbrev pub calls_of : MemoryFiles → ℕ
calls_of store = store.plan.calls

-- the faults so far, oldest first
abbrev pub faults_of : MemoryFiles → List FileFault
faults_of store = store.faults

-- they tell what they hold
abbrev pub files_view : MemoryFiles → FilesView
files_view store = record { told = true; file = file_of store; faults = faults_of store }

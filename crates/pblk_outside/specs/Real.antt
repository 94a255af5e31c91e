-- What clients see of the system's files and output: they tell nothing, and have their faults.
use Rattle.std.specs.Prelude.{[], None, false}
use Rattle.pblk_outside.specs.Files.{FilesView}
use Rattle.pblk_outside.specs.Sink.{SinkView}
use Rattle.pblk_outside.specs.declared.real_files.RealFiles.{RealFiles}
use Rattle.pblk_outside.specs.declared.real_out.RealOut.{RealOut}

abbrev pub real_files_view : {R : Type 0} → RealFiles R → FilesView
real_files_view files = record { told = false; file = λ _. None; faults = files.faults }

abbrev pub real_out_view : {R : Type 0} → RealOut R → SinkView
real_out_view out = record { told = false; taken = []; faults = out.faults.count }

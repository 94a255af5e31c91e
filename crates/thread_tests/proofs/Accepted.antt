-- Scripts that ports of 64 sectors take.
use Rattle.std.proofs.Common.{◌≤◌, List, map}
use Rattle.std.specs.List.{AllByRecursion}
use Rattle.block_port.specs.Port.{ModelPort}
use Rattle.pblk_model.specs.declared.script.Command.{Command}
use Rattle.pblk_model.specs.Script.{NeverStuck, ScriptFits}
use Rattle.pblk_model.proofs.Maps.{all_mapped}
use Rattle.run_threads.specs.Run.{IsAcceptedFor}

pub accepted : {P : Type 0} (model : P → ModelPort) (script : List (List Command)) (ports : List P) → ScriptFits 64 script → NeverStuck script
    → AllByRecursion (λ p. 64 ≤ (model p).capacity) ports → IsAcceptedFor script (map model ports)
accepted model script ports fits flows within = record {
  capacity = 64;
  fits = fits;
  flows = flows;
  within = all_mapped (λ (m : ModelPort). 64 ≤ m.capacity) model ports within;
}

use Rattle.std.proofs.Common.{◌≡◌, List, drop}
use Rattle.std.specs.List.{flat_map}
use Rattle.pblk_model.specs.ScriptText.{Said, unposted}
use Rattle.run_script.specs.Heard.{ArePosted}
use Rattle.run_script.specs.Turns.{lifted}
use Rattle.run_script.proofs.turns.unposted.Given as goal

abbrev pub invariant-loop-thread : goal.invariant-loop-thread
invariant-loop-thread l = (all : List Said) → ArePosted l.names all
    → unposted all (flat_map lifted l.threads) ≡ unposted all (flat_map lifted (drop l.thread-index l.threads))

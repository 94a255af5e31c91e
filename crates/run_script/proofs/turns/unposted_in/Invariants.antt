use Rattle.std.proofs.Common.{◌≡◌, List, drop}
use Rattle.pblk_model.specs.ScriptText.{Said, unposted}
use Rattle.run_script.specs.Heard.{ArePosted}
use Rattle.run_script.specs.Turns.{lifted}
use Rattle.run_script.proofs.turns.unposted_in.Given as goal

abbrev pub invariant-loop-numbered : goal.invariant-loop-numbered
invariant-loop-numbered l = (all : List Said) → ArePosted l.names all → unposted all (lifted l.thread) ≡ unposted all (lifted (drop l.numbered-index l.thread))

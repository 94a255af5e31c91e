use Rattle.std.proofs.Common.{refl}
use Rattle.pblk_model.specs.ScriptText.{heard_after, unposted, leading, threads_of, run_on, turn, turns, least_standing}
use Rattle.pblk_laws.proofs.script.two_awaits_are_stuck.Goals as goal

pub returns : goal.returns
unfolding heard_after unposted leading threads_of run_on turn turns least_standing
returns c = refl

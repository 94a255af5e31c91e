use Rattle.std.proofs.Common.{refl}
use Rattle.std.specs.Fmt.{digits}
use Rattle.pblk_model.specs.ScriptText.{heard_after, unposted, leading, threads_of, run_on, turn, turns, least_standing}
use Rattle.pblk_laws.proofs.script.three_posts_are_a_script.Goals as goal

pub returns : goal.returns
unfolding heard_after unposted leading threads_of run_on turn turns least_standing digits
returns c = refl

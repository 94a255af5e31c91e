use Rattle.std.proofs.Common.{sym}
use Rattle.pblk_core.proofs.WeighedLines.{none_weighed}
use Rattle.pblk_core.proofs.target_core.Core.next_victim.Goals as goal

-- no line may be collected
pub returns-then-self-clause-victim : goal.returns-then-self-clause-victim
returns-then-self-clause-victim c = λ i w logs mount st. sym (none_weighed i w logs mount st (c.requires.barren c.if-self.true))

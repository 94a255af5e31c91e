use Rattle.std.proofs.Common.{◌∙◌}
use Rattle.pblk_core.proofs.StandsFacts.{window_taken_is}
use Rattle.pblk_core.proofs.target_core.Core.front.Goals as goal

pub returns-clause-taken : goal.returns-clause-taken
returns-clause-taken c = λ i w mount st. (c.taken.ensures ∙ window_taken_is i w c.args.self.now st, st.users)

use Rattle.pblk_core.proofs.SmallCalls.{popped_else}
use Rattle.pblk_core.proofs.target_core.Core.pop_free.Goals as goal

pub returns-clause-stands : goal.returns-clause-stands
returns-clause-stands c = λ i w mount st.
    popped_else i w c.args.self.now c.pop_free.new.self c.pop_free.result mount st c.pop_free.ensures.some c.pop_free.ensures.unchanged
    c.pop_free.ensures.freed
    c.pop_free.ensures.entries c.pop_free.ensures.users c.pop_free.ensures.size

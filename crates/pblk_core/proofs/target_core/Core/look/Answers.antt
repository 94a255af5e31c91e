use Rattle.std.proofs.Common.{◌<◌, sym, subst, ◌∙◌}
use Rattle.std.proofs.lemmas.Option.{same_Some}
use Rattle.pblk_world.specs.World.{log_of}
use Rattle.core_laws.specs.SlotOf.{slot_of}
use Rattle.pblk_core.proofs.target_core.Core.look.Goals as goal

pub returns : goal.returns
returns c = λ i w mount st.
    same_Some c.get.result (slot_of i (log_of w) c.args.lba)
    (sym c.get.ensures ∙ st.slots c.args.lba (subst (λ n. c.args.lba < n) st.capacity c.requires))

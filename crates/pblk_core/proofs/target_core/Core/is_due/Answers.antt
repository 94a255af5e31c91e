use Rattle.std.proofs.Common.{◌*◌, nat_le, ap, ap₂, ◌∙◌}
use Rattle.pblk_model.specs.Shape.{units}
use Rattle.pblk_model.specs.LineOrder.{data_len}
use Rattle.pblk_world.specs.World.{log_of}
use Rattle.pblk_core.proofs.SmallGrant.{due_is}
use Rattle.pblk_core.proofs.target_core.Core.is_due.Goals as goal

pub returns-clause-due : goal.returns-clause-due
returns-clause-due c = λ i w mount st.
    let shape = c.shape.ensures.shape in
    ap₂ nat_le c.free_addresses.ensures
    (ap (λ n. 3 * n) (c.from-full.ensures ∙ c.data_len.ensures.len ∙ ap (data_len c.args.self.now.layout) (c.units-units.ensures ∙ ap units shape)))
    ∙ due_is i (log_of w) c.args.self.now st

pub returns-clause-tables : goal.returns-clause-tables
returns-clause-tables c =
    let shape = c.shape.ensures.shape in
    ap₂ nat_le c.free_addresses.ensures
    (ap (λ n. 3 * n) (c.from-full.ensures ∙ c.data_len.ensures.len ∙ ap (data_len c.args.self.now.layout) (c.units-units.ensures ∙ ap units shape)))

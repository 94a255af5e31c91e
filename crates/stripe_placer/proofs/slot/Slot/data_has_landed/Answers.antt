use Rattle.std.proofs.Common.{take, drop, ap, ◌∙◌}
use Rattle.std.specs.Prelude.{nat_eq}
use Rattle.stripe_placer.specs.OpenLines.{OpenLine, data_has_landed, is_landed}
use Rattle.stripe_placer.specs.Slots.{open_line}
use Rattle.stripe_placer.proofs.Tallies.{none_left}
use Rattle.stripe_placer.proofs.slot.Slot.data_has_landed.Goals as goal

pub returns : goal.returns
returns c =
    let l : OpenLine = open_line c.self.inside in
    ap (λ n. nat_eq n 0) c.self.invariant.counts.data_is ∙ none_left is_landed (take l.data_count (drop l.start_count l.stripes))
    ∙ ap data_has_landed c.self.view_is

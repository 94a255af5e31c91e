use Rattle.std.proofs.Common.{take, ap, ◌∙◌}
use Rattle.std.specs.Prelude.{nat_eq}
use Rattle.stripe_placer.specs.OpenLines.{OpenLine, start_has_landed, is_landed}
use Rattle.stripe_placer.specs.Slots.{open_line}
use Rattle.stripe_placer.proofs.Tallies.{none_left}
use Rattle.stripe_placer.proofs.slot.Slot.start_has_landed.Goals as goal

pub returns : goal.returns
returns c =
    let l : OpenLine = open_line c.self.inside in
    ap (λ n. nat_eq n 0) c.self.invariant.counts.start_is ∙ none_left is_landed (take l.start_count l.stripes) ∙ ap start_has_landed c.self.view_is

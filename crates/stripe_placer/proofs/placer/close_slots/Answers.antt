use Rattle.std.proofs.Common.{rules}
use Rattle.std.proofs.lemmas.Fn.{filter_same}
use Rattle.stripe_placer.specs.OpenLines.{has_left}
use Rattle.stripe_placer.proofs.placer.close_slots.Goals as goal

pub returns-clause-items : goal.returns-clause-items
returns-clause-items c = filter_same _ has_left _ (λ x b f' k. search rules) _ _ c.retain.ensures.filtered

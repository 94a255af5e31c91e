use Rattle.std.proofs.Common.{rules}
use Rattle.std.proofs.lemmas.List.Elements.{filter_from_retain}
use Rattle.stripe_placer.specs.OpenLines.{has_left}
use Rattle.plain_placer.proofs.placer.close_lines.Goals as goal

pub returns : goal.returns
returns c = filter_from_retain _ has_left (λ p x b q h. search rules) _ _ _ c.retain.ensures.filtered

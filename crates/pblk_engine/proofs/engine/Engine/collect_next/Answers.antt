use Rattle.pblk_engine.specs.declared.outcomes.Role.TheVariants as roles
use Rattle.pblk_engine.proofs.engine.Engine.collect_next.Goals as goal

pub returns-clause-collected : goal.returns-clause-collected
returns-clause-collected g c = c.copy.ensures.collected roles.Collector (λ same. absurd cc)

use Rattle.std.proofs.Common.{◌≡◌, ◌≢◌, refl, sym, subst}
use Rattle.pblk_world.specs.AtRest.{IsCopyDue}
use Rattle.chronicle.specs.Prefixes.{Prefixes, logs_of}
use Rattle.pblk_engine.specs.declared.copying.NextCopy.{NextCopy}
use Rattle.pblk_engine.specs.declared.copying.NextCopy.TheVariants as answer
use Rattle.pblk_engine.specs.declared.outcomes.Role.TheVariants as roles
use Rattle.pblk_engine.proofs.PumpSteps.{collected_full, collected_other}
use Rattle.pblk_engine.proofs.RoleCommands.{fetch_of_collector, still_of_role}
use Rattle.pblk_engine.proofs.engine.Engine.copy.Given.{Over}
use Rattle.pblk_engine.proofs.engine.Engine.copy.Goals as goal
use Rattle.pblk_engine.proofs.engine.Engine.copy.Goals.{After-next_copy}

-- where one is named, or the ring is full, a copy is due by what the worker knows
due_then : (g : Over) (c : After-next_copy g) → c.next_copy.result ≢ answer.Nothing → IsCopyDue g.M.Mount.past.image (logs_of c.args.worker.now.known)
due_then g c some =
    subst (λ (k : Prefixes). IsCopyDue g.M.Mount.past.image (logs_of k))
    (sym c.requires.known) (c.next_copy.ensures.due some).1

full_is_some : (n : NextCopy) → n ≡ answer.Full → n ≢ answer.Nothing
full_is_some answer.Nothing is = λ same. cc
full_is_some answer.Full is = λ same. cc
full_is_some (answer.At of) is = λ same. cc

named_is_some : (n : NextCopy) (of : _) → n ≡ answer.At of → n ≢ answer.Nothing
named_is_some answer.Nothing of is = λ same. cc
named_is_some answer.Full of is = λ same. cc
named_is_some (answer.At at) of is = λ same. cc

pub copy_sector-requires-clause-due : goal.copy_sector-requires-clause-due
copy_sector-requires-clause-due g c =
    due_then g (goal.at.copy_sector-requires-clause-due g c).After-next_copy (named_is_some c.next_copy.result c.in-At.of c.in-At.is)

pub returns-in-At-clause-made : goal.returns-in-At-clause-made
returns-in-At-clause-made g c =
    fetch_of_collector g.M.Mount.past.image g.M.Mount.handed roles.Collector c.args.worker.now c.copy_sector.new.worker c.copy_sector.result
    (c.copy_sector.ensures.collected roles.Collector (λ same. absurd cc))

pub returns-in-Full-clause-collected : goal.returns-in-Full-clause-collected
returns-in-Full-clause-collected g c = λ role reset.
    collected_full g.M.Mount.past.image g.M.Mount.handed role c.args.worker.now
    (due_then g (goal.at.returns-in-Full-clause-collected g c).After-next_copy (full_is_some c.next_copy.result c.in-Full.is)) reset

pub returns-in-Full-clause-made : goal.returns-in-Full-clause-made
returns-in-Full-clause-made g c = still_of_role roles.Collector c.args.worker.now c.args.worker.now refl

pub returns-in-Nothing-clause-collected : goal.returns-in-Nothing-clause-collected
returns-in-Nothing-clause-collected g c = λ role reset. collected_other g.M.Mount.past.image g.M.Mount.handed role c.args.worker.now

pub returns-in-Nothing-clause-made : goal.returns-in-Nothing-clause-made
returns-in-Nothing-clause-made g c = still_of_role roles.Collector c.args.worker.now c.args.worker.now refl

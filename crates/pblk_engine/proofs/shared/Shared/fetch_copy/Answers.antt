use Rattle.std.proofs.Common.{subst}
use Rattle.chronicle.specs.Prefixes.{ArePrefixes}
use Rattle.pblk_engine.proofs.GoingOn.{all_known}
use Rattle.pblk_engine.proofs.PumpSteps.{has_fetched}
use Rattle.pblk_engine.proofs.shared.Shared.fetch_copy.Goals as goal

pub fetch_copy-fetched-requires-clause-told : goal.fetch_copy-fetched-requires-clause-told
fetch_copy-fetched-requires-clause-told g c =
    subst (ArePrefixes c.args.worker.now.known) c.requires.known (all_known c.args.worker.now.known)

pub returns-clause-made : goal.returns-clause-made
returns-clause-made g c =
    has_fetched g.M.Mount.handed c.lock-held.result.1 c.fetch_copy-fetched.new.arm c.args.worker.now c.fetch_copy-fetched.new.worker _ _ _
    c.args.of.now.unit c.fetch_copy-fetched.result c.lock-held.ensures.kept c.fetch_copy-fetched.ensures.done

use Rattle.std.proofs.Common.{◌≤◌, List, subst, ap, ◌∙◌, le_trans}
use mathlib.Core.List.{IsPrefix}
use Rattle.pblk_world.specs.Events.{Logged}
use Rattle.pblk_world.specs.Fronts.{taken}
use Rattle.chronicle.specs.Prefixes.{Prefixes, logs_of}
use Rattle.pblk_engine.specs.Hearts.{HeartView}
use Rattle.pblk_engine.proofs.Settlings.{taken_prefix}
use Rattle.pblk_engine.proofs.engine.Engine.claimed.Goals as goal

-- what the worker knows of the engine's log is a prefix of it, and all that the heart has taken was
-- claimed
pub returns-clause-taken : goal.returns-clause-taken
returns-clause-taken g c =
    let its = logs_of c.deref_mut.result.now.author.known 0 in
    let prefix : IsPrefix (logs_of c.args.worker.now.known 0) its =
    subst (λ (k : Prefixes). IsPrefix (logs_of k 0) its) c.note-known.ensures.known c.meet.ensures.own_noted in
    le_trans (taken_prefix (logs_of c.args.worker.now.known 0) its prefix)
    (subst (λ (log : List Logged). taken log ≤ c.all_claimed.result)
    (ap (λ (h : HeartView). logs_of h.author.known 0) c.deref_mut-2.ensures.value ∙ c.meet.ensures.own) c.all_claimed.ensures.log)

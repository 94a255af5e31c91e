use Rattle.std.proofs.Common.{Bool, Ok, sym, subst, ap, ◌∙◌}
use Rattle.step_laws.specs.LookedUp.{IsLookedUp}
use Rattle.chronicle.specs.Prefixes.{logs_of}
use Rattle.pblk_engine.proofs.ReadFetches.{is_yes, sought_done, sought_lost}
use Rattle.pblk_engine.proofs.engine.Engine.fetch_place.Goals as goal

pub returns-in-Ok-clause-fetched : goal.returns-in-Ok-clause-fetched
returns-in-Ok-clause-fetched g c =
    sought_done g.M.Mount.handed c.args.place c.lock-held.result.1 c.fetch_marked-fetched.new.self c.args.worker.now c.fetch_marked-fetched.new.worker _
    c.lock-held.ensures.kept g.M.Mount.past.image.shape c.args.place.sought.lba c.args.place.sought.position c.fetch_marked-fetched.new.out c.in-Ok.is_it
    c.in-Ok.ensures.done

pub returns-in-Ok-clause-accepted : goal.returns-in-Ok-clause-accepted
returns-in-Ok-clause-accepted g c = λ ok looked legal begun within place.
    c.fetch_marked-fetched.ensures.accepted (c.in-Ok.is ∙ ap (λ (b : Bool). Ok b) (is_yes c.in-Ok.is_it ok)) looked place.at legal begun within
    (subst (λ n. IsLookedUp g.M.Mount.past.image (logs_of looked) c.args.place.sought.lba c.args.place.sought.line place.at c.args.place.sought.position n
    c.args.place.sought.block) (sym c.lock-held.ensures.kept) place.look)

pub returns-in-Err-clause-fetched : goal.returns-in-Err-clause-fetched
returns-in-Err-clause-fetched g c =
    sought_lost g.M.Mount.handed c.args.place c.lock-held.result.1 c.fetch_marked-fetched.new.self c.args.worker.now c.fetch_marked-fetched.new.worker _
    c.lock-held.ensures.kept g.M.Mount.past.image.shape c.args.place.sought.lba c.args.place.sought.position c.fetch_marked-fetched.new.out c.in-Err.event
    c.in-Err.ensures.done

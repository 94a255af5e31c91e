use Rattle.std.proofs.Common.{◌≡◌, ℕ, Some, None, Option, [], refl, ap}
use Rattle.pblk_model.specs.ImageFile.{image_of}
use Rattle.pblk_model.specs.Text.{Transcript}
use Rattle.pblk_model.specs.Transcript.{events}
use Rattle.pblk_world.specs.EngineLog.{Begun, begun}
use Rattle.pblk_world.specs.World.{log_of}
use Rattle.rest_laws.proofs.LeftTidy.{answered_faultless}
use Rattle.pblk_cli.specs.Stops.{HasBegun, fuse_on}
use Rattle.pblk_cli.proofs.Faultless.{faultless, unnamed}
use Rattle.pblk_cli.proofs.laws.a_run_without_a_stop_or_plans_is_faultless.Goals as goal

pub returns-clause-events : goal.returns-clause-events
returns-clause-events c = λ found left options commands text run no_stop no_plans.
    unnamed (image_of found) run.world.world options.plans (fuse_on (image_of found) options.stop) run.world.outcomes no_plans
    (ap (fuse_on (image_of found)) no_stop) (events run.transcript) run.world.named

pub returns-clause-mount : goal.returns-clause-mount
returns-clause-mount c = λ found left options commands text run no_stop no_plans.
    faultless (image_of found) run.world.world options.plans (fuse_on (image_of found) options.stop) run.world.outcomes no_plans
    (ap (fuse_on (image_of found)) no_stop) run.world.legal

-- so it was opened
begins : (opening : Option (ℕ × ℕ)) (t : Transcript) (o : Option Begun) → t.opening ≡ opening → events t ≡ [] → HasBegun opening o
    → (b : Begun) × (o ≡ Some b)
begins None t None is none h = absurd h
begins None t (Some b) is none h = (b, refl)
begins (Some e) t o is none h = absurd (cc)

pub returns-clause-begun : goal.returns-clause-begun
returns-clause-begun c = λ found left options commands text run no_stop no_plans.
    begins run.transcript.opening run.transcript (begun (log_of run.world.world 0)) refl
    (unnamed (image_of found) run.world.world options.plans (fuse_on (image_of found) options.stop) run.world.outcomes no_plans
    (ap (fuse_on (image_of found)) no_stop) (events run.transcript) run.world.named)
    run.world.has_begun

pub returns-clause-complete : goal.returns-clause-complete
returns-clause-complete c = λ found left options commands text run no_stop no_plans.
    run.complete (answered_faultless (image_of found) run.world.world (returns-clause-mount c found left options commands text run no_stop no_plans))
    (returns-clause-events c found left options commands text run no_stop no_plans)

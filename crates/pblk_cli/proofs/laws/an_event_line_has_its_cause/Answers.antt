use Rattle.std.proofs.Common.{◌≡◌, ◌⊎◌, inl, inr, ℕ, Bool, true, false, None, Some, Option, List, [], ◌∷◌, refl}
use Rattle.std.specs.Prelude.{if◌then◌else◌}
use Rattle.std.specs.List.{Contains}
use Rattle.std.proofs.lemmas.Option.{none-some}
use Rattle.pblk_model.specs.Image.{Image}
use Rattle.pblk_model.specs.ImageFile.{Drive, image_of}
use Rattle.pblk_model.specs.Transcript.{events}
use Rattle.pblk_world.specs.World.{Logs, log_of}
use Rattle.unit_port.specs.declared.armed.CommandKind.TheVariants as kinds
use Rattle.unit_port.specs.declared.armed.FaultPlan.{FaultPlan}
use Rattle.unit_port.specs.declared.armed.Fuse.{Fuse}
use Rattle.pblk_model.proofs.Lists.{contains_first}
use Rattle.pblk_cli.specs.Status.{has_event, has_worn, names_any}
use Rattle.pblk_cli.specs.Stops.{HasFallen, HasPlan, fuse_on}
use Rattle.pblk_cli.proofs.Faultless.{has_cause}
use Rattle.pblk_cli.proofs.laws.an_event_line_has_its_cause.Goals as goal

pub returns-clause-line : goal.returns-clause-line
returns-clause-line c = λ found left options commands t event run there.
    has_cause (image_of found) run.world options.plans (fuse_on (image_of found) options.stop) run.outcomes (events t) event run.named there

-- the status is 5 only where an event is named
some_named : (names : List (ℕ × ℕ)) → names_any names ≡ true → (event : ℕ × ℕ) × Contains names event
some_named [] e = absurd cc
some_named (event ∷ names) e = (event, contains_first event names)

five_names : (named worn : Bool) → ◌≡◌ {A = ℕ} (if named then 5 else if worn then 6 else 0) 5 → named ≡ true
five_names true worn e = refl
five_names false true e = absurd cc
five_names false false e = absurd cc

-- a fuse that fell was named
told_stop : (i : Image) (stop : Option Fuse) (logs : Logs) → HasFallen (fuse_on i stop) logs → (fuse : Fuse) × (stop ≡ Some fuse)
told_stop i None logs fell = absurd (none-some fell.of fell.is)
told_stop i (Some fuse) logs fell = (fuse, refl)

pub returns-clause-status : goal.returns-clause-status
returns-clause-status c = λ found left options commands t run five.
    let event = some_named (events t) (five_names (has_event t) (has_worn t) five) in
    by found options.stop options.plans (log_of run.world) event.0
    (has_cause (image_of found) run.world options.plans (fuse_on (image_of found) options.stop) run.outcomes (events t) event.0 run.named event.1)
  where
    by : (found : Drive) (stop : Option Fuse) (plans : List FaultPlan) (logs : Logs) (event : ℕ × ℕ)
        → HasFallen (fuse_on (image_of found) stop) logs ⊎ HasPlan plans kinds.Fetch event.0
        → ((fuse : Fuse) × (stop ≡ Some fuse)) ⊎ ((unit : ℕ) × HasPlan plans kinds.Fetch unit)
    by found stop plans logs event (inl fell) = inl (told_stop (image_of found) stop logs fell)
    by found stop plans logs event (inr fetch) = inr (event.0, fetch)

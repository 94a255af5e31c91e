-- A mount in which the engine heard of no lost stripe.
use Rattle.std.proofs.Common.{◌≡◌, ℕ, ◌==◌, Bool, true, false, Some, None, Option, List, if◌then◌else◌, refl}
use Rattle.std.specs.List.{AllByRecursion}
use Rattle.std.specs.Option.{IfSome}
use Rattle.pblk_world.specs.Events.{Landed, Lost, Event, Decides, Does, Logged}
use Rattle.pblk_world.specs.EngineLog.{Answer, DidLand, Opening, Placed, answer_by, answer_of, answers, has_failed, turn, is_loss, was_lost, stripes_of}
use Rattle.pblk_world.specs.LegalMounts.{NoStripeLost, decides, is_losing}
use Rattle.pblk_model.proofs.Maps.{all_filter_map, none_any}
use Rattle.pblk_model.proofs.Parts.{all_at}

-- no stripe was lost
abbrev pub NoPlacementLost : List Logged → Type 0
NoPlacementLost log = (p : Placed) → was_lost log p ≡ false

-- no line that was opened is Failed
abbrev pub NoLineFailed : List Logged → Type 0
NoLineFailed log = (o : Opening) → has_failed log o ≡ false

no_losses : (log : List Logged) → NoStripeLost log → (unit : ℕ) → AllByRecursion (λ (a : Answer). is_loss (Some a) ≡ false) (answers log unit)
no_losses log none unit =
    all_filter_map (λ (a : Answer). is_loss (Some a) ≡ false) (λ (l : Logged). decides is_losing l.event ≡ false) (λ (l : Logged). answer_by unit l.event) log
    (λ l kept. go l.event kept) none
  where
    landed : (t : Bool) (event : ℕ) → IfSome (if t then Some (DidLand event) else None) (λ (a : Answer). is_loss (Some a) ≡ false)
    landed true event = refl
    landed false event = tt

    go : (e : Event) → decides is_losing e ≡ false → IfSome (answer_by unit e) (λ (a : Answer). is_loss (Some a) ≡ false)
    go (Decides (Landed other event)) kept = landed (other == unit) event
    go (Decides (Lost other event)) kept = absurd cc
    go (Decides e) kept = tt
    go (Does e maker) kept = tt

pub never_lost : (log : List Logged) → NoStripeLost log → NoPlacementLost log
never_lost log none p = go (answer_of log p) refl
  where
    go : (a : Option Answer) → answer_of log p ≡ a → is_loss a ≡ false
    go None e = refl
    go (Some a) e = all_at (λ (a : Answer). is_loss (Some a) ≡ false) (answers log p.stripe.unit) (turn log p) a e (no_losses log none p.stripe.unit)

pub none_failed : (log : List Logged) → NoStripeLost log → NoLineFailed log
none_failed log none o = none_any (was_lost log) (never_lost log none) (stripes_of log o)

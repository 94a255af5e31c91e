-- The engine hears of a lost stripe only where its program failed.
use Rattle.std.proofs.Common.{◌≡◌, ◌∙◌, ℕ, suc, cond, true, false, Some, None, refl, ap}
use Rattle.std.specs.Prelude.{slice_get}
use Rattle.std.specs.List.{Contains}
use Rattle.std.specs.Option.{option_and_then}
use Rattle.pblk_model.specs.Image.{Image}
use Rattle.pblk_model.specs.UnitLog.{Failed, UnitEvent}
use Rattle.pblk_world.specs.Answering.{MayLose}
use Rattle.pblk_world.specs.Commanding.{is_program}
use Rattle.pblk_world.specs.EngineLog.{named_by, named_events}
use Rattle.pblk_world.specs.Events.{Again, Begin, Decides, Does, Event, Free, Landed, Logged, Lost, Open, Place, ResetDone, Take}
use Rattle.pblk_world.specs.Legal.{IsLegal}
use Rattle.pblk_world.specs.World.{World, Logs, known, log_of, prefixes, unit_event_at, unit_event_of}
use Rattle.pblk_model.proofs.Parts.{all_by_get, get_whole}
use Rattle.pblk_model.proofs.Tests.{same_number}
use Rattle.pblk_world.specs.LegalMounts.{NoStripeLost, decides, is_losing}
use Rattle.world_laws.proofs.KnownPrefixes.{named_there}
use Rattle.world_laws.proofs.NextLives.{IsDecided, decided}

-- the event of this number of a unit, which the engine's log names, is a program that failed
pub record IsFailedProgram (logs : Logs) (unit number : ℕ) : Type 0 where
  pub program : UnitEvent
  pub there : unit_event_at logs unit number ≡ Some program
  pub is : is_program program.command ≡ true
  pub named : Contains (named_events (logs 0) unit) number
  pub landed_before : ℕ
  pub failed : program.outcome ≡ Failed landed_before

module _ (i : Image) (w : World) (legal : IsLegal i w) where
  failed_program : (q unit number : ℕ) (l : Logged) → slice_get (log_of w 0) q ≡ Some l → l.event ≡ Decides (Lost unit number)
      → IsFailedProgram (log_of w) unit number
  failed_program q unit number l there is =
      let d : IsDecided i w legal q (Lost unit number) l = decided i w legal q (Lost unit number) l there is in
      let may : MayLose (prefixes l (log_of w)) unit number = d.allowed.2 in
      let known_event : slice_get (log_of w (suc unit)) number ≡ Some may.new.logged =
      get_whole (known l (suc unit)) (log_of w (suc unit)) number may.new.logged may.new.is_known in
      record {
        program = may.program;
        there = ap (option_and_then (λ (x : Logged). unit_event_of x.event)) known_event ∙ may.new.event;
        is = may.stripe.program;
        named = named_there (log_of w 0) unit q number l there
            (ap (named_by unit) is ∙ ap (λ t. cond t (Some number) None) (same_number unit));
        landed_before = may.landed_before;
        failed = may.failed;
      }

  module _ (none : (unit number : ℕ) → IsFailedProgram (log_of w) unit number → ⊥) where
    not_losing : (q : ℕ) (l : Logged) → slice_get (log_of w 0) q ≡ Some l → (e : Event) → l.event ≡ e → decides is_losing e ≡ false
    not_losing q l there (Decides (Begin b)) is = refl
    not_losing q l there (Decides (Take entry mark)) is = refl
    not_losing q l there (Decides (Open line start)) is = refl
    not_losing q l there (Decides (Place stripe)) is = refl
    not_losing q l there (Decides (Landed unit number)) is = refl
    not_losing q l there (Decides (Lost unit number)) is = absurd (none unit number (failed_program q unit number l there is))
    not_losing q l there (Decides (Again unit number)) is = refl
    not_losing q l there (Decides (ResetDone unit number)) is = refl
    not_losing q l there (Decides (Free line)) is = refl
    not_losing q l there (Does e maker) is = refl

    pub none_lost : NoStripeLost (log_of w 0)
    none_lost = all_by_get (λ (l : Logged). decides is_losing l.event ≡ false) (log_of w 0) (λ q l there. not_losing q l there l.event refl)

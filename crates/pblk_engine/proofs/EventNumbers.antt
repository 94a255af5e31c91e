-- The numbers of a unit's events, as the unit tells them.
use Rattle.std.proofs.Common.{◌≡◌, ℕ, suc, ◌+◌, ◌-◌, ◌^◌, Option, Some, List, [], ◌∷◌, length, length-append, min, refl, subst, ap, ◌∙◌, arith}
use Rattle.std.specs.List.{cons_option, filter_map}
use Rattle.std.specs.Option.{option_map_or}
use Rattle.std.specs.Prelude.{slice_get}
use Rattle.atomic_table.specs.Seated.{TableId}
use Rattle.pblk_model.specs.Image.{Image}
use Rattle.pblk_model.specs.UnitLog.{UnitEvent}
use Rattle.pblk_world.specs.Events.{Logged}
use Rattle.pblk_world.specs.Legal.{IsLegal}
use Rattle.pblk_world.specs.World.{World, Logs, log_of, unit_event_of, unit_events}
use Rattle.unit_port.specs.Unit.{ModelUnit}
use Rattle.world_laws.proofs.Deeds.{IsDeed, deed}
use Rattle.chronicle.specs.Views.{Past}
use Rattle.chronicle.specs.Handles.{AuthorView}
use Rattle.chronicle.specs.Prefixes.{logs_of}
use Rattle.pblk_engine.specs.Arms.{IsUnitOf, number_told}

-- where each event of a log is a command, there are as many commands
all_commands : (log : List Logged) → ((n : ℕ) (l : Logged) → slice_get log n ≡ Some l → (e : UnitEvent) × (unit_event_of l.event ≡ Some e))
    → length (filter_map (λ (l : Logged). unit_event_of l.event) log) ≡ length log
all_commands [] each = refl
all_commands (l ∷ log) each =
    ap (λ (o : Option UnitEvent). length (cons_option o (filter_map (λ (m : Logged). unit_event_of m.event) log))) (each 0 l refl).1
    ∙ ap suc (all_commands log (λ n m there. each (suc n) m there))

-- all events of a unit's log are
pub events_count : (i : Image) (w : World) (unit : ℕ) → IsLegal i w → length (unit_events (log_of w) unit) ≡ length (log_of w (suc unit))
events_count i w unit legal = all_commands (log_of w (suc unit))
    (λ n l there. let d : IsDeed i w unit n l = deed i w unit n l legal there in (d.event, d.is_event))

module _ (chronicle : TableId) (past : Past) (handed : List ModelUnit) (wear : List (List ℕ)) (a : AuthorView) (number : ℕ) (u : ModelUnit)
    (worn : List ℕ) (is : IsUnitOf chronicle past handed wear a number u worn) where
  abbrev before : ℕ
  before = option_map_or (λ (x : ModelUnit). length x.log) (slice_get handed number) 0

  count_is : length u.log ≡ before + length (logs_of a.known (suc number))
  count_is =
      let joined : length u.log ≡ length is.before.log + length (unit_events (logs_of a.known) number) =
      ap (λ (log : List UnitEvent). length log) is.arm.log ∙ length-append is.before.log (unit_events (logs_of a.known) number) in
      let own : length (unit_events (logs_of a.known) number) ≡ length (logs_of a.known (suc number)) =
      subst (λ (l : Logs). length (unit_events l number) ≡ length (l (suc number))) is.legal.logs
      (events_count past.image is.legal.world number is.legal.legal) in
      let handed_in : before ≡ length is.before.log = ap (λ (o : Option ModelUnit). option_map_or (λ (x : ModelUnit). length x.log) o 0) is.there in
      omega arith

  -- the number of the last one
  pub last_told : (result n : ℕ) → result ≡ min (length u.log) (2 ^ 64 - 1) → suc n ≡ length (logs_of a.known (suc number))
      → result ≡ number_told handed number n
  last_told result n told last =
      let same : length u.log ≡ before + n + 1 = omega (arith, count_is) in
      told ∙ ap (λ k. min k (2 ^ 64 - 1)) same

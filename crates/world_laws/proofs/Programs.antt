-- A unit's programs, once it knows of the mount's beginning, are of the stripes that were placed on
-- it, in their order.
use Rattle.std.proofs.Common.{◌≡◌, ℕ, ◌<◌, ◌≤◌, suc, true, Some, None, Option, List, length, take, refl, sym, subst, ap, ap₂, ◌∙◌, arith}
use Rattle.std.specs.Prelude.{slice_get}
use Rattle.std.proofs.lemmas.List.{length-take-le}
use Rattle.std.proofs.lemmas.Option.{same_Some}
use Rattle.pblk_model.specs.Chunk.{Chunk}
use Rattle.pblk_model.specs.ChunkStep.{ChunkCommand, Write, Read, Reset}
use Rattle.pblk_model.specs.UnitLog.{UnitEvent}
use Rattle.pblk_model.specs.Image.{Image}
use Rattle.pblk_world.specs.Events.{Logged}
use Rattle.pblk_world.specs.World.{World, log_of, knows_engine, prefixes, unit_event_of}
use Rattle.pblk_world.specs.EngineLog.{Begun, begun, placed_on}
use Rattle.pblk_world.specs.Commanding.{is_program, ended_stripes, IsCommand, IsStripe}
use Rattle.pblk_world.specs.Legal.{IsLegal}
use Rattle.world_laws.specs.UnitPrograms.{IsProgramOfStripe}
use Rattle.world_laws.proofs.NamedPrefixes.{IsByPrefixes, was_made}
use Rattle.world_laws.proofs.Deeds.{IsDeed, deed}
use Rattle.world_laws.proofs.Placements.{still_placed, placed_before}
use Rattle.world_laws.proofs.FirstEvent.{begun_there}

module _ (i : Image) (w : World) (unit n : ℕ) (l : Logged) (made : IsByPrefixes i w (suc unit) n l) where
  abbrev log : List Logged
  log = log_of w 0

  abbrev own : List Logged
  own = log_of w (suc unit)

  of_stripe : (e : UnitEvent) (at : ℕ) (blocks : List _) → e.command ≡ Write at blocks → IsStripe (prefixes l (log_of w)) unit e.chunk at blocks
      → IsProgramOfStripe (log_of w) unit n l e
  of_stripe e at blocks is stripe =
      let few : knows_engine l ≤ length log = made.within 0 in
      let before = placed_before (take (knows_engine l) log) unit (ended_stripes (prefixes l (log_of w) (suc unit))) stripe.placed stripe.earliest in
      let long : length (take (knows_engine l) log) ≡ knows_engine l = length-take-le (knows_engine l) log few in
      record {
        placed = stripe.placed;
        in_order = ap (λ k. slice_get (placed_on log unit) (ended_stripes (take k own))) (sym made.own)
            ∙ still_placed (knows_engine l) log unit (ended_stripes (prefixes l (log_of w) (suc unit))) stripe.placed stripe.earliest;
        was_known = omega (arith, before, long);
        chunk = stripe.its_chunk;
        command = is ∙ ap₂ (λ a bs. Write a bs) stripe.its_place stripe.its_blocks;
      }

  by_command : (e : UnitEvent) (found : Chunk) (command : ChunkCommand) (o : Option Begun) (b : Begun) → e.command ≡ command → o ≡ Some b
      → is_program command ≡ true
      → IsCommand i (prefixes l (log_of w)) unit found e.chunk command o → IsProgramOfStripe (log_of w) unit n l e
  by_command e found (Write at blocks) (Some begins) b is some program may = of_stripe e at blocks is may
  by_command e found (Write at blocks) None b is some program may = absurd cc
  by_command e found (Read at) o b is some program may = absurd cc
  by_command e found Reset o b is some program may = absurd cc

pub program_of_stripe : (i : Image) (w : World) (unit n : ℕ) (l : Logged) (e : UnitEvent) → IsLegal i w → slice_get (log_of w (suc unit)) n ≡ Some l
    → unit_event_of l.event ≡ Some e
    → is_program e.command ≡ true → 0 < knows_engine l → IsProgramOfStripe (log_of w) unit n l e
program_of_stripe i w unit n l e legal there is program knew =
    let d : IsDeed i w unit n l = deed i w unit n l legal there in
    let same : d.event ≡ e = same_Some d.event e (sym d.is_event ∙ is) in
    let made : IsByPrefixes i w (suc unit) n l = was_made i w (suc unit) n l legal there in
    let begins = begun_there i w (knows_engine l) legal (made.within 0) knew in
    subst (IsProgramOfStripe (log_of w) unit n l) same
    (by_command i w unit n l made d.event d.found d.event.command (begun (take (knows_engine l) (log_of w 0))) begins.0 refl begins.1
    (ap (λ (x : UnitEvent). is_program x.command) same ∙ program) d.command)

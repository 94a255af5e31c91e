-- A fetch of a block: it leaves the media as they were, whatever its outcome.
use Rattle.std.proofs.Common.{◌≡◌, ℕ, Some, None, Option, List, refl, sym, subst, ap, ◌∙◌}
use Rattle.std.specs.Prelude.{slice_get, slice_set}
use Rattle.std.specs.Option.{option_map, option_map_or}
use native.Mathlib.Decide.{ℕ_discrete}
use Rattle.pblk_model.specs.declared.shape.Shape.{Shape}
use Rattle.pblk_model.specs.Chunk.{Chunk}
use Rattle.pblk_model.specs.ChunkStep.{ChunkCommand, Read}
use Rattle.pblk_model.specs.UnitLog.{UnitEvent, after_event, after_outcome}
use Rattle.pblk_model.specs.Image.{Image}
use Rattle.pblk_world.specs.Events.{Maker}
use Rattle.pblk_world.specs.World.{World, Logs, log_of, media}
use Rattle.pblk_world.specs.EngineLog.{Begun, begun}
use Rattle.pblk_world.specs.Commanding.{is_program, IsCommand}
use Rattle.pblk_world.specs.LegalMounts.{IsLegalMount}
use Rattle.step_laws.specs.NextEvents.{CanFetch}
use Rattle.step_laws.specs.Whole.{after_unit, IsLevel}
use Rattle.step_laws.proofs.ChunkEvents.{same_images, fetch_leaves}
use Rattle.step_laws.proofs.Levels.{ends_by_command, level_unit}
use Rattle.step_laws.proofs.UnitSteps.{unit_next, media_now, media_elsewhere}
use Rattle.pblk_model.proofs.Parts.{set_same}

-- each block may be fetched, before the mount begins and after it
pub may_read : (i : Image) (logs : Logs) (unit chunk block : ℕ) (c : Chunk) (command : ChunkCommand) (o : Option Begun) → command ≡ Read block
    → IsCommand i logs unit c chunk command o
may_read i logs unit chunk block c command o is = subst (λ (x : ChunkCommand). IsCommand i logs unit c chunk x o) (sym is) (go o)
  where
    go : (o : Option Begun) → IsCommand i logs unit c chunk (Read block) o
    go None = tt
    go (Some b) = tt

pub fetch_next : (i : Image) (w : World) (unit block : ℕ) (e : UnitEvent) (maker : Maker) → IsLegalMount i w → CanFetch i (log_of w) unit block e
    → IsLegalMount i (after_unit i.shape unit e maker w)
fetch_next i w unit block e maker mount fetch =
    unit_next i w unit e maker mount fetch.can
    (may_read i (log_of w) unit e.chunk block fetch.can.event.found e.command (begun (log_of w 0)) fetch.command)

pub fetch_level : (s : Shape) (unit block : ℕ) (e : UnitEvent) (maker : Maker) (w : World) → e.command ≡ Read block → IsLevel w
    → IsLevel (after_unit s unit e maker w)
fetch_level s unit block e maker w fetch level = level_unit s unit e maker w (ends_by_command e (ap is_program fetch)) level

-- ---- the media

read_leaves : (s : Shape) (chunks : List Chunk) (e : UnitEvent) (block : ℕ) → e.command ≡ Read block → after_event s chunks e ≡ chunks
read_leaves s chunks e block fetch = go (slice_get chunks e.chunk) refl
  where
    go : (o : Option Chunk) → slice_get chunks e.chunk ≡ o
        → option_map_or (λ c. slice_set chunks e.chunk (after_outcome s c e.command e.outcome)) o chunks ≡ chunks
    go None there = refl
    go (Some c) there = ap (slice_set chunks e.chunk) (fetch_leaves s c e block fetch) ∙ set_same chunks e.chunk c there

all_left : (s : Shape) (o : Option (List Chunk)) (e : UnitEvent) (block : ℕ) → e.command ≡ Read block
    → option_map (λ chunks. after_event s chunks e) o ≡ o
all_left s None e block fetch = refl
all_left s (Some chunks) e block fetch = ap (λ (cs : List Chunk). Some cs) (read_leaves s chunks e block fetch)

pub media_stays : (i : Image) (w : World) (unit block : ℕ) (e : UnitEvent) (maker : Maker) → e.command ≡ Read block
    → media i (log_of (after_unit i.shape unit e maker w)) ≡ media i (log_of w)
media_stays i w unit block e maker fetch =
    same_images i.shape (media i (log_of (after_unit i.shape unit e maker w))).units (media i (log_of w)).units (λ u. go u (ℕ_discrete u unit))
  where
    own : slice_get (media i (log_of (after_unit i.shape unit e maker w))).units unit ≡ slice_get (media i (log_of w)).units unit
    own = media_now i unit e maker w ∙ all_left i.shape (slice_get (media i (log_of w)).units unit) e block fetch

    go : (u : ℕ) → Dec (u ≡ unit)
        → slice_get (media i (log_of (after_unit i.shape unit e maker w))).units u ≡ slice_get (media i (log_of w)).units u
    go u (yes same) = subst (λ v. slice_get (media i (log_of (after_unit i.shape unit e maker w))).units v ≡ slice_get (media i (log_of w)).units v)
        (sym same) own
    go u (no apart) = media_elsewhere i unit e maker w u apart

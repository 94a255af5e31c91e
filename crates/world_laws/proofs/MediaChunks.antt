-- A unit's chunk on the media, and on the media that the mount found, is what the unit's events
-- left.
use Rattle.std.proofs.Common.{◌≡◌, ℕ, suc, None, Some, Option, List, length, refl, sym, ap, ◌∙◌}
use Rattle.std.specs.Prelude.{slice_get, slice_index}
use Rattle.std.specs.List.{filter_map}
use Rattle.std.specs.Option.{option_and_then, option_map}
use Rattle.std.proofs.Math.Seq.{take-length}
use Rattle.pblk_model.specs.Chunk.{Chunk}
use Rattle.pblk_model.specs.Image.{Image}
use Rattle.pblk_model.specs.UnitLog.{after_log}
use Rattle.pblk_laws.specs.LineBlocks.{chunk_in}
use Rattle.pblk_world.specs.Events.{Decides, Free, Logged}
use Rattle.pblk_world.specs.World.{Logs, cut_logs, media, unit_event_of, unit_events}
use Rattle.pblk_world.specs.EngineLog.{Begun, begun}
use Rattle.pblk_world.specs.Lines.{found_by, found_image}
use Rattle.pblk_world.proofs.WorldLemmas.{media_at}
use Rattle.world_laws.specs.UnitChunks.{chunk_after, first_events}
use Rattle.world_laws.proofs.UnitChunks.{named_chunk}

pub chunk_of_cut : (i : Image) (logs : Logs) (knows : List ℕ) (line unit : ℕ)
    → chunk_in (media i (cut_logs knows logs)) line unit ≡ chunk_after i logs line unit (slice_index knows (suc unit))
chunk_of_cut i logs knows line unit = named_chunk i logs (record { event = Decides (Free line); knows = knows }) line unit (slice_index knows (suc unit)) refl

pub chunk_of_found : (i : Image) (logs : Logs) (b : Begun) (line unit : ℕ) → begun (logs 0) ≡ Some b
    → chunk_in (found_image i logs) line unit ≡ chunk_after i logs line unit (slice_index b.knows (suc unit))
chunk_of_found i logs b line unit begins =
    ap (λ (o : Option Begun). chunk_in (found_by i logs o) line unit) begins ∙ chunk_of_cut i logs b.knows line unit

pub chunk_of_media : (i : Image) (logs : Logs) (line unit : ℕ) → chunk_in (media i logs) line unit ≡ chunk_after i logs line unit (length (logs (suc unit)))
unfolding chunk_after first_events
chunk_of_media i logs line unit = ap (option_and_then (λ (cs : List Chunk). slice_get cs line)) (media_at i logs unit)
    ∙ by (slice_get i.units unit)
    ∙ ap (λ (log : List Logged). option_and_then (λ (cs : List Chunk). slice_get (after_log i.shape cs (filter_map (λ l. unit_event_of l.event) log)) line)
    (slice_get i.units unit)) (sym (take-length (logs (suc unit))))
  where
    by : (o : Option (List Chunk)) → option_and_then (λ (cs : List Chunk). slice_get cs line)
        (option_map (λ (cs : List Chunk). after_log i.shape cs (unit_events logs unit)) o)
        ≡ option_and_then (λ (cs : List Chunk). slice_get (after_log i.shape cs (unit_events logs unit)) line) o
    by None = refl
    by (Some cs) = refl

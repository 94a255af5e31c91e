-- What has landed is kept until it isn't needed: where a freed line's positions are, and where the
-- latest entry of a sector stands.
use Rattle.std.proofs.Common.{◌≡◌, ◌≢◌, ◌⊎◌, inl, inr, ℕ, ◌<◌, ◌≤◌, true, refl, Some}
use Rattle.std.specs.List.{Contains}
use Rattle.pblk_model.specs.Contents.{counted, winner}
use Rattle.pblk_model.specs.Image.{Image}
use Rattle.pblk_model.specs.Records.{Record}
use Rattle.pblk_model.specs.StartRecord.{StartRecord}
use Rattle.pblk_world.specs.World.{World, log_of}
use Rattle.pblk_world.specs.EngineLog.{AsFound, Opened, Opening, Placed, Taken, has_landed, holds_position, life_of, openings, placements, stripes_of, takes}
use Rattle.pblk_world.specs.Fronts.{synced}
use Rattle.pblk_world.specs.Lines.{found_image}
use Rattle.pblk_world.specs.Starts.{newest_start}
use Rattle.pblk_model.proofs.Lists.{among_contained}
use Rattle.pblk_model.proofs.Parts.{contained_among}
use Rattle.pblk_world.specs.LegalMounts.{IsLegalMount}
use Rattle.world_laws.proofs.LandedRecords.{freed_below_front}
use Rattle.world_laws.proofs.Latest.{IsLatestBelow, IsStandingAt, latest_stands}
use Rattle.world_laws.proofs.Lives.{IsFreedLife, standing_or_freed}
use Rattle.world_laws.proofs.Newest.{IsOlder, older_when_freed}
use Rattle.world_laws.proofs.WinnerLines.{winner_stands}
use Rattle.world_laws.proofs.LifePlaces.{have_places}

-- where the line of a stripe that has landed was freed since, the newest start record's front is
-- above each position that the stripe holds
pub freed_below : (i : Image) (w : World) (o : Opening) (p : Placed) (position : ℕ) → IsLegalMount i w → Contains (openings (log_of w 0)) o
    → life_of (log_of w 0) o.line ≢ Opened o → Contains (stripes_of (log_of w 0) o) p → has_landed (log_of w 0) p ≡ true
    → holds_position i.shape position p ≡ true → (start : StartRecord) × (newest_start i (log_of w) ≡ Some start) × (position < start.front)
freed_below i w o p position mount opened closed there landed holds = go (standing_or_freed i w o mount.legal opened)
  where
    go : (life_of (log_of w 0) o.line ≡ Opened o) ⊎ IsFreedLife (log_of w 0) o
        → (start : StartRecord) × (newest_start i (log_of w) ≡ Some start) × (position < start.front)
    go (inl stands) = absurd (closed stands)
    go (inr freed) =
        let older : IsOlder i w o freed = older_when_freed i w o mount.legal freed in (
          older.newest,
          older.is_newest,
          freed_below_front i w o p position mount.legal (have_places i w mount.accepted mount.legal) freed there landed holds,
        )

-- the latest entry of a sector below the front synced is in a stripe that has landed, whose line
-- wasn't freed since
pub latest_kept : (i : Image) (w : World) (t : Taken) → IsLegalMount i w → Contains (takes (log_of w 0)) t → t.mark.lba < i.shape.capacity
    → t.entry.position < synced i.shape (log_of w 0)
    → ((u : Taken) → Contains (takes (log_of w 0)) u → u.mark.lba ≡ t.mark.lba → u.entry.position < synced i.shape (log_of w 0)
    → u.entry.position ≤ t.entry.position)
    → (p : Placed) × Contains (placements (log_of w 0)) p × (has_landed (log_of w 0) p ≡ true) × (holds_position i.shape t.entry.position p ≡ true)
    × (life_of (log_of w 0) p.stripe.line ≡ p.life)
latest_kept i w t mount there small below greatest =
    let latest : IsLatestBelow (log_of w 0) t.mark.lba (synced i.shape (log_of w 0)) t = record {
      there = among_contained (takes (log_of w 0)) t there;
      of_it = refl;
      below = below;
      greatest = λ u among. greatest u (contained_among (takes (log_of w 0)) u among);
    } in
    let stands : IsStandingAt i.shape (log_of w 0) t.entry.position =
    latest_stands i w t.mark.lba t mount.accepted mount.legal (have_places i w mount.accepted mount.legal) small latest in
    (stands.placed, stands.there, stands.landed, stands.holds, stands.stands)

-- and until an entry of it is there the line of the sector's winner is as the mount found it
pub winner_kept : (i : Image) (w : World) (lba : ℕ) (r : Record) → IsLegalMount i w → winner (counted (found_image i (log_of w))) lba ≡ Some r
    → ((u : Taken) → Contains (takes (log_of w 0)) u → u.mark.lba ≡ lba → synced i.shape (log_of w 0) ≤ u.entry.position)
    → life_of (log_of w 0) r.line ≡ AsFound
winner_kept i w lba r mount wins none = winner_stands i w lba r mount.accepted mount.legal wins
    (λ u among. none u (contained_among (takes (log_of w 0)) u among))

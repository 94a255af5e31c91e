-- The seats of a ring with what goes with them.
use Rattle.std.specs.Prelude.{◌≡◌, ℕ, ◌+◌, ◌*◌, ◌<◌, ◌≤◌, [], length}
use Rattle.pblk_model.specs.Frames.{PoolView, count_left}
use Rattle.write_ring.specs.declared.table.Ring.{Ring}
use Rattle.write_ring.specs.declared.seats.Intake.{Intake}
use Rattle.write_ring.specs.declared.seats.Pass.{Pass}
use Rattle.std.specs.List.{AllByRecursion}
use Rattle.sector_pool.specs.declared.entry.Class.TheVariants as class
use Rattle.write_ring.specs.Batches.{BatchView, CanPut}
use Rattle.write_ring.specs.Handles.{IsIntakeOf, IsPassOf, intake_view, pass_view, ring_key}
use Rattle.ring_crew.specs.declared.maker.Maker.{Maker}
use Rattle.ring_crew.specs.declared.taker.Got.{Got}
use Rattle.ring_crew.specs.declared.taker.Got.TheVariants as got

-- the batch has one free frame of the ring's pool, for sectors of at least 16 bytes
pub record HasOneFrame (ring : Ring) (batch : BatchView) : Type 0 where
  pub empty : batch.drafts ≡ []
  pub free : batch.free ≡ 1
  pub own : batch.region ≡ (ring_key ring).origin.region
  pub size : 16 ≤ batch.region.size

-- the maker has the bytes of one sector, and a batch of so many frames of the ring's pool, of which so many are filled for users
pub record IsMaker (ring : Ring) (maker : Maker) (filled count : ℕ) : Type 0 where
  pub pass_of : IsPassOf ring maker.pass
  pub drafts : length maker.batch.drafts ≡ filled
  pub fit : AllByRecursion (CanPut class.User (ring_key ring)) maker.batch.drafts
  pub free : maker.batch.free + filled ≡ count
  pub own : maker.batch.region ≡ (ring_key ring).origin.region
  pub size : 16 ≤ maker.batch.region.size
  pub long : length maker.sector.items ≡ maker.batch.region.size
  pub which : maker.which < 128

-- the intake is the ring's, has freed what it took, and has granted users no more than has room beside the reserve
pub record IsTaker (ring : Ring) (intake : Intake) (room : ℕ) : Type 0 where
  pub intake_of : IsIntakeOf ring intake
  pub all_freed : (intake_view intake).intake.taken ≡ (intake_view intake).intake.freed
  pub granted : (intake_view intake).intake.granted ≤ (intake_view intake).intake.freed + room
  pub reserve : room + (ring_key ring).reserve ≤ (ring_key ring).size

-- there are sectors for so many turns of 128 makers, with up to 16 sectors in each
abbrev pub HasTurns : Ring → ℕ → Type 0
HasTurns ring turns = 2048 * turns ≤ (ring_key ring).capacity

-- the pass is the ring's, and has a share for each maker and one more; the ring's pool has 16 frames for each
pub record IsCrew (ring : Ring) (pass : Pass) (pool : PoolView) (makers : ℕ) : Type 0 where
  pub pass_of : IsPassOf ring pass
  pub shares : makers < (pass_view pass).pass.shares
  pub left : 16 * makers ≤ count_left pool.left
  pub own : pool.region ≡ (ring_key ring).origin.region
  pub size : 16 ≤ pool.region.size

-- the first position that isn't freed, once this was got
abbrev pub freed_after : Got → ℕ
freed_after (got.Entry position lba) = position + 1
freed_after (got.Wrong position) = position + 1
freed_after (got.Empty at) = at
freed_after (got.Unfilled at) = at

-- The fetches of a run, as the loops make them.
use Rattle.std.proofs.Common.{◌≡◌, ℕ, zero, suc, get_or, ◌∷◌, ◌+◌, ◌*◌, ◌<◌, ◌≤◌, Some, None, List, [], ◌++◌, length, sym, subst, ap, arith}
use Rattle.std.specs.Prelude.{slice_get, IsErrAnd, Result, Ok, Err}
use borrow.Rule.Slice.PartMut.{put_mid}
use Rattle.pblk_model.specs.Image.{Image}
use Rattle.pblk_world.specs.World.{Logs}
use Rattle.unit_port.specs.Unit.{ModelUnit}
use Rattle.chronicle.specs.Views.{Past}
use Rattle.chronicle.specs.Prefixes.{Prefixes, logs_of}
use Rattle.pblk_engine.specs.Reads.{AreLatest, AreLookedFor, HasFetchedPlace, HasFetchedRun, IsLatest, IsPlaceOf, IsRunLook, WentWell}
use Rattle.pblk_engine.specs.Workers.{WorkerView}
use Rattle.pblk_engine.specs.declared.errors.DriveErr.{DriveErr}
use Rattle.pblk_engine.specs.declared.sector_looks.RunLook.{RunLook}
use Rattle.pblk_engine.specs.declared.sector_looks.SectorPlace.{SectorPlace}
use Rattle.pblk_engine.proofs.GoingOn.{goes_then}
use Rattle.pblk_engine.proofs.ReadFetches.{lost_after, well_still, well_then}
use Rattle.pblk_engine.proofs.RunParts.{latest_fetched, latest_next, none_latest, rest_fetched, rest_next}

-- ---- what a run's places are

-- an item that there is
pub item_there : {X : Type 0} (xs : List X) (k : ℕ) (d x : X) → k < length xs → get_or xs k d ≡ x → slice_get xs k ≡ Some x
item_there [] k d x less is = absurd (omega arith)
item_there (y ∷ xs) zero d x less is = ap (λ z. Some z) is
item_there (y ∷ xs) (suc k) d x less is = item_there xs k d x (omega arith) is

-- a place, by the number of the sector that it names
pub own_place : (i : Image) (logs : Logs) (lba : ℕ) (p : SectorPlace) → IsPlaceOf i logs lba p → IsPlaceOf i logs p.sought.lba p
own_place i logs lba p is = subst (λ n. IsPlaceOf i logs n p) (sym is.of) is

-- what an answer tells that is this error
pub told_err : {B : Type 0} (past : Past) (handed : List ModelUnit) (old new : WorkerView) (looked : Prefixes) (lba : ℕ) (look : RunLook) (Tells : B → Type 0)
    (r : Result B DriveErr) (e : DriveErr) → IsErrAnd r (λ told. told ≡ e) → HasFetchedRun past handed old new looked lba look Tells (Err e)
    → HasFetchedRun past handed old new looked lba look Tells r
told_err past handed old new looked lba look Tells (Ok b) e made is = absurd made
told_err past handed old new looked lba look Tells (Err told) e made is =
    subst (λ (x : DriveErr). HasFetchedRun past handed old new looked lba look Tells (Err x)) (sym made) is

-- Sectors below the index have what they held at a look by these logs. The others are as the look
-- left them.
pub record IsFetchingRun (i : Image) (looked : Prefixes) (lba : ℕ) (look : RunLook) (old now : WorkerView) (index : ℕ) (out : List ℕ) : Type 0 where
  pub well : WentWell old now
  pub latest : AreLatest i (logs_of looked) look.size lba index out
  pub rest : AreLookedFor i (logs_of looked) look.size lba index look.count look.places out

module _ (past : Past) (handed : List ModelUnit) (looked : Prefixes) (lba : ℕ) (look : RunLook) (old : WorkerView) where
  pub fetching_begins : (out : List ℕ) → IsRunLook past.image (logs_of looked) lba out look → IsFetchingRun past.image looked lba look old old 0 out
  fetching_begins out is = record {
    well = well_still old;
    latest = none_latest past.image (logs_of looked) look.size lba out;
    rest = is.each;
  }

  module _ (now : WorkerView) (index : ℕ) (out : List ℕ) (is : IsFetchingRun past.image looked lba look old now index out) where
    -- the place of the next one
    pub place_of_next : (p : SectorPlace) → index < look.count → slice_get look.places index ≡ Some (Some p)
        → IsPlaceOf past.image (logs_of looked) (lba + index) p
    place_of_next p less there = is.rest index (Some p) (omega arith) less there

    pub next_place : (p : SectorPlace) → look.count ≤ 16 → length look.places ≡ 16 → index < look.count → get_or look.places index None ≡ Some p
        → IsPlaceOf past.image (logs_of looked) (lba + index) p
    next_place p few many less there = place_of_next p less (item_there look.places index None (Some p) (omega arith) there)

    -- it isn't on the drive
    pub next_none : index < look.count → slice_get look.places index ≡ Some None
        → IsFetchingRun past.image looked lba look old now (index + 1) out
    next_none less there = record {
      well = is.well;
      latest = latest_next past.image (logs_of looked) look.size lba index out is.latest (is.rest index None (omega arith) less there);
      rest = rest_next past.image (logs_of looked) look.size lba index look.count look.places out is.rest;
    }

    -- it was fetched
    pub next_fetched : {A : Type 0} (a : A) (p : SectorPlace) (new : WorkerView) (n : ℕ) (bytes : List ℕ) → HasFetchedPlace handed p now new (Ok a)
        → index * look.size ≤ length out → length bytes ≡ look.size → n ≡ look.size → IsLatest past.image (logs_of looked) (lba + index) bytes
        → IsFetchingRun past.image looked lba look old new (index + 1) (put_mid (index * look.size) n out bytes)
    next_fetched a p new n bytes fetched inside long wide latest = record {
      well = well_then old now new fetched.more is.well fetched.on fetched.tells;
      latest = latest_fetched past.image (logs_of looked) look.size lba index n out bytes inside long wide is.latest latest;
      rest = rest_fetched past.image (logs_of looked) look.size lba index n out bytes inside long wide look.count look.places is.rest;
    }

    -- its fetch was lost
    pub run_lost : {A B : Type 0} (Tells : B → Type 0) (p : SectorPlace) (new : WorkerView) (e : DriveErr) → HasFetchedPlace {A = A} handed p now new (Err e)
        → index < look.count → slice_get look.places index ≡ Some (Some p)
        → HasFetchedRun {A = B} past handed old new looked lba look Tells (Err e)
    run_lost Tells p new e fetched less there = record {
      more = is.well.more ++ fetched.more;
      on = goes_then old now new is.well.more fetched.more is.well.on fetched.on;
      tells = record {
        k = index;
        below = less;
        place = p;
        is = place_of_next p less there;
        lost = lost_after handed p.unit p.sought.line p.sought.block is.well.more fetched.more e is.well.none fetched.tells;
      };
    }

  -- none was lost
  pub run_well : {B : Type 0} (Tells : B → Type 0) (b : B) (new : WorkerView) → WentWell old new → Tells b
      → HasFetchedRun past handed old new looked lba look Tells (Ok b)
  run_well Tells b new well tells = record { more = well.more; on = well.on; tells = (well.none, tells) }

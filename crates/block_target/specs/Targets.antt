-- A target that sessions, lanes and a collector share, and what an opening hands out with it.
use Rattle.std.specs.Prelude.{ℕ, ◌+◌, ◌*◌, ◌-◌, ◌≡◌, ◌≤◌, List, [], ◌∷◌, length, map, slice_get, Option, Some}
use Rattle.std.specs.List.{range_with_len}
use Rattle.atomic_table.specs.Seated.{TableId}
use Rattle.pblk_model.specs.Frames.{PoolView, count_out}
use Rattle.pblk_model.specs.Shape.{units}
use Rattle.unit_port.specs.Unit.{ModelUnit}
use Rattle.write_ring.specs.Handles.{pass_view}
use Rattle.write_ring.specs.declared.seats.Pass.{Pass}
use Rattle.write_ring.specs.declared.view.Key.{Key}
use Rattle.write_ring.specs.declared.view.View.{View}
use Rattle.chronicle.specs.Handles.{TokenView, first_token, note_of}
use Rattle.chronicle.specs.Prefixes.{logs_of}
use Rattle.chronicle.specs.Views.{Past}
use Rattle.pblk_engine.specs.Arms.{ArmView, IsArm, arm_view}
use Rattle.pblk_engine.specs.Endings.{IsPassIn}
use Rattle.pblk_engine.specs.Mounts.{IsMounted}
use Rattle.pblk_engine.specs.Notes.{IsNoteOf}
use Rattle.pblk_engine.specs.Workers.{WorkerView, worker_view}
use Rattle.block_target.specs.MountFrames.{first_pass}
use Rattle.block_target.specs.OpenedTargets.{OpenedView}
use Rattle.block_target.specs.Rooms.{new_stripe}
use Rattle.block_target.specs.Sessions.{SessionView, session_view}

-- An opened drive is the one that a mount names.
pub record Names (chronicle : TableId) (past : Past) (ring : TableId) (key : Key) (handed : List ModelUnit) (wear : List (List ℕ))
    (v : OpenedView) : Type 0 where
  pub its_chronicle : v.chronicle ≡ chronicle
  pub its_past : v.past ≡ past
  pub its_ring : v.ring ≡ ring
  pub its_key : v.key ≡ key
  pub its_units : v.handed ≡ handed
  pub its_wear : v.wear ≡ wear

-- what contracts see of a target: its own pass of the ring, and the number of the next new worker
pub record TargetView : Type 0 where
  pub pass : View
  pub named : Option ℕ

abbrev pub target_view : View → Option ℕ → TargetView
target_view pass named = record { pass = pass; named = named }

-- All frames that are out of the pool are the ring's, the engine's, or those of the sessions that
-- have the other shares of the ring. There is room for the units,
-- which the engine has, and for all workers.
pub record IsTarget {X : Type 0} (chronicle : TableId) (past : Past) (ring : TableId) (key : Key) (handed : List ModelUnit) (wear : List (List ℕ))
    (pass : Pass) (token : TokenView) (pool : PoolView) (none : List X) (room : ℕ) (idle : List WorkerView) (seats : ℕ) : Type 0 where
  pub mounted : IsMounted past key handed wear
  pub pass_of : IsPassIn ring key pass
  pub names : IsNoteOf chronicle past (note_of token)
  pub region : pool.region ≡ key.origin.region
  pub out : count_out pool.left + 16 * (pass_view pass).pass.shares ≡ key.size + 1 + 16 * 127
  pub empty : none ≡ []
  pub room_is : units past.image.shape ≤ room
  pub no_workers : idle ≡ []
  pub seats_are : (n : ℕ) → token.spare ≡ Some n → n ≤ seats

-- the token once so many workers are named
abbrev pub naming : TableId → Past → ℕ → TokenView
naming chronicle past number = record (first_token chronicle past) { spare = Some number }

-- a worker that has done nothing yet
abbrev pub first_worker : Past → ℕ → WorkerView
first_worker past number = worker_view number past.logs (new_stripe past.image.shape) [] 0

abbrev pub first_workers : Past → ℕ → ℕ → List WorkerView
first_workers past from count = map (first_worker past) (range_with_len from count)

-- a session that has done nothing yet
abbrev pub first_session : Past → Key → ℕ → SessionView
first_session past key number = session_view (first_worker past number) (first_pass 1 key) 0 [] [] []

abbrev pub first_sessions : Past → Key → ℕ → List SessionView
first_sessions past key count = map (first_session past key) (range_with_len 0 count)

-- a target for so many sessions, with so many workers besides
abbrev pub first_target : Key → ℕ → ℕ → TargetView
first_target key sessions workers = target_view (first_pass (127 - sessions) key) (Some (sessions + workers))

-- Units.

-- They are as the mount's past leaves those that were handed in.
pub record AreHandedUnits (past : Past) (handed : List ModelUnit) (wear : List (List ℕ)) (now : List ModelUnit) (worn : List (List ℕ)) : Type 0 where
  pub wear_is : worn ≡ wear
  pub each : (number : ℕ) (u : ModelUnit) → slice_get now number ≡ Some u
      → (was : ModelUnit) × (slice_get handed number ≡ Some was) × IsArm past.image (logs_of past.logs) number was u

-- their arms, which are numbered from this number on
abbrev pub arms_of : Past → ℕ → List ModelUnit → List ArmView
arms_of past from [] = []
arms_of past from (u ∷ us) = arm_view from past.logs u ∷ arms_of past (from + 1) us

-- The units of arms, which nobody has used, with the wear that they were handed in with.
pub record AreTakenOut (wear : List (List ℕ)) (arms : List ArmView) (units : List ModelUnit) (worn : List (List ℕ)) : Type 0 where
  pub units_are : units ≡ map (λ (a : ArmView). a.unit) arms
  pub count : length worn ≡ length arms
  pub each : (number : ℕ) (levels : List ℕ) → slice_get worn number ≡ Some levels → slice_get wear number ≡ Some levels

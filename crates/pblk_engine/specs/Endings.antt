-- What is left when an engine ends.
use Rattle.std.specs.Prelude.{ℕ, suc, ◌^◌, ◌≡◌, ◌<◌, ◌≤◌, List, [], length, map, slice_get, Option, Some}
use Rattle.std.specs.List.{Contains}
use mathlib.Core.List.{IsPrefix}
use Rattle.atomic_table.specs.Seated.{TableId}
use Rattle.pblk_model.specs.Image.{Image}
use Rattle.pblk_world.specs.AtRest.{AreResetsNoted}
use Rattle.pblk_world.specs.EngineLog.{takes}
use Rattle.pblk_world.specs.Fronts.{taken}
use Rattle.pblk_world.specs.LegalMounts.{IsLegalMount}
use Rattle.pblk_world.specs.Makers.{HasMakers, commands_of}
use Rattle.pblk_world.specs.Orders.{AreInOrder, NoneToFree}
use Rattle.pblk_world.specs.Reasons.{HasReasons}
use Rattle.pblk_world.specs.World.{World, log_of}
use Rattle.unit_port.specs.Unit.{ModelUnit}
use Rattle.write_ring.specs.declared.view.Key.{Key}
use Rattle.write_ring.specs.declared.view.Part.{Part}
use Rattle.write_ring.specs.declared.view.Row.{Row}
use Rattle.write_ring.specs.declared.view.View.{View}
use Rattle.write_ring.specs.Batches.{BatchView}
use Rattle.write_ring.specs.declared.seats.Pass.{Pass}
use Rattle.write_ring.specs.Handles.{AreAllClaims, IsAsPut, IsFilled, IsTiled, pass_view}
use Rattle.pblk_core.specs.Copies.{is_copying}
use Rattle.pblk_core.specs.Named.{named, pad_of}
use Rattle.pblk_core.specs.declared.target_core.Core.{Core}
use Rattle.chronicle.specs.Handles.{AuthorView}
use Rattle.chronicle.specs.Prefixes.{AreLegalLogs, ArePrefixes, NoOpeningAfter, Prefixes, logs_of}
use Rattle.chronicle.specs.Views.{Past}
use Rattle.pblk_engine.specs.Arms.{ArmView, IsArm}
use Rattle.pblk_engine.specs.Hearts.{HeartView, IsHeartOf, parts, ring_row}
use Rattle.pblk_engine.specs.Settlings.{IsWorkedOff, IsWornAt}
use Rattle.pblk_engine.specs.Workers.{Made, WasMade, WorkerView}

-- What is left of a heart: all is as it was between two holds of its lock.
pub record IsHeartEnd (logs table : TableId) (past : Past) (key : Key) (v : HeartView)
    (core : Core) (author : AuthorView) (place : TableId) (intake : View) (batch : BatchView) : Type 0 where
  pub heart : IsHeartOf logs table past key place (parts core author intake)
  pub same_author : author ≡ v.author
  pub same_intake : intake ≡ v.intake
  pub work : named core ≡ v.work
  pub copying : is_copying core ≡ v.copying
  pub pad : pad_of core ≡ v.pad
  -- its batch has one frame of the ring's region
  pub region : batch.region ≡ key.origin.region
  pub free : batch.free ≡ 1
  pub empty : batch.drafts ≡ []

-- the pass is that ring's, and knows what the ring was made with
abbrev pub IsPassIn : TableId → Key → Pass → Type 0
IsPassIn table key p = (p.seat.table_id ≡ table) × ((pass_view p).key ≡ key)

-- in each place is the arm of the unit with the place's number
abbrev pub AreArmsInOrder : List ArmView → Type 0
AreArmsInOrder arms = (number : ℕ) (a : ArmView) → slice_get arms number ≡ Some a → a.number ≡ number

-- The engine's author numbers the next commands of these workers, and knows all that they know.
pub record HasTakenOver (past : Past) (engine : AuthorView) (workers : List WorkerView) (author : AuthorView) : Type 0 where
  pub same : author ≡ record engine { known = author.known; makers = author.makers; spare = author.spare }
  pub legal : AreLegalLogs past.image author.known
  pub begun : ArePrefixes past.logs author.known
  pub noted : AreResetsNoted (logs_of author.known)
  pub engine_log : logs_of author.known 0 ≡ logs_of engine.known 0
  pub learns : ArePrefixes engine.known author.known
  pub knows : (k : ℕ) (v : WorkerView) → slice_get workers k ≡ Some v → ArePrefixes v.known author.known
  pub makers : (k : ℕ) (v : WorkerView) → slice_get workers k ≡ Some v → Contains author.makers (record { worker = v.number; made = length v.made })
  pub each : (k : ℕ) (v : WorkerView) → slice_get workers k ≡ Some v
      → (j : ℕ) (m : Made) → slice_get v.made j ≡ Some m → WasMade (logs_of author.known) v.number j m

-- The engine's author has joined those of these arms, which have given their units back.
pub record HasJoined (chronicle : TableId) (past : Past) (handed : List ModelUnit) (wear : List (List ℕ))
    (engine : AuthorView) (arms : List ArmView) (author : AuthorView) (units : List ModelUnit) (worn : List (List ℕ)) : Type 0 where
  pub of : author.chronicle ≡ chronicle
  pub over : author.past ≡ past
  pub owns_engine : Contains author.owned 0
  pub owns : (number : ℕ) → number < length arms → Contains author.owned (suc number)
  pub legal : AreLegalLogs past.image author.known
  pub begun : ArePrefixes past.logs author.known
  pub noted : AreResetsNoted (logs_of author.known)
  pub engine_log : logs_of author.known 0 ≡ logs_of engine.known 0
  pub learns : ArePrefixes engine.known author.known
  pub unit_logs : (number : ℕ) (a : ArmView) → slice_get arms number ≡ Some a → logs_of author.known (suc number) ≡ logs_of a.known (suc number)
  pub gives : units ≡ map (λ (a : ArmView). a.unit) arms
  pub each : (number : ℕ) (u : ModelUnit) → slice_get units number ≡ Some u
      → (was : ModelUnit) × (slice_get handed number ≡ Some was) × IsArm past.image (logs_of author.known) number was u
  pub as_worn : length worn ≡ length arms
  pub makers : author.makers ≡ engine.makers
  pub spare : author.spare ≡ engine.spare
  pub each_worn : (number : ℕ) (levels : List ℕ) → slice_get worn number ≡ Some levels → slice_get wear number ≡ Some levels

-- A worker made just the commands that it has in its list, which stand in this world.
pub record HasMadeAll (w : World) (v : WorkerView) : Type 0 where
  pub count : length v.made ≡ commands_of v.number w
  pub each : (k : ℕ) (m : Made) → slice_get v.made k ≡ Some m → WasMade (log_of w) v.number k m

-- An engine has ended: there is one world that is legal and goes on from the mount's past, and the
-- units are as it leaves them. These were its workers; from this number on none was named.
pub record HasEnded (past : Past) (key : Key) (handed : List ModelUnit) (wear : List (List ℕ))
    (workers : List WorkerView) (named : Option ℕ) (pass : Part) (units : List ModelUnit) (worn : List (List ℕ)) : Type 0 where
  pub world : World
  pub legal : IsLegalMount past.image world
  pub begun : (author : ℕ) → IsPrefix (logs_of past.logs author) (log_of world author)
  pub count : length units ≡ length handed
  pub each : (number : ℕ) (u : ModelUnit) → slice_get units number ≡ Some u
      → (was : ModelUnit) × (slice_get handed number ≡ Some was) × IsArm past.image (log_of world) number was u
  pub as_worn : worn ≡ wear
  -- Each command says how many its worker had made before it. The workers made those in their
  -- lists, and those that could still be named made none.
  pub numbered : HasMakers world
  pub made : (k : ℕ) (v : WorkerView) → slice_get workers k ≡ Some v → HasMadeAll world v
  -- what a worker knew stands there
  pub knew : (k : ℕ) (v : WorkerView) → slice_get workers k ≡ Some v → (author : ℕ) → IsPrefix (logs_of v.known author) (log_of world author)
  pub others : (n worker : ℕ) → named ≡ Some n → n ≤ worker → worker < 2 ^ 64 → commands_of worker world ≡ 0
  -- each command of the opening stands in the mount's past
  pub opening : NoOpeningAfter past.logs (log_of world)
  -- the engine did its work in its order, all of it had its reason, and nothing is left to be noted
  -- or freed
  pub noted : AreResetsNoted (log_of world)
  pub in_order : AreInOrder past.image (log_of world)
  pub reasons : HasReasons past.image (log_of world)
  pub none_to_free : NoneToFree past.image (log_of world)
  -- What was taken from the ring are the takes of the engine's log, each as it was put. The pass
  -- put those of users, and the intake the copies; all that they claimed was put, and their claims
  -- are all that there are.
  pub took : List Row
  pub takes_are : took ≡ map ring_row (takes (log_of world 0))
  pub copies : Part
  pub as_put : IsAsPut key.first took pass copies
  pub tiled : IsTiled key.first pass copies
  -- all that was claimed was taken
  pub all_taken : AreAllClaims key.first (taken (log_of world 0)) pass copies
  pub filled : IsFilled pass
  pub copies_filled : IsFilled copies

-- What held of the logs at the heart's end, of how far the engine is, holds of the world.
pub record HasKept (i : Image) (known : Prefixes) (world : World) : Type 0 where
  pub worked_off : (claimed : ℕ) → IsWorkedOff i (logs_of known) claimed → IsWorkedOff i (log_of world) claimed
  pub worn : (claimed have : ℕ) → IsWornAt i (logs_of known) claimed have → IsWornAt i (log_of world) claimed have

-- The engine with this heart has ended.
pub record HasEndedOf (heart : HeartView) (past : Past) (key : Key) (handed : List ModelUnit) (wear : List (List ℕ))
    (workers : List WorkerView) (named : Option ℕ) (pass : Part) (units : List ModelUnit) (worn : List (List ℕ)) : Type 0 where
  pub ended : HasEnded past key handed wear workers named pass units worn
  pub kept : HasKept past.image heart.author.known ended.world
  pub own : logs_of heart.author.known 0 ≡ log_of ended.world 0

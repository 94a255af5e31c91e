-- What the engine is told of a stripe that a unit programmed, and what it notes of that.
use Rattle.std.specs.Prelude.{ℕ, suc, ◌≡◌, ◌+◌, ◌-◌, ◌^◌, ◌<◌, ◌≤◌, ◌++◌, [], ◌∷◌, List, take, length, slice_get, Some}
use Rattle.std.specs.List.{AllByRecursion}
use Rattle.pblk_model.specs.ChunkStep.{Write}
use Rattle.pblk_model.specs.Image.{Image}
use Rattle.pblk_model.specs.UnitLog.{UnitOutcome}
use Rattle.pblk_world.specs.Answering.{MayLand, MayOfferAgain}
use Rattle.pblk_world.specs.Commanding.{ended_stripes}
use Rattle.pblk_world.specs.Events.{EngineEvent, Landed, Lost, Again, Free, Decides, Does, Logged, Maker}
use Rattle.pblk_world.specs.World.{Logs, known, log_of}
use Rattle.pblk_core.specs.Filling.{Filling}
use Rattle.pblk_core.specs.Landing.{IsUnderWayOn}
use Rattle.pblk_core.specs.Losing.{IsLossOf}
use Rattle.pblk_core.specs.Mounts.{InItsMount}
use Rattle.pblk_core.specs.Stands.{answer_count}
use Rattle.pblk_core.specs.declared.target_core.Core.{Core}
use Rattle.chronicle.specs.Prefixes.{Prefixes, logs_of}
use Rattle.pblk_engine.specs.Deeds.{event_of}
use Rattle.pblk_engine.specs.Ended.{TellsEnded}
use Rattle.pblk_engine.specs.Placements.{IsPlacedAs}
use Rattle.pblk_engine.specs.Stops.{stop_count}
use Rattle.pblk_engine.specs.declared.commands.Ended.{Ended}
use Rattle.pblk_engine.specs.declared.commands.Ended.TheVariants as ended

-- what the engine notes of a program that ended so: of which unit, and its number in the unit's log
abbrev pub answer_event : Ended → ℕ → ℕ → EngineEvent
answer_event ended.Done unit number = Landed unit number
answer_event (ended.Failed kept) unit number = Lost unit number
answer_event ended.Stopped unit number = Again unit number

-- when it may note that
abbrev pub MayAnswer : Ended → ℕ → Image → Logs → ℕ → Type 0
MayAnswer ended.Done unit i logs number = MayLand logs unit number
MayAnswer (ended.Failed kept) unit i logs number = IsLossOf i logs unit number kept
MayAnswer ended.Stopped unit i logs number = MayOfferAgain logs unit number

-- The last event that is known of the stripe's unit is the program of this stripe, and it ended so.
-- It was made at the stripe's turn, by one who knew that the stripe was placed, and of at least so
-- many stops of the unit's programs that the engine had noted.
pub record IsLastProgram (told : Prefixes) (f : Filling) (how : Ended) (stops : ℕ) : Type 0 where
  pub number : ℕ
  pub last : length (logs_of told (suc f.stripe.unit)) ≡ number + 1
  pub logged : Logged
  pub there : slice_get (logs_of told (suc f.stripe.unit)) number ≡ Some logged
  pub outcome : UnitOutcome
  pub tells : TellsEnded f.shape.ws_min how outcome
  pub maker : Maker
  pub event : logged.event ≡ Does (event_of f.stripe.chunk (Write f.stripe.at f.stripe.blocks) outcome) maker
  pub placed : IsPlacedAs (take (known logged 0) (logs_of told 0)) f
  pub turn : ended_stripes (take number (logs_of told (suc f.stripe.unit))) ≡ f.turn
  pub noted : stops ≤ stop_count (take (known logged 0) (logs_of told 0)) f.stripe.unit

-- The stripe is, as far as its turn tells, the one of its unit that isn't answered. Its program is
-- under way, and just so many stops of the unit's programs were noted.
pub record IsAwaited (c : Core) (log : List Logged) (f : Filling) (stops : ℕ) : Type 0 where
  pub under_way : IsUnderWayOn c f.stripe.unit
  pub count : InItsMount c (λ i w. answer_count (log_of w 0) f.stripe.unit ≡ f.turn)
  pub below : f.turn < 2 ^ 64 - 1
  pub counted : stop_count log f.stripe.unit ≡ stops
  pub few : stops < 2 ^ 64 - 1

-- a line was freed
abbrev pub IsFreeing : Logged → Type 0
IsFreeing l = (line : ℕ) × (l.event ≡ Decides (Free line))

-- nothing came to a log but that lines were freed
pub record HasFreed (old new : List Logged) : Type 0 where
  pub more : List Logged
  pub log : new ≡ old ++ more
  pub only : AllByRecursion IsFreeing more

-- The engine noted the last known event of a unit as the answer to a stripe, and then freed lines.
pub record HasAnswered (told : Prefixes) (unit : ℕ) (how : Ended) (old new : List Logged) : Type 0 where
  pub number : ℕ
  pub last : length (logs_of told (suc unit)) ≡ number + 1
  pub logged : Logged
  pub event : logged.event ≡ Decides (answer_event how unit number)
  pub freed : HasFreed (old ++ logged ∷ []) new

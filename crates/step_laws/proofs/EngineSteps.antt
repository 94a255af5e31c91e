-- The next step of an engine that knows all logs.
use Rattle.std.proofs.Common.{◌≡◌, ℕ, zero, suc, Some, List, ◌∷◌, refl, ap, ◌∙◌, arith}
use Rattle.std.specs.List.{filter_map}
use Rattle.pblk_model.specs.declared.shape.Shape.{Shape}
use Rattle.pblk_model.specs.Image.{Image}
use Rattle.pblk_world.specs.Events.{EngineEvent, Begin, Decides, Logged}
use Rattle.pblk_world.specs.World.{World, Logs, log_of, unit_events, unit_event_of, media}
use Rattle.pblk_world.specs.EngineLog.{Begun, begun}
use Rattle.pblk_world.specs.Commanding.{has_stopped}
use Rattle.pblk_world.specs.Legal.{MayDecide, IsDecision}
use Rattle.pblk_world.specs.LegalMounts.{IsLegalMount}
use Rattle.core_laws.specs.Stepping.{after}
use Rattle.step_laws.specs.Whole.{knows_all, engine_step}
use Rattle.step_laws.proofs.Knowing.{next_legal}
use Rattle.pblk_model.proofs.Numbers.{fun_same}
use Rattle.pblk_world.proofs.EngineLogLemmas.{begun_stays}
use Rattle.pblk_world.proofs.WorldLemmas.{log_elsewhere, log_here}

-- ---- it may be made

pub decided_legal : (i : Image) (w : World) (e : EngineEvent) → IsLegalMount i w → MayDecide i (log_of w) e → IsLegalMount i (engine_step i.shape e w ∷ w)
decided_legal i w e mount may =
    record { accepted = mount.accepted; fit = mount.fit; legal = next_legal i w 0 (Decides e) mount.legal (omega arith) may }

-- in a mount that has begun

decides : (i : Image) (logs : Logs) (b : Begun) (e : EngineEvent) → begun (logs 0) ≡ Some b → IsDecision i logs b e → MayDecide i logs e
decides i logs b (Begin x) begins may = absurd may
decides i logs b e begins may = (b, begins, may)

pub engine_next : (i : Image) (w : World) (b : Begun) (e : EngineEvent) → IsLegalMount i w → begun (log_of w 0) ≡ Some b → IsDecision i (log_of w) b e
    → IsLegalMount i (engine_step i.shape e w ∷ w)
engine_next i w b e mount begins may = decided_legal i w e mount (decides i (log_of w) b e begins may)

-- ---- what it leaves

pub engine_logs : (s : Shape) (e : EngineEvent) (w : World) → log_of (engine_step s e w ∷ w) ≡ after (log_of w) e (knows_all s w)
engine_logs s e w = fun_same (log_of (engine_step s e w ∷ w)) (after (log_of w) e (knows_all s w)) go
  where
    go : (author : ℕ) → log_of (engine_step s e w ∷ w) author ≡ after (log_of w) e (knows_all s w) author
    go zero = log_here (engine_step s e w) w 0 refl
    go (suc unit) = log_elsewhere (engine_step s e w) w (suc unit) (λ same. let no : 0 ≡ suc unit = same in absurd (omega arith))

pub begun_still : (s : Shape) (e : EngineEvent) (w : World) (b : Begun) → begun (log_of w 0) ≡ Some b → begun (log_of (engine_step s e w ∷ w) 0) ≡ Some b
begun_still s e w b begins =
    ap (λ (log : List Logged). begun log) (log_here (engine_step s e w) w 0 refl) ∙ begun_stays (log_of w 0) (engine_step s e w).logged b begins

pub media_still : (i : Image) (s : Shape) (e : EngineEvent) (w : World) → media i (log_of (engine_step s e w ∷ w)) ≡ media i (log_of w)
media_still i s e w = ap (media i) (engine_logs s e w)

-- the units did nothing
pub events_still : (s : Shape) (e : EngineEvent) (w : World) (unit : ℕ) → unit_events (log_of (engine_step s e w ∷ w)) unit ≡ unit_events (log_of w) unit
events_still s e w unit = ap (λ (log : List Logged). filter_map (λ l. unit_event_of l.event) log)
    (log_elsewhere (engine_step s e w) w (suc unit) (λ same. let no : 0 ≡ suc unit = same in absurd (omega arith)))

pub stops_still : (s : Shape) (e : EngineEvent) (w : World) (unit : ℕ)
    → has_stopped (unit_events (log_of (engine_step s e w ∷ w)) unit) ≡ has_stopped (unit_events (log_of w) unit)
stops_still s e w unit = ap has_stopped (events_still s e w unit)

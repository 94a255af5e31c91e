-- The first event of an engine that knows all logs.
use Rattle.std.proofs.Common.{◌≡◌, ℕ, ◌+◌, ◌<◌, ◌≤◌, ◌&&◌, zero, suc, nat_lt, false, cond, Some, List, [], ◌∷◌, ◌++◌, length, take, refl, sym, ap, ◌∙◌, arith}
use Rattle.std.specs.Prelude.{slice_index}
use Rattle.std.specs.List.{Contains, filter}
use Rattle.std.specs.Option.{option_map_or}
use Rattle.std.proofs.Math.Seq.{take-length}
use Rattle.pblk_model.specs.declared.shape.Shape.{Shape}
use Rattle.pblk_model.specs.Image.{Image}
use Rattle.pblk_world.specs.Events.{Beginning, Begin, Decides, Logged}
use Rattle.pblk_world.specs.World.{World, Logs, log_of, known, knows_engine, cut_logs, media, unit_event_of}
use Rattle.pblk_world.specs.EngineLog.{begun, answers}
use Rattle.pblk_world.specs.Lines.{found_by, found_image}
use Rattle.pblk_world.specs.Commanding.{ends_program, ends_stripe, ended_stripes}
use Rattle.pblk_world.specs.Opening.{MayBegin}
use Rattle.pblk_world.specs.Legal.{IsLegal}
use Rattle.world_laws.proofs.Made.{known_within}
use Rattle.pblk_world.specs.LegalMounts.{IsLegalMount}
use Rattle.step_laws.specs.Whole.{knows_all, after_begin, IsLevel}
use Rattle.step_laws.proofs.EngineSteps.{decided_legal, engine_logs}
use Rattle.step_laws.proofs.Knowing.{known_whole}
use Rattle.step_laws.proofs.Levels.{level_by}
use Rattle.pblk_model.proofs.Numbers.{fun_same}

pub mount_begins : (i : Image) (w : World) (b : Beginning) → IsLegalMount i w → MayBegin i (log_of w) b → IsLegalMount i (after_begin i.shape b w)
mount_begins i w b mount may = decided_legal i w (Begin b) mount may

-- ---- the engine's log

first_log : (s : Shape) (w : World) (b : Beginning) → log_of w 0 ≡ []
    → log_of (after_begin s b w) 0 ≡ record { event = Decides (Begin b); knows = knows_all s w } ∷ []
first_log s w b none =
    ap (λ (logs : Logs). logs 0) (engine_logs s (Begin b) w)
    ∙ ap (λ (log : List Logged). log ++ record { event = Decides (Begin b); knows = knows_all s w } ∷ []) none

pub begun_is : (s : Shape) (w : World) (b : Beginning) → log_of w 0 ≡ []
    → begun (log_of (after_begin s b w) 0) ≡ Some (record { beginning = b; knows = knows_all s w })
begun_is s w b none = ap (λ (log : List Logged). begun log) (first_log s w b none)

-- ---- the image that it finds

-- logs with another log of the engine
with_engine : List Logged → Logs → Logs
with_engine log logs zero = log
with_engine log logs (suc unit) = logs (suc unit)

pub found_is : (i : Image) (w : World) (b : Beginning) → IsLegal i w → log_of w 0 ≡ [] → found_image i (log_of (after_begin i.shape b w)) ≡ media i (log_of w)
unfolding with_engine
found_is i w b legal none =
    let new : Logs = log_of (after_begin i.shape b w) in
    let cut : Logs = cut_logs (knows_all i.shape w) new in
    ap (found_by i new) (begun_is i.shape w b none) ∙ ap (media i) (fun_same cut (with_engine (cut 0) (log_of w)) go)
  where
    go : (author : ℕ) → cut_logs (knows_all i.shape w) (log_of (after_begin i.shape b w)) author ≡ with_engine
        (cut_logs (knows_all i.shape w) (log_of (after_begin i.shape b w)) 0) (log_of w) author
    go zero = refl
    go (suc unit) =
        ap (take (slice_index (knows_all i.shape w) (suc unit))) (ap (λ (logs : Logs). logs (suc unit)) (engine_logs i.shape (Begin b) w))
        ∙ ap (λ n. take n (log_of w (suc unit))) (known_whole i w legal (suc unit)) ∙ take-length (log_of w (suc unit))

-- ---- nothing is under way

none_ended : (log : List Logged) → ((l : Logged) → Contains log l → knows_engine l ≡ 0) → ended_stripes log ≡ 0
none_ended [] early = refl
none_ended (l ∷ log) early =
    let first : knows_engine l ≡ 0 = early l (0, omega arith, refl) in
    let not : ends_stripe l ≡ false = ap (λ n. nat_lt 0 n && option_map_or ends_program (unit_event_of l.event) false) first in
    ap (λ b. length (cond b (l ∷ filter ends_stripe log) (filter ends_stripe log))) not
    ∙ none_ended log (λ m has. early m (suc has.0, (let inside : has.0 < length log = has.1 in omega arith), has.2))

none_level : (i : Image) (w : World) → IsLegal i w → log_of w 0 ≡ [] → IsLevel w
none_level i w legal none unit =
    none_ended (log_of w (suc unit)) (λ l has.
    let low : known l 0 ≤ length (log_of w 0) = known_within i w (suc unit) 0 l legal has in
    let count : length (log_of w 0) ≡ 0 = ap (λ (log : List Logged). length log) none in
    omega arith)
    ∙ sym (ap (λ (log : List Logged). length (answers log unit)) none)

pub begins_level : (i : Image) (w : World) (b : Beginning) → IsLegal i w → log_of w 0 ≡ [] → IsLevel (after_begin i.shape b w)
begins_level i w b legal none = level_by i.shape (Begin b) w (λ unit. refl) (none_level i w legal none)

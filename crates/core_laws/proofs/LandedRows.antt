-- What stays in the table where a stripe has landed, and with the other events.
use Rattle.std.proofs.Common.{◌≡◌, ◌≢◌, ℕ, ◌&&◌, not, true, Some, None, Option, List, [], ◌∷◌, ◌++◌, length, refl, ap, ap₂, ◌∙◌, append-nil}
use Rattle.std.specs.Prelude.{if◌then◌else◌, map, slice_get, slice_set}
use Rattle.std.specs.List.{filter, filter_map, cons_option, find, list_all, enumerate_from}
use Rattle.std.specs.Option.{option_map, option_map_or, option_and_then, option_to_list}
use Rattle.std.proofs.lemmas.List.Elements.{filter_map-append}
use Rattle.std.proofs.lemmas.List.Sums.{fold-append}
use Rattle.pblk_model.specs.declared.shape.Shape.{Shape}
use Rattle.pblk_model.specs.Chunk.{Chunk}
use Rattle.pblk_model.specs.UnitLog.{UnitEvent, after_outcome, after_event, after_log}
use Rattle.pblk_model.specs.Image.{Image, is_online_in}
use Rattle.pblk_model.specs.Records.{Record}
use Rattle.pblk_model.specs.Contents.{counted, winner}
use Rattle.pblk_world.specs.Events.{EngineEvent, Decides, Logged}
use Rattle.pblk_world.specs.World.{Logs}
use Rattle.pblk_world.specs.EngineLog.{LineLife, AsFound, Opened, Freed, life_of, is_life, is_as_found, Placed, placements, answer_by, was_lost, has_landed, holds_position, Taken, taken_by, takes, begun_by}
use Rattle.pblk_world.specs.Lines.{found_image, told_by, told_events, known_image, chunks_of, is_empty_state}
use Rattle.pblk_world.specs.Victims.{is_in_force, line_of_position, line_of_winner, line_of, landed_line, landed_line_of}
use Rattle.core_laws.specs.Stepping.{after}
use Rattle.core_laws.proofs.TakenSlots.{find_same, landed_same}
use Rattle.core_laws.proofs.Steady.{AreAlike}
use Rattle.core_laws.specs.OpenAddresses.{keeps_addresses}
use Rattle.core_laws.proofs.KeptStripes.{with_event, KeepsStripes, stripes_kept, also_stripes, lives_kept, alike_kept}
use Rattle.core_laws.proofs.KeptRows.{KeepsChunks, KeepsLines}
use Rattle.core_laws.proofs.SteppingLemmas.{found_kept}
use Rattle.pblk_model.proofs.Maps.{one_more}
use Rattle.pblk_model.proofs.Parts.{get_set_other}
use Rattle.pblk_world.proofs.EngineLogLemmas.{takes_more}

-- ---- entries stay where they are

pub force_kept : (log new : List Logged) → ((line : ℕ) → life_of new line ≡ life_of log line) → (life : LineLife) (line : ℕ)
    → is_in_force new life line ≡ is_in_force log life line
force_kept log new lives AsFound line = refl
force_kept log new lives (Opened o) line = ap (is_life o.number) (lives line)
force_kept log new lives (Freed past knows) line = refl

position_kept : (s : Shape) (log new : List Logged) → KeepsStripes log new → ((line : ℕ) → life_of new line ≡ life_of log line) → (position : ℕ)
    → line_of_position s new position ≡ line_of_position s log position
position_kept s log new kept lives position =
    ap (λ ps. option_map (λ (p : Placed). p.stripe.line)
    (find (λ (p : Placed). holds_position s position p && not (was_lost new p) && is_in_force new p.life p.stripe.line) ps)) kept.placements
    ∙ ap (option_map (λ (p : Placed). p.stripe.line))
    (find_same (λ (p : Placed). holds_position s position p && not (was_lost new p) && is_in_force new p.life p.stripe.line)
    (λ (p : Placed). holds_position s position p && not (was_lost log p) && is_in_force log p.life p.stripe.line)
    (λ p. ap₂ (λ a b. holds_position s position p && not a && b) (kept.losses p) (force_kept log new lives p.life p.stripe.line)) (placements log))

pub winner_kept : (i : Image) (logs new : Logs) → found_image i new ≡ found_image i logs → ((line : ℕ) → life_of (new 0) line ≡ life_of (logs 0) line)
    → (lba : ℕ) → line_of_winner i new lba ≡ line_of_winner i logs lba
winner_kept i logs new found lives lba =
    ap (λ (f : Image). option_and_then (λ (r : Record). if is_as_found (life_of (new 0) r.line) then Some r.line else None) (winner (counted f) lba)) found
    ∙ go (winner (counted (found_image i logs)) lba)
  where
    go : (o : Option Record) → option_and_then (λ (r : Record). if is_as_found (life_of (new 0) r.line) then Some r.line else None) o ≡ option_and_then
        (λ (r : Record). if is_as_found (life_of (logs 0) r.line) then Some r.line else None) o
    go None = refl
    go (Some r) = ap (λ (l : LineLife). if is_as_found l then Some r.line else None) (lives r.line)

pub line_of_kept : (i : Image) (logs : Logs) (e : EngineEvent) (knows : List ℕ) → keeps_addresses e ≡ true → begun_by knows (Decides e) ≡ None
    → (lba : ℕ) (t : Option Taken)
    → line_of i (after logs e knows) lba t ≡ line_of i logs lba t
line_of_kept i logs e knows keeps none lba None =
    winner_kept i logs (after logs e knows) (found_kept i logs e knows none) (λ line. lives_kept (logs 0) e knows line keeps) lba
line_of_kept i logs e knows keeps none lba (Some t) =
    position_kept i.shape (logs 0) (after logs e knows 0) (stripes_kept (logs 0) e knows (also_stripes e keeps))
    (λ line. lives_kept (logs 0) e knows line keeps) t.entry.position

-- nor is anything answered
landed_kept : (s : Shape) (log new : List Logged) → AreAlike log new → ((line : ℕ) → life_of new line ≡ life_of log line) → (position : ℕ)
    → landed_line s new position ≡ landed_line s log position
landed_kept s log new alike lives position =
    ap (λ ps. option_map (λ (p : Placed). p.stripe.line)
    (find (λ (p : Placed). holds_position s position p && has_landed new p && is_in_force new p.life p.stripe.line) ps)) alike.placements
    ∙ ap (option_map (λ (p : Placed). p.stripe.line))
    (find_same (λ (p : Placed). holds_position s position p && has_landed new p && is_in_force new p.life p.stripe.line)
    (λ (p : Placed). holds_position s position p && has_landed log p && is_in_force log p.life p.stripe.line)
    (λ p. ap₂ (λ a b. holds_position s position p && a && b) (landed_same log new alike p) (force_kept log new lives p.life p.stripe.line)) (placements log))

pub landed_of_kept : (i : Image) (logs : Logs) (e : EngineEvent) (knows : List ℕ) → keeps_addresses e ≡ true → begun_by knows (Decides e) ≡ None
    → ((unit : ℕ) → answer_by unit (Decides e) ≡ None) → (lba : ℕ) (t : Option Taken)
    → landed_line_of i (after logs e knows) lba t ≡ landed_line_of i logs lba t
landed_of_kept i logs e knows keeps none unanswered lba None =
    winner_kept i logs (after logs e knows) (found_kept i logs e knows none) (λ line. lives_kept (logs 0) e knows line keeps) lba
landed_of_kept i logs e knows keeps none unanswered lba (Some t) =
    landed_kept i.shape (logs 0) (after logs e knows 0) (alike_kept (logs 0) e knows (also_stripes e keeps) unanswered)
    (λ line. lives_kept (logs 0) e knows line keeps) t.entry.position

pub none_taken : (log : List Logged) (e : EngineEvent) (knows : List ℕ) → taken_by (Decides e) ≡ None → takes (with_event log e knows) ≡ takes log
none_taken log e knows none = takes_more log (record { event = Decides e; knows = knows }) ∙ ap (λ o. takes log ++ option_to_list o) none
    ∙ append-nil (takes log)

pub lines_kept : (i : Image) (logs : Logs) (e : EngineEvent) (knows : List ℕ) → keeps_addresses e ≡ true → begun_by knows (Decides e) ≡ None
    → taken_by (Decides e) ≡ None → ((unit : ℕ) → answer_by unit (Decides e) ≡ None)
    → KeepsLines i logs (after logs e knows)
lines_kept i logs e knows keeps none untaken unanswered = record {
  takes = none_taken (logs 0) e knows untaken;
  line_of = λ lba t. line_of_kept i logs e knows keeps none lba t;
  landed = λ lba t. landed_of_kept i logs e knows keeps none unanswered lba t;
}

-- ---- the chunks of the other lines

pub event_beside : (s : Shape) (chunks : List Chunk) (e : UnitEvent) (m : ℕ) → m ≢ e.chunk → slice_get (after_event s chunks e) m ≡ slice_get chunks m
event_beside s chunks e m other = go (slice_get chunks e.chunk)
  where
    go : (o : Option Chunk) → slice_get (option_map_or (λ (c : Chunk). slice_set chunks e.chunk (after_outcome s c e.command e.outcome)) o chunks) m ≡ slice_get
        chunks m
    go None = refl
    go (Some c) = get_set_other chunks e.chunk m (after_outcome s c e.command e.outcome) other

log_beside : (s : Shape) (chunks : List Chunk) (log : List UnitEvent) (o : Option UnitEvent) (m : ℕ) → ((e : UnitEvent) → o ≡ Some e → m ≢ e.chunk)
    → slice_get (after_log s chunks (log ++ option_to_list o)) m ≡ slice_get (after_log s chunks log) m
log_beside s chunks log None m other = ap (λ xs. slice_get (after_log s chunks xs) m) (append-nil log)
log_beside s chunks log (Some e) m other =
    ap (λ cs. slice_get cs m) (fold-append (after_event s) chunks log (e ∷ [])) ∙ event_beside s (after_log s chunks log) e m (other e refl)

pub told_more : (logs : Logs) (e : EngineEvent) (knows : List ℕ) (unit : ℕ)
    → told_events (after logs e knows) unit ≡ told_events logs unit ++ option_to_list (told_by logs unit (Decides e))
told_more logs e knows unit =
    filter_map-append (λ (l : Logged). told_by logs unit l.event) (logs 0) (record { event = Decides e; knows = knows } ∷ [])
    ∙ ap (λ xs. filter_map (λ (l : Logged). told_by logs unit l.event) (logs 0) ++ xs) (one_more (told_by logs unit (Decides e)))

made_same : {X : Type 0} (f g : X → List Chunk) (m : ℕ) → ((x : X) → slice_get (f x) m ≡ slice_get (g x) m) → (xs : List X)
    → filter_map (λ unit. slice_get unit m) (map f xs) ≡ filter_map (λ unit. slice_get unit m) (map g xs)
made_same f g m same [] = refl
made_same f g m same (x ∷ xs) = ap₂ (λ o ys. cons_option o ys) (same x) (made_same f g m same xs)

pub chunks_beside : (i : Image) (logs : Logs) (e : EngineEvent) (knows : List ℕ) (m : ℕ) → begun_by knows (Decides e) ≡ None
    → ((unit : ℕ) (u : UnitEvent) → told_by logs unit (Decides e) ≡ Some u → m ≢ u.chunk)
    → chunks_of (known_image i (after logs e knows)) m ≡ chunks_of (known_image i logs) m
chunks_beside i logs e knows m none beside =
    let new : Logs = after logs e knows in
    ap (λ (j : Image). filter_map (λ unit. slice_get unit m) (map (λ unit. after_log i.shape unit.1 (told_events new unit.0)) (enumerate_from 0 j.units)))
    (found_kept i logs e knows none)
    ∙ made_same (λ unit. after_log i.shape unit.1 (told_events new unit.0)) (λ unit. after_log i.shape unit.1 (told_events logs unit.0)) m
    (λ unit. ap (λ xs. slice_get (after_log i.shape unit.1 xs) m) (told_more logs e knows unit.0)
    ∙ log_beside i.shape unit.1 (told_events logs unit.0) (told_by logs unit.0 (Decides e)) m (beside unit.0)) (enumerate_from 0 (found_image i logs).units)

pub keeps_chunks : (i : Image) (logs : Logs) (e : EngineEvent) (knows : List ℕ) (m : ℕ) → begun_by knows (Decides e) ≡ None
    → ((unit : ℕ) (u : UnitEvent) → told_by logs unit (Decides e) ≡ Some u → m ≢ u.chunk)
    → KeepsChunks i logs (after logs e knows) m
keeps_chunks i logs e knows m none beside =
    let same : chunks_of (known_image i (after logs e knows)) m ≡ chunks_of (known_image i logs) m = chunks_beside i logs e knows m none beside in
    record {
      found = found_kept i logs e knows none;
      empty = ap (list_all (λ (c : Chunk). is_empty_state c.state)) same;
      wide = ap (λ cs. length (filter (λ (c : Chunk). is_online_in c.state) cs)) same;
    }

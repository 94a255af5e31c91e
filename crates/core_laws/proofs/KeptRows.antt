-- What the parts of a row are by.
use Rattle.std.proofs.Common.{◌≡◌, ℕ, ◌==◌, ◌&&◌, nat_lt, Some, None, Option, List, [], ◌∷◌, ◌++◌, length, refl, ap, ap₂, ◌∙◌, append-nil}
use Rattle.std.specs.Prelude.{if◌then◌else◌, ⊤, map, slice_index}
use Rattle.std.specs.List.{filter, filter_map, last_or, range_with_len, cons_option, enumerate_from}
use Rattle.std.specs.Option.{option_map, is_some}
use Rattle.std.proofs.lemmas.List.Elements.{filter_map-append}
use Rattle.pblk_model.specs.LineOrder.{data_len}
use Rattle.pblk_model.specs.UnitLog.{after_log}
use Rattle.pblk_model.specs.Image.{Image, width}
use Rattle.pblk_model.specs.StartRecord.{StartRecord, start_of}
use Rattle.pblk_model.specs.EndRecord.{end_of}
use Rattle.pblk_model.specs.Contents.{is_of}
use Rattle.pblk_world.specs.Events.{EngineEvent, Free, Decides, Logged}
use Rattle.pblk_world.specs.World.{Logs}
use Rattle.pblk_world.specs.EngineLog.{begun, begun_by, LineLife, AsFound, Opened, Freed, life_of, Opening, Taken, takes}
use Rattle.pblk_world.specs.Fronts.{last_take}
use Rattle.pblk_world.specs.Lines.{found_image, told_by, told_events, known_image, are_empty}
use Rattle.pblk_world.specs.Victims.{line_of, is_live_in, live, landed_line_of, took_from, take_before}
use Rattle.line_table.specs.declared.row.LineState.{LineState}
use Rattle.line_table.specs.declared.row.LineState.TheVariants.{Free, Full, Failed, Dead}
use Rattle.line_table.specs.declared.row.LineState.TheVariants as states
use Rattle.line_table.specs.declared.row.Row.{Row}
use Rattle.core_laws.specs.Stepping.{after}
use Rattle.core_laws.specs.InOrder.{FreedBefore}
use Rattle.core_laws.specs.RowsOf.{logs_then, state_found, state_in, width_in, taker_by, taker_in, row_of_line}
use Rattle.core_laws.proofs.Engine.{prefix_same}
use Rattle.core_laws.proofs.KeptStripes.{with_event}
use Rattle.core_laws.proofs.SteppingLemmas.{found_kept}
use Rattle.pblk_model.proofs.Maps.{filter_same, map_same}

-- ---- images

pub begun_kept : (log : List Logged) (e : EngineEvent) (knows : List ℕ) → begun_by knows (Decides e) ≡ None → begun (with_event log e knows) ≡ begun log
begun_kept [] e knows none = none
begun_kept (l ∷ log) e knows none = refl

-- the event tells of no program that landed or was lost, and of no reset
pub told_kept : (logs : Logs) (e : EngineEvent) (knows : List ℕ) (unit : ℕ) → told_by logs unit (Decides e) ≡ None
    → told_events (after logs e knows) unit ≡ told_events logs unit
told_kept logs e knows unit none =
    filter_map-append (λ (l : Logged). told_by logs unit l.event) (logs 0) (record { event = Decides e; knows = knows } ∷ [])
    ∙ ap (λ o. filter_map (λ (l : Logged). told_by logs unit l.event) (logs 0) ++ cons_option o []) none
    ∙ append-nil (filter_map (λ (l : Logged). told_by logs unit l.event) (logs 0))

pub known_kept : (i : Image) (logs : Logs) (e : EngineEvent) (knows : List ℕ) → begun_by knows (Decides e) ≡ None
    → ((unit : ℕ) → told_by logs unit (Decides e) ≡ None)
    → known_image i (after logs e knows) ≡ known_image i logs
known_kept i logs e knows none untold =
    let new : Logs = after logs e knows in
    let same : map (λ unit. after_log i.shape unit.1 (told_events new unit.0)) (enumerate_from 0 (found_image i new).units)
    ≡ map (λ unit. after_log i.shape unit.1 (told_events logs unit.0)) (enumerate_from 0 (found_image i logs).units) =
    ap (λ (j : Image). map (λ unit. after_log i.shape unit.1 (told_events new unit.0)) (enumerate_from 0 j.units)) (found_kept i logs e knows none)
    ∙ map_same (λ unit. after_log i.shape unit.1 (told_events new unit.0)) (λ unit. after_log i.shape unit.1 (told_events logs unit.0))
    (λ unit. ap (after_log i.shape unit.1) (told_kept logs e knows unit.0 (untold unit.0))) (enumerate_from 0 (found_image i logs).units) in
    λ k. record { shape = i.shape; units = same k }

-- ---- parts of a row

-- the line's chunks are as empty and as many as they were
pub record KeepsChunks (i : Image) (logs new : Logs) (line : ℕ) : Type 0 where
  pub found : found_image i new ≡ found_image i logs
  pub empty : are_empty (known_image i new) line ≡ are_empty (known_image i logs) line
  pub wide : width (known_image i new) line ≡ width (known_image i logs) line

state_found_same : (i : Image) (logs new : Logs) (line : ℕ) → KeepsChunks i logs new line → (o : Option StartRecord)
    → state_found i new line o ≡ state_found i logs line o
state_found_same i logs new line keeps None = ap₂ (λ b g. if b then (if data_len i.shape g == 0 then Dead else Free) else states.Freed) keeps.empty keeps.wide
state_found_same i logs new line keeps (Some start) = ap (λ (f : Image). if is_some (end_of f line start) then Full else Failed) keeps.found

-- A line that was freed has the width, and what had taken sectors from it, of the moment at which
-- it was.
abbrev pub KeepsThen : Image → Logs → Logs → ℕ → LineLife → Type 0
KeepsThen i logs new line AsFound = ⊤
KeepsThen i logs new line (Opened o) = ⊤
KeepsThen i logs new line (Freed past knows) =
    (width (known_image i (logs_then knows new)) line ≡ width (known_image i (logs_then knows logs)) line)
    × (taker_by i (logs_then knows new) line ≡ taker_by i (logs_then knows logs) line)

-- a further event of the engine changes nothing of earlier moments
pub then_kept : (i : Image) (logs : Logs) (e : EngineEvent) (knows : List ℕ) (line : ℕ) → FreedBefore (logs 0)
    → KeepsThen i logs (after logs e knows) line (life_of (logs 0) line)
then_kept i logs e knows line before = go (life_of (logs 0) line) refl
  where
    go : (life : LineLife) → life_of (logs 0) line ≡ life → KeepsThen i logs (after logs e knows) line life
    go AsFound is = tt
    go (Opened o) is = tt
    go (Freed past ks) is =
        let same : logs_then ks (after logs e knows) ≡ logs_then ks logs = prefix_same logs e knows (slice_index ks 0) (before line past ks is) in
        (ap (λ (ls : Logs). width (known_image i ls) line) same, ap (λ (ls : Logs). taker_by i ls line) same)

pub state_same : (i : Image) (logs new : Logs) (line : ℕ) (life : LineLife) → KeepsChunks i logs new line
    → ((o : Opening) → life ≡ Opened o → state_in i new line (Opened o) ≡ state_in i logs line (Opened o))
    → state_in i new line life ≡ state_in i logs line life
state_same i logs new line AsFound keeps opened =
    ap (λ (f : Image). state_found i new line (start_of f line)) keeps.found ∙ state_found_same i logs new line keeps (start_of (found_image i logs) line)
state_same i logs new line (Opened o) keeps opened = opened o refl
state_same i logs new line (Freed past knows) keeps opened = state_found_same i logs new line keeps None

pub width_same : (i : Image) (logs new : Logs) (line : ℕ) (life : LineLife) → KeepsChunks i logs new line → KeepsThen i logs new line life
    → width_in i new line life ≡ width_in i logs line life
width_same i logs new line AsFound keeps then_ =
    (λ k. if keeps.empty k then keeps.wide k else width (keeps.found k) line)
width_same i logs new line (Opened o) keeps then_ = refl
width_same i logs new line (Freed past knows) keeps then_ =
    (λ k. if keeps.empty k then keeps.wide k else then_.0 k)

-- where each sector's entries are
pub live_same : (i : Image) (logs new : Logs) (line : ℕ) → ((lba : ℕ) → is_live_in i new line lba ≡ is_live_in i logs line lba)
    → live i new line ≡ live i logs line
live_same i logs new line same = ap length (filter_same (is_live_in i new line) (is_live_in i logs line) same (range_with_len 0 i.shape.capacity))

pub taker_same : (i : Image) (logs new : Logs) (line : ℕ) (life : LineLife) → KeepsThen i logs new line life → taker_by i new line ≡ taker_by i logs line
    → taker_in i new line life ≡ taker_in i logs line life
taker_same i logs new line AsFound then_ same = same
taker_same i logs new line (Opened o) then_ same = same
taker_same i logs new line (Freed past knows) then_ same = then_.1

-- nothing was taken, what was is in the same lines, and what has landed has landed in the same ones
pub record KeepsLines (i : Image) (logs new : Logs) : Type 0 where
  pub takes : takes (new 0) ≡ takes (logs 0)
  pub line_of : (lba : ℕ) (t : Option Taken) → line_of i new lba t ≡ line_of i logs lba t
  pub landed : (lba : ℕ) (t : Option Taken) → landed_line_of i new lba t ≡ landed_line_of i logs lba t

pub live_by : (i : Image) (logs new : Logs) (line : ℕ) → takes (new 0) ≡ takes (logs 0)
    → ((lba : ℕ) (t : Option Taken) → line_of i new lba t ≡ line_of i logs lba t) → live i new line ≡ live i logs line
live_by i logs new line same places = live_same i logs new line (λ lba.
    ap (λ (ts : List Taken). is_of line (line_of i new lba (last_or None (filter (λ (t : Taken). t.mark.lba == lba) ts)))) same
    ∙ ap (is_of line) (places lba (last_take (logs 0) lba)))

pub live_kept : (i : Image) (logs new : Logs) (line : ℕ) → KeepsLines i logs new → live i new line ≡ live i logs line
live_kept i logs new line keeps = live_by i logs new line keeps.takes keeps.line_of

took_same : (i : Image) (logs new : Logs) (line : ℕ) → KeepsLines i logs new → (t : Taken) → took_from i new line t ≡ took_from i logs line t
took_same i logs new line keeps t = ap (λ b. nat_lt t.mark.lba i.shape.capacity && b)
    (ap (λ (ts : List Taken). is_of line
    (landed_line_of i new t.mark.lba (last_or None (filter (λ (u : Taken). (u.mark.lba == t.mark.lba) && nat_lt u.entry.position t.entry.position) ts))))
    keeps.takes
    ∙ ap (is_of line) (keeps.landed t.mark.lba (take_before (logs 0) t)))

pub taker_kept : (i : Image) (logs new : Logs) (line : ℕ) → KeepsLines i logs new → taker_by i new line ≡ taker_by i logs line
taker_kept i logs new line keeps =
    ap (λ (ts : List Taken). option_map (λ (t : Taken). t.entry.position) (last_or None ts))
    (filter_same (took_from i new line) (took_from i logs line) (took_same i logs new line keeps) (takes (new 0))
    ∙ ap (filter (took_from i logs line)) keeps.takes)

abbrev pub row_parts : LineState → ℕ → ℕ → Option ℕ → Row
row_parts state wide sectors taker = record { state = state; width = wide; live = sectors; taker = taker }

pub same_row : (a b : LineState) (m n p q : ℕ) (s t : Option ℕ) → a ≡ b → m ≡ n → p ≡ q → s ≡ t → row_parts a m p s ≡ row_parts b n q t
same_row a b m n p q s t e f g h = λ k. row_parts (e k) (f k) (g k) (h k)

-- a line whose life, chunks and entries are as they were
pub row_kept : (i : Image) (logs new : Logs) (line : ℕ) → life_of (new 0) line ≡ life_of (logs 0) line → KeepsThen i logs new line (life_of (logs 0) line)
    → KeepsChunks i logs new line
    → KeepsLines i logs new → ((o : Opening) → life_of (logs 0) line ≡ Opened o → state_in i new line (Opened o) ≡ state_in i logs line (Opened o))
    → row_of_line i new line ≡ row_of_line i logs line
row_kept i logs new line life then_ chunks lines opened =
    let now : LineLife = life_of (logs 0) line in
    same_row (state_in i new line (life_of (new 0) line)) (state_in i logs line now) (width_in i new line (life_of (new 0) line)) (width_in i logs line now)
    (live i new line) (live i logs line) (taker_in i new line (life_of (new 0) line)) (taker_in i logs line now)
    (ap (state_in i new line) life ∙ state_same i logs new line now chunks opened)
    (ap (width_in i new line) life ∙ width_same i logs new line now chunks then_)
    (live_kept i logs new line lines)
    (ap (taker_in i new line) life ∙ taker_same i logs new line now then_ (taker_kept i logs new line lines))

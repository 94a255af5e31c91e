-- What a target's tables hold of lines, the map and the placer, by what the engine was told.
use Rattle.std.proofs.Common.{◌≡◌, ℕ, ◌+◌, ◌-◌, ◌*◌, Bool, Some, None, Option, List, refl, ap, ap₂, ◌∙◌, map}
use Rattle.std.specs.Prelude.{slice_index}
use Rattle.std.specs.List.{find, filter, range_with_len}
use Rattle.std.specs.Option.{option_map_or, unwrap_or}
use Rattle.pblk_model.specs.Shape.{units}
use Rattle.pblk_model.specs.Image.{Image, line_units, width}
use Rattle.pblk_model.specs.Contents.{counted, winner}
use Rattle.pblk_world.specs.Events.{Logged}
use Rattle.pblk_world.specs.World.{Logs}
use Rattle.pblk_world.specs.EngineLog.{LineLife, AsFound, Opened, Freed, life_of, Opening, Taken, Placed, placements}
use Rattle.pblk_world.specs.Fronts.{last_take}
use Rattle.pblk_world.specs.Space.{gives_back}
use Rattle.pblk_world.specs.Victims.{engine_prefix}
use Rattle.stripe_placer.specs.OpenLines.{OpenLine, opened, has_left}
use Rattle.stripe_placer.specs.Placing.{Placing, UnitRow}
use Rattle.stripe_placer.specs.Placing.UnitRow.{Idle}
use Rattle.l2p_map.specs.declared.slot.Slot.TheVariants.{Cached, Media}
use Rattle.world_laws.specs.SameTold.{AreSameTold}
use Rattle.world_laws.proofs.ToldImages.{image_same, told_then}
use Rattle.core_laws.specs.KnownLogs.{AreKnown}
use Rattle.core_laws.specs.OpenedLines.{bits_of, online_now, opened_units, as_opened, with_outcomes, open_line, standing, open_lines}
use Rattle.core_laws.specs.PlacerOf.{entries_of, unanswered_on, waits_again, row_of_program, program_of_stripe, row_in, unit_row_in, number_of, placing_of}
use Rattle.core_laws.specs.RowsOf.{logs_then, rows_of}
use Rattle.core_laws.specs.SlotOf.{address_in, readable_block, media_of, slot_of_winner, slot_by, slot_of_entry, slot_of}
use Rattle.core_laws.specs.LeftOpenings.{left_openings}
use Rattle.core_laws.proofs.KeptRows.{KeepsThen, taker_kept}
use Rattle.core_laws.proofs.KnownLines.{lines_known, rows_known}
use Rattle.pblk_model.proofs.Maps.{filter_same, map_same}

pub known_told : (i : Image) (a b : Logs) → AreSameTold i a b → AreKnown i a b
known_told i a b h = record { own = h.own; found = h.found; image = image_same i a b h }

-- ---- lines

-- how a line was when it was freed
then_told : (i : Image) (a b : Logs) → AreSameTold i a b → (line : ℕ) (life : LineLife) → KeepsThen i a b line life
then_told i a b h line AsFound = tt
then_told i a b h line (Opened o) = tt
then_told i a b h line (Freed past knows) =
    let was : AreSameTold i (logs_then knows a) (logs_then knows b) = told_then i a b (slice_index knows 0) h in (
      ap (λ (j : Image). width j line) (image_same i (logs_then knows a) (logs_then knows b) was),
      taker_kept i (logs_then knows a) (logs_then knows b) line
          (lines_known i (logs_then knows a) (logs_then knows b) (known_told i (logs_then knows a) (logs_then knows b) was)),
    )

pub rows_told : (i : Image) (a b : Logs) → AreSameTold i a b → rows_of i b ≡ rows_of i a
rows_told i a b h = rows_known i a b (known_told i a b h) (λ line. then_told i a b h line (life_of (a 0) line))

pub online_told : (i : Image) (a b : Logs) → AreSameTold i a b → (line : ℕ) → online_now i b line ≡ online_now i a line
online_told i a b h line = ap (λ (j : Image). bits_of (line_units j line)) (image_same i a b h)

pub units_told : (i : Image) (a b : Logs) → AreSameTold i a b → (o : Opening) → opened_units i b o ≡ opened_units i a o
units_told i a b h o =
    ap (λ (j : Image). line_units j o.line) (image_same i (engine_prefix o.number a) (engine_prefix o.number b) (told_then i a b o.number h))

opened_told : (i : Image) (a b : Logs) → AreSameTold i a b → (o : Opening) → as_opened i b o ≡ as_opened i a o
opened_told i a b h o = ap (λ us. opened i.shape o.line (bits_of us)) (units_told i a b h o)

pub line_told : (i : Image) (a b : Logs) → AreSameTold i a b → (o : Opening) → open_line i b o ≡ open_line i a o
line_told i a b h o = ap₂ (λ (log : List Logged) (l : OpenLine). with_outcomes i.shape log o l) h.own (opened_told i a b h o)

pub left_told : (i : Image) (a b : Logs) → AreSameTold i a b → left_openings i b ≡ left_openings i a
left_told i a b h =
    ap (λ (log : List Logged). filter (λ (o : Opening). has_left (open_line i b o)) (standing log)) h.own
    ∙ filter_same (λ (o : Opening). has_left (open_line i b o)) (λ (o : Opening). has_left (open_line i a o)) (λ o. ap has_left (line_told i a b h o))
    (standing (a 0))

pub lines_told : (i : Image) (a b : Logs) → AreSameTold i a b → open_lines i b ≡ open_lines i a
lines_told i a b h =
    ap (λ (log : List Logged). filter has_left (map (open_line i b) (standing log))) h.own
    ∙ ap (filter has_left) (map_same (open_line i b) (open_line i a) (line_told i a b h) (standing (a 0)))

-- ---- the map

address_told : (i : Image) (a b : Logs) → AreSameTold i a b → (life : LineLife) (p : Placed) (block : ℕ)
    → address_in i b life p block ≡ address_in i a life p block
address_told i a b h AsFound p block = refl
address_told i a b h (Opened o) p block =
    ap (λ (l : OpenLine). number_of i.shape l p.stripe * i.shape.ws_opt + (block - p.stripe.at)) (opened_told i a b h o)
address_told i a b h (Freed past knows) p block = refl

media_told : (i : Image) (a b : Logs) → AreSameTold i a b → (position : ℕ) (p : Placed) → media_of i b position p ≡ media_of i a position p
media_told i a b h position p =
    ap (λ (log : List Logged). Media p.stripe.line (address_in i b p.life p (unwrap_or (readable_block i (λ author. log) position p) 0)) position) h.own
    ∙ ap (λ at. Media p.stripe.line at position) (address_told i a b h p.life p (unwrap_or (readable_block i a position p) 0))

placed_told : (i : Image) (a b : Logs) → AreSameTold i a b → (position : ℕ) (o : Option Placed)
    → option_map_or (media_of i b position) o (Cached position) ≡ option_map_or (media_of i a position) o (Cached position)
placed_told i a b h position None = refl
placed_told i a b h position (Some p) = media_told i a b h position p

entry_told : (i : Image) (a b : Logs) → AreSameTold i a b → (position : ℕ) → slot_of_entry i b position ≡ slot_of_entry i a position
entry_told i a b h position =
    ap (λ (log : List Logged). option_map_or (media_of i b position) (find (gives_back i.shape log position) (placements log)) (Cached position)) h.own
    ∙ placed_told i a b h position (find (gives_back i.shape (a 0) position) (placements (a 0)))

slot_by_told : (i : Image) (a b : Logs) → AreSameTold i a b → (lba : ℕ) (t : Option Taken) → slot_by i b lba t ≡ slot_by i a lba t
slot_by_told i a b h lba None = ap (λ (f : Image). slot_of_winner (winner (counted f) lba)) h.found
slot_by_told i a b h lba (Some t) = entry_told i a b h t.entry.position

pub slot_told : (i : Image) (a b : Logs) → AreSameTold i a b → (lba : ℕ) → slot_of i b lba ≡ slot_of i a lba
slot_told i a b h lba =
    ap (λ (log : List Logged). slot_by i b lba (last_take log lba)) h.own ∙ slot_by_told i a b h lba (last_take (a 0) lba)

-- ---- the placer

row_told : (i : Image) (a b : Logs) → AreSameTold i a b → (stopped : Bool) (life : LineLife) (p : Placed)
    → row_in i b stopped life p ≡ row_in i a stopped life p
row_told i a b h stopped AsFound p = refl
row_told i a b h stopped (Opened o) p =
    ap (λ (l : OpenLine). row_of_program stopped (program_of_stripe i.shape l p.stripe))
    (line_told i (engine_prefix p.number a) (engine_prefix p.number b) (told_then i a b p.number h) o)
row_told i a b h stopped (Freed past knows) p = refl

placed_row_told : (i : Image) (a b : Logs) → AreSameTold i a b → (stopped : Bool) (o : Option Placed)
    → option_map_or (λ (p : Placed). row_in i b stopped p.life p) o Idle ≡ option_map_or (λ (p : Placed). row_in i a stopped p.life p) o Idle
placed_row_told i a b h stopped None = refl
placed_row_told i a b h stopped (Some p) = row_told i a b h stopped p.life p

unit_row_told : (i : Image) (a b : Logs) → AreSameTold i a b → (again : List ℕ) (unit : ℕ) → unit_row_in i b again unit ≡ unit_row_in i a again unit
unit_row_told i a b h again unit =
    ap (λ (log : List Logged). option_map_or (λ (p : Placed). row_in i b (waits_again log again unit) p.life p) (unanswered_on log unit) Idle) h.own
    ∙ placed_row_told i a b h (waits_again (a 0) again unit) (unanswered_on (a 0) unit)

abbrev placing_with : Image → ℕ → List Logged → List UnitRow → List OpenLine → Placing
placing_with i pad log rows lines = record { shape = i.shape; entries = entries_of i.shape log pad; units = rows; lines = lines }

pub placing_told : (i : Image) (a b : Logs) → AreSameTold i a b → (pad : ℕ) (again : List ℕ) → placing_of i b pad again ≡ placing_of i a pad again
placing_told i a b h pad again =
    let rows : map (unit_row_in i b again) (range_with_len 0 (units i.shape)) ≡ map (unit_row_in i a again) (range_with_len 0 (units i.shape)) =
    map_same (unit_row_in i b again) (unit_row_in i a again) (unit_row_told i a b h again) (range_with_len 0 (units i.shape)) in
    λ j. placing_with i pad (h.own j) (rows j) (lines_told i a b h j)

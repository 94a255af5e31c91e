-- What hasn't happened in a mount that has just begun.
use Rattle.std.proofs.Common.{◌≡◌, ℕ, ◌+◌, ◌-◌, ◌==◌, zero, suc, None, Option, List, [], ◌∷◌, refl, ap, ap₂, ◌∙◌, add-zero}
use Rattle.std.specs.Prelude.{map, replicate}
use Rattle.std.specs.List.{filter, list_any, range_with_len}
use Rattle.std.specs.Option.{option_map_or}
use Rattle.std.proofs.Math.Seq.{drop-nil}
use Rattle.pblk_model.specs.declared.found.Found.{Found}
use Rattle.pblk_model.specs.Shape.{units}
use Rattle.pblk_model.specs.Image.{Image}
use Rattle.pblk_model.specs.Contents.{least_missing}
use Rattle.pblk_world.specs.Events.{Logged}
use Rattle.pblk_world.specs.World.{Logs}
use Rattle.pblk_world.specs.EngineLog.{takes, openings, Opening, Placed, life_of}
use Rattle.pblk_world.specs.Fronts.{first_position, taken, synced, user_takes, waiting}
use Rattle.pblk_world.specs.Lines.{strays_of, is_given_up}
use Rattle.pblk_world.specs.Space.{freed, placed_front, unplaced_in, open_addresses}
use Rattle.stripe_placer.specs.OpenLines.{has_left}
use Rattle.stripe_placer.specs.Placing.{UnitRow, nothing_placed}
use Rattle.stripe_placer.specs.Placing.UnitRow.{Idle}
use Rattle.core_laws.specs.OpenedLines.{open_line, open_lines, standing}
use Rattle.core_laws.specs.PlacerOf.{placing_of, entries_of, unit_row_in, row_in, waits_again, unanswered_on}
use Rattle.core_laws.specs.WindowOf.{window_from}
use Rattle.core_laws.proofs.Taking.{same_placing}
use Rattle.core_laws.specs.JustBegun.{HasJustBegun}
use Rattle.core_laws.proofs.MadeLists.{sum_none}
use Rattle.core_laws.proofs.WindowOfLemmas.{same_window}

-- ---- the engine's log alone

pub no_takes : (i : Image) (f : Found) (logs : Logs) → HasJustBegun i f logs → takes (logs 0) ≡ []
no_takes i f logs is = ap takes is.log

pub no_user_takes : (i : Image) (f : Found) (logs : Logs) → HasJustBegun i f logs → user_takes (logs 0) ≡ []
no_user_takes i f logs is = ap user_takes is.log

pub none_waits : (i : Image) (f : Found) (logs : Logs) → HasJustBegun i f logs → waiting i.shape (logs 0) ≡ []
none_waits i f logs is = ap (waiting i.shape) is.log

pub first_is : (i : Image) (f : Found) (logs : Logs) → HasJustBegun i f logs → first_position (logs 0) ≡ f.end
first_is i f logs is = ap first_position is.log

pub taken_is : (i : Image) (f : Found) (logs : Logs) → HasJustBegun i f logs → taken (logs 0) ≡ f.end
taken_is i f logs is = ap taken is.log ∙ add-zero f.end

pub synced_is : (i : Image) (f : Found) (logs : Logs) → HasJustBegun i f logs → synced i.shape (logs 0) ≡ f.end
unfolding least_missing
synced_is i f logs is = ap (synced i.shape) is.log

pub freed_is : (i : Image) (f : Found) (logs : Logs) → HasJustBegun i f logs → freed i.shape (logs 0) ≡ f.end
unfolding least_missing
freed_is i f logs is = ap (freed i.shape) is.log

pub placed_is : (i : Image) (f : Found) (logs : Logs) → HasJustBegun i f logs → placed_front i.shape (logs 0) ≡ f.end
placed_is i f logs is = ap (placed_front i.shape) is.log ∙ add-zero f.end

pub no_openings : (i : Image) (f : Found) (logs : Logs) → HasJustBegun i f logs → openings (logs 0) ≡ []
no_openings i f logs is = ap openings is.log

pub none_stands : (i : Image) (f : Found) (logs : Logs) → HasJustBegun i f logs → standing (logs 0) ≡ []
none_stands i f logs is = ap standing is.log

pub none_unanswered : (i : Image) (f : Found) (logs : Logs) (unit : ℕ) → HasJustBegun i f logs → unanswered_on (logs 0) unit ≡ None
none_unanswered i f logs unit is = ap (λ (xs : List Logged). unanswered_on xs unit) is.log

pub strays_are : (i : Image) (f : Found) (logs : Logs) → HasJustBegun i f logs → strays_of (logs 0) ≡ f.strays
strays_are i f logs is = ap strays_of is.log

pub given_up_are : (i : Image) (f : Found) (logs : Logs) (line : ℕ) → HasJustBegun i f logs
    → is_given_up (logs 0) line ≡ list_any (λ stray. stray == line) f.strays
given_up_are i f logs line is = ap (λ (xs : List Logged). is_given_up xs line) is.log

-- ---- lines

pub no_lines : (i : Image) (f : Found) (logs : Logs) → HasJustBegun i f logs → open_lines i logs ≡ []
no_lines i f logs is = ap (λ (os : List Opening). filter has_left (map (open_line i logs) os)) (none_stands i f logs is)

pub no_addresses : (i : Image) (f : Found) (logs : Logs) → HasJustBegun i f logs → open_addresses i logs ≡ 0
no_addresses i f logs is =
    sum_none (λ line. unplaced_in i.shape (logs 0) (life_of (logs 0) line))
    (λ line. ap (λ (xs : List Logged). unplaced_in i.shape xs (life_of xs line)) is.log) 0 i.shape.chunks

-- ---- the window

pub window_is : (i : Image) (f : Found) (logs : Logs) (from : ℕ) → HasJustBegun i f logs
    → window_from i.shape (logs 0) from ≡ record { freed = from; users = 0; entries = [] }
window_is i f logs from is =
    same_window from (window_from i.shape (logs 0) from).users 0 (window_from i.shape (logs 0) from).entries []
    (ap (λ (xs : List Logged). (window_from i.shape xs from).users) is.log)
    (ap (λ (xs : List Logged). (window_from i.shape xs from).entries) is.log ∙ ap (map _) (drop-nil (from - f.end)))

-- ---- the placer

idle : (i : Image) (f : Found) (logs : Logs) (again : List ℕ) (unit : ℕ) → HasJustBegun i f logs → unit_row_in i logs again unit ≡ Idle
idle i f logs again unit is = ap (λ (o : Option Placed). option_map_or (λ (p : Placed). row_in i logs (waits_again (logs 0) again unit) p.life p) o Idle)
    (none_unanswered i f logs unit is)

idle_rows : (g : ℕ → UnitRow) → ((n : ℕ) → g n ≡ Idle) → (a n : ℕ) → map g (range_with_len a n) ≡ replicate n Idle
idle_rows g each a zero = refl
idle_rows g each a (suc n) = ap₂ (λ x xs. x ∷ xs) (each a) (idle_rows g each (a + 1) n)

pub placing_is : (i : Image) (f : Found) (logs : Logs) (pad : ℕ) (again : List ℕ) → HasJustBegun i f logs
    → placing_of i logs pad again ≡ record (nothing_placed i.shape) { entries = record { lost = []; fresh = []; pad = pad } }
placing_is i f logs pad again is =
    same_placing i.shape (entries_of i.shape (logs 0) pad) (record { lost = []; fresh = []; pad = pad })
    (map (unit_row_in i logs again) (range_with_len 0 (units i.shape))) (replicate (units i.shape) Idle) (open_lines i logs) []
    (ap (λ (xs : List Logged). entries_of i.shape xs pad) is.log) (idle_rows (unit_row_in i logs again) (λ unit. idle i f logs again unit is) 0 (units i.shape))
    (no_lines i f logs is)

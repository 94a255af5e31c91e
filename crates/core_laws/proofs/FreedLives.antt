-- What an event that frees a line leaves of the lives of lines, and that it changes nothing of
-- stripes and entries.
use Rattle.std.proofs.Common.{◌≡◌, ◌≢◌, ℕ, ◌+◌, ◌≤◌, ◌==◌, ◌&&◌, not, nat_eq, Bool, true, false, Option, List, [], ◌∷◌, length, refl, sym, ap, ◌∙◌, arith, if◌then◌else◌, append-nil, length-append}
use Rattle.std.specs.Prelude.{slice_index}
use Rattle.std.proofs.lemmas.Bool.{eqb-true, eqb-false}
use Rattle.pblk_model.specs.declared.shape.Shape.{Shape}
use Rattle.pblk_model.specs.Image.{Image, line_units}
use Rattle.pblk_world.specs.Events.{Decides, Free, Logged}
use Rattle.pblk_world.specs.World.{Logs}
use Rattle.pblk_world.specs.EngineLog.{LineLife, AsFound, Opened, Freed, Opening, is_life, last_opening, life_of, openings}
use Rattle.pblk_world.specs.Lines.{known_image}
use Rattle.pblk_world.specs.Victims.{is_in_force}
use Rattle.pblk_world.proofs.Appending.{life_more, openings_more}
use Rattle.core_laws.specs.OpenedLines.{bits_of, online_now}
use Rattle.core_laws.specs.InOrder.{FreedBefore}
use Rattle.core_laws.specs.SlotOf.{slot_of}
use Rattle.core_laws.specs.Stepping.{after}
use Rattle.core_laws.specs.WindowOf.{window_from}
use Rattle.core_laws.proofs.KeptRows.{known_kept}
use Rattle.core_laws.proofs.KeptStripes.{with_event}
use Rattle.core_laws.proofs.QuietEvents.{IsQuiet, quiet_slot, quiet_window}
use Rattle.pblk_model.proofs.Tests.{other_number, same_number}

-- ---- lives

pub life_freed : (log : List Logged) (line : ℕ) (knows : List ℕ)
    → life_of (with_event log (Free line) knows) line ≡ Freed (last_opening (life_of log line)) knows
life_freed log line knows =
    life_more log (record { event = Decides (Free line); knows = knows }) line
    ∙ ap (λ b. if b then Freed (last_opening (life_of log line)) knows else life_of log line) (same_number line)

pub life_beside : (log : List Logged) (line : ℕ) (knows : List ℕ) (other : ℕ) → other ≢ line
    → life_of (with_event log (Free line) knows) other ≡ life_of log other
life_beside log line knows other apart =
    life_more log (record { event = Decides (Free line); knows = knows }) other
    ∙ ap (λ b. if b then Freed (last_opening (life_of log other)) knows else life_of log other) (other_number line other (λ e. apart (sym e)))

pub openings_freed : (log : List Logged) (line : ℕ) (knows : List ℕ) → openings (with_event log (Free line) knows) ≡ openings log
openings_freed log line knows = openings_more log (record { event = Decides (Free line); knows = knows }) ∙ append-nil (openings log)

-- what freed a line names a part of the log, where it does so for this line
pub named_before : (log : List Logged) (line : ℕ) (knows : List ℕ) → FreedBefore log → slice_index knows 0 ≤ length log
    → FreedBefore (with_event log (Free line) knows)
named_before log line knows before own = λ other past ks is. go other past ks is (nat_eq other line) refl
  where
    longer : length (with_event log (Free line) knows) ≡ length log + 1
    longer = length-append log (record { event = Decides (Free line); knows = knows } ∷ [])

    named : (past was : Option Opening) (ks : List ℕ) → Freed was knows ≡ Freed past ks → slice_index ks 0 ≡ slice_index knows 0
    named past was ks e = cc

    go : (other : ℕ) (past : Option Opening) (ks : List ℕ) → life_of (with_event log (Free line) knows) other ≡ Freed past ks
        → (b : Bool) → nat_eq other line ≡ b → slice_index ks 0 ≤ length (with_event log (Free line) knows)
    go other past ks is true e =
        let same : slice_index ks 0 ≡ slice_index knows 0 =
        named past (last_opening (life_of log line)) ks (sym (life_freed log line knows) ∙ ap (life_of (with_event log (Free line) knows))
        (sym (eqb-true other line e)) ∙ is) in
        omega (arith, longer)
    go other past ks is false e =
        let within : slice_index ks 0 ≤ length log = before other past ks (sym (life_beside log line knows other (eqb-false other line e)) ∙ is) in
        omega (arith, longer)

-- ---- stripes in force

-- those in the line are no longer in force
pub force_freed : (log : List Logged) (line : ℕ) (knows : List ℕ) (life : LineLife) (other : ℕ)
    → is_in_force (with_event log (Free line) knows) life other ≡ (is_in_force log life other && not (other == line))
force_freed log line knows AsFound other = refl
force_freed log line knows (Freed was ks) other = refl
force_freed log line knows (Opened o) other = go (nat_eq other line) refl
  where
    neither : (b : Bool) → (b && false) ≡ false
    neither true = refl
    neither false = refl

    alone : (b : Bool) → b ≡ (b && true)
    alone true = refl
    alone false = refl

    go : (b : Bool) → nat_eq other line ≡ b
        → is_life o.number (life_of (with_event log (Free line) knows) other) ≡ (is_life o.number (life_of log other) && not b)
    go true e =
        ap (λ n. is_life o.number (life_of (with_event log (Free line) knows) n)) (eqb-true other line e) ∙ ap (is_life o.number) (life_freed log line knows)
        ∙ sym (neither (is_life o.number (life_of log other)))
    go false e = ap (is_life o.number) (life_beside log line knows other (eqb-false other line e)) ∙ alone (is_life o.number (life_of log other))

-- ---- what is as it was

pub free_is_quiet : (log : List Logged) (line : ℕ) (knows : List ℕ) → IsQuiet log (Free line) knows
free_is_quiet log line knows = record { begins = refl; takes = refl; places = refl; answers = λ unit. refl }

pub slot_freed : (i : Image) (logs : Logs) (line : ℕ) (knows : List ℕ) (lba : ℕ) → slot_of i (after logs (Free line) knows) lba ≡ slot_of i logs lba
slot_freed i logs line knows lba = quiet_slot i logs (Free line) knows lba (free_is_quiet (logs 0) line knows)

pub window_freed : (s : Shape) (logs : Logs) (line : ℕ) (knows : List ℕ) (from : ℕ)
    → window_from s (after logs (Free line) knows 0) from ≡ window_from s (logs 0) from
window_freed s logs line knows from = quiet_window s logs (Free line) knows from (free_is_quiet (logs 0) line knows)

pub known_freed : (i : Image) (logs : Logs) (line : ℕ) (knows : List ℕ) → known_image i (after logs (Free line) knows) ≡ known_image i logs
known_freed i logs line knows = known_kept i logs (Free line) knows refl (λ unit. refl)

pub units_freed : (i : Image) (logs : Logs) (line : ℕ) (knows : List ℕ) (other : ℕ)
    → online_now i (after logs (Free line) knows) other ≡ online_now i logs other
units_freed i logs line knows other =
    ap (λ (j : Image). bits_of (line_units j other)) (known_freed i logs line knows)

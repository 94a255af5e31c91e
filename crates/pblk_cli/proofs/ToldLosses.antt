-- All commands that were lost are told, by what a session answered.
use Rattle.std.proofs.Common.{◌≡◌, ◌≢◌, ℕ, ◌+◌, ◌<◌, ◌≤◌, List, [], ◌∷◌, ◌++◌, ◌^◌, Some, map, refl, sym, ap, ap₂, ◌∙◌, arith, lit<}
use Rattle.pblk_model.specs.Text.{Transcript}
use Rattle.pblk_model.specs.Transcript.{closing_event, opening_event}
use Rattle.pblk_world.specs.Makers.{opening_worker}
use Rattle.pblk_world.specs.World.{World}
use Rattle.unit_port.specs.Unit.{ModelUnit}
use Rattle.scan_recovery.specs.DriveFaults.{drive_faults_of}
use Rattle.scan_recovery.specs.Units.{log_length}
use Rattle.block_port.specs.declared.rows.DriveAnswer.{DriveAnswer}
use Rattle.block_target.specs.Closes.{answer_at}
use Rattle.block_target.proofs.OpeningLosses.{first_is_other}
use Rattle.run_report.specs.Ports.{event_of}
use Rattle.pblk_cli.specs.Stops.{AreAllTold, name_at, names_after, thread_events}

-- what answers at these places name
pub names_are : (handed : List ModelUnit) (places : List (ℕ × ℕ)) → map event_of (map (answer_at handed) places) ≡ names_after (log_length handed) places
names_are handed [] = refl
names_are handed (p ∷ places) = ap (λ (xs : List (ℕ × ℕ)). name_at (p.0, log_length handed p.0 + p.1) ∷ xs) (names_are handed places)

-- ---- an opening that answered an event

pub opening_told : (us : List ModelUnit) (w : World) (place : ℕ × ℕ) (answer : DriveAnswer) (threads helpers : ℕ) (t : Transcript) → threads ≤ 16
    → drive_faults_of opening_worker w ≡ place ∷ [] → answer ≡ answer_at us place
    → ((worker : ℕ) → worker ≢ opening_worker → drive_faults_of worker w ≡ []) → t.opening ≡ Some (event_of answer)
    → ((thread : ℕ) → thread_events t thread ≡ []) → closing_event t.closing ≡ [] → AreAllTold threads helpers (log_length us) w t
opening_told us w place answer threads helpers t few lost is none opening no_line not_closed = record {
  opening = ap (names_after (log_length us)) lost ∙ sym (ap (λ (a : DriveAnswer). event_of a ∷ []) is) ∙ ap opening_event (sym opening);
  first = ap (names_after (log_length us)) (none 0 first_is_other) ∙ sym (ap₂ (λ xs ys. xs ++ ys) (no_line 0) not_closed);
  others = λ thread some low. ap (names_after (log_length us)) (none thread (small thread low)) ∙ sym (no_line thread);
  alone = λ worker high apart. none worker apart;
}
  where
    small : (thread : ℕ) → thread < threads → thread ≢ opening_worker
    small thread low same = let far : 16 < 2 ^ 64 = lit< tt in absurd (omega (arith, same))

-- ---- units of which nothing had been logged

pub told_of_all : (before : ℕ → ℕ) (threads helpers : ℕ) (w : World) (t : Transcript) → ((unit : ℕ) → before unit ≡ 0) → AreAllTold threads helpers before w t
    → AreAllTold threads helpers (λ unit. 0) w t
told_of_all before threads helpers w t none told = record {
  opening = same (drive_faults_of opening_worker w) ∙ told.opening;
  first = same (drive_faults_of 0 w) ∙ told.first;
  others = λ thread some low. same (drive_faults_of thread w) ∙ told.others thread some low;
  alone = told.alone;
}
  where
    same : (places : List (ℕ × ℕ)) → names_after (λ unit. 0) places ≡ names_after before places
    same [] = refl
    same (p ∷ places) = ap₂ (λ n (xs : List (ℕ × ℕ)). name_at (p.0, n + p.1) ∷ xs) (sym (none p.0)) (same places)

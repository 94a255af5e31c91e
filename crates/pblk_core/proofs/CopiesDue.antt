-- A copy is due by a core's tables exactly where one is by the logs. A sector that is to be copied
-- stands in the victim at work, by the map.
use Rattle.std.proofs.Common.{◌≡◌, ◌≢◌, ◌⊎◌, inl, inr, ℕ, ◌+◌, ◌-◌, ◌<◌, ◌≤◌, ◌^◌, ◌&&◌, nat_lt, max, Bool, true, false, None, Some, Option, List, length, refl, sym, ap, ap₂, ◌∙◌, arith}
use Rattle.std.specs.Prelude.{slice_get}
use Rattle.std.specs.Option.{option_and_then, option_map_or}
use Rattle.std.specs.FinMap as fin
use Rattle.std.proofs.lemmas.Bool.{cases_lt}
use Rattle.std.proofs.lemmas.List.{length-map}
use Rattle.pblk_model.specs.declared.shape.Shape.{Shape}
use Rattle.pblk_model.specs.Image.{Image}
use Rattle.pblk_world.specs.AtRest.{IsCopyDue, victim_now}
use Rattle.pblk_world.specs.EngineLog.{Taken}
use Rattle.pblk_world.specs.Fronts.{taken, waiting}
use Rattle.pblk_world.specs.Space.{addresses, is_due, position_limit}
use Rattle.pblk_world.specs.Victims.{is_live_in, live}
use Rattle.pblk_world.specs.World.{World, Logs, log_of}
use Rattle.pblk_world.specs.LegalMounts.{IsLegalMount}
use Rattle.l2p_map.specs.declared.slot.Slot.TheVariants.{Media}
use Rattle.line_table.specs.declared.row.Row.{Row}
use Rattle.line_table.specs.Rows.{free_addresses}
use Rattle.write_window.specs.Window as view
use Rattle.core_laws.proofs.WaitingEntries.{waiting_alike}
use Rattle.stripe_placer.specs.Entries.{waiting as entries_waiting}
use Rattle.stripe_placer.specs.Placing.{Placing}
use Rattle.core_laws.specs.RowsOf.{row_of_line}
use Rattle.core_laws.specs.SlotOf.{slot_of}
use Rattle.core_laws.proofs.LiveSlots.{live_is_named}
use Rattle.core_laws.proofs.StandingLines.{live_none}
use Rattle.core_laws.proofs.VictimsAtWork.{IsVictim, victim_is_closed}
use Rattle.pblk_model.proofs.Tests.{and_both, below_of, both, lt_true}
use Rattle.pblk_core.specs.declared.target_core.Core.{Core}
use Rattle.pblk_core.specs.Collecting.{Collects, HasPassed}
use Rattle.pblk_core.specs.Copies.{copy_due, is_copy_due, is_due_in, victim_row}
use Rattle.pblk_core.specs.Stands.{Stands}
use Rattle.pblk_core.proofs.SmallGrant.{due_is, free_is}
use Rattle.pblk_core.proofs.SpentTables.{row_stands}
use Rattle.pblk_core.proofs.StandsFacts.{window_taken_is}

-- ---- how many entries wait

pub waiting_count : (i : Image) (w : World) (c : Core) → Stands i (log_of w) c
    → length (entries_waiting c.placer.entries) ≡ length (waiting i.shape (log_of w 0))
waiting_count i w c st =
    ap (λ (p : Placing). length (entries_waiting p.entries)) st.placing
    ∙ ap (λ (qs : List ℕ). length qs) (waiting_alike i.shape (log_of w 0) c.placer.entries.pad)
    ∙ length-map (waiting i.shape (log_of w 0)) (λ (t : Taken). t.entry.position)

-- ---- by the logs

-- what is tested but for whether collection is due
abbrev left_tests : Image → Logs → Option ℕ → Bool
left_tests i logs o = option_map_or (λ line. nat_lt 0 (live i logs line)) o false && (nat_lt (taken (logs 0)) (position_limit (logs 0))
    && nat_lt (length (waiting i.shape (logs 0))) (addresses i logs))

pub copy_by_test : (i : Image) (logs : Logs) → is_copy_due i logs ≡ true → IsCopyDue i logs
copy_by_test i logs e = go (victim_now i logs) refl parts.1
  where
    parts : (is_due i logs ≡ true) × (left_tests i logs (victim_now i logs) ≡ true)
    parts = both (is_due i logs) (left_tests i logs (victim_now i logs)) e

    go : (o : Option ℕ) → victim_now i logs ≡ o → left_tests i logs o ≡ true → IsCopyDue i logs
    go None at_work f = absurd cc
    go (Some line) at_work f =
        let some = both (nat_lt 0 (live i logs line)) (nat_lt (taken (logs 0)) (position_limit (logs 0))
        && nat_lt (length (waiting i.shape (logs 0))) (addresses i logs)) f in
        let rest = both (nat_lt (taken (logs 0)) (position_limit (logs 0))) (nat_lt (length (waiting i.shape (logs 0))) (addresses i logs)) some.1 in
        record {
          due = parts.0;
          line = line;
          at_work = at_work;
          has_live = below_of 0 (live i logs line) some.0;
          has_position = below_of (taken (logs 0)) (position_limit (logs 0)) rest.0;
          has_address = below_of (length (waiting i.shape (logs 0))) (addresses i logs) rest.1;
        }

pub test_of_copy : (i : Image) (logs : Logs) → IsCopyDue i logs → is_copy_due i logs ≡ true
test_of_copy i logs is =
    and_both (is_due i logs) _ is.due
    (and_both (option_map_or (λ line. nat_lt 0 (live i logs line)) (victim_now i logs) false) _
    (ap (λ o. option_map_or (λ line. nat_lt 0 (live i logs line)) o false) is.at_work ∙ lt_true 0 (live i logs is.line) is.has_live)
    (and_both (nat_lt (taken (logs 0)) (position_limit (logs 0))) (nat_lt (length (waiting i.shape (logs 0))) (addresses i logs))
    (lt_true (taken (logs 0)) (position_limit (logs 0)) is.has_position)
    (lt_true (length (waiting i.shape (logs 0))) (addresses i logs) is.has_address)))

-- ---- by the tables

-- whether a copy is due, by what is asked of the tables about the victim's line
pub due_by : (c : Core) (line : ℕ) (row : Row) (due : Bool) (has_live taken_ limit waits free : ℕ) → c.collection.victim ≡ Some line
    → slice_get c.lines.rows line ≡ Some row → due ≡ is_due_in c → has_live ≡ row.live → taken_ ≡ view.taken c.window → limit ≡ max (2 ^ 61 - 2) c.first
    → waits ≡ length (entries_waiting c.placer.entries) → free ≡ free_addresses c.lines
    → copy_due c ≡ (due && (nat_lt 0 has_live && (nat_lt taken_ limit && nat_lt waits (c.left + free))))
due_by c line row due has_live taken_ limit waits free at_work is_row d l t m n f =
    let its_row : victim_row c ≡ Some row = ap (option_and_then (λ n. slice_get c.lines.rows n)) at_work ∙ is_row in
    sym (ap₂ (λ a b. a && b) d (ap₂ (λ a b. a && b) (ap (nat_lt 0) l ∙ ap (λ o. option_map_or (λ (r : Row). nat_lt 0 r.live) o false) (sym its_row))
    (ap₂ (λ a b. a && b) (ap₂ nat_lt t m) (ap₂ (λ n k. nat_lt n (c.left + k)) n f))))

module _ (i : Image) (w : World) (c : Core) (mount : IsLegalMount i w) (st : Stands i (log_of w) c) (col : Collects i (log_of w) c) where
  victim_is : (line : ℕ) → c.collection.victim ≡ Some line → IsVictim i (log_of w) line
  victim_is line e = victim_is_closed i w line mount (sym col.victim ∙ e)

  victim_in_range : (line : ℕ) → c.collection.victim ≡ Some line → line < i.shape.chunks
  victim_in_range line e = (victim_is line e).in_range

  pub victim_has_row : (line : ℕ) → c.collection.victim ≡ Some line → slice_get c.lines.rows line ≡ Some (row_of_line i (log_of w) line)
  victim_has_row line e = row_stands i (log_of w) st line (victim_in_range line e)

  live_is : option_map_or (λ (row : Row). nat_lt 0 row.live) (victim_row c) false
      ≡ option_map_or (λ line. nat_lt 0 (live i (log_of w) line)) (victim_now i (log_of w)) false
  live_is = go c.collection.victim refl ∙ ap (λ o. option_map_or (λ line. nat_lt 0 (live i (log_of w) line)) o false) col.victim
    where
      go : (o : Option ℕ) → c.collection.victim ≡ o
          → option_map_or (λ (row : Row). nat_lt 0 row.live) (option_and_then (λ line. slice_get c.lines.rows line) o) false
          ≡ option_map_or (λ line. nat_lt 0 (live i (log_of w) line)) o false
      go None e = refl
      go (Some line) e = ap (λ o. option_map_or (λ (row : Row). nat_lt 0 row.live) o false) (victim_has_row line e)

  pub copy_due_is : copy_due c ≡ is_copy_due i (log_of w)
  copy_due_is = ap₂ (λ a b. a && b) (due_is i (log_of w) c st) (ap₂ (λ a b. a && b) live_is (ap₂ (λ a b. a && b)
      (ap₂ nat_lt (window_taken_is i w c st) (ap (max (2 ^ 61 - 2)) st.first))
      (ap₂ nat_lt (waiting_count i w c st) (ap₂ (λ a b. a + b) st.left (free_is i w c st)))))

  -- Where no sector from the cursor on stands in the victim, it has no live one.
  pub none_live : (line : ℕ) → HasPassed c → c.collection.victim ≡ Some line
      → ((lba at position : ℕ) → c.collection.cursor ≤ lba → lba < c.layout.capacity → fin.get c.map lba ≢ Some (Media line at position))
      → live i (log_of w) line ≡ 0
  none_live line passed at_work none = live_none i w line (λ lba inside. not_live lba inside (is_live_in i (log_of w) line lba) refl)
    where
      capacity : i.shape.capacity ≤ c.layout.capacity
      capacity = let same : c.layout.capacity ≡ i.shape.capacity = ap (λ (s : Shape). s.capacity) st.layout in omega arith

      not_there : (lba : ℕ) → lba < i.shape.capacity → (at : ℕ) × (position : ℕ) × (slot_of i (log_of w) lba ≡ Media line at position) → ⊥
      not_there lba inside is = by (cases_lt lba c.collection.cursor)
        where
          there : fin.get c.map lba ≡ Some (Media line is.0 is.1)
          there = st.slots lba inside ∙ ap Some is.2

          by : (lba < c.collection.cursor) ⊎ (c.collection.cursor ≤ lba) → ⊥
          by (inl below) = passed lba line is.0 is.1 below at_work there
          by (inr from) = none lba is.0 is.1 from (omega (arith, capacity)) there

      not_live : (lba : ℕ) → lba < i.shape.capacity → (b : Bool) → is_live_in i (log_of w) line lba ≡ b → is_live_in i (log_of w) line lba ≡ false
      not_live lba inside false e = e
      not_live lba inside true e = absurd (not_there lba inside (live_is_named i w mount line (victim_is line at_work).over lba e))

-- The entries that wait, in the window of a core and in the rows beside it.
use Rattle.std.proofs.Common.{◌≡◌, ℕ, ◌+◌, ◌-◌, ◌<◌, ◌≤◌, ◌^◌, ◌%◌, zero, suc, nat_lt, Bool, true, false, Some, None, Option, List, [], ◌∷◌, ◌++◌, length, take, drop, refl, sym, subst, ap, ap₂, ◌∙◌, arith, append-nil}
use Rattle.std.specs.Prelude.{map, slice_get, if◌then◌else◌}
use Rattle.std.specs.List.{AllByRecursion, range_with_len}
use Rattle.std.specs.Option.{option_map, option_map_or, unwrap_or}
use Rattle.std.proofs.lemmas.Option.{same_Some, none-some}
use Rattle.pblk_model.specs.declared.shape.Shape.{Shape}
use Rattle.pblk_model.specs.Marks.{pad_mark}
use Rattle.pblk_model.specs.Image.{Image}
use Rattle.pblk_world.specs.Events.{EngineEvent, Take, Decides, Logged}
use Rattle.pblk_world.specs.World.{World, Logs, log_of}
use Rattle.pblk_world.specs.EngineLog.{Taken, takes, block_of_taken}
use Rattle.pblk_world.specs.Fronts.{first_position, taken, waiting, has_landed_at}
use Rattle.pblk_world.specs.Legal.{MayDecide}
use Rattle.pblk_world.specs.Space.{freed}
use Rattle.write_window.specs.Window.{WindowView, sector_at}
use Rattle.write_window.specs.declared.held.Held.{Held}
use Rattle.core_laws.proofs.EntryHolds.{line_of_waiting}
use Rattle.core_laws.proofs.PlacedAnew.{IsWaiting as WaitsHere, waiting_wait}
use Rattle.pblk_world.specs.LegalMounts.{IsLegalMount}
use Rattle.core_laws.specs.PlacerOf.{positions_of, placing_of}
use Rattle.core_laws.specs.Positions.{AreNumbered}
use Rattle.core_laws.specs.WindowOf.{HeldSector, HeldSectors, without_frame, held_of, is_given_back}
use Rattle.core_laws.proofs.Placing.{not_below}
use Rattle.core_laws.proofs.WaitingEntries.{waiting_alike}
use Rattle.stripe_placer.specs.Placing.{held}
use Rattle.stripe_placer.proofs.Rows.{get_map as get_mapped}
use Rattle.core_laws.proofs.Growing.{given_landed}
use Rattle.core_laws.specs.Placed.{IsInWindow}
use Rattle.core_laws.specs.EntryHolds.{placed_line}
use Rattle.core_laws.proofs.EventByEvent.{of_legal_log}
use Rattle.core_laws.proofs.PlacedInOrder.{IsOrdered, ordered}
use Rattle.core_laws.proofs.HeldPositions.{in_window}
use Rattle.pblk_core.specs.Entries.{entry_block, entry_blocks}
use Rattle.pblk_core.specs.Holds.{hold_of, row_at}
use Rattle.pblk_core.specs.Stands.{Stands}
use Rattle.pblk_core.specs.declared.target_core.Core.{Core}
use Rattle.pblk_core.specs.declared.hold.Hold.{Hold}
use Rattle.core_laws.proofs.WindowOfLemmas.{bytes_without}
use Rattle.pblk_model.proofs.Lists.{all_append}
use Rattle.pblk_model.proofs.Parts.{all_at, all_by_get, get_dropped, get_more, get_whole, is_in}
use Rattle.pblk_world.proofs.EngineLogLemmas.{takes_more}

-- ---- lists

get_ranged : (a n k x : ℕ) → slice_get (range_with_len a n) k ≡ Some x → x ≡ a + k
get_ranged a zero k x e = absurd (none-some x e)
get_ranged a (suc n) zero x e = let same : a ≡ x = same_Some a x e in omega arith
get_ranged a (suc n) (suc k) x e = let rest : x ≡ a + 1 + k = get_ranged (a + 1) n k x e in omega arith

-- ---- what was taken

pub numbered_at : (log : List Logged) (k : ℕ) (t : Taken) → AreNumbered log → slice_get (takes log) k ≡ Some t → t.entry.position ≡ first_position log + k
numbered_at log k t numbered e =
    get_ranged (first_position log) (length (takes log)) k t.entry.position
    (ap (λ (qs : List ℕ). slice_get qs k) (sym numbered) ∙ get_mapped (λ (t : Taken). t.entry.position) (takes log) k
    ∙ ap (option_map (λ (t : Taken). t.entry.position)) e)

-- a sector of the drive's size, at a position that has a bound
pub record IsSized (s : Shape) (t : Taken) : Type 0 where
  pub sector : length t.entry.sector ≡ s.sector
  pub position : t.entry.position < 2 ^ 62

sized_after : (i : Image) (log : List Logged) (known : Logs) (e : EngineEvent) (knows : List ℕ) → known 0 ≡ log → MayDecide i known e
    → AllByRecursion (IsSized i.shape) (takes log) → AllByRecursion (IsSized i.shape) (takes (log ++ record { event = Decides e; knows = knows } ∷ []))
sized_after i log known (Take entry mark) knows own may is =
    subst (AllByRecursion (IsSized i.shape)) (sym (takes_more log (record { event = Decides (Take entry mark); knows = knows })))
    (all_append (IsSized i.shape) (takes log) (record { entry = entry; mark = mark } ∷ []) is
    (record { sector = may.2.block.size; position = may.2.position_number }, tt))
sized_after i log known e knows own may is =
    subst (AllByRecursion (IsSized i.shape)) (sym (takes_more log (record { event = Decides e; knows = knows }) ∙ append-nil (takes log))) is

pub are_sized : (i : Image) (w : World) → IsLegalMount i w → AllByRecursion (IsSized i.shape) (takes (log_of w 0))
are_sized i w is = of_legal_log i (λ log. AllByRecursion (IsSized i.shape) (takes log)) tt
    (λ log known e knows own may kept. sized_after i log known e knows own may kept) w is.legal

-- ---- what waits

pub record IsWaiting (i : Image) (w : World) (c : Core) (t : Taken) : Type 0 where
  pub number : ℕ
  pub there : slice_get (takes (log_of w 0)) number ≡ Some t
  pub number_is : first_position (log_of w 0) + number ≡ t.entry.position
  pub low : c.window.freed ≤ t.entry.position
  pub high : t.entry.position < taken (log_of w 0)
  pub kept : is_given_back i.shape (log_of w 0) t.entry.position ≡ false
  pub unplaced : placed_line i.shape (log_of w 0) t.entry.position ≡ None
  pub row : row_at c.holds.rows.items t.entry.position ≡ Some (hold_of i.shape (log_of w 0) t)

pub row_of_entry : (i : Image) (w : World) (c : Core) (t : Taken) (number : ℕ) → Stands i (log_of w) c → slice_get (takes (log_of w 0)) number ≡ Some t
    → is_given_back i.shape (log_of w 0) t.entry.position ≡ false
    → row_at c.holds.rows.items t.entry.position ≡ Some (hold_of i.shape (log_of w 0) t)
row_of_entry i w c t number st there kept =
    ap (λ n. slice_get c.holds.rows.items (t.entry.position % n)) st.holds.room
    ∙ st.holds.each t (is_in (takes (log_of w 0)) number t there) kept

pub waiting_at : (i : Image) (w : World) (c : Core) (k : ℕ) (t : Taken) → IsLegalMount i w → Stands i (log_of w) c
    → slice_get (waiting i.shape (log_of w 0)) k ≡ Some t → IsWaiting i w c t
waiting_at i w c k t mount st e =
    let s : Shape = i.shape in
    let log : List Logged = log_of w 0 in
    let is : IsOrdered s log = ordered i w mount in
    let its : WaitsHere s log t = all_at (WaitsHere s log) (waiting s log) k t e (waiting_wait s log) in
    let n : ℕ = its.0.0 in
    let there : slice_get (takes log) n ≡ Some t = its.0.1 in
    let at : t.entry.position ≡ first_position log + n = numbered_at log n t is.numbered there in
    let pad : ℕ = c.placer.entries.pad in
    let own : slice_get (held (placing_of i (log_of w) pad [])) k ≡ Some t.entry.position =
    get_more _ _ k t.entry.position
    (ap (λ (qs : List ℕ). slice_get qs k) (waiting_alike s log pad) ∙ get_mapped (λ (t : Taken). t.entry.position) (waiting s log) k
    ∙ ap (option_map (λ (t : Taken). t.entry.position)) e) in
    let inside : IsInWindow s log t.entry.position = in_window i (log_of w) pad [] k t.entry.position is own in
    let freed_low : c.window.freed ≤ freed s log = st.to_freed in
    let from : freed s log ≤ t.entry.position = inside.from_freed in
    let high : t.entry.position < taken log = inside.below_taken in
    let kept : is_given_back s log t.entry.position ≡ false = not_given (is_given_back s log t.entry.position) refl inside.not_landed in
    record {
      number = n;
      there = there;
      number_is = sym at;
      low = omega arith;
      high = high;
      kept = kept;
      unplaced = line_of_waiting s log t its.1;
      row = row_of_entry i w c t n st there kept;
    }
  where
    not_given : (b : Bool) → is_given_back i.shape (log_of w 0) t.entry.position ≡ b → has_landed_at i.shape (log_of w 0) t.entry.position ≡ false → b ≡ false
    not_given false e none = refl
    not_given true e none = let landed = given_landed i.shape (log_of w 0) t.entry.position e in absurd cc

-- ---- sectors in the window

held_by_log : (i : Image) (w : World) (c : Core) (k : ℕ) → Stands i (log_of w) c
    → option_map without_frame (slice_get c.window.entries k) ≡ option_map (held_of i.shape (log_of w 0))
    (slice_get (takes (log_of w 0)) (c.window.freed - first_position (log_of w 0) + k))
held_by_log i w c k st =
    sym (get_mapped without_frame c.window.entries k)
    ∙ ap (λ (v : HeldSectors). slice_get v.entries k) st.window
    ∙ get_mapped (held_of i.shape (log_of w 0)) (drop (c.window.freed - first_position (log_of w 0)) (takes (log_of w 0))) k
    ∙ ap (option_map (held_of i.shape (log_of w 0))) (get_dropped (c.window.freed - first_position (log_of w 0)) (takes (log_of w 0)) k)

bytes_by_log : (i : Image) (w : World) (c : Core) (k : ℕ) → Stands i (log_of w) c
    → option_map (λ (h : Held). h.entry.frame.bytes) (slice_get c.window.entries k) ≡ option_map (λ (t : Taken). t.entry.sector)
    (slice_get (takes (log_of w 0)) (c.window.freed - first_position (log_of w 0) + k))
bytes_by_log i w c k st =
    bytes_without (slice_get c.window.entries k) ∙ ap (option_map (λ (h : HeldSector). h.sector)) (held_by_log i w c k st)
    ∙ twice (slice_get (takes (log_of w 0)) (c.window.freed - first_position (log_of w 0) + k))
  where
    twice : (o : Option Taken) → option_map (λ (h : HeldSector). h.sector) (option_map (held_of i.shape (log_of w 0)) o) ≡ option_map
        (λ (t : Taken). t.entry.sector) o
    twice None = refl
    twice (Some t) = refl

-- the sector of an entry that was taken and isn't below the window
pub sector_there : (i : Image) (w : World) (c : Core) (t : Taken) (number : ℕ) → Stands i (log_of w) c → slice_get (takes (log_of w 0)) number ≡ Some t
    → first_position (log_of w 0) + number ≡ t.entry.position
    → c.window.freed ≤ t.entry.position → sector_at c.window t.entry.position ≡ Some t.entry.sector
sector_there i w c t number st there is low =
    let first : first_position (log_of w 0) ≤ c.window.freed = st.from_first in
    let at : c.window.freed - first_position (log_of w 0) + (t.entry.position - c.window.freed) ≡ number = omega arith in
    ap (λ b. option_map (λ (h : Held). h.entry.frame.bytes) (if b then None else slice_get c.window.entries (t.entry.position - c.window.freed)))
    (not_below c.window.freed t.entry.position low)
    ∙ bytes_by_log i w c (t.entry.position - c.window.freed) st
    ∙ ap (option_map (λ (t : Taken). t.entry.sector)) (ap (slice_get (takes (log_of w 0))) at ∙ there)

-- each sector in the window has the size of the drive's
pub sectors_sized : (i : Image) (w : World) (c : Core) (q : ℕ) (sector : List ℕ) → IsLegalMount i w → Stands i (log_of w) c
    → sector_at c.window q ≡ Some sector → length sector ≡ i.shape.sector
sectors_sized i w c q sector mount st e = go (nat_lt q c.window.freed) e
  where
    at : (o : Option Taken) → slice_get (takes (log_of w 0)) (c.window.freed - first_position (log_of w 0) + (q - c.window.freed)) ≡ o
        → option_map (λ (t : Taken). t.entry.sector) o ≡ Some sector → length sector ≡ i.shape.sector
    at None f g = absurd (none-some sector g)
    at (Some t) f g =
        ap (λ (xs : List ℕ). length xs) (sym (same_Some t.entry.sector sector g))
        ∙ IsSized.sector (all_at (IsSized i.shape) (takes (log_of w 0)) (c.window.freed - first_position (log_of w 0) + (q - c.window.freed)) t f
        (are_sized i w mount))

    go : (b : Bool) → option_map (λ (h : Held). h.entry.frame.bytes) (if b then None else slice_get c.window.entries (q - c.window.freed)) ≡ Some sector
        → length sector ≡ i.shape.sector
    go true f = absurd (none-some sector f)
    go false f = at (slice_get (takes (log_of w 0)) (c.window.freed - first_position (log_of w 0) + (q - c.window.freed))) refl
        (sym (bytes_by_log i w c (q - c.window.freed) st) ∙ f)

-- ---- blocks

pub blocks_are : (w : WindowView) (rows : List Hold) (ts : List Taken)
    → AllByRecursion (λ (t : Taken). entry_block w rows t.entry.position ≡ block_of_taken t) ts
    → entry_blocks w rows (positions_of ts) ≡ map block_of_taken ts
blocks_are w rows [] all = refl
blocks_are w rows (t ∷ ts) all = ap₂ (λ b bs. b ∷ bs) all.0 (blocks_are w rows ts all.1)

pub block_is : (i : Image) (w : World) (c : Core) (t : Taken) (k : ℕ) → Stands i (log_of w) c → IsWaiting i w c t
    → entry_block c.window c.holds.rows.items t.entry.position ≡ block_of_taken t
block_is i w c t k st is =
    let sector : sector_at c.window t.entry.position ≡ Some t.entry.sector = sector_there i w c t is.number st is.there is.number_is is.low in
    λ j. record {
      sector = unwrap_or (sector j) [];
      mark = option_map_or (λ (h : Hold). h.mark) (is.row j) pad_mark;
    }

pub waiting_blocks : (i : Image) (w : World) (c : Core) (n : ℕ) → IsLegalMount i w → Stands i (log_of w) c
    → entry_blocks c.window c.holds.rows.items (positions_of (take n (waiting i.shape (log_of w 0)))) ≡ map block_of_taken
    (take n (waiting i.shape (log_of w 0)))
waiting_blocks i w c n mount st =
    blocks_are c.window c.holds.rows.items (take n (waiting i.shape (log_of w 0)))
    (all_by_get (λ (t : Taken). entry_block c.window c.holds.rows.items t.entry.position ≡ block_of_taken t) (take n (waiting i.shape (log_of w 0)))
    (λ k t e. block_is i w c t k st (waiting_at i w c k t mount st (get_whole n (waiting i.shape (log_of w 0)) k t e))))

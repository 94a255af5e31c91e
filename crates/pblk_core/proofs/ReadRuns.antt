-- Blocks that can be read, one after another.
use Rattle.std.proofs.Common.{◌≡◌, ℕ, ◌+◌, ◌-◌, ◌<◌, ◌≤◌, zero, suc, nat_lt, Bool, true, false, Some, None, Option, List, [], ◌∷◌, ◌++◌, length, refl, sym, subst, ap, ◌∙◌, arith}
use Rattle.std.specs.Prelude.{slice_get, if◌then◌else◌}
use Rattle.std.specs.List.{Contains, cons_option, filter_map, range_with_len}
use Rattle.std.specs.Option.{option_map_or, option_to_list}
use Rattle.std.specs.Ordering.{nat_cmp}
use Rattle.std.specs.FinMap.{FinMap}
use Rattle.std.proofs.lemmas.List.Elements.{filter_map-append}
use Rattle.std.proofs.lemmas.List.Sums.{fold-append}
use Rattle.l2p_map.specs.declared.slot.Slot.{Slot}
use Rattle.write_window.specs.Entries.{has_landed, with_progress}
use Rattle.write_window.specs.Window.{WindowView, IsHeld, has_landed_at, turned}
use Rattle.write_window.specs.declared.held.Held.{Held}
use Rattle.write_window.specs.declared.held.Progress.TheVariants.{Readable}
use Rattle.pblk_core.specs.declared.open_lines.OpenLine.{OpenLine}
use Rattle.pblk_core.specs.Readable.{ReadBlock, moved, all_moved, all_readable, block_reads, reads_of}
use Rattle.pblk_model.proofs.Maps.{one_more, range_more}

-- ---- one block more

pub reads_more : (l : OpenLine) (unit from block : ℕ) → from ≤ block
    → reads_of l unit from (block + 1) ≡ reads_of l unit from block ++ option_to_list (block_reads l unit block)
reads_more l unit from block h =
    let next : block + 1 - from ≡ suc (block - from) = omega arith in
    let last : from + (block - from) ≡ block = omega arith in
    ap (λ n. filter_map (block_reads l unit) (range_with_len from n)) next
    ∙ ap (filter_map (block_reads l unit)) (range_more from (block - from))
    ∙ filter_map-append (block_reads l unit) (range_with_len from (block - from)) ((from + (block - from)) ∷ [])
    ∙ ap (λ n. filter_map (block_reads l unit) (range_with_len from (block - from)) ++ cons_option (block_reads l unit n) []) last
    ∙ ap (λ xs. reads_of l unit from block ++ xs) (one_more (block_reads l unit block))

pub window_more : (w : WindowView) (l : OpenLine) (unit from block : ℕ) → from ≤ block
    → all_readable (all_readable w (reads_of l unit from block)) (option_to_list (block_reads l unit block)) ≡ all_readable w (reads_of l unit from (block + 1))
window_more w l unit from block h =
    sym (ap (all_readable w) (reads_more l unit from block h)
    ∙ fold-append (λ (v : WindowView) (b : ReadBlock). turned v b.mark.position Readable) w (reads_of l unit from block)
    (option_to_list (block_reads l unit block)))

pub map_more : (capacity line : ℕ) (m : FinMap nat_cmp Slot) (l : OpenLine) (unit from block : ℕ) → from ≤ block
    → all_moved capacity line (all_moved capacity line m (reads_of l unit from block)) (option_to_list (block_reads l unit block)) ≡ all_moved capacity line m
    (reads_of l unit from (block + 1))
map_more capacity line m l unit from block h =
    sym (ap (all_moved capacity line m) (reads_more l unit from block h)
    ∙ fold-append (moved capacity line) m (reads_of l unit from block) (option_to_list (block_reads l unit block)))

-- ---- a block of the range is read

given_within : {Y : Type 0} (h : ℕ → Option Y) (a n m : ℕ) (y : Y) → h (a + m) ≡ Some y → m < n → Contains (filter_map h (range_with_len a n)) y
given_within h a zero m y e inside = absurd (omega arith)
given_within {Y} h a (suc n) zero y e inside =
    let same : a ≡ a + 0 = omega arith in
    subst (λ o. Contains (cons_option o (filter_map h (range_with_len (a + 1) n))) y) (sym (ap h same ∙ e)) (0, omega arith, refl)
given_within {Y} h a (suc n) (suc m) y e inside =
    let same : a + 1 + m ≡ a + suc m = omega arith in
    go (h a) (given_within h (a + 1) n m y (ap h same ∙ e) (omega arith))
  where
    go : (o : Option Y) → Contains (filter_map h (range_with_len (a + 1) n)) y → Contains (cons_option o (filter_map h (range_with_len (a + 1) n))) y
    go None c = c
    go (Some z) c = (suc c.0, (let below : c.0 < length (filter_map h (range_with_len (a + 1) n)) = c.1 in omega arith), c.2)

pub read_within : (l : OpenLine) (unit from to block : ℕ) (b : ReadBlock) → from ≤ block → block < to → block_reads l unit block ≡ Some b
    → Contains (reads_of l unit from to) b
read_within l unit from to block b low high e =
    let at : from + (block - from) ≡ block = omega arith in
    given_within (block_reads l unit) from (to - from) (block - from) b (ap (block_reads l unit) at ∙ e) (omega arith)

-- ---- entries stay where they are

progress_length : (held : List Held) (k : ℕ) → length (with_progress held k Readable) ≡ length held
progress_length [] k = refl
progress_length (h ∷ held) zero = refl
progress_length (h ∷ held) (suc k) = ap suc (progress_length held k)

still_landed : (held : List Held) (k j : ℕ) → option_map_or (λ (h : Held). has_landed h.progress) (slice_get held j) false ≡ true
    → option_map_or (λ (h : Held). has_landed h.progress) (slice_get (with_progress held k Readable) j) false ≡ true
still_landed [] k j e = e
still_landed (h ∷ held) zero zero e = refl
still_landed (h ∷ held) zero (suc j) e = e
still_landed (h ∷ held) (suc k) zero e = e
still_landed (h ∷ held) (suc k) (suc j) e = still_landed held k j e

pub landed_stays : (w : WindowView) (p q : ℕ) → has_landed_at w q ≡ true → has_landed_at (turned w p Readable) q ≡ true
landed_stays w p q e = go (nat_lt q w.freed) e
  where
    go : (b : Bool) → option_map_or (λ (h : Held). has_landed h.progress) (if b then None else slice_get w.entries (q - w.freed)) false ≡ true
        → option_map_or (λ (h : Held). has_landed h.progress)
        (if b then None else slice_get (with_progress w.entries (p - w.freed) Readable) (q - w.freed)) false ≡ true
    go true e = e
    go false e = still_landed w.entries (p - w.freed) (q - w.freed) e

pub held_stays : (w : WindowView) (p q : ℕ) → IsHeld w q → IsHeld (turned w p Readable) q
held_stays w p q h = (h.0, subst (λ n. q < w.freed + n) (sym (progress_length w.entries (p - w.freed))) h.1)

pub reads_keep : (bs : List ReadBlock) (w : WindowView) (q : ℕ) → IsHeld w q × (has_landed_at w q ≡ true)
    → IsHeld (all_readable w bs) q × (has_landed_at (all_readable w bs) q ≡ true)
reads_keep [] w q h = h
reads_keep (b ∷ bs) w q h = reads_keep bs (turned w b.mark.position Readable) q (held_stays w b.mark.position q h.0, landed_stays w b.mark.position q h.1)

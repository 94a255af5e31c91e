-- The lines of writes that stand in the order of their places.
use Rattle.std.proofs.Common.{◌≡◌, ◌⊎◌, inl, inr, ℕ, ◌+◌, ◌-◌, ◌<◌, ◌≤◌, ◌==◌, zero, suc, Some, List, [], ◌∷◌, ◌++◌, length, refl, sym, subst, ap, ap₂, ◌∙◌, arith}
use Rattle.std.specs.Prelude.{slice_get}
use Rattle.std.specs.List.{AllByRecursion, Contains, range_with_len}
use Rattle.std.proofs.lemmas.Bool.{cases_lt, cases_order}
use Rattle.std.proofs.lemmas.List.{map-append}
use Rattle.std.proofs.lemmas.Option.{none-some, same_Some}
use Rattle.pblk_model.specs.RingState.{between, times}
use Rattle.pblk_model.proofs.Lists.{IsAmong, all_append, among_contained}
use Rattle.pblk_model.proofs.Parts.{all_by_get, is_in}
use Rattle.block_port.specs.ByPlace.{HasItsSectors, KeysRise, ThreadWrite, all_lines, by_place, covered, first_of, own_writes}
use Rattle.block_port.specs.Own.{PlacedSector, lines_of, placed_from}
use Rattle.block_port.specs.Port.{Rise, positions}
use Rattle.block_port.proofs.Ordering.{all_order, order_rises, passing_order, rising_stay, total_order}
use Rattle.block_port.proofs.PortLemmas.{rise_append, rise_placed}
use Rattle.block_port.proofs.Rising.{Climbs, at_most, at_most_once, before, behind, inside, none_below, nothing, one_first, range_climbs, range_times, same_numbers, times_more}

-- ---- a thread's own writes

pub own_stay : (writes : List ThreadWrite) (thread : ℕ) → KeysRise first_of (own_writes thread writes)
    → own_writes thread (by_place writes) ≡ own_writes thread writes
own_stay writes thread rise = passing_order first_of (λ (w : ThreadWrite). w.thread == thread) writes
    ∙ rising_stay first_of (own_writes thread writes) rise

-- ---- how often lines have a position

-- lines that rise have positions that rise
climbs_of : (from to : ℕ) (lines : List PlacedSector) → Rise from to lines → Climbs from (positions lines)
climbs_of from to [] rise = tt
climbs_of from to (line ∷ lines) rise = (rise.0, climbs_of (line.position + 1) to lines rise.1)

pub rise_order : (from to : ℕ) (lines : List PlacedSector) → Rise from to lines → from ≤ to
rise_order from to [] rise = rise
rise_order from to (line ∷ lines) rise = let rest : line.position + 1 ≤ to = rise_order (line.position + 1) to lines rise.1 in omega (arith, rise.0)

-- they lie between the bounds
bounds : (x from to : ℕ) (lines : List PlacedSector) → Rise from to lines → 0 < times x (positions lines) → (from ≤ x) × (x < to)
bounds x from to [] rise some = absurd (omega arith)
bounds x from to (line ∷ lines) rise some = go (cases_order x line.position) (bounds x (line.position + 1) to lines rise.1)
  where
    go : (x ≡ line.position) ⊎ ((x < line.position) ⊎ (line.position < x))
        → (0 < times x (positions lines) → (line.position + 1 ≤ x) × (x < to)) → (from ≤ x) × (x < to)
    go (inl is) later = let last : line.position + 1 ≤ to = rise_order (line.position + 1) to lines rise.1 in (omega (arith, rise.0), omega arith)
    go (inr (inl below)) later =
        let none : times x (positions (line ∷ lines)) ≡ 0 =
        none_below x line.position (positions (line ∷ lines)) below (omega arith, climbs_of (line.position + 1) to lines rise.1) in
        absurd (omega arith)
    go (inr (inr above)) later =
        let one : between line.position (line.position + 1) x ≡ 0 = behind line.position (line.position + 1) x (omega arith) in
        let rest = later (omega (arith, some, one)) in
        (omega (arith, rise.0, rest.0), rest.1)

-- lines from a position on have each position once
times_placed : (x position lba : ℕ) (sectors : List (List ℕ))
    → times x (positions (placed_from position lba sectors)) ≡ between position (position + length sectors) x
times_placed x position lba [] = sym (nothing position x)
times_placed x position lba (sector ∷ sectors) =
    ap (λ n. between position (position + 1) x + n) (times_placed x (position + 1) (lba + 1) sectors) ∙ one_first position (length sectors) x

times_lines : (x : ℕ) (writes : List ThreadWrite) → AllByRecursion HasItsSectors writes → times x (positions (all_lines writes)) ≡ covered x writes
times_lines x [] each = refl
times_lines x (w ∷ writes) each =
    ap (times x) (map-append (λ (line : PlacedSector). line.position) (lines_of w.write) (all_lines writes))
    ∙ times_more x (positions (lines_of w.write)) (positions (all_lines writes))
    ∙ ap₂ (λ n m. n + m)
    (times_placed x w.write.place.first w.write.lba w.write.sectors ∙ ap (λ n. between w.write.place.first (w.write.place.first + n) x) each.0)
    (times_lines x writes each.1)

-- ---- the lines rise

none_covered : (x first : ℕ) (writes : List ThreadWrite) → x < first → AllByRecursion (λ (w : ThreadWrite). first ≤ first_of w) writes → covered x writes ≡ 0
none_covered x first [] below above = refl
none_covered x first (w ∷ writes) below above =
    let low : first ≤ first_of w = above.0 in
    let one : between w.write.place.first (w.write.place.first + w.write.place.count) x ≡ 0 =
    before w.write.place.first (w.write.place.first + w.write.place.count) x (omega arith) in
    let rest : covered x writes ≡ 0 = none_covered x first writes below above.1 in
    omega arith

-- lines that rise from a position rise from a lower one
pub rise_from : (a b c : ℕ) (lines : List PlacedSector) → a ≤ b → Rise b c lines → Rise a c lines
rise_from a b c [] low rise = omega (arith, rise)
rise_from a b c (line ∷ lines) low rise = (omega (arith, rise.0), rise.1)

lines_rise : (from to : ℕ) (writes : List ThreadWrite) → AllByRecursion HasItsSectors writes → KeysRise first_of writes → ((x : ℕ) → covered x writes ≤ 1)
    → ((x : ℕ) → 0 < covered x writes → (from ≤ x) × (x < to)) → from ≤ to → Rise from to (all_lines writes)
lines_rise from to [] each rise once within order = order
lines_rise from to (w ∷ writes) each rise once within order =
    go w.write.sectors refl
    (λ next inside_ low. lines_rise next to writes each.1 rise.1 (λ x. let all : covered x (w ∷ writes) ≤ 1 = once x in omega arith) inside_ low)
  where
    go : (sectors : List (List ℕ)) → w.write.sectors ≡ sectors
        → ((next : ℕ) → ((x : ℕ) → 0 < covered x writes → (next ≤ x) × (x < to)) → next ≤ to → Rise next to (all_lines writes))
        → Rise from to (lines_of w.write ++ all_lines writes)
    go [] none later = subst (λ (ss : List (List ℕ)). Rise from to (placed_from w.write.place.first w.write.lba ss ++ all_lines writes)) (sym none)
        (later from (λ x some. within x (omega arith)) order)
    go (sector ∷ sectors) some later =
        let count : w.write.place.count ≡ suc (length sectors) = sym each.0 ∙ ap length some in
        let long : length w.write.sectors ≡ suc (length sectors) = ap length some in
        let first_in : between w.write.place.first (w.write.place.first + w.write.place.count) w.write.place.first ≡ 1 =
        inside w.write.place.first (w.write.place.first + w.write.place.count) w.write.place.first (omega arith) (omega arith) in
        let last_in : between w.write.place.first (w.write.place.first + w.write.place.count) (w.write.place.first + length sectors) ≡ 1 =
        inside w.write.place.first (w.write.place.first + w.write.place.count) (w.write.place.first + length sectors) (omega arith) (omega arith) in
        let low = within w.write.place.first (omega arith) in
        let high = within (w.write.place.first + length sectors) (omega arith) in
        rise_append from (w.write.place.first + length w.write.sectors) to (lines_of w.write) (all_lines writes)
        (rise_from from w.write.place.first (w.write.place.first + length w.write.sectors) (lines_of w.write) low.0
        (rise_placed w.write.place.first w.write.lba w.write.sectors))
        (later (w.write.place.first + length w.write.sectors) (λ x covers. (
          past x covers (cases_lt x w.write.place.first)
              (cases_lt x (w.write.place.first + length w.write.sectors)),
          (within x (omega arith)).1,
        )) (omega (arith, high.1)))
      where
        past : (x : ℕ) → 0 < covered x writes → (x < w.write.place.first) ⊎ (w.write.place.first ≤ x)
            → (x < w.write.place.first + length w.write.sectors) ⊎ (w.write.place.first + length w.write.sectors ≤ x)
            → w.write.place.first + length w.write.sectors ≤ x
        past x covers below (inr past_it) = past_it
        past x covers (inl below) (inl short) =
            let none : covered x writes ≡ 0 = none_covered x w.write.place.first writes below rise.0 in absurd (omega arith)
        past x covers (inr above) (inl short) =
            let count : length w.write.sectors ≡ w.write.place.count = each.0 in
            let one : between w.write.place.first (w.write.place.first + w.write.place.count) x ≡ 1 =
            inside w.write.place.first (w.write.place.first + w.write.place.count) x above (omega arith) in
            let all : covered x (w ∷ writes) ≤ 1 = once x in
            absurd (omega arith)

-- ---- lines at the same positions that stand in a history are the history

no_earlier : (from k : ℕ) (lines : List PlacedSector) (line : PlacedSector) → Climbs from (positions lines) → slice_get lines k ≡ Some line
    → from ≤ line.position
no_earlier from k [] line climbs at = absurd (none-some line at)
no_earlier from zero (l ∷ lines) line climbs at = subst (λ (x : PlacedSector). from ≤ x.position) (same_Some l line at) climbs.0
no_earlier from (suc k) (l ∷ lines) line climbs at =
    let later : l.position + 1 ≤ line.position = no_earlier (l.position + 1) k lines line climbs.1 at in omega (arith, climbs.0)

among_later : (y : PlacedSector) (ys xs : List PlacedSector) (from : ℕ) → y.position < from → Climbs from (positions xs)
    → AllByRecursion (IsAmong (y ∷ ys)) xs → AllByRecursion (IsAmong ys) xs
among_later y ys [] from past climbs all = tt
among_later y ys (x ∷ xs) from past climbs all = (one all.0, among_later y ys xs (x.position + 1) (omega (arith, climbs.0)) climbs.1 all.1)
  where
    one : IsAmong (y ∷ ys) x → IsAmong ys x
    one (zero, at) =
        let same : y.position ≡ x.position = ap (λ (l : PlacedSector). l.position) (same_Some y x at) in absurd (omega (arith, climbs.0))
    one (suc k, at) = (k, at)

same_lines : (a b : ℕ) (xs ys : List PlacedSector) → Climbs a (positions xs) → Climbs b (positions ys) → positions xs ≡ positions ys
    → AllByRecursion (IsAmong ys) xs → xs ≡ ys
same_lines a b [] [] first second same all = refl
same_lines a b [] (y ∷ ys) first second same all = absurd cc
same_lines a b (x ∷ xs) [] first second same all = absurd cc
same_lines a b (x ∷ xs) (y ∷ ys) first second same all =
    let head : x.position ≡ y.position = cc in
    let tail : positions xs ≡ positions ys = cc in
    ap₂ (λ (l : PlacedSector) (ls : List PlacedSector). l ∷ ls) (one head all.0)
    (same_lines (x.position + 1) (y.position + 1) xs ys first.1 second.1 tail (among_later y ys xs (x.position + 1) (omega arith) first.1 all.1))
  where
    one : x.position ≡ y.position → IsAmong (y ∷ ys) x → x ≡ y
    one head (zero, at) = sym (same_Some y x at)
    one head (suc k, at) = let later : y.position + 1 ≤ x.position = no_earlier (y.position + 1) k ys x second.1 at in absurd (omega arith)

all_flat : (P : PlacedSector → Type 0) (writes : List ThreadWrite) → AllByRecursion (λ (w : ThreadWrite). AllByRecursion P (lines_of w.write)) writes
    → AllByRecursion P (all_lines writes)
all_flat P [] all = tt
all_flat P (w ∷ writes) all = all_append P (lines_of w.write) (all_lines writes) all.0 (all_flat P writes all.1)

-- ---- the law

module _ (writes : List ThreadWrite) (each : (w : ThreadWrite) → Contains writes w → HasItsSectors w) where
  ordered : AllByRecursion HasItsSectors (by_place writes)
  ordered = all_order first_of HasItsSectors writes (all_by_get HasItsSectors writes (λ k w at. each w (is_in writes k w at)))

  covers : (x : ℕ) → covered x (by_place writes) ≡ covered x writes
  covers x = total_order first_of (λ (w : ThreadWrite). between w.write.place.first (w.write.place.first + w.write.place.count) x) writes

  how_often : (x : ℕ) → times x (positions (all_lines (by_place writes))) ≡ covered x writes
  how_often x = times_lines x (by_place writes) ordered ∙ covers x

  pub are_tiled : (first claimed : ℕ) → ((x : ℕ) → covered x writes ≡ between first claimed x)
      → positions (all_lines (by_place writes)) ≡ range_with_len first (claimed - first)
  are_tiled first claimed tiled =
      same_numbers first first (positions (all_lines (by_place writes))) (range_with_len first (claimed - first))
      (climbs_of first (first + (claimed - first)) (all_lines (by_place writes))
      (lines_rise first (first + (claimed - first)) (by_place writes) ordered (order_rises first_of writes)
      (λ x. let is : covered x (by_place writes) ≡ between first claimed x = covers x ∙ tiled x in let most = at_most first claimed x in omega arith)
      (λ x some. lies x (let is : covered x (by_place writes) ≡ between first claimed x = covers x ∙ tiled x in omega arith))
      (omega arith)))
      (range_climbs first (claimed - first))
      (λ x. how_often x ∙ tiled x ∙ closing x (cases_lt x first) (cases_lt x claimed) ∙ sym (range_times x first (claimed - first)))
    where
      closing : (x : ℕ) → (x < first) ⊎ (first ≤ x) → (x < claimed) ⊎ (claimed ≤ x)
          → between first claimed x ≡ between first (first + (claimed - first)) x
      closing x (inl below) other = before first claimed x below ∙ sym (before first (first + (claimed - first)) x below)
      closing x (inr above) (inl low) = inside first claimed x above low ∙ sym (inside first (first + (claimed - first)) x above (omega arith))
      closing x (inr above) (inr high) = behind first claimed x high ∙ sym (behind first (first + (claimed - first)) x (omega arith))

      lies : (x : ℕ) → 0 < between first claimed x → (first ≤ x) × (x < first + (claimed - first))
      lies x some = by (cases_lt x first) (cases_lt x claimed)
        where
          by : (x < first) ⊎ (first ≤ x) → (x < claimed) ⊎ (claimed ≤ x) → (first ≤ x) × (x < first + (claimed - first))
          by (inl below) other = let none : between first claimed x ≡ 0 = before first claimed x below in absurd (omega arith)
          by (inr above) (inl low) = (above, omega arith)
          by (inr above) (inr high) = let none : between first claimed x ≡ 0 = behind first claimed x high in absurd (omega arith)

  pub are_history : (history : List PlacedSector) (from to : ℕ) → Rise from to history → ((x : ℕ) → covered x writes ≡ times x (positions history))
      → ((w : ThreadWrite) (line : PlacedSector) → Contains writes w → Contains (lines_of w.write) line → Contains history line)
      → all_lines (by_place writes) ≡ history
  are_history history from to rise once there =
      same_lines from from (all_lines (by_place writes)) history climbs (climbs_of from to history rise)
      (same_numbers from from (positions (all_lines (by_place writes))) (positions history) climbs (climbs_of from to history rise)
      (λ x. how_often x ∙ once x))
      (all_flat (IsAmong history) (by_place writes) (all_order first_of (λ (w : ThreadWrite). AllByRecursion (IsAmong history) (lines_of w.write)) writes
      (all_by_get (λ (w : ThreadWrite). AllByRecursion (IsAmong history) (lines_of w.write)) writes (λ k w at.
      all_by_get (IsAmong history) (lines_of w.write) (λ j line is.
      among_contained history line (there w line (is_in writes k w at) (is_in (lines_of w.write) j line is)))))))
    where
      climbs : Climbs from (positions (all_lines (by_place writes)))
      climbs = climbs_of from to (all_lines (by_place writes))
          (lines_rise from to (by_place writes) ordered (order_rises first_of writes)
          (λ x.
          let is : covered x (by_place writes) ≡ times x (positions history) = covers x ∙ once x in
          let most : times x (positions history) ≤ 1 = at_most_once x from (positions history) (climbs_of from to history rise) in
          omega arith)
          (λ x some. bounds x from to history rise
          (let is : covered x (by_place writes) ≡ times x (positions history) = covers x ∙ once x in omega arith))
          (rise_order from to history rise))

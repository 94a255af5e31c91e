-- What an entry that is taken changes in the table: one of a sector takes it over from its line, a
-- Void one changes nothing.
use Rattle.std.proofs.Common.{◌≡◌, ◌≢◌, ℕ, ◌+◌, ◌-◌, ◌/◌, ◌<◌, ◌≤◌, ◌==◌, ◌&&◌, zero, suc, not, nat_eq, nat_lt, Bool, true, false, cond, Some, None, Option, List, [], ◌∷◌, ◌++◌, length, refl, sym, ap, ap₂, ◌∙◌, arith, append-nil}
use Rattle.std.specs.Prelude.{if◌then◌else◌}
use Rattle.std.specs.List.{AllByRecursion, filter, last_or, range_with_len, find}
use Rattle.std.specs.Option.{option_map, option_and_then}
use Rattle.std.proofs.lemmas.Bool.{eqb-true}
use Rattle.std.proofs.lemmas.Option.{none-some}
use Rattle.pblk_model.specs.declared.shape.Shape.{Shape}
use Rattle.pblk_model.specs.declared.chunk.Mark.{Mark}
use Rattle.pblk_model.specs.Image.{Image, width}
use Rattle.pblk_model.specs.Records.{Record}
use Rattle.pblk_model.specs.Contents.{is_of, counted, winner}
use Rattle.pblk_world.specs.Events.{Entry, Take, Decides, Logged}
use Rattle.pblk_world.specs.World.{Logs}
use Rattle.pblk_world.specs.EngineLog.{LineLife, AsFound, Opened, Freed, life_of, Placed, placements, was_lost, holds_position, Taken, takes, is_as_found, is_life}
use Rattle.pblk_world.specs.Fronts.{first_position, taken, last_take}
use Rattle.pblk_world.specs.Lines.{known_image, are_empty, found_image}
use Rattle.pblk_world.specs.Placing.{line_end}
use Rattle.pblk_world.specs.Victims.{is_freed, is_in_force, line_of_position, line_of, is_live_in, live, take_before, landed_line_of, took_from}
use Rattle.world_laws.proofs.HeldSectors.{last_last}
use Rattle.line_table.specs.declared.row.LineState.TheVariants as states
use Rattle.line_table.specs.Rows.{latest, lost_to_taker, lowered}
use Rattle.core_laws.specs.Stepping.{after}
use Rattle.core_laws.specs.PlacerOf.{positions_of}
use Rattle.core_laws.specs.Positions.{IsUnplaced, AreNumbered}
use Rattle.core_laws.specs.RowsOf.{state_in, width_in, taker_by, taker_in, row_of_line, rows_of}
use Rattle.core_laws.proofs.Placing.{not_below}
use Rattle.core_laws.proofs.Taking.{filter_last}
use Rattle.core_laws.specs.ChangedTables.{lose_in}
use Rattle.core_laws.specs.InOrder.{FreedBefore}
use Rattle.core_laws.proofs.KeptStripes.{with_event, KeepsStripes, stripes_kept, lives_kept, alike_kept, have_landed_alike}
use Rattle.core_laws.proofs.KeptRows.{known_kept, KeepsChunks, state_same, width_same, live_same, same_row, KeepsThen, then_kept, taker_same}
use Rattle.core_laws.proofs.LandedRows.{line_of_kept, landed_of_kept}
use Rattle.core_laws.proofs.OpenAddresses.{failed_kept}
use Rattle.core_laws.proofs.ChangedTables.{row_changes_any, rows_stay}
use Rattle.core_laws.proofs.NextTakes.{latest_is}
use Rattle.core_laws.proofs.SteppingLemmas.{found_kept}
use Rattle.pblk_model.proofs.Lists.{all_imply, last_in}
use Rattle.pblk_model.proofs.Maps.{all_filter, all_in_range, filter_agree, find_none, found_passes}
use Rattle.pblk_model.proofs.Tests.{and_false, and_true, lt_true, not_first, other_number, same_number}
use Rattle.pblk_world.proofs.EngineLogLemmas.{takes_more}
use Rattle.core_laws.proofs.PlainOpenings.{third}

-- ---- positions below the next one

below_by : (a n : ℕ) (ts : List Taken) → positions_of ts ≡ range_with_len a n → AllByRecursion (λ t. t.entry.position < a + n) ts
below_by a n [] e = tt
below_by a zero (t ∷ ts) e = absurd cc
below_by a (suc n) (t ∷ ts) e =
    let first : t.entry.position ≡ a = cc in
    let rest : positions_of ts ≡ range_with_len (a + 1) n = cc in
    let later : AllByRecursion (λ u. u.entry.position < a + 1 + n) ts = below_by (a + 1) n ts rest in
    (omega arith, all_imply (λ (u : Taken). u.entry.position < a + 1 + n) (λ (u : Taken). u.entry.position < a + suc n) (λ u h. omega arith) ts later)

pub all_below : (log : List Logged) → AreNumbered log → AllByRecursion (λ t. t.entry.position < taken log) (takes log)
all_below log numbered = below_by (first_position log) (length (takes log)) (takes log) numbered

-- ---- the latest entry of each sector

abbrev new_taken : Entry → Mark → Taken
new_taken entry mark = record { entry = entry; mark = mark }

takes_now : (log : List Logged) (entry : Entry) (mark : Mark) (knows : List ℕ)
    → takes (with_event log (Take entry mark) knows) ≡ takes log ++ new_taken entry mark ∷ []
takes_now log entry mark knows = takes_more log (record { event = Decides (Take entry mark); knows = knows })

last_now : (log : List Logged) (entry : Entry) (mark : Mark) (knows : List ℕ) (lba : ℕ) (b : Bool) → (mark.lba == lba) ≡ b
    → last_take (with_event log (Take entry mark) knows) lba ≡ (if b then Some (new_taken entry mark) else last_take log lba)
last_now log entry mark knows lba b e =
    ap (last_or None) (ap (filter (λ (t : Taken). t.mark.lba == lba)) (takes_now log entry mark knows)
    ∙ filter_last (λ (t : Taken). t.mark.lba == lba) (takes log) (new_taken entry mark) b e)
    ∙ go b
  where
    go : (b : Bool) → last_or None (filter (λ (t : Taken). t.mark.lba == lba) (takes log) ++ cond b (new_taken entry mark ∷ []) []) ≡
        (if b then Some (new_taken entry mark) else last_take log lba)
    go true = last_last None (filter (λ (t : Taken). t.mark.lba == lba) (takes log)) (new_taken entry mark)
    go false = ap (last_or None) (append-nil (filter (λ (t : Taken). t.mark.lba == lba) (takes log)))

-- an entry taken before has none after it before it
before_old : (log : List Logged) (entry : Entry) (mark : Mark) (knows : List ℕ) (t : Taken) → t.entry.position < entry.position
    → take_before (with_event log (Take entry mark) knows) t ≡ take_before log t
before_old log entry mark knows t below =
    ap (last_or None) (ap (filter (λ (u : Taken). (u.mark.lba == t.mark.lba) && nat_lt u.entry.position t.entry.position)) (takes_now log entry mark knows)
    ∙ filter_last (λ (u : Taken). (u.mark.lba == t.mark.lba) && nat_lt u.entry.position t.entry.position) (takes log) (new_taken entry mark) false
    (and_false (mark.lba == t.mark.lba) (nat_lt entry.position t.entry.position) (not_below t.entry.position entry.position (omega arith)))
    ∙ append-nil (filter (λ (u : Taken). (u.mark.lba == t.mark.lba) && nat_lt u.entry.position t.entry.position) (takes log)))

-- before the new one is the sector's latest
before_new : (log : List Logged) (entry : Entry) (mark : Mark) (knows : List ℕ) → AreNumbered log → entry.position ≡ taken log
    → take_before (with_event log (Take entry mark) knows) (new_taken entry mark) ≡ last_take log mark.lba
before_new log entry mark knows numbered next =
    ap (last_or None) (ap (filter (λ (u : Taken). (u.mark.lba == mark.lba) && nat_lt u.entry.position entry.position)) (takes_now log entry mark knows)
    ∙ filter_last (λ (u : Taken). (u.mark.lba == mark.lba) && nat_lt u.entry.position entry.position) (takes log) (new_taken entry mark) false
    (and_false (mark.lba == mark.lba) (nat_lt entry.position entry.position) (not_below entry.position entry.position (omega arith)))
    ∙ append-nil (filter (λ (u : Taken). (u.mark.lba == mark.lba) && nat_lt u.entry.position entry.position) (takes log))
    ∙ filter_agree (λ (u : Taken). u.entry.position < taken log) (λ (u : Taken). (u.mark.lba == mark.lba) && nat_lt u.entry.position entry.position)
    (λ (u : Taken). u.mark.lba == mark.lba)
    (λ u below. and_true (u.mark.lba == mark.lba) (nat_lt u.entry.position entry.position) (lt_true u.entry.position entry.position (omega arith))) (takes log)
    (all_below log numbered))

-- an entry that no stripe holds is in no line
pub in_no_line : (s : Shape) (log : List Logged) (position : ℕ) → IsUnplaced s log position → line_of_position s log position ≡ None
in_no_line s log position none = ap (option_map (λ (p : Placed). p.stripe.line))
    (find_none (λ (p : Placed). holds_position s position p && not (was_lost log p) && is_in_force log p.life p.stripe.line) (placements log)
    (all_imply (λ (p : Placed). holds_position s position p ≡ false)
    (λ (p : Placed). (holds_position s position p && not (was_lost log p) && is_in_force log p.life p.stripe.line) ≡ false)
    (λ p h. not_first (holds_position s position p && not (was_lost log p)) (is_in_force log p.life p.stripe.line)
    (not_first (holds_position s position p) (not (was_lost log p)) h)) (placements log) none))

-- ---- sectors live in a line

-- the sector of the entry
live_taken : (i : Image) (logs : Logs) (entry : Entry) (mark : Mark) (knows : List ℕ) (line lba : ℕ) → (mark.lba == lba) ≡ true
    → IsUnplaced i.shape (logs 0) entry.position → is_live_in i (after logs (Take entry mark) knows) line lba ≡ false
live_taken i logs entry mark knows line lba e none =
    ap (λ t. is_of line (line_of i (after logs (Take entry mark) knows) lba t)) (last_now (logs 0) entry mark knows lba true e)
    ∙ ap (is_of line) (line_of_kept i logs (Take entry mark) knows refl refl lba (Some (new_taken entry mark))
    ∙ in_no_line i.shape (logs 0) entry.position none)

-- another one
live_beside : (i : Image) (logs : Logs) (entry : Entry) (mark : Mark) (knows : List ℕ) (line lba : ℕ) → (mark.lba == lba) ≡ false
    → is_live_in i (after logs (Take entry mark) knows) line lba ≡ is_live_in i logs line lba
live_beside i logs entry mark knows line lba e =
    ap (λ t. is_of line (line_of i (after logs (Take entry mark) knows) lba t)) (last_now (logs 0) entry mark knows lba false e)
    ∙ ap (is_of line) (line_of_kept i logs (Take entry mark) knows refl refl lba (last_take (logs 0) lba))

count_above : (f g : ℕ → Bool) (n a : ℕ) → ((m : ℕ) → a ≤ m → g m ≡ f m) → length (filter g (range_with_len a n)) ≡ length (filter f (range_with_len a n))
count_above f g zero a same = refl
count_above f g (suc n) a same =
    ap₂ (λ b xs. length (cond b (a ∷ xs) (filter g (range_with_len (a + 1) n)))) (same a (omega arith)) refl
    ∙ go (f a) (count_above f g n (a + 1) (λ m above. same m (omega arith)))
  where
    go : (b : Bool) → length (filter g (range_with_len (a + 1) n)) ≡ length (filter f (range_with_len (a + 1) n))
        → length (cond b (a ∷ filter g (range_with_len (a + 1) n)) (filter g (range_with_len (a + 1) n))) ≡ length
        (cond b (a ∷ filter f (range_with_len (a + 1) n)) (filter f (range_with_len (a + 1) n)))
    go true rest = ap suc rest
    go false rest = rest

-- one number passes no more
pub count_less : (f g : ℕ → Bool) (n a k : ℕ) → k < n → f (a + k) ≡ true → g (a + k) ≡ false → ((m : ℕ) → m ≢ a + k → g m ≡ f m)
    → length (filter f (range_with_len a n)) ≡ length (filter g (range_with_len a n)) + 1
count_less f g zero a k within passes fails others = absurd (omega arith)
count_less f g (suc n) a zero within passes fails others =
    let first : a + 0 ≡ a = omega arith in
    let rest : length (filter g (range_with_len (a + 1) n)) ≡ length (filter f (range_with_len (a + 1) n)) =
    count_above f g n (a + 1) (λ m above. others m (λ e. absurd (omega arith))) in
    let old : length (filter f (a ∷ range_with_len (a + 1) n)) ≡ suc (length (filter f (range_with_len (a + 1) n))) =
    ap (λ b. length (cond b (a ∷ filter f (range_with_len (a + 1) n)) (filter f (range_with_len (a + 1) n)))) (ap f (sym first) ∙ passes) in
    let new : length (filter g (a ∷ range_with_len (a + 1) n)) ≡ length (filter g (range_with_len (a + 1) n)) =
    ap (λ b. length (cond b (a ∷ filter g (range_with_len (a + 1) n)) (filter g (range_with_len (a + 1) n)))) (ap g (sym first) ∙ fails) in
    omega arith
count_less f g (suc n) a (suc k) within passes fails others =
    let next : a + suc k ≡ a + 1 + k = omega arith in
    let rest : length (filter f (range_with_len (a + 1) n)) ≡ length (filter g (range_with_len (a + 1) n)) + 1 =
    count_less f g n (a + 1) k (omega arith) (ap f (sym next) ∙ passes) (ap g (sym next) ∙ fails) (λ m other. others m (λ e. other (e ∙ next))) in
    go (f a) (g a) (others a (λ e. absurd (omega arith))) rest
  where
    go : (b c : Bool) → c ≡ b → length (filter f (range_with_len (a + 1) n)) ≡ length (filter g (range_with_len (a + 1) n)) + 1
        → length (cond b (a ∷ filter f (range_with_len (a + 1) n)) (filter f (range_with_len (a + 1) n))) ≡ length
        (cond c (a ∷ filter g (range_with_len (a + 1) n)) (filter g (range_with_len (a + 1) n))) + 1
    go true true e rest = omega arith
    go false false e rest = rest
    go true false e rest = absurd cc
    go false true e rest = absurd cc

lost_one : (i : Image) (logs : Logs) (entry : Entry) (mark : Mark) (knows : List ℕ) (line : ℕ) → IsUnplaced i.shape (logs 0) entry.position
    → mark.lba < i.shape.capacity
    → is_live_in i logs line mark.lba ≡ true → live i (after logs (Take entry mark) knows) line ≡ live i logs line - 1
lost_one i logs entry mark knows line none inside was =
    let new : Logs = after logs (Take entry mark) knows in
    let first : 0 + mark.lba ≡ mark.lba = omega arith in
    let fewer : length (filter (is_live_in i logs line) (range_with_len 0 i.shape.capacity)) ≡ length
    (filter (is_live_in i new line) (range_with_len 0 i.shape.capacity)) + 1 =
    count_less (is_live_in i logs line) (is_live_in i new line) i.shape.capacity 0 mark.lba inside (ap (is_live_in i logs line) first ∙ was)
    (ap (is_live_in i new line) first ∙ live_taken i logs entry mark knows line mark.lba (same_number mark.lba) none)
    (λ m other. live_beside i logs entry mark knows line m (other_number mark.lba m (λ e. other (sym e ∙ sym first)))) in
    omega arith

lost_none : (i : Image) (logs : Logs) (entry : Entry) (mark : Mark) (knows : List ℕ) (line : ℕ) → IsUnplaced i.shape (logs 0) entry.position
    → is_live_in i logs line mark.lba ≡ false → live i (after logs (Take entry mark) knows) line ≡ live i logs line
lost_none i logs entry mark knows line none was = live_same i logs (after logs (Take entry mark) knows) line (λ lba. each lba (nat_eq mark.lba lba) refl)
  where
    each : (lba : ℕ) (b : Bool) → nat_eq mark.lba lba ≡ b → is_live_in i (after logs (Take entry mark) knows) line lba ≡ is_live_in i logs line lba
    each lba true e = live_taken i logs entry mark knows line lba e none ∙ sym (ap (is_live_in i logs line) (sym (eqb-true mark.lba lba e)) ∙ was)
    each lba false e = live_beside i logs entry mark knows line lba e

-- none of the sectors below the capacity is that of the entry
lost_outside : (i : Image) (logs : Logs) (entry : Entry) (mark : Mark) (knows : List ℕ) (line : ℕ) → i.shape.capacity ≤ mark.lba
    → live i (after logs (Take entry mark) knows) line ≡ live i logs line
lost_outside i logs entry mark knows line outside =
    ap length (filter_agree (λ lba. lba < i.shape.capacity) (is_live_in i (after logs (Take entry mark) knows) line) (is_live_in i logs line)
    (λ lba low. live_beside i logs entry mark knows line lba (other_number mark.lba lba (λ e. absurd (omega arith))))
    (range_with_len 0 i.shape.capacity) (all_in_range 0 i.shape.capacity i.shape.capacity (omega arith)))

-- ---- takers

took_old : (i : Image) (logs : Logs) (entry : Entry) (mark : Mark) (knows : List ℕ) (line : ℕ) (t : Taken) → t.entry.position < entry.position
    → took_from i (after logs (Take entry mark) knows) line t ≡ took_from i logs line t
took_old i logs entry mark knows line t below = ap (λ b. nat_lt t.mark.lba i.shape.capacity && b)
    (ap (λ u. is_of line (landed_line_of i (after logs (Take entry mark) knows) t.mark.lba u)) (before_old (logs 0) entry mark knows t below)
    ∙ ap (is_of line) (landed_of_kept i logs (Take entry mark) knows refl refl (λ unit. refl) t.mark.lba (take_before (logs 0) t)))

-- whether an entry of this sector takes it from the line
abbrev takes_over : Image → Logs → ℕ → ℕ → Bool
takes_over i logs line lba = nat_lt lba i.shape.capacity && is_of line (landed_line_of i logs lba (last_take (logs 0) lba))

takes_from : (i : Image) (logs : Logs) (line lba : ℕ) → lba < i.shape.capacity → is_of line (landed_line_of i logs lba (last_take (logs 0) lba)) ≡ true
    → takes_over i logs line lba ≡ true
takes_from i logs line lba inside is = ap₂ (λ a b. a && b) (lt_true lba i.shape.capacity inside) is

took_new : (i : Image) (logs : Logs) (entry : Entry) (mark : Mark) (knows : List ℕ) (line : ℕ) → AreNumbered (logs 0) → entry.position ≡ taken (logs 0)
    → took_from i (after logs (Take entry mark) knows) line (new_taken entry mark) ≡ takes_over i logs line mark.lba
took_new i logs entry mark knows line numbered next = ap (λ b. nat_lt mark.lba i.shape.capacity && b)
    (ap (λ u. is_of line (landed_line_of i (after logs (Take entry mark) knows) mark.lba u)) (before_new (logs 0) entry mark knows numbered next)
    ∙ ap (is_of line) (landed_of_kept i logs (Take entry mark) knows refl refl (λ unit. refl) mark.lba (last_take (logs 0) mark.lba)))

takers_now : (i : Image) (logs : Logs) (entry : Entry) (mark : Mark) (knows : List ℕ) (line : ℕ) (b : Bool) → AreNumbered (logs 0)
    → entry.position ≡ taken (logs 0) → takes_over i logs line mark.lba ≡ b
    → filter (took_from i (after logs (Take entry mark) knows) line) (takes (after logs (Take entry mark) knows 0)) ≡ filter (took_from i logs line)
    (takes (logs 0)) ++ cond b (new_taken entry mark ∷ []) []
takers_now i logs entry mark knows line b numbered next is =
    let new : Logs = after logs (Take entry mark) knows in
    ap (filter (took_from i new line)) (takes_now (logs 0) entry mark knows)
    ∙ filter_last (took_from i new line) (takes (logs 0)) (new_taken entry mark) b (took_new i logs entry mark knows line numbered next ∙ is)
    ∙ ap (λ xs. xs ++ cond b (new_taken entry mark ∷ []) [])
    (filter_agree (λ (t : Taken). t.entry.position < taken (logs 0)) (took_from i new line) (took_from i logs line)
    (λ t below. took_old i logs entry mark knows line t (omega arith)) (takes (logs 0)) (all_below (logs 0) numbered))

taker_lost : (i : Image) (logs : Logs) (entry : Entry) (mark : Mark) (knows : List ℕ) (line : ℕ) → AreNumbered (logs 0) → entry.position ≡ taken (logs 0)
    → takes_over i logs line mark.lba ≡ true
    → taker_by i (after logs (Take entry mark) knows) line ≡ Some (latest (taker_by i logs line) entry.position)
taker_lost i logs entry mark knows line numbered next is =
    let ts : List Taken = filter (took_from i logs line) (takes (logs 0)) in
    ap (λ (us : List Taken). option_map (λ (t : Taken). t.entry.position) (last_or None us)) (takers_now i logs entry mark knows line true numbered next is)
    ∙ ap (option_map (λ (t : Taken). t.entry.position)) (last_last None ts (new_taken entry mark))
    ∙ ap (λ n. Some n) (sym (latest_is entry.position (last_or None ts) (λ t e.
    let below : t.entry.position < taken (logs 0) = last_in (λ (u : Taken). u.entry.position < taken (logs 0)) None ts t (λ y f. absurd (none-some y f))
    (all_filter (λ (u : Taken). u.entry.position < taken (logs 0)) (took_from i logs line) (takes (logs 0)) (all_below (logs 0) numbered)) e in
    omega arith)))

taker_same_now : (i : Image) (logs : Logs) (entry : Entry) (mark : Mark) (knows : List ℕ) (line : ℕ) → AreNumbered (logs 0) → entry.position ≡ taken (logs 0)
    → takes_over i logs line mark.lba ≡ false → taker_by i (after logs (Take entry mark) knows) line ≡ taker_by i logs line
taker_same_now i logs entry mark knows line numbered next is =
    ap (λ (us : List Taken). option_map (λ (t : Taken). t.entry.position) (last_or None us))
    (takers_now i logs entry mark knows line false numbered next is ∙ append-nil (filter (took_from i logs line) (takes (logs 0))))

-- ---- rows

pub taker_is : (i : Image) (logs : Logs) (line : ℕ) (life : LineLife) → is_freed life ≡ false → taker_in i logs line life ≡ taker_by i logs line
taker_is i logs line AsFound e = refl
taker_is i logs line (Opened o) e = refl
taker_is i logs line (Freed past knows) e = absurd cc

record IsStateKept (i : Image) (logs new : Logs) (line : ℕ) : Type 0 where
  state : state_in i new line (life_of (new 0) line) ≡ state_in i logs line (life_of (logs 0) line)
  wide : width_in i new line (life_of (new 0) line) ≡ width_in i logs line (life_of (logs 0) line)
  life : life_of (new 0) line ≡ life_of (logs 0) line
  then_ : KeepsThen i logs new line (life_of (logs 0) line)

state_kept : (i : Image) (logs : Logs) (entry : Entry) (mark : Mark) (knows : List ℕ) (line : ℕ) → FreedBefore (logs 0)
    → IsStateKept i logs (after logs (Take entry mark) knows) line
state_kept i logs entry mark knows line before =
    let new : Logs = after logs (Take entry mark) knows in
    let kept : KeepsStripes (logs 0) (new 0) = stripes_kept (logs 0) (Take entry mark) knows refl in
    let life : life_of (new 0) line ≡ life_of (logs 0) line = lives_kept (logs 0) (Take entry mark) knows line refl in
    let known : known_image i new ≡ known_image i logs = known_kept i logs (Take entry mark) knows refl (λ unit. refl) in
    let then_ : KeepsThen i logs new line (life_of (logs 0) line) = then_kept i logs (Take entry mark) knows line before in
    let chunks : KeepsChunks i logs new line =
    record {
      found = found_kept i logs (Take entry mark) knows refl;
      empty = ap (λ (j : Image). are_empty j line) known;
      wide =
          ap (λ (j : Image). width j line) known;
    } in
    record {
      state = ap (state_in i new line) life ∙ state_same i logs new line (life_of (logs 0) line) chunks
          (λ o is. ap₂ (λ a b. if a then states.Failed else if b then states.Full else states.Open) (failed_kept (logs 0) (new 0) kept o)
          (have_landed_alike (logs 0) (new 0) (alike_kept (logs 0) (Take entry mark) knows refl (λ unit. refl)) o (line_end i.shape o / i.shape.ws_opt)));
      wide = ap (width_in i new line) life ∙ width_same i logs new line (life_of (logs 0) line) chunks then_;
      life = life;
      then_ = then_;
    }

-- the line has as many live sectors, and nothing was taken from it
row_same_now : (i : Image) (logs : Logs) (entry : Entry) (mark : Mark) (knows : List ℕ) (line : ℕ) → FreedBefore (logs 0) → AreNumbered (logs 0)
    → entry.position ≡ taken (logs 0) → live i (after logs (Take entry mark) knows) line ≡ live i logs line → takes_over i logs line mark.lba ≡ false
    → row_of_line i (after logs (Take entry mark) knows) line ≡ row_of_line i logs line
row_same_now i logs entry mark knows line before numbered next lives apart =
    let new : Logs = after logs (Take entry mark) knows in
    let kept : IsStateKept i logs new line = state_kept i logs entry mark knows line before in
    same_row (row_of_line i new line).state (row_of_line i logs line).state (row_of_line i new line).width (row_of_line i logs line).width (live i new line)
    (live i logs line)
    (row_of_line i new line).taker (row_of_line i logs line).taker kept.state kept.wide lives
    (ap (taker_in i new line) kept.life
    ∙ taker_same i logs new line (life_of (logs 0) line) kept.then_ (taker_same_now i logs entry mark knows line numbered next apart))

-- the sector was live in another line, or in none
row_beside : (i : Image) (logs : Logs) (entry : Entry) (mark : Mark) (knows : List ℕ) (line : ℕ) → FreedBefore (logs 0) → AreNumbered (logs 0)
    → IsUnplaced i.shape (logs 0) entry.position → entry.position ≡ taken (logs 0)
    → is_live_in i logs line mark.lba ≡ false → is_of line (landed_line_of i logs mark.lba (last_take (logs 0) mark.lba)) ≡ false
    → row_of_line i (after logs (Take entry mark) knows) line ≡ row_of_line i logs line
row_beside i logs entry mark knows line before numbered none next is apart =
    row_same_now i logs entry mark knows line before numbered next (lost_none i logs entry mark knows line none is)
    (and_false (nat_lt mark.lba i.shape.capacity) (is_of line (landed_line_of i logs mark.lba (last_take (logs 0) mark.lba))) apart)

unfreed_found : (life : LineLife) → is_as_found life ≡ true → is_freed life ≡ false
unfreed_found AsFound e = refl
unfreed_found (Opened o) e = absurd cc
unfreed_found (Freed was knows) e = absurd cc

-- a line in which a sector is wasn't freed
in_force_unfreed : (log : List Logged) (line : ℕ) (life : LineLife) → is_in_force log life line ≡ true → is_freed (life_of log line) ≡ false
in_force_unfreed log line AsFound in_force = absurd cc
in_force_unfreed log line (Opened o) in_force = go (life_of log line) in_force
  where
    go : (now : LineLife) → is_life o.number now ≡ true → is_freed now ≡ false
    go AsFound e = absurd cc
    go (Opened p) e = refl
    go (Freed was knows) e = absurd cc
in_force_unfreed log line (Freed was knows) in_force = absurd cc

live_unfreed : (i : Image) (logs : Logs) (lba : ℕ) (t : Option Taken) (line : ℕ) → is_of line (line_of i logs lba t) ≡ true
    → is_freed (life_of (logs 0) line) ≡ false
live_unfreed i logs lba None line is = by_winner (winner (counted (found_image i logs)) lba) is
  where
    as_found : (b : Bool) (at : ℕ) → is_as_found (life_of (logs 0) at) ≡ b → is_of line (if b then Some at else None) ≡ true
        → is_freed (life_of (logs 0) line) ≡ false
    as_found true at e h = ap (λ n. is_freed (life_of (logs 0) n)) (sym (eqb-true at line h)) ∙ unfreed_found (life_of (logs 0) at) e
    as_found false at e h = absurd cc

    by_winner : (o : Option Record)
        → is_of line (option_and_then (λ (r : Record). if is_as_found (life_of (logs 0) r.line) then Some r.line else None) o) ≡ true
        → is_freed (life_of (logs 0) line) ≡ false
    by_winner None h = absurd cc
    by_winner (Some r) h = as_found (is_as_found (life_of (logs 0) r.line)) r.line refl h
live_unfreed i logs lba (Some t) line is = by_stripe (find in_line (placements (logs 0))) refl is
  where
    in_line : Placed → Bool
    in_line p = holds_position i.shape t.entry.position p && not (was_lost (logs 0) p) && is_in_force (logs 0) p.life p.stripe.line

    by_stripe : (o : Option Placed) → find in_line (placements (logs 0)) ≡ o → is_of line (option_map (λ (p : Placed). p.stripe.line) o) ≡ true
        → is_freed (life_of (logs 0) line) ≡ false
    by_stripe None e h = absurd cc
    by_stripe (Some p) e h = ap (λ n. is_freed (life_of (logs 0) n)) (sym (eqb-true p.stripe.line line h))
        ∙ in_force_unfreed (logs 0) p.stripe.line p.life
        (third (holds_position i.shape t.entry.position p) (not (was_lost (logs 0) p)) (is_in_force (logs 0) p.life p.stripe.line)
        (found_passes in_line (placements (logs 0)) p e).0)

-- it was live there, and had landed
row_lost : (i : Image) (logs : Logs) (entry : Entry) (mark : Mark) (knows : List ℕ) (line : ℕ) → FreedBefore (logs 0) → AreNumbered (logs 0)
    → IsUnplaced i.shape (logs 0) entry.position → entry.position ≡ taken (logs 0)
    → mark.lba < i.shape.capacity → is_live_in i logs line mark.lba ≡ true → is_of line (landed_line_of i logs mark.lba (last_take (logs 0) mark.lba)) ≡ true
    → row_of_line i (after logs (Take entry mark) knows) line ≡ lost_to_taker entry.position (row_of_line i logs line)
row_lost i logs entry mark knows line before numbered none next inside is there =
    let new : Logs = after logs (Take entry mark) knows in
    let kept : IsStateKept i logs new line = state_kept i logs entry mark knows line before in
    let unfreed : is_freed (life_of (logs 0) line) ≡ false = live_unfreed i logs mark.lba (last_take (logs 0) mark.lba) line is in
    same_row (row_of_line i new line).state (row_of_line i logs line).state (row_of_line i new line).width (row_of_line i logs line).width (live i new line)
    (live i logs line - 1)
    (row_of_line i new line).taker (Some (latest (row_of_line i logs line).taker entry.position)) kept.state kept.wide
    (lost_one i logs entry mark knows line none inside is)
    (ap (taker_in i new line) kept.life
    ∙ taker_is i new line (life_of (logs 0) line) unfreed
    ∙ taker_lost i logs entry mark knows line numbered next (takes_from i logs line mark.lba inside there)
    ∙ ap (λ t. Some (latest t entry.position)) (sym (taker_is i logs line (life_of (logs 0) line) unfreed)))

-- it was live there, and hadn't landed
row_lowered : (i : Image) (logs : Logs) (entry : Entry) (mark : Mark) (knows : List ℕ) (line : ℕ) → FreedBefore (logs 0) → AreNumbered (logs 0)
    → IsUnplaced i.shape (logs 0) entry.position → entry.position ≡ taken (logs 0)
    → mark.lba < i.shape.capacity → is_live_in i logs line mark.lba ≡ true → is_of line (landed_line_of i logs mark.lba (last_take (logs 0) mark.lba)) ≡ false
    → row_of_line i (after logs (Take entry mark) knows) line ≡ lowered (row_of_line i logs line)
row_lowered i logs entry mark knows line before numbered none next inside is apart =
    let new : Logs = after logs (Take entry mark) knows in
    let kept : IsStateKept i logs new line = state_kept i logs entry mark knows line before in
    same_row (row_of_line i new line).state (row_of_line i logs line).state (row_of_line i new line).width (row_of_line i logs line).width (live i new line)
    (live i logs line - 1)
    (row_of_line i new line).taker (row_of_line i logs line).taker kept.state kept.wide (lost_one i logs entry mark knows line none inside is)
    (ap (taker_in i new line) kept.life
    ∙ taker_same i logs new line (life_of (logs 0) line) kept.then_ (taker_same_now i logs entry mark knows line numbered next
    (and_false (nat_lt mark.lba i.shape.capacity) (is_of line (landed_line_of i logs mark.lba (last_take (logs 0) mark.lba))) apart)))

-- by the line in which it was live, and whether it had landed there
pub rows_taken : (i : Image) (logs : Logs) (entry : Entry) (mark : Mark) (knows : List ℕ) (landed : Bool) → FreedBefore (logs 0) → AreNumbered (logs 0)
    → IsUnplaced i.shape (logs 0) entry.position
    → entry.position ≡ taken (logs 0) → mark.lba < i.shape.capacity
    → landed_line_of i logs mark.lba (last_take (logs 0) mark.lba) ≡ (if landed then line_of i logs mark.lba (last_take (logs 0) mark.lba) else None)
    → rows_of i (after logs (Take entry mark) knows) ≡ lose_in (line_of i logs mark.lba (last_take (logs 0) mark.lba)) landed entry.position (rows_of i logs)
rows_taken i logs entry mark knows landed before numbered none next inside there = go (line_of i logs mark.lba (last_take (logs 0) mark.lba)) refl landed there
  where
    new : Logs
    new = after logs (Take entry mark) knows

    none_of : (o : Option ℕ) (b : Bool) → o ≡ None → (if b then o else None) ≡ None
    none_of o true e = e
    none_of o false e = refl

    apart_by : (m line : ℕ) (b : Bool) → m ≢ line → is_of m (if b then Some line else None) ≡ false
    apart_by m line true other = other_number line m (λ f. other (sym f))
    apart_by m line false other = refl

    go : (o : Option ℕ) → line_of i logs mark.lba (last_take (logs 0) mark.lba) ≡ o → (b : Bool)
        → landed_line_of i logs mark.lba (last_take (logs 0) mark.lba) ≡ (if b then line_of i logs mark.lba (last_take (logs 0) mark.lba) else None)
        → rows_of i new ≡ lose_in o b entry.position (rows_of i logs)
    go None e b is = rows_stay i logs new (λ m. row_beside i logs entry mark knows m before numbered none next (ap (is_of m) e)
        (ap (is_of m) (is ∙ none_of (line_of i logs mark.lba (last_take (logs 0) mark.lba)) b e)))
    go (Some line) e true is = row_changes_any i logs new line (lost_to_taker entry.position)
        (row_lost i logs entry mark knows line before numbered none next inside (ap (is_of line) e ∙ same_number line)
        (ap (is_of line) (is ∙ e) ∙ same_number line))
        (λ m other. row_beside i logs entry mark knows m before numbered none next (ap (is_of m) e ∙ other_number line m (λ f. other (sym f)))
        (ap (is_of m) (is ∙ e) ∙ apart_by m line true other))
    go (Some line) e false is = row_changes_any i logs new line lowered
        (row_lowered i logs entry mark knows line before numbered none next inside (ap (is_of line) e ∙ same_number line) (ap (is_of line) is))
        (λ m other. row_beside i logs entry mark knows m before numbered none next (ap (is_of m) e ∙ other_number line m (λ f. other (sym f)))
        (ap (is_of m) is))

-- a Void entry
pub rows_void : (i : Image) (logs : Logs) (entry : Entry) (mark : Mark) (knows : List ℕ) → FreedBefore (logs 0) → AreNumbered (logs 0)
    → entry.position ≡ taken (logs 0) → i.shape.capacity ≤ mark.lba → rows_of i (after logs (Take entry mark) knows) ≡ rows_of i logs
rows_void i logs entry mark knows before numbered next outside = rows_stay i logs (after logs (Take entry mark) knows) (λ m.
    row_same_now i logs entry mark knows m before numbered next (lost_outside i logs entry mark knows m outside)
    (ap (λ b. b && is_of m (landed_line_of i logs mark.lba (last_take (logs 0) mark.lba))) (not_below i.shape.capacity mark.lba outside)))

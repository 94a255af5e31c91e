-- What a stripe that is placed changes in the table.
use Rattle.std.specs.Option.{option_map, is_some}
use Rattle.std.proofs.Common.{◌≡◌, ◌⊎◌, ℕ, ◌+◌, ◌/◌, ◌<◌, ◌≤◌, ◌&&◌, ◌||◌, not, nat_le, Bool, true, false, None, List, [], ◌∷◌, ◌++◌, length, take, refl, sym, subst, ap, ap₂, ◌∙◌, arith, append-nil, length-append, le_of_lt, take_all, if◌then◌else◌}
use Rattle.std.specs.Prelude.{slice_get}
use Rattle.std.specs.List.{AllByRecursion, list_any, list_all}
use Rattle.std.proofs.lemmas.List.{take-append-le}
use Rattle.std.proofs.lemmas.List.Folds.{list_any-append, list_all-append}
use Rattle.pblk_model.specs.declared.shape.Shape.{Shape}
use Rattle.pblk_model.specs.Marks.{meta_lba}
use Rattle.pblk_model.specs.Image.{Image, width}
use Rattle.pblk_model.specs.Contents.{is_of}
use Rattle.pblk_model.specs.Records.{named}
use Rattle.pblk_world.specs.Events.{Stripe, Place, Decides, Logged}
use Rattle.pblk_world.specs.World.{Logs}
use Rattle.pblk_world.specs.EngineLog.{Opened, is_life, life_of, Opening, Placed, placements, stripes_of, was_lost, is_loss, is_land, has_landed, has_failed, holds_position, Taken, takes, AsFound, Freed, LineLife}
use Rattle.pblk_world.specs.Fronts.{first_position, waits, waiting}
use Rattle.pblk_world.specs.Lines.{known_image, are_empty}
use Rattle.pblk_world.specs.Starts.{have_landed}
use Rattle.pblk_world.specs.Placing.{IsStart, IsData, IsEnd, IsPad, line_end}
use Rattle.pblk_world.specs.Victims.{line_of_position, line_of, landed_line_of, is_in_force}
use Rattle.pblk_world.proofs.Appending.{life_more}
use Rattle.line_table.specs.declared.row.LineState.TheVariants as states
use Rattle.line_table.specs.declared.row.Row.{Row}
use Rattle.line_table.specs.Rows.{Table, EachRow}
use Rattle.core_laws.specs.Stepping.{after}
use Rattle.core_laws.specs.Positions.{AreNumbered}
use Rattle.core_laws.specs.RowsOf.{state_in, state_of, width_in, taker_in, row_of_line, rows_of}
use Rattle.core_laws.proofs.Engine.{placements_before}
use Rattle.core_laws.proofs.Placing.{with_place, new_placed, IsPlacing, answer_now, new_unanswered, stripes_now}
use Rattle.core_laws.specs.InOrder.{FreedBefore}
use Rattle.core_laws.proofs.PlacedAnew.{IsWaiting, holders_lost, waiting_wait}
use Rattle.core_laws.proofs.PlacedInOrder.{IsOrdered, waiting_rises}
use Rattle.core_laws.specs.PlacedEntries.{place_entries}
use Rattle.core_laws.proofs.KeptRows.{known_kept, KeepsChunks, state_same, width_same, same_row, then_kept, taker_same}
use Rattle.core_laws.proofs.NextTakes.{IsRising, rising_by, rising_taken}
use Rattle.core_laws.proofs.EntryRows.{Places, last_of, live_with, taker_with, IsNowhere}
use Rattle.core_laws.proofs.PlacedAddresses.{losses_now}
use Rattle.core_laws.proofs.PlacedEntryRows.{row_with, IsEntry, with_entries, entries_placed, taker_for, entry_at}
use Rattle.core_laws.proofs.PlacedPlaces.{BearsThese, IsNamed, data_bears, others_bear, places_now, landed_placed}
use Rattle.core_laws.proofs.ChangedTables.{table_of, tables_agree}
use Rattle.core_laws.proofs.SteppingLemmas.{found_kept}
use Rattle.pblk_model.proofs.Lists.{all_imply, zipped}
use Rattle.pblk_model.proofs.Maps.{all_agree, all_filter, few_pass, find_none, row_at}
use Rattle.pblk_model.proofs.Parts.{all_at, all_taken}
use Rattle.pblk_model.proofs.Tests.{le_true, or_no}
use Rattle.pblk_world.proofs.EngineLogLemmas.{takes_more}

-- ---- states stay

pub failed_now : (log : List Logged) (stripe : Stripe) (knows : List ℕ) (o other : Opening) → IsPlacing log stripe o
    → has_failed (with_place log stripe knows) other ≡ has_failed log other
failed_now log stripe knows o other is = go (is_life other.number (Opened o)) refl
  where
    go : (b : Bool) → is_life other.number (Opened o) ≡ b → has_failed (with_place log stripe knows) other ≡ has_failed log other
    go true e =
        ap (list_any (was_lost (with_place log stripe knows))) (stripes_now log stripe knows o other true is.opened e)
        ∙ list_any-append (was_lost (with_place log stripe knows)) (stripes_of log other) (new_placed log stripe o ∷ [])
        ∙ ap₂ (λ a b. a || (b || false)) (losses_now log stripe knows o other is.opened) (ap is_loss (new_unanswered log stripe knows o is))
        ∙ or_no (has_failed log other)
    go false e =
        ap (list_any (was_lost (with_place log stripe knows))) (stripes_now log stripe knows o other false is.opened e ∙ append-nil (stripes_of log other))
        ∙ losses_now log stripe knows o other is.opened

-- a list with one more element that doesn't pass
first_pass : {X : Type 0} (f : X → Bool) (xs : List X) (y : X) (n : ℕ) → f y ≡ false
    → (nat_le n (length (xs ++ y ∷ [])) && list_all f (take n (xs ++ y ∷ []))) ≡ (nat_le n (length xs) && list_all f (take n xs))
first_pass f xs y n fails = go (nat_le n (length xs)) refl
  where
    count : length (xs ++ y ∷ []) ≡ length xs + 1
    count = length-append xs (y ∷ [])

    rest : (b : Bool) → nat_le n (length (xs ++ y ∷ [])) ≡ b → length xs < n → (b && list_all f (take n (xs ++ y ∷ []))) ≡ false
    rest true e above =
        let within : n ≤ length (xs ++ y ∷ []) = grind arith in
        let all : length (xs ++ y ∷ []) ≤ n = omega (arith, count) in
        ap (list_all f) (take_all n (xs ++ y ∷ []) all) ∙ list_all-append f xs (y ∷ []) ∙ ap (λ b. list_all f xs && (b && true)) fails
        ∙ and_false (list_all f xs)
      where
        and_false : (b : Bool) → (b && false) ≡ false
        and_false true = refl
        and_false false = refl
    rest false e above = refl

    go : (b : Bool) → nat_le n (length xs) ≡ b → (nat_le n (length (xs ++ y ∷ [])) && list_all f (take n (xs ++ y ∷ []))) ≡ (b && list_all f (take n xs))
    go true e =
        let within : n ≤ length xs = grind arith in
        ap₂ (λ b ys. b && list_all f ys) (le_true n (length (xs ++ y ∷ [])) (omega (arith, count))) (take-append-le n xs (y ∷ []) within)
    go false e =
        let above : length xs < n = grind arith in
        rest (nat_le n (length (xs ++ y ∷ []))) refl above

old_landed : (log : List Logged) (stripe : Stripe) (knows : List ℕ) (o other : Opening) (n : ℕ) → IsPlacing log stripe o
    → list_all (has_landed (with_place log stripe knows)) (take n (stripes_of log other)) ≡ list_all (has_landed log) (take n (stripes_of log other))
old_landed log stripe knows o other n is =
    all_agree (λ (p : Placed). p.number < length log) (has_landed (with_place log stripe knows)) (has_landed log)
    (λ p before. ap is_land (answer_now log stripe knows o p is.opened (le_of_lt before))) (take n (stripes_of log other))
    (all_taken (λ (p : Placed). p.number < length log) n (stripes_of log other)
    (all_filter (λ (p : Placed). p.number < length log) (λ (p : Placed). is_life other.number p.life) (placements log) (placements_before log)))

landed_now : (log : List Logged) (stripe : Stripe) (knows : List ℕ) (o other : Opening) (n : ℕ) → IsPlacing log stripe o
    → have_landed (with_place log stripe knows) other n ≡ have_landed log other n
landed_now log stripe knows o other n is = go (is_life other.number (Opened o)) refl
  where
    go : (b : Bool) → is_life other.number (Opened o) ≡ b → have_landed (with_place log stripe knows) other n ≡ have_landed log other n
    go true e =
        ap (λ (ps : List Placed). nat_le n (length ps) && list_all (has_landed (with_place log stripe knows)) (take n ps))
        (stripes_now log stripe knows o other true is.opened e)
        ∙ first_pass (has_landed (with_place log stripe knows)) (stripes_of log other) (new_placed log stripe o) n
        (ap is_land (new_unanswered log stripe knows o is))
        ∙ ap (λ b. nat_le n (length (stripes_of log other)) && b) (old_landed log stripe knows o other n is)
    go false e =
        ap (λ (ps : List Placed). nat_le n (length ps) && list_all (has_landed (with_place log stripe knows)) (take n ps))
        (stripes_now log stripe knows o other false is.opened e ∙ append-nil (stripes_of log other))
        ∙ ap (λ b. nat_le n (length (stripes_of log other)) && b) (old_landed log stripe knows o other n is)

-- ---- rows by where the entries are

taker_was : (i : Image) (logs : Logs) (line : ℕ) (life : LineLife) → taker_in i logs line life ≡ taker_for i logs (landed_line_of i logs) line life
taker_was i logs line AsFound = refl
taker_was i logs line (Opened o) = refl
taker_was i logs line (Freed past knows) = refl

pub table_was : (i : Image) (logs : Logs) → rows_of i logs ≡ table_of i.shape (row_with i logs (line_of i logs) (landed_line_of i logs))
table_was i logs = tables_agree i.shape (row_with i logs (line_of i logs) (landed_line_of i logs)) (row_of_line i logs) (λ m.
    same_row (state_of i logs m) (state_of i logs m) (width_in i logs m (life_of (logs 0) m)) (width_in i logs m (life_of (logs 0) m))
    (row_of_line i logs m).live (row_of_line i logs m).live
    (taker_in i logs m (life_of (logs 0) m)) (taker_for i logs (landed_line_of i logs) m (life_of (logs 0) m)) refl refl refl
    (taker_was i logs m (life_of (logs 0) m)))

table_now : (i : Image) (logs : Logs) (stripe : Stripe) (knows : List ℕ) (o : Opening) (places : Places) → IsPlacing (logs 0) stripe o → FreedBefore (logs 0)
    → line_of i (after logs (Place stripe) knows) ≡ places
    → rows_of i (after logs (Place stripe) knows) ≡ table_of i.shape (row_with i logs places (landed_line_of i logs))
table_now i logs stripe knows o places is before same =
    tables_agree i.shape (row_with i logs places (landed_line_of i logs)) (row_of_line i (after logs (Place stripe) knows)) (λ m. each m)
  where
    landed_is : landed_line_of i (after logs (Place stripe) knows) ≡ landed_line_of i logs
    landed_is = λ k lba t. landed_placed i logs stripe knows o is lba t k

    each : (m : ℕ) → row_of_line i (after logs (Place stripe) knows) m ≡ row_with i logs places (landed_line_of i logs) m
    each m =
        let new : Logs = after logs (Place stripe) knows in
        let life : life_of (new 0) m ≡ life_of (logs 0) m = life_more (logs 0) (record { event = Decides (Place stripe); knows = knows }) m in
        let taken_same : takes (new 0) ≡ takes (logs 0) = takes_more (logs 0) (record { event = Decides (Place stripe); knows = knows })
        ∙ append-nil (takes (logs 0)) in
        let known : known_image i new ≡ known_image i logs = known_kept i logs (Place stripe) knows refl (λ unit. refl) in
        let chunks : KeepsChunks i logs new m =
        record {
          found = found_kept i logs (Place stripe) knows refl;
          empty = ap (λ (j : Image). are_empty j m) known;
          wide =
              ap (λ (j : Image). width j m) known;
        } in
        same_row (state_in i new m (life_of (new 0) m)) (state_of i logs m) (width_in i new m (life_of (new 0) m)) (width_in i logs m (life_of (logs 0) m))
        (row_of_line i new m).live (live_with i.shape.capacity (takes (logs 0)) places m) (taker_in i new m (life_of (new 0) m))
        (taker_for i logs (landed_line_of i logs) m (life_of (logs 0) m))
        (ap (state_in i new m) life ∙ state_same i logs new m (life_of (logs 0) m) chunks
        (λ p e. ap₂ (λ a b. if a then states.Failed else if b then states.Full else states.Open) (failed_now (logs 0) stripe knows o p is)
        (landed_now (logs 0) stripe knows o p (line_end i.shape p / i.shape.ws_opt) is)))
        (ap (width_in i new m) life ∙ width_same i logs new m (life_of (logs 0) m) chunks (then_kept i logs (Place stripe) knows m before))
        (ap₂ (λ ts ps. live_with i.shape.capacity ts ps m) taken_same same)
        (ap (taker_in i new m) life
        ∙ taker_same i logs new m (life_of (logs 0) m) (then_kept i logs (Place stripe) knows m before)
        (ap₂ (λ ts ps. taker_with i.shape.capacity ts ps m) taken_same landed_is)
        ∙ taker_was i logs m (life_of (logs 0) m))

rows_by : (i : Image) (logs : Logs) (stripe : Stripe) (knows : List ℕ) (o : Opening) (ts : List Taken) → IsPlacing (logs 0) stripe o → FreedBefore (logs 0)
    → BearsThese i.shape stripe ts → IsRising (takes (logs 0)) → IsRising ts
    → AllByRecursion (IsEntry (takes (logs 0))) ts → AllByRecursion (λ t. line_of_position i.shape (logs 0) t.entry.position ≡ None) ts
    → rows_of i (after logs (Place stripe) knows) ≡ place_entries (logs 0) stripe.line (rows_of i logs) ts
rows_by i logs stripe knows o ts is before bears rise own all nowhere =
    let same : line_of i (after logs (Place stripe) knows) ≡ with_entries stripe.line ts (line_of i logs) =
    λ k lba t. places_now i logs stripe knows o ts is bears nowhere lba t k in
    table_now i logs stripe knows o (with_entries stripe.line ts (line_of i logs)) is before same
    ∙ entries_placed i logs stripe.line ts (line_of i logs) (landed_line_of i logs) rise own all
    (all_imply (λ (t : Taken). line_of_position i.shape (logs 0) t.entry.position ≡ None) (λ (t : Taken). IsNowhere t.entry.position (line_of i logs))
    (λ t h. λ lba u e. ap (line_of_position i.shape (logs 0)) e ∙ h) ts nowhere)
    ∙ ap (λ table. place_entries (logs 0) stripe.line table ts) (sym (table_was i logs))

-- a stripe without entries
pub rows_beside : (i : Image) (logs : Logs) (stripe : Stripe) (knows : List ℕ) (o : Opening) → i.shape.capacity ≤ meta_lba → IsPlacing (logs 0) stripe o
    → FreedBefore (logs 0) → AreNumbered (logs 0)
    → IsStart i logs o stripe ⊎ (IsEnd i logs o stripe ⊎ IsPad i logs o stripe) → rows_of i (after logs (Place stripe) knows) ≡ rows_of i logs
rows_beside i logs stripe knows o small is freed numbered its =
    rows_by i logs stripe knows o [] is freed (others_bear i logs o stripe small its)
    (rising_by (first_position (logs 0)) (length (takes (logs 0))) (takes (logs 0)) numbered) tt tt tt

-- ---- the entries that wait

-- one that waits is in no line
in_no_line_yet : (s : Shape) (log : List Logged) (t : Taken) → waits s log t ≡ true → line_of_position s log t.entry.position ≡ None
in_no_line_yet s log t wait = ap (option_map (λ (p : Placed). p.stripe.line))
    (find_none (λ p. holds_position s t.entry.position p && not (was_lost log p) && is_in_force log p.life p.stripe.line) (placements log)
    (all_imply (λ (p : Placed). holds_position s t.entry.position p ≡ true → was_lost log p ≡ true)
    (λ (p : Placed). (holds_position s t.entry.position p && not (was_lost log p) && is_in_force log p.life p.stripe.line) ≡ false)
    (λ p lost. by (holds_position s t.entry.position p) (was_lost log p) (is_in_force log p.life p.stripe.line) lost) (placements log)
    (holders_lost s log t wait)))
  where
    by : (a b c : Bool) → (a ≡ true → b ≡ true) → (a && not b && c) ≡ false
    by true b c lost = ap (λ x. not x && c) (lost refl)
    by false b c lost = refl

waiting_nowhere : (s : Shape) (log : List Logged) → AllByRecursion (λ (t : Taken). line_of_position s log t.entry.position ≡ None) (waiting s log)
waiting_nowhere s log = all_imply (IsWaiting s log) (λ (t : Taken). line_of_position s log t.entry.position ≡ None)
    (λ t is. in_no_line_yet s log t is.1) (waiting s log) (waiting_wait s log)

waiting_entries : (s : Shape) (log : List Logged) → AllByRecursion (IsEntry (takes log)) (waiting s log)
waiting_entries s log =
    all_imply (IsWaiting s log) (IsEntry (takes log)) (λ t is. entry_at (takes log) is.0.0 t is.0.1) (waiting s log) (waiting_wait s log)

-- a stripe of entries
pub rows_placed : (i : Image) (logs : Logs) (stripe : Stripe) (knows : List ℕ) (o : Opening) → i.shape.capacity ≤ meta_lba → IsPlacing (logs 0) stripe o
    → FreedBefore (logs 0) → IsOrdered i.shape (logs 0) → IsData i logs o stripe
    → rows_of i (after logs (Place stripe) knows) ≡ place_entries (logs 0) stripe.line (rows_of i logs) (take i.shape.ws_opt (waiting i.shape (logs 0)))
rows_placed i logs stripe knows o small is freed order its =
    rows_by i logs stripe knows o (take i.shape.ws_opt (waiting i.shape (logs 0))) is freed
    (data_bears i logs o stripe small its
    (all_taken (IsNamed i.shape) i.shape.ws_opt (waiting i.shape (logs 0))
    (all_imply (IsWaiting i.shape (logs 0)) (IsNamed i.shape) (λ t at. all_at (IsNamed i.shape) (takes (logs 0)) at.0.0 t at.0.1
    (zipped (λ (t : Taken). is_some (named i.shape t.mark) ≡ true) (λ (t : Taken). t.mark.position ≡ t.entry.position) (IsNamed i.shape)
    (λ t a b. record { names = a; marked = b }) (takes (logs 0)) order.named order.marked))
    (waiting i.shape (logs 0)) (waiting_wait i.shape (logs 0)))))
    (rising_by (first_position (logs 0)) (length (takes (logs 0))) (takes (logs 0)) order.numbered)
    (rising_taken i.shape.ws_opt (waiting i.shape (logs 0)) (waiting_rises i.shape (logs 0) order.numbered order.order))
    (all_taken (IsEntry (takes (logs 0))) i.shape.ws_opt (waiting i.shape (logs 0)) (waiting_entries i.shape (logs 0)))
    (all_taken (λ (t : Taken). line_of_position i.shape (logs 0) t.entry.position ≡ None) i.shape.ws_opt (waiting i.shape (logs 0))
    (waiting_nowhere i.shape (logs 0)))

-- ---- some first ones of them

-- no row has more live sectors than the target has sectors, also between the entries
pub live_between : (i : Image) (logs : Logs) (line n : ℕ) → IsOrdered i.shape (logs 0)
    → EachRow (place_entries (logs 0) line (rows_of i logs) (take n (waiting i.shape (logs 0)))) (λ m row. row.live ≤ i.shape.capacity)
live_between i logs line n order =
    let rise : IsRising (takes (logs 0)) = rising_by (first_position (logs 0)) (length (takes (logs 0))) (takes (logs 0)) order.numbered in
    let same : table_of i.shape (row_with i logs (with_entries line (take n (waiting i.shape (logs 0))) (line_of i logs)) (landed_line_of i logs)) ≡
    place_entries (logs 0) line (rows_of i logs) (take n (waiting i.shape (logs 0))) =
    entries_placed i logs line (take n (waiting i.shape (logs 0))) (line_of i logs) (landed_line_of i logs) rise
    (rising_taken n (waiting i.shape (logs 0)) (waiting_rises i.shape (logs 0) order.numbered order.order))
    (all_taken (IsEntry (takes (logs 0))) n (waiting i.shape (logs 0)) (waiting_entries i.shape (logs 0)))
    (all_imply (λ (t : Taken). line_of_position i.shape (logs 0) t.entry.position ≡ None) (λ (t : Taken). IsNowhere t.entry.position (line_of i logs))
    (λ t h. λ lba u e. ap (line_of_position i.shape (logs 0)) e ∙ h) (take n (waiting i.shape (logs 0)))
    (all_taken (λ (t : Taken). line_of_position i.shape (logs 0) t.entry.position ≡ None) n (waiting i.shape (logs 0)) (waiting_nowhere i.shape (logs 0))))
    ∙ ap (λ table. place_entries (logs 0) line table (take n (waiting i.shape (logs 0)))) (sym (table_was i logs)) in
    λ m row there.
    let at = row_at (row_with i logs (with_entries line (take n (waiting i.shape (logs 0))) (line_of i logs)) (landed_line_of i logs)) i.shape.chunks 0 m row
    (ap (λ (t : Table). slice_get t.rows m) same ∙ there) in
    subst (λ (r : Row). r.live ≤ i.shape.capacity) at.1
    (few_pass (λ lba. is_of (0 + m) (with_entries line (take n (waiting i.shape (logs 0))) (line_of i logs) lba (last_of (takes (logs 0)) lba))) 0
    i.shape.capacity)

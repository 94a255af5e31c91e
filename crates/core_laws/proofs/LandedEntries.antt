-- What a stripe that has landed changes in the table: its entries have landed in its line, and the
-- line may be full.
use Rattle.std.proofs.Common.{◌≡◌, ◌≢◌, ◌⊎◌, inl, inr, ℕ, ◌/◌, ◌&&◌, zero, suc, nat_eq, Bool, true, false, cond, Some, None, Option, List, [], ◌∷◌, refl, sym, ap, ap₂, ◌∙◌, ◌<◌, ◌≤◌, ◌*◌, length, subst}
use Rattle.std.specs.Prelude.{if◌then◌else◌, slice_get}
use Rattle.std.specs.List.{AllByRecursion, find, filter}
use Rattle.std.specs.Option.{option_map}
use Rattle.std.proofs.lemmas.Bool.{eqb-true}
use Rattle.std.proofs.lemmas.Option.{same_Some, none-some}
use Rattle.pblk_model.specs.declared.shape.Shape.{Shape}
use Rattle.pblk_model.specs.UnitLog.{UnitEvent}
use Rattle.pblk_model.specs.Image.{Image}
use Rattle.pblk_world.specs.Events.{Landed, Decides, Logged}
use Rattle.pblk_world.specs.World.{Logs, unit_event_at}
use Rattle.pblk_world.specs.EngineLog.{Opened, life_of, is_life, Opening, Placed, placements, DidLand, answer_of, is_land, has_landed, has_failed, holds_position, Taken, takes, AsFound, Freed, LineLife, stripes_of}
use Rattle.pblk_world.specs.Lines.{told_by}
use Rattle.pblk_world.specs.Starts.{have_landed}
use Rattle.pblk_world.specs.Placing.{line_end}
use Rattle.pblk_world.specs.Victims.{is_in_force, line_of, landed_line, landed_line_of, is_freed}
use Rattle.line_table.specs.declared.row.LineState.TheVariants as states
use Rattle.core_laws.specs.Stepping.{after}
use Rattle.core_laws.specs.PlacerOf.{unanswered_on}
use Rattle.core_laws.specs.RowsOf.{state_in, state_of, width_in, taker_in, row_of_line, rows_of}
use Rattle.core_laws.proofs.OpeningNumbers.{opens_at, life_at}
use Rattle.core_laws.proofs.Answered.{first_unanswered, its_answer, others_answer, IsFirst}
use Rattle.core_laws.proofs.SteppingLemmas.{found_kept}
use Rattle.core_laws.specs.ChangedTables.{with_row, full_if}
use Rattle.core_laws.specs.PlacedEntries.{note_entries}
use Rattle.core_laws.specs.InOrder.{FreedBefore}
use Rattle.core_laws.specs.InOrder.{FitsItsLine}
use Rattle.core_laws.proofs.LineRoom.{failed_not_landed}
use Rattle.core_laws.proofs.KeptStripes.{with_event, KeepsStripes, stripes_kept, lives_kept}
use Rattle.core_laws.proofs.KeptRows.{KeepsChunks, live_by, state_same, width_same, row_parts, same_row, KeepsThen, then_kept}
use Rattle.core_laws.proofs.LandedRows.{force_kept, winner_kept, line_of_kept, none_taken, keeps_chunks}
use Rattle.core_laws.proofs.OpenAddresses.{failed_kept}
use Rattle.core_laws.proofs.FirstAnswers.{its_landing, have_landed_beside, have_landed_stays}
use Rattle.core_laws.proofs.NextTakes.{IsRising}
use Rattle.core_laws.proofs.EntryRows.{Places, live_with, taker_with, IsNowhere}
use Rattle.core_laws.proofs.PlacedEntryRows.{row_with, IsEntry, with_entries, entries_are, entries_landed, taker_for}
use Rattle.core_laws.proofs.PlacedPlaces.{BearsThese, any_nowhere, none_at}
use Rattle.core_laws.proofs.PlacedRows.{table_was}
use Rattle.core_laws.proofs.ChangedTables.{table_changes}
use Rattle.pblk_model.proofs.Lists.{IsAmong, all_imply, among_all}
use Rattle.pblk_model.proofs.Maps.{find_agree}
use Rattle.pblk_model.proofs.Options.{none_of_map}
use Rattle.pblk_model.proofs.Tests.{not_first, other_number, same_number}

-- ---- where the entries have landed

-- the element that alone passes one test more
found_now : {X : Type 0} (f g : X → Bool) (p : X) (xs : List X) → AllByRecursion (λ x. (x ≡ p) ⊎ (f x ≡ g x)) xs → IsAmong xs p → f p ≡ true → find g xs ≡ None
    → find f xs ≡ Some p
found_now f g p [] all among passes none = absurd (none-some p among.1)
found_now {X} f g p (x ∷ xs) all among passes none = go (f x) refl (g x) refl none (λ k at h. found_now f g p xs all.1 (k, at) passes h)
  where
    rest : (k : ℕ) → slice_get (x ∷ xs) k ≡ Some p → f x ≡ false → find g xs ≡ None
        → ((k : ℕ) → slice_get xs k ≡ Some p → find g xs ≡ None → find f xs ≡ Some p) → find f xs ≡ Some p
    rest zero at e h found = let same : x ≡ p = same_Some x p at in let it : f x ≡ f p = ap f same in absurd (cc (sym e ∙ it ∙ passes))
    rest (suc k) at e h found = found k at h

    first : (x ≡ p) ⊎ (f x ≡ g x) → f x ≡ true → g x ≡ false → Some x ≡ Some p
    first (inl e) h fails = ap Some e
    first (inr e) h fails = absurd (cc (sym h ∙ e ∙ fails))

    go : (b : Bool) → f x ≡ b → (c : Bool) → g x ≡ c → cond c (Some x) (find g xs) ≡ None
        → ((k : ℕ) → slice_get xs k ≡ Some p → find g xs ≡ None → find f xs ≡ Some p) → cond b (Some x) (find f xs) ≡ Some p
    go b e true h none found = absurd cc
    go true e false h none found = first all.0 e h
    go false e false h none found = rest among.0 among.1 e none found

abbrev landed_test : Shape → List Logged → ℕ → Placed → Bool
landed_test s log q r = holds_position s q r && has_landed log r && is_in_force log r.life r.stripe.line

-- the position's line: the stripe's for one that it holds
position_landed : (s : Shape) (log : List Logged) (unit event : ℕ) (knows : List ℕ) (p : Placed) (o : Opening) (q : ℕ) → unanswered_on log unit ≡ Some p
    → p.life ≡ Opened o → life_of log p.stripe.line ≡ Opened o
    → (holds_position s q p ≡ true → landed_line s log q ≡ None)
    → landed_line s (with_event log (Landed unit event) knows) q ≡ (if holds_position s q p then Some p.stripe.line else landed_line s log q)
position_landed s log unit event knows p o q waits its opened nowhere =
    ap (λ ps. option_map (λ (r : Placed). r.stripe.line) (find (landed_test s new q) ps)) (its_landing log unit event knows).placements
    ∙ go (holds_position s q p) refl
  where
    new : List Logged
    new = with_event log (Landed unit event) knows

    first : IsFirst log unit p
    first = first_unanswered log unit p waits

    same : (r : Placed) → (r ≡ p) ⊎ (answer_of new r ≡ answer_of log r) → (r ≡ p) ⊎ (landed_test s new q r ≡ landed_test s log q r)
    same r (inl e) = inl e
    same r (inr e) = inr (ap₂ (λ a b. holds_position s q r && a && b) (ap is_land e)
        (force_kept log new (λ line. lives_kept log (Landed unit event) knows line refl) r.life r.stripe.line))

    all : AllByRecursion (λ r. (r ≡ p) ⊎ (landed_test s new q r ≡ landed_test s log q r)) (placements log)
    all = all_imply (IsAmong (placements log)) (λ r. (r ≡ p) ⊎ (landed_test s new q r ≡ landed_test s log q r))
        (λ r among. same r (others_answer log new unit (DidLand event) p r (its_landing log unit event knows) first among)) (placements log)
        (among_all (placements log))

    force : is_in_force new p.life p.stripe.line ≡ true
    force = ap (λ l. is_in_force new l p.stripe.line) its
        ∙ ap (is_life o.number) (lives_kept log (Landed unit event) knows p.stripe.line refl ∙ opened) ∙ same_number o.number

    both_true : (b : Bool) → (b && true && true) ≡ b
    both_true true = refl
    both_true false = refl

    passes : landed_test s new q p ≡ holds_position s q p
    passes = ap₂ (λ a b. holds_position s q p && a && b) (ap is_land (its_answer log new unit (DidLand event) p (its_landing log unit event knows) first)) force
        ∙ both_true (holds_position s q p)

    agrees : holds_position s q p ≡ false → (r : Placed) → (r ≡ p) ⊎ (landed_test s new q r ≡ landed_test s log q r)
        → landed_test s new q r ≡ landed_test s log q r
    agrees e r (inl h) =
        let old : landed_test s log q p ≡ false =
        not_first (holds_position s q p && has_landed log p) (is_in_force log p.life p.stripe.line) (not_first (holds_position s q p) (has_landed log p) e) in
        ap (landed_test s new q) h ∙ passes ∙ e ∙ sym old ∙ ap (landed_test s log q) (sym h)
    agrees e r (inr h) = h

    go : (b : Bool) → holds_position s q p ≡ b
        → option_map (λ (r : Placed). r.stripe.line) (find (landed_test s new q) (placements log)) ≡ (if b then Some p.stripe.line else landed_line s log q)
    go true e = ap (option_map (λ (r : Placed). r.stripe.line))
        (found_now (landed_test s new q) (landed_test s log q) p (placements log) all first.among (passes ∙ e)
        (none_of_map (λ (r : Placed). r.stripe.line) (find (landed_test s log q) (placements log)) (nowhere e)))
    go false e = ap (option_map (λ (r : Placed). r.stripe.line))
        (find_agree (λ r. (r ≡ p) ⊎ (landed_test s new q r ≡ landed_test s log q r)) (landed_test s new q) (landed_test s log q) (agrees e)
        (placements log) all)

-- the entries of a stripe, in the order of their positions: none of them has landed
pub record AreItsEntries (i : Image) (logs : Logs) (p : Placed) (ts : List Taken) : Type 0 where
  pub bears : BearsThese i.shape p.stripe ts
  pub rising : IsRising ts
  pub among : AllByRecursion (IsEntry (takes (logs 0))) ts
  pub nowhere : AllByRecursion (λ t. landed_line i.shape (logs 0) t.entry.position ≡ None) ts

places_landed : (i : Image) (logs : Logs) (unit event : ℕ) (knows : List ℕ) (p : Placed) (o : Opening) (ts : List Taken) → unanswered_on (logs 0) unit ≡ Some p
    → p.life ≡ Opened o → life_of (logs 0) p.stripe.line ≡ Opened o
    → AreItsEntries i logs p ts → (lba : ℕ) (t : Option Taken)
    → landed_line_of i (after logs (Landed unit event) knows) lba t ≡ with_entries p.stripe.line ts (landed_line_of i logs) lba t
unfolding BearsThese
places_landed i logs unit event knows p o ts waits its opened are lba None =
    winner_kept i logs (after logs (Landed unit event) knows) (found_kept i logs (Landed unit event) knows refl)
    (λ line. lives_kept (logs 0) (Landed unit event) knows line refl) lba
    ∙ sym (entries_are p.stripe.line ts (landed_line_of i logs) lba None
    ∙ ap (λ b. if b then Some p.stripe.line else landed_line_of i logs lba None) (none_at ts))
places_landed i logs unit event knows p o ts waits its opened are lba (Some u) =
    position_landed i.shape (logs 0) unit event knows p o u.entry.position waits its opened
    (λ e. any_nowhere (landed_line i.shape (logs 0)) u.entry.position ts are.nowhere (sym (are.bears u.entry.position) ∙ e))
    ∙ ap (λ b. if b then Some p.stripe.line else landed_line i.shape (logs 0) u.entry.position) (are.bears u.entry.position)
    ∙ sym (entries_are p.stripe.line ts (landed_line_of i logs) lba (Some u))

-- ---- the rows

-- by whether the line has landed whole now, and whether it had before
state_now : (failed then_ now : Bool) → (failed ≡ true → now ≡ false) → (then_ ≡ true → now ≡ true) → (wide sectors : ℕ) (taker : Option ℕ)
    → row_parts (if failed then states.Failed else if now then states.Full else states.Open) wide sectors taker
    ≡ full_if now (row_parts (if failed then states.Failed else if then_ then states.Full else states.Open) wide sectors taker)
state_now true then_ true fine stays wide sectors taker = absurd (cc (fine refl))
state_now true then_ false fine stays wide sectors taker = refl
state_now false true true fine stays wide sectors taker = refl
state_now false true false fine stays wide sectors taker = absurd (cc (stays refl))
state_now false false true fine stays wide sectors taker = refl
state_now false false false fine stays wide sectors taker = refl

pub rows_landed : (i : Image) (logs : Logs) (unit event : ℕ) (knows : List ℕ) (p : Placed) (o : Opening) (ts : List Taken) → FreedBefore (logs 0)
    → 0 < i.shape.ws_opt → FitsItsLine i.shape (logs 0) o → unanswered_on (logs 0) unit ≡ Some p → p.life ≡ Opened o
    → life_of (logs 0) p.stripe.line ≡ Opened o → ((e : UnitEvent) → unit_event_at logs unit event ≡ Some e → e.chunk ≡ p.stripe.line)
    → IsRising (takes (logs 0)) → AreItsEntries i logs p ts
    → rows_of i (after logs (Landed unit event) knows)
    ≡ with_row p.stripe.line (full_if (have_landed (after logs (Landed unit event) knows 0) o (line_end i.shape o / i.shape.ws_opt)))
    (note_entries (logs 0) p.stripe.line (rows_of i logs) ts)
rows_landed i logs unit event knows p o ts before some room waits its opened chunk rise are =
    table_changes i.shape (row_with i logs (line_of i logs) landed) (row_of_line i new) p.stripe.line (full_if (have_landed (new 0) o n)) here there
    ∙ ap (with_row p.stripe.line (full_if (have_landed (new 0) o n)))
    (entries_landed i logs p.stripe.line ts (line_of i logs) (landed_line_of i logs) (ap is_freed opened) rise are.rising are.among
    (all_imply (λ (t : Taken). landed_line i.shape (logs 0) t.entry.position ≡ None) (λ (t : Taken). IsNowhere t.entry.position (landed_line_of i logs))
    (λ t h. λ lba u e. ap (landed_line i.shape (logs 0)) e ∙ h) ts are.nowhere)
    ∙ ap (λ table. note_entries (logs 0) p.stripe.line table ts) (sym (table_was i logs)))
  where
    new : Logs
    new = after logs (Landed unit event) knows

    n : ℕ
    n = line_end i.shape o / i.shape.ws_opt

    landed : Places
    landed = with_entries p.stripe.line ts (landed_line_of i logs)

    kept : KeepsStripes (logs 0) (new 0)
    kept = stripes_kept (logs 0) (Landed unit event) knows refl

    -- a line that has failed doesn't land whole
    never : has_failed (logs 0) o ≡ true → have_landed (after logs (Landed unit event) knows 0) o (line_end i.shape o / i.shape.ws_opt) ≡ false
    never failed =
        let same : stripes_of (new 0) o ≡ stripes_of (logs 0) o =
        ap (filter (λ (r : Placed). is_life o.number r.life)) (its_landing (logs 0) unit event knows).placements in
        failed_not_landed i.shape (new 0) o some
        (record { some = room.some; within = subst (λ (ps : List Placed). length ps * i.shape.ws_opt ≤ line_end i.shape o) (sym same) room.within })
        (failed_kept (logs 0) (new 0) kept o ∙ failed)

    life : (m : ℕ) → life_of (new 0) m ≡ life_of (logs 0) m
    life m = lives_kept (logs 0) (Landed unit event) knows m refl

    takes_same : takes (new 0) ≡ takes (logs 0)
    takes_same = none_taken (logs 0) (Landed unit event) knows refl

    live_same : (m : ℕ) → (row_of_line i new m).live ≡ live_with i.shape.capacity (takes (logs 0)) (line_of i logs) m
    live_same m = live_by i logs new m takes_same (line_of_kept i logs (Landed unit event) knows refl refl)

    landed_is : landed_line_of i new ≡ landed
    landed_is = λ k lba t. places_landed i logs unit event knows p o ts waits its opened are lba t k

    then_ : (m : ℕ) → KeepsThen i logs new m (life_of (logs 0) m)
    then_ m = then_kept i logs (Landed unit event) knows m before

    taker_for_life : (m : ℕ) (l : LineLife) → KeepsThen i logs new m l → taker_in i new m l ≡ taker_for i logs landed m l
    taker_for_life m AsFound same = ap₂ (λ ts ps. taker_with i.shape.capacity ts ps m) takes_same landed_is
    taker_for_life m (Opened q) same = ap₂ (λ ts ps. taker_with i.shape.capacity ts ps m) takes_same landed_is
    taker_for_life m (Freed past ks) same = same.1

    taker_now : (m : ℕ) → taker_in i new m (life_of (new 0) m) ≡ taker_for i logs landed m (life_of (logs 0) m)
    taker_now m = ap (taker_in i new m) (life m) ∙ taker_for_life m (life_of (logs 0) m) (then_ m)

    here : row_of_line i new p.stripe.line ≡ full_if (have_landed (new 0) o n) (row_with i logs (line_of i logs) landed p.stripe.line)
    here =
        same_row (state_in i new p.stripe.line (life_of (new 0) p.stripe.line))
        (if has_failed (logs 0) o then states.Failed else if have_landed (new 0) o n then states.Full else states.Open)
        (width_in i new p.stripe.line (life_of (new 0) p.stripe.line)) o.start.width
        (row_of_line i new p.stripe.line).live (live_with i.shape.capacity (takes (logs 0)) (line_of i logs) p.stripe.line)
        (taker_in i new p.stripe.line (life_of (new 0) p.stripe.line)) (taker_for i logs landed p.stripe.line (life_of (logs 0) p.stripe.line))
        (ap (state_in i new p.stripe.line) (life p.stripe.line ∙ opened)
        ∙ ap (λ b. if b then states.Failed else if have_landed (new 0) o n then states.Full else states.Open) (failed_kept (logs 0) (new 0) kept o))
        (ap (width_in i new p.stripe.line) (life p.stripe.line ∙ opened)) (live_same p.stripe.line) (taker_now p.stripe.line)
        ∙ state_now (has_failed (logs 0) o) (have_landed (logs 0) o n) (have_landed (new 0) o n) never (have_landed_stays (logs 0) unit event knows o n)
        o.start.width (live_with i.shape.capacity (takes (logs 0)) (line_of i logs) p.stripe.line)
        (taker_for i logs landed p.stripe.line (life_of (logs 0) p.stripe.line))
        ∙ ap (full_if (have_landed (new 0) o n))
        (sym (same_row (state_of i logs p.stripe.line) (state_in i logs p.stripe.line (Opened o))
        (width_in i logs p.stripe.line (life_of (logs 0) p.stripe.line)) o.start.width
        (live_with i.shape.capacity (takes (logs 0)) (line_of i logs) p.stripe.line)
        (live_with i.shape.capacity (takes (logs 0)) (line_of i logs) p.stripe.line)
        (taker_for i logs landed p.stripe.line (life_of (logs 0) p.stripe.line)) (taker_for i logs landed p.stripe.line (life_of (logs 0) p.stripe.line))
        (ap (state_in i logs p.stripe.line) opened) (ap (width_in i logs p.stripe.line) opened) refl refl))

    beside : (m : ℕ) → m ≢ p.stripe.line → (v : ℕ) (u : UnitEvent) → told_by logs v (Decides (Landed unit event)) ≡ Some u → (b : Bool) → nat_eq unit v ≡ b
        → m ≢ u.chunk
    beside m other v u told true e =
        λ same. other (same ∙ chunk u (ap (λ w. unit_event_at logs w event) (eqb-true unit v e)
        ∙ ap (λ b. if b then unit_event_at logs v event else None) (sym e) ∙ told))
    beside m other v u told false e = absurd (none-some u (ap (λ b. if b then unit_event_at logs v event else None) (sym e) ∙ told))

    there : (m : ℕ) → m ≢ p.stripe.line → row_of_line i new m ≡ row_with i logs (line_of i logs) landed m
    there m other =
        let chunks : KeepsChunks i logs new m =
        keeps_chunks i logs (Landed unit event) knows m refl (λ v u told. beside m other v u told (nat_eq unit v) refl) in
        same_row (state_in i new m (life_of (new 0) m)) (state_of i logs m) (width_in i new m (life_of (new 0) m)) (width_in i logs m (life_of (logs 0) m))
        (row_of_line i new m).live (live_with i.shape.capacity (takes (logs 0)) (line_of i logs) m)
        (taker_in i new m (life_of (new 0) m)) (taker_for i logs landed m (life_of (logs 0) m))
        (ap (state_in i new m) (life m) ∙ state_same i logs new m (life_of (logs 0) m) chunks
        (λ q is. ap₂ (λ a b. if a then states.Failed else if b then states.Full else states.Open) (failed_kept (logs 0) (new 0) kept q)
        (have_landed_beside (logs 0) (new 0) unit (DidLand event) p q (line_end i.shape q / i.shape.ws_opt) (its_landing (logs 0) unit event knows)
        (first_unanswered (logs 0) unit p waits)
        (ap (is_life q.number) its ∙ other_number o.number q.number (λ same.
        other (same_Some m p.stripe.line
        (sym (life_at (logs 0) m q is).0 ∙ ap (opens_at (logs 0)) (sym same) ∙ (life_at (logs 0) p.stripe.line o opened).0)))))))
        (ap (width_in i new m) (life m) ∙ width_same i logs new m (life_of (logs 0) m) chunks (then_ m))
        (live_same m) (taker_now m)

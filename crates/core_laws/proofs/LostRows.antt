-- What a stripe that was lost changes in the table: its line is Failed, and its entries are in no
-- line.
use Rattle.std.proofs.Common.{◌≡◌, ◌≤◌, ◌≢◌, ◌⊎◌, inl, inr, ℕ, ◌/◌, ◌==◌, ◌&&◌, ◌||◌, not, nat_eq, Bool, true, false, cond, Some, None, Option, List, [], ◌∷◌, refl, sym, subst, ap, ap₂, ◌∙◌}
use Rattle.std.specs.Prelude.{slice_get, if◌then◌else◌}
use Rattle.std.specs.List.{AllByRecursion, filter, find, list_any}
use Rattle.std.specs.Option.{option_map}
use Rattle.std.proofs.lemmas.Bool.{eqb-true}
use Rattle.std.proofs.lemmas.Option.{same_Some, none-some}
use Rattle.pblk_model.specs.declared.shape.Shape.{Shape}
use Rattle.pblk_model.specs.UnitLog.{UnitEvent}
use Rattle.pblk_model.specs.Image.{Image}
use Rattle.pblk_world.specs.Events.{Lost, Decides, Logged}
use Rattle.pblk_world.specs.World.{Logs, unit_event_at}
use Rattle.pblk_world.specs.EngineLog.{Opened, life_of, is_life, Opening, Placed, placements, answer_of, is_loss, was_lost, has_failed, stripes_of, WasLost, holds_position, Taken, takes, AsFound, Freed, LineLife}
use Rattle.pblk_world.specs.Lines.{told_by}
use Rattle.pblk_world.specs.Placing.{line_end}
use Rattle.pblk_world.specs.Starts.{have_landed}
use Rattle.pblk_world.specs.Victims.{is_in_force, line_of, line_of_position, landed_line_of}
use Rattle.pblk_world.proofs.Appending.{life_more}
use Rattle.line_table.specs.declared.row.LineState.TheVariants as states
use Rattle.line_table.specs.declared.row.Row.{Row}
use Rattle.line_table.specs.Rows.{IsRow, Table}
use Rattle.core_laws.specs.Stepping.{after}
use Rattle.core_laws.specs.PlacerOf.{unanswered_on, positions_of}
use Rattle.core_laws.specs.RowsOf.{state_in, state_of, width_in, taker_in, row_of_line, rows_of}
use Rattle.core_laws.specs.ChangedTables.{with_row, failed}
use Rattle.core_laws.specs.PlacedEntries.{place_entries, lower_entries}
use Rattle.core_laws.specs.InOrder.{FreedBefore}
use Rattle.core_laws.proofs.Answered.{first_unanswered}
use Rattle.core_laws.proofs.ChangedTables.{table_changes, table_of}
use Rattle.core_laws.proofs.EntryRows.{Places, live_with, taker_with, IsNowhere}
use Rattle.core_laws.proofs.FirstAnswers.{have_landed_beside}
use Rattle.core_laws.proofs.HeldOnce.{HeldOnce}
use Rattle.core_laws.proofs.KeptRows.{KeepsChunks, KeepsThen, then_kept, state_same, width_same, same_row}
use Rattle.core_laws.proofs.LandedRows.{force_kept, winner_kept, none_taken, keeps_chunks}
use Rattle.core_laws.proofs.LoweredTables.{counted, placed_back, placed_live}
use Rattle.core_laws.proofs.LostStripe.{IsOneLost, one_lost, landed_line_same, position_lost}
use Rattle.core_laws.proofs.NotedAnswers.{answer_is}
use Rattle.core_laws.proofs.NextTakes.{IsRising, is_at}
use Rattle.core_laws.proofs.OpeningNumbers.{opens_at, life_at}
use Rattle.core_laws.proofs.Placed.{is_in_list, stripe_holds}
use Rattle.core_laws.proofs.PlacedEntryRows.{row_with, IsEntry, with_entries, entries_are, entries_placed, taker_for, entry_at}
use Rattle.core_laws.proofs.PlacedInOrder.{HasEntries}
use Rattle.core_laws.proofs.PlacedPlaces.{none_at, turned_round}
use Rattle.core_laws.proofs.PlacedRows.{table_was}
use Rattle.core_laws.proofs.SteppingLemmas.{found_kept}
use Rattle.pblk_model.proofs.Lists.{IsAmong, all_imply}
use Rattle.pblk_model.proofs.Maps.{any_agree, any_found, any_member, found_passes, in_filter}
use Rattle.pblk_model.proofs.Tests.{first_of, not_both, not_true, or_true, other_number, same_number, second_of}

-- ---- where its entries were

-- a position that it holds was in its line
position_held : (s : Shape) (log : List Logged) (p : Placed) (q : ℕ) → HeldOnce s log → IsAmong (placements log) p → was_lost log p ≡ false
    → is_in_force log p.life p.stripe.line ≡ true → holds_position s q p ≡ true → line_of_position s log q ≡ Some p.stripe.line
position_held s log p q once among kept force holds = go (find test (placements log)) refl
  where
    test : Placed → Bool
    test r = holds_position s q r && not (was_lost log r) && is_in_force log r.life r.stripe.line

    passes : test p ≡ true
    passes = (λ k. holds k && not (kept k) && force k)

    go : (o : Option Placed) → find test (placements log) ≡ o → option_map (λ (r : Placed). r.stripe.line) o ≡ Some p.stripe.line
    go None e = absurd (not_both (list_any test (placements log)) (any_member test (placements log) among.0 p among.1 passes)
        (any_found test (placements log) ∙ (λ k. is_some_of (e k))))
      where
        is_some_of : Option Placed → Bool
        is_some_of None = false
        is_some_of (Some x) = true
    go (Some r) e =
        let found = found_passes test (placements log) r e in
        let both : (holds_position s q r && not (was_lost log r)) ≡ true =
        first_of (holds_position s q r && not (was_lost log r)) (is_in_force log r.life r.stripe.line) found.0 in
        let same : r ≡ p = once q r p found.1 among (first_of (holds_position s q r) (not (was_lost log r)) both) holds
        (not_true (was_lost log r) (second_of (holds_position s q r) (not (was_lost log r)) both)) kept in
        ap (λ (x : Placed). Some x.stripe.line) same

-- ---- the line

-- its line is Failed
pub fails_now : (log new : List Logged) (p : Placed) (o : Opening) → IsOneLost log new p → p.life ≡ Opened o → has_failed new o ≡ true
fails_now log new p o is life =
    let there : IsAmong (placements new) p = subst (λ (ps : List Placed). IsAmong ps p) (sym is.stripes) is.among in
    let among : IsAmong (stripes_of new o) p = in_filter (λ (r : Placed). is_life o.number r.life) (placements new) p there
    (ap (is_life o.number) life ∙ same_number o.number) in
    any_member (was_lost new) (stripes_of new o) among.0 p among.1 is.lost

-- another isn't, but where it was
pub fails_beside : (log new : List Logged) (p : Placed) (o : Opening) → IsOneLost log new p → is_life o.number p.life ≡ false
    → has_failed new o ≡ has_failed log o
fails_beside log new p o is other =
    ap (λ (ps : List Placed). list_any (was_lost new) (filter (λ (r : Placed). is_life o.number r.life) ps)) is.stripes
    ∙ any_agree (was_lost new) (was_lost log) (stripes_of log o) (beside (placements log) is.others)
  where
    loses : (r : Placed) → is_life o.number r.life ≡ true → (r ≡ p) ⊎ (answer_of new r ≡ answer_of log r) → was_lost new r ≡ was_lost log r
    loses r its (inl same) = absurd (not_both (is_life o.number r.life) its (ap (λ (x : Placed). is_life o.number x.life) same ∙ other))
    loses r its (inr kept) = ap is_loss kept

    one : (r : Placed) (ps : List Placed) → (r ≡ p) ⊎ (answer_of new r ≡ answer_of log r)
        → AllByRecursion (λ (r : Placed). was_lost new r ≡ was_lost log r) ps
        → (b : Bool) → is_life o.number r.life ≡ b → AllByRecursion (λ (r : Placed). was_lost new r ≡ was_lost log r) (cond b (r ∷ ps) ps)
    one r ps here rest true e = (loses r e here, rest)
    one r ps here rest false e = rest

    beside : (ps : List Placed) → AllByRecursion (λ (r : Placed). (r ≡ p) ⊎ (answer_of new r ≡ answer_of log r)) ps
        → AllByRecursion (λ (r : Placed). was_lost new r ≡ was_lost log r) (filter (λ (r : Placed). is_life o.number r.life) ps)
    beside [] all = tt
    beside (r ∷ ps) all = one r (filter (λ (r : Placed). is_life o.number r.life) ps) all.0 (beside ps all.1) (is_life o.number r.life) refl

-- ---- the rows

module _ (i : Image) (logs : Logs) (unit event : ℕ) (knows : List ℕ) (p : Placed) (o : Opening) (before : FreedBefore (logs 0))
    (once : HeldOnce i.shape (logs 0)) (waits : unanswered_on (logs 0) unit ≡ Some p) (its : p.life ≡ Opened o)
    (opened : life_of (logs 0) p.stripe.line ≡ Opened o)
    (chunk : (e : UnitEvent) → unit_event_at logs unit event ≡ Some e → e.chunk ≡ p.stripe.line)
    (rise : IsRising (takes (logs 0))) (has : HasEntries i.shape (logs 0) p.stripe) where
  abbrev new : Logs
  new = after logs (Lost unit event) knows

  is : IsOneLost (logs 0) (after logs (Lost unit event) knows 0) p
  is = one_lost (logs 0) unit event knows p waits

  lives : (line : ℕ) → life_of (after logs (Lost unit event) knows 0) line ≡ life_of (logs 0) line
  lives line = life_more (logs 0) (record { event = Decides (Lost unit event); knows = knows }) line

  stand : (r : Placed) → is_in_force (after logs (Lost unit event) knows 0) r.life r.stripe.line ≡ is_in_force (logs 0) r.life r.stripe.line
  stand r = force_kept (logs 0) (after logs (Lost unit event) knows 0) lives r.life r.stripe.line

  force : is_in_force (logs 0) p.life p.stripe.line ≡ true
  force = ap (λ l. is_in_force (logs 0) l p.stripe.line) its ∙ ap (is_life o.number) opened ∙ same_number o.number

  holds : (q : ℕ) → holds_position i.shape q p ≡ list_any (λ (t : Taken). t.entry.position == q) has.entries
  holds q = stripe_holds i.shape q p ∙ ap (λ qs. is_in_list qs q) has.positions ∙ mapped has.entries
    where
      mapped : (ts : List Taken) → is_in_list (positions_of ts) q ≡ list_any (λ (t : Taken). t.entry.position == q) ts
      mapped [] = refl
      mapped (t ∷ ts) = ap (λ b. (t.entry.position == q) || b) (mapped ts)

  -- the entries were in its line, and are in none
  places : (lba : ℕ) (u : Option Taken) → line_of i logs lba u ≡ with_entries p.stripe.line has.entries (line_of i new) lba u
  places lba None =
      sym (entries_are p.stripe.line has.entries (line_of i new) lba None
      ∙ ap (λ b. if b then Some p.stripe.line else line_of i new lba None) (none_at has.entries)
      ∙ winner_kept i logs new (found_kept i logs (Lost unit event) knows refl) lives lba)
  places lba (Some u) =
      go (holds_position i.shape u.entry.position p) refl
      ∙ sym (entries_are p.stripe.line has.entries (line_of i new) lba (Some u)
      ∙ ap (λ b. if b then Some p.stripe.line else line_of_position i.shape (new 0) u.entry.position) (turned has.entries ∙ sym (holds u.entry.position)))
    where
      turned : (ts : List Taken) → list_any (λ (t : Taken). is_at t.entry.position (Some u)) ts ≡ list_any
          (λ (t : Taken). t.entry.position == u.entry.position) ts
      turned [] = refl
      turned (t ∷ ts) = ap₂ (λ a b. a || b) (turned_round u.entry.position t.entry.position) (turned ts)

      go : (b : Bool) → holds_position i.shape u.entry.position p ≡ b
          → line_of_position i.shape (logs 0) u.entry.position ≡ (if b then Some p.stripe.line else line_of_position i.shape (new 0) u.entry.position)
      go true e = position_held i.shape (logs 0) p u.entry.position once is.among (ap is_loss is.before) force e
      go false e = sym (position_lost i.shape (logs 0) (after logs (Lost unit event) knows 0) p u.entry.position once is stand
          ∙ ap (λ b. if b then None else line_of_position i.shape (logs 0) u.entry.position) e)

  nowhere : (ts : List Taken) → ((q : ℕ) → list_any (λ (t : Taken). t.entry.position == q) ts ≡ true → holds_position i.shape q p ≡ true)
      → AllByRecursion (λ (t : Taken). IsNowhere t.entry.position (line_of i (after logs (Lost unit event) knows))) ts
  nowhere [] all = tt
  nowhere (t ∷ ts) all = (
    λ lba u e. position_lost i.shape (logs 0) (after logs (Lost unit event) knows 0) p u.entry.position once is stand
        ∙ ap (λ b. if b then None else line_of_position i.shape (logs 0) u.entry.position)
        (ap (λ q. holds_position i.shape q p) e
        ∙ all t.entry.position (ap (λ b. b || list_any (λ (x : Taken). x.entry.position == t.entry.position) ts) (same_number t.entry.position))),
    nowhere ts (λ q e. all q (ap (λ b. (t.entry.position == q) || b) e ∙ or_true (t.entry.position == q))),
  )

  pub was : rows_of i logs ≡ place_entries (logs 0) p.stripe.line (table_of i.shape (row_with i logs (line_of i new) (landed_line_of i logs))) has.entries
  was =
      table_was i logs
      ∙ ap (λ (ps : Places). table_of i.shape (row_with i logs ps (landed_line_of i logs))) (λ k lba u. places lba u k)
      ∙ entries_placed i logs p.stripe.line has.entries (line_of i new) (landed_line_of i logs) rise has.rising
      (all_imply (IsAmong (takes (logs 0))) (IsEntry (takes (logs 0))) (λ t there. entry_at (takes (logs 0)) there.0 t there.1) has.entries has.among)
      (nowhere has.entries (λ q e. holds q ∙ e))

  takes_same : takes (new 0) ≡ takes (logs 0)
  takes_same = none_taken (logs 0) (Lost unit event) knows refl

  live_is : (m : ℕ) → (row_of_line i new m).live ≡ live_with i.shape.capacity (takes (logs 0)) (line_of i new) m
  live_is m = ap (λ (ts : List Taken). live_with i.shape.capacity ts (line_of i new) m) takes_same

  landed_is : landed_line_of i new ≡ landed_line_of i logs
  landed_is = λ k lba u. same lba u k
    where
      same : (lba : ℕ) (u : Option Taken) → landed_line_of i new lba u ≡ landed_line_of i logs lba u
      same lba None = winner_kept i logs new (found_kept i logs (Lost unit event) knows refl) lives lba
      same lba (Some u) = landed_line_same i.shape (logs 0) (after logs (Lost unit event) knows 0) p u.entry.position is stand

  then_ : (m : ℕ) → KeepsThen i logs new m (life_of (logs 0) m)
  then_ m = then_kept i logs (Lost unit event) knows m before

  taker_for_life : (m : ℕ) (l : LineLife) → KeepsThen i logs new m l → taker_in i new m l ≡ taker_for i logs (landed_line_of i logs) m l
  taker_for_life m AsFound same = ap₂ (λ ts ps. taker_with i.shape.capacity ts ps m) takes_same landed_is
  taker_for_life m (Opened q) same = ap₂ (λ ts ps. taker_with i.shape.capacity ts ps m) takes_same landed_is
  taker_for_life m (Freed past ks) same = same.1

  taker_now : (m : ℕ) → taker_in i new m (life_of (new 0) m) ≡ taker_for i logs (landed_line_of i logs) m (life_of (logs 0) m)
  taker_now m = ap (taker_in i new m) (lives m) ∙ taker_for_life m (life_of (logs 0) m) (then_ m)

  here : row_of_line i new p.stripe.line ≡ failed (row_with i logs (line_of i new) (landed_line_of i logs) p.stripe.line)
  here =
      same_row (state_in i new p.stripe.line (life_of (new 0) p.stripe.line)) states.Failed
      (width_in i new p.stripe.line (life_of (new 0) p.stripe.line)) (width_in i logs p.stripe.line (life_of (logs 0) p.stripe.line))
      (row_of_line i new p.stripe.line).live (live_with i.shape.capacity (takes (logs 0)) (line_of i new) p.stripe.line)
      (taker_in i new p.stripe.line (life_of (new 0) p.stripe.line))
      (taker_for i logs (landed_line_of i logs) p.stripe.line (life_of (logs 0) p.stripe.line))
      (ap (state_in i new p.stripe.line) (lives p.stripe.line ∙ opened)
      ∙ ap (λ b. if b then states.Failed else if have_landed (new 0) o (line_end i.shape o / i.shape.ws_opt) then states.Full else states.Open)
      (fails_now (logs 0) (after logs (Lost unit event) knows 0) p o is its))
      (ap (width_in i new p.stripe.line) (lives p.stripe.line ∙ opened) ∙ sym (ap (width_in i logs p.stripe.line) opened))
      (live_is p.stripe.line) (taker_now p.stripe.line)

  beside : (m : ℕ) → m ≢ p.stripe.line → (v : ℕ) (u : UnitEvent) → told_by logs v (Decides (Lost unit event)) ≡ Some u → (b : Bool) → nat_eq unit v ≡ b
      → m ≢ u.chunk
  beside m other v u told true e =
      λ same. other (same ∙ chunk u (ap (λ w. unit_event_at logs w event) (eqb-true unit v e)
      ∙ ap (λ b. if b then unit_event_at logs v event else None) (sym e) ∙ told))
  beside m other v u told false e = absurd (none-some u (ap (λ b. if b then unit_event_at logs v event else None) (sym e) ∙ told))

  there : (m : ℕ) → m ≢ p.stripe.line → row_of_line i new m ≡ row_with i logs (line_of i new) (landed_line_of i logs) m
  there m other =
      let chunks : KeepsChunks i logs new m =
      keeps_chunks i logs (Lost unit event) knows m refl (λ v u told. beside m other v u told (nat_eq unit v) refl) in
      same_row (state_in i new m (life_of (new 0) m)) (state_of i logs m) (width_in i new m (life_of (new 0) m)) (width_in i logs m (life_of (logs 0) m))
      (row_of_line i new m).live (live_with i.shape.capacity (takes (logs 0)) (line_of i new) m)
      (taker_in i new m (life_of (new 0) m)) (taker_for i logs (landed_line_of i logs) m (life_of (logs 0) m))
      (ap (state_in i new m) (lives m) ∙ state_same i logs new m (life_of (logs 0) m) chunks
      (λ q at.
      let apart : is_life q.number p.life ≡ false =
      ap (is_life q.number) its ∙ other_number o.number q.number (λ same.
      other (same_Some m p.stripe.line
      (sym (life_at (logs 0) m q at).0 ∙ ap (opens_at (logs 0)) (sym same) ∙ (life_at (logs 0) p.stripe.line o opened).0))) in
      ap₂ (λ a b. if a then states.Failed else if b then states.Full else states.Open)
      (fails_beside (logs 0) (after logs (Lost unit event) knows 0) p q is apart)
      (have_landed_beside (logs 0) (new 0) unit (WasLost event) p q (line_end i.shape q / i.shape.ws_opt) (answer_is (logs 0) unit knows (WasLost event))
      (first_unanswered (logs 0) unit p waits) apart)))
      (ap (width_in i new m) (lives m) ∙ width_same i logs new m (life_of (logs 0) m) chunks (then_ m))
      (live_is m) (taker_now m)

  pub rows_lost : rows_of i (after logs (Lost unit event) knows)
      ≡ with_row p.stripe.line failed (lower_entries (logs 0) p.stripe.line (rows_of i logs) has.entries)
  rows_lost =
      table_changes i.shape (row_with i logs (line_of i new) (landed_line_of i logs)) (row_of_line i new) p.stripe.line failed here there
      ∙ ap (with_row p.stripe.line failed)
      (sym (placed_back (logs 0) p.stripe.line (table_of i.shape (row_with i logs (line_of i new) (landed_line_of i logs))) has.entries)
      ∙ ap (λ table. lower_entries (logs 0) p.stripe.line table has.entries) (sym was))

  -- its line has so many live sectors as came with its entries, at least
  pub live_lost : (row : Row) → IsRow (rows_of i logs) p.stripe.line row → counted (logs 0) i.shape.capacity has.entries ≤ row.live
  live_lost row at =
      placed_live (logs 0) p.stripe.line (table_of i.shape (row_with i logs (line_of i new) (landed_line_of i logs))) has.entries row
      (ap (λ (t : Table). slice_get t.rows p.stripe.line) (sym was) ∙ at)

-- What a core collects once an event of the engine is behind: it collected what the logs said, its
-- tables stand for the logs with the event, and it has chosen a victim.
use Rattle.std.proofs.Common.{◌≡◌, ◌≢◌, ◌⊎◌, inl, inr, ℕ, ◌+◌, ◌-◌, ◌^◌, ◌<◌, ◌≤◌, ◌==◌, max, min, nat_lt, Bool, true, false, Some, None, Option, List, [], ◌∷◌, ◌++◌, length, refl, sym, subst, ap, ◌∙◌, append-nil, arith, if◌then◌else◌}
use Rattle.std.specs.Prelude.{slice_get}
use Rattle.std.specs.List.{filter, last_or}
use Rattle.std.specs.FinMap as fin
use Rattle.std.specs.Option.{option_and_then, option_map, option_map_or, option_to_list}
use Rattle.std.proofs.lemmas.Option.{none-some, same_Some}
use Rattle.pblk_model.specs.Image.{Image}
use Rattle.pblk_world.specs.AtRest.{asked_by, pad_target, victim_now}
use Rattle.pblk_world.specs.EngineLog.{life_of, Taken, taken_by, takes}
use Rattle.pblk_world.specs.Events.{Begin, Beginning, Decides, EngineEvent, Free, Logged}
use Rattle.pblk_world.specs.Fronts.{first_position, taken}
use Rattle.pblk_world.specs.Space.{is_due}
use Rattle.pblk_world.specs.Victims.{comes_to_work, is_freed, live, next_victim, stays_at_work, taken_up_to, took_from, victim}
use Rattle.pblk_world.specs.World.{World, Logs, log_of}
use Rattle.line_table.specs.declared.row.Row.{Row}
use Rattle.l2p_map.specs.declared.slot.Slot.TheVariants.{Media}
use Rattle.pblk_world.specs.LegalMounts.{IsLegalMount}
use Rattle.world_laws.proofs.Lives.{IsFree, IsNeither, IsOpen, Turns, life_freed, life_opened, life_stays, turns}
use Rattle.core_laws.specs.CandidateLines.{IsCandidate, IsNextVictim}
use Rattle.core_laws.specs.RowsOf.{row_of_line, taker_by, taker_in}
use Rattle.core_laws.specs.Stepping.{after}
use Rattle.core_laws.proofs.CachedEntries.{numbered_at}
use Rattle.core_laws.proofs.CandidateLines.{candidate_when}
use Rattle.core_laws.proofs.TakenRows.{taker_is}
use Rattle.core_laws.proofs.ChosenVictims.{next_victim_is}
use Rattle.core_laws.proofs.LastTakes.{last_passing}
use Rattle.core_laws.proofs.NextVictims.{victim_next}
use Rattle.core_laws.proofs.VictimsAtWork.{IsVictim, over_where_closed, victim_is_closed}
use Rattle.pblk_model.proofs.Lists.{IsAmong}
use Rattle.pblk_model.proofs.Parts.{from_last, get_below, got_within}
use Rattle.pblk_model.proofs.Tests.{positive, same}
use Rattle.pblk_world.proofs.EngineLogLemmas.{takes_more}
use Rattle.pblk_core.specs.declared.collecting.Collection.{Collection}
use Rattle.pblk_core.specs.declared.line_notes.LineNote.{LineNote}
use Rattle.pblk_core.specs.declared.target_core.Core.{Core}
use Rattle.core_laws.specs.ClosedLines.{ClosedLine}
use Rattle.pblk_core.specs.LineNotes.{closed_by}
use Rattle.pblk_core.specs.Collecting.{BringsNone, Collects, HasPassed, IsBarrenRightly, victim_after}
use Rattle.pblk_core.specs.Copies.{asked_by_row, is_due_in, victim_asks, victim_row}
use Rattle.pblk_core.specs.Named.{pad_of}
use Rattle.pblk_core.specs.Stands.{Stands}
use Rattle.pblk_core.proofs.BarrenLines.{barren_kept}
use Rattle.pblk_core.proofs.SmallCalls.{numbered_in}
use Rattle.pblk_core.proofs.SmallGrant.{due_is}
use Rattle.pblk_core.proofs.SmallPositions.{taken_bounded}
use Rattle.pblk_core.proofs.SpentTables.{row_stands, taker_numbered}

-- ---- positions that were taken are small

abbrev pub AreSmall : List Logged → Type 0
AreSmall log = (t : Taken) → IsAmong (takes log) t → t.entry.position < 2 ^ 62

small_now : (i : Image) (w : World) (c : Core) → IsLegalMount i w → Stands i (log_of w) c → AreSmall (log_of w 0)
small_now i w c mount st = λ t among.
    let first : first_position (log_of w 0) ≤ 2 ^ 62 = subst (λ n. n ≤ 2 ^ 62) st.first st.fits.first in
    let most : taken (log_of w 0) ≤ 2 ^ 62 = taken_bounded i w mount first in
    let at : t.entry.position ≡ first_position (log_of w 0) + among.0 =
    numbered_at (first_position (log_of w 0)) (length (takes (log_of w 0))) (takes (log_of w 0)) among.0 t (numbered_in i w mount) among.1 in
    let within : among.0 < length (takes (log_of w 0)) = get_below (takes (log_of w 0)) among.0 t among.1 in
    omega arith

small_after : (logs : Logs) (e : EngineEvent) (knows : List ℕ) → AreSmall (logs 0)
    → ((t : Taken) → taken_by (Decides e) ≡ Some t → t.entry.position < 2 ^ 62) → AreSmall (after logs e knows 0)
small_after logs e knows was new = λ t among. go t (taken_by (Decides e)) refl
    (subst (λ ts. IsAmong ts t) (takes_more (logs 0) (record { event = Decides e; knows = knows })) among)
  where
    go : (t : Taken) (o : Option Taken) → taken_by (Decides e) ≡ o → IsAmong (takes (logs 0) ++ option_to_list o) t → t.entry.position < 2 ^ 62
    go t None is among = was t (subst (λ ts. IsAmong ts t) (append-nil (takes (logs 0))) among)
    go t (Some u) is among = by (from_last (takes (logs 0)) u t among)
      where
        by : IsAmong (takes (logs 0)) t ⊎ (u ≡ t) → t.entry.position < 2 ^ 62
        by (inl before) = was t before
        by (inr same) = new t (is ∙ ap (λ (x : Taken). Some x) same)

-- ---- lines that were not freed

-- a line stays unfreed where the event doesn't free it
pub unfreed_after : (logs : Logs) (e : EngineEvent) (knows : List ℕ) (line : ℕ) → is_freed (life_of (logs 0) line) ≡ false → e ≢ Free line
    → is_freed (life_of (after logs e knows 0) line) ≡ false
unfreed_after logs e knows line was other = go (turns line (length (logs 0)) knows (Decides e))
  where
    l : Logged
    l = record { event = Decides e; knows = knows }

    go : Turns line (length (logs 0)) knows (Decides e) → is_freed (life_of (logs 0 ++ record { event = Decides e; knows = knows } ∷ []) line) ≡ false
    go (IsNeither none) = ap is_freed (life_stays (logs 0) l line none) ∙ was
    go (IsOpen start is) = ap is_freed (life_opened (logs 0) l line start is)
    go (IsFree is) = absurd (other cc)

-- ---- the victim

-- it is in range, and its row has the position that took a sector from it last
pub record IsVictimRow (i : Image) (logs : Logs) (line : ℕ) : Type 0 where
  pub in_range : line < i.shape.chunks
  pub taker : taker_in i logs line (life_of (logs 0) line) ≡ taker_by i logs line

next_row : (i : Image) (logs : Logs) (line : ℕ) → next_victim i logs ≡ Some line → IsVictimRow i logs line
next_row i logs line e =
    let next : IsNextVictim i logs line = next_victim_is i logs line e in
    let its : IsCandidate i logs line next.chosen = candidate_when i logs line next.chosen next.is_candidate in
    record {
      in_range = next.in_range;
      taker = taker_numbered i logs line its.closed.seq (over_where_closed i logs line its.closed its.is_closed).1;
    }

come_row : (i : Image) (logs : Logs) (line : ℕ) (due : Bool) → (if due then next_victim i logs else None) ≡ Some line → IsVictimRow i logs line
come_row i logs line true e = next_row i logs line e
come_row i logs line false e = absurd (none-some line e)

stay_row : (i : Image) (logs : Logs) (line : ℕ) (was : Option ℕ) → ((other : ℕ) → was ≡ Some other → other < i.shape.chunks)
    → stays_at_work i logs was ≡ Some line → IsVictimRow i logs line
stay_row i logs line None inside e = come_row i logs line (is_due i logs) e
stay_row i logs line (Some other) inside e = go (is_freed (life_of (logs 0) other)) refl e
  where
    go : (b : Bool) → is_freed (life_of (logs 0) other) ≡ b → (if b then comes_to_work i logs else Some other) ≡ Some line → IsVictimRow i logs line
    go true is f = come_row i logs line (is_due i logs) f
    go false is f = subst (IsVictimRow i logs) (same_Some other line f)
        (record { in_range = inside other refl; taker = taker_is i logs other (life_of (logs 0) other) is })

-- the event leaves the victim at work, unless it frees it
pub stays : (i : Image) (w : World) (e : EngineEvent) (knows : List ℕ) → IsLegalMount i w → (was : Option ℕ) → victim_now i (log_of w) ≡ was
    → ((line : ℕ) → was ≡ Some line → e ≢ Free line) → stays_at_work i (after (log_of w) e knows) was ≡ victim_after i (after (log_of w) e knows) was
stays i w e knows mount None is other = refl
stays i w e knows mount (Some line) is other =
    ap (λ b. if b then comes_to_work i (after (log_of w) e knows) else Some line)
    (unfreed_after (log_of w) e knows line (victim_is_closed i w line mount is).not_freed (other line refl))

-- where it is freed the next one comes
pub stays_freed : (i : Image) (logs : Logs) (line : ℕ) (knows : List ℕ)
    → stays_at_work i (after logs (Free line) knows) (Some line) ≡ victim_after i (after logs (Free line) knows) None
stays_freed i logs line knows =
    ap (λ life. if is_freed life then comes_to_work i (after logs (Free line) knows) else Some line)
    (life_freed (logs 0) (record { event = Decides (Free line); knows = knows }) line refl)

-- ---- what it asks for

module _ (i : Image) (logs : Logs) (c : Core) (st : Stands i logs c) (small : AreSmall (logs 0)) where
  taken_asks : (o : Option Taken) → ((t : Taken) → o ≡ Some t → t.entry.position < 2 ^ 62)
      → option_map_or (λ (t : Taken). t.entry.position + 1) o 0
      ≤ option_map_or (λ taker. min (taker + 1) (2 ^ 64 - 1)) (option_map (λ (t : Taken). t.entry.position) o) 0
  taken_asks None low = omega arith
  taken_asks (Some t) low = let few : t.entry.position < 2 ^ 62 = low t refl in omega arith

  unless_live : (n a b : ℕ) → a ≤ b → (if n == 0 then a else 0) ≤ (if nat_lt 0 n then 0 else b)
  unless_live n a b low = go (n == 0) refl (nat_lt 0 n) refl
    where
      go : (p : Bool) → (n == 0) ≡ p → (q : Bool) → nat_lt 0 n ≡ q → (if p then a else 0) ≤ (if q then 0 else b)
      go false e q f = omega arith
      go true e true f = let none : n ≡ 0 = same n 0 e in let some : 0 < n = positive n f in absurd (omega arith)
      go true e false f = low

  row_asks : (line : ℕ) → IsVictimRow i logs line → asked_by i logs (Some line) ≤ asked_by_row (row_of_line i logs line)
  row_asks line its =
      let last : Option Taken = last_or None (filter (took_from i logs line) (takes (logs 0))) in
      let low : taken_up_to i logs line ≤ option_map_or (λ taker. min (taker + 1) (2 ^ 64 - 1)) (taker_by i logs line) 0 =
      taken_asks last (λ t is. let found = last_passing (took_from i logs line) (takes (logs 0)) t is in small t (found.place, found.there)) in
      subst (λ taker. (if live i logs line == 0 then taken_up_to i logs line else 0)
      ≤ (if nat_lt 0 (live i logs line) then 0 else option_map_or (λ (n : ℕ). min (n + 1) (2 ^ 64 - 1)) taker 0)) (sym its.taker)
      (unless_live (live i logs line) (taken_up_to i logs line) (option_map_or (λ (n : ℕ). min (n + 1) (2 ^ 64 - 1)) (taker_by i logs line) 0) low)

  victim_by : (was : Option ℕ) → ((line : ℕ) → was ≡ Some line → IsVictimRow i logs line)
      → asked_by i logs was ≤ option_map_or asked_by_row (option_and_then (λ line. slice_get c.lines.rows line) was) 0
  victim_by None rows = omega arith
  victim_by (Some line) rows =
      let its = rows line refl in
      subst (λ o. asked_by i logs (Some line) ≤ option_map_or asked_by_row o 0) (sym (row_stands i logs st line its.in_range)) (row_asks line its)

  where_due : (due : Bool) (a b : ℕ) → a ≤ b → max 0 (if due then a else 0) ≤ (if due then b else 0)
  where_due false a b low = omega arith
  where_due true a b low = omega arith

  pub pads_asked : c.collection.victim ≡ victim_now i logs → ((line : ℕ) → victim_now i logs ≡ Some line → IsVictimRow i logs line)
      → pad_target i logs 0 ≤ victim_asks c
  pads_asked same rows =
      subst (λ due. pad_target i logs 0 ≤ (if due then option_map_or asked_by_row (victim_row c) 0 else 0)) (sym (due_is i logs c st))
      (subst (λ (v : Option ℕ). pad_target i logs 0
      ≤ (if is_due i logs then option_map_or asked_by_row (option_and_then (λ line. slice_get c.lines.rows line) v) 0 else 0)) (sym same)
      (where_due (is_due i logs) (asked_by i logs (victim_now i logs))
      (option_map_or asked_by_row (option_and_then (λ line. slice_get c.lines.rows line) (victim_now i logs)) 0) (victim_by (victim_now i logs) rows)))

-- where no line has such a position it asks for none
pub asks_none : (c : Core) → ((line : ℕ) (row : Row) → slice_get c.lines.rows line ≡ Some row → row.taker ≡ None) → victim_asks c ≡ 0
asks_none c none = by (is_due_in c) c.collection.victim
  where
    row_none : (line : ℕ) (o : Option Row) → slice_get c.lines.rows line ≡ o → option_map_or asked_by_row o 0 ≡ 0
    row_none line None there = refl
    row_none line (Some row) there =
        ap (λ taker. if nat_lt 0 row.live then 0 else option_map_or (λ (n : ℕ). min (n + 1) (2 ^ 64 - 1)) taker 0) (none line row there)
        ∙ either_way (nat_lt 0 row.live)
      where
        either_way : (b : Bool) → ◌≡◌ {A = ℕ} (if b then 0 else 0) 0
        either_way true = refl
        either_way false = refl

    by : (due : Bool) (was : Option ℕ) → (if due then option_map_or asked_by_row (option_and_then (λ line. slice_get c.lines.rows line) was) 0 else 0) ≡ 0
    by false was = refl
    by true None = refl
    by true (Some line) = row_none line (slice_get c.lines.rows line) refl

-- ---- sectors that were passed

-- where the map and what is collected are as they were
pub passed_same : (old new : Core) → HasPassed old → new.map ≡ old.map → new.collection ≡ old.collection → HasPassed new
passed_same old new was map col = λ lba line at position low at_work there. was lba line at position
    (subst (λ (x : Collection). lba < x.cursor) col low) (sym (ap (λ (x : Collection). x.victim) col) ∙ at_work) (ap (λ m. fin.get m lba) (sym map) ∙ there)

-- a note that has the line's numbers is closed
note_closed : (note : LineNote) (c : ClosedLine) → closed_by note ≡ Some c → note.closed ≡ true
note_closed note c some = go note.closed some
  where
    go : (b : Bool) → ◌≡◌ {A = Option ClosedLine} (if b then Some (record { seq = note.seq; top = note.top }) else None) (Some c) → b ≡ true
    go true e = refl
    go false e = absurd cc

-- or where no block of a line whose note is closed came to the drive: the victim's is
pub passed_landed : (old new : Core) (i : Image) (w : World) → IsLegalMount i w → Stands i (log_of w) old → Collects i (log_of w) old
    → new.collection ≡ old.collection
    → ((lba line at position : ℕ) (note : LineNote) → slice_get old.notes.rows.items line ≡ Some note → note.closed ≡ true
    → fin.get new.map lba ≡ Some (Media line at position) → fin.get old.map lba ≡ Some (Media line at position))
    → HasPassed new
passed_landed old new i w mount st was col map = λ lba line at position low at_work there.
    let works : old.collection.victim ≡ Some line = sym (ap (λ (x : Collection). x.victim) col) ∙ at_work in
    let its : IsVictim i (log_of w) line = victim_is_closed i w line mount (sym was.victim ∙ works) in
    let note = got_within old.notes.rows.items line (subst (λ n. line < n) (sym st.notes.count) its.in_range) in
    was.passed lba line at position (subst (λ (x : Collection). lba < x.cursor) col low) works
    (map lba line at position note.0 note.1 (note_closed note.0 its.closed (st.notes.closed line note.0 note.1 ∙ its.is_closed)) there)

-- so it collects what it did, where it asks for no fewer pads
pub collects_same : (old new : Core) (i : Image) (logs : Logs) → Collects i logs old → new.map ≡ old.map → new.collection ≡ old.collection
    → BringsNone old new → pad_of old ≤ pad_of new → Collects i logs new
collects_same old new i logs was map col brings pads =
    let low : pad_target i logs 0 ≤ pad_of old = was.asked in
    record {
      count = ap (λ (x : Collection). length x.lines) col ∙ was.count;
      victim = ap (λ (x : Collection). x.victim) col ∙ was.victim;
      passed = passed_same old new was.passed map col;
      barren = barren_kept old new was.barren brings (ap (λ (x : Collection). x.barren) col);
      asked = omega arith;
    }

-- ---- after an event

-- A core chose a victim, and stands for these logs, for which it stood before.
pub record HasChosen (i : Image) (logs : Logs) (mid new : Core) : Type 0 where
  pub stands : Stands i logs new
  pub count : length new.collection.lines ≡ length mid.collection.lines
  pub victim : new.collection.victim ≡ victim_after i logs mid.collection.victim
  pub passed : HasPassed new
  pub barren : IsBarrenRightly new
  pub asked : pad_of new ≡ max (pad_of mid) (victim_asks new)

-- where the victim that it had is that of the logs before the event, unless that was freed
pub collected_from : (mid new : Core) (i : Image) (w : World) (e : EngineEvent) (knows : List ℕ) → IsLegalMount i w
    → AreSmall (after (log_of w) e knows 0)
    → stays_at_work i (after (log_of w) e knows) (victim_now i (log_of w)) ≡ victim_after i (after (log_of w) e knows) mid.collection.victim
    → length mid.collection.lines ≡ i.shape.chunks → HasChosen i (after (log_of w) e knows) mid new → Collects i (after (log_of w) e knows) new
collected_from mid new i w e knows mount small stay count chose =
    let logs : Logs = after (log_of w) e knows in
    let now : victim_now i (after (log_of w) e knows) ≡ stays_at_work i (after (log_of w) e knows) (victim_now i (log_of w)) =
    victim_next i (log_of w) e knows in
    let is : new.collection.victim ≡ victim_now i (after (log_of w) e knows) = chose.victim ∙ sym stay ∙ sym now in
    let asks : pad_target i (after (log_of w) e knows) 0 ≤ victim_asks new =
    pads_asked i logs new chose.stands small is
    (λ line at_work. stay_row i logs line (victim_now i (log_of w)) (λ other was. (victim_is_closed i w other mount was).in_range) (sym now ∙ at_work)) in
    let pad : pad_of new ≡ max (pad_of mid) (victim_asks new) = chose.asked in
    record { count = chose.count ∙ count; victim = is; passed = chose.passed; barren = chose.barren; asked = omega arith }

-- The event isn't the freeing of the victim, and the inner step left the victim. A position that is
-- taken is below 2^62.
pub collected : (old mid new : Core) (i : Image) (w : World) (e : EngineEvent) (knows : List ℕ) → IsLegalMount i w
    → Stands i (log_of w) old → Collects i (log_of w) old
    → ((t : Taken) → taken_by (Decides e) ≡ Some t → t.entry.position < 2 ^ 62)
    → ((line : ℕ) → old.collection.victim ≡ Some line → e ≢ Free line)
    → length mid.collection.lines ≡ length old.collection.lines → mid.collection.victim ≡ old.collection.victim
    → HasChosen i (after (log_of w) e knows) mid new → Collects i (after (log_of w) e knows) new
collected old mid new i w e knows mount st was takes_few other count victim chose =
    let logs : Logs = after (log_of w) e knows in
    let stay = stays i w e knows mount old.collection.victim (sym was.victim) other in
    collected_from mid new i w e knows mount (small_after (log_of w) e knows (small_now i w old mount st) takes_few)
    (ap (stays_at_work i logs) (sym was.victim) ∙ stay ∙ ap (victim_after i logs) (sym victim)) (count ∙ was.count) chose

-- or the event is its freeing, and none is at work then
pub collected_freed : (old mid new : Core) (i : Image) (w : World) (line : ℕ) (knows : List ℕ) → IsLegalMount i w
    → Stands i (log_of w) old → Collects i (log_of w) old → old.collection.victim ≡ Some line
    → length mid.collection.lines ≡ length old.collection.lines → mid.collection.victim ≡ None
    → HasChosen i (after (log_of w) (Free line) knows) mid new → Collects i (after (log_of w) (Free line) knows) new
collected_freed old mid new i w line knows mount st was at_work count victim chose =
    let logs : Logs = after (log_of w) (Free line) knows in
    collected_from mid new i w (Free line) knows mount
    (small_after (log_of w) (Free line) knows (small_now i w old mount st) (λ t is. absurd (none-some t is)))
    (ap (stays_at_work i logs) (sym was.victim ∙ at_work) ∙ stays_freed i (log_of w) line knows ∙ ap (victim_after i logs) (sym victim))
    (count ∙ was.count) chose

-- or the event is the mount's beginning, before which nothing was at work
none_at_first : (i : Image) (logs : Logs) → logs 0 ≡ [] → victim_now i logs ≡ None
unfolding victim
none_at_first i logs none = ap (λ (log : List Logged). victim i logs (length log)) none

pub collected_begun : (mid new : Core) (i : Image) (w : World) (begins : Beginning) (knows : List ℕ) → IsLegalMount i w → log_of w 0 ≡ []
    → length mid.collection.lines ≡ i.shape.chunks → mid.collection.victim ≡ None
    → HasChosen i (after (log_of w) (Begin begins) knows) mid new → Collects i (after (log_of w) (Begin begins) knows) new
collected_begun mid new i w begins knows mount none count victim_none chose =
    let logs : Logs = after (log_of w) (Begin begins) knows in
    collected_from mid new i w (Begin begins) knows mount
    (small_after (log_of w) (Begin begins) knows
    (λ t among. absurd (none-some t (ap (λ (log : List Logged). slice_get (takes log) among.0) (sym none) ∙ among.1))) (λ t is. absurd (none-some t is)))
    (ap (stays_at_work i logs) (none_at_first i (log_of w) none) ∙ ap (victim_after i logs) (sym victim_none)) count chose

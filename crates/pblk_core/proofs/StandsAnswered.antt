-- A core whose program was answered stands for the log with that, whether its stripe has landed or
-- is lost: given what the two answers make in different ways.
use Rattle.std.specs.Prelude.{min, slice_get, slice_set}
use Rattle.std.proofs.Common.{◌≡◌, ◌≢◌, nat_eq, ℕ, ◌^◌, ◌+◌, ◌-◌, ◌<◌, zero, suc, not, Bool, true, false, Some, List, length, refl, sym, subst, ap, ap₂, ◌∙◌, arith, inl}
use Rattle.std.specs.List.{list_all}
use Rattle.std.proofs.lemmas.Bool.{eqb-false, eqb-true}
use Rattle.std.proofs.lemmas.Option.{none-some}
use Rattle.pblk_model.specs.Chunk.{Chunk}
use Rattle.pblk_model.specs.Shape.{units}
use Rattle.pblk_model.specs.Image.{Image}
use Rattle.pblk_meta.specs.Records.{start_numbers}
use Rattle.pblk_world.specs.EngineLog.{Answer, DidLand, WasLost, Opened, is_as_found, is_opened, life_of}
use Rattle.pblk_world.specs.Events.{Landed, Lost}
use Rattle.pblk_world.specs.Lines.{chunks_of, is_over_state, known_image}
use Rattle.pblk_world.specs.Space.{open_addresses, placed_front}
use Rattle.pblk_world.specs.World.{World, Logs, log_of}
use Rattle.pblk_layout.specs.Online.{units_in}
use Rattle.stripe_placer.specs.OpenLines.{has_left, with_stripe}
use Rattle.stripe_placer.specs.Placing.{Program}
use Rattle.pblk_world.specs.LegalMounts.{IsLegalMount}
use Rattle.core_laws.specs.ClosedLines.{ClosedLine, closed_line}
use Rattle.core_laws.specs.OpenedLines.{by_answer, online_now, open_line}
use Rattle.core_laws.specs.PlacerOf.{IsAwaited, placing_of}
use Rattle.core_laws.specs.RowsOf.{rows_of}
use Rattle.core_laws.specs.Stepping.{after}
use Rattle.core_laws.proofs.ClosedLanded.{closed_as, closed_if, closed_left, closed_others}
use Rattle.core_laws.proofs.KeptLines.{few_units}
use Rattle.core_laws.proofs.KeptRows.{begun_kept}
use Rattle.core_laws.proofs.KeptSlots.{first_kept}
use Rattle.core_laws.proofs.NotedAnswers.{MayNote, lives_noted, none_begun, none_opened, noting, openings_noted, users_noted}
use Rattle.core_laws.proofs.MadeLists.{mapped_agree as same_in_range}
use Rattle.core_laws.proofs.PlacedFront.{front_kept}
use Rattle.core_laws.proofs.PlacedLines.{get_row as row_there}
use Rattle.core_laws.proofs.UnitBits.{bits_back}
use Rattle.core_laws.proofs.VictimsAtWork.{over_where_closed}
use Rattle.pblk_core.specs.Answering.{IsCounted, IsKeptByAnswers, IsLineAnswered}
use Rattle.pblk_core.specs.LineNotes.{AreNotes}
use Rattle.pblk_core.specs.Resets.{used_in, used_units}
use Rattle.pblk_core.specs.Stands.{Stands, AreHolds, AreOpenLines, answer_count, answer_counts, stripes_left, under_way}
use Rattle.pblk_core.specs.declared.open_lines.OpenLines.{OpenLines}
use Rattle.pblk_core.specs.declared.target_core.Core.{Core}
use Rattle.pblk_core.proofs.AnswerCounts.{count_at, counts_noted}
use Rattle.pblk_core.proofs.AnsweredLines.{answered_open, stripes_less}
use Rattle.pblk_core.proofs.AnsweredLogs.{live_noted, one_less_under_way}
use Rattle.pblk_core.proofs.AnsweredNow.{AreRead}
use Rattle.pblk_core.proofs.AnsweredOpen.{IsAnswered, lines_stay, line_leaves, own_now}
use Rattle.pblk_core.proofs.FoundLines.{older_kept}
use Rattle.pblk_core.proofs.FreedResets.{used_over}
use Rattle.pblk_core.proofs.FullOpenings.{full_kept}
use Rattle.pblk_core.proofs.KeptResets.{fits_same, resets_noted, used_beside}
use Rattle.pblk_core.proofs.LandedLines.{HasSlot}
use Rattle.pblk_core.proofs.LandedWay.{IsOnWay, line_of_way, unit_is}
use Rattle.pblk_core.proofs.LineCounts.{none_left, some_left}

-- what the two answers make in different ways
pub record AreAnswered (i : Image) (logs : Logs) (again : List ℕ) (new : Core) : Type 0 where
  pub read : AreRead i logs new
  pub table : new.lines ≡ rows_of i logs
  pub notes : AreNotes i logs new.notes
  pub holds : AreHolds i.shape (logs 0) new.holds
  pub placing : new.placer ≡ placing_of i logs new.placer.entries.pad again
  pub left : new.left ≡ open_addresses i logs

module _ (i : Image) (w : World) (unit : ℕ) (a : Answer) (knows : List ℕ) (old new : Core) (of : Program) (mid : OpenLines) (none : Bool)
    (mount : IsLegalMount i w) (st : Stands i (log_of w) old) (is : IsOnWay i w unit of)
    (waits : IsAwaited i (log_of w) old.placer.entries.pad st.again of) (may : MayNote (log_of w) unit a)
    (has : HasSlot i (log_of w) old.open is.row.opening)
    (line : IsLineAnswered old.open mid new.open old.resets new.resets old.online.items of.line has.k has.slot (stripes_less i of a) none) where
  abbrev new_logs : Logs
  new_logs = after (log_of w) (noting unit a) knows

  its_line : of.line ≡ is.row.stripe.stripe.line
  its_line = sym (line_of_way i w unit of is) ∙ is.its_line

  line_inside : is.row.stripe.stripe.line < i.shape.chunks
  line_inside = subst (λ n. n < i.shape.chunks) is.its_line is.line_is.well.in_range

  -- ---- what is left of its line

  answered : IsAnswered i w (after (log_of w) (noting unit a) knows) unit of is (by_answer (Some a)) (stripes_less i of a)
  answered = answered_open i w mount unit knows old.placer.entries.pad st.again of is waits a

  pub last : stripes_left (open_line i (log_of w) is.row.opening) - stripes_less i of a ≡ 0 → none ≡ true
  last e = line.last (ap (λ n. n - stripes_less i of a) has.is.left ∙ e)

  pub none_is : none ≡ true → stripes_left (open_line i (log_of w) is.row.opening) - stripes_less i of a ≡ 0
  none_is e = ap (λ n. n - stripes_less i of a) (sym has.is.left) ∙ line.none_left e

  some_more : none ≡ false → (n m : ℕ) → (m ≡ 0 → none ≡ true) → m ≡ n → 0 < m
  some_more e zero m ends z = absurd (let wrong : false ≡ true = sym e ∙ ends z in cc)
  some_more e (suc n) m ends z = omega (arith, z)

  pub gone_is : not (has_left (open_line i (after (log_of w) (noting unit a) knows) is.row.opening)) ≡ none
  gone_is =
      ap (λ l. not (has_left l)) (own_now i w new_logs unit of is (by_answer (Some a)) (stripes_less i of a) answered has.k has.opening) ∙ go none refl
    where
      fewer : stripes_left (with_stripe (open_line i (log_of w) is.row.opening) is.number (by_answer (Some a))) + stripes_less i of a
          ≡ stripes_left (open_line i (log_of w) is.row.opening)
      fewer = answered.fewer

      go : (b : Bool) → none ≡ b → not (has_left (with_stripe (open_line i (log_of w) is.row.opening) is.number (by_answer (Some a)))) ≡ b
      go true e = ap not (none_left (with_stripe (open_line i (log_of w) is.row.opening) is.number (by_answer (Some a)))
          (let z = none_is e in let f = fewer in omega arith))
      go false e = ap not (some_left (with_stripe (open_line i (log_of w) is.row.opening) is.number (by_answer (Some a)))
          (some_more e (stripes_left (with_stripe (open_line i (log_of w) is.row.opening) is.number (by_answer (Some a)))) _
          (λ z. last (let f = fewer in omega (arith, z, f))) refl))

  open_is : (b : Bool) → none ≡ b → AreOpenLines i (after (log_of w) (noting unit a) knows) new.open
  open_is true e = line_leaves i w new_logs unit of is (by_answer (Some a)) (stripes_less i of a) answered old.open mid st.open_lines has line.in_slot new.open
      (line.gone e) (line.none_left e)
  open_is false e = subst (AreOpenLines i (after (log_of w) (noting unit a) knows)) (sym (line.stay e))
      (lines_stay i w new_logs unit of is (by_answer (Some a)) (stripes_less i of a) answered old.open mid st.open_lines has line.in_slot
      (some_more e (has.slot.stripes_left - stripes_less i of a) _ line.last refl))

  -- ---- its chunks are kept once it is closed

  -- it is closed where no stripe of it is left
  gone_where : (c : ClosedLine) → closed_line i (after (log_of w) (noting unit a) knows) of.line ≡ Some c → none ≡ true
  gone_where c closed = go none refl
    where
      go : (b : Bool) → none ≡ b → b ≡ true
      go true e = refl
      go false e = absurd (none-some c (sym (ap (λ t. closed_if t (closed_as i new_logs is.row.opening)) (gone_is ∙ e))
          ∙ sym (closed_left i w unit a knows is.row.stripe.stripe.line is.row.opening mount may is.stands)
          ∙ ap (closed_line i new_logs) (sym its_line) ∙ closed))

  live_there : slice_get old.online.items of.line ≡ Some (online_now i (log_of w) of.line)
  live_there =
      let from : 0 + of.line ≡ of.line = omega arith in
      let inside : of.line < i.shape.chunks = subst (λ n. n < i.shape.chunks) (sym its_line) line_inside in
      ap (λ us. slice_get us of.line) st.units ∙ row_there (online_now i (log_of w)) i.shape.chunks 0 of.line inside
      ∙ ap (λ n. Some (online_now i (log_of w) n)) from

  -- its chunks that aren't Offline are used then
  units_used : (c : ClosedLine) → closed_line i (after (log_of w) (noting unit a) knows) of.line ≡ Some c
      → units_in (online_now i (log_of w) of.line) ≡ used_units (known_image i (after (log_of w) (noting unit a) knows)) of.line
  units_used c closed =
      let life : life_of (new_logs 0) of.line ≡ Opened is.row.opening =
      lives_noted (log_of w) unit knows a of.line ∙ ap (life_of (log_of w 0)) its_line ∙ is.stands in
      let over : list_all (λ (x : Chunk). is_over_state false x.state) (chunks_of (known_image i new_logs) of.line) ≡ true =
      ap (λ l. list_all (λ (x : Chunk). is_over_state (is_as_found l) x.state) (chunks_of (known_image i new_logs) of.line)) (sym life)
      ∙ (over_where_closed i new_logs of.line c closed).0 in
      ap units_in (sym (live_noted i w unit a knows is.row.stripe mount may is.row.waits st.beginning of.line st.has_begun))
      ∙ bits_back (known_image i new_logs) of.line (few_units i w new_logs mount)
      ∙ sym (used_over i w new_logs of.line mount over)

  used_now : (other : ℕ) (c : ClosedLine) → closed_line i (after (log_of w) (noting unit a) knows) other ≡ Some c → (b : Bool) → nat_eq other of.line ≡ b
      → units_in (used_in new.resets other) ≡ used_units (known_image i (after (log_of w) (noting unit a) knows)) other
  used_now other c closed true e =
      let here : other ≡ of.line = eqb-true other of.line e in
      let its : closed_line i new_logs of.line ≡ Some c = ap (closed_line i new_logs) (sym here) ∙ closed in
      ap (λ n. units_in (used_in new.resets n)) here
      ∙ ap units_in (line.used (gone_where c its) (online_now i (log_of w) of.line) live_there)
      ∙ units_used c its
      ∙ ap (used_units (known_image i new_logs)) (sym here)
  used_now other c closed false e =
      let differs : other ≢ of.line = eqb-false other of.line e in
      let apart : other ≢ is.row.stripe.stripe.line = λ same. differs (same ∙ sym its_line) in
      let was : closed_line i (log_of w) other ≡ Some c = sym (closed_others i w unit a knows is.row.stripe other mount may is.row.waits apart) ∙ closed in
      ap units_in (line.used_others other differs) ∙ st.used other c was
      ∙ sym (used_beside i w unit a knows is.row.stripe st.beginning mount may is.row.waits st.has_begun other apart)

  -- ---- counts

  flight : new.under_way ≡ old.under_way - 1 → new.under_way ≡ under_way i.shape (after (log_of w) (noting unit a) knows 0)
  flight now =
      let less : under_way i.shape (log_of w 0) ≡ under_way i.shape (new_logs 0) + 1 =
      one_less_under_way i w unit a knows is.row.stripe mount is.row.inside is.row.waits in
      let was : old.under_way ≡ under_way i.shape (log_of w 0) = st.in_flight in
      now ∙ (let n : old.under_way - 1 ≡ under_way i.shape (new_logs 0) = omega arith in n)

  counted : IsCounted old.under_way new.under_way old.answers.items new.answers.items of.unit
      → new.answers.items ≡ answer_counts i.shape (after (log_of w) (noting unit a) knows 0)
  counted counts =
      let own : of.unit ≡ unit = unit_is i w unit of is in
      let inside : of.unit < units i.shape = subst (λ u. u < units i.shape) (sym own) is.row.inside in
      let there : slice_get old.answers.items of.unit ≡ Some (answer_count (log_of w 0) of.unit) =
      ap (λ ns. slice_get ns of.unit) st.answers ∙ count_at i.shape (log_of w 0) of.unit inside in
      counts.answers (answer_count (log_of w 0) of.unit) there
      ∙ ap (λ ns. slice_set ns of.unit (min (answer_count (log_of w 0) of.unit + 1) (2 ^ 64 - 1))) st.answers
      ∙ counts_noted i.shape (log_of w) of.unit a knows inside
      ∙ ap (λ u. answer_counts i.shape (after (log_of w) (noting u a) knows 0)) own

  places_none : (b : Answer) → placed_front i.shape (after (log_of w) (noting unit b) knows 0) ≡ placed_front i.shape (log_of w 0)
  places_none (DidLand event) = front_kept i.shape (log_of w 0) (Landed unit event) knows refl
  places_none (WasLost event) = front_kept i.shape (log_of w 0) (Lost unit event) knows refl

  -- ---- the core

  pub answered_stands : IsCounted old.under_way new.under_way old.answers.items new.answers.items of.unit → IsKeptByAnswers old new
      → AreAnswered i (after (log_of w) (noting unit a) knows) st.again new → Stands i (after (log_of w) (noting unit a) knows) new
  answered_stands counts kept are = record {
    layout = kept.layout ∙ st.layout;
    beginning = st.beginning;
    has_begun = begun_kept (log_of w 0) (noting unit a) knows (none_begun unit knows a) ∙ st.has_begun;
    capacity = are.read.capacity;
    slots = are.read.slots;
    table = are.table;
    units = ap (λ l. l.items) kept.online ∙ st.units
        ∙ same_in_range (online_now i (log_of w)) (online_now i new_logs) 0 i.shape.chunks
        (λ line inside. sym (live_noted i w unit a knows is.row.stripe mount may is.row.waits st.beginning line st.has_begun));
    resets = line.resets ∙ st.resets
        ∙ sym (resets_noted i w unit a knows is.row.stripe st.beginning mount may is.row.waits st.has_begun (ap is_opened is.stands));
    used_lines = line.used_lines ∙ st.used_lines;
    used = λ other c closed. used_now other c closed (nat_eq other of.line) refl;
    notes = are.notes;
    size = are.read.size;
    window = are.read.window;
    from_first = are.read.from_first;
    to_freed = are.read.to_freed;
    holds = are.holds;
    again = st.again;
    placing = are.placing;
    open_lines = open_is none refl;
    next_seq = ap (λ r. r.seq) kept.start ∙ st.next_seq ∙ ap (λ os. st.beginning.beginning.seq + length os) (sym (openings_noted (log_of w) unit knows a));
    first_seq = ap (λ r. r.first_seq) kept.start ∙ st.first_seq;
    own_capacity = ap (λ r. r.capacity) kept.start ∙ st.own_capacity;
    older = ap (λ r. (start_numbers r).rows) kept.start ∙ st.older
        ∙ older_kept i (log_of w) (noting unit a) knows st.beginning st.has_begun (none_begun unit knows a)
        (λ line. inl (ap is_as_found (lives_noted (log_of w) unit knows a line)));
    fits = fits_same old new kept.first (ap (λ r. r.first_seq) kept.start) (ap (λ r. (start_numbers r).rows) kept.start) st.fits;
    first = kept.first ∙ st.first ∙ sym (first_kept (log_of w 0) (noting unit a) knows (none_begun unit knows a));
    placed = ap₂ (λ a b. a + b) kept.first kept.placed ∙ st.placed ∙ sym (places_none a);
    left = are.left;
    in_flight = flight counts.under_way;
    answers = counted counts;
    full = full_kept i (log_of w) (noting unit a) knows (none_opened unit knows (length (log_of w 0)) a) st.full;
    users = kept.users ∙ st.users ∙ ap length (sym (users_noted (log_of w) unit knows a));
  }

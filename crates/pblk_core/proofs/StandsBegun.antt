-- A core that was made of what recovery found stands for the mount's beginning.
use Rattle.std.proofs.Common.{◌≡◌, ◌⊎◌, ℕ, ◌+◌, ◌^◌, ◌<◌, ◌≤◌, ◌==◌, suc, if◌then◌else◌, Bool, true, false, Some, None, Option, List, [], ◌∷◌, ◌++◌, length, refl, sym, subst, ap, ap₂, ◌∙◌, arith, inl, inr, le_refl, add-zero, zero-add, cond}
use Rattle.std.specs.Prelude.{map, slice_get}
use Rattle.std.specs.List.{AllByRecursion, Contains, filter, filter_map, cons_option, flat_map, list_any, enumerate_from, range_with_len}
use Rattle.std.specs.Option.{is_some, option_map, option_map_or, option_and_then}
use Rattle.std.proofs.lemmas.Option.{none-some, same_Some}
use Rattle.pblk_model.specs.declared.shape.Shape.{Shape}
use Rattle.pblk_model.specs.declared.found.Found.{Found}
use Rattle.pblk_model.specs.declared.found.LineRow.{LineRow}
use Rattle.pblk_model.specs.Found.{IsFitFound, RowFits, HeadFits}
use Rattle.pblk_model.specs.Shape.{units}
use Rattle.pblk_model.specs.Image.{Image, IsFit}
use Rattle.pblk_model.specs.StartRecord.{Row}
use Rattle.pblk_meta.specs.Records.{start_numbers}
use Rattle.pblk_world.specs.Events.{Begin, Logged}
use Rattle.pblk_world.specs.World.{World, Logs, log_of}
use Rattle.pblk_world.specs.EngineLog.{Opening, Taken, answers}
use Rattle.pblk_world.specs.Lines.{found_image, known_image, is_stray, is_given_up}
use Rattle.stripe_placer.specs.OpenLines.{has_left}
use Rattle.stripe_placer.specs.Placing.{Placing}
use Rattle.core_laws.specs.Stepping.{after}
use Rattle.core_laws.specs.OpenedLines.{open_line}
use Rattle.core_laws.specs.PlacerOf.{placing_of, unanswered_on}
use Rattle.pblk_world.specs.LegalMounts.{IsLegalMount}
use Rattle.core_laws.specs.WindowOf.{sectors_in, window_from, HeldSectors, HeldSector, without_frame}
use Rattle.world_laws.specs.Finding.{IsFoundOf, NoneOpen}
use Rattle.world_laws.specs.MountBeginnings.{seq_after, beginning_of}
use Rattle.core_laws.specs.JustBegun.{HasJustBegun}
use Rattle.core_laws.specs.OpeningTables.{row_found}
use Rattle.core_laws.proofs.BegunImages.{just_begun, begun_is, knows_found}
use Rattle.core_laws.proofs.FoundLines.{table_is}
use Rattle.core_laws.proofs.MadeLists.{any_passed}
use Rattle.core_laws.proofs.NothingYet.{first_is, freed_is, given_up_are, no_addresses, no_openings, no_takes, no_user_takes, none_stands, none_unanswered, placed_is, placing_is, window_is}
use Rattle.core_laws.proofs.FoundOlder.{rows_are}
use Rattle.core_laws.proofs.FoundSectors.{slot_is}
use Rattle.core_laws.proofs.FoundUnits.{lines_online}
use Rattle.pblk_core.specs.Made.{IsMadeOn}
use Rattle.pblk_core.specs.OlderLines.{older_found}
use Rattle.pblk_core.specs.Resets.{used_units, used_below, in_line, resets_found, resets_of}
use Rattle.pblk_core.specs.Stands.{Stands, IsOlder, left_openings}
use Rattle.pblk_core.proofs.AnswerCounts.{counts_none}
use Rattle.pblk_core.proofs.FoundNotes.{found_shape, notes_begun, used_begun, used_same}
use Rattle.pblk_core.specs.declared.target_core.Core.{Core}
use Rattle.pblk_core.proofs.KeptResets.{flat_same}
use Rattle.pblk_model.proofs.Lists.{all_of}
use Rattle.pblk_model.proofs.Maps.{filter_none}

-- ---- lists

nowhere : {X : Type 0} (x : X) → Contains [] x → ⊥
nowhere x among = let h : among.0 < 0 = among.1 in absurd (omega arith)

flat_filtered : {X : Type 0} (p : ℕ → Bool) (f : ℕ → List X) (xs : List ℕ) → flat_map f (filter p xs) ≡ flat_map (λ k. if p k then f k else []) xs
flat_filtered p f [] = refl
flat_filtered {X} p f (x ∷ xs) = go (p x) (flat_filtered p f xs)
  where
    go : (b : Bool) → flat_map f (filter p xs) ≡ flat_map (λ k. if p k then f k else []) xs
        → flat_map f (cond b (x ∷ filter p xs) (filter p xs)) ≡ cond b (f x) [] ++ flat_map (λ k. if p k then f k else []) xs
    go true h = ap (λ ys. f x ++ ys) h
    go false h = h

-- ---- the rows of older lines are older

head_seq : (f : Found) (line seq : ℕ) (row : LineRow) → HeadFits f f.head → slice_get f.lines line ≡ Some row → row.seq ≡ Some seq
    → seq < seq_after f.lines f.head
head_seq f line seq row fits there is = go f.head fits
  where
    go : (o : Option ℕ) → HeadFits f o → seq < seq_after f.lines o
    go None h = absurd (none-some seq (sym (h line row there) ∙ is))
    go (Some head) h =
        let next : seq_after f.lines (Some head) ≡ h.1 + 1 =
        ap (λ (o : Option LineRow). option_map_or (λ n. n + 1) (option_and_then (λ (r : LineRow). r.seq) o) 1) h.2
        ∙ ap (λ o. option_map_or (λ n. n + 1) o 1) h.3 in
        by next (h.4 line row seq there is)
      where
        by : {m n : ℕ} {X : Type 0} → n ≡ m + 1 → (seq < m) ⊎ ((seq ≡ m) × X) → seq < n
        by e (inl less) = omega arith
        by e (inr same) = let s = same.0 in omega arith

fit_rows : (s : Shape) (f : Found) → IsFitFound s f → AllByRecursion (IsOlder (seq_after f.lines f.head) f.end) (older_found f.end f.lines)
fit_rows s f fit = from 0 f.lines (λ k row there. ap (slice_get f.lines) (zero-add k) ∙ there)
  where
    one : (n : ℕ) (row : LineRow) (o : Option ℕ) → slice_get f.lines n ≡ Some row → row.seq ≡ o → RowFits s f n row o → (r : Row)
        → option_map (λ seq. record { line = n; seq = seq; bound = if row.young then f.end else row.bound }) o ≡ Some r
        → IsOlder (seq_after f.lines f.head) f.end r
    one n row None there is fits r e = absurd (none-some r e)
    one n row (Some seq) there is fits r e =
        let low : row.bound ≤ f.end = fits.3 in
        subst (IsOlder (seq_after f.lines f.head) f.end) (same_Some (record { line = n; seq = seq; bound = if row.young then f.end else row.bound }) r e)
        (fits.0, head_seq f n seq row fit.head there is, bounded row.young low)
      where
        bounded : (b : Bool) → row.bound ≤ f.end → (if b then f.end else row.bound) ≤ f.end
        bounded true h = omega arith
        bounded false h = h

    from : (n : ℕ) (rows : List LineRow) → ((k : ℕ) (row : LineRow) → slice_get rows k ≡ Some row → slice_get f.lines (n + k) ≡ Some row)
        → AllByRecursion (IsOlder (seq_after f.lines f.head) f.end) (filter_map (λ (l : ℕ × LineRow). row_found f.end l.0 l.1) (enumerate_from n rows))
    from n [] at = tt
    from n (row ∷ rows) at =
        let zero_is : n + 0 ≡ n = omega arith in
        let there : slice_get f.lines n ≡ Some row = ap (slice_get f.lines) (sym zero_is) ∙ at 0 row refl in
        add (row_found f.end n row) (filter_map (λ (l : ℕ × LineRow). row_found f.end l.0 l.1) (enumerate_from (n + 1) rows))
        (λ r e. one n row row.seq there refl (fit.rows n row there) r e)
        (from (n + 1) rows (λ k r e. let next : n + 1 + k ≡ n + suc k = omega arith in ap (slice_get f.lines) next ∙ at (suc k) r e))
      where
        add : (o : Option Row) (rest : List Row) → ((r : Row) → o ≡ Some r → IsOlder (seq_after f.lines f.head) f.end r)
            → AllByRecursion (IsOlder (seq_after f.lines f.head) f.end) rest → AllByRecursion (IsOlder (seq_after f.lines f.head) f.end) (cons_option o rest)
        add None rest each all = all
        add (Some r) rest each all = (each r refl, all)

-- ---- the chunks that are to be reset

resets_begun : (j : Image) (f : Found) → IsFit j → IsFoundOf j f
    → resets_found j.shape f.chunks f.strays ≡ flat_map (λ line. in_line line (if list_any (λ stray. stray == line) f.strays then used_units j line else []))
    (range_with_len 0 j.shape.chunks)
resets_begun j f fit found =
    ap (flat_map (λ line. in_line line (used_below j.shape f.chunks line (units j.shape)))) found.strays_are
    ∙ flat_filtered (is_stray j) (λ line. in_line line (used_below j.shape f.chunks line (units j.shape))) (range_with_len 0 j.shape.chunks)
    ∙ flat_same (λ line. if is_stray j line then in_line line (used_below j.shape f.chunks line (units j.shape)) else [])
    (λ line. in_line line (if list_any (λ stray. stray == line) f.strays then used_units j line else [])) 0 j.shape.chunks
    (λ line inside. let high : line < j.shape.chunks = omega arith in
    moved (is_stray j line) line (used_same j f line fit found high)
    ∙ ap (λ b. in_line line (if b then used_units j line else []))
    (sym (ap (list_any (λ stray. stray == line)) found.strays_are ∙ any_passed (is_stray j) 0 j.shape.chunks line (omega arith) (omega arith))))
  where
    moved : (b : Bool) (line : ℕ) → used_below j.shape f.chunks line (units j.shape) ≡ used_units j line
        → (if b then in_line line (used_below j.shape f.chunks line (units j.shape)) else []) ≡ in_line line (if b then used_units j line else [])
    moved true line e = ap (in_line line) e
    moved false line e = refl

-- ---- the core

pub made_stands : (i : Image) (w : World) (knows : List ℕ) (f : Found) (c : Core) → IsLegalMount i w → log_of w 0 ≡ [] → IsFitFound i.shape f
    → IsFoundOf (found_image i (after (log_of w) (Begin (beginning_of f)) knows)) f
    → NoneOpen (found_image i (after (log_of w) (Begin (beginning_of f)) knows)) → IsMadeOn i.shape f c
    → Stands i (after (log_of w) (Begin (beginning_of f)) knows) c
made_stands i w knows f c mount none fit found closed is = record {
  layout = is.layout;
  beginning = record { beginning = beginning_of f; knows = begins.knows };
  has_begun = begun_is i f new begins;
  capacity = is.capacity;
  slots = λ lba inside. is.slots lba inside ∙ ap Some (sym (slot_is i f new lba begins inside));
  table = table_is i f new c.lines begins is.lines;
  units = is.online ∙ sym (lines_online i f new begins);
  resets = is.resets ∙ resets_are;
  used_lines = is.used_lines;
  used = used_begun i f new begins c.resets is.used;
  notes = notes_begun i w f knows c.notes mount none found closed is.notes is.newest;
  size = is.size;
  window = window_empty;
  from_first = subst (λ n. n ≤ c.window.freed) (sym (first_is i f new begins)) (subst (λ n. f.end ≤ n) (sym is.freed) (le_refl f.end));
  to_freed = subst (λ n. c.window.freed ≤ n) (sym (freed_is i f new begins)) (subst (λ n. n ≤ f.end) (sym is.freed) (le_refl f.end));
  holds = record { room = is.holds; each = λ t among waits. absurd (nowhere t (subst (λ ts. Contains ts t) (no_takes i f new begins) among)) };
  again = [];
  placing = is.placer ∙ sym (placing_is i f new 0 [] begins) ∙ ap (λ n. placing_of i new n []) (sym (ap (λ (p : Placing). p.entries.pad) is.placer));
  open_lines = record {
    two = is.two;
    shapes = is.shapes;
    few = subst (λ n. n ≤ 2) (sym is.none_open) (omega arith);
    count = is.none_open ∙ sym (ap (λ (os : List Opening). length os) left_are);
    each = λ k o line there held. absurd (none-some o (ap (λ os. slice_get os k) (sym left_are) ∙ there));
  };
  next_seq = is.seq ∙ sym (ap (λ (os : List Opening). seq_after f.lines f.head + length os) (no_openings i f new begins) ∙ add-zero (seq_after f.lines f.head));
  first_seq = is.first_seq;
  own_capacity = is.own_capacity;
  older = is.rows ∙ sym (rows_are i f new begins);
  fits = record {
    first = subst (λ n. n ≤ 2 ^ 62) (sym is.first) fit.end;
    rows = subst (λ n. AllByRecursion (IsOlder c.start.first_seq n) (start_numbers c.start).rows) (sym is.first)
        (subst (λ n. AllByRecursion (IsOlder n f.end) (start_numbers c.start).rows) (sym is.first_seq)
        (subst (AllByRecursion (IsOlder (seq_after f.lines f.head) f.end)) (sym is.rows) (fit_rows i.shape f fit)));
  };
  first = is.first ∙ sym (first_is i f new begins);
  placed = ap₂ (λ a b. a + b) is.first is.placed ∙ add-zero f.end ∙ sym (placed_is i f new begins);
  left = is.left ∙ sym (no_addresses i f new begins);
  in_flight = is.in_flight ∙ sym (ap length (filter_none (λ unit. is_some (unanswered_on (new 0) unit)) (range_with_len 0 (units i.shape))
      (all_of (λ unit. is_some (unanswered_on (new 0) unit) ≡ false) (λ unit. ap is_some (none_unanswered i f new unit begins))
      (range_with_len 0 (units i.shape)))));
  full = λ o among. absurd (nowhere o (subst (λ os. Contains os o) (no_openings i f new begins) among));
  answers = is.none_answered ∙ sym (counts_none i.shape (new 0) (λ unit. ap (λ (xs : List Logged). answers xs unit) begins.log));
  users = is.users ∙ sym (ap (λ (ts : List Taken). length ts) (no_user_takes i f new begins));
}
  where
    new : Logs
    new = after (log_of w) (Begin (beginning_of f)) knows

    begins : HasJustBegun i f new
    begins = just_begun i w f knows mount.accepted mount.fit mount.legal none found

    shape_is : (found_image i new).shape ≡ i.shape
    shape_is = found_shape i f new begins

    resets_are : resets_found i.shape f.chunks f.strays ≡ resets_of i new
    resets_are =
        ap (λ (s : Shape). resets_found s f.chunks f.strays) (sym shape_is) ∙ resets_begun (found_image i new) f begins.fit begins.found
        ∙ ap (λ (s : Shape). flat_map (λ line. in_line line (if list_any (λ stray. stray == line) f.strays then used_units (found_image i new) line else []))
        (range_with_len 0 s.chunks)) shape_is
        ∙ flat_same (λ line. in_line line (if list_any (λ stray. stray == line) f.strays then used_units (found_image i new) line else []))
        (λ line. in_line line (if is_given_up (new 0) line then used_units (known_image i new) line else [])) 0 i.shape.chunks
        (λ line inside. ap₂ (λ b (j : Image). in_line line (if b then used_units j line else [])) (sym (given_up_are i f new line begins))
        (sym (knows_found i f new begins)))

    left_are : left_openings i new ≡ []
    left_are = ap (λ (os : List Opening). filter (λ o. has_left (open_line i new o)) os) (none_stands i f new begins)

    same_window : (m n : ℕ) (xs ys : List HeldSector) → m ≡ n → xs ≡ ys
        → ◌≡◌ {A = HeldSectors} (record { freed = c.window.freed; users = m; entries = xs }) (record { freed = c.window.freed; users = n; entries = ys })
    same_window m n xs ys a b = λ k. record { freed = c.window.freed; users = a k; entries = b k }

    window_empty : sectors_in c.window ≡ window_from i.shape (new 0) c.window.freed
    window_empty = same_window c.window.users 0 (map without_frame c.window.entries) [] is.no_users (ap (map without_frame) is.entries)
        ∙ sym (window_is i f new c.window.freed begins)

-- for a drive of this shape
pub made_on : (i : Image) (w : World) (knows : List ℕ) (s : Shape) (f : Found) (c : Core) → i.shape ≡ s → IsLegalMount i w → log_of w 0 ≡ [] → IsFitFound s f
    → IsFoundOf (found_image i (after (log_of w) (Begin (beginning_of f)) knows)) f
    → NoneOpen (found_image i (after (log_of w) (Begin (beginning_of f)) knows)) → IsMadeOn s f c
    → Stands i (after (log_of w) (Begin (beginning_of f)) knows) c
made_on i w knows s f c same mount none fit found closed is =
    made_stands i w knows f c mount none (subst (λ (x : Shape). IsFitFound x f) (sym same) fit) found closed
    (subst (λ (x : Shape). IsMadeOn x f c) (sym same) is)

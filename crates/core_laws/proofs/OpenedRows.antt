-- What a line that is opened changes in the table.
use Rattle.std.proofs.Common.{◌≡◌, ◌≢◌, ℕ, ◌+◌, ◌-◌, ◌*◌, ◌/◌, ◌%◌, ◌<◌, ◌≤◌, ◌&&◌, not, nat_eq, nat_lt, nat_le, Bool, true, false, Some, None, Option, List, [], length, take, refl, sym, subst, ap, ap₂, ◌∙◌, arith, le_refl, append-nil, div-add-mod', mod-lt, mod-eq_of_lt}
use Rattle.std.specs.Prelude.{if◌then◌else◌}
use Rattle.std.specs.List.{filter, find, list_all, list_any, last_or}
use Rattle.std.specs.Option.{option_map, option_and_then, is_some}
use Rattle.std.proofs.Math.Nat.{le-mul_of_pos_right, mul_comm, zero-mul}
use Rattle.std.proofs.lemmas.Bool.{eqb-true, eqb-false}
use Rattle.pblk_model.specs.declared.shape.Shape.{Shape}
use Rattle.pblk_model.specs.Accepted.{IsDriveShape}
use Rattle.pblk_model.specs.LineOrder.{start_len, end_len, data_len}
use Rattle.pblk_model.specs.Image.{Image, width}
use Rattle.pblk_model.specs.Records.{Record}
use Rattle.pblk_model.specs.StartRecord.{StartRecord, start_of}
use Rattle.pblk_model.specs.Contents.{counted, winner, is_of}
use Rattle.pblk_world.specs.Events.{Open, Decides, Logged}
use Rattle.pblk_world.specs.World.{Logs}
use Rattle.pblk_world.specs.EngineLog.{Begun, LineLife, AsFound, Opened, Freed, life_of, is_life, is_as_found, is_opened, Opening, Placed, placements, stripes_of, was_lost, has_landed, holds_position, Taken, takes}
use Rattle.pblk_world.specs.Lines.{found_image, known_image, line_data, are_empty, has_number, is_free_line}
use Rattle.pblk_world.specs.Opening.{MayOpen}
use Rattle.pblk_world.specs.Placing.{line_end}
use Rattle.pblk_world.specs.Victims.{is_in_force, line_of_winner, line_of, landed_line_of, took_from, take_before}
use Rattle.pblk_world.proofs.Appending.{life_more}
use Rattle.line_table.specs.declared.row.LineState.{LineState}
use Rattle.line_table.specs.declared.row.LineState.TheVariants as states
use Rattle.line_table.specs.Rows.{turned}
use Rattle.core_laws.specs.Stepping.{after}
use Rattle.core_laws.specs.RowsOf.{state_in, width_in, taker_by, taker_in, row_of_line, rows_of}
use Rattle.core_laws.proofs.Opening.{placed_before}
use Rattle.core_laws.specs.ChangedTables.{with_row}
use Rattle.core_laws.specs.InOrder.{FreedBefore}
use Rattle.core_laws.proofs.TakenSlots.{landed_same}
use Rattle.core_laws.proofs.KeptStripes.{with_event, KeepsStripes, stripes_kept, placements_kept, alike_kept, have_landed_alike}
use Rattle.core_laws.proofs.KeptRows.{known_kept, KeepsLines, live_kept, same_row, row_kept, then_kept}
use Rattle.core_laws.proofs.OpenAddresses.{failed_kept}
use Rattle.core_laws.proofs.ChangedTables.{row_changes_any}
use Rattle.core_laws.proofs.WinnerStarts.{winner_starts}
use Rattle.core_laws.proofs.SteppingLemmas.{found_kept}
use Rattle.pblk_model.proofs.Lists.{all_of}
use Rattle.pblk_model.proofs.Maps.{filter_none, find_agree, found_passes}
use Rattle.pblk_model.proofs.Tests.{and_false, both, other_number, same_number}
use Rattle.pblk_world.proofs.EngineLogLemmas.{takes_more}
use Rattle.pblk_world.proofs.LinesLemmas.{free_unopened}

-- ---- nothing is live in a Free line

-- a line that was found Free has no start record
free_start : (i : Image) (logs : Logs) (line : ℕ) → is_free_line i logs line ≡ true → life_of (logs 0) line ≡ AsFound
    → is_some (start_of (found_image i logs) line) ≡ false
free_start i logs line free life = go (is_some (start_of (found_image i logs) line)) refl
  where
    go : (b : Bool) → is_some (start_of (found_image i logs) line) ≡ b → b ≡ false
    go false e = refl
    go true e = absurd (cc (sym free
        ∙ ap (λ (l : LineLife). not (has_number i logs l line) && are_empty (known_image i logs) line && nat_lt 0 (line_data (known_image i logs) line)) life
        ∙ ap (λ b. not b && are_empty (known_image i logs) line && nat_lt 0 (line_data (known_image i logs) line)) e))

no_force : (log : List Logged) (life : LineLife) (line : ℕ) → is_opened (life_of log line) ≡ false → is_in_force log life line ≡ false
no_force log AsFound line closed = refl
no_force log (Opened o) line closed = go (life_of log line) closed
  where
    go : (l : LineLife) → is_opened l ≡ false → is_life o.number l ≡ false
    go AsFound e = refl
    go (Opened other) e = absurd cc
    go (Freed past knows) e = refl
no_force log (Freed past knows) line closed = refl

-- a stripe that passes a test, in force
in_force : List Logged → (Placed → Bool) → Placed → Bool
in_force log test p = test p && is_in_force log p.life p.stripe.line

stripe_elsewhere : (log : List Logged) (test : Placed → Bool) (line : ℕ) → is_opened (life_of log line) ≡ false
    → is_of line (option_map (λ (p : Placed). p.stripe.line) (find (λ (p : Placed). test p && is_in_force log p.life p.stripe.line) (placements log))) ≡ false
unfolding in_force
stripe_elsewhere log test line closed = go (find (in_force log test) (placements log)) refl
  where
    go : (o : Option Placed) → find (in_force log test) (placements log) ≡ o → is_of line (option_map (λ (p : Placed). p.stripe.line) o) ≡ false
    go None e = refl
    go (Some p) e = there (nat_eq p.stripe.line line) refl
      where
        there : (b : Bool) → nat_eq p.stripe.line line ≡ b → b ≡ false
        there false f = refl
        there true f =
            let passes : (test p && is_in_force log p.life p.stripe.line) ≡ true = (found_passes (in_force log test) (placements log) p e).0 in
            let forced : is_in_force log p.life p.stripe.line ≡ true = (both (test p) (is_in_force log p.life p.stripe.line) passes).1 in
            let not_it : is_in_force log p.life p.stripe.line ≡ false =
            no_force log p.life p.stripe.line (ap (λ n. is_opened (life_of log n)) (eqb-true p.stripe.line line f) ∙ closed) in
            absurd (cc (sym forced ∙ not_it))

winner_elsewhere : (i : Image) (logs : Logs) (line lba : ℕ) → is_free_line i logs line ≡ true → is_of line (line_of_winner i logs lba) ≡ false
winner_elsewhere i logs line lba free = go (winner (counted (found_image i logs)) lba) refl
  where
    go : (o : Option Record) → winner (counted (found_image i logs)) lba ≡ o
        → is_of line (option_and_then (λ (r : Record). if is_as_found (life_of (logs 0) r.line) then Some r.line else None) o) ≡ false
    go None e = refl
    go (Some r) e = there (life_of (logs 0) r.line) refl
      where
        there : (l : LineLife) → life_of (logs 0) r.line ≡ l → is_of line (if is_as_found l then Some r.line else None) ≡ false
        there (Opened o) f = refl
        there (Freed past knows) f = refl
        there AsFound f = its (nat_eq r.line line) refl
          where
            its : (b : Bool) → nat_eq r.line line ≡ b → b ≡ false
            its false g = refl
            its true g =
                let same : r.line ≡ line = eqb-true r.line line g in
                let some : is_some (start_of (found_image i logs) line) ≡ true = ap (λ n. is_some (start_of (found_image i logs) n)) (sym same)
                ∙ winner_starts (found_image i logs) lba r e in
                let none : is_some (start_of (found_image i logs) line) ≡ false = free_start i logs line free (ap (life_of (logs 0)) (sym same) ∙ f) in
                absurd (cc (sym some ∙ none))

none_landed_in_free : (i : Image) (logs : Logs) (line lba : ℕ) (t : Option Taken) → is_free_line i logs line ≡ true
    → is_of line (landed_line_of i logs lba t) ≡ false
none_landed_in_free i logs line lba None free = winner_elsewhere i logs line lba free
none_landed_in_free i logs line lba (Some t) free =
    stripe_elsewhere (logs 0) (λ p. holds_position i.shape t.entry.position p && has_landed (logs 0) p) line (free_unopened i logs line free)

-- ---- the lines of sectors stay

abbrev pub new_opening : List Logged → ℕ → StartRecord → List ℕ → Opening
new_opening log line start knows = record { number = length log; line = line; start = start; knows = knows }

pub life_now : (log : List Logged) (line : ℕ) (start : StartRecord) (knows : List ℕ)
    → life_of (with_event log (Open line start) knows) line ≡ Opened (new_opening log line start knows)
life_now log line start knows =
    life_more log (record { event = Decides (Open line start); knows = knows }) line
    ∙ ap (λ b. if b then Opened (new_opening log line start knows) else life_of log line) (same_number line)

pub life_elsewhere : (log : List Logged) (line : ℕ) (start : StartRecord) (knows : List ℕ) (other : ℕ) → other ≢ line
    → life_of (with_event log (Open line start) knows) other ≡ life_of log other
life_elsewhere log line start knows other apart =
    life_more log (record { event = Decides (Open line start); knows = knows }) other
    ∙ ap (λ b. if b then Opened (new_opening log other start knows) else life_of log other) (other_number line other (λ e. apart (sym e)))

force_same : (log : List Logged) (line : ℕ) (start : StartRecord) (knows : List ℕ) (life : LineLife) (other : ℕ) → is_opened (life_of log line) ≡ false
    → is_life (length log) life ≡ false
    → is_in_force (with_event log (Open line start) knows) life other ≡ is_in_force log life other
force_same log line start knows AsFound other closed before = refl
force_same log line start knows (Freed past k) other closed before = refl
force_same log line start knows (Opened o) other closed before = go (nat_eq other line) refl
  where
    go : (b : Bool) → nat_eq other line ≡ b → is_life o.number (life_of (with_event log (Open line start) knows) other) ≡ is_life o.number (life_of log other)
    go false e = ap (is_life o.number) (life_elsewhere log line start knows other (eqb-false other line e))
    go true e =
        let same : other ≡ line = eqb-true other line e in
        ap (λ n. is_life o.number (life_of (with_event log (Open line start) knows) n)) same
        ∙ ap (is_life o.number) (life_now log line start knows)
        ∙ other_number (length log) o.number (λ f. eqb-false o.number (length log) before (sym f))
        ∙ sym (no_force log (Opened o) other (ap (λ n. is_opened (life_of log n)) same ∙ closed))

-- of a stripe that passes a test as it did
stripe_same : (log : List Logged) (line : ℕ) (start : StartRecord) (knows : List ℕ) (old now : Placed → Bool) → is_opened (life_of log line) ≡ false
    → ((p : Placed) → now p ≡ old p)
    → option_map (λ (p : Placed). p.stripe.line)
    (find (λ (p : Placed). now p && is_in_force (with_event log (Open line start) knows) p.life p.stripe.line)
    (placements (with_event log (Open line start) knows)))
    ≡ option_map (λ (p : Placed). p.stripe.line) (find (λ (p : Placed). old p && is_in_force log p.life p.stripe.line) (placements log))
stripe_same log line start knows old now closed same =
    let new : List Logged = with_event log (Open line start) knows in
    ap (λ ps. option_map (λ (p : Placed). p.stripe.line) (find (λ (p : Placed). now p && is_in_force new p.life p.stripe.line) ps))
    (placements_kept log (Open line start) knows refl)
    ∙ ap (option_map (λ (p : Placed). p.stripe.line))
    (find_agree (λ (p : Placed). is_life (length log) p.life ≡ false) (λ (p : Placed). now p && is_in_force new p.life p.stripe.line)
    (λ (p : Placed). old p && is_in_force log p.life p.stripe.line)
    (λ p before. ap₂ (λ a b. a && b) (same p) (force_same log line start knows p.life p.stripe.line closed before))
    (placements log) (placed_before log (length log) (le_refl (length log))))

winner_same : (i : Image) (logs : Logs) (line : ℕ) (start : StartRecord) (knows : List ℕ) (lba : ℕ) → is_free_line i logs line ≡ true
    → line_of_winner i (after logs (Open line start) knows) lba ≡ line_of_winner i logs lba
winner_same i logs line start knows lba free =
    let new : Logs = after logs (Open line start) knows in
    ap (λ (f : Image). option_and_then (λ (r : Record). if is_as_found (life_of (new 0) r.line) then Some r.line else None) (winner (counted f) lba))
    (found_kept i logs (Open line start) knows refl)
    ∙ go (winner (counted (found_image i logs)) lba) refl
  where
    go : (o : Option Record) → winner (counted (found_image i logs)) lba ≡ o
        → option_and_then (λ (r : Record). if is_as_found (life_of (after logs (Open line start) knows 0) r.line) then Some r.line else None) o
        ≡ option_and_then (λ (r : Record). if is_as_found (life_of (logs 0) r.line) then Some r.line else None) o
    go None e = refl
    go (Some r) e = there (nat_eq r.line line) refl
      where
        there : (b : Bool) → nat_eq r.line line ≡ b
            → (if is_as_found (life_of (after logs (Open line start) knows 0) r.line) then Some r.line else None) ≡
            (if is_as_found (life_of (logs 0) r.line) then Some r.line else None)
        there false f = ap (λ (l : LineLife). if is_as_found l then Some r.line else None)
            (life_elsewhere (logs 0) line start knows r.line (eqb-false r.line line f))
        there true f =
            let same : r.line ≡ line = eqb-true r.line line f in
            let some : is_some (start_of (found_image i logs) line) ≡ true = ap (λ n. is_some (start_of (found_image i logs) n)) (sym same)
            ∙ winner_starts (found_image i logs) lba r e in
            ap (λ n. if is_as_found (life_of (after logs (Open line start) knows 0) n) then Some r.line else None) same
            ∙ ap (λ (l : LineLife). if is_as_found l then Some r.line else None) (life_now (logs 0) line start knows)
            ∙ sym (was (life_of (logs 0) r.line) refl same some)
          where
            was : (l : LineLife) → life_of (logs 0) r.line ≡ l → r.line ≡ line → is_some (start_of (found_image i logs) line) ≡ true
                → (if is_as_found l then Some r.line else None) ≡ None
            was AsFound g same some = absurd (cc (sym some ∙ free_start i logs line free (ap (life_of (logs 0)) (sym same) ∙ g)))
            was (Opened o) g same some = refl
            was (Freed past k) g same some = refl

lines_same : (i : Image) (logs : Logs) (line : ℕ) (start : StartRecord) (knows : List ℕ) → is_free_line i logs line ≡ true
    → KeepsLines i logs (after logs (Open line start) knows)
lines_same i logs line start knows free = record {
  takes = takes_more (logs 0) (record { event = Decides (Open line start); knows = knows }) ∙ append-nil (takes (logs 0));
  line_of = λ lba t. each lba t;
  landed = λ lba t. each_landed lba t;
}
  where
    new : List Logged
    new = with_event (logs 0) (Open line start) knows

    each : (lba : ℕ) (t : Option Taken) → line_of i (after logs (Open line start) knows) lba t ≡ line_of i logs lba t
    each lba None = winner_same i logs line start knows lba free
    each lba (Some t) = stripe_same (logs 0) line start knows (λ p. holds_position i.shape t.entry.position p && not (was_lost (logs 0) p))
        (λ p. holds_position i.shape t.entry.position p && not (was_lost new p)) (free_unopened i logs line free)
        (λ p. ap (λ b. holds_position i.shape t.entry.position p && not b) (KeepsStripes.losses (stripes_kept (logs 0) (Open line start) knows refl) p))

    each_landed : (lba : ℕ) (t : Option Taken) → landed_line_of i (after logs (Open line start) knows) lba t ≡ landed_line_of i logs lba t
    each_landed lba None = winner_same i logs line start knows lba free
    each_landed lba (Some t) = stripe_same (logs 0) line start knows (λ p. holds_position i.shape t.entry.position p && has_landed (logs 0) p)
        (λ p. holds_position i.shape t.entry.position p && has_landed new p) (free_unopened i logs line free)
        (λ p. ap (λ b. holds_position i.shape t.entry.position p && b)
        (landed_same (logs 0) new (alike_kept (logs 0) (Open line start) knows refl (λ unit. refl)) p))

-- ---- the row of the line

pub either : {X : Type 0} (b : Bool) (x : X) → (if b then x else x) ≡ x
either true x = refl
either false x = refl

pub has_width : (s : Shape) (g : ℕ) → nat_lt 0 (data_len s g) ≡ true → 0 < g
has_width s g some = go (nat_lt 0 g) refl
  where
    go : (b : Bool) → nat_lt 0 g ≡ b → 0 < g
    go true e = grind arith
    go false e =
        let above : g ≤ 0 = grind arith in
        let none : g ≡ 0 = omega arith in
        let between : 0 * s.clba - start_len s - end_len s 0 ≡ 0 = omega arith in
        let nothing : data_len s g ≡ 0 = ap (data_len s) none ∙ ap (λ n. if nat_lt n s.ws_opt then 0 else n) between ∙ either (nat_lt 0 s.ws_opt) 0 in
        absurd (cc (sym some ∙ ap (nat_lt 0) nothing))

has_stripes : (s : Shape) (g : ℕ) → IsDriveShape s → 0 < g → 0 < g * s.clba / s.ws_opt
has_stripes s g drive some = go (nat_lt 0 (g * s.clba / s.ws_opt)) refl
  where
    go : (b : Bool) → nat_lt 0 (g * s.clba / s.ws_opt) ≡ b → 0 < g * s.clba / s.ws_opt
    go true e = grind arith
    go false e =
        let above : g * s.clba / s.ws_opt ≤ 0 = grind arith in
        let none : g * s.clba / s.ws_opt ≡ 0 = omega arith in
        let parts : g * s.clba / s.ws_opt * s.ws_opt + g * s.clba % s.ws_opt ≡ g * s.clba = div-add-mod' (g * s.clba) s.ws_opt in
        let gone : g * s.clba / s.ws_opt * s.ws_opt ≡ 0 = ap (λ n. n * s.ws_opt) none ∙ zero-mul s.ws_opt in
        let short : g * s.clba % s.ws_opt < s.ws_opt = mod-lt (g * s.clba) drive.ws_opt in
        let longer : s.clba ≤ s.clba * g = le-mul_of_pos_right s.clba some in
        let turned_round : s.clba * g ≡ g * s.clba = mul_comm s.clba g in
        let chunk : s.clba ≤ g * s.clba = omega arith in
        let few : s.clba < s.ws_opt = omega arith in
        let whole : s.clba % s.ws_opt ≡ s.clba = mod-eq_of_lt few in
        let zero_rest : s.clba % s.ws_opt ≡ 0 = drive.whole_stripes in
        let some_blocks : 0 < s.clba = drive.clba in
        absurd (omega arith)

not_above : (n : ℕ) → 0 < n → nat_le n 0 ≡ false
not_above n some = go (nat_le n 0) refl
  where
    go : (b : Bool) → nat_le n 0 ≡ b → b ≡ false
    go true e = let none : n ≤ 0 = grind arith in absurd (omega arith)
    go false e = refl

state_by : ℕ → List Logged → List Placed → LineState
state_by count log ps = if list_any (was_lost log) ps then states.Failed else if nat_le count (length ps) && list_all (has_landed log)
    (take count ps) then states.Full else states.Open

state_opened : (i : Image) (new : Logs) (line : ℕ) (o : Opening) → stripes_of (new 0) o ≡ [] → 0 < line_end i.shape o / i.shape.ws_opt
    → state_in i new line (Opened o) ≡ states.Open
unfolding state_by
state_opened i new line o none some =
    ap (state_by (line_end i.shape o / i.shape.ws_opt) (new 0)) none
    ∙ ap (λ b. if b && list_all (has_landed (new 0)) (take (line_end i.shape o / i.shape.ws_opt) []) then states.Full else states.Open)
    (not_above (line_end i.shape o / i.shape.ws_opt) some)

no_taker : (i : Image) (logs new : Logs) (line : ℕ) → is_free_line i logs line ≡ true → KeepsLines i logs new → taker_by i new line ≡ None
no_taker i logs new line free keeps =
    ap (λ (ts : List Taken). option_map (λ (t : Taken). t.entry.position) (last_or None ts))
    (filter_none (took_from i new line) (takes (new 0)) (all_of (λ t. took_from i new line t ≡ false)
    (λ t. and_false (nat_lt t.mark.lba i.shape.capacity) (is_of line (landed_line_of i new t.mark.lba (take_before (new 0) t)))
    (ap (is_of line) (keeps.landed t.mark.lba (take_before (new 0) t)) ∙ none_landed_in_free i logs line t.mark.lba (take_before (new 0) t) free))
    (takes (new 0))))

pub rows_opened : (i : Image) (logs : Logs) (begun : Begun) (line : ℕ) (start : StartRecord) (knows : List ℕ) → IsDriveShape i.shape → FreedBefore (logs 0)
    → MayOpen i logs begun line start
    → rows_of i (after logs (Open line start) knows) ≡ with_row line (turned states.Open start.width) (rows_of i logs)
rows_opened i logs begun line start knows drive before may =
    let new : Logs = after logs (Open line start) knows in
    let o : Opening = new_opening (logs 0) line start knows in
    let kept : KeepsStripes (logs 0) (new 0) = stripes_kept (logs 0) (Open line start) knows refl in
    let lines : KeepsLines i logs new = lines_same i logs line start knows may.is_free in
    let life : life_of (new 0) line ≡ Opened o = life_now (logs 0) line start knows in
    let some : 0 < start.width =
    subst (λ n. 0 < n) (sym may.own_width) (has_width i.shape (width (known_image i logs) line)
    (both (not (has_number i logs (life_of (logs 0) line) line) && are_empty (known_image i logs) line)
    (nat_lt 0 (line_data (known_image i logs) line)) may.is_free).1) in
    let none : stripes_of (new 0) o ≡ [] =
    ap (filter (λ (p : Placed). is_life (length (logs 0)) p.life)) kept.placements
    ∙ filter_none (λ (p : Placed). is_life (length (logs 0)) p.life) (placements (logs 0))
    (placed_before (logs 0) (length (logs 0)) (le_refl (length (logs 0)))) in
    let known : known_image i new ≡ known_image i logs = known_kept i logs (Open line start) knows refl (λ unit. refl) in
    row_changes_any i logs new line (turned states.Open start.width)
    (same_row (state_in i new line (life_of (new 0) line)) states.Open (width_in i new line (life_of (new 0) line)) start.width (row_of_line i new line).live
    (row_of_line i logs line).live
    (taker_in i new line (life_of (new 0) line)) None
    (ap (state_in i new line) life ∙ state_opened i new line o none (has_stripes i.shape start.width drive some))
    (ap (width_in i new line) life)
    (live_kept i logs new line lines)
    (ap (taker_in i new line) life ∙ no_taker i logs new line may.is_free lines))
    (λ m other. row_kept i logs new m (life_elsewhere (logs 0) line start knows m other) (then_kept i logs (Open line start) knows m before)
    (record {
      found = found_kept i logs (Open line start) knows refl;
      empty = ap (λ (j : Image). are_empty j m) known;
      wide =
          ap (λ (j : Image). width j m) known;
    }) lines
    (λ p is. ap₂ (λ a b. if a then states.Failed else if b then states.Full else states.Open) (failed_kept (logs 0) (new 0) kept p)
    (have_landed_alike (logs 0) (new 0) (alike_kept (logs 0) (Open line start) knows refl (λ unit. refl)) p (line_end i.shape p / i.shape.ws_opt))))

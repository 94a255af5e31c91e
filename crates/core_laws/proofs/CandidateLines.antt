-- Which lines may be collected, by what a target keeps of them.
use Rattle.std.proofs.Common.{◌≡◌, ◌⊎◌, inl, inr, ℕ, ◌+◌, ◌/◌, ◌<◌, ◌≤◌, ◌==◌, ◌&&◌, max, nat_lt, nat_le, Bool, true, false, Some, None, Option, List, [], ◌∷◌, refl, sym, ap, ◌∙◌, arith, if◌then◌else◌}
use Rattle.std.specs.List.{list_all}
use Rattle.std.specs.Option.{is_none, is_some, option_and_then, option_map, option_map_or}
use Rattle.std.proofs.lemmas.Bool.{cases_lt, ltb-true}
use Rattle.std.proofs.lemmas.Option.{none-some, same_Some}
use Rattle.pblk_model.specs.EndRecord.{EndRecord, end_of}
use Rattle.pblk_model.specs.Image.{Image}
use Rattle.pblk_model.specs.StartRecord.{StartRecord, start_of}
use Rattle.pblk_world.specs.EngineLog.{AsFound, Freed, LineLife, life_of, Opened, has_failed}
use Rattle.pblk_world.specs.Lines.{are_empty, are_over, found_image, known_image, line_data}
use Rattle.pblk_world.specs.Placing.{line_end}
use Rattle.pblk_world.specs.Starts.{have_landed, newest_start, seq_of}
use Rattle.pblk_world.specs.Victims.{Candidate, candidate, is_failed, is_failed_in, live, positions_in}
use Rattle.pblk_world.specs.World.{Logs}
use Rattle.line_table.specs.declared.row.LineState.TheVariants as states
use Rattle.core_laws.specs.CandidateLines.{IsCandidate, candidate_by, is_failed_state, may_be_collected_by}
use Rattle.core_laws.specs.ClosedLines.{ClosedLine, StartNumbers, closed_line, closed_with, newest_numbers, top_of}
use Rattle.core_laws.specs.RowsOf.{row_of_line, state_found, state_given_up, state_in, state_of}
use Rattle.core_laws.proofs.LatestStarts.{numbers_of}
use Rattle.core_laws.proofs.TopPositions.{top_more}
use Rattle.stripe_placer.proofs.Rising.{le_false}
use Rattle.pblk_model.proofs.Tests.{and_both, both, within_is, and_false, le_true, lt_true, not_before, not_first}

-- ---- positions below a bound

below_top : (n : ℕ) (ps : List ℕ) → list_all (λ position. nat_lt position n) ps ≡ nat_le (top_of ps) n
below_top n [] = sym (le_true 0 n (omega arith))
below_top n (p ∷ ps) =
    let first : top_of (p ∷ ps) ≡ max (max 0 (p + 1)) (top_of ps) = top_more (p ∷ []) ps in
    let top : max (p + 1) (top_of ps) ≡ top_of (p ∷ ps) = omega (arith, first) in
    ap (λ b. nat_lt p n && b) (below_top n ps) ∙ joined (cases_lt p n) (cases_lt n (top_of ps)) ∙ ap (λ t. nat_le t n) top
  where
    over : n < max (p + 1) (top_of ps) → nat_le (max (p + 1) (top_of ps)) n ≡ false
    over above = le_false (max (p + 1) (top_of ps)) n above

    joined : (p < n) ⊎ (n ≤ p) → (n < top_of ps) ⊎ (top_of ps ≤ n) → (nat_lt p n && nat_le (top_of ps) n) ≡ nat_le (max (p + 1) (top_of ps)) n
    joined (inl below) (inr within) =
        and_both (nat_lt p n) (nat_le (top_of ps) n) (lt_true p n below) (le_true (top_of ps) n within)
        ∙ sym (le_true (max (p + 1) (top_of ps)) n (omega arith))
    joined (inr above) rest = not_first (nat_lt p n) (nat_le (top_of ps) n) (not_before p n above) ∙ sym (over (omega arith))
    joined (inl below) (inl past) = and_false (nat_lt p n) (nat_le (top_of ps) n) (le_false (top_of ps) n past) ∙ sym (over (omega arith))

-- ---- candidates

pub candidate_is : (i : Image) (logs : Logs) (line : ℕ)
    → candidate i logs line ≡ candidate_by (closed_line i logs line) (newest_numbers i logs) (is_failed i logs line) (live i logs line)
    i.shape.ws_opt (line_data (known_image i logs) line) line
candidate_is i logs line = go (are_over i logs line) (seq_of i logs line) (newest_start i logs)
  where
    no_newest : (c : Option ClosedLine)
        → None ≡ candidate_by c None (is_failed i logs line) (live i logs line) i.shape.ws_opt (line_data (known_image i logs) line) line
    no_newest None = refl
    no_newest (Some c) = refl

    go : (over : Bool) (seq : Option ℕ) (newest : Option StartRecord)
        → option_and_then (λ (start : StartRecord). option_and_then (λ n. if over && nat_lt n start.seq
        && list_all (λ position. nat_lt position start.front) (positions_in i logs (life_of (logs 0) line) line)
        && nat_le (live i logs line + i.shape.ws_opt) (line_data (known_image i logs) line)
        then Some (record { line = line; failed = is_failed i logs line; live = live i logs line; seq = n }) else None) seq) newest
        ≡ candidate_by (if over then option_map (closed_with i logs line) seq else None) (option_map numbers_of newest) (is_failed i logs line)
        (live i logs line) i.shape.ws_opt (line_data (known_image i logs) line) line
    go over seq None = no_newest (if over then option_map (closed_with i logs line) seq else None)
    go false None (Some start) = refl
    go false (Some n) (Some start) = refl
    go true None (Some start) = refl
    go true (Some n) (Some start) =
        ap (λ b. if nat_lt n start.seq && b && nat_le (live i logs line + i.shape.ws_opt) (line_data (known_image i logs) line)
        then Some (record { line = line; failed = is_failed i logs line; live = live i logs line; seq = n }) else None)
        (below_top start.front (positions_in i logs (life_of (logs 0) line) line))

-- ---- failed lines

given_up_holds : (i : Image) (logs : Logs) (line : ℕ) → false ≡ is_failed_state (state_given_up i logs line)
given_up_holds i logs line = go (are_empty (known_image i logs) line) (line_data (known_image i logs) line == 0)
  where
    go : (empty none : Bool) → false ≡ is_failed_state (if empty then (if none then states.Dead else states.Free) else states.Freed)
    go false none = refl
    go true false = refl
    go true true = refl

-- A line is failed exactly where its row says so.
pub failed_is : (i : Image) (logs : Logs) (line : ℕ) → is_failed i logs line ≡ is_failed_state (state_of i logs line)
failed_is i logs line = by_life (life_of (logs 0) line)
  where
    by_end : (o : Option EndRecord) → is_none o ≡ is_failed_state (if is_some o then states.Full else states.Failed)
    by_end None = refl
    by_end (Some end) = refl

    by_start : (o : Option StartRecord)
        → option_map_or (λ start. is_none (end_of (found_image i logs) line start)) o false ≡ is_failed_state (state_found i logs line o)
    by_start None = given_up_holds i logs line
    by_start (Some start) = by_end (end_of (found_image i logs) line start)

    opened : (failed landed : Bool) → failed ≡ is_failed_state (if failed then states.Failed else if landed then states.Full else states.Open)
    opened true landed = refl
    opened false true = refl
    opened false false = refl

    by_life : (life : LineLife) → is_failed_in i logs life line ≡ is_failed_state (state_in i logs line life)
    by_life AsFound = by_start (start_of (found_image i logs) line)
    by_life (Opened o) = opened (has_failed (logs 0) o) (have_landed (logs 0) o (line_end i.shape o / i.shape.ws_opt))
    by_life (Freed was knows) = given_up_holds i logs line

-- by its row
pub candidate_by_row : (i : Image) (logs : Logs) (line : ℕ)
    → candidate i logs line ≡ candidate_by (closed_line i logs line) (newest_numbers i logs) (is_failed_state (row_of_line i logs line).state)
    (row_of_line i logs line).live i.shape.ws_opt (line_data (known_image i logs) line) line
candidate_by_row i logs line = candidate_is i logs line ∙ ap (λ failed. candidate_by (closed_line i logs line) (newest_numbers i logs) failed
    (live i logs line) i.shape.ws_opt (line_data (known_image i logs) line) line) (failed_is i logs line)

-- as a fact
pub candidate_when : (i : Image) (logs : Logs) (line : ℕ) (c : Candidate) → candidate i logs line ≡ Some c → IsCandidate i logs line c
candidate_when i logs line c e = go (closed_line i logs line) (newest_numbers i logs) refl refl (sym (candidate_is i logs line) ∙ e)
  where
    go : (closed : Option ClosedLine) (newest : Option StartNumbers) → closed_line i logs line ≡ closed → newest_numbers i logs ≡ newest
        → candidate_by closed newest (is_failed i logs line) (live i logs line) i.shape.ws_opt (line_data (known_image i logs) line) line ≡ Some c
        → IsCandidate i logs line c
    go None newest is_closed is_newest f = absurd (none-some c f)
    go (Some closed) None is_closed is_newest f = absurd (none-some c f)
    go (Some closed) (Some newest) is_closed is_newest f =
        by (may_be_collected_by closed newest (live i logs line) i.shape.ws_opt (line_data (known_image i logs) line)) refl f
      where
        by : (t : Bool) → may_be_collected_by closed newest (live i logs line) i.shape.ws_opt (line_data (known_image i logs) line) ≡ t
            → (if t then Some (record { line = line; failed = is_failed i logs line; live = live i logs line; seq = closed.seq }) else None) ≡ Some c
            → IsCandidate i logs line c
        by false t g = absurd (none-some c g)
        by true t g =
            let parts = both (nat_lt closed.seq newest.seq && nat_le closed.top newest.front)
            (nat_le (live i logs line + i.shape.ws_opt) (line_data (known_image i logs) line)) t in
            let first = both (nat_lt closed.seq newest.seq) (nat_le closed.top newest.front) parts.0 in
            record {
              closed = closed;
              is_closed = is_closed;
              newest = newest;
              is_newest = is_newest;
              older = ltb-true closed.seq newest.seq first.0;
              below_front = within_is closed.top newest.front first.1;
              has_room = within_is (live i logs line + i.shape.ws_opt) (line_data (known_image i logs) line) parts.1;
              is = sym (same_Some (record { line = line; failed = is_failed i logs line; live = live i logs line; seq = closed.seq }) c g);
            }

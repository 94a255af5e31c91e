-- Where few lines are Free or to be reset, one that is behind the newest start record has few live
-- sectors. So where that record has landed, some line may be collected, and the one that is
-- collected next has no more.
use Rattle.std.proofs.Common.{◌≡◌, ◌≢◌, ◌⊎◌, inl, inr, ℕ, ◌+◌, ◌*◌, ◌/◌, ◌<◌, ◌≤◌, ◌==◌, ◌&&◌, ◌||◌, nat_le, nat_lt, not, Bool, true, false, Some, None, Option, List, length, refl, sym, subst, ap, ap₂, ◌∙◌, arith, if◌then◌else◌}
use Rattle.std.specs.Prelude.{slice_get, sum_by}
use Rattle.std.specs.List.{AllByRecursion, Contains, filter, find, list_all, list_any, range_with_len}
use Rattle.std.specs.Option.{option_and_then, option_map_or}
use Rattle.std.proofs.lemmas.Bool.{cases_lt, cases_order}
use Rattle.std.proofs.lemmas.Bool.Decides.{nat_tests}
use Rattle.std.proofs.lemmas.List.FromFn.{length-range_with_len}
use Rattle.std.proofs.lemmas.Option.{none-some, same_Some}
use Rattle.std.proofs.Math.Nat.{div-mul-le_self, lt-div-mul-add}
use Rattle.pblk_model.specs.Image.{Image, width}
use Rattle.pblk_model.specs.Shape.{units}
use Rattle.pblk_model.specs.StartRecord.{StartRecord, start_of}
use Rattle.pblk_world.specs.EngineLog.{AsFound, Begun, begun, Freed, life_of, LineLife, Opened, Opening, openings}
use Rattle.pblk_world.specs.Events.{Logged}
use Rattle.pblk_world.specs.Fronts.{first_position}
use Rattle.pblk_world.specs.Lines.{are_over, found_image, has_stripe_left, is_free_line, known_image, line_data}
use Rattle.pblk_world.specs.Space.{full_data, is_due}
use Rattle.pblk_world.specs.Starts.{newest_start}
use Rattle.pblk_world.specs.Victims.{Candidate, candidate, candidate_of, engine_prefix, is_before, is_failed, is_failed_before, live, may_be_collected, next_victim, positions_in}
use Rattle.pblk_world.specs.World.{World, Logs, log_of}
use Rattle.rest_laws.specs.BehindLines.{IsBehind}
use Rattle.rest_laws.specs.NewestOpened.{IsLastOpened}
use Rattle.rest_laws.specs.RoomSteps.{free_lines, is_unreset, unreset_lines}
use Rattle.rest_laws.specs.Tidy.{AreWide}
use Rattle.pblk_model.proofs.Lists.{IsAmong, all_imply, among_contained}
use Rattle.pblk_model.proofs.Maps.{all_in_range, any_member, found_none, found_passes, range_get}
use Rattle.pblk_model.proofs.Parts.{get_past}
use Rattle.pblk_model.proofs.Tests.{and_both, both, either_false, le_of_lt_false, le_true, lt_true, not_both, not_true, or_left, or_right, same, same_number, within_is}
use Rattle.pblk_world.specs.LegalMounts.{IsLegalMount}
use Rattle.pblk_world.specs.Orders.{AreReset}
use Rattle.world_laws.proofs.StartRecords.{front_from_first, seq_of_nth}
use Rattle.world_laws.proofs.Stripes.{one_opening}
use Rattle.core_laws.proofs.LosslessMounts.{IsLosslessMount}
use Rattle.core_laws.specs.Spent.{OpensWhenFull}
use Rattle.core_laws.specs.CandidateLines.{IsCandidate, IsNextVictim}
use Rattle.core_laws.proofs.CandidateLines.{candidate_when}
use Rattle.core_laws.proofs.ChosenVictims.{next_victim_is, no_candidate}
use Rattle.core_laws.proofs.EachChunk.{all_hold}
use Rattle.core_laws.proofs.LandedNow.{opened_now}
use Rattle.rest_laws.proofs.AsFoundLines.{found_behind}
use Rattle.rest_laws.proofs.CountedLines.{one_in_range, passing_either, passing_one_of}
use Rattle.rest_laws.proofs.FreeCounts.{few_free}
use Rattle.rest_laws.proofs.FreeNow.{all_data, found_soon, freed_soon, soon_now}
use Rattle.rest_laws.proofs.LiveSums.{live_within, sum_of_passing}
use Rattle.rest_laws.proofs.OpenedBehind.{left_or_behind, may_open, nth}
use Rattle.rest_laws.proofs.RoomyShapes.{eight_stripes, share_of_live}
use Rattle.rest_laws.proofs.RunLogs.{none_unreset}

-- Of two lines that may be collected the one that isn't before the other has no more live sectors,
-- unless it is failed.
fewest : (d c : Candidate) → is_before d c ≡ false → (c.failed ≡ true) ⊎ (c.live ≤ d.live)
fewest d c e = go d.failed c.failed refl e
  where
    go : (f g : Bool) → c.failed ≡ g → is_failed_before f g (nat_lt d.live c.live || ((d.live == c.live) && nat_lt d.seq c.seq)) ≡ false
        → (c.failed ≡ true) ⊎ (c.live ≤ d.live)
    go f true is not_before = inl is
    go true false is not_before = absurd cc
    go false false is not_before =
        inr (le_of_lt_false d.live c.live (either_false (nat_lt d.live c.live) ((d.live == c.live) && nat_lt d.seq c.seq) not_before).0)

-- ---- what becomes of each line

-- A line is Free or to be reset, or the one that was opened last, or it had a stripe left when that
-- one was opened, or it is behind its start record.
pub data Standing (i : Image) (logs : Logs) (n : Opening) (line : ℕ) : Type 0 where
  IsSoonFree : (is_free_line i logs line ≡ true) ⊎ (is_unreset i logs line ≡ true) → Standing i logs n line
  IsNewest : line ≡ n.line → Standing i logs n line
  WasLeft : has_stripe_left i (engine_prefix n.number logs) line ≡ true → Standing i logs n line
  Behind : IsBehind i logs n.start line → Standing i logs n line

module _ (i : Image) (w : World) (lossless : IsLosslessMount i w) (full : OpensWhenFull i (log_of w)) (wide : AreWide (known_image i (log_of w)))
    (n : Opening) (last : IsLastOpened (log_of w 0) n) where
  abbrev log : List Logged
  log = log_of w 0

  abbrev logs : Logs
  logs = log_of w

  mount : IsLegalMount i w
  mount = lossless.mount

  some_data : (line : ℕ) → line < i.shape.chunks → line_data (known_image i (log_of w)) line ≡ full_data i.shape
  some_data = all_data i w mount wide

  standing : (line : ℕ) → line < i.shape.chunks → Standing i (log_of w) n line
  standing line inside = by_life (life_of log line) refl
    where
      by_life : (life : LineLife) → life_of (log_of w 0) line ≡ life → Standing i (log_of w) n line
      by_life (Freed was knows) is = IsSoonFree (freed_soon i w mount wide line was knows inside is)
      by_life (Opened o) is = by_number (cases_order o.number n.number)
        where
          now : Contains (openings (log_of w 0)) o × (o.line ≡ line)
          now = let at = opened_now i w mount line o is in (at.0, at.1)

          by_number : (o.number ≡ n.number) ⊎ ((o.number < n.number) ⊎ (n.number < o.number)) → Standing i (log_of w) n line
          by_number (inl equal) = IsNewest (sym now.1 ∙ ap (λ (x : Opening). x.line) (one_opening log o n now.0 last.opened equal))
          by_number (inr (inr later)) = let few : o.number ≤ n.number = last.last o now.0 in absurd (omega arith)
          by_number (inr (inl before)) = go (left_or_behind i w lossless full n last.opened o (ap (life_of log) now.1 ∙ is) before
              (subst (λ m. width (known_image i logs) m ≡ units i.shape) (sym now.1) (wide line inside)))
            where
              go : (has_stripe_left i (engine_prefix n.number (log_of w)) o.line ≡ true) ⊎ IsBehind i (log_of w) n.start o.line
                  → Standing i (log_of w) n line
              go (inl left) = WasLeft (subst (λ m. has_stripe_left i (engine_prefix n.number logs) m ≡ true) now.1 left)
              go (inr behind) = Behind (subst (IsBehind i logs n.start) now.1 behind)
      by_life AsFound is = by_start (start_of (found_image i logs) line) refl
        where
          at : (k : ℕ) × (slice_get (openings (log_of w 0)) k ≡ Some n)
          at = among_contained (openings log) n last.opened

          g : Begun
          g = (nth i w lossless full n last.opened).1.g

          begins : begun (log_of w 0) ≡ Some (nth i w lossless full n last.opened).1.g
          begins = (nth i w lossless full n last.opened).1.is_begun

          by_start : (o : Option StartRecord) → start_of (found_image i (log_of w)) line ≡ o → Standing i (log_of w) n line
          by_start (Some start) starts =
              let seq : n.start.seq ≡ g.beginning.seq + at.0 = seq_of_nth i w at.0 n g mount.legal begins at.1 in
              let front : first_position log ≤ n.start.front = front_from_first i w at.0 n mount.legal at.1 in
              let first : first_position log ≡ g.beginning.first =
              ap (λ (x : Option Begun). option_map_or (λ (y : Begun). y.beginning.first) x 0) begins in
              Behind (found_behind i w mount g begins line is start n.start inside starts (omega arith) (omega arith))
          by_start None none = IsSoonFree (found_soon i w mount wide g line begins inside is none)

  -- at most one other line isn't behind, where no reset is left to be made
  other_not_behind : AreReset i (log_of w) → (line other : ℕ) → line < i.shape.chunks → other < i.shape.chunks → is_free_line i (log_of w) line ≡ false
      → is_free_line i (log_of w) other ≡ false → line ≢ n.line → other ≢ n.line → ¬ IsBehind i (log_of w) n.start line
      → ¬ IsBehind i (log_of w) n.start other → line ≡ other
  other_not_behind reset line other line_in other_in line_used other_used line_old other_old line_needed other_needed =
      (may_open i w lossless full n last.opened).one_other line other line_in other_in (left line line_in line_used line_old line_needed)
      (left other other_in other_used other_old other_needed)
    where
      left : (m : ℕ) → m < i.shape.chunks → is_free_line i (log_of w) m ≡ false → m ≢ n.line → ¬ IsBehind i (log_of w) n.start m
          → has_stripe_left i (engine_prefix n.number (log_of w)) m ≡ true
      left m inside used old needed = by (standing m inside)
        where
          by : Standing i (log_of w) n m → has_stripe_left i (engine_prefix n.number (log_of w)) m ≡ true
          by (IsSoonFree e) = absurd (not_both (is_free_line i logs m) (soon_now i w mount wide reset m inside e) used)
          by (IsNewest e) = absurd (old e)
          by (WasLeft e) = e
          by (Behind e) = absurd (needed e)

  -- ---- a line with few live sectors

  -- a line behind the start record, with three in four of a line's sectors live at most
  pub record IsLight (line : ℕ) : Type 0 where
    pub inside : line < i.shape.chunks
    pub behind : IsBehind i (log_of w) n.start line
    pub few : 4 * live i (log_of w) line ≤ 3 * full_data i.shape

  abbrev range : List ℕ
  range = range_with_len 0 i.shape.chunks

  abbrev is_new : ℕ → Bool
  is_new line = line == n.line

  abbrev was_left : ℕ → Bool
  was_left = has_stripe_left i (engine_prefix n.number (log_of w))

  abbrev is_old : ℕ → Bool
  is_old line = is_new line || was_left line

  abbrev is_soon : ℕ → Bool
  is_soon line = is_free_line i (log_of w) line || is_unreset i (log_of w) line

  abbrev is_other : ℕ → Bool
  is_other line = is_soon line || is_old line

  abbrev is_few : ℕ → Bool
  is_few line = nat_le (4 * live i (log_of w) line) (3 * full_data i.shape)

  abbrev is_light : ℕ → Bool
  is_light line = not (is_other line) && is_few line

  all_inside : AllByRecursion (λ line. line < i.shape.chunks) (range_with_len 0 i.shape.chunks)
  all_inside = all_in_range 0 i.shape.chunks i.shape.chunks (omega arith)

  in_range : (line : ℕ) → IsAmong range line → line < i.shape.chunks
  in_range line at = by (cases_lt at.0 i.shape.chunks)
    where
      by : (at.0 < i.shape.chunks) ⊎ (i.shape.chunks ≤ at.0) → line < i.shape.chunks
      by (inl below) = let same : 0 + at.0 ≡ line = same_Some (0 + at.0) line (sym (range_get 0 i.shape.chunks at.0 below) ∙ at.1) in omega (arith, below, same)
      by (inr past) =
          let long : length range ≤ at.0 = omega (arith, past, length-range_with_len 0 i.shape.chunks) in
          absurd (none-some line (sym (get_past range at.0 long) ∙ at.1))

  -- a line that is none of the others is behind
  must_be_behind : (line : ℕ) → line < i.shape.chunks → is_other line ≡ false → IsBehind i (log_of w) n.start line
  must_be_behind line inside none = by (standing line inside)
    where
      no : is_other line ≡ true → IsBehind i (log_of w) n.start line
      no is = absurd (not_both (is_other line) is none)

      by : Standing i (log_of w) n line → IsBehind i (log_of w) n.start line
      by (IsSoonFree (inl e)) = no (or_left (is_soon line) (is_old line) (or_left (is_free_line i logs line) (is_unreset i logs line) e))
      by (IsSoonFree (inr e)) = no (or_left (is_soon line) (is_old line) (or_right (is_free_line i logs line) (is_unreset i logs line) e))
      by (IsNewest e) = no (or_right (is_soon line) (is_old line)
          (or_left (is_new line) (was_left line) (ap (λ m. m == n.line) e ∙ same_number n.line)))
      by (WasLeft e) = no (or_right (is_soon line) (is_old line) (or_right (is_new line) (was_left line) e))
      by (Behind e) = e

  -- a line whose live sectors aren't few has more than three in four
  three : ℕ
  three = 3 * full_data i.shape / 4 + 1

  three_is : 3 * full_data i.shape < 4 * three
  unfolding three
  three_is = let over : 3 * full_data i.shape < 3 * full_data i.shape / 4 * 4 + 4 = lt-div-mul-add (omega arith) in omega (arith, over)

  many : (n : ℕ) → 3 * full_data i.shape < 4 * n → three ≤ n
  unfolding three
  many n over = let whole : 3 * full_data i.shape / 4 * 4 ≤ 3 * full_data i.shape = div-mul-le_self (3 * full_data i.shape) 4 in omega (arith, over, whole)

  abbrev is_heavy : ℕ → Bool
  is_heavy line = nat_le three (live i (log_of w) line)

  -- where no line is light, each is one of the others, or has many live sectors
  none_light : list_any is_light range ≡ false → (line : ℕ) → line < i.shape.chunks → (is_other line ≡ true) ⊎ (is_heavy line ≡ true)
  none_light none line inside = go (is_other line) (is_few line) refl refl
    where
      go : (a b : Bool) → is_other line ≡ a → is_few line ≡ b → (is_other line ≡ true) ⊎ (is_heavy line ≡ true)
      go true b other few = inl other
      go false false other few = inr (le_true three (live i logs line)
          (many (live i logs line) (over_of (4 * live i logs line) (3 * full_data i.shape) few)))
        where
          over_of : (m n : ℕ) → nat_le m n ≡ false → n < m
          over_of m n e = grind (arith, nat_tests)
      go false true other few =
          let light : is_light line ≡ true = and_both (not (is_other line)) (is_few line) (ap not other) few in
          absurd (not_both (list_any is_light range)
          (any_member is_light range line line (range_get 0 i.shape.chunks line inside ∙ ap (λ m. Some m) zero_first) light) none)
        where
          zero_first : 0 + line ≡ line
          zero_first = omega arith

  -- the others are five at most
  few_others : free_lines i (log_of w) + unreset_lines i (log_of w) ≤ 3 → length (filter is_other range) ≤ 5
  few_others few =
      let soon : length (filter is_soon range) ≤ free_lines i logs + unreset_lines i logs =
      passing_one_of (is_free_line i logs) (is_unreset i logs) range in
      let old : length (filter is_old range) ≤ length (filter is_new range) + length (filter was_left range) = passing_one_of is_new was_left range in
      let both : length (filter is_other range) ≤ length (filter is_soon range) + length (filter is_old range) = passing_one_of is_soon is_old range in
      omega (arith, few, soon, old, both, one_new, one_left)
    where
      -- one was opened last, and one at most had a stripe left
      one_new : length (filter is_new range) ≤ 1
      one_new = one_in_range is_new 0 i.shape.chunks (λ j k j_from j_below k_from k_below a b. same j n.line a ∙ sym (same k n.line b))

      one_left : length (filter was_left range) ≤ 1
      one_left = one_in_range was_left 0 i.shape.chunks (λ j k j_from j_below k_from k_below a b.
          (may_open i w lossless full n last.opened).one_other j k (omega arith) (omega arith) a b)

  -- So where three lines at most are Free or to be reset, one is light.
  pub light_exists : free_lines i (log_of w) + unreset_lines i (log_of w) ≤ 3 → (line : ℕ) × IsLight line
  light_exists few = go (find is_light range) refl
    where
      go : (o : Option ℕ) → find is_light range ≡ o → (line : ℕ) × IsLight line
      go (Some line) e =
          let it = found_passes is_light range line e in
          let parts = both (not (is_other line)) (is_few line) it.0 in
          let inside : line < i.shape.chunks = in_range line it.1 in (
            line,
            record {
              inside = inside;
              behind = must_be_behind line inside (not_true (is_other line) parts.0);
              few = within_is (4 * live i logs line) (3 * full_data i.shape) parts.1;
            },
          )
      go None e =
          let all : length range ≡ i.shape.chunks = length-range_with_len 0 i.shape.chunks in
          let either : length range ≤ length (filter is_other range) + length (filter is_heavy range) =
          passing_either is_other is_heavy range (all_imply (λ line. line < i.shape.chunks) (λ line. (is_other line ≡ true) ⊎ (is_heavy line ≡ true))
          (none_light (found_none is_light range e)) range all_inside) in
          let heavy : length (filter is_heavy range) * three ≤ sum_by (live i logs) range =
          sum_of_passing (λ line. line < i.shape.chunks) is_heavy (live i logs) three range
          (λ line below e. within_is three (live i logs line) e) all_inside in
          let most : sum_by (live i logs) range ≤ i.shape.capacity = live_within i logs in
          let four : 4 * three ≤ 3 * full_data i.shape =
          share_of_live i.shape (length (filter is_heavy range)) three mount.accepted (omega (arith, all, either, few_others few)) (omega (arith, heavy, most)) in
          absurd (omega (arith, four, three_is))

  -- ---- a candidate

  -- its start record is the newest that has landed
  module _ (newest : newest_start i (log_of w) ≡ Some n.start) where
    -- a light line may be collected
    light_candidate : (line : ℕ) (is : IsLight line) → (c : Candidate) × (candidate i (log_of w) line ≡ Some c)
        × (c.failed ≡ is_failed i (log_of w) line) × (c.live ≡ live i (log_of w) line)
    light_candidate line is =
        let behind : IsBehind i logs n.start line = is.behind in
        let over : Bool = are_over i logs line in
        let older : Bool = nat_lt behind.seq n.start.seq in
        let below : Bool = list_all (λ position. nat_lt position n.start.front) (positions_in i logs (life_of log line) line) in
        let room : Bool = nat_le (live i logs line + i.shape.ws_opt) (line_data (known_image i logs) line) in
        let front_ok : below ≡ true =
        all_hold (λ position. nat_lt position n.start.front) (positions_in i logs (life_of log line) line)
        (all_imply (λ position. position < n.start.front) (λ position. nat_lt position n.start.front ≡ true) (λ position. lt_true position n.start.front)
        (positions_in i logs (life_of log line) line) behind.below_front) in
        let fits : live i logs line + i.shape.ws_opt ≤ line_data (known_image i logs) line =
        subst (λ m. live i logs line + i.shape.ws_opt ≤ m) (sym (some_data line is.inside))
        (omega (arith, is.few, eight_stripes i.shape mount.accepted)) in
        let may : may_be_collected i logs n.start line behind.seq ≡ true =
        and_both (over && older && below) room
        (and_both (over && older) below (and_both over older behind.over (lt_true behind.seq n.start.seq behind.older)) front_ok)
        (le_true (live i logs line + i.shape.ws_opt) (line_data (known_image i logs) line) fits) in
        let c : Candidate = record { line = line; failed = is_failed i logs line; live = live i logs line; seq = behind.seq } in (
          c,
          ap₂ (λ (a : Option StartRecord) (b : Option ℕ). option_and_then (λ x. option_and_then (candidate_of i logs x line) b) a) newest behind.has_seq
              ∙ ap (λ t. if t then Some c else None) may,
          refl,
          refl,
        )

    -- so one is collected next
    light_next : (line : ℕ) → IsLight line → (next : ℕ) × (next_victim i (log_of w) ≡ Some next)
    light_next line is = go (next_victim i logs) refl
      where
        go : (o : Option ℕ) → next_victim i (log_of w) ≡ o → (next : ℕ) × (next_victim i (log_of w) ≡ Some next)
        go (Some next) e = (next, e)
        go None e = let it = light_candidate line is in absurd (none-some it.0 (sym (no_candidate i logs e line is.inside) ∙ it.1))

    -- and that one has no more live sectors, unless it is failed
    pub next_is_light : free_lines i (log_of w) + unreset_lines i (log_of w) ≤ 3 → (next : ℕ) → next_victim i (log_of w) ≡ Some next
        → (is_failed i (log_of w) next ≡ true) ⊎ (4 * live i (log_of w) next ≤ 3 * full_data i.shape)
    next_is_light few next e =
        let light = light_exists few in
        let it = light_candidate light.0 light.1 in
        let chosen : IsNextVictim i logs next = next_victim_is i logs next e in
        let c : Candidate = chosen.chosen in
        let is : IsCandidate i logs next c = candidate_when i logs next c chosen.is_candidate in
        let failed : c.failed ≡ is_failed i logs next = ap (λ (d : Candidate). d.failed) is.is in
        let lives : c.live ≡ live i logs next = ap (λ (d : Candidate). d.live) is.is in
        elim (fewest it.0 c (chosen.none_before light.0 it.0 light.1.inside it.1)) [
          | inl is_failed_one ↦ inl (sym failed ∙ is_failed_one)
          | inr fewer ↦ inr (omega (arith, fewer, lives, it.3, light.1.few))
        ]

-- ---- where no reset is left to be made

module _ (i : Image) (w : World) (lossless : IsLosslessMount i w) (full : OpensWhenFull i (log_of w)) (wide : AreWide (known_image i (log_of w)))
    (reset : AreReset i (log_of w)) (n : Opening) (last : IsLastOpened (log_of w 0) n) where
  -- at most one other line isn't behind
  pub one_not_behind : (line other : ℕ) → line < i.shape.chunks → other < i.shape.chunks → is_free_line i (log_of w) line ≡ false
      → is_free_line i (log_of w) other ≡ false → line ≢ n.line → other ≢ n.line → ¬ IsBehind i (log_of w) n.start line
      → ¬ IsBehind i (log_of w) n.start other → line ≡ other
  one_not_behind = other_not_behind i w lossless full wide n last reset

  -- where collection is due, some line may be collected
  pub victim_exists : newest_start i (log_of w) ≡ Some n.start → is_due i (log_of w) ≡ true → (line : ℕ) × (next_victim i (log_of w) ≡ Some line)
  victim_exists newest due =
      let none : unreset_lines i (log_of w) ≡ 0 = none_unreset i (log_of w) reset in
      let light = light_exists i w lossless full wide n last
      (omega (arith, none, few_free i (log_of w) wide lossless.mount.accepted due)) in
      light_next i w lossless full wide n last newest light.0 light.1

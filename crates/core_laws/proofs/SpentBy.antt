-- A line is spent exactly where it is by what a target keeps, and taking an entry spends none.
use Rattle.std.proofs.Common.{◌≡◌, ◌⊎◌, inl, inr, ℕ, ◌+◌, ◌<◌, ◌≤◌, ◌==◌, ◌&&◌, nat_eq, nat_lt, Bool, true, false, Some, None, Option, List, [], ◌∷◌, ◌++◌, length, take, refl, sym, subst, subst₂, ap, ap₂, ◌∙◌, arith, append-nil, if◌then◌else◌}
use Rattle.std.specs.Prelude.{map, slice_get}
use Rattle.std.specs.List.{AllByRecursion, filter, filter_map, flat_map, last_or, list_all, list_any}
use Rattle.std.specs.Option.{is_some, option_map}
use Rattle.std.proofs.lemmas.Bool.{cases_lt, eqb-true}
use Rattle.std.proofs.lemmas.Option.{same_Some}
use Rattle.pblk_model.specs.declared.chunk.Mark.{Mark}
use Rattle.pblk_model.specs.Chunk.{Chunk}
use Rattle.pblk_model.specs.Contents.{counted, is_of}
use Rattle.pblk_model.specs.Image.{Image}
use Rattle.pblk_model.specs.Records.{Record}
use Rattle.pblk_model.specs.StartRecord.{StartRecord, start_of}
use Rattle.pblk_model.proofs.MarksLemmas.{accepted_small}
use Rattle.pblk_world.specs.EngineLog.{Answer, answer_of, AsFound, Begun, begun, DidLand, Freed, has_landed, holds_position, is_answered, is_as_found, is_land, is_life, is_loss, LineLife, life_of, Opened, Opening, Placed, placements, stripes_of, Taken, takes, WasLost}
use Rattle.pblk_world.specs.Events.{Decides, Entry, Logged, Step, Take}
use Rattle.pblk_world.specs.Fronts.{first_position, has_landed_at, last_take, synced, taken}
use Rattle.pblk_world.specs.Lines.{are_over, chunks_of, found_image, is_over_state, known_image}
use Rattle.pblk_world.specs.Starts.{newest_start, seq_in, seq_of}
use Rattle.pblk_world.specs.Victims.{is_live_in, landed_line, landed_line_of, line_of, line_of_position, position_in, positions_in, take_before, took_from}
use Rattle.pblk_world.specs.World.{World, Logs, log_of}
use Rattle.pblk_world.proofs.EngineLogLemmas.{takes_more}
use Rattle.pblk_world.proofs.SyncedFront.{synced_is, synced_missing, synced_within}
use Rattle.pblk_world.specs.LegalMounts.{IsLegalMount}
use Rattle.world_laws.proofs.Fronts.{synced_from}
use Rattle.world_laws.proofs.Positions.{position_of}
use Rattle.world_laws.proofs.Stripes.{life_of_stripe}
use Rattle.core_laws.specs.ClosedLines.{ClosedLine, IsSpentBy, StartNumbers, closed_with}
use Rattle.core_laws.specs.Spent.{IsSpent}
use Rattle.core_laws.specs.Stepping.{after}
use Rattle.core_laws.proofs.EngineLogs.{logs_after}
use Rattle.core_laws.proofs.KeptRows.{known_kept}
use Rattle.core_laws.proofs.KeptStripes.{lives_kept}
use Rattle.core_laws.proofs.LandedNow.{opened_now}
use Rattle.core_laws.proofs.LandedRows.{landed_of_kept, line_of_kept}
use Rattle.core_laws.proofs.LastTakes.{taken_within, took_below}
use Rattle.core_laws.proofs.LatestStarts.{numbers_of}
use Rattle.core_laws.proofs.NewestStarts.{newest_start_kept}
use Rattle.core_laws.proofs.OverAnswered.{over_answered}
use Rattle.core_laws.proofs.PlacedPositions.{taken_is_unplaced}
use Rattle.core_laws.proofs.Placing.{not_below}
use Rattle.core_laws.proofs.StandingLines.{IsStanding, landed_stands, live_none, none_is_live, stands_in_line}
use Rattle.core_laws.proofs.Steady.{AreAlike}
use Rattle.core_laws.proofs.SteppingLemmas.{found_kept}
use Rattle.core_laws.proofs.TakenNumbers.{first_stays}
use Rattle.core_laws.proofs.TakenRows.{all_below}
use Rattle.core_laws.proofs.TakenSlots.{any_same, landed_same}
use Rattle.core_laws.proofs.Taking.{alike, filter_last}
use Rattle.core_laws.proofs.TopPositions.{all_below_top, top_within}
use Rattle.core_laws.proofs.UsersEntries.{AreInOrder, in_order}
use Rattle.pblk_model.proofs.Lists.{IsAmong, all_imply, among_contained}
use Rattle.pblk_model.proofs.Maps.{any_fail, filter_agree, in_filter}
use Rattle.pblk_model.proofs.Parts.{all_at, before_last, contained_among, get_last}
use Rattle.pblk_model.proofs.Tests.{and_both, and_false, and_true, lt_true, not_both, same, same_number}

-- ---- by what a target keeps

pub spent_by : (i : Image) (logs : Logs) (line : ℕ) → IsSpent i logs line → IsSpentBy i logs line
spent_by i logs line spent = record {
  in_range = spent.in_range;
  closed = closed_with i logs line spent.seq;
  is_closed = ap₂ (λ b o. if b then option_map (closed_with i logs line) o else None) spent.over spent.has_seq;
  newest = numbers_of spent.newest;
  is_newest = ap (option_map numbers_of) spent.is_newest;
  older = spent.older;
  below_front = top_within spent.newest.front (positions_in i logs (life_of (logs 0) line) line) spent.below_front;
  none_live = spent.none_live;
  takers_synced = spent.takers_synced;
}

pub is_spent : (i : Image) (logs : Logs) (line : ℕ) → IsSpentBy i logs line → IsSpent i logs line
is_spent i logs line by = go (are_over i logs line) (seq_of i logs line) (newest_start i logs) refl refl refl by.is_closed by.is_newest
  where
    go : (over : Bool) (seq : Option ℕ) (newest : Option StartRecord) → are_over i logs line ≡ over → seq_of i logs line ≡ seq → newest_start i logs ≡ newest
        → (if over then option_map (closed_with i logs line) seq else None) ≡ Some by.closed → option_map numbers_of newest ≡ Some by.newest
        → IsSpent i logs line
    go false seq newest is_over has_seq is_newest closed numbers = absurd cc
    go true None newest is_over has_seq is_newest closed numbers = absurd cc
    go true (Some seq) None is_over has_seq is_newest closed numbers = absurd cc
    go true (Some seq) (Some start) is_over has_seq is_newest closed numbers =
        let its : closed_with i logs line seq ≡ by.closed = same_Some (closed_with i logs line seq) by.closed closed in
        let of : numbers_of start ≡ by.newest = same_Some (numbers_of start) by.newest numbers in
        record {
          in_range = by.in_range;
          over = is_over;
          seq = seq;
          has_seq = has_seq;
          newest = start;
          is_newest = is_newest;
          older = subst₂ (λ m n. m < n) (sym (ap (λ (c : ClosedLine). c.seq) its)) (sym (ap (λ (n : StartNumbers). n.seq) of)) by.older;
          below_front = all_below_top start.front (positions_in i logs (life_of (logs 0) line) line)
              (subst₂ (λ m n. m ≤ n) (sym (ap (λ (c : ClosedLine). c.top) its)) (sym (ap (λ (n : StartNumbers). n.front) of)) by.below_front);
          none_live = by.none_live;
          takers_synced = by.takers_synced;
        }

-- ---- an entry is taken

-- what stands in a line that is over has landed
landed_there : (i : Image) (w : World) (mount : IsLegalMount i w) (line position : ℕ) (p : Placed) → are_over i (log_of w) line ≡ true
    → IsStanding i w mount position p → p.stripe.line ≡ line → has_landed (log_of w 0) p ≡ true
landed_there i w mount line position p over stands in_line = go (answer_of (log_of w 0) p) answered stands.kept
  where
    life : (o : Opening) × (p.life ≡ Opened o) × (life_of (take p.number (log_of w 0)) p.stripe.line ≡ Opened o)
    life = life_of_stripe i w p mount.legal stands.there

    is_open : life_of (log_of w 0) line ≡ Opened life.0
    is_open = ap (life_of (log_of w 0)) (sym in_line) ∙ stands.stands ∙ life.1

    its : life.0.line ≡ line
    its = (opened_now i w mount line life.0 is_open).1

    answered : is_answered (log_of w 0) p ≡ true
    answered = over_answered i w mount life.0 (ap (life_of (log_of w 0)) its ∙ is_open) (ap (are_over i (log_of w)) its ∙ over) p
        (contained_among (stripes_of (log_of w 0) life.0) p
        (in_filter (λ (q : Placed). is_life life.0.number q.life) (placements (log_of w 0)) p
        (among_contained (placements (log_of w 0)) p stands.there) (ap (is_life life.0.number) life.1 ∙ same_number life.0.number)))

    go : (a : Option Answer) → is_some a ≡ true → is_loss a ≡ false → is_land a ≡ true
    go None some kept = absurd cc
    go (Some (DidLand n)) some kept = refl
    go (Some (WasLost n)) some kept = absurd cc

-- what is live in it has landed in it
live_landed : (i : Image) (w : World) (mount : IsLegalMount i w) (line lba : ℕ) → are_over i (log_of w) line ≡ true → is_live_in i (log_of w) line lba ≡ true
    → is_of line (landed_line_of i (log_of w) lba (last_take (log_of w 0) lba)) ≡ true
live_landed i w mount line lba over is_live = go (last_take (log_of w 0) lba) is_live
  where
    by : (t : Taken) (o : Option ℕ) → line_of_position i.shape (log_of w 0) t.entry.position ≡ o → is_of line o ≡ true
        → is_of line (landed_line i.shape (log_of w 0) t.entry.position) ≡ true
    by t None e f = absurd cc
    by t (Some other) e f =
        let p = stands_in_line i w mount t.entry.position other e in
        let in_line : p.0.stripe.line ≡ line = p.2 ∙ same other line f in
        ap (is_of line) (landed_stands i w mount t.entry.position p.0 p.1 (landed_there i w mount line t.entry.position p.0 over p.1 in_line)
        ∙ ap (λ n. Some n) in_line)
        ∙ same_number line

    go : (t : Option Taken) → is_of line (line_of i (log_of w) lba t) ≡ true → is_of line (landed_line_of i (log_of w) lba t) ≡ true
    go None e = e
    go (Some t) e = by t (line_of_position i.shape (log_of w 0) t.entry.position) refl e

module _ (i : Image) (w : World) (mount : IsLegalMount i w) (b : Begun) (begins : begun (log_of w 0) ≡ Some b) (entry : Entry) (mark : Mark) (knows : List ℕ)
    (next : entry.position ≡ taken (log_of w 0)) where
  abbrev log : List Logged
  log = log_of w 0

  abbrev new : Logs
  new = after (log_of w) (Take entry mark) knows

  abbrev it : Taken
  it = record { entry = entry; mark = mark }

  order : AreInOrder i.shape (log_of w 0)
  order = in_order i w (accepted_small i.shape mount.accepted) mount.legal

  takes_now : takes (after (log_of w) (Take entry mark) knows 0) ≡ takes (log_of w 0) ++ record { entry = entry; mark = mark } ∷ []
  takes_now = takes_more log (record { event = Decides (Take entry mark); knows = knows })

  -- ---- the front synced

  landed_at_kept : (q : ℕ) → has_landed_at i.shape (after (log_of w) (Take entry mark) knows 0) q ≡ has_landed_at i.shape (log_of w 0) q
  landed_at_kept q =
      let same : AreAlike log (new 0) = alike log entry mark knows in
      ap (list_any (λ (p : Placed). has_landed (new 0) p && holds_position i.shape q p)) same.placements
      ∙ any_same (λ (p : Placed). has_landed (new 0) p && holds_position i.shape q p) (λ (p : Placed). has_landed log p && holds_position i.shape q p)
      (λ p. ap (λ b. b && holds_position i.shape q p) (landed_same log (new 0) same p)) (placements log)

  none_at_next : has_landed_at i.shape (log_of w 0) (taken (log_of w 0)) ≡ false
  none_at_next = any_fail (λ (p : Placed). has_landed log p && holds_position i.shape (taken log) p) (placements log)
      (all_imply (λ (p : Placed). holds_position i.shape (taken log) p ≡ false)
      (λ (p : Placed). (has_landed log p && holds_position i.shape (taken log) p) ≡ false)
      (λ p none. and_false (has_landed log p) (holds_position i.shape (taken log) p) none) (placements log) (taken_is_unplaced i.shape log order.taken))

  no_further : synced i.shape (after (log_of w) (Take entry mark) knows 0) ≤ synced i.shape (log_of w 0)
  no_further = go (cases_lt (synced i.shape log) (synced i.shape (new 0)))
    where
      within : synced i.shape (log_of w 0) ≤ taken (log_of w 0)
      within = synced_within i.shape log

      go : (synced i.shape (log_of w 0) < synced i.shape (after (log_of w) (Take entry mark) knows 0))
          ⊎ (synced i.shape (after (log_of w) (Take entry mark) knows 0) ≤ synced i.shape (log_of w 0))
          → synced i.shape (after (log_of w) (Take entry mark) knows 0) ≤ synced i.shape (log_of w 0)
      go (inr few) = few
      go (inl less) =
          let first : first_position (new 0) ≡ first_position log = first_stays log (record { event = Decides (Take entry mark); knows = knows }) b begins in
          let from : first_position log ≤ synced i.shape log = synced_from i.shape log in
          let landed : has_landed_at i.shape log (synced i.shape log) ≡ true =
          sym (landed_at_kept (synced i.shape log)) ∙ synced_is i.shape (new 0) (synced i.shape log) (omega arith) less in
          by landed (cases_lt (synced i.shape log) (taken log))
        where
          by : has_landed_at i.shape (log_of w 0) (synced i.shape (log_of w 0)) ≡ true
              → (synced i.shape (log_of w 0) < taken (log_of w 0)) ⊎ (taken (log_of w 0) ≤ synced i.shape (log_of w 0))
              → synced i.shape (after (log_of w) (Take entry mark) knows 0) ≤ synced i.shape (log_of w 0)
          by landed (inl below) = absurd (not_both (has_landed_at i.shape log (synced i.shape log)) landed (synced_missing i.shape log below))
          by landed (inr above) =
              let end : synced i.shape log ≡ taken log = omega (arith, within) in
              absurd (not_both (has_landed_at i.shape log (synced i.shape log)) landed (ap (has_landed_at i.shape log) end ∙ none_at_next))

  -- ---- entries of a sector

  last_beside : (test : Taken → Bool) → test (record { entry = entry; mark = mark }) ≡ false
      → last_or None (filter test (takes (after (log_of w) (Take entry mark) knows 0))) ≡ last_or None (filter test (takes (log_of w 0)))
  last_beside test fails = ap (λ ts. last_or None (filter test ts)) takes_now
      ∙ ap (last_or None) (filter_last test (takes log) it false fails ∙ append-nil (filter test (takes log)))

  -- one of another sector changes nothing
  live_beside : (line lba : ℕ) → (mark.lba == lba) ≡ false
      → is_live_in i (after (log_of w) (Take entry mark) knows) line lba ≡ is_live_in i (log_of w) line lba
  live_beside line lba apart =
      ap (λ t. is_of line (line_of i new lba t)) (last_beside (λ t. t.mark.lba == lba) apart)
      ∙ ap (is_of line) (line_of_kept i (log_of w) (Take entry mark) knows refl refl lba (last_take log lba))

  took_before : (line : ℕ) (t : Taken) → t.entry.position < entry.position
      → took_from i (after (log_of w) (Take entry mark) knows) line t ≡ took_from i (log_of w) line t
  took_before line t earlier = ap (λ b. nat_lt t.mark.lba i.shape.capacity && b)
      (ap (λ u. is_of line (landed_line_of i new t.mark.lba u))
      (last_beside (λ u. (u.mark.lba == t.mark.lba) && nat_lt u.entry.position t.entry.position)
      (and_false (mark.lba == t.mark.lba) (nat_lt entry.position t.entry.position) (not_below t.entry.position entry.position (omega arith))))
      ∙ ap (is_of line) (landed_of_kept i (log_of w) (Take entry mark) knows refl refl (λ unit. refl) t.mark.lba (take_before log t)))

  took_now : (line : ℕ) → mark.lba < i.shape.capacity → is_of line (landed_line_of i (log_of w) mark.lba (last_take (log_of w 0) mark.lba)) ≡ true
      → took_from i (after (log_of w) (Take entry mark) knows) line (record { entry = entry; mark = mark }) ≡ true
  took_now line small landed =
      and_both (nat_lt mark.lba i.shape.capacity) (is_of line (landed_line_of i new mark.lba (take_before (new 0) it)))
      (lt_true mark.lba i.shape.capacity small)
      (ap (λ u. is_of line (landed_line_of i new mark.lba u)) same
      ∙ ap (is_of line) (landed_of_kept i (log_of w) (Take entry mark) knows refl refl (λ unit. refl) mark.lba (last_take log mark.lba)) ∙ landed)
    where
      earlier : AllByRecursion (λ (t : Taken). t.entry.position < taken (log_of w 0)) (takes (log_of w 0))
      earlier = all_below log order.numbered

      same : take_before (after (log_of w) (Take entry mark) knows 0) (record { entry = entry; mark = mark }) ≡ last_take (log_of w 0) mark.lba
      same =
          last_beside (λ u. (u.mark.lba == mark.lba) && nat_lt u.entry.position entry.position)
          (and_false (mark.lba == mark.lba) (nat_lt entry.position entry.position) (not_below entry.position entry.position (omega arith)))
          ∙ ap (last_or None) (filter_agree (λ (u : Taken). u.entry.position < taken log)
          (λ (u : Taken). (u.mark.lba == mark.lba) && nat_lt u.entry.position entry.position) (λ (u : Taken). u.mark.lba == mark.lba)
          (λ u below. and_true (u.mark.lba == mark.lba) (nat_lt u.entry.position entry.position) (lt_true u.entry.position entry.position (omega arith)))
          (takes log) earlier)

  -- ---- the line

  module _ (line : ℕ) (spent : IsSpent i (after (log_of w) (Take entry mark) knows) line)
      (below : (t : Taken) → IsAmong (takes (after (log_of w) (Take entry mark) knows 0)) t
      → took_from i (after (log_of w) (Take entry mark) knows) line t ≡ true
      → t.entry.position < synced i.shape (after (log_of w) (Take entry mark) knows 0))
      (none : (lba : ℕ) → lba < i.shape.capacity → is_live_in i (after (log_of w) (Take entry mark) knows) line lba ≡ false) where
    lives : life_of (after (log_of w) (Take entry mark) knows 0) line ≡ life_of (log_of w 0) line
    lives = lives_kept log (Take entry mark) knows line refl

    found : found_image i (after (log_of w) (Take entry mark) knows) ≡ found_image i (log_of w)
    found = found_kept i (log_of w) (Take entry mark) knows refl

    known : known_image i (after (log_of w) (Take entry mark) knows) ≡ known_image i (log_of w)
    known = known_kept i (log_of w) (Take entry mark) knows refl (λ unit. refl)

    over : are_over i (log_of w) line ≡ true
    over = sym (ap₂ (λ (j : Image) (life : LineLife). list_all (λ (c : Chunk). is_over_state (is_as_found life) c.state) (chunks_of j line)) known lives)
        ∙ spent.over

    seq_kept : (life : LineLife) → seq_in i (after (log_of w) (Take entry mark) knows) life line ≡ seq_in i (log_of w) life line
    seq_kept AsFound = ap (λ (j : Image). option_map (λ (start : StartRecord). start.seq) (start_of j line)) found
    seq_kept (Opened o) = refl
    seq_kept (Freed was k) = refl

    positions_kept : (life : LineLife) → positions_in i (after (log_of w) (Take entry mark) knows) life line ≡ positions_in i (log_of w) life line
    positions_kept AsFound = ap (λ (j : Image). map (λ (r : Record). r.position) (filter (λ (r : Record). r.line == line) (counted j))) found
    positions_kept (Opened o) = ap (λ (j : Image). filter_map (position_in i.shape) (flat_map (λ (c : Chunk). c.blocks) (chunks_of j line))) known
    positions_kept (Freed was k) = refl

    -- the entry took nothing from it
    not_taken : took_from i (after (log_of w) (Take entry mark) knows) line (record { entry = entry; mark = mark }) ≡ true → ⊥
    not_taken took =
        let there : IsAmong (takes (new 0)) it = (length (takes log), ap (λ ts. slice_get ts (length (takes log))) takes_now ∙ get_last (takes log) it) in
        let under : entry.position < synced i.shape (new 0) = below it there took in
        let few : synced i.shape (new 0) ≤ synced i.shape log = no_further in
        let within : synced i.shape log ≤ taken log = synced_within i.shape log in
        omega arith

    not_live : (lba : ℕ) → lba < i.shape.capacity → is_live_in i (log_of w) line lba ≡ false
    not_live lba small = by_sector (nat_eq mark.lba lba) refl
      where
        was : mark.lba ≡ lba → (c : Bool) → is_live_in i (log_of w) line lba ≡ c → is_live_in i (log_of w) line lba ≡ false
        was its false e = e
        was its true e = absurd (not_taken (took_now line (subst (λ n. n < i.shape.capacity) (sym its) small)
            (live_landed i w mount line mark.lba over (ap (is_live_in i (log_of w) line) its ∙ e))))

        by_sector : (c : Bool) → nat_eq mark.lba lba ≡ c → is_live_in i (log_of w) line lba ≡ false
        by_sector true e = was (eqb-true mark.lba lba e) (is_live_in i (log_of w) line lba) refl
        by_sector false e = sym (live_beside line lba e) ∙ none lba small

    taker_below : (t : Taken) → IsAmong (takes (log_of w 0)) t → took_from i (log_of w) line t ≡ true → t.entry.position < synced i.shape (log_of w 0)
    taker_below t at took =
        let earlier : t.entry.position < taken log =
        all_at (λ (u : Taken). u.entry.position < taken log) (takes log) at.0 t at.1 (all_below log order.numbered) in
        let later : IsAmong (takes (new 0)) t = subst (λ ts. IsAmong ts t) (sym takes_now) (before_last (takes log) it t at) in
        let under : t.entry.position < synced i.shape (new 0) = below t later (took_before line t (omega arith) ∙ took) in
        let few : synced i.shape (new 0) ≤ synced i.shape log = no_further in
        omega arith

    was_spent : IsSpent i (log_of w) line
    was_spent = record {
      in_range = spent.in_range;
      over = over;
      seq = spent.seq;
      has_seq = sym (ap (λ life. seq_in i new life line) lives ∙ seq_kept (life_of log line)) ∙ spent.has_seq;
      newest = spent.newest;
      is_newest = sym (newest_start_kept i (log_of w) b (Take entry mark) knows mount.accepted begins refl) ∙ spent.is_newest;
      older = spent.older;
      below_front = subst (AllByRecursion (λ position. position < spent.newest.front))
          (ap (λ life. positions_in i new life line) lives ∙ positions_kept (life_of log line)) spent.below_front;
      none_live = live_none i w line not_live;
      takers_synced = taken_within i w mount.legal line (synced i.shape log) taker_below;
    }

-- What an entry takes from a line it takes at a position above the front synced.
pub taking_spends_none : (i : Image) (w : World) (b : Begun) (s : Step) (entry : Entry) (mark : Mark) (line : ℕ) → IsLegalMount i w → IsLegalMount i (s ∷ w)
    → begun (log_of w 0) ≡ Some b → s.author ≡ 0 → s.logged.event ≡ Decides (Take entry mark)
    → IsSpent i (log_of (s ∷ w)) line → IsSpent i (log_of w) line
taking_spends_none i w b s entry mark line before mount begins own is spent =
    let it : Taken = record { entry = entry; mark = mark } in
    let old : List Logged = log_of w 0 in
    let more : takes (log_of (s ∷ w) 0) ≡ takes (log_of w 0) ++ it ∷ [] =
    ap (λ (ls : Logs). takes (ls 0)) same ∙ takes_more old (record { event = Decides (Take entry mark); knows = s.logged.knows }) in
    let at : slice_get (takes (log_of (s ∷ w) 0)) (length (takes old)) ≡ Some it =
    ap (λ ts. slice_get ts (length (takes old))) more ∙ get_last (takes old) it in
    let next : entry.position ≡ taken old =
    position_of i (s ∷ w) (length (takes old)) it mount.legal at
    ∙ ap (λ n. n + length (takes old)) (ap (λ (ls : Logs). first_position (ls 0)) same
    ∙ first_stays old (record { event = Decides (Take entry mark); knows = s.logged.knows }) b begins) in
    was_spent i w before b begins entry mark s.logged.knows next line (subst (λ ls. IsSpent i ls line) same spent)
    (subst (λ (ls : Logs). (t : Taken) → IsAmong (takes (ls 0)) t → took_from i ls line t ≡ true → t.entry.position < synced i.shape (ls 0)) same
    (λ t there took. took_below i (s ∷ w) mount.legal line (synced i.shape (log_of (s ∷ w) 0)) t spent.takers_synced there took))
    (subst (λ (ls : Logs). (lba : ℕ) → lba < i.shape.capacity → is_live_in i ls line lba ≡ false) same
    (λ lba small. none_is_live i (s ∷ w) line lba spent.none_live small))
  where
    same : log_of (s ∷ w) ≡ after (log_of w) (Take entry mark) s.logged.knows
    same = logs_after s w (Take entry mark) own is

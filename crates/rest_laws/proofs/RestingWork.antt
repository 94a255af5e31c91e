-- At rest nothing that waits is below the pad target, as long as a data address is left.
use Rattle.std.proofs.Common.{◌≡◌, ◌⊎◌, inl, inr, ℕ, ◌+◌, ◌-◌, ◌<◌, ◌≤◌, ◌&&◌, nat_le, nat_lt, not, zero, suc, max, Bool, true, false, Some, List, [], ◌∷◌, length, refl, sym, subst, ap, ◌∙◌, arith, if◌then◌else◌}
use Rattle.std.specs.Prelude.{slice_get, sum_by}
use Rattle.std.specs.List.{Contains, filter, list_any, range_with_len}
use Rattle.std.proofs.lemmas.Bool.{cases_lt, cases_order}
use Rattle.pblk_model.specs.declared.shape.Shape.{Shape}
use Rattle.pblk_model.specs.Image.{Image, width}
use Rattle.pblk_model.specs.LineOrder.{start_len}
use Rattle.pblk_model.specs.StartRecord.{StartRecord}
use Rattle.pblk_world.specs.AtRest.{IsUrgent, pad_target}
use Rattle.pblk_world.specs.EngineLog.{AsFound, Freed, has_failed, has_landed, holds_position, is_opened, life_of, LineLife, Opened, Opening, openings, Placed, placements, Taken, takes, was_lost}
use Rattle.pblk_world.specs.Events.{Logged}
use Rattle.pblk_world.specs.Fronts.{first_position, has_landed_at, synced, taken, waiting, was_placed}
use Rattle.pblk_world.specs.Lines.{are_empty, are_over, has_number, has_stripe_left, is_free_line, known_image, line_data}
use Rattle.pblk_world.specs.Opening.{MayOpen}
use Rattle.pblk_world.specs.Placing.{IsData, data_blocks, end_address, next_address}
use Rattle.pblk_world.specs.Space.{addresses, free_addresses, open_addresses, placed_front, unplaced_in}
use Rattle.pblk_world.specs.Starts.{has_landed_start, older_rows}
use Rattle.pblk_world.specs.World.{World, log_of}
use Rattle.pblk_world.proofs.SyncedFront.{synced_missing}
use Rattle.pblk_model.proofs.Lists.{among_contained, contains_none}
use Rattle.pblk_model.proofs.Maps.{any_member, sum_more as sum_next}
use Rattle.pblk_model.proofs.Parts.{contained_among, get_below, get_dropped, got_within}
use Rattle.pblk_model.proofs.Tests.{and_both, both, le_true, lt_true, not_both, not_true, positive}
use Rattle.world_laws.proofs.Fronts.{synced_from}
use Rattle.world_laws.proofs.NextPrograms.{landed_of_answered}
use Rattle.world_laws.proofs.Positions.{position_of}
use Rattle.world_laws.proofs.Stripes.{one_opening}
use Rattle.core_laws.proofs.LosslessMounts.{IsLosslessMount}
use Rattle.core_laws.proofs.Distinct.{passing}
use Rattle.core_laws.proofs.LandedNow.{opened_now}
use Rattle.core_laws.proofs.PlacedInOrder.{IsOrdered, count_is, ordered, some_hold_below, waiting_are_last}
use Rattle.rest_laws.specs.NewestOpened.{IsLastOpened}
use Rattle.rest_laws.specs.RestingMounts.{IsStillMount}
use Rattle.rest_laws.specs.RoomSteps.{free_data}
use Rattle.rest_laws.proofs.LastStarts.{start_landed}
use Rattle.rest_laws.proofs.NextPlaces.{stripe_with}
use Rattle.rest_laws.proofs.OnlyLastOpen.{others_over}
use Rattle.core_laws.proofs.LaterLines.{none_in_sum}
use Rattle.core_laws.proofs.PlainLogs.{never_lost}
use Rattle.rest_laws.proofs.SomeOpened.{last_of_some}

-- the first part of a sum that isn't 0
pub record IsFirstIn (f : ℕ → ℕ) (n : ℕ) : Type 0 where
  pub at : ℕ
  pub below : at < n
  pub some : 0 < f at
  pub first : (j : ℕ) → j < at → f j ≡ 0

pub first_in_sum : (f : ℕ → ℕ) (n : ℕ) → 0 < sum_by f (range_with_len 0 n) → IsFirstIn f n
first_in_sum f zero some = absurd (omega arith)
first_in_sum f (suc n) some = go (cases_lt 0 (sum_by f (range_with_len 0 n))) (λ more. first_in_sum f n more)
  where
    next : sum_by f (range_with_len 0 (suc n)) ≡ sum_by f (range_with_len 0 n) + f n
    next = let same : suc n ≡ n + 1 = omega arith in ap (λ k. sum_by f (range_with_len 0 k)) same ∙ sum_next f n

    go : (0 < sum_by f (range_with_len 0 n)) ⊎ (sum_by f (range_with_len 0 n) ≤ 0) → (0 < sum_by f (range_with_len 0 n) → IsFirstIn f n)
        → IsFirstIn f (suc n)
    go (inl more) before = let is : IsFirstIn f n = before more in let low : is.at < n = is.below in
        record { at = is.at; below = omega arith; some = is.some; first = is.first }
    go (inr none) before = record {
      at = n;
      below = omega arith;
      some = omega (arith, some, next, none);
      first = λ j low. none_in_sum f n (omega (arith, none)) j low;
    }

module _ (i : Image) (w : World) (asked : ℕ) (r : IsStillMount i w asked) where
  abbrev log : List Logged
  log = log_of w 0

  abbrev s : Shape
  s = i.shape

  lossless : IsLosslessMount i w
  lossless = record { mount = r.mount; none_lost = r.none_lost }

  target : ℕ
  target = pad_target i (log_of w) asked

  not_lost : (p : Placed) → was_lost (log_of w 0) p ≡ false
  not_lost p = never_lost log r.none_lost p

  -- ---- lines

  pub begun_line : (o : Opening) → life_of (log_of w 0) o.line ≡ Opened o → has_landed_start i.shape (log_of w 0) o ≡ true
  begun_line o is_open = start_landed i w lossless o is_open r.stripes (λ stripe its start.
      r.no_program stripe (record { opening = o; is_open = ap (life_of log) its ∙ is_open; kind = inl start }))

  -- a stripe of data could be placed in a line with an address left
  none_in_open : IsUrgent i.shape (log_of w 0) (pad_target i (log_of w) asked) → 0 < length (waiting i.shape (log_of w 0))
      → 0 < open_addresses i (log_of w) → ⊥
  none_in_open urgent waits some =
      let at : IsFirstIn (λ line. unplaced_in s log (life_of log line)) i.shape.chunks =
      first_in_sum (λ line. unplaced_in s log (life_of log line)) i.shape.chunks some in
      by at.at (life_of log at.at) refl at.some
    where
      by : (line : ℕ) (life : LineLife) → life_of (log_of w 0) line ≡ life → 0 < unplaced_in i.shape (log_of w 0) life → ⊥
      by line AsFound is more = absurd (omega arith)
      by line (Freed was knows) is more = absurd (omega arith)
      by line (Opened o) is more = go (has_failed log o) more
        where
          is_open : life_of (log_of w 0) o.line ≡ Opened o
          is_open = ap (life_of log) (opened_now i w r.mount line o is).1 ∙ is

          go : (t : Bool) → 0 < (if t then 0 else end_address i.shape o - max (start_len i.shape) (next_address i.shape (log_of w 0) o)) → ⊥
          go true none = absurd (omega arith)
          go false left =
              let stripe = stripe_with i w lossless o is_open (data_blocks s log) in
              let is_data : IsData i (log_of w) o stripe.0 = record {
                next = stripe.2;
                within = below (start_len s) (next_address s log o) (end_address s o) left;
                start_landed = begun_line o is_open;
                has_entry = waits;
                blocks = stripe.3;
              } in
              r.no_program stripe.0
              (record { opening = o; is_open = ap (life_of log) stripe.1 ∙ is_open; kind = inr (inr (inr (is_data, urgent))) })
            where
              below : (a n e : ℕ) → 0 < e - max a n → n < e
              below a n e x = omega arith

  -- ---- a line could be opened

  -- only the line that was opened last has a stripe left
  one_left : (m n : ℕ) → m < i.shape.chunks → n < i.shape.chunks → has_stripe_left i (log_of w) m ≡ true → has_stripe_left i (log_of w) n ≡ true → m ≡ n
  one_left m n m_in n_in m_left n_left = go (openings log) refl
    where
      -- such a line is that one
      is_last : (last : Opening) → IsLastOpened (log_of w 0) last → (line : ℕ) → has_stripe_left i (log_of w) line ≡ true → line ≡ last.line
      is_last last last_is line left = by (life_of log line) refl (both (is_opened (life_of log line)) (not (are_over i (log_of w) line)) left).0
        where
          by : (life : LineLife) → life_of (log_of w 0) line ≡ life → is_opened (life_of (log_of w 0) line) ≡ true → line ≡ last.line
          by AsFound is opened = absurd (not_both (is_opened (life_of log line)) opened (ap is_opened is))
          by (Freed was knows) is opened = absurd (not_both (is_opened (life_of log line)) opened (ap is_opened is))
          by (Opened o) is opened = order (cases_order o.number last.number)
            where
              now : Contains (openings (log_of w 0)) o × (o.line ≡ line)
              now = let x = opened_now i w r.mount line o is in (x.0, x.1)

              order : (o.number ≡ last.number) ⊎ ((o.number < last.number) ⊎ (last.number < o.number)) → line ≡ last.line
              order (inl same) = sym now.1 ∙ ap (λ (x : Opening). x.line) (one_opening log o last now.0 last_is.opened same)
              order (inr (inr after)) = let few : o.number ≤ last.number = last_is.last o now.0 in absurd (omega arith)
              order (inr (inl before)) =
                  let is_open : life_of log o.line ≡ Opened o = ap (life_of log) now.1 ∙ is in
                  let over : are_over i (log_of w) o.line ≡ true =
                  others_over i w lossless r.full last last_is.opened o before is_open r.stripes (λ stripe its end.
                  r.no_program stripe (record { opening = o; is_open = ap (life_of log) its ∙ is_open; kind = inr (inl end) })) in
                  absurd (not_both (are_over i (log_of w) line) (ap (are_over i (log_of w)) (sym now.1) ∙ over)
                  (not_true (are_over i (log_of w) line) (both (is_opened (life_of log line)) (not (are_over i (log_of w) line)) left).1))

      none_opened : openings (log_of w 0) ≡ [] → (line : ℕ) → has_stripe_left i (log_of w) line ≡ true → ⊥
      none_opened none line left = by (life_of log line) refl (both (is_opened (life_of log line)) (not (are_over i (log_of w) line)) left).0
        where
          by : (life : LineLife) → life_of (log_of w 0) line ≡ life → is_opened (life_of (log_of w 0) line) ≡ true → ⊥
          by AsFound is opened = not_both (is_opened (life_of log line)) opened (ap is_opened is)
          by (Freed was knows) is opened = not_both (is_opened (life_of log line)) opened (ap is_opened is)
          by (Opened o) is opened = contains_none o (subst (λ (os : List Opening). Contains os o) none (opened_now i w r.mount line o is).0)

      go : (os : List Opening) → openings (log_of w 0) ≡ os → m ≡ n
      go [] e = absurd (none_opened e m m_left)
      go (o ∷ os) e =
          let last = last_of_some log (length os) (ap (λ (xs : List Opening). length xs) e) in
          is_last last.0 last.1 m m_left ∙ sym (is_last last.0 last.1 n n_left)

  none_to_open : 0 < length (waiting i.shape (log_of w 0)) → open_addresses i (log_of w) ≡ 0 → 0 < free_addresses i (log_of w) → ⊥
  none_to_open waits none some = r.no_opening r.beginning line start r.begins waits none may
    where
      first : IsFirstIn (free_data i (log_of w)) i.shape.chunks
      first = first_in_sum (free_data i (log_of w)) i.shape.chunks some

      line : ℕ
      line = first.at

      is_free : is_free_line i (log_of w) (first_in_sum (free_data i (log_of w)) i.shape.chunks some).at ≡ true
      is_free = by (is_free_line i (log_of w) line) refl first.some
        where
          by : (t : Bool) → is_free_line i (log_of w) line ≡ t → 0 < free_data i (log_of w) line → is_free_line i (log_of w) line ≡ true
          by true e more = e
          by false e more =
              let zero_data : free_data i (log_of w) line ≡ 0 = ap (λ t. if t then line_data (known_image i (log_of w)) line else 0) e in
              absurd (omega arith)

      others : (other : ℕ) → other < (first_in_sum (free_data i (log_of w)) i.shape.chunks some).at → is_free_line i (log_of w) other ≡ false
      others other low = by (is_free_line i (log_of w) other) refl
        where
          by : (t : Bool) → is_free_line i (log_of w) other ≡ t → is_free_line i (log_of w) other ≡ false
          by false e = e
          by true e =
              let parts = both (not (has_number i (log_of w) (life_of log other) other) && are_empty (known_image i (log_of w)) other)
              (nat_lt 0 (line_data (known_image i (log_of w)) other)) e in
              let more : 0 < line_data (known_image i (log_of w)) other = positive (line_data (known_image i (log_of w)) other) parts.1 in
              let its_data : free_data i (log_of w) other ≡ line_data (known_image i (log_of w)) other =
              ap (λ t. if t then line_data (known_image i (log_of w)) other else 0) e in
              let zero_data : free_data i (log_of w) other ≡ 0 = first.first other low in
              absurd (omega arith)

      start : StartRecord
      start = record {
        line = first.at;
        width = width (known_image i (log_of w)) first.at;
        seq = r.beginning.beginning.seq + length (openings (log_of w 0));
        first_seq = r.beginning.beginning.seq;
        front = synced i.shape (log_of w 0);
        capacity = i.shape.capacity;
        rows = older_rows i (log_of w);
      }

      may : MayOpen i (log_of w) r.beginning line start
      may = record {
        in_range = first.below;
        is_free = is_free;
        is_first = others;
        one_other = one_left;
        own_line = refl;
        own_width = refl;
        own_capacity = refl;
        seq = refl;
        first_seq = refl;
        front = refl;
        rows = refl;
        seq_number = r.seq_number;
        front_number = r.front_number;
      }

  -- ---- what waits

  pub none_urgent : 0 < addresses i (log_of w) → ¬ IsUrgent i.shape (log_of w 0) (pad_target i (log_of w) asked)
  none_urgent some urgent = by_open (cases_lt 0 (open_addresses i (log_of w)))
    where
      waits : IsUrgent i.shape (log_of w 0) (pad_target i (log_of w) asked) → 0 < length (waiting i.shape (log_of w 0))
      waits (inl long) = let one : 0 < s.ws_opt = r.mount.accepted.drive.ws_opt in omega arith
      waits (inr (t, there, below)) =
          let at = among_contained (waiting s log) t there in
          let low : at.0 < length (waiting s log) = get_below (waiting s log) at.0 t at.1 in
          omega arith

      by_open : (0 < open_addresses i (log_of w)) ⊎ (open_addresses i (log_of w) ≤ 0) → ⊥
      by_open (inl more) = none_in_open urgent (waits urgent) more
      by_open (inr none) =
          none_to_open (waits urgent) (no_more (open_addresses i (log_of w)) none)
          (rest (open_addresses i (log_of w)) (free_addresses i (log_of w)) some none)
        where
          no_more : (a : ℕ) → a ≤ 0 → a ≡ 0
          no_more a x = omega arith

          rest : (a b : ℕ) → 0 < a + b → a ≤ 0 → 0 < b
          rest a b x y = omega arith

  -- what was taken and is below the pad target has landed
  pub target_synced : (position : ℕ) → 0 < addresses i (log_of w) → position ≤ pad_target i (log_of w) asked → position ≤ taken (log_of w 0)
      → position ≤ synced i.shape (log_of w 0)
  target_synced position some low within = go (cases_lt (synced s log) position)
    where
      order : IsOrdered i.shape (log_of w 0)
      order = ordered i w lossless.mount

      m : ℕ
      m = synced i.shape (log_of w 0)

      -- one that was placed has landed
      not_placed : has_landed_at i.shape (log_of w 0) (synced i.shape (log_of w 0)) ≡ false → first_position (log_of w 0) ≤ synced i.shape (log_of w 0)
          → synced i.shape (log_of w 0) < placed_front i.shape (log_of w 0) → ⊥
      not_placed missing from more =
          let also : list_any (holds_position s (synced s log)) (placements log) ≡ true =
          some_hold_below s log order (synced s log)
          ∙ and_both (nat_le (first_position log) (synced s log)) (nat_lt (synced s log) (placed_front s log))
          (le_true (first_position log) (synced s log) from) (lt_true (synced s log) (placed_front s log) more) in
          let at = passing (holds_position s (synced s log)) (placements log) also in
          let landed : has_landed log at.0 ≡ true =
          landed_of_answered log at.0 (r.stripes at.0 (contained_among (placements log) at.0 at.1)) (not_lost at.0) in
          let test : Placed → Bool = λ p. has_landed log p && holds_position s (synced s log) p in
          not_both (list_any test (placements log)) (any_member test (placements log) at.1.0 at.0 at.1.1
          (and_both (has_landed log at.0) (holds_position s (synced s log) at.0) landed at.2)) missing

      -- and one that wasn't placed waits
      not_waiting : first_position (log_of w 0) ≤ synced i.shape (log_of w 0) → synced i.shape (log_of w 0) < taken (log_of w 0)
          → placed_front i.shape (log_of w 0) ≤ synced i.shape (log_of w 0) → synced i.shape (log_of w 0) < pad_target i (log_of w) asked → ⊥
      not_waiting from below past under =
          let c : ℕ = order.order.count in
          let count : length (filter (was_placed s log) (takes log)) ≡ c = count_is s log order in
          let k : ℕ = synced s log - first_position log in
          let t = got_within (takes log) k (omega arith) in
          let its : t.0.entry.position ≡ first_position log + k = position_of i w k t.0 r.mount.legal t.1 in
          let far : c + (k - c) ≡ k = omega arith in
          let at : slice_get (waiting s log) (k - c) ≡ Some t.0 =
          ap (λ (ts : List Taken). slice_get ts (k - c)) (waiting_are_last s log not_lost order)
          ∙ get_dropped c (takes log) (k - c) ∙ ap (slice_get (takes log)) far ∙ t.1 in
          none_urgent some (inr (t.0, contained_among (waiting s log) t.0 (k - c, at), omega arith))

      go : (synced i.shape (log_of w 0) < position) ⊎ (position ≤ synced i.shape (log_of w 0)) → position ≤ synced i.shape (log_of w 0)
      go (inr done) = done
      go (inl more) =
          let missing : has_landed_at s log (synced s log) ≡ false = synced_missing s log (omega arith) in
          let from : first_position log ≤ synced s log = synced_from s log in
          absurd (by missing from (cases_lt (synced s log) (placed_front s log)))
        where
          by : has_landed_at i.shape (log_of w 0) (synced i.shape (log_of w 0)) ≡ false → first_position (log_of w 0) ≤ synced i.shape (log_of w 0)
              → (synced i.shape (log_of w 0) < placed_front i.shape (log_of w 0)) ⊎ (placed_front i.shape (log_of w 0) ≤ synced i.shape (log_of w 0)) → ⊥
          by missing from (inl placed) = not_placed missing from placed
          by missing from (inr past) = not_waiting from (omega (arith, more, within)) past (omega (arith, more, low))

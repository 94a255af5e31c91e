-- Where no stripe was lost, the sequence number of the next start record is near that of the head
-- of the media: of three lines that were opened one after another, one of the first two has a start
-- record that has landed when the third is opened, or a newer one has.
use Rattle.std.proofs.Common.{◌≡◌, ◌⊎◌, inl, inr, ℕ, ◌+◌, ◌-◌, ◌*◌, ◌/◌, ◌^◌, ◌<◌, ◌≤◌, ◌&&◌, not, nat_le, nat_lt, zero, suc, Bool, true, false, Some, None, Option, List, length, max, take, drop, refl, sym, subst, ap, ap₂, ◌∙◌, arith, if◌then◌else◌}
use Rattle.std.specs.Prelude.{slice_get}
use Rattle.std.specs.List.{list_all}
use Rattle.std.proofs.lemmas.Bool.{cases_lt, cases_order}
use Rattle.std.proofs.lemmas.Nat.{le-div}
use Rattle.std.proofs.lemmas.Option.{none-some, same_Some}
use Rattle.pblk_model.specs.declared.shape.Shape.{Shape}
use Rattle.pblk_model.specs.Contents.{end, head}
use Rattle.pblk_model.specs.Image.{Image}
use Rattle.pblk_model.specs.LineOrder.{data_len, end_len, start_len}
use Rattle.pblk_model.specs.Sealed.{IsSealed}
use Rattle.pblk_model.specs.StartRecord.{StartRecord, start_of}
use Rattle.pblk_laws.proofs.Heads.{head_is_head, no_head_no_start}
use Rattle.pblk_world.specs.EngineLog.{Begun, begun, has_landed, is_opened, last_opening, life_of, Opened, Opening, openings, Placed, stripes_of}
use Rattle.pblk_world.specs.Events.{Logged}
use Rattle.pblk_world.specs.Fronts.{first_position, synced, taken}
use Rattle.pblk_world.specs.Lines.{are_over, found_image, has_stripe_left, next_seq}
use Rattle.pblk_world.specs.Opening.{MayOpen}
use Rattle.pblk_world.specs.Placing.{line_end}
use Rattle.pblk_world.specs.Space.{position_limit}
use Rattle.pblk_world.specs.Starts.{has_landed_start, have_landed, newest_start, start_stripes}
use Rattle.pblk_world.specs.Victims.{engine_prefix}
use Rattle.pblk_world.specs.World.{World, log_of, media}
use Rattle.pblk_model.proofs.Lists.{IsAmong, among_contained}
use Rattle.pblk_model.proofs.Maps.{in_filter}
use Rattle.pblk_model.proofs.Parts.{all_by_get, contained_among, get_below, get_first, get_whole_within, got_within, take_and_drop}
use Rattle.pblk_model.proofs.Tests.{and_both, le_true}
use Rattle.pblk_world.specs.LegalMounts.{IsLegalMount, NoStripeLost}
use Rattle.world_laws.proofs.FoundImages.{found_seq}
use Rattle.world_laws.proofs.LineStarts.{landed_of}
use Rattle.world_laws.proofs.LineStripes.{enough_placed, start_whole}
use Rattle.world_laws.proofs.Lives.{IsFreedLife, openings_joined, standing_or_freed}
use Rattle.world_laws.proofs.Made.{IsMade, made, own_then}
use Rattle.world_laws.proofs.Newest.{IsNewest, IsOlder, newest_grows, newest_of_landed, older_when_freed}
use Rattle.world_laws.proofs.StartRecords.{IsNthOpening, nth_opening, numbers_rise, opened_later, seq_of_nth}
use Rattle.world_laws.proofs.Stripes.{IsOpening, opening_is}
use Rattle.world_laws.proofs.ToldSince.{told_up_to}
use Rattle.world_laws.proofs.ToldTables.{left_told, newest_told}
use Rattle.core_laws.specs.InOrder.{FitsItsLine}
use Rattle.core_laws.proofs.LosslessMounts.{IsLosslessMount}
use Rattle.world_laws.proofs.EarlierLogs.{some_begun}
use Rattle.core_laws.proofs.EachChunk.{all_hold}
use Rattle.core_laws.proofs.LandedOver.{over_is}
use Rattle.core_laws.proofs.LineRoom.{has_room}
use Rattle.core_laws.proofs.PlainLogs.{none_failed}
use Rattle.core_laws.proofs.LosslessMounts.{lossless_made}
use Rattle.prefix_law.specs.AfterMount.{IsReduced}
use Rattle.prefix_law.proofs.LineFacts.{HasFacts, facts}
use Rattle.prefix_law.proofs.MountHead.{AsBefore, IsNewestBy, newest_is, newest_there, OfMount, reduced, which, WhichHead}
use Rattle.prefix_law.proofs.OpeningStarts.{found_shape}
use Rattle.prefix_law.proofs.Prefix.{prefix_above}
use Rattle.rest_laws.specs.NewestOpened.{IsLastOpened}
use Rattle.rest_laws.specs.TidyMounts.{HasNumbersLeft}
use Rattle.rest_laws.proofs.LastStarts.{last_stands}

-- ---- a line that is over has a start record that has landed

part_landed : (log : List Logged) (o : Opening) (m n : ℕ) → m ≤ n → have_landed log o n ≡ true → have_landed log o m ≡ true
part_landed log o m n few landed =
    let enough : n ≤ length (stripes_of log o) = enough_placed log o n landed in
    and_both (nat_le m (length (stripes_of log o))) (list_all (has_landed log) (take m (stripes_of log o)))
    (le_true m (length (stripes_of log o)) (omega arith))
    (all_hold (has_landed log) (take m (stripes_of log o))
    (all_by_get (λ (p : Placed). has_landed log p ≡ true) (take m (stripes_of log o)) (λ k p there.
    let at = get_whole_within m (stripes_of log o) k p there in
    let low : k < m = at.1 in
    let other = landed_of log o n k landed (omega arith) in
    subst (λ (x : Placed). has_landed log x ≡ true) (same_Some other.0 p (sym other.1 ∙ at.0)) other.2)))

start_within : (s : Shape) (g : ℕ) → 0 < data_len s g → start_len s ≤ g * s.clba
start_within s g some = go (nat_lt (g * s.clba - start_len s - end_len s g) s.ws_opt) refl
  where
    go : (t : Bool) → nat_lt (g * s.clba - start_len s - end_len s g) s.ws_opt ≡ t → start_len s ≤ g * s.clba
    go true e =
        let none : data_len s g ≡ 0 = ap (λ t. if t then 0 else g * s.clba - start_len s - end_len s g) e in
        absurd (omega arith)
    go false e =
        let all : data_len s g ≡ g * s.clba - start_len s - end_len s g = ap (λ t. if t then 0 else g * s.clba - start_len s - end_len s g) e in
        omega arith

over_started : (i : Image) (w : World) (lossless : IsLosslessMount i w) (o : Opening) → life_of (log_of w 0) o.line ≡ Opened o
    → are_over i (log_of w) o.line ≡ true → has_landed_start i.shape (log_of w 0) o ≡ true
over_started i w lossless o is_open over =
    let some : 0 < i.shape.ws_opt = lossless.mount.accepted.drive.ws_opt in
    let landed : have_landed (log_of w 0) o (line_end i.shape o / i.shape.ws_opt) ≡ true =
    sym (over_is i w lossless.mount o is_open (none_failed (log_of w 0) lossless.none_lost o)) ∙ over in
    let room : FitsItsLine i.shape (log_of w 0) o = has_room i w o.line o lossless.mount is_open in
    let low : start_len i.shape ≤ line_end i.shape o = start_within i.shape o.start.width room.some in
    let whole : start_len i.shape ≡ start_stripes i.shape * i.shape.ws_opt = start_whole i.shape some in
    let fits : start_stripes i.shape * i.shape.ws_opt ≤ line_end i.shape o = subst (λ n. n ≤ line_end i.shape o) whole low in
    part_landed (log_of w 0) o (start_stripes i.shape) (line_end i.shape o / i.shape.ws_opt)
    (le-div (start_stripes i.shape) (line_end i.shape o) i.shape.ws_opt some fits) landed

-- ---- three lines that were opened one after another

module _ (i : Image) (w : World) (lossless : IsLosslessMount i w) (k : ℕ) (x y z : Opening) (x_at : slice_get (openings (log_of w 0)) k ≡ Some x)
    (y_at : slice_get (openings (log_of w 0)) (k + 1) ≡ Some y) (z_at : slice_get (openings (log_of w 0)) (k + 2) ≡ Some z) where
  abbrev log : List Logged
  log = log_of w 0

  is : IsOpening (log_of w 0) (k + 2) z
  is = opening_is (log_of w 0) (k + 2) z z_at

  -- the world in which the third was opened
  h : IsMade i w 0 z.number is.logged
  h = made i w 0 z.number is.logged lossless.mount.legal is.there

  earlier : IsLosslessMount i h.before
  earlier = lossless_made i w z.number is.logged lossless h

  own : log_of h.before 0 ≡ take z.number (log_of w 0)
  own = own_then i w 0 z.number is.logged h

  count : length (openings (log_of h.before 0)) ≡ k + 2
  count = ap (λ (xs : List Logged). length (openings xs)) own ∙ is.before

  opened_then : (j : ℕ) (o : Opening) → j < k + 2 → slice_get (openings (log_of w 0)) j ≡ Some o
      → slice_get (openings (log_of h.before 0)) j ≡ Some o
  opened_then j o low there =
      let n : ℕ = z.number in
      let joined = openings_joined (take n log) (drop n log) in
      let before : length (openings (take n log)) ≡ k + 2 = is.before in
      ap (λ (xs : List Logged). slice_get (openings xs) j) own
      ∙ sym (get_first (openings (take n log)) joined.0 j (omega arith))
      ∙ ap (λ (os : List Opening). slice_get os j) (sym joined.1)
      ∙ ap (λ (xs : List Logged). slice_get (openings xs) j) (take_and_drop n log)
      ∙ there

  x_then : slice_get (openings (log_of h.before 0)) k ≡ Some x
  x_then = opened_then k x (omega arith) x_at

  y_then : slice_get (openings (log_of h.before 0)) (k + 1) ≡ Some y
  y_then = opened_then (k + 1) y (omega arith) y_at

  y_last : IsLastOpened (log_of h.before 0) y
  y_last = record {
    opened = contained_among (openings (log_of h.before 0)) y (k + 1, y_then);
    last = λ other there. go other (among_contained (openings (log_of h.before 0)) other there);
  }
    where
      go : (other : Opening) → IsAmong (openings (log_of h.before 0)) other → other.number ≤ y.number
      go other at = by (cases_order at.0 (k + 1))
        where
          by : (at.0 ≡ k + 1) ⊎ ((at.0 < k + 1) ⊎ (k + 1 < at.0)) → other.number ≤ y.number
          by (inl same) =
              let one : other ≡ y = same_Some other y (sym at.1 ∙ ap (slice_get (openings (log_of h.before 0))) same ∙ y_then) in
              let number : other.number ≡ y.number = ap (λ (o : Opening). o.number) one in
              omega arith
          by (inr (inl before)) =
              let less : other.number < y.number = numbers_rise (log_of h.before 0) at.0 (k + 1) other y at.1 y_then before in
              omega arith
          by (inr (inr after)) =
              let below : at.0 < length (openings (log_of h.before 0)) = get_below (openings (log_of h.before 0)) at.0 other at.1 in
              let all : length (openings (log_of h.before 0)) ≡ k + 2 = count in
              absurd (omega arith)

  y_stands : life_of (log_of h.before 0) y.line ≡ Opened y
  y_stands = last_stands i h.before earlier y y_last

  -- the newest start record then
  record IsReached (s : StartRecord) : Type 0 where
    is_newest : newest_start i (log_of h.before) ≡ Some s
    seq : x.start.seq ≤ s.seq

  by_landed : (j : ℕ) (o : Opening) → slice_get (openings (log_of h.before 0)) j ≡ Some o → x.start.seq ≤ o.start.seq
      → has_landed_start i.shape (log_of h.before 0) o ≡ true → (s : StartRecord) × IsReached s
  by_landed j o there seq landed =
      let newest : IsNewest i h.before o.start = newest_of_landed i h.before o h.legal
      (in_filter (has_landed_start i.shape (log_of h.before 0)) (openings (log_of h.before 0)) o (j, there) landed) in
      let more : o.start.seq ≤ newest.newest.seq = newest.seq in
      (newest.newest, record { is_newest = newest.is_newest; seq = omega arith })

  seqs : x.start.seq + 1 ≡ y.start.seq
  seqs =
      let nth : IsNthOpening i w k x = nth_opening i w k x lossless.mount.legal x_at in
      let first : x.start.seq ≡ nth.g.beginning.seq + k = seq_of_nth i w k x nth.g lossless.mount.legal nth.is_begun x_at in
      let second : y.start.seq ≡ nth.g.beginning.seq + (k + 1) = seq_of_nth i w (k + 1) y nth.g lossless.mount.legal nth.is_begun y_at in
      omega arith

  left : (o : Opening) → life_of (log_of h.before 0) o.line ≡ Opened o → are_over i (log_of h.before) o.line ≡ false
      → has_stripe_left i (engine_prefix z.number (log_of w)) o.line ≡ true
  left o is_open e =
      left_told i (log_of h.before) (engine_prefix z.number (log_of w)) (told_up_to i w z.number is.logged h) o.line
      ∙ ap₂ (λ a b. a && not b) (ap is_opened is_open) e

  two_left : life_of (log_of h.before 0) x.line ≡ Opened x → are_over i (log_of h.before) x.line ≡ false
      → are_over i (log_of h.before) y.line ≡ false → ⊥
  two_left x_stands x_left y_left =
      let may : MayOpen i (engine_prefix z.number (log_of w)) _ z.line z.start = (nth_opening i w (k + 2) z lossless.mount.legal z_at).may in
      let same : x.line ≡ y.line =
      may.one_other x.line y.line (nth_opening i w k x lossless.mount.legal x_at).may.in_range
      (nth_opening i w (k + 1) y lossless.mount.legal y_at).may.in_range
      (left x x_stands x_left) (left y y_stands y_left) in
      let one : x ≡ y = same_Some x y (ap last_opening (sym x_stands ∙ ap (life_of (log_of h.before 0)) same ∙ y_stands)) in
      let number : x.number ≡ y.number = ap (λ (o : Opening). o.number) one in
      let less : x.number < y.number = numbers_rise (log_of w 0) k (k + 1) x y x_at y_at (omega arith) in
      absurd (omega arith)

  reached : (s : StartRecord) × IsReached s
  reached = go (standing_or_freed i h.before x h.legal (contained_among (openings (log_of h.before 0)) x (k, x_then)))
    where
      go : (life_of (log_of h.before 0) x.line ≡ Opened x) ⊎ IsFreedLife (log_of h.before 0) x → (s : StartRecord) × IsReached s
      go (inr freed) =
          let older : IsOlder i h.before x freed = older_when_freed i h.before x h.legal freed in
          let less : x.start.seq < older.newest.seq = older.seq in
          (older.newest, record { is_newest = older.is_newest; seq = omega arith })
      go (inl stands) = by (are_over i (log_of h.before) x.line) (are_over i (log_of h.before) y.line) refl refl
        where
          by : (s t : Bool) → are_over i (log_of h.before) x.line ≡ s → are_over i (log_of h.before) y.line ≡ t → (r : StartRecord) × IsReached r
          by true t d e = by_landed k x x_then (omega arith) (over_started i h.before earlier x stands d)
          by false true d e = let next = seqs in by_landed (k + 1) y y_then (omega arith) (over_started i h.before earlier y y_stands e)
          by false false d e = absurd (two_left stands d e)

  -- and the newest one now is as new or newer
  pub newest_near : (s : StartRecord) × (newest_start i (log_of w) ≡ Some s) × (x.start.seq ≤ s.seq)
  newest_near = go z.number refl (opened_later i w (k + 2) z lossless.mount.legal z_at)
    where
      go : (n : ℕ) → z.number ≡ n → 0 < z.number → (s : StartRecord) × (newest_start i (log_of w) ≡ Some s) × (x.start.seq ≤ s.seq)
      go zero e later = absurd (omega arith)
      go (suc a) e later =
          let s = reached in
          let then_ : newest_start i (engine_prefix (suc a) (log_of w)) ≡ Some s.0 =
          ap (λ n. newest_start i (engine_prefix n (log_of w))) (sym e)
          ∙ newest_told i (log_of h.before) (engine_prefix z.number (log_of w)) (told_up_to i w z.number is.logged h) ∙ s.1.is_newest in
          let newest : IsNewest i w s.0 = newest_grows i w a s.0 lossless.mount.legal then_ in
          let low : x.start.seq ≤ s.0.seq = s.1.seq in
          let high : s.0.seq ≤ newest.newest.seq = newest.seq in
          (newest.newest, newest.is_newest, omega arith)

-- ---- the head of the media

module _ (i : Image) (w : World) (b : Begun) (mount : IsLegalMount i w) (sealed : IsSealed i) (begins : begun (log_of w 0) ≡ Some b) where
  abbrev now : Image
  now = media i (log_of w)

  abbrev found : Image
  found = found_image i (log_of w)

  has : HasFacts i w
  has = facts i w b mount sealed begins

  seq_is : b.beginning.seq ≡ next_seq (head (found_image i (log_of w)))
  seq_is = found_seq i w b mount.legal begins

  -- a start record on the media is at most as new as their head
  start_low : (line : ℕ) (r : StartRecord) → line < i.shape.chunks → start_of (media i (log_of w)) line ≡ Some r
      → r.seq < next_seq (head (media i (log_of w)))
  start_low line r inside whole = go (head now) refl
    where
      go : (o : Option StartRecord) → head (media i (log_of w)) ≡ o → r.seq < next_seq (head (media i (log_of w)))
      go None e = absurd (none-some r (sym (no_head_no_start now line e inside) ∙ whole))
      go (Some h) e =
          let is = head_is_head now h e in
          let next : next_seq (head now) ≡ h.seq + 1 = ap next_seq e in
          elim (is.1.greatest line r inside whole) [
            | inl less ↦ omega arith
            | inr same ↦ (let one : r.seq ≡ h.seq = same.0 in omega arith)
          ]

  newest_low : (s : StartRecord) → newest_start i (log_of w) ≡ Some s → b.beginning.seq ≤ s.seq → s.seq < next_seq (head (media i (log_of w)))
  newest_low s newest high = go (newest_is i w s newest)
    where
      go : IsNewestBy i w s → s.seq < next_seq (head (media i (log_of w)))
      go (inl was) =
          let next : next_seq (head found) ≡ s.seq + 1 = ap next_seq was in
          let first = seq_is in
          absurd (omega arith)
      go (inr (o, landed, same)) =
          let stands = newest_there i w b mount has begins o landed (newest ∙ ap Some (sym same)) in
          subst (λ (r : StartRecord). r.seq < next_seq (head now)) same (start_low o.line o.start stands.0 stands.1)

  -- the mount's first sequence number is at most that of the next mount
  first_low : b.beginning.seq ≤ next_seq (head (media i (log_of w)))
  first_low = go (which i w b mount has begins)
    where
      some : 1 ≤ next_seq (head (media i (log_of w)))
      some = go (head now)
        where
          go : (o : Option StartRecord) → 1 ≤ next_seq o
          go None = omega arith
          go (Some h) = omega arith

      by_head : IsReduced (found_image i (log_of w)) (media i (log_of w)) → (o : Option StartRecord) → head (found_image i (log_of w)) ≡ o
          → b.beginning.seq ≤ next_seq (head (media i (log_of w)))
      by_head r None e =
          let first : b.beginning.seq ≡ 1 = seq_is ∙ ap next_seq e in
          let one = some in
          omega arith
      by_head r (Some h) e =
          let first : b.beginning.seq ≡ h.seq + 1 = seq_is ∙ ap next_seq e in
          let is = head_is_head found h e in
          let here : is.0 < i.shape.chunks = subst (λ (s : Shape). is.0 < s.chunks) (sym (found_shape i (log_of w))) is.1.here in
          let low : h.seq < next_seq (head now) = start_low is.0 h here (r.head_stands is.0 h is.1) in
          omega arith

      go : WhichHead i w b mount has begins → b.beginning.seq ≤ next_seq (head (media i (log_of w)))
      go (OfMount h new) =
          let first = seq_is in
          let low : next_seq (head found) ≤ h.seq = new.start.seq in
          let next : next_seq (head now) ≡ h.seq + 1 = ap next_seq new.head in
          omega arith
      go (AsBefore all) = by_head (reduced i w b mount has begins all) (head found) refl

pub next_near : (i : Image) (w : World) (b : Begun) → IsLegalMount i w → NoStripeLost (log_of w 0) → IsSealed i → begun (log_of w 0) ≡ Some b
    → b.beginning.seq + length (openings (log_of w 0)) ≤ next_seq (head (media i (log_of w))) + 2
next_near i w b mount none_lost sealed begins = go (cases_lt 2 (length (openings (log_of w 0))))
  where
    first : b.beginning.seq ≤ next_seq (head (media i (log_of w)))
    first = first_low i w b mount sealed begins

    go : (2 < length (openings (log_of w 0))) ⊎ (length (openings (log_of w 0)) ≤ 2)
        → b.beginning.seq + length (openings (log_of w 0)) ≤ next_seq (head (media i (log_of w))) + 2
    go (inr few) = let low = first in omega arith
    go (inl many) =
        let k : ℕ = length (openings (log_of w 0)) - 3 in
        let x = got_within (openings (log_of w 0)) k (omega arith) in
        let y = got_within (openings (log_of w 0)) (k + 1) (omega arith) in
        let z = got_within (openings (log_of w 0)) (k + 2) (omega arith) in
        let s = newest_near i w (record { mount = mount; none_lost = none_lost }) k x.0 y.0 z.0 x.1 y.1 z.1 in
        let seq : x.0.start.seq ≡ b.beginning.seq + k = seq_of_nth i w k x.0 b mount.legal begins x.1 in
        let far : x.0.start.seq ≤ s.0.seq = s.2 in
        let low : s.0.seq < next_seq (head (media i (log_of w))) = newest_low i w b mount sealed begins s.0 s.1 (omega arith) in
        omega arith

-- ---- so numbers are left

low_head : (o : Option StartRecord) → ((h : StartRecord) → o ≡ Some h → h.seq < 2 ^ 60) → next_seq o ≤ 2 ^ 60
low_head None low = omega arith
low_head (Some h) low = let seq : h.seq < 2 ^ 60 = low h refl in omega arith

pub numbers_left : (i : Image) (w : World) → IsLegalMount i w → NoStripeLost (log_of w 0) → IsSealed i → 0 < length (log_of w 0)
    → end (media i (log_of w)) < 2 ^ 60 → ((h : StartRecord) → head (media i (log_of w)) ≡ Some h → h.seq < 2 ^ 60)
    → HasNumbersLeft i.shape (log_of w 0)
numbers_left i w mount none_lost sealed some low low_seq =
    let b = some_begun i w mount.legal some in
    let near : b.0.beginning.seq + length (openings (log_of w 0)) ≤ next_seq (head (media i (log_of w))) + 2 =
    next_near i w b.0 mount none_lost sealed b.1 in
    let first : next_seq (head (media i (log_of w))) ≤ 2 ^ 60 = low_head (head (media i (log_of w))) low_seq in
    let above : synced i.shape (log_of w 0) ≤ end (media i (log_of w)) = prefix_above i w mount sealed in
    record { beginning = b.0; begins = b.1; seq_number = omega arith; front_number = omega arith }

pub positions_left : (i : Image) (w : World) → IsLegalMount i w → IsSealed i → end (media i (log_of w)) < 2 ^ 60
    → taken (log_of w 0) ≤ synced i.shape (log_of w 0) + 2 ^ 30 → taken (log_of w 0) + 16 ≤ position_limit (log_of w 0)
positions_left i w mount sealed low near =
    let above : synced i.shape (log_of w 0) ≤ end (media i (log_of w)) = prefix_above i w mount sealed in
    by_numbers (taken (log_of w 0)) (synced i.shape (log_of w 0)) (end (media i (log_of w))) (first_position (log_of w 0)) near above low
  where
    by_numbers : (t s e f : ℕ) → t ≤ s + 2 ^ 30 → s ≤ e → e < 2 ^ 60 → t + 16 ≤ max (2 ^ 61 - 2) f
    by_numbers t s e f a b c = omega arith

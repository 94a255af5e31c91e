-- How the number of lines that are to be reset changes with each step of a legal mount.
use Rattle.std.proofs.Common.{◌≡◌, ◌≢◌, ℕ, ◌+◌, ◌<◌, ◌&&◌, not, nat_eq, nat_lt, Bool, true, false, Some, None, Option, List, [], ◌∷◌, length, refl, sym, subst, ap, ap₂, ◌∙◌, arith, if◌then◌else◌}
use Rattle.std.specs.Prelude.{sum_by}
use Rattle.std.specs.List.{filter, range_with_len}
use Rattle.std.specs.Option.{option_and_then, option_map_or}
use Rattle.std.proofs.lemmas.Bool.{eqb-false, eqb-true}
use Rattle.std.proofs.lemmas.Option.{none-some}
use Rattle.pblk_model.specs.Image.{Image}
use Rattle.pblk_model.specs.StartRecord.{StartRecord}
use Rattle.pblk_model.specs.UnitLog.{UnitEvent}
use Rattle.pblk_world.specs.Answering.{MayLand, MayNoteReset}
use Rattle.pblk_world.specs.EngineLog.{Begun, begun, begun_by, is_opened, life_of, LineLife, Opened}
use Rattle.pblk_world.specs.Events.{Decides, EngineEvent, Free, Landed, Logged, Open, ResetDone}
use Rattle.pblk_world.specs.Lines.{are_empty, are_over, has_number, is_given_up, is_given_up_by, known_image, line_data, strays_of, told_by}
use Rattle.pblk_world.specs.Opening.{MayOpen}
use Rattle.pblk_world.specs.Starts.{seq_of}
use Rattle.pblk_world.specs.World.{World, Logs, log_of, unit_event_at, unit_event_of}
use Rattle.pblk_world.proofs.Appending.{life_more}
use Rattle.pblk_world.proofs.EngineLogLemmas.{begun_stays}
use Rattle.pblk_world.proofs.LinesLemmas.{not_given_up}
use Rattle.pblk_model.proofs.Tests.{both, not_both, other_number, same_number}
use Rattle.pblk_world.specs.LegalMounts.{IsLegalMount}
use Rattle.core_laws.specs.Stepping.{after}
use Rattle.core_laws.proofs.FreedLives.{known_freed, life_beside, life_freed}
use Rattle.core_laws.proofs.FreedWidths as widths
use Rattle.core_laws.proofs.KeptRows.{KeepsChunks}
use Rattle.core_laws.proofs.LandedRows.{keeps_chunks}
use Rattle.core_laws.proofs.RangeSums.{sum_more, sum_same}
use Rattle.core_laws.proofs.ClosedKept.{one_told}
use Rattle.rest_laws.specs.RoomSteps.{is_unreset, unreset_lines}
use Rattle.rest_laws.proofs.FreeSteps.{its_line}
use Rattle.rest_laws.proofs.LiveSums.{as_number, passing_first}
use Rattle.rest_laws.proofs.UsedResets.{in_range, may_note, still_given, unempty_now}
use Rattle.std.proofs.lemmas.List.Sums.{sum_by-cons}

-- ---- how many pass, as a sum

abbrev ones : (ℕ → Bool) → ℕ → ℕ
ones test k = as_number (test k)

counted : (test : ℕ → Bool) (xs : List ℕ) → length (filter test xs) ≡ sum_by (ones test) xs
counted test [] = refl
counted test (x ∷ xs) = passing_first test x xs ∙ ap (λ n. as_number (test x) + n) (counted test xs) ∙ sym (sum_by-cons (ones test) x xs)

pub count_same : (f g : ℕ → Bool) (n : ℕ) → ((k : ℕ) → g k ≡ f k) → length (filter g (range_with_len 0 n)) ≡ length (filter f (range_with_len 0 n))
count_same f g n same =
    counted g (range_with_len 0 n) ∙ sum_same (ones g) (ones f) (λ k. ap as_number (same k)) (range_with_len 0 n) ∙ sym (counted f (range_with_len 0 n))

-- one passes now, and no other changes
pub count_more : (f g : ℕ → Bool) (n k x : ℕ) → k < n → as_number (g k) ≡ as_number (f k) + x → ((m : ℕ) → m ≢ k → g m ≡ f m)
    → length (filter g (range_with_len 0 n)) ≡ length (filter f (range_with_len 0 n)) + x
count_more f g n k x inside here beside =
    let first : k ≡ 0 + k = omega arith in
    counted g (range_with_len 0 n)
    ∙ sum_more (ones f) (ones g) n 0 k x inside (subst (λ m. ones g m ≡ ones f m + x) first here)
    (λ m apart. ap as_number (beside m (λ e. apart (e ∙ first))))
    ∙ ap (λ a. a + x) (sym (counted f (range_with_len 0 n)))

-- ---- one line

-- what gives a line up is by its life and how the mount began
pub given_kept : (logs : Logs) (e : EngineEvent) (knows : List ℕ) (b : Begun) (line : ℕ) → begun (logs 0) ≡ Some b
    → life_of (after logs e knows 0) line ≡ life_of (logs 0) line → is_given_up (after logs e knows 0) line ≡ is_given_up (logs 0) line
given_kept logs e knows b line begins life =
    ap₂ (λ (o : Option Begun) (l : LineLife). is_given_up_by (option_map_or (λ (x : Begun). x.beginning.strays) o []) line l)
    (begun_stays (logs 0) (record { event = Decides e; knows = knows }) b begins ∙ sym begins) life

line_kept : (i : Image) (logs : Logs) (e : EngineEvent) (knows : List ℕ) (b : Begun) (line : ℕ) → begun (logs 0) ≡ Some b
    → life_of (after logs e knows 0) line ≡ life_of (logs 0) line → KeepsChunks i logs (after logs e knows) line
    → is_unreset i (after logs e knows) line ≡ is_unreset i logs line
line_kept i logs e knows b line begins life kept = ap₂ (λ a c. a && not c) (given_kept logs e knows b line begins life) kept.empty

opened_none : (i : Image) (logs : Logs) (line : ℕ) → is_opened (life_of (logs 0) line) ≡ true → is_unreset i logs line ≡ false
opened_none i logs line opened = go (is_given_up (logs 0) line) refl
  where
    go : (t : Bool) → is_given_up (logs 0) line ≡ t → (t && not (are_empty (known_image i logs) line)) ≡ false
    go false e = refl
    go true e = absurd (not_both (is_opened (life_of (logs 0) line)) opened (not_given_up (strays_of (logs 0)) line (life_of (logs 0) line) e))

-- ---- events that tell nothing of chunks

pub unreset_kept : (i : Image) (logs : Logs) (e : EngineEvent) (knows : List ℕ) (b : Begun) → begun (logs 0) ≡ Some b → begun_by knows (Decides e) ≡ None
    → ((unit : ℕ) → told_by logs unit (Decides e) ≡ None) → ((line : ℕ) → life_of (after logs e knows 0) line ≡ life_of (logs 0) line)
    → unreset_lines i (after logs e knows) ≡ unreset_lines i logs
unreset_kept i logs e knows b begins quiet none life =
    count_same (is_unreset i logs) (is_unreset i (after logs e knows)) i.shape.chunks (λ line. line_kept i logs e knows b line begins (life line)
    (keeps_chunks i logs e knows line quiet (λ unit u told same. none-some u (sym (none unit) ∙ told))))

module _ (i : Image) (w : World) (mount : IsLegalMount i w) (b : Begun) (begins : begun (log_of w 0) ≡ Some b) (knows : List ℕ) where
  -- ---- a stripe has landed

  pub unreset_landed : (unit number : ℕ) → MayLand (log_of w) unit number
      → unreset_lines i (after (log_of w) (Landed unit number) knows) ≡ unreset_lines i (log_of w)
  unreset_landed unit number may =
      count_same (is_unreset i (log_of w)) (is_unreset i new) i.shape.chunks (λ line. by line (is_opened (life_of (log_of w 0) line)) refl)
    where
      new : Logs
      new = after (log_of w) (Landed unit number) knows

      life : (line : ℕ) → life_of (after (log_of w) (Landed unit number) knows 0) line ≡ life_of (log_of w 0) line
      life line = life_more (log_of w 0) (record { event = Decides (Landed unit number); knows = knows }) line

      by : (line : ℕ) (t : Bool) → is_opened (life_of (log_of w 0) line) ≡ t → is_unreset i new line ≡ is_unreset i (log_of w) line
      by line true opened = opened_none i new line (ap is_opened (life line) ∙ opened) ∙ sym (opened_none i (log_of w) line opened)
      by line false closed = line_kept i (log_of w) (Landed unit number) knows b line begins (life line)
          (keeps_chunks i (log_of w) (Landed unit number) knows line refl (λ u x told same.
          not_both (is_opened (life_of (log_of w 0) line))
          (ap (λ m. is_opened (life_of (log_of w 0) m)) same ∙ its_line i w mount unit number knows may u x told)
          closed))

  -- ---- a line is opened

  pub unreset_opened : (c : Begun) (line : ℕ) (start : StartRecord) → MayOpen i (log_of w) c line start
      → unreset_lines i (after (log_of w) (Open line start) knows) ≡ unreset_lines i (log_of w)
  unreset_opened c line start may =
      count_same (is_unreset i (log_of w)) (is_unreset i new) i.shape.chunks (λ m. by m (nat_eq m line) refl)
    where
      new : Logs
      new = after (log_of w) (Open line start) knows

      l : Logged
      l = record { event = Decides (Open line start); knows = knows }

      by : (m : ℕ) (t : Bool) → nat_eq m line ≡ t → is_unreset i new m ≡ is_unreset i (log_of w) m
      by m false apart =
          line_kept i (log_of w) (Open line start) knows b m begins
          (life_more (log_of w 0) l m
          ∙ ap (λ t. if t then Opened (record { number = length (log_of w 0); line = m; start = start; knows = knows }) else life_of (log_of w 0) m)
          (other_number line m (λ e. eqb-false m line apart (sym e))))
          (keeps_chunks i (log_of w) (Open line start) knows m refl (λ u x told same. none-some x told))
      by m true e =
          let here : m ≡ line = eqb-true m line e in
          let parts = both (not (has_number i (log_of w) (life_of (log_of w 0) line) line) && are_empty (known_image i (log_of w)) line)
          (nat_lt 0 (line_data (known_image i (log_of w)) line)) may.is_free in
          let empty : are_empty (known_image i (log_of w)) line ≡ true =
          (both (not (has_number i (log_of w) (life_of (log_of w 0) line) line)) (are_empty (known_image i (log_of w)) line) parts.0).1 in
          let before : is_unreset i (log_of w) line ≡ false =
          ap (λ t. is_given_up (log_of w 0) line && not t) empty ∙ none (is_given_up (log_of w 0) line) in
          let now : is_unreset i new line ≡ false =
          opened_none i new line (ap is_opened (life_more (log_of w 0) l line
          ∙ ap (λ t. if t then Opened (record { number = length (log_of w 0); line = line; start = start; knows = knows }) else life_of (log_of w 0) line)
          (same_number line))) in
          ap (is_unreset i new) here ∙ now ∙ sym before ∙ ap (is_unreset i (log_of w)) (sym here)
        where
          none : (t : Bool) → (t && false) ≡ false
          none true = refl
          none false = refl

  -- ---- a line is freed

  pub unreset_freed : (line seq : ℕ) → line < i.shape.chunks → are_over i (log_of w) line ≡ true → seq_of i (log_of w) line ≡ Some seq
      → unreset_lines i (after (log_of w) (Free line) knows) ≡ unreset_lines i (log_of w) + 1
  unreset_freed line seq inside over has_seq =
      count_more (is_unreset i (log_of w)) (is_unreset i new) i.shape.chunks line 1 inside
      (ap as_number now ∙ ap (λ t. as_number t + 1) (sym before)) beside
    where
      new : Logs
      new = after (log_of w) (Free line) knows

      before : is_unreset i (log_of w) line ≡ false
      before = ap (λ t. t && not (are_empty (known_image i (log_of w)) line)) (widths.not_given_up i w mount line b begins seq has_seq)

      now : is_unreset i new line ≡ true
      now =
          ap₂ (λ (l : LineLife) (j : Image). is_given_up_by (strays_of (new 0)) line l && not (are_empty j line)) (life_freed (log_of w 0) line knows)
          (known_freed i (log_of w) line knows)
          ∙ ap not (widths.numbered_used i w mount line b begins seq has_seq over)

      beside : (m : ℕ) → m ≢ line → is_unreset i new m ≡ is_unreset i (log_of w) m
      beside m apart = line_kept i (log_of w) (Free line) knows b m begins (life_beside (log_of w 0) line knows m apart)
          (keeps_chunks i (log_of w) (Free line) knows m refl (λ u x told same. none-some x told))

  -- ---- a reset is noted

  pub unreset_reset : (unit number : ℕ) → (may : MayNoteReset (log_of w) unit number)
      → unreset_lines i (log_of w) ≡ unreset_lines i (after (log_of w) (ResetDone unit number) knows)
      + (if are_empty (known_image i (after (log_of w) (ResetDone unit number) knows)) may.reset.chunk then 1 else 0)
  unreset_reset unit number may =
      count_more (is_unreset i new) (is_unreset i (log_of w)) i.shape.chunks line (if are_empty (known_image i new) line then 1 else 0)
      (in_range i w mount b begins unit number (may_note (log_of w) unit number may)) here (λ m apart. sym (beside m apart))
    where
      new : Logs
      new = after (log_of w) (ResetDone unit number) knows

      line : ℕ
      line = may.reset.chunk

      given : is_given_up (log_of w 0) may.reset.chunk ≡ true
      given = still_given i w mount b begins unit number (may_note (log_of w) unit number may)

      life : (m : ℕ) → life_of (after (log_of w) (ResetDone unit number) knows 0) m ≡ life_of (log_of w 0) m
      life m = life_more (log_of w 0) (record { event = Decides (ResetDone unit number); knows = knows }) m

      before : is_unreset i (log_of w) may.reset.chunk ≡ true
      before =
          let used : are_empty (known_image i (log_of w)) line ≡ false = unempty_now i w mount b begins unit number
          (may_note (log_of w) unit number may) in
          ap₂ (λ t u. t && not u) given used

      now : is_unreset i new may.reset.chunk ≡ not (are_empty (known_image i new) may.reset.chunk)
      now = ap (λ t. t && not (are_empty (known_image i new) line))
          (given_kept (log_of w) (ResetDone unit number) knows b line begins (life line) ∙ given)

      here : as_number (is_unreset i (log_of w) may.reset.chunk)
          ≡ as_number (is_unreset i new may.reset.chunk) + (if are_empty (known_image i new) may.reset.chunk then 1 else 0)
      here = ap as_number before ∙ go (are_empty (known_image i new) line)
          ∙ ap (λ t. as_number t + (if are_empty (known_image i new) line then 1 else 0)) (sym now)
        where
          go : (t : Bool) → 1 ≡ as_number (not t) + (if t then 1 else 0)
          go true = refl
          go false = refl

      at : unit_event_at (log_of w) unit number ≡ Some may.reset
      at = ap (option_and_then (λ (l : Logged). unit_event_of l.event)) may.new.is_known ∙ may.new.event

      beside : (m : ℕ) → m ≢ may.reset.chunk → is_unreset i new m ≡ is_unreset i (log_of w) m
      beside m apart = line_kept i (log_of w) (ResetDone unit number) knows b m begins (life m)
          (keeps_chunks i (log_of w) (ResetDone unit number) knows m refl (λ u x told same. apart (same
          ∙ ap (λ (y : UnitEvent). y.chunk) (one_told (log_of w) unit number u x may.reset at told))))

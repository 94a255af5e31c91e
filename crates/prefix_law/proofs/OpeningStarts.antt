-- The start record with which a line was opened is one of the mount: its front, and the rows of the
-- lines that were still as they were found.
use Rattle.std.proofs.Common.{◌≡◌, ℕ, ◌+◌, ◌-◌, ◌<◌, ◌≤◌, zero, suc, Bool, true, false, Some, None, Option, List, length, take, refl, sym, subst, ap, ◌∙◌, arith, if◌then◌else◌}
use Rattle.std.specs.Prelude.{slice_get}
use Rattle.std.specs.List.{Contains, range_with_len}
use Rattle.std.specs.Option.{option_map_or}
use Rattle.std.proofs.lemmas.Option.{none-some, slice_get_within}
use Rattle.pblk_model.specs.declared.shape.Shape.{Shape}
use Rattle.pblk_model.specs.Image.{Image}
use Rattle.pblk_model.specs.StartRecord.{Row, StartRecord, start_of}
use Rattle.pblk_model.specs.Contents.{head, end}
use Rattle.pblk_world.specs.Events.{Logged}
use Rattle.pblk_world.specs.World.{World, Logs, log_of}
use Rattle.pblk_world.specs.EngineLog.{Begun, begun, Opening, openings, AsFound, life_of, is_as_found}
use Rattle.pblk_world.specs.Fronts.{first_position, synced}
use Rattle.pblk_world.specs.Legal.{IsLegal}
use Rattle.pblk_world.specs.Lines.{found_by, found_image, next_seq}
use Rattle.pblk_world.specs.Starts.{bound_by, found_row, older_row, older_rows}
use Rattle.pblk_world.specs.Victims.{engine_prefix}
use Rattle.pblk_world.proofs.EngineLogLemmas.{begun_taken}
use Rattle.pblk_model.proofs.Lists.{IsAmong, among_contained}
use Rattle.pblk_model.proofs.Parts.{contained_among, take-all}
use Rattle.world_laws.proofs.Begun.{IsBegunWith, begun_with, first_is}
use Rattle.world_laws.proofs.StartRecords.{IsNthOpening, nth_opening, seq_of_nth, front_synced, front_from_first, opened_later}
use Rattle.world_laws.proofs.Stripes.{IsOpening, opening_is}
use Rattle.world_laws.proofs.ToldImages.{found_then}
use Rattle.world_laws.proofs.KeptChunks.{found_before}
use Rattle.prefix_law.specs.AfterMount.{start_row, start_rows, IsNewStart}
use Rattle.prefix_law.proofs.Among.{made_into, made_from}
use Rattle.prefix_law.proofs.RecordLines.{range_is}

-- what the mount begins with, by the image that it found
pub first_found : (i : Image) (w : World) (b : Begun) → IsLegal i w → begun (log_of w 0) ≡ Some b
    → first_position (log_of w 0) ≡ end (found_image i (log_of w))
first_found i w b legal begins = first_is (log_of w 0) b begins ∙ (begun_with i w b legal begins).first

-- ---- the row of a line at a length of the log

row_now : (i : Image) (logs : Logs) (found : Image) (line : ℕ) → found_image i logs ≡ found → first_position (logs 0) ≡ end found
    → (o : Option StartRecord) → found_row i logs line o ≡ start_row found line o
row_now i logs found line same first None = refl
row_now i logs found line same first (Some start) =
    ap (λ n. Some (record { line = line; seq = start.seq; bound = bound_by (head (found_image i logs)) n line start.seq })) first
    ∙ ap (λ (j : Image). Some (record { line = line; seq = start.seq; bound = bound_by (head j) (end found) line start.seq })) same

row_then : (i : Image) (logs : Logs) (found : Image) (line : ℕ) → found_image i logs ≡ found → first_position (logs 0) ≡ end found
    → older_row i logs line ≡ (if is_as_found (life_of (logs 0) line) then start_row found line (start_of found line) else None)
row_then i logs found line same first =
    ap (λ (o : Option Row). if is_as_found (life_of (logs 0) line) then o else None)
    (row_now i logs found line same first (start_of (found_image i logs) line) ∙ ap (λ (j : Image). start_row found line (start_of j line)) same)

-- a row of the record is one of the found image's
row_found : (i : Image) (logs : Logs) (found : Image) (row : Row) → i.shape ≡ found.shape → found_image i logs ≡ found
    → first_position (logs 0) ≡ end found → Contains (older_rows i logs) row → Contains (start_rows found) row
row_found i logs found row shape same first there =
    let made = made_from (older_row i logs) (range_with_len 0 i.shape.chunks) row (among_contained (older_rows i logs) row there) in
    let which = range_is i.shape.chunks made.0 made.1 made.2 in
    let number : made.1 ≡ made.0 = which.0 in
    let low : made.0 < i.shape.chunks = which.1 in
    go made.1 (made.0, ap (λ (s : Shape). slice_get (range_with_len 0 s.chunks) made.0) (sym shape) ∙ made.2)
    (is_as_found (life_of (logs 0) made.1)) (sym (row_then i logs found made.1 same first) ∙ made.3)
  where
    go : (line : ℕ) → IsAmong (range_with_len 0 found.shape.chunks) line → (b : Bool)
        → (if b then start_row found line (start_of found line) else None) ≡ Some row → Contains (start_rows found) row
    go line at false is = absurd (none-some row is)
    go line at true is = contained_among (start_rows found) row
        (made_into (λ l. start_row found l (start_of found l)) (range_with_len 0 found.shape.chunks) at.0 line row at.1 is)

-- the other way, where the line was still as it was found
found_row_there : (i : Image) (logs : Logs) (found : Image) (row : Row) → i.shape ≡ found.shape → found_image i logs ≡ found
    → first_position (logs 0) ≡ end found
    → life_of (logs 0) row.line ≡ AsFound → Contains (start_rows found) row → Contains (older_rows i logs) row
found_row_there i logs found row shape same first life there =
    let made = made_from (λ l. start_row found l (start_of found l)) (range_with_len 0 found.shape.chunks) row (among_contained (start_rows found) row there) in
    let line : made.1 ≡ row.line = its_line made.1 (start_of found made.1) made.3 in
    contained_among (older_rows i logs) row
    (made_into (older_row i logs) (range_with_len 0 i.shape.chunks) made.0 made.1 row
    (ap (λ (s : Shape). slice_get (range_with_len 0 s.chunks) made.0) shape ∙ made.2)
    (row_then i logs found made.1 same first
    ∙ ap (λ life. if is_as_found life then start_row found made.1 (start_of found made.1) else None) (ap (life_of (logs 0)) line ∙ life)
    ∙ made.3))
  where
    its_line : (line : ℕ) (o : Option StartRecord) → start_row found line o ≡ Some row → line ≡ row.line
    its_line line None is = absurd (none-some row is)
    its_line line (Some start) is = ap (λ (o : Option Row). option_map_or (λ (r : Row). r.line) o 0) is

-- ---- an opening's start record

-- what the engine knew of the beginning when it opened the line
record IsBegunThen (i : Image) (w : World) (o : Opening) : Type 0 where
  found : found_image i (engine_prefix o.number (log_of w)) ≡ found_image i (log_of w)
  first : first_position (take o.number (log_of w 0)) ≡ first_position (log_of w 0)

begun_then : (i : Image) (w : World) (o : Opening) → 0 < o.number → IsBegunThen i w o
begun_then i w o later = go o.number refl later
  where
    go : (n : ℕ) → o.number ≡ n → 0 < n → IsBegunThen i w o
    go zero e low = absurd (omega arith)
    go (suc n) e low = record {
      found = ap (λ m. found_image i (engine_prefix m (log_of w))) e ∙ found_then i (log_of w) n;
      first = ap (λ (g : Option Begun). option_map_or (λ (b : Begun). b.beginning.first) g 0) (begun_taken o.number (log_of w 0) later);
    }

pub record IsStarted (i : Image) (w : World) (o : Opening) : Type 0 where
  pub start : IsNewStart (found_image i (log_of w)) (synced i.shape (log_of w 0)) o.start
  pub in_range : o.line < i.shape.chunks
  -- a row of the found image is one of the record's, where its line is still as it was found
  pub rows : (row : Row) → Contains (start_rows (found_image i (log_of w))) row → life_of (log_of w 0) row.line ≡ AsFound → Contains o.start.rows row

found_earlier : (log : List Logged) (line n : ℕ) → n ≤ length log → life_of log line ≡ AsFound → life_of (take n log) line ≡ AsFound
found_earlier log line n within is =
    let whole : n + (length log - n) ≡ length log = omega arith in
    found_before log line n (length log - n) (omega arith)
    (ap (λ m. life_of (take m log) line) whole ∙ ap (λ (xs : List Logged). life_of xs line) (take-all log) ∙ is)

pub found_shape : (i : Image) (logs : Logs) → i.shape ≡ (found_image i logs).shape
found_shape i logs = go (begun (logs 0))
  where
    go : (g : Option Begun) → i.shape ≡ (found_by i logs g).shape
    go None = refl
    go (Some b) = refl

pub started : (i : Image) (w : World) (o : Opening) → IsLegal i w → Contains (openings (log_of w 0)) o → IsStarted i w o
started i w o legal there =
    let at = among_contained (openings (log_of w 0)) o there in
    let is : IsNthOpening i w at.0 o = nth_opening i w at.0 o legal at.1 in
    let seq : o.start.seq ≡ is.g.beginning.seq + at.0 = seq_of_nth i w at.0 o is.g legal is.is_begun at.1 in
    let begins : IsBegunWith i w is.g = begun_with i w is.g legal is.is_begun in
    let next : is.g.beginning.seq ≡ next_seq (head (found_image i (log_of w))) = begins.seq in
    let first : first_position (log_of w 0) ≡ end (found_image i (log_of w)) = first_found i w is.g legal is.is_begun in
    let from : first_position (log_of w 0) ≤ o.start.front = front_from_first i w at.0 o legal at.1 in
    let opening : IsOpening (log_of w 0) at.0 o = opening_is (log_of w 0) at.0 o at.1 in
    let within : o.number < length (log_of w 0) = slice_get_within (log_of w 0) o.number opening.logged opening.there in
    let was : IsBegunThen i w o = begun_then i w o (opened_later i w at.0 o legal at.1) in record {
      start = record {
        first_seq = is.may.first_seq ∙ begins.seq;
        seq = omega arith;
        from = omega arith;
        within = front_synced i w at.0 o legal at.1;
        rows = λ row among. row_found i (engine_prefix o.number (log_of w)) (found_image i (log_of w)) row (found_shape i (log_of w)) was.found
            (was.first ∙ first) (subst (λ (rows : List Row). Contains rows row) is.may.rows among);
      };
      in_range = is.may.in_range;
      rows = λ row among life. subst (λ (rows : List Row). Contains rows row) (sym is.may.rows)
          (found_row_there i (engine_prefix o.number (log_of w)) (found_image i (log_of w)) row (found_shape i (log_of w)) was.found
          (was.first ∙ first) (found_earlier (log_of w 0) row.line o.number (omega arith) life) among);
    }

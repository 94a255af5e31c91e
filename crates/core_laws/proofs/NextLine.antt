-- The least Free row of the table is the line that may be opened.
use Rattle.std.proofs.Common.{◌≡◌, ℕ, ◌+◌, ◌<◌, ◌≤◌, nat_lt, Bool, true, false, cond, Some, None, List, length, get_or, refl, sym, ap, ◌∙◌, arith}
use Rattle.std.specs.Prelude.{slice_get, position}
use Rattle.std.specs.List.{position_or_len}
use Rattle.std.proofs.lemmas.List.Quantifiers.{position-Some}
use Rattle.std.proofs.lemmas.List.Sums.{fails_before_first}
use Rattle.std.proofs.lemmas.List.FromFn.{length-map-range_with_len}
use Rattle.std.proofs.lemmas.Option.{none-some}
use Rattle.pblk_model.specs.Image.{Image}
use Rattle.pblk_model.specs.StartRecord.{StartRecord}
use Rattle.pblk_world.specs.World.{Logs}
use Rattle.pblk_world.specs.EngineLog.{Begun}
use Rattle.pblk_world.specs.Lines.{is_free_line, has_stripe_left}
use Rattle.pblk_world.specs.Opening.{MayOpen}
use Rattle.line_table.specs.Rows.{is_free}
use Rattle.core_laws.specs.RowsOf.{row_of_line, rows_of}
use Rattle.core_laws.proofs.PlacedLines.{get_row as row_there}
use Rattle.core_laws.specs.LeastFree.{IsLeastFree, IsStartOf}
use Rattle.core_laws.proofs.RangeSums.{value_at}
use Rattle.core_laws.proofs.FreeRows.{row_free, free_width}

free_at : (i : Image) (logs : Logs) (line : ℕ) (b : Bool) → line < i.shape.chunks → is_free (get_or (rows_of i logs).rows line (row_of_line i logs 0)) ≡ b
    → is_free_line i logs line ≡ b
free_at i logs line b within e =
    let first : 0 + line ≡ line = omega arith in
    sym (row_free i logs line)
    ∙ ap (λ m. is_free (row_of_line i logs m)) (sym first)
    ∙ ap is_free (sym (value_at (row_of_line i logs) i.shape.chunks 0 line (row_of_line i logs 0) within))
    ∙ e

pub least_free : (i : Image) (logs : Logs) (line : ℕ) → position is_free (rows_of i logs).rows ≡ Some line → IsLeastFree i logs line
least_free i logs line e =
    let there = position-Some is_free (rows_of i logs).rows line (row_of_line i logs 0) e in
    let count : length (rows_of i logs).rows ≡ i.shape.chunks = length-map-range_with_len (row_of_line i logs) 0 i.shape.chunks in
    let below : line < length (rows_of i logs).rows = there.0 in
    let inside : line < i.shape.chunks = omega arith in
    record {
      in_range = inside;
      is_free = free_at i logs line true inside there.1;
      is_first = λ other before. free_at i logs other false (omega arith) (there.2 other before);
    }

no_place : {X : Type 0} (p : X → Bool) (xs : List X) (d : X) → position p xs ≡ None → (k : ℕ) → k < length xs → p (get_or xs k d) ≡ false
no_place {X} p xs d e k within = go (nat_lt (position_or_len p xs) (length xs)) refl
  where
    go : (b : Bool) → nat_lt (position_or_len p xs) (length xs) ≡ b → p (get_or xs k d) ≡ false
    go true f = absurd (none-some (position_or_len p xs) (sym e ∙ ap (λ b. cond b (Some (position_or_len p xs)) None) f))
    go false f =
        let past : length xs ≤ position_or_len p xs = grind arith in
        fails_before_first p xs k d (omega arith)

pub none_free : (i : Image) (logs : Logs) (line : ℕ) → position is_free (rows_of i logs).rows ≡ None → line < i.shape.chunks → is_free_line i logs line ≡ false
none_free i logs line e within =
    let count : length (rows_of i logs).rows ≡ i.shape.chunks = length-map-range_with_len (row_of_line i logs) 0 i.shape.chunks in
    free_at i logs line false within (no_place is_free (rows_of i logs).rows (row_of_line i logs 0) e line (omega arith))

pub may_open : (i : Image) (logs : Logs) (begun : Begun) (line : ℕ) (start : StartRecord) → position is_free (rows_of i logs).rows ≡ Some line
    → ((m n : ℕ) → m < i.shape.chunks → n < i.shape.chunks → has_stripe_left i logs m ≡ true → has_stripe_left i logs n ≡ true → m ≡ n)
    → IsStartOf i logs begun line start → MayOpen i logs begun line start
may_open i logs begun line start e one is =
    let least : IsLeastFree i logs line = least_free i logs line e in
    let first : 0 + line ≡ line = omega arith in
    let there : slice_get (rows_of i logs).rows line ≡ Some (row_of_line i logs line) =
    row_there (row_of_line i logs) i.shape.chunks 0 line least.in_range ∙ ap (λ m. Some (row_of_line i logs m)) first in
    record {
      in_range = least.in_range;
      is_free = least.is_free;
      is_first = least.is_first;
      one_other = one;
      own_line = is.own_line;
      own_width = is.own_width (row_of_line i logs line) there ∙ free_width i logs line least.is_free;
      own_capacity = is.capacity;
      seq = is.seq;
      first_seq = is.first_seq;
      front = is.front;
      rows = is.rows;
      seq_number = is.seq_number;
      front_number = is.front_number;
    }

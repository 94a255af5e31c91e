-- The Free rows of the table are the Free lines of the logs.
use Rattle.std.proofs.Common.{◌≡◌, ℕ, ◌+◌, ◌==◌, ◌&&◌, nat_eq, nat_lt, not, Bool, true, false, Some, None, Option, refl, sym, ap, ◌∙◌, arith, if◌then◌else◌}
use Rattle.std.specs.List.{range_with_len}
use Rattle.std.specs.Option.{is_some}
use Rattle.std.proofs.lemmas.Bool.{eqb-true, eqb-false}
use Rattle.std.proofs.lemmas.List.Folds.{fold-map}
use Rattle.pblk_model.specs.LineOrder.{data_len}
use Rattle.pblk_model.specs.Image.{Image, width}
use Rattle.pblk_model.specs.StartRecord.{StartRecord, start_of}
use Rattle.pblk_model.specs.EndRecord.{end_of}
use Rattle.pblk_world.specs.World.{Logs}
use Rattle.pblk_world.specs.EngineLog.{LineLife, AsFound, Opened, Freed, life_of, has_failed}
use Rattle.pblk_world.specs.Lines.{found_image, known_image, line_data, are_empty, has_number, is_free_line}
use Rattle.pblk_world.specs.Starts.{have_landed}
use Rattle.pblk_world.specs.Space as space
use Rattle.line_table.specs.declared.row.LineState.TheVariants.{Free, Open, Full, Failed, Dead}
use Rattle.line_table.specs.declared.row.LineState.TheVariants as states
use Rattle.line_table.specs.Rows.{is_free_state, is_free, free_len, free_addresses}
use Rattle.core_laws.specs.RowsOf.{state_found, state_in, logs_then, width_given_up, width_in, row_of_line, rows_of}
use Rattle.core_laws.proofs.RangeSums.{sum_same}
use Rattle.pblk_model.proofs.Tests.{both, lt_true}
use Rattle.line_table.proofs.RowsLemmas.{free_state as only_free}

-- ---- one line

given_up_free : (b : Bool) (n : ℕ) → is_free_state (if b then (if n == 0 then Dead else Free) else states.Freed) ≡ (b && nat_lt 0 n)
given_up_free false n = refl
given_up_free true n = go (nat_eq n 0) refl
  where
    go : (c : Bool) → nat_eq n 0 ≡ c → is_free_state (if c then Dead else Free) ≡ nat_lt 0 n
    go true e = ap (nat_lt 0) (sym (eqb-true n 0 e))
    go false e = sym (lt_true 0 n (let other = eqb-false n 0 e in omega arith))

opened_free : (b c : Bool) → is_free_state (if b then Failed else if c then Full else Open) ≡ false
opened_free true c = refl
opened_free false true = refl
opened_free false false = refl

found_free : (b : Bool) → is_free_state (if b then Full else Failed) ≡ false
found_free true = refl
found_free false = refl

state_free : (i : Image) (logs : Logs) (line : ℕ) (life : LineLife)
    → is_free_state (state_in i logs line life) ≡
    (not (has_number i logs life line) && are_empty (known_image i logs) line && nat_lt 0 (line_data (known_image i logs) line))
state_free i logs line AsFound = go (start_of (found_image i logs) line)
  where
    go : (o : Option StartRecord) → is_free_state (state_found i logs line o) ≡
        (not (is_some o) && are_empty (known_image i logs) line && nat_lt 0 (line_data (known_image i logs) line))
    go None = given_up_free (are_empty (known_image i logs) line) (line_data (known_image i logs) line)
    go (Some start) = found_free (is_some (end_of (found_image i logs) line start))
state_free i logs line (Opened o) = opened_free (has_failed (logs 0) o) (have_landed (logs 0) o _)
state_free i logs line (Freed past knows) = given_up_free (are_empty (known_image i logs) line) (line_data (known_image i logs) line)

pub row_free : (i : Image) (logs : Logs) (line : ℕ) → is_free (row_of_line i logs line) ≡ is_free_line i logs line
row_free i logs line = state_free i logs line (life_of (logs 0) line)

pub free_state : (i : Image) (logs : Logs) (line : ℕ) → is_free_line i logs line ≡ true → (row_of_line i logs line).state ≡ Free
free_state i logs line e = only_free (row_of_line i logs line).state (row_free i logs line ∙ e)

-- ---- the free addresses

width_given : (i : Image) (logs then_ : Logs) (line : ℕ) → are_empty (known_image i logs) line ≡ true
    → width_given_up i logs then_ line ≡ width (known_image i logs) line
width_given i logs then_ line e = ap (λ b. if b then width (known_image i logs) line else width (known_image i then_) line) e

-- the width of a Free line is that of the image as it is known
width_free : (i : Image) (logs : Logs) (line : ℕ) (life : LineLife) → (not (has_number i logs life line) && are_empty (known_image i logs) line) ≡ true
    → width_in i logs line life ≡ width (known_image i logs) line
width_free i logs line AsFound e =
    ap (λ b. if b then width (known_image i logs) line else width (found_image i logs) line)
    (both (not (is_some (start_of (found_image i logs) line))) (are_empty (known_image i logs) line) e).1
width_free i logs line (Opened o) e = absurd cc
width_free i logs line (Freed past knows) e = width_given i logs (logs_then knows logs) line e

pub free_width : (i : Image) (logs : Logs) (line : ℕ) → is_free_line i logs line ≡ true → (row_of_line i logs line).width ≡ width (known_image i logs) line
free_width i logs line e = width_free i logs line (life_of (logs 0) line)
    (both (not (has_number i logs (life_of (logs 0) line) line) && are_empty (known_image i logs) line) (nat_lt 0 (line_data (known_image i logs) line)) e).0

len_by : (i : Image) (logs : Logs) (line : ℕ) (b : Bool) → is_free_line i logs line ≡ b
    → (if b then data_len i.shape (row_of_line i logs line).width else 0) ≡ (if b then line_data (known_image i logs) line else 0)
len_by i logs line false e = refl
len_by i logs line true e = ap (data_len i.shape) (free_width i logs line e)

row_len : (i : Image) (logs : Logs) (line : ℕ)
    → free_len i.shape (row_of_line i logs line) ≡ (if is_free_line i logs line then line_data (known_image i logs) line else 0)
unfolding free_len
row_len i logs line =
    ap (λ b. if b then data_len i.shape (row_of_line i logs line).width else 0) (row_free i logs line)
    ∙ len_by i logs line (is_free_line i logs line) refl

pub addresses_free : (i : Image) (logs : Logs) → free_addresses (rows_of i logs) ≡ space.free_addresses i logs
addresses_free i logs =
    fold-map (λ a row. a + free_len i.shape row) (row_of_line i logs) 0 (range_with_len 0 i.shape.chunks)
    ∙ sum_same (λ line. free_len i.shape (row_of_line i logs line)) (λ line. if is_free_line i logs line then line_data (known_image i logs) line else 0)
    (row_len i logs) (range_with_len 0 i.shape.chunks)

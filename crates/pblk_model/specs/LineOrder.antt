-- A line is the chunks of one index over all units. Its width g is the number of those that aren't Offline. The
-- line's addresses run over them in stripes of WS_OPT blocks, chunk by chunk in the order of their units, and
-- row by row.
use Rattle.std.specs.Prelude.{ℕ, ◌+◌, ◌-◌, ◌*◌, ◌/◌, ◌%◌, ◌<◌, ◌≤◌, ◌≡◌, if◌then◌else◌, nat_lt, List, map}
use Rattle.std.specs.List.{flat_map, range_with_len}
use Rattle.std.specs.Int.{div_ceil}
use Rattle.pblk_model.specs.declared.shape.Shape.{Shape}

-- The blocks of a line of these units, in line order, each as a unit and a block of its chunk: row by row, unit
-- by unit, the blocks of a stripe.
abbrev pub line_order : Shape → List ℕ → List (ℕ × ℕ)
line_order s line_units = flat_map
    (λ row. flat_map (λ unit. map (λ k. (unit, row * s.ws_opt + k)) (range_with_len 0 s.ws_opt)) line_units)
    (range_with_len 0 (s.clba / s.ws_opt))

-- The same as equations: which of the line's g units, in their order, has a line address, and which block of
-- its chunk that is.
abbrev pub column_of : Shape → ℕ → ℕ → ℕ
column_of s g a = (a / s.ws_opt) % g

abbrev pub block_of : Shape → ℕ → ℕ → ℕ
block_of s g a = (a / s.ws_opt) / g * s.ws_opt + a % s.ws_opt

-- the line address of a block in the column k
abbrev pub address_of : Shape → ℕ → ℕ → ℕ → ℕ
address_of s g k b = ((b / s.ws_opt) * g + k) * s.ws_opt + b % s.ws_opt

-- n is the least positive multiple of w for which P holds
pub record IsLeastMultiple (w : ℕ) (P : ℕ → Type 0) (n : ℕ) : Type 0 where
  pub multiple : (k : ℕ) × (0 < k) × (n ≡ w * k)
  pub holds : P n
  pub least : (k : ℕ) → 0 < k → P (w * k) → n ≤ w * k

-- e blocks hold a start record: a header, and a row for each other line
abbrev pub HoldsStart : Shape → ℕ → Type 0
HoldsStart s e = 64 + 24 * (s.chunks - 1) ≤ e * s.sector

-- how many blocks at a line's front its start record takes: the least number of whole stripes that hold one
abbrev pub start_len : Shape → ℕ
start_len s = s.ws_opt * div_ceil (64 + 24 * (s.chunks - 1)) (s.ws_opt * s.sector)

-- e blocks hold an end record of a line of width g: a header, and a mark for each block between the two records
abbrev pub HoldsEnd : Shape → ℕ → ℕ → Type 0
HoldsEnd s g e = 32 + 16 * (g * s.clba - start_len s - e) ≤ e * s.sector

-- how many blocks at a line's end its end record takes: the least number of whole stripes that hold one
abbrev pub end_len : Shape → ℕ → ℕ
end_len s g = s.ws_opt * div_ceil (32 + 16 * (g * s.clba - start_len s)) (s.ws_opt * (s.sector + 16))

-- how many blocks between the two hold data; a line with less than a stripe of them is dead
abbrev pub data_len : Shape → ℕ → ℕ
data_len s g = let between = g * s.clba - start_len s - end_len s g in if nat_lt between s.ws_opt then 0 else between

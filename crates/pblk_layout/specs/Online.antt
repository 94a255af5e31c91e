-- Sets of units as bits: bit u is that of unit u.
use Rattle.std.specs.Prelude.{ℕ, ◌≡◌, ◌<◌, ◌==◌, Bool, false, List, slice_get}
use Rattle.std.specs.List.{filter, range_with_len}
use Rattle.std.specs.Int.{bit_at}
use Rattle.std.specs.Option.{option_map_or}
use Rattle.pblk_model.specs.Image.{Image, is_online_in}

abbrev pub is_in : ℕ → ℕ → Bool
is_in online unit = bit_at online unit == 1

-- the units below n whose bits are set, rising
abbrev pub units_below : ℕ → ℕ → List ℕ
units_below online n = filter (is_in online) (range_with_len 0 n)

-- the units whose bits are set, rising
unfoldable pub units_in : ℕ → List ℕ
units_in online = units_below online 64

-- whether a unit has a chunk of the line that isn't Offline
abbrev pub is_online : Image → ℕ → ℕ → Bool
is_online i line unit = option_map_or (λ chunks. option_map_or (λ c. is_online_in c.state) (slice_get chunks line) false) (slice_get i.units unit) false

-- the bits say so of each unit
abbrev pub HasOnlineUnits : Image → ℕ → ℕ → Type 0
HasOnlineUnits i line online = (unit : ℕ) → unit < 64 → is_in online unit ≡ is_online i line unit

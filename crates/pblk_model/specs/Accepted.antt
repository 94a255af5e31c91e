-- Which shapes of a drive and its target the program takes. They are said as checks, of which the first that
-- fails is the refusal, and as the facts that the checks come to.
use Rattle.std.specs.Prelude.{ℕ, ◌+◌, ◌-◌, ◌*◌, ◌%◌, ◌^◌, ◌<◌, ◌≤◌, ◌≡◌, ◌⊎◌, ◌==◌, ◌&&◌, ◌||◌, not, nat_lt, nat_le, Bool, List, [], ◌∷◌, Option}
use Rattle.std.specs.List.{list_any, range_with_len}
use Rattle.std.specs.Option.{option_map}
use Rattle.std.specs.Int.{IsPowerOfTwo}
use Rattle.pblk_model.specs.declared.shape.Shape.{Shape}
use Rattle.pblk_model.specs.declared.shape.ShapeErr.{ShapeErr}
use Rattle.pblk_model.specs.declared.shape.ShapeErr.TheVariants as errors
use Rattle.pblk_model.specs.Checks.{first_failing, first_refusal}
use Rattle.pblk_model.specs.Shape.{units}
use Rattle.pblk_model.specs.LineOrder.{data_len}

-- each number that must not be 0, by the place of its field in a geometry, with whether it isn't 0
abbrev pub count_checks : Shape → List (ℕ × Bool)
count_checks s = (64, not (s.groups == 0))
    ∷ (66, not (s.pus == 0))
    ∷ (68, not (s.chunks == 0))
    ∷ (72, not (s.clba == 0))
    ∷ (128, not (s.ws_min == 0))
    ∷ (132, not (s.ws_opt == 0))
    ∷ []

-- each rule of the drives that the target takes, by its number, with whether it holds
abbrev pub drive_checks : Shape → List (ℕ × Bool)
drive_checks s = (1, nat_le (s.groups * s.pus) 64)
    ∷ (2, nat_le 8 s.chunks && nat_le s.chunks 1024)
    ∷ (3, (s.ws_opt % s.ws_min == 0) && nat_le s.ws_opt 64)
    ∷ (4, s.clba % s.ws_opt == 0)
    ∷ (5, (s.mw_cunits % s.ws_opt == 0) && nat_lt s.mw_cunits s.clba)
    ∷ []

-- 2 to the 0 up to 2 to the 14
abbrev pub is_ring_power : ℕ → Bool
is_ring_power n = list_any (λ k. n == 2 ^ k) (range_with_len 0 15)

-- each rule of the settings, by its number, with whether it holds
abbrev pub settings_checks : Shape → List (ℕ × Bool)
settings_checks s = (1, (s.sector == 512) || (s.sector == 4096))
    ∷ (2, nat_le (units s * s.chunks * s.clba * s.sector) 268435456)
    ∷ (3, nat_le ((16 + s.ws_opt) * s.ws_opt) (2 * data_len s (units s)))
    ∷ (4, nat_le 1 s.capacity && nat_lt s.capacity (2 ^ 40) && nat_le (4 * s.capacity) (3 * (s.chunks - 5) * data_len s (units s)))
    ∷ (5, is_ring_power s.ring && nat_le (units s * (s.mw_cunits + 4 * s.ws_opt) + 16) s.ring)
    ∷ []

-- why a shape isn't accepted
abbrev pub shape_refusal : Shape → Option ShapeErr
shape_refusal s = first_refusal (option_map errors.Field (first_failing (count_checks s))
    ∷ option_map errors.Profile (first_failing (drive_checks s))
    ∷ option_map errors.Settings (first_failing (settings_checks s))
    ∷ [])

-- The same as facts.

-- no count is 0
pub record HasCounts (s : Shape) : Type 0 where
  pub groups : 0 < s.groups
  pub pus : 0 < s.pus
  pub chunks : 0 < s.chunks
  pub clba : 0 < s.clba
  pub ws_min : 0 < s.ws_min
  pub ws_opt : 0 < s.ws_opt

-- what a drive must be
pub record IsDriveShape (s : Shape) : Type 0 where
  pub groups : 0 < s.groups
  pub pus : 0 < s.pus
  pub clba : 0 < s.clba
  pub ws_min : 0 < s.ws_min
  pub ws_opt : 0 < s.ws_opt
  pub few_units : units s ≤ 64
  pub lines_low : 8 ≤ s.chunks
  pub lines_high : s.chunks ≤ 1024
  pub whole_writes : s.ws_opt % s.ws_min ≡ 0
  pub short_stripes : s.ws_opt ≤ 64
  pub whole_stripes : s.clba % s.ws_opt ≡ 0
  pub whole_cache : s.mw_cunits % s.ws_opt ≡ 0
  pub short_cache : s.mw_cunits < s.clba

-- what a target on it must be
pub record IsTargetShape (s : Shape) : Type 0 where
  pub sector : (s.sector ≡ 512) ⊎ (s.sector ≡ 4096)
  pub size : units s * s.chunks * s.clba * s.sector ≤ 268435456
  pub room : (16 + s.ws_opt) * s.ws_opt ≤ 2 * data_len s (units s)
  pub some_capacity : 1 ≤ s.capacity
  pub capacity_number : s.capacity < 2 ^ 40
  pub spare : 4 * s.capacity ≤ 3 * (s.chunks - 5) * data_len s (units s)
  pub ring_power : IsPowerOfTwo s.ring
  pub ring_low : units s * (s.mw_cunits + 4 * s.ws_opt) + 16 ≤ s.ring
  pub ring_high : s.ring ≤ 16384

-- a drive whose sectors have a size that is taken, as the lengths of its lines ask for
pub record IsMeasured (s : Shape) : Type 0 where
  pub drive : IsDriveShape s
  pub sector : (s.sector ≡ 512) ⊎ (s.sector ≡ 4096)

pub record IsAccepted (s : Shape) : Type 0 where
  pub drive : IsDriveShape s
  pub target : IsTargetShape s

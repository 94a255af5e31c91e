-- Where no chunk of a line is Offline, each unit of the drive is one of the line's.
use Rattle.std.proofs.Common.{◌≡◌, ℕ, ◌+◌, ◌<◌, Bool, true, false, List, Some, length, ap, ◌∙◌, arith}
use Rattle.std.specs.Prelude.{slice_get}
use Rattle.std.specs.List.{enumerate_from, filter, list_all}
use Rattle.std.specs.Option.{option_map_or}
use Rattle.std.proofs.lemmas.List.{length-map}
use Rattle.std.proofs.lemmas.List.FromFn.{length-enumerate_from}
use Rattle.pblk_model.specs.Chunk.{Chunk}
use Rattle.pblk_model.specs.Image.{Image, is_online_in, line_units, width}
use Rattle.pblk_laws.proofs.LineUnits.{line_units_count}
use Rattle.pblk_model.proofs.Lists.{IsAmong}
use Rattle.pblk_model.proofs.Maps.{enumerate_get, in_map, kept_at}
use Rattle.pblk_model.proofs.Parts.{got_within}
use Rattle.world_laws.proofs.FoundEmpty.{all_pass}
use Rattle.core_laws.proofs.LandedCounts.{count_all}

-- the unit has a chunk of the line that isn't Offline
abbrev is_on : ℕ → ℕ × List Chunk → Bool
is_on line unit = option_map_or (λ (c : Chunk). is_online_in c.state) (slice_get unit.1 line) false

abbrev number_of : ℕ × List Chunk → ℕ
number_of unit = unit.0

pub column_of_unit : (i : Image) (line unit : ℕ) → width i line ≡ length i.units → unit < length i.units
    → (c : ℕ) × (slice_get (line_units i line) c ≡ Some unit)
column_of_unit i line unit wide inside =
    let numbered : List (ℕ × List Chunk) = enumerate_from 0 i.units in
    let count : length (line_units i line) ≡ width i line = line_units_count i line in
    let kept : length (line_units i line) ≡ length (filter (is_on line) numbered) = length-map (filter (is_on line) numbered) number_of in
    let all : length numbered ≡ length i.units = length-enumerate_from 0 i.units in
    let each : list_all (is_on line) numbered ≡ true = count_all (is_on line) numbered (omega arith) in
    let at = got_within i.units unit inside in
    let here : slice_get numbered unit ≡ Some (0 + unit, at.0) = enumerate_get 0 i.units unit at.0 at.1 in
    let passes : is_on line (0 + unit, at.0) ≡ true = all_pass (is_on line) numbered unit (0 + unit, at.0) each here in
    let its : IsAmong (line_units i line) (0 + unit) =
    in_map number_of (filter (is_on line) numbered) (0 + unit, at.0) (kept_at (is_on line) numbered (0 + unit, at.0) unit here passes) in
    let same : 0 + unit ≡ unit = omega arith in
    (its.0, its.1 ∙ ap (λ u. Some u) same)

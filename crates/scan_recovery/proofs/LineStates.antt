-- The chunks of a line, unit by unit.
use Rattle.std.proofs.Common.{◌≡◌, ℕ, ◌+◌, ◌<◌, ◌≤◌, suc, inl, inr, Bool, true, false, ◌&&◌, List, [], ◌∷◌, length, Option, Some, None, refl, sym, ap, ◌∙◌, arith}
use Rattle.std.specs.List.{cons_option, filter_map, list_all, slice_get}
use Rattle.std.specs.Option.{option_and_then, option_map_or}
use Rattle.std.proofs.lemmas.Bool.{cases_lt}
use Rattle.pblk_model.specs.Chunk.{Chunk}
use Rattle.pblk_model.specs.declared.chunk.ChunkState.{ChunkState}
use Rattle.pblk_model.specs.Image.{Image, is_online_in}
use Rattle.pblk_laws.specs.LineBlocks.{chunk_in}
use Rattle.pblk_world.specs.Lines.{are_empty, is_empty_state}
use Rattle.scan_recovery.specs.Units.{IsStateOf}
use Rattle.world_laws.proofs.FoundStates.{some_used}
use Rattle.pblk_laws.proofs.LineUnits.{is_online_at}

pub on_is : (i : Image) (line unit : ℕ) (state : ChunkState) → IsStateOf i line unit state → is_online_at i line unit ≡ is_online_in state
on_is i line unit state (c, there, is) = ap (λ o. option_map_or (λ (c : Chunk). is_online_in c.state) o false) there ∙ ap is_online_in (sym is)

-- Whether a line is empty.

abbrev empties : ℕ → List (List Chunk) → Bool
empties line us = list_all (λ (c : Chunk). is_empty_state c.state) (filter_map (λ unit. slice_get unit line) us)

cons_all : (o : Option Chunk) (cs : List Chunk) → option_map_or (λ (c : Chunk). is_empty_state c.state) o true ≡ true
    → list_all (λ (c : Chunk). is_empty_state c.state) (cons_option o cs) ≡ list_all (λ (c : Chunk). is_empty_state c.state) cs
cons_all None cs h = refl
cons_all (Some c) cs h = ap (λ b. b && list_all (λ (c : Chunk). is_empty_state c.state) cs) h

pub all_empty : (line : ℕ) (us : List (List Chunk))
    → ((k : ℕ) → k < length us → option_map_or (λ (c : Chunk). is_empty_state c.state)
    (option_and_then (λ chunks. slice_get chunks line) (slice_get us k)) true ≡ true) → empties line us ≡ true
all_empty line [] h = refl
all_empty line (u ∷ us) h = cons_all (slice_get u line) (filter_map (λ unit. slice_get unit line) us) (h 0 (omega arith))
    ∙ all_empty line us (λ k below. h (suc k) (omega arith))

-- the first n units have no used chunk of the line
abbrev pub AreEmptyTo : Image → ℕ → ℕ → Type 0
AreEmptyTo i line n = (k : ℕ) → k < n → option_map_or (λ (c : Chunk). is_empty_state c.state) (chunk_in i line k) true ≡ true

pub empty_more : (i : Image) (line unit : ℕ) (state : ChunkState) → IsStateOf i line unit state → is_empty_state state ≡ true → AreEmptyTo i line unit
    → AreEmptyTo i line (unit + 1)
empty_more i line unit state (c, there, is) empty before k below = elim (cases_lt k unit) [
  | inl less ↦ before k less
  | inr most ↦ let same : k ≡ unit = omega arith in ap (λ n. option_map_or (λ (c : Chunk). is_empty_state c.state) (chunk_in i line n) true) same
      ∙ ap (λ o. option_map_or (λ (c : Chunk). is_empty_state c.state) o true) there ∙ ap is_empty_state (sym is) ∙ empty
]

pub is_empty_line : (i : Image) (line n : ℕ) → length i.units ≤ n → AreEmptyTo i line n → are_empty i line ≡ true
is_empty_line i line n few before = all_empty line i.units (λ k below. before k (omega arith))

pub is_used_line : (i : Image) (line unit : ℕ) (state : ChunkState) → IsStateOf i line unit state → is_empty_state state ≡ false → are_empty i line ≡ false
is_used_line i line unit state (c, there, is) used = some_used line i.units unit c there (ap is_empty_state (sym is) ∙ used)

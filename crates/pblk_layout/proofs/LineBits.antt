-- The units of a line of an image, as bits.
use Rattle.std.proofs.Common.{◌≡◌, ℕ, ◌+◌, ◌<◌, ◌≤◌, zero, suc, Bool, false, cond, List, [], ◌∷◌, map, length, sym, ap, ◌∙◌, arith, add-zero}
use Rattle.std.specs.List.{slice_get, filter, range_with_len, enumerate_from}
use Rattle.std.specs.Option.{option_map_or}
use Rattle.pblk_model.specs.Chunk.{Chunk}
use Rattle.pblk_model.specs.Image.{Image, is_online_in, line_units}
use Rattle.pblk_layout.specs.Online.{is_in, units_in, HasOnlineUnits}
use Rattle.pblk_model.proofs.Maps.{none_kept}
use Rattle.pblk_model.proofs.ChunkLemmas.{map_cond}

-- whether a unit's chunks have one of the line that isn't Offline
unfoldable pub has_chunk : ℕ → List Chunk → Bool
has_chunk line chunks = option_map_or (λ (c : Chunk). is_online_in c.state) (slice_get chunks line) false

-- the units from the ath on that have a chunk of the line are the numbers from a on for which the test says so
pub units_kept : (line : ℕ) (p : ℕ → Bool) (a n : ℕ) (units : List (List Chunk)) → length units ≤ n
    → ((k : ℕ) → k < n → p (a + k) ≡ option_map_or (has_chunk line) (slice_get units k) false)
    → filter p (range_with_len a n) ≡ map (λ (unit : ℕ × List Chunk). unit.0)
    (filter (λ (unit : ℕ × List Chunk). has_chunk line unit.1) (enumerate_from a units))
units_kept line p a n [] few h = none_kept p a n h
units_kept line p a zero (unit ∷ units) few h = absurd (omega arith)
units_kept line p a (suc n) (unit ∷ units) few h =
    let first : p a ≡ has_chunk line unit = ap p (sym (add-zero a)) ∙ h 0 (omega arith) in
    let rest : filter p (range_with_len (a + 1) n) ≡ map (λ (u : ℕ × List Chunk). u.0)
    (filter (λ (u : ℕ × List Chunk). has_chunk line u.1) (enumerate_from (a + 1) units)) =
    units_kept line p (a + 1) n units (omega arith) (λ k l. let place : a + 1 + k ≡ a + suc k = omega arith in ap p place ∙ h (suc k) (omega arith)) in
    ap (λ b. cond b (a ∷ filter p (range_with_len (a + 1) n)) (filter p (range_with_len (a + 1) n))) first
    ∙ ap (λ xs. cond (has_chunk line unit) (a ∷ xs) xs) rest
    ∙ sym (map_cond (has_chunk line unit) (a, unit) (filter (λ (u : ℕ × List Chunk). has_chunk line u.1) (enumerate_from (a + 1) units)))

pub line_bits : (i : Image) (line online : ℕ) → length i.units ≤ 64 → HasOnlineUnits i line online → units_in online ≡ line_units i line
unfolding units_in has_chunk
line_bits i line online few h =
    units_kept line (is_in online) 0 64 i.units few (λ k l. let place : 0 + k ≡ k = omega arith in ap (is_in online) place ∙ h k l)

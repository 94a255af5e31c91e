-- The units of a line, and the blocks that their order has.
use Rattle.std.proofs.Common.{◌≡◌, ℕ, ◌+◌, ◌*◌, ◌/◌, ◌%◌, ◌<◌, ◌≤◌, zero, suc, Bool, true, false, cond, Option, Some, None, List, [], ◌∷◌, map, length, refl, sym, ap, ◌∙◌, subst, arith, add-zero, zero-add}
use Rattle.std.specs.Prelude.{slice_index}
use Rattle.std.specs.List.{AllByRecursion, slice_get, filter, filter_map, enumerate_from, cons_option, range_with_len}
use Rattle.std.specs.List.Sorted.{IsStrictlyIncreasing}
use Rattle.std.specs.Option.{option_and_then, option_map_or, option_map, IfSome}
use Rattle.std.proofs.lemmas.Option.{slice_get_within}
use Rattle.std.proofs.Math.Nat.{mul-le-mul_right}
use Rattle.std.proofs.lemmas.Nat.{div-add-mod', le-div}
use Rattle.pblk_model.specs.declared.shape.Shape.{Shape}
use Rattle.pblk_model.specs.Chunk.{Chunk, Block, IsChunk}
use Rattle.pblk_model.specs.LineOrder.{line_order, column_of, block_of}
use Rattle.pblk_model.specs.Image.{Image, IsFit, is_online_in, line_chunks, line_units, width, block_at}
use Rattle.pblk_laws.specs.LineBlocks.{chunk_in, written_at}
use Rattle.pblk_model.proofs.OrderedBlocks.{order_block, order_length}
use Rattle.pblk_model.proofs.Maps.{all_filter, all_filter_map}
use Rattle.pblk_model.proofs.Parts.{all_get_some, get_past, none_past}
use Rattle.pblk_laws.proofs.LineBlocksLemmas.{from_chunk}
use Rattle.pblk_model.proofs.ChunkLemmas.{map_cond, pointer_within}

abbrev pub is_on : ℕ → ℕ × List Chunk → Bool
is_on line unit = option_map_or (λ (c : Chunk). is_online_in c.state) (slice_get unit.1 line) false

-- the units from the nth on that have a chunk of the line, and their chunks
unfoldable pub units_of : ℕ → ℕ → List (List Chunk) → List ℕ
units_of line n units = map (λ (unit : ℕ × List Chunk). unit.0) (filter (is_on line) (enumerate_from n units))

chunks_of : ℕ → List (List Chunk) → List Chunk
chunks_of line units = filter (λ (c : Chunk). is_online_in c.state) (filter_map (λ (unit : List Chunk). slice_get unit line) units)

-- one more unit, by its chunk
with_unit : Option Chunk → ℕ → List ℕ → List ℕ
with_unit None n us = us
with_unit (Some c) n us = cond (is_online_in c.state) (n ∷ us) us

with_chunk : Option Chunk → List Chunk → List Chunk
with_chunk None cs = cs
with_chunk (Some c) cs = cond (is_online_in c.state) (c ∷ cs) cs

by_chunk : (o : Option Chunk) (n : ℕ) (us : List ℕ) → cond (option_map_or (λ (c : Chunk). is_online_in c.state) o false) (n ∷ us) us ≡ with_unit o n us
unfolding with_unit
by_chunk None n us = refl
by_chunk (Some c) n us = refl

units_more : (line n : ℕ) (unit : List Chunk) (units : List (List Chunk))
    → units_of line n (unit ∷ units) ≡ with_unit (slice_get unit line) n (units_of line (n + 1) units)
unfolding units_of
units_more line n unit units = map_cond (is_on line (n, unit)) (n, unit) (filter (is_on line) (enumerate_from (n + 1) units))
    ∙ by_chunk (slice_get unit line) n (units_of line (n + 1) units)

by_option : (o : Option Chunk) (cs : List Chunk)
    → filter (λ (c : Chunk). is_online_in c.state) (cons_option o cs) ≡ with_chunk o (filter (λ (c : Chunk). is_online_in c.state) cs)
unfolding with_chunk
by_option None cs = refl
by_option (Some c) cs = refl

chunks_more : (line : ℕ) (unit : List Chunk) (units : List (List Chunk))
    → chunks_of line (unit ∷ units) ≡ with_chunk (slice_get unit line) (chunks_of line units)
unfolding chunks_of
chunks_more line unit units = by_option (slice_get unit line) (filter_map (λ (unit : List Chunk). slice_get unit line) units)

-- as many units as chunks

same_length : (o : Option Chunk) (n : ℕ) (us : List ℕ) (cs : List Chunk) → length us ≡ length cs → length (with_unit o n us) ≡ length (with_chunk o cs)
unfolding with_unit with_chunk
same_length None n us cs e = e
same_length (Some c) n us cs e = both (is_online_in c.state) where
  both : (b : Bool) → length (cond b (n ∷ us) us) ≡ length (cond b (c ∷ cs) cs)
  both true = ap suc e
  both false = e

count_of : (line n : ℕ) (units : List (List Chunk)) → length (units_of line n units) ≡ length (chunks_of line units)
unfolding units_of chunks_of
count_of line n [] = refl
count_of line n (unit ∷ units) =
    ap length (units_more line n unit units)
    ∙ same_length (slice_get unit line) n (units_of line (n + 1) units) (chunks_of line units) (count_of line (n + 1) units)
    ∙ ap length (sym (chunks_more line unit units))

-- a unit's chunk of the line, among all units
chunk_at : ℕ → List (List Chunk) → ℕ → Option Chunk
chunk_at line all unit = option_and_then (λ (chunks : List Chunk). slice_get chunks line) (slice_get all unit)

same_chunks : (o : Option Chunk) (f : ℕ → Option Chunk) (n : ℕ) (us : List ℕ) (cs : List Chunk) → f n ≡ o
    → ((k : ℕ) → slice_get cs k ≡ option_and_then f (slice_get us k)) → (k : ℕ)
    → slice_get (with_chunk o cs) k ≡ option_and_then f (slice_get (with_unit o n us) k)
unfolding with_unit with_chunk
same_chunks None f n us cs here rest k = rest k
same_chunks (Some c) f n us cs here rest k = both (is_online_in c.state) k where
  both : (b : Bool) (k : ℕ) → slice_get (cond b (c ∷ cs) cs) k ≡ option_and_then f (slice_get (cond b (n ∷ us) us) k)
  both true zero = sym here
  both true (suc k) = rest k
  both false k = rest k

chunks_are : (line : ℕ) (all : List (List Chunk)) (n : ℕ) (units : List (List Chunk)) → ((u : ℕ) → slice_get all (n + u) ≡ slice_get units u) → (k : ℕ)
    → slice_get (chunks_of line units) k ≡ option_and_then (chunk_at line all) (slice_get (units_of line n units) k)
unfolding units_of chunks_of chunk_at
chunks_are line all n [] h k = refl
chunks_are line all n (unit ∷ units) h k =
    let first : slice_get all n ≡ Some unit = ap (slice_get all) (sym (add-zero n)) ∙ h 0 in
    let here : chunk_at line all n ≡ slice_get unit line = at_unit first in
    let rest : (j : ℕ) → slice_get (chunks_of line units) j ≡ option_and_then (chunk_at line all) (slice_get (units_of line (n + 1) units) j) =
    chunks_are line all (n + 1) units (λ u. let place : n + 1 + u ≡ n + suc u = omega arith in ap (slice_get all) place ∙ h (suc u)) in
    ap (λ (cs : List Chunk). slice_get cs k) (chunks_more line unit units)
    ∙ same_chunks (slice_get unit line) (chunk_at line all) n (units_of line (n + 1) units) (chunks_of line units) here rest k
    ∙ ap (λ (us : List ℕ). option_and_then (chunk_at line all) (slice_get us k)) (sym (units_more line n unit units)) where
      at_unit : slice_get all n ≡ Some unit → chunk_at line all n ≡ slice_get unit line
      at_unit e = ap (option_and_then (λ (chunks : List Chunk). slice_get chunks line)) e

-- they rise

unit_bound : (o : Option Chunk) (n : ℕ) (us : List ℕ) → ((k : ℕ) → k < length us → n + 1 ≤ slice_index us k) → (k : ℕ) → k < length (with_unit o n us)
    → n ≤ slice_index (with_unit o n us) k
unfolding with_unit
unit_bound None n us h k below = omega (arith, h k below)
unit_bound (Some c) n us h k below = both (is_online_in c.state) k below where
  both : (b : Bool) (k : ℕ) → k < length (cond b (n ∷ us) us) → n ≤ slice_index (cond b (n ∷ us) us) k
  both true zero l = omega arith
  both true (suc k) l = let more : n + 1 ≤ slice_index us k = h k (omega arith) in omega arith
  both false k l = omega (arith, h k l)

bounded : (line n : ℕ) (units : List (List Chunk)) (k : ℕ) → k < length (units_of line n units) → n ≤ slice_index (units_of line n units) k
unfolding units_of
bounded line n [] k below = absurd (omega arith)
bounded line n (unit ∷ units) k below =
    subst (λ (us : List ℕ). n ≤ slice_index us k) (sym (units_more line n unit units))
    (unit_bound (slice_get unit line) n (units_of line (n + 1) units) (λ j l. bounded line (n + 1) units j l) k
    (subst (λ (us : List ℕ). k < length us) (units_more line n unit units) below))

one_more : (n : ℕ) (us : List ℕ) → ((k : ℕ) → k < length us → n + 1 ≤ slice_index us k) → IsStrictlyIncreasing us → IsStrictlyIncreasing (n ∷ us)
one_more n us h rising zero below = let more : n + 1 ≤ slice_index us 0 = h 0 (omega arith) in omega arith
one_more n us h rising (suc k) below =
    let place : suc k + 1 ≡ suc (k + 1) = omega arith in
    let here : slice_index us k < slice_index us (k + 1) = rising k (omega arith) in
    subst (λ (j : ℕ). slice_index us k < slice_index (n ∷ us) j) (sym place) here

rise_more : (o : Option Chunk) (n : ℕ) (us : List ℕ) → ((k : ℕ) → k < length us → n + 1 ≤ slice_index us k) → IsStrictlyIncreasing us
    → IsStrictlyIncreasing (with_unit o n us)
unfolding with_unit
rise_more None n us h rising = rising
rise_more (Some c) n us h rising = both (is_online_in c.state) where
  both : (b : Bool) → IsStrictlyIncreasing (cond b (n ∷ us) us)
  both true = one_more n us h rising
  both false = rising

rises : (line n : ℕ) (units : List (List Chunk)) → IsStrictlyIncreasing (units_of line n units)
unfolding units_of
rises line n [] = λ k below. absurd (omega arith)
rises line n (unit ∷ units) =
    subst IsStrictlyIncreasing (sym (units_more line n unit units))
    (rise_more (slice_get unit line) n (units_of line (n + 1) units) (λ j l. bounded line (n + 1) units j l) (rises line (n + 1) units))

-- The laws.

pub line_units_count : (i : Image) (line : ℕ) → length (line_units i line) ≡ width i line
unfolding units_of chunks_of
line_units_count i line = count_of line 0 i.units

pub line_units_rise : (i : Image) (line : ℕ) → IsStrictlyIncreasing (line_units i line)
unfolding units_of
line_units_rise i line = rises line 0 i.units

pub line_units_chunks : (i : Image) (line k : ℕ) → slice_get (line_chunks i line) k ≡ option_and_then (chunk_in i line) (slice_get (line_units i line) k)
unfolding units_of chunks_of chunk_at
line_units_chunks i line k = chunks_are line i.units 0 i.units (λ u. ap (slice_get i.units) (omega arith)) k

-- A line's block at an address of its width.
block_with : Image → ℕ → ℕ → ℕ → Option Block
block_with i line g a = option_and_then (λ (c : Chunk). slice_get c.blocks (block_of i.shape g a)) (slice_get (line_chunks i line) (column_of i.shape g a))

pub block_named : (i : Image) (line a : ℕ) (place : ℕ × ℕ) → 0 < i.shape.ws_opt → i.shape.clba % i.shape.ws_opt ≡ 0
    → slice_get (line_order i.shape (line_units i line)) a ≡ Some place → block_at i line a ≡ written_at i line place
unfolding block_with
block_named i line a place some whole h =
    let us : List ℕ = line_units i line in
    let inside : a < length us * i.shape.clba = omega (arith, slice_get_within (line_order i.shape us) a place h, order_length i.shape us some whole) in
    let named : option_map {U = ℕ × ℕ} (λ u. (u, block_of i.shape (length us) a)) (slice_get us (column_of i.shape (length us) a)) ≡ Some place =
    sym (order_block i.shape us a some whole inside) ∙ h in
    let chunk : slice_get (line_chunks i line) (column_of i.shape (length us) a) ≡ option_and_then (chunk_in i line)
    (slice_get us (column_of i.shape (length us) a)) = line_units_chunks i line (column_of i.shape (length us) a) in
    let there : block_with i line (length us) a ≡ written_at i line place =
    ap (option_and_then (λ (c : Chunk). slice_get c.blocks (block_of i.shape (length us) a))) chunk
    ∙ from_chunk i line (block_of i.shape (length us) a) (slice_get us (column_of i.shape (length us) a)) place.0 place.1 named in
    ap (λ g. block_with i line g a) (sym (line_units_count i line)) ∙ there

-- Past the end of the line.

-- the block of a chunk past the end of a line of g chunks is none of its blocks
block_past : (w g c a : ℕ) → 0 < w → c % w ≡ 0 → 0 < g → g * c ≤ a → c ≤ (a / w) / g * w + a % w
block_past w g c a some whole wide past =
    let rows : c / w * w + c % w ≡ c = div-add-mod' c w in
    let product : (c / w) * g * w ≡ g * (c / w * w) = omega arith in
    let all : g * (c / w * w) ≡ g * c = ap (λ x. g * x) (omega arith) in
    let stripes : (c / w) * g ≤ a / w = le-div ((c / w) * g) a w some (omega arith) in
    let row : c / w ≤ (a / w) / g = le-div (c / w) (a / w) g wide stripes in
    let blocks : (c / w) * w ≤ (a / w) / g * w = mul-le-mul_right w row in
    omega arith

no_block : (s : Shape) (b : ℕ) (o : Option Chunk) → IfSome o (IsChunk s) → IfSome o (λ _. s.clba ≤ b)
    → option_and_then (λ (c : Chunk). slice_get c.blocks b) o ≡ None
no_block s b None fits past = refl
no_block s b (Some c) fits past = get_past c.blocks b (let few = pointer_within c.state s.clba (length c.blocks) fits.place in omega arith)

line_chunks_fit : (i : Image) (line k : ℕ) → IsFit i → IfSome (slice_get (line_chunks i line) k) (IsChunk i.shape)
line_chunks_fit i line k fit =
    all_get_some (IsChunk i.shape) (line_chunks i line) k
    (all_filter (IsChunk i.shape) (λ (c : Chunk). is_online_in c.state) (filter_map (λ (unit : List Chunk). slice_get unit line) i.units)
    (all_filter_map (IsChunk i.shape) (AllByRecursion (IsChunk i.shape)) (λ (unit : List Chunk). slice_get unit line) i.units
    (λ unit each. all_get_some (IsChunk i.shape) unit line each) fit.each))

if_there : {X : Type 0} (xs : List X) (k : ℕ) (P : Type 0) → (0 < length xs → P) → IfSome (slice_get xs k) (λ _. P)
if_there [] k P h = tt
if_there (x ∷ xs) zero P h = h (omega arith)
if_there (x ∷ xs) (suc k) P h = if_there xs k P (λ l. h (omega arith))

pub no_block_past : (i : Image) (line a : ℕ) → IsFit i → 0 < i.shape.ws_opt → i.shape.clba % i.shape.ws_opt ≡ 0
    → slice_get (line_order i.shape (line_units i line)) a ≡ None → block_at i line a ≡ None
no_block_past i line a fit some whole h =
    let g : ℕ = width i line in
    let past : width i line * i.shape.clba ≤ a =
    subst (λ n. n * i.shape.clba ≤ a) (line_units_count i line)
    (omega (arith, none_past (line_order i.shape (line_units i line)) a h, order_length i.shape (line_units i line) some whole)) in
    no_block i.shape (block_of i.shape g a) (slice_get (line_chunks i line) (column_of i.shape g a)) (line_chunks_fit i line (column_of i.shape g a) fit)
    (if_there (line_chunks i line) (column_of i.shape g a) (i.shape.clba ≤ block_of i.shape g a)
    (λ wide. block_past i.shape.ws_opt g i.shape.clba a some whole wide past))

-- whether a unit's chunk of the line isn't Offline
abbrev pub is_online_at : Image → ℕ → ℕ → Bool
is_online_at i line unit = option_map_or (λ (c : Chunk). is_online_in c.state) (chunk_in i line unit) false

from_range : (line a : ℕ) (p : ℕ → Bool) (us : List (List Chunk))
    → ((k : ℕ) → k < length us → p (a + k) ≡ option_map_or (λ (c : Chunk). is_online_in c.state)
    (option_and_then (λ chunks. slice_get chunks line) (slice_get us k)) false)
    → map (λ (u : ℕ × List Chunk). u.0) (filter (is_on line) (enumerate_from a us)) ≡ filter p (range_with_len a (length us))
from_range line a p [] h = refl
from_range line a p (u ∷ us) h =
    let first : p a ≡ is_on line (a, u) = ap p (sym (add-zero a)) ∙ h 0 (omega arith) in
    map_cond (is_on line (a, u)) (a, u) (filter (is_on line) (enumerate_from (a + 1) us))
    ∙ ap (λ xs. cond (is_on line (a, u)) (a ∷ xs) xs)
    (from_range line (a + 1) p us (λ k below. (let place : a + 1 + k ≡ a + suc k = omega arith in ap p place ∙ h (suc k) (omega arith))))
    ∙ ap (λ b. cond b (a ∷ filter p (range_with_len (a + 1) (length us))) (filter p (range_with_len (a + 1) (length us)))) (sym first)

pub line_units_range : (i : Image) (line : ℕ) → line_units i line ≡ filter (is_online_at i line) (range_with_len 0 (length i.units))
line_units_range i line = from_range line 0 (is_online_at i line) i.units (λ k below. ap (is_online_at i line) (zero-add k))

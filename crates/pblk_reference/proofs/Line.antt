-- The chunks of a line, and its blocks, as they are read from the units in memory.
use Rattle.std.proofs.Common.{◌≡◌, ℕ, ◌+◌, ◌*◌, ◌/◌, ◌%◌, ◌^◌, ◌<◌, ◌≤◌, arith, Bool, true, false, cond, List, [], ◌∷◌, length, map, Option, Some, None, refl, sym, ap, ◌∙◌}
use Rattle.std.specs.List.{filter, filter_map, slice_get, cons_option}
use Rattle.std.specs.Option.{option_and_then}
use Rattle.std.specs.Global.{Vec}
use Rattle.std.specs.Prelude.{nat_lt, get_or}
use Rattle.std.proofs.lemmas.Bool.Decides.{nat_tests}
use Rattle.std.proofs.lemmas.Option.{slice_get_read, slice_get_past}
use Rattle.pblk_model.specs.Chunk.{Chunk}
use Rattle.pblk_model.specs.Image.{Image, is_online_in, line_chunks, width, block_at}
use Rattle.pblk_model.specs.declared.shape.Shape.{Shape}
use Rattle.pblk_model.specs.Accepted.{IsAccepted}
use Rattle.pblk_model.specs.LineOrder.{column_of, block_of}
use Rattle.pblk_model.specs.Shape.{units}
use Rattle.std.proofs.lemmas.List.{length-map}
use Rattle.pblk_reference.specs.Ready.{IsOfAcceptedShape}
use Rattle.pblk_reference.specs.Line.{online_chunk, online_chunks}

-- one more unit
keep : (b : Bool) (c : Chunk) (cs : List Chunk) → cond b (c ∷ cs) cs ≡ cons_option (cond b (Some c) None) cs
keep true c cs = refl
keep false c cs = refl

with_unit : (o : Option Chunk) (cs : List Chunk)
    → filter (λ c. is_online_in c.state) (cons_option o cs) ≡ cons_option (option_and_then (λ c. cond (is_online_in c.state) (Some c) None) o)
    (filter (λ c. is_online_in c.state) cs)
with_unit None cs = refl
with_unit (Some c) cs = keep (is_online_in c.state) c (filter (λ c. is_online_in c.state) cs)

chunks_of : (us : List (Vec Chunk)) (line : ℕ)
    → filter (λ c. is_online_in c.state) (filter_map (λ unit. slice_get unit line) (map (λ u. u.items) us)) ≡ online_chunks line us
unfolding online_chunk
chunks_of [] line = refl
chunks_of (u ∷ us) line = with_unit (slice_get u.items line) (filter_map (λ unit. slice_get unit line) (map (λ u. u.items) us))
    ∙ ap (cons_option (online_chunk line u.items)) (chunks_of us line)

pub line_chunks_of : (i : Image) (us : List (Vec Chunk)) (line : ℕ) → i.units ≡ map (λ u. u.items) us → line_chunks i line ≡ online_chunks line us
line_chunks_of i us line e = ap (λ units. filter (λ c. is_online_in c.state) (filter_map (λ unit. slice_get unit line) units)) e ∙ chunks_of us line

pub width_of : (i : Image) (us : List (Vec Chunk)) (line : ℕ) → i.units ≡ map (λ u. u.items) us → width i line ≡ length (online_chunks line us)
width_of i us line e = ap length (line_chunks_of i us line e)

-- the block at a line address, from the chunk that has it
pub block_from : (i : Image) (us : List (Vec Chunk)) (line at g w k b : ℕ) (o : Option Chunk) → i.units ≡ map (λ u. u.items) us → g ≡ width i line
    → w ≡ i.shape.ws_opt
    → k ≡ (at / w) % g → b ≡ at / w / g * w + at % w → o ≡ slice_get (online_chunks line us) k
    → option_and_then (λ c. slice_get c.blocks b) o ≡ block_at i line at
block_from i us line at g w k b o units g-is w-is k-is b-is o-is =
    let e : o ≡ slice_get (line_chunks i line) ((at / w) % g) = o-is ∙ ap (slice_get (online_chunks line us)) k-is
    ∙ ap (λ cs. slice_get cs ((at / w) % g)) (sym (line_chunks_of i us line units)) in
    rw (e, b-is, g-is, w-is) refl

-- and a line of no width has none
none_of : (cs : List Chunk) (k b : ℕ) → length cs ≡ 0 → None ≡ option_and_then (λ c. slice_get c.blocks b) (slice_get cs k)
none_of [] k b e = refl
none_of (c ∷ cs) k b e = absurd cc

pub no_blocks : (i : Image) (line at g : ℕ) → g ≡ width i line → g ≡ 0 → None ≡ block_at i line at
no_blocks i line at g g-is none =
    none_of (line_chunks i line) (column_of i.shape (width i line) at) (block_of i.shape (width i line) at) (sym g-is ∙ none)

pub has_stripes : (s t : Shape) → s ≡ t → IsAccepted t → 0 < s.ws_opt
has_stripes s t e accepted = rw e accepted.drive.ws_opt

pub some_width : (g : ℕ) → (g ≡ 0 → ⊥) → 0 < g
some_width g h = omega arith

-- a line is no wider than there are units
pub fewer_units : (i : Image) (us : List (Vec Chunk)) (n : ℕ) → i.units ≡ map (λ u. u.items) us → IsOfAcceptedShape i → n ≤ length us → n ≤ units i.shape
fewer_units i us n e ready few =
    let same : length us ≡ length i.units = sym (length-map us (λ u. u.items)) ∙ ap length (sym e) in
    let bound : length i.units ≤ units i.shape = ready.units in
    omega (arith, same, bound, few)

pub few_units : (i : Image) (us : List (Vec Chunk)) → i.units ≡ map (λ u. u.items) us → IsOfAcceptedShape i → length us < 2 ^ 32
few_units i us e ready =
    let same : length us ≡ length i.units = sym (length-map us (λ u. u.items)) ∙ ap length (sym e) in
    let bound : length i.units ≤ units i.shape = ready.units in
    let short : units i.shape ≤ 64 = ready.shape.drive.few_units in
    omega (arith, same, bound, short)

-- a unit's chunk of a line
pub no_chunk : (line : ℕ) (unit : List Chunk) → None ≡ slice_get unit line → None ≡ online_chunk line unit
unfolding online_chunk
no_chunk line unit none = ap (option_and_then (λ c. cond (is_online_in c.state) (Some c) None)) none

pub online_is : (line : ℕ) (unit : List Chunk) (c : Chunk) → Some c ≡ slice_get unit line → is_online_in c.state ≡ true → Some c ≡ online_chunk line unit
unfolding online_chunk
online_is line unit c some online = sym (ap (λ b. cond b (Some c) None) online) ∙ ap (option_and_then (λ c. cond (is_online_in c.state) (Some c) None)) some

pub offline_is : (line : ℕ) (unit : List Chunk) (c : Chunk) → Some c ≡ slice_get unit line → is_online_in c.state ≡ false → None ≡ online_chunk line unit
unfolding online_chunk
offline_is line unit c some offline = sym (ap (λ b. cond b (Some c) None) offline) ∙ ap (option_and_then (λ c. cond (is_online_in c.state) (Some c) None)) some

pub found_at : (unit : List Chunk) (line : ℕ) (c : Chunk) → true ≡ nat_lt line (length unit) → c ≡ get_or unit line c → Some c ≡ slice_get unit line
found_at unit line c within c-is =
    let lt : line < length unit = grind (arith, nat_tests) in
    sym (slice_get_read unit (length unit) line c refl lt c-is)

pub none_at : (unit : List Chunk) (line : ℕ) → false ≡ nat_lt line (length unit) → None ≡ slice_get unit line
none_at unit line past =
    let le : length unit ≤ line = grind (arith, nat_tests) in
    sym (slice_get_past unit line le)

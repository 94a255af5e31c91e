-- The states of chunks, as they are found.
use Rattle.std.proofs.Common.{◌≡◌, ◌≢◌, ℕ, ◌+◌, ◌*◌, ◌<◌, ◌&&◌, zero, suc, Bool, false, cond, Option, Some, None, List, [], ◌∷◌, map, length, refl, sym, subst, ap, ◌∙◌, arith, inl, inr, add-zero, zero-add}
use Rattle.std.specs.List.{AllByRecursion, slice_get, filter, filter_map, cons_option, list_all, enumerate_from, range_with_len}
use Rattle.std.specs.Option.{option_map, option_map_or, option_and_then}
use Rattle.std.proofs.lemmas.Bool.{cases_Bool, and_left, and_right}
use Rattle.std.proofs.lemmas.List.{length-map}
use Rattle.std.proofs.lemmas.Option.{none-some, same_Some, slice_get-map, slice_get_within}
use Rattle.pblk_model.specs.declared.chunk.ChunkState.{ChunkState}
use Rattle.pblk_model.specs.declared.chunk.ChunkState.TheVariants as states
use Rattle.pblk_model.specs.declared.found.Found.{Found}
use Rattle.pblk_model.specs.Shape.{units}
use Rattle.pblk_model.specs.Chunk.{Chunk}
use Rattle.pblk_model.specs.Found.{IsUsed, HasUsed, online_unit, online_units, state_at}
use Rattle.pblk_model.specs.Image.{Image, IsFit, is_online_in, line_units}
use Rattle.pblk_laws.specs.LineBlocks.{chunk_in}
use Rattle.pblk_world.specs.Lines.{is_empty_state, are_empty}
use Rattle.world_laws.specs.Finding.{IsFoundOf, taken_state, taken_states}
use Rattle.world_laws.proofs.NumberedLists.{joined_at, joined_count}
use Rattle.pblk_model.proofs.Maps.{all_flat_map}
use Rattle.pblk_model.proofs.Parts.{all_get}

abbrev pub state_of : Chunk → ChunkState
state_of c = taken_state c.state

-- ---- by unit, then by line

unit_count : (n : ℕ) (us : List (List Chunk)) → AllByRecursion (λ u. length u ≡ n) us → AllByRecursion (λ u. length (map state_of u) ≡ n) us
unit_count n [] all = tt
unit_count n (u ∷ us) all = (length-map u state_of ∙ all.0, unit_count n us all.1)

in_unit : (line : ℕ) (o : Option (List Chunk))
    → option_and_then (λ u. slice_get (map state_of u) line) o ≡ option_map state_of (option_and_then (λ u. slice_get u line) o)
in_unit line None = refl
in_unit line (Some u) = slice_get-map state_of u line

pub state_is : (i : Image) (f : Found) (line unit : ℕ) → IsFit i → IsFoundOf i f → line < i.shape.chunks
    → state_at i.shape f line unit ≡ option_map state_of (chunk_in i line unit)
state_is i f line unit fit is inside =
    ap (λ cs. slice_get cs (unit * i.shape.chunks + line)) is.chunks_are
    ∙ joined_at (map state_of) i.shape.chunks i.units unit line (unit_count i.shape.chunks i.units fit.chunks) inside
    ∙ in_unit line (slice_get i.units unit)

pub states_count : (i : Image) (f : Found) → IsFit i → IsFoundOf i f → length f.chunks ≡ units i.shape * i.shape.chunks
states_count i f fit is =
    ap (λ cs. length cs) is.chunks_are ∙ joined_count (map state_of) i.shape.chunks i.units (unit_count i.shape.chunks i.units fit.chunks)
    ∙ ap (λ n. n * i.shape.chunks) fit.units

not_open : (state : ChunkState) → taken_state state ≢ states.Open
not_open states.Free e = absurd cc
not_open states.Open e = absurd cc
not_open states.Closed e = absurd cc
not_open states.Offline e = absurd cc

none_open : (cs : List Chunk) → AllByRecursion (λ (s : ChunkState). s ≢ states.Open) (map state_of cs)
none_open [] = tt
none_open (c ∷ cs) = (not_open c.state, none_open cs)

pub states_closed : (i : Image) (f : Found) (n : ℕ) → IsFoundOf i f → slice_get f.chunks n ≢ Some states.Open
states_closed i f n is e =
    all_get (λ (s : ChunkState). s ≢ states.Open) (taken_states i) n states.Open
    (all_flat_map (λ (s : ChunkState). s ≢ states.Open) (map state_of) i.units none_open) (ap (λ cs. slice_get cs n) (sym is.chunks_are) ∙ e) refl

-- ---- the units of a line

abbrev on_line : ℕ → ℕ × List Chunk → Bool
on_line line unit = option_map_or (λ (c : Chunk). is_online_in c.state) (slice_get unit.1 line) false

by_state : (state : ChunkState) (a : ℕ) (u : List Chunk) (rest : List (ℕ × List Chunk))
    → cons_option (online_unit (Some (taken_state state)) a) (map (λ (v : ℕ × List Chunk). v.0) rest) ≡ map (λ (v : ℕ × List Chunk). v.0)
    (cond (is_online_in state) ((a, u) ∷ rest) rest)
by_state states.Free a u rest = refl
by_state states.Open a u rest = refl
by_state states.Closed a u rest = refl
by_state states.Offline a u rest = refl

by_chunk : (o : Option Chunk) (a : ℕ) (u : List Chunk) (rest : List (ℕ × List Chunk))
    → cons_option (online_unit (option_map state_of o) a) (map (λ (v : ℕ × List Chunk). v.0) rest) ≡ map (λ (v : ℕ × List Chunk). v.0)
    (cond (option_map_or (λ (c : Chunk). is_online_in c.state) o false) ((a, u) ∷ rest) rest)
by_chunk None a u rest = refl
by_chunk (Some c) a u rest = by_state c.state a u rest

live_from : (line a : ℕ) (h : ℕ → Option ℕ) (us : List (List Chunk))
    → ((k : ℕ) → k < length us → h (a + k) ≡ online_unit (option_map state_of (option_and_then (λ u. slice_get u line) (slice_get us k))) (a + k))
    → filter_map h (range_with_len a (length us)) ≡ map (λ (v : ℕ × List Chunk). v.0) (filter (on_line line) (enumerate_from a us))
live_from line a h [] each = refl
live_from line a h (u ∷ us) each =
    let here : h a ≡ online_unit (option_map state_of (slice_get u line)) a =
    ap h (sym (add-zero a)) ∙ each 0 (omega arith) ∙ ap (online_unit (option_map state_of (slice_get u line))) (add-zero a) in
    let rest : filter_map h (range_with_len (a + 1) (length us)) ≡ map (λ (v : ℕ × List Chunk). v.0) (filter (on_line line) (enumerate_from (a + 1) us)) =
    live_from line (a + 1) h us (λ k below.
    let step : a + 1 + k ≡ a + suc k = omega arith in
    ap h step ∙ each (suc k) (omega arith) ∙ ap (online_unit (option_map state_of (option_and_then (λ u. slice_get u line) (slice_get us k)))) (sym step)) in
    ap (λ o. cons_option o (filter_map h (range_with_len (a + 1) (length us)))) here
    ∙ ap (cons_option (online_unit (option_map state_of (slice_get u line)) a)) rest
    ∙ by_chunk (slice_get u line) a u (filter (on_line line) (enumerate_from (a + 1) us))

pub live_are : (i : Image) (f : Found) (line : ℕ) → IsFit i → IsFoundOf i f → line < i.shape.chunks → online_units i.shape f line ≡ line_units i line
live_are i f line fit is inside =
    ap (λ n. filter_map (λ unit. online_unit (state_at i.shape f line unit) unit) (range_with_len 0 n)) (sym fit.units)
    ∙ live_from line 0 (λ unit. online_unit (state_at i.shape f line unit) unit) i.units (λ k below.
    let first : 0 + k ≡ k = zero-add k in
    ap (λ o. online_unit o (0 + k)) (state_is i f line (0 + k) fit is inside ∙ ap (λ m. option_map state_of (chunk_in i line m)) first))

-- ---- used lines

abbrev empties : ℕ → List (List Chunk) → Bool
empties line us = list_all (λ (c : Chunk). is_empty_state c.state) (filter_map (λ unit. slice_get unit line) us)

abbrev with_one : Option Chunk → Bool → Bool
with_one None rest = rest
with_one (Some c) rest = is_empty_state c.state && rest

one_more : (o : Option Chunk) (cs : List Chunk)
    → list_all (λ (c : Chunk). is_empty_state c.state) (cons_option o cs) ≡ with_one o (list_all (λ (c : Chunk). is_empty_state c.state) cs)
one_more None cs = refl
one_more (Some c) cs = refl

one_used : (o : Option Chunk) (c : Chunk) (rest : Bool) → o ≡ Some c → is_empty_state c.state ≡ false → with_one o rest ≡ false
one_used None c rest e used = absurd (none-some c e)
one_used (Some d) c rest e used = and_left (is_empty_state d.state) rest (ap (λ (x : Chunk). is_empty_state x.state) (same_Some d c e) ∙ used)

rest_used : (o : Option Chunk) (rest : Bool) → rest ≡ false → with_one o rest ≡ false
rest_used None rest e = e
rest_used (Some c) rest e = and_right (is_empty_state c.state) rest e

pub some_used : (line : ℕ) (us : List (List Chunk)) (k : ℕ) (c : Chunk) → option_and_then (λ u. slice_get u line) (slice_get us k) ≡ Some c
    → is_empty_state c.state ≡ false → empties line us ≡ false
some_used line [] k c there used = absurd (none-some c there)
some_used line (u ∷ us) zero c there used = one_more (slice_get u line) (filter_map (λ unit. slice_get unit line) us)
    ∙ one_used (slice_get u line) c (empties line us) there used
some_used line (u ∷ us) (suc k) c there used = one_more (slice_get u line) (filter_map (λ unit. slice_get unit line) us)
    ∙ rest_used (slice_get u line) (empties line us) (some_used line us k c there used)

abbrev HasUsedChunk : ℕ → List (List Chunk) → Type 0
HasUsedChunk line us = (k : ℕ) × (c : Chunk) × (option_and_then (λ u. slice_get u line) (slice_get us k) ≡ Some c) × (is_empty_state c.state ≡ false)

which_used : (line : ℕ) (us : List (List Chunk)) → empties line us ≡ false → HasUsedChunk line us
which_used line [] e = absurd cc
which_used line (u ∷ us) e = go (λ f. which_used line us f) (slice_get u line) refl
    (sym (one_more (slice_get u line) (filter_map (λ unit. slice_get unit line) us)) ∙ e)
  where
    one_later : HasUsedChunk line us → HasUsedChunk line (u ∷ us)
    one_later (k, c, there, used) = (suc k, c, there, used)

    go : (empties line us ≡ false → HasUsedChunk line us) → (o : Option Chunk) → slice_get u line ≡ o → with_one o (empties line us) ≡ false
        → HasUsedChunk line (u ∷ us)
    go later None is f = one_later (later f)
    go later (Some c) is f = elim (cases_Bool (is_empty_state c.state)) [
      | inl empty ↦ one_later (later (sym (ap (λ b. b && empties line us) empty) ∙ f))
      | inr used ↦ (0, c, is, used)
    ]

used_is : (state : ChunkState) → IsUsed (taken_state state) → is_empty_state state ≡ false
used_is states.Free h = absurd h
used_is states.Open h = refl
used_is states.Closed h = refl
used_is states.Offline h = absurd h

is_used : (state : ChunkState) → is_empty_state state ≡ false → IsUsed (taken_state state)
is_used states.Free e = absurd cc
is_used states.Open e = tt
is_used states.Closed e = tt
is_used states.Offline e = absurd cc

option_of : (o : Option Chunk) (state : ChunkState) → option_map state_of o ≡ Some state → (c : Chunk) × (o ≡ Some c) × (state_of c ≡ state)
option_of None state e = absurd (none-some state e)
option_of (Some c) state e = (c, refl, same_Some (state_of c) state e)

pub used_not_empty : (i : Image) (f : Found) (line : ℕ) → IsFit i → IsFoundOf i f → line < i.shape.chunks → HasUsed i.shape f line → are_empty i line ≡ false
used_not_empty i f line fit is inside (unit, state, within, there, used) =
    let of = option_of (chunk_in i line unit) state (sym (state_is i f line unit fit is inside) ∙ there) in
    some_used line i.units unit of.0 of.1 (used_is of.0.state (subst IsUsed (sym of.2) used))

pub within_units : (i : Image) (line unit : ℕ) (c : Chunk) → IsFit i → chunk_in i line unit ≡ Some c → unit < units i.shape
within_units i line unit c fit e = go (slice_get i.units unit) refl e
  where
    go : (o : Option (List Chunk)) → slice_get i.units unit ≡ o → option_and_then (λ u. slice_get u line) o ≡ Some c → unit < units i.shape
    go None is h = absurd (none-some c h)
    go (Some u) is h = subst (λ n. unit < n) fit.units (slice_get_within i.units unit u is)

-- a chunk that isn't empty is found used
pub chunk_used : (i : Image) (f : Found) (line unit : ℕ) (c : Chunk) → IsFit i → IsFoundOf i f → line < i.shape.chunks → chunk_in i line unit ≡ Some c
    → is_empty_state c.state ≡ false → HasUsed i.shape f line
chunk_used i f line unit c fit is inside there used =
    (unit, state_of c, within_units i line unit c fit there, state_is i f line unit fit is inside ∙ ap (option_map state_of) there, is_used c.state used)

pub not_empty_used : (i : Image) (f : Found) (line : ℕ) → IsFit i → IsFoundOf i f → line < i.shape.chunks → are_empty i line ≡ false → HasUsed i.shape f line
not_empty_used i f line fit is inside e =
    let one = which_used line i.units e in chunk_used i f line one.0 one.1 fit is inside one.2 one.3

-- The units of lines and the chunks that are still to be reset, once a reset is noted.
use Rattle.std.proofs.Common.{◌≡◌, ◌≢◌, ◌⊎◌, ℕ, ◌+◌, ◌-◌, ◌^◌, ◌<◌, ◌≤◌, not, nat_eq, ◌&&◌, zero, suc, cond, if◌then◌else◌, Bool, true, false, Some, None, Option, List, [], ◌∷◌, length, drop, refl, sym, ap, ap₂, ◌∙◌, arith, inl, inr}
use Rattle.std.specs.Prelude.{map, slice_get, slice_set}
use Rattle.std.specs.List.{filter, filter_map, cons_option, list_all, range_with_len}
use Rattle.std.specs.Option.{option_map_or, option_and_then}
use Rattle.std.proofs.lemmas.Bool.{cases_order, eqb-true, eqb-false}
use Rattle.std.proofs.lemmas.Option.{none-some, slice_get_within}
use Rattle.pblk_model.specs.declared.chunk.ChunkState.{ChunkState}
use Rattle.pblk_model.specs.Shape.{units}
use Rattle.pblk_model.specs.Chunk.{Chunk}
use Rattle.pblk_model.specs.Image.{Image, is_online_in}
use Rattle.pblk_laws.specs.LineBlocks.{chunk_in}
use Rattle.pblk_layout.specs.Online.{is_in, is_online}
use Rattle.pblk_world.specs.Events.{ResetDone, Decides}
use Rattle.pblk_world.specs.World.{World, Logs, log_of}
use Rattle.pblk_world.specs.Lines.{known_image, is_empty_state, are_empty, is_given_up}
use Rattle.pblk_world.proofs.Appending.{life_more}
use Rattle.core_laws.specs.OpenedLines.{bits_of, online_now}
use Rattle.pblk_world.specs.LegalMounts.{IsLegalMount}
use Rattle.core_laws.specs.Stepping.{after}
use Rattle.core_laws.proofs.UnitBits.{bit_is, units_below}
use Rattle.core_laws.proofs.PlacedLines.{get_row as row_there}
use Rattle.core_laws.proofs.KeptLines.{few_units}
use Rattle.pblk_core.specs.Resets.{is_used_state, is_used_in, used_units, units_to_reset, resets_of, kept_units}
use Rattle.pblk_core.proofs.FirstReset.{others_are, bits_less}
use Rattle.pblk_core.proofs.KeptResets.{given_up_kept, empty_none}
use Rattle.pblk_core.proofs.LineBits.{known_count}
use Rattle.pblk_core.proofs.NamedReset.{IsNamedReset}
use Rattle.pblk_core.proofs.ResetChunks.{IsNoted, test_chunk, tested_else, tested_now, tested_before, used_online, live_is}
use Rattle.pblk_model.proofs.Maps.{filter_same, map_same, rows_set}

-- ---- the chunks that are still to be reset

empty_not : (state : ChunkState) → is_empty_state state ≡ true → is_used_state state ≡ false
empty_not state e = ap not e

given_same : (i : Image) (logs : Logs) (unit event : ℕ) (knows : List ℕ) (l : ℕ)
    → is_given_up (after logs (ResetDone unit event) knows 0) l ≡ is_given_up (logs 0) l
given_same i logs unit event knows l =
    given_up_kept logs (ResetDone unit event) knows l refl (life_more (logs 0) (record { event = Decides (ResetDone unit event); knows = knows }) l)

pub line_left : (i : Image) (logs : Logs) (unit event line : ℕ) (knows : List ℕ) (state : ChunkState) (named : IsNamedReset i logs line unit)
    → IsNoted i logs unit event line knows state
    → used_units (known_image i (after logs (ResetDone unit event) knows)) line ≡ named.first.units
line_left i logs unit event line knows state named is = named.passed.others (is_used_in (known_image i (after logs (ResetDone unit event) knows)) line)
    (tested_now is_used_state i logs unit event line knows state is ∙ empty_not state is.empty)
    (λ u other. tested_else is_used_state i logs unit event line knows state is line u (inr other))

-- the used chunks of another line
pub others_used : (i : Image) (logs : Logs) (unit event line : ℕ) (knows : List ℕ) (state : ChunkState) → IsNoted i logs unit event line knows state → (l : ℕ)
    → l ≢ line
    → used_units (known_image i (after logs (ResetDone unit event) knows)) l ≡ used_units (known_image i logs) l
others_used i logs unit event line knows state is l other =
    filter_same (is_used_in (known_image i (after logs (ResetDone unit event) knows)) l) (is_used_in (known_image i logs) l)
    (λ u. tested_else is_used_state i logs unit event line knows state is l u (inl other)) (range_with_len 0 (units i.shape))

pub others_left : (i : Image) (logs : Logs) (unit event line : ℕ) (knows : List ℕ) (state : ChunkState) → IsNoted i logs unit event line knows state → (l : ℕ)
    → l ≢ line
    → units_to_reset i (after logs (ResetDone unit event) knows) l ≡ units_to_reset i logs l
others_left i logs unit event line knows state is l other =
    ap₂ (λ b us. if b then us else []) (given_same i logs unit event knows l) (others_used i logs unit event line knows state is l other)

pub units_left : (i : Image) (logs : Logs) (unit event line : ℕ) (knows : List ℕ) (state : ChunkState) (named : IsNamedReset i logs line unit)
    → IsNoted i logs unit event line knows state
    → units_to_reset i (after logs (ResetDone unit event) knows) line ≡ named.first.units
units_left i logs unit event line knows state named is =
    ap₂ (λ b us. if b then us else []) (given_same i logs unit event knows line ∙ named.given_up) (line_left i logs unit event line knows state named is)

pub resets_less : (i : Image) (logs : Logs) (unit event line : ℕ) (knows : List ℕ) (state : ChunkState) → IsNamedReset i logs line unit
    → IsNoted i logs unit event line knows state
    → resets_of i (after logs (ResetDone unit event) knows) ≡ drop 1 (resets_of i logs)
resets_less i logs unit event line knows state named is =
    others_are (units_to_reset i logs) (units_to_reset i (after logs (ResetDone unit event) knows)) 0 i.shape.chunks _ named.first
    (units_left i logs unit event line knows state named is) (others_left i logs unit event line knows state is)

-- ---- units

-- the units of a line as bits
pub live_bits : (i : Image) (w : World) (ls : Logs) (line : ℕ) → IsLegalMount i w
    → online_now i ls line ≡ bits_of (filter (is_online (known_image i ls) line) (range_with_len 0 (units i.shape)))
live_bits i w ls line mount =
    ap bits_of (units_below (known_image i ls) line (few_units i w ls mount)
    ∙ ap (λ n. filter (is_online (known_image i ls) line) (range_with_len 0 n)) (known_count i w ls mount))

pub was_live : (i : Image) (logs : Logs) (unit event line : ℕ) (knows : List ℕ) (state : ChunkState) → IsNoted i logs unit event line knows state
    → is_online (known_image i logs) line unit ≡ true
was_live i logs unit event line knows state is = live_is (known_image i logs) line unit ∙ tested_before is_online_in i logs unit event line knows state is
    ∙ used_online is.chunk.state is.used

live_else : (i : Image) (logs : Logs) (unit event line : ℕ) (knows : List ℕ) (state : ChunkState) → IsNoted i logs unit event line knows state → (l u : ℕ)
    → (l ≢ line) ⊎ (u ≢ unit)
    → is_online (known_image i (after logs (ResetDone unit event) knows)) l u ≡ is_online (known_image i logs) l u
live_else i logs unit event line knows state is l u other =
    live_is (known_image i (after logs (ResetDone unit event) knows)) l u ∙ tested_else is_online_in i logs unit event line knows state is l u other
    ∙ sym (live_is (known_image i logs) l u)

live_here : (i : Image) (logs : Logs) (unit event line : ℕ) (knows : List ℕ) (state : ChunkState) → IsNoted i logs unit event line knows state
    → is_online (known_image i (after logs (ResetDone unit event) knows)) line unit ≡ is_online_in state
live_here i logs unit event line knows state is = live_is (known_image i (after logs (ResetDone unit event) knows)) line unit
    ∙ tested_now is_online_in i logs unit event line knows state is

bits_same : (i : Image) (w : World) (ls new : Logs) (l : ℕ) → IsLegalMount i w
    → ((u : ℕ) → is_online (known_image i new) l u ≡ is_online (known_image i ls) l u)
    → online_now i new l ≡ online_now i ls l
bits_same i w ls new l mount same =
    live_bits i w new l mount ∙ ap bits_of
    (filter_same (is_online (known_image i new) l) (is_online (known_image i ls) l) same (range_with_len 0 (units i.shape)))
    ∙ sym (live_bits i w ls l mount)

pub units_kept : (i : Image) (w : World) (unit event line : ℕ) (knows : List ℕ) (state : ChunkState) → IsLegalMount i w → IsNamedReset i (log_of w) line unit
    → IsNoted i (log_of w) unit event line knows state
    → kept_units (map (online_now i (log_of w)) (range_with_len 0 i.shape.chunks)) line unit state ≡ map
    (online_now i (after (log_of w) (ResetDone unit event) knows)) (range_with_len 0 i.shape.chunks)
units_kept i w unit event line knows state mount named is = go (is_online_in state) refl
  where
    logs : Logs
    logs = log_of w

    new : Logs
    new = after (log_of w) (ResetDone unit event) knows

    old_list : List ℕ
    old_list = map (online_now i logs) (range_with_len 0 i.shape.chunks)

    other_line : (l : ℕ) → l ≢ line → online_now i new l ≡ online_now i logs l
    other_line l other = bits_same i w logs new l mount (λ u. live_else i logs unit event line knows state is l u (inl other))

    online_line : is_online_in state ≡ true → online_now i new line ≡ online_now i logs line
    online_line online = bits_same i w logs new line mount (λ u. by u (nat_eq u unit) refl)
      where
        by : (u : ℕ) (b : Bool) → nat_eq u unit ≡ b → is_online (known_image i new) line u ≡ is_online (known_image i logs) line u
        by u true e =
            let same : u ≡ unit = eqb-true u unit e in
            ap (is_online (known_image i new) line) same ∙ live_here i logs unit event line knows state is ∙ online
            ∙ sym (ap (is_online (known_image i logs) line) same ∙ was_live i logs unit event line knows state is)
        by u false e = live_else i logs unit event line knows state is line u (inr (eqb-false u unit e))

    less : is_online_in state ≡ false → online_now i new line ≡ online_now i logs line - 2 ^ unit
    less offline =
        let old : online_now i logs line ≡ bits_of (filter (is_online (known_image i logs) line) (range_with_len 0 (units i.shape))) =
        live_bits i w logs line mount in
        let now : online_now i new line ≡ bits_of (filter (is_online (known_image i new) line) (range_with_len 0 (units i.shape))) =
        live_bits i w new line mount in
        let fewer : bits_of (filter (is_online (known_image i logs) line) (range_with_len 0 (units i.shape))) ≡ bits_of
        (filter (is_online (known_image i new) line) (range_with_len 0 (units i.shape))) + 2 ^ unit =
        bits_less (is_online (known_image i logs) line) (is_online (known_image i new) line) (units i.shape) unit named.unit_in_range
        (was_live i logs unit event line knows state is)
        (live_here i logs unit event line knows state is ∙ offline) (λ u other. live_else i logs unit event line knows state is line u (inr other)) in
        omega arith

    from : 0 + line ≡ line
    from = omega arith

    there : slice_get old_list line ≡ Some (online_now i logs line)
    there = row_there (online_now i logs) i.shape.chunks 0 line named.in_range ∙ ap (λ l. Some (online_now i logs l)) from

    go : (b : Bool) → is_online_in state ≡ b
        → (if b then old_list else option_map_or (λ us. slice_set old_list line (us - 2 ^ unit)) (slice_get old_list line) old_list) ≡ map (online_now i new)
        (range_with_len 0 i.shape.chunks)
    go true e = map_same (online_now i logs) (online_now i new) (λ l. by l (nat_eq l line) refl) (range_with_len 0 i.shape.chunks)
      where
        by : (l : ℕ) (b : Bool) → nat_eq l line ≡ b → online_now i logs l ≡ online_now i new l
        by l true f = let same : l ≡ line = eqb-true l line f in sym (ap (online_now i new) same ∙ online_line e ∙ ap (online_now i logs) (sym same))
        by l false f = sym (other_line l (eqb-false l line f))
    go false e =
        ap (λ o. option_map_or (λ us. slice_set old_list line (us - 2 ^ unit)) o old_list) there
        ∙ sym (rows_set (online_now i logs) (online_now i new) i.shape.chunks 0 line (online_now i logs line - 2 ^ unit) named.in_range
        (ap (online_now i new) from ∙ less e)
        (λ l other. other_line l (λ same. other (same ∙ sym from))))

-- its unit was one of the line's
pub unit_was_in : (i : Image) (w : World) (line unit : ℕ) → IsLegalMount i w → IsNamedReset i (log_of w) line unit
    → is_in (online_now i (log_of w) line) unit ≡ true
unit_was_in i w line unit mount named = ap (λ n. is_in n unit) (live_bits i w (log_of w) line mount)
    ∙ bit_is (is_online (known_image i (log_of w)) line) (units i.shape) unit named.unit_in_range
    ∙ (live_is (known_image i (log_of w)) line unit ∙ ap (test_chunk is_online_in) named.is_chunk ∙ used_online named.chunk.state named.used)

-- ---- a line of which no chunk is used is empty

all_empty : (us : List (List Chunk)) (line : ℕ)
    → ((unit : ℕ) (cs : List Chunk) (c : Chunk) → slice_get us unit ≡ Some cs → slice_get cs line ≡ Some c → is_empty_state c.state ≡ true)
    → list_all (λ (c : Chunk). is_empty_state c.state) (filter_map (λ (u : List Chunk). slice_get u line) us) ≡ true
all_empty [] line each = refl
all_empty (u ∷ us) line each = add (slice_get u line) (λ c e. each 0 u c refl e) (all_empty us line (λ k cs c at there. each (suc k) cs c at there))
  where
    add : (o : Option Chunk) → ((c : Chunk) → o ≡ Some c → is_empty_state c.state ≡ true)
        → list_all (λ (c : Chunk). is_empty_state c.state) (filter_map (λ (u : List Chunk). slice_get u line) us) ≡ true
        → list_all (λ (c : Chunk). is_empty_state c.state) (cons_option o (filter_map (λ (u : List Chunk). slice_get u line) us)) ≡ true
    add None one rest = rest
    add (Some c) one rest = ap₂ (λ a b. a && b) (one c refl) rest

none_passes : (p : ℕ → Bool) (a n k : ℕ) → filter p (range_with_len a n) ≡ [] → a ≤ k → k < a + n → p k ≡ false
none_passes p a zero k none low high = absurd (omega arith)
none_passes p a (suc n) k none low high = go (p a) refl none (λ e more. none_passes p (a + 1) n k e more (omega arith))
  where
    go : (b : Bool) → p a ≡ b → cond b (a ∷ filter p (range_with_len (a + 1) n)) (filter p (range_with_len (a + 1) n)) ≡ []
        → (filter p (range_with_len (a + 1) n) ≡ [] → a + 1 ≤ k → p k ≡ false) → p k ≡ false
    go true is e rest = absurd (none-some a (sym (ap (λ xs. slice_get xs 0) e)))
    go false is e rest = by (nat_eq a k) refl
      where
        next : a ≢ k → a + 1 ≤ k
        next other = decide (cases_order a k)
          where
            decide : (a ≡ k) ⊎ ((a < k) ⊎ (k < a)) → a + 1 ≤ k
            decide (inl same) = absurd (other same)
            decide (inr (inl less)) = omega arith
            decide (inr (inr more)) = absurd (omega arith)

        by : (c : Bool) → nat_eq a k ≡ c → p k ≡ false
        by true f = ap p (sym (eqb-true a k f)) ∙ is
        by false f = let other : a ≢ k = eqb-false a k f in rest e (next other)

not_used : (state : ChunkState) → is_used_state state ≡ false → is_empty_state state ≡ true
not_used state e = go (is_empty_state state) e
  where
    go : (b : Bool) → not b ≡ false → b ≡ true
    go true f = refl
    go false f = absurd cc

pub unused_empty : (j : Image) (line : ℕ) → length j.units ≡ units j.shape → used_units j line ≡ [] → are_empty j line ≡ true
unused_empty j line count none = all_empty j.units line each
  where
    each : (unit : ℕ) (cs : List Chunk) (c : Chunk) → slice_get j.units unit ≡ Some cs → slice_get cs line ≡ Some c → is_empty_state c.state ≡ true
    each unit cs c at there =
        let low : unit < length j.units = slice_get_within j.units unit cs at in
        let chunk : chunk_in j line unit ≡ Some c = ap (option_and_then (λ (x : List Chunk). slice_get x line)) at ∙ there in
        not_used c.state (sym (ap (test_chunk is_used_state) chunk) ∙ none_passes (is_used_in j line) 0 (units j.shape) unit none (omega arith) (omega arith))

-- and a line with a used chunk isn't
pub used_not_empty : (j : Image) (line u : ℕ) (us : List ℕ) → used_units j line ≡ u ∷ us → are_empty j line ≡ false
used_not_empty j line u us is = go (are_empty j line) refl
  where
    go : (b : Bool) → are_empty j line ≡ b → are_empty j line ≡ false
    go true e = absurd (none-some u (ap (λ xs. slice_get xs 0) (sym (empty_none j line e) ∙ is)))
    go false e = e

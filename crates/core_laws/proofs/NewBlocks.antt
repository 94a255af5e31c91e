-- A stripe has landed: the blocks of its chunk that can be read now are those behind the ones that
-- could be before.
use Rattle.std.proofs.Common.{◌≡◌, ◌⊎◌, inl, inr, ℕ, ◌+◌, ◌*◌, ◌-◌, ◌<◌, ◌≤◌, ◌==◌, ◌&&◌, ◌||◌, suc, nat_eq, nat_lt, Bool, true, false, Some, List, [], ◌∷◌, length, take, refl, sym, ap, ◌∙◌, arith, length-append}
use Rattle.std.specs.Prelude.{slice_get, is_some, if◌then◌else◌}
use Rattle.std.specs.List.{filter, find, list_any, flat_map, enumerate_from}
use Rattle.std.proofs.lemmas.Bool.{cases_order}
use Rattle.std.proofs.lemmas.Option.{same_Some, slice_get_within}
use Rattle.pblk_model.specs.declared.shape.Shape.{Shape}
use Rattle.pblk_model.specs.Chunk.{Block}
use Rattle.pblk_world.specs.Events.{Logged}
use Rattle.pblk_world.specs.EngineLog.{Opened, Opening, Placed, placements, placed_on, stripes_on, answer_of, is_land, has_landed, bears_position}
use Rattle.pblk_world.specs.Space.{landed_blocks, is_readable_in, gives_back}
use Rattle.core_laws.specs.WindowOf.{is_given_back}
use Rattle.core_laws.proofs.Placing.{not_below}
use Rattle.world_laws.proofs.UnitTurns.{rise_between, rise_on}
use Rattle.core_laws.specs.ChunkBlocks.{NoneLostIn, chunk_blocks, readable_blocks, IsInRow, AreInRows}
use Rattle.core_laws.proofs.LandedBlocks.{on_new, on_its, on_rises, blocks_more}
use Rattle.core_laws.proofs.GivenBack.{IsLandedNow, of_unit_landed, gives_of_chunk, times_le, rows_within}
use Rattle.core_laws.proofs.GivenNow.{readable_plain, blocks_below, chunk_life, chunk_unit, IsOfChunk, chunk_members}
use Rattle.core_laws.proofs.FindingInLists.{found_within, found_in_stripe}
use Rattle.core_laws.proofs.PlacedLines.{found_any as list_found}
use Rattle.core_laws.proofs.NewlyRead.{find_below, found_any}
use Rattle.pblk_model.proofs.Lists.{IsAmong}
use Rattle.pblk_model.proofs.Maps.{any_member, filter_short, found_passes, in_filter}
use Rattle.pblk_model.proofs.Options.{some_value}
use Rattle.pblk_model.proofs.Parts.{all_at, got_within}
use Rattle.pblk_model.proofs.Tests.{lt_true, other_number, same_number, second_of}

-- it is the last stripe of its unit
pub record IsNewest (log : List Logged) (p : Placed) : Type 0 where
  pub index : ℕ
  pub at : slice_get (placed_on log p.stripe.unit) index ≡ Some p
  pub last : length (placed_on log p.stripe.unit) ≤ index + 1

none_newer : (log : List Logged) (p r : Placed) → IsNewest log p → IsAmong (placed_on log p.stripe.unit) r → r.number ≤ p.number
none_newer log p r is there = go (cases_order there.0 is.index)
  where
    go : (there.0 ≡ is.index) ⊎ ((there.0 < is.index) ⊎ (is.index < there.0)) → r.number ≤ p.number
    go (inl same) =
        let equal : r.number ≡ p.number =
        ap (λ (x : Placed). x.number) (same_Some r p (sym there.1 ∙ ap (slice_get (placed_on log p.stripe.unit)) same ∙ is.at)) in
        omega arith
    go (inr (inl below)) =
        let less : r.number < p.number = rise_between (placed_on log p.stripe.unit) there.0 is.index r p (rise_on log p.stripe.unit) below there.1 is.at in
        omega arith
    go (inr (inr above)) =
        let inside : there.0 < length (placed_on log p.stripe.unit) = slice_get_within (placed_on log p.stripe.unit) there.0 r there.1 in
        let last : length (placed_on log p.stripe.unit) ≤ is.index + 1 = is.last in
        absurd (omega arith)

pub last_in_chunk : (log : List Logged) (p : Placed) (o : Opening) (k : ℕ) → IsNewest log p → slice_get (stripes_on log o p.stripe.unit) k ≡ Some p
    → length (stripes_on log o p.stripe.unit) ≤ k + 1
last_in_chunk log p o k is at = go (cases_order (length (stripes_on log o p.stripe.unit)) (k + 1))
  where
    go : (length (stripes_on log o p.stripe.unit) ≡ k + 1)
        ⊎ ((length (stripes_on log o p.stripe.unit) < k + 1) ⊎ (k + 1 < length (stripes_on log o p.stripe.unit)))
        → length (stripes_on log o p.stripe.unit) ≤ k + 1
    go (inl same) = omega arith
    go (inr (inl below)) = omega arith
    go (inr (inr above)) =
        let next : (r : Placed) × (slice_get (stripes_on log o p.stripe.unit) (k + 1) ≡ Some r) = got_within (stripes_on log o p.stripe.unit) (k + 1) above in
        let newer : p.number < next.0.number =
        rise_between (stripes_on log o p.stripe.unit) k (k + 1) p next.0 (on_rises log o p.stripe.unit) (omega arith) at next.1 in
        let of : IsOfChunk log p o next.0 = all_at (IsOfChunk log p o) (stripes_on log o p.stripe.unit) (k + 1) next.0 next.1 (chunk_members log p o) in
        let older : next.0.number ≤ p.number = none_newer log p next.0 is
        (in_filter (λ (x : Placed). x.stripe.unit == p.stripe.unit) (placements log) next.0 of.among
        (ap (λ u. u == p.stripe.unit) (chunk_unit p o next.0 of.of) ∙ same_number p.stripe.unit)) in
        absurd (omega arith)

-- what had landed of the chunk is before it
landed_before : (s : Shape) (log new : List Logged) (p : Placed) (o : Opening) → IsLandedNow s log new p o → IsNewest log p
    → landed_blocks s log o p.stripe.unit ≤ p.stripe.at
landed_before s log new p o is newest =
    let here : IsAmong (stripes_on log o p.stripe.unit) p = on_its log o p.stripe.unit p is.one_more.among is.life refl in
    let row : IsInRow s here.0 p = is.rows here.0 p here.1 in
    let at : p.stripe.at ≡ here.0 * s.ws_opt = row.at in
    let few : length (stripes_on log o p.stripe.unit) ≤ here.0 + 1 = last_in_chunk log p o here.0 newest here.1 in
    let more : landed_blocks s new o p.stripe.unit ≡ landed_blocks s log o p.stripe.unit + s.ws_opt = blocks_more s log new p o is.one_more is.life in
    let n : ℕ = length (filter (has_landed new) (stripes_on new o p.stripe.unit)) in
    let count : n ≤ length (stripes_on new o p.stripe.unit) = filter_short (has_landed new) (stripes_on new o p.stripe.unit) in
    let same : length (stripes_on new o p.stripe.unit) ≡ length (stripes_on log o p.stripe.unit) =
    ap (λ (ps : List Placed). length ps) (on_new log new p is.one_more o p.stripe.unit) in
    let product : landed_blocks s new o p.stripe.unit ≤ suc here.0 * s.ws_opt = times_le n (suc here.0) s.ws_opt (omega arith) in
    let next : suc here.0 * s.ws_opt ≡ here.0 * s.ws_opt + s.ws_opt = grind arith in
    omega arith

-- ---- how many can be read

shifted : (b m n : ℕ) → nat_lt (b + m) n ≡ nat_lt b (n - m)
shifted b m n = go (cases_order (b + m) n)
  where
    none : n ≤ b + m → nat_lt (b + m) n ≡ nat_lt b (n - m)
    none above = not_below n (b + m) above ∙ sym (not_below (n - m) b (omega arith))

    go : (b + m ≡ n) ⊎ ((b + m < n) ⊎ (n < b + m)) → nat_lt (b + m) n ≡ nat_lt b (n - m)
    go (inl same) = none (omega arith)
    go (inr (inl below)) = lt_true (b + m) n below ∙ sym (lt_true b (n - m) (omega arith))
    go (inr (inr above)) = none (omega arith)

reads_are : (s : Shape) (log : List Logged) (o : Opening) (unit b : ℕ) → NoneLostIn log o unit → b < s.clba
    → is_readable_in s log unit b (Opened o) ≡ nat_lt b (readable_blocks s (landed_blocks s log o unit))
reads_are s log o unit b none within = readable_plain s log o unit b none ∙ go (nat_eq (landed_blocks s log o unit) s.clba)
  where
    go : (c : Bool) → (c || nat_lt (b + s.mw_cunits) (landed_blocks s log o unit)) ≡ nat_lt b (if c then s.clba else landed_blocks s log o unit - s.mw_cunits)
    go true = sym (lt_true b s.clba within)
    go false = shifted b s.mw_cunits (landed_blocks s log o unit)

flat_length : (size : ℕ) (ps : List Placed) → ((k : ℕ) (p : Placed) → slice_get ps k ≡ Some p → length p.stripe.blocks ≡ size)
    → length (flat_map (λ (p : Placed). p.stripe.blocks) ps) ≡ length ps * size
flat_length size [] each = grind arith
flat_length size (p ∷ ps) each =
    let rest : length (flat_map (λ (p : Placed). p.stripe.blocks) ps) ≡ length ps * size = flat_length size ps (λ k q e. each (suc k) q e) in
    let first : length p.stripe.blocks ≡ size = each 0 p refl in
    let next : suc (length ps) * size ≡ size + length ps * size = grind arith in
    length-append p.stripe.blocks (flat_map (λ (p : Placed). p.stripe.blocks) ps) ∙ omega arith

pub chunk_within : (s : Shape) (log : List Logged) (o : Opening) (unit : ℕ) → AreInRows s log o unit → length (chunk_blocks log o unit) ≤ s.clba
chunk_within s log o unit rows =
    let count : length (chunk_blocks log o unit) ≡ length (stripes_on log o unit) * s.ws_opt =
    flat_length s.ws_opt (stripes_on log o unit) (λ k p e. (rows k p e).blocks) in
    let within : length (stripes_on log o unit) * s.ws_opt ≤ s.clba = rows_within s log o unit rows in
    omega arith

-- the first that bears and can be read is the first that bears among those
pub read_found : (s : Shape) (log : List Logged) (o : Opening) (unit q : ℕ) (cs : List Block) → NoneLostIn log o unit → length cs ≤ s.clba
    → find (λ (b : ℕ × Block). bears_position s q b.1 && is_readable_in s log unit b.0 (Opened o)) (enumerate_from 0 cs) ≡ find
    (λ (b : ℕ × Block). bears_position s q b.1) (enumerate_from 0 (take (readable_blocks s (landed_blocks s log o unit)) cs))
read_found s log o unit q cs none within =
    find_below (bears_position s q) (λ b. is_readable_in s log unit b (Opened o)) (readable_blocks s (landed_blocks s log o unit)) 0 cs
    (λ b low high. reads_are s log o unit b none (omega arith))
    ∙ ap (λ k. find (λ (b : ℕ × Block). bears_position s q b.1) (enumerate_from 0 (take k cs)))
    (let same : readable_blocks s (landed_blocks s log o unit) - 0 ≡ readable_blocks s (landed_blocks s log o unit) = omega arith in same)

-- ---- what could be read is given back

pub before_lands : (log new : List Logged) (p r : Placed) → (r ≡ p) ⊎ (answer_of new r ≡ answer_of log r) → (r ≡ p → ⊥) → has_landed new r ≡ true
    → has_landed log r ≡ true
before_lands log new p r (inl same) apart e = absurd (apart same)
before_lands log new p r (inr kept) apart e = ap is_land (sym kept) ∙ e

read_landed : (s : Shape) (landed b : ℕ) → landed < s.clba → ((landed == s.clba) || nat_lt (b + s.mw_cunits) landed) ≡ true → b < landed
read_landed s landed b below e =
    go (nat_lt (b + s.mw_cunits) landed) refl
    (ap (λ c. c || nat_lt (b + s.mw_cunits) landed) (sym (other_number landed s.clba (λ same. absurd (omega arith)))) ∙ e)
  where
    go : (c : Bool) → nat_lt (b + s.mw_cunits) landed ≡ c → (false || c) ≡ true → b < landed
    go true f g = let inside : b + s.mw_cunits < landed = grind arith in omega arith
    go false f g = absurd cc

not_there : (b landed p r : ℕ) → r ≡ p → r ≤ b → b < landed → landed ≤ p → ⊥
not_there b landed p r same low high behind = omega arith

given_by : (s : Shape) (log new : List Logged) (p : Placed) (o : Opening) (q : ℕ) (b : ℕ × Block) (k : ℕ) (r : Placed) → IsLandedNow s log new p o
    → IsNewest log p
    → is_readable_in s log p.stripe.unit b.0 (Opened o) ≡ true → slice_get (stripes_on log o p.stripe.unit) k ≡ Some r
    → find (λ (b : ℕ × Block). bears_position s q b.1 && is_readable_in s log p.stripe.unit b.0 (Opened o))
    (enumerate_from r.stripe.at r.stripe.blocks) ≡ Some b → is_given_back s log q ≡ true
given_by s log new p o q b k r is newest reads at found =
    let test : ℕ × Block → Bool = λ b. bears_position s q b.1 && is_readable_in s log p.stripe.unit b.0 (Opened o) in
    let of : IsOfChunk log p o r = all_at (IsOfChunk log p o) (stripes_on log o p.stripe.unit) k r at (chunk_members log p o) in
    let low : r.stripe.at ≤ b.0 = (found_within test r.stripe.at r.stripe.blocks b found).0 in
    let more : landed_blocks s log o p.stripe.unit + s.ws_opt ≤ s.clba = blocks_below s log new p o is in
    let some : 0 < s.ws_opt = is.some in
    let landed : b.0 < landed_blocks s log o p.stripe.unit =
    read_landed s (landed_blocks s log o p.stripe.unit) b.0 (omega arith) (sym (readable_plain s log o p.stripe.unit b.0 is.unlost) ∙ reads) in
    let behind : landed_blocks s log o p.stripe.unit ≤ p.stripe.at = landed_before s log new p o is newest in
    let other : r ≡ p → ⊥ = λ same. not_there b.0 (landed_blocks s log o p.stripe.unit) p.stripe.at r.stripe.at
    (ap (λ (x : Placed). x.stripe.at) same) low landed behind in
    let lands : has_landed log r ≡ true =
    before_lands log new p r (all_at (λ (r : Placed). (r ≡ p) ⊎ (answer_of new r ≡ answer_of log r))
    (placements log) of.among.0 r of.among.1 is.one_more.others) other
    (of_unit_landed s log new p o is r of.among (chunk_unit p o r of.of) (chunk_life p o r of.of)) in
    any_member (gives_back s log q) (placements log) of.among.0 r of.among.1
    (gives_of_chunk s log o p.stripe.unit q r lands (chunk_unit p o r of.of) (chunk_life p o r of.of)
    ∙ list_found test (enumerate_from r.stripe.at r.stripe.blocks) b found)

given_found : (s : Shape) (log new : List Logged) (p : Placed) (o : Opening) (q : ℕ) (b : ℕ × Block) → IsLandedNow s log new p o → IsNewest log p
    → find (λ (b : ℕ × Block). bears_position s q b.1 && is_readable_in s log p.stripe.unit b.0 (Opened o))
    (enumerate_from 0 (chunk_blocks log o p.stripe.unit)) ≡ Some b → is_given_back s log q ≡ true
given_found s log new p o q b is newest found =
    let test : ℕ × Block → Bool = λ b. bears_position s q b.1 && is_readable_in s log p.stripe.unit b.0 (Opened o) in
    let passes : test b ≡ true = (found_passes test (enumerate_from 0 (chunk_blocks log o p.stripe.unit)) b found).0 in
    let at : (k : ℕ) × (r : Placed) × (slice_get (stripes_on log o p.stripe.unit) k ≡ Some r)
    × (find test (enumerate_from r.stripe.at r.stripe.blocks) ≡ Some b) =
    found_in_stripe test s.ws_opt 0 (stripes_on log o p.stripe.unit) b
    (λ k r e. let row = is.rows k r e in ((let at : r.stripe.at ≡ k * s.ws_opt = row.at in omega arith), row.blocks)) found in
    given_by s log new p o q b at.0 at.1 is newest (second_of (bears_position s q b.1) (is_readable_in s log p.stripe.unit b.0 (Opened o)) passes) at.2 at.3

pub given_before : (s : Shape) (log new : List Logged) (p : Placed) (o : Opening) (q : ℕ) → IsLandedNow s log new p o → IsNewest log p
    → list_any (bears_position s q) (take (readable_blocks s (landed_blocks s log o p.stripe.unit)) (chunk_blocks log o p.stripe.unit)) ≡ true
    → is_given_back s log q ≡ true
given_before s log new p o q is newest e =
    let test : ℕ × Block → Bool = λ b. bears_position s q b.1 && is_readable_in s log p.stripe.unit b.0 (Opened o) in
    let found : (b : ℕ × Block) × (find test (enumerate_from 0 (chunk_blocks log o p.stripe.unit)) ≡ Some b) =
    some_value (find test (enumerate_from 0 (chunk_blocks log o p.stripe.unit)))
    (ap is_some (read_found s log o p.stripe.unit q (chunk_blocks log o p.stripe.unit) is.unlost (chunk_within s log o p.stripe.unit is.rows))
    ∙ found_any (bears_position s q) 0 (take (readable_blocks s (landed_blocks s log o p.stripe.unit)) (chunk_blocks log o p.stripe.unit)) ∙ e) in
    given_found s log new p o q found.0 is newest found.1

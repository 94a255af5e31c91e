-- A stripe has landed: the positions that are given back now are those of blocks of its chunk.
use Rattle.std.proofs.Common.{◌≡◌, ◌⊎◌, inl, inr, ℕ, ◌+◌, ◌*◌, ◌<◌, ◌≤◌, ◌==◌, ◌&&◌, ◌||◌, nat_eq, nat_lt, Bool, true, false, List, length, refl, sym, ap, ap₂, ◌∙◌, arith}
use Rattle.std.specs.List.{AllByRecursion, filter, list_any, flat_map, enumerate_from}
use Rattle.std.proofs.lemmas.Bool.{eqb-true, eqb-false}
use Rattle.pblk_model.specs.declared.shape.Shape.{Shape}
use Rattle.pblk_model.specs.Chunk.{Block}
use Rattle.pblk_world.specs.Events.{Logged}
use Rattle.pblk_world.specs.EngineLog.{LineLife, AsFound, Opened, Freed, is_life, Opening, Placed, placements, stripes_of, stripes_on, answer_of, is_land, has_landed, bears_position}
use Rattle.pblk_world.specs.Space.{landed_blocks, is_readable_in, gives_back}
use Rattle.core_laws.specs.WindowOf.{is_given_back}
use Rattle.core_laws.proofs.TakenSlots.{any_same}
use Rattle.core_laws.specs.ChunkBlocks.{NoneLostIn, can_be_read}
use Rattle.core_laws.proofs.LandedBlocks.{on_new, blocks_more, readable_unit, readable_opening, its_opening}
use Rattle.core_laws.proofs.Growing.{any_weaker}
use Rattle.core_laws.proofs.GivenBack.{flat_any, any_split, readable_life, gives_of_chunk, IsLandedNow, of_unit_landed, unlost_new, times_le, rows_within}
use Rattle.pblk_model.proofs.Lists.{IsAmong, all_imply, all_of, among_all, zipped}
use Rattle.pblk_model.proofs.Maps.{all_filter, all_passed, any_agree, filter_short}
use Rattle.pblk_model.proofs.Tests.{and_both, first_of, lt_true, no_both, same_number, second_of}

-- ---- what could be read can be read

-- where nothing of the chunk was lost
pub readable_plain : (s : Shape) (log : List Logged) (o : Opening) (unit block : ℕ) → NoneLostIn log o unit
    → is_readable_in s log unit block (Opened o) ≡ ((landed_blocks s log o unit == s.clba) || nat_lt (block + s.mw_cunits) (landed_blocks s log o unit))
readable_plain s log o unit block none =
    ap (λ a. (a || (landed_blocks s log o unit == s.clba)) || nat_lt (block + s.mw_cunits) (landed_blocks s log o unit)) none

still_read : (old new clba at : ℕ) → old < clba → old ≤ new → ((old == clba) || nat_lt at old) ≡ true → ((new == clba) || nat_lt at new) ≡ true
still_read old new clba at below more e = go (nat_eq old clba) refl (nat_lt at old) refl e
  where
    either : (a : Bool) → (a || true) ≡ true
    either true = refl
    either false = refl

    go : (a : Bool) → nat_eq old clba ≡ a → (b : Bool) → nat_lt at old ≡ b → (a || b) ≡ true → ((new == clba) || nat_lt at new) ≡ true
    go true f b g h = let same : old ≡ clba = eqb-true old clba f in absurd (omega arith)
    go false f true g h = let inside : at < old = grind arith in ap (λ c. (new == clba) || c) (lt_true at new (omega arith)) ∙ either (new == clba)
    go false f false g h = absurd cc

pub blocks_below : (s : Shape) (log new : List Logged) (p : Placed) (o : Opening) → IsLandedNow s log new p o
    → landed_blocks s log o p.stripe.unit + s.ws_opt ≤ s.clba
blocks_below s log new p o is =
    let more : landed_blocks s new o p.stripe.unit ≡ landed_blocks s log o p.stripe.unit + s.ws_opt = blocks_more s log new p o is.one_more is.life in
    let n : ℕ = length (filter (has_landed new) (stripes_on new o p.stripe.unit)) in
    let few : n ≤ length (stripes_on new o p.stripe.unit) = filter_short (has_landed new) (stripes_on new o p.stripe.unit) in
    let same : length (stripes_on new o p.stripe.unit) ≡ length (stripes_on log o p.stripe.unit) =
    ap (λ (ps : List Placed). length ps) (on_new log new p is.one_more o p.stripe.unit) in
    let product : landed_blocks s new o p.stripe.unit ≤ length (stripes_on log o p.stripe.unit) * s.ws_opt =
    times_le n (length (stripes_on log o p.stripe.unit)) s.ws_opt (omega arith) in
    let within : length (stripes_on log o p.stripe.unit) * s.ws_opt ≤ s.clba = rows_within s log o p.stripe.unit is.rows in
    omega arith

pub readable_still : (s : Shape) (log new : List Logged) (p : Placed) (o : Opening) (block : ℕ) → IsLandedNow s log new p o
    → is_readable_in s log p.stripe.unit block (Opened o) ≡ true → is_readable_in s new p.stripe.unit block (Opened o) ≡ true
readable_still s log new p o block is e =
    let more : landed_blocks s new o p.stripe.unit ≡ landed_blocks s log o p.stripe.unit + s.ws_opt = blocks_more s log new p o is.one_more is.life in
    let below : landed_blocks s log o p.stripe.unit + s.ws_opt ≤ s.clba = blocks_below s log new p o is in
    let some : 0 < s.ws_opt = is.some in
    readable_plain s new o p.stripe.unit block (unlost_new s log new p o is)
    ∙ still_read (landed_blocks s log o p.stripe.unit) (landed_blocks s new o p.stripe.unit) s.clba (block + s.mw_cunits) (omega arith) (omega arith)
    (sym (readable_plain s log o p.stripe.unit block is.unlost) ∙ e)

-- ---- stripes of the chunk, and others

abbrev pub of_chunk : Placed → Opening → Placed → Bool
of_chunk p o r = is_life o.number r.life && (r.stripe.unit == p.stripe.unit)

pub readable_other : (s : Shape) (log new : List Logged) (p : Placed) (o : Opening) (r : Placed) (block : ℕ) → IsLandedNow s log new p o
    → of_chunk p o r ≡ false → is_readable_in s new r.stripe.unit block r.life ≡ is_readable_in s log r.stripe.unit block r.life
readable_other s log new p o r block is e = go (nat_eq r.stripe.unit p.stripe.unit) refl
  where
    by_life : (life : LineLife) → is_life o.number life ≡ false → is_readable_in s new r.stripe.unit block life ≡ is_readable_in s log r.stripe.unit block life
    by_life AsFound f = refl
    by_life (Opened other) f = readable_opening s log new p o other r.stripe.unit block is.one_more is.life (eqb-false other.number o.number f)
    by_life (Freed past k) f = refl

    first : (a : Bool) → (a && true) ≡ false → a ≡ false
    first true f = f
    first false f = refl

    go : (b : Bool) → nat_eq r.stripe.unit p.stripe.unit ≡ b → is_readable_in s new r.stripe.unit block r.life ≡ is_readable_in s log r.stripe.unit block r.life
    go true f = by_life r.life (first (is_life o.number r.life) (ap (λ b. is_life o.number r.life && b) (sym f) ∙ e))
    go false f = readable_unit s log new p r.stripe.unit block r.life is.one_more (eqb-false r.stripe.unit p.stripe.unit f)

its_chunk : (s : Shape) (log new : List Logged) (p : Placed) (o : Opening) → IsLandedNow s log new p o → of_chunk p o p ≡ true
its_chunk s log new p o is = and_both (is_life o.number p.life) (p.stripe.unit == p.stripe.unit) (its_opening o p.life is.life) (same_number p.stripe.unit)

landed_other : (s : Shape) (log new : List Logged) (p : Placed) (o : Opening) (r : Placed) → IsLandedNow s log new p o
    → (r ≡ p) ⊎ (answer_of new r ≡ answer_of log r) → of_chunk p o r ≡ false → has_landed new r ≡ has_landed log r
landed_other s log new p o r is (inl same) e = no_both (of_chunk p o r) (ap (of_chunk p o) same ∙ its_chunk s log new p o is) e
landed_other s log new p o r is (inr kept) e = ap is_land kept

pub gives_other : (s : Shape) (log new : List Logged) (p : Placed) (o : Opening) (q : ℕ) (r : Placed) → IsLandedNow s log new p o
    → (r ≡ p) ⊎ (answer_of new r ≡ answer_of log r) → of_chunk p o r ≡ false → gives_back s new q r ≡ gives_back s log q r
gives_other s log new p o q r is either e =
    ap₂ (λ a b. a && b) (landed_other s log new p o r is either e)
    (any_same (λ (b : ℕ × Block). bears_position s q b.1 && is_readable_in s new r.stripe.unit b.0 r.life)
    (λ (b : ℕ × Block). bears_position s q b.1 && is_readable_in s log r.stripe.unit b.0 r.life)
    (λ b. ap (λ c. bears_position s q b.1 && c) (readable_other s log new p o r b.0 is e)) (enumerate_from r.stripe.at r.stripe.blocks))

pub chunk_life : (p : Placed) (o : Opening) (r : Placed) → of_chunk p o r ≡ true → is_life o.number r.life ≡ true
chunk_life p o r e = first_of (is_life o.number r.life) (r.stripe.unit == p.stripe.unit) e

pub chunk_unit : (p : Placed) (o : Opening) (r : Placed) → of_chunk p o r ≡ true → r.stripe.unit ≡ p.stripe.unit
chunk_unit p o r e = eqb-true r.stripe.unit p.stripe.unit (second_of (is_life o.number r.life) (r.stripe.unit == p.stripe.unit) e)

pub readable_own : (s : Shape) (log new : List Logged) (p : Placed) (o : Opening) (r : Placed) (block : ℕ) → IsLandedNow s log new p o → of_chunk p o r ≡ true
    → is_readable_in s log r.stripe.unit block r.life ≡ true → is_readable_in s new r.stripe.unit block r.life ≡ true
readable_own s log new p o r block is e f =
    let its : r.stripe.unit ≡ p.stripe.unit = chunk_unit p o r e in
    ap (λ u. is_readable_in s new u block r.life) its ∙ readable_life s new o p.stripe.unit block r.life (chunk_life p o r e)
    ∙ readable_still s log new p o block is
    (sym (readable_life s log o p.stripe.unit block r.life (chunk_life p o r e)) ∙ ap (λ u. is_readable_in s log u block r.life) (sym its) ∙ f)

pub gives_still : (s : Shape) (log new : List Logged) (p : Placed) (o : Opening) (q : ℕ) (r : Placed) → IsLandedNow s log new p o → IsAmong (placements log) r
    → of_chunk p o r ≡ true → gives_back s log q r ≡ true → gives_back s new q r ≡ true
gives_still s log new p o q r is among e f =
    let old : ℕ × Block → Bool = λ b. bears_position s q b.1 && is_readable_in s log r.stripe.unit b.0 r.life in
    let now : ℕ × Block → Bool = λ b. bears_position s q b.1 && is_readable_in s new r.stripe.unit b.0 r.life in
    and_both (has_landed new r) (list_any (λ (b : ℕ × Block). bears_position s q b.1 && is_readable_in s new r.stripe.unit b.0 r.life)
    (enumerate_from r.stripe.at r.stripe.blocks))
    (of_unit_landed s log new p o is r among (chunk_unit p o r e) (chunk_life p o r e))
    (any_weaker old now (enumerate_from r.stripe.at r.stripe.blocks)
    (all_of (λ (b : ℕ × Block). (bears_position s q b.1 && is_readable_in s log r.stripe.unit b.0 r.life) ≡ true
    → (bears_position s q b.1 && is_readable_in s new r.stripe.unit b.0 r.life) ≡ true)
    (λ b g. and_both (bears_position s q b.1) (is_readable_in s new r.stripe.unit b.0 r.life)
    (first_of (bears_position s q b.1) (is_readable_in s log r.stripe.unit b.0 r.life) g)
    (readable_own s log new p o r b.0 is e (second_of (bears_position s q b.1) (is_readable_in s log r.stripe.unit b.0 r.life) g)))
    (enumerate_from r.stripe.at r.stripe.blocks))
    (second_of (has_landed log r) (list_any (λ (b : ℕ × Block). bears_position s q b.1 && is_readable_in s log r.stripe.unit b.0 r.life)
    (enumerate_from r.stripe.at r.stripe.blocks)) f))

-- ---- the law

-- those of the chunk are among all, and of the chunk
pub record IsOfChunk (log : List Logged) (p : Placed) (o : Opening) (r : Placed) : Type 0 where
  pub among : IsAmong (placements log) r
  pub of : of_chunk p o r ≡ true

pub chunk_members : (log : List Logged) (p : Placed) (o : Opening) → AllByRecursion (IsOfChunk log p o) (stripes_on log o p.stripe.unit)
chunk_members log p o =
    let lives : AllByRecursion (λ (r : Placed). IsAmong (placements log) r × (is_life o.number r.life ≡ true)) (stripes_of log o) =
    zipped (IsAmong (placements log)) (λ (r : Placed). is_life o.number r.life ≡ true)
    (λ (r : Placed). IsAmong (placements log) r × (is_life o.number r.life ≡ true)) (λ r a b. (a, b)) (stripes_of log o)
    (all_filter (IsAmong (placements log)) (λ (r : Placed). is_life o.number r.life) (placements log) (among_all (placements log)))
    (all_passed (λ (r : Placed). is_life o.number r.life) (placements log)) in
    zipped (λ (r : Placed). IsAmong (placements log) r × (is_life o.number r.life ≡ true)) (λ (r : Placed). (r.stripe.unit == p.stripe.unit) ≡ true)
    (IsOfChunk log p o)
    (λ r a b. record { among = a.0; of = and_both (is_life o.number r.life) (r.stripe.unit == p.stripe.unit) a.1 b }) (stripes_on log o p.stripe.unit)
    (all_filter (λ (r : Placed). IsAmong (placements log) r × (is_life o.number r.life ≡ true)) (λ (r : Placed). r.stripe.unit == p.stripe.unit)
    (stripes_of log o) lives)
    (all_passed (λ (r : Placed). r.stripe.unit == p.stripe.unit) (stripes_of log o))

pub chunk_gives : (s : Shape) (log new : List Logged) (p : Placed) (o : Opening) (q : ℕ) → IsLandedNow s log new p o
    → list_any (gives_back s new q) (stripes_on log o p.stripe.unit) ≡ can_be_read s new o p.stripe.unit q
chunk_gives s log new p o q is =
    let test : ℕ × Block → Bool = λ b. bears_position s q b.1 && is_readable_in s new p.stripe.unit b.0 (Opened o) in
    any_agree (gives_back s new q)
    (λ (r : Placed). list_any (λ (b : ℕ × Block). bears_position s q b.1 && is_readable_in s new p.stripe.unit b.0 (Opened o))
    (enumerate_from r.stripe.at r.stripe.blocks)) (stripes_on log o p.stripe.unit)
    (all_imply (IsOfChunk log p o)
    (λ (r : Placed). gives_back s new q r ≡ list_any (λ (b : ℕ × Block). bears_position s q b.1 && is_readable_in s new p.stripe.unit b.0 (Opened o))
    (enumerate_from r.stripe.at r.stripe.blocks))
    (λ r of. gives_of_chunk s new o p.stripe.unit q r (of_unit_landed s log new p o is r of.among (chunk_unit p o r of.of) (chunk_life p o r of.of))
    (chunk_unit p o r of.of)
    (chunk_life p o r of.of)) (stripes_on log o p.stripe.unit) (chunk_members log p o))
    ∙ sym (flat_any test s.ws_opt 0 (stripes_on log o p.stripe.unit)
    (λ k r e. let row = is.rows k r e in ((let at : r.stripe.at ≡ k * s.ws_opt = row.at in omega arith), row.blocks)))
    ∙ ap (λ (ps : List Placed). list_any test (enumerate_from 0 (flat_map (λ (r : Placed). r.stripe.blocks) ps)))
    (sym (on_new log new p is.one_more o p.stripe.unit))

pub given_now : (s : Shape) (log new : List Logged) (p : Placed) (o : Opening) (q : ℕ) → IsLandedNow s log new p o
    → is_given_back s new q ≡ (is_given_back s log q || can_be_read s new o p.stripe.unit q)
given_now s log new p o q is =
    ap (list_any (gives_back s new q)) is.one_more.stripes
    ∙ any_split (gives_back s new q) (gives_back s log q) (λ (r : Placed). is_life o.number r.life) (λ (r : Placed). r.stripe.unit == p.stripe.unit)
    (placements log)
    (all_imply (λ (r : Placed). (r ≡ p) ⊎ (answer_of new r ≡ answer_of log r))
    (λ (r : Placed). of_chunk p o r ≡ false → gives_back s new q r ≡ gives_back s log q r) (λ r either e. gives_other s log new p o q r is either e)
    (placements log) is.one_more.others)
    (all_imply (IsAmong (placements log)) (λ (r : Placed). of_chunk p o r ≡ true → gives_back s log q r ≡ true → gives_back s new q r ≡ true)
    (λ r among e f. gives_still s log new p o q r is among e f) (placements log) (among_all (placements log)))
    ∙ ap (λ b. is_given_back s log q || b) (chunk_gives s log new p o q is)

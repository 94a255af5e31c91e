-- The positions in blocks that can be read now, and couldn't before, are still held.
use Rattle.std.proofs.Common.{◌≡◌, ℕ, ◌+◌, ◌*◌, ◌<◌, ◌≤◌, ◌==◌, ◌&&◌, ◌||◌, zero, suc, Bool, true, false, cond, Some, None, List, [], ◌∷◌, ◌++◌, length, take, drop, refl, sym, subst, ap, ◌∙◌, arith}
use Rattle.std.specs.Prelude.{is_some, slice_get}
use Rattle.std.specs.List.{AllByRecursion, filter, find, list_any, flat_map, enumerate_from}
use Rattle.std.proofs.lemmas.List.{take-take as take_within}
use Rattle.pblk_model.specs.declared.shape.Shape.{Shape}
use Rattle.pblk_model.specs.Chunk.{Block}
use Rattle.pblk_world.specs.Events.{Logged}
use Rattle.pblk_world.specs.EngineLog.{Opened, is_life, Opening, Placed, placements, stripes_of, stripes_on, answer_of, is_land, is_loss, has_landed, was_lost, bears_position, holds_position}
use Rattle.pblk_world.specs.Fronts.{has_landed_at}
use Rattle.pblk_world.specs.Space.{landed_blocks, is_readable_in, gives_back}
use Rattle.core_laws.specs.WindowOf.{is_given_back}
use Rattle.core_laws.specs.ChunkBlocks.{NoneLostIn, chunk_blocks, readable_blocks, newly_readable}
use Rattle.core_laws.proofs.BorneOnce.{times, times_append, BearsOnce}
use Rattle.core_laws.proofs.HeldOnce.{HeldOnce}
use Rattle.core_laws.proofs.LandedBlocks.{on_rises}
use Rattle.core_laws.proofs.PlacedAnew.{landed_not_lost}
use Rattle.world_laws.proofs.UnitTurns.{Rises}
use Rattle.core_laws.proofs.Growing.{given_holds, given_landed}
use Rattle.core_laws.proofs.GivenBack.{IsLandedNow, flat_any, gives_of_chunk, any_append, none_at}
use Rattle.core_laws.proofs.GivenNow.{blocks_below, chunk_life, chunk_unit, IsOfChunk, chunk_members}
use Rattle.core_laws.proofs.NewlyRead.{found_any}
use Rattle.core_laws.proofs.NewBlocks.{IsNewest, read_found, chunk_within}
use Rattle.core_laws.proofs.NewWindow.{low_high, given_newly}
use Rattle.pblk_model.proofs.Lists.{IsAmong, later}
use Rattle.pblk_model.proofs.Maps.{all_filter, any_found, any_member, fewer_taken, filter_none, found_passes, from_filter}
use Rattle.pblk_model.proofs.Options.{some_value}
use Rattle.pblk_model.proofs.Parts.{all_at, all_by_get}
use Rattle.pblk_model.proofs.Tests.{first_of, or_right, second_of}

-- ---- counting

any_counts : {X : Type 0} (f : X → Bool) (xs : List X) → list_any f xs ≡ true → 0 < length (filter f xs)
any_counts f [] e = absurd cc
any_counts {X} f (x ∷ xs) e = go (f x) e (any_counts f xs)
  where
    go : (b : Bool) → (b || list_any f xs) ≡ true → (list_any f xs ≡ true → 0 < length (filter f xs)) → 0 < length (cond b (x ∷ filter f xs) (filter f xs))
    go true g rest = omega arith
    go false g rest = rest g

pub none_counted : {X : Type 0} (f : X → Bool) (xs : List X) → length (filter f xs) ≡ 0 → list_any f xs ≡ false
none_counted {X} f xs e = go (list_any f xs) refl
  where
    go : (b : Bool) → list_any f xs ≡ b → b ≡ false
    go true g = let some : 0 < length (filter f xs) = any_counts f xs g in absurd (omega arith)
    go false g = refl

not_any : {X : Type 0} (f : X → Bool) (xs : List X) → list_any f xs ≡ false → length (filter f xs) ≡ 0
not_any f [] e = refl
not_any {X} f (x ∷ xs) e = go (f x) e (not_any f xs)
  where
    go : (b : Bool) → (b || list_any f xs) ≡ false → (list_any f xs ≡ false → length (filter f xs) ≡ 0) → length (cond b (x ∷ filter f xs) (filter f xs)) ≡ 0
    go true g rest = absurd cc
    go false g rest = rest g

parts_of : {X : Type 0} (k : ℕ) (xs : List X) → xs ≡ take k xs ++ drop k xs
parts_of zero xs = refl
parts_of (suc k) [] = refl
parts_of (suc k) (x ∷ xs) = ap (λ ys. x ∷ ys) (parts_of k xs)

-- the blocks of stripes bear a position at most as often as stripes hold it
times_held : (s : Shape) (q : ℕ) (ps : List Placed) → AllByRecursion (λ (p : Placed). BearsOnce s p.stripe.blocks) ps
    → times s q (flat_map (λ (p : Placed). p.stripe.blocks) ps) ≤ length (filter (holds_position s q) ps)
unfolding times
times_held s q [] once = omega arith
times_held s q (p ∷ ps) once =
    let sum : times s q (p.stripe.blocks ++ flat_map (λ (p : Placed). p.stripe.blocks) ps) ≡ times s q p.stripe.blocks + times s q
    (flat_map (λ (p : Placed). p.stripe.blocks) ps) = times_append s q p.stripe.blocks (flat_map (λ (p : Placed). p.stripe.blocks) ps) in
    subst (λ n. n ≤ length (filter (holds_position s q) (p ∷ ps))) (sym sum) (go (holds_position s q p) refl (times_held s q ps once.1))
  where
    go : (b : Bool) → holds_position s q p ≡ b → times s q (flat_map (λ (p : Placed). p.stripe.blocks) ps) ≤ length (filter (holds_position s q) ps)
        → times s q p.stripe.blocks + times s q (flat_map (λ (p : Placed). p.stripe.blocks) ps) ≤ length
        (cond b (p ∷ filter (holds_position s q) ps) (filter (holds_position s q) ps))
    go true e rest = let one : times s q p.stripe.blocks ≤ 1 = once.0 q in omega arith
    go false e rest = let none : times s q p.stripe.blocks ≡ 0 = not_any (bears_position s q) p.stripe.blocks e in omega arith

-- of stripes in their order at most one holds a position, where those that do are one
one_holds : (s : Shape) (q : ℕ) (ps : List Placed) → Rises ps
    → ((p r : Placed) → IsAmong ps p → IsAmong ps r → holds_position s q p ≡ true → holds_position s q r ≡ true → p ≡ r)
    → length (filter (holds_position s q) ps) ≤ 1
one_holds s q [] rise one = omega arith
one_holds s q (p ∷ ps) rise one =
    go (holds_position s q p) refl (one_holds s q ps rise.1 (λ x y a b. one x y (later p ps x a) (later p ps y b)))
  where
    go : (b : Bool) → holds_position s q p ≡ b → length (filter (holds_position s q) ps) ≤ 1
        → length (cond b (p ∷ filter (holds_position s q) ps) (filter (holds_position s q) ps)) ≤ 1
    go false e rest = rest
    go true e rest =
        let none : filter (holds_position s q) ps ≡ [] = filter_none (holds_position s q) ps (all_by_get (λ r. holds_position s q r ≡ false) ps
        (λ k r at. by k r at (holds_position s q r) refl)) in
        let zero_ : length (filter (holds_position s q) ps) ≡ 0 = ap (λ (rs : List Placed). length rs) none in
        omega arith
      where
        by : (k : ℕ) (r : Placed) → slice_get ps k ≡ Some r → (c : Bool) → holds_position s q r ≡ c → c ≡ false
        by k r at false f = refl
        by k r at true f =
            let same : p ≡ r = one p r (0, refl) (later p ps r (k, at)) e f in
            let number : p.number ≡ r.number = ap (λ (x : Placed). x.number) same in
            let above : p.number < r.number = all_at (λ (x : Placed). p.number < x.number) ps k r at rise.0 in
            absurd (omega arith)

chunk_times : (s : Shape) (log : List Logged) (o : Opening) (unit q : ℕ) → HeldOnce s log → NoneLostIn log o unit
    → AllByRecursion (λ (p : Placed). BearsOnce s p.stripe.blocks) (placements log) → times s q (chunk_blocks log o unit) ≤ 1
chunk_times s log o unit q held unlost once =
    let few : times s q (chunk_blocks log o unit) ≤ length (filter (holds_position s q) (stripes_on log o unit)) = times_held s q (stripes_on log o unit)
    (all_filter (λ (p : Placed). BearsOnce s p.stripe.blocks) (λ (p : Placed). p.stripe.unit == unit) (stripes_of log o)
    (all_filter (λ (p : Placed). BearsOnce s p.stripe.blocks) (λ (p : Placed). is_life o.number p.life) (placements log) once)) in
    let one : length (filter (holds_position s q) (stripes_on log o unit)) ≤ 1 =
    one_holds s q (stripes_on log o unit) (on_rises log o unit)
    (λ p r a b e f. held q p r (in_all p a) (in_all r b) e f (none_at (was_lost log) (stripes_on log o unit) p unlost a)
    (none_at (was_lost log) (stripes_on log o unit) r unlost b)) in
    omega arith
  where
    in_all : (p : Placed) → IsAmong (stripes_on log o unit) p → IsAmong (placements log) p
    in_all p a = from_filter (λ (x : Placed). is_life o.number x.life) (placements log) p
        (from_filter (λ (x : Placed). x.stripe.unit == unit) (stripes_of log o) p a)

-- ---- a position that can be read now wasn't given back

pub any_stripe : (f : Block → Bool) (ps : List Placed) → list_any f (flat_map (λ (p : Placed). p.stripe.blocks) ps) ≡ true
    → list_any (λ (p : Placed). list_any f p.stripe.blocks) ps ≡ true
any_stripe f [] e = absurd cc
any_stripe f (p ∷ ps) e = go (list_any f p.stripe.blocks) (sym (any_append f p.stripe.blocks (flat_map (λ (p : Placed). p.stripe.blocks) ps)) ∙ e)
    (any_stripe f ps)
  where
    go : (b : Bool) → (b || list_any f (flat_map (λ (p : Placed). p.stripe.blocks) ps)) ≡ true
        → (list_any f (flat_map (λ (p : Placed). p.stripe.blocks) ps) ≡ true → list_any (λ (p : Placed). list_any f p.stripe.blocks) ps ≡ true)
        → (b || list_any (λ (p : Placed). list_any f p.stripe.blocks) ps) ≡ true
    go true g rest = refl
    go false g rest = rest g

pub member_of : {X : Type 0} (f : X → Bool) (xs : List X) → list_any f xs ≡ true → (x : X) × (f x ≡ true) × IsAmong xs x
member_of {X} f xs e =
    let found : (x : X) × (find f xs ≡ Some x) = some_value (find f xs) (sym (any_is f xs) ∙ e) in
    let is = found_passes f xs found.0 found.1 in
    (found.0, is.0, is.1)
  where
    any_is : {X : Type 0} (f : X → Bool) (xs : List X) → list_any f xs ≡ is_some (find f xs)
    any_is f [] = refl
    any_is {X} f (x ∷ xs) = by (f x) (any_is f xs)
      where
        by : (b : Bool) → list_any f xs ≡ is_some (find f xs) → (b || list_any f xs) ≡ is_some (cond b (Some x) (find f xs))
        by true rest = refl
        by false rest = rest

-- a stripe of the chunk that gives the position back does so by an earlier block
earlier_block : (s : Shape) (log new : List Logged) (p : Placed) (o : Opening) (q : ℕ) → IsLandedNow s log new p o → HeldOnce s log
    → is_given_back s log q ≡ true → list_any (bears_position s q) (chunk_blocks log o p.stripe.unit) ≡ true
    → list_any (bears_position s q) (take (readable_blocks s (landed_blocks s log o p.stripe.unit)) (chunk_blocks log o p.stripe.unit)) ≡ true
earlier_block s log new p o q is held given borne =
    let test : ℕ × Block → Bool = λ b. bears_position s q b.1 && is_readable_in s log p.stripe.unit b.0 (Opened o) in
    let r : (x : Placed) × (holds_position s q x ≡ true) × IsAmong (stripes_on log o p.stripe.unit) x =
    member_of (holds_position s q) (stripes_on log o p.stripe.unit) (any_stripe (bears_position s q) (stripes_on log o p.stripe.unit) borne) in
    let of : IsOfChunk log p o r.0 = all_at (IsOfChunk log p o) (stripes_on log o p.stripe.unit) r.2.0 r.0 r.2.1 (chunk_members log p o) in
    let t : (x : Placed) × (gives_back s log q x ≡ true) × IsAmong (placements log) x = member_of (gives_back s log q) (placements log) given in
    let same : t.0 ≡ r.0 = held q t.0 r.0 t.2 of.among
    (second_of (has_landed log t.0) (holds_position s q t.0) (given_holds s log q t.0 t.1)) r.1
    (landed_not_lost log t.0 (first_of (has_landed log t.0) (holds_position s q t.0) (given_holds s log q t.0 t.1)))
    (none_at (was_lost log) (stripes_on log o p.stripe.unit) r.0 is.unlost r.2) in
    let gives : gives_back s log q r.0 ≡ true = ap (gives_back s log q) (sym same) ∙ t.1 in
    let landed : has_landed log r.0 ≡ true = first_of (has_landed log r.0) (holds_position s q r.0) (given_holds s log q r.0 gives) in
    let reads : list_any test (enumerate_from r.0.stripe.at r.0.stripe.blocks) ≡ true =
    sym (gives_of_chunk s log o p.stripe.unit q r.0 landed (chunk_unit p o r.0 of.of) (chunk_life p o r.0 of.of)) ∙ gives in
    let whole : list_any test (enumerate_from 0 (chunk_blocks log o p.stripe.unit)) ≡ true =
    flat_any test s.ws_opt 0 (stripes_on log o p.stripe.unit)
    (λ k x e. let row = is.rows k x e in ((let at : x.stripe.at ≡ k * s.ws_opt = row.at in omega arith), row.blocks))
    ∙ any_member (λ (x : Placed). list_any test (enumerate_from x.stripe.at x.stripe.blocks)) (stripes_on log o p.stripe.unit) r.2.0 r.0 r.2.1 reads in
    sym (found_any (bears_position s q) 0 (take (readable_blocks s (landed_blocks s log o p.stripe.unit)) (chunk_blocks log o p.stripe.unit)))
    ∙ ap is_some (sym (read_found s log o p.stripe.unit q (chunk_blocks log o p.stripe.unit) is.unlost (chunk_within s log o p.stripe.unit is.rows)))
    ∙ sym (any_found test (enumerate_from 0 (chunk_blocks log o p.stripe.unit))) ∙ whole

-- so those of blocks behind the ones that could be read before
pub part_kept : (s : Shape) (log new : List Logged) (p : Placed) (o : Opening) (q high : ℕ) → IsLandedNow s log new p o → HeldOnce s log
    → AllByRecursion (λ (p : Placed). BearsOnce s p.stripe.blocks) (placements log)
    → readable_blocks s (landed_blocks s log o p.stripe.unit) ≤ high
    → list_any (bears_position s q) (drop (readable_blocks s (landed_blocks s log o p.stripe.unit)) (take high (chunk_blocks log o p.stripe.unit))) ≡ true
    → is_given_back s log q ≡ false
unfolding times
part_kept s log new p o q high is held once above e =
    let low : ℕ = readable_blocks s (landed_blocks s log o p.stripe.unit) in
    let cs : List Block = chunk_blocks log o p.stripe.unit in
    let one : times s q cs ≤ 1 = chunk_times s log o p.stripe.unit q held is.unlost once in
    let few : times s q (take high cs) ≤ times s q cs = fewer_taken (bears_position s q) high cs in
    let sum : times s q (take high cs) ≡ times s q (take low (take high cs)) + times s q (drop low (take high cs)) =
    ap (times s q) (parts_of low (take high cs)) ∙ times_append s q (take low (take high cs)) (drop low (take high cs)) in
    let first : take low (take high cs) ≡ take low cs = take_within low high cs above in
    let same : times s q (take low (take high cs)) ≡ times s q (take low cs) = ap (times s q) first in
    let some : 0 < times s q (drop low (take high cs)) = any_counts (bears_position s q) (drop low (take high cs)) e in
    let none : times s q (take low cs) ≡ 0 = omega arith in
    let clear : list_any (bears_position s q) (take low cs) ≡ false = none_counted (bears_position s q) (take low cs) none in
    let borne : list_any (bears_position s q) cs ≡ true = borne_in (bears_position s q) cs (omega arith) in
    go (is_given_back s log q) refl clear borne
  where
    borne_in : (f : Block → Bool) (bs : List Block) → 0 < length (filter f bs) → list_any f bs ≡ true
    borne_in f bs some = by (list_any f bs) refl
      where
        by : (b : Bool) → list_any f bs ≡ b → b ≡ true
        by true g = refl
        by false g = let none : length (filter f bs) ≡ 0 = not_any f bs g in absurd (omega arith)

    go : (b : Bool) → is_given_back s log q ≡ b
        → list_any (bears_position s q) (take (readable_blocks s (landed_blocks s log o p.stripe.unit)) (chunk_blocks log o p.stripe.unit)) ≡ false
        → list_any (bears_position s q) (chunk_blocks log o p.stripe.unit) ≡ true → b ≡ false
    go true f clear borne = let bad : list_any (bears_position s q)
        (take (readable_blocks s (landed_blocks s log o p.stripe.unit)) (chunk_blocks log o p.stripe.unit)) ≡ true =
        earlier_block s log new p o q is held f borne in absurd cc
    go false f clear borne = refl

pub newly_kept : (s : Shape) (log new : List Logged) (p : Placed) (o : Opening) (q : ℕ) → IsLandedNow s log new p o → HeldOnce s log
    → AllByRecursion (λ (p : Placed). BearsOnce s p.stripe.blocks) (placements log)
    → list_any (bears_position s q) (newly_readable s log o p.stripe.unit) ≡ true → is_given_back s log q ≡ false
newly_kept s log new p o q is held once e = part_kept s log new p o q (readable_blocks s (landed_blocks s log o p.stripe.unit + s.ws_opt)) is held once
    (low_high s (landed_blocks s log o p.stripe.unit) (blocks_below s log new p o is) is.some) e

pub newly_landed : (s : Shape) (log new : List Logged) (p : Placed) (o : Opening) (q : ℕ) → IsLandedNow s log new p o → IsNewest log p
    → list_any (bears_position s q) (newly_readable s log o p.stripe.unit) ≡ true → has_landed_at s new q ≡ true
newly_landed s log new p o q is newest e = given_landed s new q
    (given_newly s log new p o q is newest ∙ or_right (is_given_back s log q) (list_any (bears_position s q) (newly_readable s log o p.stripe.unit)) e)

-- of a part of a list
any_dropped : {X : Type 0} (f : X → Bool) (k : ℕ) (xs : List X) → list_any f (drop k xs) ≡ true → list_any f xs ≡ true
any_dropped f zero xs e = e
any_dropped f (suc k) [] e = e
any_dropped f (suc k) (x ∷ xs) e = ap (λ b. f x || b) (any_dropped f k xs e) ∙ either (f x)
  where
    either : (b : Bool) → (b || true) ≡ true
    either true = refl
    either false = refl

any_taken : {X : Type 0} (f : X → Bool) (k : ℕ) (xs : List X) → list_any f (take k xs) ≡ true → list_any f xs ≡ true
any_taken f zero xs e = absurd cc
any_taken f (suc k) [] e = e
any_taken f (suc k) (x ∷ xs) e = go (f x) e (any_taken f k xs)
  where
    go : (b : Bool) → (b || list_any f (take k xs)) ≡ true → (list_any f (take k xs) ≡ true → list_any f xs ≡ true) → (b || list_any f xs) ≡ true
    go true g rest = refl
    go false g rest = rest g

pub any_part : {X : Type 0} (f : X → Bool) (low high : ℕ) (xs : List X) → list_any f (drop low (take high xs)) ≡ true → list_any f xs ≡ true
any_part f low high xs e = any_taken f high xs (any_dropped f low (take high xs) e)

-- an unanswered stripe gives nothing back, and no other holds its positions
pub own_kept : (s : Shape) (log : List Logged) (p : Placed) (q : ℕ) → HeldOnce s log → IsAmong (placements log) p → answer_of log p ≡ None
    → holds_position s q p ≡ true → is_given_back s log q ≡ false
own_kept s log p q held among waits holds = go (is_given_back s log q) refl
  where
    no_both : {X : Type 0} (b : Bool) → b ≡ true → b ≡ false → X
    no_both b e f = absurd cc

    go : (b : Bool) → is_given_back s log q ≡ b → b ≡ false
    go true f =
        let t : (x : Placed) × (gives_back s log q x ≡ true) × IsAmong (placements log) x = member_of (gives_back s log q) (placements log) f in
        let both : (has_landed log t.0 && holds_position s q t.0) ≡ true = given_holds s log q t.0 t.1 in
        let landed : has_landed log t.0 ≡ true = first_of (has_landed log t.0) (holds_position s q t.0) both in
        let same : t.0 ≡ p = held q t.0 p t.2 among (second_of (has_landed log t.0) (holds_position s q t.0) both) holds (landed_not_lost log t.0 landed)
        (ap is_loss waits) in
        no_both (has_landed log p) (ap (has_landed log) (sym same) ∙ landed) (ap is_land waits)
    go false f = refl

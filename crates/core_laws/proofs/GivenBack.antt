-- A stripe has landed: which positions are given back.
use Rattle.std.proofs.Common.{◌≡◌, ℕ, ◌+◌, ◌*◌, ◌<◌, ◌≤◌, ◌==◌, ◌&&◌, ◌||◌, zero, suc, Bool, true, false, cond, Some, List, [], ◌∷◌, ◌++◌, length, refl, sym, subst, ap, ap₂, ◌∙◌, arith}
use Rattle.std.specs.Prelude.{slice_get}
use Rattle.std.specs.List.{AllByRecursion, filter, list_any, flat_map, enumerate_from}
use Rattle.std.proofs.lemmas.Bool.{eqb-true}
use Rattle.pblk_model.specs.declared.shape.Shape.{Shape}
use Rattle.pblk_model.specs.Chunk.{Block}
use Rattle.pblk_world.specs.Events.{Logged}
use Rattle.pblk_world.specs.EngineLog.{LineLife, AsFound, Opened, Freed, is_life, Opening, Placed, placements, placed_on, stripes_of, stripes_on, answers, answer_of, is_answered, has_landed, was_lost, bears_position}
use Rattle.pblk_world.specs.Space.{is_readable_in, gives_back}
use Rattle.core_laws.proofs.TakenSlots.{any_same}
use Rattle.core_laws.specs.ChunkBlocks.{AreInRows, NoneLostIn}
use Rattle.core_laws.proofs.LandedBlocks.{lost_same}
use Rattle.core_laws.proofs.LandedStripe.{IsOneMore}
use Rattle.core_laws.proofs.PlainStripes.{answered_lands, unit_answered}
use Rattle.pblk_model.proofs.Lists.{IsAmong}
use Rattle.pblk_model.proofs.Maps.{any_member, enumerate_append, in_filter}
use Rattle.pblk_model.proofs.Parts.{all_at}
use Rattle.pblk_model.proofs.Tests.{not_both, same_number}

-- ---- the blocks of a chunk

pub any_append : {X : Type 0} (f : X → Bool) (xs ys : List X) → list_any f (xs ++ ys) ≡ (list_any f xs || list_any f ys)
any_append f [] ys = refl
any_append f (x ∷ xs) ys = go (f x) (any_append f xs ys)
  where
    go : (b : Bool) → list_any f (xs ++ ys) ≡ (list_any f xs || list_any f ys) → (b || list_any f (xs ++ ys)) ≡ ((b || list_any f xs) || list_any f ys)
    go true rest = refl
    go false rest = rest

-- a stripe of so many blocks, that many after another
abbrev pub IsAt : ℕ → ℕ → ℕ → Placed → Type 0
IsAt size n k p = (p.stripe.at ≡ n + k * size) × (length p.stripe.blocks ≡ size)

pub flat_any : (test : ℕ × Block → Bool) (size n : ℕ) (ps : List Placed) → ((k : ℕ) (p : Placed) → slice_get ps k ≡ Some p → IsAt size n k p)
    → list_any test (enumerate_from n (flat_map (λ (p : Placed). p.stripe.blocks) ps)) ≡ list_any
    (λ (p : Placed). list_any test (enumerate_from p.stripe.at p.stripe.blocks)) ps
flat_any test size n [] each = refl
flat_any test size n (p ∷ ps) each =
    let first = each 0 p refl in
    let at : n ≡ p.stripe.at = (let e : p.stripe.at ≡ n + 0 * size = first.0 in grind arith) in
    ap (list_any test) (enumerate_append n p.stripe.blocks (flat_map (λ (p : Placed). p.stripe.blocks) ps))
    ∙ any_append test (enumerate_from n p.stripe.blocks) (enumerate_from (n + length p.stripe.blocks) (flat_map (λ (p : Placed). p.stripe.blocks) ps))
    ∙ ap₂ (λ a b. a || b)
    (ap (λ m. list_any test (enumerate_from m p.stripe.blocks)) at)
    (ap (λ m. list_any test (enumerate_from (n + m) (flat_map (λ (p : Placed). p.stripe.blocks) ps))) first.1
    ∙ flat_any test size (n + size) ps (λ k q e.
    let there = each (suc k) q e in
    (there.0 ∙ next_at n size k, there.1)))
  where
    next_at : (n size k : ℕ) → n + suc k * size ≡ n + size + k * size
    next_at n size k = grind arith

-- ---- which stripes changed

or_swap : (a b c d : Bool) → d ≡ (b || c) → (a || d) ≡ (b || (a || c))
or_swap true true c d e = refl
or_swap true false c d e = refl
or_swap false b c d e = e

or_left : (a b c d : Bool) → d ≡ (b || c) → (a || d) ≡ ((a || b) || c)
or_left true b c d e = refl
or_left false b c d e = e

or_front : (a b c d : Bool) → a ≡ true → d ≡ (b || c) → (a || d) ≡ ((true || b) || (a || c))
or_front a b c d e f = ap (λ x. x || d) e

-- where only elements of two filters changed, and none fails that passed
pub any_split : {X : Type 0} (f g t u : X → Bool) (xs : List X) → AllByRecursion (λ x. (t x && u x) ≡ false → f x ≡ g x) xs
    → AllByRecursion (λ x. (t x && u x) ≡ true → g x ≡ true → f x ≡ true) xs
    → list_any f xs ≡ (list_any g xs || list_any f (filter u (filter t xs)))
any_split f g t u [] same more = refl
any_split {X} f g t u (x ∷ xs) same more = go (t x) refl (u x) refl (any_split f g t u xs same.1 more.1)
  where
    inside : (b : Bool) → g x ≡ b → (b ≡ true → f x ≡ true) → list_any f xs ≡ (list_any g xs || list_any f (filter u (filter t xs)))
        → (f x || list_any f xs) ≡ ((b || list_any g xs) || (f x || list_any f (filter u (filter t xs))))
    inside true e keeps rest = or_front (f x) (list_any g xs) (list_any f (filter u (filter t xs))) (list_any f xs) (keeps refl) rest
    inside false e keeps rest = or_swap (f x) (list_any g xs) (list_any f (filter u (filter t xs))) (list_any f xs) rest

    outside : f x ≡ g x → list_any f xs ≡ (list_any g xs || list_any f (filter u (filter t xs)))
        → (f x || list_any f xs) ≡ ((g x || list_any g xs) || list_any f (filter u (filter t xs)))
    outside e rest = or_left (f x) (list_any g xs) (list_any f (filter u (filter t xs))) (list_any f xs) rest
        ∙ ap (λ b. (b || list_any g xs) || list_any f (filter u (filter t xs))) e

    go : (a : Bool) → t x ≡ a → (b : Bool) → u x ≡ b → list_any f xs ≡ (list_any g xs || list_any f (filter u (filter t xs)))
        → (f x || list_any f xs) ≡ ((g x || list_any g xs) || list_any f (filter u (cond a (x ∷ filter t xs) (filter t xs))))
    go false e b h rest = outside (same.0 (ap₂ (λ a b. a && b) e h)) rest
    go true e false h rest =
        outside (same.0 (ap₂ (λ a b. a && b) e h)) rest
        ∙ ap (λ c. (g x || list_any g xs) || list_any f (cond c (x ∷ filter u (filter t xs)) (filter u (filter t xs)))) (sym h)
    go true e true h rest =
        inside (g x) refl (more.0 (ap₂ (λ a b. a && b) e h)) rest
        ∙ ap (λ c. (g x || list_any g xs) || list_any f (cond c (x ∷ filter u (filter t xs)) (filter u (filter t xs)))) (sym h)

-- ---- a stripe of the chunk

-- what is read of an opening is its number
pub readable_life : (s : Shape) (log : List Logged) (o : Opening) (unit block : ℕ) (life : LineLife) → is_life o.number life ≡ true
    → is_readable_in s log unit block life ≡ is_readable_in s log unit block (Opened o)
readable_life s log o unit block AsFound e = absurd cc
readable_life s log o unit block (Opened other) e =
    ap (λ n. is_readable_in s log unit block (Opened (record { number = n; line = o.line; start = o.start; knows = o.knows })))
    (eqb-true other.number o.number e)
readable_life s log o unit block (Freed past k) e = absurd cc

pub gives_of_chunk : (s : Shape) (log : List Logged) (o : Opening) (unit q : ℕ) (r : Placed) → has_landed log r ≡ true → r.stripe.unit ≡ unit
    → is_life o.number r.life ≡ true
    → gives_back s log q r ≡ list_any (λ (b : ℕ × Block). bears_position s q b.1 && is_readable_in s log unit b.0 (Opened o))
    (enumerate_from r.stripe.at r.stripe.blocks)
gives_of_chunk s log o unit q r landed its life =
    ap (λ a. a && list_any (λ (b : ℕ × Block). bears_position s q b.1 && is_readable_in s log r.stripe.unit b.0 r.life)
    (enumerate_from r.stripe.at r.stripe.blocks)) landed
    ∙ any_same (λ (b : ℕ × Block). bears_position s q b.1 && is_readable_in s log r.stripe.unit b.0 r.life)
    (λ (b : ℕ × Block). bears_position s q b.1 && is_readable_in s log unit b.0 (Opened o))
    (λ b. ap (λ c. bears_position s q b.1 && c) (ap (λ u. is_readable_in s log u b.0 r.life) its ∙ readable_life s log o unit b.0 r.life life))
    (enumerate_from r.stripe.at r.stripe.blocks)

-- ---- all that is used of the stripe that has landed, and of its chunk

pub none_at : {X : Type 0} (f : X → Bool) (xs : List X) (x : X) → list_any f xs ≡ false → IsAmong xs x → f x ≡ false
none_at f xs x none at = go (f x) refl
  where
    go : (t : Bool) → f x ≡ t → t ≡ false
    go false e = refl
    go true e = absurd (not_both (list_any f xs) (any_member f xs at.0 x at.1 e) none)

pub record IsLandedNow (s : Shape) (log new : List Logged) (p : Placed) (o : Opening) : Type 0 where
  pub one_more : IsOneMore log new p
  pub life : p.life ≡ Opened o
  pub unlost : NoneLostIn log o p.stripe.unit
  pub all_answered : length (placed_on new p.stripe.unit) ≤ length (answers new p.stripe.unit)
  pub rows : AreInRows s log o p.stripe.unit
  pub some : 0 < s.ws_opt

pub unlost_new : (s : Shape) (log new : List Logged) (p : Placed) (o : Opening) → IsLandedNow s log new p o → NoneLostIn new o p.stripe.unit
unlost_new s log new p o is = lost_same log new p o p.stripe.unit is.one_more ∙ is.unlost

-- all of the chunk's stripes have landed
pub of_unit_landed : (s : Shape) (log new : List Logged) (p : Placed) (o : Opening) → IsLandedNow s log new p o → (r : Placed) → IsAmong (placements log) r
    → r.stripe.unit ≡ p.stripe.unit → is_life o.number r.life ≡ true → has_landed new r ≡ true
of_unit_landed s log new p o is r among its life =
    let there : IsAmong (placements new) r = subst (λ (ps : List Placed). IsAmong ps r) (sym is.one_more.stripes) among in
    let here : IsAmong (stripes_on new o p.stripe.unit) r =
    in_filter (λ (x : Placed). x.stripe.unit == p.stripe.unit) (stripes_of new o) r
    (in_filter (λ (x : Placed). is_life o.number x.life) (placements new) r there life) (ap (λ u. u == p.stripe.unit) its ∙ same_number p.stripe.unit) in
    let at = subst (λ u. IsAmong (placed_on new u) r) its
    (in_filter (λ (x : Placed). x.stripe.unit == r.stripe.unit) (placements new) r there (same_number r.stripe.unit)) in
    answered_lands (answer_of new r)
    (all_at (λ (r : Placed). is_answered new r ≡ true) (placed_on new p.stripe.unit) at.0 r at.1 (unit_answered new p.stripe.unit is.all_answered))
    (none_at (was_lost new) (stripes_on new o p.stripe.unit) r (unlost_new s log new p o is) here)

-- ---- what could be read can be read

pub last_at : {X : Type 0} (xs : List X) (m : ℕ) → length xs ≡ suc m → (x : X) × (slice_get xs m ≡ Some x)
last_at [] m e = absurd cc
last_at (x ∷ []) m e = let zero_ : 0 ≡ m = omega (arith, e) in (x, ap (slice_get (x ∷ [])) (sym zero_))
last_at (x ∷ y ∷ xs) zero e = absurd (omega (arith, e))
last_at (x ∷ y ∷ xs) (suc m) e = last_at (y ∷ xs) m (omega (arith, e))

pub times_le : (m n k : ℕ) → m ≤ n → m * k ≤ n * k
times_le m n k h = grind arith

pub rows_within : (s : Shape) (log : List Logged) (o : Opening) (unit : ℕ) → AreInRows s log o unit → length (stripes_on log o unit) * s.ws_opt ≤ s.clba
rows_within s log o unit rows = go (length (stripes_on log o unit)) refl
  where
    go : (n : ℕ) → length (stripes_on log o unit) ≡ n → n * s.ws_opt ≤ s.clba
    go zero e = grind arith
    go (suc m) e =
        let last = last_at (stripes_on log o unit) m e in
        let row = rows m last.0 last.1 in
        let at : last.0.stripe.at ≡ m * s.ws_opt = row.at in
        let within : last.0.stripe.at + s.ws_opt ≤ s.clba = row.within in
        let next : suc m * s.ws_opt ≡ m * s.ws_opt + s.ws_opt = grind arith in
        omega arith

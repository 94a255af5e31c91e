-- Of stripes the first ones pass a test, as those of a chunk that have landed. Their blocks are the
-- first ones.
use Rattle.std.proofs.Common.{◌≡◌, ℕ, ◌+◌, ◌*◌, ◌<◌, ◌≤◌, ◌&&◌, ◌||◌, zero, suc, Bool, true, false, cond, Some, Option, List, [], ◌∷◌, ◌++◌, length, take, refl, sym, ap, ap₂, ◌∙◌, arith}
use Rattle.std.specs.Prelude.{slice_get}
use Rattle.std.specs.List.{AllByRecursion, filter, find, list_any, flat_map, enumerate_from}
use Rattle.std.specs.Option.{option_and_then, option_map}
use Rattle.std.proofs.lemmas.Option.{none-some, same_Some}
use Rattle.pblk_model.specs.declared.shape.Shape.{Shape}
use Rattle.pblk_model.specs.Chunk.{Block}
use Rattle.pblk_world.specs.EngineLog.{Placed, bears_position, holds_position}
use Rattle.core_laws.specs.ChunkBlocks.{first_bearing}
use Rattle.core_laws.proofs.GivenBack.{IsAt, any_append}
use Rattle.pblk_model.proofs.Lists.{all_imply}
use Rattle.pblk_model.proofs.Maps.{any_fail, filter_none, find_none}
use Rattle.pblk_model.proofs.Parts.{all_at, all_by_get}
use Rattle.pblk_model.proofs.Tests.{not_both}

-- ---- stripes of which the first ones pass

abbrev pub AreFirst : (Placed → Bool) → ℕ → List Placed → Type 0
AreFirst f zero ps = AllByRecursion (λ p. f p ≡ false) ps
AreFirst f (suc n) [] = ⊥
AreFirst f (suc n) (p ∷ ps) = (f p ≡ true) × AreFirst f n ps

-- all but the last one
pub all_but_last : (f : Placed → Bool) (ps : List Placed) (k : ℕ) (p : Placed) → slice_get ps k ≡ Some p → length ps ≤ k + 1 → f p ≡ false
    → ((j : ℕ) (r : Placed) → j < k → slice_get ps j ≡ Some r → f r ≡ true) → AreFirst f k ps
all_but_last f [] k p at short fails before = absurd (none-some p at)
all_but_last f (r ∷ []) zero p at short fails before = (ap f (same_Some r p at) ∙ fails, tt)
all_but_last f (r ∷ x ∷ ps) zero p at short fails before = absurd (omega arith)
all_but_last f (r ∷ ps) (suc k) p at short fails before = (
  before 0 r (omega arith) refl,
  all_but_last f ps k p at (omega arith) fails (λ j x below e. before (suc j) x (omega arith) e),
)

pub first_count : (f : Placed → Bool) (n : ℕ) (ps : List Placed) → AreFirst f n ps → length (filter f ps) ≡ n
first_count f zero ps is = ap length (filter_none f ps is)
first_count f (suc n) [] is = absurd is
first_count f (suc n) (p ∷ ps) is =
    ap (λ b. length (cond b (p ∷ filter f ps) (filter f ps))) is.0 ∙ ap suc (first_count f n ps is.1)

-- those that pass are the first ones where each before one that passes does too
pub first_where : (f : Placed → Bool) (ps : List Placed)
    → ((j k : ℕ) (p r : Placed) → j < k → slice_get ps j ≡ Some p → slice_get ps k ≡ Some r → f r ≡ true → f p ≡ true) → (n : ℕ) × AreFirst f n ps
first_where f [] before = (0, tt)
first_where f (p ∷ ps) before =
    go (f p) refl (first_where f ps (λ j k q r less a b e. before (suc j) (suc k) q r (omega arith) a b e))
  where
    none_later : f p ≡ false → (k : ℕ) (r : Placed) → slice_get ps k ≡ Some r → (c : Bool) → f r ≡ c → c ≡ false
    none_later e k r at false h = refl
    none_later e k r at true h = let passes : f p ≡ true = before 0 (suc k) p r (omega arith) refl at h in sym passes ∙ e

    go : (b : Bool) → f p ≡ b → (n : ℕ) × AreFirst f n ps → (n : ℕ) × AreFirst f n (p ∷ ps)
    go true e rest = (suc rest.0, (e, rest.1))
    go false e rest = (0, (e, all_by_get (λ r. f r ≡ false) ps (λ k r at. none_later e k r at (f r) refl)))

pub first_passing : (f : Placed → Bool) (n : ℕ) (ps : List Placed) → AreFirst f n ps → filter f ps ≡ take n ps
first_passing f zero ps is = filter_none f ps is
first_passing f (suc n) [] is = absurd is
first_passing f (suc n) (p ∷ ps) is = ap (λ b. cond b (p ∷ filter f ps) (filter f ps)) is.0 ∙ ap (λ qs. p ∷ qs) (first_passing f n ps is.1)

-- one that passes stands among the first ones, and one that doesn't behind them
pub passes_within : (f : Placed → Bool) (n : ℕ) (ps : List Placed) (k : ℕ) (p : Placed) → AreFirst f n ps → slice_get ps k ≡ Some p → f p ≡ true → k < n
passes_within f zero ps k p is at e = absurd (not_both (f p) e (all_at (λ r. f r ≡ false) ps k p at is))
passes_within f (suc n) [] k p is at e = absurd is
passes_within f (suc n) (q ∷ ps) zero p is at e = omega arith
passes_within f (suc n) (q ∷ ps) (suc k) p is at e = let low : k < n = passes_within f n ps k p is.1 at e in omega arith

pub within_passes : (f : Placed → Bool) (n : ℕ) (ps : List Placed) (k : ℕ) → AreFirst f n ps → k < n → (p : Placed) × (slice_get ps k ≡ Some p) × (f p ≡ true)
within_passes f zero ps k is low = absurd (omega arith)
within_passes f (suc n) [] k is low = absurd is
within_passes f (suc n) (p ∷ ps) zero is low = (p, refl, is.0)
within_passes f (suc n) (p ∷ ps) (suc k) is low = within_passes f n ps k is.1 (omega arith)

-- ---- their blocks

taken_past : {X : Type 0} (xs ys : List X) (n k : ℕ) → length xs ≡ n → take (n + k) (xs ++ ys) ≡ xs ++ take k ys
taken_past [] ys n k e = let same : n + k ≡ k = omega arith in ap (λ m. take m ys) same
taken_past {X} (x ∷ xs) ys n k e =
    let next : n + k ≡ suc (length xs + k) = omega arith in
    ap (λ m. take m (x ∷ (xs ++ ys))) next ∙ ap (λ zs. x ∷ zs) (taken_past xs ys (length xs) k refl)

first_blocks : (size n : ℕ) (p : Placed) (ps : List Placed) → length p.stripe.blocks ≡ size
    → take (suc n * size) (flat_map (λ (r : Placed). r.stripe.blocks) (p ∷ ps))
    ≡ p.stripe.blocks ++ take (n * size) (flat_map (λ (r : Placed). r.stripe.blocks) ps)
first_blocks size n p ps long =
    let next : suc n * size ≡ size + n * size = grind arith in
    ap (λ m. take m (flat_map (λ (r : Placed). r.stripe.blocks) (p ∷ ps))) next
    ∙ taken_past p.stripe.blocks (flat_map (λ (r : Placed). r.stripe.blocks) ps) size (n * size) long

-- one that passes holds a position where one of their blocks bears it
pub first_hold : (s : Shape) (q : ℕ) (f : Placed → Bool) (size n : ℕ) (ps : List Placed) → AreFirst f n ps
    → AllByRecursion (λ (p : Placed). length p.stripe.blocks ≡ size) ps
    → list_any (λ (p : Placed). f p && holds_position s q p) ps
    ≡ list_any (bears_position s q) (take (n * size) (flat_map (λ (p : Placed). p.stripe.blocks) ps))
first_hold s q f size zero ps is long =
    let none : 0 * size ≡ 0 = grind arith in
    any_fail (λ (p : Placed). f p && holds_position s q p) ps
    (all_imply (λ (p : Placed). f p ≡ false) (λ (p : Placed). (f p && holds_position s q p) ≡ false) (λ p e. ap (λ b. b && holds_position s q p) e) ps is)
    ∙ ap (λ m. list_any (bears_position s q) (take m (flat_map (λ (p : Placed). p.stripe.blocks) ps))) (sym none)
first_hold s q f size (suc n) [] is long = absurd is
first_hold s q f size (suc n) (p ∷ ps) is long =
    ap₂ (λ a b. (a && holds_position s q p) || b) is.0 (first_hold s q f size n ps is.1 long.1)
    ∙ sym (any_append (bears_position s q) p.stripe.blocks (take (n * size) (flat_map (λ (r : Placed). r.stripe.blocks) ps)))
    ∙ ap (list_any (bears_position s q)) (sym (first_blocks size n p ps long.0))

-- what is found among joined blocks is found among the first, or else behind them
joined_find : {X : Type 0} (bears : X → Bool) (n : ℕ) (xs ys : List X)
    → find (λ (b : ℕ × X). bears b.1) (enumerate_from n (xs ++ ys))
    ≡ cond (list_any bears xs) (find (λ (b : ℕ × X). bears b.1) (enumerate_from n xs)) (find (λ (b : ℕ × X). bears b.1) (enumerate_from (n + length xs) ys))
joined_find {X} bears n [] ys =
    let same : n ≡ n + 0 = omega arith in ap (λ m. find (λ (b : ℕ × X). bears b.1) (enumerate_from m ys)) same
joined_find {X} bears n (x ∷ xs) ys = go (bears x) (joined_find bears (n + 1) xs ys)
  where
    head : ℕ × X
    head = (n, x)

    next : n + 1 + length xs ≡ n + suc (length xs)
    next = omega arith

    go : (b : Bool) → find (λ (b : ℕ × X). bears b.1) (enumerate_from (n + 1) (xs ++ ys))
        ≡ cond (list_any bears xs) (find (λ (b : ℕ × X). bears b.1) (enumerate_from (n + 1) xs))
        (find (λ (b : ℕ × X). bears b.1) (enumerate_from (n + 1 + length xs) ys))
        → cond b (Some head) (find (λ (b : ℕ × X). bears b.1) (enumerate_from (n + 1) (xs ++ ys)))
        ≡ cond (b || list_any bears xs) (cond b (Some head) (find (λ (b : ℕ × X). bears b.1) (enumerate_from (n + 1) xs)))
        (find (λ (b : ℕ × X). bears b.1) (enumerate_from (n + suc (length xs)) ys))
    go true rest = refl
    go false rest = rest
        ∙ ap (λ m. cond (list_any bears xs) (find (λ (b : ℕ × X). bears b.1) (enumerate_from (n + 1) xs))
        (find (λ (b : ℕ × X). bears b.1) (enumerate_from m ys))) next

-- of the first stripe that passes and holds a position, the first block that bears it
abbrev pub block_of_first : Shape → (Placed → Bool) → List Placed → ℕ → Option ℕ
block_of_first s f ps q = option_and_then (λ (p : Placed). first_bearing s p.stripe.at p.stripe.blocks q)
    (find (λ (p : Placed). f p && holds_position s q p) ps)

pub first_found : (s : Shape) (q : ℕ) (f : Placed → Bool) (size a n : ℕ) (ps : List Placed) → AreFirst f n ps
    → ((k : ℕ) (p : Placed) → slice_get ps k ≡ Some p → IsAt size a k p)
    → block_of_first s f ps q ≡ first_bearing s a (take (n * size) (flat_map (λ (p : Placed). p.stripe.blocks) ps)) q
first_found s q f size a zero ps is each =
    let none : 0 * size ≡ 0 = grind arith in
    ap (option_and_then (λ (p : Placed). first_bearing s p.stripe.at p.stripe.blocks q))
    (find_none (λ (p : Placed). f p && holds_position s q p) ps
    (all_imply (λ (p : Placed). f p ≡ false) (λ (p : Placed). (f p && holds_position s q p) ≡ false) (λ p e. ap (λ b. b && holds_position s q p) e) ps is))
    ∙ ap (λ m. first_bearing s a (take m (flat_map (λ (p : Placed). p.stripe.blocks) ps)) q) (sym none)
first_found s q f size a (suc n) [] is each = absurd is
first_found s q f size a (suc n) (p ∷ ps) is each =
    ap (λ b. option_and_then (λ (r : Placed). first_bearing s r.stripe.at r.stripe.blocks q)
    (cond (b && holds_position s q p) (Some p) (find (λ (r : Placed). f r && holds_position s q r) ps))) is.0
    ∙ go (holds_position s q p) (first_found s q f size (a + size) n ps is.1
    (λ k r e. let there = each (suc k) r e in (there.0 ∙ next_at a size k, there.1)))
    ∙ ap (option_map (λ (b : ℕ × Block). b.0))
    (sym (joined_find (bears_position s q) a p.stripe.blocks (take (n * size) (flat_map (λ (r : Placed). r.stripe.blocks) ps))))
    ∙ ap (λ bs. first_bearing s a bs q) (sym (first_blocks size n p ps first.1))
  where
    next_at : (n size k : ℕ) → n + suc k * size ≡ n + size + k * size
    next_at n size k = grind arith

    first : IsAt size a 0 p
    first = each 0 p refl

    at : p.stripe.at ≡ a
    at = let e : p.stripe.at ≡ a + 0 * size = first.0 in grind arith

    go : (b : Bool) → block_of_first s f ps q ≡ first_bearing s (a + size) (take (n * size) (flat_map (λ (r : Placed). r.stripe.blocks) ps)) q
        → option_and_then (λ (r : Placed). first_bearing s r.stripe.at r.stripe.blocks q)
        (cond b (Some p) (find (λ (r : Placed). f r && holds_position s q r) ps))
        ≡ option_map (λ (b : ℕ × Block). b.0)
        (cond b (find (λ (b : ℕ × Block). bears_position s q b.1) (enumerate_from a p.stripe.blocks))
        (find (λ (b : ℕ × Block). bears_position s q b.1)
        (enumerate_from (a + length p.stripe.blocks) (take (n * size) (flat_map (λ (r : Placed). r.stripe.blocks) ps)))))
    go true rest = ap (λ m. first_bearing s m p.stripe.blocks q) at
    go false rest = rest
        ∙ ap (λ m. first_bearing s (a + m) (take (n * size) (flat_map (λ (r : Placed). r.stripe.blocks) ps)) q) (sym first.1)

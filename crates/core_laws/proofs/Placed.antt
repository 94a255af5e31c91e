-- Which entries were placed, where the stripes' positions follow one another.
use Rattle.std.proofs.Common.{◌≡◌, ◌≢◌, ℕ, ◌+◌, ◌-◌, ◌==◌, ◌&&◌, ◌||◌, zero, suc, not, nat_lt, nat_le, min, Bool, true, false, cond, Some, None, List, [], ◌∷◌, ◌++◌, length, take, drop, refl, sym, ap, ap₂, ◌∙◌, arith}
use Rattle.std.specs.Prelude.{is_some, if◌then◌else◌}
use Rattle.std.specs.List.{filter, filter_map, flat_map, list_any, range_with_len, cons_option}
use Rattle.std.proofs.lemmas.List.Folds.{list_any-append}
use Rattle.pblk_model.specs.declared.shape.Shape.{Shape}
use Rattle.pblk_model.specs.Chunk.{Block}
use Rattle.pblk_model.specs.Records.{named}
use Rattle.pblk_world.specs.EngineLog.{Taken, Placed, bears_position, holds_position}
use Rattle.pblk_world.specs.Victims.{position_in}
use Rattle.core_laws.specs.PlacerOf.{positions_of, positions_in_stripe}
use Rattle.core_laws.proofs.Removing.{above as above_all}
use Rattle.pblk_model.proofs.Maps.{filter_agree}
use Rattle.pblk_model.proofs.Tests.{other_number, same_number}

abbrev pub is_in_list : List ℕ → ℕ → Bool
is_in_list xs q = list_any (λ x. x == q) xs

-- a stripe holds the positions in it
blocks_hold : (s : Shape) (position : ℕ) (bs : List Block) → list_any (bears_position s position) bs ≡ is_in_list (filter_map (position_in s) bs) position
blocks_hold s position [] = refl
blocks_hold s position (b ∷ bs) = go (is_some (named s b.mark)) (blocks_hold s position bs)
  where
    go : (c : Bool) → list_any (bears_position s position) bs ≡ is_in_list (filter_map (position_in s) bs) position
        → ((c && (b.mark.position == position)) || list_any (bears_position s position) bs) ≡ is_in_list
        (cons_option (if c then Some b.mark.position else None) (filter_map (position_in s) bs)) position
    go true rest = ap (λ r. (b.mark.position == position) || r) rest
    go false rest = rest

pub stripe_holds : (s : Shape) (position : ℕ) (p : Placed) → holds_position s position p ≡ is_in_list (positions_in_stripe s p.stripe) position
stripe_holds s position p = blocks_hold s position p.stripe.blocks

pub some_hold : (s : Shape) (position : ℕ) (ps : List Placed)
    → list_any (holds_position s position) ps ≡ is_in_list (flat_map (λ (p : Placed). positions_in_stripe s p.stripe) ps) position
some_hold s position [] = refl
some_hold s position (p ∷ ps) =
    ap₂ (λ a b. a || b) (stripe_holds s position p) (some_hold s position ps)
    ∙ sym (list_any-append (λ x. x == position) (positions_in_stripe s p.stripe) (flat_map (λ (p : Placed). positions_in_stripe s p.stripe) ps))

pub any_counts : {X : Type 0} (f : X → Bool) (xs : List X) → nat_lt 0 (length (filter f xs)) ≡ list_any f xs
any_counts f [] = refl
any_counts {X} f (x ∷ xs) = go (f x) (any_counts f xs)
  where
    some : (n : ℕ) → nat_lt 0 (suc n) ≡ true
    some n = grind arith

    go : (b : Bool) → nat_lt 0 (length (filter f xs)) ≡ list_any f xs → nat_lt 0 (length (cond b (x ∷ filter f xs) (filter f xs))) ≡ (b || list_any f xs)
    go true rest = some (length (filter f xs))
    go false rest = rest

-- ---- positions in a row

pub in_range : (a n q : ℕ) → is_in_list (range_with_len a n) q ≡ (nat_le a q && nat_lt q (a + n))
in_range a zero q = grind arith
in_range a (suc n) q = ap (λ b. (a == q) || b) (in_range (a + 1) n q) ∙ grind arith

beside_first : (a n : ℕ) (t : Taken) → t.entry.position ≢ a
    → is_in_list (range_with_len a (suc n)) t.entry.position ≡ is_in_list (range_with_len (a + 1) n) t.entry.position
beside_first a n t apart = ap (λ b. b || is_in_list (range_with_len (a + 1) n) t.entry.position) (other_number a t.entry.position (λ e. apart (sym e)))

at_first : (a n q : ℕ) → q ≡ a → is_in_list (range_with_len a (suc n)) q ≡ true
at_first a n q same = ap (λ m. (a == m) || is_in_list (range_with_len (a + 1) n) m) same
    ∙ ap (λ b. b || is_in_list (range_with_len (a + 1) n) a) (same_number a)

all_stay : (ts : List Taken) → filter (λ (t : Taken). not (is_in_list [] t.entry.position)) ts ≡ ts
all_stay [] = refl
all_stay (t ∷ ts) = ap (λ us. t ∷ us) (all_stay ts)

none_stay : (ts : List Taken) → filter (λ (t : Taken). is_in_list [] t.entry.position) ts ≡ []
none_stay [] = refl
none_stay (t ∷ ts) = none_stay ts

-- of entries in a row the ones past the placed ones are the last
pub rest_are_last : (a n m : ℕ) (ts : List Taken) → positions_of ts ≡ range_with_len a m
    → filter (λ (t : Taken). not (is_in_list (range_with_len a n) t.entry.position)) ts ≡ drop n ts
rest_are_last a zero m ts is = all_stay ts
rest_are_last a (suc n) m [] is = refl
rest_are_last a (suc n) zero (t ∷ ts) is = absurd cc
rest_are_last a (suc n) (suc m) (t ∷ ts) is =
    let first : t.entry.position ≡ a = cc in
    let rest : positions_of ts ≡ range_with_len (a + 1) m = cc in
    ap (λ b. cond (not b) (t ∷ filter (λ (u : Taken). not (is_in_list (range_with_len a (suc n)) u.entry.position)) ts)
    (filter (λ (u : Taken). not (is_in_list (range_with_len a (suc n)) u.entry.position)) ts)) (at_first a n t.entry.position first)
    ∙ filter_agree (λ (u : Taken). u.entry.position ≢ a) (λ (u : Taken). not (is_in_list (range_with_len a (suc n)) u.entry.position))
    (λ (u : Taken). not (is_in_list (range_with_len (a + 1) n) u.entry.position)) (λ u apart. ap not (beside_first a n u apart)) ts
    (above_all (a + 1) m a ts (omega arith) rest)
    ∙ rest_are_last (a + 1) n m ts rest

pub placed_are_first : (a n m : ℕ) (ts : List Taken) → positions_of ts ≡ range_with_len a m
    → filter (λ (t : Taken). is_in_list (range_with_len a n) t.entry.position) ts ≡ take n ts
placed_are_first a zero m ts is = none_stay ts
placed_are_first a (suc n) m [] is = refl
placed_are_first a (suc n) zero (t ∷ ts) is = absurd cc
placed_are_first a (suc n) (suc m) (t ∷ ts) is =
    let first : t.entry.position ≡ a = cc in
    let rest : positions_of ts ≡ range_with_len (a + 1) m = cc in
    ap (λ b. cond b (t ∷ filter (λ (u : Taken). is_in_list (range_with_len a (suc n)) u.entry.position) ts)
    (filter (λ (u : Taken). is_in_list (range_with_len a (suc n)) u.entry.position) ts)) (at_first a n t.entry.position first)
    ∙ ap (λ us. t ∷ us) (filter_agree (λ (u : Taken). u.entry.position ≢ a) (λ (u : Taken). is_in_list (range_with_len a (suc n)) u.entry.position)
    (λ (u : Taken). is_in_list (range_with_len (a + 1) n) u.entry.position) (λ u apart. beside_first a n u apart) ts
    (above_all (a + 1) m a ts (omega arith) rest)
    ∙ placed_are_first (a + 1) n m ts rest)

pub range_dropped : (a n m : ℕ) → drop n (range_with_len a m) ≡ range_with_len (a + n) (m - n)
range_dropped a zero m = let all : m ≡ m - 0 = omega arith in let same : a ≡ a + 0 = omega arith in ap₂ range_with_len same all
range_dropped a (suc n) zero = let none : 0 ≡ 0 - suc n = omega arith in ap (range_with_len (a + suc n)) none
range_dropped a (suc n) (suc m) =
    let same : a + 1 + n ≡ a + suc n = omega arith in let less : m - n ≡ suc m - suc n = omega arith in
    range_dropped (a + 1) n m ∙ ap₂ range_with_len same less

pub range_taken : (a n m : ℕ) → take n (range_with_len a m) ≡ range_with_len a (min n m)
range_taken a zero m = let none : 0 ≡ min 0 m = omega arith in ap (range_with_len a) none
range_taken a (suc n) zero = let none : 0 ≡ min (suc n) 0 = omega arith in ap (range_with_len a) none
range_taken a (suc n) (suc m) = let more : suc (min n m) ≡ min (suc n) (suc m) = omega arith in ap (λ ks. a ∷ ks) (range_taken (a + 1) n m)
    ∙ ap (range_with_len a) more

pub range_joined : (a n m : ℕ) → range_with_len a n ++ range_with_len (a + n) m ≡ range_with_len a (n + m)
range_joined a zero m = let same : a + 0 ≡ a = omega arith in let sum : m ≡ 0 + m = omega arith in ap₂ range_with_len same sum
range_joined a (suc n) m =
    let same : a + suc n ≡ a + 1 + n = omega arith in let sum : suc (n + m) ≡ suc n + m = omega arith in
    ap (λ k. a ∷ (range_with_len (a + 1) n ++ range_with_len k m)) same ∙ ap (λ ks. a ∷ ks) (range_joined (a + 1) n m) ∙ ap (range_with_len a) sum

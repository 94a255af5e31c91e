-- The stripes of an opening, and the marks of its data, once a stripe is placed.
use Rattle.std.proofs.Common.{◌≡◌, ◌≢◌, ℕ, ◌+◌, ◌-◌, ◌<◌, ◌≤◌, ◌==◌, zero, suc, Bool, true, false, cond, List, [], ◌∷◌, ◌++◌, length, take, drop, refl, sym, ap, ap₂, ◌∙◌, arith, append-nil, length-append, length-drop, take_all}
use Rattle.std.specs.Prelude.{map, slice_get, slice_range}
use Rattle.std.specs.List.{filter, flat_map, range_with_len}
use Rattle.std.specs.Option.{is_some}
use Rattle.std.proofs.lemmas.List.{drop-append-le, nil_from_length, map-append}
use Rattle.std.proofs.lemmas.Grind.{flat_map-append}
use Rattle.std.proofs.lemmas.Option.{slice_get_past}
use Rattle.std.proofs.lemmas.Bool.{eqb-true}
use Rattle.pblk_model.specs.declared.shape.Shape.{Shape}
use Rattle.pblk_model.specs.declared.chunk.Mark.{Mark}
use Rattle.pblk_model.specs.Chunk.{Block}
use Rattle.pblk_model.specs.Blocks.{blocks_of}
use Rattle.pblk_model.specs.LineOrder.{start_len}
use Rattle.pblk_model.specs.Shape.{units}
use Rattle.pblk_world.specs.Events.{Stripe, Logged}
use Rattle.pblk_world.specs.EngineLog.{Opened, Opening, is_life, life_of, Placed, placed_on, answers, stripes_of}
use Rattle.pblk_world.specs.Placing.{data_marks, end_address}
use Rattle.core_laws.specs.PlacerOf.{unanswered_on}
use Rattle.core_laws.proofs.Placing.{IsPlacing, with_place, new_placed, answers_now, placed_on_now}
use Rattle.core_laws.proofs.PlacedLines.{get_last as got_end}
use Rattle.core_laws.proofs.Placing.{stripes_now}
use Rattle.world_laws.proofs.EndRecords.{part_of_front as beyond_end}
use Rattle.pblk_core.specs.Stands.{under_way}
use Rattle.pblk_model.proofs.Tests.{other_number, same_number}

-- ---- marks

past_front : {X : Type 0} (xs ys : List X) (a b : ℕ) → length xs + length ys ≤ a → slice_range (xs ++ ys) a b ≡ slice_range xs a b
past_front xs ys a b within =
    let both : length (xs ++ ys) ≡ length xs + length ys = length-append xs ys in
    let one : drop a (xs ++ ys) ≡ [] = nil_from_length (drop a (xs ++ ys)) (length-drop a (xs ++ ys) ∙ omega arith) in
    let two : drop a xs ≡ [] = nil_from_length (drop a xs) (length-drop a xs ∙ omega arith) in
    ap (take (b - a)) (one ∙ sym two)

at_end : {X : Type 0} (xs ys : List X) (a b : ℕ) → a ≤ length xs → length xs + length ys ≤ b → slice_range (xs ++ ys) a b ≡ slice_range xs a b ++ ys
at_end xs ys a b from within =
    let left : length (drop a xs) ≡ length xs - a = length-drop a xs in
    let both : length (drop a xs ++ ys) ≡ length (drop a xs) + length ys = length-append (drop a xs) ys in
    ap (take (b - a)) (drop-append-le a xs ys from)
    ∙ take_all (b - a) (drop a xs ++ ys) (omega arith)
    ∙ ap (λ zs. zs ++ ys) (sym (take_all (b - a) (drop a xs) (omega arith)))

abbrev pub line_blocks : List Logged → Opening → List Block
line_blocks log o = flat_map (λ p. p.stripe.blocks) (stripes_of log o)

blocks_now : (log : List Logged) (stripe : Stripe) (knows : List ℕ) (o other : Opening) (b : Bool) → life_of log stripe.line ≡ Opened o
    → is_life other.number (Opened o) ≡ b
    → line_blocks (with_place log stripe knows) other ≡ line_blocks log other ++ cond b stripe.blocks []
blocks_now log stripe knows o other b opened is =
    ap (flat_map (λ (p : Placed). p.stripe.blocks)) (stripes_now log stripe knows o other b opened is)
    ∙ flat_map-append (λ (p : Placed). p.stripe.blocks) (stripes_of log other) (cond b (new_placed log stripe o ∷ []) [])
    ∙ ap (λ bs. line_blocks log other ++ bs) (last b)
  where
    last : (b : Bool) → flat_map (λ (p : Placed). p.stripe.blocks) (cond b (new_placed log stripe o ∷ []) []) ≡ cond b stripe.blocks []
    last true = append-nil stripe.blocks
    last false = refl

marks_of_it : (s : Shape) (log : List Logged) (stripe : Stripe) (knows : List ℕ) (o : Opening) → life_of log stripe.line ≡ Opened o
    → data_marks s (with_place log stripe knows) o ≡ map (λ (b : Block). b.mark)
    (slice_range (line_blocks log o ++ stripe.blocks) (start_len s) (end_address s o))
marks_of_it s log stripe knows o opened =
    ap (λ (bs : List Block). map (λ (b : Block). b.mark) (slice_range bs (start_len s) (end_address s o)))
    (blocks_now log stripe knows o o true opened (same_number o.number))

-- of a stripe of the start record
pub marks_before : (s : Shape) (log : List Logged) (stripe : Stripe) (knows : List ℕ) (o : Opening) → life_of log stripe.line ≡ Opened o
    → length (line_blocks log o) + length stripe.blocks ≤ start_len s
    → data_marks s (with_place log stripe knows) o ≡ data_marks s log o
marks_before s log stripe knows o opened within =
    marks_of_it s log stripe knows o opened
    ∙ ap (map (λ (b : Block). b.mark)) (past_front (line_blocks log o) stripe.blocks (start_len s) (end_address s o) within)

-- of data
pub marks_more : (s : Shape) (log : List Logged) (stripe : Stripe) (knows : List ℕ) (o : Opening) → life_of log stripe.line ≡ Opened o
    → start_len s ≤ length (line_blocks log o)
    → length (line_blocks log o) + length stripe.blocks ≤ end_address s o
    → data_marks s (with_place log stripe knows) o ≡ data_marks s log o ++ map (λ (b : Block). b.mark) stripe.blocks
marks_more s log stripe knows o opened from within =
    marks_of_it s log stripe knows o opened
    ∙ ap (map (λ (b : Block). b.mark)) (at_end (line_blocks log o) stripe.blocks (start_len s) (end_address s o) from within)
    ∙ map-append (λ (b : Block). b.mark) (slice_range (line_blocks log o) (start_len s) (end_address s o)) stripe.blocks

-- of the end record
pub marks_beyond : (s : Shape) (log : List Logged) (stripe : Stripe) (knows : List ℕ) (o : Opening) → life_of log stripe.line ≡ Opened o
    → end_address s o ≤ length (line_blocks log o)
    → data_marks s (with_place log stripe knows) o ≡ data_marks s log o
marks_beyond s log stripe knows o opened within =
    marks_of_it s log stripe knows o opened
    ∙ ap (map (λ (b : Block). b.mark)) (beyond_end (line_blocks log o) stripe.blocks (start_len s) (end_address s o) (omega arith) within)

pub marks_of_blocks : (size : ℕ) (bytes : List ℕ) (marks : List Mark) → map (λ (b : Block). b.mark) (blocks_of size bytes marks) ≡ marks
marks_of_blocks size bytes [] = refl
marks_of_blocks size bytes (m ∷ marks) = ap (λ ms. m ∷ ms) (marks_of_blocks size (drop size bytes) marks)

-- ---- stripes under way

idle_before : (log : List Logged) (stripe : Stripe) (o : Opening) → IsPlacing log stripe o → is_some (unanswered_on log stripe.unit) ≡ false
idle_before log stripe o is = ap is_some (slice_get_past (placed_on log stripe.unit) (length (answers log stripe.unit)) (omega (arith, is.idle)))

busy_after : (log : List Logged) (stripe : Stripe) (knows : List ℕ) (o : Opening) → IsPlacing log stripe o
    → is_some (unanswered_on (with_place log stripe knows) stripe.unit) ≡ true
busy_after log stripe knows o is =
    ap is_some (ap₂ (λ (ps : List Placed) n. slice_get ps n) (placed_on_now log stripe knows o stripe.unit true is.opened (same_number stripe.unit))
    (ap (λ (xs : List _). length xs) (answers_now log stripe knows stripe.unit))
    ∙ got_end (placed_on log stripe.unit) (new_placed log stripe o) (length (answers log stripe.unit)) is.idle)

same_elsewhere : (log : List Logged) (stripe : Stripe) (knows : List ℕ) (o : Opening) (unit : ℕ) → IsPlacing log stripe o → stripe.unit ≢ unit
    → is_some (unanswered_on (with_place log stripe knows) unit) ≡ is_some (unanswered_on log unit)
same_elsewhere log stripe knows o unit is other =
    ap is_some (ap₂ (λ (ps : List Placed) n. slice_get ps n)
    (placed_on_now log stripe knows o unit false is.opened (other_number stripe.unit unit other) ∙ append-nil (placed_on log unit))
    (ap (λ (xs : List _). length xs) (answers_now log stripe knows unit)))

counted_same : (f g : ℕ → Bool) (u a n : ℕ) → u < a → ((m : ℕ) → u ≢ m → g m ≡ f m)
    → length (filter g (range_with_len a n)) ≡ length (filter f (range_with_len a n))
counted_same f g u a zero below same = refl
counted_same f g u a (suc n) below same =
    ap (λ b. length (cond b (a ∷ filter g (range_with_len (a + 1) n)) (filter g (range_with_len (a + 1) n)))) (same a (λ e. absurd (omega (arith, e))))
    ∙ go (f a) (counted_same f g u (a + 1) n (omega arith) same)
  where
    go : (b : Bool) → length (filter g (range_with_len (a + 1) n)) ≡ length (filter f (range_with_len (a + 1) n))
        → length (cond b (a ∷ filter g (range_with_len (a + 1) n)) (filter g (range_with_len (a + 1) n))) ≡ length
        (cond b (a ∷ filter f (range_with_len (a + 1) n)) (filter f (range_with_len (a + 1) n)))
    go true rest = ap suc rest
    go false rest = rest

counted_more : (f g : ℕ → Bool) (u a n : ℕ) → a ≤ u → u < a + n → f u ≡ false → g u ≡ true → ((m : ℕ) → u ≢ m → g m ≡ f m)
    → length (filter g (range_with_len a n)) ≡ length (filter f (range_with_len a n)) + 1
counted_more f g u a zero low high was now same = absurd (omega arith)
counted_more f g u a (suc n) low high was now same = go (a == u) refl (λ further. counted_more f g u (a + 1) n further (omega arith) was now same)
  where
    at : (b : Bool) (xs ys : List ℕ) → length xs ≡ length ys + 1 → length (cond b (a ∷ xs) xs) ≡ length (cond b (a ∷ ys) ys) + 1
    at true xs ys e = omega (arith, e)
    at false xs ys e = e

    go : (b : Bool) → (a == u) ≡ b → (a + 1 ≤ u → length (filter g (range_with_len (a + 1) n)) ≡ length (filter f (range_with_len (a + 1) n)) + 1)
        → length (filter g (range_with_len a (suc n))) ≡ length (filter f (range_with_len a (suc n))) + 1
    go true e more =
        let same_unit : a ≡ u = eqb-true a u e in
        let rest : length (filter g (range_with_len (a + 1) n)) ≡ length (filter f (range_with_len (a + 1) n)) =
        counted_same f g u (a + 1) n (omega arith) same in
        ap (λ b. length (cond b (a ∷ filter g (range_with_len (a + 1) n)) (filter g (range_with_len (a + 1) n)))) (ap g same_unit ∙ now)
        ∙ omega (arith, rest)
        ∙ sym (ap (λ b. length (cond b (a ∷ filter f (range_with_len (a + 1) n)) (filter f (range_with_len (a + 1) n))) + 1) (ap f same_unit ∙ was))
    go false e more =
        let apart : u ≢ a = λ h. absurd (true_false (sym (ap (λ m. a == m) h ∙ same_number a) ∙ e)) in
        let further : a + 1 ≤ u = omega arith in
        ap (λ b. length (cond b (a ∷ filter g (range_with_len (a + 1) n)) (filter g (range_with_len (a + 1) n)))) (same a apart)
        ∙ at (f a) (filter g (range_with_len (a + 1) n)) (filter f (range_with_len (a + 1) n)) (more further)
      where
        true_false : true ≡ false → ⊥
        true_false e = absurd cc

pub one_more_under_way : (s : Shape) (log : List Logged) (stripe : Stripe) (knows : List ℕ) (o : Opening) → IsPlacing log stripe o → stripe.unit < units s
    → under_way s (with_place log stripe knows) ≡ under_way s log + 1
one_more_under_way s log stripe knows o is inside =
    counted_more (λ unit. is_some (unanswered_on log unit)) (λ unit. is_some (unanswered_on (with_place log stripe knows) unit)) stripe.unit 0 (units s)
    (omega arith) (omega arith)
    (idle_before log stripe o is) (busy_after log stripe knows o is) (λ unit other. same_elsewhere log stripe knows o unit is other)

pub few_under_way : (s : Shape) (log : List Logged) → under_way s log ≤ units s
few_under_way s log = few (λ unit. is_some (unanswered_on log unit)) 0 (units s)
  where
    few : (f : ℕ → Bool) (a n : ℕ) → length (filter f (range_with_len a n)) ≤ n
    few f a zero = omega arith
    few f a (suc n) =
        let rest : length (filter f (range_with_len (a + 1) n)) ≤ n = few f (a + 1) n in
        elim (f a) as (λ b. length (cond b (a ∷ filter f (range_with_len (a + 1) n)) (filter f (range_with_len (a + 1) n))) ≤ suc n)
        [ true ↦ omega arith | false ↦ omega arith ]

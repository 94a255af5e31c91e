-- Sums of the blocks of units, and what is left where a sum is made twice but for one unit.
use Rattle.std.proofs.Common.{◌≡◌, ◌≢◌, ℕ, zero, suc, ◌+◌, ◌<◌, ◌≤◌, List, [], ◌∷◌, ◌++◌, Bool, false, cond, eqb, Option, Some, None, refl, sym, ap, ap₂, ◌∙◌, arith}
use Rattle.std.specs.List.{AllByRecursion, cons_option, filter_map, range_with_len}
use Rattle.std.proofs.lemmas.Bool.{eq-eqb}
use Rattle.std.proofs.lemmas.Bool.Decides.{nat_tests}
use Rattle.std.proofs.lemmas.Grind.{fold-append}
use Rattle.std.proofs.lemmas.List.Elements.{filter_map-append}
use native.Mathlib.Decide.{ℕ_discrete}
use Rattle.pblk_model.proofs.Maps.{range_last}
use Rattle.pblk_model.specs.Chunk.{Block}
use Rattle.pblk_model.specs.declared.chunk.Mark.{Mark}
use Rattle.pblk_model.specs.Image.{Image}
use Rattle.pblk_laws.specs.LineBlocks.{written_at}
use Rattle.stripe_parity.specs.Xors.{written_but, xor_block, xor_bytes, xor_given, xor_marks, xor_onto}
use Rattle.stripe_parity.proofs.XorLaws.{HasSize, block_twice, onto_sized, onto_twice, onto_with, sized}

given : (a : Block) (o : Option Block) → xor_onto a (cons_option o []) ≡ xor_given a o
given a None = refl
given a (Some b) = refl

-- a block goes into a sum, by its parts
pub given_block : (sum buffer out : List ℕ) (mark found left : Mark) (o : Option Block) → o ≡ Some (record { sector = buffer; mark = found })
    → out ≡ xor_bytes sum buffer → left ≡ xor_marks mark found
    → ◌≡◌ {A = Block} (record { sector = out; mark = left }) (xor_given (record { sector = sum; mark = mark }) o)
given_block sum buffer out mark found left o is bytes marks =
    ap₂ (λ (x : List ℕ) (m : Mark). record { sector = x; mark = m }) bytes marks ∙ ap (xor_given (record { sector = sum; mark = mark })) (sym is)

-- a sum over units, with one unit more
pub sum_more : (w : ℕ → Option Block) (n : ℕ) (a old new : Block) → old ≡ xor_onto a (filter_map w (range_with_len 0 n)) → new ≡ xor_given old (w n)
    → new ≡ xor_onto a (filter_map w (range_with_len 0 (n + 1)))
sum_more w n a old new is more =
    let next : 0 + n ≡ n = omega arith in
    more ∙ sym (given old (w n)) ∙ ap (λ x. xor_onto x (cons_option (w n) [])) is
    ∙ sym (fold-append xor_block a (filter_map w (range_with_len 0 n)) (cons_option (w n) []))
    ∙ ap (xor_onto a) (ap (λ k. filter_map w (range_with_len 0 n) ++ cons_option (w k) []) (sym next)
    ∙ sym (filter_map-append w (range_with_len 0 n) ((0 + n) ∷ [])) ∙ ap (filter_map w) (sym (range_last 0 n)))

-- the same values
pub filter_map_same : {Y : Type 0} (f g : ℕ → Option Y) (ns : List ℕ) → ((n : ℕ) → f n ≡ g n) → filter_map f ns ≡ filter_map g ns
filter_map_same f g [] same = refl
filter_map_same f g (n ∷ ns) same = ap (λ o. cons_option o (filter_map f ns)) (same n) ∙ ap (cons_option (g n)) (filter_map_same f g ns same)

-- Units but for one.

abbrev pub but_for : (ℕ → Option Block) → ℕ → ℕ → Option Block
but_for w lost unit = cond (eqb unit lost) None (w unit)

pub but_other : (w : ℕ → Option Block) (lost unit : ℕ) → unit ≢ lost → but_for w lost unit ≡ w unit
but_other w lost unit other =
    let no : eqb unit lost ≡ false = grind (arith, nat_tests, other) in
    ap (λ (b : Bool). cond b None (w unit)) no

pub but_lost : (w : ℕ → Option Block) (lost unit : ℕ) → unit ≡ lost → but_for w lost unit ≡ None
but_lost w lost unit same = ap (λ (b : Bool). cond b None (w unit)) (eq-eqb unit lost same)

others_same : (w : ℕ → Option Block) (lost a n : ℕ) → lost < a → filter_map (but_for w lost) (range_with_len a n) ≡ filter_map w (range_with_len a n)
others_same w lost a zero before = refl
others_same w lost a (suc n) before =
    ap (λ o. cons_option o (filter_map (but_for w lost) (range_with_len (a + 1) n))) (but_other w lost a (λ same. omega (arith, same, before)))
    ∙ ap (cons_option (w a)) (others_same w lost (a + 1) n (omega (arith, before)))

sized_cons : (size : ℕ) (o : Option Block) (bs : List Block) → ((b : Block) → o ≡ Some b → HasSize size b) → AllByRecursion (HasSize size) bs
    → AllByRecursion (HasSize size) (cons_option o bs)
sized_cons size None bs one all = all
sized_cons size (Some b) bs one all = (one b refl, all)

abbrev pub AreSized : ℕ → (ℕ → Option Block) → Type 0
AreSized size w = (unit : ℕ) (b : Block) → w unit ≡ Some b → HasSize size b

pub all_sized : (size : ℕ) (w : ℕ → Option Block) (ns : List ℕ) → AreSized size w → AllByRecursion (HasSize size) (filter_map w ns)
all_sized size w [] are = tt
all_sized size w (n ∷ ns) are = sized_cons size (w n) (filter_map w ns) (are n) (all_sized size w ns are)

-- a block of another unit goes in twice
past_other : (size : ℕ) (o : Option Block) (x r : Block) (bs cs : List Block) → ((b : Block) → o ≡ Some b → HasSize size b) → HasSize size x
    → AllByRecursion (HasSize size) bs
    → xor_onto (xor_onto x bs) cs ≡ r → xor_onto (xor_onto x (cons_option o bs)) (cons_option o cs) ≡ r
past_other size None x r bs cs one has all rest = rest
past_other size (Some h) x r bs cs one has all rest =
    ap (λ y. xor_onto (xor_block y h) cs) (onto_with x h bs)
    ∙ ap (λ y. xor_onto y cs) (block_twice size (xor_onto x bs) h (onto_sized size x bs has all) (one h refl)) ∙ rest

one_here : (size : ℕ) (w : ℕ → Option Block) (lost a n : ℕ) (x b : Block) → AreSized size w → HasSize size x → w lost ≡ Some b → Dec (a ≡ lost)
    → (a ≢ lost → xor_onto (xor_onto x (filter_map w (range_with_len (a + 1) n))) (filter_map (but_for w lost) (range_with_len (a + 1) n)) ≡ xor_block x b)
    → xor_onto (xor_onto x (cons_option (w a) (filter_map w (range_with_len (a + 1) n))))
    (cons_option (but_for w lost a) (filter_map (but_for w lost) (range_with_len (a + 1) n))) ≡ xor_block x b
one_here size w lost a n x b are has is (yes same) later =
    let rest = filter_map w (range_with_len (a + 1) n) in
    let first : w a ≡ Some b = ap w same ∙ is in
    ap (λ o. xor_onto (xor_onto x (cons_option o rest)) (cons_option (but_for w lost a) (filter_map (but_for w lost) (range_with_len (a + 1) n)))) first
    ∙ ap (λ o. xor_onto (xor_onto (xor_block x b) rest) (cons_option o (filter_map (but_for w lost) (range_with_len (a + 1) n)))) (but_lost w lost a same)
    ∙ ap (xor_onto (xor_onto (xor_block x b) rest)) (others_same w lost (a + 1) n (omega (arith, same)))
    ∙ onto_twice size (xor_block x b) rest (sized size x b has (are lost b is)) (all_sized size w (range_with_len (a + 1) n) are)
one_here size w lost a n x b are has is (no other) later =
    let rest = filter_map w (range_with_len (a + 1) n) in
    let after = filter_map (but_for w lost) (range_with_len (a + 1) n) in
    ap (λ o. xor_onto (xor_onto x (cons_option (w a) rest)) (cons_option o after)) (but_other w lost a other)
    ∙ past_other size (w a) x (xor_block x b) rest after (are a) has (all_sized size w (range_with_len (a + 1) n) are) (later other)

not_yet : (a lost : ℕ) → a ≤ lost → a ≢ lost → a + 1 ≤ lost
not_yet a lost from other = grind (arith, from, other)

-- What is left of a sum over units, once the blocks of the other units have gone in again, is the block of the one.
pub one_left : (size : ℕ) (w : ℕ → Option Block) (lost a n : ℕ) (x b : Block) → AreSized size w → HasSize size x → w lost ≡ Some b → a ≤ lost → lost < a + n
    → xor_onto (xor_onto x (filter_map w (range_with_len a n))) (filter_map (but_for w lost) (range_with_len a n)) ≡ xor_block x b
one_left size w lost a zero x b are has is from to = absurd (omega (arith, from, to))
one_left size w lost a (suc n) x b are has is from to =
    one_here size w lost a n x b are has is (ℕ_discrete a lost)
    (λ other. one_left size w lost (a + 1) n x b are has is (not_yet a lost from other) (omega (arith, to)))

-- the same of a unit that may be none

pub but_is_lost : (i : Image) (lost : Option ℕ) (chunk block unit : ℕ) → lost ≡ Some unit → written_but i lost chunk block unit ≡ None
but_is_lost i lost chunk block unit same =
    ap (λ (o : Option ℕ). written_but i o chunk block unit) same ∙ but_lost (λ u. written_at i chunk (u, block)) unit unit refl

pub but_is_there : (i : Image) (lost : Option ℕ) (chunk block unit : ℕ) → lost ≢ Some unit
    → written_but i lost chunk block unit ≡ written_at i chunk (unit, block)
but_is_there i None chunk block unit other = refl
but_is_there i (Some l) chunk block unit other = but_other (λ u. written_at i chunk (u, block)) l unit (λ same. other (ap (λ u. Some u) (sym same)))

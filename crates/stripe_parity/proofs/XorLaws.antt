-- Laws of exclusive ors of bytes, of marks and of blocks.
use Rattle.std.proofs.Common.{◌≡◌, ℕ, zero, suc, ◌+◌, ◌<◌, List, [], ◌∷◌, ◌++◌, length, replicate, take, drop, get_or, slice_set, refl, sym, ap, ap₂, ◌∙◌, arith, add-one}
use Rattle.std.specs.List.{AllByRecursion}
use Rattle.std.specs.Int.Bits.{bit_xor, xor_assoc, xor_self, xor_zero_r}
use Rattle.std.proofs.lemmas.Nat.{xor_comm}
use Rattle.pblk_model.specs.Chunk.{Block}
use Rattle.pblk_model.specs.declared.chunk.Mark.{Mark}
use Rattle.stripe_parity.specs.Xors.{xor_block, xor_bytes, xor_onto, zero_block}
use Rattle.pblk_model.proofs.Lists.{length_replicate}

pub bytes_comm : (xs ys : List ℕ) → xor_bytes xs ys ≡ xor_bytes ys xs
bytes_comm [] [] = refl
bytes_comm [] (y ∷ ys) = refl
bytes_comm (x ∷ xs) [] = refl
bytes_comm (x ∷ xs) (y ∷ ys) = ap₂ (λ (z : ℕ) (zs : List ℕ). z ∷ zs) (xor_comm x y) (bytes_comm xs ys)

pub bytes_assoc : (xs ys zs : List ℕ) → xor_bytes (xor_bytes xs ys) zs ≡ xor_bytes xs (xor_bytes ys zs)
bytes_assoc [] ys zs = refl
bytes_assoc (x ∷ xs) [] zs = refl
bytes_assoc (x ∷ xs) (y ∷ ys) [] = refl
bytes_assoc (x ∷ xs) (y ∷ ys) (z ∷ zs) = ap₂ (λ (w : ℕ) (ws : List ℕ). w ∷ ws) (xor_assoc x y z) (bytes_assoc xs ys zs)

pub bytes_self : (xs : List ℕ) → xor_bytes xs xs ≡ replicate (length xs) 0
bytes_self [] = refl
bytes_self (x ∷ xs) = ap₂ (λ (z : ℕ) (zs : List ℕ). z ∷ zs) (xor_self x) (bytes_self xs)

pub bytes_zero : (xs : List ℕ) → xor_bytes xs (replicate (length xs) 0) ≡ xs
bytes_zero [] = refl
bytes_zero (x ∷ xs) = ap₂ (λ (z : ℕ) (zs : List ℕ). z ∷ zs) (xor_zero_r x) (bytes_zero xs)

pub bytes_length : (xs ys : List ℕ) → length xs ≡ length ys → length (xor_bytes xs ys) ≡ length xs
bytes_length [] ys same = refl
bytes_length (x ∷ xs) [] same = absurd (omega (arith, same))
bytes_length (x ∷ xs) (y ∷ ys) same = ap suc (bytes_length xs ys (omega (arith, same)))

same_mark : (a b c d : ℕ) → a ≡ b → c ≡ d → ◌≡◌ {A = Mark} (record { lba = a; position = c }) (record { lba = b; position = d })
same_mark a b c d e f = ap₂ (λ (x y : ℕ). record { lba = x; position = y }) e f

same_block : (a b : List ℕ) (c d : Mark) → a ≡ b → c ≡ d → ◌≡◌ {A = Block} (record { sector = a; mark = c }) (record { sector = b; mark = d })
same_block a b c d e f = ap₂ (λ (x : List ℕ) (y : Mark). record { sector = x; mark = y }) e f

pub block_comm : (a b : Block) → xor_block a b ≡ xor_block b a
block_comm a b = same_block _ _ _ _ (bytes_comm a.sector b.sector)
    (same_mark _ _ _ _ (xor_comm a.mark.lba b.mark.lba) (xor_comm a.mark.position b.mark.position))

pub block_assoc : (a b c : Block) → xor_block (xor_block a b) c ≡ xor_block a (xor_block b c)
block_assoc a b c = same_block _ _ _ _ (bytes_assoc a.sector b.sector c.sector)
    (same_mark _ _ _ _ (xor_assoc a.mark.lba b.mark.lba c.mark.lba) (xor_assoc a.mark.position b.mark.position c.mark.position))

abbrev pub HasSize : ℕ → Block → Type 0
HasSize size b = length b.sector ≡ size

-- a block with another one, twice
pub block_twice : (size : ℕ) (a b : Block) → HasSize size a → HasSize size b → xor_block (xor_block a b) b ≡ a
block_twice size a b one other =
    block_assoc a b b ∙ same_block _ _ _ _
    (ap (xor_bytes a.sector) (bytes_self b.sector ∙ ap (λ n. replicate n 0) (other ∙ sym one)) ∙ bytes_zero a.sector)
    (same_mark _ _ _ _ (ap (bit_xor a.mark.lba) (xor_self b.mark.lba) ∙ xor_zero_r a.mark.lba)
    (ap (bit_xor a.mark.position) (xor_self b.mark.position) ∙ xor_zero_r a.mark.position))

pub sized : (size : ℕ) (a b : Block) → HasSize size a → HasSize size b → HasSize size (xor_block a b)
sized size a b one other = bytes_length a.sector b.sector (one ∙ sym other) ∙ one

-- a block that goes in first, or last
pub onto_with : (a b : Block) (blocks : List Block) → xor_onto (xor_block a b) blocks ≡ xor_block (xor_onto a blocks) b
onto_with a b [] = refl
onto_with a b (c ∷ blocks) =
    ap (λ x. xor_onto x blocks) (block_assoc a b c ∙ ap (xor_block a) (block_comm b c) ∙ sym (block_assoc a c b))
    ∙ onto_with (xor_block a c) b blocks

pub zero_first : (size : ℕ) (b : Block) → HasSize size b → xor_block (zero_block size) b ≡ b
zero_first size b is = block_comm (zero_block size) b ∙ same_block _ _ _ _
    (ap (λ n. xor_bytes b.sector (replicate n 0)) (sym is) ∙ bytes_zero b.sector)
    (same_mark _ _ _ _ (xor_zero_r b.mark.lba) (xor_zero_r b.mark.position))

-- blocks that go in twice
pub onto_twice : (size : ℕ) (a : Block) (blocks : List Block) → HasSize size a → AllByRecursion (HasSize size) blocks → xor_onto (xor_onto a blocks) blocks ≡ a
onto_twice size a [] one all = refl
onto_twice size a (b ∷ blocks) one all =
    onto_with (xor_onto (xor_block a b) blocks) b blocks
    ∙ ap (λ x. xor_block x b) (onto_twice size (xor_block a b) blocks (sized size a b one all.0) all.1)
    ∙ block_twice size a b one all.0

pub onto_sized : (size : ℕ) (a : Block) (blocks : List Block) → HasSize size a → AllByRecursion (HasSize size) blocks → HasSize size (xor_onto a blocks)
onto_sized size a [] one all = one
onto_sized size a (b ∷ blocks) one all = onto_sized size (xor_block a b) blocks (sized size a b one all.0) all.1

pub zero_sized : (size : ℕ) → HasSize size (zero_block size)
zero_sized size = length_replicate size 0

-- One block more.

abbrev pub mixed : ℕ → List ℕ → List ℕ → List ℕ
mixed i out with = xor_bytes (take i out) (take i with) ++ drop i out

mixed_step : (i : ℕ) (out with : List ℕ) → i < length out → i < length with
    → slice_set (mixed i out with) i (bit_xor (get_or (mixed i out with) i 0) (get_or with i 0)) ≡ mixed (suc i) out with
mixed_step zero [] with inside there = absurd (omega (arith, inside))
mixed_step zero (x ∷ out) [] inside there = absurd (omega (arith, there))
mixed_step zero (x ∷ out) (y ∷ with) inside there = refl
mixed_step (suc i) [] with inside there = absurd (omega (arith, inside))
mixed_step (suc i) (x ∷ out) [] inside there = absurd (omega (arith, there))
mixed_step (suc i) (x ∷ out) (y ∷ with) inside there =
    ap (λ (zs : List ℕ). bit_xor x y ∷ zs) (mixed_step i out with (omega (arith, inside)) (omega (arith, there)))

pub mixed_next : (old with out : List ℕ) (i : ℕ) → i < length old → length with ≡ length old → out ≡ mixed i old with
    → slice_set out i (bit_xor (get_or out i 0) (get_or with i 0)) ≡ mixed (i + 1) old with
mixed_next old with out i inside same is =
    ap (λ xs. slice_set xs i (bit_xor (get_or xs i 0) (get_or with i 0))) is ∙ mixed_step i old with inside (omega (arith, inside, same))
    ∙ ap (λ n. mixed n old with) (sym (add-one i))

-- Runs of addresses, and the programs that they are.
use Rattle.std.proofs.Common.{ℕ, zero, suc, ◌+◌, ◌*◌, ◌<◌, ◌≤◌, ◌≡◌, ◌++◌, ◌==◌, ◌&&◌, Bool, true, false, cond, List, [], ◌∷◌, length, take, drop, refl, sym, ap, ◌∙◌, arith}
use Rattle.std.proofs.lemmas.List.{drop-drop, drop-take, take-take}
use Rattle.std.specs.List.{flat_map}
use Rattle.std.proofs.lemmas.Bool.{eqb-true}
use Rattle.std.proofs.lemmas.List.Concat.{flat_map-cons}
use Rattle.pblk_model.specs.declared.shape.Address.{Address}
use Rattle.pblk_model.specs.declared.chunk.Mark.{Mark}
use Rattle.pblk_model.specs.Blocks.{blocks_of}
use Rattle.pblk_model.specs.Chunk.{Block}
use Rattle.pblk_model.specs.Geometry.{Geometry}
use Rattle.vector_io.specs.Plans.{unit_of, goes_on, placed_from, placed_by, placed_at, Program, program_of, with_first, programs}
use Rattle.vector_io.specs.Runs.{is_next_block, run_behind, run_len}
use Rattle.pblk_model.proofs.Numbers.{suc-times}
use Rattle.pblk_model.proofs.Tests.{both}

-- Blocks of parts of two lists.

pub blocks_of-drop : (size : ℕ) (bytes : List ℕ) (marks : List Mark) (k : ℕ)
    → blocks_of size (drop (k * size) bytes) (drop k marks) ≡ drop k (blocks_of size bytes marks)
blocks_of-drop size bytes marks zero = let e : 0 * size ≡ 0 = omega arith in rw e refl
blocks_of-drop size bytes [] (suc k) = refl
blocks_of-drop size bytes (m ∷ marks) (suc k) = rw (suc-times k size, ← drop-drop (k * size) size bytes) (blocks_of-drop size (drop size bytes) marks k)

pub blocks_of-take : (size : ℕ) (bytes : List ℕ) (marks : List Mark) (k : ℕ)
    → blocks_of size (take (k * size) bytes) (take k marks) ≡ take k (blocks_of size bytes marks)
blocks_of-take size bytes marks zero = refl
blocks_of-take size bytes [] (suc k) = refl
blocks_of-take size bytes (m ∷ marks) (suc k) =
    let within : size ≤ size + k * size = omega arith in
    rw (suc-times k size, take-take size (size + k * size) bytes within, drop-take size (k * size) bytes, blocks_of-take size (drop size bytes) marks k) refl

-- the part of k blocks from a place on
pub part_blocks : (size at k : ℕ) (bytes : List ℕ) (marks : List Mark) (long : ℕ) → long ≡ k * size
    → blocks_of size (take long (drop (at * size) bytes)) (take k (drop at marks)) ≡ take k (drop at (blocks_of size bytes marks))
part_blocks size at k bytes marks long is =
    rw is (blocks_of-take size (drop (at * size) bytes) (drop at marks) k ∙ ap (take k) (blocks_of-drop size bytes marks at))

-- The first run is the first program.

-- the next address goes on with this program, or begins its own
at_next : (g : Geometry) (a b : Address) (block next : Block) (rest taken : List Block) (xs later : List Address) (n : ℕ) (ps : List Program) (test : Bool)
    → taken ≡ take n rest → later ≡ drop n xs → programs g (b ∷ xs) (next ∷ rest) ≡ program_of g b (next ∷ taken) ∷ ps → ps ≡ programs g later (drop n rest)
    → cond test (program_of g a (block ∷ next ∷ taken) ∷ ps) (program_of g a (block ∷ []) ∷ program_of g b (next ∷ taken) ∷ ps)
    ≡ program_of g a (block ∷ take (cond test (suc n) 0) (next ∷ rest)) ∷ programs g (drop (cond test (suc n) 0) (b ∷ xs))
    (drop (cond test (suc n) 0) (next ∷ rest))
at_next g a b block next rest taken xs later n ps true is_taken is_later first is_rest = rw (is_rest, is_taken, is_later) refl
at_next g a b block next rest taken xs later n ps false is_taken is_later first is_rest = ap (λ ps. program_of g a (block ∷ []) ∷ ps) (sym first)

pub first_program : (g : Geometry) (a : Address) (xs : List Address) (block : Block) (blocks : List Block) → length xs ≡ length blocks
    → programs g (a ∷ xs) (block ∷ blocks) ≡ program_of g a (block ∷ take (run_behind g a xs) blocks) ∷ programs g (drop (run_behind g a xs) xs)
    (drop (run_behind g a xs) blocks)
first_program g a [] block blocks len = refl
first_program g a (b ∷ xs) block [] len = absurd (omega arith)
first_program g a (b ∷ xs) block (next ∷ blocks) len =
    ap (with_first g a block) (first_program g b xs next blocks (omega arith))
    ∙ at_next g a b block next blocks (take (run_behind g b xs) blocks) xs (drop (run_behind g b xs) xs) (run_behind g b xs)
    (programs g (drop (run_behind g b xs) xs) (drop (run_behind g b xs) blocks)) (is_next_block g a b)
    refl refl (first_program g b xs next blocks (omega arith)) refl

behind_if : (test : Bool) (n m : ℕ) → n ≤ m → cond test (suc n) 0 ≤ suc m
behind_if true n m h = omega arith
behind_if false n m h = omega arith

pub run_within : (g : Geometry) (a : Address) (xs : List Address) → run_behind g a xs ≤ length xs
run_within g a [] = omega arith
run_within g a (b ∷ xs) = behind_if (is_next_block g a b) (run_behind g b xs) (length xs) (run_within g b xs)

-- Along a run.

pub record IsInRun (g : Geometry) (xs : List Address) (at last : ℕ) : Type 0 where
  pub from : at ≤ last
  pub within : last < length xs
  pub run : at + run_len g (drop at xs) ≡ last + run_len g (drop last xs)

run_one : (g : Geometry) (xs : List Address) (last : ℕ) → last < length xs → length xs ≤ last + 1 → run_len g (drop last xs) ≡ 1
run_one g [] last within end = absurd (omega arith)
run_one g (x ∷ []) zero within end = refl
run_one g (x ∷ y ∷ xs) zero within end = absurd (omega arith)
run_one g (x ∷ xs) (suc last) within end = run_one g xs last (omega arith) (omega arith)

pub run_at_end : (g : Geometry) (xs : List Address) (at last : ℕ) → IsInRun g xs at last → length xs ≤ last + 1 → last + 1 ≡ at + run_len g (drop at xs)
run_at_end g xs at last h end = omega (arith, h.run, run_one g xs last h.within end)

-- The programs have each address with its block.

placed_on : (unit unit' chunk chunk' number number' : ℕ) (blocks : List Block) → unit ≡ unit' → chunk ≡ chunk' → number ≡ number'
    → placed_from unit chunk number blocks ≡ placed_from unit' chunk' number' blocks
placed_on unit unit' chunk chunk' number number' blocks u c n = rw (u, c, n) refl

joined : (g : Geometry) (a : Address) (block : Block) (p : Program) (ps : List Program) (test : Bool) → goes_on g a p ≡ test
    → flat_map placed_by (cond test (program_of g a (block ∷ p.blocks) ∷ ps) (program_of g a (block ∷ []) ∷ p ∷ ps))
    ≡ record { unit = unit_of g a; chunk = a.chunk; number = a.block; block = block } ∷ flat_map placed_by (p ∷ ps)
joined g a block p ps true is =
    let parts = both ((unit_of g a == p.unit) && (a.chunk == p.chunk)) (a.block + 1 == p.at) is in
    let places = both (unit_of g a == p.unit) (a.chunk == p.chunk) parts.0 in
    flat_map-cons placed_by (program_of g a (block ∷ p.blocks)) ps
    ∙ ap (λ bs. record { unit = unit_of g a; chunk = a.chunk; number = a.block; block = block } ∷ (bs ++ flat_map placed_by ps))
    (placed_on (unit_of g a) p.unit a.chunk p.chunk (a.block + 1) p.at p.blocks (eqb-true (unit_of g a) p.unit places.0) (eqb-true a.chunk p.chunk places.1)
    (eqb-true (a.block + 1) p.at parts.1))
    ∙ ap (λ bs. record { unit = unit_of g a; chunk = a.chunk; number = a.block; block = block } ∷ bs) (sym (flat_map-cons placed_by p ps))
joined g a block p ps false is = flat_map-cons placed_by (program_of g a (block ∷ [])) (p ∷ ps)

first_placed : (g : Geometry) (a : Address) (block : Block) (ps : List Program)
    → flat_map placed_by (with_first g a block ps) ≡ record { unit = unit_of g a; chunk = a.chunk; number = a.block; block = block } ∷ flat_map placed_by ps
first_placed g a block [] = flat_map-cons placed_by (program_of g a (block ∷ [])) []
first_placed g a block (p ∷ ps) = joined g a block p ps (goes_on g a p) refl

pub all_placed : (g : Geometry) (xs : List Address) (blocks : List Block) → flat_map placed_by (programs g xs blocks) ≡ placed_at g xs blocks
all_placed g [] blocks = refl
all_placed g (a ∷ xs) [] = refl
all_placed g (a ∷ xs) (block ∷ blocks) =
    first_placed g a block (programs g xs blocks)
    ∙ ap (λ bs. record { unit = unit_of g a; chunk = a.chunk; number = a.block; block = block } ∷ bs) (all_placed g xs blocks)

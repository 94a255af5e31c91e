-- Runs of written blocks, and the start records that they spell.
use Rattle.std.proofs.Common.{◌≡◌, ℕ, ◌+◌, ◌<◌, zero, suc, Option, Some, None, List, [], ◌∷◌, length, refl, sym, ap, ◌∙◌, subst, arith, add-zero}
use Rattle.std.specs.List.{slice_get, flat_map}
use Rattle.std.specs.Option.{option_and_then, option_map}
use Rattle.std.proofs.lemmas.Option.{none-some, same_Some}
use Rattle.pblk_model.specs.Chunk.{Block}
use Rattle.pblk_model.specs.LineOrder.{start_len}
use Rattle.pblk_model.specs.Image.{Image, width, block_at}
use Rattle.pblk_model.specs.StartRecord.{read_start, written_run, marked_start, start_of}

and_then_all_none : {A B : Type 0} (f : A → Option B) (o : Option A) → ((x : A) → f x ≡ None) → option_and_then f o ≡ None
and_then_all_none f None h = refl
and_then_all_none f (Some x) h = h x

more : (i : Image) (line a n : ℕ) (b : Block) (bs : List Block) → block_at i line a ≡ Some b → ((k : ℕ) → k < n → block_at i line (a + 1 + k) ≡ slice_get bs k)
    → (k : ℕ) → k < suc n → block_at i line (a + k) ≡ slice_get (b ∷ bs) k
more i line a n b bs here rest zero below = subst (λ x. block_at i line x ≡ Some b) (sym (add-zero a)) here
more i line a n b bs here rest (suc k) below = subst (λ x. block_at i line x ≡ slice_get bs k) (omega arith) (rest k (omega arith))

-- a run breaks off at a block that isn't written
pub run_none : (i : Image) (line a n k : ℕ) → k < n → block_at i line (a + k) ≡ None → written_run i line a n ≡ None
unfolding written_run
run_none i line a zero k h none = absurd (omega arith)
run_none i line a (suc n) zero h none =
    let here : block_at i line a ≡ None = subst (λ x. block_at i line x ≡ None) (add-zero a) none in
    ap (option_and_then (λ block. option_map (λ blocks. block ∷ blocks) (written_run i line (a + 1) n))) here
run_none i line a (suc n) (suc k) h none =
    let there : block_at i line ((a + 1) + k) ≡ None = subst (λ x. block_at i line x ≡ None) (omega arith) none in
    let rest : written_run i line (a + 1) n ≡ None = run_none i line (a + 1) n k (omega arith) there in
    and_then_all_none (λ block. option_map (λ blocks. block ∷ blocks) (written_run i line (a + 1) n)) (block_at i line a)
    (λ block. ap (option_map (λ blocks. block ∷ blocks)) rest)

-- a run of written blocks is those blocks
pub run_some : (i : Image) (line a : ℕ) (blocks : List Block) → ((k : ℕ) → k < length blocks → block_at i line (a + k) ≡ slice_get blocks k)
    → written_run i line a (length blocks) ≡ Some blocks
unfolding written_run
run_some i line a [] h = refl
run_some i line a (b ∷ bs) h =
    let here : block_at i line a ≡ Some b = subst (λ x. block_at i line x ≡ Some b) (add-zero a) (h 0 (omega arith)) in
    let rest : written_run i line (a + 1) (length bs) ≡ Some bs =
    run_some i line (a + 1) bs (λ k below. subst (λ x. block_at i line x ≡ slice_get bs k) (omega arith) (h (suc k) (omega arith))) in
    ap (option_and_then (λ block. option_map (λ blocks. block ∷ blocks) (written_run i line (a + 1) (length bs)))) here
    ∙ ap (option_map (λ blocks. b ∷ blocks)) rest

cons_run : (o : Option Block) (rest : Option (List Block)) (blocks : List Block) → option_and_then (λ b. option_map (λ bs. b ∷ bs) rest) o ≡ Some blocks
    → (b : Block) × (bs : List Block) × (o ≡ Some b) × (rest ≡ Some bs) × (b ∷ bs ≡ blocks)
cons_run None rest blocks h = absurd (none-some blocks h)
cons_run (Some b) None blocks h = absurd (none-some blocks h)
cons_run (Some b) (Some bs) blocks h = (b, bs, refl, refl, same_Some (b ∷ bs) blocks h)

-- and each block of a run is written
pub record IsRun (i : Image) (line a n : ℕ) (blocks : List Block) : Type 0 where
  pub count : length blocks ≡ n
  pub written : (k : ℕ) → k < n → block_at i line (a + k) ≡ slice_get blocks k

pub run_is : (i : Image) (line a n : ℕ) (blocks : List Block) → written_run i line a n ≡ Some blocks → IsRun i line a n blocks
unfolding written_run
run_is i line a zero blocks h = record {
  count = ap length (sym (same_Some [] blocks h));
  written = λ k below. absurd (omega arith);
}
run_is i line a (suc n) blocks h =
    let parts = cons_run (block_at i line a) (written_run i line (a + 1) n) blocks h in
    let rest = run_is i line (a + 1) n parts.1 parts.3 in
    subst (IsRun i line a (suc n)) parts.4 (record {
      count = ap suc rest.count;
      written = more i line a n parts.0 parts.1 parts.2 rest.written;
    })

pub start_none : (i : Image) (line k : ℕ) → k < start_len i.shape → block_at i line k ≡ None → start_of i line ≡ None
start_none i line k h none =
    let there : block_at i line (0 + k) ≡ None = subst (λ x. block_at i line x ≡ None) (omega arith) none in
    ap (option_and_then (λ blocks. marked_start blocks (read_start i.shape line (width i line) (flat_map (λ (b : Block). b.sector) blocks))))
    (run_none i line 0 (start_len i.shape) k h there)

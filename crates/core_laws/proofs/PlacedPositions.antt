-- A stripe holds positions that were taken.
use Rattle.std.proofs.Common.{◌≡◌, ◌≢◌, ◌⊎◌, inl, inr, ℕ, ◌+◌, ◌-◌, ◌<◌, ◌≤◌, ◌==◌, ◌&&◌, ◌||◌, zero, suc, not, Bool, true, false, Some, None, List, [], ◌∷◌, length, take, drop, replicate, refl, sym, subst, ap₂, arith}
use Rattle.std.specs.Prelude.{map, slice_range, is_some, if◌then◌else◌}
use Rattle.std.specs.List.{AllByRecursion, filter, list_any, range_with_len}
use Rattle.std.proofs.lemmas.Bool.{eqb-true}
use Rattle.pblk_model.specs.declared.shape.Shape.{Shape}
use Rattle.pblk_model.specs.declared.chunk.Mark.{Mark}
use Rattle.pblk_model.specs.Chunk.{Block}
use Rattle.pblk_model.specs.Blocks.{blocks_of}
use Rattle.pblk_model.specs.Image.{Image}
use Rattle.pblk_model.specs.Marks.{meta_lba, void_lba, meta_mark, pad_block}
use Rattle.pblk_model.specs.LineOrder.{start_len, end_len}
use Rattle.pblk_model.specs.StartRecord.{start_bytes}
use Rattle.pblk_model.specs.EndRecord.{end_bytes}
use Rattle.pblk_model.specs.Records.{named}
use Rattle.pblk_world.specs.Events.{Stripe, Logged}
use Rattle.pblk_world.specs.World.{Logs}
use Rattle.pblk_world.specs.EngineLog.{Taken, takes, Opening, Placed, placements, block_of_taken, bears_position, holds_position}
use Rattle.pblk_world.specs.Fronts.{first_position, taken, waits, was_placed, waiting}
use Rattle.pblk_world.specs.Placing.{next_address, end_address, end_record, IsStart, IsData, IsEnd, IsPad, MayPlace, data_blocks, record_blocks}
use Rattle.core_laws.specs.PlacerOf.{positions_of}
use Rattle.core_laws.specs.Positions.{AreNumbered, AreMarked, AreTaken, IsUnplaced}
use Rattle.core_laws.proofs.Placing.{not_below}
use Rattle.pblk_model.proofs.Lists.{all_append, all_imply, all_replicated}
use Rattle.pblk_model.proofs.Maps.{all_filter, all_mapped}
use Rattle.pblk_model.proofs.Parts.{all_dropped, all_taken}
use Rattle.pblk_model.proofs.Tests.{first_of, other_number, second_of}

abbrev pub BearsBelow : Shape → ℕ → Block → Type 0
BearsBelow s n b = (q : ℕ) → bears_position s q b ≡ true → q < n

pub holds_below : (s : Shape) (n : ℕ) (bs : List Block) → AllByRecursion (BearsBelow s n) bs → (q : ℕ) → list_any (bears_position s q) bs ≡ true → q < n
holds_below s n [] all q e = absurd cc
holds_below s n (b ∷ bs) all q e = go (bears_position s q b) refl e (λ f. holds_below s n bs all.1 q f)
  where
    go : (c : Bool) → bears_position s q b ≡ c → (c || list_any (bears_position s q) bs) ≡ true → (list_any (bears_position s q) bs ≡ true → q < n) → q < n
    go true f g rest = all.0 q f
    go false f g rest = rest g

pub unnamed : (s : Shape) (m : Mark) → s.capacity ≤ meta_lba → meta_lba ≤ m.lba → m.lba ≢ void_lba → is_some (named s m) ≡ false
unnamed s m small above other =
    ap₂ (λ a b. is_some (if a then Some (Some m.lba) else (if b then Some None else None))) (not_below s.capacity m.lba (omega arith))
    (other_number m.lba void_lba other)

bears_none : (s : Shape) (n : ℕ) (b : Block) → is_some (named s b.mark) ≡ false → BearsBelow s n b
bears_none s n b none = λ q e. let yes_ : is_some (named s b.mark) ≡ true = first_of (is_some (named s b.mark)) (b.mark.position == q) e in absurd cc

pads_below : (s : Shape) (n : ℕ) → s.capacity ≤ meta_lba → BearsBelow s n (pad_block s)
pads_below s n small = bears_none s n (pad_block s) (unnamed s (pad_block s).mark small (omega arith) (λ e. absurd (omega (arith, e))))

records_below : (s : Shape) (n size seq count : ℕ) (bytes : List ℕ) → s.capacity ≤ meta_lba
    → AllByRecursion (BearsBelow s n) (blocks_of size bytes (replicate count (meta_mark seq)))
records_below s n size seq zero bytes small = tt
records_below s n size seq (suc count) bytes small = (
  bears_none s n (record { sector = take size bytes; mark = meta_mark seq }) (unnamed s (meta_mark seq) small (omega arith) (λ e. absurd (omega (arith, e)))),
  records_below s n size seq count (drop size bytes) small,
)

-- ---- entries

pub numbered_below : (a n : ℕ) (ts : List Taken) → positions_of ts ≡ range_with_len a n → AllByRecursion (λ (t : Taken). t.entry.position < a + n) ts
numbered_below a n [] is = tt
numbered_below a zero (t ∷ ts) is = absurd cc
numbered_below a (suc n) (t ∷ ts) is =
    let first : t.entry.position ≡ a = cc in
    let rest : positions_of ts ≡ range_with_len (a + 1) n = cc in (
      omega arith,
      all_imply (λ (u : Taken). u.entry.position < a + 1 + n) (λ (u : Taken). u.entry.position < a + suc n) (λ u h. omega arith) ts
          (numbered_below (a + 1) n ts rest),
    )

marks_below : (n : ℕ) (ts : List Taken) → AllByRecursion (λ (t : Taken). t.mark.position ≡ t.entry.position) ts
    → AllByRecursion (λ (t : Taken). t.entry.position < n) ts → AllByRecursion (λ (t : Taken). t.mark.position < n) ts
marks_below n [] a b = tt
marks_below n (t ∷ ts) a b = let same : t.mark.position ≡ t.entry.position = a.0 in let below : t.entry.position < n =
    b.0 in (omega arith, marks_below n ts a.1 b.1)

entry_below : (s : Shape) (n : ℕ) (t : Taken) → t.mark.position < n → BearsBelow s n (block_of_taken t)
entry_below s n t below = λ q e. let same : t.mark.position ≡ q =
    eqb-true t.mark.position q (second_of (is_some (named s t.mark)) (t.mark.position == q) e) in omega arith

data_below : (s : Shape) (log : List Logged) → s.capacity ≤ meta_lba → AreNumbered log → AreMarked log
    → AllByRecursion (BearsBelow s (taken log)) (data_blocks s log)
data_below s log small numbered marked =
    let all : AllByRecursion (λ (t : Taken). t.mark.position < taken log) (takes log) =
    marks_below (taken log) (takes log) marked (numbered_below (first_position log) (length (takes log)) (takes log) numbered) in
    let waits_below : AllByRecursion (λ (t : Taken). t.mark.position < taken log) (waiting s log) =
    all_append (λ (t : Taken). t.mark.position < taken log) (filter (λ t. waits s log t && was_placed s log t) (takes log))
    (filter (λ t. not (was_placed s log t)) (takes log))
    (all_filter (λ (t : Taken). t.mark.position < taken log) (λ t. waits s log t && was_placed s log t) (takes log) all)
    (all_filter (λ (t : Taken). t.mark.position < taken log) (λ t. not (was_placed s log t)) (takes log) all) in
    let first : AllByRecursion (BearsBelow s (taken log)) (map block_of_taken (take s.ws_opt (waiting s log))) =
    all_mapped (BearsBelow s (taken log)) block_of_taken (take s.ws_opt (waiting s log))
    (all_imply (λ (t : Taken). t.mark.position < taken log) (λ (t : Taken). BearsBelow s (taken log) (block_of_taken t)) (λ t h. entry_below s (taken log) t h)
    (take s.ws_opt (waiting s log))
    (all_taken (λ (t : Taken). t.mark.position < taken log) s.ws_opt (waiting s log) waits_below)) in
    all_append (BearsBelow s (taken log)) (map block_of_taken (take s.ws_opt (waiting s log)))
    (replicate (s.ws_opt - length (map block_of_taken (take s.ws_opt (waiting s log)))) (pad_block s)) first
    (all_replicated (BearsBelow s (taken log)) (s.ws_opt - length (map block_of_taken (take s.ws_opt (waiting s log)))) (pad_block s)
    (pads_below s (taken log) small))

-- ---- a placed stripe

part_below : (s : Shape) (n seq count : ℕ) (bytes : List ℕ) (from to : ℕ) → s.capacity ≤ meta_lba
    → AllByRecursion (BearsBelow s n) (slice_range (record_blocks s seq count bytes) from to)
part_below s n seq count bytes from to small =
    all_taken (BearsBelow s n) (to - from) (drop from (record_blocks s seq count bytes))
    (all_dropped (BearsBelow s n) from (record_blocks s seq count bytes) (records_below s n s.sector seq count bytes small))

by_kind : (i : Image) (logs : Logs) (stripe : Stripe) (o : Opening) → i.shape.capacity ≤ meta_lba → AreNumbered (logs 0) → AreMarked (logs 0)
    → IsStart i logs o stripe ⊎ (IsData i logs o stripe ⊎ (IsEnd i logs o stripe ⊎ IsPad i logs o stripe))
    → AllByRecursion (BearsBelow i.shape (taken (logs 0))) stripe.blocks
by_kind i logs stripe o small numbered marked (inl is) =
    subst (AllByRecursion (BearsBelow i.shape (taken (logs 0)))) (sym is.blocks)
    (part_below i.shape (taken (logs 0)) o.start.seq (start_len i.shape) (start_bytes i.shape o.start) (next_address i.shape (logs 0) o - 0)
    (next_address i.shape (logs 0) o - 0 + i.shape.ws_opt) small)
by_kind i logs stripe o small numbered marked (inr (inl is)) =
    subst (AllByRecursion (BearsBelow i.shape (taken (logs 0)))) (sym is.blocks) (data_below i.shape (logs 0) small numbered marked)
by_kind i logs stripe o small numbered marked (inr (inr (inl is))) =
    subst (AllByRecursion (BearsBelow i.shape (taken (logs 0)))) (sym is.blocks)
    (part_below i.shape (taken (logs 0)) o.start.seq (end_len i.shape o.start.width) (end_bytes i.shape (end_record i.shape (logs 0) o))
    (next_address i.shape (logs 0) o - end_address i.shape o) (next_address i.shape (logs 0) o - end_address i.shape o + i.shape.ws_opt) small)
by_kind i logs stripe o small numbered marked (inr (inr (inr is))) =
    subst (AllByRecursion (BearsBelow i.shape (taken (logs 0)))) (sym is.blocks)
    (all_replicated (BearsBelow i.shape (taken (logs 0))) i.shape.ws_opt (pad_block i.shape) (pads_below i.shape (taken (logs 0)) small))

-- a stripe that may be placed holds positions that were taken
pub placed_taken : (i : Image) (logs : Logs) (stripe : Stripe) → i.shape.capacity ≤ meta_lba → AreNumbered (logs 0) → AreMarked (logs 0)
    → MayPlace i logs stripe → (q : ℕ) → list_any (bears_position i.shape q) stripe.blocks ≡ true → q < taken (logs 0)
placed_taken i logs stripe small numbered marked may q e =
    holds_below i.shape (taken (logs 0)) stripe.blocks (by_kind i logs stripe may.opening small numbered marked may.kind) q e

-- so none holds the next one
next_unplaced : (s : Shape) (n : ℕ) (ps : List Placed) → AllByRecursion (λ p. (q : ℕ) → holds_position s q p ≡ true → q < n) ps
    → AllByRecursion (λ p. holds_position s n p ≡ false) ps
next_unplaced s n [] all = tt
next_unplaced s n (p ∷ ps) all = (go (holds_position s n p) refl, next_unplaced s n ps all.1)
  where
    go : (b : Bool) → holds_position s n p ≡ b → b ≡ false
    go true e = let below : n < n = all.0 n e in absurd (omega arith)
    go false e = refl

pub taken_is_unplaced : (s : Shape) (log : List Logged) → AreTaken s log → IsUnplaced s log (taken log)
taken_is_unplaced s log all = next_unplaced s (taken log) (placements log) all

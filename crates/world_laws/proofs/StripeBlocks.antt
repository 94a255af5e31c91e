-- The blocks of a stripe: parts of a start record or of an end record, or entries and what fills up
-- a stripe. None of them begins a start record of a lesser width than its line's.
use Rattle.std.proofs.Common.{◌≡◌, ◌⊎◌, inl, inr, ℕ, ◌+◌, ◌-◌, ◌*◌, ◌^◌, ◌<◌, ◌≤◌, not, ◌&&◌, zero, suc, Some, None, Option, List, [], ◌∷◌, map, take, drop, replicate, refl, sym, subst, ap, ◌∙◌, arith}
use Rattle.std.specs.Prelude.{slice_range}
use Rattle.std.specs.List.{AllByRecursion, Contains, filter, flat_map}
use Rattle.std.proofs.lemmas.List.{drop-drop}
use Rattle.pblk_model.specs.declared.shape.Shape.{Shape}
use Rattle.pblk_model.specs.declared.chunk.Mark.{Mark}
use Rattle.pblk_model.specs.Accepted.{IsAccepted}
use Rattle.pblk_model.specs.Blocks.{blocks_of}
use Rattle.pblk_model.specs.Chunk.{Block}
use Rattle.pblk_model.specs.EndRecord.{end_bytes}
use Rattle.pblk_model.specs.Image.{Image}
use Rattle.pblk_model.specs.LineOrder.{start_len}
use Rattle.pblk_model.specs.Marks.{meta_lba, meta_mark, pad_block}
use Rattle.pblk_model.specs.Sealed.{BeginsNarrower}
use Rattle.pblk_model.specs.Shape.{units}
use Rattle.pblk_model.specs.StartRecord.{start_bytes}
use Rattle.pblk_world.specs.Events.{Take, Stripe, Source, Entry, Decides, Logged}
use Rattle.pblk_world.specs.World.{World, Logs, log_of}
use Rattle.pblk_world.specs.EngineLog.{Opening, Opened, openings, is_life, Placed, placements, stripes_of, Taken, takes, block_of_taken}
use Rattle.pblk_world.specs.Fronts.{waits, was_placed, waiting}
use Rattle.pblk_world.specs.Legal.{IsLegal}
use Rattle.pblk_world.specs.Placing.{record_blocks, stripe_at, end_address, data_marks, end_record, data_blocks, IsStart, IsData, IsEnd, IsPad, MayPlace}
use Rattle.pblk_world.specs.Taking.{IsMarked}
use Rattle.pblk_world.specs.Victims.{engine_prefix}
use Rattle.pblk_world.proofs.EngineLogLemmas.{opened_same, takes_more}
use Rattle.pblk_laws.proofs.StartHeads.{spelled_begins_once}
use Rattle.pblk_model.proofs.Lists.{IsAmong, all_append, all_contains, all_front, all_imply, all_replicated, among_all}
use Rattle.pblk_model.proofs.Maps.{all_filter, all_mapped}
use Rattle.pblk_model.proofs.Numbers.{next_at}
use Rattle.pblk_model.proofs.Parts.{all_dropped, all_taken, contained_among, take_and_drop}
use Rattle.pblk_world.specs.LegalMounts.{IsLegalMount}
use Rattle.world_laws.proofs.EndHeads.{IsPlacedMark, end_begins_none}
use Rattle.world_laws.proofs.Engine.{Keeps, logged_as, of_engine}
use Rattle.world_laws.proofs.Later.{placements_joined, takes_joined}
use Rattle.world_laws.proofs.Openings.{placed_at}
use Rattle.world_laws.proofs.StartFits.{opening_fits, opening_narrow}
use Rattle.world_laws.proofs.Stripes.{IsPlaced, opening_then, placed_is}

-- ---- the marks of entries, and of what fills up a stripe

-- a mark of a sector, or one that names none and isn't that of a record of a line
abbrev pub IsDataMark : Mark → Type 0
IsDataMark m = (m.lba < 2 ^ 40) ⊎ ((meta_lba < m.lba) × (m.lba < 2 ^ 64))

AreOfData : List Logged → Type 0
AreOfData log = AllByRecursion (λ (t : Taken). IsDataMark t.mark) (takes log)

marked_data : (i : Image) (logs : Logs) (entry : Entry) (mark : Mark) (source : Option Source) → entry.lba < 2 ^ 40
    → IsMarked i logs entry mark source → IsDataMark mark
marked_data i logs entry mark None low is =
    let lba : mark.lba ≡ entry.lba = ap (λ (m : Mark). m.lba) is in inl (omega arith)
marked_data i logs entry mark (Some source) low (inl is) =
    let lba : mark.lba ≡ entry.lba = ap (λ (m : Mark). m.lba) is.names_sector in inl (omega arith)
marked_data i logs entry mark (Some source) low (inr is) =
    let lba : mark.lba ≡ 2 ^ 64 - 2 = ap (λ (m : Mark). m.lba) is.names_none in inr (omega arith, omega arith)

keeps_data : (i : Image) → IsAccepted i.shape → Keeps i AreOfData
unfolding AreOfData
keeps_data i accepted logs (Decides (Take entry mark)) knows may h =
    let few : i.shape.capacity < 2 ^ 40 = accepted.target.capacity_number in
    let low : entry.lba < i.shape.capacity = may.2.lba in
    subst (AllByRecursion (λ (t : Taken). IsDataMark t.mark)) (sym (takes_more (logs 0) (logged_as (Decides (Take entry mark)) knows)))
    (all_append (λ (t : Taken). IsDataMark t.mark) (takes (logs 0)) _ h (marked_data i logs entry mark entry.source (omega arith) may.2.marked, tt))
keeps_data i accepted logs e knows may h =
    subst (AllByRecursion (λ (t : Taken). IsDataMark t.mark)) (sym (takes_more (logs 0) (logged_as e knows)))
    (all_append (λ (t : Taken). IsDataMark t.mark) (takes (logs 0)) [] h tt)

-- the marks of entries at a length of the log
entry_marks : (i : Image) (w : World) (k : ℕ) → IsAccepted i.shape → IsLegal i w
    → AllByRecursion (λ (t : Taken). IsDataMark t.mark) (takes (take k (log_of w 0)))
unfolding AreOfData
entry_marks i w k accepted legal =
    (all_front (λ (t : Taken). IsDataMark t.mark) (takes (take k (log_of w 0))) (takes (drop k (log_of w 0)))
    (subst (AllByRecursion (λ (t : Taken). IsDataMark t.mark))
    (ap takes (sym (take_and_drop k (log_of w 0))) ∙ takes_joined (take k (log_of w 0)) (drop k (log_of w 0)))
    (of_engine i AreOfData tt (keeps_data i accepted) w legal))).0

HasDataMark : Block → Type 0
HasDataMark b = IsDataMark b.mark

pads_are_data : (s : Shape) (n : ℕ) → AllByRecursion HasDataMark (replicate n (pad_block s))
unfolding HasDataMark
pads_are_data s n = all_replicated HasDataMark n (pad_block s) (inr (omega arith, omega arith))

data_are_data : (s : Shape) (part : List Logged) → AllByRecursion (λ (t : Taken). IsDataMark t.mark) (takes part)
    → AllByRecursion HasDataMark (data_blocks s part)
unfolding HasDataMark
data_are_data s part all =
    let wait : AllByRecursion (λ (t : Taken). IsDataMark t.mark) (waiting s part) =
    all_append (λ (t : Taken). IsDataMark t.mark) (filter (λ t. waits s part t && was_placed s part t) (takes part))
    (filter (λ t. not (was_placed s part t)) (takes part))
    (all_filter (λ (t : Taken). IsDataMark t.mark) (λ t. waits s part t && was_placed s part t) (takes part) all)
    (all_filter (λ (t : Taken). IsDataMark t.mark) (λ t. not (was_placed s part t)) (takes part) all) in
    all_append HasDataMark (map block_of_taken (take s.ws_opt (waiting s part))) _
    (all_mapped HasDataMark block_of_taken (take s.ws_opt (waiting s part)) (all_taken (λ (t : Taken). IsDataMark t.mark) s.ws_opt (waiting s part) wait))
    (pads_are_data s _)

-- ---- the blocks of a record

-- it is one of the sectors into which these bytes are cut, with this mark
pub record IsCut (size : ℕ) (bytes : List ℕ) (m : Mark) (b : Block) : Type 0 where
  pub number : ℕ
  pub sector : b.sector ≡ take size (drop (number * size) bytes)
  pub mark : b.mark ≡ m

cut_from : (size : ℕ) (bytes : List ℕ) (m : Mark) (n q : ℕ) → AllByRecursion (IsCut size bytes m) (blocks_of size (drop (q * size) bytes) (replicate n m))
cut_from size bytes m zero q = tt
cut_from size bytes m (suc n) q =
    let far : q * size + size ≡ (q + 1) * size = sym (next_at q size) in
    let rest : drop size (drop (q * size) bytes) ≡ drop ((q + 1) * size) bytes = drop-drop size (q * size) bytes ∙ ap (λ k. drop k bytes) far in (
      record { number = q; sector = refl; mark = refl },
      subst (λ xs. AllByRecursion (IsCut size bytes m) (blocks_of size xs (replicate n m))) (sym rest) (cut_from size bytes m n (q + 1)),
    )

all_cut : (s : Shape) (seq n : ℕ) (bytes : List ℕ) (begins a : ℕ)
    → AllByRecursion (IsCut s.sector bytes (meta_mark seq)) (stripe_at s (record_blocks s seq n bytes) begins a)
all_cut s seq n bytes begins a =
    let none : 0 * s.sector ≡ 0 = omega arith in
    let whole : AllByRecursion (IsCut s.sector bytes (meta_mark seq)) (record_blocks s seq n bytes) =
    subst (λ k. AllByRecursion (IsCut s.sector bytes (meta_mark seq)) (blocks_of s.sector (drop k bytes) (replicate n (meta_mark seq)))) none
    (cut_from s.sector bytes (meta_mark seq) n 0) in
    all_taken (IsCut s.sector bytes (meta_mark seq)) _ (drop _ (record_blocks s seq n bytes))
    (all_dropped (IsCut s.sector bytes (meta_mark seq)) _ (record_blocks s seq n bytes) whole)

-- ---- the blocks of a stripe that was placed

-- blocks of the start record, of the end record as it is at this length of the log, or of data
abbrev AreBlocksOf : Shape → List Logged → Opening → List Block → Type 0
AreBlocksOf s part o blocks = AllByRecursion (IsCut s.sector (start_bytes s o.start) (meta_mark o.start.seq)) blocks
    ⊎ (AllByRecursion (IsCut s.sector (end_bytes s (end_record s part o)) (meta_mark o.start.seq)) blocks ⊎ AllByRecursion HasDataMark blocks)

by_kind : (i : Image) (w : World) (k : ℕ) (o : Opening) (stripe : Stripe) → IsAccepted i.shape → IsLegal i w
    → IsStart i (engine_prefix k (log_of w)) o stripe ⊎ (IsData i (engine_prefix k (log_of w)) o stripe
    ⊎ (IsEnd i (engine_prefix k (log_of w)) o stripe ⊎ IsPad i (engine_prefix k (log_of w)) o stripe))
    → AreBlocksOf i.shape (take k (log_of w 0)) o stripe.blocks
by_kind i w k o stripe accepted legal (inl is) =
    inl (subst (AllByRecursion (IsCut i.shape.sector (start_bytes i.shape o.start) (meta_mark o.start.seq))) (sym is.blocks)
    (all_cut i.shape o.start.seq _ _ _ _))
by_kind i w k o stripe accepted legal (inr (inl is)) =
    inr (inr (subst (AllByRecursion HasDataMark) (sym is.blocks) (data_are_data i.shape (take k (log_of w 0)) (entry_marks i w k accepted legal))))
by_kind i w k o stripe accepted legal (inr (inr (inl is))) =
    inr (inl (subst (AllByRecursion (IsCut i.shape.sector (end_bytes i.shape (end_record i.shape (take k (log_of w 0)) o)) (meta_mark o.start.seq)))
    (sym is.blocks) (all_cut i.shape o.start.seq _ _ _ _)))
by_kind i w k o stripe accepted legal (inr (inr (inr is))) =
    inr (inr (subst (AllByRecursion HasDataMark) (sym is.blocks) (pads_are_data i.shape i.shape.ws_opt)))

record HasBlocks (i : Image) (w : World) (p : Placed) : Type 0 where
  o : Opening
  life : p.life ≡ Opened o
  opened : Contains (openings (log_of w 0)) o
  blocks : AreBlocksOf i.shape (take p.number (log_of w 0)) o p.stripe.blocks

blocks_are : (i : Image) (w : World) (p : Placed) → IsAccepted i.shape → IsLegal i w → Contains (placements (log_of w 0)) p → HasBlocks i w p
blocks_are i w p accepted legal there =
    let is : IsPlaced (log_of w 0) p = placed_is (log_of w 0) p there in
    let may : MayPlace i (engine_prefix p.number (log_of w)) p.stripe = placed_at i w p.number p.stripe is.logged legal is.there is.event in record {
      o = may.opening;
      life = is.life ∙ may.is_open;
      opened = (opening_then (log_of w 0) p.number p.stripe.line may.opening may.is_open).0;
      blocks = by_kind i w p.number may.opening p.stripe accepted legal may.kind;
    }

-- ---- the marks of all blocks that were placed

HasPlacedMark : Block → Type 0
HasPlacedMark b = IsPlacedMark b.mark

cut_marks : (size : ℕ) (bytes : List ℕ) (seq : ℕ) (b : Block) → IsCut size bytes (meta_mark seq) b → HasPlacedMark b
unfolding HasPlacedMark
cut_marks size bytes seq b is = let lba : b.mark.lba ≡ meta_lba = ap (λ (m : Mark). m.lba) is.mark in inr (omega arith, omega arith)

data_mark : (b : Block) → HasDataMark b → HasPlacedMark b
unfolding HasPlacedMark HasDataMark
data_mark b (inl low) = inl low
data_mark b (inr high) = let above : meta_lba < b.mark.lba = high.0 in inr (omega arith, high.1)

marks_are : (s : Shape) (part : List Logged) (o : Opening) (blocks : List Block) → AreBlocksOf s part o blocks → AllByRecursion HasPlacedMark blocks
marks_are s part o blocks (inl all) = all_imply _ HasPlacedMark (cut_marks s.sector (start_bytes s o.start) o.start.seq) blocks all
marks_are s part o blocks (inr (inl all)) = all_imply _ HasPlacedMark (cut_marks s.sector (end_bytes s (end_record s part o)) o.start.seq) blocks all
marks_are s part o blocks (inr (inr all)) = all_imply HasDataMark HasPlacedMark data_mark blocks all

pub all_flat_of : {X Y : Type 0} (P : Y → Type 0) (f : X → List Y) (xs : List X) → AllByRecursion (λ x. AllByRecursion P (f x)) xs
    → AllByRecursion P (flat_map f xs)
all_flat_of P f [] h = tt
all_flat_of P f (x ∷ xs) h = all_append P (f x) (flat_map f xs) h.0 (all_flat_of P f xs h.1)

AreMarkedSo : Placed → Type 0
AreMarkedSo p = AllByRecursion HasPlacedMark p.stripe.blocks

placed_marks : (i : Image) (w : World) → IsAccepted i.shape → IsLegal i w → AllByRecursion AreMarkedSo (placements (log_of w 0))
unfolding AreMarkedSo
placed_marks i w accepted legal =
    all_imply (IsAmong (placements (log_of w 0))) AreMarkedSo (λ p at.
    let has : HasBlocks i w p = blocks_are i w p accepted legal (contained_among (placements (log_of w 0)) p at) in
    marks_are i.shape (take p.number (log_of w 0)) has.o p.stripe.blocks has.blocks)
    (placements (log_of w 0)) (among_all (placements (log_of w 0)))

-- the pairs of an end record
pair_marks : (i : Image) (w : World) (k : ℕ) (o : Opening) → IsAccepted i.shape → IsLegal i w
    → AllByRecursion IsPlacedMark (data_marks i.shape (take k (log_of w 0)) o)
unfolding AreMarkedSo HasPlacedMark
pair_marks i w k o accepted legal =
    let log : List Logged = log_of w 0 in
    let joined = placements_joined (take k log) (drop k log) in
    let then_ : AllByRecursion AreMarkedSo (placements (take k log)) =
    (all_front AreMarkedSo (placements (take k log)) joined.0
    (subst (AllByRecursion AreMarkedSo) (ap placements (sym (take_and_drop k log)) ∙ joined.1) (placed_marks i w accepted legal))).0 in
    let blocks : List Block = flat_map (λ (p : Placed). p.stripe.blocks) (stripes_of (take k log) o) in
    let all : AllByRecursion HasPlacedMark blocks =
    all_flat_of HasPlacedMark (λ (p : Placed). p.stripe.blocks) (stripes_of (take k log) o)
    (all_filter AreMarkedSo (λ (p : Placed). is_life o.number p.life) (placements (take k log)) then_) in
    all_mapped IsPlacedMark (λ (b : Block). b.mark) (slice_range blocks (start_len i.shape) (end_address i.shape o))
    (all_taken HasPlacedMark _ (drop (start_len i.shape) blocks) (all_dropped HasPlacedMark (start_len i.shape) blocks all))

-- ---- no block begins a start record of a lesser width

NotNarrower : ℕ → Block → Type 0
NotNarrower g b = BeginsNarrower g b → ⊥

data_begins_none : (g : ℕ) (b : Block) → HasDataMark b → NotNarrower g b
unfolding HasDataMark NotNarrower
data_begins_none g b (inl low) begins = let lba : b.mark.lba ≡ meta_lba = begins.mark in omega arith
data_begins_none g b (inr high) begins = let lba : b.mark.lba ≡ meta_lba = begins.mark in let above : meta_lba < b.mark.lba = high.0 in omega arith

none_begins : (i : Image) (w : World) (k g : ℕ) (o : Opening) (blocks : List Block) → IsLegalMount i w → Contains (openings (log_of w 0)) o → g ≤ o.start.width
    → AreBlocksOf i.shape (take k (log_of w 0)) o blocks → AllByRecursion (NotNarrower g) blocks
unfolding NotNarrower
none_begins i w k g o blocks mount opened less (inl all) =
    let few : units i.shape ≤ 64 = mount.accepted.drive.few_units in
    let narrow : o.start.width ≤ units i.shape = opening_narrow i w o mount.fit mount.legal opened in
    all_imply _ (NotNarrower g) (λ b is.
    spelled_begins_once i.shape o.line o.start.width g is.number o.start b mount.accepted (omega arith) less
    (opening_fits i w o mount.legal opened) is.sector is.mark)
    blocks all
none_begins i w k g o blocks mount opened less (inr (inl all)) =
    all_imply _ (NotNarrower g) (λ b is.
    end_begins_none i.shape (end_record i.shape (take k (log_of w 0)) o) is.number g b mount.accepted (pair_marks i w k o mount.accepted mount.legal) is.sector)
    blocks all
none_begins i w k g o blocks mount opened less (inr (inr all)) = all_imply HasDataMark (NotNarrower g) (data_begins_none g) blocks all

pub placed_begins_none : (i : Image) (w : World) (p : Placed) (o : Opening) (g : ℕ) (b : Block) → IsLegalMount i w → Contains (placements (log_of w 0)) p
    → p.life ≡ Opened o → g ≤ o.start.width → Contains p.stripe.blocks b → BeginsNarrower g b → ⊥
unfolding NotNarrower
placed_begins_none i w p o g b mount there life less block =
    let has : HasBlocks i w p = blocks_are i w p mount.accepted mount.legal there in
    let same : has.o ≡ o = opened_same has.o o (sym has.life ∙ life) in
    let width : has.o.start.width ≡ o.start.width = ap (λ (x : Opening). x.start.width) same in
    all_contains (NotNarrower g) p.stripe.blocks b (none_begins i w p.number g has.o p.stripe.blocks mount has.opened (omega arith) has.blocks) block

-- The positions that a stripe's blocks bear: those of its entries, and none where it has no
-- entries.
use Rattle.std.proofs.Common.{◌≡◌, ℕ, ◌-◌, ◌≤◌, ◌&&◌, not, zero, suc, true, false, Some, None, Option, List, [], ◌∷◌, ◌++◌, map, length, take, drop, replicate, refl, ap, ◌∙◌, arith, if◌then◌else◌}
use Rattle.std.specs.Prelude.{slice_range, is_some}
use Rattle.std.specs.List.{AllByRecursion, filter, filter_map, cons_option}
use Rattle.pblk_model.specs.declared.shape.Shape.{Shape}
use Rattle.pblk_model.specs.Chunk.{Block}
use Rattle.pblk_model.specs.Blocks.{blocks_of}
use Rattle.pblk_model.specs.Image.{Image}
use Rattle.pblk_model.specs.Marks.{meta_lba, meta_mark, pad_block}
use Rattle.pblk_model.specs.Records.{named}
use Rattle.pblk_world.specs.Events.{Logged}
use Rattle.pblk_world.specs.World.{World, log_of}
use Rattle.pblk_world.specs.EngineLog.{Taken, takes, block_of_taken}
use Rattle.pblk_world.specs.Fronts.{waits, was_placed, waiting}
use Rattle.pblk_world.specs.Legal.{IsLegal}
use Rattle.pblk_world.specs.Placing.{data_blocks, record_blocks}
use Rattle.pblk_world.specs.Victims.{position_in}
use Rattle.core_laws.specs.PlacerOf.{positions_of}
use Rattle.core_laws.proofs.PlacedPositions.{unnamed}
use Rattle.core_laws.proofs.UsersEntries.{AreInOrder, in_order}
use Rattle.core_laws.proofs.PlacerOfLemmas.{positions_taken}
use Rattle.pblk_model.proofs.Lists.{all_append, zipped}
use Rattle.pblk_model.proofs.Maps.{all_filter}
use Rattle.pblk_model.proofs.Parts.{all_dropped, all_taken}

-- ---- blocks that bear none

bears_none : (s : Shape) (b : Block) → is_some (named s b.mark) ≡ false → position_in s b ≡ None
bears_none s b none = ap (λ c. if c then Some b.mark.position else None) none

none_made : {X Y : Type 0} (f : X → Option Y) (xs : List X) → AllByRecursion (λ x. f x ≡ None) xs → filter_map f xs ≡ []
none_made f [] all = refl
none_made f (x ∷ xs) all = ap (λ o. cons_option o (filter_map f xs)) all.0 ∙ none_made f xs all.1

records_none : (s : Shape) (size seq count : ℕ) (bytes : List ℕ) → s.capacity ≤ meta_lba
    → AllByRecursion (λ b. position_in s b ≡ None) (blocks_of size bytes (replicate count (meta_mark seq)))
records_none s size seq zero bytes small = tt
records_none s size seq (suc count) bytes small = (
  bears_none s (record { sector = take size bytes; mark = meta_mark seq }) (unnamed s (meta_mark seq) small (omega arith) (λ e. absurd (omega (arith, e)))),
  records_none s size seq count (drop size bytes) small,
)

pub record_positions : (s : Shape) (seq count : ℕ) (bytes : List ℕ) (from to : ℕ) → s.capacity ≤ meta_lba
    → filter_map (position_in s) (slice_range (record_blocks s seq count bytes) from to) ≡ []
record_positions s seq count bytes from to small =
    none_made (position_in s) (slice_range (record_blocks s seq count bytes) from to)
    (all_taken (λ (b : Block). position_in s b ≡ None) (to - from) (drop from (record_blocks s seq count bytes))
    (all_dropped (λ (b : Block). position_in s b ≡ None) from (record_blocks s seq count bytes) (records_none s s.sector seq count bytes small)))

pads_none : (s : Shape) (n : ℕ) → s.capacity ≤ meta_lba → AllByRecursion (λ b. position_in s b ≡ None) (replicate n (pad_block s))
pads_none s zero small = tt
pads_none s (suc n) small = (
  bears_none s (pad_block s) (unnamed s (pad_block s).mark small (omega arith) (λ e. absurd (omega (arith, e)))),
  pads_none s n small,
)

-- ---- entries

-- the entry's block bears its position
abbrev pub Bears : Shape → Taken → Type 0
Bears s t = position_in s (block_of_taken t) ≡ Some t.entry.position

pub all_bear : (i : Image) (w : World) → i.shape.capacity ≤ meta_lba → IsLegal i w → AllByRecursion (Bears i.shape) (takes (log_of w 0))
all_bear i w small legal =
    let order : AreInOrder i.shape (log_of w 0) = in_order i w small legal in
    zipped (λ (t : Taken). is_some (named i.shape t.mark) ≡ true) (λ (t : Taken). t.mark.position ≡ t.entry.position) (Bears i.shape)
    (λ t names marked. ap (λ b. if b then Some t.mark.position else None) names ∙ ap (λ n. Some n) marked) (takes (log_of w 0)) order.named order.marked

entries_made : (s : Shape) (ts : List Taken) (bs : List Block) → AllByRecursion (Bears s) ts → AllByRecursion (λ b. position_in s b ≡ None) bs
    → filter_map (position_in s) (map block_of_taken ts ++ bs) ≡ positions_of ts
entries_made s [] bs all none = none_made (position_in s) bs none
entries_made s (t ∷ ts) bs all none =
    ap (λ o. cons_option o (filter_map (position_in s) (map block_of_taken ts ++ bs))) all.0
    ∙ ap (λ qs. t.entry.position ∷ qs) (entries_made s ts bs all.1 none)

pub positions_by : (s : Shape) (log : List Logged) → AllByRecursion (Bears s) (takes log) → s.capacity ≤ meta_lba
    → filter_map (position_in s) (data_blocks s log) ≡ take s.ws_opt (positions_of (waiting s log))
positions_by s log all small =
    let ts : List Taken = take s.ws_opt (waiting s log) in
    entries_made s ts (replicate (s.ws_opt - length (map block_of_taken ts)) (pad_block s))
    (all_taken (Bears s) s.ws_opt (waiting s log)
    (all_append (Bears s) (filter (λ t. waits s log t && was_placed s log t) (takes log)) (filter (λ t. not (was_placed s log t)) (takes log))
    (all_filter (Bears s) (λ t. waits s log t && was_placed s log t) (takes log) all)
    (all_filter (Bears s) (λ t. not (was_placed s log t)) (takes log) all)))
    (pads_none s (s.ws_opt - length (map block_of_taken ts)) small)
    ∙ positions_taken s.ws_opt (waiting s log)

pub data_positions : (i : Image) (w : World) → i.shape.capacity ≤ meta_lba → IsLegal i w
    → filter_map (position_in i.shape) (data_blocks i.shape (log_of w 0)) ≡ take i.shape.ws_opt (positions_of (waiting i.shape (log_of w 0)))
data_positions i w small legal = positions_by i.shape (log_of w 0) (all_bear i w small legal) small

pub no_pad_positions : (s : Shape) (n : ℕ) → s.capacity ≤ meta_lba → filter_map (position_in s) (replicate n (pad_block s)) ≡ []
no_pad_positions s n small = none_made (position_in s) (replicate n (pad_block s)) (pads_none s n small)

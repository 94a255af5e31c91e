-- One address more is read.
use Rattle.std.proofs.Common.{ℕ, zero, suc, ◌+◌, ◌-◌, ◌*◌, ◌<◌, ◌≤◌, ◌≡◌, Bool, List, [], ◌∷◌, ◌++◌, length, take, drop, slice_get, slice_set, slice_index_or, Some, refl, sym, ap, ◌∙◌, arith, append_assoc, length-drop}
use borrow.Rule.Slice.PartMut.{put_mid}
use Rattle.std.proofs.Math.Seq.{take-add}
use Rattle.std.proofs.lemmas.List.{drop-drop, length-take-le, length-map, take_at, drop_at}
use Rattle.std.proofs.lemmas.Nat.{mul-le}
use Rattle.std.proofs.lemmas.Option.{same_Some}
use Rattle.pblk_model.specs.declared.shape.Address.{Address}
use Rattle.pblk_model.specs.declared.chunk.Mark.{Mark}
use Rattle.pblk_model.specs.Blocks.{blocks_of}
use Rattle.pblk_model.specs.Chunk.{Block}
use Rattle.pblk_model.specs.Geometry.{Geometry}
use Rattle.unit_port.specs.Unit.{ModelUnit}
use Rattle.unit_port.specs.Commands.{UnitCommand, EventAt, command_of, AreKept, AreTaken}
use Rattle.unit_port.specs.Did.{Did, failed_or_stopped, is_empty}
use Rattle.vector_io.specs.Plans.{read_of, reads}
use Rattle.vector_io.specs.Status.{HasBits, got_block, got_blocks, Reads}
use Rattle.vector_io.proofs.Chunks.{map_there}
use Rattle.vector_io.proofs.UnderWay.{IsUnderWayBy, none_done_by, one_done_by, all_ran, one_bit_more}
use Rattle.unit_port.proofs.Units.{only_reads}
use Rattle.pblk_model.proofs.Numbers.{suc-times}

-- the first n addresses are read, and the blocks that were there before have become these
pub record IsReading (g : Geometry) (xs : List Address) (old : List ModelUnit) (n failed empty : ℕ) (units : List ModelUnit)
    (before after : List Block) : Type 0 where
  pub events : List EventAt
  pub way : IsUnderWayBy old (reads g xs) n n failed empty events units
  pub blocks : after ≡ got_blocks events before

-- A block that is put in its place among others.

pub one_size : (i size : ℕ) → (i + 1) * size - i * size ≡ size
one_size i size = let e : (i + 1) * size ≡ size + i * size = grind arith in omega arith

pub block_within : (i count size all : ℕ) → all ≡ count * size → i < count → (i + 1) * size ≤ all
block_within i count size all whole within = omega (arith, mul-le (i + 1) size count size (omega arith) (omega arith))

put_later : (size i : ℕ) (out part : List ℕ) → put_mid (size + i * size) size out part ≡ take size out ++ put_mid (i * size) size (drop size out) part
put_later size i out part =
    ap (λ front. front ++ (part ++ drop size (drop (size + i * size) out))) (take-add size (i * size) out)
    ∙ append_assoc (take size out) (take (i * size) (drop size out)) (part ++ drop size (drop (size + i * size) out))
    ∙ ap (λ back. take size out ++ (take (i * size) (drop size out) ++ (part ++ drop size back))) (sym (drop-drop (i * size) size out))

put_at : (size i : ℕ) (out part : List ℕ) (marks : List Mark) (m : Mark) → length out ≡ length marks * size → length part ≡ size → i < length marks
    → blocks_of size (put_mid (i * size) size out part) (slice_set marks i m) ≡ slice_set (blocks_of size out marks) i (record { sector = part; mark = m })
put_at size i out part [] m whole one within = absurd (omega arith)
put_at size zero out part (x ∷ marks) m whole one within =
    let none : 0 * size ≡ 0 = omega arith in
    rw (none, take_at part (drop size out) size one, drop_at part (drop size out) size one) refl
put_at size (suc i) out part (x ∷ marks) m whole one within =
    let split = suc-times (length marks) size in
    let front : length (take size out) ≡ size = length-take-le size out (omega arith) in
    let rest : length (drop size out) ≡ length marks * size = simp length-drop (omega arith) in
    rw (
      suc-times i size,
      put_later size i out part,
      take_at (take size out) (put_mid (i * size) size (drop size out) part) size front,
      drop_at (take size out) (put_mid (i * size) size (drop size out) part) size front,
      put_at size i (drop size out) part marks m rest one (omega arith),
    ) refl

pub put_block : (size i : ℕ) (out part : List ℕ) (marks : List Mark) (m : Mark) → length out ≡ length marks * size → length part ≡ size → i < length marks
    → blocks_of size (put_mid (i * size) ((i + 1) * size - i * size) out part) (slice_set marks i m) ≡ slice_set (blocks_of size out marks) i
    (record { sector = part; mark = m })
put_block size i out part marks m whole one within = rw (one_size i size) (put_at size i out part marks m whole one within)

pub block_at : (size : ℕ) (bytes : List ℕ) (marks : List Mark) (k : ℕ) (d : Mark) → k < length marks
    → slice_get (blocks_of size bytes marks) k ≡ Some (record { sector = take size (drop (k * size) bytes); mark = slice_index_or marks k d })
block_at size bytes [] k d below = absurd (omega arith)
block_at size bytes (m ∷ marks) zero d below =
    let none : 0 * size ≡ 0 = omega arith in
    rw none refl
block_at size bytes (m ∷ marks) (suc k) d below =
    rw (suc-times k size, ← drop-drop (k * size) size bytes) (block_at size (drop size bytes) marks k d (omega arith))

pub old_block : (size : ℕ) (bytes : List ℕ) (marks : List Mark) (k : ℕ) (d : Mark) → k < length marks
    → slice_get (blocks_of size bytes marks) k ≡ Some
    (record { sector = take ((k + 1) * size - k * size) (drop (k * size) bytes); mark = slice_index_or marks k d })
old_block size bytes marks k d below = rw (one_size k size) (block_at size bytes marks k d below)

pub part_size : (i size count : ℕ) (bytes : List ℕ) → length bytes ≡ count * size → i < count
    → length (take ((i + 1) * size - i * size) (drop (i * size) bytes)) ≡ size
part_size i size count bytes whole within =
    length-take-le ((i + 1) * size - i * size) (drop (i * size) bytes)
    (omega (arith, length-drop (i * size) bytes, block_within i count size (length bytes) whole within, one_size i size)) ∙ one_size i size

got_more : (events : List EventAt) (e : EventAt) (before : List Block) (block : Block) → slice_get (got_blocks events before) (length events) ≡ Some block
    → got_blocks (events ++ e ∷ []) before ≡ slice_set (got_blocks events before) (length events) (got_block e.event.outcome block)
got_more [] e [] block there = refl
got_more [] e (b ∷ before) block there = ap (λ b. got_block e.event.outcome b ∷ before) (same_Some b block there)
got_more (x ∷ events) e [] block there = refl
got_more (x ∷ events) e (b ∷ before) block there = ap (λ bs. got_block x.event.outcome b ∷ bs) (got_more events e before block there)

pub none_read : (g : Geometry) (xs : List Address) (old : List ModelUnit) (before : List Block) → AreTaken old (reads g xs)
    → IsReading g xs old 0 0 0 old before before
none_read g xs old before taken = record { events = []; way = none_done_by old (reads g xs) taken; blocks = refl }

events_len : (g : Geometry) (xs : List Address) (old units : List ModelUnit) (n failed empty : ℕ) (events : List EventAt) → n ≤ length xs
    → IsUnderWayBy old (reads g xs) n n failed empty events units → length events ≡ n
events_len g xs old units n failed empty events within h =
    sym (length-map events command_of) ∙ ap length h.ran.same ∙ length-take-le n (reads g xs) (omega (arith, length-map xs (read_of g)))

pub read_more : (g : Geometry) (xs : List Address) (old units new : List ModelUnit) (n failed failed' empty empty' : ℕ) (before after after' : List Block)
    (d : Address) (lost unreadable : Bool) (block found : Block) → n < length xs
    → IsReading g xs old n failed empty units before after → slice_get after n ≡ Some block → after' ≡ slice_set after n found
    → (e : EventAt) × Did units (read_of g (slice_index_or xs n d)) e new × (lost ≡ failed_or_stopped e.event.outcome) × (unreadable ≡ is_empty e.event.outcome)
    × (found ≡ got_block e.event.outcome block) → AreKept units new
    → ((flags : List Bool) → length flags ≡ n → HasBits failed flags → HasBits failed' (flags ++ lost ∷ []))
    → ((flags : List Bool) → length flags ≡ n → HasBits empty flags → HasBits empty' (flags ++ unreadable ∷ []))
    → IsReading g xs old (n + 1) failed' empty' new before after'
read_more g xs old units new n failed failed' empty empty' before after after' d lost unreadable block found within h there is did kept bits empties =
    let len : length h.events ≡ n = events_len g xs old units n failed empty h.events (omega arith) h.way in
    let there' : slice_get (got_blocks h.events before) (length h.events) ≡ Some block = rw len (ap (λ bs. slice_get bs n) (sym h.blocks) ∙ there) in
    record {
      events = h.events ++ did.0 ∷ [];
      way = one_done_by old (reads g xs) n n failed empty h.events units (read_of g (slice_index_or xs n d)) did.0 new failed' empty' 1 h.way
          (map_there (read_of g) xs n d within) did.1 kept
          (λ k c before there. only_reads (slice_index_or xs n d).block (ap (λ (c : UnitCommand). c.command) did.1.command))
          refl (one_bit_more n failed failed' lost (failed_or_stopped did.0.event.outcome) bits did.2)
          (one_bit_more n empty empty' unreadable (is_empty did.0.event.outcome) empties did.3);
      blocks = is ∙ ap (λ bs. slice_set bs n found) h.blocks ∙ ap (λ b. slice_set (got_blocks h.events before) n b) did.4
          ∙ ap (λ k. slice_set (got_blocks h.events before) k (got_block did.0.event.outcome block)) (sym len)
          ∙ sym (got_more h.events did.0 before block there');
    }

pub all_read : (g : Geometry) (xs : List Address) (old units : List ModelUnit) (n failed empty : ℕ) (before after : List Block)
    → IsReading g xs old n failed empty units before after → length xs ≤ n
    → Reads (reads g xs) old (record { failed = failed; empty = empty }) units before after
all_read g xs old units n failed empty before after h all = (
  h.events,
  all_ran old (reads g xs) n n failed empty h.events units h.way (omega (arith, length-map xs (read_of g))),
  record { failed = h.way.lost; empty = h.way.unreadable },
  h.blocks,
)

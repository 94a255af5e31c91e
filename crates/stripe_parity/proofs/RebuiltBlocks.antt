-- A block that is made anew is the one that was lost.
use Rattle.std.proofs.Common.{◌≡◌, ℕ, ◌<◌, ◌+◌, List, length, Option, Some, None, refl, sym, ap, ◌∙◌, subst, arith}
use Rattle.std.specs.List.{filter_map, range_with_len, slice_get}
use Rattle.std.specs.Option.{option_and_then}
use Rattle.std.proofs.lemmas.Option.{slice_get_within}
use native.Mathlib.Decide.{ℕ_discrete}
use Rattle.pblk_model.proofs.Maps.{row_at}
use Rattle.pblk_model.proofs.Options.{split_then}
use Rattle.pblk_model.specs.Chunk.{Block, Chunk}
use Rattle.pblk_model.specs.Image.{Image}
use Rattle.pblk_laws.specs.LineBlocks.{chunk_in, written_at}
use Rattle.stripe_parity.specs.Xors.{blocks_but, written_but, xor_onto, zero_block}
use Rattle.stripe_parity.specs.ParityFile.{ParityFile, parity_block, parity_of, parity_row}
use Rattle.stripe_parity.specs.Rebuilding.{AgreeBut, HasSectors, IsRebuiltBlock}
use Rattle.stripe_parity.proofs.UnitSums.{but_for, but_lost, but_other, filter_map_same, one_left}
use Rattle.stripe_parity.proofs.XorLaws.{zero_first, zero_sized}

-- a block of the parity of a drive
pub block_there : (first : Image) (chunk block : ℕ) (b : Block) → option_and_then (λ row. slice_get row block) (slice_get (parity_of first).rows chunk) ≡ Some b
    → b ≡ parity_block first chunk block
block_there first chunk block b there =
    let r = split_then (λ (row : List Block). slice_get row block) (slice_get (parity_of first).rows chunk) b there in
    let row = row_at (parity_row first) first.shape.chunks 0 chunk r.0 r.1 in
    let at : 0 + chunk ≡ chunk = omega arith in
    let same : parity_row first chunk ≡ r.0 = ap (parity_row first) (sym at) ∙ row.1 in
    let one = row_at (parity_block first chunk) _ 0 block b (ap (λ (bs : List Block). slice_get bs block) same ∙ r.2) in
    let here : 0 + block ≡ block = omega arith in
    sym (ap (parity_block first chunk) (sym here) ∙ one.1)

same_written : (first i : Image) (lost chunk block unit : ℕ) → AgreeBut lost first i → Dec (unit ≡ lost)
    → written_but i (Some lost) chunk block unit ≡ but_for (λ u. written_at first chunk (u, block)) lost unit
same_written first i lost chunk block unit agree (yes same) =
    but_lost (λ u. written_at i chunk (u, block)) lost unit same ∙ sym (but_lost (λ u. written_at first chunk (u, block)) lost unit same)
same_written first i lost chunk block unit agree (no other) =
    but_other (λ u. written_at i chunk (u, block)) lost unit other
    ∙ ap (λ (o : Option (List Chunk)). option_and_then (λ c. slice_get c.blocks block) (option_and_then (λ chunks. slice_get chunks chunk) o))
    (agree.others unit other)
    ∙ sym (but_other (λ u. written_at first chunk (u, block)) lost unit other)

pub rebuilt_is : (first i : Image) (lost chunk block : ℕ) (was b : Block) → HasSectors first → AgreeBut lost first i → lost < length first.units
    → written_at first chunk (lost, block) ≡ Some was → IsRebuiltBlock (parity_of first) i lost chunk block b → b ≡ was
rebuilt_is first i lost chunk block was b sectors agree within there h =
    let size = first.shape.sector in
    let n = length first.units in
    let w : ℕ → Option Block = λ u. written_at first chunk (u, block) in
    let all : blocks_but first None chunk block ≡ filter_map w (range_with_len 0 n) =
    filter_map_same (written_but first None chunk block) w (range_with_len 0 n) (λ u. refl) in
    let others : blocks_but i (Some lost) chunk block ≡ filter_map (but_for w lost) (range_with_len 0 n) =
    filter_map_same (written_but i (Some lost) chunk block) (but_for w lost) (range_with_len 0 (length i.units))
    (λ u. same_written first i lost chunk block u agree (ℕ_discrete u lost))
    ∙ ap (λ k. filter_map (but_for w lost) (range_with_len 0 k)) agree.count in
    let from : h.from ≡ xor_onto (zero_block size) (filter_map w (range_with_len 0 n)) =
    block_there first chunk block h.from h.there ∙ ap (xor_onto (zero_block size)) all in
    let sized = λ (u : ℕ) (x : Block) (e : w u ≡ Some x). sectors chunk u block x e in
    h.is ∙ ap (λ x. xor_onto x (blocks_but i (Some lost) chunk block)) from
    ∙ ap (xor_onto (xor_onto (zero_block size) (filter_map w (range_with_len 0 n)))) others
    ∙ one_left size w lost 0 n (zero_block size) was sized (zero_sized size) there (omega arith) (omega (arith, within))
    ∙ zero_first size was (sectors chunk lost block was there)

-- so of a drive's own parity it is the lost one
pub rebuilt_own : (p : ParityFile) (first i : Image) (lost chunk block : ℕ) (was b : Block) → HasSectors first → p ≡ parity_of first → AgreeBut lost first i
    → written_at first chunk (lost, block) ≡ Some was
    → IsRebuiltBlock p i lost chunk block b → was ≡ b
rebuilt_own p first i lost chunk block was b sectors is agree there h =
    let c = split_then (λ (c : Chunk). slice_get c.blocks block) (chunk_in first chunk lost) was there in
    let u = split_then (λ (cs : List Chunk). slice_get cs chunk) (slice_get first.units lost) c.0 c.1 in
    sym (rebuilt_is first i lost chunk block was b sectors agree (slice_get_within first.units lost u.0 u.1) there
    (subst (λ (q : ParityFile). IsRebuiltBlock q i lost chunk block b) is h))

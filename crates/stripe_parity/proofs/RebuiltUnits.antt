-- A unit that is made anew is the one that was lost.
use Rattle.std.proofs.Common.{◌≡◌, ◌⊎◌, inl, inr, ℕ, ◌<◌, ◌≤◌, List, length, map, Option, Some, None, refl, sym, ap, ap₂, ◌∙◌, subst, arith}
use Rattle.std.specs.List.{AllByRecursion, slice_get}
use Rattle.std.specs.Option.{option_and_then, option_map}
use Rattle.std.proofs.lemmas.Bool.{cases_lt}
use Rattle.std.proofs.lemmas.List.{length-set}
use Rattle.std.proofs.lemmas.Option.{same_Some, slice_get-map, slice_get_past, slice_get_within}
use native.Mathlib.Decide.{ℕ_discrete}
use Rattle.pblk_model.specs.declared.shape.Shape.{Shape}
use Rattle.pblk_model.specs.declared.chunk.ChunkState.{ChunkState}
use Rattle.pblk_model.specs.Chunk.{Block, Chunk, IsBlock, IsChunk, pointer}
use Rattle.pblk_model.specs.Image.{Image, IsFit}
use Rattle.pblk_model.proofs.Options.{split_then}
use Rattle.pblk_model.proofs.Parts.{all_get, get_set_other, get_set_same, got_within, same_lists}
use Rattle.pblk_laws.specs.LineBlocks.{chunk_in, written_at}
use Rattle.stripe_parity.specs.declared.kept.KeptChunk.{KeptChunk}
use Rattle.stripe_parity.specs.ParityFile.{ParityFile, kept_chunks, kept_of, parity_of}
use Rattle.stripe_parity.specs.Rebuilding.{AgreeBut, AreAsKept, AreRebuilt, HasSectors, IsAsKept, IsRebuilt, IsRebuiltChunk, with_unit}
use Rattle.stripe_parity.proofs.RebuiltBlocks.{rebuilt_is}

-- the sectors of a drive have their size
pub fit_sectors : (i : Image) → IsFit i → HasSectors i
fit_sectors i fit chunk unit block b there =
    let c = split_then (λ (c : Chunk). slice_get c.blocks block) (chunk_in i chunk unit) b there in
    let u = split_then (λ (cs : List Chunk). slice_get cs chunk) (slice_get i.units unit) c.0 c.1 in
    let fits = all_get (IsChunk i.shape) u.0 chunk c.0 (all_get (AllByRecursion (IsChunk i.shape)) i.units unit u.0 fit.each u.1) u.2 in
    (all_get (IsBlock i.shape) c.0.blocks block b fits.blocks c.2).size

own_at : (o : Option (List Chunk)) (chunk : ℕ)
    → option_map kept_of (option_and_then (λ cs. slice_get cs chunk) o) ≡ option_and_then (λ of. slice_get of chunk) (option_map (map kept_of) o)
own_at None chunk = refl
own_at (Some cs) chunk = sym (slice_get-map kept_of cs chunk)

-- a drive is as its own parity says
pub own_kept : (i : Image) (unit chunk : ℕ) → IsAsKept (kept_chunks i) i unit chunk
own_kept i unit chunk = own_at (slice_get i.units unit) chunk
    ∙ ap (λ (o : Option (List KeptChunk)). option_and_then (λ of. slice_get of chunk) o) (sym (slice_get-map (map kept_of) i.units unit))

-- so is one that agrees with it on the other units
pub agree_as_kept : (first i : Image) (lost : ℕ) → AgreeBut lost first i → AreAsKept (kept_chunks first) i lost
agree_as_kept first i lost agree unit chunk other =
    ap (λ (o : Option (List Chunk)). option_map kept_of (option_and_then (λ cs. slice_get cs chunk) o)) (agree.others unit other) ∙ own_kept first unit chunk

block_at : (first i : Image) (lost chunk block : ℕ) (f c : Chunk) → HasSectors first → AgreeBut lost first i → lost < length first.units
    → chunk_in first chunk lost ≡ Some f → IsRebuiltChunk (parity_of first) i lost chunk c
    → pointer c ≡ pointer f → (block < pointer c) ⊎ (pointer c ≤ block) → slice_get c.blocks block ≡ slice_get f.blocks block
block_at first i lost chunk block f c sectors agree within there h long (inl low) =
    let b = got_within c.blocks block low in
    let was = got_within f.blocks block (omega (arith, low, long)) in
    let written : written_at first chunk (lost, block) ≡ Some was.0 =
    ap (λ (o : Option Chunk). option_and_then (λ (x : Chunk). slice_get x.blocks block) o) there ∙ was.1 in
    b.1 ∙ ap (λ x. Some x) (rebuilt_is first i lost chunk block was.0 b.0 sectors agree within written (h.blocks block b.0 b.1)) ∙ sym was.1
block_at first i lost chunk block f c sectors agree within there h long (inr past) =
    slice_get_past c.blocks block past ∙ sym (slice_get_past f.blocks block (omega (arith, past, long)))

pub chunk_is : (first i : Image) (lost chunk : ℕ) (f c : Chunk) → HasSectors first → AgreeBut lost first i → lost < length first.units
    → chunk_in first chunk lost ≡ Some f → IsRebuiltChunk (parity_of first) i lost chunk c → c ≡ f
chunk_is first i lost chunk f c sectors agree within there h =
    let kept : kept_of c ≡ kept_of f = same_Some (kept_of c) (kept_of f) (sym h.kept ∙ sym (own_kept first lost chunk) ∙ ap (option_map kept_of) there) in
    let long : pointer c ≡ pointer f = ap (λ (k : KeptChunk). k.pointer) kept in
    ap₂ (λ (s : ChunkState) (bs : List Block). record { state = s; blocks = bs }) (ap (λ (k : KeptChunk). k.state) kept)
    (same_lists c.blocks f.blocks (λ block. block_at first i lost chunk block f c sectors agree within there h long (cases_lt block (pointer c))))

chunk_at : (first i : Image) (lost chunk : ℕ) (cs media : List Chunk) → HasSectors first → AgreeBut lost first i → lost < length first.units
    → slice_get first.units lost ≡ Some media → length media ≡ length cs
    → AreRebuilt (parity_of first) i lost cs → (chunk < length cs) ⊎ (length cs ≤ chunk) → slice_get cs chunk ≡ slice_get media chunk
chunk_at first i lost chunk cs media sectors agree within there long are (inl low) =
    let c = got_within cs chunk low in
    let f = got_within media chunk (omega (arith, low, long)) in
    let in_first : chunk_in first chunk lost ≡ Some f.0 = ap (λ (o : Option (List Chunk)). option_and_then (λ xs. slice_get xs chunk) o) there ∙ f.1 in
    c.1 ∙ ap (λ x. Some x) (chunk_is first i lost chunk f.0 c.0 sectors agree within in_first (are.each chunk c.0 c.1)) ∙ sym f.1
chunk_at first i lost chunk cs media sectors agree within there long are (inr past) =
    slice_get_past cs chunk past ∙ sym (slice_get_past media chunk (omega (arith, past, long)))

pub unit_is : (first i : Image) (lost : ℕ) (cs media : List Chunk) → IsFit first → AgreeBut lost first i → slice_get first.units lost ≡ Some media
    → AreRebuilt (parity_of first) i lost cs → cs ≡ media
unit_is first i lost cs media fit agree there are =
    let long : length media ≡ length cs = all_get (λ (unit : List Chunk). length unit ≡ first.shape.chunks) first.units lost media fit.chunks there
    ∙ sym are.count in
    same_lists cs media (λ chunk. chunk_at first i lost chunk cs media (fit_sectors first fit) agree
    (slice_get_within first.units lost media there) there long are (cases_lt chunk (length cs)))

unit_at : (first old new : Image) (lost unit : ℕ) → IsFit first → AgreeBut lost first old → lost < length first.units → IsRebuilt (parity_of first) lost old new
    → Dec (unit ≡ lost)
    → slice_get new.units unit ≡ slice_get first.units unit
unit_at first old new lost unit fit agree within h (yes same) =
    let media = got_within first.units lost within in
    ap (slice_get new.units) same ∙ h.there ∙ ap (λ x. Some x) (unit_is first old lost h.chunks media.0 fit agree media.1 h.are) ∙ sym media.1
    ∙ ap (slice_get first.units) (sym same)
unit_at first old new lost unit fit agree within h (no other) = h.agree.others unit other ∙ agree.others unit other

-- a drive whose lost unit was made anew is the first one
pub image_is : (first old new : Image) (p : ParityFile) (lost : ℕ) → IsFit first → p ≡ parity_of first → AgreeBut lost first old → lost < length first.units
    → IsRebuilt p lost old new → new ≡ first
image_is first old new p lost fit is agree within h =
    let own = subst (λ (q : ParityFile). IsRebuilt q lost old new) is h in
    ap₂ (λ (s : Shape) (us : List (List Chunk)). record { shape = s; units = us }) (own.agree.shape ∙ agree.shape)
    (same_lists new.units first.units (λ unit. unit_at first old new lost unit fit agree within own (ℕ_discrete unit lost)))

-- these chunks in the place of the unit's
pub put_is : (p : ParityFile) (old new : Image) (lost : ℕ) (cs : List Chunk) → lost < length old.units → new ≡ with_unit lost cs old → AreRebuilt p old lost cs
    → IsRebuilt p lost old new
put_is p old new lost cs within is are = subst (λ (i : Image). IsRebuilt p lost old i) (sym is) (record {
  agree = record {
    shape = refl;
    count = length-set old.units lost cs;
    others = λ unit other. get_set_other old.units lost unit cs other;
  };
  chunks = cs;
  there = get_set_same old.units lost cs within;
  are = are;
})

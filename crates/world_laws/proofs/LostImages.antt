-- Chunks of lines without a start record are emptied or go Offline: what that leaves of an image.
use Rattle.std.proofs.Common.{◌≡◌, ℕ, ◌+◌, ◌<◌, ◌≤◌, Bool, true, false, Some, None, List, length, refl, sym, ap, ◌∙◌, subst, arith}
use Rattle.std.specs.List.{slice_get}
use Rattle.std.proofs.lemmas.Option.{none-some}
use Rattle.pblk_model.specs.declared.shape.Shape.{Shape}
use Rattle.pblk_model.specs.declared.chunk.ChunkState.TheVariants.{Open}
use Rattle.pblk_model.specs.Accepted.{IsAccepted}
use Rattle.pblk_model.specs.Chunk.{Chunk, Block}
use Rattle.pblk_model.specs.LineOrder.{start_len}
use Rattle.pblk_model.specs.Image.{Image, IsFit, line_chunks, width}
use Rattle.pblk_model.specs.StartRecord.{StartRecord, start_of}
use Rattle.pblk_model.specs.EndRecord.{EndRecord, end_of}
use Rattle.pblk_model.specs.Records.{line_records, records_after}
use Rattle.pblk_model.specs.Sealed.{AgreesWithLine, BeginsNarrower, IsSealed}
use Rattle.pblk_laws.specs.LineBlocks.{chunk_in}
use Rattle.world_laws.specs.SameImages.{IsSameLine, HoldsTheSame}
use Rattle.world_laws.specs.Losing.{AreKeptOrLost, IsLostLine, AreLost}
use Rattle.world_laws.proofs.ImageLines.{img, same_img, same_line_units, same_width, same_block, same_chunk, same_start, same_end, same_records, holds_the_same}
use Rattle.world_laws.proofs.LosingLines.{none_begins, none_still, not_wider, sealed_line}
use Rattle.pblk_model.proofs.Parts.{all_by_get, all_get}

-- ---- a line that kept its chunks

module _ (s : Shape) (us vs : List (List Chunk)) (count : length vs ≡ length us) (l : ℕ)
    (kept : (u : ℕ) → chunk_in (img s vs) l u ≡ chunk_in (img s us) l u) where
  pub kept_line : IsSameLine (img s us) (img s vs) l
  kept_line = record {
    units = same_line_units s us vs l count kept;
    width = same_width s us vs l count kept;
    start = same_start s us vs l count kept;
    end = same_end s us vs l count kept;
    records = same_records s us vs l count kept;
  }

  pub kept_agrees : (start : StartRecord) (e : EndRecord) → IsSealed (img s us) → l < s.chunks → start_of (img s vs) l ≡ Some start
      → end_of (img s vs) l start ≡ Some e → AgreesWithLine (img s vs) l e
  kept_agrees start e whole inside started ended =
      let agrees : AgreesWithLine (img s us) l e =
      whole.ends l start e inside (sym (same_start s us vs l count kept) ∙ started) (sym (same_end s us vs l count kept start) ∙ ended) in
      record {
        closed = all_by_get (λ c. c.state ≡ Open → ⊥) (line_chunks (img s vs) l)
            (λ k c is. all_get (λ c. c.state ≡ Open → ⊥) (line_chunks (img s us) l) k c agrees.closed (sym (same_chunk s us vs l count kept k) ∙ is));
        marks = λ k b below is. agrees.marks k b below (sym (same_block s us vs l count kept (start_len s + k)) ∙ is);
      }

  pub kept_begins : (k : ℕ) (c : Chunk) (b : Block) → IsSealed (img s us) → l < s.chunks → slice_get (line_chunks (img s vs) l) k ≡ Some c
      → slice_get c.blocks 0 ≡ Some b → BeginsNarrower (width (img s vs) l) b → ⊥
  kept_begins k c b whole inside is first n =
      whole.begins l k c b inside (sym (same_chunk s us vs l count kept k) ∙ is) first (subst (λ g. BeginsNarrower g b) (same_width s us vs l count kept) n)

-- ---- all lines

module _ (lines : ℕ → Bool) (s : Shape) (us vs : List (List Chunk)) (lost : AreLost lines (img s us) (img s vs)) where
  width_by : (l : ℕ) (b : Bool) → lines l ≡ b → width (img s vs) l ≤ width (img s us) l
  width_by l true mine = not_wider s us vs lost.count l (lost.lost l mine).chunks
  width_by l false other = let same = same_width s us vs l lost.count (λ u. lost.kept l u other) in omega arith

  pub widths_fall : (l : ℕ) → width (img s vs) l ≤ width (img s us) l
  widths_fall l = width_by l (lines l) refl

  module _ (accepted : IsAccepted s) (fit : IsFit (img s us)) (whole : IsSealed (img s us)) where
    none_at : (l : ℕ) → lines l ≡ true → start_of (img s vs) l ≡ None
    none_at l mine = none_still s us vs lost.count l (lost.lost l mine).chunks accepted fit
        (sealed_line (img s us) l whole (lost.in_range l mine)) (lost.lost l mine).no_start

    starts_by : (l : ℕ) (b : Bool) → lines l ≡ b → start_of (img s vs) l ≡ start_of (img s us) l
    starts_by l true mine = none_at l mine ∙ sym (lost.lost l mine).no_start
    starts_by l false other = same_start s us vs l lost.count (λ u. lost.kept l u other)

    records_by : (l : ℕ) (b : Bool) → lines l ≡ b → line_records (img s vs) l ≡ line_records (img s us) l
    records_by l true mine = ap (records_after (img s vs) l) (none_at l mine) ∙ sym (ap (records_after (img s us) l) (lost.lost l mine).no_start)
    records_by l false other = same_records s us vs l lost.count (λ u. lost.kept l u other)

    pub holds_still : HoldsTheSame (img s us) (img s vs)
    holds_still = holds_the_same s us vs (λ l. starts_by l (lines l) refl) (λ l inside. records_by l (lines l) refl)

    agrees_by : (l : ℕ) (start : StartRecord) (e : EndRecord) (b : Bool) → lines l ≡ b → l < s.chunks → start_of (img s vs) l ≡ Some start
        → end_of (img s vs) l start ≡ Some e → AgreesWithLine (img s vs) l e
    agrees_by l start e true mine inside started ended = absurd (none-some start (sym (none_at l mine) ∙ started))
    agrees_by l start e false other inside started ended = kept_agrees s us vs lost.count l (λ u. lost.kept l u other) start e whole inside started ended

    begins_by : (l k : ℕ) (c : Chunk) (b : Block) (of : Bool) → lines l ≡ of → l < s.chunks → slice_get (line_chunks (img s vs) l) k ≡ Some c
        → slice_get c.blocks 0 ≡ Some b → BeginsNarrower (width (img s vs) l) b → ⊥
    begins_by l k c b true mine inside is first n =
        none_begins s us vs lost.count l (lost.lost l mine).chunks accepted fit (sealed_line (img s us) l whole inside)
        k c b is first n
    begins_by l k c b false other inside is first n = kept_begins s us vs lost.count l (λ u. lost.kept l u other) k c b whole inside is first n

    pub sealed_still : IsSealed (img s vs)
    sealed_still = record {
      ends = λ l start e inside started ended. agrees_by l start e (lines l) refl inside started ended;
      begins = λ l k c b inside is first n. begins_by l k c b (lines l) refl inside is first n;
    }

-- The same of any two images over one shape.

of_shape : (lines : ℕ → Bool) (i j : Image) → AreLost lines i j → AreLost lines i (img i.shape j.units)
of_shape lines i j lost = subst (AreLost lines i) (same_img j i.shape lost.shape) lost

pub lost_widths : (lines : ℕ → Bool) (i j : Image) (line : ℕ) → AreLost lines i j → width j line ≤ width i line
lost_widths lines i j line lost =
    subst (λ (x : Image). width x line ≤ width i line) (sym (same_img j i.shape lost.shape))
    (widths_fall lines i.shape i.units j.units (of_shape lines i j lost) line)

pub lost_sealed : (lines : ℕ → Bool) (i j : Image) → IsAccepted i.shape → IsFit i → IsSealed i → AreLost lines i j → IsSealed j
lost_sealed lines i j accepted fit whole lost =
    subst IsSealed (sym (same_img j i.shape lost.shape)) (sealed_still lines i.shape i.units j.units (of_shape lines i j lost) accepted fit whole)

pub lost_holds : (lines : ℕ → Bool) (i j : Image) → IsAccepted i.shape → IsFit i → IsSealed i → AreLost lines i j → HoldsTheSame i j
lost_holds lines i j accepted fit whole lost =
    subst (HoldsTheSame i) (sym (same_img j i.shape lost.shape)) (holds_still lines i.shape i.units j.units (of_shape lines i j lost) accepted fit whole)

pub line_kept : (i j : Image) (line : ℕ) → j.shape ≡ i.shape → length j.units ≡ length i.units → ((unit : ℕ) → chunk_in j line unit ≡ chunk_in i line unit)
    → IsSameLine i j line
line_kept i j line shape count kept =
    subst (λ (x : Image). IsSameLine i x line) (sym (same_img j i.shape shape)) (kept_line i.shape i.units j.units count line kept)

pub line_lost : (i j : Image) (line : ℕ) → IsAccepted i.shape → IsFit i → IsSealed i → j.shape ≡ i.shape → length j.units ≡ length i.units
    → line < i.shape.chunks → IsLostLine i j line → start_of j line ≡ None
line_lost i j line accepted fit whole shape count inside lost =
    subst (λ (x : Image). start_of x line ≡ None) (sym (same_img j i.shape shape))
    (none_still i.shape i.units j.units count line (subst (λ (x : Image). AreKeptOrLost i x line) (same_img j i.shape shape) lost.chunks) accepted fit
    (sealed_line i line whole inside) lost.no_start)

pub line_agrees : (i j : Image) (line : ℕ) (start : StartRecord) (e : EndRecord) → IsSealed i → j.shape ≡ i.shape → length j.units ≡ length i.units
    → line < i.shape.chunks → ((unit : ℕ) → chunk_in j line unit ≡ chunk_in i line unit)
    → start_of j line ≡ Some start → end_of j line start ≡ Some e → AgreesWithLine j line e
line_agrees i j line start e whole shape count inside kept started ended =
    let same : j ≡ img i.shape j.units = same_img j i.shape shape in
    subst (λ (x : Image). AgreesWithLine x line e) (sym same)
    (kept_agrees i.shape i.units j.units count line kept start e whole inside (ap (λ (x : Image). start_of x line) (sym same) ∙ started)
    (ap (λ (x : Image). end_of x line start) (sym same) ∙ ended))

abbrev Begins : Image → ℕ → ℕ → Chunk → Block → Type 0
Begins j line k c b = slice_get (line_chunks j line) k ≡ Some c → slice_get c.blocks 0 ≡ Some b → BeginsNarrower (width j line) b → ⊥

pub line_begins_kept : (i j : Image) (line k : ℕ) (c : Chunk) (b : Block) → IsSealed i → j.shape ≡ i.shape → length j.units ≡ length i.units
    → line < i.shape.chunks → ((unit : ℕ) → chunk_in j line unit ≡ chunk_in i line unit)
    → slice_get (line_chunks j line) k ≡ Some c → slice_get c.blocks 0 ≡ Some b → BeginsNarrower (width j line) b → ⊥
line_begins_kept i j line k c b whole shape count inside kept =
    subst (λ (x : Image). Begins x line k c b) (sym (same_img j i.shape shape))
    (λ is first n. kept_begins i.shape i.units j.units count line kept k c b whole inside is first n)

pub line_begins_lost : (i j : Image) (line k : ℕ) (c : Chunk) (b : Block) → IsAccepted i.shape → IsFit i → IsSealed i → j.shape ≡ i.shape
    → length j.units ≡ length i.units → line < i.shape.chunks → IsLostLine i j line
    → slice_get (line_chunks j line) k ≡ Some c → slice_get c.blocks 0 ≡ Some b → BeginsNarrower (width j line) b → ⊥
line_begins_lost i j line k c b accepted fit whole shape count inside lost =
    subst (λ (x : Image). Begins x line k c b) (sym (same_img j i.shape shape))
    (λ is first n. none_begins i.shape i.units j.units count line
    (subst (λ (x : Image). AreKeptOrLost i x line) (same_img j i.shape shape) lost.chunks) accepted fit
    (sealed_line i line whole inside) k c b is first n)

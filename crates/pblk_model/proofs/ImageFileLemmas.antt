-- Lemmas on the words of ImageFile.
use Rattle.std.proofs.Common.{List, [], ap, arith, length, length-append, map, refl, ℕ, ◌++◌, ◌+◌, ◌∷◌, ◌≡◌}
use Rattle.std.specs.List.{zip}
use Rattle.pblk_model.specs.Bytes.{le64}
use Rattle.pblk_model.specs.Chunk.{Block, Chunk}
use Rattle.pblk_model.specs.ImageFile.{Drive, StoredChunk, block_bytes, header_bytes}

pub header_length : (d : Drive) → length (header_bytes 1 d) ≡ 32
header_length d = refl

pub block_length : (size : ℕ) (b : Block) → length b.sector ≡ size → length (block_bytes b) ≡ size + 16
block_length size b is =
    let lba : length (le64 b.mark.lba) ≡ 8 = refl in
    let position : length (le64 b.mark.position) ≡ 8 = refl in
    omega (arith, length-append (b.sector ++ le64 b.mark.lba) (le64 b.mark.position), length-append b.sector (le64 b.mark.lba))

pub kept_chunks : (media : List Chunk) (wear : List ℕ) → length media ≡ length wear
    → map (λ (k : StoredChunk). k.chunk) (map (λ (p : Chunk × ℕ). record { chunk = p.0; wear = p.1 }) (zip media wear)) ≡ media
kept_chunks [] wear same = refl
kept_chunks (c ∷ media) [] same = absurd (omega arith)
kept_chunks (c ∷ media) (w ∷ wear) same = ap (λ cs. c ∷ cs) (kept_chunks media wear (omega arith))

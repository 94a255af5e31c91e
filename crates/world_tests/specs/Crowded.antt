-- A small drive of which three lines alone have chunks that aren't Offline: collection is due on it from the beginning.
use Rattle.std.specs.Prelude.{List, [], ◌∷◌, ◌++◌, replicate}
use Rattle.pblk_model.specs.Shape.{small}
use Rattle.pblk_model.specs.Chunk.{Chunk, free_chunk, offline_chunk}
use Rattle.pblk_model.specs.Image.{Image}

abbrev pub crowded_unit : List Chunk
crowded_unit = replicate 3 free_chunk ++ replicate 5 offline_chunk

abbrev pub crowded_image : Image
crowded_image = record { shape = small; units = crowded_unit ∷ crowded_unit ∷ [] }

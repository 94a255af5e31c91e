-- The words of the two records, without the zeros behind them.
use Rattle.std.specs.Prelude.{ℕ, List, [], ◌∷◌, ◌++◌, length}
use Rattle.std.specs.List.{flat_map}
use Rattle.pblk_model.specs.declared.chunk.Mark.{Mark}
use Rattle.pblk_model.specs.Bytes.{le16, le32, le64}
use Rattle.pblk_model.specs.StartRecord.{Row, StartRecord, magic}
use Rattle.pblk_model.specs.EndRecord.{EndRecord}

-- the magic number, the version and the kind
unfoldable pub kind_words : ℕ → List ℕ
kind_words kind = le32 magic ++ le16 1 ++ le16 kind

-- and the words in front of a record's rows or marks
unfoldable pub front_words : ℕ → ℕ → ℕ → List ℕ → List ℕ → List ℕ
front_words kind line width long short = kind_words kind ++ flat_map le32 (line ∷ width ∷ []) ++ flat_map le64 long ++ flat_map le32 short

unfoldable pub row_words : Row → List ℕ
row_words r = flat_map le32 (r.line ∷ 0 ∷ []) ++ flat_map le64 (r.seq ∷ r.bound ∷ [])

unfoldable pub start_header : StartRecord → List ℕ
start_header r = front_words 1 r.line r.width (r.seq ∷ r.first_seq ∷ r.front ∷ r.capacity ∷ []) (length r.rows ∷ 0 ∷ 0 ∷ 0 ∷ [])

unfoldable pub pair_words : Mark → List ℕ
pair_words m = flat_map le64 (m.lba ∷ m.position ∷ [])

unfoldable pub end_header : EndRecord → List ℕ
end_header r = front_words 2 r.line r.width (r.seq ∷ []) (length r.pairs ∷ 0 ∷ [])

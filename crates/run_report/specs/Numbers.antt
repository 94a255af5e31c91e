-- What `report` prints of a drive and of a summary of its image: one object of JSON without spaces, and a newline.
use Rattle.std.specs.Prelude.{ℕ, List, ◌++◌, codes, Option}
use Rattle.std.specs.Option.{option_map_or}
use Rattle.std.specs.Fmt.{decimal}
use Rattle.pblk_model.specs.declared.chunk.ChunkState.TheVariants as states
use Rattle.pblk_model.specs.CommandText.{chunks_in}
use Rattle.pblk_model.specs.ImageFile.{Drive}
use Rattle.pblk_model.specs.Text.{newline}
use Rattle.scan_recovery.specs.declared.sectors.Summary.{Summary}
use Rattle.scan_recovery.specs.declared.sectors.Head.{Head}

-- the head's line
abbrev pub line_text : Option Head → List ℕ
line_text head = option_map_or (λ h. decimal h.line) head (codes "null")

-- the head's sequence number, and 0 without a head
abbrev pub seq_of : Option Head → ℕ
seq_of head = option_map_or (λ h. h.seq) head 0

abbrev pub report_object : Drive → Summary → List ℕ
report_object d c = codes "{\"capacity\":" ++ decimal d.capacity
    ++ codes ",\"closed\":" ++ decimal (chunks_in states.Closed d)
    ++ codes ",\"counted\":" ++ decimal c.counted
    ++ codes ",\"end\":" ++ decimal c.end
    ++ codes ",\"free\":" ++ decimal (chunks_in states.Free d)
    ++ codes ",\"head\":" ++ line_text c.head
    ++ codes ",\"live\":" ++ decimal c.live
    ++ codes ",\"offline\":" ++ decimal (chunks_in states.Offline d)
    ++ codes ",\"open\":" ++ decimal (chunks_in states.Open d)
    ++ codes ",\"seq\":" ++ decimal (seq_of c.head)
    ++ codes "}"

abbrev pub report_text : Drive → Summary → List ℕ
report_text d c = report_object d c ++ newline

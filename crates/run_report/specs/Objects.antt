-- The object of JSON that `report` prints, as a value.
use Rattle.std.specs.Prelude.{ℕ, List, codes, Option}
use Rattle.std.specs.Option.{option_map_or}
use Rattle.serde_json.specs.Data.{Data, null, number, unsigned, object, Members, member, no_members}
use Rattle.pblk_model.specs.declared.chunk.ChunkState.TheVariants as states
use Rattle.pblk_model.specs.CommandText.{chunks_in}
use Rattle.pblk_model.specs.ImageFile.{Drive}
use Rattle.scan_recovery.specs.declared.sectors.Summary.{Summary}
use Rattle.scan_recovery.specs.declared.sectors.Head.{Head}
use Rattle.run_report.specs.Numbers.{seq_of}

abbrev pub line_data : Option Head → Data
line_data head = option_map_or (λ h. number (unsigned h.line)) head null

-- a key and its number, before these members
abbrev pub with_number : List ℕ → ℕ → Members → Members
with_number key n others = member key (number (unsigned n)) others

abbrev pub report_data : Drive → Summary → Data
report_data d c = object (with_number (codes "capacity") d.capacity
    (with_number (codes "closed") (chunks_in states.Closed d)
    (with_number (codes "counted") c.counted
    (with_number (codes "end") c.end
    (with_number (codes "free") (chunks_in states.Free d)
    (member (codes "head") (line_data c.head)
    (with_number (codes "live") c.live
    (with_number (codes "offline") (chunks_in states.Offline d)
    (with_number (codes "open") (chunks_in states.Open d)
    (with_number (codes "seq") (seq_of c.head) no_members))))))))))

use Rattle.std.proofs.Common.{◌∙◌, sym, length, arith, length-drop}
use Rattle.pblk_meta.proofs.Ends.{other_size, misspelled_header, unclear_tail, read_whole, room_for, size_is, size_isnt}
use Rattle.pblk_meta.proofs.end_record.read_record.Goals as goal
use Rattle.pblk_meta.proofs.end_record.read_record.Goals.{then-not-has_header-via-then-not-has_header, then-not-has_header-via-else-not-has_header+then-not-are_zeros}

pub returns-then-bytes-end_len-clause-read : goal.returns-then-bytes-end_len-clause-read
returns-then-bytes-end_len-clause-read c =
    let differs = size_isnt c.shape.result.now c.args.layout.now c.args.width c.end_len.result
    (length c.args.bytes.now) c.shape.ensures.shape c.end_len.ensures.len c.if-bytes-end_len.true in
    other_size c.args.layout.now c.args.line c.args.width c.args.seq c.args.bytes.now c.end_spelling_fills_its_blocks.ensures.size
    c.end_read_is_spelled.ensures.fits c.shape.ensures.accepted differs

pub returns-then-not-has_header-clause-read : goal.returns-then-not-has_header-clause-read
returns-then-not-has_header-clause-read c =
    elim c.then-not-has_header.branch [
      | then-not-has_header-via-then-not-has_header w ↦ misspelled_header c.args.layout.now c.args.line c.args.width c.args.seq c.data_len-count.result
          c.args.bytes.now c.data_len-count.ensures.len (sym c.has_header.ensures ∙ w.if-not-has_header.true)
      | then-not-has_header-via-else-not-has_header+then-not-are_zeros w ↦ unclear_tail c.args.layout.now c.args.line c.args.width c.args.seq
          c.data_len-count.result c.args.bytes.now w.after.result.now c.data_len-count.ensures.len w.after.ensures
          (sym w.are_zeros.ensures ∙ w.if-not-are_zeros.true)
    ]

pub read_pairs-requires : goal.read_pairs-requires
read_pairs-requires c =
    let room = room_for c.shape.result.now c.args.layout.now c.args.width c.end_len.result c.data_len-count.result
    (length c.args.bytes.now) c.shape.ensures.shape c.end_len.ensures.len c.end_len.ensures.holds c.data_len-count.ensures.len c.if-bytes-end_len.false in
    rw c.after-2.ensures (simp length-drop (omega (arith, room)))

pub returns-clause-read : goal.returns-clause-read
returns-clause-read c =
    let room = room_for c.shape.result.now c.args.layout.now c.args.width c.end_len.result c.data_len-count.result
    (length c.args.bytes.now) c.shape.ensures.shape c.end_len.ensures.len c.end_len.ensures.holds c.data_len-count.ensures.len c.if-bytes-end_len.false in
    let size = size_is c.shape.result.now c.args.layout.now c.args.width c.end_len.result
    (length c.args.bytes.now) c.shape.ensures.shape c.end_len.ensures.len c.if-bytes-end_len.false in
    read_whole c.args.layout.now c.args.line c.args.width c.args.seq c.data_len-count.result c.args.bytes.now c.after.result.now c.after-2.result.now
    c.in_ok-pairs.pairs c.data_len-count.ensures.len (record { each = λ i. omega (arith, c.type_inv.bytes i) }) room c.after.ensures c.after-2.ensures size
    (sym c.has_header.ensures ∙ c.if-not-has_header.false) (sym c.are_zeros.ensures ∙ c.if-not-are_zeros.false) c.in_ok-pairs.ensures

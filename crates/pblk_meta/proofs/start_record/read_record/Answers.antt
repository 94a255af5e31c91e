use Rattle.std.proofs.Common.{◌≡◌, ◌+◌, ◌*◌, ◌∙◌, None, Some, map, sym, ap, subst, refl, true, length, arith, length-drop}
use Rattle.pblk_model.specs.declared.shape.Shape.{Shape}
use Rattle.pblk_model.specs.Accepted.{IsAccepted}
use Rattle.pblk_meta.specs.Records.{row_numbers}
use Rattle.pblk_meta.specs.Headers.{header_fits, rows_read, start_read}
use Rattle.pblk_meta.proofs.Starts.{other_size, unfit_header, misspelled_header, unclear_tail, no_rows, read_whole, room_for, size_is, size_isnt}
use Rattle.pblk_meta.proofs.start_record.read_record.Goals as goal
use Rattle.pblk_meta.proofs.start_record.read_record.Goals.{then-not-fits-via-then-not-fits, then-not-fits-via-else-not-fits+then-not-is_spelled}

pub returns-then-bytes-start_len-clause-read : goal.returns-then-bytes-start_len-clause-read
returns-then-bytes-start_len-clause-read c =
    let differs = size_isnt c.shape-shape.result.now c.args.layout.now c.start_len.result
    (length c.args.bytes.now) c.shape-shape.ensures.shape c.start_len.ensures.len c.if-bytes-start_len.true in
    let accepted : IsAccepted c.shape-shape.result.now = subst IsAccepted (sym c.shape-shape.ensures.shape) c.shape-shape.ensures.accepted in
    other_size c.shape-shape.result.now c.args.line c.args.width c.args.bytes.now c.spelling_fills_its_blocks.ensures.size accepted differs
    ∙ ap (λ (x : Shape). start_read x c.args.line c.args.width c.args.bytes.now) c.shape-shape.ensures.shape

pub returns-then-not-fits-clause-read : goal.returns-then-not-fits-clause-read
returns-then-not-fits-clause-read c =
    elim c.then-not-fits.branch [
      | then-not-fits-via-then-not-fits w ↦ unfit_header c.shape-shape.result.now c.args.line c.args.width c.args.bytes.now c.in_bytes-header.result
          c.in_bytes-header.ensures (sym c.fits.ensures ∙ w.if-not-fits.true)
          ∙ ap (λ (x : Shape). start_read x c.args.line c.args.width c.args.bytes.now) c.shape-shape.ensures.shape
      | then-not-fits-via-else-not-fits+then-not-is_spelled w ↦ misspelled_header c.args.layout.now c.args.line c.args.width c.args.bytes.now
          c.in_bytes-header.result c.in_bytes-header.ensures (sym w.is_spelled.ensures ∙ w.if-not-is_spelled.true)
    ]

pub after-requires : goal.after-requires
after-requires c =
    room_for c.shape-shape.result.now c.args.layout.now c.args.line c.args.width c.start_len.result
    (length c.args.bytes.now) c.in_bytes-header.result c.shape-shape.ensures.shape c.start_len.ensures.holds c.if-bytes-start_len.false
    (sym c.fits.ensures ∙ c.if-not-fits.false)

pub read_rows-requires-clause-size : goal.read_rows-requires-clause-size
read_rows-requires-clause-size c =
    let room = room_for c.shape-shape.result.now c.args.layout.now c.args.line c.args.width c.start_len.result
    (length c.args.bytes.now) c.in_bytes-header.result c.shape-shape.ensures.shape c.start_len.ensures.holds c.if-bytes-start_len.false
    (sym c.fits.ensures ∙ c.if-not-fits.false) in
    rw c.after-2.ensures (simp length-drop (omega (arith, room)))

pub returns-then-not-are_zeros-clause-read : goal.returns-then-not-are_zeros-clause-read
returns-then-not-are_zeros-clause-read c =
    unclear_tail c.args.layout.now c.args.line c.args.width c.args.bytes.now c.after.result.now c.in_bytes-header.result
    (64 + 24 * c.in_bytes-header.result.rows) c.in_bytes-header.ensures refl c.after.ensures (sym c.are_zeros.ensures ∙ c.if-not-are_zeros.true)

pub returns-in_default-clause-read : goal.returns-in_default-clause-read
returns-in_default-clause-read c =
    let none : None ≡ rows_read c.shape-shape.result.now c.in_bytes-header.result c.in_bytes-header.result.rows c.after-2.result.now =
    rw c.in_default.is at c.in_ok-rows.ensures in
    no_rows c.shape-shape.result.now c.args.line c.args.width c.args.bytes.now c.after-2.result.now c.in_bytes-header.result c.in_bytes-header.ensures
    c.after-2.ensures none
    ∙ ap (λ (x : Shape). start_read x c.args.line c.args.width c.args.bytes.now) c.shape-shape.ensures.shape

pub returns-clause-read : goal.returns-clause-read
returns-clause-read c =
    let some : Some (map row_numbers c.in-Some.rows) ≡ rows_read c.shape-shape.result.now c.in_bytes-header.result c.in_bytes-header.result.rows
    c.after-2.result.now = rw c.in-Some.is at c.in_ok-rows.ensures in
    let fits : header_fits c.shape-shape.result.now c.args.line c.args.width c.in_bytes-header.result ≡ true = sym c.fits.ensures ∙ c.if-not-fits.false in
    let room = room_for c.shape-shape.result.now c.args.layout.now c.args.line c.args.width c.start_len.result
    (length c.args.bytes.now) c.in_bytes-header.result c.shape-shape.ensures.shape c.start_len.ensures.holds c.if-bytes-start_len.false fits in
    let size = size_is c.shape-shape.result.now c.args.layout.now c.start_len.result
    (length c.args.bytes.now) c.shape-shape.ensures.shape c.start_len.ensures.len c.if-bytes-start_len.false in
    read_whole c.shape-shape.result.now c.args.line c.args.width c.args.bytes.now c.after.result.now c.after-2.result.now c.in_bytes-header.result
    (64 + 24 * c.in_bytes-header.result.rows) c.in-Some.rows c.in_bytes-header.ensures refl room c.after.ensures c.after-2.ensures size fits
    (sym c.is_spelled.ensures ∙ c.if-not-is_spelled.false) (sym c.are_zeros.ensures ∙ c.if-not-are_zeros.false) some
    ∙ ap (λ (x : Shape). start_read x c.args.line c.args.width c.args.bytes.now) c.shape-shape.ensures.shape

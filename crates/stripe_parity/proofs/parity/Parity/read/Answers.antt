use Rattle.std.proofs.Common.{◌≡◌, List, Vec, Global, length, map, sym, subst, ◌∙◌, arith}
use Rattle.std.proofs.lemmas.Result.{err_from_is_err_and}
use Rattle.pblk_model.specs.Chunk.{Block}
use Rattle.ocssd_chunks.specs.DriveChunk.{DriveChunk}
use Rattle.stripe_parity.specs.declared.kept.KeptChunk.{KeptChunk}
use Rattle.stripe_parity.specs.ParityBytes.{AreRowsOf, parity_bytes}
use Rattle.stripe_parity.specs.ParityFile.{IsParity, ParityFile}
use Rattle.stripe_parity.proofs.FileParts.{read_parity, whole_file}
use Rattle.stripe_parity.proofs.OneParity.{never_refused, one_parity}
use Rattle.stripe_parity.proofs.parity.Parity.read.Goals as goal
use Rattle.stripe_parity.proofs.parity.Parity.read.Goals.{In_ok-rows}

pub returns-in_err-check_header-clause-wanting : goal.returns-in_err-check_header-clause-wanting
returns-in_err-check_header-clause-wanting c =
    let e = err_from_is_err_and c.from_residual.result c.from_residual.ensures.1 in
    rw (e.1, e.2) (λ p is shape same. never_refused p c.args.shape.now c.args.bytes.now c.in_err-check_header.field-0.0 is shape same
    c.in_err-check_header.ensures.refused)

pub returns-in_err-kept-clause-wanting : goal.returns-in_err-kept-clause-wanting
returns-in_err-kept-clause-wanting c =
    let r = c.from_residual-in_err-kept in
    let e = err_from_is_err_and r.result r.ensures.1 in
    rw (e.1, e.2) (λ p is shape same. never_refused p c.args.shape.now c.args.bytes.now c.in_err-kept.field-0.0 is shape same c.in_err-kept.ensures.refused)

pub returns-in_err-rows-clause-wanting : goal.returns-in_err-rows-clause-wanting
returns-in_err-rows-clause-wanting c =
    let r = c.from_residual-in_err-rows in
    let e = err_from_is_err_and r.result r.ensures.1 in
    rw (e.1, e.2) (λ p is shape same. never_refused p c.args.shape.now c.args.bytes.now c.in_err-rows.field-0.0 is shape same c.in_err-rows.ensures.refused)

-- the states and write pointers, and the exclusive ors, that were read
abbrev kept_read : In_ok-rows → List (List KeptChunk)
kept_read c = map (λ (of : Vec KeptChunk Global). of.items) c.in_ok-kept.kept.items

abbrev rows_read : In_ok-rows → List (List Block)
rows_read c = map (λ (r : DriveChunk). r.chunk.blocks) c.in_ok-rows.rows.items

are_rows : (c : In_ok-rows) → AreRowsOf c.args.shape.now c.args.bytes.now (kept_read c) c.args.shape.now.chunks (length c.args.bytes.now) (rows_read c)
are_rows c =
    subst (λ (of : List (Vec KeptChunk Global)). AreRowsOf c.args.shape.now c.args.bytes.now
    (map (λ (v : Vec KeptChunk Global). v.items) of) c.args.shape.now.chunks (length c.args.bytes.now) (rows_read c))
    c.deref.ensures.value c.in_ok-rows.ensures.whole

-- and their parity
abbrev parity_read : In_ok-rows → ParityFile
parity_read c = record { shape = c.args.shape.now; chunks = kept_read c; rows = rows_read c }

is_parity : (c : In_ok-rows) → IsParity (parity_read c)
is_parity c = read_parity c.args.shape.now c.args.bytes.now (kept_read c) (length c.args.bytes.now) c.in_ok-rows.rows.items c.requires c.in_ok-kept.ensures.kept
    (are_rows c) c.in_ok-rows.ensures.fits

spells : (c : In_ok-rows) → parity_bytes (parity_read c) ≡ c.args.bytes.now
spells c = whole_file c.args.shape.now c.args.bytes.now (kept_read c) c.args.shape.now.chunks (length c.args.bytes.now) (rows_read c) c.in_ok-kept.ensures.kept
    (are_rows c) (omega arith)

pub invariant_of-result : goal.invariant_of-result
invariant_of-result c = record { parity = is_parity (goal.at.invariant_of-result c).In_ok-rows; rows = c.in_ok-rows.ensures.fits }

pub returns-clause-form : goal.returns-clause-form
returns-clause-form c = spells (goal.at.returns-clause-form c).In_ok-rows

pub returns-clause-again : goal.returns-clause-again
returns-clause-again c = λ p is shape same.
    let read = (goal.at.returns-clause-again c).In_ok-rows in
    one_parity (parity_read read) p (is_parity read) is (sym shape) (spells read ∙ sym same)

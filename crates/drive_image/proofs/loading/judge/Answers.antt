use Rattle.std.proofs.Common.{◌++◌, sym, ◌∙◌}
use Rattle.std.proofs.lemmas.Result.{err_from_is_err_and}
use Rattle.drive_image.specs.Parts.{header_refusals, number_refusals, chunk_refusals}
use Rattle.drive_image.proofs.Refusals.{append_some, append_none}
use Rattle.drive_image.proofs.loading.judge.Goals as goal

pub returns-in_err-numbers-clause-refused : goal.returns-in_err-numbers-clause-refused
returns-in_err-numbers-clause-refused c =
    let b = c.args.bytes.now in
    let p = err_from_is_err_and c.from_residual.result c.from_residual.ensures.1 in
    rw (p.1, p.2) (sym (append_some (header_refusals b ++ number_refusals b) (chunk_refusals b) _ (sym c.in_err-numbers.ensures.refused)))

pub returns-in_err-check_chunks-clause-refused : goal.returns-in_err-check_chunks-clause-refused
returns-in_err-check_chunks-clause-refused c =
    let b = c.args.bytes.now in
    let r = c.from_residual-in_err-check_chunks in
    let p = err_from_is_err_and r.result r.ensures.1 in
    rw (p.1, p.2) (sym (append_none (header_refusals b ++ number_refusals b) (chunk_refusals b) (sym c.in_ok-numbers.ensures.refused)
    ∙ sym c.in_err-check_chunks.ensures))

pub returns-clause-refused : goal.returns-clause-refused
returns-clause-refused c =
    let b = c.args.bytes.now in
    sym (append_none (header_refusals b ++ number_refusals b) (chunk_refusals b) (sym c.in_ok-numbers.ensures.refused) ∙ sym c.in_ok-check_chunks.ensures)

pub returns-clause-numbers : goal.returns-clause-numbers
returns-clause-numbers c =
    let n = c.in_ok-numbers.ensures in
    record { geometry = n.geometry; geometry_is = n.geometry_accepted; shape = n.shape; accepted = n.accepted }

use Rattle.std.proofs.Common.{◌≡◌, ◌≢◌, ◌<◌, ◌≤◌, ◌==◌, ◌++◌, not, List, add-one, drop, get_or, length, map, sym, subst, take, take_all, ap, ap₂, ◌∙◌}
use Rattle.std.specs.List.{AllByRecursion, filter}
use Rattle.std.proofs.lemmas.Option.{slice_get-get_or}
use Rattle.pblk_model.specs.StartRecord.{Row as OlderRow}
use Rattle.pblk_meta.specs.declared.rows.Row.{Row}
use Rattle.pblk_meta.specs.Records.{row_numbers}
use Rattle.pblk_core.proofs.RemovedRow.{none_removed, one_removed}
use Rattle.pblk_core.proofs.freeing.remove_row.Goals as goal

pub returns-then-as_slice-index : goal.returns-then-as_slice-index
returns-then-as_slice-index c =
    let none : Row = record { line = 0; seq = 0; bound = 0 } in
    let inside = subst (λ (rows : List Row). c.loop-index.index < length rows) c.as_slice-index-end.ensures c.loop-index-test.true in
    let its = subst (λ (rows : List Row). (get_or rows c.loop-index.index none).line ≡ c.args.line) (c.as_slice.ensures ∙ c.loop-index.invariant.0)
    c.if-as_slice-index.true in
    ap (map row_numbers) (c.remove.ensures
    ∙ ap₂ (λ n (rows : List Row). take c.loop-index.index rows ++ drop n rows) (add-one c.loop-index.index) c.loop-index.invariant.0)
    ∙ one_removed c.args.line c.args.rows.now c.loop-index.index (get_or c.args.rows.now c.loop-index.index none) c.requires.rise
    (slice_get-get_or c.args.rows.now c.loop-index.index none inside) its

pub returns : goal.returns
returns c =
    let past = subst (λ (rows : List Row). length rows ≤ c.loop-index.index) (c.as_slice-index-end.ensures ∙ sym c.loop-index.invariant.0)
    c.loop-index-test.false in
    none_removed c.args.line c.loop-index.rows
    (subst (AllByRecursion (λ (row : Row). row.line ≢ c.args.line)) (take_all c.loop-index.index c.loop-index.rows past) c.loop-index.invariant.1)
    ∙ ap (λ (rows : List Row). filter (λ (row : OlderRow). not (row.line == c.args.line)) (map row_numbers rows)) c.loop-index.invariant.0

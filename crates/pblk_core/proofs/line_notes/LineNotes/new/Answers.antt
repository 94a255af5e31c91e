use Rattle.std.proofs.Common.{◌++◌, [], ◌∷◌, map, sym, ap, ap₂, ◌∙◌, take_all, Option}
use Rattle.std.specs.Option.{option_and_then}
use Rattle.std.proofs.lemmas.List.{map_more}
use Rattle.std.proofs.lemmas.Option.{slice_get-get_or}
use Rattle.pblk_model.specs.declared.found.LineRow.{LineRow}
use Rattle.pblk_core.specs.LineNotes.{head_start, note_found, start_found}
use Rattle.pblk_core.proofs.line_notes.LineNotes.new.Goals as goal
use Rattle.pblk_core.proofs.line_notes.LineNotes.new.Goals.{in-Some, in-None}

pub loop-line-preserved : goal.loop-line-preserved
loop-line-preserved c =
    c.in_ok-push.ensures.items ∙ ap₂ (λ rows row. rows ++ row ∷ []) c.loop-line.invariant c.found_note.ensures
    ∙ sym (map_more note_found c.args.lines.now c.loop-line.line _ c.loop-line-test.true)

pub returns-clause-rows : goal.returns-clause-rows
returns-clause-rows c = c.loop-line.invariant ∙ ap (map note_found) (take_all c.loop-line.line c.args.lines.now c.loop-line-test.false)

pub returns-clause-newest : goal.returns-clause-newest
returns-clause-newest c = elim c.match-head.branch [
  | in-Some w ↦ w.newest-is ∙ w.start_of_head-newest.ensures
      ∙ sym (ap (λ (o : Option LineRow). option_and_then (λ (row : LineRow). start_found c.args.front row.seq) o)
      (slice_get-get_or c.args.lines.now w.in-Some.line _ (c.requires.inside w.in-Some.line w.in-Some.is)))
      ∙ sym (ap (λ head. head_start c.args.lines.now head c.args.front) w.in-Some.is)
  | in-None w ↦ w.newest-is ∙ sym (ap (λ head. head_start c.args.lines.now head c.args.front) w.in-None.is)
]

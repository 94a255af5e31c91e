use Rattle.std.proofs.Common.{rules, of_calls, ◌≡◌, ◌==◌, ◌+◌, ◌-◌, ◌^◌, min, [], drop, length, ap, refl, sym, subst, ◌∙◌, tests, arith}
use Rattle.std.specs.List.{slice_split}
use Rattle.pblk_model.specs.ScriptText.{heard_after, spoken}
use Rattle.std.proofs.lemmas.Result.{err_from_is_err_and}
use Rattle.pblk_model.specs.declared.script.ScriptErr.TheVariants.{Memory}
use Rattle.run_script.specs.Reading.{BeginsWell, Refuses}
use Rattle.std.specs.Slice.Iter.{split_rest, split_done}
use Rattle.std.proofs.lemmas.Iterator.Splits.{YieldsList-from_slice_split}
use Rattle.std.proofs.lemmas.Iterator.Consumers.{YieldsList-turn, YieldsList-end}
use Rattle.std.proofs.lemmas.List.{length_push, drop_all}
use Rattle.run_script.proofs.LinesLeft.{IsAt, at_start, at_end, next_line, next_skipped, next_spoken, refused_spoken, same_Err, short_spoken}
use Rattle.run_script.proofs.read_lines.Goals as goal
use Rattle.run_script.proofs.read_lines.Goals.{then-not-is_skipped+in_ok-read_line, else-not-is_skipped}

pub loop-line-init : goal.loop-line-init
loop-line-init c = (search of_calls, tt, refl, at_start c.new-reader.result c.args.bytes.now c.new-reader.ensures.nothing)

pub loop-line-preserved : goal.loop-line-preserved
loop-line-preserved c =
    let pieces = slice_split (λ byte. byte == 10) c.args.bytes.now in
    let split = c.split-line-items.ensures in
    let same = c.into_iter-line-iterator.ensures.into_iter_gives in
    let turn = YieldsList-turn (YieldsList-from_slice_split {F = Unit {0}} {s = c.into_iter-line-iterator.result} _ (λ byte. byte == 10) c.args.bytes.now
    (ap split_rest same ∙ split.rest) (ap split_done same
    ∙ split.done) refl (λ x b q k. search (rules, tests))) c.loop-line.yielded _ c.loop-line.yielded_by _ _ c.in-Some.line c.in-Some.is c.next.ensures.steps in
    let inv = c.loop-line.invariant in
    let line = c.in-Some.line.now in
    let left = drop (length c.loop-line.yielded + 1) pieces in
    let here = subst (IsAt c.loop-line.reader c.args.bytes.now c.loop-line.number c.loop-line.offset)
    (next_line pieces (length c.loop-line.yielded) line turn) inv.3 in
    let number = c.saturating_add-number.ensures in
    let offset : c.saturating_add-offset.result ≡ min (c.loop-line.offset + length line + 1) (2 ^ 64 - 1) = omega
    (arith, c.saturating_add-offset.ensures, c.saturating_add.ensures) in
    let there : IsAt c.if-not-is_skipped.reader c.args.bytes.now c.saturating_add-number.result c.saturating_add-offset.result left =
    elim c.if-not-is_skipped.branch [
      | then-not-is_skipped+in_ok-read_line w ↦
          let spoke = w.in_ok-read_line.ensures in
          subst (λ reader. IsAt reader c.args.bytes.now c.saturating_add-number.result c.saturating_add-offset.result left) (sym w.reader-is)
          (next_spoken c.loop-line.reader w.read_line.new.self c.args.bytes.now c.loop-line.number c.loop-line.offset c.saturating_add-number.result
          c.saturating_add-offset.result line left here
          (sym c.is_skipped.ensures ∙ w.if-not-is_skipped.true) number offset spoke.capacity spoke.placed)
      | else-not-is_skipped w ↦
          subst (λ reader. IsAt reader c.args.bytes.now c.saturating_add-number.result c.saturating_add-offset.result left) (sym w.reader-is)
          (next_skipped c.loop-line.reader c.args.bytes.now c.loop-line.number c.loop-line.offset c.saturating_add-number.result c.saturating_add-offset.result
          line left here
          (sym c.is_skipped.ensures ∙ w.if-not-is_skipped.false) number offset)
    ] in
    let cap : c.if-not-is_skipped.reader.capacity ≡ c.new-reader.result.capacity = elim c.if-not-is_skipped.branch [
      | then-not-is_skipped+in_ok-read_line w ↦ let spoke = w.in_ok-read_line.ensures in ap (λ reader. reader.capacity) w.reader-is ∙ spoke.capacity ∙ inv.2
      | else-not-is_skipped w ↦ ap (λ reader. reader.capacity) w.reader-is ∙ inv.2
    ] in (
      inv.0,
      tt,
      cap,
      subst (λ k. IsAt c.if-not-is_skipped.reader c.args.bytes.now c.saturating_add-number.result c.saturating_add-offset.result (drop k pieces))
          (sym (length_push c.loop-line.yielded c.in-Some.line)) there,
    )

pub returns-clause-read : goal.returns-clause-read
returns-clause-read c =
    let pieces = slice_split (λ byte. byte == 10) c.args.bytes.now in
    let split = c.split-line-items.ensures in
    let same = c.into_iter-line-iterator.ensures.into_iter_gives in
    let end = YieldsList-end (YieldsList-from_slice_split {F = Unit {0}} {s = c.into_iter-line-iterator.result} _ (λ byte. byte == 10) c.args.bytes.now
    (ap split_rest same ∙ split.rest) (ap split_done same
    ∙ split.done) refl (λ x b q k. search (rules, tests))) c.loop-line.yielded _ c.loop-line.yielded_by _ _ c.in-None.is c.next.ensures.steps in
    let inv = c.loop-line.invariant in
    let all = at_end c.loop-line.reader c.args.bytes.now c.loop-line.number c.loop-line.offset _ inv.3
    (drop_all (length c.loop-line.yielded) pieces (omega (arith, end.1))) in
    (all.0, all.1, ap (λ capacity. heard_after capacity [] (spoken c.args.bytes.now)) (sym (inv.2 ∙ c.new-reader.ensures.capacity)) ∙ all.2)

pub returns-in_err-read_line-clause-refused : goal.returns-in_err-read_line-clause-refused
returns-in_err-read_line-clause-refused c =
    let pieces = slice_split (λ byte. byte == 10) c.args.bytes.now in
    let split = c.split-line-items.ensures in
    let same = c.into_iter-line-iterator.ensures.into_iter_gives in
    let turn = YieldsList-turn (YieldsList-from_slice_split {F = Unit {0}} {s = c.into_iter-line-iterator.result} _ (λ byte. byte == 10) c.args.bytes.now
    (ap split_rest same ∙ split.rest) (ap split_done same
    ∙ split.done) refl (λ x b q k. search (rules, tests))) c.loop-line.yielded _ c.loop-line.yielded_by _ _ c.in-Some.line c.in-Some.is c.next.ensures.steps in
    let inv = c.loop-line.invariant in
    let line = c.in-Some.line.now in
    let here = subst (IsAt c.loop-line.reader c.args.bytes.now c.loop-line.number c.loop-line.offset)
    (next_line pieces (length c.loop-line.yielded) line turn) inv.3 in
    let refused = refused_spoken c.loop-line.reader c.args.bytes.now c.loop-line.number c.loop-line.offset line
    (drop (length c.loop-line.yielded + 1) pieces) c.in_err-read_line.field-0.0 here
    (sym c.is_skipped.ensures ∙ c.if-not-is_skipped.true) (λ before read. (c.in_err-read_line.ensures.placed before read).0) in
    let refused' = subst (λ capacity. Refuses c.in_err-read_line.field-0.0 (heard_after capacity [] (spoken c.args.bytes.now))) (inv.2
    ∙ c.new-reader.ensures.capacity) refused in
    let err = err_from_is_err_and c.from_residual.result c.from_residual.ensures.1 in
    rw err.1 (subst (λ e. Refuses e (heard_after c.args.capacity [] (spoken c.args.bytes.now))) (sym err.2) refused')

pub returns-in_err-read_line-clause-memory : goal.returns-in_err-read_line-clause-memory
returns-in_err-read_line-clause-memory c = λ out.
    let pieces = slice_split (λ byte. byte == 10) c.args.bytes.now in
    let split = c.split-line-items.ensures in
    let same = c.into_iter-line-iterator.ensures.into_iter_gives in
    let turn = YieldsList-turn (YieldsList-from_slice_split {F = Unit {0}} {s = c.into_iter-line-iterator.result} _ (λ byte. byte == 10) c.args.bytes.now
    (ap split_rest same ∙ split.rest) (ap split_done same
    ∙ split.done) refl (λ x b q k. search (rules, tests))) c.loop-line.yielded _ c.loop-line.yielded_by _ _ c.in-Some.line c.in-Some.is c.next.ensures.steps in
    let inv = c.loop-line.invariant in
    let line = c.in-Some.line.now in
    let here = subst (IsAt c.loop-line.reader c.args.bytes.now c.loop-line.number c.loop-line.offset)
    (next_line pieces (length c.loop-line.yielded) line turn) inv.3 in
    let err = err_from_is_err_and c.from_residual.result c.from_residual.ensures.1 in
    let memory : c.in_err-read_line.field-0.0 ≡ Memory = sym err.2 ∙ same_Err c.from_residual.result err.0 Memory err.1 out in
    subst (λ capacity. BeginsWell capacity c.args.bytes.now) (inv.2 ∙ c.new-reader.ensures.capacity)
    (short_spoken c.loop-line.reader c.args.bytes.now c.loop-line.number c.loop-line.offset line (drop (length c.loop-line.yielded + 1) pieces) here
    (sym c.is_skipped.ensures ∙ c.if-not-is_skipped.true) (λ before read. (c.in_err-read_line.ensures.placed before read).1 memory))

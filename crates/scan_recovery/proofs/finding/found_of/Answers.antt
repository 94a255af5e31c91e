use Rattle.std.proofs.Common.{length, ap, sym, subst, ◌∙◌, arith}
use Rattle.std.specs.Option.{option_map, option_map_or}
use Rattle.pblk_model.specs.declared.shape.Shape.{Shape}
use Rattle.pblk_model.specs.Accepted.{IsAccepted}
use Rattle.scan_recovery.proofs.Results.{finished, found_rows, found_strays, found_winners, within_here}
use Rattle.scan_recovery.proofs.finding.found_of.Goals as goal

pub finish-requires-clause-within : goal.finish-requires-clause-within
finish-requires-clause-within c =
    within_here c.args.shape.now.chunks c.args.survey.count.late.items c.args.survey.count.tally.tops.items c.requires.tops c.requires.within

pub strays_in-requires : goal.strays_in-requires
strays_in-requires c = omega (
  arith,
  ap length c.deref-2.ensures.value,
  c.requires.lines,
  c.requires.accepted.drive.lines_high,
)

pub line_rows-requires-clause-rows : goal.line_rows-requires-clause-rows
line_rows-requires-clause-rows c = ap length c.deref-4.ensures.value ∙ c.requires.rows ∙ sym c.requires.lines ∙ sym (ap length c.deref-3.ensures.value)

pub line_rows-requires-clause-tops : goal.line_rows-requires-clause-tops
line_rows-requires-clause-tops c =
    ap length c.deref-5.ensures.value ∙ c.in_ok-counted.ensures.tops ∙ c.requires.tops ∙ sym c.requires.lines ∙ sym (ap length c.deref-3.ensures.value)

pub returns : goal.returns
returns c = λ i fit shape mount S chunks.
    let accepted = subst IsAccepted (sym shape) c.requires.accepted in
    let n-is = ap (λ (s : Shape). s.chunks) (sym shape) in
    let is = finished i c.args.shape.now.chunks c.args.mount.now c.args.survey.count c.in_ok-counted.counted accepted fit mount n-is S.count
    c.in_ok-counted.ensures.counted in
    record {
      winners_are = c.from_vec.ensures ∙ found_winners i c.in_ok-counted.counted c.deref.result.now c.in_ok-winners.winners.items is c.deref.ensures.value
          c.in_ok-winners.ensures;
      head_is = c.line_of.ensures ∙ ap (option_map (λ h. h.line)) mount.head_is;
      front_is = c.front_of.ensures ∙ ap (λ o. option_map_or (λ h. h.front) o 0) mount.head_is;
      end_is = is.end;
      strays_are = c.from_vec-2.ensures ∙ found_strays i c.args.shape.now.chunks c.args.survey.lines.items c.deref-2.result.now
          c.in_ok-strays.strays.items S.lines n-is c.deref-2.ensures.value c.in_ok-strays.ensures;
      chunks_are = c.from_vec-3.ensures ∙ chunks;
      lines_are = c.from_vec-4.ensures ∙ found_rows i c.args.shape.now.chunks c.args.mount.now c.in_ok-counted.counted c.args.survey.lines.items
          c.deref-3.result.now c.deref-4.result.now c.deref-5.result.now c.in_ok-lines.lines.items mount S.lines n-is is c.deref-3.ensures.value
          c.deref-4.ensures.value c.deref-5.ensures.value c.in_ok-lines.ensures;
    }

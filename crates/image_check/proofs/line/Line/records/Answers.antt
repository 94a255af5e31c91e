use Rattle.std.proofs.Common.{refl, sym, ap, ◌∙◌, arith}
use Rattle.std.specs.Option.{option_map}
use Rattle.pblk_model.specs.Records.{record_at}
use Rattle.pblk_meta.specs.Records.{start_numbers}
use Rattle.image_check.proofs.RunLemmas.{all_records, last_none, last_some}
use Rattle.image_check.proofs.line.Line.records.Goals as goal
use Rattle.image_check.proofs.line.Line.records.Goals.{in-Some-record+in_ok-push, in_default-record}

pub loop-at-init : goal.loop-at-init
loop-at-init c = record {
  borne = c.new-records.ensures.items;
  ended = c.in_ok-end.ensures (start_numbers c.in-Some.start) refl;
}

pub loop-at-preserved : goal.loop-at-preserved
loop-at-preserved c =
    let f = record_at c.args.self.now.image c.args.self.now.number (start_numbers c.in-Some.start) in
    let here = c.record.ensures (start_numbers c.in-Some.start) refl c.loop-at.invariant.ended in
    elim c.match-record.branch [
      | in-Some-record+in_ok-push w ↦ rw w.records-is (record {
        borne = last_some f c.loop-at.at c.loop-at.records.items w.push.new.self.items w.in-Some-record.record (sym w.in-Some-record.is ∙ here)
            w.in_ok-push.ensures.items c.loop-at.invariant.borne;
        ended = c.loop-at.invariant.ended;
      })
      | in_default-record w ↦ rw w.records-is (record {
        borne = last_none f c.loop-at.at c.loop-at.records.items (sym w.in_default-record.is ∙ here) c.loop-at.invariant.borne;
        ended = c.loop-at.invariant.ended;
      })
    ]

pub returns : goal.returns
returns c = all_records c.args.self.now.image c.args.self.now.number c.loop-at.at (start_numbers c.in-Some.start) c.loop-at.records.items
    (sym (ap (option_map start_numbers) c.in-Some.is) ∙ c.in_ok-start.ensures)
    (omega (arith, c.loop-at.auto.at-end, c.loop-at-test.false, c.len-at-end.ensures.count)) c.loop-at.invariant.borne

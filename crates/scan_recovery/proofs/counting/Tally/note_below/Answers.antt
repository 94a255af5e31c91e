use Rattle.std.proofs.Common.{◌++◌, length, take, refl, sym, subst, ◌∙◌, append-nil, append_assoc}
use Rattle.std.specs.List.{filter}
use Rattle.std.proofs.lemmas.Bool.{lt-ltb, le-ltb}
use Rattle.scan_recovery.specs.Counted.{is_below}
use Rattle.scan_recovery.specs.Tally.{IsTally}
use Rattle.scan_recovery.specs.Traces.{bares}
use Rattle.scan_recovery.proofs.Tallies.{counted_yes, counted_no, line_below}
use Rattle.scan_recovery.proofs.counting.Tally.note_below.Goals as goal
use Rattle.scan_recovery.proofs.counting.Tally.note_below.Goals.{then-t-end, else-t-end}
use Rattle.pblk_model.proofs.Parts.{take_all}

pub loop-t-init : goal.loop-t-init
loop-t-init c = record {
  tally = λ sectors lines rs h. subst (λ xs. IsTally sectors lines xs c.args.self.now) (sym (append-nil rs)) h;
  tops = refl;
}

pub note-requires-clause-line : goal.note-requires-clause-line
note-requires-clause-line c =
    line_below (length c.loop-t.self.tops.items) (length c.args.self.now.tops.items) c.args.traces.now c.loop-t.t-index _ c.requires.within
    c.loop-t-test.true c.loop-t.invariant.tops

pub loop-t-preserved : goal.loop-t-preserved
loop-t-preserved c =
    let p = is_below c.args.end in
    let done = filter p (bares (take c.loop-t.t-index c.args.traces.now)) in
    elim c.if-t-end.branch [
      | then-t-end w ↦ rw w.self-is (record {
        tally = λ sectors lines rs first. rw (counted_yes p c.args.traces.now c.loop-t.t-index _ c.loop-t-test.true (lt-ltb _ c.args.end w.if-t-end.true))
            (subst (λ xs. IsTally sectors lines xs w.note.new.self) (append_assoc rs done _)
            (w.note.ensures.tally sectors lines (rs ++ done) (c.loop-t.invariant.tally sectors lines rs first)));
        tops = w.note.ensures.tops ∙ c.loop-t.invariant.tops;
      })
      | else-t-end w ↦ rw w.self-is (record {
        tally = λ sectors lines rs first. rw (counted_no p c.args.traces.now c.loop-t.t-index _ c.loop-t-test.true (le-ltb _ c.args.end w.if-t-end.false))
            (c.loop-t.invariant.tally sectors lines rs first);
        tops = c.loop-t.invariant.tops;
      })
    ]

pub returns-clause-tally : goal.returns-clause-tally
returns-clause-tally c = λ sectors lines rs first.
    subst (λ ts. IsTally sectors lines (rs ++ filter (is_below c.args.end) (bares ts)) c.loop-t.self)
    (take_all c.args.traces.now c.loop-t.t-index c.loop-t-test.false) (c.loop-t.invariant.tally sectors lines rs first)

pub returns-clause-tops : goal.returns-clause-tops
returns-clause-tops c = c.loop-t.invariant.tops

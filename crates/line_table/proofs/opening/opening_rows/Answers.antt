use Rattle.std.proofs.Common.{◌≡◌, length, List, slice_get, ap, sym, subst, ◌∙◌, arith}
use Rattle.std.proofs.lemmas.Option.{slice_get_within}
use Rattle.pblk_model.specs.declared.found.Winner.{Winner}
use Rattle.pblk_model.specs.Accepted.{IsAccepted}
use Rattle.line_table.specs.declared.row.Row.{Row}
use Rattle.line_table.specs.Counting.{AreOpened, AreCounted, AreOpening}
use Rattle.line_table.proofs.Counts.{few_winners}
use Rattle.line_table.proofs.Sizes.{capacity_is_small}
use Rattle.line_table.proofs.Opened.{opening_from, taken_whole}
use Rattle.line_table.proofs.opening.opening_rows.Goals as goal

pub count_live-requires-clause-lines : goal.count_live-requires-clause-lines
count_live-requires-clause-lines c = λ k w h.
    let there = c.requires.fit.winners k w (ap (λ (ws : List Winner). slice_get ws k) (sym c.as_slice.ensures) ∙ h) in
    let inside = slice_get_within c.args.found.now.lines w.line there.row there.row_is in
    let len : length c.deref_mut.result.now ≡ length c.in_ok-rows.rows.items = ap length c.deref_mut.ensures.value in
    let are : AreOpened c.args.layout.now c.args.found.now c.in_ok-rows.rows.items = c.in_ok-rows.ensures.rows in
    omega (arith, inside, len, are.lines)

pub count_live-requires-clause-none : goal.count_live-requires-clause-none
count_live-requires-clause-none c = λ n row h.
    let are : AreOpened c.args.layout.now c.args.found.now c.in_ok-rows.rows.items = c.in_ok-rows.ensures.rows in
    (are.each n row (ap (λ (xs : List Row). slice_get xs n) (sym c.deref_mut.ensures.value) ∙ h)).live

pub count_live-requires-clause-few : goal.count_live-requires-clause-few
count_live-requires-clause-few c =
    let few = few_winners c.args.found.now.winners c.args.layout.now.capacity c.requires.fit.winners_rise (λ k w h. (c.requires.fit.winners k w h).sector) in
    omega (arith, few, ap length c.as_slice.ensures, capacity_is_small c.args.layout.now c.uncounted_rows.ensures.accepted)

pub returns : goal.returns
returns c =
    let are : AreOpened c.args.layout.now c.args.found.now c.in_ok-rows.rows.items = c.in_ok-rows.ensures.rows in
    let from : AreOpened c.args.layout.now c.args.found.now c.deref_mut.result.now =
    subst (AreOpened c.args.layout.now c.args.found.now) (sym c.deref_mut.ensures.value) are in
    let counted : AreCounted c.args.found.now.winners c.deref_mut.result.now c.count_live.new.rows =
    subst (λ (ws : List Winner). AreCounted ws c.deref_mut.result.now c.count_live.new.rows) c.as_slice.ensures c.count_live.ensures in
    let accepted : IsAccepted c.args.layout.now = c.uncounted_rows.ensures.accepted in
    let new : AreOpening c.args.layout.now c.args.found.now c.count_live.new.rows =
    opening_from c.args.layout.now c.args.found.now c.deref_mut.result.now c.count_live.new.rows c.requires.fit.lines accepted.drive.lines_high from counted in
    let len : c.in_ok-rows.rows.len ≡ length c.count_live.new.rows =
    omega (arith, counted.lines, ap length c.deref_mut.ensures.value, c.in_ok-rows.rows.ok.0) in
    subst (AreOpening c.args.layout.now c.args.found.now) (sym (taken_whole c.in_ok-rows.rows.len c.count_live.new.rows c.in_ok-rows.rows.items len)) new

use Rattle.std.proofs.Common.{◌≡◌, ◌+◌, ◌<◌, ◌∷◌, length, drop, get_or, true, sym, ap, ◌∙◌, arith}
use Rattle.write_window.specs.Entries.{has_landed, landed_first, users_in}
use Rattle.write_window.proofs.Runs.{run_goes_on, one_at_most}
use Rattle.write_window.proofs.run.extended.Goals as goal

pub loop-index-preserved : goal.loop-index-preserved
loop-index-preserved c =
    let xs = c.args.entries.now.items in
    let h = c.index-held.result.now in
    let is = c.loop-index.invariant in
    let inside : c.loop-index.run.count < length xs = omega (arith, is.place, c.loop-index-test.true, c.len-index-end.ensures, c.args.entries.now.ok.0) in
    let here : h ≡ get_or xs c.loop-index.run.count h = c.index-held.ensures ∙ ap (λ k. get_or xs k h) (sym is.place) in
    let lands : has_landed h.progress ≡ true = sym c.has_landed.ensures ∙ c.if-not-has_landed.false in
    let more : landed_first (drop c.loop-index.run.count xs) ≡ h ∷ landed_first (drop (c.loop-index.run.count + 1) xs) =
    run_goes_on xs c.loop-index.run.count h inside here lands in
    record {
      place = omega (arith, is.place);
      inside = omega (arith, inside);
      few = omega (arith, is.few, c.user_count.ensures, one_at_most h.entry.class);
      counted = omega (arith, is.counted, ap length more);
      users_counted = omega (arith, is.users_counted, ap users_in more, c.user_count.ensures);
    }

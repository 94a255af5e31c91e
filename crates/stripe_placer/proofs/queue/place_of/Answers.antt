use Rattle.std.proofs.Common.{◌≡◌, ◌-◌, ◌<◌, length, get_or, ap, ◌∙◌, arith}
use Rattle.std.proofs.lemmas.List.{get_or_read}
use Rattle.stripe_placer.proofs.Rising.{IsPlace, place_below, place_above, place_rises}
use Rattle.stripe_placer.proofs.queue.place_of.Goals as goal

pub returns-else-index-position : goal.returns-else-index-position
returns-else-index-position c =
    let xs = c.args.queue.now.items in
    let i = c.loop-index.index in
    let before : i - 1 < length xs = omega (arith, c.loop-index.invariant.inside, c.loop-index-test.true) in
    let here : c.index.result.now ≡ get_or xs (i - 1) 0 = get_or_read xs (i - 1) c.index.result.now before c.index.ensures 0 in
    let at : IsPlace xs i c.args.position = record {
      inside = c.loop-index.invariant.inside;
      below = λ k e.
          let last : i - 1 ≡ k = omega (arith, e) in
          let there : c.index.result.now ≡ get_or xs k 0 = here ∙ ap (λ n. get_or xs n 0) last in
          omega (arith, there, c.if-index-position.false);
      above = c.loop-index.invariant.above;
    } in
    record {
      inside = at.inside;
      below = place_below xs i c.args.position c.requires.rise at;
      above = place_above xs i c.args.position c.requires.rise at;
      rise = place_rises xs i c.args.position c.requires.rise at;
    }

pub returns-after-loop-index : goal.returns-after-loop-index
returns-after-loop-index c =
    let xs = c.args.queue.now.items in
    let i = c.loop-index.index in
    let at : IsPlace xs i c.args.position = record {
      inside = c.loop-index.invariant.inside;
      below = λ k e. absurd (omega (arith, e, c.loop-index-test.false));
      above = c.loop-index.invariant.above;
    } in
    record {
      inside = at.inside;
      below = place_below xs i c.args.position c.requires.rise at;
      above = place_above xs i c.args.position c.requires.rise at;
      rise = place_rises xs i c.args.position c.requires.rise at;
    }

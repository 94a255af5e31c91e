use Rattle.std.proofs.Common.{◌<◌, ◌≡◌, ◌+◌, ◌*◌, length, None, ◌∙◌, arith, rules}
use Rattle.std.proofs.lemmas.List.{length-set}
use Rattle.std.specs.List.{slice_index_or}
use Rattle.victim_index.proofs.Trees.{settled, stands}
use Rattle.victim_index.specs.Tournament.{IsWinner, node}
use Rattle.victim_index.proofs.tournament.settle.Goals as goal

pub returns-then-eq-clause-won : goal.returns-then-eq-clause-won
returns-then-eq-clause-won c =
    let rows = c.args.rows.now in
    let ws = c.loop-at.winners in
    let at = c.loop-at.at in
    let w = c.winner-best.result in
    let same : w ≡ slice_index_or ws at None = search rules in
    let won : IsWinner (node rows ws (2 * at)) (node rows ws (2 * at + 1)) w = rw (← c.named.ensures, ← c.named-in-loop-at.ensures) c.winner-best.ensures in
    stands rows ws at w same won c.loop-at.invariant.2

pub loop-at-preserved : goal.loop-at-preserved
loop-at-preserved c =
    let rows = c.args.rows.now in
    let ws = c.loop-at.winners in
    let at = c.loop-at.at in
    let w = c.winner-best.result in
    let low : at < length ws = omega (arith, c.loop-at.invariant.0, c.loop-at.invariant.1) in
    let won : IsWinner (node rows ws (2 * at)) (node rows ws (2 * at + 1)) w = rw (← c.named.ensures, ← c.named-in-loop-at.ensures) c.winner-best.ensures in
    (omega (arith, c.loop-at.invariant.0), length-set ws at w ∙ c.loop-at.invariant.1, settled rows ws at w (omega arith) low won c.loop-at.invariant.2)

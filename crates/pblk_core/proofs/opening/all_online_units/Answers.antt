use Rattle.std.proofs.Common.{◌≡◌, ap, ap₂, sym, ◌∙◌, [], ◌∷◌, ◌++◌, arith}
use Rattle.std.proofs.lemmas.List.FromFn.{map-range_with_len_more}
use Rattle.pblk_model.specs.Shape.{units}
use Rattle.core_laws.specs.OpenedLines.{bits_of}
use Rattle.core_laws.proofs.UnitBits.{bits_again}
use Rattle.core_laws.specs.OnlineUnits.{online_bits}
use Rattle.pblk_core.proofs.opening.all_online_units.Goals as goal

pub loop-line-preserved : goal.loop-line-preserved
loop-line-preserved c =
    let next : c.online_units.result ≡ online_bits c.args.layout.now c.args.found.now c.loop-line.line =
    sym (bits_again c.online_units.result (units c.args.layout.now) c.requires.accepted.drive.few_units c.online_units.ensures.below)
    ∙ ap bits_of c.online_units.ensures.units in
    c.in_ok-push.ensures.items ∙ ap₂ (λ xs x. xs ++ x ∷ []) c.loop-line.invariant next
    ∙ sym (map-range_with_len_more (online_bits c.args.layout.now c.args.found.now) 0 c.loop-line.line c.loop-line.line (omega arith))

use Rattle.pblk_model.specs.CommandText.{geometry_text}
use Rattle.pblk_cli.specs.Commands.{SameNumbers}
use Rattle.pblk_cli.proofs.laws.a_run_keeps_the_numbers.Goals as goal

pub returns : goal.returns
returns c = λ found left options commands text units run.
    let n : SameNumbers found left = run.numbers in
    λ j. geometry_text (record { geometry = n.geometry j; sector = n.sector j; capacity = n.capacity j; ring = n.ring j; units = units })

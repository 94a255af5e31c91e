use Rattle.pblk_cli.proofs.Refusing.{refuses}
use Rattle.pblk_cli.proofs.input.drive_of.Goals as goal

pub returns-in-Err-clause-refused : goal.returns-in-Err-clause-refused
returns-in-Err-clause-refused c =
    let r = c.from_image in
    refuses c.args.bytes.items r.result c.in-Err.e c.in-Err.is r.ensures.refused r.ensures.taken c.refusal_of.result
    (record { memory = c.refusal_of.ensures.memory; image = c.refusal_of.ensures.image })

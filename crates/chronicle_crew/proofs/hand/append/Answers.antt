use Rattle.std.proofs.Common.{sym, subst}
use Rattle.pblk_world.specs.Events.{Maker}
use Rattle.pblk_world.specs.Legal.{IsAllowed}
use Rattle.chronicle.specs.Views.{Past}
use Rattle.chronicle.specs.Prefixes.{logs_of}
use Rattle.chronicle_crew.specs.Ready.{stopped_fetch}
use Rattle.chronicle_crew.proofs.Fetches.{fetch_allowed}
use Rattle.chronicle_crew.proofs.hand.append.Goals as goal

pub append-requires-clause-allowed : goal.append-requires-clause-allowed
append-requires-clause-allowed c =
    let author = c.args.hand.now.author in
    let hand = c.requires.hand in
    let maker : Maker = record { worker = c.args.hand.now.worker; made = c.from-made.result } in
    subst (λ (past : Past). IsAllowed past.image author.number (stopped_fetch maker) (logs_of author.known)) (sym hand.past)
    (fetch_allowed maker author.number (logs_of author.known) hand.units hand.within)

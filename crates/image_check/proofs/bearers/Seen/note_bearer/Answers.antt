use Rattle.pblk_meta.specs.Records.{start_numbers}
use Rattle.image_check.proofs.BearerLemmas.{seen_hit}
use Rattle.image_check.proofs.bearers.Seen.note_bearer.Goals as goal

pub returns-then-place-len-clause-bearers : goal.returns-then-place-len-clause-bearers
returns-then-place-len-clause-bearers c = λ rs table. seen_hit (start_numbers c.args.newest.now) c.args.bears.now c.args.record.now rs
    c.args.self.now.bearers.items table c.in-Some.place c.in-Some.ensures.some

use Rattle.std.proofs.Common.{arith}
use Rattle.std.proofs.lemmas.Str.Pattern.{split_parts}
use Rattle.command_words.proofs.ItemWords.{lacks_by_place}
use Rattle.command_words.proofs.StopWords.{are_three, not_one, not_two}
use Rattle.command_words.proofs.fuse.in_three.Goals as goal

pub returns-in_err-first-clause-none : goal.returns-in_err-first-clause-none
returns-in_err-first-clause-none c = rw c.from_residual.ensures (λ a b d h.
    let parts = split_parts 58 c.args.word.now c.split_once.result c.split_once.ensures.cases (omega arith) in
    not_one a b d c.args.word.now (lacks_by_place 58 c.args.word.now (rw c.in_err-first.was at parts)) h)

pub returns-in_err-second-clause-none : goal.returns-in_err-second-clause-none
returns-in_err-second-clause-none c = rw c.from_residual-in_err-second.ensures (λ a b d h.
    let parts = split_parts 58 c.args.word.now c.split_once.result c.split_once.ensures.cases (omega arith) in
    let at = rw c.in_ok-first.was at parts in
    let more = split_parts 58 c.in_ok-first.rest.now c.split_once-2.result c.split_once-2.ensures.cases (omega arith) in
    not_two a b d c.args.word.now c.in_ok-first.first.now c.in_ok-first.rest.now at.0 (lacks_by_place 58 c.in_ok-first.first.now at.1)
    (lacks_by_place 58 c.in_ok-first.rest.now (rw c.in_err-second.was at more)) h)

pub returns-clause-found : goal.returns-clause-found
returns-clause-found c =
    let parts = split_parts 58 c.args.word.now c.split_once.result c.split_once.ensures.cases (omega arith) in
    let at = rw c.in_ok-first.was at parts in
    let more = split_parts 58 c.in_ok-first.rest.now c.split_once-2.result c.split_once-2.ensures.cases (omega arith) in
    let then = rw c.in_ok-second.was at more in
    are_three c.in_ok-first.first.now c.in_ok-second.second.now c.in_ok-second.third.now c.in_ok-first.rest.now c.args.word.now at.0
    (lacks_by_place 58 c.in_ok-first.first.now at.1) then.0 (lacks_by_place 58 c.in_ok-second.second.now then.1)

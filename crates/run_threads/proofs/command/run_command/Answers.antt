use Rattle.run_threads.specs.Names.{told_by}
use Rattle.run_threads.proofs.command.run_command.Goals as goal

pub returns-in-Write-clause-answer : goal.returns-in-Write-clause-answer
returns-in-Write-clause-answer g c = λ at all. rw c.in-Write.is (c.write.ensures.answer (told_by c.args.board.now.names at))

pub returns-in-Read-clause-answer : goal.returns-in-Read-clause-answer
returns-in-Read-clause-answer g c = λ at all. rw c.in-Read.is (c.read.ensures.answer (told_by c.args.board.now.names at))

pub returns-in-Flush-clause-answer : goal.returns-in-Flush-clause-answer
returns-in-Flush-clause-answer g c = λ at all. rw c.in-Flush.is (c.flush.ensures (told_by c.args.board.now.names at))

pub returns-in-Post-clause-answer : goal.returns-in-Post-clause-answer
returns-in-Post-clause-answer g c = λ at all. rw c.in-Post.is (c.post.ensures.answer at all)

pub returns-in-Await-clause-answer : goal.returns-in-Await-clause-answer
returns-in-Await-clause-answer g c = λ at all. rw c.in-Await.is (c.hear.ensures.answer at all)

pub returns-in-Write-clause-capacity : goal.returns-in-Write-clause-capacity
returns-in-Write-clause-capacity g c = (c.write.ensures.answer (λ name. 0)).target.capacity

pub returns-in-Read-clause-capacity : goal.returns-in-Read-clause-capacity
returns-in-Read-clause-capacity g c = (c.read.ensures.answer (λ name. 0)).target.capacity

pub returns-in-Flush-clause-capacity : goal.returns-in-Flush-clause-capacity
returns-in-Flush-clause-capacity g c = (c.flush.ensures (λ name. 0)).target.capacity

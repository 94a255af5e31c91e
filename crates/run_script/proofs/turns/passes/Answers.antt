use Rattle.std.proofs.Common.{ap, ◌∙◌, ◌&&◌, not}
use Rattle.std.specs.Str.{bytes_eq}
use Rattle.run_script.specs.Names.{holds}
use Rattle.run_script.proofs.RunOn.{passes_post, passes_await, passes_plain}
use Rattle.run_script.proofs.turns.passes.Goals as goal

pub returns-in-Post : goal.returns-in-Post
returns-in-Post c =
    passes_post c.args.names.now c.remove.new.self c.args.command.now c.in-Post.posted c.in-Post.is (λ other. c.remove.ensures other
    ∙ ap (λ name. not (bytes_eq name other) && holds c.args.names.now other) c.as_str.ensures)

pub returns-in-Await : goal.returns-in-Await
returns-in-Await c = passes_await c.args.names.now c.args.command.now c.in-Await.awaited _ c.in-Await.is (ap not (c.contains.ensures
    ∙ ap (holds c.args.names.now) c.as_str-in-Await.ensures))

pub returns-in-Write : goal.returns-in-Write
returns-in-Write c = passes_plain c.args.names.now c.args.command.now c.in-Write.is

pub returns-in-Write-2 : goal.returns-in-Write-2
returns-in-Write-2 c = passes_plain c.args.names.now c.args.command.now c.in-Write.is

pub returns-in-Write-3 : goal.returns-in-Write-3
returns-in-Write-3 c = passes_plain c.args.names.now c.args.command.now c.in-Write.is

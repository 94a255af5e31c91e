use Rattle.std.proofs.Common.{◌∙◌}
use Rattle.run_report.proofs.Loops.{many_at, threads_step, threads_end}
use Rattle.run_report.proofs.rows.add_threads.Goals as goal

pub bounds-script-thread : goal.bounds-script-thread
bounds-script-thread c = (many_at c.args.script.now c.args.threads.now c.loop-thread.thread c.requires c.loop-thread-test.true).0

pub add_thread-requires : goal.add_thread-requires
add_thread-requires c =
    (many_at c.args.script.now c.args.threads.now c.loop-thread.thread c.requires c.loop-thread-test.true).1 _ _ _ _
    (c.as_slice-commands.ensures ∙ c.index-script-thread.is) (c.as_slice.ensures ∙ c.index-threads-thread.is)

pub loop-thread-preserved : goal.loop-thread-preserved
loop-thread-preserved c =
    threads_step _ _ _ c.loop-thread.thread _ _ _ _ c.args.script.now c.args.threads.now c.loop-thread-test.true
    (many_at c.args.script.now c.args.threads.now c.loop-thread.thread c.requires c.loop-thread-test.true).0
    (c.as_slice-commands.ensures ∙ c.index-script-thread.is) (c.as_slice.ensures ∙ c.index-threads-thread.is) c.loop-thread.invariant c.in_ok-add_thread.ensures

pub returns : goal.returns
returns c = threads_end c.loop-thread.rows.items _ c.loop-thread.thread c.args.script.now c.args.threads.now c.loop-thread-test.false c.loop-thread.invariant

use Rattle.std.proofs.Common.{◌≡◌, ◌+◌, ◌∙◌, take, drop, List, Some, slice_get, ap, subst, sym}
use Rattle.pblk_model.specs.declared.script.Command.{Command}
use Rattle.run_threads.specs.Names.{AreNames, PostOnce, all_of}
use Rattle.run_threads.proofs.Scripts.{all_more, all_split, item_at}
use Rattle.run_threads.proofs.names.Names.new.Goals as goal

pub loop-thread-preserved : goal.loop-thread-preserved
loop-thread-preserved c =
    let l = c.loop-thread in
    let items = c.as_slice-thread-items.result.now in
    let k = l.thread-index in
    let cs = c.as_slice.result.now in
    let at : slice_get items k ≡ Some cs =
    item_at items k c.thread-item.result c.loop-thread-test.true c.thread-item.is ∙ ap Some (sym c.as_slice.ensures) in
    let once = subst PostOnce (all_split items k cs at)
    (subst (λ (script : List (List Command)). PostOnce (all_of script)) (sym c.as_slice-thread-items.ensures) c.requires.once) in
    subst (AreNames c.prepare.new.self) (sym (all_more items k cs at))
    (c.in_ok-prepare.ensures (all_of (take k items)) (all_of (drop (k + 1) items)) l.invariant once)

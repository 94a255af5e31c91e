use Rattle.std.proofs.Common.{◌≡◌, ◌+◌, ◌≤◌, ◌++◌, ◌∷◌, [], List, take, slice_get, Some, ap, subst, sym, ◌∙◌}
use Rattle.atomic_table.specs.declared.shared.Seat.{Seat}
use Rattle.pblk_model.specs.declared.script.Command.{Command}
use Rattle.run_threads.specs.Desk.{AreReady}
use Rattle.run_threads.specs.Names.{all_of, words_after}
use Rattle.run_threads.specs.Views.{View}
use Rattle.run_threads.proofs.Placed.{take_next}
use Rattle.run_threads.proofs.Scripts.{enough, is_ready, item_at, next_after, post_once, ready_last}
use Rattle.run_threads.proofs.runner.Stage.new.Goals as goal

pub new-requires : goal.new-requires
new-requires c = record { once = post_once c.args.script.now c.requires.fits.1.once }

pub seat_for-share-requires-clause-past : goal.seat_for-share-requires-clause-past
seat_for-share-requires-clause-past c =
    let script = c.args.script.now in
    let items = c.as_slice-thread-items.result.now in
    let same : items ≡ script = c.as_slice-thread-items.ensures in
    let l = c.loop-thread in
    let k = l.thread-index in
    let board = c.in_ok-board.ensures in
    let v = l.seat.me.0 in
    let cs = c.as_slice-commands.result.now in
    let at : slice_get script k ≡ Some cs =
    ap (λ (xs : List (List Command)). slice_get xs k) (sym same) ∙ item_at items k c.thread-item.result c.loop-thread-test.true c.thread-item.is
    ∙ ap Some (sym c.as_slice-commands.ensures) in
    let next : v.next ≡ words_after 0 (all_of (take k script)) =
    ap (λ (u : View). u.next) l.invariant.view ∙ ap (λ (xs : List (List Command)). words_after 0 (all_of (take k xs))) same in
    subst (λ n. words_after v.next cs ≤ n) (sym (ap (λ (u : View). u.past) l.invariant.view))
    (enough c.in_ok-board.board c.requires.fits.0 script c.requires.fits.1 board.names board.words k cs v at next)

pub loop-thread-preserved : goal.loop-thread-preserved
loop-thread-preserved c =
    let script = c.args.script.now in
    let items = c.as_slice-thread-items.result.now in
    let same : items ≡ script = c.as_slice-thread-items.ensures in
    let l = c.loop-thread in
    let k = l.thread-index in
    let board = c.in_ok-board.ensures in
    let v = l.seat.me.0 in
    let cs = c.as_slice-commands.result.now in
    let share = c.seat_for-share.ensures in
    let desk = c.in_ok-new.field-0 in
    let item : slice_get items k ≡ Some cs =
    item_at items k c.thread-item.result c.loop-thread-test.true c.thread-item.is ∙ ap Some (sym c.as_slice-commands.ensures) in
    let at : slice_get script k ≡ Some cs = ap (λ (xs : List (List Command)). slice_get xs k) (sym same) ∙ item in
    let next : v.next ≡ words_after 0 (all_of (take k script)) =
    ap (λ (u : View). u.next) l.invariant.view ∙ ap (λ (xs : List (List Command)). words_after 0 (all_of (take k xs))) same in
    let after : words_after v.next cs ≡ words_after 0 (all_of (take (k + 1) items)) =
    next_after c.in_ok-board.board c.requires.fits.0 script c.requires.fits.1 board.names board.words k cs v at next
    ∙ ap (λ (xs : List (List Command)). words_after 0 (all_of (take (k + 1) xs))) (sym same) in
    let seated = c.in_ok-new.ensures.seat in
    record {
      of = share.of;
      view = share.rest ∙ (λ j. record {
        next = after j;
        past = ap (λ (u : View). u.past) l.invariant.view j;
        known = ap (λ (u : View). u.known) l.invariant.view j;
      });
      ready =
          subst (AreReady c.in_ok-board.board (take (k + 1) items)) (sym c.in_ok-push.ensures.items)
          (subst (λ xs. AreReady c.in_ok-board.board xs (l.desks.items ++ desk ∷ []))
          (sym (take_next items k c.thread-item.result c.loop-thread-test.true c.thread-item.is
          ∙ ap (λ (x : List Command). take k items ++ x ∷ []) (sym c.as_slice-commands.ensures)))
          (ready_last c.in_ok-board.board (take k items) l.desks.items cs desk l.invariant.ready
          (is_ready c.in_ok-board.board c.requires.fits.0 script c.requires.fits.1 board.names board.words k cs v desk at next c.in_ok-new.ensures.room
          (ap (λ (s : Seat (Unit {0}) _). s.table_id) seated ∙ share.share_of.0, ap (λ (s : Seat (Unit {0}) _). s.me.1) seated ∙ share.share_of.1)
          (ap (λ (s : Seat (Unit {0}) _). s.me.0) seated ∙ share.share))));
    }

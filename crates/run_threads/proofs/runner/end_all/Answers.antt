use Rattle.std.proofs.Common.{◌≡◌, ◌++◌, ◌∷◌, [], List, length, map, length-append, ap, subst, sym, ◌∙◌, arith}
use Rattle.std.proofs.lemmas.Bool.{eqb-true}
use Rattle.std.specs.List.{AllByRecursion}
use Rattle.pblk_model.proofs.Lists.{all_front}
use Rattle.run_threads.specs.declared.records.Answer.{Answer}
use Rattle.run_threads.specs.Board.{IsSeatOf}
use Rattle.run_threads.specs.Rule.{AreTold}
use Rattle.run_threads.specs.Threads.{IsTold, row_of}
use Rattle.run_threads.specs.Views.{View}
use Rattle.run_threads.proofs.Whole.{moved_last, none_left}
use Rattle.run_threads.proofs.runner.end_all.Goals as goal

pub loop-threads-preserved : goal.loop-threads-preserved
loop-threads-preserved g c =
    let l = c.loop-threads in
    let i = l.invariant in
    let first = c.take_first-port.result in
    let rest = c.take_first-port.new.values.items in
    let off = c.take_first-port.ensures.items in
    let row = c.put-in-loop-threads.ensures.items ∙ ap (λ (a : List Answer). l.rows.items ++ a ∷ []) c.new.ensures in
    let fewer : length l.threads.items ≡ length (first ∷ rest) = ap length off in
    let ports_long = ap length c.put.ensures.items ∙ length-append l.ports.items (first.port ∷ []) in
    let rows_long = ap length row ∙ length-append l.rows.items (row_of first ∷ []) in
    record {
      of = c.join.ensures.of;
      seats = (subst (λ ts. AllByRecursion (λ t. IsSeatOf c.args.board.now t.desk.seat) ts) off i.seats).1;
      ports = moved_last l.ports.items c.put.new.values.items (map (λ t. t.port) rest) (map (λ t. t.port) c.args.threads.items) first.port c.put.ensures.items
          (ap (λ ts. l.ports.items ++ map (λ t. t.port) ts) (sym off) ∙ i.ports);
      rows = moved_last l.rows.items c.put-in-loop-threads.new.values.items (map row_of rest) (map row_of c.args.threads.items) (row_of first) row
          (ap (λ ts. l.rows.items ++ map row_of ts) (sym off) ∙ i.rows);
      ports_room = omega (arith, ports_long, fewer, c.put.ensures.capacity, i.ports_room);
      rows_room = omega (arith, rows_long, fewer, c.put-in-loop-threads.ensures.capacity, i.rows_room);
      told = λ at all later.
          let parts = all_front (λ x. at x.0 ≡ x.1) l.seat.me.0.known first.desk.seat.me.0.known
          (subst (λ (v : View). AreTold at v.known) c.join.ensures.joined all) in
          i.told at parts.0 (subst (λ ts. AllByRecursion (IsTold at) ts) (sym off) (parts.1, later));
    }

pub returns-clause-told : goal.returns-clause-told
returns-clause-told g c =
    let l = c.loop-threads in
    let none = none_left l.threads.items (l.threads.ok.0) (eqb-true _ _ (sym c.is_empty.ensures ∙ c.loop-threads-test.false)) in
    let told = c.look.ensures in
    (told.0, l.invariant.told told.0 told.1 (subst (λ ts. AllByRecursion (IsTold told.0) ts) (sym none) tt))

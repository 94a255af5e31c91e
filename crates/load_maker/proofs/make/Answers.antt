use Rattle.std.proofs.Common.{◌≡◌, ◌++◌, ◌∷◌, [], List, map, sym, subst, ap, ◌∙◌, arith}
use Rattle.std.specs.List.{range_with_len}
use Rattle.std.proofs.lemmas.List.FromFn.{map-range_with_len_more}
use Rattle.pblk_model.specs.Script.{NeverStuck, ScriptFits}
use Rattle.pblk_model.specs.declared.script.Command.{Command}
use Rattle.load_maker.specs.Loads.{thread_load}
use Rattle.load_maker.proofs.LoadFacts.{load_fits, load_flows}
use Rattle.load_maker.proofs.make.Goals as goal

pub loop-thread-preserved : goal.loop-thread-preserved
loop-thread-preserved c =
    let f = thread_load c.args.number c.args.rounds c.args.capacity in
    let thread = c.loop-thread.thread in
    let pushed = c.in_ok-push.ensures.ok in
    record {
      made = pushed ∙ ap (λ (xs : List (List Command)). xs ++ c.in_ok-make_thread.field-0 ∷ []) c.loop-thread.invariant.made
          ∙ ap (λ (t : List Command). map f (range_with_len 0 thread) ++ t ∷ []) c.in_ok-make_thread.ensures
          ∙ sym (map-range_with_len_more f 0 thread thread (omega arith));
    }

pub returns-clause-fits : goal.returns-clause-fits
returns-clause-fits c =
    let end : c.loop-thread.thread ≡ 4 = let low = c.loop-thread-test.false in let high = c.loop-thread.auto.thread-end in omega arith in
    subst (ScriptFits c.args.capacity)
    (sym (c.loop-thread.invariant.made ∙ ap (λ n. map (thread_load c.args.number c.args.rounds c.args.capacity) (range_with_len 0 n)) end))
    (load_fits c.args.number c.args.rounds c.args.capacity c.requires.room (let fits = c.ranges.capacity in omega arith) c.requires.few)

pub returns-clause-flows : goal.returns-clause-flows
returns-clause-flows c =
    let end : c.loop-thread.thread ≡ 4 = let low = c.loop-thread-test.false in let high = c.loop-thread.auto.thread-end in omega arith in
    subst NeverStuck
    (sym (c.loop-thread.invariant.made ∙ ap (λ n. map (thread_load c.args.number c.args.rounds c.args.capacity) (range_with_len 0 n)) end))
    (load_flows c.args.number c.args.rounds c.args.capacity c.requires.room (let fits = c.ranges.capacity in omega arith) c.requires.few)

use Rattle.std.proofs.Common.{◌<◌, List, length, slice_get, refl, ap, sym, ◌∙◌, arith}
use Rattle.std.proofs.lemmas.Option.{slice_get_within}
use Rattle.pblk_model.specs.declared.script.Command.{Command}
use Rattle.pblk_model.proofs.Parts.{all_by_get, got_within}
use Rattle.run_threads.specs.Board.{IsSeatOf}
use Rattle.run_threads.proofs.runner.Prepared.run.Goals as goal

pub run_all-requires-clause-ready : goal.run_all-requires-clause-ready
run_all-requires-clause-ready g c κs within = λ i commands thread p q.
    c.requires.ready i commands thread (ap (λ (xs : List (List Command)). slice_get xs i) (sym c.as_slice.ensures) ∙ p) q

pub returns : goal.returns
returns g c =
    let script = c.as_slice.result.now in
    let self = c.args.self.now in
    let olds = c.args.self.now.threads.items in
    let news = c.run_all.new.threads.items in
    let many = ap length c.as_slice.ensures in
    record {
      over = record {
        count = c.run_all.ensures.count ∙ c.requires.count;
        of = c.requires.of;
        words = c.requires.words;
        seats = all_by_get (λ t. IsSeatOf self.board t.desk.seat) news (λ k new there.
            let inside : k < length news = slice_get_within news k new there in
            let commands = got_within script k (omega (arith, inside, c.run_all.ensures.count, c.requires.count, many)) in
            let old = got_within olds k (omega (arith, inside, c.run_all.ensures.count)) in
            (c.run_all.ensures.ran k commands.0 old.0 new commands.1 old.1 there).of);
        rows = c.requires.rows;
        rows_room = (let count = c.run_all.ensures.count in let room = c.requires.rows_room in omega (arith, count, room));
        ports = c.requires.ports;
        ports_room = (let count = c.run_all.ensures.count in let room = c.requires.ports_room in omega (arith, count, room));
      };
      script = refl;
      count = c.requires.count;
      ran = λ i commands old new p q r.
          c.run_all.ensures.ran i commands old new (ap (λ (xs : List (List Command)). slice_get xs i) c.as_slice.ensures ∙ p) q r;
    }

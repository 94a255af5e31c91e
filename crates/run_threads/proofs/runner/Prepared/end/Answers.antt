use Rattle.std.proofs.Common.{◌≡◌, List, map, ap, subst, sym, ◌∙◌}
use Rattle.block_port.specs.Port.{ModelPort}
use Rattle.pblk_model.specs.declared.script.Command.{Command}
use Rattle.run_threads.specs.declared.records.Answer.{Answer}
use Rattle.run_threads.specs.Names.{told_by}
use Rattle.run_threads.specs.Run.{EachThread, WasRun}
use Rattle.run_threads.specs.Threads.{ports_of, row_of, script_of}
use Rattle.run_threads.proofs.Whole.{all_run, ports_mapped}
use Rattle.run_threads.proofs.runner.Prepared.end.Goals as goal

pub returns : goal.returns
returns g c = λ old worked.
    let self = c.args.self in
    let model = g.P.Port.model in
    let news = self.threads.items in
    let at = c.end_all.ensures.told.0 in
    let told = told_by self.board.names at in
    let rows : c.records.result.threads ≡ map row_of news = ap (λ records. records.threads) c.records.ensures ∙ c.new.ensures ∙ c.end_all.ensures.rows in
    let ports : map model c.end_all.new.ports.items ≡ map (λ t. model t.port) news = ap (map model) c.end_all.ensures.ports ∙ ports_mapped model news in
    let ran = all_run model self.board at (script_of self) old.threads.items news worked.count c.requires.count worked.ran c.end_all.ensures.told.1 in
    record {
      told = told;
      threads =
          subst (λ (script : List (List Command)). EachThread (WasRun told) script c.records.result.threads (ports_of model old)
          (map model c.end_all.new.ports.items)) worked.script
          (subst (λ (xs : List (List Answer)). EachThread (WasRun told) (script_of self) xs (ports_of model old) (map model c.end_all.new.ports.items))
          (sym rows)
          (subst (λ (ps : List ModelPort). EachThread (WasRun told) (script_of self) (map row_of news) (ports_of model old) ps) (sym ports) ran));
      opening = ap (λ records. records.opening) c.records.ensures;
      closing = ap (λ records. records.closing) c.records.ensures;
    }

use Rattle.std.proofs.Common.{◌≡◌, None, Some, sym, ap, ◌∙◌}
use Rattle.std.specs.Option.{option_map}
use Rattle.std.specs.Result.{is_ok}
use Rattle.pblk_model.specs.ScriptText.{saids, said_in}
use Rattle.pblk_model.proofs.Options.{none_unless}
use Rattle.run_script.specs.Said.{said_of}
use Rattle.run_script.specs.Heard.{refusal_of}
use Rattle.run_script.proofs.HeardMore.{read-said}
use Rattle.run_script.proofs.PlacedLine.{form_of, limit_of, placed_not, placed_ok, done_of}
use Rattle.run_script.proofs.reader.Reader.read_line.Goals as goal

pub returns-in-Some-refusal-clause-placed : goal.returns-in-Some-refusal-clause-placed
returns-in-Some-refusal-clause-placed c = λ before read.
    placed_not c.args.self.now.capacity before c.args.number c.args.early (said_in c.args.line.now) (said_of c.in-Some.said) (sym c.said_in.ensures
    ∙ ap (option_map said_of) c.in-Some.is)
    c.in-Some-refusal.refusal (sym (c.refusal.ensures.refused before read) ∙ c.in-Some-refusal.is)

pub returns-then-is_err-clause-placed : goal.returns-then-is_err-clause-placed
returns-then-is_err-clause-placed c = λ before read.
    let none : refusal_of c.args.self.now.capacity (saids before) c.args.number c.args.early (said_of c.in-Some.said) ≡ None = sym
    (c.refusal.ensures.refused before read) ∙ sym (none_unless c.refusal.result c.in_default-refusal.not-Some) in (
      tt,
      λ memory. ap is_ok (placed_ok c.args.self.now.capacity before c.args.number c.args.early (said_in c.args.line.now) (said_of c.in-Some.said)
          (sym c.said_in.ensures ∙ ap (option_map said_of) c.in-Some.is) none),
    )

pub returns-clause-placed : goal.returns-clause-placed
returns-clause-placed c = λ before read.
    let said = said_of c.in-Some.said in
    let says : said_in c.args.line.now ≡ Some said = sym c.said_in.ensures ∙ ap (option_map said_of) c.in-Some.is in
    let none : refusal_of c.args.self.now.capacity (saids before) c.args.number c.args.early said ≡ None = sym (c.refusal.ensures.refused before read)
    ∙ sym (none_unless c.refusal.result c.in_default-refusal.not-Some) in
    let heard = done_of c.hear.result _ (sym c.is_err.ensures.value ∙ c.if-is_err.false) c.hear.ensures.heard in (
      (c.args.number, said),
      placed_ok c.args.self.now.capacity before c.args.number c.args.early (said_in c.args.line.now) said says none,
      read-said c.args.self.now c.hear.new.self before c.args.number said read heard
          (form_of c.args.self.now.capacity before c.args.number c.args.early said none)
          (limit_of c.args.self.now.capacity before c.args.number c.args.early said none),
    )

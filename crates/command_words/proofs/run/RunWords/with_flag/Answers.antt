use Rattle.std.proofs.Common.{sym, ◌∙◌}
use Rattle.std.proofs.lemmas.Bool.{true≢false}
use Rattle.command_words.proofs.RunReading.{other_flag, second_flag, with_collector}
use Rattle.command_words.proofs.run.RunWords.with_flag.Goals as goal
use Rattle.command_words.proofs.run.RunWords.with_flag.Goals.{then-self-via-then-self, then-self-via-else-self+then-not-is_flag}

pub returns-then-self-clause-refused : goal.returns-then-self-clause-refused
returns-then-self-clause-refused c = λ items more image script options h of. elim c.then-self.branch [
  | then-self-via-then-self w ↦ second_flag items more c.args.name.now image script options c.args.self w.if-self.true h of
  | then-self-via-else-self+then-not-is_flag w ↦ other_flag items more c.args.name.now image script options c.args.self w.if-self.false
      (λ e. true≢false (sym (w.is_flag.ensures.1 e) ∙ w.if-not-is_flag.true)) h of
]

pub returns-clause-taken : goal.returns-clause-taken
returns-clause-taken c = λ items h. with_collector items c.args.name.now c.args.self c.if-self.false (c.is_flag.ensures.0 c.if-not-is_flag.false) h

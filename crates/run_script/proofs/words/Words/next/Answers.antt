use Rattle.std.proofs.Common.{◌∙◌, ◌==◌, ap, sym}
use Rattle.std.specs.List.{slice_split}
use Rattle.std.specs.Option.{option_map}
use Rattle.run_script.specs.Lines.{words_of}
use Rattle.run_script.proofs.WordsCut.{cut, uncut}
use Rattle.run_script.proofs.words.Words.next.Goals as goal

pub returns-in-Some-clause-word : goal.returns-in-Some-clause-word
returns-in-Some-clause-word c =
    let found = c.in-Some.ensures in
    sym c.self.view_is ∙ ap (λ left. words_of (option_map (λ bytes. bytes.now) left)) c.in_ok-line.was ∙ ap (slice_split (λ byte. byte == 32)) found.found
    ∙ cut c.in-Some.word.now c.in-Some.rest.now found.first

pub returns-in-None-clause-word : goal.returns-in-None-clause-word
returns-in-None-clause-word c =
    let found = c.in-None.ensures in
    sym c.self.view_is ∙ ap (λ left. words_of (option_map (λ bytes. bytes.now) left)) c.in_ok-line.was ∙ uncut c.in_ok-line.line.now found.none

use Rattle.std.proofs.Common.{◌≡◌, ◌++◌, map, drop, codes, string_bytes}
use Rattle.std.specs.List.{flat_map}
use Rattle.pblk_model.specs.Text.{word_text}
use Rattle.run_threads.specs.Words.{text_word}
use Rattle.run_report.proofs.outcomes.put_words.Given as goal

abbrev pub invariant-loop-word : goal.invariant-loop-word
invariant-loop-word l =
    string_bytes l.out ++ flat_map (λ w. codes " " ++ word_text w) (map text_word (drop l.word-index l.words))
    ≡ string_bytes l.initial.out ++ flat_map (λ w. codes " " ++ word_text w) (map text_word l.words)

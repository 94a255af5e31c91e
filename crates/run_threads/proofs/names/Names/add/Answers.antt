use Rattle.std.proofs.Common.{◌+◌, Some, is_some, ◌∙◌, ap, cond}
use Rattle.std.specs.HashMap.{hash_map_len}
use Rattle.std.specs.Str.{bytes_eq}
use Rattle.std.specs.String.{string_bytes}
use Rattle.std.proofs.lemmas.Map.Text.{hash_map_updates_text}
use Rattle.run_threads.specs.Names.{word_of}
use Rattle.run_threads.proofs.names.Names.add.Goals as goal

pub returns-clause-words : goal.returns-clause-words
returns-clause-words c =
    let put = c.in_ok-insert.ensures in
    let copied = c.in_ok-name.ensures in
    λ other. hash_map_updates_text (string_bytes c.in_ok-name.name) c.args.self.now.words c.insert.new.self (Some c.len-word.result) put.updates other
    ∙ ap (λ name. cond (bytes_eq name other) (Some c.len-word.result) (word_of c.args.self.now other)) copied.ok
    ∙ ap (λ n. cond (bytes_eq c.args.name.now other) (Some n) (word_of c.args.self.now other)) c.len-word.ensures.len

pub returns-clause-count : goal.returns-clause-count
returns-clause-count c = λ none.
    let put = c.in_ok-insert.ensures in
    put.len ∙ ap (λ old. hash_map_len c.args.self.now.words + cond (is_some old) 0 1) (put.old ∙ ap (word_of c.args.self.now) c.in_ok-name.ensures.ok ∙ none)

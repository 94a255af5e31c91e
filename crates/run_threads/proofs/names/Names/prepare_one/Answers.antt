use Rattle.std.proofs.Common.{Some, [], ◌∷◌, ◌++◌, ◌∙◌, ap, cond, subst, sym}
use Rattle.std.specs.HashMap.{hash_map_len}
use Rattle.std.specs.Str.{bytes_eq}
use Rattle.run_threads.specs.Names.{AreNames, IsNew, word_of}
use Rattle.run_threads.proofs.Placed.{kept, named}
use Rattle.run_threads.proofs.names.Names.prepare_one.Goals as goal

pub returns-in_ok-add-in-Post : goal.returns-in_ok-add-in-Post
returns-in_ok-add-in-Post c = λ before h new.
    let added = c.in_ok-add-in-Post.ensures in
    let old = c.args.self.now in
    subst (λ d. AreNames c.add.new.self (before ++ d ∷ [])) (sym c.in-Post.is)
    (named old c.add.new.self c.in-Post.name before
    (λ other. added.words other ∙ ap (λ n. cond (bytes_eq n other) (Some (hash_map_len old.words)) (word_of old other)) c.as_str.ensures)
    (λ none. added.count (ap (word_of old) c.as_str.ensures ∙ none)) h (subst (IsNew before) c.in-Post.is new))

pub returns-in_default : goal.returns-in_default
returns-in_default c = λ before h new. kept c.args.self.now before c.args.command.now c.in_default.not-Post h

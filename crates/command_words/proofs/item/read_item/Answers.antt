use Rattle.std.proofs.Common.{◌≢◌, ◌-◌, ◌∷◌, [], map, length, take, drop, string_bytes, ap, sym, ◌∙◌, subst, arith}
use Rattle.std.proofs.lemmas.Bool.{eqb-false}
use Rattle.std.proofs.lemmas.Str.Pattern.{strip_prefix_char}
use Rattle.command_words.specs.Words.{IsItemBefore}
use Rattle.command_words.proofs.ItemWords.{first_word_of, no_option, plain_word, is_name}
use Rattle.command_words.proofs.item.read_item.Goals as goal

pub returns-in_err-strip_prefix-in-Some-clause-only : goal.returns-in_err-strip_prefix-in-Some-clause-only
returns-in_err-strip_prefix-in-Some-clause-only c = λ item others plain h.
    let first = first_word_of c.args.words.now c.word-item.result c.as_str-word.result.now c.in-len1-up.len_at_least c.word-item.is
    c.as_str-word.ensures.value in
    let cut = strip_prefix_char 45 c.as_str-word.result.now c.strip_prefix.result c.strip_prefix.ensures.cases (omega arith) in
    let dashed = rw c.in-Some.is at cut in
    let once = strip_prefix_char 45 c.in-Some.option.now c.strip_prefix-in-Some.result c.strip_prefix-in-Some.ensures.cases (omega arith) in
    let words = first ∙ ap (λ w. w ∷ map string_bytes (take (length c.args.words.now - 1) (drop 1 c.args.words.now))) dashed in
    absurd (no_option c.in-Some.option.now _ others item (rw c.in_err-strip_prefix-in-Some.was at once) (subst (λ ws. IsItemBefore item others ws) words h))

pub returns-in-None-2-clause-found : goal.returns-in-None-2-clause-found
returns-in-None-2-clause-found c =
    let first = first_word_of c.args.words.now c.word-item.result c.as_str-word.result.now c.in-len1-up.len_at_least c.word-item.is
    c.as_str-word.ensures.value in
    let some : c.as_str-word.result.now ≢ [] = λ e. eqb-false _ _ (sym c.if-is_empty.ensures) (ap length e) in
    let cut = strip_prefix_char 45 c.as_str-word.result.now c.strip_prefix.result c.strip_prefix.ensures.cases (omega arith) in
    (plain_word c.as_str-word.result.now some (rw c.in-None.is at cut), first)

pub returns-in-None-2-clause-only : goal.returns-in-None-2-clause-only
returns-in-None-2-clause-only c = λ item others plain h.
    let first = first_word_of c.args.words.now c.word-item.result c.as_str-word.result.now c.in-len1-up.len_at_least c.word-item.is
    c.as_str-word.ensures.value in
    let cut = strip_prefix_char 45 c.as_str-word.result.now c.strip_prefix.result c.strip_prefix.ensures.cases (omega arith) in
    is_name c.as_str-word.result.now _ others item (rw c.in-None.is at cut) (subst (λ ws. IsItemBefore item others ws) first h)

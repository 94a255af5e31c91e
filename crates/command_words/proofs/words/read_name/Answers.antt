use Rattle.std.proofs.Common.{◌≡◌, [], ◌∷◌, sym, subst, refl, arith}
use Rattle.std.proofs.lemmas.Bool.{true≢false}
use borrow.Author.Tests.{ltb-true, ltb-false}
use Rattle.command_words.specs.Grammar.{IsPlainWord}
use Rattle.command_words.proofs.Names.{one_word, count_of_words}
use Rattle.command_words.proofs.words.read_name.Goals as goal
use Rattle.command_words.proofs.words.read_name.Goals.{in_default-via-then-words-lt1, in_default-via-else-words-lt1+else-words-lt2}

pub returns-in_default-clause-only : goal.returns-in_default-clause-only
returns-in_default-clause-only c = λ image h.
    let count = count_of_words c.args.words.now (image ∷ []) h.0 in
    elim c.in_default.branch [
      | in_default-via-then-words-lt1 w ↦ omega (arith, count, ltb-true, ltb-false)
      | in_default-via-else-words-lt1+else-words-lt2 w ↦ omega (arith, count, ltb-true, ltb-false)
    ]

pub returns-then-is_plain-clause-found : goal.returns-then-is_plain-clause-found
returns-then-is_plain-clause-found c =
    let words = one_word c.args.words.now c.image-item.result c.as_str-image.result.now c.in-len1.len_at_least c.in-len1.len_below c.image-item.is
    c.as_str-image.ensures.value in
    (words, c.if-is_plain.ensures.0 refl)

pub returns-then-is_plain-clause-only : goal.returns-then-is_plain-clause-only
returns-then-is_plain-clause-only c = λ image h.
    let words = one_word c.args.words.now c.image-item.result c.as_str-image.result.now c.in-len1.len_at_least c.in-len1.len_below c.image-item.is
    c.as_str-image.ensures.value in
    cc (words, h.0)

pub returns-else-is_plain-clause-only : goal.returns-else-is_plain-clause-only
returns-else-is_plain-clause-only c = λ image h.
    let words = one_word c.args.words.now c.image-item.result c.as_str-image.result.now c.in-len1.len_at_least c.in-len1.len_below c.image-item.is
    c.as_str-image.ensures.value in
    let same : image ≡ c.as_str-image.result.now = cc (words, h.0) in
    absurd (true≢false (sym (c.if-is_plain.ensures.1 (subst (λ x. IsPlainWord x) same h.1))))

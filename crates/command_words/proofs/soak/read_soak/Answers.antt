use Rattle.std.proofs.Common.{◌≡◌, ◌^◌, ◌<◌, ◌∙◌, [], ◌∷◌, sym, arith}
use Rattle.std.specs.Fmt.{decimal}
use Rattle.std.proofs.lemmas.Fmt.{decimal_injective}
use Rattle.command_words.proofs.Names.{three_words}
use Rattle.command_words.proofs.StopWords.{same_number}
use Rattle.command_words.proofs.soak.read_soak.Goals as goal

pub returns-clause-only : goal.returns-clause-only
returns-clause-only c = λ image number rounds h.
    let words = three_words c.args.words.now c.image-item.result c.number-item.result c.rounds-item.result c.as_str-image.result.now
    c.as_str.result.now c.as_str-2.result.now c.in-len3.len_at_least c.in-len3.len_below c.image-item.is c.number-item.is c.rounds-item.is
    c.as_str-image.ensures.value c.as_str.ensures.value c.as_str-2.ensures.value in
    let same : c.as_str-image.result.now ∷ c.as_str.result.now ∷ c.as_str-2.result.now ∷ [] ≡ image ∷ decimal number ∷ decimal rounds ∷ [] =
    sym words ∙ h.words_are in
    let one : c.as_str.result.now ≡ decimal number = cc same in
    let two : c.as_str-2.result.now ≡ decimal rounds = cc same in
    let low : c.in_ok-number.number < 2 ^ 64 = omega arith in (
      cc same,
      decimal_injective c.in_ok-number.number number low h.load.number_below (sym c.in_ok-number.ensures.found ∙ one),
      same_number c.in_ok-rounds.rounds rounds (omega (arith, c.in_ok-rounds.ensures.found.2)) (omega (arith, h.load.few))
          (sym c.in_ok-rounds.ensures.found.0 ∙ two),
    )

use Rattle.std.proofs.Common.{◌≡◌, ◌∙◌, [], ◌∷◌, sym, arith}
use Rattle.std.specs.Fmt.{decimal}
use Rattle.command_words.proofs.Names.{three_words}
use Rattle.command_words.proofs.StopWords.{same_number}
use Rattle.command_words.proofs.rebuild.read_rebuild.Goals as goal

pub returns-clause-only : goal.returns-clause-only
returns-clause-only c = λ image parity unit h.
    let words = three_words c.args.words.now c.image-item.result c.parity-item.result c.unit-item.result c.as_str-image.result.now c.as_str-parity.result.now
    c.as_str.result.now c.in-len3.len_at_least c.in-len3.len_below c.image-item.is c.parity-item.is c.unit-item.is
    c.as_str-image.ensures.value c.as_str-parity.ensures.value c.as_str.ensures.value in
    let same : c.as_str-image.result.now ∷ c.as_str-parity.result.now ∷ c.as_str.result.now ∷ [] ≡ image ∷ parity ∷ decimal unit ∷ [] =
    sym words ∙ h.words_are in
    let last : c.as_str.result.now ≡ decimal unit = cc same in
    (cc same, cc same, same_number c.in_ok-unit.unit unit (omega arith) h.small (sym c.in_ok-unit.ensures.found ∙ last))

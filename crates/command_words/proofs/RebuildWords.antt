-- The words of `rebuild`.
use Rattle.std.proofs.Common.{◌≡◌, ℕ, List, [], ◌∷◌, refl, ◌∙◌, subst, arith}
use Rattle.std.specs.Fmt.{decimal}
use Rattle.std.specs.List.{AllByRecursion}
use Rattle.command_words.specs.Grammar as model
use Rattle.command_words.specs.Grammar.{Name, IsPlainWord}
use Rattle.command_words.specs.Words.{AreRebuildWords, AreWordsOf}
use Rattle.command_words.proofs.Items.{plain_items}
use Rattle.command_words.proofs.Names.{digits_plain}

pub rebuild_of : (words : List (List ℕ)) (image parity : List ℕ) (unit : ℕ) → AreWordsOf words (model.Rebuild image parity unit)
    → AreRebuildWords words image parity unit
rebuild_of words image parity unit h =
    let plain = plain_items h.items words h.spelled h.of.1 h.of.2 in
    let are : words ≡ image ∷ parity ∷ decimal unit ∷ [] = plain.0 ∙ h.of.0 in
    let names = subst (λ ws. AllByRecursion IsPlainWord ws) are plain.1 in
    record { words_are = are; plain_image = names.0; plain_parity = names.1.0; small = h.of.3 }

pub words_of_rebuild : (words : List (List ℕ)) (image parity : List ℕ) (unit : ℕ) → AreRebuildWords words image parity unit
    → AreWordsOf words (model.Rebuild image parity unit)
words_of_rebuild words image parity unit h = record {
  items = Name image ∷ Name parity ∷ Name (decimal unit) ∷ [];
  spelled = (
    parity ∷ decimal unit ∷ [],
    h.plain_image,
    h.words_are,
    (decimal unit ∷ [], h.plain_parity, refl, ([], digits_plain unit (omega (arith, h.small)), refl, refl)),
  );
  of = (refl, refl, refl, h.small);
}

-- Which words are names.
use Rattle.std.proofs.Common.{◌≡◌, ℕ, ◌<◌, true, List, [], ◌∷◌, Some, refl, arith}
use Rattle.std.specs.List.{list_all}
use Rattle.std.specs.Str.{IsUtf8, IsAscii}
use Rattle.std.proofs.lemmas.Bool.Decides.{nat_tests}
use Rattle.std.proofs.lemmas.Str.{IsUtf8-from_ascii}
use Rattle.std.proofs.lemmas.Str.Ascii.{IsAscii-nil, IsAscii-cons}
use Rattle.pblk_model.specs.ScriptText.{is_name_byte, name_of}
use Rattle.run_script.specs.Said.{is_name}
use Rattle.pblk_model.proofs.Tests.{both as both_hold, second_of}

pub name_some : (word : List ℕ) → is_name word ≡ true → name_of word ≡ Some word
name_some word is = rw is refl

small : (b : ℕ) → is_name_byte b ≡ true → b < 128
small b is = grind (arith, nat_tests)

all_ascii : (word : List ℕ) → list_all is_name_byte word ≡ true → IsAscii word
all_ascii [] is = IsAscii-nil
all_ascii (b ∷ word) is = let both = both_hold (is_name_byte b) (list_all is_name_byte word) is in IsAscii-cons b word (small b both.0) (all_ascii word both.1)

pub name_utf8 : (word : List ℕ) → is_name word ≡ true → IsUtf8 word
name_utf8 word is = IsUtf8-from_ascii word (all_ascii word (second_of _ _ is))

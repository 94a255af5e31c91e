use Rattle.std.proofs.Common.{◌≡◌, rules, tests, arith}
use Rattle.std.specs.List.{list_all}
use Rattle.std.proofs.lemmas.Iterator.{YieldsList-from_slice}
use Rattle.std.proofs.lemmas.Iterator.Search.{all_from_yields_List}
use Rattle.std.proofs.lemmas.Bool.Decides.{nat_tests}
use Rattle.pblk_model.specs.ScriptText.{is_name_byte}
use Rattle.run_script.proofs.said.is_name.Goals as goal

pub returns-then-word-le16 : goal.returns-then-word-le16
returns-then-word-le16 c =
    let all : c.all.result ≡ list_all is_name_byte c.args.word.now = all_from_yields_List is_name_byte _ _ _ c.all.ensures.ran
    (YieldsList-from_slice c.args.word.now cc) (λ x b q k. search (rules, tests)) in
    let small = c.if-word-le16.true in
    grind (arith, nat_tests)

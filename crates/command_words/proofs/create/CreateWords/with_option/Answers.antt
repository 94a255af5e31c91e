use Rattle.std.proofs.Common.{◌<◌, ◌+◌, ◌^◌, ◌∙◌, sym, refl, None, get_or, arith}
use Rattle.std.proofs.lemmas.Fmt.{decimal_injective}
use Rattle.command_words.specs.Grammar.{create_options}
use Rattle.command_words.proofs.OptionValues.{small_options, below_all}
use Rattle.command_words.proofs.CreateReading.{read_option, other_option, second_option, other_number}
use Rattle.command_words.proofs.create.CreateWords.with_option.Goals as goal
use Rattle.pblk_model.proofs.Options.{none_there, some_value}

pub returns-in_err-option-clause-refused : goal.returns-in_err-option-clause-refused
returns-in_err-option-clause-refused c = rw c.from_residual.ensures
    (λ items more image numbers h of. other_option items more c.args.name.now c.args.value.now image numbers c.in_err-option.ensures.none of)

pub returns-then-is_some-clause-refused : goal.returns-then-is_some-clause-refused
returns-then-is_some-clause-refused c = λ items more image numbers h of.
    let at_name = rw (sym c.place-place.ensures.place) at c.in_ok-option.ensures.found in
    let value = some_value (get_or c.args.self.values c.place-place.result None) (sym c.if-is_some.ensures) in
    second_option items more c.place-place.result c.args.name.now c.args.value.now image numbers c.args.self value.0 at_name value.1 h of

pub returns-in_err-number-clause-refused : goal.returns-in_err-number-clause-refused
returns-in_err-number-clause-refused c = rw c.from_residual-in_err-number.ensures (λ items more image numbers h of.
    let at_name = rw (sym c.place-place.ensures.place) at c.in_ok-option.ensures.found in
    let free = none_there (get_or c.args.self.values c.place-place.result None) (sym c.if-is_some.ensures) in
    let most = below_all create_options c.place-place.result c.args.name.now small_options at_name in
    other_number items more c.place-place.result c.args.name.now c.args.value.now image most.0 numbers c.args.self at_name most.1 free
    (λ n below. c.in_err-number.ensures.none n (omega (arith, below, most.2))) h of)

pub returns-then-number-most-clause-refused : goal.returns-then-number-most-clause-refused
returns-then-number-most-clause-refused c = λ items more image numbers h of.
    let at_name = rw (sym c.place-place.ensures.place) at c.in_ok-option.ensures.found in
    let at_below = rw (sym c.place-place.ensures.place) at c.most.ensures in
    let free = none_there (get_or c.args.self.values c.place-place.result None) (sym c.if-is_some.ensures) in
    let small : c.in_ok-number.number < 2 ^ 64 = omega arith in
    other_number items more c.place-place.result c.args.name.now c.args.value.now image (c.most.result + 1) numbers c.args.self at_name at_below free
    (λ n below is. let same = decimal_injective n c.in_ok-number.number (omega arith) small (sym is ∙ c.in_ok-number.ensures.found) in omega arith)
    h of

pub returns-clause-taken : goal.returns-clause-taken
returns-clause-taken c = λ items h.
    let at_name = rw (sym c.place-place.ensures.place) at c.in_ok-option.ensures.found in
    let at_below = rw (sym c.place-place.ensures.place) at c.most.ensures in
    let free = none_there (get_or c.args.self.values c.place-place.result None) (sym c.if-is_some.ensures) in
    read_option items c.place-place.result c.args.name.now c.args.value.now c.in_ok-number.number
    (c.most.result + 1) c.args.self _ at_name at_below free c.in_ok-number.ensures.found (omega arith) refl refl h

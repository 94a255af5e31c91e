use Rattle.std.proofs.Common.{◌∷◌, map, length, string_bytes, take, drop, ◌-◌, ap, sym, ◌∙◌, arith}
use Rattle.std.proofs.lemmas.Bool.{true≢false}
use Rattle.std.proofs.lemmas.List.{length-map}
use Rattle.std.proofs.lemmas.Str.Pattern.{split_parts}
use Rattle.command_words.proofs.ItemWords.{some_and, first_of, lacks_by_place, with_equals, without_equals, with_next}
use Rattle.command_words.proofs.item.read_option.Goals as goal

pub returns-in_default-clause-only : goal.returns-in_default-clause-only
returns-in_default-clause-only c = λ item others plain h.
    let parts = split_parts 61 c.args.option.now c.split_once.result c.split_once.ensures.cases (omega arith) in
    let lacks = lacks_by_place 61 c.args.option.now (rw c.in-None.is at parts) in
    let found = without_equals c.args.option.now (map string_bytes c.args.rest.now) others item lacks
    (λ e. true≢false (sym (c.if-is_flag.ensures.1 e))) plain h in
    let count = ap length found.2 in
    omega (arith, simp length-map at count, c.in_default.len_below)

pub returns-in-Some-clause-only : goal.returns-in-Some-clause-only
returns-in-Some-clause-only c = λ item others plain h.
    let parts = split_parts 61 c.args.option.now c.split_once.result c.split_once.ensures.cases (omega arith) in
    let at = rw c.in-Some.is at parts in
    let found = with_equals c.args.option.now c.in-Some.name.now c.in-Some.value.now (map string_bytes c.args.rest.now) others item at.0
    (lacks_by_place 61 c.in-Some.name.now at.1) plain h in
    some_and c.named.result _ _ c.named.ensures.found (c.named.ensures.plain.1 found.2)
    (λ r k. (k.0 ∙ found.0, ap (λ ws. map string_bytes ws) k.1 ∙ found.1))

pub returns-in-len1-up-clause-only : goal.returns-in-len1-up-clause-only
returns-in-len1-up-clause-only c = λ item others plain h.
    let parts = split_parts 61 c.args.option.now c.split_once.result c.split_once.ensures.cases (omega arith) in
    let lacks = lacks_by_place 61 c.args.option.now (rw c.in-None.is at parts) in
    let words = first_of c.args.rest.now c.value-item.result c.in-len1-up.len_at_least c.value-item.is in
    let left = ap (λ ws. map string_bytes ws) words
    ∙ ap (λ w. w ∷ map string_bytes (take (length c.args.rest.now - 1) (drop 1 c.args.rest.now))) (sym c.as_str.ensures.value) in
    let found = with_next c.args.option.now c.as_str.result.now (map string_bytes c.args.rest.now) _ others item left lacks
    (λ e. true≢false (sym (c.if-is_flag.ensures.1 e))) plain h in
    some_and c.named-in-None-2.result _ _ c.named-in-None-2.ensures.found (c.named-in-None-2.ensures.plain.1 found.2)
    (λ r k. (k.0 ∙ found.0, ap (λ ws. map string_bytes ws) k.1 ∙ found.1))

use Rattle.std.proofs.Common.{◌≡◌, ◌-◌, ◌+◌, ◌<◌, None, Some, List, ℕ, [], ◌∷◌, ◌++◌, map, drop, take, ap, sym, ◌∙◌, subst, arith}
use Rattle.std.specs.List.{range_with_len}
use Rattle.std.proofs.lemmas.List.FromFn.{map-range_with_len_more}
use Rattle.atomic_table.specs.Seated.{TableId}
use Rattle.chronicle.specs.Views.{Past, View}
use Rattle.chronicle.specs.Handles.{AuthorView, first_author}
use Rattle.chronicle.specs.Inside.{IsWriter}
use Rattle.chronicle.specs.Steps.{but_first, first_of, seated}
use Rattle.chronicle.proofs.Worlds.{opening_legal}
use Rattle.chronicle.proofs.Rests.{first_part, first_writer, next_range}
use Rattle.chronicle.proofs.table.Chronicle.new.Goals as goal

-- what a seat knows, and the slots that it holds
abbrev Me : Type 0
Me = View × List (ℕ × Unit {0})

-- the seat that is split off owns one log
first_seat : (past : Past) (number count : ℕ) (rest new : Me) → number < count
    → rest ≡ (seated (first_part past (range_with_len number (count - number)) (Some 0)), [])
    → new ≡ (first_of rest.0, []) → new ≡ (seated (first_part past (number ∷ []) None), [])
first_seat past number count rest new below left is =
    is ∙ ap (λ (m : Me). (first_of m.0, [])) left
    ∙ ap (λ (owned : List ℕ). (seated (first_part past (take 1 owned) None), [])) (next_range number count below)

-- a seat as its author is seen
abbrev seen : ℕ → TableId × Me → AuthorView
seen number x = record {
  chronicle = x.0;
  number = number;
  owned = x.1.0.mine.owned;
  past = x.1.0.mine.past;
  known = x.1.0.mine.known;
  makers = x.1.0.mine.makers;
  spare = x.1.0.mine.spare;
}

pub invariant_of-push : goal.invariant_of-push
invariant_of-push g c =
    let past = g.S.Shows.shown c.args.begun.now in
    let number = c.loop-number.number in
    let i = c.loop-number.invariant in
    let part = c.part.ensures in
    let table = part.new_of ∙ i.same in
    let me = first_seat past number (c.args.units + 1) c.loop-number.seat.me c.part.result.me c.loop-number-test.true i.left part.new in
    let units = c.requires.units in
    let below = c.loop-number-test.true in
    let words = i.words in
    record {
      empty = ap (λ m. m.1) me;
      writer = subst (λ (x : TableId × View). IsWriter x.0 x.1 number 0) (λ j. (sym table j, (sym me j).0))
          (first_writer c.chronicle.inside.table.shared.table_id past number (omega arith) (omega arith)
          (opening_legal past.image past.logs c.requires.opening));
    }

pub loop-number-preserved : goal.loop-number-preserved
loop-number-preserved g c =
    let past = g.S.Shows.shown c.args.begun.now in
    let number = c.loop-number.number in
    let i = c.loop-number.invariant in
    let part = c.part.ensures in
    record {
      same = part.of ∙ i.same;
      words = i.words;
      left = part.kept ∙ ap (λ (m : Me). (but_first m.0, m.1)) i.left
          ∙ ap (λ (owned : List ℕ). (seated (first_part past (drop 1 owned) (Some 0)), [])) (next_range number (c.args.units + 1) c.loop-number-test.true);
      authors =
          let table = part.new_of ∙ i.same in
          let me = first_seat past number (c.args.units + 1) c.loop-number.seat.me c.part.result.me c.loop-number-test.true i.left part.new in
          c.in_ok-push.ensures.items
          ∙ ap (λ (xs : List AuthorView). xs ++ seen number (c.part.result.table_id, c.part.result.me) ∷ []) i.authors
          ∙ ap (λ (x : TableId × Me). map (first_author c.chronicle.inside.table.shared.table_id past) (range_with_len 0 number) ++ seen number x ∷ [])
          (λ j. (table j, me j))
          ∙ sym (map-range_with_len_more (first_author c.chronicle.inside.table.shared.table_id past) 0 number number (omega arith));
    }

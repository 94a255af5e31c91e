use Rattle.std.proofs.Common.{◌≡◌, ◌+◌, ◌^◌, ◌<◌, ◌≤◌, sym, subst, ◌∙◌, arith}
use Rattle.atomic_table.specs.Table.{Allows}
use Rattle.std.proofs.lemmas.Option.{same_Some}
use Rattle.run_threads.specs.Rule.{IsKept}
use Rattle.run_threads.specs.Steps.{posted}
use Rattle.run_threads.proofs.Moves.{posts}
use Rattle.run_threads.proofs.board.Board.post.Goals as goal

pub store-requires : goal.store-requires
store-requires c =
    let seat = c.args.seat.now in
    let word : seat.me.0.next ≡ c.word-word.result = same_Some seat.me.0.next c.word-word.result (sym c.requires.word ∙ c.word-word.ensures) in
    let within : seat.me.0.next < c.args.self.now.table.shared.table_id.words = omega (arith, c.requires.may, c.requires.within) in
    let value = c.args.note.position + 1 in
    let low : value ≤ 2 ^ 63 = omega (arith, c.args.note.small) in (
      c.requires.of.0,
      subst (λ w. w < c.args.self.now.table.shared.table_id.words) word within,
      subst (λ w. Allows IsKept c.args.self.now.table.shared.table_id.slots seat.id seat.me w (λ _. value)
          (λ _ m. m ≡ (posted seat.me.0 value, seat.me.1))) word
          (posts seat.id seat.me.0 seat.me.1 c.args.self.now.table.shared.table_id.slots value c.requires.may (omega arith) low),
    )

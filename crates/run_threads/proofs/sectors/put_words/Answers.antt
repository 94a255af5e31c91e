use Rattle.std.proofs.Common.{◌≡◌, ◌∙◌, ◌-◌, [], ◌∷◌, map, sym, arith}
use Rattle.std.proofs.lemmas.List.{append-nil, map-append}
use Rattle.block_port.specs.Own.{sectors_of}
use Rattle.run_threads.specs.Words.{text_word}
use Rattle.run_threads.proofs.Tags.{words_step}
use Rattle.run_threads.proofs.sectors.put_words.Goals as goal

pub loop-preserved : goal.loop-preserved
loop-preserved c =
    let l = c.loop in
    let step = words_step c.args.size c.args.count l.counter (map text_word l.words.items) l.rest.now _ c.loop-test.true l.invariant.0 l.invariant.3 in (
      rw c.split_at.ensures.back step.0,
      omega (arith, c.append.ensures.len, l.invariant.1),
      omega (arith, c.append.ensures.room, l.invariant.2),
      rw (
        c.append.ensures.items,
        map-append text_word l.words.items
            (c.word.result ∷ []),
        c.word.ensures,
        c.split_at.ensures.front,
        c.split_at.ensures.back,
      ) step.1,
    )

pub returns : goal.returns
unfolding sectors_of
returns c =
    let e : c.args.count - c.loop.counter ≡ 0 = omega arith in
    sym (append-nil (map text_word c.loop.words.items)) ∙ (rw e at c.loop.invariant.3)

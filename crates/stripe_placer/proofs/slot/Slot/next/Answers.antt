use Rattle.std.proofs.Common.{◌≡◌, ◌⊎◌, ◌+◌, ◌<◌, ◌≤◌, false, Some, length, sym, ap, subst, ◌∙◌, arith}
use Rattle.stripe_placer.specs.OpenLines.{OpenLine, next_of}
use Rattle.stripe_placer.specs.Slots.{open_line, is_closed_chunk}
use Rattle.stripe_placer.proofs.Chunks.{Describes, described, chunk_of, next_is, none_is_next, one_of_two, stripe_count}
use Rattle.stripe_placer.proofs.slot.Slot.next.Goals as goal

pub returns-then-not-is_closed : goal.returns-then-not-is_closed
returns-then-not-is_closed c =
    let s = c.self.inside in
    let l : OpenLine = open_line s in
    let d : Describes l s.chunks s.width s.next s.stripe_count =
    described s.line s.online s.width s.start_count s.data_count s.stripe_count s.next s.chunks c.self.invariant.keeps in
    let inside : c.loop-stripe.stripe < s.stripe_count = omega (arith, c.min-end.ensures, c.loop-stripe-test.true) in
    let here : is_closed_chunk (chunk_of s.chunks s.width c.loop-stripe.stripe) ≡ false = sym c.is_closed.ensures ∙ c.if-not-is_closed.true in
    subst (λ (v : OpenLine). record { next : Some c.loop-stripe.stripe ≡ next_of v; inside : c.loop-stripe.stripe < length v.stripes }) c.self.view_is (record {
      next = sym (next_is l s.chunks s.width s.next s.stripe_count c.loop-stripe.stripe d c.loop-stripe.auto.stripe inside here c.loop-stripe.invariant);
      inside = omega (arith, inside, stripe_count l s.chunks s.width s.next s.stripe_count d);
    })

pub returns-clause-next : goal.returns-clause-next
returns-clause-next c =
    let s = c.self.inside in
    let l : OpenLine = open_line s in
    let d : Describes l s.chunks s.width s.next s.stripe_count =
    described s.line s.online s.width s.start_count s.data_count s.stripe_count s.next s.chunks c.self.invariant.keeps in
    let end : c.min-end.result ≤ s.stripe_count = omega (arith, c.min-end.ensures) in
    let reach : (c.min-end.result ≡ s.stripe_count) ⊎ (c.min-end.result ≡ s.next + s.width) =
    one_of_two s.stripe_count (s.next + s.width) c.min-end.result c.min-end.ensures in
    sym (none_is_next l s.chunks s.width s.next s.stripe_count c.min-end.result d end reach
    (λ i from below. c.loop-stripe.invariant i from (omega (arith, c.loop-stripe-test.false)))) ∙ ap next_of c.self.view_is

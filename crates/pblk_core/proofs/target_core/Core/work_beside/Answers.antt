use Rattle.std.proofs.Common.{◌≡◌, ◌&&◌, not, if◌then◌else◌, Bool, true, false, refl, sym, ap, ap₂, ◌∙◌}
use Rattle.std.specs.Option.{is_some}
use Rattle.pblk_model.proofs.Options.{some_mapped}
use Rattle.pblk_model.proofs.Tests.{and_false, not_first}
use Rattle.stripe_placer.specs.Placing.{next_stripe, program}
use Rattle.pblk_core.specs.declared.work.Work.TheVariants.{Copy, Nothing}
use Rattle.pblk_core.specs.declared.work.Work.TheVariants as works
use Rattle.pblk_core.specs.Named.{choice, asks_line, has_free, may_copy, may_open, is_busy, why}
use Rattle.pblk_core.proofs.target_core.Core.work_beside.Goals.{else-asks_line-via-then-asks_line+then-has_free+else-may_open, else-asks_line-via-then-asks_line+else-has_free, else-asks_line-via-else-asks_line, then-asks_line-2, else-asks_line-2}
use Rattle.pblk_core.proofs.target_core.Core.work_beside.Goals as goal

-- where no stripe is to be placed and no line to be opened
copy_chosen : (stripe asks free may copy busy : Bool) → stripe ≡ false → (asks && (free && may)) ≡ false → copy ≡ true
    → Copy ≡ choice stripe asks free may copy busy
copy_chosen true asks free may copy busy s o e = absurd cc
copy_chosen false asks free may copy busy s o e = go (asks && (free && may)) copy o e
  where
    go : (opens copies : Bool) → opens ≡ false → copies ≡ true
        → Copy ≡ (if opens then works.Open else if copies then Copy else Nothing (why busy (asks && not free)))
    go true copies p q = absurd cc
    go false false p q = absurd cc
    go false true p q = refl

nothing_chosen : (stripe asks free may copy busy : Bool) → stripe ≡ false → (asks && (free && may)) ≡ false → copy ≡ false
    → Nothing (why busy (asks && not free)) ≡ choice stripe asks free may copy busy
nothing_chosen true asks free may copy busy s o e = absurd cc
nothing_chosen false asks free may copy busy s o e = go (asks && (free && may)) copy o e
  where
    go : (opens copies : Bool) → opens ≡ false → copies ≡ false
        → Nothing (why busy (asks && not free)) ≡ (if opens then works.Open else if copies then Copy else Nothing (why busy (asks && not free)))
    go true copies p q = absurd cc
    go false true p q = absurd cc
    go false false p q = refl

pub returns-then-may_copy : goal.returns-then-may_copy
returns-then-may_copy c =
    let now = c.args.self.now in
    let none : is_some (next_stripe now.placer 0) ≡ false = ap is_some (sym c.next_stripe.ensures.next)
    ∙ some_mapped (program now.placer) c.next_stripe.result ∙ sym c.is_some.ensures ∙ c.if-is_some.false in
    let shut : (c.asks_line-asks_line.result && (c.is_some-has_free.result && may_open now)) ≡ false = elim c.else-asks_line.branch [
      | else-asks_line-via-then-asks_line+then-has_free+else-may_open v ↦ and_false _ _ (and_false _ _ (sym v.may_open.ensures ∙ v.if-may_open.false))
      | else-asks_line-via-then-asks_line+else-has_free v ↦ and_false _ _ (not_first _ _ v.if-has_free.false)
      | else-asks_line-via-else-asks_line v ↦ not_first _ _ v.if-asks_line.false
    ] in
    let free : c.is_some-has_free.result ≡ has_free now = c.is_some-has_free.ensures ∙ ap is_some c.least_free.ensures.least in
    copy_chosen (is_some (next_stripe now.placer 0)) (asks_line now) (has_free now) (may_open now) (may_copy now) (is_busy now) none
    (ap₂ (λ a b. a && (b && may_open now)) (sym c.asks_line-asks_line.ensures) (sym free) ∙ shut) (sym c.may_copy.ensures ∙ c.if-may_copy.true)

pub returns : goal.returns
returns c =
    let now = c.args.self.now in
    let none : is_some (next_stripe now.placer 0) ≡ false = ap is_some (sym c.next_stripe.ensures.next)
    ∙ some_mapped (program now.placer) c.next_stripe.result ∙ sym c.is_some.ensures ∙ c.if-is_some.false in
    let shut : (c.asks_line-asks_line.result && (c.is_some-has_free.result && may_open now)) ≡ false = elim c.else-asks_line.branch [
      | else-asks_line-via-then-asks_line+then-has_free+else-may_open v ↦ and_false _ _ (and_false _ _ (sym v.may_open.ensures ∙ v.if-may_open.false))
      | else-asks_line-via-then-asks_line+else-has_free v ↦ and_false _ _ (not_first _ _ v.if-has_free.false)
      | else-asks_line-via-else-asks_line v ↦ not_first _ _ v.if-asks_line.false
    ] in
    let lacks : c.if-asks_line-2.why ≡ (c.asks_line-asks_line.result && not c.is_some-has_free.result) = elim c.if-asks_line-2.branch [
      | then-asks_line-2 v ↦ v.why-is ∙ ap (λ b. b && not c.is_some-has_free.result) (sym v.if-asks_line-2.true)
      | else-asks_line-2 v ↦ v.why-is ∙ v.if-asks_line-2.false ∙ sym (not_first _ _ v.if-asks_line-2.false)
    ] in
    let free : c.is_some-has_free.result ≡ has_free now = c.is_some-has_free.ensures ∙ ap is_some c.least_free.ensures.least in
    ap Nothing (c.why.ensures ∙ ap₂ why c.is_busy.ensures (lacks ∙ ap₂ (λ a b. a && not b) c.asks_line-asks_line.ensures free))
    ∙ nothing_chosen (is_some (next_stripe now.placer 0)) (asks_line now) (has_free now) (may_open now) (may_copy now) (is_busy now) none
    (ap₂ (λ a b. a && (b && may_open now)) (sym c.asks_line-asks_line.ensures) (sym free) ∙ shut) (sym c.may_copy.ensures ∙ c.if-may_copy.false)

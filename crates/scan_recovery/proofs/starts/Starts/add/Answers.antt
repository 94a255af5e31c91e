use Rattle.std.proofs.Common.{true, false, refl, sym, ap, subst, ◌∙◌}
use Rattle.std.specs.Option.{option_map, IfSome}
use Rattle.pblk_meta.specs.Records.{start_numbers}
use Rattle.scan_recovery.specs.Tally.{HasStartFits}
use Rattle.scan_recovery.proofs.Surveys.{starts_none, starts_some}
use Rattle.scan_recovery.proofs.starts.Starts.add.Goals as goal

pub returns-in_default : goal.returns-in_default
returns-in_default c = λ i s fit is was.
    starts_none i c.args.layout.now c.args.line c.args.width c.args.used c.args.blocks.now s c.requires.accepted fit is c.args.self.now _
    (ap (option_map start_numbers) (sym c.in_default.is) ∙ c.in_ok-start.ensures.start) was c.in_ok-push.ensures.items refl

pub returns-then-is_later : goal.returns-then-is_later
returns-then-is_later c = λ i s fit is was.
    starts_some i c.args.layout.now c.args.line c.args.width c.args.used c.args.blocks.now s c.requires.accepted fit is c.args.self.now _ c.in-Some.start true
    (ap (option_map start_numbers) (sym c.in-Some.is) ∙ c.in_ok-start.ensures.start)
    (subst (λ o. IfSome o HasStartFits) c.in-Some.is c.in_ok-start.ensures.fits) was
    c.in_ok-push-2.ensures.items (sym c.is_later.ensures ∙ c.if-is_later.true) refl

pub returns-else-is_later : goal.returns-else-is_later
returns-else-is_later c = λ i s fit is was.
    starts_some i c.args.layout.now c.args.line c.args.width c.args.used c.args.blocks.now s c.requires.accepted fit is c.args.self.now _ c.in-Some.start false
    (ap (option_map start_numbers) (sym c.in-Some.is) ∙ c.in_ok-start.ensures.start)
    (subst (λ o. IfSome o HasStartFits) c.in-Some.is c.in_ok-start.ensures.fits) was
    c.in_ok-push-2.ensures.items (sym c.is_later.ensures ∙ c.if-is_later.false) refl

use Rattle.std.proofs.Common.{◌≡◌, ◌≢◌, ◌⊎◌, inl, inr, ℕ, ◌<◌, ◌≤◌, ◌&&◌, not, Bool, true, false, None, Some, Option, IfSome, IfNone, refl, sym, subst, ap, ◌∙◌, arith}
use Rattle.std.specs.FinMap as fin
use Rattle.std.proofs.lemmas.Bool.{cases_lt}
use Rattle.std.proofs.lemmas.Option.{same_Some}
use Rattle.pblk_model.specs.Image.{Image}
use Rattle.pblk_world.specs.AtRest.{IsCopyDue}
use Rattle.pblk_world.specs.Victims.{live}
use Rattle.pblk_world.specs.World.{World, log_of}
use Rattle.pblk_world.specs.LegalMounts.{IsLegalMount}
use Rattle.l2p_map.specs.declared.slot.Slot.TheVariants.{Media}
use Rattle.pblk_model.proofs.Tests.{both, not_both, not_true}
use Rattle.pblk_core.specs.declared.collecting.CopyJob.{CopyJob}
use Rattle.pblk_core.specs.declared.target_core.Core.{Core}
use Rattle.pblk_core.specs.Collecting.{Collects, HasPassed, IsCopyReady}
use Rattle.pblk_core.specs.Copies.{copy_due, is_copying}
use Rattle.pblk_core.specs.Named.{may_copy}
use Rattle.pblk_core.specs.Stands.{Stands}
use Rattle.pblk_core.proofs.CopiesDue.{copy_due_is, copy_by_test, test_of_copy, none_live}
use Rattle.pblk_core.proofs.target_core.Core.copy_ready.Goals as goal

-- the first sector from the cursor on is the first one at all
is_ready : (c : Core) (line : ℕ) (o : Option CopyJob) → HasPassed c → copy_due c ≡ true → is_copying c ≡ false → c.collection.victim ≡ Some line
    → IfSome o (λ job. job.line ≡ line) → IfSome o (λ job. job.lba < c.layout.capacity)
    → IfSome o (λ job. fin.get c.map job.lba ≡ Some (Media job.line job.at job.position))
    → IfSome o (λ job. (lba at position : ℕ) → c.collection.cursor ≤ lba → lba < job.lba → fin.get c.map lba ≢ Some (Media line at position))
    → IfSome o (IsCopyReady c)
is_ready c line None passed due idle at_work of_line inside there first = tt
is_ready c line (Some job) passed due idle at_work of_line inside there first = record {
  due = due;
  idle = idle;
  at_work = at_work ∙ ap (λ n. Some n) (sym of_line);
  inside = inside;
  there = there;
  first = λ lba at position before e.
      let is : fin.get c.map lba ≡ Some (Media line at position) = e ∙ ap (λ n. Some (Media n at position)) of_line in
      by lba at position before is (cases_lt lba c.collection.cursor);
}
  where
    by : (lba at position : ℕ) → lba < job.lba → fin.get c.map lba ≡ Some (Media line at position)
        → (lba < c.collection.cursor) ⊎ (c.collection.cursor ≤ lba) → ⊥
    by lba at position before is (inl below) = passed lba line at position below at_work is
    by lba at position before is (inr from) = first lba at position from before is

-- what it tells that a copy may be begun, or may not
may_begin : (c : Core) → may_copy c ≡ true → (copy_due c ≡ true) × (is_copying c ≡ false)
may_begin c e = let parts = both (copy_due c) (not (is_copying c)) e in (parts.0, not_true (is_copying c) parts.1)

may_not_begin : (c : Core) → may_copy c ≡ false → (is_copying c ≡ true) ⊎ (copy_due c ≡ false)
may_not_begin c e = go (copy_due c) (is_copying c) e refl refl
  where
    go : (due copying : Bool) → (due && not copying) ≡ false → copy_due c ≡ due → is_copying c ≡ copying → (is_copying c ≡ true) ⊎ (copy_due c ≡ false)
    go due true h p q = inl q
    go false false h p q = inr p
    go true false h p q = absurd cc

pub returns-then-not-may_copy-clause-none : goal.returns-then-not-may_copy-clause-none
returns-then-not-may_copy-clause-none c = λ i w mount st col.
    elim (may_not_begin c.args.self.now (sym c.may_copy.ensures ∙ c.if-not-may_copy.true)) [
      | inl copying ↦ inl copying
      | inr none ↦ inr (λ due. not_both (copy_due c.args.self.now) (copy_due_is i w c.args.self.now mount st col ∙ test_of_copy i (log_of w) due) none)
    ]

pub returns-in-Some-clause-ready : goal.returns-in-Some-clause-ready
returns-in-Some-clause-ready c = let parts = may_begin c.args.self.now (sym c.may_copy.ensures ∙ c.if-not-may_copy.false) in
    is_ready c.args.self.now c.in-Some.line c.first_in.result c.requires.collecting.collects.passed parts.0 parts.1 c.in-Some.is
    c.first_in.ensures.line c.first_in.ensures.inside c.first_in.ensures.there c.first_in.ensures.first

of_any : {X : Type 0} {P : Type 0} (o : Option X) → P → IfSome o (λ x. P)
of_any None p = tt
of_any (Some x) p = p

pub returns-in-Some-clause-due : goal.returns-in-Some-clause-due
returns-in-Some-clause-due c = of_any c.first_in.result (λ i w mount st col.
    let due = (may_begin c.args.self.now (sym c.may_copy.ensures ∙ c.if-not-may_copy.false)).0 in
    copy_by_test i (log_of w) (sym (copy_due_is i w c.args.self.now mount st col) ∙ due))

-- where none was found, the victim has no live sector
none_due : (c : Core) (line : ℕ) (o : Option CopyJob) → c.collection.victim ≡ Some line
    → IfNone o ((lba at position : ℕ) → c.collection.cursor ≤ lba → lba < c.layout.capacity → fin.get c.map lba ≢ Some (Media line at position))
    → IfNone o ((i : Image) (w : World) → IsLegalMount i w → Stands i (log_of w) c → Collects i (log_of w) c
    → (is_copying c ≡ true) ⊎ (¬ IsCopyDue i (log_of w)))
none_due c line (Some job) at_work none = tt
none_due c line None at_work none = λ i w mount st col. inr (λ due.
    let one : due.line ≡ line = same_Some due.line line (sym due.at_work ∙ sym col.victim ∙ at_work) in
    let some : 0 < live i (log_of w) line = subst (λ n. 0 < live i (log_of w) n) one due.has_live in
    let no_one : live i (log_of w) line ≡ 0 = none_live i w c mount st col line col.passed at_work none in
    omega arith)

pub returns-in-Some-clause-none : goal.returns-in-Some-clause-none
returns-in-Some-clause-none c = none_due c.args.self.now c.in-Some.line c.first_in.result c.in-Some.is c.first_in.ensures.none

use Rattle.std.proofs.Common.{◌≡◌, ◌≢◌, ◌⊎◌, inl, inr, ℕ, ◌==◌, Some, None, Option, true, false, [], ◌∷◌, length, refl, sym, subst, ap, ◌∙◌}
use Rattle.std.specs.Option.{option_eq}
use Rattle.std.proofs.lemmas.Option.{none-some}
use Rattle.pblk_model.specs.Image.{Image}
use Rattle.pblk_world.specs.Events.{EngineEvent, Free}
use Rattle.pblk_world.specs.World.{Logs, log_of}
use Rattle.core_laws.specs.Stepping.{after}
use Rattle.stripe_placer.specs.Placing.{Placing}
use Rattle.pblk_model.proofs.Tests.{not_both, same, same_number}
use Rattle.pblk_core.specs.declared.target_core.Core.{Core}
use Rattle.pblk_core.specs.Collecting.{HasPassed, IsBarrenRightly, weighed}
use Rattle.pblk_core.specs.Copies.{is_copying}
use Rattle.pblk_core.specs.Named.{pad_of}
use Rattle.pblk_core.specs.Stands.{Stands}
use Rattle.pblk_core.proofs.BarrenLines.{barren_kept}
use Rattle.pblk_core.proofs.Collected.{HasChosen, collected, collected_freed, passed_same}
use Rattle.pblk_core.proofs.KeptStripes.{kept_chosen}
use Rattle.pblk_core.proofs.SmallCalls.{collecting_stands}
use Rattle.pblk_core.proofs.TabledLines.{tabled_by_logs}
use Rattle.pblk_core.proofs.target_core.Core.free_line.Goals as goal
use Rattle.pblk_core.proofs.target_core.Core.free_line.Goals.{then-eq, else-eq}

-- The line that was freed was the victim, and none is at work then, or it wasn't.
abbrev without_victim : Core → Core
without_victim c = record c { collection = record c.collection { victim = None } }

abbrev Leaves : ℕ → Core → Core → Type 0
Leaves line mid new = ((mid.collection.victim ≡ Some line) × (new ≡ without_victim mid)) ⊎ ((mid.collection.victim ≢ Some line) × (new ≡ mid))

its_line : (v : Option ℕ) (line : ℕ) → option_eq (λ a b. a == b) v (Some line) ≡ true → v ≡ Some line
its_line None line e = absurd cc
its_line (Some n) line e = ap (λ m. Some m) (same n line e)

other_line : (v : Option ℕ) (line : ℕ) → option_eq (λ a b. a == b) v (Some line) ≡ false → v ≢ Some line
other_line v line e = λ is. not_both (line == line) (same_number line) (ap (λ o. option_eq (λ a b. a == b) o (Some line)) (sym is) ∙ e)

left_stands : (i : Image) (logs : Logs) (line : ℕ) (mid new : Core) → Leaves line mid new → Stands i logs mid → Stands i logs new
left_stands i logs line mid new (inl gone) st =
    subst (Stands i logs) (sym gone.1) (collecting_stands i logs mid (record mid.collection { victim = None }) st)
left_stands i logs line mid new (inr kept) st = subst (Stands i logs) (sym kept.1) st

left_count : (line : ℕ) (mid new : Core) → Leaves line mid new → length new.collection.lines ≡ length mid.collection.lines
left_count line mid new (inl gone) = ap (λ (x : Core). length x.collection.lines) gone.1
left_count line mid new (inr kept) = ap (λ (x : Core). length x.collection.lines) kept.1

left_victim : (line : ℕ) (mid new : Core) → Leaves line mid new → (other : ℕ) → new.collection.victim ≡ Some other → mid.collection.victim ≡ Some other
left_victim line mid new (inl gone) other is = absurd (none-some other (sym (ap (λ (x : Core). x.collection.victim) gone.1) ∙ is))
left_victim line mid new (inr kept) other is = sym (ap (λ (x : Core). x.collection.victim) kept.1) ∙ is

left_passed : (line : ℕ) (mid new : Core) → Leaves line mid new → HasPassed mid → HasPassed new
left_passed line mid new (inl gone) was = λ lba other at position low is there.
    none-some other (sym (ap (λ (x : Core). x.collection.victim) gone.1) ∙ is)
left_passed line mid new (inr kept) was = subst HasPassed (sym kept.1) was

left_barren : (line : ℕ) (mid new : Core) → Leaves line mid new → IsBarrenRightly mid → IsBarrenRightly new
left_barren line mid new (inl gone) was = λ barren other.
    ap (λ (x : Core). weighed x other) gone.1 ∙ was (sym (ap (λ (x : Core). x.collection.barren) gone.1) ∙ barren) other
left_barren line mid new (inr kept) was = subst IsBarrenRightly (sym kept.1) was

left_placer : (line : ℕ) (mid new : Core) → Leaves line mid new → new.placer ≡ mid.placer
left_placer line mid new (inl gone) = ap (λ (x : Core). x.placer) gone.1
left_placer line mid new (inr kept) = ap (λ (x : Core). x.placer) kept.1

left_window : (line : ℕ) (mid new : Core) → Leaves line mid new → new.window ≡ mid.window
left_window line mid new (inl gone) = ap (λ (x : Core). x.window) gone.1
left_window line mid new (inr kept) = ap (λ (x : Core). x.window) kept.1

left_copying : (line : ℕ) (mid new : Core) → Leaves line mid new → is_copying new ≡ is_copying mid
left_copying line mid new (inl gone) = ap (λ (x : Core). is_copying x) gone.1
left_copying line mid new (inr kept) = ap (λ (x : Core). is_copying x) kept.1

-- the line that an event frees
abbrev freed_line : EngineEvent → ℕ
freed_line (Free line) = line
freed_line e = 0

pub choose-requires : goal.choose-requires
choose-requires c =
    let is = c.requires.collecting in
    let line : ℕ = c.in_ok-line.line in
    let mid : Core = c.free_spent.new.self in
    let leaves : Leaves line mid c.if-eq.self = elim c.if-eq.branch [
      | then-eq w ↦ inl (its_line mid.collection.victim line (sym c.eq.ensures ∙ w.if-eq.true), w.self-is)
      | else-eq w ↦ inr (other_line mid.collection.victim line (sym c.eq.ensures ∙ w.if-eq.false), w.self-is)
    ] in
    let knows = length (log_of is.world 0) ∷ [] in
    record {
      tabled = tabled_by_logs c.args.self.now c.if-eq.self is (after (log_of is.world) (Free line) knows)
          (left_stands is.image _ line mid c.if-eq.self leaves (c.in_ok-line.ensures.stands is.image is.world knows is.legal is.stands refl))
          (left_count line mid c.if-eq.self leaves ∙ ap (λ (x : Core). length x.collection.lines) c.free_spent.ensures.rest)
          (λ other at_work. sym (ap (λ (x : Core). x.collection.victim) c.free_spent.ensures.rest) ∙ left_victim line mid c.if-eq.self leaves other at_work);
      barren = left_barren line mid c.if-eq.self leaves (barren_kept c.args.self.now mid is.collects.barren c.in_ok-line.ensures.brings
          (ap (λ (x : Core). x.collection.barren) c.free_spent.ensures.rest));
    }

pub returns-clause-stands : goal.returns-clause-stands
returns-clause-stands c = λ i w knows mount st own.
    let line : ℕ = c.in_ok-line.line in
    let mid : Core = c.free_spent.new.self in
    let leaves : Leaves line mid c.if-eq.self = elim c.if-eq.branch [
      | then-eq w ↦ inl (its_line mid.collection.victim line (sym c.eq.ensures ∙ w.if-eq.true), w.self-is)
      | else-eq w ↦ inr (other_line mid.collection.victim line (sym c.eq.ensures ∙ w.if-eq.false), w.self-is)
    ] in
    c.choose.ensures.stands i _ (left_stands i _ line mid c.if-eq.self leaves (c.in_ok-line.ensures.stands i w knows mount st own))

pub returns-clause-collects : goal.returns-clause-collects
returns-clause-collects c = λ i w knows mount st was own.
    let line : ℕ = c.in_ok-line.line in
    let old : Core = c.args.self.now in
    let mid : Core = c.free_spent.new.self in
    let left : Core = c.if-eq.self in
    let leaves : Leaves line mid left = elim c.if-eq.branch [
      | then-eq w ↦ inl (its_line mid.collection.victim line (sym c.eq.ensures ∙ w.if-eq.true), w.self-is)
      | else-eq w ↦ inr (other_line mid.collection.victim line (sym c.eq.ensures ∙ w.if-eq.false), w.self-is)
    ] in
    let now = left_stands i _ line mid left leaves (c.in_ok-line.ensures.stands i w knows mount st own) in
    let same_victim = ap (λ (x : Core). x.collection.victim) c.free_spent.ensures.rest in
    let count = left_count line mid left leaves ∙ ap (λ (x : Core). length x.collection.lines) c.free_spent.ensures.rest in
    let chose : HasChosen i (after (log_of w) (Free line) knows) left c.choose.new.self = record {
      stands = c.choose.ensures.stands i _ now;
      count = c.choose.ensures.count;
      victim = c.choose.ensures.victim i w _ mount now;
      passed = c.choose.ensures.passed (left_passed line mid left leaves
          (passed_same old mid was.passed (ap (λ (x : Core). x.map) c.free_spent.ensures.rest) (ap (λ (x : Core). x.collection) c.free_spent.ensures.rest)));
      barren = c.choose.ensures.barren;
      asked = c.choose.ensures.asked;
    } in
    elim leaves [
      | inl gone ↦ collected_freed old left c.choose.new.self i w line knows mount st was (sym same_victim ∙ gone.0) count
          (ap (λ (x : Core). x.collection.victim) gone.1) chose
      | inr kept ↦ collected old left c.choose.new.self i w (Free line) knows mount st was (λ t is. absurd (none-some t is))
          (λ other at_work freed. kept.0 (same_victim ∙ at_work ∙ ap (λ e. Some (freed_line e)) (sym freed))) count
          (ap (λ (x : Core). x.collection.victim) kept.1 ∙ same_victim) chose
    ]

pub returns-clause-kept : goal.returns-clause-kept
returns-clause-kept c =
    let line : ℕ = c.in_ok-line.line in
    let old : Core = c.args.self.now in
    let mid : Core = c.free_spent.new.self in
    let left : Core = c.if-eq.self in
    let leaves : Leaves line mid left = elim c.if-eq.branch [
      | then-eq w ↦ inl (its_line mid.collection.victim line (sym c.eq.ensures ∙ w.if-eq.true), w.self-is)
      | else-eq w ↦ inr (other_line mid.collection.victim line (sym c.eq.ensures ∙ w.if-eq.false), w.self-is)
    ] in
    let placer = left_placer line mid left leaves in
    kept_chosen old left c.choose.new.self
    (ap (λ (p : Placing). p.entries.pad) placer ∙ ap (λ (x : Core). pad_of x) c.free_spent.ensures.rest) c.choose.ensures.asked
    c.choose.ensures.rows c.choose.ensures.copying (ap (λ (p : Placing). p.units) placer ∙ ap (λ (x : Core). x.placer.units) c.free_spent.ensures.rest)
    (left_copying line mid left leaves ∙ ap (λ (x : Core). is_copying x) c.free_spent.ensures.rest)

pub returns-clause-window : goal.returns-clause-window
returns-clause-window c =
    let line : ℕ = c.in_ok-line.line in
    let mid : Core = c.free_spent.new.self in
    let leaves : Leaves line mid c.if-eq.self = elim c.if-eq.branch [
      | then-eq w ↦ inl (its_line mid.collection.victim line (sym c.eq.ensures ∙ w.if-eq.true), w.self-is)
      | else-eq w ↦ inr (other_line mid.collection.victim line (sym c.eq.ensures ∙ w.if-eq.false), w.self-is)
    ] in
    ap (λ (x : Core). x.window) c.choose.ensures.rest ∙ left_window line mid c.if-eq.self leaves ∙ ap (λ (x : Core). x.window) c.free_spent.ensures.rest

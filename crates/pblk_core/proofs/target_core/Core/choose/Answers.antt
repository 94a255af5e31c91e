use Rattle.std.proofs.Common.{◌≡◌, ℕ, true, false, not, None, Some, Option, refl, sym, subst, ap, ◌∙◌, if◌then◌else◌}
use Rattle.std.specs.Option.{is_some}
use Rattle.pblk_model.specs.Image.{Image}
use Rattle.pblk_world.specs.Space.{is_due}
use Rattle.pblk_world.specs.Victims.{next_victim}
use Rattle.pblk_world.specs.World.{Logs}
use Rattle.pblk_core.specs.declared.target_core.Core.{Core}
use Rattle.pblk_core.specs.Collecting.{victim_after}
use Rattle.pblk_core.specs.Stands.{Stands}
use Rattle.pblk_core.proofs.SmallCalls.{collecting_stands, padded_stands}
use Rattle.pblk_core.proofs.SmallGrant.{due_is}
use Rattle.pblk_core.proofs.target_core.Core.choose.Goals as goal
use Rattle.pblk_core.proofs.target_core.Core.choose.Goals.{then-is_none+then-is_due, else-is_none, else-is_none-via-then-is_none+else-is_due, else-is_none-via-else-is_none}

pub returns-clause-stands : goal.returns-clause-stands
returns-clause-stands c = λ i logs st. elim c.if-is_none.branch [
  | then-is_none+then-is_due w ↦
      let next : Core = w.next_victim-self.new.self in
      let after_choice : Stands i logs c.if-is_none.self =
      subst (Stands i logs) (sym w.self-is) (collecting_stands i logs next
      (record next.collection { victim = w.next_victim-self.result; cursor = 0 })
      (subst (Stands i logs) (sym w.next_victim-self.ensures.unchanged) (collecting_stands i logs c.args.self.now next.collection st))) in
      subst (Stands i logs) (sym c.ask_for_victim.ensures.unchanged)
      (padded_stands i logs c.if-is_none.self _ _ after_choice c.ask_for_victim.ensures.placer)
  | else-is_none w ↦
      subst (Stands i logs) (sym c.ask_for_victim.ensures.unchanged)
      (padded_stands i logs c.if-is_none.self _ _ (subst (Stands i logs) (sym w.self-is) st) c.ask_for_victim.ensures.placer)
]

-- ---- the victim

module _ (i : Image) (logs : Logs) where
  comes : (was : Option ℕ) → is_some was ≡ false → is_due i logs ≡ true → next_victim i logs ≡ victim_after i logs was
  comes None none due = sym (ap (λ b. if b then next_victim i logs else None) due)
  comes (Some line) none due = absurd cc

  waits : (was : Option ℕ) → is_some was ≡ false → is_due i logs ≡ false → was ≡ victim_after i logs was
  waits None none due = sym (ap (λ b. if b then next_victim i logs else None) due)
  waits (Some line) none due = absurd cc

  stays : (was : Option ℕ) → is_some was ≡ true → was ≡ victim_after i logs was
  stays None some = absurd cc
  stays (Some line) some = refl

pub returns-clause-victim : goal.returns-clause-victim
returns-clause-victim c = λ i world logs mount st.
    let was : Option ℕ = c.args.self.now.collection.victim in
    ap (λ (x : Core). x.collection.victim) c.ask_for_victim.ensures.unchanged
    ∙ elim c.if-is_none.branch [
      | then-is_none+then-is_due w ↦
          ap (λ (x : Core). x.collection.victim) w.self-is
          ∙ w.next_victim-self.ensures.victim i world logs mount st
          ∙ comes i logs was (c.is_none.ensures ∙ ap not w.if-is_none.true)
          (sym (due_is i logs c.args.self.now st) ∙ sym w.is_due.ensures.tables ∙ w.if-is_due.true)
      | else-is_none w ↦
          ap (λ (x : Core). x.collection.victim) w.self-is
          ∙ elim w.else-is_none.branch [
            | else-is_none-via-then-is_none+else-is_due v ↦
                waits i logs was (c.is_none.ensures ∙ ap not v.if-is_none.true)
                (sym (due_is i logs c.args.self.now st) ∙ sym v.is_due.ensures.tables ∙ v.if-is_due.false)
            | else-is_none-via-else-is_none v ↦ stays i logs was (c.is_none.ensures ∙ ap not v.if-is_none.false)
          ]
    ]

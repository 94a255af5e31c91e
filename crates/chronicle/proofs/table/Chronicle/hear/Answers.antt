use Rattle.std.proofs.Common.{◌<◌, List, ℕ, sym, ◌∙◌, subst, length}
use Rattle.chronicle.specs.Views.{View}
use Rattle.chronicle.specs.Rule.{IsHeard}
use Rattle.chronicle.proofs.Moves.{meets, hears}
use Rattle.chronicle.proofs.table.Chronicle.hear.Goals as goal

-- what a seat knows, and the slots that it holds
abbrev Me : Type 0
Me = View × List (ℕ × Unit {0})

pub join_seat-requires : goal.join_seat-requires
join_seat-requires c = (
  c.requires.of ∙ sym c.self.view_is,
  c.requires.other_of ∙ sym c.self.view_is,
  c.requires.other_rests,
  subst (λ t. 0 < t.words) (sym c.self.view_is) c.requires.words,
  meets _ _ _ _,
)

pub load-requires : goal.load-requires
load-requires c =
    let joined = c.join_seat.ensures in (
      joined.0 ∙ c.requires.of ∙ sym c.self.view_is,
      subst (λ t. 0 < t.words) (sym c.self.view_is) c.requires.words,
      hears _ _ _ _ _ (subst (λ (me : Me). 0 < length me.0.mine.known) (sym joined.2) c.requires.known)
          (subst (λ (me : Me). 0 < length me.0.heard.known) (sym joined.2) c.requires.other_known),
    )

pub returns-clause-own : goal.returns-clause-own
returns-clause-own c = (subst (λ (me : Me). IsHeard me.0.mine me.0.heard) c.join_seat.ensures.2 c.load.ensures.2.1).own

pub returns-clause-other_own : goal.returns-clause-other_own
returns-clause-other_own c = (subst (λ (me : Me). IsHeard me.0.mine me.0.heard) c.join_seat.ensures.2 c.load.ensures.2.1).heard_own

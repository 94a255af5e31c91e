-- A legal world with cuts of its units is legal, and the engine's log is the same.
use Rattle.std.proofs.Common.{◌≡◌, ◌≢◌, ℕ, ◌+◌, ◌≤◌, ◌==◌, suc, Bool, true, false, List, [], ◌∷◌, ◌++◌, take, length, refl, sym, subst, ap, ◌∙◌, arith, append-nil, append_assoc, length-append, if◌then◌else◌}
use Rattle.std.specs.List.{AllByRecursion, Contains}
use Rattle.std.proofs.lemmas.List.{take-append-le}
use Rattle.pblk_model.specs.Image.{Image}
use Rattle.pblk_world.specs.Events.{Logged, Step}
use Rattle.pblk_world.specs.World.{World, log_of, known, prefixes}
use Rattle.pblk_world.specs.Legal.{IsAllowed, IsLegalStep, IsLegal}
use Rattle.pblk_world.proofs.WorldLemmas.{log_here, log_elsewhere}
use Rattle.pblk_model.proofs.Numbers.{fun_same}
use Rattle.pblk_model.proofs.Tests.{same}
use Rattle.pblk_world.specs.LegalMounts.{IsLegalMount}
use Rattle.prefix_law.specs.Cuts.{AreCuts}

-- ---- logs with more steps

-- a log with more steps is the log and what these steps add
pub grown : (w : World) (steps : List Step) (author : ℕ) → (more : List Logged) × (log_of (steps ++ w) author ≡ log_of w author ++ more)
grown w [] author = ([], sym (append-nil (log_of w author)))
grown w (step ∷ steps) author = go (step.author == author) refl (grown w steps author)
  where
    go : (b : Bool) → (step.author == author) ≡ b → (more : List Logged) × (log_of (steps ++ w) author ≡ log_of w author ++ more)
        → (more : List Logged) × (log_of (step ∷ (steps ++ w)) author ≡ log_of w author ++ more)
    go true is rest = (
      rest.0 ++ step.logged ∷ [],
      log_here step (steps ++ w) author (same step.author author is) ∙ ap (λ (log : List Logged). log ++ step.logged ∷ []) rest.1
          ∙ append_assoc (log_of w author) rest.0 (step.logged ∷ []),
    )
    go false is rest = (rest.0, ap (λ b. if b then log_of (steps ++ w) author ++ step.logged ∷ [] else log_of (steps ++ w) author) is ∙ rest.1)

-- steps of other authors leave a log as it is
pub untouched : (w : World) (steps : List Step) (author : ℕ) → AllByRecursion (λ (other : Step). other.author ≢ author) steps
    → log_of (steps ++ w) author ≡ log_of w author
untouched w [] author others = refl
untouched w (step ∷ steps) author others = log_elsewhere step (steps ++ w) author others.0 ∙ untouched w steps author others.1

-- ---- a step that is legal stays so when other authors go on

prefixes_same : (l : Logged) (w : World) (steps : List Step) → ((other : ℕ) → known l other ≤ length (log_of w other))
    → prefixes l (log_of (steps ++ w)) ≡ prefixes l (log_of w)
prefixes_same l w steps within = fun_same (prefixes l (log_of (steps ++ w))) (prefixes l (log_of w)) (λ author.
    let more = grown w steps author in
    ap (take (known l author)) more.1 ∙ take-append-le (known l author) (log_of w author) more.0 (within author))

legal_later : (i : Image) (w : World) (steps : List Step) (step : Step) → AllByRecursion (λ (other : Step). other.author ≢ step.author) steps
    → IsLegalStep i (log_of w) step → IsLegalStep i (log_of (steps ++ w)) step
legal_later i w steps step others legal =
    let same : log_of (steps ++ w) step.author ≡ log_of w step.author = untouched w steps step.author others in record {
      author = legal.author;
      knowledge = record {
        authors = legal.knowledge.authors;
        own = legal.knowledge.own ∙ ap (λ (log : List Logged). length log) (sym same);
        within = λ other.
            let more = grown w steps other in
            let count : length (log_of (steps ++ w) other) ≡ length (log_of w other) + length more.0 =
            ap (λ (log : List Logged). length log) more.1 ∙ length-append (log_of w other) more.0 in
            let low : known step.logged other ≤ length (log_of w other) = legal.knowledge.within other in
            omega arith;
        rising = λ earlier other there. legal.knowledge.rising earlier other (subst (λ (log : List Logged). Contains log earlier) same there);
      };
      allowed = subst (IsAllowed i step.author step.logged.event) (sym (prefixes_same step.logged w steps legal.knowledge.within)) legal.allowed;
    }

-- ---- cuts

cuts_legal : (i : Image) (w : World) (steps : List Step) → IsLegal i w → AreCuts i w steps → IsLegal i (steps ++ w)
unfolding IsLegal AreCuts
cuts_legal i w [] legal cuts = legal
cuts_legal i w (step ∷ steps) legal cuts = (legal_later i w steps step cuts.1 cuts.0.1.legal, cuts_legal i w steps legal cuts.2)

pub cut_mount : (i : Image) (w : World) (steps : List Step) → IsLegalMount i w → AreCuts i w steps → IsLegalMount i (steps ++ w)
cut_mount i w steps mount cuts = record { accepted = mount.accepted; fit = mount.fit; legal = cuts_legal i w steps mount.legal cuts }

of_units : (i : Image) (w : World) (steps : List Step) → AreCuts i w steps → AllByRecursion (λ (step : Step). step.author ≢ 0) steps
unfolding AreCuts
of_units i w [] cuts = tt
of_units i w (step ∷ steps) cuts = (λ is. suc_zero cuts.0.0 (sym cuts.0.1.author ∙ is), of_units i w steps cuts.2)
  where
    suc_zero : (unit : ℕ) → suc unit ≡ 0 → ⊥
    suc_zero unit e = cc

-- the engine's log is the same
pub engine_uncut : (i : Image) (w : World) (steps : List Step) → AreCuts i w steps → log_of (steps ++ w) 0 ≡ log_of w 0
engine_uncut i w steps cuts = untouched w steps 0 (of_units i w steps cuts)

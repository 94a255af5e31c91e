-- The tickets with which a target begins.
use Rattle.std.proofs.Common.{◌≡◌, ℕ, ◌+◌, List, [], ◌∷◌, ◌++◌, map, refl, sym, subst, ap, ap₂, ◌∙◌, arith}
use Rattle.std.specs.List.{AllByRecursion, range_with_len}
use Rattle.std.proofs.lemmas.List.{map-append}
use Rattle.pblk_model.proofs.Lists.{all_front}
use Rattle.pblk_model.proofs.Maps.{range_last}
use Rattle.unit_port.specs.Unit.{ModelUnit}
use Rattle.block_port.specs.Own.{OwnWrite}
use Rattle.block_port.specs.declared.rows.DriveAnswer.{DriveAnswer}
use Rattle.block_port.specs.declared.rows.WornAnswer.{WornAnswer}
use Rattle.write_ring.specs.declared.view.Key.{Key}
use Rattle.write_ring.specs.declared.view.View.{View}
use Rattle.chronicle.specs.Views.{Past}
use Rattle.pblk_engine.specs.Workers.{WorkerView}
use Rattle.block_target.specs.MountFrames.{first_pass}
use Rattle.block_target.specs.Sessions.{IsSession, SessionView, session_view}
use Rattle.block_target.specs.Targets.{first_session, first_sessions, first_worker}

-- what holds for all holds for the last and for the others
pub both_hold : {X : Type 0} (P : X → Type 0) (old new : List X) (x : X) → old ≡ new ++ x ∷ [] → AllByRecursion P old → AllByRecursion P new × P x
both_hold P old new x is all = let parts = all_front P new (x ∷ []) (subst (AllByRecursion P) is all) in (parts.0, parts.1.0)

pub session_is : (past : Past) (key : Key) (number : ℕ) (worker : WorkerView) (pass : View) (own : List OwnWrite) (faults : List DriveAnswer)
    (worns : List WornAnswer) → worker ≡ first_worker past number → pass ≡ first_pass 1 key → own ≡ [] → faults ≡ [] → worns ≡ []
    → session_view worker pass 0 own faults worns ≡ first_session past key number
session_is past key number worker pass own faults worns a b d e f =
    ap (λ (x : WorkerView). session_view x pass 0 own faults worns) a
    ∙ ap (λ (x : View). session_view (first_worker past number) x 0 own faults worns) b
    ∙ ap (λ (x : List OwnWrite). session_view (first_worker past number) (first_pass 1 key) 0 x faults worns) d
    ∙ ap (λ (x : List DriveAnswer). session_view (first_worker past number) (first_pass 1 key) 0 [] x worns) e
    ∙ ap (λ (x : List WornAnswer). session_view (first_worker past number) (first_pass 1 key) 0 [] [] x) f

pub first_stands : (past : Past) (key : Key) (handed : List ModelUnit) (number : ℕ) (v : SessionView) → v ≡ first_session past key number
    → IsSession past handed 0 v
first_stands past key handed number v is = subst (IsSession past handed 0) (sym is) (record {
  part = record { shares = refl; claims = refl; puts = refl; whole = tt };
  small = omega arith;
  past_own = tt;
  rising = tt;
  written = refl;
  faults = refl;
  worns = tt;
})

-- one more was made
pub more_sessions : (past : Past) (key : Key) (n : ℕ) (before after : List SessionView) (v : SessionView) → before ≡ first_sessions past key n
    → v ≡ first_session past key n → after ≡ before ++ v ∷ [] → after ≡ first_sessions past key (n + 1)
more_sessions past key n before after v were new is =
    let at : n ≡ 0 + n = omega arith in
    is ∙ ap₂ (λ xs x. xs ++ x ∷ []) were (new ∙ ap (first_session past key) at)
    ∙ sym (map-append (first_session past key) (range_with_len 0 n) ((0 + n) ∷ [])) ∙ ap (map (first_session past key)) (sym (range_last 0 n))

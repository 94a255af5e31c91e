-- What each event of the engine keeps holds of its log in each legal world.
use Rattle.std.proofs.Common.{◌≡◌, ℕ, ◌==◌, Bool, true, Some, List, [], ◌∷◌, ◌++◌, length, take, refl, sym, subst, ap, ◌∙◌, if◌then◌else◌}
use Rattle.std.specs.Prelude.{false}
use Rattle.std.specs.List.{AllByRecursion}
use Rattle.std.proofs.Math.Seq.{take-length}
use Rattle.std.proofs.lemmas.Bool.{eqb-true}
use Rattle.pblk_model.specs.Image.{Image}
use Rattle.pblk_world.specs.Events.{Beginning, EngineEvent, Begin, Event, Decides, Does, Logged, Step}
use Rattle.pblk_world.specs.World.{World, Logs, log_of, known, prefixes}
use Rattle.pblk_world.specs.EngineLog.{Begun, begun}
use Rattle.pblk_world.specs.Opening.{MayBegin}
use Rattle.pblk_world.specs.Legal.{IsLegal, IsLegalStep, IsAllowed, IsDecision}
use Rattle.pblk_model.proofs.Lists.{all_front}

-- It holds of the empty log and of one that begins, and each allowed event that passes the test
-- keeps it.
pub record IsKept (i : Image) (test : Event → Bool) (P : List Logged → Type 0) : Type 0 where
  pub empty : P []
  pub first : (known : Logs) (b : Beginning) (knows : List ℕ) → MayBegin i known b → P (record { event = Decides (Begin b); knows = knows } ∷ [])
  pub next : (known : Logs) (log : List Logged) (beginning : Begun) (e : EngineEvent) (knows : List ℕ) → begun log ≡ Some beginning → known 0 ≡ log
      → test (Decides e) ≡ true → IsDecision i known beginning e → P log → P (log ++ record { event = Decides e; knows = knows } ∷ [])

kept_next : (i : Image) (test : Event → Bool) (P : List Logged → Type 0) → IsKept i test P → (known : Logs) (log : List Logged) (e : Event) (knows : List ℕ)
    → known 0 ≡ log → test e ≡ true → IsAllowed i 0 e known → P log
    → P (log ++ record { event = e; knows = knows } ∷ [])
kept_next i test P keeps known log (Decides (Begin b)) knows own passes may was =
    subst (λ (xs : List Logged). P (xs ++ record { event = Decides (Begin b); knows = knows } ∷ [])) (sym may.is_first ∙ own) (keeps.first known b knows may)
kept_next i test P keeps known log (Decides e) knows own passes may was = keeps.next known log may.0 e knows (ap begun (sym own) ∙ may.1) own passes may.2 was
kept_next i test P keeps known log (Does e maker) knows own passes may was = absurd may

kept_by : (i : Image) (test : Event → Bool) (P : List Logged → Type 0) → IsKept i test P → (s : Step) (w : World) → IsLegalStep i (log_of w) s
    → (AllByRecursion (λ (l : Logged). test l.event ≡ true) (log_of w 0) → P (log_of w 0))
    → (b : Bool) → (s.author == 0) ≡ b → AllByRecursion (λ (l : Logged). test l.event ≡ true) (if b then log_of w 0 ++ s.logged ∷ [] else log_of w 0)
    → P (if b then log_of w 0 ++ s.logged ∷ [] else log_of w 0)
kept_by i test P keeps s w step was false e all = was all
kept_by i test P keeps s w step was true e all =
    let engine : s.author ≡ 0 = eqb-true s.author 0 e in
    let parts = all_front (λ (l : Logged). test l.event ≡ true) (log_of w 0) (s.logged ∷ []) all in
    let own : known s.logged 0 ≡ length (log_of w 0) = subst (λ a. known s.logged a ≡ length (log_of w a)) engine step.knowledge.own in
    let whole : prefixes s.logged (log_of w) 0 ≡ log_of w 0 = ap (λ n. take n (log_of w 0)) own ∙ take-length (log_of w 0) in
    kept_next i test P keeps (prefixes s.logged (log_of w)) (log_of w 0) s.logged.event s.logged.knows whole parts.1.0
    (subst (λ a. IsAllowed i a s.logged.event (prefixes s.logged (log_of w))) engine step.allowed) (was parts.0)

pub kept : (i : Image) (test : Event → Bool) (P : List Logged → Type 0) → IsKept i test P → (w : World) → IsLegal i w
    → AllByRecursion (λ (l : Logged). test l.event ≡ true) (log_of w 0) → P (log_of w 0)
unfolding IsLegal
kept i test P keeps [] legal all = keeps.empty
kept i test P keeps (s ∷ w) legal all = kept_by i test P keeps s w legal.0 (kept i test P keeps w legal.1) (s.author == 0) refl all

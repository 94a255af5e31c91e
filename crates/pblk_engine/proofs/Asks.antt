-- A pad target that only victims at work raised stays so as the engine's log grows.
use Rattle.std.proofs.Common.{◌≡◌, ◌⊎◌, inl, inr, ℕ, ◌+◌, ◌-◌, ◌<◌, ◌≤◌, max, zero, suc, List, ◌∷◌, ◌++◌, length, take, sym, subst, ap, ap₂, ◌∙◌, arith, le_refl, le_trans, length-append}
use Rattle.std.specs.Prelude.{slice_get}
use Rattle.std.proofs.lemmas.Bool.{cases_lt}
use Rattle.std.proofs.lemmas.List.{take-append-le}
use mathlib.Core.List.{IsPrefix}
use Rattle.pblk_model.specs.Image.{Image}
use Rattle.pblk_model.proofs.Numbers.{fun_same}
use Rattle.pblk_model.proofs.Parts.{get_first}
use Rattle.pblk_world.specs.AtRest.{knows_last, logs_at, pad_target}
use Rattle.pblk_world.specs.Events.{EngineEvent, Decides, Logged}
use Rattle.pblk_world.specs.Legal.{MayDecide}
use Rattle.pblk_world.specs.LegalMounts.{IsLegalMount}
use Rattle.pblk_world.specs.World.{World, Logs, log_of}
use Rattle.world_laws.specs.SameTold.{AreSameNamed}
use Rattle.world_laws.proofs.GrownLogs.{at_named}
use Rattle.step_laws.specs.Whole.{engine_step}
use Rattle.write_ring.specs.declared.view.View.{View}
use Rattle.pblk_core.specs.Copies.{victim_asks}
use Rattle.pblk_core.specs.Named.{pad_of}
use Rattle.pblk_core.specs.declared.target_core.Core.{Core}
use Rattle.chronicle.specs.Handles.{AuthorView}
use Rattle.chronicle.specs.Views.{Past}
use Rattle.chronicle.specs.Prefixes.{logs_of, with_event}
use Rattle.pblk_engine.specs.Asks.{IsRaisedByVictims, VictimAsked}
use Rattle.pblk_engine.specs.Hearts.{HasDecided, IsBeating, Parts}
use Rattle.pblk_engine.proofs.Decisions.{its_mount, legal_next}
use Rattle.pblk_engine.proofs.HeartSteps.{IsAfter, long, whole_decided}
use Rattle.pblk_engine.proofs.Knowledge.{known_next}
use Rattle.pblk_engine.proofs.PadsAsked.{asks_at_most}
use Rattle.pblk_engine.proofs.Settles.{is_zero}

-- ---- at an earlier length

-- The logs are the same at each length up to that of the first.
abbrev AreSameAt : Logs → Logs → Type 0
AreSameAt a b = (length (a 0) ≤ length (b 0)) × ((n : ℕ) → 0 < n → n ≤ length (a 0) → logs_at n b ≡ logs_at n a)

victim_less : (i : Image) (a b : Logs) (upto less : ℕ) → AreSameAt a b → less ≤ upto → VictimAsked i a (length (a 0)) upto → VictimAsked i b (length (b 0)) less
victim_less i a b upto less same low was = record {
  at = was.at;
  has_begun = was.has_begun;
  within = le_trans was.within same.0;
  asks = subst (λ (logs : Logs). less ≤ pad_target i logs 0) (sym (same.1 was.at was.has_begun was.within)) (le_trans low was.asks);
}

-- first by these logs, and then by those
raised_twice : (i : Image) (a b : Logs) (p q r : ℕ) → AreSameAt a b → IsRaisedByVictims i a p q → IsRaisedByVictims i b q r → IsRaisedByVictims i b p r
raised_twice i a b p q r same first (inr then) = inr then
raised_twice i a b p q r same (inl low) (inl more) = inl (le_trans more low)
raised_twice i a b p q r same (inr was) (inl more) = inr (victim_less i a b q r same more was)

-- ---- as units go on

-- units' logs are longer
pub raised_named : (i : Image) (a b : Logs) (p q : ℕ) → AreSameNamed a b → IsRaisedByVictims i a p q → IsRaisedByVictims i b p q
raised_named i a b p q named (inl low) = inl low
raised_named i a b p q named (inr was) =
    inr (victim_less i a b q q (same_length named.own, λ n some within. at_named a b n named) (le_refl q) was)
  where
    same_length : b 0 ≡ a 0 → length (a 0) ≤ length (b 0)
    same_length own = subst (λ (log : List Logged). length (a 0) ≤ length log) (sym own) (le_refl (length (a 0)))

-- ---- as the engine decides more

-- at an earlier length the logs stay as they were
same_at : (x y : AuthorView) → HasDecided x y → AreSameAt (logs_of x.known) (logs_of y.known)
same_at x y decided = (
  subst (λ (log : List Logged). length (a 0) ≤ length log) more.1 (longer (length (a 0 ++ more.0)) (length (a 0)) (length more.0) (length-append (a 0) more.0)),
  λ n some within. fun_same (logs_at n b) (logs_at n a) (each n some within),
)
  where
    a : Logs
    a = logs_of x.known

    b : Logs
    b = logs_of y.known

    more : IsPrefix (a 0) (b 0)
    more = decided.keeps.each 0

    longer : (n m k : ℕ) → n ≡ m + k → m ≤ n
    longer n m k is = omega (arith, is)

    each : (n : ℕ) → 0 < n → n ≤ length (a 0) → (author : ℕ) → logs_at n b author ≡ logs_at n a author
    each n some within zero = ap (take n) (sym more.1) ∙ take-append-le n (a 0) more.0 within
    each n some within (suc unit) =
        ap₂ (λ o (log : List Logged). take (knows_last o (suc unit)) log)
        (ap (λ (log : List Logged). slice_get log (n - 1)) (sym more.1) ∙ get_first (a 0) more.0 (n - 1) (omega arith)) (decided.units unit)

pub raised_none : (i : Image) (logs : Logs) (p q : ℕ) → q ≡ p → IsRaisedByVictims i logs p q
raised_none i logs p q same = inl (omega (arith, same))

pub raised_then : (i : Image) (x y : AuthorView) (p q r : ℕ) → HasDecided x y → IsRaisedByVictims i (logs_of x.known) p q
    → IsRaisedByVictims i (logs_of y.known) q r → IsRaisedByVictims i (logs_of y.known) p r
raised_then i x y p q r decided = raised_twice i (logs_of x.known) (logs_of y.known) p q r (same_at x y decided)

-- in two steps of a mount's engine
pub raised_next : (x y : AuthorView) (p q r : ℕ) → HasDecided x y → IsRaisedByVictims x.past.image (logs_of x.known) p q
    → IsRaisedByVictims y.past.image (logs_of y.known) q r → IsRaisedByVictims y.past.image (logs_of y.known) p r
raised_next x y p q r decided first =
    raised_then y.past.image x y p q r decided
    (subst (λ (o : Past). IsRaisedByVictims o.image (logs_of x.known) p q) (sym (ap (λ (a : AuthorView). a.past) decided.same)) first)

-- the same of the mount's image
pub raised_since : (past : Past) (x y : AuthorView) (p q : ℕ) → x.past ≡ past → HasDecided x y → IsRaisedByVictims y.past.image (logs_of y.known) p q
    → IsRaisedByVictims past.image (logs_of y.known) p q
raised_since past x y p q since decided =
    subst (λ (o : Past). IsRaisedByVictims o.image (logs_of y.known) p q) (ap (λ (a : AuthorView). a.past) decided.same ∙ since)

-- ---- one step of a core

module _ (i : Image) (w : World) (e : EngineEvent) (before : IsLegalMount i w) (mount : IsLegalMount i (engine_step i.shape e w ∷ w)) where
  pub raised_after : (old new : Core) (v v' : View) → IsAfter i w e old new v v'
      → IsRaisedByVictims i (log_of (engine_step i.shape e w ∷ w)) (pad_of old) (pad_of new)
  raised_after old new v v' is = go (cases_lt (pad_of old) (pad_of new))
    where
      later : World
      later = engine_step i.shape e w ∷ w

      go : (pad_of old < pad_of new) ⊎ (pad_of new ≤ pad_of old) → IsRaisedByVictims i (log_of later) (pad_of old) (pad_of new)
      go (inr low) = inl low
      go (inl more) = inr (record {
        at = length (log_of later 0);
        has_begun = let n : length (log_of later 0) ≡ length (log_of w 0) + 1 = long i w e in omega arith;
        within = le_refl (length (log_of later 0));
        asks = subst (λ (logs : Logs). pad_of new ≤ pad_target i logs 0) (sym (whole_decided i w e before))
            (let most : pad_of new ≤ max (pad_of old) (victim_asks new) = is.pads in
            let asks : victim_asks new ≤ pad_target i (log_of later) 0 = asks_at_most i later new mount is.stands is.collects in
            omega arith);
      })

pub raised_appended : (h : Parts) (b : IsBeating h) (e : EngineEvent) (a : AuthorView)
    → a ≡ record h.author { known = with_event h.author.known h.author.number (Decides e) } → (new : Core) (v : View)
    → MayDecide h.author.past.image (logs_of h.author.known) e → IsAfter h.author.past.image b.legal.world e h.core new h.intake v
    → IsRaisedByVictims a.past.image (logs_of a.known) (pad_of h.core) (pad_of new)
raised_appended h b e a appended new v may is =
    subst (λ (x : AuthorView). IsRaisedByVictims x.past.image (logs_of x.known) (pad_of h.core) (pad_of new)) (sym (is_zero h b e a appended))
    (subst (λ (logs : Logs). IsRaisedByVictims h.author.past.image logs (pad_of h.core) (pad_of new))
    (sym (known_next h.author.past.image h.author.known b.legal e))
    (raised_after h.author.past.image b.legal.world e (its_mount h b) (legal_next h b e may) h.core new h.intake v is))

-- ---- a flush asks

-- the greater of what was asked for and what this asks for
pub raised_asked : (i : Image) (logs : Logs) (asked pad to : ℕ) → IsRaisedByVictims i logs asked pad → IsRaisedByVictims i logs (max asked to) (max pad to)
raised_asked i logs asked pad to (inl low) = inl (omega arith)
raised_asked i logs asked pad to (inr was) = go (cases_lt pad to)
  where
    go : (pad < to) ⊎ (to ≤ pad) → IsRaisedByVictims i logs (max asked to) (max pad to)
    go (inl more) = inl (omega arith)
    go (inr less) = inr (record { at = was.at; has_begun = was.has_begun; within = was.within; asks = le_trans (omega arith) was.asks })

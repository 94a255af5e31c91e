-- The logs at a length of the engine's log: they say what the engine had been told then.
use Rattle.std.proofs.Common.{◌≡◌, ◌⊎◌, inl, inr, ℕ, ◌-◌, ◌<◌, ◌≤◌, zero, suc, Some, List, [], ◌++◌, append-nil, length, take, refl, sym, subst, ap, ap₂, ◌∙◌, arith, length-take, take_all, ◌+◌, drop, length-append, Option}
use Rattle.std.specs.Prelude.{slice_get}
use Rattle.std.specs.List.{Contains}
use Rattle.std.proofs.lemmas.Bool.{cases_order}
use Rattle.std.proofs.lemmas.List.{take-take}
use Rattle.std.proofs.lemmas.Option.{same_Some}
use Rattle.std.specs.Option.{option_map_or}
use Rattle.pblk_model.specs.Image.{Image}
use Rattle.pblk_world.specs.AtRest.{knows_last, logs_at}
use Rattle.pblk_world.specs.Events.{Logged}
use Rattle.pblk_world.specs.Legal.{IsLegal}
use Rattle.pblk_world.specs.Lines.{found_image}
use Rattle.pblk_world.specs.Victims.{engine_prefix, stays_at_work, victim}
use Rattle.pblk_world.specs.World.{World, Logs, log_of, known}
use Rattle.pblk_world.proofs.VictimsLemmas.{whole_prefix}
use Rattle.pblk_world.specs.EngineLog.{Begun, takes}
use Rattle.pblk_world.specs.Fronts.{first_position, taken}
use Rattle.pblk_world.proofs.EngineLogLemmas.{begun_taken}
use Rattle.pblk_model.proofs.Lists.{among_contained}
use Rattle.pblk_model.proofs.Numbers.{fun_same}
use Rattle.pblk_model.proofs.Parts.{get_taken, get_whole_within, got_within, is_in, take_and_drop}
use Rattle.world_laws.specs.SameTold.{AreSameTold}
use Rattle.world_laws.proofs.Made.{IsMade, known_part, log_then, made, own_then}
use Rattle.world_laws.proofs.ToldImages.{found_at}
use Rattle.world_laws.proofs.ToldSince.{same_told, told_up_to}
use Rattle.world_laws.proofs.ToldTables.{victim_told}
use Rattle.world_laws.proofs.Later.{takes_joined}

-- ---- the first position and the front taken, at a length

pub first_at : (log : List Logged) (n : ℕ) → 0 < n → first_position (take n log) ≡ first_position log
first_at log n some = ap (λ (b : Option Begun). option_map_or (λ (x : Begun). x.beginning.first) b 0) (begun_taken n log some)

-- more events took no fewer entries
pub takes_rise : (log : List Logged) (a b : ℕ) → a ≤ b → length (takes (take a log)) ≤ length (takes (take b log))
takes_rise log a b below =
    let parts : take a log ++ drop a (take b log) ≡ take b log =
    ap (λ (xs : List Logged). xs ++ drop a (take b log)) (sym (take-take a b log below)) ∙ take_and_drop a (take b log) in
    let count : length (takes (take b log)) ≡ length (takes (take a log)) + length (takes (drop a (take b log))) =
    ap length (ap takes (sym parts) ∙ takes_joined (take a log) (drop a (take b log)))
    ∙ length-append (takes (take a log)) (takes (drop a (take b log))) in
    omega arith

pub taken_rises : (log : List Logged) (a b : ℕ) → 0 < a → a ≤ b → taken (take a log) ≤ taken (take b log)
taken_rises log a b some below =
    let rise : length (takes (take a log)) ≤ length (takes (take b log)) = takes_rise log a b below in
    let first_a : first_position (take a log) ≡ first_position log = first_at log a some in
    let first_b : first_position (take b log) ≡ first_position log = first_at log b (omega arith) in
    omega arith

-- ---- the logs at a length

-- what an event knew, a later one of the engine knew too
known_later : (i : Image) (w : World) (k m unit : ℕ) (l last : Logged) → IsLegal i w → slice_get (log_of w 0) k ≡ Some l
    → slice_get (log_of w 0) m ≡ Some last → k ≤ m → known l unit ≤ known last unit
known_later i w k m unit l last legal there at below = go (cases_order k m)
  where
    go : (k ≡ m) ⊎ ((k < m) ⊎ (m < k)) → known l unit ≤ known last unit
    go (inl same) =
        let one : l ≡ last = same_Some l last (sym there ∙ ap (slice_get (log_of w 0)) same ∙ at) in
        let alike : known l unit ≡ known last unit = ap (λ (x : Logged). known x unit) one in
        omega arith
    go (inr (inl before)) =
        let h : IsMade i w 0 m last = made i w 0 m last legal at in
        h.step.knowledge.rising l unit (subst (λ (xs : List Logged). Contains xs l) (sym (own_then i w 0 m last h))
        (is_in (take m (log_of w 0)) k l (get_taken m (log_of w 0) k before ∙ there)))
    go (inr (inr after)) = absurd (omega arith)

-- ---- a world as it was when the engine's log had a length

pub record IsWorldAt (i : Image) (w : World) (n : ℕ) : Type 0 where
  pub world : World
  pub legal : IsLegal i world
  pub own : log_of world 0 ≡ take n (log_of w 0)
  pub told : AreSameTold i (log_of world) (engine_prefix n (log_of w))
  -- each of its logs is a part of what is now
  pub grown : (author : ℕ) → (more : List Logged) × (log_of w author ≡ log_of world author ++ more)
  -- of each unit what an event of that length knew
  pub units : (unit : ℕ) (l : Logged) → Contains (log_of world 0) l
      → take (known l (suc unit)) (log_of w (suc unit)) ≡ take (known l (suc unit)) (log_of world (suc unit))

pub world_at : (i : Image) (w : World) (n : ℕ) → IsLegal i w → n ≤ length (log_of w 0) → IsWorldAt i w n
world_at i w n legal within = go (cases_order n (length (log_of w 0)))
  where
    go : (n ≡ length (log_of w 0)) ⊎ ((n < length (log_of w 0)) ⊎ (length (log_of w 0) < n)) → IsWorldAt i w n
    go (inr (inr above)) = absurd (omega arith)
    go (inl whole) = record {
      world = w;
      legal = legal;
      own = sym (take_all n (log_of w 0) (omega arith));
      told = subst (AreSameTold i (log_of w)) (sym (ap (λ m. engine_prefix m (log_of w)) whole ∙ whole_prefix (log_of w)))
          (record { own = refl; found = refl; told = λ unit l there. refl });
      grown = λ author. ([], sym (append-nil (log_of w author)));
      units = λ unit l there. refl;
    }
    go (inr (inl below)) =
        let at = got_within (log_of w 0) n below in
        let h : IsMade i w 0 n at.0 = made i w 0 n at.0 legal at.1 in
        record {
          world = h.before;
          legal = h.legal;
          own = own_then i w 0 n at.0 h;
          told = told_up_to i w n at.0 h;
          grown = λ author. log_then i w 0 n at.0 h author;
          units = λ unit l there. known_part i w 0 n (suc unit) at.0 l h there;
        }

-- the logs at that length say what the engine had been told
pub told_at : (i : Image) (w : World) (n : ℕ) (legal : IsLegal i w) (within : n ≤ length (log_of w 0)) (v : IsWorldAt i w n)
    → AreSameTold i (log_of v.world) (logs_at n (log_of w))
told_at i w n legal within v = same_told i v.world (logs_at n (log_of w)) v.legal (record {
  own = sym v.own;
  named = λ unit l there.
      take-take (known l (suc unit)) (knows_last (slice_get (log_of w 0) (n - 1)) (suc unit)) (log_of w (suc unit)) (knew unit l there)
      ∙ v.units unit l there;
})
  where
    knew : (unit : ℕ) (l : Logged) → Contains (log_of v.world 0) l
        → known l (suc unit) ≤ knows_last (slice_get (log_of w 0) (n - 1)) (suc unit)
    knew unit l there =
        let at = among_contained (take n (log_of w 0)) l (subst (λ (xs : List Logged). Contains xs l) v.own there) in
        let from = get_whole_within n (log_of w 0) at.0 l at.1 in
        let last = got_within (log_of w 0) (n - 1) (omega arith) in
        let below : known l (suc unit) ≤ known last.0 (suc unit) =
        known_later i w at.0 (n - 1) (suc unit) l last.0 legal from.0 last.1 (omega arith) in
        let same : knows_last (slice_get (log_of w 0) (n - 1)) (suc unit) ≡ known last.0 (suc unit) =
        ap (λ o. knows_last o (suc unit)) last.1 in
        omega arith

-- of a length up to it they are the same
module _ (i : Image) (w : World) (n a : ℕ) (legal : IsLegal i w) (within : n ≤ length (log_of w 0)) (some : 0 < a) (low : a ≤ n) where
  abbrev u : IsWorldAt i w n
  u = world_at i w n legal within

  inside : a ≤ length (log_of (world_at i w n legal within).world 0)
  inside = let count : length (log_of u.world 0) ≡ length (take n (log_of w 0)) = ap length u.own in omega (arith, within, length-take n (log_of w 0), low)

  last : (l : Logged) × (slice_get (log_of (world_at i w n legal within).world 0) (a - 1) ≡ Some l)
  last = got_within (log_of u.world 0) (a - 1) (omega (arith, inside, some))

  at : slice_get (log_of w 0) (a - 1) ≡ Some last.0
  at = sym (get_taken n (log_of w 0) (a - 1) (omega (arith, some, low))) ∙ ap (λ (xs : List Logged). slice_get xs (a - 1)) (sym u.own) ∙ last.1

  each : (author : ℕ) → logs_at a (log_of (world_at i w n legal within).world) author ≡ logs_at a (log_of w) author
  each zero = ap (take a) u.own ∙ take-take a n (log_of w 0) low
  each (suc unit) =
      ap (λ o. take (knows_last o (suc unit)) (log_of u.world (suc unit))) last.1
      ∙ sym (u.units unit last.0 (is_in (log_of u.world 0) (a - 1) last.0 last.1))
      ∙ ap (λ o. take (knows_last o (suc unit)) (log_of w (suc unit))) (sym at)

  pub logs_same : logs_at a (log_of (world_at i w n legal within).world) ≡ logs_at a (log_of w)
  logs_same = fun_same (logs_at a (log_of u.world)) (logs_at a (log_of w)) each

-- the image that the mount found
pub found_then_at : (i : Image) (w : World) (n : ℕ) → IsLegal i w → 0 < n → n ≤ length (log_of w 0)
    → found_image i (logs_at n (log_of w)) ≡ found_image i (log_of w)
found_then_at i w n legal some within =
    let v : IsWorldAt i w n = world_at i w n legal within in
    (told_at i w n legal within v).found ∙ sym v.told.found ∙ found_at i (log_of w) n some

-- ---- the victim at work

-- only the engine's log up to a length says which line was at work there
pub victim_then : (i : Image) (logs : Logs) (n m : ℕ) → m ≤ n → victim i (engine_prefix n logs) m ≡ victim i logs m
unfolding victim
victim_then i logs n zero below = refl
victim_then i logs n (suc m) below = ap₂ (stays_at_work i) twice (victim_then i logs n m (omega arith))
  where
    each : (author : ℕ) → engine_prefix (suc m) (engine_prefix n logs) author ≡ engine_prefix (suc m) logs author
    each zero = take-take (suc m) n (logs zero) below
    each (suc unit) = refl

    twice : engine_prefix (suc m) (engine_prefix n logs) ≡ engine_prefix (suc m) logs
    twice = fun_same (engine_prefix (suc m) (engine_prefix n logs)) (engine_prefix (suc m) logs) each

pub victim_at : (i : Image) (w : World) (n : ℕ) → IsLegal i w → n ≤ length (log_of w 0)
    → victim i (logs_at n (log_of w)) n ≡ victim i (log_of w) n
victim_at i w n legal within =
    let v : IsWorldAt i w n = world_at i w n legal within in
    victim_told i (log_of v.world) (logs_at n (log_of w)) (told_at i w n legal within v) n
    ∙ sym (victim_told i (log_of v.world) (engine_prefix n (log_of w)) v.told n)
    ∙ victim_then i (log_of w) n n (omega arith)

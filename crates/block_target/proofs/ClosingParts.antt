-- What tickets hand over: their workers, and their parts of the ring.
use Rattle.std.proofs.Common.{◌≡◌, ◌⊎◌, inl, inr, ℕ, ◌+◌, ◌<◌, ◌≤◌, zero, suc, Some, List, [], ◌∷◌, ◌++◌, length, length-append, refl, sym, subst, ap, ◌∙◌, arith}
use Rattle.std.specs.Prelude.{map, slice_get}
use Rattle.std.specs.List.{AllByRecursion, flat_map}
use Rattle.std.proofs.lemmas.Grind.{flat_map-append}
use Rattle.std.proofs.lemmas.Option.{none-some, same_Some}
use lib.ListN.{get_elem?}
use mathlib.Core.Option.{some, some-injective}
use Rattle.pblk_model.specs.RingState.{between, covers}
use Rattle.pblk_model.proofs.Lists.{IsAmong, among_more}
use Rattle.pblk_model.proofs.Parts.{get_last}
use Rattle.pblk_model.proofs.Maps.{from_map, in_map}
use Rattle.unit_port.specs.Unit.{ModelUnit}
use Rattle.block_port.specs.ByPlace.{ThreadWrite, all_lines, covered}
use Rattle.block_port.specs.Own.{OwnWrite, PlacedSector, lines_of}
use Rattle.write_ring.specs.declared.view.Part.{Part}
use Rattle.write_ring.specs.declared.view.Row.{Row}
use Rattle.write_ring.proofs.ClaimLists.{covers_both}
use Rattle.chronicle.specs.Views.{Past}
use Rattle.pblk_engine.specs.Workers.{WorkerView}
use Rattle.prefix_law.proofs.Among.{behind, of_both}
use Rattle.block_target.specs.Closes.{IsKept, joined, with_workers, writes_from}
use Rattle.block_target.specs.Sessions.{SessionView, claim_of, row_of}

-- ---- workers

pub some_workers : (ws : List WorkerView) (ts : List SessionView) → 0 < length ts → 0 < length (with_workers ws ts)
some_workers ws [] some_ts = absurd (omega arith)
some_workers ws (t ∷ ts) some_ts = let long : length (with_workers ws ts ++ t.worker ∷ []) ≡ length (with_workers ws ts) + 1 =
    length-append (with_workers ws ts) (t.worker ∷ []) in omega arith

-- a ticket's worker is among them
pub worker_there : (ws : List WorkerView) (ts : List SessionView) (k : ℕ) (t : SessionView) → slice_get ts k ≡ Some t → IsAmong (with_workers ws ts) t.worker
worker_there ws [] k t there = absurd (none-some t there)
worker_there ws (x ∷ ts) zero t there =
    (length (with_workers ws ts), get_last (with_workers ws ts) x.worker ∙ ap (λ (y : SessionView). Some y.worker) (same_Some x t there))
worker_there ws (x ∷ ts) (suc k) t there = among_more (with_workers ws ts) (x.worker ∷ []) t.worker (worker_there ws ts k t there)

pub other_there : (ws : List WorkerView) (ts : List SessionView) (k : ℕ) (w : WorkerView) → slice_get ws k ≡ Some w → IsAmong (with_workers ws ts) w
other_there ws [] k w there = (k, there)
other_there ws (x ∷ ts) k w there = among_more (with_workers ws ts) (x.worker ∷ []) w (other_there ws ts k w there)

-- ---- parts of the ring

module _ (past : Past) (handed : List ModelUnit) where
  pub shares_are : (p : Part) (ts : List SessionView) → AllByRecursion (IsKept past handed) ts → (joined p ts).shares ≡ p.shares + length ts
  shares_are p [] kept = omega arith
  shares_are p (t ∷ ts) kept =
      let rest : (joined p ts).shares ≡ p.shares + length ts = shares_are p ts kept.1 in
      let one : t.part.shares ≡ 1 = kept.0.session.part.shares in
      omega arith

  covers_own : (x thread : ℕ) (own : List OwnWrite) → covers x (map claim_of own) ≡ covered x (map (λ w. record { thread = thread; write = w }) own)
  covers_own x thread [] = refl
  covers_own x thread (w ∷ own) = ap (λ n. between w.place.first (w.place.first + w.place.count) x + n) (covers_own x thread own)

  covered_both : (x : ℕ) (a b : List ThreadWrite) → covered x (a ++ b) ≡ covered x a + covered x b
  covered_both x [] b = let none : covered x b ≡ 0 + covered x b = omega arith in none
  covered_both x (w ∷ a) b =
      let rest : covered x (a ++ b) ≡ covered x a + covered x b = covered_both x a b in
      omega arith

  -- the claims are the places of the sessions' writes
  pub claims_are : (p : Part) (ts : List SessionView) (x thread : ℕ) → p.claims ≡ [] → AllByRecursion (IsKept past handed) ts
      → covers x (joined p ts).claims ≡ covered x (writes_from thread ts)
  claims_are p [] x thread none kept = ap (covers x) none
  claims_are p (t ∷ ts) x thread none kept =
      let own : List ThreadWrite = map (λ w. record { thread = thread; write = w }) t.own in
      let both : covers x ((joined p ts).claims ++ t.part.claims) ≡ covers x (joined p ts).claims + covers x t.part.claims =
      covers_both x (joined p ts).claims t.part.claims in
      let rest : covers x (joined p ts).claims ≡ covered x (writes_from (suc thread) ts) = claims_are p ts x (suc thread) none kept.1 in
      let its : covers x t.part.claims ≡ covered x own = ap (covers x) kept.0.session.part.claims ∙ covers_own x thread t.own in
      let all : covered x (own ++ writes_from (suc thread) ts) ≡ covered x own + covered x (writes_from (suc thread) ts) =
      covered_both x own (writes_from (suc thread) ts) in
      omega arith

  -- those of one session are among them
  pub claims_of : (p : Part) (ts : List SessionView) (k x : ℕ) (t : SessionView) → AllByRecursion (IsKept past handed) ts → slice_get ts k ≡ Some t
      → covers x (map claim_of t.own) ≤ covers x (joined p ts).claims
  claims_of p [] k x t kept there = absurd (none-some t there)
  claims_of p (y ∷ ts) zero x t kept there =
      let both : covers x ((joined p ts).claims ++ y.part.claims) ≡ covers x (joined p ts).claims + covers x y.part.claims =
      covers_both x (joined p ts).claims y.part.claims in
      let its : covers x y.part.claims ≡ covers x (map claim_of t.own) =
      ap (covers x) kept.0.session.part.claims ∙ ap (λ (z : SessionView). covers x (map claim_of z.own)) (same_Some y t there) in
      omega arith
  claims_of p (y ∷ ts) (suc k) x t kept there =
      let both : covers x ((joined p ts).claims ++ y.part.claims) ≡ covers x (joined p ts).claims + covers x y.part.claims =
      covers_both x (joined p ts).claims y.part.claims in
      let rest : covers x (map claim_of t.own) ≤ covers x (joined p ts).claims = claims_of p ts k x t kept.1 there in
      omega arith

  -- ---- what was put

  lines_own : (thread : ℕ) (own : List OwnWrite) → all_lines (map (λ w. record { thread = thread; write = w }) own) ≡ flat_map lines_of own
  lines_own thread [] = refl
  lines_own thread (w ∷ own) = ap (λ (ls : List PlacedSector). lines_of w ++ ls) (lines_own thread own)

  pub lines_here : (thread : ℕ) (t : SessionView) (ts : List SessionView)
      → all_lines (writes_from thread (t ∷ ts)) ≡ flat_map lines_of t.own ++ all_lines (writes_from (suc thread) ts)
  lines_here thread t ts =
      flat_map-append (λ (w : ThreadWrite). lines_of w.write) (map (λ w. record { thread = thread; write = w }) t.own) (writes_from (suc thread) ts)
      ∙ ap (λ (ls : List PlacedSector). ls ++ all_lines (writes_from (suc thread) ts)) (lines_own thread t.own)

  -- each line of the sessions' writes was put
  pub line_put : (p : Part) (ts : List SessionView) (thread : ℕ) (line : PlacedSector) → AllByRecursion (IsKept past handed) ts
      → IsAmong (all_lines (writes_from thread ts)) line → IsAmong (joined p ts).puts (row_of line)
  line_put p [] thread line kept (k, there) = absurd (none-some line there)
  line_put p (t ∷ ts) thread line kept there =
      by (line_put p ts (suc thread) line kept.1)
      (of_both (flat_map lines_of t.own) (all_lines (writes_from (suc thread) ts)) line
      (subst (λ (ls : List PlacedSector). IsAmong ls line) (lines_here thread t ts) there))
    where
      by : (IsAmong (all_lines (writes_from (suc thread) ts)) line → IsAmong (joined p ts).puts (row_of line))
          → IsAmong (flat_map lines_of t.own) line ⊎ IsAmong (all_lines (writes_from (suc thread) ts)) line
          → IsAmong ((joined p ts).puts ++ t.part.puts) (row_of line)
      by rest (inl own) = behind (joined p ts).puts t.part.puts (row_of line)
          (subst (λ (rs : List Row). IsAmong rs (row_of line)) (sym kept.0.session.part.puts) (in_map row_of (flat_map lines_of t.own) line own))
      by rest (inr later) = among_more (joined p ts).puts t.part.puts (row_of line) (rest later)

  -- and each row that was put is such a line
  pub put_line : (p : Part) (ts : List SessionView) (thread : ℕ) (r : Row) → p.puts ≡ [] → AllByRecursion (IsKept past handed) ts
      → IsAmong (joined p ts).puts r → (line : PlacedSector) × IsAmong (all_lines (writes_from thread ts)) line × (row_of line ≡ r)
  put_line p [] thread r none kept there = absurd (none-some r (ap (λ (rs : List Row). slice_get rs there.0) (sym none) ∙ there.1))
  put_line p (t ∷ ts) thread r none kept there =
      by (put_line p ts (suc thread) r none kept.1) (of_both (joined p ts).puts t.part.puts r there)
    where
      Here : ℕ → List SessionView → Type 0
      Here from ts = (line : PlacedSector) × IsAmong (all_lines (writes_from from ts)) line × (row_of line ≡ r)

      by : (IsAmong (joined p ts).puts r → Here (suc thread) ts) → IsAmong (joined p ts).puts r ⊎ IsAmong t.part.puts r → Here thread (t ∷ ts)
      by rest (inl earlier) =
          let was = rest earlier in (
            was.0,
            subst (λ (ls : List PlacedSector). IsAmong ls was.0) (sym (lines_here thread t ts))
                (behind (flat_map lines_of t.own) (all_lines (writes_from (suc thread) ts)) was.0 was.1),
            was.2,
          )
      by rest (inr own) =
          let was = from_map row_of (flat_map lines_of t.own) r (subst (λ (rs : List Row). IsAmong rs r) kept.0.session.part.puts own) in (
            was.0,
            subst (λ (ls : List PlacedSector). IsAmong ls was.0) (sym (lines_here thread t ts))
                (among_more (flat_map lines_of t.own) (all_lines (writes_from (suc thread) ts)) was.0 was.1),
            was.2,
          )

-- ---- the two ways to look into a list

pub get_among : {X : Type 0} (xs : List X) (i : ℕ) (x : X) → get_elem? xs i ≡ some x → IsAmong xs x
get_among [] i x there = absurd cc
get_among (y ∷ xs) zero x there = (0, ap Some (some-injective y x there))
get_among (y ∷ xs) (suc i) x there = let rest = get_among xs i x there in (suc rest.0, rest.1)

pub among_get : {X : Type 0} (xs : List X) (k : ℕ) (x : X) → slice_get xs k ≡ Some x → get_elem? xs k ≡ some x
among_get [] k x there = absurd (none-some x there)
among_get (y ∷ xs) zero x there = ap some (same_Some y x there)
among_get (y ∷ xs) (suc k) x there = among_get xs k x there

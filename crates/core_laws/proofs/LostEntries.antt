-- The entries of a stripe that was lost wait again, each by its position among those that were lost.
use Rattle.std.proofs.Common.{◌≡◌, ◌⊎◌, inl, inr, ℕ, ◌<◌, ◌==◌, ◌&&◌, ◌||◌, zero, suc, not, nat_eq, nat_lt, nat_le, Bool, true, false, cond, Some, List, [], ◌∷◌, ◌++◌, length, refl, sym, subst, ap, ap₂, ◌∙◌, arith}
use Rattle.std.specs.Prelude.{slice_get}
use Rattle.std.specs.List.{AllByRecursion, filter, fold}
use Rattle.std.proofs.lemmas.Option.{same_Some, none-some}
use Rattle.pblk_model.specs.declared.shape.Shape.{Shape}
use Rattle.pblk_world.specs.Events.{Logged}
use Rattle.pblk_world.specs.EngineLog.{Taken, takes, Placed, placements, answer_of, is_loss, was_lost, holds_position}
use Rattle.pblk_world.specs.Fronts.{times_placed, was_placed, waits}
use Rattle.stripe_placer.specs.Entries.{Entries, with_entry}
use Rattle.core_laws.specs.PlacerOf.{positions_of, positions_in_stripe, fresh_entries, entries_of}
use Rattle.core_laws.proofs.HeldOnce.{HeldOnce}
use Rattle.core_laws.proofs.LostStripe.{IsOneLost}
use Rattle.core_laws.proofs.NextTakes.{IsRising}
use Rattle.core_laws.proofs.Placed.{any_counts, is_in_list, stripe_holds}
use Rattle.core_laws.proofs.PlacedAnew.{holders_lost}
use Rattle.core_laws.proofs.PlacedInOrder.{HasEntries}
use Rattle.pblk_model.proofs.Lists.{IsAmong, all_imply, among_all}
use Rattle.pblk_model.proofs.Maps.{any_member, filter_agree, filter_same}
use Rattle.pblk_model.proofs.Parts.{all_at}
use Rattle.pblk_model.proofs.Tests.{not_both, or_no, or_true, other_number, same_number}

-- ---- one element more passes a test

-- tests of a list, joined
abbrev either_of : (Taken → Bool) → ℕ → Taken → Bool
either_of f q u = f u || nat_eq u.entry.position q

-- none of these is at the position
none_at : (f : Taken → Bool) (q : ℕ) (ts : List Taken) → AllByRecursion (λ (u : Taken). q < u.entry.position) ts
    → filter (either_of f q) ts ≡ filter f ts
none_at f q ts above = filter_agree (λ (u : Taken). q < u.entry.position) (either_of f q) f
    (λ u more. ap (λ b. f u || b) (other_number u.entry.position q (λ e. apart u.entry.position e more)) ∙ or_no (f u)) ts above
  where
    apart : (n : ℕ) → n ≡ q → q < n → ⊥
    apart n e more = omega arith

-- of those above a position none is below it, and all are at it or above
low_none : (f : Taken → Bool) (q : ℕ) (ts : List Taken) → AllByRecursion (λ (u : Taken). q < u.entry.position) ts
    → filter (λ m. nat_lt m q) (positions_of (filter f ts)) ≡ []
low_none f q [] above = refl
low_none f q (t ∷ ts) above = go (f t) (low_none f q ts above.1)
  where
    here : nat_lt t.entry.position q ≡ false
    here = let more : q < t.entry.position = above.0 in grind arith

    go : (b : Bool) → filter (λ m. nat_lt m q) (positions_of (filter f ts)) ≡ []
        → filter (λ m. nat_lt m q) (positions_of (cond b (t ∷ filter f ts) (filter f ts))) ≡ []
    go true rest = ap (λ b. cond b (t.entry.position ∷ filter (λ m. nat_lt m q) (positions_of (filter f ts)))
        (filter (λ m. nat_lt m q) (positions_of (filter f ts)))) here ∙ rest
    go false rest = rest

high_all : (f : Taken → Bool) (q : ℕ) (ts : List Taken) → AllByRecursion (λ (u : Taken). q < u.entry.position) ts
    → filter (λ m. nat_le q m) (positions_of (filter f ts)) ≡ positions_of (filter f ts)
high_all f q [] above = refl
high_all f q (t ∷ ts) above = go (f t) (high_all f q ts above.1)
  where
    here : nat_le q t.entry.position ≡ true
    here = let more : q < t.entry.position = above.0 in grind arith

    go : (b : Bool) → filter (λ m. nat_le q m) (positions_of (filter f ts)) ≡ positions_of (filter f ts)
        → filter (λ m. nat_le q m) (positions_of (cond b (t ∷ filter f ts) (filter f ts))) ≡ positions_of (cond b (t ∷ filter f ts) (filter f ts))
    go true rest = ap (λ b. cond b (t.entry.position ∷ filter (λ m. nat_le q m) (positions_of (filter f ts)))
        (filter (λ m. nat_le q m) (positions_of (filter f ts)))) here ∙ ap (λ qs. t.entry.position ∷ qs) rest
    go false rest = rest

-- a list with a position by its place
abbrev with_position : ℕ → List ℕ → List ℕ
with_position q qs = filter (λ m. nat_lt m q) qs ++ q ∷ filter (λ m. nat_le q m) qs

by_place : (f : Taken → Bool) (t : Taken) (ts : List Taken) (k : ℕ) → IsRising ts → slice_get ts k ≡ Some t → f t ≡ false
    → positions_of (filter (either_of f t.entry.position) ts) ≡ with_position t.entry.position (positions_of (filter f ts))
by_place f t [] k rise at fails = absurd (none-some t at)
by_place f t (u ∷ ts) zero rise at fails =
    let same : u ≡ t = same_Some u t at in
    let above : AllByRecursion (λ (v : Taken). t.entry.position < v.entry.position) ts =
    all_imply (λ (v : Taken). u.entry.position < v.entry.position) (λ (v : Taken). t.entry.position < v.entry.position)
    (λ v less. subst_less v (ap (λ (x : Taken). x.entry.position) same) less) ts rise.0 in
    ap (λ b. positions_of (cond b (u ∷ filter (either_of f t.entry.position) ts) (filter (either_of f t.entry.position) ts)))
    (ap (λ b. f u || b) (ap (λ (x : Taken). nat_eq x.entry.position t.entry.position) same ∙ same_number t.entry.position) ∙ or_true (f u))
    ∙ ap₂ (λ n qs. n ∷ qs) (ap (λ (x : Taken). x.entry.position) same) (ap positions_of (none_at f t.entry.position ts above))
    ∙ sym (ap (λ b. with_position t.entry.position (positions_of (cond b (u ∷ filter f ts) (filter f ts)))) (ap f same ∙ fails)
    ∙ ap₂ (λ xs ys. xs ++ t.entry.position ∷ ys) (low_none f t.entry.position ts above) (high_all f t.entry.position ts above))
  where
    subst_less : (v : Taken) → u.entry.position ≡ t.entry.position → u.entry.position < v.entry.position → t.entry.position < v.entry.position
    subst_less v e less = omega arith
by_place f t (u ∷ ts) (suc k) rise at fails = go (f u) (by_place f t ts k rise.1 at fails)
  where
    below : u.entry.position < t.entry.position
    below = all_at (λ (v : Taken). u.entry.position < v.entry.position) ts k t at rise.0

    apart : nat_eq u.entry.position t.entry.position ≡ false
    apart = other_number u.entry.position t.entry.position (λ e. no e below)
      where
        no : u.entry.position ≡ t.entry.position → u.entry.position < t.entry.position → ⊥
        no e less = omega arith

    low : nat_lt u.entry.position t.entry.position ≡ true
    low = let less : u.entry.position < t.entry.position = below in grind arith

    high : nat_le t.entry.position u.entry.position ≡ false
    high = let less : u.entry.position < t.entry.position = below in grind arith

    go : (b : Bool) → positions_of (filter (either_of f t.entry.position) ts) ≡ with_position t.entry.position (positions_of (filter f ts))
        → positions_of (cond (b || nat_eq u.entry.position t.entry.position) (u ∷ filter (either_of f t.entry.position) ts)
        (filter (either_of f t.entry.position) ts)) ≡ with_position t.entry.position (positions_of (cond b (u ∷ filter f ts) (filter f ts)))
    go true rest =
        ap (λ qs. u.entry.position ∷ qs) rest
        ∙ sym (ap₂ (λ a b. cond a (u.entry.position ∷ filter (λ m. nat_lt m t.entry.position) (positions_of (filter f ts)))
        (filter (λ m. nat_lt m t.entry.position) (positions_of (filter f ts)))
        ++ t.entry.position ∷ cond b (u.entry.position ∷ filter (λ m. nat_le t.entry.position m) (positions_of (filter f ts)))
        (filter (λ m. nat_le t.entry.position m) (positions_of (filter f ts)))) low high)
    go false rest = ap (λ b. positions_of (cond b (u ∷ filter (either_of f t.entry.position) ts) (filter (either_of f t.entry.position) ts))) apart ∙ rest

-- ---- several more

-- each of these waits again
abbrev pub waiting_again : Entries → List ℕ → Entries
waiting_again e qs = fold (λ es q. with_entry es q true) e qs

abbrev made : List ℕ → List ℕ → ℕ → Entries
made lost fresh pad = record { lost = lost; fresh = fresh; pad = pad }

all_by_place : (f : Taken → Bool) (ts us : List Taken) (fresh : List ℕ) (pad : ℕ) → IsRising us → IsRising ts → AllByRecursion (IsAmong us) ts
    → AllByRecursion (λ (t : Taken). f t ≡ false) ts
    → made (positions_of (filter (λ u. f u || is_in_list (positions_of ts) u.entry.position) us)) fresh pad
    ≡ waiting_again (made (positions_of (filter f us)) fresh pad) (positions_of ts)
all_by_place f [] us fresh pad rise own among fails =
    ap (λ (xs : List Taken). made (positions_of xs) fresh pad) (filter_same (λ u. f u || false) f (λ u. or_no (f u)) us)
all_by_place f (t ∷ ts) us fresh pad rise own among fails =
    let q : ℕ = t.entry.position in
    ap (λ (xs : List Taken). made (positions_of xs) fresh pad)
    (filter_same (λ u. f u || is_in_list (positions_of (t ∷ ts)) u.entry.position)
    (λ u. either_of f t.entry.position u || is_in_list (positions_of ts) u.entry.position)
    (λ u. turned (f u) (nat_eq t.entry.position u.entry.position) (nat_eq u.entry.position t.entry.position)
    (is_in_list (positions_of ts) u.entry.position) (turned_number t.entry.position u.entry.position)) us)
    ∙ all_by_place (either_of f t.entry.position) ts us fresh pad rise own.1 among.1
    (all_both ts own.0 fails.1)
    ∙ ap (λ qs. waiting_again (made qs fresh pad) (positions_of ts)) (by_place f t us among.0.0 rise among.0.1 fails.0)
  where
    turned : (a b c d : Bool) → b ≡ c → (a || (b || d)) ≡ ((a || c) || d)
    turned true b c d e = refl
    turned false b c d e = ap (λ x. x || d) e

    turned_number : (m n : ℕ) → nat_eq m n ≡ nat_eq n m
    turned_number m n = grind arith

    all_both : (xs : List Taken) → AllByRecursion (λ (u : Taken). t.entry.position < u.entry.position) xs → AllByRecursion (λ (u : Taken). f u ≡ false) xs
        → AllByRecursion (λ (u : Taken). either_of f t.entry.position u ≡ false) xs
    all_both [] a b = tt
    all_both (x ∷ xs) a b = (
      ap₂ (λ c d. c || d) b.0 (let more : t.entry.position < x.entry.position = a.0 in other_number x.entry.position t.entry.position (λ e. no x e more)),
      all_both xs a.1 b.1,
    )
      where
        no : (x : Taken) → x.entry.position ≡ t.entry.position → t.entry.position < x.entry.position → ⊥
        no x e more = omega arith

-- ---- what waits

placed_same : (s : Shape) (log new : List Logged) (p : Placed) (t : Taken) → IsOneLost log new p → was_placed s new t ≡ was_placed s log t
placed_same s log new p t is = ap (λ ps. nat_lt 0 (length (filter (holds_position s t.entry.position) ps))) is.stripes

waits_lost : (s : Shape) (log : List Logged) (t : Taken) → Bool
waits_lost s log t = waits s log t && was_placed s log t

-- an entry that it holds didn't wait
not_yet : (s : Shape) (log new : List Logged) (p : Placed) (t : Taken) → IsOneLost log new p → holds_position s t.entry.position p ≡ true
    → waits s log t ≡ false
not_yet s log new p t is holds = go (waits s log t) refl
  where
    go : (b : Bool) → waits s log t ≡ b → b ≡ false
    go false e = refl
    go true e =
        absurd (not_both (was_lost log p)
        (all_at (λ (r : Placed). holds_position s t.entry.position r ≡ true → was_lost log r ≡ true) (placements log) is.among.0 p is.among.1
        (holders_lost s log t e) holds) (ap is_loss is.before))

-- and waits now
waits_now : (s : Shape) (log new : List Logged) (p : Placed) (t : Taken) → HeldOnce s log → IsOneLost log new p
    → holds_position s t.entry.position p ≡ true → waits s new t ≡ true
waits_now s log new p t once is holds =
    ap (λ n. times_placed s new t == n)
    (ap length (filter_agree (λ (r : Placed). holds_position s t.entry.position r ≡ true → was_lost new r ≡ true)
    (λ r. was_lost new r && holds_position s t.entry.position r) (holds_position s t.entry.position)
    (λ r lost. by (was_lost new r) (holds_position s t.entry.position r) lost) (placements new) all))
    ∙ same_number (times_placed s new t)
  where
    by : (a b : Bool) → (b ≡ true → a ≡ true) → (a && b) ≡ b
    by true b lost = refl
    by false true lost = lost refl
    by false false lost = refl

    each : (r : Placed) → IsAmong (placements log) r → (r ≡ p) ⊎ (answer_of new r ≡ answer_of log r) → holds_position s t.entry.position r ≡ true
        → was_lost new r ≡ true
    each r among (inl same) held = ap (was_lost new) same ∙ is.lost
    each r among (inr kept) held = go (was_lost log r) refl
      where
        go : (b : Bool) → was_lost log r ≡ b → was_lost new r ≡ true
        go true e = ap is_loss kept ∙ e
        go false e = ap (was_lost new) (once t.entry.position r p among is.among held holds e (ap is_loss is.before)) ∙ is.lost

    all : AllByRecursion (λ (r : Placed). holds_position s t.entry.position r ≡ true → was_lost new r ≡ true) (placements new)
    all = subst (AllByRecursion (λ (r : Placed). holds_position s t.entry.position r ≡ true → was_lost new r ≡ true)) (sym is.stripes)
        (all_imply (IsAmong (placements log)) (λ (r : Placed). holds_position s t.entry.position r ≡ true → was_lost new r ≡ true)
        (λ r among. each r among (all_at (λ (r : Placed). (r ≡ p) ⊎ (answer_of new r ≡ answer_of log r)) (placements log) among.0 r among.1 is.others))
        (placements log) (among_all (placements log)))

-- of another it is as before
waits_same : (s : Shape) (log new : List Logged) (p : Placed) (t : Taken) → IsOneLost log new p → holds_position s t.entry.position p ≡ false
    → waits s new t ≡ waits s log t
waits_same s log new p t is beside =
    ap₂ (λ m n. m == n) (ap (λ ps. length (filter (holds_position s t.entry.position) ps)) is.stripes)
    (ap (λ ps. length (filter (λ r. was_lost new r && holds_position s t.entry.position r) ps)) is.stripes
    ∙ ap length (filter_agree (λ (r : Placed). (r ≡ p) ⊎ (answer_of new r ≡ answer_of log r))
    (λ r. was_lost new r && holds_position s t.entry.position r) (λ r. was_lost log r && holds_position s t.entry.position r)
    (λ r either. each r either) (placements log) is.others))
  where
    each : (r : Placed) → (r ≡ p) ⊎ (answer_of new r ≡ answer_of log r)
        → (was_lost new r && holds_position s t.entry.position r) ≡ (was_lost log r && holds_position s t.entry.position r)
    each r (inl same) = none (was_lost new r) (was_lost log r) (holds_position s t.entry.position r) (ap (holds_position s t.entry.position) same ∙ beside)
      where
        none : (a b c : Bool) → c ≡ false → (a && c) ≡ (b && c)
        none true true c e = refl
        none true false c e = e
        none false true c e = sym e
        none false false c e = refl
    each r (inr kept) = ap (λ a. is_loss a && holds_position s t.entry.position r) kept

lost_now : (s : Shape) (log new : List Logged) (p : Placed) (t : Taken) → HeldOnce s log → IsOneLost log new p
    → (waits s new t && was_placed s new t) ≡ ((waits s log t && was_placed s log t) || holds_position s t.entry.position p)
lost_now s log new p t once is = go (holds_position s t.entry.position p) refl
  where
    go : (b : Bool) → holds_position s t.entry.position p ≡ b → (waits s new t && was_placed s new t) ≡ ((waits s log t && was_placed s log t) || b)
    go true e =
        let placed : was_placed s log t ≡ true = any_counts (holds_position s t.entry.position) (placements log)
        ∙ any_member (holds_position s t.entry.position) (placements log) is.among.0 p is.among.1 e in
        ap₂ (λ a b. a && b) (waits_now s log new p t once is e) (placed_same s log new p t is ∙ placed) ∙ sym (or_true (waits s log t && was_placed s log t))
    go false e = ap₂ (λ a b. a && b) (waits_same s log new p t is e) (placed_same s log new p t is) ∙ sym (or_no (waits s log t && was_placed s log t))

pub entries_lost : (s : Shape) (log new : List Logged) (p : Placed) (pad : ℕ) → HeldOnce s log → IsRising (takes log) → takes new ≡ takes log
    → (its : HasEntries s log p.stripe) → IsOneLost log new p
    → entries_of s new pad ≡ waiting_again (entries_of s log pad) (positions_in_stripe s p.stripe)
entries_lost s log new p pad once rise same its is =
    ap₂ (λ xs ys. made (positions_of xs) (positions_of ys) pad)
    (ap (filter (λ t. waits s new t && was_placed s new t)) same
    ∙ filter_same (λ t. waits s new t && was_placed s new t)
    (λ t. (waits s log t && was_placed s log t) || is_in_list (positions_of its.entries) t.entry.position)
    (λ t. lost_now s log new p t once is ∙ ap (λ b. (waits s log t && was_placed s log t) || b)
    (stripe_holds s t.entry.position p ∙ ap (λ qs. is_in_list qs t.entry.position) its.positions)) (takes log))
    (ap (filter (λ t. not (was_placed s new t))) same
    ∙ filter_same (λ t. not (was_placed s new t)) (λ t. not (was_placed s log t)) (λ t. ap not (placed_same s log new p t is)) (takes log))
    ∙ all_by_place (λ t. waits s log t && was_placed s log t) its.entries (takes log) (positions_of (fresh_entries s log)) pad rise its.rising its.among
    (all_held its.entries (λ q e. stripe_holds s q p ∙ ap (λ qs. is_in_list qs q) its.positions ∙ e))
    ∙ ap (waiting_again (entries_of s log pad)) (sym its.positions)
  where
    held_first : (t : Taken) (ts : List Taken) → is_in_list (positions_of (t ∷ ts)) t.entry.position ≡ true
    held_first t ts = ap (λ b. b || is_in_list (positions_of ts) t.entry.position) (same_number t.entry.position)

    all_held : (ts : List Taken) → ((q : ℕ) → is_in_list (positions_of ts) q ≡ true → holds_position s q p ≡ true)
        → AllByRecursion (λ (t : Taken). (waits s log t && was_placed s log t) ≡ false) ts
    all_held [] holds = tt
    all_held (t ∷ ts) holds = (
      ap (λ b. b && was_placed s log t) (not_yet s log new p t is (holds t.entry.position (held_first t ts))),
      all_held ts (λ q e. holds q (ap (λ b. nat_eq t.entry.position q || b) e ∙ or_true (nat_eq t.entry.position q))),
    )

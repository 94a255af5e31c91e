-- A tree of winners: what a write changes in it, and that its root names the best of all.
use Rattle.std.proofs.Common.{ℕ, zero, suc, ◌≡◌, ◌≢◌, ◌⊎◌, inl, inr, ◌+◌, ◌-◌, ◌*◌, ◌/◌, ◌^◌, ◌<◌, ◌≤◌, List, Option, Some, None, length, replicate, refl, sym, ap, subst, ◌∙◌, take, drop, ◌++◌, arith}
use Rattle.std.proofs.Math.Seq.{take-append_seam}
use Rattle.std.proofs.lemmas.Bool.{cases_eq, cases_lt}
use Rattle.std.proofs.lemmas.Bool.Decides.{nat_tests}
use Rattle.std.proofs.lemmas.List.{get_or-set_same, get_or-set_other, length-set, get_or-replicate, get_or_past, length-replicate}
use Rattle.std.proofs.lemmas.Option.{slice_get-get_or, get_or_from_slice_get, slice_get_within, same_Some, none-some}
use Rattle.std.specs.List.{slice_index_or, slice_set}
use Rattle.victim_index.specs.declared.candidate.Candidate.{Candidate}
use Rattle.victim_index.specs.declared.held.Held.{Held}
use Rattle.victim_index.specs.Choice.{IsPreferred, AreLevel, Holds, HoldsNone, IsBest}
use Rattle.victim_index.specs.Tournament.{IsNoWorse, IsOver, IsWinner, entrant, node, IsWonAt, AreWonBut, IsTournament}

pub node_inner : (rows : List (Option Candidate)) (ws : List (Option Held)) (at : ℕ) → at < length ws → node rows ws at ≡ slice_index_or ws at None
unfolding node
node_inner rows ws at low = grind (arith, nat_tests)

pub node_leaf : (rows : List (Option Candidate)) (ws : List (Option Held)) (at line : ℕ) → at ≡ length ws + line
    → node rows ws at ≡ entrant line (slice_index_or rows line None)
unfolding node
node_leaf rows ws at line is = let e : at - length ws ≡ line = omega arith in rw e (grind (arith, nat_tests))

-- a write of another node leaves this one
node_other : (rows : List (Option Candidate)) (ws : List (Option Held)) (at : ℕ) (w : Option Held) (i : ℕ) → i ≢ at
    → node rows (slice_set ws at w) i ≡ node rows ws i
node_other rows ws at w i other = go (cases_lt i (length ws))
  where
    long : length (slice_set ws at w) ≡ length ws
    long = length-set ws at w

    go : (i < length ws) ⊎ (length ws ≤ i) → node rows (slice_set ws at w) i ≡ node rows ws i
    go (inl low) = node_inner rows (slice_set ws at w) i (omega (arith, long)) ∙ get_or-set_other ws at i w None other ∙ sym (node_inner rows ws i low)
    go (inr high) = node_leaf rows (slice_set ws at w) i (i - length ws) (omega (arith, long)) ∙ sym (node_leaf rows ws i (i - length ws) (omega arith))

-- a write of another line leaves a node
node_row : (rows : List (Option Candidate)) (ws : List (Option Held)) (line : ℕ) (x : Option Candidate) (i : ℕ) → i ≢ length ws + line
    → node (slice_set rows line x) ws i ≡ node rows ws i
node_row rows ws line x i other = go (cases_lt i (length ws))
  where
    go : (i < length ws) ⊎ (length ws ≤ i) → node (slice_set rows line x) ws i ≡ node rows ws i
    go (inl low) = node_inner (slice_set rows line x) ws i low ∙ sym (node_inner rows ws i low)
    go (inr high) =
        node_leaf (slice_set rows line x) ws i (i - length ws) (omega arith)
        ∙ ap (entrant (i - length ws)) (get_or-set_other rows line (i - length ws) x None (λ e. other (omega arith)))
        ∙ sym (node_leaf rows ws i (i - length ws) (omega arith))

same_winner : (a a' b b' w w' : Option Held) → a ≡ a' → b ≡ b' → w ≡ w' → IsWinner a b w → IsWinner a' b' w'
same_winner a a' b b' w w' p q r h = subst (λ x. IsWinner x b' w') p (subst (λ x. IsWinner a x w') q (subst (λ x. IsWinner a b x) r h))

-- Where a node names the better of its children's lines anew, perhaps the node above it doesn't.
pub settled : (rows : List (Option Candidate)) (ws : List (Option Held)) (at : ℕ) (w : Option Held) → 1 ≤ at → at < length ws
    → IsWinner (node rows ws (2 * at)) (node rows ws (2 * at + 1)) w → AreWonBut rows ws at → AreWonBut rows (slice_set ws at w) (at / 2)
settled rows ws at w pos low won but i above below other = go (cases_eq i at)
  where
    long : length (slice_set ws at w) ≡ length ws
    long = length-set ws at w

    left : node rows ws (2 * i) ≡ node rows (slice_set ws at w) (2 * i)
    left = sym (node_other rows ws at w (2 * i) (λ e. other (omega arith)))

    right : node rows ws (2 * i + 1) ≡ node rows (slice_set ws at w) (2 * i + 1)
    right = sym (node_other rows ws at w (2 * i + 1) (λ e. other (omega arith)))

    go : (i ≡ at) ⊎ (i ≡ at → ⊥) → IsWonAt rows (slice_set ws at w) i
    go (inl e) = same_winner _ _ _ _ _ _ (ap (λ n. node rows ws (2 * n)) (sym e) ∙ left) (ap (λ n. node rows ws (2 * n + 1)) (sym e) ∙ right)
        (sym (get_or-set_same ws at w None low) ∙ ap (λ n. slice_index_or (slice_set ws at w) n None) (sym e)) won
    go (inr ne) = same_winner _ _ _ _ _ _ left right (sym (get_or-set_other ws at i w None ne)) (but i above (omega (arith, long)) ne)

-- Where a node names what it named before, all nodes do.
pub stands : (rows : List (Option Candidate)) (ws : List (Option Held)) (at : ℕ) (w : Option Held) → w ≡ slice_index_or ws at None
    → IsWinner (node rows ws (2 * at)) (node rows ws (2 * at + 1)) w → AreWonBut rows ws at → AreWonBut rows ws 0
stands rows ws at w same won but i above below other = go (cases_eq i at)
  where
    go : (i ≡ at) ⊎ (i ≡ at → ⊥) → IsWonAt rows ws i
    go (inl e) = subst (IsWonAt rows ws) (sym e) (same_winner _ _ _ _ _ _ refl refl same won)
    go (inr ne) = but i above below ne

-- After a line's row was written, perhaps the node above the line doesn't.
pub written : (rows : List (Option Candidate)) (ws : List (Option Held)) (line : ℕ) (x : Option Candidate)
    → ((at : ℕ) → 1 ≤ at → at < length ws → IsWonAt rows ws at) → AreWonBut (slice_set rows line x) ws ((length ws + line) / 2)
written rows ws line x won i pos low other =
    same_winner _ _ _ _ _ _ (sym (node_row rows ws line x (2 * i) (λ e. other (omega arith))))
    (sym (node_row rows ws line x (2 * i + 1) (λ e. other (omega arith))))
    refl (won i pos low)

no_row : (n k : ℕ) → slice_index_or (replicate {A = Option Candidate} n None) k None ≡ None
no_row n k = go (cases_lt k n)
  where
    go : (k < n) ⊎ (n ≤ k) → slice_index_or (replicate {A = Option Candidate} n None) k None ≡ None
    go (inl low) = get_or-replicate n k None None low
    go (inr high) = get_or_past (replicate n None) k None (rw length-replicate high)

-- nothing is held
pub blank : (n : ℕ) → n < 2 ^ 32 → IsTournament (replicate n None) (replicate n None)
blank n few = record {
  few = rw length-replicate few;
  same = length-replicate n None ∙ sym (length-replicate n None);
  won = λ i pos low. let inside : i < n = rw length-replicate at low in
      same_winner _ _ _ _ _ _ (sym (none (2 * i))) (sym (none (2 * i + 1))) (sym (get_or-replicate n i None None inside))
      (record { one_of = inl refl; over_left = tt; over_right = tt });
}
  where
    none : (i : ℕ) → node (replicate n None) (replicate n None) i ≡ None
    none i = go (cases_lt i n)
      where
        go : (i < n) ⊎ (n ≤ i) → node (replicate n None) (replicate n None) i ≡ None
        go (inl low) = node_inner (replicate n None) (replicate n None) i (rw length-replicate low) ∙ get_or-replicate n i None None low
        go (inr high) = node_leaf (replicate n None) (replicate n None) i (i - n) (rw length-replicate (omega arith)) ∙ ap (entrant (i - n)) (no_row n (i - n))

over_refl : (w : Option Held) → IsOver w w
over_refl None = tt
over_refl (Some h) = inr ((refl, refl, refl), omega arith)

over_trans : (a b c : Option Held) → IsOver a b → IsOver b c → IsOver a c
over_trans a b None p q = tt
over_trans a None (Some z) p q = absurd q
over_trans None (Some y) (Some z) p q = absurd p
over_trans (Some x) (Some y) (Some z) p q = no_worse x y z p q
  where
    no_worse : (x y z : Held) → IsNoWorse x y → IsNoWorse y z → IsNoWorse x z
    no_worse x y z p q = grind arith

-- the root is no worse than any node
root_over : (rows : List (Option Candidate)) (ws : List (Option Held)) → IsTournament rows ws → (fuel i : ℕ) → i ≤ fuel → 1 ≤ i → i < 2 * length ws
    → IsOver (node rows ws 1) (node rows ws i)
root_over rows ws tree zero i few pos low = absurd (omega arith)
root_over rows ws tree (suc fuel) i few pos low = go (cases_eq i 1) (λ ne. root_over rows ws tree fuel (i / 2) (omega arith) (omega arith) (omega arith))
  where
    child : IsWonAt rows ws (i / 2) → (i ≡ 2 * (i / 2)) ⊎ (i ≡ 2 * (i / 2) + 1) → IsOver (slice_index_or ws (i / 2) None) (node rows ws i)
    child won (inl e) = subst (λ n. IsOver (slice_index_or ws (i / 2) None) (node rows ws n)) (sym e) won.over_left
    child won (inr e) = subst (λ n. IsOver (slice_index_or ws (i / 2) None) (node rows ws n)) (sym e) won.over_right

    go : (i ≡ 1) ⊎ (i ≡ 1 → ⊥) → (i ≢ 1 → IsOver (node rows ws 1) (node rows ws (i / 2))) → IsOver (node rows ws 1) (node rows ws i)
    go (inl e) above = subst (λ n. IsOver (node rows ws 1) (node rows ws n)) (sym e) (over_refl _)
    go (inr ne) above =
        let half : i / 2 < length ws = omega arith in
        let parity : (i ≡ 2 * (i / 2)) ⊎ (i ≡ 2 * (i / 2) + 1) = grind arith in
        over_trans _ _ _ (above ne) (rw (node_inner rows ws (i / 2) half) (child (tree.won (i / 2) (omega arith) half) parity))

entrant_held : (rows : List (Option Candidate)) (line : ℕ) (h : Held) → line < length rows → entrant line (slice_index_or rows line None) ≡ Some h
    → Holds rows h.line h.candidate
entrant_held rows line h low is = go (slice_index_or rows line None) refl is
  where
    go : (x : Option Candidate) → x ≡ slice_index_or rows line None → entrant line x ≡ Some h → Holds rows h.line h.candidate
    go None e none = absurd (none-some h none)
    go (Some c) e some =
        let same : record { line = line; candidate = c } ≡ h = same_Some _ _ some in
        subst (λ (k : Held). Holds rows k.line k.candidate) same (slice_get-get_or rows line None low ∙ ap (λ y. Some y) (sym e))

-- what a node names is held
named_held : (rows : List (Option Candidate)) (ws : List (Option Held)) → IsTournament rows ws → (fuel i : ℕ) → 2 * length ws ≤ i + fuel → 1 ≤ i
    → i < 2 * length ws → (h : Held) → node rows ws i ≡ Some h → Holds rows h.line h.candidate
named_held rows ws tree zero i few pos low h is = absurd (omega arith)
named_held rows ws tree (suc fuel) i few pos low h is =
    go (cases_lt i (length ws)) (λ inside. named_held rows ws tree fuel (2 * i) (omega arith) (omega arith) (omega arith) h)
    (λ inside. named_held rows ws tree fuel (2 * i + 1) (omega arith) (omega arith) (omega arith) h)
  where
    children : (i < length ws) → IsWonAt rows ws i → (node rows ws (2 * i) ≡ Some h → Holds rows h.line h.candidate)
        → (node rows ws (2 * i + 1) ≡ Some h → Holds rows h.line h.candidate) → Holds rows h.line h.candidate
    children inside won by_left by_right = pick won.one_of
      where
        here : slice_index_or ws i None ≡ Some h
        here = sym (node_inner rows ws i inside) ∙ is

        pick : (slice_index_or ws i None ≡ node rows ws (2 * i)) ⊎ (slice_index_or ws i None ≡ node rows ws (2 * i + 1)) → Holds rows h.line h.candidate
        pick (inl e) = by_left (sym e ∙ here)
        pick (inr e) = by_right (sym e ∙ here)

    go : (i < length ws) ⊎ (length ws ≤ i) → (i < length ws → node rows ws (2 * i) ≡ Some h → Holds rows h.line h.candidate)
        → (i < length ws → node rows ws (2 * i + 1) ≡ Some h → Holds rows h.line h.candidate) → Holds rows h.line h.candidate
    go (inl inside) by_left by_right = children inside (tree.won i pos inside) (by_left inside) (by_right inside)
    go (inr high) by_left by_right =
        entrant_held rows (i - length ws) h (omega (arith, tree.same)) (sym (node_leaf rows ws i (i - length ws) (omega arith)) ∙ is)

held_leaf : (rows : List (Option Candidate)) (ws : List (Option Held)) (line : ℕ) (c : Candidate) → Holds rows line c
    → node rows ws (length ws + line) ≡ Some (record { line = line; candidate = c })
held_leaf rows ws line c held =
    node_leaf rows ws (length ws + line) line refl ∙ ap (entrant line) (get_or_from_slice_get rows line (Some c) None held)

-- the root names the best of all
pub root_best : (rows : List (Option Candidate)) (ws : List (Option Held)) → IsTournament rows ws → (h : Held) → 1 < 2 * length ws
    → node rows ws 1 ≡ Some h → IsBest rows h.line
root_best rows ws tree h some is = record {
  candidate = h.candidate;
  held = named_held rows ws tree (2 * length ws) 1 (omega arith) (omega arith) some h is;
  preferred = λ line c held ne. strictly h line c ne (leaf line c held);
}
  where
    leaf : (line : ℕ) (c : Candidate) → Holds rows line c → IsOver (Some h) (Some (record { line = line; candidate = c }))
    leaf line c held =
        subst (λ x. IsOver x (Some (record { line = line; candidate = c }))) is
        (subst (λ x. IsOver (node rows ws 1) x) (held_leaf rows ws line c held)
        (root_over rows ws tree (length ws + line) (length ws + line) (omega arith) (omega arith)
        (omega (arith, tree.same, slice_get_within rows line (Some c) held))))

    strictly : (h : Held) (line : ℕ) (c : Candidate) → line ≢ h.line → IsNoWorse h (record { line = line; candidate = c })
        → IsPreferred h.candidate c ⊎ (AreLevel h.candidate c × (h.line < line))
    strictly h line c ne over = grind arith

-- where it names none, none is held
pub root_none : (rows : List (Option Candidate)) (ws : List (Option Held)) → IsTournament rows ws → 1 < 2 * length ws
    → node rows ws 1 ≡ None → HoldsNone rows
root_none rows ws tree some is line c held =
    subst (λ x. IsOver x (Some (record { line = line; candidate = c }))) is
    (subst (λ x. IsOver (node rows ws 1) x) (held_leaf rows ws line c held)
    (root_over rows ws tree (length ws + line) (length ws + line) (omega arith) (omega arith)
    (omega (arith, tree.same, slice_get_within rows line (Some c) held))))

take_all : {X : Type 0} (n : ℕ) (xs ys : List X) → n ≡ length xs → take n (xs ++ ys) ≡ xs
take_all n xs ys is = ap (λ k. take k (xs ++ ys)) is ∙ take-append_seam xs ys

-- The tree after a line's row was written, as it is put back.
pub whole : (rows : List (Option Candidate)) (ws new : List (Option Held)) (line len : ℕ) (x : Option Candidate) → IsTournament rows ws
    → length new ≡ length ws → len ≡ length ws
    → AreWonBut (slice_set rows line x) new 0 → IsTournament (slice_set rows line x) (take len (new ++ drop (length new) ws))
whole rows ws new line len x tree same is won =
    let back : take len (new ++ drop (length new) ws) ≡ new = take_all len new (drop (length new) ws) (is ∙ sym same) in
    rw back (record {
      few = rw length-set tree.few;
      same = same ∙ tree.same ∙ sym (length-set rows line x);
      won = λ at pos low. won at pos low (λ e. omega (arith, e));
    })

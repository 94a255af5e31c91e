-- The writes of a session, and the claims and rows of its pass.
use Rattle.std.proofs.Common.{◌≡◌, ◌⊎◌, inl, inr, ℕ, ◌+◌, ◌-◌, ◌<◌, ◌≤◌, List, [], ◌∷◌, ◌++◌, length, sym, ap, ◌∙◌, arith, append-nil, length-append}
use Rattle.std.specs.Prelude.{map}
use Rattle.std.specs.List.{AllByRecursion, flat_map}
use Rattle.std.proofs.lemmas.Bool.{cases_order}
use Rattle.std.proofs.lemmas.Grind.{flat_map-append}
use Rattle.std.proofs.lemmas.List.{map-append}
use Rattle.pblk_model.specs.RingState.{between}
use Rattle.pblk_model.proofs.Lists.{all_append, all_imply}
use Rattle.block_port.specs.Own.{OwnWrite, PlacedSector, lines_of}
use Rattle.block_port.proofs.OwnLemmas.{length_placed}
use Rattle.write_ring.specs.Steps.{LieBelow}
use Rattle.write_ring.specs.declared.view.Part.{Part}
use Rattle.write_ring.specs.declared.view.Row.{Row}
use Rattle.write_ring.proofs.ClaimLists.{inside}
use Rattle.block_target.specs.Sessions.{EndBelow, IsPassOfOwn, PlacesRise, claim_of, row_of, rows_of}

-- each write has sectors, and as many as its place
abbrev pub AreWhole : List OwnWrite → Type 0
AreWhole own = AllByRecursion (λ w. (1 ≤ w.place.count) × (length w.sectors ≡ w.place.count)) own

-- ---- where they end

-- a claim of some positions lies below where none is claimed
end_of_claim : (first count n : ℕ) → 1 ≤ count → ((x : ℕ) → n ≤ x → between first (first + count) x ≡ 0) → first + count ≤ n
end_of_claim first count n some low = go (cases_order n (first + count - 1))
  where
    no : n ≤ first + count - 1 → first + count ≤ n
    no le =
        let one : between first (first + count) (first + count - 1) ≡ 1 =
        inside (first + count - 1) first (first + count) (omega arith) (omega arith) in
        absurd (omega (arith, one, low (first + count - 1) le))

    go : (n ≡ first + count - 1) ⊎ ((n < first + count - 1) ⊎ (first + count - 1 < n)) → first + count ≤ n
    go (inl same) = no (omega (arith, same))
    go (inr (inl less)) = no (omega arith)
    go (inr (inr more)) = omega arith

pub end_below : (n : ℕ) (own : List OwnWrite) → AreWhole own → LieBelow n (map claim_of own) → EndBelow n own
end_below n [] whole low = tt
end_below n (w ∷ own) whole low = (
  end_of_claim w.place.first w.place.count n whole.0.0 (λ x le. let both = low x le in omega arith),
  end_below n own whole.1 (λ x le. let both = low x le in omega arith),
)

pub ends_later : (n m : ℕ) (own : List OwnWrite) → n ≤ m → EndBelow n own → EndBelow m own
ends_later n m own le ends =
    all_imply (λ (w : OwnWrite). w.place.first + w.place.count ≤ n) (λ (w : OwnWrite). w.place.first + w.place.count ≤ m)
    (λ w below. let b : w.place.first + w.place.count ≤ n = below in omega arith) own ends

pub ends_more : (n : ℕ) (own : List OwnWrite) (w : OwnWrite) → EndBelow n own → w.place.first + w.place.count ≤ n → EndBelow n (own ++ w ∷ [])
ends_more n own w ends low = all_append (λ (v : OwnWrite). v.place.first + v.place.count ≤ n) own (w ∷ []) ends (low, tt)

-- a write at a place that begins past the others
pub rise_more : (own : List OwnWrite) (w : OwnWrite) → PlacesRise own → EndBelow w.place.first own → PlacesRise (own ++ w ∷ [])
rise_more [] w rising low = (tt, tt)
rise_more (v ∷ own) w rising low = (
  all_append (λ (u : OwnWrite). v.place.first + v.place.count ≤ u.place.first) own (w ∷ []) rising.0 (low.0, tt),
  rise_more own w rising.1 low.1,
)

-- ---- how many sectors they are

pub length_lines : (w : OwnWrite) → length (lines_of w) ≡ length w.sectors
length_lines w = length_placed w.place.first w.lba w.sectors

written_from : (own : List OwnWrite) (low n : ℕ) → low ≤ n → AllByRecursion (λ w. low ≤ w.place.first) own → PlacesRise own → EndBelow n own → AreWhole own
    → low + length (flat_map lines_of own) ≤ n
written_from [] low n le start rising ends whole = omega arith
written_from (w ∷ own) low n le start rising ends whole =
    let rest : w.place.first + w.place.count + length (flat_map lines_of own) ≤ n =
    written_from own (w.place.first + w.place.count) n ends.0 rising.0 rising.1 ends.1 whole.1 in
    let long : length (flat_map lines_of (w ∷ own)) ≡ length (lines_of w) + length (flat_map lines_of own) =
    length-append (lines_of w) (flat_map lines_of own) in
    let count : length (lines_of w) ≡ w.place.count = length_lines w ∙ whole.0.1 in
    let from : low ≤ w.place.first = start.0 in
    omega (arith, rest, long, count, from)

all_from_zero : (own : List OwnWrite) → AllByRecursion (λ w. 0 ≤ w.place.first) own
all_from_zero [] = tt
all_from_zero (w ∷ own) = (omega arith, all_from_zero own)

-- no more than the position at which they end
pub written_low : (own : List OwnWrite) (n : ℕ) → PlacesRise own → EndBelow n own → AreWhole own → length (flat_map lines_of own) ≤ n
written_low own n rising ends whole =
    let all : 0 + length (flat_map lines_of own) ≤ n = written_from own 0 n (omega arith) (all_from_zero own) rising ends whole in
    omega arith

pub written_more : (own : List OwnWrite) (w : OwnWrite) (count : ℕ) → length w.sectors ≡ count
    → length (flat_map lines_of (own ++ w ∷ [])) ≡ length (flat_map lines_of own) + count
written_more own w count is =
    let one : flat_map lines_of (w ∷ []) ≡ lines_of w = append-nil (lines_of w) in
    ap length (flat_map-append lines_of own (w ∷ [])) ∙ length-append (flat_map lines_of own) (flat_map lines_of (w ∷ []))
    ∙ ap (λ n. length (flat_map lines_of own) + n) (ap length one ∙ length_lines w ∙ is)

-- ---- the pass of one write more

rows_more : (own : List OwnWrite) (w : OwnWrite) → rows_of (own ++ w ∷ []) ≡ rows_of own ++ map row_of (lines_of w)
rows_more own w =
    ap (map row_of) (flat_map-append lines_of own (w ∷ []) ∙ ap (λ (ls : List PlacedSector). flat_map lines_of own ++ ls) (append-nil (lines_of w)))
    ∙ map-append row_of (flat_map lines_of own) (lines_of w)

pub pass_more : (own : List OwnWrite) (w : OwnWrite) (p q : Part) → IsPassOfOwn own p → 1 ≤ w.place.count → length w.sectors ≡ w.place.count
    → q.shares ≡ p.shares → q.claims ≡ p.claims ++ claim_of w ∷ [] → q.puts ≡ p.puts ++ map row_of (lines_of w)
    → IsPassOfOwn (own ++ w ∷ []) q
pass_more own w p q is some whole shares claims puts = record {
  shares = shares ∙ is.shares;
  claims = claims ∙ ap (λ cs. cs ++ claim_of w ∷ []) is.claims ∙ sym (map-append claim_of own (w ∷ []));
  puts = puts ∙ ap (λ (rs : List Row). rs ++ map row_of (lines_of w)) is.puts ∙ sym (rows_more own w);
  whole = all_append (λ (v : OwnWrite). (1 ≤ v.place.count) × (length v.sectors ≡ v.place.count)) own (w ∷ []) is.whole ((some, whole), tt);
}

-- A sector that is in the buffer is in the window.
use Rattle.std.proofs.Common.{◌≡◌, ◌⊎◌, inl, inr, ℕ, ◌+◌, ◌-◌, ◌<◌, ◌≤◌, ◌==◌, zero, suc, false, Some, None, Option, List, [], ◌∷◌, length, refl, sym, subst, ap, ◌∙◌, arith}
use Rattle.std.specs.Prelude.{slice_get}
use Rattle.std.specs.List.{filter, find, last_or, range_with_len}
use Rattle.std.specs.Option.{option_map_or}
use Rattle.std.proofs.lemmas.Bool.{eqb-true}
use Rattle.std.proofs.lemmas.Option.{same_Some, none-some, slice_get_within}
use Rattle.pblk_model.specs.Image.{Image}
use Rattle.pblk_model.specs.Records.{Record}
use Rattle.pblk_model.specs.Contents.{counted, winner}
use Rattle.pblk_world.specs.Events.{Logged}
use Rattle.pblk_world.specs.World.{Logs}
use Rattle.pblk_world.specs.EngineLog.{Taken, takes, Placed, placements}
use Rattle.pblk_world.specs.Fronts.{first_position, taken, last_take}
use Rattle.pblk_world.specs.Lines.{found_image}
use Rattle.pblk_world.specs.Space.{gives_back, freed}
use Rattle.l2p_map.specs.declared.slot.Slot.TheVariants.{Cached}
use Rattle.core_laws.specs.PlacerOf.{positions_of}
use Rattle.core_laws.specs.Positions.{AreNumbered}
use Rattle.core_laws.specs.SlotOf.{media_of, slot_of_winner, slot_by, slot_of}
use Rattle.core_laws.specs.WindowOf.{is_given_back}
use Rattle.core_laws.proofs.UnitTurns.{filtered_is}
use Rattle.core_laws.proofs.LeastPositions.{least_below}
use Rattle.pblk_model.proofs.Lists.{IsAmong, later}
use Rattle.pblk_model.proofs.Maps.{found_none, from_filter}

same_cached : (p q : ℕ) → Cached p ≡ Cached q → p ≡ q
same_cached p q e = cc

winner_not : (r : Option Record) (q : ℕ) → slot_of_winner r ≡ Cached q → ⊥
winner_not None q e = cc
winner_not (Some r) q e = cc

-- an entry's slot, by the stripe that gives it back
entry_cached : (i : Image) (logs : Logs) (position q : ℕ) (p : Option Placed) → find (gives_back i.shape (logs 0) position) (placements (logs 0)) ≡ p
    → option_map_or (media_of i logs position) p (Cached position) ≡ Cached q → (position ≡ q) × (is_given_back i.shape (logs 0) position ≡ false)
entry_cached i logs position q None none e = (same_cached position q e, found_none (gives_back i.shape (logs 0) position) (placements (logs 0)) none)
entry_cached i logs position q (Some p) some e = absurd cc

pub record IsCachedEntry (i : Image) (logs : Logs) (lba q : ℕ) (t : Taken) : Type 0 where
  pub last : last_take (logs 0) lba ≡ Some t
  pub position : t.entry.position ≡ q
  pub kept : is_given_back i.shape (logs 0) q ≡ false

pub cached : (i : Image) (logs : Logs) (lba q : ℕ) → slot_of i logs lba ≡ Cached q → (t : Taken) × IsCachedEntry i logs lba q t
cached i logs lba q e = go (last_take (logs 0) lba) refl e
  where
    go : (t : Option Taken) → last_take (logs 0) lba ≡ t → slot_by i logs lba t ≡ Cached q → (t : Taken) × IsCachedEntry i logs lba q t
    go None f e = absurd (winner_not (winner (counted (found_image i logs)) lba) q e)
    go (Some t) f e =
        let both = entry_cached i logs t.entry.position q (find (gives_back i.shape (logs 0) t.entry.position) (placements (logs 0))) refl e in
        (t, record { last = f; position = both.0; kept = subst (λ p. is_given_back i.shape (logs 0) p ≡ false) both.0 both.1 })

-- ---- the last one is one

last_among : {X : Type 0} (o : Option X) (xs : List X) (x : X) → last_or o xs ≡ Some x → IsAmong xs x ⊎ (o ≡ Some x)
last_among o [] x e = inr e
last_among o (y ∷ ys) x e = elim (last_among (Some y) ys x e) as (λ _. IsAmong (y ∷ ys) x ⊎ (o ≡ Some x)) [
  | inl at ↦ inl (later y ys x at)
  | inr same ↦ inl (0, same)
]

in_last : (log : List Logged) (lba : ℕ) (t : Taken) → IsAmong (filter (λ (t : Taken). t.mark.lba == lba) (takes log)) t ⊎ (None ≡ Some t)
    → IsAmong (takes log) t × (t.mark.lba ≡ lba)
in_last log lba t (inl at) = (
  from_filter (λ (t : Taken). t.mark.lba == lba) (takes log) t at,
  eqb-true t.mark.lba lba (filtered_is (λ (t : Taken). t.mark.lba == lba) (takes log) at.0 t at.1),
)
in_last log lba t (inr none) = absurd (none-some t none)

pub last_is_among : (log : List Logged) (lba : ℕ) (t : Taken) → last_take log lba ≡ Some t → IsAmong (takes log) t × (t.mark.lba ≡ lba)
last_is_among log lba t e = in_last log lba t (last_among None (filter (λ (t : Taken). t.mark.lba == lba) (takes log)) t e)

pub numbered_at : (a n : ℕ) (ts : List Taken) (k : ℕ) (t : Taken) → positions_of ts ≡ range_with_len a n → slice_get ts k ≡ Some t → t.entry.position ≡ a + k
numbered_at a n [] k t is e = absurd (none-some t e)
numbered_at a zero (u ∷ ts) k t is e = absurd cc
numbered_at a (suc n) (u ∷ ts) zero t is e =
    let first : u.entry.position ≡ a = cc in
    let same : u.entry.position ≡ t.entry.position = ap (λ (x : Taken). x.entry.position) (same_Some u t e) in
    omega arith
numbered_at a (suc n) (u ∷ ts) (suc k) t is e =
    let rest : positions_of ts ≡ range_with_len (a + 1) n = cc in
    let next : t.entry.position ≡ a + 1 + k = numbered_at (a + 1) n ts k t rest e in
    omega arith

-- ---- the law's parts

pub cached_entry : (i : Image) (logs : Logs) (lba q : ℕ) → slot_of i logs lba ≡ Cached q
    → (t : Taken) × (last_take (logs 0) lba ≡ Some t) × (t.entry.position ≡ q) × (t.mark.lba ≡ lba)
cached_entry i logs lba q e =
    let is : (t : Taken) × IsCachedEntry i logs lba q t = cached i logs lba q e in
    (is.0, is.1.last, is.1.position, (last_is_among (logs 0) lba is.0 is.1.last).1)

pub cached_kept : (i : Image) (logs : Logs) (lba q : ℕ) → slot_of i logs lba ≡ Cached q → is_given_back i.shape (logs 0) q ≡ false
cached_kept i logs lba q e = let is : (t : Taken) × IsCachedEntry i logs lba q t = cached i logs lba q e in is.1.kept

-- where it stands among what was taken
cached_at : (i : Image) (logs : Logs) (lba q : ℕ) → AreNumbered (logs 0) → slot_of i logs lba ≡ Cached q
    → (k : ℕ) × (slice_get (takes (logs 0)) k ≡ last_take (logs 0) lba) × (k < length (takes (logs 0))) × (q ≡ first_position (logs 0) + k)
cached_at i logs lba q numbered e =
    let is : (t : Taken) × IsCachedEntry i logs lba q t = cached i logs lba q e in
    let t : Taken = is.0 in
    let at : IsAmong (takes (logs 0)) t = (last_is_among (logs 0) lba t is.1.last).0 in (
      at.0,
      at.1 ∙ sym is.1.last,
      slice_get_within (takes (logs 0)) at.0 t at.1,
      sym is.1.position ∙ numbered_at (first_position (logs 0)) (length (takes (logs 0))) (takes (logs 0)) at.0 t numbered at.1,
    )

pub cached_within : (i : Image) (logs : Logs) (lba q : ℕ) → AreNumbered (logs 0) → slot_of i logs lba ≡ Cached q
    → (freed i.shape (logs 0) ≤ q) × (q < taken (logs 0))
cached_within i logs lba q numbered e =
    let at = cached_at i logs lba q numbered e in
    let inside : at.0 < length (takes (logs 0)) = at.2 in
    let is : q ≡ first_position (logs 0) + at.0 = at.3 in (
      least_below (is_given_back i.shape (logs 0)) (length (takes (logs 0))) (first_position (logs 0)) q (omega arith) (cached_kept i logs lba q e),
      omega arith,
    )

pub cached_stands : (i : Image) (logs : Logs) (lba q : ℕ) → AreNumbered (logs 0) → slot_of i logs lba ≡ Cached q
    → (first_position (logs 0) ≤ q) × (slice_get (takes (logs 0)) (q - first_position (logs 0)) ≡ last_take (logs 0) lba)
cached_stands i logs lba q numbered e =
    let at = cached_at i logs lba q numbered e in
    let is : q ≡ first_position (logs 0) + at.0 = at.3 in
    let same : q - first_position (logs 0) ≡ at.0 = omega arith in
    (omega arith, ap (slice_get (takes (logs 0))) same ∙ at.1)

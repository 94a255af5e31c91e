-- Of openings with rising sequence numbers the last whose start has landed is the newest. Where one
-- more has landed, the newer of the two is.
use Rattle.std.proofs.Common.{◌≡◌, ◌⊎◌, inl, inr, ℕ, ◌+◌, ◌<◌, zero, suc, Bool, true, false, cond, Some, None, Option, List, [], ◌∷◌, map, refl, sym, subst, ap, ap₂, ◌∙◌, arith, if◌then◌else◌}
use Rattle.std.specs.Prelude.{slice_get}
use Rattle.std.specs.List.{AllByRecursion, filter, last_or}
use Rattle.std.specs.Option.{option_map}
use Rattle.std.proofs.lemmas.Option.{none-some, same_Some}
use Rattle.pblk_model.specs.StartRecord.{StartRecord}
use Rattle.pblk_world.specs.EngineLog.{Opening}
use Rattle.world_laws.proofs.HeldSectors.{never_none}
use Rattle.core_laws.specs.ClosedLines.{StartNumbers, newer_start}
use Rattle.core_laws.proofs.Placing.{not_below}
use Rattle.pblk_model.proofs.Lists.{last_in}
use Rattle.pblk_model.proofs.Maps.{all_filter, all_mapped, filter_agree}
use Rattle.pblk_model.proofs.Parts.{all_by_get}
use Rattle.pblk_model.proofs.Tests.{lt_true}

abbrev pub numbers_of : StartRecord → StartNumbers
numbers_of start = record { seq = start.seq; front = start.front }

abbrev pub starts : List Opening → List StartRecord
starts os = map (λ (o : Opening). o.start) os

-- the openings have the sequence numbers from one on
abbrev pub AreFrom : ℕ → List Opening → Type 0
AreFrom a os = (j : ℕ) (x : Opening) → slice_get os j ≡ Some x → x.start.seq ≡ a + j

abbrev pub IsBelow : ℕ → Option StartRecord → Type 0
IsBelow a h = (m : StartRecord) → h ≡ Some m → m.seq < a

from_next : (a : ℕ) (x : Opening) (os : List Opening) → AreFrom a (x ∷ os) → AreFrom (a + 1) os
from_next a x os are j y at = are (suc j) y at ∙ omega arith

newer_than : (m n : StartNumbers) → m.seq < n.seq → newer_start (Some m) n ≡ Some n
newer_than m n less = ap (λ b. if b then Some n else Some m) (lt_true m.seq n.seq less)

older_than : (m n : StartNumbers) → n.seq < m.seq → newer_start (Some m) n ≡ Some m
older_than m n less = ap (λ b. if b then Some n else Some m) (not_below n.seq m.seq (omega arith))

module _ (f g : Opening → Bool) (o : Opening) (before : f o ≡ false) (now : g o ≡ true) where
  -- the opening comes first
  newest_first : (h : Option StartRecord) → IsBelow o.start.seq h → (ys : List Opening)
      → AllByRecursion (λ (y : Opening). o.start.seq < y.start.seq) ys
      → option_map numbers_of (last_or (Some o.start) (starts ys)) ≡ newer_start (option_map numbers_of (last_or h (starts ys))) (numbers_of o.start)
  newest_first None below [] later = refl
  newest_first (Some m) below [] later = sym (newer_than (numbers_of m) (numbers_of o.start) (below m refl))
  newest_first h below (y ∷ ys) later = go (last_or (Some y.start) (starts ys)) refl
    where
      go : (r : Option StartRecord) → last_or (Some y.start) (starts ys) ≡ r
          → option_map numbers_of r ≡ newer_start (option_map numbers_of r) (numbers_of o.start)
      go None e = absurd (never_none y.start (starts ys) e)
      go (Some t) e = sym (older_than (numbers_of t) (numbers_of o.start)
          (last_in (λ (r : StartRecord). o.start.seq < r.seq) (Some y.start) (starts ys) t
          (λ r is. subst (λ (x : StartRecord). o.start.seq < x.seq) (same_Some y.start r is) later.0)
          (all_mapped (λ (r : StartRecord). o.start.seq < r.seq) (λ (x : Opening). x.start) ys later.1) e))

  -- those of other sequence numbers are others
  others : (a : ℕ) (os : List Opening) → AreFrom a os → o.start.seq < a → AllByRecursion (λ x. (x ≡ o) ⊎ (g x ≡ f x)) os
      → AllByRecursion (λ x. g x ≡ f x) os
  others a [] are below same = tt
  others a (x ∷ os) are below same = (go same.0, others (a + 1) os (from_next a x os are) (omega arith) same.1)
    where
      go : (x ≡ o) ⊎ (g x ≡ f x) → g x ≡ f x
      go (inr e) = e
      go (inl e) =
          let first : x.start.seq ≡ a + 0 = are 0 x refl in
          let number : x.start.seq ≡ o.start.seq = ap (λ (y : Opening). y.start.seq) e in
          absurd (omega arith)

  pub newer_by : (os : List Opening) (k a : ℕ) (h : Option StartRecord) → slice_get os k ≡ Some o → AreFrom a os → IsBelow a h
      → AllByRecursion (λ x. (x ≡ o) ⊎ (g x ≡ f x)) os
      → option_map numbers_of (last_or h (starts (filter g os)))
      ≡ newer_start (option_map numbers_of (last_or h (starts (filter f os)))) (numbers_of o.start)
  newer_by [] k a h at are below same = absurd (none-some o at)
  newer_by (x ∷ os) zero a h at are below same =
      let it : x ≡ o = same_Some x o at in
      let first : x.start.seq ≡ a + 0 = are 0 x refl in
      let number : x.start.seq ≡ o.start.seq = ap (λ (y : Opening). y.start.seq) it in
      let rest : filter g os ≡ filter f os =
      filter_agree (λ y. g y ≡ f y) g f (λ y e. e) os (others (a + 1) os (from_next a x os are) (omega arith) same.1) in
      let later : AllByRecursion (λ (y : Opening). o.start.seq < y.start.seq) os =
      all_by_get (λ (y : Opening). o.start.seq < y.start.seq) os (λ j y there.
      let its : y.start.seq ≡ a + suc j = are (suc j) y there in omega arith) in
      ap (λ b. option_map numbers_of (last_or h (starts (cond b (x ∷ filter g os) (filter g os))))) (ap g it ∙ now)
      ∙ ap₂ (λ (y : Opening) ys. option_map numbers_of (last_or (Some y.start) (starts ys))) it rest
      ∙ newest_first h (λ m is. let less : m.seq < a = below m is in omega arith) (filter f os)
      (all_filter (λ (y : Opening). o.start.seq < y.start.seq) f os later)
      ∙ ap (λ b. newer_start (option_map numbers_of (last_or h (starts (cond b (x ∷ filter f os) (filter f os))))) (numbers_of o.start))
      (sym (ap f it ∙ before))
  newer_by (x ∷ os) (suc k) a h at are below same =
      ap (λ b. option_map numbers_of (last_or h (starts (cond b (x ∷ filter g os) (filter g os))))) (another same.0)
      ∙ go (f x) (λ l less. newer_by os k (a + 1) l at (from_next a x os are) less same.1)
    where
      its : o.start.seq ≡ a + suc k
      its = are (suc k) o at

      first : x.start.seq ≡ a + 0
      first = are 0 x refl

      another : (x ≡ o) ⊎ (g x ≡ f x) → g x ≡ f x
      another (inr e) = e
      another (inl e) =
          let number : x.start.seq ≡ o.start.seq = ap (λ (y : Opening). y.start.seq) e in absurd (omega (arith, its, first))

      go : (b : Bool) → ((l : Option StartRecord) → IsBelow (a + 1) l → option_map numbers_of (last_or l (starts (filter g os)))
          ≡ newer_start (option_map numbers_of (last_or l (starts (filter f os)))) (numbers_of o.start))
          → option_map numbers_of (last_or h (starts (cond b (x ∷ filter g os) (filter g os))))
          ≡ newer_start (option_map numbers_of (last_or h (starts (cond b (x ∷ filter f os) (filter f os))))) (numbers_of o.start)
      go true rest = rest (Some x.start)
          (λ m is. let one : x.start.seq ≡ m.seq = ap (λ (r : StartRecord). r.seq) (same_Some x.start m is) in omega (arith, first))
      go false rest = rest h (λ m is. let less : m.seq < a = below m is in omega arith)

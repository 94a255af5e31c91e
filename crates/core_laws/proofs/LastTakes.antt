-- The last entries of a sector, and the positions that took a sector from a line.
use Rattle.std.proofs.Common.{◌≡◌, ◌≢◌, ◌⊎◌, inl, inr, ℕ, ◌+◌, ◌<◌, ◌≤◌, ◌==◌, ◌&&◌, nat_lt, zero, suc, Bool, true, false, cond, Some, None, Option, List, [], ◌∷◌, refl, sym, ap, ◌∙◌, arith}
use Rattle.std.specs.Prelude.{slice_get}
use Rattle.std.specs.List.{AllByRecursion, filter, last_or}
use Rattle.std.specs.Option.{option_map_or}
use Rattle.std.proofs.lemmas.Bool.{cases_lt}
use Rattle.std.proofs.lemmas.Option.{none-some, same_Some}
use Rattle.pblk_model.specs.Image.{Image}
use Rattle.pblk_world.specs.Events.{Logged}
use Rattle.pblk_world.specs.World.{World, log_of}
use Rattle.pblk_world.specs.EngineLog.{Taken, takes}
use Rattle.pblk_world.specs.Fronts.{first_position, last_take}
use Rattle.pblk_world.specs.Legal.{IsLegal}
use Rattle.pblk_world.specs.Victims.{take_before, taken_up_to, took_from}
use Rattle.pblk_model.proofs.Lists.{IsAmong}
use Rattle.pblk_model.proofs.Parts.{all_at}
use Rattle.pblk_model.proofs.Tests.{and_both, below_of, first_of, lt_true, not_both, same, same_number, second_of}
use Rattle.world_laws.proofs.HeldSectors.{never_none}
use Rattle.world_laws.proofs.Latest.{one_entry}
use Rattle.world_laws.proofs.Positions.{position_of}

-- ---- the last one that passes a test

pub record IsLast {X : Type 0} (test : X → Bool) (xs : List X) (x : X) : Type 0 where
  pub place : ℕ
  pub there : slice_get xs place ≡ Some x
  pub passes : test x ≡ true
  pub last : (j : ℕ) (y : X) → slice_get xs j ≡ Some y → test y ≡ true → j ≤ place

last_by : {X : Type 0} (test : X → Bool) (before : Option X) (xs : List X) (x : X) → last_or before (filter test xs) ≡ Some x
    → ((before ≡ Some x) × AllByRecursion (λ y. test y ≡ false) xs) ⊎ IsLast test xs x
last_by test before [] x e = inl (e, tt)
last_by {X} test before (y ∷ xs) x e = go (test y) refl e (λ o h. last_by test o xs x h)
  where
    at_first : test y ≡ true → y ≡ x → AllByRecursion (λ z. test z ≡ false) xs → IsLast test (y ∷ xs) x
    at_first p it none = record { place = 0; there = ap (λ z. Some z) it; passes = ap test (sym it) ∙ p; last = last }
      where
        last : (j : ℕ) (z : X) → slice_get (y ∷ xs) j ≡ Some z → test z ≡ true → j ≤ 0
        last zero z at q = omega arith
        last (suc j) z at q = absurd (not_both (test z) q (all_at (λ v. test v ≡ false) xs j z at none))

    at_later : IsLast test xs x → IsLast test (y ∷ xs) x
    at_later h = record { place = suc h.place; there = h.there; passes = h.passes; last = last }
      where
        last : (j : ℕ) (z : X) → slice_get (y ∷ xs) j ≡ Some z → test z ≡ true → j ≤ suc h.place
        last zero z at q = omega arith
        last (suc j) z at q = let below : j ≤ h.place = h.last j z at q in omega arith

    go : (b : Bool) → test y ≡ b → last_or before (cond b (y ∷ filter test xs) (filter test xs)) ≡ Some x
        → ((o : Option X) → last_or o (filter test xs) ≡ Some x → ((o ≡ Some x) × AllByRecursion (λ z. test z ≡ false) xs) ⊎ IsLast test xs x)
        → ((before ≡ Some x) × AllByRecursion (λ z. test z ≡ false) (y ∷ xs)) ⊎ IsLast test (y ∷ xs) x
    go true p e rest = elim (rest (Some y) e) as (λ _. ((before ≡ Some x) × AllByRecursion (λ z. test z ≡ false) (y ∷ xs)) ⊎ IsLast test (y ∷ xs) x) [
      | inl one ↦ inr (at_first p (same_Some y x one.0) one.1)
      | inr h ↦ inr (at_later h)
    ]
    go false p e rest = elim (rest before e) as (λ _. ((before ≡ Some x) × AllByRecursion (λ z. test z ≡ false) (y ∷ xs)) ⊎ IsLast test (y ∷ xs) x) [
      | inl one ↦ inl (one.0, (p, one.1))
      | inr h ↦ inr (at_later h)
    ]

pub last_passing : {X : Type 0} (test : X → Bool) (xs : List X) (x : X) → last_or None (filter test xs) ≡ Some x → IsLast test xs x
last_passing test xs x e = elim (last_by test None xs x e) as (λ _. IsLast test xs x) [
  | inl one ↦ absurd (none-some x one.0)
  | inr h ↦ h
]

pub none_passing : {X : Type 0} (test : X → Bool) (xs : List X) → last_or None (filter test xs) ≡ None → AllByRecursion (λ x. test x ≡ false) xs
none_passing test [] e = tt
none_passing {X} test (x ∷ xs) e = go (test x) refl e (λ h. none_passing test xs h)
  where
    go : (b : Bool) → test x ≡ b → last_or None (cond b (x ∷ filter test xs) (filter test xs)) ≡ None
        → (last_or None (filter test xs) ≡ None → AllByRecursion (λ y. test y ≡ false) xs) → (test x ≡ false) × AllByRecursion (λ y. test y ≡ false) xs
    go true p e rest = absurd (never_none x (filter test xs) e)
    go false p e rest = (p, rest e)

-- ---- entries by their positions

module _ (i : Image) (w : World) (legal : IsLegal i w) where
  abbrev log : List Logged
  log = log_of w 0

  -- of the entries that pass a test the last one has the greatest position
  pub record IsGreatest (test : Taken → Bool) (t : Taken) : Type 0 where
    pub there : IsAmong (takes (log_of w 0)) t
    pub passes : test t ≡ true
    pub greatest : (u : Taken) → IsAmong (takes (log_of w 0)) u → test u ≡ true → u.entry.position ≤ t.entry.position

  pub greatest_of : (test : Taken → Bool) (t : Taken) → last_or None (filter test (takes (log_of w 0))) ≡ Some t → IsGreatest test t
  greatest_of test t e =
      let h : IsLast test (takes log) t = last_passing test (takes log) t e in
      record {
        there = (h.place, h.there);
        passes = h.passes;
        greatest = λ u at q.
            let its : t.entry.position ≡ first_position log + h.place = position_of i w h.place t legal h.there in
            let other : u.entry.position ≡ first_position log + at.0 = position_of i w at.0 u legal at.1 in
            let within : at.0 ≤ h.place = h.last at.0 u at.1 q in
            omega arith;
      }

  pub none_of : (test : Taken → Bool) → last_or None (filter test (takes (log_of w 0))) ≡ None → (u : Taken) → IsAmong (takes (log_of w 0)) u
      → test u ≡ false
  none_of test e u at = all_at (λ v. test v ≡ false) (takes log) at.0 u at.1 (none_passing test (takes log) e)

  -- ---- the last entry of a sector

  pub last_is : (lba : ℕ) (t : Taken) → last_take (log_of w 0) lba ≡ Some t
      → IsAmong (takes (log_of w 0)) t × (t.mark.lba ≡ lba)
      × ((u : Taken) → IsAmong (takes (log_of w 0)) u → u.mark.lba ≡ lba → u.entry.position ≤ t.entry.position)
  last_is lba t e =
      let h : IsGreatest (λ u. u.mark.lba == lba) t = greatest_of (λ u. u.mark.lba == lba) t e in
      (h.there, same t.mark.lba lba h.passes, λ u at its. h.greatest u at (ap (λ n. n == lba) its ∙ same_number lba))

  pub last_none : (lba : ℕ) → last_take (log_of w 0) lba ≡ None → (u : Taken) → IsAmong (takes (log_of w 0)) u → u.mark.lba ≢ lba
  last_none lba e u at its = not_both (u.mark.lba == lba) (ap (λ n. n == lba) its ∙ same_number lba) (none_of (λ v. v.mark.lba == lba) e u at)

  -- ---- the entry of its sector before another

  pub record IsBefore (t u : Taken) : Type 0 where
    pub there : IsAmong (takes (log_of w 0)) u
    pub of_it : u.mark.lba ≡ t.mark.lba
    pub earlier : u.entry.position < t.entry.position
    pub greatest : (v : Taken) → IsAmong (takes (log_of w 0)) v → v.mark.lba ≡ t.mark.lba → v.entry.position < t.entry.position
        → v.entry.position ≤ u.entry.position

  abbrev earlier_test : Taken → Taken → Bool
  earlier_test t u = (u.mark.lba == t.mark.lba) && nat_lt u.entry.position t.entry.position

  passes_earlier : (t v : Taken) → v.mark.lba ≡ t.mark.lba → v.entry.position < t.entry.position → earlier_test t v ≡ true
  passes_earlier t v its below = and_both (v.mark.lba == t.mark.lba) (nat_lt v.entry.position t.entry.position)
      (ap (λ n. n == t.mark.lba) its ∙ same_number t.mark.lba) (lt_true v.entry.position t.entry.position below)

  pub before_is : (t u : Taken) → take_before (log_of w 0) t ≡ Some u → IsBefore t u
  before_is t u e =
      let h : IsGreatest (earlier_test t) u = greatest_of (earlier_test t) u e in
      record {
        there = h.there;
        of_it = same u.mark.lba t.mark.lba (first_of (u.mark.lba == t.mark.lba) (nat_lt u.entry.position t.entry.position) h.passes);
        earlier = below_of u.entry.position t.entry.position
            (second_of (u.mark.lba == t.mark.lba) (nat_lt u.entry.position t.entry.position) h.passes);
        greatest = λ v at its below. h.greatest v at (passes_earlier t v its below);
      }

  pub before_none : (t : Taken) → take_before (log_of w 0) t ≡ None → (v : Taken) → IsAmong (takes (log_of w 0)) v → v.mark.lba ≡ t.mark.lba
      → t.entry.position ≤ v.entry.position
  before_none t e v at its = go (cases_lt v.entry.position t.entry.position)
    where
      go : (v.entry.position < t.entry.position) ⊎ (t.entry.position ≤ v.entry.position) → t.entry.position ≤ v.entry.position
      go (inr above) = above
      go (inl below) = absurd (not_both (earlier_test t v) (passes_earlier t v its below) (none_of (earlier_test t) e v at))

  -- the entry of a sector that comes right behind another one of it
  pub record HasNext (m : Taken) : Type 0 where
    pub next : Taken
    pub there : IsAmong (takes (log_of w 0)) next
    pub of_it : next.mark.lba ≡ m.mark.lba
    pub later : m.entry.position < next.entry.position
    pub before : take_before (log_of w 0) next ≡ Some m

  pub has_next : (m t : Taken) → IsAmong (takes (log_of w 0)) m → IsAmong (takes (log_of w 0)) t → t.mark.lba ≡ m.mark.lba
      → m.entry.position < t.entry.position → HasNext m
  has_next m t first at its later = by_fuel t.entry.position t at its later (omega arith)
    where
      by_fuel : (fuel : ℕ) (t : Taken) → IsAmong (takes (log_of w 0)) t → t.mark.lba ≡ m.mark.lba → m.entry.position < t.entry.position
          → t.entry.position ≤ fuel → HasNext m
      by_fuel zero t at its later few = absurd (omega arith)
      by_fuel (suc fuel) t at its later few =
          go (take_before (log_of w 0) t) refl (λ u at_u its_u later_u few_u. by_fuel fuel u at_u its_u later_u few_u)
        where
          Earlier : Type 0
          Earlier = (u : Taken) → IsAmong (takes (log_of w 0)) u → u.mark.lba ≡ m.mark.lba → m.entry.position < u.entry.position
              → u.entry.position ≤ fuel → HasNext m

          go : (o : Option Taken) → take_before (log_of w 0) t ≡ o → Earlier → HasNext m
          go None e rest = let first_one : t.entry.position ≤ m.entry.position = before_none t e m first (sym its) in absurd (omega arith)
          go (Some u) e rest = by (before_is t u e) (cases_lt m.entry.position u.entry.position)
            where
              by : IsBefore t u → (m.entry.position < u.entry.position) ⊎ (u.entry.position ≤ m.entry.position) → HasNext m
              by h (inl above) = let less : u.entry.position < t.entry.position = h.earlier in rest u h.there (h.of_it ∙ its) above (omega arith)
              by h (inr within) =
                  let most : m.entry.position ≤ u.entry.position = h.greatest m first (sym its) later in
                  let alike : u.entry.position ≡ m.entry.position = omega arith in
                  let it : u ≡ m = one_entry i w u m legal h.there first alike in
                  record { next = t; there = at; of_it = its; later = later; before = e ∙ ap (λ x. Some x) it }

  -- the first entry of a sector of which there is one
  pub record HasFirst (lba : ℕ) : Type 0 where
    pub entry : Taken
    pub there : IsAmong (takes (log_of w 0)) entry
    pub of_it : entry.mark.lba ≡ lba
    pub before : take_before (log_of w 0) entry ≡ None

  pub has_first : (lba : ℕ) (t : Taken) → IsAmong (takes (log_of w 0)) t → t.mark.lba ≡ lba → HasFirst lba
  has_first lba t at its = by_fuel (suc t.entry.position) t at its (omega arith)
    where
      by_fuel : (fuel : ℕ) (t : Taken) → IsAmong (takes (log_of w 0)) t → t.mark.lba ≡ lba → t.entry.position < fuel → HasFirst lba
      by_fuel zero t at its few = absurd (omega arith)
      by_fuel (suc fuel) t at its few = go (take_before (log_of w 0) t) refl (λ u at_u its_u few_u. by_fuel fuel u at_u its_u few_u)
        where
          go : (o : Option Taken) → take_before (log_of w 0) t ≡ o
              → ((u : Taken) → IsAmong (takes (log_of w 0)) u → u.mark.lba ≡ lba → u.entry.position < fuel → HasFirst lba) → HasFirst lba
          go None e rest = record { entry = t; there = at; of_it = its; before = e }
          go (Some u) e rest =
              let h : IsBefore t u = before_is t u e in
              let less : u.entry.position < t.entry.position = h.earlier in
              rest u h.there (h.of_it ∙ its) (omega arith)

  -- ---- the greatest position that took a sector from a line

  pub took_below : (line position : ℕ) (t : Taken) → taken_up_to i (log_of w) line ≤ position → IsAmong (takes (log_of w 0)) t
      → took_from i (log_of w) line t ≡ true → t.entry.position < position
  took_below line position t few at took = go (last_or None (filter (took_from i (log_of w) line) (takes log))) refl few
    where
      go : (o : Option Taken) → last_or None (filter (took_from i (log_of w) line) (takes (log_of w 0))) ≡ o
          → option_map_or (λ (u : Taken). u.entry.position + 1) o 0 ≤ position → t.entry.position < position
      go None e few = absurd (not_both (took_from i (log_of w) line t) took (none_of (took_from i (log_of w) line) e t at))
      go (Some u) e few =
          let h : IsGreatest (took_from i (log_of w) line) u = greatest_of (took_from i (log_of w) line) u e in
          let most : t.entry.position ≤ u.entry.position = h.greatest t at took in
          omega arith

  pub taken_within : (line position : ℕ)
      → ((t : Taken) → IsAmong (takes (log_of w 0)) t → took_from i (log_of w) line t ≡ true → t.entry.position < position)
      → taken_up_to i (log_of w) line ≤ position
  taken_within line position below = go (last_or None (filter (took_from i (log_of w) line) (takes log))) refl
    where
      go : (o : Option Taken) → last_or None (filter (took_from i (log_of w) line) (takes (log_of w 0))) ≡ o
          → option_map_or (λ (u : Taken). u.entry.position + 1) o 0 ≤ position
      go None e = omega arith
      go (Some u) e =
          let h : IsGreatest (took_from i (log_of w) line) u = greatest_of (took_from i (log_of w) line) u e in
          let under : u.entry.position < position = below u h.there h.passes in
          omega arith

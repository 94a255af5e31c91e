-- The rows beside the entries once one more is taken: one of a sector, or a Void one.
use Rattle.std.proofs.Common.{◌≡◌, ◌≢◌, ◌⊎◌, inl, inr, ℕ, ◌+◌, ◌*◌, ◌/◌, ◌%◌, ◌<◌, ◌≤◌, ◌==◌, ◌&&◌, zero, suc, not, nat_lt, Bool, true, false, cond, Some, None, Option, List, [], ◌∷◌, ◌++◌, length, refl, sym, subst, ap, ap₂, ◌∙◌, arith, length-set}
use Rattle.std.specs.Prelude.{if◌then◌else◌, slice_get, slice_set}
use Rattle.std.specs.List.{Contains, filter, find, list_any, last_or}
use Rattle.std.specs.Option.{option_map, option_map_or}
use Rattle.std.proofs.Math.Nat.{div-add-mod, mul-le-mul_left}
use Rattle.std.proofs.lemmas.Nat.{mod_below}
use Rattle.std.proofs.lemmas.Bool.{cases_order, eqb-true}
use Rattle.std.proofs.lemmas.Option.{same_Some, none-some, slice_get_read, slice_get_within}
use Rattle.pblk_model.specs.declared.chunk.Mark.{Mark}
use Rattle.pblk_model.specs.Image.{Image}
use Rattle.pblk_model.specs.Marks.{void_lba}
use Rattle.pblk_world.specs.Events.{Entry, Take, Decides, Logged}
use Rattle.pblk_world.specs.World.{Logs}
use Rattle.pblk_world.specs.EngineLog.{Taken, takes, Placed, placements, was_lost, holds_position}
use Rattle.pblk_world.specs.Fronts.{first_position, taken, last_take}
use Rattle.pblk_world.specs.Space.{gives_back, freed}
use Rattle.world_laws.proofs.HeldSectors.{never_none}
use Rattle.l2p_map.specs.declared.slot.Slot.{Slot}
use Rattle.l2p_map.specs.declared.slot.Slot.TheVariants.{Unwritten, Cached, Media}
use Rattle.core_laws.specs.Stepping.{after}
use Rattle.core_laws.specs.Positions.{IsUnplaced, AreNumbered}
use Rattle.core_laws.specs.SlotOf.{slot_of, slot_by, media_of}
use Rattle.core_laws.specs.WindowOf.{is_given_back}
use Rattle.core_laws.proofs.Placing.{not_below}
use Rattle.core_laws.proofs.StripesByPlace.{find_fails_last}
use Rattle.core_laws.proofs.Taking.{alike}
use Rattle.core_laws.proofs.TakenSlots.{gives_back_same, any_same}
use Rattle.core_laws.proofs.Steady.{AreAlike, lost_same}
use Rattle.core_laws.proofs.LeastPositions.{least_below}
use Rattle.core_laws.proofs.CachedEntries.{IsCachedEntry, cached, last_is_among, numbered_at}
use Rattle.core_laws.proofs.FreedFront.{freed_taken}
use Rattle.core_laws.proofs.FindingInLists.{any_none}
use Rattle.core_laws.specs.EntryHolds.{later_take, placed_line}
use Rattle.core_laws.proofs.EntryHolds.{later_stays, later_of_others, later_of_sector, none_is_later, line_same}
use Rattle.stripe_placer.proofs.Chunks.{lt_of as below_is}
use Rattle.core_laws.proofs.NoneDue.{none_at as none_passes}
use Rattle.pblk_core.specs.declared.hold.Hold.{Hold}
use Rattle.pblk_core.specs.declared.hold.Holds.{Holds}
use Rattle.pblk_core.specs.Holds.{hold_of, row_at, taker_in, with_taker, rows_with_taker}
use Rattle.pblk_core.specs.Stands.{AreHolds}
use Rattle.pblk_core.proofs.HoldRows.{taker_length}
use Rattle.pblk_model.proofs.Lists.{all_imply}
use Rattle.pblk_model.proofs.Maps.{find_none}
use Rattle.pblk_model.proofs.Parts.{get_set_other, get_set_same, is_in}
use Rattle.pblk_model.proofs.Tests.{both as both_true, lt_true, not_both, not_first, other_number, same_number}
use Rattle.pblk_world.proofs.EngineLogLemmas.{takes_more}

-- ---- numbers

-- two positions within one ring have different rows
pub apart : (n q p : ℕ) → q < p → p < q + n → q % n ≢ p % n
apart n q p less within same = go (cases_order (q / n) (p / n)) (div-add-mod q n) (div-add-mod p n)
  where
    go : (q / n ≡ p / n) ⊎ ((q / n < p / n) ⊎ (p / n < q / n)) → n * (q / n) + q % n ≡ q → n * (p / n) + p % n ≡ p → ⊥
    go (inl e) a b = let f : n * (q / n) ≡ n * (p / n) = ap (λ k. n * k) e in omega arith
    go (inr (inl l)) a b =
        let more : q / n + 1 ≤ p / n = omega arith in
        let f : n * (q / n + 1) ≤ n * (p / n) = mul-le-mul_left n more in
        let g : n * (q / n + 1) ≡ n * (q / n) + n = grind arith in
        omega arith
    go (inr (inr l)) a b =
        let more : p / n + 1 ≤ q / n = omega arith in
        let f : n * (p / n + 1) ≤ n * (q / n) = mul-le-mul_left n more in
        let g : n * (p / n + 1) ≡ n * (p / n) + n = grind arith in
        omega arith

-- ---- lists

at_last : {X : Type 0} (xs : List X) (x y : X) (k : ℕ) → slice_get (xs ++ x ∷ []) k ≡ Some y → (slice_get xs k ≡ Some y) ⊎ (x ≡ y)
at_last [] x y zero e = inr (same_Some x y e)
at_last [] x y (suc k) e = absurd (none-some y e)
at_last (z ∷ xs) x y zero e = inl e
at_last (z ∷ xs) x y (suc k) e = at_last xs x y k e

-- the last that passes has the greatest number of those that pass
record IsLastAt {X : Type 0} (f : X → Bool) (xs : List X) (u : X) (j : ℕ) : Type 0 where
  at : slice_get xs j ≡ Some u
  greatest : (k : ℕ) (v : X) → slice_get xs k ≡ Some v → f v ≡ true → k ≤ j

-- either one of the list is the last, or none passes and it is the one before
abbrev IsLastOrBefore : {X : Type 0} → (X → Bool) → List X → Option X → X → Type 0
IsLastOrBefore {X} f xs o u = ((j : ℕ) × IsLastAt f xs u j) ⊎ ((o ≡ Some u) × ((k : ℕ) (v : X) → slice_get xs k ≡ Some v → f v ≡ true → ⊥))

last_found_by : {X : Type 0} (f : X → Bool) (x : X) (xs : List X) (o : Option X) (u : X)
    → ((o : Option X) → last_or o (filter f xs) ≡ Some u → IsLastOrBefore f xs o u)
    → (b : Bool) → f x ≡ b → last_or o (cond b (x ∷ filter f xs) (filter f xs)) ≡ Some u → IsLastOrBefore f (x ∷ xs) o u
last_found_by {X} f x xs o u rest = λ b is e. go b is e
  where
    shifted : (j : ℕ) → IsLastAt f xs u j → IsLastAt f (x ∷ xs) u (suc j)
    shifted j is = record { at = is.at; greatest = more }
      where
        more : (k : ℕ) (v : X) → slice_get (x ∷ xs) k ≡ Some v → f v ≡ true → k ≤ suc j
        more zero v h t = omega arith
        more (suc k) v h t = let l : k ≤ j = is.greatest k v h t in omega arith

    first : ((k : ℕ) (v : X) → slice_get xs k ≡ Some v → f v ≡ true → ⊥) → x ≡ u → IsLastAt f (x ∷ xs) u 0
    first none same = record { at = ap Some same; greatest = more }
      where
        more : (k : ℕ) (v : X) → slice_get (x ∷ xs) k ≡ Some v → f v ≡ true → k ≤ 0
        more zero v h t = omega arith
        more (suc k) v h t = absurd (none k v h t)

    fails : f x ≡ false → ((k : ℕ) (v : X) → slice_get xs k ≡ Some v → f v ≡ true → ⊥) → (k : ℕ) (v : X) → slice_get (x ∷ xs) k ≡ Some v → f v ≡ true → ⊥
    fails b none zero v h t = let s : x ≡ v = same_Some x v h in let w : f x ≡ f v = ap f s in cc
    fails b none (suc k) v h t = none k v h t

    go : (b : Bool) → f x ≡ b → last_or o (cond b (x ∷ filter f xs) (filter f xs)) ≡ Some u → IsLastOrBefore f (x ∷ xs) o u
    go true b h = elim (rest (Some x) h) as (λ _. IsLastOrBefore f (x ∷ xs) o u) [
      | inl is ↦ inl (suc is.0, shifted is.0 is.1)
      | inr is ↦ inl (0, first is.1 (same_Some x u is.0))
    ]
    go false b h = elim (rest o h) as (λ _. IsLastOrBefore f (x ∷ xs) o u) [
      | inl is ↦ inl (suc is.0, shifted is.0 is.1)
      | inr is ↦ inr (is.0, fails b is.1)
    ]

last_found : {X : Type 0} (f : X → Bool) (xs : List X) (o : Option X) (u : X) → last_or o (filter f xs) ≡ Some u → IsLastOrBefore f xs o u
last_found f [] o u e = inr (e, λ k v h t. none-some v h)
last_found f (x ∷ xs) o u e = last_found_by f x xs o u (λ p. last_found f xs p u) (f x) refl e

last_at : {X : Type 0} (f : X → Bool) (xs : List X) (u : X) → last_or None (filter f xs) ≡ Some u → (j : ℕ) × IsLastAt f xs u j
last_at {X} f xs u e = elim (last_found f xs None u e) as (λ _. (j : ℕ) × IsLastAt f xs u j) [
  | inl is ↦ is
  | inr is ↦ absurd (none-some u is.0)
]

-- where one passes, there is a last one
last_is_some : {X : Type 0} (f : X → Bool) (xs : List X) (o : Option X) (k : ℕ) (v : X) → slice_get xs k ≡ Some v → f v ≡ true → last_or o (filter f xs) ≡ None
    → ⊥
last_is_some f [] o k v h t e = none-some v h
last_is_some {X} f (x ∷ xs) o k v h t e = go k h (f x) refl e (λ m h. last_is_some f xs o m v h t)
  where
    go : (k : ℕ) → slice_get (x ∷ xs) k ≡ Some v → (b : Bool) → f x ≡ b → last_or o (cond b (x ∷ filter f xs) (filter f xs)) ≡ None
        → ((m : ℕ) → slice_get xs m ≡ Some v → last_or o (filter f xs) ≡ None → ⊥) → ⊥
    go k h true b e rest = never_none x (filter f xs) e
    go zero h false b e rest = let s : x ≡ v = same_Some x v h in let w : f x ≡ f v = ap f s in cc
    go (suc k) h false b e rest = rest k h e

-- one that was found passes, and none passes where none was found
found_passes : {X : Type 0} (f : X → Bool) (xs : List X) (x : X) → find f xs ≡ Some x → (f x ≡ true) × ((k : ℕ) × (slice_get xs k ≡ Some x))
found_passes f [] x e = absurd (none-some x e)
found_passes {X} f (y ∷ xs) x e = go (f y) refl e (found_passes f xs x)
  where
    go : (b : Bool) → f y ≡ b → cond b (Some y) (find f xs) ≡ Some x → (find f xs ≡ Some x → (f x ≡ true) × ((k : ℕ) × (slice_get xs k ≡ Some x)))
        → (f x ≡ true) × ((k : ℕ) × (slice_get (y ∷ xs) k ≡ Some x))
    go true b h rest = let s : y ≡ x = same_Some y x h in (subst (λ z. f z ≡ true) s b, (0, h))
    go false b h rest = let is : (f x ≡ true) × ((k : ℕ) × (slice_get xs k ≡ Some x)) = rest h in (is.0, (suc is.1.0, is.1.1))

-- ---- rows

-- two different positions of one window have different rows
apart_within : (n from a b : ℕ) → from ≤ a → from ≤ b → a < from + n → b < from + n → a ≢ b → a % n ≢ b % n
apart_within n from a b la lb ha hb other same = go (cases_order a b)
  where
    go : (a ≡ b) ⊎ ((a < b) ⊎ (b < a)) → ⊥
    go (inl e) = other e
    go (inr (inl l)) = apart n a b l (omega arith) same
    go (inr (inr l)) = apart n b a l (omega arith) (sym same)

same_hold : (mark : Mark) (a b : Option ℕ) (x y : Option ℕ) → a ≡ b → x ≡ y
    → ◌≡◌ {A = Hold} (record { mark = mark; line = a; taker = x }) (record { mark = mark; line = b; taker = y })
same_hold mark a b x y e f = λ k. record { mark = mark; line = e k; taker = f k }

rows_other : (slot : Slot) (by : ℕ) (rows : List Hold) (j : ℕ) → ((r : ℕ) → slot ≡ Cached r → j ≢ r % length rows)
    → slice_get (rows_with_taker slot by rows) j ≡ slice_get rows j
rows_other Unwritten by rows j other = refl
rows_other (Media line at position) by rows j other = refl
rows_other (Cached r) by rows j other = go (row_at rows r)
  where
    go : (o : Option Hold) → slice_get (option_map_or (λ h. slice_set rows (r % length rows) (with_taker by h)) o rows) j ≡ slice_get rows j
    go None = refl
    go (Some h) = get_set_other rows (r % length rows) j (with_taker by h) (other r refl)

rows_own : (q by : ℕ) (rows : List Hold) (h : Hold) → 0 < length rows → row_at rows q ≡ Some h
    → slice_get (rows_with_taker (Cached q) by rows) (q % length rows) ≡ Some (with_taker by h)
rows_own q by rows h some is =
    ap (λ o. slice_get (option_map_or (λ h. slice_set rows (q % length rows) (with_taker by h)) o rows) (q % length rows)) is
    ∙ get_set_same rows (q % length rows) (with_taker by h) (mod_below q (length rows) some)

-- ---- the rows

module _ (i : Image) (logs : Logs) (knows : List ℕ) (entry : Entry) (mark : Mark) (holds : Holds) (from : ℕ) (numbered : AreNumbered (logs 0))
    (none : IsUnplaced i.shape (logs 0) entry.position) (are : AreHolds i.shape (logs 0) holds) (next : entry.position ≡ taken (logs 0))
    (low : from ≤ freed i.shape (logs 0)) (room : taken (logs 0) < from + i.shape.ring) where
  abbrev log : List Logged
  log = logs 0

  abbrev event : Logged
  event = record { event = Decides (Take entry mark); knows = knows }

  abbrev new_log : List Logged
  new_log = after logs (Take entry mark) knows 0

  abbrev t0 : Taken
  t0 = record { entry = entry; mark = mark }

  abbrev fresh : Hold
  fresh = record { mark = mark; line = None; taker = None }

  abbrev items : List Hold
  items = holds.rows.items

  some : 0 < i.shape.ring
  some = let high : freed i.shape log ≤ taken log = freed_taken i.shape log in omega (arith, room, low, high)

  line_now : (q : ℕ) → placed_line i.shape (after logs (Take entry mark) knows 0) q ≡ placed_line i.shape (logs 0) q
  line_now q = line_same i.shape log new_log (alike log entry mark knows).placements (lost_same log new_log (alike log entry mark knows)) q

  back_now : (q : ℕ) → is_given_back i.shape (after logs (Take entry mark) knows 0) q ≡ is_given_back i.shape (logs 0) q
  back_now q =
      any_same (gives_back i.shape new_log q) (gives_back i.shape log q) (gives_back_same i.shape log new_log (alike log entry mark knows) q)
      (placements new_log)
      ∙ ap (list_any (gives_back i.shape log q)) (AreAlike.placements (alike log entry mark knows))

  -- no taker is told where there is none
  untaken : (t : Taken) → taker_in t None ≡ None
  untaken t = go (t.mark.lba == void_lba)
    where
      go : (b : Bool) → (if b then None else (option_map (λ (u : Taken). u.entry.position) None)) ≡ None
      go true = refl
      go false = refl

  -- where an entry that isn't given back stands
  place : (t : Taken) (k : ℕ) → slice_get (takes (logs 0)) k ≡ Some t → t.entry.position ≡ first_position (logs 0) + k
  place t k at = numbered_at (first_position log) (length (takes log)) (takes log) k t numbered at

  below : (t : Taken) (k : ℕ) → slice_get (takes (logs 0)) k ≡ Some t → t.entry.position < entry.position
  below t k at =
      let a : t.entry.position ≡ first_position log + k = place t k at in
      let b : k < length (takes log) = slice_get_within (takes log) k t at in
      omega (arith, next)

  above : (t : Taken) (k : ℕ) → slice_get (takes (logs 0)) k ≡ Some t → is_given_back i.shape (logs 0) t.entry.position ≡ false → from ≤ t.entry.position
  above t k at kept =
      let a : t.entry.position ≡ first_position log + k = place t k at in
      let b : freed i.shape log ≤ t.entry.position =
      least_below (is_given_back i.shape log) (length (takes log)) (first_position log) t.entry.position (omega arith) kept in
      omega (arith, low)

  -- the new entry's row
  abbrev test_new : Taken → Bool
  test_new u = nat_lt entry.position u.entry.position && (u.mark.lba == mark.lba)

  none_later : later_take (after logs (Take entry mark) knows 0) (record { entry = entry; mark = mark }) ≡ None
  none_later =
      ap (find test_new) (takes_more log event)
      ∙ find_fails_last test_new (takes log) t0 (ap (λ b. b && (mark.lba == mark.lba)) (not_below entry.position entry.position (omega arith)))
      ∙ none_is_later log t0 numbered (omega (arith, next))

  no_line : placed_line i.shape (after logs (Take entry mark) knows 0) entry.position ≡ None
  no_line = line_now entry.position
      ∙ ap (option_map (λ (p : Placed). p.stripe.line))
      (find_none (λ (p : Placed). holds_position i.shape entry.position p && not (was_lost log p)) (placements log)
      (all_imply (λ (p : Placed). holds_position i.shape entry.position p ≡ false)
      (λ (p : Placed). (holds_position i.shape entry.position p && not (was_lost log p)) ≡ false)
      (λ p h. not_first (holds_position i.shape entry.position p) (not (was_lost log p)) h) (placements log) none))

  -- Rows into which the entry's is set tell of each entry, if they told of those before.
  rows_are : (rows : List Hold) (new : Holds) → length rows ≡ i.shape.ring
      → ((t : Taken) (k : ℕ) → slice_get (takes (logs 0)) k ≡ Some t → is_given_back i.shape (logs 0) t.entry.position ≡ false
      → slice_get rows (t.entry.position % i.shape.ring) ≡ Some (hold_of i.shape (after logs (Take entry mark) knows 0) t))
      → new.rows.items ≡ slice_set rows (entry.position % length rows) (record { mark = mark; line = None; taker = None })
      → AreHolds i.shape (after logs (Take entry mark) knows 0) new
  rows_are rows new long old is = record {
    room = ap length set ∙ length-set rows (entry.position % i.shape.ring) fresh ∙ long;
    each = λ t there kept. each t there kept;
  }
    where
      set : new.rows.items ≡ slice_set rows (entry.position % i.shape.ring) (record { mark = mark; line = None; taker = None })
      set = is ∙ ap (λ n. slice_set rows (entry.position % n) fresh) long

      newest : slice_get new.rows.items (entry.position % i.shape.ring)
          ≡ Some (hold_of i.shape (after logs (Take entry mark) knows 0) (record { entry = entry; mark = mark }))
      newest =
          ap (λ rs. slice_get rs (entry.position % i.shape.ring)) set
          ∙ get_set_same rows (entry.position % i.shape.ring) fresh
          (subst (λ n. entry.position % i.shape.ring < n) (sym long) (mod_below entry.position i.shape.ring some))
          ∙ ap Some (same_hold mark None (placed_line i.shape new_log entry.position) None (taker_in t0 (later_take new_log t0)) (sym no_line)
          (sym (ap (taker_in t0) none_later ∙ untaken t0)))

      old_row : (t : Taken) (k : ℕ) → slice_get (takes (logs 0)) k ≡ Some t → is_given_back i.shape (logs 0) t.entry.position ≡ false
          → slice_get new.rows.items (t.entry.position % i.shape.ring) ≡ Some (hold_of i.shape (after logs (Take entry mark) knows 0) t)
      old_row t k at kept =
          let d : t.entry.position < entry.position = below t k at in
          let g : from ≤ t.entry.position = above t k at kept in
          ap (λ rs. slice_get rs (t.entry.position % i.shape.ring)) set
          ∙ get_set_other rows (entry.position % i.shape.ring) (t.entry.position % i.shape.ring) fresh
          (apart i.shape.ring t.entry.position entry.position d (omega (arith, next, room)))
          ∙ old t k at kept

      each : (t : Taken) → Contains (takes (after logs (Take entry mark) knows 0)) t
          → is_given_back i.shape (after logs (Take entry mark) knows 0) t.entry.position ≡ false
          → slice_get new.rows.items (t.entry.position % i.shape.ring) ≡ Some (hold_of i.shape (after logs (Take entry mark) knows 0) t)
      each t there kept =
          let at : slice_get (takes new_log) there.0 ≡ Some t = slice_get_read (takes new_log) (length (takes new_log)) there.0 t refl there.1 (sym there.2) in
          go (at_last (takes log) t0 t there.0 (ap (λ ts. slice_get ts there.0) (sym (takes_more log event)) ∙ at))
        where
          go : (slice_get (takes (logs 0)) there.0 ≡ Some t) ⊎ (record { entry = entry; mark = mark } ≡ t)
              → slice_get new.rows.items (t.entry.position % i.shape.ring) ≡ Some (hold_of i.shape (after logs (Take entry mark) knows 0) t)
          go (inl at) = old_row t there.0 at (sym (back_now t.entry.position) ∙ kept)
          go (inr same) =
              subst (λ (t : Taken). slice_get new.rows.items (t.entry.position % i.shape.ring) ≡ Some (hold_of i.shape new_log t)) same newest

  -- ---- of an entry of a sector

  pub holds_taken : (new : Holds) → mark.lba ≡ entry.lba → mark.lba < void_lba
      → new.rows.items ≡ slice_set (rows_with_taker (slot_of i logs entry.lba) entry.position holds.rows.items)
      (entry.position % length (rows_with_taker (slot_of i logs entry.lba) entry.position holds.rows.items)) (record { mark = mark; line = None; taker = None })
      → AreHolds i.shape (after logs (Take entry mark) knows 0) new
  holds_taken new sector named is =
      rows_are rows new (taker_length slot entry.position items ∙ are.room) (λ t k at kept. by_sector t k at kept (mark.lba == t.mark.lba) refl) is
    where
      slot : Slot
      slot = slot_of i logs entry.lba

      rows : List Hold
      rows = rows_with_taker slot entry.position items

      some_rows : 0 < length items
      some_rows = subst (λ n. 0 < n) (sym are.room) some

      -- of a sector the taker is told
      is_told : (t u : Taken) → mark.lba ≡ t.mark.lba → taker_in t (Some u) ≡ Some u.entry.position
      is_told t u same =
          ap (λ b. if b then None else Some u.entry.position) (other_number t.mark.lba void_lba (λ e. absurd (omega arith)))

      -- a row that stays
      passes : Taken → Bool
      passes u = u.mark.lba == entry.lba

      another : (t : Taken) (k : ℕ) → slice_get (takes log) k ≡ Some t → is_given_back i.shape log t.entry.position ≡ false
          → ((u : Taken) (j : ℕ) → u.mark.lba ≡ entry.lba → IsLastAt passes (takes log) u j → j ≢ k)
          → (r : ℕ) → slot ≡ Cached r → t.entry.position % i.shape.ring ≢ r % length items
      another t k at kept differs r e =
          let c : (u : Taken) × IsCachedEntry i logs entry.lba r u = cached i logs entry.lba r e in
          let u : Taken = c.0 in
          let last : (j : ℕ) × IsLastAt passes (takes log) u j = last_at passes (takes log) u c.1.last in
          let j : ℕ = last.0 in
          let apart : j ≢ k = differs u j (last_is_among log entry.lba u c.1.last).1 last.1 in
          let r_is : u.entry.position ≡ r = c.1.position in
          let u_at : slice_get (takes log) j ≡ Some u = last.1.at in
          let a : t.entry.position ≡ first_position log + k = place t k at in
          let b : u.entry.position ≡ first_position log + j = place u j u_at in
          let d : t.entry.position < entry.position = below t k at in
          let f : u.entry.position < entry.position = below u j u_at in
          let g : from ≤ t.entry.position = above t k at kept in
          let h : from ≤ u.entry.position = above u j u_at (subst (λ q. is_given_back i.shape log q ≡ false) (sym r_is) c.1.kept) in
          subst (λ n. t.entry.position % i.shape.ring ≢ r % n) (sym are.room)
          (apart_within i.shape.ring from t.entry.position r g (omega arith) (omega arith) (omega arith) (λ same. apart (omega arith)))

      stays : (t : Taken) (k : ℕ) → slice_get (takes log) k ≡ Some t → is_given_back i.shape log t.entry.position ≡ false
          → ((u : Taken) (j : ℕ) → u.mark.lba ≡ entry.lba → IsLastAt passes (takes log) u j → j ≢ k)
          → later_take new_log t ≡ later_take log t → slice_get rows (t.entry.position % i.shape.ring) ≡ Some (hold_of i.shape new_log t)
      stays t k at kept differs later =
          rows_other slot entry.position items (t.entry.position % i.shape.ring) (another t k at kept differs)
          ∙ are.each t (is_in (takes log) k t at) kept
          ∙ ap Some (same_hold t.mark (placed_line i.shape log t.entry.position) (placed_line i.shape new_log t.entry.position) (taker_in t (later_take log t))
          (taker_in t (later_take new_log t))
          (sym (line_now t.entry.position)) (sym (ap (taker_in t) later)))

      -- the entry that was the last of its sector
      is_last : (t : Taken) (k : ℕ) → slice_get (takes log) k ≡ Some t → mark.lba ≡ t.mark.lba → later_take log t ≡ None → (o : Option Taken)
          → last_take log entry.lba ≡ o → o ≡ Some t
      is_last t k at same later None e =
          absurd (last_is_some passes (takes log) None k t at (ap (λ n. n == entry.lba) (sym same ∙ sector) ∙ same_number entry.lba) e)
      is_last t k at same later (Some u) e =
          let last : (j : ℕ) × IsLastAt passes (takes log) u j = last_at passes (takes log) u e in
          let j : ℕ = last.0 in
          let u_at : slice_get (takes log) j ≡ Some u = last.1.at in
          let up : k ≤ j = last.1.greatest k t at (ap (λ n. n == entry.lba) (sym same ∙ sector) ∙ same_number entry.lba) in
          go j u_at (cases_order k j) up
        where
          go : (j : ℕ) → slice_get (takes log) j ≡ Some u → (k ≡ j) ⊎ ((k < j) ⊎ (j < k)) → k ≤ j → Some u ≡ Some t
          go j u_at (inl one) up = sym u_at ∙ ap (slice_get (takes log)) (sym one) ∙ at
          go j u_at (inr (inr beneath)) up = absurd (omega arith)
          go j u_at (inr (inl beyond)) up =
              let a : t.entry.position ≡ first_position log + k = place t k at in
              let b : u.entry.position ≡ first_position log + j = place u j u_at in
              let lba : u.mark.lba ≡ t.mark.lba = (last_is_among log entry.lba u e).1 ∙ sym sector ∙ same in
              let yes : (nat_lt t.entry.position u.entry.position && (u.mark.lba == t.mark.lba)) ≡ true =
              ap₂ (λ x y. x && y) (lt_true t.entry.position u.entry.position (omega arith)) (ap (λ n. n == t.mark.lba) lba ∙ same_number t.mark.lba) in
              let no : (nat_lt t.entry.position u.entry.position && (u.mark.lba == t.mark.lba)) ≡ false =
              none_passes (λ (u : Taken). nat_lt t.entry.position u.entry.position && (u.mark.lba == t.mark.lba)) (takes log) j u later u_at in
              absurd cc

      taken_from : (t : Taken) (k : ℕ) → slice_get (takes log) k ≡ Some t → is_given_back i.shape log t.entry.position ≡ false → mark.lba ≡ t.mark.lba
          → later_take log t ≡ None
          → slice_get rows (t.entry.position % i.shape.ring) ≡ Some (hold_of i.shape new_log t)
      taken_from t k at kept same later =
          ap (λ sl. slice_get (rows_with_taker sl entry.position items) (t.entry.position % i.shape.ring)) slot_is
          ∙ ap (λ n. slice_get (rows_with_taker (Cached t.entry.position) entry.position items) (t.entry.position % n)) (sym are.room)
          ∙ rows_own t.entry.position entry.position items (hold_of i.shape log t) some_rows
          (ap (λ n. slice_get items (t.entry.position % n)) are.room ∙ are.each t (is_in (takes log) k t at) kept)
          ∙ ap Some (same_hold t.mark (placed_line i.shape log t.entry.position) (placed_line i.shape new_log t.entry.position) (Some entry.position)
          (taker_in t (later_take new_log t))
          (sym (line_now t.entry.position))
          (sym (ap (taker_in t) (later_of_sector log entry mark knows t later same (below t k at)) ∙ is_told t t0 same)))
        where
          slot_is : slot ≡ Cached t.entry.position
          slot_is =
              ap (slot_by i logs entry.lba) (is_last t k at same later (last_take log entry.lba) refl)
              ∙ ap (λ o. option_map_or (media_of i logs t.entry.position) o (Cached t.entry.position))
              (any_none (gives_back i.shape log t.entry.position) (placements log) kept)

      -- a later entry of the sector was taken before
      by_later : (t : Taken) (k : ℕ) → slice_get (takes log) k ≡ Some t → is_given_back i.shape log t.entry.position ≡ false → mark.lba ≡ t.mark.lba
          → (o : Option Taken) → later_take log t ≡ o
          → slice_get rows (t.entry.position % i.shape.ring) ≡ Some (hold_of i.shape new_log t)
      by_later t k at kept same None e = taken_from t k at kept same e
      by_later t k at kept same (Some v) e = stays t k at kept differs (later_stays log event t v e ∙ sym e)
        where
          differs : (u : Taken) (j : ℕ) → u.mark.lba ≡ entry.lba → IsLastAt passes (takes log) u j → j ≢ k
          differs u j of last one =
              let is : ((nat_lt t.entry.position v.entry.position && (v.mark.lba == t.mark.lba)) ≡ true) × ((m : ℕ) × (slice_get (takes log) m ≡ Some v)) =
              found_passes (λ (u : Taken). nat_lt t.entry.position u.entry.position && (u.mark.lba == t.mark.lba)) (takes log) v e in
              let m : ℕ = is.1.0 in
              let v_at : slice_get (takes log) m ≡ Some v = is.1.1 in
              let both : (nat_lt t.entry.position v.entry.position ≡ true) × ((v.mark.lba == t.mark.lba) ≡ true) =
              both_true (nat_lt t.entry.position v.entry.position) (v.mark.lba == t.mark.lba) is.0 in
              let more : t.entry.position < v.entry.position = below_is t.entry.position v.entry.position both.0 in
              let lba : v.mark.lba ≡ entry.lba = eqb-true v.mark.lba t.mark.lba both.1 ∙ sym same ∙ sector in
              let a : t.entry.position ≡ first_position log + k = place t k at in
              let b : v.entry.position ≡ first_position log + m = place v m v_at in
              let up : m ≤ j = last.greatest m v v_at (ap (λ n. n == entry.lba) lba ∙ same_number entry.lba) in
              omega arith

      by_sector : (t : Taken) (k : ℕ) → slice_get (takes log) k ≡ Some t → is_given_back i.shape log t.entry.position ≡ false → (b : Bool)
          → (mark.lba == t.mark.lba) ≡ b
          → slice_get rows (t.entry.position % i.shape.ring) ≡ Some (hold_of i.shape new_log t)
      by_sector t k at kept true e = by_later t k at kept (eqb-true mark.lba t.mark.lba e) (later_take log t) refl
      by_sector t k at kept false e = stays t k at kept differs (later_of_others log entry mark knows t e)
        where
          differs : (u : Taken) (j : ℕ) → u.mark.lba ≡ entry.lba → IsLastAt passes (takes log) u j → j ≢ k
          differs u j of last one =
              let same : u ≡ t = same_Some u t (sym last.at ∙ ap (slice_get (takes log)) one ∙ at) in
              let lba : mark.lba ≡ t.mark.lba = sector ∙ sym of ∙ ap (λ (x : Taken). x.mark.lba) same in
              let yes : (mark.lba == t.mark.lba) ≡ true = ap (λ n. n == t.mark.lba) lba ∙ same_number t.mark.lba in
              absurd cc

  -- ---- of a Void one

  pub holds_void : (new : Holds) → mark.lba ≡ void_lba
      → new.rows.items ≡ slice_set holds.rows.items (entry.position % length holds.rows.items) (record { mark = mark; line = None; taker = None })
      → AreHolds i.shape (after logs (Take entry mark) knows 0) new
  holds_void new void is = rows_are items new are.room stays is
    where
      -- of an entry of a sector it is no later one, and of a Void one none is told
      same_taker : (t : Taken) (b : Bool) → (t.mark.lba == void_lba) ≡ b
          → taker_in t (later_take (logs 0) t) ≡ taker_in t (later_take (after logs (Take entry mark) knows 0) t)
      same_taker t true e =
          ap (λ b. if b then None else option_map (λ (u : Taken). u.entry.position) (later_take log t)) e
          ∙ sym (ap (λ b. if b then None else option_map (λ (u : Taken). u.entry.position) (later_take new_log t)) e)
      same_taker t false e = sym (ap (taker_in t) (later_of_others log entry mark knows t
          (other_number mark.lba t.mark.lba (λ same. not_both (t.mark.lba == void_lba)
          (ap (λ n. n == void_lba) (sym same ∙ void) ∙ same_number void_lba) e))))

      stays : (t : Taken) (k : ℕ) → slice_get (takes (logs 0)) k ≡ Some t → is_given_back i.shape (logs 0) t.entry.position ≡ false
          → slice_get holds.rows.items (t.entry.position % i.shape.ring) ≡ Some (hold_of i.shape (after logs (Take entry mark) knows 0) t)
      stays t k at kept =
          are.each t (is_in (takes log) k t at) kept
          ∙ ap Some (same_hold t.mark (placed_line i.shape log t.entry.position) (placed_line i.shape new_log t.entry.position)
          (taker_in t (later_take log t)) (taker_in t (later_take new_log t)) (sym (line_now t.entry.position))
          (same_taker t (t.mark.lba == void_lba) refl))

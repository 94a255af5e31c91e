-- What one entry that comes into a line makes of the line's row, by where the entries of sectors
-- are.
use Rattle.std.proofs.Common.{◌≡◌, ◌≢◌, ℕ, ◌+◌, ◌<◌, ◌≤◌, ◌==◌, ◌&&◌, nat_eq, nat_lt, Bool, true, false, cond, Some, None, Option, List, [], ◌∷◌, ◌++◌, length, refl, sym, subst, ap, ap₂, ◌∙◌, arith, append_assoc, if◌then◌else◌}
use Rattle.std.specs.List.{AllByRecursion, filter, find, last_or, range_with_len}
use Rattle.std.specs.Option.{option_map}
use Rattle.std.proofs.lemmas.Bool.{eqb-true, eqb-false}
use Rattle.std.proofs.lemmas.List.Elements.{filter-append}
use Rattle.pblk_model.specs.Contents.{is_of}
use Rattle.pblk_world.specs.EngineLog.{Taken}
use Rattle.line_table.specs.Rows.{latest}
use Rattle.core_laws.proofs.Placing.{not_below}
use Rattle.core_laws.proofs.NextTakes.{IsRising, rising_before, rising_after, is_at, fails_at, passes_later, passes_last, is_same, none_found, IsFound, one_more}
use Rattle.core_laws.proofs.TakenRows.{count_less}
use Rattle.pblk_model.proofs.Lists.{all_append, all_imply}
use Rattle.pblk_model.proofs.Maps.{all_filter, all_in_range, filter_agree, filter_none, filter_same}
use Rattle.pblk_model.proofs.Tests.{and_false, lt_true, not_first, other_number, same_number}

-- the line of each sector, by its latest entry or another one
abbrev pub Places : Type 0
Places = ℕ → Option Taken → Option ℕ

-- and with the entry of a position in a line
abbrev pub with_entry : ℕ → ℕ → Places → Places
with_entry position line places lba o = if is_at position o then Some line else places lba o

abbrev pub last_of : List Taken → ℕ → Option Taken
last_of ts lba = last_or None (filter (λ t. t.mark.lba == lba) ts)

abbrev pub before_of : List Taken → Taken → Option Taken
before_of ts t = last_or None (filter (λ u. (u.mark.lba == t.mark.lba) && nat_lt u.entry.position t.entry.position) ts)

abbrev pub live_with : ℕ → List Taken → Places → ℕ → ℕ
live_with capacity ts places line = length (filter (λ lba. is_of line (places lba (last_of ts lba))) (range_with_len 0 capacity))

abbrev pub took_with : ℕ → List Taken → Places → ℕ → Taken → Bool
took_with capacity ts places line t = nat_lt t.mark.lba capacity && is_of line (places t.mark.lba (before_of ts t))

abbrev pub taker_with : ℕ → List Taken → Places → ℕ → Option ℕ
taker_with capacity ts places line = option_map (λ t. t.entry.position) (last_or None (filter (took_with capacity ts places line) ts))

-- no entry of the position is in a line
abbrev pub IsNowhere : ℕ → Places → Type 0
IsNowhere position places = (lba : ℕ) (u : Taken) → u.entry.position ≡ position → places lba (Some u) ≡ None

-- ---- in other lines

elsewhere : (position line other lba : ℕ) (places : Places) (o : Option Taken) → IsNowhere position places → other ≢ line
    → is_of other (with_entry position line places lba o) ≡ is_of other (places lba o)
elsewhere position line other lba places None nowhere apart = refl
elsewhere position line other lba places (Some u) nowhere apart = go (nat_eq u.entry.position position) refl
  where
    go : (b : Bool) → nat_eq u.entry.position position ≡ b → is_of other (if b then Some line else places lba (Some u)) ≡ is_of other (places lba (Some u))
    go true e = other_number line other (λ f. apart (sym f)) ∙ sym (ap (is_of other) (nowhere lba u (eqb-true u.entry.position position e)))
    go false e = refl

pub live_elsewhere : (capacity : ℕ) (ts : List Taken) (places : Places) (position line other : ℕ) → IsNowhere position places → other ≢ line
    → live_with capacity ts (with_entry position line places) other ≡ live_with capacity ts places other
live_elsewhere capacity ts places position line other nowhere apart =
    ap length (filter_same (λ lba. is_of other (with_entry position line places lba (last_of ts lba))) (λ lba. is_of other (places lba (last_of ts lba)))
    (λ lba. elsewhere position line other lba places (last_of ts lba) nowhere apart) (range_with_len 0 capacity))

pub taker_elsewhere : (capacity : ℕ) (ts : List Taken) (places : Places) (position line other : ℕ) → IsNowhere position places → other ≢ line
    → taker_with capacity ts (with_entry position line places) other ≡ taker_with capacity ts places other
taker_elsewhere capacity ts places position line other nowhere apart =
    ap (λ us. option_map (λ (t : Taken). t.entry.position) (last_or None us))
    (filter_same (took_with capacity ts (with_entry position line places) other) (took_with capacity ts places other)
    (λ t. ap (λ b. nat_lt t.mark.lba capacity && b) (elsewhere position line other t.mark.lba places (before_of ts t) nowhere apart)) ts)

-- ---- which entries come last

turned_round : (m n : ℕ) → (m == n) ≡ false → (n == m) ≡ false
turned_round m n e = other_number n m (λ f. eqb-false m n e (sym f))

last_another : (before : List Taken) (t : Taken) (after : List Taken) (u : Taken) → IsRising (before ++ t ∷ after) → IsFound (is_same t) after u
    → is_at t.entry.position (last_of (before ++ t ∷ after) t.mark.lba) ≡ false
last_another before t after u rise f =
    passes_later (is_same t) before t after u (filter (is_same t) f.after) rise
    (ap (filter (is_same t)) f.is ∙ filter-append (is_same t) f.before (u ∷ f.after)
    ∙ ap₂ (λ (xs : List Taken) b. xs ++ cond b (u ∷ filter (is_same t) f.after) (filter (is_same t) f.after))
    (filter_none (is_same t) f.before f.fail) f.passes)

none_before : (before : List Taken) (t : Taken) (after : List Taken) (x : Taken) → IsRising (before ++ t ∷ after)
    → ((t.mark.lba == x.mark.lba) && nat_lt t.entry.position x.entry.position) ≡ false
    → is_at t.entry.position (before_of (before ++ t ∷ after) x) ≡ false
none_before before t after x rise fails = fails_at (λ u. (u.mark.lba == x.mark.lba) && nat_lt u.entry.position x.entry.position) before t after rise fails

-- of the entries up to it none comes after it
up_to : (before : List Taken) (t : Taken) (after : List Taken) → IsRising (before ++ t ∷ after)
    → AllByRecursion (λ x. is_at t.entry.position (before_of (before ++ t ∷ after) x) ≡ false) before
up_to before t after rise =
    all_imply (λ (x : Taken). x.entry.position < t.entry.position) (λ x. is_at t.entry.position (before_of (before ++ t ∷ after) x) ≡ false)
    (λ x h. none_before before t after x rise
    (and_false (t.mark.lba == x.mark.lba) (nat_lt t.entry.position x.entry.position) (not_below x.entry.position t.entry.position (omega arith))))
    before (rising_before before t after rise)

itself : (before : List Taken) (t : Taken) (after : List Taken) → IsRising (before ++ t ∷ after)
    → is_at t.entry.position (before_of (before ++ t ∷ after) t) ≡ false
itself before t after rise = none_before before t after t rise
    (and_false (t.mark.lba == t.mark.lba) (nat_lt t.entry.position t.entry.position) (not_below t.entry.position t.entry.position (omega arith)))

of_others : (before : List Taken) (t : Taken) (after xs : List Taken) → IsRising (before ++ t ∷ after) → AllByRecursion (λ x. is_same t x ≡ false) xs
    → AllByRecursion (λ x. is_at t.entry.position (before_of (before ++ t ∷ after) x) ≡ false) xs
of_others before t after xs rise none =
    all_imply (λ x. is_same t x ≡ false) (λ x. is_at t.entry.position (before_of (before ++ t ∷ after) x) ≡ false)
    (λ x h. none_before before t after x rise
    (not_first (t.mark.lba == x.mark.lba) (nat_lt t.entry.position x.entry.position) (turned_round x.mark.lba t.mark.lba h))) xs none

-- ---- of no sector

pub live_outside : (capacity : ℕ) (before : List Taken) (t : Taken) (after : List Taken) (places : Places) (line m : ℕ) → IsRising (before ++ t ∷ after)
    → capacity ≤ t.mark.lba
    → live_with capacity (before ++ t ∷ after) (with_entry t.entry.position line places) m ≡ live_with capacity (before ++ t ∷ after) places m
live_outside capacity before t after places line m rise outside =
    ap length (filter_agree (λ lba. lba < capacity) (λ lba. is_of m (with_entry t.entry.position line places lba (last_of (before ++ t ∷ after) lba)))
    (λ lba. is_of m (places lba (last_of (before ++ t ∷ after) lba)))
    (λ lba low. ap (λ b. is_of m (if b then Some line else places lba (last_of (before ++ t ∷ after) lba)))
    (fails_at (λ u. u.mark.lba == lba) before t after rise (other_number t.mark.lba lba (λ e. absurd (omega arith)))))
    (range_with_len 0 capacity) (all_in_range 0 capacity capacity (omega arith)))

pub taker_outside : (capacity : ℕ) (before : List Taken) (t : Taken) (after : List Taken) (places : Places) (line m : ℕ) → IsRising (before ++ t ∷ after)
    → capacity ≤ t.mark.lba
    → taker_with capacity (before ++ t ∷ after) (with_entry t.entry.position line places) m ≡ taker_with capacity (before ++ t ∷ after) places m
taker_outside capacity before t after places line m rise outside =
    ap (λ us. option_map (λ (u : Taken). u.entry.position) (last_or None us))
    (filter_same (took_with capacity (before ++ t ∷ after) (with_entry t.entry.position line places) m) (took_with capacity (before ++ t ∷ after) places m)
    (λ x. go x (nat_eq t.mark.lba x.mark.lba) refl) (before ++ t ∷ after))
  where
    go : (x : Taken) (b : Bool) → nat_eq t.mark.lba x.mark.lba ≡ b
        → took_with capacity (before ++ t ∷ after) (with_entry t.entry.position line places) m x ≡ took_with capacity (before ++ t ∷ after) places m x
    go x true e =
        let past : nat_lt x.mark.lba capacity ≡ false =
        not_below capacity x.mark.lba (subst (λ n. capacity ≤ n) (eqb-true t.mark.lba x.mark.lba e) outside) in
        ap (λ b. b && is_of m (with_entry t.entry.position line places x.mark.lba (before_of (before ++ t ∷ after) x))) past
        ∙ sym (ap (λ b. b && is_of m (places x.mark.lba (before_of (before ++ t ∷ after) x))) past)
    go x false e =
        ap (λ b. nat_lt x.mark.lba capacity && is_of m (if b then Some line else places x.mark.lba (before_of (before ++ t ∷ after) x)))
        (none_before before t after x rise (not_first (t.mark.lba == x.mark.lba) (nat_lt t.entry.position x.entry.position) e))

-- ---- with no later entry of the sector

pub live_last : (capacity : ℕ) (before : List Taken) (t : Taken) (after : List Taken) (places : Places) (line : ℕ) → IsRising (before ++ t ∷ after)
    → IsNowhere t.entry.position places → t.mark.lba < capacity
    → find (is_same t) after ≡ None
    → live_with capacity (before ++ t ∷ after) (with_entry t.entry.position line places) line ≡ live_with capacity (before ++ t ∷ after) places line + 1
live_last capacity before t after places line rise nowhere inside none =
    let ts : List Taken = before ++ t ∷ after in
    let first : 0 + t.mark.lba ≡ t.mark.lba = omega arith in
    let last : last_of ts t.mark.lba ≡ Some t =
    passes_last (is_same t) before t after (same_number t.mark.lba) (filter_none (is_same t) after (none_found (is_same t) after none)) in
    count_less (λ lba. is_of line (with_entry t.entry.position line places lba (last_of ts lba)))
    (λ lba. is_of line (places lba (last_of ts lba))) capacity 0 t.mark.lba inside
    (ap (λ lba. is_of line (with_entry t.entry.position line places lba (last_of ts lba))) first
    ∙ ap (λ o. is_of line (with_entry t.entry.position line places t.mark.lba o)) last
    ∙ ap (λ b. is_of line (if b then Some line else places t.mark.lba (Some t))) (same_number t.entry.position) ∙ same_number line)
    (ap (λ lba. is_of line (places lba (last_of ts lba))) first ∙ ap (λ o. is_of line (places t.mark.lba o)) last ∙ ap (is_of line) (nowhere t.mark.lba t refl))
    (λ m other. sym (ap (λ b. is_of line (if b then Some line else places m (last_of ts m)))
    (fails_at (λ u. u.mark.lba == m) before t after rise (other_number t.mark.lba m (λ e. other (sym e ∙ sym first))))))

took_same : (capacity : ℕ) (ts : List Taken) (places : Places) (position line : ℕ) (xs : List Taken)
    → AllByRecursion (λ x. is_at position (before_of ts x) ≡ false) xs
    → filter (took_with capacity ts (with_entry position line places) line) xs ≡ filter (took_with capacity ts places line) xs
took_same capacity ts places position line xs none =
    filter_agree (λ x. is_at position (before_of ts x) ≡ false) (took_with capacity ts (with_entry position line places) line)
    (took_with capacity ts places line)
    (λ x h. ap (λ b. nat_lt x.mark.lba capacity && is_of line (if b then Some line else places x.mark.lba (before_of ts x))) h) xs none

pub taker_last : (capacity : ℕ) (before : List Taken) (t : Taken) (after : List Taken) (places : Places) (line : ℕ) → IsRising (before ++ t ∷ after)
    → find (is_same t) after ≡ None
    → taker_with capacity (before ++ t ∷ after) (with_entry t.entry.position line places) line ≡ taker_with capacity (before ++ t ∷ after) places line
taker_last capacity before t after places line rise none =
    let ts : List Taken = before ++ t ∷ after in
    ap (λ us. option_map (λ (u : Taken). u.entry.position) (last_or None us))
    (took_same capacity ts places t.entry.position line ts
    (all_append (λ x. is_at t.entry.position (before_of (before ++ t ∷ after) x) ≡ false) before (t ∷ after) (up_to before t after rise)
    (itself before t after rise, of_others before t after after rise (none_found (is_same t) after none))))

-- ---- with a later one

pub live_later : (capacity : ℕ) (before : List Taken) (t : Taken) (after : List Taken) (u : Taken) (places : Places) (line : ℕ) → IsRising (before ++ t ∷ after)
    → IsFound (is_same t) after u
    → live_with capacity (before ++ t ∷ after) (with_entry t.entry.position line places) line ≡ live_with capacity (before ++ t ∷ after) places line
live_later capacity before t after u places line rise f =
    ap length (filter_same (λ lba. is_of line (with_entry t.entry.position line places lba (last_of (before ++ t ∷ after) lba)))
    (λ lba. is_of line (places lba (last_of (before ++ t ∷ after) lba)))
    (λ lba. ap (λ b. is_of line (if b then Some line else places lba (last_of (before ++ t ∷ after) lba))) (none lba (nat_eq t.mark.lba lba) refl))
    (range_with_len 0 capacity))
  where
    none : (lba : ℕ) (b : Bool) → nat_eq t.mark.lba lba ≡ b → is_at t.entry.position (last_of (before ++ t ∷ after) lba) ≡ false
    none lba true e = ap (λ n. is_at t.entry.position (last_of (before ++ t ∷ after) n)) (sym (eqb-true t.mark.lba lba e))
        ∙ last_another before t after u rise f
    none lba false e = fails_at (λ v. v.mark.lba == lba) before t after rise e

-- it comes right after the entry
its_before : (before : List Taken) (t : Taken) (after : List Taken) (u : Taken) → IsRising (before ++ t ∷ after) → IsFound (is_same t) after u
    → before_of (before ++ t ∷ after) u ≡ Some t
its_before before t after u rise f =
    let sector : u.mark.lba ≡ t.mark.lba = eqb-true u.mark.lba t.mark.lba f.passes in
    let rest : IsRising ((before ++ t ∷ f.before) ++ u ∷ f.after) =
    subst IsRising (ap (λ (zs : List Taken). before ++ t ∷ zs) f.is ∙ sym (append_assoc before (t ∷ f.before) (u ∷ f.after))) rise in
    let above : AllByRecursion (λ v. u.entry.position < v.entry.position) f.after = rising_after (before ++ t ∷ f.before) u f.after rest in
    let it : t.entry.position < u.entry.position =
    all_in t u f.before f.after (subst (AllByRecursion (λ v. t.entry.position < v.entry.position)) f.is (rising_after before t after rise)) in
    passes_last (λ v. (v.mark.lba == u.mark.lba) && nat_lt v.entry.position u.entry.position) before t after
    (ap₂ (λ a b. a && b) (ap (λ n. n == u.mark.lba) (sym sector) ∙ same_number u.mark.lba) (lt_true t.entry.position u.entry.position it))
    (ap (filter (λ v. (v.mark.lba == u.mark.lba) && nat_lt v.entry.position u.entry.position)) f.is
    ∙ filter_none (λ v. (v.mark.lba == u.mark.lba) && nat_lt v.entry.position u.entry.position) (f.before ++ u ∷ f.after)
    (all_append (λ v. ((v.mark.lba == u.mark.lba) && nat_lt v.entry.position u.entry.position) ≡ false) f.before (u ∷ f.after)
    (all_imply (λ v. is_same t v ≡ false) (λ v. ((v.mark.lba == u.mark.lba) && nat_lt v.entry.position u.entry.position) ≡ false)
    (λ v h. not_first (v.mark.lba == u.mark.lba) (nat_lt v.entry.position u.entry.position) (ap (λ n. v.mark.lba == n) sector ∙ h)) f.before f.fail) (
      and_false (u.mark.lba == u.mark.lba) (nat_lt u.entry.position u.entry.position) (not_below u.entry.position u.entry.position (omega arith)),
      all_imply (λ (v : Taken). u.entry.position < v.entry.position) (λ v. ((v.mark.lba == u.mark.lba) && nat_lt v.entry.position u.entry.position) ≡ false)
          (λ v h. and_false (v.mark.lba == u.mark.lba) (nat_lt v.entry.position u.entry.position) (not_below u.entry.position v.entry.position (omega arith)))
          f.after above,
    )))
  where
    all_in : (t u : Taken) (xs ys : List Taken) → AllByRecursion (λ v. t.entry.position < v.entry.position) (xs ++ u ∷ ys) → t.entry.position < u.entry.position
    all_in t u [] ys all = all.0
    all_in t u (x ∷ xs) ys all = all_in t u xs ys all.1

-- and isn't the first behind it for any that follow
past_it : (before : List Taken) (t : Taken) (after : List Taken) (u : Taken) → IsRising (before ++ t ∷ after) → IsFound (is_same t) after u → (x : Taken)
    → u.entry.position < x.entry.position
    → is_at t.entry.position (before_of (before ++ t ∷ after) x) ≡ false
past_it before t after u rise f x above = go (nat_eq t.mark.lba x.mark.lba) refl
  where
    go : (b : Bool) → nat_eq t.mark.lba x.mark.lba ≡ b → is_at t.entry.position (before_of (before ++ t ∷ after) x) ≡ false
    go false e = none_before before t after x rise (not_first (t.mark.lba == x.mark.lba) (nat_lt t.entry.position x.entry.position) e)
    go true e =
        let sector : x.mark.lba ≡ t.mark.lba = sym (eqb-true t.mark.lba x.mark.lba e) in
        let its : u.mark.lba ≡ t.mark.lba = eqb-true u.mark.lba t.mark.lba f.passes in
        passes_later (λ v. (v.mark.lba == x.mark.lba) && nat_lt v.entry.position x.entry.position) before t after u
        (filter (λ v. (v.mark.lba == x.mark.lba) && nat_lt v.entry.position x.entry.position) f.after) rise
        (ap (filter (λ v. (v.mark.lba == x.mark.lba) && nat_lt v.entry.position x.entry.position)) f.is
        ∙ filter-append (λ v. (v.mark.lba == x.mark.lba) && nat_lt v.entry.position x.entry.position) f.before (u ∷ f.after)
        ∙ ap₂ (λ (xs : List Taken) b. xs ++ cond b (u ∷ filter (λ v. (v.mark.lba == x.mark.lba) && nat_lt v.entry.position x.entry.position) f.after)
        (filter (λ v. (v.mark.lba == x.mark.lba) && nat_lt v.entry.position x.entry.position) f.after))
        (filter_none (λ v. (v.mark.lba == x.mark.lba) && nat_lt v.entry.position x.entry.position) f.before
        (all_imply (λ v. is_same t v ≡ false) (λ v. ((v.mark.lba == x.mark.lba) && nat_lt v.entry.position x.entry.position) ≡ false)
        (λ v h. not_first (v.mark.lba == x.mark.lba) (nat_lt v.entry.position x.entry.position) (ap (λ n. v.mark.lba == n) sector ∙ h)) f.before f.fail))
        (ap₂ (λ a b. a && b) (ap (λ n. n == x.mark.lba) (its ∙ sym sector) ∙ same_number x.mark.lba) (lt_true u.entry.position x.entry.position above)))

pub taker_later : (capacity : ℕ) (before : List Taken) (t : Taken) (after : List Taken) (u : Taken) (places : Places) (line : ℕ)
    → IsRising (before ++ t ∷ after) → IsNowhere t.entry.position places → t.mark.lba < capacity
    → IsFound (is_same t) after u
    → taker_with capacity (before ++ t ∷ after) (with_entry t.entry.position line places) line ≡ Some
    (latest (taker_with capacity (before ++ t ∷ after) places line) u.entry.position)
taker_later capacity before t after u places line rise nowhere inside f =
    let parts : before ++ t ∷ after ≡ (before ++ t ∷ f.before) ++ u ∷ f.after = ap (λ (zs : List Taken). before ++ t ∷ zs) f.is
    ∙ sym (append_assoc before (t ∷ f.before) (u ∷ f.after)) in
    let rest : IsRising ((before ++ t ∷ f.before) ++ u ∷ f.after) = subst IsRising parts rise in
    let sector : u.mark.lba ≡ t.mark.lba = eqb-true u.mark.lba t.mark.lba f.passes in
    let below : u.mark.lba < capacity = subst (λ n. n < capacity) (sym sector) inside in
    let above : AllByRecursion (λ v. u.entry.position < v.entry.position) f.after = rising_after (before ++ t ∷ f.before) u f.after rest in
    let its : before_of (before ++ t ∷ after) u ≡ Some t = its_before before t after u rise f in
    let yes : took_with capacity (before ++ t ∷ after) (with_entry t.entry.position line places) line u ≡ true =
    ap₂ (λ a o. a && is_of line (with_entry t.entry.position line places u.mark.lba o)) (lt_true u.mark.lba capacity below) its
    ∙ ap (λ b. is_of line (if b then Some line else places u.mark.lba (Some t))) (same_number t.entry.position) ∙ same_number line in
    let no : took_with capacity (before ++ t ∷ after) places line u ≡ false =
    ap₂ (λ a o. a && is_of line (places u.mark.lba o)) (lt_true u.mark.lba capacity below) its ∙ ap (is_of line) (nowhere u.mark.lba t refl) in
    let up : AllByRecursion (λ x. is_at t.entry.position (before_of (before ++ t ∷ after) x) ≡ false) (before ++ t ∷ f.before) =
    all_append (λ x. is_at t.entry.position (before_of (before ++ t ∷ after) x) ≡ false) before (t ∷ f.before) (up_to before t after rise)
    (itself before t after rise, of_others before t after f.before rise f.fail) in
    let past : AllByRecursion (λ x. is_at t.entry.position (before_of (before ++ t ∷ after) x) ≡ false) f.after =
    all_imply (λ (v : Taken). u.entry.position < v.entry.position) (λ x. is_at t.entry.position (before_of (before ++ t ∷ after) x) ≡ false)
    (λ x h. past_it before t after u rise f x h) f.after above in
    let old_parts : filter (took_with capacity (before ++ t ∷ after) places line) (before ++ t ∷ after)
    ≡ filter (took_with capacity (before ++ t ∷ after) places line) (before ++ t ∷ f.before)
    ++ filter (took_with capacity (before ++ t ∷ after) places line) f.after =
    ap (filter (took_with capacity (before ++ t ∷ after) places line)) parts
    ∙ filter-append (took_with capacity (before ++ t ∷ after) places line) (before ++ t ∷ f.before) (u ∷ f.after)
    ∙ ap (λ b. filter (took_with capacity (before ++ t ∷ after) places line) (before ++ t ∷ f.before)
    ++ cond b (u ∷ filter (took_with capacity (before ++ t ∷ after) places line) f.after)
    (filter (took_with capacity (before ++ t ∷ after) places line) f.after)) no in
    let new_parts : filter (took_with capacity (before ++ t ∷ after) (with_entry t.entry.position line places) line) (before ++ t ∷ after)
    ≡ filter (took_with capacity (before ++ t ∷ after) places line) (before ++ t ∷ f.before)
    ++ u ∷ filter (took_with capacity (before ++ t ∷ after) places line) f.after =
    ap (filter (took_with capacity (before ++ t ∷ after) (with_entry t.entry.position line places) line)) parts
    ∙ filter-append (took_with capacity (before ++ t ∷ after) (with_entry t.entry.position line places) line) (before ++ t ∷ f.before) (u ∷ f.after)
    ∙ ap (λ b. filter (took_with capacity (before ++ t ∷ after) (with_entry t.entry.position line places) line) (before ++ t ∷ f.before)
    ++ cond b (u ∷ filter (took_with capacity (before ++ t ∷ after) (with_entry t.entry.position line places) line) f.after)
    (filter (took_with capacity (before ++ t ∷ after) (with_entry t.entry.position line places) line) f.after)) yes
    ∙ ap₂ (λ (xs ys : List Taken). xs ++ u ∷ ys)
    (took_same capacity (before ++ t ∷ after) places t.entry.position line (before ++ t ∷ f.before) up)
    (took_same capacity (before ++ t ∷ after) places t.entry.position line f.after past) in
    ap (λ us. option_map (λ (v : Taken). v.entry.position) (last_or None us)) new_parts
    ∙ one_more (filter (took_with capacity (before ++ t ∷ after) places line) (before ++ t ∷ f.before)) u
    (filter (took_with capacity (before ++ t ∷ after) places line) f.after)
    (all_filter (λ (v : Taken). v.entry.position < u.entry.position) (took_with capacity (before ++ t ∷ after) places line) (before ++ t ∷ f.before)
    (rising_before (before ++ t ∷ f.before) u f.after rest))
    (all_filter (λ (v : Taken). u.entry.position < v.entry.position) (took_with capacity (before ++ t ∷ after) places line) f.after above)
    ∙ ap (λ us. Some (latest (option_map (λ (v : Taken). v.entry.position) (last_or None us)) u.entry.position)) (sym old_parts)

-- A window by the logs has the front synced of the logs.
use Rattle.std.proofs.Common.{◌≡◌, ◌⊎◌, inl, inr, ℕ, ◌+◌, ◌-◌, ◌<◌, ◌≤◌, zero, suc, nat_lt, Bool, true, false, cond, Some, None, Option, List, [], ◌∷◌, ◌++◌, length, take, drop, refl, sym, subst, ap, ap₂, ◌∙◌, arith, length-append, length-drop}
use Rattle.std.specs.Prelude.{map}
use Rattle.std.specs.List.{AllByRecursion, filter, prefix_len, range_with_len}
use Rattle.std.proofs.lemmas.Bool.{cases_order}
use Rattle.std.proofs.lemmas.List.Elements.{filter-append}
use Rattle.std.proofs.lemmas.List.Folds.{length-prefix_len}
use Rattle.pblk_model.specs.declared.shape.Shape.{Shape}
use Rattle.pblk_model.specs.declared.run.Front.{Front}
use Rattle.pblk_model.specs.Contents.{least_missing}
use Rattle.pblk_model.specs.History.{users}
use Rattle.pblk_world.specs.Events.{Source, Logged}
use Rattle.pblk_world.specs.EngineLog.{Taken, takes}
use Rattle.pblk_world.specs.Fronts.{first_position, taken, has_landed_at, synced, is_users, user_takes, user_positions}
use Rattle.pblk_world.proofs.SyncedFront.{synced_is, synced_within, IsLeast, least}
use Rattle.write_window.specs.declared.held.Held.{Held}
use Rattle.write_window.specs.Entries.{has_landed, user_count, users_in, landed_first}
use Rattle.write_window.specs.Window.{WindowView}
use Rattle.write_window.specs.Window as window
use Rattle.core_laws.specs.PlacerOf.{positions_of}
use Rattle.core_laws.specs.Positions.{AreNumbered}
use Rattle.core_laws.specs.WindowOf.{HeldSector, HeldSectors, without_frame, sectors_in, class_of, progress_by, is_given_back, held_of, users_below, window_from}
use Rattle.core_laws.proofs.Placing.{not_below}
use Rattle.pblk_model.proofs.Lists.{all_imply}
use Rattle.pblk_model.proofs.Maps.{all_filter, filter_none}
use Rattle.pblk_model.proofs.Tests.{below_by, lt_true, no_both}

pub one_least : (f : ℕ → Bool) (turns p m : ℕ) → IsLeast f turns p m → m ≡ least_missing f turns p
one_least f turns p m is = go (cases_order m (least_missing f turns p)) (least f turns p)
  where
    go : (m ≡ least_missing f turns p) ⊎ ((m < least_missing f turns p) ⊎ (least_missing f turns p < m)) → IsLeast f turns p (least_missing f turns p)
        → m ≡ least_missing f turns p
    go (inl same) other = same
    go (inr (inl above)) other = let a : p ≤ m = is.from in let b : least_missing f turns p ≤ p + turns =
        other.within in no_both (f m) (other.below m a above) (is.missing (omega arith))
    go (inr (inr beneath)) other = let a : p ≤ least_missing f turns p = other.from in let b : m ≤ p + turns =
        is.within in no_both (f (least_missing f turns p)) (is.below (least_missing f turns p) a beneath) (other.missing (omega arith))

-- ---- the entries that have landed first

landed_by : (a b : Bool) → has_landed (progress_by a b) ≡ a
landed_by false b = refl
landed_by true false = refl
landed_by true true = refl

-- the same entries
abbrev AreAlike : Shape → List Logged → List Held → List Taken → Type 0
AreAlike s log held ts = map without_frame held ≡ map (held_of s log) ts

lead : (s : Shape) (log : List Logged) (held : List Held) (ts : List Taken) (from : ℕ) → AreAlike s log held ts
    → positions_of ts ≡ range_with_len from (length ts)
    → IsLeast (has_landed_at s log) (length ts) from (from + prefix_len (λ (h : Held). has_landed h.progress) held)
lead s log [] [] from same numbered =
    record { from = omega arith; within = omega arith; below = λ q a b. absurd (omega arith); missing = λ a. absurd (omega arith) }
lead s log [] (t ∷ ts) from same numbered = absurd cc
lead s log (h ∷ held) [] from same numbered = absurd cc
lead s log (h ∷ held) (t ∷ ts) from same numbered =
    let here : without_frame h ≡ held_of s log t = cc in
    let rest : AreAlike s log held ts = cc in
    let position : t.entry.position ≡ from = cc in
    let others : positions_of ts ≡ range_with_len (from + 1) (length ts) = cc in
    let its : has_landed h.progress ≡ has_landed_at s log from =
    ap (λ (x : HeldSector). has_landed x.progress) here ∙ landed_by (has_landed_at s log t.entry.position) (is_given_back s log t.entry.position)
    ∙ ap (has_landed_at s log) position in
    go (has_landed h.progress) its (lead s log held ts (from + 1) rest others)
  where
    go : (b : Bool) → b ≡ has_landed_at s log from
        → IsLeast (has_landed_at s log) (length ts) (from + 1) (from + 1 + prefix_len (λ (h : Held). has_landed h.progress) held)
        → IsLeast (has_landed_at s log) (suc (length ts)) from (from + cond b (1 + prefix_len (λ (h : Held). has_landed h.progress) held) 0)
    go true e is =
        let m : ℕ = prefix_len (λ (h : Held). has_landed h.progress) held in
        let next : from + (1 + m) ≡ from + 1 + m = omega arith in
        subst (IsLeast (has_landed_at s log) (suc (length ts)) from) (sym next) (record {
          from = omega arith;
          within = let a : from + 1 + m ≤ from + 1 + length ts = is.within in omega arith;
          below = λ q a b. below_by (has_landed_at s log) from (sym e) (from + 1 + m) is.below q a b;
          missing = λ a. is.missing (omega arith);
        })
    go false e is = record {
      from = omega arith;
      within = omega arith;
      below = λ q a b. absurd (omega arith);
      missing =
          λ a. ap (has_landed_at s log) (omega arith) ∙ sym e;
    }

-- ---- users' writes

users_of : List Taken → ℕ
users_of ts = length (filter (λ (t : Taken). is_users t.entry.source) ts)

count_class : (source : Option Source) (xs : List Taken) (t : Taken) → length (cond (is_users source) (t ∷ xs) xs) ≡ user_count (class_of source) + length xs
count_class None xs t = omega arith
count_class (Some source) xs t = omega arith

users_first : (s : Shape) (log : List Logged) (n : ℕ) (held : List Held) (ts : List Taken) → AreAlike s log held ts
    → users_in (take n held) ≡ users_of (take n ts)
unfolding users_of
users_first s log zero held ts same = refl
users_first s log (suc n) [] [] same = refl
users_first s log (suc n) [] (t ∷ ts) same = absurd cc
users_first s log (suc n) (h ∷ held) [] same = absurd cc
users_first s log (suc n) (h ∷ held) (t ∷ ts) same =
    let here : without_frame h ≡ held_of s log t = cc in
    let rest : AreAlike s log held ts = cc in
    ap₂ (λ (x : HeldSector) n. user_count x.class + n) here (users_first s log n held ts rest)
    ∙ sym (count_class t.entry.source (filter (λ (t : Taken). is_users t.entry.source) (take n ts)) t)

pub numbered_above : (a : ℕ) (ts : List Taken) → positions_of ts ≡ range_with_len a (length ts) → AllByRecursion (λ (t : Taken). a ≤ t.entry.position) ts
numbered_above a [] is = tt
numbered_above a (t ∷ ts) is =
    let first : t.entry.position ≡ a = cc in
    let rest : positions_of ts ≡ range_with_len (a + 1) (length ts) = cc in (
      omega arith,
      all_imply (λ (u : Taken). a + 1 ≤ u.entry.position) (λ (u : Taken). a ≤ u.entry.position) (λ u h. omega arith) ts
          (numbered_above (a + 1) ts rest),
    )

none_below : (a bound : ℕ) (ts : List Taken) → bound ≤ a → positions_of ts ≡ range_with_len a (length ts)
    → filter (λ (t : Taken). nat_lt t.entry.position bound) (filter (λ (t : Taken). is_users t.entry.source) ts) ≡ []
none_below a bound ts within is =
    filter_none (λ (t : Taken). nat_lt t.entry.position bound) (filter (λ (t : Taken). is_users t.entry.source) ts)
    (all_filter (λ (t : Taken). nat_lt t.entry.position bound ≡ false) (λ (t : Taken). is_users t.entry.source) ts
    (all_imply (λ (t : Taken). a ≤ t.entry.position) (λ (t : Taken). nat_lt t.entry.position bound ≡ false)
    (λ t h. not_below bound t.entry.position (omega arith)) ts (numbered_above a ts is)))

count_below : (a m : ℕ) (ts : List Taken) → positions_of ts ≡ range_with_len a (length ts)
    → length (filter (λ (t : Taken). nat_lt t.entry.position (a + m)) (filter (λ (t : Taken). is_users t.entry.source) ts)) ≡ users_of (take m ts)
unfolding users_of
count_below a zero ts is = ap length (none_below a (a + 0) ts (omega arith) is)
count_below a (suc m) [] is = refl
count_below a (suc m) (t ∷ ts) is =
    let first : t.entry.position ≡ a = cc in
    let rest : positions_of ts ≡ range_with_len (a + 1) (length ts) = cc in
    let next : a + suc m ≡ a + 1 + m = omega arith in
    go (is_users t.entry.source) (lt_true t.entry.position (a + suc m) (omega arith))
    (ap (λ n. length (filter (λ (t : Taken). nat_lt t.entry.position n) (filter (λ (t : Taken). is_users t.entry.source) ts))) next
    ∙ count_below (a + 1) m ts rest)
  where
    go : (b : Bool) → nat_lt t.entry.position (a + suc m) ≡ true
        → length (filter (λ (t : Taken). nat_lt t.entry.position (a + suc m)) (filter (λ (t : Taken). is_users t.entry.source) ts)) ≡ length
        (filter (λ (t : Taken). is_users t.entry.source) (take m ts))
        → length (filter (λ (t : Taken). nat_lt t.entry.position (a + suc m))
        (cond b (t ∷ filter (λ (t : Taken). is_users t.entry.source) ts) (filter (λ (t : Taken). is_users t.entry.source) ts)))
        ≡ length (cond b (t ∷ filter (λ (t : Taken). is_users t.entry.source) (take m ts)) (filter (λ (t : Taken). is_users t.entry.source) (take m ts)))
    go true below rest = ap (λ c. length
        (cond c (t ∷ filter (λ (t : Taken). nat_lt t.entry.position (a + suc m)) (filter (λ (t : Taken). is_users t.entry.source) ts))
        (filter (λ (t : Taken). nat_lt t.entry.position (a + suc m)) (filter (λ (t : Taken). is_users t.entry.source) ts)))) below ∙ ap suc rest
    go false below rest = rest

take_none : {X : Type 0} (n : ℕ) → take n (let none : List X = [] in none) ≡ []
take_none zero = refl
take_none (suc n) = refl

take_more : {X : Type 0} (k n : ℕ) (xs : List X) → take (k + n) xs ≡ take k xs ++ take n (drop k xs)
take_more zero n xs = let same : 0 + n ≡ n = omega arith in ap (λ m. take m xs) same
take_more (suc k) n [] = take_none (suc k + n) ∙ sym (take_none n)
take_more (suc k) n (x ∷ xs) = let next : suc k + n ≡ suc (k + n) = omega arith in ap (λ m. take m (x ∷ xs)) next ∙ ap (λ ys. x ∷ ys) (take_more k n xs)

users_joined : (k n : ℕ) (ts : List Taken) → users_of (take (k + n) ts) ≡ users_of (take k ts) + users_of (take n (drop k ts))
unfolding users_of
users_joined k n ts =
    ap (λ (us : List Taken). length (filter (λ (t : Taken). is_users t.entry.source) us)) (take_more k n ts)
    ∙ ap length (filter-append (λ (t : Taken). is_users t.entry.source) (take k ts) (take n (drop k ts)))
    ∙ length-append (filter (λ (t : Taken). is_users t.entry.source) (take k ts)) (filter (λ (t : Taken). is_users t.entry.source) (take n (drop k ts)))

drop_numbered : (k a : ℕ) (ts : List Taken) → positions_of ts ≡ range_with_len a (length ts)
    → positions_of (drop k ts) ≡ range_with_len (a + k) (length (drop k ts))
drop_numbered zero a ts is = let same : a ≡ a + 0 = omega arith in is ∙ ap (λ n. range_with_len n (length ts)) same
drop_numbered (suc k) a [] is = refl
drop_numbered (suc k) a (t ∷ ts) is =
    let rest : positions_of ts ≡ range_with_len (a + 1) (length ts) = cc in
    let next : a + 1 + k ≡ a + suc k = omega arith in
    drop_numbered k (a + 1) ts rest ∙ ap (λ n. range_with_len n (length (drop k ts))) next

-- ---- the law

landed_below : (s : Shape) (log : List Logged) (from m : ℕ) → from ≤ synced s log → ((q : ℕ) → from ≤ q → q < m → has_landed_at s log q ≡ true) → (q : ℕ)
    → first_position log ≤ q → q < m → has_landed_at s log q ≡ true
landed_below s log from m within h q a b = go (cases_order q from)
  where
    go : (q ≡ from) ⊎ ((q < from) ⊎ (from < q)) → has_landed_at s log q ≡ true
    go (inl same) = h q (omega arith) b
    go (inr (inl below)) = synced_is s log q a (omega arith)
    go (inr (inr above)) = h q (omega arith) b

-- the entries from a position on, where all before it have landed
pub front_at : (s : Shape) (log : List Logged) (from : ℕ) (held : List Held) → AreNumbered log → first_position log ≤ from → from ≤ synced s log
    → map without_frame held ≡ (window_from s log from).entries → from + prefix_len (λ (h : Held). has_landed h.progress) held ≡ synced s log
front_at s log from held numbered above within same =
    let k : ℕ = from - first_position log in
    let ts : List Taken = drop (from - first_position log) (takes log) in
    let at : first_position log + k ≡ from = omega arith in
    let count : length ts ≡ length (takes log) - k = length-drop k (takes log) in
    let inside : synced s log ≤ taken log = synced_within s log in
    let m : ℕ = from + prefix_len (λ (h : Held). has_landed h.progress) held in
    let is : IsLeast (has_landed_at s log) (length ts) from m =
    lead s log held ts from same (subst (λ n. positions_of ts ≡ range_with_len n (length ts)) at (drop_numbered k (first_position log) (takes log) numbered)) in
    one_least (has_landed_at s log) (length (takes log)) (first_position log) m (record {
      from = let a : from ≤ m = is.from in omega arith;
      within = let a : m ≤ from + length ts = is.within in omega arith;
      below = landed_below s log from m within is.below;
      missing = λ a. is.missing (omega arith);
    })

users_at : (s : Shape) (log : List Logged) (from : ℕ) (held : List Held) (n : ℕ) → AreNumbered log → first_position log ≤ from
    → map without_frame held ≡ (window_from s log from).entries
    → users_below log from + users_in (take n held) ≡ users_below log (from + n)
users_at s log from held n numbered above same =
    let k : ℕ = from - first_position log in
    let at : first_position log + k ≡ from = omega arith in
    let then_ : first_position log + (k + n) ≡ from + n = omega arith in
    ap₂ (λ a b. a + b) (ap (users_below log) (sym at) ∙ count_below (first_position log) k (takes log) numbered)
    (users_first s log n held (drop (from - first_position log) (takes log)) same)
    ∙ sym (users_joined k n (takes log))
    ∙ sym (count_below (first_position log) (k + n) (takes log) numbered)
    ∙ ap (users_below log) then_

same_front : (a b p q : ℕ) → a ≡ b → p ≡ q → ◌≡◌ {A = Front} (record { users = a; position = p }) (record { users = b; position = q })
same_front a b p q e f = λ i. record { users = e i; position = f i }

pub front_synced : (s : Shape) (log : List Logged) (from : ℕ) (w : WindowView) → AreNumbered log → first_position log ≤ from → from ≤ synced s log
    → sectors_in w ≡ window_from s log from
    → window.synced w ≡ record { users = users_below log (synced s log); position = synced s log }
front_synced s log from w numbered above within same =
    let n : ℕ = prefix_len (λ (h : Held). has_landed h.progress) w.entries in
    let entries : map without_frame w.entries ≡ (window_from s log from).entries = ap (λ (x : HeldSectors). x.entries) same in
    let front : from + n ≡ synced s log = front_at s log from w.entries numbered above within entries in
    same_front (w.users + users_in (landed_first w.entries)) (users_below log (synced s log)) (w.freed + length (landed_first w.entries)) (synced s log)
    (ap (λ (x : HeldSectors). x.users + users_in (landed_first w.entries)) same ∙ users_at s log from w.entries n numbered above entries
    ∙ ap (users_below log) front)
    (ap₂ (λ (x : HeldSectors) m. x.freed + m) same (length-prefix_len (λ (h : Held). has_landed h.progress) w.entries) ∙ front)

-- the users' writes below a position are those of the history's positions below it
pub users_counted : (log : List Logged) (position : ℕ) → users_below log position ≡ users (user_positions log) position
users_counted log position = go (user_takes log)
  where
    go : (ts : List Taken) → length (filter (λ (t : Taken). nat_lt t.entry.position position) ts) ≡ length
        (filter (λ q. nat_lt q position) (map (λ (t : Taken). t.entry.position) ts))
    go [] = refl
    go (t ∷ ts) = by (nat_lt t.entry.position position) (go ts)
      where
        by : (b : Bool) → length (filter (λ (t : Taken). nat_lt t.entry.position position) ts) ≡ length
            (filter (λ q. nat_lt q position) (map (λ (t : Taken). t.entry.position) ts))
            → length (cond b (t ∷ filter (λ (t : Taken). nat_lt t.entry.position position) ts) (filter (λ (t : Taken). nat_lt t.entry.position position) ts))
            ≡ length (cond b (t.entry.position ∷ filter (λ q. nat_lt q position) (map (λ (t : Taken). t.entry.position) ts))
            (filter (λ q. nat_lt q position) (map (λ (t : Taken). t.entry.position) ts)))
        by true rest = ap suc rest
        by false rest = rest

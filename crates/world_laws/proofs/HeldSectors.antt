-- What a sector holds by a history: the last entry of it that was taken, or what it held before. It
-- is enough that each copy with the mark of a sector holds what the sector then held.
use Rattle.std.proofs.Common.{◌≡◌, ℕ, ◌+◌, ◌-◌, ◌<◌, ◌≤◌, ◌==◌, zero, suc, nat_lt, Bool, true, false, cond, Some, None, Option, List, [], ◌∷◌, ◌++◌, map, length, take, drop, refl, sym, subst, ap, ◌∙◌, arith, append-nil}
use Rattle.std.specs.Prelude.{slice_get, slice_set}
use Rattle.std.specs.List.{AllByRecursion, filter, last_or}
use Rattle.std.proofs.lemmas.List.{length-map, length-set, map-append, take-append-le, take-take}
use Rattle.std.proofs.lemmas.List.Sums.{fold-append}
use Rattle.std.proofs.lemmas.Option.{none-some, same_Some, slice_get_within}
use Rattle.pblk_model.specs.History.{SectorWrite, after_write, after, users}
use Rattle.pblk_model.specs.Image.{Image}
use Rattle.pblk_world.specs.Events.{Source, Logged}
use Rattle.pblk_world.specs.World.{World, log_of}
use Rattle.pblk_world.specs.EngineLog.{Taken, takes}
use Rattle.pblk_world.specs.Fronts.{first_position, is_users, history, user_positions}
use Rattle.pblk_world.specs.Legal.{IsLegal}
use Rattle.pblk_model.proofs.Lists.{IsAmong}
use Rattle.pblk_model.proofs.Maps.{all_filter, all_mapped, filter_both, filter_none}
use Rattle.pblk_model.proofs.Parts.{all_by_get, get_dropped, get_last, get_more, get_set_other, get_set_same, get_taken, get_whole_within, take_and_drop, take_front}
use Rattle.pblk_model.proofs.Tests.{lt_true, not_before, other_number, same, same_number}
use Rattle.world_laws.proofs.Latest.{IsLatestBelow}
use Rattle.world_laws.proofs.Lives.{by_last}
use Rattle.world_laws.proofs.Positions.{position_of}

-- ---- lists

pub last_last : {X : Type 0} (o : Option X) (xs : List X) (x : X) → last_or o (xs ++ x ∷ []) ≡ Some x
last_last o [] x = refl
last_last o (y ∷ xs) x = last_last (Some y) xs x

pub never_none : {X : Type 0} (x : X) (xs : List X) → last_or (Some x) xs ≡ None → ⊥
never_none x [] e = none-some x (sym e)
never_none x (y ∷ xs) e = never_none y xs e

last_passing : {X : Type 0} (test : X → Bool) (o : Option X) (xs : List X) (k : ℕ) (x : X) → slice_get xs k ≡ Some x → test x ≡ true
    → ((j : ℕ) (y : X) → slice_get xs j ≡ Some y → test y ≡ true → j ≤ k) → last_or o (filter test xs) ≡ Some x
last_passing test o [] k x there passes last = absurd (none-some x there)
last_passing {X} test o (y ∷ xs) zero x there passes last =
    let it : y ≡ x = same_Some y x there in
    ap (λ b. last_or o (cond b (y ∷ filter test xs) (filter test xs))) (ap test it ∙ passes)
    ∙ ap (λ zs. last_or (Some y) zs) (filter_none test xs (all_by_get (λ z. test z ≡ false) xs (λ j z at. fails j z at (test z) refl)))
    ∙ ap (λ z. Some z) it
  where
    fails : (j : ℕ) (z : X) → slice_get xs j ≡ Some z → (b : Bool) → test z ≡ b → b ≡ false
    fails j z at false e = refl
    fails j z at true e = let low : suc j ≤ 0 = last (suc j) z at e in absurd (omega arith)
last_passing {X} test o (y ∷ xs) (suc k) x there passes last = go (test y) (λ p. last_passing test p xs k x there passes
    (λ j z at e. let below : suc j ≤ suc k = last (suc j) z at e in omega arith))
  where
    go : (b : Bool) → ((p : Option X) → last_or p (filter test xs) ≡ Some x) → last_or o (cond b (y ∷ filter test xs) (filter test xs)) ≡ Some x
    go true h = h (Some y)
    go false h = h o

-- ---- a sector after entries

-- the users' entries as lines of a history
abbrev pub lines_of : List Taken → List SectorWrite
lines_of ts = map (λ t. record { lba = t.entry.lba; sector = t.entry.sector }) (filter (λ t. is_users t.entry.source) ts)

abbrev pub held_by : Option (List ℕ) → Option Taken → Option (List ℕ)
held_by before None = before
held_by before (Some t) = Some t.entry.sector

-- what a sector of these holds after entries: its last one, Void ones left out
abbrev pub held : List (List ℕ) → List Taken → ℕ → Option (List ℕ)
held base ts lba = held_by (slice_get base lba) (last_or None (filter (λ t. t.mark.lba == lba) ts))

-- A user's entry has its sector's mark. A copy with the mark of a sector holds what the sector
-- held.
abbrev pub FollowsBy : List (List ℕ) → List Taken → Taken → Option Source → Type 0
FollowsBy base ts t None = t.mark.lba ≡ t.entry.lba
FollowsBy base ts t (Some source) = t.mark.lba < length base → held base ts t.mark.lba ≡ Some t.entry.sector

abbrev pub AreFollowing : List (List ℕ) → List Taken → Type 0
AreFollowing base ts = (k : ℕ) (t : Taken) → slice_get ts k ≡ Some t → FollowsBy base (take k ts) t t.entry.source

pub after_count : (ws : List SectorWrite) (base : List (List ℕ)) → length (after base ws) ≡ length base
after_count [] base = refl
after_count (w ∷ ws) base = after_count ws (slice_set base w.lba w.sector) ∙ length-set base w.lba w.sector

abbrev Holds : List (List ℕ) → ℕ → List Taken → Type 0
Holds base lba ts = slice_get (after base (lines_of ts)) lba ≡ held base ts lba

-- one entry more
module _ (base : List (List ℕ)) (ts : List Taken) (t : Taken) (lba : ℕ) (inside : lba < length base) where
  abbrev line : SectorWrite
  line = record { lba = t.entry.lba; sector = t.entry.sector }

  lines_more : (b : Bool) → is_users t.entry.source ≡ b → lines_of (ts ++ t ∷ []) ≡ lines_of ts ++ cond b (line ∷ []) []
  lines_more b e =
      ap (map (λ (u : Taken). record { lba = u.entry.lba; sector = u.entry.sector }))
      (filter_both (λ (u : Taken). is_users u.entry.source) ts (t ∷ [])
      ∙ ap (λ c. filter (λ (u : Taken). is_users u.entry.source) ts ++ cond c (t ∷ []) []) e)
      ∙ map-append (λ (u : Taken). record { lba = u.entry.lba; sector = u.entry.sector }) (filter (λ (u : Taken). is_users u.entry.source) ts)
      (cond b (t ∷ []) [])
      ∙ ap (λ ws. lines_of ts ++ ws) (one b)
    where
      one : (c : Bool) → map (λ (u : Taken). record { lba = u.entry.lba; sector = u.entry.sector }) (cond c (t ∷ []) []) ≡ cond c (line ∷ []) []
      one true = refl
      one false = refl

  held_more : (b : Bool) → (t.mark.lba == lba) ≡ b → held base (ts ++ t ∷ []) lba ≡ cond b (Some t.entry.sector) (held base ts lba)
  held_more b e =
      ap (λ us. held_by (slice_get base lba) (last_or None us))
      (filter_both (λ (u : Taken). u.mark.lba == lba) ts (t ∷ []) ∙ ap (λ c. filter (λ (u : Taken). u.mark.lba == lba) ts ++ cond c (t ∷ []) []) e)
      ∙ one b
    where
      one : (c : Bool) → held_by (slice_get base lba) (last_or None (filter (λ (u : Taken). u.mark.lba == lba) ts ++ cond c (t ∷ []) []))
          ≡ cond c (Some t.entry.sector) (held base ts lba)
      one true = ap (held_by (slice_get base lba)) (last_last None (filter (λ (u : Taken). u.mark.lba == lba) ts) t)
      one false = ap (λ us. held_by (slice_get base lba) (last_or None us)) (append-nil (filter (λ (u : Taken). u.mark.lba == lba) ts))

  after_more : (b : Bool) → is_users t.entry.source ≡ b
      → after base (lines_of (ts ++ t ∷ [])) ≡ cond b (slice_set (after base (lines_of ts)) t.entry.lba t.entry.sector) (after base (lines_of ts))
  after_more b e = ap (after base) (lines_more b e) ∙ fold-append after_write base (lines_of ts) (cond b (line ∷ []) []) ∙ one b
    where
      one : (c : Bool) → after (after base (lines_of ts)) (cond c (line ∷ []) [])
          ≡ cond c (slice_set (after base (lines_of ts)) t.entry.lba t.entry.sector) (after base (lines_of ts))
      one true = refl
      one false = refl

  one_more : FollowsBy base ts t t.entry.source → Holds base lba ts → Holds base lba (ts ++ t ∷ [])
  one_more follows before = go t.entry.source refl follows (t.mark.lba == lba) refl
    where
      go : (o : Option Source) → t.entry.source ≡ o → FollowsBy base ts t o → (b : Bool) → (t.mark.lba == lba) ≡ b → Holds base lba (ts ++ t ∷ [])
      go None e mine true is =
          let its : t.entry.lba ≡ lba = sym mine ∙ same t.mark.lba lba is in
          let long : length (after base (lines_of ts)) ≡ length base = after_count (lines_of ts) base in
          ap (λ (xs : List (List ℕ)). slice_get xs lba) (after_more true (ap is_users e))
          ∙ ap (λ n. slice_get (slice_set (after base (lines_of ts)) n t.entry.sector) lba) its
          ∙ get_set_same (after base (lines_of ts)) lba t.entry.sector (omega arith) ∙ sym (held_more true is)
      go None e mine false is =
          ap (λ (xs : List (List ℕ)). slice_get xs lba) (after_more true (ap is_users e))
          ∙ get_set_other (after base (lines_of ts)) t.entry.lba lba t.entry.sector (λ q. not_same (mine ∙ sym q) is)
          ∙ before ∙ sym (held_more false is)
        where
          not_same : t.mark.lba ≡ lba → (t.mark.lba == lba) ≡ false → ⊥
          not_same q f = let yes : (t.mark.lba == lba) ≡ true = ap (λ n. n == lba) q ∙ same_number lba in absurd (cc)
      go (Some source) e follows true is =
          let its : t.mark.lba ≡ lba = same t.mark.lba lba is in
          ap (λ (xs : List (List ℕ)). slice_get xs lba) (after_more false (ap is_users e)) ∙ before
          ∙ ap (held base ts) (sym its) ∙ follows (omega arith) ∙ sym (held_more true is)
      go (Some source) e follows false is =
          ap (λ (xs : List (List ℕ)). slice_get xs lba) (after_more false (ap is_users e)) ∙ before ∙ sym (held_more false is)

pub fold_holds : (base : List (List ℕ)) (ts : List Taken) (lba : ℕ) → lba < length base → AreFollowing base ts → Holds base lba ts
fold_holds base ts lba inside follows =
    by_last (λ us. AreFollowing base us → Holds base lba us) (λ h. refl) (λ us t earlier h.
    one_more base us t lba inside
    (subst (λ (xs : List Taken). FollowsBy base xs t t.entry.source) (take_front us (t ∷ []) (length us) refl) (h (length us) t (get_last us t)))
    (earlier (λ k u at.
    let below : k < length us = slice_get_within us k u at in
    subst (λ (xs : List Taken). FollowsBy base xs u u.entry.source) (take-append-le k us (t ∷ []) (omega arith)) (h k u (get_more us (t ∷ []) k u at)))))
    ts follows

-- ---- the entries below a position are the first ones

users_below : (ps qs : List ℕ) (s : ℕ) → AllByRecursion (λ p. p < s) ps → AllByRecursion (λ q. s ≤ q) qs → users (ps ++ qs) s ≡ length ps
users_below [] qs s low high = ap length (filter_none (λ q. nat_lt q s) qs (above qs high))
  where
    above : (qs : List ℕ) → AllByRecursion (λ q. s ≤ q) qs → AllByRecursion (λ q. nat_lt q s ≡ false) qs
    above [] h = tt
    above (q ∷ qs) h = (not_before q s h.0, above qs h.1)
users_below (p ∷ ps) qs s low high =
    ap (λ b. length (cond b (p ∷ filter (λ q. nat_lt q s) (ps ++ qs)) (filter (λ q. nat_lt q s) (ps ++ qs)))) (lt_true p s low.0)
    ∙ ap suc (users_below ps qs s low.1 high)

module _ (ts : List Taken) (first s : ℕ) (order : (k : ℕ) (t : Taken) → slice_get ts k ≡ Some t → t.entry.position ≡ first + k) where
  abbrev part : List Taken
  part = take (s - first) ts

  abbrev rest : List Taken
  rest = drop (s - first) ts

  abbrev position : Taken → ℕ
  position t = t.entry.position

  low : AllByRecursion (λ t. position t < s) part
  low = all_by_get (λ t. position t < s) part (λ k t at.
      let whole = get_whole_within (s - first) ts k t at in
      let place : t.entry.position ≡ first + k = order k t whole.0 in
      let within : k < s - first = whole.1 in
      omega arith)

  high : AllByRecursion (λ t. s ≤ position t) rest
  high = all_by_get (λ t. s ≤ position t) rest (λ k t at.
      let place : t.entry.position ≡ first + (s - first + k) = order (s - first + k) t (sym (get_dropped (s - first) ts k) ∙ at) in
      omega arith)

  pub cut_lines : take (users (map position (filter (λ t. is_users t.entry.source) ts)) s) (lines_of ts) ≡ lines_of part
  cut_lines =
      let mine : Taken → Bool = λ t. is_users t.entry.source in
      let split : filter mine ts ≡ filter mine part ++ filter mine rest =
      ap (filter mine) (sym (take_and_drop (s - first) ts)) ∙ filter_both mine part rest in
      let count : users (map position (filter mine ts)) s ≡ length (filter mine part) =
      ap (λ us. users (map position us) s) split
      ∙ ap (λ ps. users ps s) (map-append position (filter mine part) (filter mine rest))
      ∙ users_below (map position (filter mine part)) (map position (filter mine rest)) s
      (all_mapped (λ p. p < s) position (filter mine part) (all_filter (λ t. position t < s) mine part low))
      (all_mapped (λ p. s ≤ p) position (filter mine rest) (all_filter (λ t. s ≤ position t) mine rest high))
      ∙ length-map (filter mine part) position in
      let write : Taken → SectorWrite = λ t. record { lba = t.entry.lba; sector = t.entry.sector } in
      ap (λ n. take n (lines_of ts)) count
      ∙ ap (λ us. take (length (filter mine part)) (map write us)) split
      ∙ ap (take (length (filter mine part))) (map-append write (filter mine part) (filter mine rest))
      ∙ take_front (map write (filter mine part)) (map write (filter mine rest)) (length (filter mine part)) (length-map (filter mine part) write)

  pub last_below : (lba : ℕ) (t : Taken) → IsAmong ts t → t.mark.lba ≡ lba → t.entry.position < s
      → ((u : Taken) → IsAmong ts u → u.mark.lba ≡ lba → u.entry.position < s → u.entry.position ≤ t.entry.position)
      → last_or None (filter (λ u. u.mark.lba == lba) part) ≡ Some t
  last_below lba t there of_it below greatest =
      let place : t.entry.position ≡ first + there.0 = order there.0 t there.1 in
      last_passing (λ (u : Taken). u.mark.lba == lba) None part there.0 t (get_taken (s - first) ts there.0 (omega arith) ∙ there.1)
      (ap (λ n. n == lba) of_it ∙ same_number lba) (λ k u at passes.
      let whole = get_whole_within (s - first) ts k u at in
      let its : u.entry.position ≡ first + k = order k u whole.0 in
      let within : k < s - first = whole.1 in
      let under : u.entry.position ≤ t.entry.position = greatest u (k, whole.0) (same u.mark.lba lba passes) (omega arith) in
      omega arith)

  pub none_below : (lba : ℕ) → ((u : Taken) → IsAmong ts u → u.mark.lba ≡ lba → s ≤ u.entry.position)
      → filter (λ u. u.mark.lba == lba) part ≡ []
  none_below lba none = filter_none (λ (u : Taken). u.mark.lba == lba) part (all_by_get (λ (u : Taken). (u.mark.lba == lba) ≡ false) part (λ k u at.
      let whole = get_whole_within (s - first) ts k u at in
      let its : u.entry.position ≡ first + k = order k u whole.0 in
      let within : k < s - first = whole.1 in
      other_number u.mark.lba lba (λ of_it. let past : s ≤ u.entry.position = none u (k, whole.0) of_it in omega arith)))

-- ---- a sector by the history of a mount below a position

module _ (i : Image) (w : World) (base : List (List ℕ)) (legal : IsLegal i w) (follows : AreFollowing base (takes (log_of w 0))) (lba s : ℕ)
    (inside : lba < length base) where
  abbrev log : List Logged
  log = log_of w 0

  abbrev first : ℕ
  first = first_position log

  order : (k : ℕ) (t : Taken) → slice_get (takes log) k ≡ Some t → t.entry.position ≡ first + k
  order k t at = position_of i w k t legal at

  holds_below : slice_get (after base (take (users (user_positions log) s) (history log))) lba ≡ held base (take (s - first) (takes log)) lba
  holds_below =
      ap (λ (ws : List SectorWrite). slice_get (after base ws) lba) (cut_lines (takes log) first s order)
      ∙ fold_holds base (take (s - first) (takes log)) lba inside (λ k t at.
      let whole = get_whole_within (s - first) (takes log) k t at in
      let within : k < s - first = whole.1 in
      subst (λ (xs : List Taken). FollowsBy base xs t t.entry.source) (sym (take-take k (s - first) (takes log) (omega arith))) (follows k t whole.0))

  pub latest_holds : (t : Taken) → IsLatestBelow log lba s t
      → slice_get (after base (take (users (user_positions log) s) (history log))) lba ≡ Some t.entry.sector
  latest_holds t is =
      holds_below ∙ ap (held_by (slice_get base lba)) (last_below (takes log) first s order lba t is.there is.of_it is.below is.greatest)

  pub none_holds : ((u : Taken) → IsAmong (takes log) u → u.mark.lba ≡ lba → s ≤ u.entry.position)
      → slice_get (after base (take (users (user_positions log) s) (history log))) lba ≡ slice_get base lba
  none_holds none =
      holds_below ∙ ap (λ us. held_by (slice_get base lba) (last_or None us)) (none_below (takes log) first s order lba none)

-- A position is placed again only once each stripe that holds it was lost. So it is in one stripe
-- at most that wasn't lost.
use Rattle.std.proofs.Common.{◌≡◌, ◌⊎◌, inl, inr, ℕ, ◌<◌, ◌≤◌, ◌==◌, ◌&&◌, not, nat_lt, zero, suc, Bool, true, false, cond, Some, None, Option, List, [], ◌∷◌, map, length, take, drop, refl, sym, subst, ap, ◌∙◌, arith}
use Rattle.std.specs.Prelude.{slice_get}
use Rattle.std.specs.List.{AllByRecursion, Contains, filter}
use Rattle.std.proofs.lemmas.Bool.{cases_order}
use Rattle.std.proofs.lemmas.Option.{none-some, same_Some, slice_get_within}
use Rattle.pblk_model.specs.declared.shape.Shape.{Shape}
use Rattle.pblk_model.specs.Accepted.{IsAccepted}
use Rattle.pblk_model.specs.Chunk.{Block}
use Rattle.pblk_model.specs.Image.{Image}
use Rattle.pblk_model.specs.Marks.{pad_block}
use Rattle.pblk_model.specs.Records.{named}
use Rattle.pblk_laws.proofs.MarkNames.{pad_none}
use Rattle.pblk_world.specs.Events.{Logged}
use Rattle.pblk_world.specs.World.{World, log_of}
use Rattle.pblk_world.specs.EngineLog.{Answer, DidLand, WasLost, answer_of, is_land, is_life, is_loss, has_landed, holds_position, Placed, placements, stripes_of, Taken, takes, was_lost, block_of_taken}
use Rattle.pblk_world.specs.Fronts.{times_lost, times_placed, waiting, waits, was_placed}
use Rattle.pblk_world.specs.Placing.{IsData, MayPlace, data_blocks}
use Rattle.pblk_world.specs.Victims.{engine_prefix}
use Rattle.pblk_model.proofs.Lists.{IsAmong, all_append, all_imply, all_replicated, among_all, among_contained, among_more}
use Rattle.pblk_model.proofs.Maps.{all_filter, all_mapped, all_passed, from_filter, in_filter}
use Rattle.pblk_model.proofs.Parts.{all_at, all_taken, contained_among, take_and_drop}
use Rattle.pblk_model.proofs.Tests.{first_of, lt_true, not_both, same, same_number}
use Rattle.pblk_world.specs.LegalMounts.{IsLegalMount}
use Rattle.world_laws.proofs.Entries.{marks_bear}
use Rattle.world_laws.proofs.LandedRecords.{IsBlockAt, block_at_position}
use Rattle.world_laws.proofs.Later.{lost_later, placed_within, takes_joined}
use Rattle.world_laws.proofs.LineAddresses.{HasAddress, has_address}
use Rattle.world_laws.proofs.LineRecords.{is_data}
use Rattle.world_laws.proofs.Openings.{placed_at}
use Rattle.world_laws.proofs.Stripes.{IsPlaced, life_of_stripe, placed_is, stripe_of_prefix}
use Rattle.world_laws.proofs.UnitTurns.{rise_all, rise_between}

-- ---- lists

fewer_both : {X : Type 0} (f g : X → Bool) (xs : List X) → length (filter (λ x. g x && f x) xs) ≤ length (filter f xs)
fewer_both f g [] = omega arith
fewer_both {X} f g (x ∷ xs) = go (f x) (g x) (fewer_both f g xs)
  where
    go : (b c : Bool) → length (filter (λ y. g y && f y) xs) ≤ length (filter f xs)
        → length (cond (c && b) (x ∷ filter (λ y. g y && f y) xs) (filter (λ y. g y && f y) xs)) ≤ length (cond b (x ∷ filter f xs) (filter f xs))
    go true true h = omega arith
    go true false h = omega arith
    go false true h = omega arith
    go false false h = omega arith

-- where as many pass both tests as pass the one, each that passes the one passes the other
both_pass : {X : Type 0} (f g : X → Bool) (xs : List X) → length (filter f xs) ≡ length (filter (λ x. g x && f x) xs)
    → AllByRecursion (λ x. f x ≡ true → g x ≡ true) xs
both_pass f g [] e = tt
both_pass {X} f g (x ∷ xs) e = go (f x) (g x) refl refl e (fewer_both f g xs) (λ h. both_pass f g xs h)
  where
    go : (b c : Bool) → f x ≡ b → g x ≡ c
        → length (cond b (x ∷ filter f xs) (filter f xs)) ≡ length (cond (c && b) (x ∷ filter (λ y. g y && f y) xs) (filter (λ y. g y && f y) xs))
        → length (filter (λ y. g y && f y) xs) ≤ length (filter f xs)
        → (length (filter f xs) ≡ length (filter (λ y. g y && f y) xs) → AllByRecursion (λ y. f y ≡ true → g y ≡ true) xs)
        → (f x ≡ true → g x ≡ true) × AllByRecursion (λ y. f y ≡ true → g y ≡ true) xs
    go true true p q e few rest = (λ h. q, rest (omega arith))
    go true false p q e few rest = absurd (omega arith)
    go false true p q e few rest = (λ h. q, rest e)
    go false false p q e few rest = (λ h. absurd (not_both (f x) h p), rest e)

-- ---- entries that wait

-- each stripe that holds the position of an entry that waits was lost
pub holders_lost : (s : Shape) (log : List Logged) (t : Taken) → waits s log t ≡ true
    → AllByRecursion (λ (p : Placed). holds_position s t.entry.position p ≡ true → was_lost log p ≡ true) (placements log)
holders_lost s log t wait = both_pass (holds_position s t.entry.position) (was_lost log) (placements log)
    (same (times_placed s log t) (times_lost s log t) wait)

abbrev pub IsWaiting : Shape → List Logged → Taken → Type 0
IsWaiting s log t = IsAmong (takes log) t × (waits s log t ≡ true)

pub waiting_wait : (s : Shape) (log : List Logged) → AllByRecursion (IsWaiting s log) (waiting s log)
waiting_wait s log =
    all_append (IsWaiting s log) (filter (λ t. waits s log t && was_placed s log t) (takes log)) (filter (λ t. not (was_placed s log t)) (takes log))
    (filtered (λ t. waits s log t && was_placed s log t) (λ t h. first_of (waits s log t) (was_placed s log t) h))
    (filtered (λ t. not (was_placed s log t)) fresh)
  where
    filtered : (test : Taken → Bool) → ((t : Taken) → test t ≡ true → waits s log t ≡ true) → AllByRecursion (IsWaiting s log) (filter test (takes log))
    filtered test waits_by = all_of (filter test (takes log)) (all_passed test (takes log))
        (all_filter (IsAmong (takes log)) test (takes log) (among_all (takes log)))
      where
        all_of : (ts : List Taken) → AllByRecursion (λ t. test t ≡ true) ts → AllByRecursion (IsAmong (takes log)) ts → AllByRecursion (IsWaiting s log) ts
        all_of [] a b = tt
        all_of (t ∷ ts) a b = ((b.0, waits_by t a.0), all_of ts a.1 b.1)

    by : (m n : ℕ) → not (nat_lt 0 m) ≡ true → n ≤ m → (m == n) ≡ true
    by zero n e h = let none : 0 ≡ n = omega arith in ap (λ k. 0 == k) (sym none)
    by (suc m) n e h = let above : nat_lt 0 (suc m) ≡ true = lt_true 0 (suc m) (omega arith) in absurd cc

    fresh : (t : Taken) → not (was_placed s log t) ≡ true → waits s log t ≡ true
    fresh t h = by (times_placed s log t) (times_lost s log t) h
        (fewer_both (holds_position s t.entry.position) (was_lost log) (placements log))

-- a block of a stripe of data is that of an entry that waited, or names nothing
abbrev IsWaitingOrNone : Shape → List Logged → Block → Type 0
IsWaitingOrNone s log b = (named s b.mark ≡ None) ⊎ ((t : Taken) × IsAmong (takes log) t × (waits s log t ≡ true) × (block_of_taken t ≡ b))

data_wait : (s : Shape) (log : List Logged) → IsAccepted s → AllByRecursion (IsWaitingOrNone s log) (data_blocks s log)
data_wait s log accepted =
    all_append (IsWaitingOrNone s log) (map block_of_taken (take s.ws_opt (waiting s log))) _
    (all_mapped (IsWaitingOrNone s log) block_of_taken (take s.ws_opt (waiting s log))
    (all_imply (IsWaiting s log) (λ t. IsWaitingOrNone s log (block_of_taken t)) (λ t h. inr (t, h.0, h.1, refl)) (take s.ws_opt (waiting s log))
    (all_taken (IsWaiting s log) s.ws_opt (waiting s log) (waiting_wait s log))))
    (all_replicated (IsWaitingOrNone s log) _ (pad_block s) (inl (pad_none s accepted)))

-- ---- stripes

pub landed_not_lost : (log : List Logged) (p : Placed) → has_landed log p ≡ true → was_lost log p ≡ false
landed_not_lost log p landed = go (answer_of log p) landed
  where
    go : (a : Option Answer) → is_land a ≡ true → is_loss a ≡ false
    go None h = absurd cc
    go (Some (DidLand n)) h = refl
    go (Some (WasLost n)) h = absurd cc

-- a stripe of the log is one of each prefix that has its event
pub earlier_stripe : (i : Image) (w : World) (mount : IsLegalMount i w) (p : Placed) (n : ℕ) → Contains (placements (log_of w 0)) p → p.number < n
    → IsAmong (placements (take n (log_of w 0))) p
earlier_stripe i w mount p n there below =
    let log : List Logged = log_of w 0 in
    let life = life_of_stripe i w p mount.legal there in
    let test : Placed → Bool = λ q. is_life life.0.number q.life in
    let of_life : Contains (stripes_of log life.0) p = contained_among (stripes_of log life.0) p
    (in_filter test (placements log) p (among_contained (placements log) p there) (ap (is_life life.0.number) life.1 ∙ same_number life.0.number)) in
    from_filter test (placements (take n log)) p
    (among_contained (stripes_of (take n log) life.0) p (stripe_of_prefix log n life.0 p of_life below))

module _ (i : Image) (w : World) (mount : IsLegalMount i w) where
  abbrev log : List Logged
  log = log_of w 0

  -- a stripe that holds a position is one of data, and its entry at the position waited when it was
  -- placed
  pub record WasWaiting (p : Placed) (position : ℕ) : Type 0 where
    pub may : MayPlace i (engine_prefix p.number (log_of w)) p.stripe
    pub data_is : IsData i (engine_prefix p.number (log_of w)) may.opening p.stripe
    pub t : Taken
    pub there : IsAmong (takes (take p.number (log_of w 0))) t
    pub waited : waits i.shape (take p.number (log_of w 0)) t ≡ true
    pub at : t.entry.position ≡ position

  pub was_waiting : (p : Placed) (position : ℕ) → Contains (placements (log_of w 0)) p → holds_position i.shape position p ≡ true → WasWaiting p position
  was_waiting p position there holds =
      let b : IsBlockAt i.shape p position = block_at_position i.shape p position holds in
      let placed : IsPlaced log p = placed_is log p there in
      let may : MayPlace i (engine_prefix p.number (log_of w)) p.stripe =
      placed_at i w p.number p.stripe placed.logged mount.legal placed.there placed.event in
      let address : HasAddress i (engine_prefix p.number (log_of w)) p.stripe =
      has_address i (engine_prefix p.number (log_of w)) p.stripe mount.accepted.drive.ws_opt may in
      let few : length p.stripe.blocks ≤ i.shape.ws_opt = address.few in
      let inside : b.index < length p.stripe.blocks = slice_get_within p.stripe.blocks b.index b.block b.is_block in
      let data_is : IsData i (engine_prefix p.number (log_of w)) may.opening p.stripe =
      is_data i (engine_prefix p.number (log_of w)) may.opening p b.index b.block b.lba mount.accepted (omega arith) b.is_block b.names may.kind in
      go b may data_is (all_at (IsWaitingOrNone i.shape (take p.number log)) (data_blocks i.shape (take p.number log)) b.index b.block
      (ap (λ (bs : List Block). slice_get bs b.index) (sym data_is.blocks) ∙ b.is_block) (data_wait i.shape (take p.number log) mount.accepted))
    where
      in_all : (t : Taken) → IsAmong (takes (take p.number (log_of w 0))) t → IsAmong (takes (log_of w 0)) t
      in_all t at = subst (λ ts. IsAmong ts t) (sym (takes_joined (take p.number log) (drop p.number log)) ∙ ap takes (take_and_drop p.number log))
          (among_more (takes (take p.number log)) (takes (drop p.number log)) t at)

      go : (b : IsBlockAt i.shape p position) (may : MayPlace i (engine_prefix p.number (log_of w)) p.stripe)
          → IsData i (engine_prefix p.number (log_of w)) may.opening p.stripe
          → IsWaitingOrNone i.shape (take p.number (log_of w 0)) b.block → WasWaiting p position
      go b may data_is (inl none) = absurd (none-some b.lba (sym none ∙ b.names))
      go b may data_is (inr (t, at, waited, same_block)) =
          let all = in_all t at in
          let own : t.mark.position ≡ t.entry.position =
          all_at (λ (u : Taken). u.mark.position ≡ u.entry.position) (takes log) all.0 t all.1 (marks_bear i w mount.legal) in
          record {
            may = may;
            data_is = data_is;
            t = t;
            there = at;
            waited = waited;
            at = sym own ∙ ap (λ (x : Block). x.mark.position) same_block ∙ b.at;
          }

  -- of two stripes that hold a position the earlier one was lost, before the later one was placed
  pub lost_then : (p r : Placed) (position : ℕ) → Contains (placements (log_of w 0)) p → Contains (placements (log_of w 0)) r
      → holds_position i.shape position p ≡ true → holds_position i.shape position r ≡ true → p.number < r.number
      → was_lost (take r.number (log_of w 0)) p ≡ true
  lost_then p r position a b first second below =
      let h : WasWaiting r position = was_waiting r position b second in
      let at = earlier_stripe i w mount p r.number a below in
      all_at (λ (q : Placed). holds_position i.shape h.t.entry.position q ≡ true → was_lost (take r.number log) q ≡ true) (placements (take r.number log))
      at.0 p at.1 (holders_lost i.shape (take r.number log) h.t h.waited) (ap (λ n. holds_position i.shape n p) h.at ∙ first)

  pub lost_before : (p r : Placed) (position : ℕ) → Contains (placements (log_of w 0)) p → Contains (placements (log_of w 0)) r
      → holds_position i.shape position p ≡ true → holds_position i.shape position r ≡ true → p.number < r.number
      → was_lost (log_of w 0) p ≡ true
  lost_before p r position a b first second below =
      let at = earlier_stripe i w mount p r.number a below in
      subst (λ (xs : List Logged). was_lost xs p ≡ true) (take_and_drop r.number log)
      (lost_later (take r.number log) (drop r.number log) p
      (placed_within (take r.number log) p (contained_among (placements (take r.number log)) p at)) (lost_then p r position a b first second below))

  -- a stripe is that of its number
  pub one_number : (p r : Placed) → Contains (placements (log_of w 0)) p → Contains (placements (log_of w 0)) r → p.number ≡ r.number → p ≡ r
  one_number p r a b numbers = go (among_contained (placements log) p a) (among_contained (placements log) r b)
    where
      go : IsAmong (placements (log_of w 0)) p → IsAmong (placements (log_of w 0)) r → p ≡ r
      go x y = by (cases_order x.0 y.0)
        where
          by : (x.0 ≡ y.0) ⊎ ((x.0 < y.0) ⊎ (y.0 < x.0)) → p ≡ r
          by (inl alike) = same_Some p r (sym x.1 ∙ ap (slice_get (placements log)) alike ∙ y.1)
          by (inr (inl before)) =
              let less : p.number < r.number = rise_between (placements log) x.0 y.0 p r (rise_all log) before x.1 y.1 in absurd (omega arith)
          by (inr (inr after)) =
              let less : r.number < p.number = rise_between (placements log) y.0 x.0 r p (rise_all log) after y.1 x.1 in absurd (omega arith)

  -- so two that weren't lost are one
  pub one_kept : (p r : Placed) (position : ℕ) → Contains (placements (log_of w 0)) p → Contains (placements (log_of w 0)) r
      → holds_position i.shape position p ≡ true → holds_position i.shape position r ≡ true
      → was_lost (log_of w 0) p ≡ false → was_lost (log_of w 0) r ≡ false → p ≡ r
  one_kept p r position a b first second kept other = go (cases_order p.number r.number)
    where
      go : (p.number ≡ r.number) ⊎ ((p.number < r.number) ⊎ (r.number < p.number)) → p ≡ r
      go (inl alike) = one_number p r a b alike
      go (inr (inl before)) = absurd (not_both (was_lost log p) (lost_before p r position a b first second before) kept)
      go (inr (inr after)) = absurd (not_both (was_lost log r) (lost_before r p position b a second first after) other)

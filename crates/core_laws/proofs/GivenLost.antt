-- A stripe was lost: its chunk is closed, so that each block of it that has landed can be read.
use Rattle.std.proofs.Common.{◌≡◌, ◌≢◌, ◌⊎◌, inl, inr, ℕ, ◌+◌, ◌*◌, ◌-◌, ◌==◌, ◌&&◌, ◌||◌, nat_eq, nat_lt, Bool, true, false, Some, List, [], ◌∷◌, length, drop, refl, sym, ap, ap₂, ◌∙◌, append-nil}
use Rattle.std.specs.Prelude.{map}
use Rattle.std.specs.List.{AllByRecursion, filter, list_any, enumerate_from}
use Rattle.std.proofs.lemmas.Bool.{eqb-false}
use Rattle.pblk_model.specs.declared.shape.Shape.{Shape}
use Rattle.pblk_model.specs.Chunk.{Block}
use Rattle.pblk_world.specs.Events.{Logged, Lost, Decides}
use Rattle.pblk_world.specs.EngineLog.{LineLife, AsFound, Opened, Freed, is_life, Opening, Taken, takes, Placed, placements, stripes_on, answer_of, is_loss, has_landed, was_lost, bears_position, holds_position}
use Rattle.pblk_world.specs.Fronts.{first_position, has_landed_at, is_users}
use Rattle.pblk_world.specs.Space.{landed_blocks, is_readable_in, gives_back}
use Rattle.core_laws.specs.AdvancedEntries.{advanced_sector, advanced_window}
use Rattle.core_laws.specs.ChunkBlocks.{has_landed_in}
use Rattle.core_laws.specs.WindowOf.{HeldSector, is_given_back, progress_by, held_of, class_of, source_of, users_below, window_from}
use Rattle.core_laws.specs.PlacerOf.{unanswered_on}
use Rattle.core_laws.proofs.GivenBack.{any_split, readable_life}
use Rattle.core_laws.proofs.GivenNow.{of_chunk, chunk_life, chunk_unit, IsOfChunk, chunk_members}
use Rattle.core_laws.proofs.Growing.{given_holds, given_landed}
use Rattle.core_laws.proofs.KeptSlots.{first_kept}
use Rattle.core_laws.proofs.KeptStripes.{with_event}
use Rattle.core_laws.proofs.LandedBlocks.{on_all, on_its, apart_unit, apart_opening}
use Rattle.core_laws.proofs.LandedWindow.{progress_now}
use Rattle.core_laws.proofs.LostStripe.{IsOneLost, one_lost, landed_same, landed_at_same}
use Rattle.core_laws.proofs.TakenSlots.{any_same}
use Rattle.core_laws.proofs.WindowOfLemmas.{same_window}
use Rattle.pblk_model.proofs.Lists.{IsAmong, all_imply, among_all}
use Rattle.pblk_model.proofs.Maps.{any_agree, any_member, filter_agree}
use Rattle.pblk_model.proofs.Tests.{or_no}
use Rattle.pblk_world.proofs.EngineLogLemmas.{takes_more}
use Rattle.write_window.specs.declared.held.Progress.{Progress}

on_lost : (log new : List Logged) (p : Placed) (o : Opening) (unit : ℕ) → IsOneLost log new p → stripes_on new o unit ≡ stripes_on log o unit
on_lost log new p o unit is = ap (λ ps. filter (λ (r : Placed). r.stripe.unit == unit) (filter (λ (r : Placed). is_life o.number r.life) ps)) is.stripes

-- ---- elsewhere

blocks_same : (s : Shape) (log new : List Logged) (p : Placed) (o : Opening) (unit : ℕ) → IsOneLost log new p
    → landed_blocks s new o unit ≡ landed_blocks s log o unit
blocks_same s log new p o unit is =
    ap (λ (ps : List Placed). length (filter (has_landed new) ps) * s.ws_opt) (on_lost log new p o unit is)
    ∙ ap (λ (ps : List Placed). length ps * s.ws_opt)
    (filter_agree (λ (r : Placed). has_landed new r ≡ has_landed log r) (has_landed new) (has_landed log) (λ r e. e) (stripes_on log o unit)
    (on_all (λ (r : Placed). has_landed new r ≡ has_landed log r) log o unit
    (all_imply (IsAmong (placements log)) (λ (r : Placed). has_landed new r ≡ has_landed log r) (λ r among. landed_same log new p r is among)
    (placements log) (among_all (placements log)))))

lost_elsewhere : (log new : List Logged) (p : Placed) (o : Opening) (unit : ℕ) → IsOneLost log new p
    → AllByRecursion (λ (r : Placed). r ≡ p → ⊥) (stripes_on log o unit)
    → list_any (was_lost new) (stripes_on new o unit) ≡ list_any (was_lost log) (stripes_on log o unit)
lost_elsewhere log new p o unit is apart =
    ap (list_any (was_lost new)) (on_lost log new p o unit is)
    ∙ any_agree (was_lost new) (was_lost log) (stripes_on log o unit)
    (both (stripes_on log o unit) apart (on_all (λ (r : Placed). (r ≡ p) ⊎ (answer_of new r ≡ answer_of log r)) log o unit is.others))
  where
    one : (r : Placed) → (r ≡ p → ⊥) → (r ≡ p) ⊎ (answer_of new r ≡ answer_of log r) → was_lost new r ≡ was_lost log r
    one r none (inl same) = absurd (none same)
    one r none (inr kept) = ap is_loss kept

    both : (ps : List Placed) → AllByRecursion (λ (r : Placed). r ≡ p → ⊥) ps
        → AllByRecursion (λ (r : Placed). (r ≡ p) ⊎ (answer_of new r ≡ answer_of log r)) ps
        → AllByRecursion (λ (r : Placed). was_lost new r ≡ was_lost log r) ps
    both [] a b = tt
    both (r ∷ ps) a b = (one r a.0 b.0, both ps a.1 b.1)

readable_by : (s : Shape) (log new : List Logged) (p : Placed) (o : Opening) (unit block : ℕ) → IsOneLost log new p
    → AllByRecursion (λ (r : Placed). r ≡ p → ⊥) (stripes_on log o unit)
    → is_readable_in s new unit block (Opened o) ≡ is_readable_in s log unit block (Opened o)
readable_by s log new p o unit block is apart =
    ap₂ (λ a n. (a || (n == s.clba)) || nat_lt (block + s.mw_cunits) n) (lost_elsewhere log new p o unit is apart) (blocks_same s log new p o unit is)

pub readable_other : (s : Shape) (log new : List Logged) (p : Placed) (o : Opening) (r : Placed) (block : ℕ) → IsOneLost log new p → p.life ≡ Opened o
    → of_chunk p o r ≡ false → is_readable_in s new r.stripe.unit block r.life ≡ is_readable_in s log r.stripe.unit block r.life
readable_other s log new p o r block is its e = go (nat_eq r.stripe.unit p.stripe.unit) refl
  where
    by_life : (life : LineLife) → is_life o.number life ≡ false → is_readable_in s new r.stripe.unit block life ≡ is_readable_in s log r.stripe.unit block life
    by_life AsFound f = refl
    by_life (Opened other) f =
        readable_by s log new p other r.stripe.unit block is (apart_opening log p o other r.stripe.unit its (eqb-false other.number o.number f))
    by_life (Freed past k) f = refl

    of_unit : (life : LineLife) → r.stripe.unit ≢ p.stripe.unit
        → is_readable_in s new r.stripe.unit block life ≡ is_readable_in s log r.stripe.unit block life
    of_unit AsFound apart = refl
    of_unit (Opened other) apart = readable_by s log new p other r.stripe.unit block is (apart_unit log p other r.stripe.unit apart)
    of_unit (Freed past k) apart = refl

    first : (a : Bool) → (a && true) ≡ false → a ≡ false
    first true f = f
    first false f = refl

    go : (b : Bool) → nat_eq r.stripe.unit p.stripe.unit ≡ b → is_readable_in s new r.stripe.unit block r.life ≡ is_readable_in s log r.stripe.unit block r.life
    go true f = by_life r.life (first (is_life o.number r.life) (ap (λ b. is_life o.number r.life && b) (sym f) ∙ e))
    go false f = of_unit r.life (eqb-false r.stripe.unit p.stripe.unit f)

pub gives_other : (s : Shape) (log new : List Logged) (p : Placed) (o : Opening) (q : ℕ) (r : Placed) → IsOneLost log new p → p.life ≡ Opened o
    → IsAmong (placements log) r → of_chunk p o r ≡ false → gives_back s new q r ≡ gives_back s log q r
gives_other s log new p o q r is its among e =
    ap₂ (λ a b. a && b) (landed_same log new p r is among)
    (any_same (λ (b : ℕ × Block). bears_position s q b.1 && is_readable_in s new r.stripe.unit b.0 r.life)
    (λ (b : ℕ × Block). bears_position s q b.1 && is_readable_in s log r.stripe.unit b.0 r.life)
    (λ b. ap (λ c. bears_position s q b.1 && c) (readable_other s log new p o r b.0 is its e)) (enumerate_from r.stripe.at r.stripe.blocks))

-- ---- in its chunk

pub closed_now : (s : Shape) (log new : List Logged) (p : Placed) (o : Opening) (block : ℕ) → IsOneLost log new p → p.life ≡ Opened o
    → is_readable_in s new p.stripe.unit block (Opened o) ≡ true
closed_now s log new p o block is its =
    let at : IsAmong (stripes_on log o p.stripe.unit) p = on_its log o p.stripe.unit p is.among its refl in
    let lost : list_any (was_lost new) (stripes_on new o p.stripe.unit) ≡ true =
    ap (list_any (was_lost new)) (on_lost log new p o p.stripe.unit is) ∙ any_member (was_lost new) (stripes_on log o p.stripe.unit) at.0 p at.1 is.lost in
    ap (λ a. (a || (landed_blocks s new o p.stripe.unit == s.clba)) || nat_lt (block + s.mw_cunits) (landed_blocks s new o p.stripe.unit)) lost

any_numbered : (f : Block → Bool) (n : ℕ) (bs : List Block) → list_any (λ (b : ℕ × Block). f b.1) (enumerate_from n bs) ≡ list_any f bs
any_numbered f n [] = refl
any_numbered f n (b ∷ bs) = ap (λ c. f b || c) (any_numbered f (n + 1) bs)

pub gives_own : (s : Shape) (log new : List Logged) (p : Placed) (o : Opening) (q : ℕ) (r : Placed) → IsOneLost log new p → p.life ≡ Opened o
    → IsAmong (placements log) r → of_chunk p o r ≡ true → gives_back s new q r ≡ (has_landed log r && holds_position s q r)
gives_own s log new p o q r is its among e =
    ap₂ (λ a b. a && b) (landed_same log new p r is among)
    (any_same (λ (b : ℕ × Block). bears_position s q b.1 && is_readable_in s new r.stripe.unit b.0 r.life)
    (λ (b : ℕ × Block). bears_position s q b.1)
    (λ b. ap (λ c. bears_position s q b.1 && c)
    (ap (λ u. is_readable_in s new u b.0 r.life) (chunk_unit p o r e) ∙ readable_life s new o p.stripe.unit b.0 r.life (chunk_life p o r e)
    ∙ closed_now s log new p o b.0 is its) ∙ and_yes (bears_position s q b.1)) (enumerate_from r.stripe.at r.stripe.blocks)
    ∙ any_numbered (bears_position s q) r.stripe.at r.stripe.blocks)
  where
    and_yes : (b : Bool) → (b && true) ≡ b
    and_yes true = refl
    and_yes false = refl

-- ---- the laws

pub given_lost : (s : Shape) (log new : List Logged) (p : Placed) (o : Opening) (q : ℕ) → IsOneLost log new p → p.life ≡ Opened o
    → is_given_back s new q ≡ (is_given_back s log q || has_landed_in s log o p.stripe.unit q)
given_lost s log new p o q is its =
    ap (list_any (gives_back s new q)) is.stripes
    ∙ any_split (gives_back s new q) (gives_back s log q) (λ (r : Placed). is_life o.number r.life) (λ (r : Placed). r.stripe.unit == p.stripe.unit)
    (placements log)
    (all_imply (IsAmong (placements log)) (λ (r : Placed). of_chunk p o r ≡ false → gives_back s new q r ≡ gives_back s log q r)
    (λ r among e. gives_other s log new p o q r is its among e) (placements log) (among_all (placements log)))
    (all_imply (IsAmong (placements log)) (λ (r : Placed). of_chunk p o r ≡ true → gives_back s log q r ≡ true → gives_back s new q r ≡ true)
    (λ r among e f. gives_own s log new p o q r is its among e ∙ given_holds s log q r f) (placements log) (among_all (placements log)))
    ∙ ap (λ b. is_given_back s log q || b)
    (any_agree (gives_back s new q) (λ (r : Placed). has_landed log r && holds_position s q r) (stripes_on log o p.stripe.unit)
    (all_imply (IsOfChunk log p o) (λ (r : Placed). gives_back s new q r ≡ (has_landed log r && holds_position s q r))
    (λ r of. gives_own s log new p o q r is its of.among of.of) (stripes_on log o p.stripe.unit) (chunk_members log p o)))

-- what the window holds, by the positions that can be read then
pub window_by_given : (s : Shape) (log : List Logged) (unit event : ℕ) (knows : List ℕ) (p : Placed) (reads : ℕ → Bool) (from : ℕ)
    → unanswered_on log unit ≡ Some p
    → ((q : ℕ) → is_given_back s (with_event log (Lost unit event) knows) q ≡ (is_given_back s log q || reads q))
    → window_from s (with_event log (Lost unit event) knows) from ≡ advanced_window (λ q. false) reads (window_from s log from)
window_by_given s log unit event knows p reads from waits given = same_window from (users_below new from) (users_below log from)
    (map (held_of s new) (drop (from - first_position new) (takes new)))
    (map (advanced_sector (λ q. false) reads) (map (held_of s log) (drop (from - first_position log) (takes log))))
    (ap (λ (ts : List Taken). length (filter (λ (t : Taken). nat_lt t.entry.position from) (filter (λ (t : Taken). is_users t.entry.source) ts))) same)
    (ap₂ (λ n (ts : List Taken). map (held_of s new) (drop (from - n) ts)) (first_kept log (Lost unit event) knows refl) same
    ∙ each (drop (from - first_position log) (takes log)))
  where
    new : List Logged
    new = with_event log (Lost unit event) knows

    is : IsOneLost log (with_event log (Lost unit event) knows) p
    is = one_lost log unit event knows p waits

    same : takes (with_event log (Lost unit event) knows) ≡ takes log
    same = takes_more log (record { event = Decides (Lost unit event); knows = knows }) ∙ append-nil (takes log)

    held : (t : Taken) → held_of s (with_event log (Lost unit event) knows) t ≡ advanced_sector (λ q. false) reads (held_of s log t)
    held t = ap (λ (progress : Progress). record {
      position = t.entry.position;
      class = class_of t.entry.source;
      lba = t.entry.lba;
      source = source_of t.entry.source;
      sector = t.entry.sector;
      progress = progress;
    }) (ap₂ progress_by (landed_at_same s log new p t.entry.position is ∙ sym (or_no (has_landed_at s log t.entry.position)))
        (given t.entry.position)
        ∙ progress_now (has_landed_at s log t.entry.position) (is_given_back s log t.entry.position) false
        (reads t.entry.position) (given_landed s log t.entry.position))

    each : (ts : List Taken) → map (held_of s (with_event log (Lost unit event) knows)) ts
        ≡ map (advanced_sector (λ q. false) reads) (map (held_of s log) ts)
    each [] = refl
    each (t ∷ ts) = ap₂ (λ (h : HeldSector) hs. h ∷ hs) (held t) (each ts)

-- ---- the front synced

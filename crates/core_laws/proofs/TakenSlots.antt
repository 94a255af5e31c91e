-- What a taken entry changes of the map.
use Rattle.std.proofs.Common.{◌≡◌, ℕ, ◌+◌, ◌*◌, ◌-◌, ◌<◌, ◌≤◌, ◌==◌, ◌&&◌, ◌||◌, nat_eq, nat_lt, Bool, true, false, cond, Some, None, Option, List, [], ◌∷◌, ◌++◌, length, refl, sym, ap, ap₂, ◌∙◌, arith, append-nil}
use Rattle.std.specs.Prelude.{if◌then◌else◌}
use Rattle.std.specs.List.{AllByRecursion, filter, find, list_any, enumerate_from, last_or}
use Rattle.std.specs.Option.{option_map, option_map_or, unwrap_or}
use Rattle.pblk_model.specs.declared.shape.Shape.{Shape}
use Rattle.pblk_model.specs.declared.chunk.Mark.{Mark}
use Rattle.pblk_model.specs.Chunk.{Block}
use Rattle.pblk_model.specs.Image.{Image}
use Rattle.pblk_model.specs.Contents.{counted, winner}
use Rattle.pblk_world.specs.Events.{Entry, Take, Decides, Logged}
use Rattle.pblk_world.specs.World.{Logs}
use Rattle.pblk_world.specs.EngineLog.{Begun, begun, LineLife, AsFound, Opened, Freed, is_life, Opening, Taken, takes, Placed, placements, stripes_on, has_landed, was_lost, is_land, bears_position, holds_position}
use Rattle.pblk_world.specs.Fronts.{last_take}
use Rattle.pblk_world.specs.Lines.{found_by, found_image}
use Rattle.pblk_world.specs.Space.{landed_blocks, is_closed_in, is_readable_in, gives_back}
use Rattle.world_laws.proofs.HeldSectors.{last_last}
use Rattle.l2p_map.specs.declared.slot.Slot.TheVariants.{Cached, Media}
use Rattle.stripe_placer.specs.OpenLines.{OpenLine}
use Rattle.core_laws.specs.Stepping.{after}
use Rattle.core_laws.specs.PlacerOf.{number_of}
use Rattle.core_laws.specs.SlotOf.{address_in, readable_block, media_of, slot_of_entry, slot_of_winner, slot_by, slot_of}
use Rattle.core_laws.proofs.Steady.{AreAlike, answer_same, lost_same, as_opened_same}
use Rattle.core_laws.proofs.Opening.{placed_before}
use Rattle.core_laws.proofs.StripesByPlace.{find_all}
use Rattle.core_laws.proofs.Taking.{with_take, alike, filter_last}
use Rattle.pblk_model.proofs.Maps.{filter_same, find_none}
use Rattle.pblk_model.proofs.Tests.{and_false, same_number}
use Rattle.pblk_world.proofs.EngineLogLemmas.{takes_more}

-- ---- what can be read

pub landed_same : (old new : List Logged) → AreAlike old new → (p : Placed) → has_landed new p ≡ has_landed old p
landed_same old new same p = ap is_land (answer_same old new same p)

pub any_same : {X : Type 0} (f g : X → Bool) → ((x : X) → f x ≡ g x) → (xs : List X) → list_any f xs ≡ list_any g xs
any_same f g same [] = refl
any_same f g same (x ∷ xs) = ap₂ (λ a b. a || b) (same x) (any_same f g same xs)

pub find_same : {X : Type 0} (f g : X → Bool) → ((x : X) → f x ≡ g x) → (xs : List X) → find f xs ≡ find g xs
find_same f g same [] = refl
find_same f g same (x ∷ xs) = ap₂ (λ b o. cond b (Some x) o) (same x) (find_same f g same xs)

stripes_on_same : (old new : List Logged) → AreAlike old new → (o : Opening) (unit : ℕ) → stripes_on new o unit ≡ stripes_on old o unit
stripes_on_same old new same o unit =
    ap (λ ps. filter (λ (p : Placed). p.stripe.unit == unit) (filter (λ (p : Placed). is_life o.number p.life) ps)) same.placements

blocks_same : (s : Shape) (old new : List Logged) → AreAlike old new → (o : Opening) (unit : ℕ) → landed_blocks s new o unit ≡ landed_blocks s old o unit
blocks_same s old new same o unit =
    ap (λ n. n * s.ws_opt) (ap length
    (filter_same (has_landed new) (has_landed old) (landed_same old new same) (stripes_on new o unit)
    ∙ ap (filter (has_landed old)) (stripes_on_same old new same o unit)))

closed_same : (s : Shape) (old new : List Logged) → AreAlike old new → (o : Opening) (unit : ℕ) → is_closed_in s new o unit ≡ is_closed_in s old o unit
closed_same s old new same o unit = ap₂ (λ a n. a || (n == s.clba))
    (any_same (was_lost new) (was_lost old) (lost_same old new same) (stripes_on new o unit)
    ∙ ap (list_any (was_lost old)) (stripes_on_same old new same o unit))
    (blocks_same s old new same o unit)

readable_same : (s : Shape) (old new : List Logged) → AreAlike old new → (unit block : ℕ) (life : LineLife)
    → is_readable_in s new unit block life ≡ is_readable_in s old unit block life
readable_same s old new same unit block AsFound = refl
readable_same s old new same unit block (Opened o) =
    ap₂ (λ a n. a || nat_lt (block + s.mw_cunits) n) (closed_same s old new same o unit) (blocks_same s old new same o unit)
readable_same s old new same unit block (Freed past k) = refl

can_read_same : (s : Shape) (old new : List Logged) → AreAlike old new → (position : ℕ) (p : Placed) (b : ℕ × Block)
    → (bears_position s position b.1 && is_readable_in s new p.stripe.unit b.0 p.life) ≡
    (bears_position s position b.1 && is_readable_in s old p.stripe.unit b.0 p.life)
can_read_same s old new same position p b = ap (λ c. bears_position s position b.1 && c) (readable_same s old new same p.stripe.unit b.0 p.life)

pub gives_back_same : (s : Shape) (old new : List Logged) → AreAlike old new → (position : ℕ) (p : Placed)
    → gives_back s new position p ≡ gives_back s old position p
gives_back_same s old new same position p = ap₂ (λ a b. a && b) (landed_same old new same p)
    (any_same (λ (b : ℕ × Block). bears_position s position b.1 && is_readable_in s new p.stripe.unit b.0 p.life)
    (λ (b : ℕ × Block). bears_position s position b.1 && is_readable_in s old p.stripe.unit b.0 p.life)
    (can_read_same s old new same position p) (enumerate_from p.stripe.at p.stripe.blocks))

-- ---- an entry's slot

pub is_before : (n m : ℕ) → ((k : ℕ) → m ≤ k → (n == k) ≡ false) → n < m
is_before n m none = go (nat_lt n m) refl
  where
    go : (b : Bool) → nat_lt n m ≡ b → n < m
    go true e = grind arith
    go false e =
        let above : m ≤ n = grind arith in
        let no : (n == n) ≡ false = none n above in
        let same : (n == n) ≡ true = same_number n in
        absurd cc

address_same : (i : Image) (logs : Logs) (entry : Entry) (mark : Mark) (knows : List ℕ) (life : LineLife) (p : Placed) (block : ℕ)
    → ((n : ℕ) → length (logs 0) ≤ n → is_life n life ≡ false)
    → address_in i (after logs (Take entry mark) knows) life p block ≡ address_in i logs life p block
address_same i logs entry mark knows AsFound p block before = refl
address_same i logs entry mark knows (Opened o) p block before =
    ap (λ (l : OpenLine). number_of i.shape l p.stripe * i.shape.ws_opt + (block - p.stripe.at))
    (as_opened_same i logs (Take entry mark) knows o (is_before o.number (length (logs 0)) before))
address_same i logs entry mark knows (Freed past k) p block before = refl

media_same : (i : Image) (logs : Logs) (entry : Entry) (mark : Mark) (knows : List ℕ) (position : ℕ) (p : Placed)
    → ((n : ℕ) → length (logs 0) ≤ n → is_life n p.life ≡ false)
    → media_of i (after logs (Take entry mark) knows) position p ≡ media_of i logs position p
media_same i logs entry mark knows position p before =
    let new : Logs = after logs (Take entry mark) knows in
    let same : AreAlike (logs 0) (new 0) = alike (logs 0) entry mark knows in
    let block : readable_block i new position p ≡ readable_block i logs position p =
    ap (option_map (λ (b : ℕ × Block). b.0))
    (find_same (λ (b : ℕ × Block). bears_position i.shape position b.1 && is_readable_in i.shape (new 0) p.stripe.unit b.0 p.life)
    (λ (b : ℕ × Block). bears_position i.shape position b.1 && is_readable_in i.shape (logs 0) p.stripe.unit b.0 p.life)
    (can_read_same i.shape (logs 0) (new 0) same position p) (enumerate_from p.stripe.at p.stripe.blocks)) in
    ap (λ a. Media p.stripe.line a position)
    (ap (λ b. address_in i new p.life p (unwrap_or b 0)) block
    ∙ address_same i logs entry mark knows p.life p (unwrap_or (readable_block i logs position p) 0) before)

lives_before : (log : List Logged) → AllByRecursion (λ (p : Placed). (n : ℕ) → length log ≤ n → is_life n p.life ≡ false) (placements log)
lives_before log = each (placements log) (λ n within. placed_before log n within)
  where
    each : (ps : List Placed) → ((n : ℕ) → length log ≤ n → AllByRecursion (λ p. is_life n p.life ≡ false) ps)
        → AllByRecursion (λ (p : Placed). (n : ℕ) → length log ≤ n → is_life n p.life ≡ false) ps
    each [] all = tt
    each (p ∷ ps) all = ((λ n within. (all n within).0), each ps (λ n within. (all n within).1))

entry_same : (i : Image) (logs : Logs) (entry : Entry) (mark : Mark) (knows : List ℕ) (position : ℕ)
    → slot_of_entry i (after logs (Take entry mark) knows) position ≡ slot_of_entry i logs position
entry_same i logs entry mark knows position =
    let new : Logs = after logs (Take entry mark) knows in
    let same : AreAlike (logs 0) (new 0) = alike (logs 0) entry mark knows in
    ap (λ o. option_map_or (media_of i new position) o (Cached position))
    (find_same (gives_back i.shape (new 0) position) (gives_back i.shape (logs 0) position) (gives_back_same i.shape (logs 0) (new 0) same position)
    (placements (new 0)) ∙ ap (find (gives_back i.shape (logs 0) position)) same.placements)
    ∙ go (find (gives_back i.shape (logs 0) position) (placements (logs 0))) refl
  where
    go : (o : Option Placed) → find (gives_back i.shape (logs 0) position) (placements (logs 0)) ≡ o
        → option_map_or (media_of i (after logs (Take entry mark) knows) position) o (Cached position) ≡ option_map_or (media_of i logs position) o
        (Cached position)
    go None e = refl
    go (Some p) e = media_same i logs entry mark knows position p
        (find_all (λ (p : Placed). (n : ℕ) → length (logs 0) ≤ n → is_life n p.life ≡ false) (gives_back i.shape (logs 0) position) (placements (logs 0)) p e
        (lives_before (logs 0)))

-- ---- a sector's slot

pub begun_same : (log : List Logged) (entry : Entry) (mark : Mark) (knows : List ℕ) → begun (with_take log entry mark knows) ≡ begun log
begun_same [] entry mark knows = refl
begun_same (l ∷ log) entry mark knows = refl

found_same : (i : Image) (logs : Logs) (entry : Entry) (mark : Mark) (knows : List ℕ) → found_image i (after logs (Take entry mark) knows) ≡ found_image i logs
found_same i logs entry mark knows = ap (found_by i (after logs (Take entry mark) knows)) (begun_same (logs 0) entry mark knows) ∙ go (begun (logs 0))
  where
    go : (b : Option Begun) → found_by i (after logs (Take entry mark) knows) b ≡ found_by i logs b
    go None = refl
    go (Some b) = refl

slot_by_same : (i : Image) (logs : Logs) (entry : Entry) (mark : Mark) (knows : List ℕ) (lba : ℕ) (t : Option Taken)
    → slot_by i (after logs (Take entry mark) knows) lba t ≡ slot_by i logs lba t
slot_by_same i logs entry mark knows lba None = ap (λ f. slot_of_winner (winner (counted f) lba)) (found_same i logs entry mark knows)
slot_by_same i logs entry mark knows lba (Some t) = entry_same i logs entry mark knows t.entry.position

never_read : (test : Block → Bool) (more : ℕ × Block → Bool) (n : ℕ) (bs : List Block) → list_any test bs ≡ false
    → list_any (λ (b : ℕ × Block). test b.1 && more b) (enumerate_from n bs) ≡ false
never_read test more n [] e = refl
never_read test more n (b ∷ bs) e = go (test b) e (λ f. never_read test more (n + 1) bs f)
  where
    go : (c : Bool) → (c || list_any test bs) ≡ false
        → (list_any test bs ≡ false → list_any (λ (b : ℕ × Block). test b.1 && more b) (enumerate_from (n + 1) bs) ≡ false)
        → ((c && more (n, b)) || list_any (λ (b : ℕ × Block). test b.1 && more b) (enumerate_from (n + 1) bs)) ≡ false
    go true f rest = absurd cc
    go false f rest = rest f

not_given : (s : Shape) (log : List Logged) (position : ℕ) (ps : List Placed) → AllByRecursion (λ p. holds_position s position p ≡ false) ps
    → AllByRecursion (λ p. gives_back s log position p ≡ false) ps
not_given s log position [] all = tt
not_given s log position (p ∷ ps) all = (
  and_false (has_landed log p) (list_any (λ (b : ℕ × Block). bears_position s position b.1 && is_readable_in s log p.stripe.unit b.0 p.life)
      (enumerate_from p.stripe.at p.stripe.blocks))
      (never_read (bears_position s position) (λ (b : ℕ × Block). is_readable_in s log p.stripe.unit b.0 p.life) p.stripe.at p.stripe.blocks all.0),
  not_given s log position ps all.1,
)

last_take_more : (log : List Logged) (entry : Entry) (mark : Mark) (knows : List ℕ) (lba : ℕ) (b : Bool) → (mark.lba == lba) ≡ b
    → last_take (with_take log entry mark knows) lba ≡ (if b then Some (record { entry = entry; mark = mark }) else last_take log lba)
last_take_more log entry mark knows lba b e =
    ap (last_or None) (ap (filter (λ (t : Taken). t.mark.lba == lba)) (takes_more log (record { event = Decides (Take entry mark); knows = knows }))
    ∙ filter_last (λ (t : Taken). t.mark.lba == lba) (takes log) (record { entry = entry; mark = mark }) b e)
    ∙ go b
  where
    go : (b : Bool) → last_or None (filter (λ (t : Taken). t.mark.lba == lba) (takes log) ++ cond b (record { entry = entry; mark = mark } ∷ []) []) ≡
        (if b then Some (record { entry = entry; mark = mark }) else last_take log lba)
    go true = last_last None (filter (λ (t : Taken). t.mark.lba == lba) (takes log)) (record { entry = entry; mark = mark })
    go false = ap (last_or None) (append-nil (filter (λ (t : Taken). t.mark.lba == lba) (takes log)))

pub slot_taken : (i : Image) (logs : Logs) (entry : Entry) (mark : Mark) (knows : List ℕ) (lba : ℕ)
    → AllByRecursion (λ p. holds_position i.shape entry.position p ≡ false) (placements (logs 0))
    → slot_of i (after logs (Take entry mark) knows) lba ≡ (if mark.lba == lba then Cached entry.position else slot_of i logs lba)
slot_taken i logs entry mark knows lba none = go (nat_eq mark.lba lba) refl
  where
    go : (b : Bool) → (mark.lba == lba) ≡ b
        → slot_of i (after logs (Take entry mark) knows) lba ≡ (if mark.lba == lba then Cached entry.position else slot_of i logs lba)
    go true e =
        ap (slot_by i (after logs (Take entry mark) knows) lba) (last_take_more (logs 0) entry mark knows lba true e)
        ∙ entry_same i logs entry mark knows entry.position
        ∙ ap (λ o. option_map_or (media_of i logs entry.position) o (Cached entry.position))
        (find_none (gives_back i.shape (logs 0) entry.position) (placements (logs 0)) (not_given i.shape (logs 0) entry.position (placements (logs 0)) none))
        ∙ ap (λ b. if b then Cached entry.position else slot_of i logs lba) (sym e)
    go false e =
        ap (slot_by i (after logs (Take entry mark) knows) lba) (last_take_more (logs 0) entry mark knows lba false e)
        ∙ slot_by_same i logs entry mark knows lba (last_take (logs 0) lba)
        ∙ ap (λ b. if b then Cached entry.position else slot_of i logs lba) (sym e)

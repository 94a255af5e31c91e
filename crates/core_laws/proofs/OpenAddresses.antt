-- How the data addresses of the opened lines change with each event.
use Rattle.std.proofs.Common.{◌≡◌, ℕ, ◌+◌, ◌-◌, ◌*◌, ◌<◌, max, Bool, true, false, List, [], length, refl, sym, subst, ap, ap₂, ◌∙◌, arith, le_refl}
use Rattle.std.specs.Prelude.{if◌then◌else◌}
use Rattle.std.specs.List.{filter, list_any, range_with_len}
use Rattle.pblk_model.specs.declared.shape.Shape.{Shape}
use Rattle.pblk_model.specs.LineOrder.{start_len, data_len}
use Rattle.pblk_model.specs.Image.{Image}
use Rattle.pblk_model.specs.StartRecord.{StartRecord}
use Rattle.pblk_world.specs.Events.{EngineEvent, Open, Decides, Logged}
use Rattle.pblk_world.specs.World.{Logs}
use Rattle.pblk_world.specs.EngineLog.{LineLife, AsFound, Opened, Freed, is_life, is_opened, life_of, Opening, Placed, placements, stripes_of, was_lost, has_failed}
use Rattle.pblk_world.specs.Placing.{end_address}
use Rattle.pblk_world.specs.Space.{unplaced_in, open_addresses}
use Rattle.pblk_world.proofs.Appending.{life_more}
use Rattle.core_laws.specs.Stepping.{after}
use Rattle.core_laws.proofs.Opening.{placed_before}
use Rattle.core_laws.proofs.TakenSlots.{any_same}
use Rattle.core_laws.specs.OpenAddresses.{keeps_addresses}
use Rattle.core_laws.proofs.RangeSums.{sum_same, sum_more}
use Rattle.core_laws.proofs.KeptStripes.{KeepsStripes, stripes_kept, also_stripes, lives_kept}
use Rattle.pblk_model.proofs.Maps.{filter_none}
use Rattle.pblk_model.proofs.Tests.{other_number, same_number}

-- ---- events that place nothing

pub failed_kept : (log new : List Logged) → KeepsStripes log new → (o : Opening) → has_failed new o ≡ has_failed log o
failed_kept log new kept o =
    any_same (was_lost new) (was_lost log) kept.losses (stripes_of new o)
    ∙ ap (λ ps. list_any (was_lost log) (filter (λ (p : Placed). is_life o.number p.life) ps)) kept.placements

abbrev unplaced_by : Shape → Opening → Bool → ℕ → ℕ
unplaced_by s o failed n = if failed then 0 else end_address s o - max (start_len s) (n * s.ws_opt)

pub unplaced_kept : (s : Shape) (log new : List Logged) → KeepsStripes log new → (life : LineLife) → unplaced_in s new life ≡ unplaced_in s log life
unplaced_kept s log new kept AsFound = refl
unplaced_kept s log new kept (Opened o) =
    ap₂ (unplaced_by s o) (failed_kept log new kept o) (ap (λ ps. length (filter (λ (p : Placed). is_life o.number p.life) ps)) kept.placements)
unplaced_kept s log new kept (Freed past knows) = refl

pub addresses_kept : (i : Image) (logs : Logs) (e : EngineEvent) (knows : List ℕ) → keeps_addresses e ≡ true
    → open_addresses i (after logs e knows) ≡ open_addresses i logs
addresses_kept i logs e knows keeps =
    sum_same (λ line. unplaced_in i.shape (after logs e knows 0) (life_of (after logs e knows 0) line))
    (λ line. unplaced_in i.shape (logs 0) (life_of (logs 0) line))
    (λ line. ap (unplaced_in i.shape (after logs e knows 0)) (lives_kept (logs 0) e knows line keeps)
    ∙ unplaced_kept i.shape (logs 0) (after logs e knows 0) (stripes_kept (logs 0) e knows (also_stripes e keeps)) (life_of (logs 0) line))
    (range_with_len 0 i.shape.chunks)

-- ---- a line is opened

none_in : (s : Shape) (log : List Logged) (life : LineLife) → is_opened life ≡ false → unplaced_in s log life ≡ 0
none_in s log AsFound e = refl
none_in s log (Opened o) e = absurd cc
none_in s log (Freed past knows) e = refl

new_unplaced : (s : Shape) (new : List Logged) (o : Opening) → stripes_of new o ≡ [] → unplaced_in s new (Opened o) ≡ data_len s o.start.width
new_unplaced s new o none =
    ap (λ (ps : List Placed). unplaced_by s o (list_any (was_lost new) ps) (length ps)) none
    ∙ omega arith

pub addresses_opened : (i : Image) (logs : Logs) (line : ℕ) (start : StartRecord) (knows : List ℕ) → line < i.shape.chunks
    → is_opened (life_of (logs 0) line) ≡ false
    → open_addresses i (after logs (Open line start) knows) ≡ open_addresses i logs + data_len i.shape start.width
addresses_opened i logs line start knows inside closed =
    let new : List Logged = after logs (Open line start) knows 0 in
    let kept : KeepsStripes (logs 0) new = stripes_kept (logs 0) (Open line start) knows refl in
    let o : Opening = record { number = length (logs 0); line = line; start = start; knows = knows } in
    let first : line ≡ 0 + line = omega arith in
    let was : unplaced_in i.shape (logs 0) (life_of (logs 0) line) ≡ 0 = none_in i.shape (logs 0) (life_of (logs 0) line) closed in
    let life : life_of new line ≡ Opened o =
    life_more (logs 0) (record { event = Decides (Open line start); knows = knows }) line
    ∙ ap (λ b. if b then Opened o else life_of (logs 0) line) (same_number line) in
    let none : stripes_of new o ≡ [] =
    ap (filter (λ (p : Placed). is_life (length (logs 0)) p.life)) kept.placements
    ∙ filter_none (λ (p : Placed). is_life (length (logs 0)) p.life) (placements (logs 0))
    (placed_before (logs 0) (length (logs 0)) (le_refl (length (logs 0)))) in
    let is : unplaced_in i.shape new (life_of new line) ≡ data_len i.shape start.width = ap (unplaced_in i.shape new) life ∙ new_unplaced i.shape new o none in
    let grows : unplaced_in i.shape new (life_of new line) ≡ unplaced_in i.shape (logs 0) (life_of (logs 0) line) + data_len i.shape start.width =
    omega arith in
    sum_more (λ m. unplaced_in i.shape (logs 0) (life_of (logs 0) m)) (λ m. unplaced_in i.shape new (life_of new m)) i.shape.chunks 0 line
    (data_len i.shape start.width) inside
    (subst (λ m. unplaced_in i.shape new (life_of new m) ≡ unplaced_in i.shape (logs 0) (life_of (logs 0) m) + data_len i.shape start.width) first grows)
    (λ m other.
    ap (unplaced_in i.shape new) (life_more (logs 0) (record { event = Decides (Open line start); knows = knows }) m
    ∙ ap (λ b. if b then Opened (record { number = length (logs 0); line = m; start = start; knows = knows }) else life_of (logs 0) m)
    (other_number line m (λ e. other (sym e ∙ first))))
    ∙ unplaced_kept i.shape (logs 0) new kept (life_of (logs 0) m))

-- The units of an opened line: they stay from its opening on. Each stripe is on one of them.
use Rattle.std.proofs.Common.{◌≡◌, ◌⊎◌, inl, inr, ℕ, ◌<◌, ◌≤◌, zero, suc, Bool, true, false, Some, List, [], ◌∷◌, length, refl, sym, subst, ap, ◌∙◌, arith}
use Rattle.std.specs.Prelude.{slice_get}
use Rattle.std.specs.List.{Contains, range_with_len}
use Rattle.std.specs.Option.{option_map_or}
use Rattle.pblk_model.specs.LineOrder.{column_of, block_of}
use Rattle.pblk_model.specs.Shape.{units}
use Rattle.pblk_model.specs.Chunk.{Chunk}
use Rattle.pblk_model.specs.Image.{Image, is_online_in, line_units, width}
use Rattle.pblk_layout.specs.Online.{is_online}
use Rattle.pblk_world.specs.Events.{Stripe, Logged}
use Rattle.pblk_world.specs.World.{World, Logs, log_of}
use Rattle.pblk_world.specs.EngineLog.{Opening, Opened, is_answered, life_of, Placed, placements}
use Rattle.pblk_world.specs.Legal.{IsLegal}
use Rattle.pblk_world.specs.Lines.{known_image, place_of}
use Rattle.pblk_world.specs.Placing.{next_address, IsStart, IsData, IsEnd, IsPad, MayPlace}
use Rattle.pblk_world.specs.Victims.{engine_prefix}
use Rattle.pblk_world.specs.LegalMounts.{IsLegalMount}
use Rattle.world_laws.proofs.Later.{placed_within}
use Rattle.world_laws.proofs.Openings.{placed_at}
use Rattle.world_laws.proofs.Stripes.{IsPlaced, life_of_stripe, opening_then, placed_is}
use Rattle.world_laws.proofs.LifePlaces.{began}
use Rattle.world_laws.proofs.LifeUnits.{units_of_life}
use Rattle.core_laws.specs.OpenedLines.{opened_units}
use Rattle.core_laws.proofs.OpeningNumbers.{life_at}
use Rattle.core_laws.proofs.PlacedLines.{life_is_before}
use Rattle.core_laws.proofs.UnitTurns.{filtered_is}
use Rattle.core_laws.proofs.UnitBits.{units_are}
use Rattle.core_laws.proofs.UnansweredLines.{still_open}
use Rattle.pblk_model.proofs.Lists.{IsAmong}
use Rattle.pblk_model.proofs.Options.{mapped_some}
use Rattle.pblk_world.proofs.LinesLemmas.{length_known}
use Rattle.pblk_world.proofs.VictimsLemmas.{whole_prefix}

-- ---- units and images

pub few_units : (i : Image) (w : World) (ls : Logs) → IsLegalMount i w → length (known_image i ls).units ≤ 64
few_units i w ls is =
    let count : length (known_image i ls).units ≡ length i.units = length_known i ls in
    let all = is.fit.units in
    let few = is.accepted.drive.few_units in
    omega arith

pub unit_live : (j : Image) (line k unit : ℕ) → length j.units ≤ 64 → slice_get (line_units j line) k ≡ Some unit → is_online j line unit ≡ true
unit_live j line k unit few e =
    filtered_is (is_online j line) (range_with_len 0 64) k unit
    (ap (λ (us : List ℕ). slice_get us k) (sym (units_are j line (is_online j line) few (λ u. refl))) ∙ e)

-- a unit of which a line has such a chunk is one of the image
pub live_inside : (j : Image) (line unit : ℕ) → is_online j line unit ≡ true → unit < length j.units
live_inside j line unit live =
    there (λ (chunks : List Chunk). option_map_or (λ (c : Chunk). is_online_in c.state) (slice_get chunks line) false) j.units unit live
  where
    there : {X : Type 0} (test : X → Bool) (xs : List X) (k : ℕ) → option_map_or test (slice_get xs k) false ≡ true → k < length xs
    there test [] k e = absurd cc
    there test (x ∷ xs) zero e = omega arith
    there test (x ∷ xs) (suc k) e = let rest : k < length xs = there test xs k e in omega arith

pub same_units : (j k : Image) (line : ℕ) → length j.units ≤ 64 → length k.units ≤ 64 → ((unit : ℕ) → is_online j line unit ≡ is_online k line unit)
    → line_units j line ≡ line_units k line
same_units j k line few many same = units_are j line (is_online k line) few (λ unit. sym (same unit))
    ∙ sym (units_are k line (is_online k line) many (λ unit. refl))

-- ---- an opened line keeps its units

-- from the opening on, by what the engine knew
pub units_since : (i : Image) (w : World) (line : ℕ) (o : Opening) → IsLegal i w → life_of (log_of w 0) line ≡ Opened o → (k : ℕ) → o.number ≤ k
    → k ≤ length (log_of w 0)
    → line_units (known_image i (engine_prefix k (log_of w))) line ≡ line_units (known_image i (log_of w)) line
units_since i w line o legal life k from inside =
    let log : List Logged = log_of w 0 in
    let at : o.number < length log = life_is_before log line o life in
    let b = began i w line o legal life in
    units_of_life i w legal b.0 b.1 line o life k from inside
    ∙ sym (units_of_life i w legal b.0 b.1 line o life (length log) (omega arith) (omega arith))
    ∙ ap (λ (ls : Logs). line_units (known_image i ls) line) (whole_prefix (log_of w))

pub keeps_units : (i : Image) (w : World) (line : ℕ) (o : Opening) → IsLegalMount i w → life_of (log_of w 0) line ≡ Opened o
    → line_units (known_image i (log_of w)) line ≡ opened_units i (log_of w) o
keeps_units i w line o is life =
    let at : o.number < length (log_of w 0) = life_is_before (log_of w 0) line o life in
    sym (units_since i w line o is.legal life o.number (omega arith) (omega arith))
    ∙ ap (line_units (known_image i (engine_prefix o.number (log_of w)))) (sym (life_at (log_of w 0) line o life).1)

-- ---- each stripe stands on a chunk of a unit

-- the unit of a place is one of the line's
unit_of_place : (j : Image) (line a unit at : ℕ) → place_of j line a ≡ Some (unit, at) → IsAmong (line_units j line) unit
unit_of_place j line a unit at e =
    let k : ℕ = column_of j.shape (width j line) a in (k, (mapped_some (slice_get (line_units j line) k) (block_of j.shape (width j line) a) unit at e).0)

unit_of_kind : (i : Image) (ls : Logs) (o : Opening) (stripe : Stripe)
    → IsStart i ls o stripe ⊎ (IsData i ls o stripe ⊎ (IsEnd i ls o stripe ⊎ IsPad i ls o stripe))
    → IsAmong (line_units (known_image i ls) stripe.line) stripe.unit
unit_of_kind i ls o stripe (inl is) = unit_of_place (known_image i ls) stripe.line (next_address i.shape (ls 0) o) stripe.unit stripe.at is.next.in_order
unit_of_kind i ls o stripe (inr (inl is)) = unit_of_place (known_image i ls) stripe.line (next_address i.shape (ls 0) o) stripe.unit stripe.at is.next.in_order
unit_of_kind i ls o stripe (inr (inr (inl is))) = unit_of_place (known_image i ls) stripe.line
    (next_address i.shape (ls 0) o) stripe.unit stripe.at is.next.in_order
unit_of_kind i ls o stripe (inr (inr (inr is))) = unit_of_place (known_image i ls) stripe.line is.address stripe.unit stripe.at is.place

-- as the engine knew its line when it was placed
unit_then : (i : Image) (w : World) (p : Placed) → IsLegal i w → Contains (placements (log_of w 0)) p
    → IsAmong (line_units (known_image i (engine_prefix p.number (log_of w))) p.stripe.line) p.stripe.unit
unit_then i w p legal there =
    let placed : IsPlaced (log_of w 0) p = placed_is (log_of w 0) p there in
    let may : MayPlace i (engine_prefix p.number (log_of w)) p.stripe =
    placed_at i w p.number p.stripe placed.logged legal placed.there placed.event in
    unit_of_kind i (engine_prefix p.number (log_of w)) may.opening p.stripe may.kind

pub on_drive : (i : Image) (w : World) (p : Placed) → IsLegalMount i w → Contains (placements (log_of w 0)) p → p.stripe.unit < units i.shape
on_drive i w p is there =
    let then_ : Image = known_image i (engine_prefix p.number (log_of w)) in
    let among : IsAmong (line_units then_ p.stripe.line) p.stripe.unit = unit_then i w p is.legal there in
    let low : p.stripe.unit < length then_.units = live_inside then_ p.stripe.line p.stripe.unit
    (unit_live then_ p.stripe.line among.0 p.stripe.unit (few_units i w (engine_prefix p.number (log_of w)) is) among.1) in
    let count : length then_.units ≡ length i.units = length_known i (engine_prefix p.number (log_of w)) in
    let fit : length i.units ≡ units i.shape = is.fit.units in
    omega arith

-- while it isn't answered the chunk isn't Offline
pub still_online : (i : Image) (w : World) (p : Placed) → IsLegalMount i w → Contains (placements (log_of w 0)) p → is_answered (log_of w 0) p ≡ false
    → is_online (known_image i (log_of w)) p.stripe.line p.stripe.unit ≡ true
still_online i w p is there waits =
    let log : List Logged = log_of w 0 in
    let life = life_of_stripe i w p is.legal there in
    let now : life_of log p.stripe.line ≡ Opened life.0 = still_open i w p is.legal there waits ∙ life.1 in
    let later : life.0.number < p.number = (opening_then log p.number p.stripe.line life.0 life.2).2 in
    let inside : p.number < length log = placed_within log p there in
    let among : IsAmong (line_units (known_image i (log_of w)) p.stripe.line) p.stripe.unit =
    subst (λ us. IsAmong us p.stripe.unit) (units_since i w p.stripe.line life.0 is.legal now p.number (omega arith) (omega arith))
    (unit_then i w p is.legal there) in
    unit_live (known_image i (log_of w)) p.stripe.line among.0 p.stripe.unit (few_units i w (log_of w) is) among.1

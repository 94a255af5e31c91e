-- Each block of a stripe of a line that is opened has an address in the line, by what the engine
-- was told and on the media alike.
use Rattle.std.proofs.Common.{◌≡◌, ℕ, ◌+◌, ◌%◌, ◌<◌, ◌≤◌, ◌⊎◌, inl, inr, suc, zero, Some, List, length, take, refl, sym, subst, ap, ◌∙◌, arith}
use Rattle.std.specs.List.{Contains}
use Rattle.std.proofs.lemmas.Bool.{cases_lt}
use Rattle.pblk_model.specs.Accepted.{IsAccepted}
use Rattle.pblk_model.specs.Image.{Image, line_units, width}
use Rattle.pblk_world.specs.Events.{Logged}
use Rattle.pblk_world.specs.World.{World, Logs, log_of, media}
use Rattle.pblk_world.specs.EngineLog.{Begun, begun, Opening, Opened, Placed, last_opening, life_of, openings, stripes_of}
use Rattle.pblk_world.specs.Legal.{IsLegal}
use Rattle.pblk_world.specs.Lines.{known_image, place_of}
use Rattle.pblk_world.specs.Placing.{MayPlace}
use Rattle.pblk_world.specs.Victims.{engine_prefix}
use Rattle.pblk_world.proofs.VictimsLemmas.{whole_prefix}
use Rattle.pblk_model.proofs.Lists.{among_contained}
use Rattle.pblk_model.proofs.Numbers.{fun_same}
use Rattle.pblk_model.proofs.Parts.{get_below, got_within, take_all}
use Rattle.pblk_world.specs.LegalMounts.{IsLegalMount}
use Rattle.world_laws.proofs.LandedRecords.{HavePlaces}
use Rattle.world_laws.proofs.Later.{placed_within}
use Rattle.world_laws.proofs.Lives.{life_is_known}
use Rattle.world_laws.proofs.Made.{IsMade, made, own_then}
use Rattle.world_laws.proofs.Openings.{opened_at, placed_at}
use Rattle.world_laws.proofs.Stripes.{IsOpening, IsPlaced, opening_is, opening_then, placed_is, stripe_is, stripe_of_prefix}
use Rattle.world_laws.proofs.ToldImages.{image_same}
use Rattle.world_laws.proofs.ToldSince.{told_up_to}
use Rattle.world_laws.proofs.LifeUnits.{units_of_life, width_of_life}
use Rattle.world_laws.proofs.LineAddresses.{HasAddress, has_address, place_within, same_place}

-- an opened line was opened in a mount that began
pub began : (i : Image) (w : World) (line : ℕ) (o : Opening) → IsLegal i w → life_of (log_of w 0) line ≡ Opened o
    → (b : Begun) × (begun (log_of w 0) ≡ Some b)
began i w line o legal is_open =
    let log : List Logged = log_of w 0 in
    let at = among_contained (openings log) o (life_is_known log line o (ap last_opening is_open)).0 in
    let opening : IsOpening log at.0 o = opening_is log at.0 o at.1 in
    let may = opened_at i w o.number o.line o.start opening.logged legal opening.there opening.event in
    (may.0, may.1)

-- its units are known
known_units : (i : Image) (w : World) (o : Opening) → IsLegal i w → life_of (log_of w 0) o.line ≡ Opened o
    → line_units (known_image i (log_of w)) o.line ≡ line_units (media i (log_of w)) o.line
known_units i w o legal is_open =
    let log : List Logged = log_of w 0 in
    let at = among_contained (openings log) o (life_is_known log o.line o (ap last_opening is_open)).0 in
    let opening : IsOpening log at.0 o = opening_is log at.0 o at.1 in
    let inside : o.number < length log = get_below log o.number opening.logged opening.there in
    let b = began i w o.line o legal is_open in
    ap (λ (logs : Logs). line_units (known_image i logs) o.line) (sym (whole_prefix (log_of w)))
    ∙ units_of_life i w legal b.0 b.1 o.line o is_open (length log) (omega arith) (omega arith)

-- ---- while the line is opened

module _ (i : Image) (w : World) (accepted : IsAccepted i.shape) (legal : IsLegal i w) (o : Opening) (p : Placed)
    (is_open : life_of (log_of w 0) o.line ≡ Opened o) (there : Contains (stripes_of (log_of w 0) o) p) where
  abbrev log : List Logged
  log = log_of w 0

  -- the stripe's first block has this address on the media; it has at most WS_OPT blocks
  pub record HasPlace : Type 0 where
    pub first : ℕ
    pub whole : HasAddress i (engine_prefix p.number (log_of w)) p.stripe
    pub is_first : whole.address ≡ first
    pub place : place_of (media i (log_of w)) o.line first ≡ Some (p.stripe.unit, p.stripe.at)

  pub has_place : HasPlace
  has_place =
      let b = began i w o.line o legal is_open in
      let is = stripe_is i w o p legal (life_is_known log o.line o (ap last_opening is_open)).0 there in
      let placed : IsPlaced log p = placed_is log p is.0 in
      let inside : p.number < length log = placed_within log p is.0 in
      let later : o.number < p.number = (opening_then log p.number p.stripe.line o is.2).2 in
      let may : MayPlace i (engine_prefix p.number (log_of w)) p.stripe = placed_at i w p.number p.stripe placed.logged legal placed.there placed.event in
      let at : HasAddress i (engine_prefix p.number (log_of w)) p.stripe =
      has_address i (engine_prefix p.number (log_of w)) p.stripe accepted.drive.ws_opt may in
      let known : Image = known_image i (engine_prefix p.number (log_of w)) in
      let units : line_units (media i (log_of w)) o.line ≡ line_units known o.line =
      sym (units_of_life i w legal b.0 b.1 o.line o is_open p.number (omega arith) (omega arith)) in
      record {
        first = at.address;
        whole = at;
        is_first = refl;
        place = same_place (media i (log_of w)) known o.line at.address refl units
            ∙ ap (λ line. place_of known line at.address) (sym is.3) ∙ at.place;
      }

  -- and its other blocks have the next ones
  pub place_on_media : (index : ℕ) → index < length p.stripe.blocks
      → (a : ℕ) × (place_of (media i (log_of w)) o.line a ≡ Some (p.stripe.unit, p.stripe.at + index))
  place_on_media index within =
      let at : HasPlace = has_place in
      let few : length p.stripe.blocks ≤ i.shape.ws_opt = at.whole.few in (
        at.first + index,
        place_within (media i (log_of w)) o.line p.stripe.unit p.stripe.at at.first index accepted.drive.ws_opt
            (ap (λ a. a % i.shape.ws_opt) (sym at.is_first) ∙ at.whole.whole) at.place (omega arith),
      )

  place_known : (index : ℕ) → index < length p.stripe.blocks
      → (a : ℕ) × (place_of (known_image i (log_of w)) o.line a ≡ Some (p.stripe.unit, p.stripe.at + index))
  place_known index within =
      let at = place_on_media index within in
      (at.0, same_place (known_image i (log_of w)) (media i (log_of w)) o.line at.0 refl (known_units i w o legal is_open) ∙ at.1)

-- ---- at each length of the engine's log at which the stripe's life stands

longer_prefix : (k : ℕ) (logs : Logs) → length (logs 0) ≤ k → engine_prefix k logs ≡ logs
longer_prefix k logs long = fun_same (engine_prefix k logs) logs each
  where
    each : (author : ℕ) → engine_prefix k logs author ≡ logs author
    each zero = take_all (logs 0) k long
    each (suc unit) = refl

pub have_places : (i : Image) (w : World) → IsAccepted i.shape → IsLegal i w → HavePlaces i w
unfolding HavePlaces
have_places i w accepted legal o p k index there life before within = go (cases_lt k (length (log_of w 0)))
  where
    go : (k < length (log_of w 0)) ⊎ (length (log_of w 0) ≤ k)
        → (a : ℕ) × (place_of (known_image i (engine_prefix k (log_of w))) o.line a ≡ Some (p.stripe.unit, p.stripe.at + index))
    go (inl inside) =
        let l = got_within (log_of w 0) k inside in
        let h : IsMade i w 0 k l.0 = made i w 0 k l.0 legal l.1 in
        let own : take k (log_of w 0) ≡ log_of h.before 0 = sym (own_then i w 0 k l.0 h) in
        let at = place_known i h.before accepted h.legal o p (subst (λ (log : List Logged). life_of log o.line ≡ Opened o) own life)
        (subst (λ (log : List Logged). Contains (stripes_of log o) p) own (stripe_of_prefix (log_of w 0) k o p there before)) index within in (
          at.0,
          ap (λ (known : Image). place_of known o.line at.0)
              (image_same i (log_of h.before) (engine_prefix k (log_of w)) (told_up_to i w k l.0 h)) ∙ at.1,
        )
    go (inr past) =
        let at = place_known i w accepted legal o p
        (subst (λ (log : List Logged). life_of log o.line ≡ Opened o) (take_all (log_of w 0) k past) life) there index within in
        (at.0, ap (λ (logs : Logs). place_of (known_image i logs) o.line at.0) (longer_prefix k (log_of w) past) ∙ at.1)

-- ---- in a legal mount

pub units_now : (i : Image) (w : World) → IsLegalMount i w → (o : Opening) → life_of (log_of w 0) o.line ≡ Opened o
    → line_units (known_image i (log_of w)) o.line ≡ line_units (media i (log_of w)) o.line
units_now i w mount o is_open = known_units i w o mount.legal is_open

pub width_now : (i : Image) (w : World) → IsLegalMount i w → (o : Opening) → life_of (log_of w 0) o.line ≡ Opened o
    → o.start.width ≡ width (media i (log_of w)) o.line
width_now i w mount o is_open =
    let b = began i w o.line o mount.legal is_open in width_of_life i w mount.legal b.0 b.1 o.line o is_open

pub place_of_block : (i : Image) (w : World) → IsLegalMount i w → (o : Opening) → life_of (log_of w 0) o.line ≡ Opened o → (p : Placed) (index : ℕ)
    → Contains (stripes_of (log_of w 0) o) p → index < length p.stripe.blocks
    → (a : ℕ) × (place_of (media i (log_of w)) o.line a ≡ Some (p.stripe.unit, p.stripe.at + index))
place_of_block i w mount o is_open p index there within = place_on_media i w mount.accepted mount.legal o p is_open there index within

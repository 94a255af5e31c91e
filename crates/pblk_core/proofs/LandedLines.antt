-- The open lines of a core once a stripe has landed.
use Rattle.std.proofs.Common.{◌≡◌, ℕ, ◌<◌, ◌≤◌, zero, suc, Some, length, refl, sym, ap, ◌∙◌, arith}
use Rattle.std.specs.Prelude.{slice_get}
use Rattle.std.proofs.lemmas.Option.{slice_get_within}
use Rattle.pblk_model.specs.Image.{Image}
use Rattle.pblk_world.specs.World.{World, Logs, log_of}
use Rattle.pblk_world.specs.EngineLog.{Opening}
use Rattle.stripe_placer.specs.Placing.{Program}
use Rattle.pblk_world.specs.LegalMounts.{IsLegalMount}
use Rattle.core_laws.specs.LeftOpenings.{left_openings}
use Rattle.core_laws.proofs.LeftLines.{left_apart}
use Rattle.pblk_core.specs.Slots.{IsSlot}
use Rattle.pblk_core.specs.Stands.{Stands, IsOpenLine}
use Rattle.pblk_core.specs.declared.target_core.Core.{Core}
use Rattle.pblk_core.specs.declared.open_lines.OpenLine.{OpenLine as KeptLine}
use Rattle.pblk_core.specs.declared.open_lines.OpenLines.{OpenLines}
use Rattle.pblk_core.proofs.LandedWay.{IsOnWay, left_there}
use Rattle.pblk_model.proofs.Lists.{IsAmong}
use Rattle.pblk_model.proofs.Parts.{got_within}

-- ---- its slot

pub record HasSlot (i : Image) (logs : Logs) (kept : OpenLines) (o : Opening) : Type 0 where
  pub k : ℕ
  pub slot : KeptLine
  pub inside : k < 2
  pub below : k < kept.count
  pub there : IsSlot kept k slot
  pub opening : slice_get (left_openings i logs) k ≡ Some o
  pub is : IsOpenLine i logs o slot

pub has_slot : (i : Image) (w : World) (c : Core) (unit : ℕ) (of : Program) → IsLegalMount i w → (is : IsOnWay i w unit of) → Stands i (log_of w) c
    → HasSlot i (log_of w) c.open is.row.opening
has_slot i w c unit of mount is st =
    let among : IsAmong (left_openings i (log_of w)) is.row.opening = left_there i w unit of mount is in
    let within : among.0 < length (left_openings i (log_of w)) = slice_get_within (left_openings i (log_of w)) among.0 is.row.opening among.1 in
    let count : c.open.count ≡ length (left_openings i (log_of w)) = st.open_lines.count in
    let few : c.open.count ≤ 2 = st.open_lines.few in
    let two : length c.open.slots.items ≡ 2 = st.open_lines.two in
    let slot = got_within c.open.slots.items among.0 (omega arith) in
    record {
      k = among.0;
      slot = slot.0;
      inside = omega arith;
      below = omega arith;
      there = slot.1;
      opening = among.1;
      is = st.open_lines.each among.0 is.row.opening slot.0 among.1 slot.1;
    }

-- the place that is found is that of the line
pub found_slot : (i : Image) (w : World) (c : Core) (o : Opening) (ln result : ℕ) → o.line ≡ ln → Stands i (log_of w) c → (has : HasSlot i (log_of w) c.open o)
    → result < 2 → ((slot : KeptLine) → IsSlot c.open result slot → slot.records.line ≡ ln)
    → ((slot : KeptLine) → IsSlot c.open 0 slot → slot.records.line ≡ ln → result ≡ 0) → result ≡ has.k
found_slot i w c o ln result own st has inside its first = go has.k refl
  where
    two : length c.open.slots.items ≡ 2
    two = st.open_lines.two

    go : (k : ℕ) → has.k ≡ k → result ≡ k
    go zero e = first has.slot (ap (λ n. slice_get c.open.slots.items n) (sym e) ∙ has.there) (has.is.records.line ∙ own)
    go (suc k) e = by result refl
      where
        by : (r : ℕ) → result ≡ r → r ≡ suc k
        by zero f =
            let within : has.k < length (left_openings i (log_of w)) = slice_get_within (left_openings i (log_of w)) has.k o has.opening in
            let other = got_within (left_openings i (log_of w)) 0 (omega arith) in
            let slot = got_within c.open.slots.items 0 (omega arith) in
            let is : IsOpenLine i (log_of w) other.0 slot.0 = st.open_lines.each 0 other.0 slot.0 other.1 slot.1 in
            let same : other.0.line ≡ o.line = sym is.records.line ∙ its slot.0 (ap (λ n. slice_get c.open.slots.items n) f ∙ slot.1) ∙ sym own in
            let at : 0 ≡ has.k = left_apart i (log_of w) 0 has.k other.0 o other.1 has.opening same in
            absurd (omega arith)
        by (suc r) f = let kept = has.inside in omega arith

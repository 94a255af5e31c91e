-- The media after a legal mount, beside the image that it found.
use Rattle.std.proofs.Common.{◌≡◌, ◌⊎◌, inl, inr, ℕ, ◌+◌, ◌-◌, ◌<◌, ◌≤◌, Some, None, Option, List, map, length, refl, sym, subst, ap, ◌∙◌, arith}
use Rattle.std.specs.Prelude.{slice_get}
use Rattle.std.specs.List.{Contains}
use Rattle.std.specs.Option.{option_and_then}
use Rattle.std.proofs.lemmas.List.{length-map}
use Rattle.std.proofs.lemmas.Option.{none-some, slice_get-map}
use Rattle.pblk_model.specs.declared.shape.Shape.{Shape}
use Rattle.pblk_model.specs.Image.{Image}
use Rattle.pblk_model.specs.StartRecord.{StartRecord, start_of}
use Rattle.pblk_model.specs.Records.{Record, named}
use Rattle.pblk_world.specs.World.{World, log_of, media}
use Rattle.pblk_world.specs.EngineLog.{Begun, begun, Opening, LineLife, AsFound, Opened, Freed, last_opening, life_of, Taken, takes}
use Rattle.pblk_world.specs.Fronts.{first_position, synced}
use Rattle.pblk_world.specs.Legal.{IsLegal}
use Rattle.pblk_world.specs.Lines.{found_image}
use Rattle.pblk_world.proofs.SyncedFront.{synced_within}
use Rattle.pblk_laws.proofs.MarkNames.{sector_exactly}
use Rattle.pblk_model.proofs.Lists.{IsAmong}
use Rattle.pblk_model.proofs.Maps.{get_mapped}
use Rattle.pblk_model.proofs.Options.{map_some}
use Rattle.pblk_world.specs.LegalMounts.{IsLegalMount}
use Rattle.world_laws.proofs.Fronts.{synced_from}
use Rattle.world_laws.proofs.Lives.{life_is_known}
use Rattle.world_laws.proofs.Positions.{position_of}
use Rattle.prefix_law.specs.Assembled.{Given, Entries, IsEntry, IsEntryOf}
use Rattle.prefix_law.specs.AfterMount.{IsOldLine, IsNewStart, IsNewLine, IsAfterMount}
use Rattle.prefix_law.proofs.LineFacts.{HaveOldLines, HaveNewLines, HasFacts}
use Rattle.prefix_law.proofs.OpeningStarts.{started, first_found, found_shape}

-- ---- the entries

-- no sector where the mark is Void
abbrev pub given_of : Shape → Taken → Given
given_of s t = record { lba = option_and_then (λ o. o) (named s t.mark); sector = t.entry.sector }

abbrev pub entries : Image → World → Entries
entries i w = record { first = first_position (log_of w 0); given = map (given_of i.shape) (takes (log_of w 0)) }

-- an entry of a sector was taken, and the other way round
pub record IsTakenAt (i : Image) (w : World) (lba p : ℕ) (t : Taken) : Type 0 where
  pub there : IsAmong (takes (log_of w 0)) t
  pub position : t.entry.position ≡ p
  pub mark : t.mark.lba ≡ lba
  pub inside : lba < i.shape.capacity

of_option : (o : Option (Option ℕ)) (lba : ℕ) → option_and_then (λ x. x) o ≡ Some lba → o ≡ Some (Some lba)
of_option None lba is = absurd (none-some lba is)
of_option (Some x) lba is = ap Some is

pub entry_taken : (i : Image) (w : World) (lba p : ℕ) → IsLegal i w → (e : IsEntryOf (entries i w) lba p)
    → (t : Taken) × IsTakenAt i w lba p t × (e.given.sector ≡ t.entry.sector)
entry_taken i w lba p legal e =
    let from : first_position (log_of w 0) ≤ p = e.entry.from in
    let k = p - first_position (log_of w 0) in
    let at = map_some (given_of i.shape) (slice_get (takes (log_of w 0)) k) e.given
    (sym (slice_get-map (given_of i.shape) (takes (log_of w 0)) k) ∙ e.entry.there) in
    let position : at.0.entry.position ≡ first_position (log_of w 0) + (p - first_position (log_of w 0)) =
    position_of i w (p - first_position (log_of w 0)) at.0 legal at.1 in
    let name : named i.shape at.0.mark ≡ Some (Some lba) =
    of_option (named i.shape at.0.mark) lba (ap (λ (g : Given). g.lba) at.2 ∙ e.of_it) in
    let mark = (sector_exactly i.shape at.0.mark lba).0 name in (
      at.0,
      record { there = (p - first_position (log_of w 0), at.1); position = omega arith; mark = mark.0; inside = mark.1 },
      ap (λ (g : Given). g.sector) (sym at.2),
    )

-- an entry that was taken is the one of its position
pub given_at : (i : Image) (w : World) (t : Taken) → IsLegal i w → IsAmong (takes (log_of w 0)) t
    → IsEntry (entries i w) t.entry.position (given_of i.shape t)
given_at i w t legal there =
    let position : t.entry.position ≡ first_position (log_of w 0) + there.0 = position_of i w there.0 t legal there.1 in
    let number : t.entry.position - first_position (log_of w 0) ≡ there.0 = omega arith in record {
      from = omega arith;
      there = ap (slice_get (map (given_of i.shape) (takes (log_of w 0)))) number ∙ get_mapped (given_of i.shape) (takes (log_of w 0)) there.0 t there.1;
    }

pub taken_entry : (i : Image) (w : World) (lba : ℕ) (t : Taken) → IsLegal i w → lba < i.shape.capacity → IsAmong (takes (log_of w 0)) t
    → t.mark.lba ≡ lba → IsEntryOf (entries i w) lba t.entry.position
taken_entry i w lba t legal inside there mark = record {
  given = given_of i.shape t;
  entry = given_at i w t legal there;
  of_it = ap (option_and_then (λ (o : Option ℕ). o)) ((sector_exactly i.shape t.mark lba).1 (mark, inside));
}

-- ---- the lines

-- the start record of a line that was opened is that of its opening
pub new_line : (i : Image) (w : World) (line : ℕ) (o : Opening) (r : StartRecord) → IsLegal i w → HaveNewLines i w
    → last_opening (life_of (log_of w 0) line) ≡ Some o → start_of (media i (log_of w)) line ≡ Some r
    → IsNewLine (found_image i (log_of w)) (media i (log_of w)) (entries i w) (synced i.shape (log_of w 0)) line r
new_line i w line o r legal new last whole =
    let opened = life_is_known (log_of w 0) line o last in
    let same : r ≡ o.start = new.one_start line o r last whole in record {
      start = subst (IsNewStart (found_image i (log_of w)) (synced i.shape (log_of w 0))) (sym same) (started i w o legal opened.0).start;
      bears = λ x there.
          let e = new.entries line o x last there in (
            given_of i.shape e.0,
            subst (λ p. IsEntry (entries i w) p (given_of i.shape e.0)) e.1.position (given_at i w e.0 legal e.1.there),
            sym (ap (option_and_then (λ (n : Option ℕ). n)) e.1.names),
            e.1.sector,
          );
    }

-- the line wasn't opened
abbrev pub IsUnopened : LineLife → Type 0
IsUnopened life = (life ≡ AsFound) ⊎ ((knows : List ℕ) × (life ≡ Freed None knows))

pub unopened_or_opened : (life : LineLife) → IsUnopened life ⊎ ((o : Opening) × (last_opening life ≡ Some o))
unopened_or_opened AsFound = inl (inl refl)
unopened_or_opened (Opened o) = inr (o, refl)
unopened_or_opened (Freed None knows) = inl (inr (knows, refl))
unopened_or_opened (Freed (Some o) knows) = inr (o, refl)

pub old_line : (i : Image) (w : World) (line : ℕ) (r : StartRecord) → HaveOldLines i w → IsUnopened (life_of (log_of w 0) line)
    → start_of (media i (log_of w)) line ≡ Some r
    → IsOldLine (found_image i (log_of w)) (media i (log_of w)) line r
old_line i w line r old (inl life) whole =
    let same = old.found line life in record {
      start = sym same.0 ∙ whole;
      bears = λ x there. subst (λ (rs : List Record). Contains rs x) same.1 there;
    }
old_line i w line r old (inr (knows, life)) whole = elim (old.freed line knows life) [
  | inl none ↦ absurd (none-some r (sym none ∙ whole))
  | inr kept ↦ record { start = sym kept.0 ∙ whole; bears = kept.1 }
]

pub after_mount : (i : Image) (w : World) (b : Begun) → IsLegalMount i w → HasFacts i w → begun (log_of w 0) ≡ Some b
    → IsAfterMount (found_image i (log_of w)) (media i (log_of w)) (entries i w) (synced i.shape (log_of w 0))
after_mount i w b mount facts begins = record {
  shape = found_shape i (log_of w);
  first = first_found i w b mount.legal begins;
  from = synced_from i.shape (log_of w 0);
  within =
      let most = synced_within i.shape (log_of w 0) in
      let count : length (map (given_of i.shape) (takes (log_of w 0))) ≡ length (takes (log_of w 0)) = length-map (takes (log_of w 0)) (given_of i.shape) in
      omega arith;
  lines = λ line r inside whole. elim (unopened_or_opened (life_of (log_of w 0) line)) [
    | inl unopened ↦ inl (old_line i w line r facts.old unopened whole)
    | inr opened ↦ inr (new_line i w line opened.0 r mount.legal facts.new opened.1 whole)
  ];
}

-- What the lines of the media hold, by their lives in the engine's log.
use Rattle.std.proofs.Common.{◌≡◌, ◌⊎◌, ℕ, true, Some, None, List, take}
use Rattle.std.specs.List.{Contains}
use Rattle.pblk_model.specs.Image.{Image}
use Rattle.pblk_model.specs.StartRecord.{StartRecord, start_of}
use Rattle.pblk_model.specs.Records.{Record, line_records}
use Rattle.pblk_model.specs.Contents.{contents}
use Rattle.pblk_model.specs.History.{after, users}
use Rattle.pblk_model.specs.Sealed.{IsSealed}
use Rattle.pblk_world.specs.World.{World, log_of, media}
use Rattle.pblk_world.specs.EngineLog.{Begun, begun, Opening, AsFound, Opened, Freed, last_opening, life_of, Placed, stripes_of, has_landed, holds_position}
use Rattle.pblk_world.specs.Fronts.{history, user_positions}
use Rattle.pblk_world.specs.Lines.{found_image}
use Rattle.pblk_world.specs.Starts.{has_landed_start}
use Rattle.pblk_world.specs.LegalMounts.{IsLegalMount}
use Rattle.world_laws.proofs.NewLines.{IsPlacedRecord, IsTakenRecord, last_start, last_entry, last_placed, stands_clause, landed_clause}
use Rattle.world_laws.proofs.UnopenedLines.{as_found, freed_old}

-- lines that weren't opened
pub record HaveOldLines (i : Image) (w : World) : Type 0 where
  pub found : (line : ℕ) → life_of (log_of w 0) line ≡ AsFound
      → (start_of (media i (log_of w)) line ≡ start_of (found_image i (log_of w)) line)
      × (line_records (media i (log_of w)) line ≡ line_records (found_image i (log_of w)) line)
  pub freed : (line : ℕ) (knows : List ℕ) → life_of (log_of w 0) line ≡ Freed None knows
      → (start_of (media i (log_of w)) line ≡ None) ⊎ ((start_of (media i (log_of w)) line ≡ start_of (found_image i (log_of w)) line)
      × ((r : Record) → Contains (line_records (media i (log_of w)) line) r → Contains (line_records (found_image i (log_of w)) line) r))

-- lines that were opened
pub record HaveNewLines (i : Image) (w : World) : Type 0 where
  pub one_start : (line : ℕ) (o : Opening) (r : StartRecord) → last_opening (life_of (log_of w 0) line) ≡ Some o
      → start_of (media i (log_of w)) line ≡ Some r → r ≡ o.start
  pub start_stands : (line : ℕ) (o : Opening) → life_of (log_of w 0) line ≡ Opened o → has_landed_start i.shape (log_of w 0) o ≡ true
      → start_of (media i (log_of w)) line ≡ Some o.start
  pub entries : (line : ℕ) (o : Opening) (r : Record) → last_opening (life_of (log_of w 0) line) ≡ Some o
      → Contains (line_records (media i (log_of w)) line) r → IsTakenRecord i w r
  pub placed : (line : ℕ) (o : Opening) (r : Record) → last_opening (life_of (log_of w 0) line) ≡ Some o
      → Contains (line_records (media i (log_of w)) line) r → IsPlacedRecord i w o r
  pub landed : (o : Opening) (p : Placed) (q : ℕ) → Contains (stripes_of (log_of w 0) o) p → has_landed (log_of w 0) p ≡ true
      → life_of (log_of w 0) p.stripe.line ≡ Opened o → holds_position i.shape q p ≡ true
      → (r : Record) × Contains (line_records (media i (log_of w)) p.stripe.line) r × (r.position ≡ q)

-- the user sectors after the lines of the history below a position
abbrev pub sectors_below : Image → World → ℕ → List (List ℕ)
sectors_below i w s = after (contents (found_image i (log_of w))) (take (users (user_positions (log_of w 0)) s) (history (log_of w 0)))

pub record HasFacts (i : Image) (w : World) : Type 0 where
  pub old : HaveOldLines i w
  pub new : HaveNewLines i w

pub new_lines : (i : Image) (w : World) → IsLegalMount i w → HaveNewLines i w
new_lines i w mount = record {
  one_start = λ line o r last whole. last_start i w line o r mount last whole;
  start_stands = λ line o life landed. stands_clause i w line o mount life landed;
  entries = λ line o r last there. last_entry i w line o r mount last there;
  placed = λ line o r last there. last_placed i w line o r mount last there;
  landed = λ o p q there landed life holds. landed_clause i w p.stripe.line o p q mount life there landed holds;
}

pub old_lines : (i : Image) (w : World) (b : Begun) → IsLegalMount i w → IsSealed i → begun (log_of w 0) ≡ Some b → HaveOldLines i w
old_lines i w b mount sealed begins = record {
  found = λ line life. let is = as_found i w mount b begins line sealed life in (is.start, is.bears);
  freed = λ line knows life. freed_old i w mount b begins line sealed knows life;
}

pub facts : (i : Image) (w : World) (b : Begun) → IsLegalMount i w → IsSealed i → begun (log_of w 0) ≡ Some b → HasFacts i w
facts i w b mount sealed begins = record { old = old_lines i w b mount sealed begins; new = new_lines i w mount }

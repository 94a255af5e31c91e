-- Each event that is allowed keeps what is known of marks and of placed positions. An entry that is
-- taken is of a sector, or a copy that is Void.
use Rattle.std.proofs.Common.{◌≡◌, inl, inr, ℕ, ◌+◌, ◌<◌, ◌≤◌, ◌==◌, nat_lt, Bool, true, false, Some, None, Option, List, [], ◌∷◌, ◌++◌, length, refl, sym, subst, ap, ◌∙◌, arith, append-nil, length-append, if◌then◌else◌}
use Rattle.std.specs.List.{AllByRecursion}
use Rattle.std.specs.Option.{is_some, option_to_list}
use Rattle.pblk_model.specs.declared.chunk.Mark.{Mark}
use Rattle.pblk_model.specs.declared.shape.Shape.{Shape}
use Rattle.pblk_model.specs.Image.{Image}
use Rattle.pblk_model.specs.Marks.{meta_lba, void_lba, void_mark}
use Rattle.pblk_model.specs.Records.{named}
use Rattle.pblk_laws.proofs.MarkNames.{named_sector}
use Rattle.world_laws.proofs.Entries.{marked}
use Rattle.pblk_world.specs.Events.{EngineEvent, Entry, Source, Take, Place, Decides, Logged}
use Rattle.pblk_world.specs.World.{Logs}
use Rattle.pblk_world.specs.EngineLog.{Begun, begun, Taken, taken_by, takes, Placed, placed_by, placements, holds_position}
use Rattle.pblk_world.specs.Fronts.{first_position, taken}
use Rattle.pblk_world.specs.Legal.{IsDecision}
use Rattle.pblk_world.specs.Taking.{IsMarked}
use Rattle.pblk_world.proofs.Appending.{placements_more}
use Rattle.core_laws.specs.PlacedEntries.{AreSectorsOrVoid}
use Rattle.core_laws.specs.Positions.{AreNumbered, AreMarked, AreTaken}
use Rattle.core_laws.proofs.TakenNumbers.{first_stays}
use Rattle.core_laws.proofs.PlacedPositions.{placed_taken}
use Rattle.pblk_model.proofs.Lists.{all_append, all_imply}
use Rattle.pblk_model.proofs.Tests.{same_number}
use Rattle.pblk_world.proofs.EngineLogLemmas.{takes_more}

pub marked_after : (i : Image) (known : Logs) (log : List Logged) (beginning : Begun) (e : EngineEvent) (knows : List ℕ) → IsDecision i known beginning e
    → AreMarked log → AreMarked (log ++ record { event = Decides e; knows = knows } ∷ [])
marked_after i known log beginning (Take entry mark) knows may is =
    let l : Logged = record { event = Decides (Take entry mark); knows = knows } in
    subst (AllByRecursion (λ (t : Taken). t.mark.position ≡ t.entry.position)) (sym (takes_more log l))
    (all_append (λ (t : Taken). t.mark.position ≡ t.entry.position) (takes log) (record { entry = entry; mark = mark } ∷ []) is
    (marked i known entry mark entry.source may.marked, tt))
marked_after i known log beginning e knows may is =
    let l : Logged = record { event = Decides e; knows = knows } in
    subst (AllByRecursion (λ (t : Taken). t.mark.position ≡ t.entry.position)) (sym (takes_more log l ∙ append-nil (takes log))) is

-- the mark of an entry is a sector's or Void

sector_names : (s : Shape) (m : Mark) (lba : ℕ) → m.lba ≡ lba → lba < s.capacity → is_some (named s m) ≡ true
sector_names s m lba e low = ap is_some (named_sector s m (omega arith))

void_names : (s : Shape) (position : ℕ) → is_some (named s (void_mark position)) ≡ true
void_names s position = go (nat_lt void_lba s.capacity) (void_lba == void_lba) (same_number void_lba)
  where
    go : (a b : Bool) → b ≡ true → is_some (if a then Some (Some void_lba) else (if b then Some None else None)) ≡ true
    go true b e = refl
    go false true e = refl
    go false false e = absurd cc

mark_names : (i : Image) (known : Logs) (entry : Entry) (mark : Mark) (source : Option Source) → entry.lba < i.shape.capacity
    → IsMarked i known entry mark source → is_some (named i.shape mark) ≡ true
mark_names i known entry mark None low is = sector_names i.shape mark entry.lba (ap (λ (m : Mark). m.lba) is) low
mark_names i known entry mark (Some source) low (inl copies) =
    sector_names i.shape mark entry.lba (ap (λ (m : Mark). m.lba) copies.names_sector) low
mark_names i known entry mark (Some source) low (inr stale) =
    ap (λ (m : Mark). is_some (named i.shape m)) stale.names_none ∙ void_names i.shape entry.position

pub named_after : (i : Image) (known : Logs) (log : List Logged) (beginning : Begun) (e : EngineEvent) (knows : List ℕ) → IsDecision i known beginning e
    → AreSectorsOrVoid i.shape log → AreSectorsOrVoid i.shape (log ++ record { event = Decides e; knows = knows } ∷ [])
named_after i known log beginning (Take entry mark) knows may is =
    let l : Logged = record { event = Decides (Take entry mark); knows = knows } in
    subst (AllByRecursion (λ (t : Taken). is_some (named i.shape t.mark) ≡ true)) (sym (takes_more log l))
    (all_append (λ (t : Taken). is_some (named i.shape t.mark) ≡ true) (takes log) (record { entry = entry; mark = mark } ∷ []) is
    (mark_names i known entry mark entry.source may.lba may.marked, tt))
named_after i known log beginning e knows may is =
    let l : Logged = record { event = Decides e; knows = knows } in
    subst (AllByRecursion (λ (t : Taken). is_some (named i.shape t.mark) ≡ true)) (sym (takes_more log l ∙ append-nil (takes log))) is

taken_grows : (log : List Logged) (l : Logged) (b : Begun) → begun log ≡ Some b → taken log ≤ taken (log ++ l ∷ [])
taken_grows log l b begins =
    let first : first_position (log ++ l ∷ []) ≡ first_position log = first_stays log l b begins in
    let count : length (takes (log ++ l ∷ [])) ≡ length (takes log) + length (option_to_list (taken_by l.event)) =
    ap (λ (ts : List Taken). length ts) (takes_more log l) ∙ length-append (takes log) (option_to_list (taken_by l.event)) in
    omega arith

placed_now : (i : Image) (known : Logs) (log : List Logged) (beginning : Begun) (e : EngineEvent) (n : ℕ) → i.shape.capacity ≤ meta_lba → known 0 ≡ log
    → IsDecision i known beginning e → AreNumbered log → AreMarked log
    → taken log ≤ n → AllByRecursion (λ (p : Placed). (q : ℕ) → holds_position i.shape q p ≡ true → q < n)
    (option_to_list (placed_by log (length log) (Decides e)))
placed_now i known log beginning (Place stripe) n small own may numbered marked within = (
  λ q holds.
      let below : q < taken (known 0) =
      placed_taken i known stripe small (subst AreNumbered (sym own) numbered) (subst AreMarked (sym own) marked) may q holds in
      let same : taken (known 0) ≡ taken log = ap taken own in
      omega arith,
  tt,
)
placed_now i known log beginning e n small own may numbered marked within = tt

pub taken_after : (i : Image) (known : Logs) (log : List Logged) (beginning : Begun) (e : EngineEvent) (knows : List ℕ) → i.shape.capacity ≤ meta_lba
    → begun log ≡ Some beginning → known 0 ≡ log → IsDecision i known beginning e
    → AreNumbered log → AreMarked log → AreTaken i.shape log → AreTaken i.shape (log ++ record { event = Decides e; knows = knows } ∷ [])
taken_after i known log beginning e knows small begins own may numbered marked is =
    let l : Logged = record { event = Decides e; knows = knows } in
    let n : ℕ = taken (log ++ l ∷ []) in
    let grows : taken log ≤ taken (log ++ l ∷ []) = taken_grows log l beginning begins in
    subst (AllByRecursion (λ (p : Placed). (q : ℕ) → holds_position i.shape q p ≡ true → q < taken (log ++ l ∷ []))) (sym (placements_more log l))
    (all_append (λ (p : Placed). (q : ℕ) → holds_position i.shape q p ≡ true → q < taken (log ++ l ∷ [])) (placements log)
    (option_to_list (placed_by log (length log) (Decides e)))
    (all_imply (λ (p : Placed). (q : ℕ) → holds_position i.shape q p ≡ true → q < taken log)
    (λ (p : Placed). (q : ℕ) → holds_position i.shape q p ≡ true → q < taken (log ++ l ∷ []))
    (λ p below q holds. let inside : q < taken log = below q holds in omega arith) (placements log) is)
    (placed_now i known log beginning e (taken (log ++ l ∷ [])) small own may numbered marked grows))

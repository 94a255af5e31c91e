-- There is room in a core's placer for the entries of a stripe that was lost, once its unit's
-- program has ended.
use Rattle.std.proofs.Common.{◌≡◌, ◌⊎◌, inl, inr, ℕ, ◌+◌, ◌-◌, ◌%◌, ◌<◌, ◌≤◌, ◌==◌, suc, zero, Bool, true, false, Some, None, List, [], ◌∷◌, ◌++◌, length, drop, refl, sym, subst, ap, ◌∙◌, arith, length-append, mod-lt}
use Rattle.std.specs.Prelude.{map, slice_get, slice_set, if◌then◌else◌}
use Rattle.std.specs.List.{flat_map, cons_option, filter_map}
use Rattle.std.specs.Option.{is_some}
use Rattle.std.proofs.lemmas.Bool.{eqb-true}
use Rattle.std.proofs.lemmas.List.{length-map}
use Rattle.std.proofs.lemmas.Option.{same_Some, none-some}
use Rattle.pblk_model.specs.declared.chunk.Mark.{Mark}
use Rattle.pblk_model.specs.declared.shape.Shape.{Shape}
use Rattle.pblk_model.specs.Blocks.{blocks_of}
use Rattle.pblk_model.specs.Image.{Image}
use Rattle.pblk_model.specs.Records.{named}
use Rattle.pblk_model.proofs.MarksLemmas.{accepted_small}
use Rattle.pblk_world.specs.World.{World, log_of}
use Rattle.pblk_world.specs.EngineLog.{Taken, takes}
use Rattle.pblk_world.specs.Fronts.{first_position, has_landed_at}
use Rattle.pblk_world.specs.Victims.{position_in}
use Rattle.stripe_placer.specs.Entries.{waiting}
use Rattle.stripe_placer.specs.Placing.{Placing, Program, UnitRow, held, lost, positions_in}
use Rattle.stripe_placer.specs.Placing.UnitRow.{Idle, UnderWay}
use Rattle.pblk_world.specs.LegalMounts.{IsLegalMount}
use Rattle.core_laws.specs.PlacerOf.{placing_of}
use Rattle.core_laws.specs.WindowOf.{is_given_back}
use Rattle.core_laws.proofs.CachedEntries.{numbered_at}
use Rattle.core_laws.proofs.Distinct.{IsIn, Distinct, at_in, in_joined, in_made, distinct_apart, distinct_at, distinct_few, distinct_made, distinct_second}
use Rattle.core_laws.proofs.Growing.{given_landed}
use Rattle.core_laws.proofs.HeldPositions.{IsHeld, held_at, held_distinct}
use Rattle.core_laws.proofs.Placed.{is_in_list}
use Rattle.core_laws.proofs.PlacedInOrder.{ordered}
use Rattle.core_laws.proofs.UsersEntries.{in_order}
use Rattle.pblk_core.specs.declared.hold.Hold.{Hold}
use Rattle.pblk_core.specs.declared.target_core.Core.{Core}
use Rattle.pblk_core.specs.Holds.{hold_of}
use Rattle.pblk_core.specs.Losing.{HasRoomFor, positions_of_marks}
use Rattle.pblk_core.specs.Stands.{Stands}
use Rattle.pblk_core.proofs.StandsFacts.{ring_some}
use Rattle.pblk_model.proofs.Lists.{IsAmong, among_contained}
use Rattle.pblk_model.proofs.Parts.{all_at, contained_among, got_within}
use Rattle.pblk_model.proofs.Tests.{either, no_both, or_right}

-- ---- distinct numbers by what is made of them

mapped_in : (f : ℕ → ℕ) (xs : List ℕ) (q : ℕ) → IsIn (map f xs) q → (x : ℕ) × IsIn xs x × (f x ≡ q)
mapped_in f [] q e = absurd cc
mapped_in f (x ∷ xs) q e = go (either (f x == q) (is_in_list (map f xs) q) e) (mapped_in f xs q)
  where
    go : ((f x == q) ≡ true) ⊎ IsIn (map f xs) q → (IsIn (map f xs) q → (y : ℕ) × IsIn xs y × (f y ≡ q)) → (y : ℕ) × IsIn (x ∷ xs) y × (f y ≡ q)
    go (inl here) rest = (x, at_in (x ∷ xs) 0 x refl, eqb-true (f x) q here)
    go (inr there) rest = let r = rest there in (r.0, or_right (x == r.0) (is_in_list xs r.0) r.1, r.2)

distinct_map : (f : ℕ → ℕ) (xs : List ℕ) → Distinct xs → ((x y : ℕ) → IsIn xs x → IsIn xs y → f x ≡ f y → x ≡ y) → Distinct (map f xs)
distinct_map f [] d one = tt
distinct_map f (x ∷ xs) d one = (
  go (is_in_list (map f xs) (f x)) refl,
  distinct_map f xs d.1 (λ y z a b e. one y z (or_right (x == y) (is_in_list xs y) a) (or_right (x == z) (is_in_list xs z) b) e),
)
  where
    go : (b : Bool) → is_in_list (map f xs) (f x) ≡ b → b ≡ false
    go false e = refl
    go true e =
        let at = mapped_in f xs (f x) e in
        let same : at.0 ≡ x = one at.0 x (or_right (x == at.0) (is_in_list xs at.0) at.1) (at_in (x ∷ xs) 0 x refl) at.2 in
        no_both (is_in_list xs x) (subst (IsIn xs) same at.1) d.0

-- ---- a placer holds no more positions than the ring has slots

module _ (i : Image) (w : World) (c : Core) (mount : IsLegalMount i w) (st : Stands i (log_of w) c) where
  record IsKept (q : ℕ) : Type 0 where
    entry : Taken
    position : entry.entry.position ≡ q
    marked : entry.mark.position ≡ q
    row : slice_get c.holds.rows.items (q % i.shape.ring) ≡ Some (hold_of i.shape (log_of w 0) entry)

  kept : (q : ℕ) → IsIn (held (placing_of i (log_of w) c.placer.entries.pad st.again)) q → IsKept q
  kept q e =
      let at : IsHeld i.shape (log_of w 0) q = held_at i (log_of w) c.placer.entries.pad st.again (ordered i w mount) q e in
      let order = in_order i w (accepted_small i.shape mount.accepted) mount.legal in
      let low : first_position (log_of w 0) ≤ q = at.low in
      let high : q < first_position (log_of w 0) + length (takes (log_of w 0)) = at.high in
      let t : (t : Taken) × (slice_get (takes (log_of w 0)) (q - first_position (log_of w 0)) ≡ Some t) =
      got_within (takes (log_of w 0)) (q - first_position (log_of w 0)) (omega arith) in
      let back : first_position (log_of w 0) + (q - first_position (log_of w 0)) ≡ q = omega arith in
      let position : t.0.entry.position ≡ q =
      numbered_at (first_position (log_of w 0)) (length (takes (log_of w 0))) (takes (log_of w 0)) (q - first_position (log_of w 0)) t.0 order.numbered t.1
      ∙ back in
      record {
        entry = t.0;
        position = position;
        marked = all_at (λ (x : Taken). x.mark.position ≡ x.entry.position) (takes (log_of w 0)) (q - first_position (log_of w 0)) t.0 t.1 order.marked
            ∙ position;
        row = ap (λ n. slice_get c.holds.rows.items (n % i.shape.ring)) (sym position)
            ∙ st.holds.each t.0 (contained_among (takes (log_of w 0)) t.0 (q - first_position (log_of w 0), t.1))
            (ap (is_given_back i.shape (log_of w 0)) position ∙ not_given (is_given_back i.shape (log_of w 0) q) refl at.not_landed);
      }
    where
      not_given : (b : Bool) → is_given_back i.shape (log_of w 0) q ≡ b → has_landed_at i.shape (log_of w 0) q ≡ false → b ≡ false
      not_given false f none = refl
      not_given true f none = no_both (has_landed_at i.shape (log_of w 0) q) (given_landed i.shape (log_of w 0) q f) none

  one_slot : (x y : ℕ) → IsIn (held (placing_of i (log_of w) c.placer.entries.pad st.again)) x
      → IsIn (held (placing_of i (log_of w) c.placer.entries.pad st.again)) y → x % i.shape.ring ≡ y % i.shape.ring → x ≡ y
  one_slot x y a b same =
      let t : IsKept x = kept x a in
      let u : IsKept y = kept y b in
      let rows : hold_of i.shape (log_of w 0) (IsKept.entry t) ≡ hold_of i.shape (log_of w 0) (IsKept.entry u) =
      same_Some (hold_of i.shape (log_of w 0) (IsKept.entry t)) (hold_of i.shape (log_of w 0) (IsKept.entry u))
      (sym (IsKept.row t) ∙ ap (slice_get c.holds.rows.items) same ∙ IsKept.row u) in
      sym (IsKept.marked t) ∙ ap (λ (h : Hold). h.mark.position) rows ∙ IsKept.marked u

  pub held_in_ring : length (held c.placer) ≤ i.shape.ring
  held_in_ring =
      let some : 0 < i.shape.ring = ring_some i.shape mount.accepted in
      let count : length (map (λ q. q % i.shape.ring) (held (placing_of i (log_of w) c.placer.entries.pad st.again)))
      ≡ length (held (placing_of i (log_of w) c.placer.entries.pad st.again)) =
      length-map (held (placing_of i (log_of w) c.placer.entries.pad st.again)) (λ q. q % i.shape.ring) in
      let few : length (map (λ q. q % i.shape.ring) (held (placing_of i (log_of w) c.placer.entries.pad st.again))) ≤ i.shape.ring =
      distinct_few 0 i.shape.ring (map (λ q. q % i.shape.ring) (held (placing_of i (log_of w) c.placer.entries.pad st.again)))
      (distinct_map (λ q. q % i.shape.ring) (held (placing_of i (log_of w) c.placer.entries.pad st.again))
      (held_distinct i (log_of w) c.placer.entries.pad st.again (ordered i w mount)) one_slot)
      (λ q e. let at = mapped_in (λ x. x % i.shape.ring) (held (placing_of i (log_of w) c.placer.entries.pad st.again)) q e in
      let low : at.0 % i.shape.ring < i.shape.ring = mod-lt at.0 some in
      let is : at.0 % i.shape.ring ≡ q = at.2 in (omega arith, omega arith)) in
      let same : length (held c.placer) ≡ length (held (placing_of i (log_of w) c.placer.entries.pad st.again)) = ap (λ p. length (held p)) st.placing in
      omega arith

  pub held_apart : Distinct (held c.placer)
  held_apart = subst (λ p. Distinct (held p)) (sym st.placing) (held_distinct i (log_of w) c.placer.entries.pad st.again (ordered i w mount))

-- ---- a unit's program ends

fewer_rows : (xs : List UnitRow) (k : ℕ) (x : UnitRow) → slice_get xs k ≡ Some x
    → length (flat_map positions_in (slice_set xs k Idle)) + length (positions_in x) ≡ length (flat_map positions_in xs)
fewer_rows [] k x e = absurd (none-some x e)
fewer_rows (y ∷ xs) zero x e =
    let own : length (positions_in y) ≡ length (positions_in x) = ap (λ r. length (positions_in r)) (same_Some y x e) in
    let all : length (positions_in y ++ flat_map positions_in xs) ≡ length (positions_in y) + length (flat_map positions_in xs) =
    length-append (positions_in y) (flat_map positions_in xs) in
    omega arith
fewer_rows (y ∷ xs) (suc k) x e =
    let rest : length (flat_map positions_in (slice_set xs k Idle)) + length (positions_in x) ≡ length (flat_map positions_in xs) = fewer_rows xs k x e in
    let new : length (positions_in y ++ flat_map positions_in (slice_set xs k Idle))
    ≡ length (positions_in y) + length (flat_map positions_in (slice_set xs k Idle)) =
    length-append (positions_in y) (flat_map positions_in (slice_set xs k Idle)) in
    let old : length (positions_in y ++ flat_map positions_in xs) ≡ length (positions_in y) + length (flat_map positions_in xs) =
    length-append (positions_in y) (flat_map positions_in xs) in
    omega arith

none_left : (xs : List UnitRow) (k : ℕ) (x : UnitRow) (q : ℕ) → slice_get xs k ≡ Some x → Distinct (flat_map positions_in xs) → IsIn (positions_in x) q
    → IsIn (flat_map positions_in (slice_set xs k Idle)) q → ⊥
none_left [] k x q e d own rest = absurd (none-some x e)
none_left (y ∷ xs) zero x q e d own rest =
    distinct_apart (positions_in y) (flat_map positions_in xs) d q (subst (λ r. IsIn (positions_in r) q) (sym (same_Some y x e)) own) rest
none_left (y ∷ xs) (suc k) x q e d own rest =
    go (in_joined (positions_in y) (flat_map positions_in (slice_set xs k Idle)) q rest)
    (λ later. none_left xs k x q e (distinct_second (positions_in y) (flat_map positions_in xs) d) own later)
  where
    go : IsIn (positions_in y) q ⊎ IsIn (flat_map positions_in (slice_set xs k Idle)) q
        → (IsIn (flat_map positions_in (slice_set xs k Idle)) q → ⊥) → ⊥
    go (inl here) others = distinct_apart (positions_in y) (flat_map positions_in xs) d q here (in_made positions_in xs x k q e own)
    go (inr later) others = others later

pub room_for_lost : (p : Placing) (of : Program) → slice_get p.units of.unit ≡ Some (UnderWay of) → length (held p) ≤ p.shape.ring → Distinct (held p)
    → HasRoomFor (lost p of) of.positions
room_for_lost p of there few apart = record {
  fits =
      let rows : length (flat_map positions_in (slice_set p.units of.unit Idle)) + length of.positions ≡ length (flat_map positions_in p.units) =
      fewer_rows p.units of.unit (UnderWay of) there in
      let new : length (held (lost p of)) ≡ length (waiting p.entries) + length (flat_map positions_in (slice_set p.units of.unit Idle)) =
      length-append (waiting p.entries) (flat_map positions_in (slice_set p.units of.unit Idle)) in
      let old : length (held p) ≡ length (waiting p.entries) + length (flat_map positions_in p.units) =
      length-append (waiting p.entries) (flat_map positions_in p.units) in
      omega arith;
  others = λ k q at held_there.
      let own : IsIn of.positions q = at_in of.positions k q at in
      let among : IsAmong (held (lost p of)) q = among_contained (held (lost p of)) q held_there in
      go q own (in_joined (waiting p.entries) (flat_map positions_in (slice_set p.units of.unit Idle)) q (at_in (held (lost p of)) among.0 q among.1));
  apart = λ j k q a b. distinct_at of.positions j k q
      (distinct_made positions_in p.units (UnderWay of) of.unit there (distinct_second (waiting p.entries) (flat_map positions_in p.units) apart)) a b;
}
  where
    go : (q : ℕ) → IsIn of.positions q → IsIn (waiting p.entries) q ⊎ IsIn (flat_map positions_in (slice_set p.units of.unit Idle)) q → ⊥
    go q own (inl waits) = distinct_apart (waiting p.entries) (flat_map positions_in p.units) apart q waits
        (in_made positions_in p.units (UnderWay of) of.unit q there own)
    go q own (inr rest) = none_left p.units of.unit (UnderWay of) q there (distinct_second (waiting p.entries) (flat_map positions_in p.units) apart) own rest

-- ---- the positions by the marks of a stripe

pub marks_positions : (s : Shape) (size : ℕ) (bytes : List ℕ) (marks : List Mark)
    → positions_of_marks s marks ≡ filter_map (position_in s) (blocks_of size bytes marks)
marks_positions s size bytes [] = refl
marks_positions s size bytes (m ∷ marks) =
    ap (cons_option (if is_some (named s m) then Some m.position else None)) (marks_positions s size (drop size bytes) marks)

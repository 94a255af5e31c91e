use Rattle.std.proofs.Common.{◌≡◌, ◌≢◌, ◌⊎◌, inl, inr, ℕ, ◌<◌, ◌≤◌, ◌==◌, true, false, Some, None, Option, List, length, refl, sym, subst, ap, ap₂, ◌∙◌}
use Rattle.std.specs.Prelude.{Bool, nat_lt, slice_get, if◌then◌else◌}
use Rattle.std.specs.List.{Contains, slice_index_or}
use Rattle.std.specs.Option.{is_some}
use Rattle.std.proofs.lemmas.Option.{slice_get-get_or}
use Rattle.pblk_model.specs.declared.chunk.Mark.{Mark}
use Rattle.pblk_model.specs.declared.shape.Shape.{Shape}
use Rattle.pblk_model.specs.Marks.{void_lba}
use Rattle.stripe_placer.specs.Placing.{Placing, held, waits}
use Rattle.pblk_core.specs.Losing.{position_of_mark}
use Rattle.pblk_core.proofs.AllWait.{another, room_left, waits_more, waits_same}
use Rattle.core_laws.proofs.Placing.{not_below}
use Rattle.pblk_model.proofs.Tests.{lt_true, other_number, same_number}
use Rattle.pblk_core.proofs.losing.wait_again.Goals as goal
use Rattle.pblk_core.proofs.losing.wait_again.Goals.{then-mark-shape, then-mark-shape-via-then-mark-shape, then-mark-shape-via-else-mark-shape+then-mark, else-mark-shape+else-mark}

-- whether a mark is that of an entry
position_by : Mark → Bool → Bool → Option ℕ
position_by m low void = if is_some (if low then Some (Some m.lba) else (if void then Some None else None)) then Some m.position else None

bears : (s : Shape) (m : Mark) → (m.lba < s.capacity) ⊎ (m.lba ≡ void_lba) → position_of_mark s m ≡ Some m.position
unfolding position_by
bears s m (inl low) = ap (λ b. position_by m b (m.lba == void_lba)) (lt_true m.lba s.capacity low)
bears s m (inr void) = ap (position_by m (nat_lt m.lba s.capacity)) (ap (λ n. n == void_lba) void ∙ same_number void_lba)
    ∙ elim (nat_lt m.lba s.capacity) as (λ b. position_by m b true ≡ Some m.position) [ true ↦ refl | false ↦ refl ]

bears_none : (s : Shape) (m : Mark) → s.capacity ≤ m.lba → m.lba ≢ void_lba → position_of_mark s m ≡ None
unfolding position_by
bears_none s m high other = ap₂ (position_by m) (not_below s.capacity m.lba high) (other_number m.lba void_lba other)

abbrev mark_at : List Mark → ℕ → Mark
mark_at marks k = slice_index_or marks k (record { lba = 0; position = 0 })

there : (marks : List Mark) (k : ℕ) → k < length marks → slice_get marks k ≡ Some (mark_at marks k)
there marks k inside = slice_get-get_or marks k (record { lba = 0; position = 0 }) inside

pub wait-requires-clause-room : goal.wait-requires-clause-room
wait-requires-clause-room c =
    let m : Mark = mark_at c.args.marks.now c.loop-index.index in
    let at : slice_get c.args.marks.now c.loop-index.index ≡ Some m = there c.args.marks.now c.loop-index.index c.loop-index-test.true in
    let its : position_of_mark c.args.shape.now m ≡ Some m.position =
    elim c.then-mark-shape.branch as (λ _. position_of_mark c.args.shape.now m ≡ Some m.position) [
      | then-mark-shape-via-then-mark-shape w ↦ bears c.args.shape.now m (inl w.if-mark-shape.true)
      | then-mark-shape-via-else-mark-shape+then-mark w ↦ bears c.args.shape.now m (inr w.if-mark.true)
    ] in
    subst (λ (p : Placing). length (held p) < p.shape.ring) (sym c.loop-index.invariant.placer)
    (room_left c.args.shape.now c.args.marks.now c.loop-index.index m at c.args.placer.now c.requires.room its)

pub wait-requires-clause-another : goal.wait-requires-clause-another
wait-requires-clause-another c =
    let m : Mark = mark_at c.args.marks.now c.loop-index.index in
    let at : slice_get c.args.marks.now c.loop-index.index ≡ Some m = there c.args.marks.now c.loop-index.index c.loop-index-test.true in
    let its : position_of_mark c.args.shape.now m ≡ Some m.position =
    elim c.then-mark-shape.branch as (λ _. position_of_mark c.args.shape.now m ≡ Some m.position) [
      | then-mark-shape-via-then-mark-shape w ↦ bears c.args.shape.now m (inl w.if-mark-shape.true)
      | then-mark-shape-via-else-mark-shape+then-mark w ↦ bears c.args.shape.now m (inr w.if-mark.true)
    ] in
    subst (λ (p : Placing). Contains (held p) m.position → ⊥) (sym c.loop-index.invariant.placer)
    (another c.args.shape.now c.args.marks.now c.loop-index.index m at c.args.placer.now c.requires.room its)

pub loop-index-preserved : goal.loop-index-preserved
loop-index-preserved c =
    let s : Shape = c.args.shape.now in
    let marks : List Mark = c.args.marks.now in
    let k : ℕ = c.loop-index.index in
    let m : Mark = mark_at c.args.marks.now c.loop-index.index in
    let at : slice_get c.args.marks.now c.loop-index.index ≡ Some m = there c.args.marks.now c.loop-index.index c.loop-index-test.true in
    elim c.if-mark-shape.branch [
      | then-mark-shape w ↦ (
          let its : position_of_mark c.args.shape.now m ≡ Some m.position =
          elim w.then-mark-shape.branch as (λ _. position_of_mark c.args.shape.now m ≡ Some m.position) [
            | then-mark-shape-via-then-mark-shape v ↦ bears s m (inl v.if-mark-shape.true)
            | then-mark-shape-via-else-mark-shape+then-mark v ↦ bears s m (inr v.if-mark.true)
          ] in record {
            placer = w.placer-is ∙ w.wait.ensures ∙ ap (λ (p : Placing). waits p m.position true) c.loop-index.invariant.placer
                ∙ waits_more s marks k m at c.args.placer.now its;
          }
          )
      | else-mark-shape+else-mark w ↦ record {
        placer = w.placer-is ∙ c.loop-index.invariant.placer
            ∙ waits_same s marks k m at c.args.placer.now (bears_none s m w.if-mark-shape.false w.if-mark.false);
      }
    ]

use Rattle.std.proofs.Common.{◌≡◌, ◌<◌, ◌-◌, ◌^◌, inl, inr, Some, length, refl, ap, sym, subst, ◌∙◌, rules, arith, drop}
use Rattle.std.specs.Prelude.{slice_get, slice_set}
use Rattle.pblk_layout.specs.Online.{is_in, units_in}
use Rattle.pblk_core.specs.declared.resets.LineChunk.{LineChunk}
use Rattle.pblk_core.specs.Resets.{ResetQueue, resets_left, used_in}
use Rattle.pblk_core.proofs.UsedBits.{no_unit, some_unit}
use Rattle.pblk_core.proofs.ResetLists.{WaitsWith, advanced, here_advanced, keeps_advanced, line_inside, unit_is, units_read, waits_here}
use Rattle.pblk_core.proofs.resets.Resets.advance.Goals as goal

pub index-requires : goal.index-requires
index-requires c =
    let r : ResetQueue = record { waiting = c.self.inside.waiting; used = c.self.inside.used.items } in
    let chunk : LineChunk = c.in-Some.chunk in
    let is_first : slice_get (resets_left r) 0 ≡ Some chunk =
    ap (λ (q : ResetQueue). slice_get (resets_left q) 0) c.self.view_is ∙ sym c.first.ensures ∙ c.in-Some.is in
    let inside : chunk.line < length r.used = line_inside r chunk is_first in
    search rules

pub remove-requires-clause-unit : goal.remove-requires-clause-unit
remove-requires-clause-unit c =
    let r : ResetQueue = record { waiting = c.self.inside.waiting; used = c.self.inside.used.items } in
    let chunk : LineChunk = c.in-Some.chunk in
    let is_first : slice_get (resets_left r) 0 ≡ Some chunk =
    ap (λ (q : ResetQueue). slice_get (resets_left q) 0) c.self.view_is ∙ sym c.first.ensures ∙ c.in-Some.is in
    (unit_is r chunk is_first).inside

pub remove-requires-clause-among : goal.remove-requires-clause-among
remove-requires-clause-among c =
    let r : ResetQueue = record { waiting = c.self.inside.waiting; used = c.self.inside.used.items } in
    let chunk : LineChunk = c.in-Some.chunk in
    let is_first : slice_get (resets_left r) 0 ≡ Some chunk =
    ap (λ (q : ResetQueue). slice_get (resets_left q) 0) c.self.view_is ∙ sym c.first.ensures ∙ c.in-Some.is in
    let was : used_in r chunk.line ≡ c.index.result.now = units_read r chunk.line c.index.result.now (line_inside r chunk is_first) c.index.ensures in
    ap (λ n. is_in n chunk.unit) (sym was) ∙ (unit_is r chunk is_first).among

pub index_mut-requires : goal.index_mut-requires
index_mut-requires c =
    let r : ResetQueue = record { waiting = c.self.inside.waiting; used = c.self.inside.used.items } in
    let chunk : LineChunk = c.in-Some.chunk in
    let is_first : slice_get (resets_left r) 0 ≡ Some chunk =
    ap (λ (q : ResetQueue). slice_get (resets_left q) 0) c.self.view_is ∙ sym c.first.ensures ∙ c.in-Some.is in
    let inside : chunk.line < length r.used = line_inside r chunk is_first in
    search rules

pub set-requires : goal.set-requires
set-requires c =
    let r : ResetQueue = record { waiting = c.self.inside.waiting; used = c.self.inside.used.items } in
    let chunk : LineChunk = c.in-Some.chunk in
    let is_first : slice_get (resets_left r) 0 ≡ Some chunk =
    ap (λ (q : ResetQueue). slice_get (resets_left q) 0) c.self.view_is ∙ sym c.first.ensures ∙ c.in-Some.is in
    omega (arith, line_inside r chunk is_first, c.self.invariant.few)

pub invariant_of-self-else-bits-eq0 : goal.invariant_of-self-else-bits-eq0
invariant_of-self-else-bits-eq0 c =
    let r : ResetQueue = record { waiting = c.self.inside.waiting; used = c.self.inside.used.items } in
    let chunk : LineChunk = c.in-Some.chunk in
    let is_first : slice_get (resets_left r) 0 ≡ Some chunk =
    ap (λ (q : ResetQueue). slice_get (resets_left q) 0) c.self.view_is ∙ sym c.first.ensures ∙ c.in-Some.is in
    let was : used_in r chunk.line ≡ c.index.result.now = units_read r chunk.line c.index.result.now (line_inside r chunk is_first) c.index.ensures in
    let less : c.remove.new.self ≡ used_in r chunk.line - 2 ^ chunk.unit =
    c.remove.ensures ∙ ap (λ n. n - 2 ^ chunk.unit) (sym was) in
    let some : 0 < c.bits.result = omega (arith, c.if-bits-eq0.false) in
    let still : WaitsWith r.waiting chunk.line c.remove.new.self =
    inl (waits_here r chunk is_first, λ none. some_unit c.bits.result some c.bits.type_inv (ap units_in c.bits.ensures ∙ none)) in
    keeps_advanced r chunk is_first r.waiting c.remove.new.self less (λ n apart. refl) still c.self.invariant

pub returns-then-bits-eq0-clause-left : goal.returns-then-bits-eq0-clause-left
returns-then-bits-eq0-clause-left c =
    let r : ResetQueue = record { waiting = c.self.inside.waiting; used = c.self.inside.used.items } in
    let chunk : LineChunk = c.in-Some.chunk in
    let is_first : slice_get (resets_left r) 0 ≡ Some chunk =
    ap (λ (q : ResetQueue). slice_get (resets_left q) 0) c.self.view_is ∙ sym c.first.ensures ∙ c.in-Some.is in
    let was : used_in r chunk.line ≡ c.index.result.now = units_read r chunk.line c.index.result.now (line_inside r chunk is_first) c.index.ensures in
    let less : c.remove.new.self ≡ used_in r chunk.line - 2 ^ chunk.unit =
    c.remove.ensures ∙ ap (λ n. n - 2 ^ chunk.unit) (sym was) in
    let still : WaitsWith c.set.new.self chunk.line c.remove.new.self =
    inr (c.set.ensures.set, ap units_in (sym c.bits.ensures ∙ c.if-bits-eq0.true) ∙ no_unit) in
    advanced r chunk is_first c.set.new.self c.remove.new.self less c.set.ensures.others still
    ∙ ap (λ (q : ResetQueue). drop 1 (resets_left q)) c.self.view_is

pub returns-else-bits-eq0-clause-left : goal.returns-else-bits-eq0-clause-left
returns-else-bits-eq0-clause-left c =
    let r : ResetQueue = record { waiting = c.self.inside.waiting; used = c.self.inside.used.items } in
    let chunk : LineChunk = c.in-Some.chunk in
    let is_first : slice_get (resets_left r) 0 ≡ Some chunk =
    ap (λ (q : ResetQueue). slice_get (resets_left q) 0) c.self.view_is ∙ sym c.first.ensures ∙ c.in-Some.is in
    let was : used_in r chunk.line ≡ c.index.result.now = units_read r chunk.line c.index.result.now (line_inside r chunk is_first) c.index.ensures in
    let less : c.remove.new.self ≡ used_in r chunk.line - 2 ^ chunk.unit =
    c.remove.ensures ∙ ap (λ n. n - 2 ^ chunk.unit) (sym was) in
    let some : 0 < c.bits.result = omega (arith, c.if-bits-eq0.false) in
    let still : WaitsWith r.waiting chunk.line c.remove.new.self =
    inl (waits_here r chunk is_first, λ none. some_unit c.bits.result some c.bits.type_inv (ap units_in c.bits.ensures ∙ none)) in
    advanced r chunk is_first r.waiting c.remove.new.self less (λ n apart. refl) still
    ∙ ap (λ (q : ResetQueue). drop 1 (resets_left q)) c.self.view_is

pub returns-then-bits-eq0-clause-here : goal.returns-then-bits-eq0-clause-here
returns-then-bits-eq0-clause-here c =
    let r : ResetQueue = record { waiting = c.self.inside.waiting; used = c.self.inside.used.items } in
    let chunk : LineChunk = c.in-Some.chunk in
    let is_first : slice_get (resets_left r) 0 ≡ Some chunk =
    ap (λ (q : ResetQueue). slice_get (resets_left q) 0) c.self.view_is ∙ sym c.first.ensures ∙ c.in-Some.is in
    let was : used_in r chunk.line ≡ c.index.result.now = units_read r chunk.line c.index.result.now (line_inside r chunk is_first) c.index.ensures in
    let less : c.remove.new.self ≡ used_in r chunk.line - 2 ^ chunk.unit =
    c.remove.ensures ∙ ap (λ n. n - 2 ^ chunk.unit) (sym was) in
    let still : WaitsWith c.set.new.self chunk.line c.remove.new.self =
    inr (c.set.ensures.set, ap units_in (sym c.bits.ensures ∙ c.if-bits-eq0.true) ∙ no_unit) in
    let new : ResetQueue = record { waiting = c.set.new.self; used = slice_set r.used chunk.line c.remove.new.self } in
    subst (λ (q : ResetQueue). (its : LineChunk) → slice_get (resets_left q) 0 ≡ Some its
    → units_in (used_in new its.line) ≡ drop 1 (units_in (used_in q its.line))) c.self.view_is
    (here_advanced r chunk is_first c.set.new.self c.remove.new.self less c.set.ensures.others still)

pub returns-else-bits-eq0-clause-here : goal.returns-else-bits-eq0-clause-here
returns-else-bits-eq0-clause-here c =
    let r : ResetQueue = record { waiting = c.self.inside.waiting; used = c.self.inside.used.items } in
    let chunk : LineChunk = c.in-Some.chunk in
    let is_first : slice_get (resets_left r) 0 ≡ Some chunk =
    ap (λ (q : ResetQueue). slice_get (resets_left q) 0) c.self.view_is ∙ sym c.first.ensures ∙ c.in-Some.is in
    let was : used_in r chunk.line ≡ c.index.result.now = units_read r chunk.line c.index.result.now (line_inside r chunk is_first) c.index.ensures in
    let less : c.remove.new.self ≡ used_in r chunk.line - 2 ^ chunk.unit =
    c.remove.ensures ∙ ap (λ n. n - 2 ^ chunk.unit) (sym was) in
    let some : 0 < c.bits.result = omega (arith, c.if-bits-eq0.false) in
    let still : WaitsWith r.waiting chunk.line c.remove.new.self =
    inl (waits_here r chunk is_first, λ none. some_unit c.bits.result some c.bits.type_inv (ap units_in c.bits.ensures ∙ none)) in
    let new : ResetQueue = record { waiting = r.waiting; used = slice_set r.used chunk.line c.remove.new.self } in
    subst (λ (q : ResetQueue). (its : LineChunk) → slice_get (resets_left q) 0 ≡ Some its
    → units_in (used_in new its.line) ≡ drop 1 (units_in (used_in q its.line))) c.self.view_is
    (here_advanced r chunk is_first r.waiting c.remove.new.self less (λ n apart. refl) still)

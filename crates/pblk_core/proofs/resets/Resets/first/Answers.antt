use Rattle.std.proofs.Common.{◌≡◌, ◌<◌, length, ap, sym, ◌∙◌, rules, drop}
use Rattle.std.specs.Int.{trailing_zeros, w64}
use Rattle.std.specs.Prelude.{slice_get}
use Rattle.pblk_layout.specs.Online.{units_in}
use Rattle.pblk_core.specs.Resets.{ResetQueue, resets_left, used_in}
use Rattle.pblk_core.proofs.UsedBits.{least_unit, some_bit}
use Rattle.pblk_core.proofs.ResetLists.{first_left, none_left, units_read, within}
use Rattle.pblk_core.proofs.resets.Resets.first.Goals as goal

pub index-requires : goal.index-requires
index-requires c =
    let r : ResetQueue = record { waiting = c.self.inside.waiting; used = c.self.inside.used.items } in
    let inside : c.in-Some.line < length r.used = within r c.in-Some.line (c.self.invariant.some c.in-Some.line c.in-Some.ensures.found) in
    search rules

pub returns-in-Some : goal.returns-in-Some
returns-in-Some c =
    let r : ResetQueue = record { waiting = c.self.inside.waiting; used = c.self.inside.used.items } in
    let inside : c.in-Some.line < length r.used = within r c.in-Some.line (c.self.invariant.some c.in-Some.line c.in-Some.ensures.found) in
    let bits : used_in r c.in-Some.line ≡ c.bits-unit.result =
    units_read r c.in-Some.line c.index.result.now inside c.index.ensures ∙ sym c.bits-unit.ensures in
    let some = some_bit c.bits-unit.result (λ none. c.self.invariant.some c.in-Some.line c.in-Some.ensures.found (ap units_in bits ∙ none)) in
    first_left r c.in-Some.line (trailing_zeros w64 c.bits-unit.result) (drop 1 (units_in c.bits-unit.result)) c.in-Some.ensures.found
    c.in-Some.ensures.least (ap units_in bits ∙ least_unit c.bits-unit.result some c.bits-unit.type_inv)
    ∙ ap (λ (q : ResetQueue). slice_get (resets_left q) 0) c.self.view_is

pub returns-in-None : goal.returns-in-None
returns-in-None c =
    let r : ResetQueue = record { waiting = c.self.inside.waiting; used = c.self.inside.used.items } in
    none_left r c.in-None.ensures.none ∙ ap (λ (q : ResetQueue). slice_get (resets_left q) 0) c.self.view_is

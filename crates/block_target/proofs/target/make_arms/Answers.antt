use Rattle.std.proofs.Common.{◌≡◌, ◌+◌, ◌∷◌, [], ℕ, suc, List, Some, length, map, reverse, append-nil, sym, subst, ap, ◌∙◌, arith, le_trans}
use Rattle.std.specs.Prelude.{slice_get}
use Rattle.unit_port.specs.Unit.{ModelUnit}
use Rattle.chronicle.specs.Handles.{AuthorView, first_author}
use Rattle.chronicle.specs.Prefixes.{logs_of}
use Rattle.pblk_engine.specs.Arms.{IsArm, arm_view}
use Rattle.block_target.proofs.FirstArms.{at_middle, more_arms, moved, next_author, one_longer, some_author}
use Rattle.block_target.proofs.target.make_arms.Goals as goal

pub loop-unit-init : goal.loop-unit-init
loop-unit-init g c =
    let none = ap length c.requires.empty in
    let ok = c.args.units.now.ok in (
      ([], sym (append-nil c.args.units.now.items), ap reverse c.requires.empty),
      c.requires.authors,
      omega (arith, none),
      c.requires.room,
      omega (arith, ok.0, ok.1),
    )

pub take_last-author-requires : goal.take_last-author-requires
take_last-author-requires g c = record {
  some = some_author (first_author g.M.Mount.chronicle g.M.Mount.past) c.loop-unit.authors.items (length c.loop-unit.units.items) c.loop-unit.invariant.1;
}

pub new-requires-clause-author : goal.new-requires-clause-author
new-requires-clause-author g c =
    let f : ℕ → AuthorView = first_author g.M.Mount.chronicle g.M.Mount.past in
    let rest = c.pop.new.self.items in
    let long = one_longer rest c.loop-unit.units.items c.in-Some.unit c.in-Some.ensures.items in
    let number : length rest + 1 ≡ suc c.len-number.result = omega (arith, c.len-number.ensures, c.pop.new.self.ok.0) in
    (next_author f c.loop-unit.authors.items c.take_last-author.new.values.items c.take_last-author.result (length rest + 1)
    (length c.loop-unit.units.items) long c.take_last-author.ensures.items c.loop-unit.invariant.1).1 ∙ ap f number

pub new-requires-clause-unit : goal.new-requires-clause-unit
new-requires-clause-unit g c =
    let at = c.loop-unit.invariant in
    let rest = c.pop.new.self.items in
    let unit = c.in-Some.unit in
    let model = g.U.Unit.model in
    let number : length rest ≡ c.len-number.result = omega (arith, c.len-number.ensures, c.pop.new.self.ok.0) in
    let whole = moved c.args.units.now.items c.loop-unit.units.items rest at.0.0 unit at.0.1 c.in-Some.ensures.items in
    let there : slice_get (map model c.args.units.now.items) (length rest) ≡ Some (model unit) =
    ap (λ xs. slice_get (map model xs) (length rest)) whole ∙ at_middle model rest at.0.0 unit in
    subst (λ (k : ℕ). (was : ModelUnit) × (slice_get g.M.Mount.handed k ≡ Some was)
    × IsArm g.M.Mount.past.image (logs_of g.M.Mount.past.logs) k was (model unit)) number (c.requires.units.each (length rest) (model unit) there)

pub new-requires-clause-wear : goal.new-requires-clause-wear
new-requires-clause-wear g c =
    let at = c.loop-unit.invariant in
    let rest = c.pop.new.self.items in
    let unit = c.in-Some.unit in
    let wear = g.U.Unit.wear in
    let number : length rest ≡ c.len-number.result = omega (arith, c.len-number.ensures, c.pop.new.self.ok.0) in
    let whole = moved c.args.units.now.items c.loop-unit.units.items rest at.0.0 unit at.0.1 c.in-Some.ensures.items in
    let there : slice_get (map wear c.args.units.now.items) (length rest) ≡ Some (wear unit) =
    ap (λ xs. slice_get (map wear xs) (length rest)) whole ∙ at_middle wear rest at.0.0 unit in
    subst (λ (k : ℕ). slice_get g.M.Mount.wear k ≡ Some (wear unit)) number
    (subst (λ (ws : List (List ℕ)). slice_get ws (length rest) ≡ Some (wear unit)) c.requires.units.wear_is there)

pub loop-unit-preserved : goal.loop-unit-preserved
loop-unit-preserved g c =
    let at = c.loop-unit.invariant in
    let f : ℕ → AuthorView = first_author g.M.Mount.chronicle g.M.Mount.past in
    let rest = c.pop.new.self.items in
    let unit = c.in-Some.unit in
    let model = g.U.Unit.model in
    let past = g.M.Mount.past in
    let arms = c.loop-unit.arms.items in
    let arm = c.new.result in
    let number : c.len-number.result ≡ length rest = omega (arith, c.len-number.ensures, c.pop.new.self.ok.0) in
    let long = one_longer rest c.loop-unit.units.items unit c.in-Some.ensures.items in (
      (
        unit ∷ at.0.0,
        moved c.args.units.now.items c.loop-unit.units.items rest at.0.0 unit at.0.1 c.in-Some.ensures.items,
        more_arms past (length rest) (length c.loop-unit.units.items) arms c.put.new.values.items (map model at.0.0) arm (model unit)
            (sym long) at.0.2 (c.new.ensures ∙ ap (λ k. arm_view k past.logs (model unit)) number) c.put.ensures.items,
      ),
      (next_author f c.loop-unit.authors.items c.take_last-author.new.values.items c.take_last-author.result (length rest + 1)
          (length c.loop-unit.units.items) long c.take_last-author.ensures.items at.1).0,
      omega (arith, one_longer arms c.put.new.values.items arm c.put.ensures.items, at.2, long),
      le_trans at.3 c.put.ensures.capacity,
      omega (arith, at.4, c.pop.ensures.capacity),
    )

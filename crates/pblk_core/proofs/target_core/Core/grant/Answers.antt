use Rattle.std.proofs.Common.{◌≡◌, ◌+◌, ◌-◌, ◌*◌, ◌/◌, ◌^◌, ◌<◌, ◌≤◌, min, sym, subst, ap, ap₂, ◌∙◌, arith}
use Rattle.pblk_model.specs.declared.shape.Shape.{Shape}
use Rattle.pblk_model.specs.Shape.{units}
use Rattle.pblk_model.specs.LineOrder.{data_len}
use Rattle.line_table.specs.Rows.{free_addresses}
use Rattle.pblk_core.proofs.FreedWindow.{front_is_freed}
use Rattle.pblk_core.proofs.SmallGrant.{IsSmall, small, granted_is, space_fits}
use Rattle.pblk_core.proofs.target_core.Core.grant.Goals as goal

pub overflow_add-ring : goal.overflow_add-ring
overflow_add-ring c =
    let is : IsSmall c.args.self.now =
    small c.requires.standing.image c.requires.standing.world c.args.self.now c.requires.standing.legal c.requires.standing.stands in
    let a : c.args.self.now.window.freed ≤ 2 ^ 62 = is.freed in
    let r : c.args.self.now.layout.ring ≤ 16384 = is.ring in
    let f : c.freed.result ≡ c.args.self.now.window.freed = c.freed.ensures.freed in
    let e : c.from.result ≡ c.args.self.now.layout.ring = c.from.ensures ∙ ap (λ (s : Shape). s.ring) c.shape-shape.ensures.shape in
    omega arith

pub overflow_sub-ring : goal.overflow_sub-ring
overflow_sub-ring c =
    let is : IsSmall c.args.self.now =
    small c.requires.standing.image c.requires.standing.world c.args.self.now c.requires.standing.legal c.requires.standing.stands in
    let k : units c.args.self.now.layout * c.args.self.now.layout.ws_opt ≤ c.args.self.now.layout.ring = is.kept in
    let e : c.from.result ≡ c.args.self.now.layout.ring = c.from.ensures ∙ ap (λ (s : Shape). s.ring) c.shape-shape.ensures.shape in
    let u : c.from-2.result ≡ units c.args.self.now.layout * c.args.self.now.layout.ws_opt =
    c.from-2.ensures ∙ ap₂ (λ n (s : Shape). n * s.ws_opt) (c.units-units.ensures ∙ ap units c.shape-shape.ensures.shape) c.shape-shape.ensures.shape in
    omega arith

pub overflow_add-addresses : goal.overflow_add-addresses
overflow_add-addresses c =
    let is : IsSmall c.args.self.now =
    small c.requires.standing.image c.requires.standing.world c.args.self.now c.requires.standing.legal c.requires.standing.stands in
    let a : c.args.self.now.left ≤ 2 ^ 26 = is.left in
    let b : c.free_addresses.result ≤ 2 ^ 26 = subst (λ n. n ≤ 2 ^ 26) (sym c.free_addresses.ensures) is.free in
    omega arith

pub overflow_add-space : goal.overflow_add-space
overflow_add-space c =
    let is : IsSmall c.args.self.now =
    small c.requires.standing.image c.requires.standing.world c.args.self.now c.requires.standing.legal c.requires.standing.stands in
    let a : c.args.self.now.first + c.args.self.now.placed ≤ 2 ^ 62 = is.placed in
    omega arith

pub overflow_add-space-2 : goal.overflow_add-space-2
overflow_add-space-2 c =
    let is : IsSmall c.args.self.now =
    small c.requires.standing.image c.requires.standing.world c.args.self.now c.requires.standing.legal c.requires.standing.stands in
    let e : c.saturating_sub.result ≡ c.args.self.now.left + c.free_addresses.result - 2 * c.from-kept.result = c.saturating_sub.ensures in
    let f : c.free_addresses.result ≡ free_addresses c.args.self.now.lines = c.free_addresses.ensures in
    let fits : c.args.self.now.first + c.args.self.now.placed + c.saturating_sub.result / c.from-3.result < 2 ^ 64 =
    space_fits c.args.self.now c.saturating_sub.result c.from-3.result is (omega arith) in
    omega arith

pub returns : goal.returns
returns c = λ i w mount st.
    let shape : c.shape-shape.result.now ≡ c.args.self.now.layout = c.shape-shape.ensures.shape in
    let wide : c.units-units.result ≡ units c.args.self.now.layout = c.units-units.ensures ∙ ap units shape in
    c.min-2.ensures
    ∙ ap₂ min
    (c.min.ensures ∙ ap₂ min
    (ap₂ (λ a b. a - b) (ap₂ (λ a b. a + b) c.freed.ensures.freed (c.from.ensures ∙ ap (λ (s : Shape). s.ring) shape))
    (c.from-2.ensures ∙ ap₂ (λ n (s : Shape). n * s.ws_opt) wide shape))
    (ap₂ (λ n m. c.args.self.now.first + c.args.self.now.placed + n / m)
    (c.saturating_sub.ensures ∙ ap₂ (λ a k. c.args.self.now.left + a - 2 * k) c.free_addresses.ensures
    (c.from-kept.ensures ∙ c.data_len.ensures.len ∙ ap (data_len c.args.self.now.layout) wide))
    (c.from-3.ensures ∙ ap (λ (s : Shape). s.ws_opt) shape)))
    c.max.ensures
    ∙ granted_is i w c.args.self.now st (front_is_freed i w c.args.self.now mount st c.requires.drained)

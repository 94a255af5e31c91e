-- Shapes with the same numbers.
use Rattle.std.proofs.Common.{◌≡◌, ℕ, ◌&&◌, true, eqb, ap₂, ◌∙◌}
use Rattle.std.proofs.lemmas.Bool.{and_parts, eqb-true}
use Rattle.pblk_model.specs.declared.shape.Shape.{Shape}

abbrev made : ℕ → ℕ → ℕ → ℕ → ℕ → ℕ → ℕ → ℕ → ℕ → ℕ → Shape
made g p c b m o w s u r = record { groups = g; pus = p; chunks = c; clba = b; ws_min = m; ws_opt = o; mw_cunits = w; sector = s; capacity = u; ring = r }

pub same_shape : (a b : Shape) → eqb a.groups b.groups
    && (eqb a.pus b.pus
    && (eqb a.chunks b.chunks
    && (eqb a.clba b.clba
    && (eqb a.ws_min b.ws_min
    && (eqb a.ws_opt b.ws_opt && (eqb a.mw_cunits b.mw_cunits && (eqb a.sector b.sector && (eqb a.capacity b.capacity && eqb a.ring b.ring)))))))) ≡ true
    → a ≡ b
same_shape a b e =
    let h0 = and_parts _ _ e in
    let h1 = and_parts _ _ h0.1 in
    let h2 = and_parts _ _ h1.1 in
    let h3 = and_parts _ _ h2.1 in
    let h4 = and_parts _ _ h3.1 in
    let h5 = and_parts _ _ h4.1 in
    let h6 = and_parts _ _ h5.1 in
    let h7 = and_parts _ _ h6.1 in
    let h8 = and_parts _ _ h7.1 in
    let groups = eqb-true a.groups b.groups h0.0 in
    let pus = eqb-true a.pus b.pus h1.0 in
    let chunks = eqb-true a.chunks b.chunks h2.0 in
    let clba = eqb-true a.clba b.clba h3.0 in
    let ws_min = eqb-true a.ws_min b.ws_min h4.0 in
    let ws_opt = eqb-true a.ws_opt b.ws_opt h5.0 in
    let mw_cunits = eqb-true a.mw_cunits b.mw_cunits h6.0 in
    let sector = eqb-true a.sector b.sector h7.0 in
    let capacity = eqb-true a.capacity b.capacity h8.0 in
    let ring = eqb-true a.ring b.ring h8.1 in
    ap₂ (λ g p. made g p a.chunks a.clba a.ws_min a.ws_opt a.mw_cunits a.sector a.capacity a.ring) groups pus
    ∙ ap₂ (λ c l. made b.groups b.pus c l a.ws_min a.ws_opt a.mw_cunits a.sector a.capacity a.ring) chunks clba
    ∙ ap₂ (λ m o. made b.groups b.pus b.chunks b.clba m o a.mw_cunits a.sector a.capacity a.ring) ws_min ws_opt
    ∙ ap₂ (λ w s. made b.groups b.pus b.chunks b.clba b.ws_min b.ws_opt w s a.capacity a.ring) mw_cunits sector
    ∙ ap₂ (λ u r. made b.groups b.pus b.chunks b.clba b.ws_min b.ws_opt b.mw_cunits b.sector u r) capacity ring

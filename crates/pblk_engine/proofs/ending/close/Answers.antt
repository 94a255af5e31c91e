use Rattle.std.proofs.Common.{◌≡◌, ◌<◌, ◌≤◌, ℕ, suc, subst, sym, ap}
use Rattle.std.specs.List.{Contains}
use Rattle.pblk_model.specs.Shape.{units as units_of}
use Rattle.pblk_world.specs.Fronts.{taken}
use Rattle.write_ring.specs.declared.view.Key.{Key}
use Rattle.write_ring.specs.declared.view.View.{View}
use Rattle.write_ring.specs.Handles.{AreAllClaims, IsAsPut, IsTiled, pass_view}
use Rattle.chronicle.specs.Prefixes.{AreWholeLogs, logs_of}
use Rattle.chronicle.specs.Views.{Past}
use Rattle.pblk_engine.proofs.Endings.{has_ended_of}
use Rattle.pblk_engine.proofs.Joinings.{owns_all}
use Rattle.pblk_engine.proofs.ending.close.Goals as goal

pub close-requires-clause-all : goal.close-requires-clause-all
close-requires-clause-all g c number low =
    let joined = c.join_arms.ensures in
    let count : units_of c.join_arms.new.author.past.image.shape ≡ units_of g.M.Mount.past.image.shape =
    ap (λ (p : Past). units_of p.image.shape) joined.over in
    owns_all c.join_arms.new.author.owned (units_of g.M.Mount.past.image.shape) joined.owns_engine
    (subst (λ n. (k : ℕ) → k < n → Contains c.join_arms.new.author.owned (suc k)) c.requires.count joined.owns) number (subst (λ n. number ≤ n) count low)

pub returns : goal.returns
returns g c =
    let e = c.end-core.ensures in
    let ring = c.close-2.ensures in
    let first = ap (λ (k : Key). k.first) c.requires.ring.1 in
    let pass = (pass_view c.args.pass).pass in
    let intake = c.end-core.result.2.seat.me.0 in
    has_ended_of g.M.Mount.chronicle g.M.Mount.ring c.end-core.result.2.seat.table_id g.M.Mount.past g.M.Mount.key g.M.Mount.handed g.M.Mount.wear
    c.args.workers.items c.args.names.spare c.args.arms.items pass _ _ c.requires.mounted c.end-core.result.0 c.end-core.result.1 c.take_over.new.author
    c.join_arms.new.author intake e.heart c.take_over.ensures.taken_over c.join_arms.ensures c.requires.count
    (subst (λ (p : Past). AreWholeLogs p c.join_arms.new.author.known c.join_arms.new.author.makers c.join_arms.new.author.spare)
    c.join_arms.ensures.over c.close.ensures.whole) c.args.heart e.same_author
    (subst (λ (v : View). AreAllClaims g.M.Mount.key.first (taken (logs_of c.args.heart.author.known 0)) pass v.pass) (sym e.same_intake) c.requires.all)
    c.take_over.ensures.spare (subst (λ n. IsAsPut n intake.intake.took pass intake.pass) first ring.taken)
    (subst (λ n. IsTiled n pass intake.pass) first ring.tiled) ring.filled ring.copies_filled

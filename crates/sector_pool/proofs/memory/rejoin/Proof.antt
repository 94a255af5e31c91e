-- The ranges become the bytes that the emptied `Vec` waits for. Assumes `Logic`.
use Rattle.std.proofs.Common.{◌≡◌, ℕ, ◌+◌, ◌*◌, List, [], ◌∷◌, ◌++◌, length, replicate, true, refl, sym, ap, ◌∙◌, subst}
use mir.Syntax.{Fn}
use mir.Val.{Val, vptr}
use base.Fraction.{full_share}
use base.Logic.{SProp, emp, all_e, apply∗}
use base.Fml.{fwand}
use prog.Wp.{WpFn}
use types.Logic.{sem}
use contract.Monad.{fact, fact_i}
use contract.Running.{tables}
use types.Kit.{‵, raw, ◌⊛◌, prop, ◌$◌, ◌∵◌, !, qed, by, move, drop, use0, use1, use2, split, regoal, rewrite, fsplit, fjoin, fpick, feq_l, feq_i}
use types.Part.{whole, sub}
use types.Run.{stop, fld, of_opd, returns, enter}
use types.ByLocal.{alloc_all, pass_all, free_all, look_at, get, get_in, sets}
use denote.Laws.{Typed}
use denote.RattleType.{owns}
use denote.RawPtr.{block_ptr, ptr_val}
use denote.RawPtr.Bytes.{bytes_whole}
use denote.Signature.{types_at}
use denote.Steps.{nothing, heard}
use denote.Triple.Entry.{alive}
use denote.Triple.Walked.{Stays, stay_dropped, walk_of}
use Rattle.std.specs.Vec.{with_items}
use Rattle.std.proofs.alloc.Calls.{Goes-blank}
use Rattle.std.proofs.raw_atomic.Walks.{proved_at, leaves}
use Rattle.bytes.proofs.Walks.{one, one_had}
use Rattle.sector_pool.specs.Places.{IsExtent}
use Rattle.sector_pool.specs.Owned.{holds_bytes, some_bytes, ranges_here}
use Rattle.sector_pool.proofs.Cutting.{all_united}
use Rattle.sector_pool.proofs.Emptying.{Bytes, bytes-laws, Awaited, Refilled}
use Rattle.sector_pool.proofs.Params.{param_at, pointer_had}
use Rattle.sector_pool.specs.contracts.memory.Emptied as Emptied
use Rattle.sector_pool.specs.contracts.memory.rejoin.{ended, clauses}
use Rattle.sector_pool.specs.contracts.memory.rejoin.Key.{name as #self}
use Rattle.sector_pool.proofs.memory.rejoin.Statement.{statement}
use Rattle.sector_pool.proofs.memory.rejoin.Code as compiled

pub rejoin_spec : {M : Type 1} → statement M
rejoin_spec 𝓤 𝓛 𝓜 𝓡 wired =
    let H = 𝓛.H in
    let c = clauses 𝓛 𝓜.mem 𝓡.returns in
    let ps = ended.signature.params in
    let fn : Fn = compiled.function in
    let C = (tables 𝓤 H 𝓜 𝓡 𝓡.env).C in
    let Λ = (tables 𝓤 H 𝓜 𝓡 𝓡.env).Λ in
    let k₀ = ended.kept.0 in
    let k₁ = ended.kept.1.0 in
    let stays : Stays ps ended.kept = (stay_dropped (param_at 0 ps) k₀, (stay_dropped (param_at 1 ps) k₁, tt)) in
    proved_at 𝓛 ended stays c 𝓜 𝓡 (Goes-blank 𝓛 0 (param_at 0 ps) k₀ (λ κs x f. tt), (Goes-blank 𝓛 0 (param_at 1 ps) k₁ (λ κs x f. tt), tt)) #self fn
    (compiled.unfolded 𝓤 H 𝓜 𝓡 wired) (λ z are.
    let Post : Val → SProp 𝓤 = (walk_of 𝓛 ended stays c).post z in
    let args = z.0.3 in
    let vss = z.0.4 in
    let m = args.0 in
    let e = args.1.0 in
    let r = m.region in
    let Asked = (m.here ≡ replicate r.count true) × IsExtent r m.rest e in
    qed 𝓛 ((raw (alive 𝓛 ended.signature z.0.0 z.0.1) ⊛ ‵ (owns (types_at ps z.0.0) args vss)) ∷ raw (fact 𝓤 Asked) ∷ []) ∵
    move ! (1 ∷ []) $ heard ! Asked (λ asked. split ! $ move ! (1 ∷ []) $
    fsplit ! $ fsplit ! $ pointer_had ! m.base vss.0 (λ is₀.
    -- the ranges, which are all here, become one run of bytes
    rewrite ! 0 (λ here. ‵ (ranges_here r.block r.stride m.rest r.start here)) asked.0 refl $
    use1 𝓛 (‵ (some_bytes (r.count * r.stride + m.rest) r.block r.start)) (all_united 𝓛 r.block r.stride m.rest r.count r.start) $
    fpick ! (λ xs. fsplit ! $ feq_l ! (λ long. feq_i ! ℕ (length xs) (length xs) refl $ fjoin ! $
    use1 𝓛 (‵ (holds_bytes (block_ptr r.block r.start) xs)) (bytes_whole 𝓛 full_share (length xs) xs r.block r.start) $
    rewrite ! 0 (λ p. ‵ (holds_bytes p xs)) (sym asked.1.0) refl $ feq_i ! ℕ (length xs) e.len (long ∙ sym asked.1.1) $ fjoin ! $ move ! (1 ∷ []) $
    -- and the emptied `Vec` takes it
    fsplit ! $ fsplit ! $ fpick ! (λ typed. drop ! $ fpick ! (λ v. fsplit ! $ feq_l ! (λ len.
    let ws = vss.1.0 in
    use1 𝓛 (‵ (fwand (Awaited e.ptr e.len xs) (Refilled v.vec ws xs)))
    (all_e 𝓤 (λ ys. sem 𝓛 (fwand (Awaited e.ptr e.len ys) (Refilled v.vec ws ys))) xs) $ move ! (2 ∷ 0 ∷ []) $
    use2 𝓛 (‵ (Refilled v.vec ws xs)) (apply∗ 𝓤 (sem 𝓛 (Awaited e.ptr e.len xs)) (sem 𝓛 (Refilled v.vec ws xs))) $ one_had ! Bytes bytes-laws
    (with_items v.vec xs) ws (λ u is₁ good.
    move ! (1 ∷ []) $ drop ! $
    -- the body
    regoal ! (λ (us : List Val). prop (WpFn 𝓤 H C Λ fn us Post)) (λ i. (is₀ ∙ ap (λ p. one (ptr_val p) ∷ []) m.placed) i ++ (is₁ i ++ [])) refl $
    enter ! C Λ fn (one (vptr r.block r.start) ∷ one u ∷ []) Post $ alloc_all !
    (λ l. pass_all ! refl ((tt, (tt, tt)), ((subst (Typed Emptied.the_row.mir) is₁ typed).0, tt)) $
    sets ! (of_opd ! (get_in ! (fld ! refl (stop !)) (sub ! 0 refl (whole !)))) refl good $
    sets ! (of_opd ! (get ! refl)) refl good $
    returns ! (look_at ! 0 refl) $ free_all ! refl $
    let Said = v.vec.len ≡ e.len in
    use0 𝓛 (raw (fact 𝓤 Said)) (fact_i 𝓤 Said (emp 𝓤) len) $ nothing ! $ nothing ! $ fjoin ! $ nothing ! $ fjoin ! $ move ! (3 ∷ 0 ∷ 2 ∷ 1 ∷ []) $
    by ! (leaves 𝓛 ended stays c z u (with_items v.vec xs) (tt, (tt, tt)) (tt, (tt, tt)))))))))))))

use Rattle.std.proofs.Common.{ℕ, ◌≡◌, ◌∙◌, List, codes, ap}
use Rattle.serde_json.specs.Data.{Data, Members, no_members, number, unsigned, object, put}
use Rattle.serde_json.specs.View.{view, members_view}
use Rattle.serde_json.proofs.Views.{view-Object}
use Rattle.run_report.proofs.Objects.{in_order}
use Rattle.run_report.proofs.numbers.object.Goals as goal

-- a member more
more : (k : List ℕ) (d e : Data) (ms ns new : Members) → new ≡ put k d ms → d ≡ e → ms ≡ ns → new ≡ put k e ns
more k d e ms ns new h i j = h ∙ ap (λ x. put k x ms) i ∙ ap (put k e) j

abbrev as_number : ℕ → Data
as_number n = number (unsigned n)

pub returns-in-Ok-json-20 : goal.returns-in-Ok-json-20
returns-in-Ok-json-20 c =
    let none : members_view c.json-new.result.entries ≡ no_members = ap members_view c.json-new.ensures.empty in
    let capacity = more (codes "capacity") _ _ _ _ _ c.in-Ok-json-2.ensures.ok (c.in-Ok-json.ensures ∙ ap (λ d. as_number d.capacity) c.drive.view_is) none in
    let closed = more (codes "closed") _ _ _ _ _ c.in-Ok-json-4.ensures.ok (c.in-Ok-json-3.ensures ∙ ap as_number c.chunks_in.ensures) capacity in
    let counted = more (codes "counted") _ _ _ _ _ c.in-Ok-json-6.ensures.ok c.in-Ok-json-5.ensures closed in
    let end = more (codes "end") _ _ _ _ _ c.in-Ok-json-8.ensures.ok c.in-Ok-json-7.ensures counted in
    let free = more (codes "free") _ _ _ _ _ c.in-Ok-json-10.ensures.ok (c.in-Ok-json-9.ensures ∙ ap as_number c.chunks_in-2.ensures) end in
    let head = more (codes "head") _ _ _ _ _ c.in-Ok-json-12.ensures.ok (ap view c.in-Ok-json-11.ensures ∙ c.line_of.ensures) free in
    let live = more (codes "live") _ _ _ _ _ c.in-Ok-json-14.ensures.ok c.in-Ok-json-13.ensures head in
    let offline = more (codes "offline") _ _ _ _ _ c.in-Ok-json-16.ensures.ok (c.in-Ok-json-15.ensures ∙ ap as_number c.chunks_in-3.ensures) live in
    let open_ = more (codes "open") _ _ _ _ _ c.in-Ok-json-18.ensures.ok (c.in-Ok-json-17.ensures ∙ ap as_number c.chunks_in-4.ensures) offline in
    let seq = more (codes "seq") _ _ _ _ _ c.in-Ok-json-20.ensures.ok (c.in-Ok-json-19.ensures ∙ ap as_number c.seq_of.ensures) open_ in
    view-Object _ ∙ ap object (seq ∙ in_order _ _ _ _ _ _ _ _ _ _)

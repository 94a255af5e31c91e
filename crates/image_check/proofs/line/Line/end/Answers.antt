use Rattle.std.proofs.Common.{◌≡◌, ◌*◌, ◌-◌, sym, ap, ◌∙◌, arith}
use Rattle.std.specs.Option.{option_map}
use Rattle.std.proofs.lemmas.Result.{IfOk-weaker}
use Rattle.pblk_model.specs.LineOrder.{end_len}
use Rattle.pblk_model.specs.Image.{width}
use Rattle.pblk_model.specs.StartRecord.{have_meta, written_run}
use Rattle.pblk_meta.specs.Records.{end_numbers}
use Rattle.image_check.proofs.LineLemmas.{layout_is, number_is}
use Rattle.image_check.proofs.RunLemmas.{bytes_of, end_alike, end_read}
use Rattle.image_check.proofs.line.Line.end.Goals as goal

pub returns : goal.returns
returns c =
    let i = c.args.self.now.image in
    let n = c.args.self.now.number in
    let shape = layout_is c.self.inside c.args.self.now c.self.invariant c.self.view_is in
    let number = number_is c.self.inside c.args.self.now c.self.invariant c.self.view_is in
    let count : c.end_len-count.result ≡ end_len i.shape (width i n) =
    c.end_len-count.ensures.len ∙ ap (λ s. end_len s c.width-width.result) shape ∙ ap (end_len i.shape) c.width-width.ensures.width in
    let front : c.saturating_sub-front.result ≡ width i n * i.shape.clba - end_len i.shape (width i n) =
    omega (arith, c.saturating_sub-front.ensures, c.len.ensures.count, count) in
    λ start seq-is. IfOk-weaker c.read.result _ _ (λ o h.
    end_read i n c.args.seq start c.in-Some.blocks.items (option_map end_numbers o) seq-is
    (sym (ap (option_map (λ v. v.items)) c.in-Some.is) ∙ c.in_ok-blocks.ensures ∙ ap (λ a. written_run i n a c.end_len-count.result) front
    ∙ ap (written_run i n (width i n * i.shape.clba - end_len i.shape (width i n))) count)
    (ap (have_meta c.args.seq) (sym c.deref.ensures.value) ∙ sym c.have_meta.ensures ∙ c.if-not-have_meta.false)
    (h ∙ end_alike _ _ _ _ _ _ _ _ _ shape number c.width-width.ensures.width
    (c.deref-3.ensures.value ∙ c.in_ok-bytes.ensures ∙ ap bytes_of c.deref-2.ensures.value))) c.read.ensures.read

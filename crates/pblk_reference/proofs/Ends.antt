-- Reading an end record step by step.
use Rattle.std.proofs.Common.{◌≡◌, ℕ, ◌-◌, ◌*◌, Bool, true, false, cond, List, Option, Some, None, refl, sym, ap, subst, ◌∙◌}
use Rattle.std.specs.Option.{option_and_then}
use Rattle.std.specs.Str.{bytes_eq}
use Rattle.std.specs.List.{flat_map}
use Rattle.pblk_model.specs.declared.shape.Shape.{Shape}
use Rattle.pblk_model.specs.Chunk.{Block}
use Rattle.pblk_model.specs.LineOrder.{end_len}
use Rattle.pblk_model.specs.Image.{Image, width}
use Rattle.pblk_model.specs.StartRecord.{StartRecord, written_run, have_meta}
use Rattle.pblk_model.specs.EndRecord.{EndRecord, end_in, end_bytes, read_end, end_of}
use Rattle.pblk_reference.specs.Reading.{end_fields, end_read, end_among, end_run}

chosen : {A : Type 0} (b : Bool) (x : A) → b ≡ true → Some x ≡ cond b (Some x) None
chosen true x e = refl
chosen false x e = absurd cc

unchosen : {A : Type 0} (b : Bool) (x : A) → b ≡ false → None ≡ cond b (Some x) None
unchosen true x e = absurd cc
unchosen false x e = refl

pub misspelled_end : (s : Shape) (line g seq : ℕ) (bytes text : List ℕ) (r : EndRecord) → r ≡ end_fields s line g seq bytes → text ≡ end_bytes s r
    → bytes_eq text bytes ≡ false → None ≡ end_read s line g seq bytes
unfolding end_fields end_read
misspelled_end s line g seq bytes text r r-is text-is differs =
    unchosen (bytes_eq (end_bytes s (end_in s line g seq bytes)) bytes) (end_in s line g seq bytes)
    (subst (λ (x : EndRecord). bytes_eq (end_bytes s x) bytes ≡ false) r-is (subst (λ (t : List ℕ). bytes_eq t bytes ≡ false) text-is differs))

pub spelled_end : (s : Shape) (line g seq : ℕ) (bytes text : List ℕ) (r : EndRecord) → r ≡ end_fields s line g seq bytes → text ≡ end_bytes s r
    → bytes_eq text bytes ≡ true → Some r ≡ end_read s line g seq bytes
unfolding end_fields end_read
spelled_end s line g seq bytes text r r-is text-is same =
    ap (λ (x : EndRecord). Some x) r-is
    ∙ chosen (bytes_eq (end_bytes s (end_in s line g seq bytes)) bytes) (end_in s line g seq bytes)
    (subst (λ (x : EndRecord). bytes_eq (end_bytes s x) bytes ≡ true) r-is (subst (λ (t : List ℕ). bytes_eq t bytes ≡ true) text-is same))

-- ---- the record among a line's last blocks

pub unmarked : (s : Shape) (line g seq : ℕ) (blocks : List Block) → have_meta seq blocks ≡ false → None ≡ end_among s line g seq blocks
unfolding end_among
unmarked s line g seq blocks marks = sym (ap (λ b. cond b (read_end s line g seq (flat_map (λ b. b.sector) blocks)) None) marks)

pub marked : (s : Shape) (line g seq : ℕ) (blocks : List Block) (bytes : List ℕ) → have_meta seq blocks ≡ true → bytes ≡ flat_map (λ b. b.sector) blocks
    → end_read s line g seq bytes ≡ end_among s line g seq blocks
unfolding end_among end_read
marked s line g seq blocks bytes marks bytes-is =
    ap (end_read s line g seq) bytes-is ∙ sym (ap (λ b. cond b (read_end s line g seq (flat_map (λ b. b.sector) blocks)) None) marks)

-- the blocks where an end record is
pub run_at_end : (i : Image) (line g n len first : ℕ) (s : Shape) → s ≡ i.shape → n ≡ end_len s g → len ≡ g * s.clba → first ≡ len - n
    → written_run i line first n ≡ end_run i line g
unfolding end_run
run_at_end i line g n len first s s-is n-is len-is first-is =
    let last : n ≡ end_len i.shape g = n-is ∙ ap (λ (x : Shape). end_len x g) s-is in
    let whole : len ≡ g * i.shape.clba = len-is ∙ ap (λ (x : Shape). g * x.clba) s-is in
    let place : first ≡ g * i.shape.clba - end_len i.shape g = first-is ∙ ap (λ x. x - n) whole ∙ ap (λ m. g * i.shape.clba - m) last in
    ap (λ x. written_run i line x n) place ∙ ap (written_run i line (g * i.shape.clba - end_len i.shape g)) last

pub end_by_run : (i : Image) (line g : ℕ) (s : Shape) (start : StartRecord) (r : Option (List Block)) → s ≡ i.shape → g ≡ width i line → r ≡ end_run i line g
    → option_and_then (end_among s line g start.seq) r ≡ end_of i line start
unfolding end_among end_run
end_by_run i line g s start r s-is g-is r-is =
    ap (option_and_then (end_among s line g start.seq)) r-is ∙ ap (λ (x : Shape). option_and_then (end_among x line g start.seq) (end_run i line g)) s-is
    ∙ ap (λ x. option_and_then (end_among i.shape line x start.seq) (end_run i line x)) g-is

-- What marks name.
use Rattle.std.proofs.Common.{◌≡◌, ℕ, ◌^◌, ◌<◌, ◌≤◌, ◌==◌, Bool, cond, Option, Some, None, List, refl, sym, ap, ◌∙◌, arith, inl, inr}
use Rattle.std.specs.Prelude.{◌↔◌}
use Rattle.std.specs.Option.{option_map}
use Rattle.std.proofs.lemmas.Bool.{cases_lt, cases_eq, lt-ltb, le-ltb, eq-eqb, ne_eqb}
use Rattle.std.proofs.lemmas.Option.{none-some}
use Rattle.pblk_model.specs.declared.shape.Shape.{Shape}
use Rattle.pblk_model.specs.declared.chunk.Mark.{Mark}
use Rattle.pblk_model.specs.Accepted.{IsAccepted}
use Rattle.pblk_model.specs.Chunk.{Block}
use Rattle.pblk_model.specs.Marks.{void_lba, sector_mark, void_mark, pad_mark, meta_mark}
use Rattle.pblk_model.specs.Records.{Record, named, bears}

abbrev chosen : Bool → ℕ → Bool → Option (Option ℕ)
chosen sector lba void = cond sector (Some (Some lba)) (cond void (Some None) None)

pub named_sector : (s : Shape) (m : Mark) → m.lba < s.capacity → named s m ≡ Some (Some m.lba)
named_sector s m h = ap (λ b. chosen b m.lba (m.lba == void_lba)) (lt-ltb m.lba s.capacity h)

named_past : (s : Shape) (m : Mark) → s.capacity ≤ m.lba → named s m ≡ cond (m.lba == void_lba) (Some None) None
named_past s m h = ap (λ b. chosen b m.lba (m.lba == void_lba)) (le-ltb m.lba s.capacity h)

named_void : (s : Shape) (m : Mark) → s.capacity ≤ m.lba → m.lba ≡ void_lba → named s m ≡ Some None
named_void s m h e = named_past s m h ∙ ap (λ b. cond b (Some None) None) (eq-eqb m.lba void_lba e)

pub named_none : (s : Shape) (m : Mark) → s.capacity ≤ m.lba → (m.lba ≡ void_lba → ⊥) → named s m ≡ None
named_none s m h ne = named_past s m h ∙ ap (λ b. cond b (Some None) None) (ne_eqb m.lba void_lba ne)

pub named_meta : (s : Shape) (seq : ℕ) → s.capacity < 2 ^ 40 → named s (meta_mark seq) ≡ None
named_meta s seq h = named_none s (meta_mark seq) (omega arith) (λ e. omega arith)

pub named_pad : (s : Shape) → s.capacity < 2 ^ 40 → named s pad_mark ≡ None
named_pad s h = named_none s pad_mark (omega arith) (λ e. omega arith)

pub sector_exactly : (s : Shape) (m : Mark) (lba : ℕ) → (named s m ≡ Some (Some lba)) ↔ ((m.lba ≡ lba) × (lba < s.capacity))
sector_exactly s m lba = (
  λ e. elim (cases_lt m.lba s.capacity) [
    | inl low ↦
        let found : Some (Some m.lba) ≡ Some (Some lba) = sym (named_sector s m low) ∙ e in
        let same : m.lba ≡ lba = cc in
        (same, omega arith)
    | inr past ↦ elim (cases_eq m.lba void_lba) [
      | inl void ↦ let found : Some None ≡ Some (Some lba) = sym (named_void s m past void) ∙ e in absurd (cc)
      | inr other ↦ absurd (none-some (Some lba) (sym (named_none s m past other) ∙ e))
    ]
  ],
  λ h. let same = h.0 in let low : m.lba < s.capacity = (let l = h.1 in omega arith) in named_sector s m low ∙ ap (λ x. Some (Some x)) same,
)

past_void : (s : Shape) → IsAccepted s → s.capacity ≤ void_lba
past_void s accepted = omega (arith, accepted.target.capacity_number)

pub void_exactly : (s : Shape) (m : Mark) → IsAccepted s → (named s m ≡ Some None) ↔ (m.lba ≡ void_lba)
void_exactly s m accepted = (
  λ e. elim (cases_lt m.lba s.capacity) [
    | inl low ↦ let found : Some (Some m.lba) ≡ Some None = sym (named_sector s m low) ∙ e in absurd (cc)
    | inr past ↦ elim (cases_eq m.lba void_lba) [
      | inl void ↦ void
      | inr other ↦ absurd (none-some None (sym (named_none s m past other) ∙ e))
    ]
  ],
  λ void. named_void s m (let low = past_void s accepted in omega arith) void,
)

pub pad_none : (s : Shape) → IsAccepted s → named s pad_mark ≡ None
pad_none s accepted = named_pad s accepted.target.capacity_number

pub meta_none : (s : Shape) (seq : ℕ) → IsAccepted s → named s (meta_mark seq) ≡ None
meta_none s seq accepted = named_meta s seq accepted.target.capacity_number

borne : (line seq a p : ℕ) (sector : List ℕ) → Option ℕ → Record
borne line seq a p sector lba = record { line = line; seq = seq; at = a; position = p; lba = lba; sector = sector }

pub sector_borne : (s : Shape) (line seq a : ℕ) (block : Block) (lba p : ℕ) → lba < s.capacity
    → bears s line seq a block (sector_mark lba p) ≡ Some (record { line = line; seq = seq; at = a; position = p; lba = Some lba; sector = block.sector })
unfolding borne
sector_borne s line seq a block lba p h = ap (option_map (borne line seq a p block.sector)) (named_sector s (sector_mark lba p) h)

pub void_borne : (s : Shape) (line seq a : ℕ) (block : Block) (p : ℕ) → IsAccepted s
    → bears s line seq a block (void_mark p) ≡ Some (record { line = line; seq = seq; at = a; position = p; lba = None; sector = block.sector })
unfolding borne
void_borne s line seq a block p accepted = ap (option_map (borne line seq a p block.sector)) (named_void s (void_mark p) (past_void s accepted) refl)

pub pad_borne : (s : Shape) (line seq a : ℕ) (block : Block) → IsAccepted s → bears s line seq a block pad_mark ≡ None
unfolding borne
pad_borne s line seq a block accepted = ap (option_map (borne line seq a 0 block.sector)) (pad_none s accepted)

pub meta_borne : (s : Shape) (line seq a : ℕ) (block : Block) (of_seq : ℕ) → IsAccepted s → bears s line seq a block (meta_mark of_seq) ≡ None
unfolding borne
meta_borne s line seq a block of_seq accepted = ap (option_map (borne line seq a of_seq block.sector)) (meta_none s of_seq accepted)

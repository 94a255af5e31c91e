-- Open chunks get Pad blocks: what that leaves of an image's lines and records.
use Rattle.std.proofs.Common.{◌≡◌, ◌≢◌, ℕ, ◌+◌, ◌*◌, ◌<◌, ◌⊎◌, zero, suc, inl, inr, false, Option, Some, None, List, [], ◌∷◌, ◌++◌, length, replicate, refl, sym, ap, ◌∙◌, subst, arith}
use Rattle.std.specs.List.{slice_get, filter_map, range_with_len}
use Rattle.std.specs.Option.{option_and_then, option_map_or}
use Rattle.std.proofs.Math.Path.{fun_ext}
use Rattle.std.proofs.lemmas.Option.{none-some, same_Some}
use Rattle.pblk_model.specs.declared.shape.Shape.{Shape}
use Rattle.pblk_model.specs.declared.chunk.ChunkState.TheVariants.{Open}
use Rattle.pblk_model.specs.Accepted.{IsAccepted}
use Rattle.pblk_model.specs.Chunk.{Chunk, Block}
use Rattle.pblk_model.specs.LineOrder.{start_len, column_of, block_of}
use Rattle.pblk_model.specs.Marks.{pad_block, meta_mark}
use Rattle.pblk_model.specs.Image.{Image, is_online_in, line_chunks, line_units, width, block_at}
use Rattle.pblk_model.specs.StartRecord.{StartRecord, start_of}
use Rattle.pblk_model.specs.EndRecord.{EndRecord, end_of}
use Rattle.pblk_model.specs.Records.{Record, mark_at, bears, record_at, records_after, line_records}
use Rattle.pblk_model.specs.Sealed.{AgreesWithLine, BeginsNarrower, IsSealed}
use Rattle.pblk_laws.specs.LineBlocks.{chunk_in, written_at}
use Rattle.pblk_laws.proofs.LineUnits.{line_units_chunks}
use Rattle.pblk_laws.proofs.MarkNames.{pad_borne}
use Rattle.world_laws.specs.SameImages.{HasSameLines, HoldsTheSame}
use Rattle.world_laws.specs.Padding.{IsPaddedAt, ArePadded}
use Rattle.world_laws.proofs.ImageLines.{img, same_img, units_same, width_same, read_by, line_block, block_there, all_there, both_ways, start_carry, end_carry, holds_the_same}
use Rattle.pblk_model.proofs.Parts.{all_by_get, all_get}

-- Lists.

pub one_of : {X : Type 0} (n : ℕ) (x : X) (k : ℕ) → (slice_get (replicate n x) k ≡ None) ⊎ (slice_get (replicate n x) k ≡ Some x)
one_of zero x k = inl refl
one_of (suc n) x zero = inr refl
one_of (suc n) x (suc k) = one_of n x k

-- an element as before, or one of the new ones
pub get_padded : {X : Type 0} (xs : List X) (n k : ℕ) (x : X)
    → (slice_get (xs ++ replicate n x) k ≡ slice_get xs k) ⊎ ((slice_get xs k ≡ None) × (slice_get (xs ++ replicate n x) k ≡ Some x))
get_padded [] n k x = elim (one_of n x k) [ inl none ↦ inl none | inr some ↦ inr (refl, some) ]
get_padded (y ∷ xs) n zero x = inl refl
get_padded (y ∷ xs) n (suc k) x = get_padded xs n k x

pub first_stays : {X : Type 0} (xs ys : List X) → 0 < length xs → slice_get (xs ++ ys) 0 ≡ slice_get xs 0
first_stays [] ys h = absurd (omega arith)
first_stays (x ∷ xs) ys h = refl

-- a chunk of the line is Open
pub record HasOpen (i : Image) (line : ℕ) : Type 0 where
  pub unit : ℕ
  pub chunk : Chunk
  pub there : chunk_in i line unit ≡ Some chunk
  pub is_open : chunk.state ≡ Open

module _ (s : Shape) (us vs : List (List Chunk)) (accepted : IsAccepted s) (pads : ArePadded (img s us) (img s vs)) where
  online_as : (l k : ℕ) → option_map_or (λ (c : Chunk). is_online_in c.state) (chunk_in (img s vs) l k) false ≡ option_map_or
      (λ (c : Chunk). is_online_in c.state) (chunk_in (img s us) l k) false
  online_as l k = elim (pads.chunks l k) [
    | inl same ↦ ap (λ o. option_map_or (λ (c : Chunk). is_online_in c.state) o false) same
    | inr p ↦
        ap (λ o. option_map_or (λ (c : Chunk). is_online_in c.state) o false) p.is ∙ p.padded.online ∙ sym (ap is_online_in p.padded.was_open)
        ∙ sym (ap (λ o. option_map_or (λ (c : Chunk). is_online_in c.state) o false) p.was)
  ]

  pub lines_same : (l : ℕ) → line_units (img s vs) l ≡ line_units (img s us) l
  lines_same l = units_same s us vs l pads.count (online_as l)

  pub widths_same : (l : ℕ) → width (img s vs) l ≡ width (img s us) l
  widths_same l = width_same s us vs l (lines_same l)

  -- a block is as it was, or is a new one behind those of an Open chunk
  abbrev Stays : ℕ → Option Block → Option Block → Type 0
  Stays l old new = (new ≡ old) ⊎ (HasOpen (img s us) l × (old ≡ None) × (new ≡ Some (pad_block s)))

  stays_at : (l u b : ℕ) → Stays l (written_at (img s us) l (u, b)) (written_at (img s vs) l (u, b))
  stays_at l u b = elim (pads.chunks l u) [
    | inl same ↦ inl (ap (option_and_then (λ (c : Chunk). slice_get c.blocks b)) same)
    | inr p ↦ padded p
  ] where
    padded : IsPaddedAt (img s us) (img s vs) l u → Stays l (written_at (img s us) l (u, b)) (written_at (img s vs) l (u, b))
    padded p =
        let w : written_at (img s us) l (u, b) ≡ slice_get p.old.blocks b = ap (option_and_then (λ (c : Chunk). slice_get c.blocks b)) p.was in
        let v : written_at (img s vs) l (u, b) ≡ slice_get (p.old.blocks ++ replicate p.padded.more (pad_block s)) b =
        ap (option_and_then (λ (c : Chunk). slice_get c.blocks b)) p.is ∙ ap (λ bs. slice_get bs b) p.padded.blocks in
        elim (get_padded p.old.blocks p.padded.more b (pad_block s)) [
          | inl same ↦ inl (v ∙ same ∙ sym w)
          | inr new ↦ inr (record { unit = u; chunk = p.old; there = p.was; is_open = p.padded.was_open }, w ∙ new.0, v ∙ new.1)
        ]

  stays_by : (l b : ℕ) (o : Option ℕ) → Stays l (read_by (img s us) l b o) (read_by (img s vs) l b o)
  stays_by l b None = inl refl
  stays_by l b (Some u) = stays_at l u b

  stays : (l a : ℕ) → Stays l (block_at (img s us) l a) (block_at (img s vs) l a)
  stays l a =
      let g : ℕ = width (img s us) l in
      let w = line_block (img s us) l a in
      let v = block_there s us vs l a (lines_same l) in
      elim (stays_by l (block_of s g a) (slice_get (line_units (img s us) l) (column_of s g a))) [
        | inl same ↦ inl (v ∙ same ∙ sym w)
        | inr new ↦ inr (new.0, w ∙ new.1, v ∙ new.2)
      ]

  not_meta : (seq : ℕ) → (pad_block s).mark ≡ meta_mark seq → ⊥
  not_meta seq e = let lbas = ap (λ m. m.lba) e in omega arith

  up : (l a : ℕ) (b : Block) → block_at (img s us) l a ≡ Some b → block_at (img s vs) l a ≡ Some b
  up l a b here = elim (stays l a) [
    | inl same ↦ same ∙ here
    | inr new ↦ absurd (none-some b (sym new.1 ∙ here))
  ]

  down : (l a seq : ℕ) (b : Block) → block_at (img s vs) l a ≡ Some b → b.mark ≡ meta_mark seq → block_at (img s us) l a ≡ Some b
  down l a seq b here mark = elim (stays l a) [
    | inl same ↦ sym same ∙ here
    | inr new ↦ let is : pad_block s ≡ b = same_Some (pad_block s) b (sym new.2 ∙ here) in absurd (not_meta seq (ap (λ (x : Block). x.mark) is ∙ mark))
  ]

  pub starts_same : (l : ℕ) → start_of (img s vs) l ≡ start_of (img s us) l
  starts_same l = both_ways (start_of (img s vs) l) (start_of (img s us) l)
      (λ r e. start_carry s vs us l r (sym (widths_same l)) e (λ a b h mark. down l a r.seq b h mark))
      (λ r e. start_carry s us vs l r (widths_same l) e (λ a b h mark. up l a b h))

  pub ends_same : (l : ℕ) (start : StartRecord) → end_of (img s vs) l start ≡ end_of (img s us) l start
  ends_same l start = both_ways (end_of (img s vs) l start) (end_of (img s us) l start)
      (λ r e. end_carry s vs us l start r (sym (widths_same l)) e (λ a b h mark. down l a r.seq b h mark))
      (λ r e. end_carry s us vs l start r (widths_same l) e (λ a b h mark. up l a b h))

  -- What is sealed.
  module _ (whole : IsSealed (img s us)) where
    -- a line with a whole end record has no Open chunk
    no_end : (l : ℕ) (start : StartRecord) (e : EndRecord) → l < s.chunks → start_of (img s us) l ≡ Some start → end_of (img s us) l start ≡ Some e
        → HasOpen (img s us) l → ⊥
    no_end l start e inside started ended has =
        let agrees : AgreesWithLine (img s us) l e = whole.ends l start e inside started ended in
        all_there (λ c. c.state ≢ Open) l us has.unit has.chunk agrees.closed has.there (ap is_online_in has.is_open) has.is_open

    -- a chunk of a line was there before, and has the blocks that it had
    pub record WasThere (l k : ℕ) (x : Chunk) : Type 0 where
      pub old : Chunk
      pub there : slice_get (line_chunks (img s us) l) k ≡ Some old
      pub first : (b : Block) → slice_get x.blocks 0 ≡ Some b → slice_get old.blocks 0 ≡ Some b
      pub state : (x ≡ old) ⊎ HasOpen (img s us) l

    was_there : (l k : ℕ) (x : Chunk) → slice_get (line_chunks (img s vs) l) k ≡ Some x → WasThere l k x
    was_there l k x h = by_unit (slice_get (line_units (img s us) l) k) refl where
      new_is : slice_get (line_chunks (img s vs) l) k ≡ option_and_then (chunk_in (img s vs) l) (slice_get (line_units (img s us) l) k)
      new_is = line_units_chunks (img s vs) l k ∙ ap (λ xs. option_and_then (chunk_in (img s vs) l) (slice_get xs k)) (lines_same l)

      by_chunk : (u : ℕ) → chunk_in (img s vs) l u ≡ Some x → slice_get (line_chunks (img s us) l) k ≡ chunk_in (img s us) l u → WasThere l k x
      by_chunk u new old = elim (pads.chunks l u) [
        | inl same ↦ record { old = x; there = old ∙ sym same ∙ new; first = λ b e. e; state = inl refl }
        | inr p ↦
            let is : p.new ≡ x = same_Some p.new x (sym p.is ∙ new) in
            record {
              old = p.old;
              there = old ∙ p.was;
              first = λ b e. sym (first_stays p.old.blocks (replicate p.padded.more (pad_block s)) p.padded.some)
                  ∙ sym (ap (λ bs. slice_get bs 0) p.padded.blocks) ∙ ap (λ (y : Chunk). slice_get y.blocks 0) is ∙ e;
              state = inr (record { unit = u; chunk = p.old; there = p.was; is_open = p.padded.was_open });
            }
      ]

      by_unit : (o : Option ℕ) → slice_get (line_units (img s us) l) k ≡ o → WasThere l k x
      by_unit None e = absurd (none-some x (sym (new_is ∙ ap (option_and_then (chunk_in (img s vs) l)) e) ∙ h))
      by_unit (Some u) e = by_chunk u (sym (new_is ∙ ap (option_and_then (chunk_in (img s vs) l)) e) ∙ h)
          (line_units_chunks (img s us) l k ∙ ap (option_and_then (chunk_in (img s us) l)) e)

    agrees_still : (l : ℕ) (e : EndRecord) → AgreesWithLine (img s us) l e → (HasOpen (img s us) l → ⊥) → AgreesWithLine (img s vs) l e
    agrees_still l e agrees none = record {
      closed = all_by_get (λ c. c.state ≢ Open) (line_chunks (img s vs) l) (λ k x h. closed_at k x (was_there l k x h));
      marks = λ k b inside h. agrees.marks k b inside (elim (stays l (start_len s + k)) [
        | inl same ↦ sym same ∙ h
        | inr new ↦ absurd (none new.0)
      ]);
    } where
      closed_at : (k : ℕ) (x : Chunk) → WasThere l k x → x.state ≢ Open
      closed_at k x w = elim w.state [
        | inl same ↦ subst (λ (y : Chunk). y.state ≢ Open) (sym same) (all_get (λ c. c.state ≢ Open) (line_chunks (img s us) l) k w.old agrees.closed w.there)
        | inr has ↦ absurd (none has)
      ]

    pub sealed_still : IsSealed (img s vs)
    sealed_still = record {
      ends = λ l start e inside started ended.
          let started' : start_of (img s us) l ≡ Some start = sym (starts_same l) ∙ started in
          let ended' : end_of (img s us) l start ≡ Some e = sym (ends_same l start) ∙ ended in
          agrees_still l e (whole.ends l start e inside started' ended') (no_end l start e inside started' ended');
      begins = λ l k x b inside h first narrower.
          let w = was_there l k x h in
          whole.begins l k w.old b inside w.there (w.first b first) (subst (λ g. BeginsNarrower g b) (widths_same l) narrower);
    }

    -- What is borne.

    record_with : ℕ → StartRecord → ℕ → Option EndRecord → Option Block → Option Record
    record_with l start a e o = option_and_then (λ block. option_and_then (bears s l start.seq a block) (mark_at s e a block)) o

    bears_none : (l : ℕ) (start : StartRecord) (a : ℕ) (e : Option EndRecord) → l < s.chunks → start_of (img s us) l ≡ Some start
        → end_of (img s us) l start ≡ e
        → record_with l start a e (block_at (img s vs) l a) ≡ record_with l start a e (block_at (img s us) l a)
    unfolding record_with
    bears_none l start a None inside started ended = elim (stays l a) [
      | inl same ↦ ap (λ o. option_and_then (λ block. option_and_then (bears s l start.seq a block) (mark_at s None a block)) o) same
      | inr new ↦
          ap (λ o. option_and_then (λ block. option_and_then (bears s l start.seq a block) (mark_at s None a block)) o) new.2
          ∙ pad_borne s l start.seq a (pad_block s) accepted
          ∙ sym (ap (λ o. option_and_then (λ block. option_and_then (bears s l start.seq a block) (mark_at s None a block)) o) new.1)
    ]
    bears_none l start a (Some e) inside started ended = elim (stays l a) [
      | inl same ↦ ap (λ o. option_and_then (λ block. option_and_then (bears s l start.seq a block) (mark_at s (Some e) a block)) o) same
      | inr new ↦ absurd (no_end l start e inside started ended new.0)
    ]

    record_same : (l : ℕ) (start : StartRecord) (a : ℕ) → l < s.chunks → start_of (img s us) l ≡ Some start
        → record_at (img s vs) l start a ≡ record_at (img s us) l start a
    unfolding record_with
    record_same l start a inside started =
        ap (λ e. record_with l start a e (block_at (img s vs) l a)) (ends_same l start)
        ∙ bears_none l start a (end_of (img s us) l start) inside started refl

    line_same : (l : ℕ) (o : Option StartRecord) → l < s.chunks → start_of (img s us) l ≡ o → records_after (img s vs) l o ≡ records_after (img s us) l o
    line_same l None inside started = refl
    line_same l (Some start) inside started =
        ap (λ n. filter_map (record_at (img s vs) l start) (range_with_len 0 (n * s.clba))) (widths_same l)
        ∙ ap (λ f. filter_map f (range_with_len 0 (width (img s us) l * s.clba))) (fun_ext (λ a. record_same l start a inside started))

    lines_bear : (l : ℕ) → l < s.chunks → line_records (img s vs) l ≡ line_records (img s us) l
    lines_bear l inside = ap (records_after (img s vs) l) (starts_same l) ∙ line_same l (start_of (img s us) l) inside refl

    pub holds_still : HoldsTheSame (img s us) (img s vs)
    holds_still = holds_the_same s us vs starts_same lines_bear

-- The same of any two images over one shape.

of_shape : (i j : Image) → ArePadded i j → ArePadded i (img i.shape j.units)
of_shape i j pads = subst (ArePadded i) (same_img j i.shape pads.shape) pads

pub padded_lines : (i j : Image) → IsAccepted i.shape → ArePadded i j → HasSameLines i j
padded_lines i j accepted pads =
    let p : ArePadded i (img i.shape j.units) = of_shape i j pads in
    subst (HasSameLines i) (sym (same_img j i.shape pads.shape)) (record {
      shape = refl;
      units = lines_same i.shape i.units j.units accepted p;
      widths = widths_same i.shape i.units j.units accepted p;
      starts = starts_same i.shape i.units j.units accepted p;
      ends = ends_same i.shape i.units j.units accepted p;
    })

pub padded_sealed : (i j : Image) → IsAccepted i.shape → IsSealed i → ArePadded i j → IsSealed j
padded_sealed i j accepted whole pads =
    subst IsSealed (sym (same_img j i.shape pads.shape)) (sealed_still i.shape i.units j.units accepted (of_shape i j pads) whole)

pub padded_holds : (i j : Image) → IsAccepted i.shape → IsSealed i → ArePadded i j → HoldsTheSame i j
padded_holds i j accepted whole pads =
    subst (HoldsTheSame i) (sym (same_img j i.shape pads.shape)) (holds_still i.shape i.units j.units accepted (of_shape i j pads) whole)

-- A descriptor's spelling: how it is put together, and that it is read back.
use Rattle.std.proofs.Common.{◌≡◌, ℕ, ◌^◌, ◌<◌, true, List, [], ◌++◌, length, drop, Ok, refl, ap, ◌∙◌, append_assoc, arith, length-drop}
use Rattle.std.proofs.lemmas.List.{append-nil, nil_from_length, take_at, drop_at, length-append}
use Rattle.std.proofs.lemmas.Nat.{from_le_bytes-to_le_bytes_8}
use borrow.Rule.Slice.PartMut.{put_mid}
use Rattle.pblk_model.specs.Bytes.{zeros}
use Rattle.pblk_model.specs.Descriptor.{Descriptor, spelled, pointer_holds, unless_astray, of_state, read_descriptor}
use Rattle.pblk_model.proofs.DescriptorLemmas.{state_back}

-- eight elements that are written after a front
put_after : (front rest more : List ℕ) (place : ℕ) → length front ≡ place → put_mid place 8 (front ++ rest) more ≡ (front ++ more) ++ drop 8 rest
put_after front rest more place len = rw (take_at front rest place len, drop_at front rest place len, append_assoc) refl

-- four parts that are written one after another
pub four_parts : (a b c d rest : List ℕ) → length a ≡ 8 → length b ≡ 8 → length c ≡ 8 → length d ≡ 8 → length rest ≡ 24
    → put_mid 24 8 (put_mid 16 8 (put_mid 8 8 (a ++ rest) b) c) d ≡ a ++ b ++ c ++ d
four_parts a b c d rest len_a len_b len_c len_d len_rest =
    let two : length (a ++ b) ≡ 16 = simp length-append (omega arith) in
    let three : length (a ++ b ++ c) ≡ 24 = simp length-append (omega arith) in
    let none : drop 8 (drop 8 (drop 8 rest)) ≡ [] = nil_from_length (drop 8 (drop 8 (drop 8 rest))) (simp length-drop (omega arith)) in
    rw (
      put_after a rest b 8 len_a,
      put_after (a ++ b) (drop 8 rest) c 16 two,
      put_after (a ++ b ++ c) (drop 8 (drop 8 rest)) d 24 three,
      none,
      append-nil,
    ) refl

same_fields : (d : Descriptor) (slba cnlb wp : ℕ) → slba ≡ d.slba → cnlb ≡ d.cnlb → wp ≡ d.wp
    → ◌≡◌ {A = Descriptor} (record { state = d.state; wear = d.wear; slba = slba; cnlb = cnlb; wp = wp }) d
same_fields d slba cnlb wp p q r = rw (p, q, r) refl

holds_back : (d read : Descriptor) → read ≡ d → pointer_holds d.state d.cnlb d.wp ≡ true → unless_astray read ≡ Ok d
holds_back d read same holds = rw (same, holds) refl

-- what is spelled is read
pub read_back : (d : Descriptor) → d.slba < 2 ^ 64 → d.cnlb < 2 ^ 64 → d.wp < 2 ^ 64 → pointer_holds d.state d.cnlb d.wp ≡ true
    → read_descriptor (spelled d) ≡ Ok d
unfolding zeros
read_back d slba cnlb wp holds =
    let same = same_fields d _ _ _ (from_le_bytes-to_le_bytes_8 d.slba slba) (from_le_bytes-to_le_bytes_8 d.cnlb cnlb) (from_le_bytes-to_le_bytes_8 d.wp wp) in
    ap (of_state (spelled d)) (state_back d.state) ∙ holds_back d _ same holds

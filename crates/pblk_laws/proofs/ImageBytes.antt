-- A geometry and a descriptor are read back from their spellings.
use Rattle.std.proofs.Common.{◌≡◌, ℕ, ◌^◌, ◌<◌, true, Ok, Err, [], ◌∷◌, refl, ap, ◌∙◌, arith}
use Rattle.std.specs.Int.{w8, from_le_bytes}
use Rattle.std.proofs.lemmas.Bool.{cond-true}
use Rattle.std.proofs.lemmas.Nat.{from_le_bytes-to_le_bytes_8}
use Rattle.pblk_model.specs.declared.chunk.DescriptorErr.TheVariants as errors
use Rattle.pblk_model.specs.Bytes.{zeros}
use Rattle.pblk_model.specs.Geometry.{Geometry}
use Rattle.pblk_model.specs.Descriptor.{Descriptor, spelled, descriptor_in, pointer_holds, unless_astray, of_state, read_descriptor}
use Rattle.pblk_laws.specs.GeometryFields.{FitsFields}
use Rattle.pblk_model.proofs.DescriptorLemmas.{state_back}
use Rattle.pblk_model.proofs.GeometryBytes.{FitsWords}

byte_back : (n : ℕ) → n < 256 → from_le_bytes w8 (n ∷ []) ≡ n
byte_back n h = omega arith

-- The geometry.

pub words_fit : (g : Geometry) → FitsFields g → FitsWords g
words_fit g fits = record {
  mccap = fits.mccap;
  groups = fits.groups;
  pus = fits.pus;
  chunks = fits.chunks;
  clba = fits.clba;
  ws_min = fits.ws_min;
  ws_opt = fits.ws_opt;
  mw_cunits = fits.mw_cunits;
  maxoc = fits.maxoc;
  maxocpu = fits.maxocpu;
}

-- A descriptor.

same_descriptor : (d : Descriptor) (wear slba cnlb wp : ℕ) → wear ≡ d.wear → slba ≡ d.slba → cnlb ≡ d.cnlb → wp ≡ d.wp
    → ◌≡◌ {A = Descriptor} (record { state = d.state; wear = wear; slba = slba; cnlb = cnlb; wp = wp }) d
same_descriptor d wear slba cnlb wp p q r s = rw (p, q, r, s) refl

pub descriptor_in_back : (d : Descriptor) → d.wear < 256 → d.slba < 2 ^ 64 → d.cnlb < 2 ^ 64 → d.wp < 2 ^ 64 → descriptor_in d.state (spelled d) ≡ d
unfolding zeros
descriptor_in_back d wear slba cnlb wp = same_descriptor d _ _ _ _
    (byte_back d.wear wear)
    (from_le_bytes-to_le_bytes_8 d.slba slba)
    (from_le_bytes-to_le_bytes_8 d.cnlb cnlb)
    (from_le_bytes-to_le_bytes_8 d.wp wp)

pub descriptor_back : (d : Descriptor) → d.wear < 256 → d.slba < 2 ^ 64 → d.cnlb < 2 ^ 64 → d.wp < 2 ^ 64 → pointer_holds d.state d.cnlb d.wp ≡ true
    → read_descriptor (spelled d) ≡ Ok d
unfolding zeros
descriptor_back d wear slba cnlb wp holds =
    ap (of_state (spelled d)) (state_back d.state)
    ∙ (ap unless_astray (descriptor_in_back d wear slba cnlb wp) ∙ cond-true (pointer_holds d.state d.cnlb d.wp) (Ok d) (Err errors.Pointer) holds)

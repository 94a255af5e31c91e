-- The one spelling of a geometry is read back.
use Rattle.std.proofs.Common.{◌≡◌, ℕ, ◌^◌, ◌<◌, None, Ok, List, ◌∷◌, ◌++◌, length, refl, sym}
use Rattle.std.proofs.lemmas.Nat.{from_le_bytes-to_le_bytes_2, from_le_bytes-to_le_bytes_4}
use Rattle.pblk_model.specs.Bytes.{le16, le32, zeros}
use Rattle.pblk_model.specs.Geometry.{Geometry, geometry_in, geometry_bytes, geometry_refusal, read_geometry}
use Rattle.pblk_model.proofs.BytesLemmas.{with_zeros}

-- all up to the zeros at the end
abbrev pub front : Geometry → List ℕ
front g = (g.mjr ∷ g.mnr ∷ zeros 6)
    ++ (g.group_bits ∷ g.pu_bits ∷ g.chunk_bits ∷ g.block_bits ∷ zeros 4)
    ++ le32 g.mccap ++ zeros 12
    ++ (g.wit ∷ zeros 31)
    ++ le16 g.groups ++ le16 g.pus ++ le32 g.chunks ++ le32 g.clba ++ zeros 52
    ++ le32 g.ws_min ++ le32 g.ws_opt ++ le32 g.mw_cunits ++ le32 g.maxoc ++ le32 g.maxocpu

front_length : (g : Geometry) → length (front g) ≡ 148
unfolding zeros
front_length g = refl

pub geometry_length : (g : Geometry) → length (geometry_bytes g) ≡ 4096
geometry_length g = with_zeros (front g) 148 3948 (front_length g)

-- each number of several bytes fits its field; a byte is read as it stands
pub record FitsWords (g : Geometry) : Type 0 where
  pub mccap : g.mccap < 2 ^ 32
  pub groups : g.groups < 2 ^ 16
  pub pus : g.pus < 2 ^ 16
  pub chunks : g.chunks < 2 ^ 32
  pub clba : g.clba < 2 ^ 32
  pub ws_min : g.ws_min < 2 ^ 32
  pub ws_opt : g.ws_opt < 2 ^ 32
  pub mw_cunits : g.mw_cunits < 2 ^ 32
  pub maxoc : g.maxoc < 2 ^ 32
  pub maxocpu : g.maxocpu < 2 ^ 32

same_numbers : (g : Geometry) (mccap groups pus chunks clba ws_min ws_opt mw_cunits maxoc maxocpu : ℕ)
    → mccap ≡ g.mccap → groups ≡ g.groups → pus ≡ g.pus → chunks ≡ g.chunks → clba ≡ g.clba → ws_min ≡ g.ws_min → ws_opt ≡ g.ws_opt → mw_cunits ≡ g.mw_cunits
    → maxoc ≡ g.maxoc → maxocpu ≡ g.maxocpu
    → ◌≡◌ {A = Geometry} (record g {
      mccap = mccap;
      groups = groups;
      pus = pus;
      chunks = chunks;
      clba = clba;
      ws_min = ws_min;
      ws_opt = ws_opt;
      mw_cunits = mw_cunits;
      maxoc = maxoc;
      maxocpu = maxocpu;
    }) g
same_numbers g mccap groups pus chunks clba ws_min ws_opt mw_cunits maxoc maxocpu a b c d e f h i j k = rw (a, b, c, d, e, f, h, i, j, k) refl

front_back : (g : Geometry) (rest : List ℕ) → FitsWords g → geometry_in (front g ++ rest) ≡ g
unfolding zeros
front_back g rest h = same_numbers g _ _ _ _ _ _ _ _ _ _
    (from_le_bytes-to_le_bytes_4 g.mccap h.mccap)
    (from_le_bytes-to_le_bytes_2 g.groups h.groups)
    (from_le_bytes-to_le_bytes_2 g.pus h.pus)
    (from_le_bytes-to_le_bytes_4 g.chunks h.chunks)
    (from_le_bytes-to_le_bytes_4 g.clba h.clba)
    (from_le_bytes-to_le_bytes_4 g.ws_min h.ws_min)
    (from_le_bytes-to_le_bytes_4 g.ws_opt h.ws_opt)
    (from_le_bytes-to_le_bytes_4 g.mw_cunits h.mw_cunits)
    (from_le_bytes-to_le_bytes_4 g.maxoc h.maxoc)
    (from_le_bytes-to_le_bytes_4 g.maxocpu h.maxocpu)

pub bytes_back : (g : Geometry) → FitsWords g → geometry_in (geometry_bytes g) ≡ g
bytes_back g h = front_back g (zeros 3948) h

pub read_accepted : (bytes : List ℕ) (g : Geometry) → length bytes ≡ 4096 → g ≡ geometry_in bytes → None ≡ geometry_refusal g → Ok g ≡ read_geometry bytes
read_accepted bytes g size is accepted =
    let none : geometry_refusal (geometry_in bytes) ≡ None = rw is at (sym accepted) in
    rw (size, is, none) refl

pub geometry_back : (g : Geometry) → FitsWords g → geometry_refusal g ≡ None → read_geometry (geometry_bytes g) ≡ Ok g
geometry_back g h accepted = sym (read_accepted (geometry_bytes g) g (geometry_length g) (sym (bytes_back g h)) (sym accepted))

use Rattle.std.proofs.Common.{refl}
use Rattle.ocssd_geometry.proofs.geometry.Geometry.in_bytes.Goals as goal

-- each number is the one at its place
pub returns : goal.returns
returns c = rw (
  c.u8_at.ensures,
  c.u8_at-2.ensures,
  c.u8_at-3.ensures,
  c.u8_at-4.ensures,
  c.u8_at-5.ensures,
  c.u8_at-6.ensures,
  c.u8_at-7.ensures,
  c.u16_at.ensures,
  c.u16_at-2.ensures,
  c.u32_at.ensures,
  c.u32_at-2.ensures,
  c.u32_at-3.ensures,
  c.u32_at-4.ensures,
  c.u32_at-5.ensures,
  c.u32_at-6.ensures,
  c.u32_at-7.ensures,
  c.u32_at-8.ensures,
) refl

use Rattle.std.proofs.Common.{◌≡◌, ℕ, ◌/◌, ◌%◌, ◌==◌, not, arith, bit_and, refl}
use Rattle.std.proofs.lemmas.Nat.{and_mask}
use Rattle.std.proofs.lemmas.Nat.Bits.{and_pow}
use Rattle.zk_dns.proofs.message.record_with.Goals as goal

-- each bit of a byte
bit7 : (byte : ℕ) → not (bit_and byte 128 == 0) ≡ (byte / 128 % 2 == 1)
bit7 byte = grind (arith, and_pow byte 7)

bit2 : (byte : ℕ) → not (bit_and byte 4 == 0) ≡ (byte / 4 % 2 == 1)
bit2 byte = grind (arith, and_pow byte 2)

bit1 : (byte : ℕ) → not (bit_and byte 2 == 0) ≡ (byte / 2 % 2 == 1)
bit1 byte = grind (arith, and_pow byte 1)

bit0 : (byte : ℕ) → not (bit_and byte 1 == 0) ≡ (byte % 2 == 1)
bit0 byte = grind (arith, and_mask byte 1)

pub returns : goal.returns
returns c =
    rw (
      c.u16_at.ensures,
      c.u16_at-2.ensures,
      c.u16_at-3.ensures,
      c.u16_at-4.ensures,
      c.u16_at-5.ensures,
      bit7,
      bit7,
      bit2,
      bit1,
      bit0,
      and_mask _ 4,
      and_mask _ 4,
    ) refl

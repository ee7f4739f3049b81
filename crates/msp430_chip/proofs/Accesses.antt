-- Where accesses are made.
use Rattle.std.proofs.Common.{◌≡◌, ℕ, ◌+◌, ◌-◌, ◌%◌, ◌<◌, ◌≤◌, ◌&&◌, Option, None, Some, arith}
use Rattle.std.specs.Prelude.{nat_le}
use Rattle.std.proofs.lemmas.Bool.{and_parts, cond_both, leb-true}
use Rattle.image.specs.Kept.{HasMirror}
use Rattle.msp430_decode.specs.declared.instr.Width.{Width}
use Rattle.msp430_decode.specs.declared.instr.Width.TheVariants.{Word, Byte}
use Rattle.msp430_chip.specs.declared.device.Device.{Device}
use Rattle.msp430_chip.specs.Memory.{aligned, canon, canon_by, size_of, HasRam}
use Rattle.msp430_chip.specs.State.{even}

canon_even : (lo hi : ℕ) (mirror : Option (ℕ × ℕ)) (at : ℕ) → lo % 2 ≡ 0 → HasMirror lo hi mirror → at % 2 ≡ 0
    → canon_by lo mirror at % 2 ≡ 0
canon_even lo hi None at low is even_so = even_so
canon_even lo hi (Some (first, last)) at low is even_so =
    cond_both (nat_le first at && nat_le at last) (lo + (at - first)) at (λ n. n % 2 ≡ 0)
    (λ e. let after : first ≤ at = leb-true first at (and_parts (nat_le first at) (nat_le at last) e).0 in omega (arith, low, is.low, even_so, after))
    (λ e. even_so)

canon_small : (lo hi : ℕ) (mirror : Option (ℕ × ℕ)) (at : ℕ) → lo < hi → hi < 65536 → HasMirror lo hi mirror
    → at < 65536 → canon_by lo mirror at < 65536
canon_small lo hi None at some top is small = small
canon_small lo hi (Some (first, last)) at some top is small =
    cond_both (nat_le first at && nat_le at last) (lo + (at - first)) at (λ n. n < 65536)
    (λ e. let ends = and_parts (nat_le first at) (nat_le at last) e in
    let after : first ≤ at = leb-true first at ends.0 in
    let before : at ≤ last = leb-true at last ends.1 in
    omega (arith, some, top, is.short, after, before))
    (λ e. small)

pub aligned_even : (device : Device) (at : ℕ) → HasRam device → aligned device Word at % 2 ≡ 0
aligned_even device at is = canon_even device.ram.lo device.ram.hi device.ram.mirror (even at) is.low is.mirror (omega arith)

pub aligned_fits : (device : Device) (width : Width) (at : ℕ) → HasRam device → at < 65536 → aligned device width at + size_of width ≤ 65536
aligned_fits device Word at is small =
    let below = canon_small device.ram.lo device.ram.hi device.ram.mirror (even at) is.some is.top is.mirror (omega (arith, small)) in
    let no_bit : canon device (even at) % 2 ≡ 0 = aligned_even device at is in
    omega (arith, below, no_bit)
aligned_fits device Byte at is small = let below = canon_small device.ram.lo device.ram.hi device.ram.mirror at is.some is.top is.mirror small in omega (arith, below)

-- The bits of SR behind SWPB.
use Rattle.std.proofs.Common.{◌≡◌, ℕ, suc, ◌+◌, ◌*◌, ◌/◌, ◌%◌, ◌<◌, List, [], ◌∷◌, ◌++◌, length, get_or, replicate, ap, subst, arith}
use Rattle.std.specs.Int.{bit_at}
use Rattle.std.proofs.lemmas.List.{length-append}
use Rattle.value_bits.specs.declared.tri.Tri.{Tri}
use Rattle.value_bits.specs.declared.tri.Tri.TheVariants.{Either}
use Rattle.value_bits.specs.Bits.{IsBit, Agrees}
use Rattle.chip_numbers.specs.Numbers.{exchanged}
use Rattle.msp430_status.specs.Status.{swapped_bits}
use Rattle.value_bits.specs.BitFacts.{bits_any, bits_append, bits_at}

-- SR with any bits 9 to 15, its halves exchanged
pub swapped_agree : (held : List Tri) (sr bits : ℕ) → Agrees held sr → sr < 512 → bits < 128
    → Agrees (swapped_bits held) (exchanged 256 (sr + 512 * bits) % 512)
swapped_agree held sr bits agrees small few =
    let v = exchanged 256 (sr + 512 * bits) % 512 in
    let last = get_or held 0 Either in
    let highest : bit_at sr 8 ≡ v % 2 = omega (arith, small, few) in
    let lowest : bit_at sr 0 ≡ sr % 2 = omega arith in
    let low = subst (IsBit last) lowest (bits_at held 0 sr agrees) in
    let alone : sr % 2 ≡ sr % 2 % 2 = omega arith in
    let end : Agrees (last ∷ []) (sr % 2) = (subst (IsBit last) alone low, omega arith) in
    let more = bits_append (replicate 7 Either) (last ∷ []) bits (sr % 2) (bits_any 7 bits few) end in
    let rest : bits + 128 * (sr % 2) ≡ v / 2 = omega (arith, small, few) in
    (subst (IsBit (get_or held 8 Either)) highest (bits_at held 8 sr agrees), subst (Agrees (replicate 7 Either ++ last ∷ [])) rest more)

pub length_swapped : (held : List Tri) → length (swapped_bits held) ≡ 9
length_swapped held = ap suc (length-append (replicate 7 Either) (get_or held 0 Either ∷ []))

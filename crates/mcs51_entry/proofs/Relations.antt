-- What a place held is related to itself when an interrupt comes.
use Rattle.std.proofs.Common.{◌≡◌, ℕ, zero, suc, ◌+◌, ◌*◌, ◌/◌, ◌%◌, ◌<◌, ◌==◌, Bool, true, false, Some, refl, sym, ap, ◌∙◌, arith}
use Rattle.std.specs.Prelude.{◌||◌, bit_and, bit_or}
use Rattle.std.specs.Int.Bits.{or_zero_r}
use Rattle.std.proofs.lemmas.Bool.{agree_below_at, eqb-true, ne_eqb}
use Rattle.std.proofs.lemmas.Nat.{and_mask}
use Rattle.entry_value.specs.Words.{IsFromEntry}
use Rattle.mcs51_chip.specs.declared.state.ChipState.{ChipState}
use Rattle.mcs51_state.specs.Places.{suspended_of}
use Rattle.mcs51_entry.specs.Entering.{itself}

-- a number with the bits that the place holds came from it, whatever its other bits are
pub from_itself : (s : ChipState) (place v : ℕ) → v < 256
    → bit_and v ((suspended_of s).held place) ≡ bit_and ((suspended_of s).number place) ((suspended_of s).held place)
    → IsFromEntry (Some (suspended_of s)) (Some (itself place)) v
from_itself s place v small same =
    let masked : bit_and v 255 ≡ v = and_mask v 8 ∙ omega (arith, small) in
    let whole : bit_or (bit_and v 255) 0 ≡ v = or_zero_r (bit_and v 255) ∙ masked in
    (v, (omega (arith, small), same), sym whole)

-- IE doesn't hold bit 6

ie_test : ℕ → Bool
ie_test n = (bit_and (n + 64) 65471 == bit_and n 65471) || (n / 64 % 2 == 1)

or_first : (x y : Bool) → (x || y) ≡ true → y ≡ false → x ≡ true
or_first true y e f = refl
or_first false y e f = absurd (cc)

pub ie_same : (ie free : ℕ) → ie < 256 → ie / 64 % 2 ≡ 0 → free < 2 → bit_and (ie + 64 * free) 65471 ≡ bit_and ie 65471
unfolding ie_test
ie_same ie zero small held low = ap (λ n. bit_and n 65471) (omega arith)
ie_same ie (suc zero) small held low =
    let told : ie_test ie ≡ true = agree_below_at ie_test (λ n. true) 256 ie refl small in
    let other : (ie / 64 % 2 == 1) ≡ false = ne_eqb (ie / 64 % 2) 1 (λ e. omega (arith, e, held)) in
    eqb-true (bit_and (ie + 64) 65471) (bit_and ie 65471) (or_first (bit_and (ie + 64) 65471 == bit_and ie 65471) (ie / 64 % 2 == 1) told other)
ie_same ie (suc (suc free)) small held low = absurd (omega (arith, low))

-- IP holds the bits 5 to 0

ip_test : (added n : ℕ) → Bool
ip_test added n = bit_and (n + added) 65343 == bit_and n 65343

pub ip_same : (ip free : ℕ) → ip < 64 → free < 4 → bit_and (ip + 64 * free) 65343 ≡ bit_and ip 65343
unfolding ip_test
ip_same ip zero small low = ap (λ n. bit_and n 65343) (omega arith)
ip_same ip (suc zero) small low = eqb-true (bit_and (ip + 64) 65343) (bit_and ip 65343) (agree_below_at (ip_test 64) (λ n. true) 64 ip refl small)
ip_same ip (suc (suc zero)) small low = eqb-true (bit_and (ip + 128) 65343) (bit_and ip 65343) (agree_below_at (ip_test 128) (λ n. true) 64 ip refl small)
ip_same ip (suc (suc (suc zero))) small low = eqb-true (bit_and (ip + 192) 65343) (bit_and ip 65343) (agree_below_at (ip_test 192) (λ n. true) 64 ip refl small)
ip_same ip (suc (suc (suc (suc free)))) small low = absurd (omega (arith, low))

-- Of sets of one number each, the set of a formula is that of the one result.
use Rattle.std.proofs.Common.{◌≡◌, ℕ, ◌+◌, ◌^◌, ◌<◌, ◌&&◌, true, refl, ◌∙◌, ap}
use Rattle.value_set.specs.declared.form.Form.{Form}
use Rattle.value_set.specs.Summing.{single}
use Rattle.value_bits.specs.declared.tri.Tri.{Tri}
use Rattle.value_bits.specs.declared.tri.Top.{Top}
use Rattle.value_bits.specs.declared.tri.Lowest.{Lowest}
use Rattle.value_bits.specs.declared.tri.Logic.{Logic}
use Rattle.chip_numbers.specs.Numbers.{shifted_left, shifted_right, exchanged, sign_extended, is_decimal, decimal_sum, decimal_adjusted}
use Rattle.value_bits.specs.Bits.{tri, logic_of}
use Rattle.value_bits.specs.Sets.{IsTop, IsOneTop, are_decimal, chosen, decimal_add_set, decimal_adjust_set, exchange_set, logic_set, shift_answer, shift_set, sign_extend_set, top_carry}
use Rattle.value_bits.specs.Lefts.{IsLowest, IsOneLowest, left_answer, left_set, lowest_carry}
use Rattle.value_bits.proofs.Choosing.{combined_alone, one_lowest, one_top}
use Rattle.value_bits.proofs.Decimals.{decimal_single, known_carry}

pub logic_alone : (width : ℕ) (logic : Logic) (a b : Form) (x y : ℕ) → a ≡ single x → b ≡ single y
    → logic_set width logic a b ≡ single (logic_of logic x y)
unfolding logic_set
logic_alone width logic a b x y p q = combined_alone (2 ^ width) (λ x y z. logic_of logic x y) a b (single 0) _ x y 0 p q refl

pub shift_alone : (place : ℕ) (top : Top) (a : Form) (x bit : ℕ) → a ≡ single x → IsOneTop top → IsTop place top x bit
    → shift_set place a top ≡ single (shifted_right place x bit)
unfolding shift_set
shift_alone place top a x bit p one is = let found = one_top place top x bit one is in
    combined_alone (2 ^ (place + 1)) (shift_answer place top) a (single 0) (top_carry top) _ x 0 found.0 p refl found.1 ∙ ap (λ (v : ℕ). single v) found.2

pub left_alone : (place : ℕ) (lowest : Lowest) (a : Form) (x bit : ℕ) → a ≡ single x → IsOneLowest lowest → IsLowest place lowest x bit
    → left_set place a lowest ≡ single (shifted_left place x bit)
unfolding left_set
left_alone place lowest a x bit p one is = let found = one_lowest place lowest x bit one is in
    combined_alone (2 ^ (place + 1)) (left_answer place lowest) a (single 0) (lowest_carry lowest) _ x 0 found.0 p refl found.1 ∙ ap (λ (v : ℕ). single v) found.2

pub exchange_alone : (half : ℕ) (a : Form) (x : ℕ) → a ≡ single x → exchange_set half a ≡ single (exchanged (2 ^ half) x)
unfolding exchange_set
exchange_alone half a x p = combined_alone (2 ^ (half + half)) (λ x y z. exchanged (2 ^ half) x) a (single 0) (single 0) _ x 0 0 p refl refl

pub sign_alone : (a : Form) (x : ℕ) → a ≡ single x → sign_extend_set a ≡ single (sign_extended x)
unfolding sign_extend_set
sign_alone a x p = combined_alone 65536 (λ x y z. sign_extended x) a (single 0) (single 0) _ x 0 0 p refl refl

pub decimal_alone : (digits : ℕ) (a b : Form) (carry : Tri) (x y bit : ℕ) → a ≡ single x → b ≡ single y → carry ≡ tri bit → bit < 2
    → is_decimal digits x ≡ true → is_decimal digits y ≡ true → decimal_add_set digits a b carry ≡ single (decimal_sum digits x y bit)
unfolding decimal_add_set
decimal_alone digits a b carry x y bit p q known small d e =
    let whole : (are_decimal digits a && are_decimal digits b) ≡ true = rw (decimal_single digits x a p d, decimal_single digits y b q e) refl in
    rw whole (combined_alone (16 ^ digits) (decimal_sum digits) a b (chosen carry) _ x y bit p q (known_carry carry bit known small))

pub adjust_alone : (a : Form) (carry half : Tri) (x y z : ℕ) → a ≡ single x → carry ≡ tri y → y < 2 → half ≡ tri z → z < 2
    → decimal_adjust_set a carry half ≡ single (decimal_adjusted x y z)
unfolding decimal_adjust_set
adjust_alone a carry half x y z p known small other less =
    combined_alone 256 decimal_adjusted a (chosen carry) (chosen half) _ x y z p (known_carry carry y known small) (known_carry half z other less)

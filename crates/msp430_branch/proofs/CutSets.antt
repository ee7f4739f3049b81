-- Sets that are cut to a window.
use Rattle.std.proofs.Common.{◌≡◌, ℕ, ◌+◌, ◌-◌, ◌%◌, ◌<◌, Bool, Option, None, Some, refl, ap, subst, arith}
use Rattle.std.specs.Prelude.{if◌then◌else◌}
use Rattle.std.specs.Option.{option_map}
use Rattle.std.proofs.Math.Nat.{mod-lt}
use Rattle.std.proofs.lemmas.Bool.{cond_both}
use Rattle.plain_lemmas.specs.Cases.{mapped}
use Rattle.value_set.specs.declared.form.Form.{Form}
use Rattle.value_set.specs.Cutting.{cut}
use Rattle.value_set.specs.Form.{Has, IsNormal}
use Rattle.value_set.specs.Summing.{single}
use Rattle.value_bits.specs.Sets.{low_set}
use Rattle.msp430_decode.specs.declared.instr.Condition.{Condition}
use Rattle.msp430_decode.specs.declared.instr.Condition.TheVariants.{NotEqual, Equal, NoCarry, Carry, Negative, GreaterOrEqual, Less, Always}
use Rattle.msp430_decode.specs.declared.instr.Width.{Width}
use Rattle.msp430_decode.specs.declared.instr.Width.TheVariants.{Word, Byte}
use Rattle.msp430_chip.specs.Arithmetic.{modulus}
use Rattle.msp430_state.specs.declared.fact.FlagFact.{FlagFact}
use Rattle.msp430_branch.specs.declared.window.Window.{Window}
use Rattle.msp430_branch.specs.Cuts.{value_for, window_of, equal_window, other_window, upper_window, lower_window, greater_window, less_window, words_of, cut_set}
use Rattle.irq_frames.specs.KnownLaws.{KnownLaws}
use Rattle.msp430_branch.proofs.FlagNumbers.{modulus_some}
use Rattle.msp430_branch.proofs.WindowLemmas.{IsInside}

some_part : {A : Type 0} (o : Option A) → (o ≡ None → ⊥) → (part : A) × (o ≡ Some part)
some_part None none = absurd (none refl)
some_part (Some part) none = (part, refl)

-- MEMBERS

part_of : (laws : KnownLaws) {m v : ℕ} (set : Form) {window : Window} → IsNormal m set → Has m set v → IsInside m v window
    → (part : Form) × (cut m set window.low window.len ≡ Some part) × Has m part v
part_of laws {m} {v} set {window} normal has inside =
    let found = some_part (cut m set window.low window.len)
    (λ none. let out = laws.sets.cut_none m window.low window.len v set normal inside.low none has in omega (arith, out, inside.inside)) in
    (found.0, found.1, laws.sets.cut_holds m window.low window.len v set found.0 normal inside.low found.1 has inside.inside)

-- a member in the window is in what is left
pub cut_has : (laws : KnownLaws) (width : Width) {v : ℕ} (set : Form) {window : Window} → IsNormal 65536 set
    → Has 65536 set v → (width ≡ Byte → v < 256)
    → IsInside (modulus width) v window
    → (part : Form) × (cut_set width set window ≡ Some part) × Has 65536 part v
cut_has laws Word set normal has small inside = part_of laws set normal has inside
cut_has laws Byte {v} set {window} normal has small inside =
    let byte : v < 256 = small refl in
    let low : v % 256 ≡ v = omega (arith, byte) in
    let low_normal = laws.bits.low_normal set normal in
    let found = part_of laws (low_set set) low_normal (subst (Has 256 (low_set set)) low (laws.bits.low v set normal has)) inside in
    let part_normal = laws.sets.cut_normal 256 window.low window.len (low_set set) found.0 low_normal inside.low found.1 in
    let zero = laws.sets.single 256 0 (omega arith) in
    let whole = laws.bits.pair v 0 found.0 (single 0) part_normal zero.0 found.2 zero.1 in
    (words_of found.0, ap (option_map words_of) found.1, subst (Has 65536 (words_of found.0)) (omega arith) whole)

-- FORM

pub cut_form : (laws : KnownLaws) (width : Width) (set part : Form) (window : Window) → IsNormal 65536 set
    → window.low < modulus width → cut_set width set window ≡ Some part
    → IsNormal 65536 part
cut_form laws Word set part window normal low e = laws.sets.cut_normal 65536 window.low window.len set part normal low e
cut_form laws Byte set part window normal low e =
    let found = mapped words_of (cut 256 (low_set set) window.low window.len) part e in
    let part_normal = laws.sets.cut_normal 256 window.low window.len (low_set set) found.0 (laws.bits.low_normal set normal) low found.1 in
    subst (IsNormal 65536) found.2 (laws.bits.pair_normal found.0 (single 0) part_normal (laws.sets.single 256 0 (omega arith)).0)

-- windows begin below the modulus
abbrev pub IsLow : (m : ℕ) → Option Window → Type 0
IsLow m None = Unit {0}
IsLow m (Some window) = window.low < m

value_low : (fact : FlagFact) (x : ℕ) → value_for fact x < modulus fact.width
value_low fact x = mod-lt (x + modulus fact.width - fact.added) {m = modulus fact.width} (modulus_some fact.width)

either_low : (fact : FlagFact) (taken : Bool) (one other : Window) → one.low < modulus fact.width → other.low < modulus fact.width
    → IsLow (modulus fact.width) (Some (if taken then one else other))
either_low fact taken one other first second = cond_both taken one other (λ window. window.low < modulus fact.width) (λ e. first) (λ e. second)

pub window_low : (condition : Condition) (taken : Bool) (fact : FlagFact) → IsLow (modulus fact.width) (window_of condition taken fact)
window_low NotEqual taken fact = either_low fact taken (other_window fact) (equal_window fact) (value_low fact _) (value_low fact _)
window_low Equal taken fact = either_low fact taken (equal_window fact) (other_window fact) (value_low fact _) (value_low fact _)
window_low NoCarry taken fact = either_low fact taken (lower_window fact) (upper_window fact) (value_low fact _) (value_low fact _)
window_low Carry taken fact = either_low fact taken (upper_window fact) (lower_window fact) (value_low fact _) (value_low fact _)
window_low Negative taken fact = tt
window_low GreaterOrEqual taken fact = either_low fact taken (greater_window fact) (less_window fact) (value_low fact _) (value_low fact _)
window_low Less taken fact = either_low fact taken (less_window fact) (greater_window fact) (value_low fact _) (value_low fact _)
window_low Always taken fact = tt

-- A register added to itself.
use Rattle.std.proofs.Common.{◌≡◌, ℕ, Some, List, refl}
use Rattle.value_set.specs.declared.form.Form.{Form}
use Rattle.value_set.specs.declared.form.Form.TheVariants.{Values, Run}
use Rattle.value_set.specs.declared.form.Progression.{Progression}
use Rattle.value_set.specs.Summing.{single, twice}
use Rattle.value_bits.specs.declared.tri.Tri.TheVariants.{Either}
use Rattle.msp430_decode.specs.declared.instr.Width.{Width}
use Rattle.msp430_chip.specs.Arithmetic.{modulus}
use Rattle.msp430_results.specs.declared.flag_bits.FlagBits.{FlagBits}
use Rattle.msp430_results.specs.declared.flags.FlagRule.TheVariants.{Twice}
use Rattle.msp430_results.specs.FlagSets.{all_agree, shown_flags, MadeSet}
use Rattle.msp430_results.specs.Results.{twice_flags}
use Rattle.msp430_results.specs.Rules.{flags_by}

pub twice_list : (width : Width) (set sums none : Form) (xs : List ℕ) (flags : FlagBits) → set ≡ Values xs
    → sums ≡ twice (modulus width) set → none ≡ single 0
    → flags ≡ all_agree (modulus width) (flags_by Twice width) set none (single 0)
    → ◌≡◌ {A = MadeSet} (sums, Some flags) (twice_flags width set)
twice_list width (Values ys) sums none xs flags is p q r = rw (p, r, q) refl
twice_list width (Run p) sums none xs flags is h q r = absurd (cc)

pub twice_run : (width : Width) (set sums : Form) (run : Progression) (flags : FlagBits) → set ≡ Run run → sums ≡ twice (modulus width) set
    → flags ≡ shown_flags width sums Either Either → ◌≡◌ {A = MadeSet} (sums, Some flags) (twice_flags width set)
twice_run width (Values ys) sums run flags is p r = absurd (cc)
twice_run width (Run p) sums run flags is h r = rw (r, h) refl

-- The set of all even words.
use Rattle.std.proofs.Common.{◌≡◌, ℕ, ◌+◌, ◌*◌, ◌/◌, ◌%◌, ◌<◌, refl, subst, arith, Contains}
use Rattle.value_set.specs.Form.{Fits, Has, steps}
use Rattle.irq_frames.specs.KnownLaws.{KnownLaws}
use Rattle.msp430_state.specs.Forms.{AreEvenWords}
use Rattle.msp430_state.specs.Known.{even_words}

fits : Fits 65536 2 32768
fits = record { positive = omega arith; some = omega arith; once = omega arith; strides = λ more. omega arith }

pub even_words_have : KnownLaws → (v : ℕ) → v < 65536 → v % 2 ≡ 0 → Has 65536 even_words v
even_words_have laws v small even =
    let value : (0 + v / 2 * 2) % 65536 ≡ v = omega arith in
    (laws.sets.run_exact 65536 0 2 32768 v fits).1
    (subst (Contains (steps 65536 0 2 32768)) value (laws.sets.steps_have 65536 0 2 32768 (v / 2) (omega (arith, small))))

pub even_words_form : KnownLaws → AreEvenWords even_words
even_words_form laws = record {
  normal = laws.sets.run_normal 65536 0 2 32768 fits;
  even = laws.sets.run_remainder 65536 2 0 2 32768 refl refl;
}

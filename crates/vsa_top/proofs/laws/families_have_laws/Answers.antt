use Rattle.std.proofs.Common.{inl, inr}
use Rattle.std.specs.Prelude.{ℕ, Option, List}
use Rattle.analysis_limits.specs.declared.limits.Limits.{Limits}
use Rattle.mcs51_flow.specs.Standing.{instr_text as mcs51_text}
use Rattle.msp430_flow.specs.Standing.{instr_text as msp430_text}
use Rattle.vsa_top.specs.Laws.{AreOneOf, AreTrueOf, IsGiven}
use Rattle.vsa_top.specs.Settings.{mcs51_setting, msp430_setting}
use Rattle.vsa_top.proofs.LawsLemmas.{is_mcs51, is_msp430, of_each}
use Rattle.vsa_top.proofs.laws.families_have_laws.Goals as goal

pub returns-clause-truths : goal.returns-clause-truths
returns-clause-truths c = of_each (λ target. (limits : Limits) (image : List (Option ℕ)) → IsGiven target limits image → AreTrueOf target limits image)
    (λ ram limits image given. let setting = msp430_setting ram limits image in
    c.chips_have_laws.ensures.truths setting msp430_text (is_msp430 ram limits image given) (inl (c.stacks_grow_by_words.ensures setting)))
    (λ limits image given. let setting = mcs51_setting limits image in
    c.chips_have_laws-2.ensures.truths setting mcs51_text (is_mcs51 limits image given) (inr (c.stacks_grow_by_bytes.ensures setting)))

pub returns-clause-one : goal.returns-clause-one
returns-clause-one c = of_each (λ target. (limits : Limits) (image : List (Option ℕ)) → AreOneOf target limits image)
    (λ ram limits image. c.chips_have_laws.ensures.one (msp430_setting ram limits image) msp430_text)
    (λ limits image. c.chips_have_laws-2.ensures.one (mcs51_setting limits image) mcs51_text)

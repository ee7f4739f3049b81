-- A chip with a program, as all that is asked of it is said: whichever chip it is.
use Rattle.std.specs.Prelude.{ℕ, Option, List}
use Rattle.analysis_limits.specs.declared.limits.Limits.{Limits}
use Rattle.chip_analysis.specs.Analysis.{Analysis}
use Rattle.chip_law.specs.Machine.{Machine}
use Rattle.mcs51_flow.specs.Chip.{mcs51_analysis}
use Rattle.mcs51_flow.specs.Machine.{mcs51_machine}
use Rattle.mcs51_flow.specs.Standing.{instr_text as mcs51_text}
use Rattle.mcs51_flow.specs.Texts.{mcs51_texts}
use Rattle.msp430_flow.specs.Chip.{msp430_analysis}
use Rattle.msp430_flow.specs.Machine.{msp430_machine}
use Rattle.msp430_flow.specs.Standing.{instr_text as msp430_text}
use Rattle.msp430_flow.specs.Texts.{msp430_texts}
use Rattle.state_text.specs.Texts.{StateTexts}
use Rattle.vsa_top.specs.Settings.{device_of, mcs51_setting, msp430_setting}
use Rattle.vsa_words.specs.declared.reading.Target.{Target}
use Rattle.vsa_words.specs.declared.reading.Target.TheVariants.{Msp430, Mcs51}

pub record Family : Type 1 where
  -- the chip's single states, and what it does with the program in them
  pub State : Type 0
  pub machine : Machine State
  -- the states of an analysis, what it makes of the program under limits, and how a certificate spells them
  pub Abs : Type 0
  pub analysis : Limits → Analysis Abs
  pub texts : StateTexts Abs
  -- the text of an instruction, by its address and its bytes
  pub text_of : ℕ → List ℕ → List ℕ

-- each chip with an image: the one place that has a row for each of them
abbrev pub family_of : Target → (image : List (Option ℕ)) → Family
family_of (Msp430 ram) image = record {
  State = _;
  machine = msp430_machine (device_of ram image);
  Abs = _;
  analysis = λ limits. msp430_analysis (msp430_setting ram limits image);
  texts = msp430_texts (device_of ram image);
  text_of = msp430_text;
}
family_of Mcs51 image = record {
  State = _;
  machine = mcs51_machine image;
  Abs = _;
  analysis = λ limits. mcs51_analysis (mcs51_setting limits image);
  texts = mcs51_texts;
  text_of = mcs51_text;
}

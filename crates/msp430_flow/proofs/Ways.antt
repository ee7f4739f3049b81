-- Where an instruction goes on, by cases.
use Rattle.std.proofs.Common.{◌≡◌, ℕ, ◌<◌, true, false, None, subst}
use Rattle.std.proofs.lemmas.Bool.{cond_both}
use Rattle.call_context.specs.declared.node.Frame.{Frame}
use Rattle.chip_flow.specs.Along.{limited_is, limited_open}
use Rattle.chip_flow.specs.declared.going.Onward.{Onward}
use Rattle.chip_flow.specs.declared.going.Onward.TheVariants as onward
use Rattle.value_set.specs.declared.form.Form.{Form}
use Rattle.value_set.specs.Summing.{count_of}
use Rattle.msp430_decode.specs.declared.instr.Instr.{Instr}
use Rattle.msp430_decode.specs.declared.instr.Instr.TheVariants as instr
use Rattle.msp430_state.specs.Known.{Known}
use Rattle.msp430_alu.specs.Formats.{Worked}
use Rattle.msp430_flow.specs.declared.setting.Setting.{Setting}
use Rattle.msp430_flow.specs.Chip.{onward_of}
use Rattle.msp430_flow.specs.Running.{fact_of, followed, gie_of, leaves_frame, onward_by, ways_onward}

-- neither left open nor a return
abbrev HasWays : Onward Known → Type 0
HasWays (onward.Leaves a) = ⊥
HasWays (onward.Open targets) = ⊥
HasWays (onward.Lands targets a) = Unit {0}
HasWays (onward.Jumps behind target on jumped) = Unit {0}

has_ways : (pc : ℕ) (its : Instr) (next : Form) (a : Known) → HasWays (ways_onward pc its next a)
has_ways pc (instr.Double operation width origin target) next a = tt
has_ways pc (instr.Single operation width operand) next a = tt
has_ways pc (instr.Jump condition offset) next a = tt
has_ways pc instr.ReturnFromInterrupt next a = tt

module _ (setting : Setting) (frame : Frame) (a : Known) (pc : ℕ) (its : Instr) (made : Worked) where
  abbrev ways_so : Onward Known
  ways_so = ways_onward pc its made.next (followed (gie_of a) (fact_of its made.after) made.after)

  pub onward_cases : (Is : Onward Known → Type 0)
      → (leaves_frame setting.device frame a its ≡ true → Is (onward.Leaves (followed (gie_of a) None made.after)))
      → (leaves_frame setting.device frame a its ≡ false → Is (onward.Open made.next))
      → (leaves_frame setting.device frame a its ≡ false → Is ways_so) → Is (onward_of setting frame a pc its made)
  onward_cases Is back beyond along =
      cond_both (leaves_frame setting.device frame a its) (onward.Leaves (followed (gie_of a) None made.after)) (onward_by setting.limits.targets (gie_of a) pc its made.next made.after) Is back
      (λ stays. limited_is setting.limits.targets made.next ways_so Is (beyond stays) (along stays))

  -- a site that is left open has more targets than are followed
  pub open_of : (values : Form) → onward_of setting frame a pc its made ≡ onward.Open values
      → (made.next ≡ values) × (setting.limits.targets < count_of 65536 values)
  open_of values is =
      cond_both (leaves_frame setting.device frame a its) (onward.Leaves (followed (gie_of a) None made.after)) (onward_by setting.limits.targets (gie_of a) pc its made.next made.after)
      (λ (o : Onward Known). o ≡ onward.Open values → (made.next ≡ values) × (setting.limits.targets < count_of 65536 values))
      (λ _ same. absurd (cc)) (λ _ same. limited_open setting.limits.targets made.next values ways_so
      (λ e. subst HasWays e (has_ways pc its made.next (followed (gie_of a) (fact_of its made.after) made.after))) same) is

  -- what is left at the exit of a frame is behind a return
  pub leaves_back : (b : Known) → onward_of setting frame a pc its made ≡ onward.Leaves b → leaves_frame setting.device frame a its ≡ true
  leaves_back b is = onward_cases (λ (o : Onward Known). o ≡ onward.Leaves b → leaves_frame setting.device frame a its ≡ true)
      (λ leaves_so _. leaves_so) (λ _ same. absurd (cc))
      (λ _ same. absurd (subst HasWays same (has_ways pc its made.next (followed (gie_of a) (fact_of its made.after) made.after)))) is

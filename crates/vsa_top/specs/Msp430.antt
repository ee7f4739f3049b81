-- The MSP430 as it is disassembled and run: by its table, its texts and its step.
use Rattle.std.specs.Prelude.{ℕ, ◌≡◌, Option, None, Some, Result, Ok, Err, List}
use Rattle.disassembly.specs.Listing.{Found}
use Rattle.msp430_chip.specs.declared.device.Device.{Device}
use Rattle.msp430_chip.specs.declared.state.ChipState.{ChipState}
use Rattle.msp430_chip.specs.declared.state.Wild.{Wild}
use Rattle.msp430_chip.specs.State.{first_state, register_of}
use Rattle.msp430_chip.specs.Step.{step_of}
use Rattle.msp430_decode.specs.declared.instr.Instr.{Instr}
use Rattle.msp430_decode.specs.declared.refusal.NoInstr.{NoInstr}
use Rattle.msp430_decode.specs.Standing.{Decodes}
use Rattle.msp430_decode.specs.Table.{bytes_of}
use Rattle.msp430_emu.specs.Planning.{item_of}
use Rattle.msp430_flow.specs.Standing.{instr_text}
use Rattle.msp430_text.specs.Text.{text_of}
use Rattle.run_trace.specs.Runner.{Runner}
use Rattle.run_trace.specs.Trace.{Ended, run_of}

-- the bytes and the text of what the decoder answers
abbrev pub msp430_found : ℕ → Result (Instr × ℕ) NoInstr → Found
msp430_found at (Ok (instr, len)) = Some (bytes_of instr, text_of at instr)
msp430_found at (Err refusal) = None

-- what stands at an even address of an image of the MSP430
abbrev pub msp430_reads : List (Option ℕ) → ℕ → Found → Type 0
msp430_reads image at found = (answer : Result (Instr × ℕ) NoInstr) × Decodes image at answer × (found ≡ msp430_found at answer)

abbrev pub msp430_runner : Device → Runner ChipState Wild
msp430_runner device = record { step = step_of device; pc = λ s. register_of s 0; item = item_of }

-- the run from a reset that leaves 0 in all that is any, along a script
abbrev pub msp430_run : Device → (script : List ℕ) → (steps : ℕ) → Ended
msp430_run device script steps = run_of (msp430_runner device) instr_text steps (first_state device) script

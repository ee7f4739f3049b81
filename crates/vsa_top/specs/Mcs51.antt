-- The MCS-51 as it is disassembled and run: by its table, its texts and its step.
use Rattle.std.specs.Prelude.{ℕ, ◌≡◌, Option, None, Some, Result, Ok, Err, List}
use Rattle.disassembly.specs.Listing.{Found}
use Rattle.mcs51_chip.specs.declared.state.ChipState.{ChipState}
use Rattle.mcs51_chip.specs.State.{first_state}
use Rattle.mcs51_chip.specs.Step.{step_of}
use Rattle.mcs51_decode.specs.declared.instr.Instr.{Instr}
use Rattle.mcs51_decode.specs.declared.refusal.NoInstr.{NoInstr}
use Rattle.mcs51_decode.specs.Encoding.{bytes_of}
use Rattle.mcs51_decode.specs.Standing.{Decodes}
use Rattle.mcs51_emu.specs.Listing.{item_of}
use Rattle.mcs51_flow.specs.Standing.{instr_text}
use Rattle.mcs51_text.specs.Text.{text_of}
use Rattle.run_trace.specs.Runner.{Runner}
use Rattle.run_trace.specs.Trace.{Ended, run_of}

-- the bytes and the text of what the decoder answers
abbrev pub mcs51_found : ℕ → Result (Instr × ℕ) NoInstr → Found
mcs51_found at (Ok (instr, len)) = Some (bytes_of instr, text_of at instr)
mcs51_found at (Err refusal) = None

-- what stands at an address of an image of the MCS-51
abbrev pub mcs51_reads : List (Option ℕ) → ℕ → Found → Type 0
mcs51_reads image at found = (answer : Result (Instr × ℕ) NoInstr) × Decodes image at answer × (found ≡ mcs51_found at answer)

abbrev pub mcs51_runner : List (Option ℕ) → Runner ChipState NoInstr
mcs51_runner image = record { step = step_of image; pc = λ s. s.pc; item = item_of }

-- the run from a reset that leaves 0 in RAM, along a script
abbrev pub mcs51_run : List (Option ℕ) → (script : List ℕ) → (steps : ℕ) → Ended
mcs51_run image script steps = run_of (mcs51_runner image) instr_text steps first_state script

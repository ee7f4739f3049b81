-- Single states of the MCS-51 (Intel, MCS-51 Programmer's Guide and Instruction Set, "Memory Organization" and "Special
-- Function Registers"), as an 8052: 256 bytes of RAM.
use Rattle.std.specs.Prelude.{◌≡◌, ℕ, ◌/◌, ◌%◌, ◌<◌, false, List, length, replicate, All}
use Rattle.mcs51_chip.specs.declared.state.ChipState.{ChipState}

-- PSW holds its bits 7 to 2, IE all but bit 6, and IP its bits 5 to 0
pub record IsChipState (s : ChipState) : Type 0 where
  pub pc : s.pc < 65536
  pub a : s.a < 256
  pub b : s.b < 256
  pub sp : s.sp < 256
  pub dpl : s.dpl < 256
  pub dph : s.dph < 256
  pub psw : s.psw < 256
  pub psw_held : s.psw % 4 ≡ 0
  pub ie : s.ie < 256
  pub ie_held : s.ie / 64 % 2 ≡ 0
  pub ip : s.ip < 64
  pub ram : length s.ram ≡ 256
  pub bytes : All (λ b. b < 256) s.ram

-- "Reset Values of the SFRs": the program starts at 0000h, SP is 07h and the other registers are 0; RAM isn't changed by a
-- reset, and is any when the power comes
abbrev pub reset_with : List ℕ → ChipState
reset_with ram = record {
  pc = 0;
  a = 0;
  b = 0;
  sp = 7;
  dpl = 0;
  dph = 0;
  psw = 0;
  ie = 0;
  ip = 0;
  ram = ram;
  serves_low = false;
  serves_high = false;
}

pub record IsReset (s : ChipState) : Type 0 where
  pub state : IsChipState s
  pub registers : s ≡ reset_with s.ram

-- the state behind a reset in which RAM is 0
abbrev pub first_state : ChipState
first_state = reset_with (replicate 256 0)

-- Where jumps and calls go.
use Rattle.std.specs.Prelude.{ℕ, ◌+◌, ◌*◌, ◌/◌, ◌%◌, nat_lt, if◌then◌else◌, Option, None, Some}
use Rattle.mcs51_decode.specs.declared.instr.Instr.{Instr}
use Rattle.mcs51_decode.specs.declared.instr.Instr.TheVariants.{AbsoluteJump, AbsoluteCall, LongJump, LongCall, JumpOn, JumpOnBit, CompareJump, DecrementJump}
use Rattle.mcs51_decode.specs.Encoding.{length_of}

-- the address behind an instruction; addresses wrap at 16 bits
abbrev pub following : ℕ → Instr → ℕ
following pc instr = (pc + length_of instr) % 65536

-- a relative target counts from the following address, by a signed byte
abbrev pub relative_target : ℕ → ℕ → ℕ
relative_target next rel = if nat_lt rel 128 then (next + rel) % 65536 else (next + rel + 65280) % 65536

-- an absolute target lies in the page of the following address: it has the five top bits of that
abbrev pub absolute_target : ℕ → ℕ → ℕ
absolute_target next target = next / 2048 * 2048 + target % 2048

-- where an instruction at an address jumps or calls, where its bytes say so
abbrev pub target_of : ℕ → Instr → Option ℕ
target_of pc (AbsoluteJump target) = Some (absolute_target (following pc (AbsoluteJump target)) target)
target_of pc (AbsoluteCall target) = Some (absolute_target (following pc (AbsoluteCall target)) target)
target_of pc (LongJump target) = Some target
target_of pc (LongCall target) = Some target
target_of pc (JumpOn when rel) = Some (relative_target (following pc (JumpOn when rel)) rel)
target_of pc (JumpOnBit kind address rel) = Some (relative_target (following pc (JumpOnBit kind address rel)) rel)
target_of pc (CompareJump compared rel) = Some (relative_target (following pc (CompareJump compared rel)) rel)
target_of pc (DecrementJump counted rel) = Some (relative_target (following pc (DecrementJump counted rel)) rel)
target_of pc other = None

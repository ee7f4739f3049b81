-- Numbers of registers are below 8: lemmas, also for the proofs of crates above.
use Rattle.std.proofs.Common.{◌<◌, arith}
use Rattle.mcs51_decode.specs.declared.instr.Pointer.{Pointer}
use Rattle.mcs51_decode.specs.declared.instr.Pointer.TheVariants as pointer
use Rattle.mcs51_decode.specs.declared.instr.Register.{Register}
use Rattle.mcs51_decode.specs.declared.instr.Register.TheVariants as register
use Rattle.mcs51_decode.specs.Encoding.{pointer_number, register_number}

pub pointer_below : (i : Pointer) → pointer_number i < 8
pointer_below pointer.R0 = omega arith
pointer_below pointer.R1 = omega arith

pub register_below : (n : Register) → register_number n < 8
register_below register.R0 = omega arith
register_below register.R1 = omega arith
register_below register.R2 = omega arith
register_below register.R3 = omega arith
register_below register.R4 = omega arith
register_below register.R5 = omega arith
register_below register.R6 = omega arith
register_below register.R7 = omega arith

-- Programs of so many functions that are called one after the other, and their image texts. Codes are those of TI's
-- SLAU049 and of Intel's MCS-51 Programmer's Guide and Instruction Set.
use Rattle.std.specs.Prelude.{◌≡◌, ℕ, ◌+◌, ◌-◌, ◌*◌, ◌/◌, ◌%◌, ◌≤◌, List, [], ◌∷◌, ◌++◌, length, take, drop, flat_map}
use Rattle.image.specs.declared.chip_name.ChipName.{ChipName}
use Rattle.image.specs.declared.chip_name.ChipName.TheVariants.{Msp430, Mcs51}
use Rattle.image_gen.specs.Records.{each, stretch_lines, end_line}

-- a word in the order of the MSP430 and in that of the MCS-51
abbrev pub low_first : ℕ → List ℕ
low_first word = word % 0x100 ∷ word / 0x100 ∷ []

abbrev pub high_first : ℕ → List ℕ
high_first word = word / 0x100 ∷ word % 0x100 ∷ []

-- MSP430: MOV #0A00h,SP has 4 bytes, each CALL 4, JMP 2, and each function 10
abbrev pub msp430_function_at : ℕ → ℕ → ℕ
msp430_function_at number i = 0x4000 + 4 + 4 * number + 2 + 10 * i

-- CALL #f(i)
abbrev pub msp430_call : ℕ → ℕ → List ℕ
msp430_call number i = 0x12B0 ∷ msp430_function_at number i ∷ []

-- ADD #i,R5; MOV R5,&(0200h + 2 * (i mod 64)); MOV @SP+,PC
abbrev pub msp430_function : ℕ → List ℕ
msp430_function i = 0x5035 ∷ i ∷ 0x4582 ∷ (0x0200 + 2 * (i % 64)) ∷ 0x4130 ∷ []

-- MOV #0A00h,SP; the calls; a JMP to itself; the functions
abbrev pub msp430_words : ℕ → List ℕ
msp430_words number =
    0x4031 ∷ 0x0A00 ∷ [] ++ each (msp430_call number) number ++ 0x3FFF ∷ [] ++ each msp430_function number

abbrev pub msp430_program : ℕ → List ℕ
msp430_program number = flat_map low_first (msp430_words number)

-- MCS-51: MOV 81h,#60h has 3 bytes, each LCALL 3, SJMP 2, and each function 7
abbrev pub mcs51_function_at : ℕ → ℕ → ℕ
mcs51_function_at number i = 0x0030 + 3 + 3 * number + 2 + 7 * i

-- LCALL f(i)
abbrev pub mcs51_call : ℕ → ℕ → List ℕ
mcs51_call number i = 0x12 ∷ high_first (mcs51_function_at number i)

-- MOV A,#(i mod 256); ADD A,30h; MOV 30h,A; RET
abbrev pub mcs51_function : ℕ → List ℕ
mcs51_function i = 0x74 ∷ i % 256 ∷ 0x25 ∷ 0x30 ∷ 0xF5 ∷ 0x30 ∷ 0x22 ∷ []

-- MOV 81h,#60h; the calls; an SJMP to itself; the functions
abbrev pub mcs51_program : ℕ → List ℕ
mcs51_program number =
    0x75 ∷ 0x81 ∷ 0x60 ∷ [] ++ each (mcs51_call number) number ++ 0x80 ∷ 0xFE ∷ [] ++ each mcs51_function number

-- the program with the word at FFFEh that starts it, or with the LJMP at 0000h that goes to it
abbrev pub made_image : ChipName → ℕ → List ℕ
made_image Msp430 number =
    stretch_lines 0x4000 (msp430_program number) ++ stretch_lines 0xFFFE (low_first 0x4000) ++ end_line
made_image Mcs51 number =
    stretch_lines 0x0000 (0x02 ∷ high_first 0x0030) ++ stretch_lines 0x0030 (mcs51_program number) ++ end_line

-- bytes stand at an address of a program that starts at another one
abbrev pub StandsAt : ℕ → List ℕ → ℕ → List ℕ → Type 0
StandsAt start program at bytes = (start ≤ at) × (take (length bytes) (drop (at - start) program) ≡ bytes)

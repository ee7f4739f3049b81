-- The numbers that a place of the suspended state may be read as.
use Rattle.std.proofs.Common.{◌≡◌, ℕ, ◌+◌, ◌-◌, ◌*◌, ◌/◌, ◌%◌, ◌<◌, ◌≤◌, true, false, refl, sym, ap, ◌∙◌, inl, inr, arith}
use Rattle.std.specs.Prelude.{◌⊎◌, ◌==◌, ◌||◌, nat_lt, if◌then◌else◌, bit_and, slice_index}
use Rattle.std.proofs.lemmas.Bool.{cases_Bool, or_cases, cond-true, eqb-true, ltb-true, lt-ltb, le-ltb}
use Rattle.std.proofs.lemmas.List.Elements.{All-get_or}
use Rattle.std.proofs.lemmas.Nat.{and_mask, and_mod, and_shr}
use Rattle.std.proofs.lemmas.Nat.Bits.{and_high_mask}
use Rattle.entry_value.specs.Words.{Reads}
use Rattle.mcs51_chip.specs.declared.place.Sfr.{Sfr}
use Rattle.mcs51_chip.specs.declared.place.Sfr.TheVariants.{Sp, Dpl, Dph, Ie, Ip, Psw, Acc, B, Other}
use Rattle.mcs51_chip.specs.declared.state.ChipState.{ChipState}
use Rattle.mcs51_chip.specs.Leading.{MayReadSfr}
use Rattle.mcs51_chip.specs.Registers.{sfr_at}
use Rattle.mcs51_chip.specs.State.{IsChipState}
use Rattle.mcs51_state.specs.Places.{held_by, is_place, is_remembered, number_of, psw_place, register_of, sfr_of, suspended_of}

-- WHICH PLACES THERE ARE

-- the registers that values remember have addresses from 80h
at_or : (at key : ℕ) → 128 ≤ key → key < 256 → ((at == key) ≡ false → (128 ≤ at) × (at < 256)) → (128 ≤ at) × (at < 256)
at_or at key low high other = elim (cases_Bool (at == key)) [
  | inl e ↦ let same = eqb-true at key e in (omega (arith, same, low), omega (arith, same, high))
  | inr differs ↦ other differs
]

remembered_at : (at : ℕ) → is_remembered (sfr_at at) ≡ true → (128 ≤ at) × (at < 256)
remembered_at at is =
    at_or at 0x81 (omega arith) (omega arith) (λ no_sp.
    at_or at 0x82 (omega arith) (omega arith) (λ no_dpl.
    at_or at 0x83 (omega arith) (omega arith) (λ no_dph.
    at_or at 0xA8 (omega arith) (omega arith) (λ no_ie.
    at_or at 0xB8 (omega arith) (omega arith) (λ no_ip.
    at_or at 0xD0 (omega arith) (omega arith) (λ no_psw.
    at_or at 0xE0 (omega arith) (omega arith) (λ no_acc.
    at_or at 0xF0 (omega arith) (omega arith) (λ no_b.
    let none : false ≡ true = (rw (no_sp, no_dpl, no_dph, no_ie, no_ip, no_psw, no_acc, no_b) at is) in absurd (cc)))))))))

-- a register, by its place
pub record IsRegister (place : ℕ) : Type 0 where
  pub low : 128 ≤ place - 256
  pub high : place - 256 < 256
  pub remembered : is_remembered (sfr_of place) ≡ true

pub place_cases : (place : ℕ) → is_place place ≡ true → (place < 256) ⊎ (IsRegister place ⊎ ((place ≡ 512) ⊎ (place ≡ 513)))
place_cases place is = elim (or_cases ((nat_lt place 256 || is_remembered (sfr_of place)) || (place == 512)) (place == 513) is) [
  | inl more ↦ elim (or_cases (nat_lt place 256 || is_remembered (sfr_of place)) (place == 512) more) [
    | inl most ↦ elim (or_cases (nat_lt place 256) (is_remembered (sfr_of place)) most) [
      | inl low ↦ inl (ltb-true place 256 low)
      | inr one ↦ let at = remembered_at (place - 256) one in inr (inl (record { low = at.0; high = at.1; remembered = one }))
    ]
    | inr low_byte ↦ inr (inr (inl (eqb-true place 512 low_byte)))
  ]
  | inr high_byte ↦ inr (inr (inr (eqb-true place 513 high_byte)))
]

-- NUMBERS WITH THE SAME BITS

all_bits : (n : ℕ) → n < 65536 → bit_and n 65535 ≡ n
all_bits n small = and_mask n 16 ∙ omega (arith, small)

pub same_alone : (word n : ℕ) → word < 65536 → n < 65536 → bit_and word 65535 ≡ bit_and n 65535 → word ≡ n
same_alone word n word_small small same = sym (all_bits word word_small) ∙ same ∙ all_bits n small

-- all bits but bit 6
enable_low : (n : ℕ) → bit_and n 65471 % 64 ≡ n % 64
enable_low n = and_mod n 65471 6 ∙ and_mask (n % 64) 6 ∙ omega arith

enable_high : (n : ℕ) → n < 65536 → bit_and n 65471 / 128 ≡ n / 128
enable_high n small = and_shr n 65471 7 ∙ and_mask (n / 128) 9 ∙ omega (arith, small)

enable_same : (word ie : ℕ) → word < 65536 → ie < 256 → ie / 64 % 2 ≡ 0 → bit_and word 65471 ≡ bit_and ie 65471
    → (bit : ℕ) × (bit < 2) × (word ≡ ie + 64 * bit)
enable_same word ie word_small small held same =
    let low : word % 64 ≡ ie % 64 = sym (enable_low word) ∙ ap (λ n. n % 64) same ∙ enable_low ie in
    let high : word / 128 ≡ ie / 128 = sym (enable_high word word_small) ∙ ap (λ n. n / 128) same ∙ enable_high ie (omega (arith, small)) in
    (word / 64 % 2, omega arith, omega (arith, low, high, held))

-- bits 5 to 0, and those above 7
priority_low : (n : ℕ) → bit_and n 65343 % 64 ≡ n % 64
priority_low n = and_mod n 65343 6 ∙ and_mask (n % 64) 6 ∙ omega arith

priority_high : (n : ℕ) → n < 65536 → bit_and n 65343 / 256 ≡ n / 256
priority_high n small = and_shr n 65343 8 ∙ and_mask (n / 256) 8 ∙ omega (arith, small)

priority_same : (word ip : ℕ) → word < 65536 → ip < 64 → bit_and word 65343 ≡ bit_and ip 65343
    → (bits : ℕ) × (bits < 4) × (word ≡ ip + 64 * bits)
priority_same word ip word_small small same =
    let low : word % 64 ≡ ip % 64 = sym (priority_low word) ∙ ap (λ n. n % 64) same ∙ priority_low ip in
    let high : word / 256 ≡ ip / 256 = sym (priority_high word word_small) ∙ ap (λ n. n / 256) same ∙ priority_high ip (omega (arith, small)) in
    (word / 64, omega (arith, high, small), omega (arith, low, high, small))

-- bits from 2 on
status_same : (word psw : ℕ) → word < 65536 → psw < 256 → psw % 4 ≡ 0 → bit_and word 65532 ≡ bit_and psw 65532
    → (y : ℕ) × (y < 4) × (word ≡ psw + y)
status_same word psw word_small small held same =
    let high : word / 4 * 4 ≡ psw / 4 * 4 = sym (and_high_mask 16 2 (omega arith) word word_small) ∙ same ∙ and_high_mask 16 2 (omega arith) psw (omega (arith, small)) in
    (word % 4, omega arith, omega (arith, high, held))

-- WHAT IS READ

pub ram_small : (f : ChipState) → IsChipState f → (at : ℕ) → at < 256 → slice_index f.ram at < 256
ram_small f is at inside = All-get_or (λ b. b < 256) f.ram at 0 (omega (arith, inside, is.ram)) is.bytes

none_left : (place : ℕ) → place < 256 → place - 256 ≡ 0
none_left place low = omega arith

pub reads_ram : (f : ChipState) → IsChipState f → (place word : ℕ) → place < 256 → Reads (suspended_of f) place word
    → word ≡ slice_index f.ram place
reads_ram f is place word low (small, same) =
    let n = slice_index f.ram place in
    let number : number_of f place ≡ n = cond-true (nat_lt place 256) n (if nat_lt place 512 then register_of f (sfr_of place) else if place == 512 then f.pc % 256 else f.pc / 256) (lt-ltb place 256 low) in
    let mask : held_by (sfr_of place) ≡ 65535 = ap (λ m. held_by (sfr_at m)) (none_left place low) in
    let byte = ram_small f is place low in
    same_alone word n small (omega (arith, byte)) (ap (bit_and word) (sym mask) ∙ same ∙ ap (λ m. bit_and m (held_by (sfr_of place))) number ∙ ap (bit_and n) mask)

pub reads_status : (f : ChipState) → IsChipState f → (word : ℕ) → Reads (suspended_of f) psw_place word
    → (y : ℕ) × (y < 4) × (word ≡ f.psw + y)
reads_status f is word (small, same) = status_same word f.psw small is.psw is.psw_held same

-- a register, as the chip reads it, but for PSW with its parity
abbrev pub MayReadHeld : ChipState → Sfr → ℕ → Type 0
MayReadHeld f Psw word = (y : ℕ) × (y < 4) × (word ≡ f.psw + y)
MayReadHeld f sfr word = MayReadSfr f sfr word

pub register_reads : (f : ChipState) → IsChipState f → (sfr : Sfr) (word : ℕ) → is_remembered sfr ≡ true → word < 65536
    → bit_and word (held_by sfr) ≡ bit_and (register_of f sfr) (held_by sfr) → MayReadHeld f sfr word
register_reads f is Sp word one small same = absurd (cc)
register_reads f is Dpl word one small same = let byte = is.dpl in same_alone word f.dpl small (omega (arith, byte)) same
register_reads f is Dph word one small same = let byte = is.dph in same_alone word f.dph small (omega (arith, byte)) same
register_reads f is Ie word one small same = enable_same word f.ie small is.ie is.ie_held same
register_reads f is Ip word one small same = priority_same word f.ip small is.ip same
register_reads f is Psw word one small same = status_same word f.psw small is.psw is.psw_held same
register_reads f is Acc word one small same = let byte = is.a in same_alone word f.a small (omega (arith, byte)) same
register_reads f is B word one small same = let byte = is.b in same_alone word f.b small (omega (arith, byte)) same
register_reads f is Other word one small same = absurd (cc)

pub reads_register : (f : ChipState) → IsChipState f → (place word : ℕ) → IsRegister place
    → Reads (suspended_of f) place word → MayReadHeld f (sfr_of place) word
reads_register f is place word one (small, same) =
    let low = one.low in
    let high = one.high in
    let past : nat_lt place 256 ≡ false = le-ltb place 256 (omega (arith, low)) in
    let register : nat_lt place 512 ≡ true = lt-ltb place 512 (omega (arith, high, low)) in
    let number : number_of f place ≡ register_of f (sfr_of place) = rw (past, register) refl in
    register_reads f is (sfr_of place) word one.remembered small (same ∙ ap (λ m. bit_and m (held_by (sfr_of place))) number)

-- What is read of a register holds of each number that it may be read as.
use Rattle.std.proofs.Common.{◌≡◌, ℕ, ◌+◌, ◌*◌, ◌<◌, Bool, Option, length, sym, subst, arith}
use Rattle.std.specs.Option.{option_map}
use Rattle.entry_value.specs.Words.{HoldsOfByte}
use Rattle.value_set.specs.Form.{Has}
use Rattle.irq_frames.specs.KnownLaws.{KnownLaws}
use Rattle.mcs51_chip.specs.declared.place.Sfr.{Sfr}
use Rattle.mcs51_chip.specs.declared.place.Sfr.TheVariants.{Sp, Dpl, Dph, Ie, Ip, Psw, Acc, B, Other}
use Rattle.mcs51_chip.specs.declared.state.ChipState.{ChipState}
use Rattle.mcs51_chip.specs.Leading.{MayReadSfr}
use Rattle.mcs51_chip.specs.NumberFacts.{parity_below}
use Rattle.mcs51_chip.specs.Registers.{parity}
use Rattle.mcs51_state.specs.Known.{Known}
use Rattle.mcs51_state.specs.Places.{suspended_of}
use Rattle.mcs51_state.specs.Under.{IsUnder}
use Rattle.mcs51_state.specs.Reading.{register_byte, status_bits, status_byte}
use Rattle.mcs51_state.proofs.BitReads.{status_agrees}
use Rattle.mcs51_state.proofs.ReadRelations.{status_is}

-- the bits of PSW that it doesn't hold, as it is read
pub unheld_bits : (psw bit p x : ℕ) → bit < 2 → p < 2 → x ≡ psw + 2 * bit + p → (y : ℕ) × (y < 4) × (x ≡ psw + y)
unheld_bits psw bit p x few less is = (2 * bit + p, omega (arith, few, less), omega (arith, is))

-- PSW as a byte, whatever those bits are
pub status_held : (laws : KnownLaws) (framed : Bool) (known : Known) (s : ChipState) (first : Option ChipState)
    → IsUnder framed known s first
    → (x y : ℕ) → y < 4 → x ≡ s.psw + y → HoldsOfByte (option_map suspended_of first) (status_byte known.psw) x
status_held laws framed known s first under x y less is =
    let held = under.holds.parts.psw in
    let none = under.holds.state.psw_held in
    let count : length (status_bits known.psw.bits) ≡ 8 = omega (arith, under.form.bits) in
    subst (HoldsOfByte (option_map suspended_of first) (status_byte known.psw)) (sym is) (
      laws.bits.from 8 (s.psw + y) (status_bits known.psw.bits) count (status_agrees known.psw.bits s.psw y none less held.bits),
      status_is framed first known.psw.entry s.psw y under.form.psw none less held.entry,
    )

pub register_is : (laws : KnownLaws) (framed : Bool) (known : Known) (s : ChipState) (first : Option ChipState)
    → IsUnder framed known s first
    → (sfr : Sfr) (x : ℕ) → MayReadSfr s sfr x
    → HoldsOfByte (option_map suspended_of first) (register_byte known sfr) x
register_is laws framed known s first under Sp x is = (subst (Has 256 known.sp) (sym is) under.holds.parts.sp, tt)
register_is laws framed known s first under Dpl x is = subst (HoldsOfByte (option_map suspended_of first) known.dpl) (sym is) under.holds.parts.dpl
register_is laws framed known s first under Dph x is = subst (HoldsOfByte (option_map suspended_of first) known.dph) (sym is) under.holds.parts.dph
register_is laws framed known s first under Ie x may = under.holds.parts.ie x may
register_is laws framed known s first under Ip x may = under.holds.parts.ip x may
register_is laws framed known s first under Psw x (bit, few, is) =
    let (y, less, same) = unheld_bits s.psw bit (parity s.a) x few (parity_below s.a) is in
    status_held laws framed known s first under x y less same
register_is laws framed known s first under Acc x is = subst (HoldsOfByte (option_map suspended_of first) known.a) (sym is) under.holds.parts.a
register_is laws framed known s first under B x is = subst (HoldsOfByte (option_map suspended_of first) known.b) (sym is) under.holds.parts.b
register_is laws framed known s first under Other x small = (laws.sets.whole 256 x small, tt)

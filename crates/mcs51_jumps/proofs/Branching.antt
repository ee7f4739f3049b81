-- A jump that is taken, and one that isn't.
use Rattle.std.proofs.Common.{◌≡◌, ℕ, ◌<◌, Bool, true, false, Option, Some, ap}
use Rattle.mcs51_decode.specs.Targets.{relative_target}
use Rattle.mcs51_chip.specs.declared.state.ChipState.{ChipState}
use Rattle.mcs51_chip.specs.NumberFacts.{target_below}
use Rattle.mcs51_chip.specs.Step.{branched, going_to}
use Rattle.mcs51_state.specs.Known.{Known}
use Rattle.mcs51_state.specs.Under.{IsUnder}
use Rattle.mcs51_state.specs.Doing.{Goes, GoesOn, Jumps}
use Rattle.mcs51_jumps.proofs.PartLaws.{PartLaws}

-- the program counter doesn't count
moved : (laws : PartLaws) (framed : Bool) (first : Option ChipState) (behind : Known) (t : ChipState) (pc : ℕ)
    → pc < 65536 → IsUnder framed behind t first
    → IsUnder framed behind (going_to pc t) first
moved laws framed first behind t pc small under = laws.instructions.stores.writes.counter framed first pc small behind t under

pub jumps : (laws : PartLaws) (framed : Bool) (first : Option ChipState) (on jumped : Option Known) (behind : Known) (rel : ℕ) (s t : ChipState)
    → jumped ≡ Some behind → t.pc ≡ s.pc → IsUnder framed behind t first
    → Goes framed first (relative_target s.pc rel) on jumped s (branched true rel t)
jumps laws framed first on jumped behind rel s t way same under =
    Jumps behind way (ap (λ pc. relative_target pc rel) same) (moved laws framed first behind t (relative_target t.pc rel) (target_below t.pc rel) under)

pub goes_on : (laws : PartLaws) (framed : Bool) (first : Option ChipState) (on jumped : Option Known) (behind : Known) (rel : ℕ) (s t : ChipState)
    → on ≡ Some behind → t.pc ≡ s.pc → IsUnder framed behind t first
    → Goes framed first (relative_target s.pc rel) on jumped s (branched false rel t)
goes_on laws framed first on jumped behind rel s t way same under =
    GoesOn behind way (record { onward = same; under = moved laws framed first behind t t.pc under.holds.state.pc under })

-- by what is known on the way that the chip goes
pub goes : (laws : PartLaws) (framed : Bool) (first : Option ChipState) (way : Bool → Option Known) (taken : Bool) (behind : Known) (rel : ℕ) (s t : ChipState)
    → way taken ≡ Some behind → t.pc ≡ s.pc
    → IsUnder framed behind t first → Goes framed first (relative_target s.pc rel) (way false) (way true) s (branched taken rel t)
goes laws framed first way true behind rel s t known same under = jumps laws framed first (way false) (way true) behind rel s t known same under
goes laws framed first way false behind rel s t known same under = goes_on laws framed first (way false) (way true) behind rel s t known same under

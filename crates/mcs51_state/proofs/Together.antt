-- Accesses that are shown one by one are shown together.
use Rattle.std.proofs.Common.{ℕ, Bool, true, false, List, [], ◌∷◌, ◌++◌, inl, inr}
use Rattle.std.proofs.lemmas.List.Elements.{Contains-append_cases, Contains-append_left, Contains-append_right}
use Rattle.call_context.specs.declared.shown.Item.{Item}
use Rattle.mcs51_chip.specs.declared.place.Access.{Access}
use Rattle.mcs51_chip.specs.declared.place.Access.TheVariants.{Internal}
use Rattle.mcs51_chip.specs.declared.place.Address.{Address}
use Rattle.mcs51_chip.specs.Memory.{reads, writes}
use Rattle.mcs51_state.specs.declared.addresses.Addresses.{Addresses}
use Rattle.mcs51_state.specs.Standing.{AreAddresses, MayStandAt}
use Rattle.mcs51_state.specs.Accesses.{read_at, update_at, write_at}
use Rattle.mcs51_state.specs.Showing.{AreShown, access_of}

-- each access of the chip to an operand is shown
abbrev pub ShowsEach : Type 0
ShowsEach = (pc : ℕ) (write : Bool) (at : Addresses) (address : Address) → MayStandAt at address → AreAddresses at
    → AreShown (access_of pc write at ∷ []) pc (Internal write address ∷ [])

pub both_shown : (items others : List Item) (pc : ℕ) (one more : List Access) → AreShown items pc one → AreShown others pc more
    → AreShown (items ++ others) pc (one ++ more)
both_shown items others pc one more shown shown_too access there =
    elim (Contains-append_cases one more access there) [
      | inl here ↦ let shows = shown access here in (shows.0, Contains-append_left items others shows.0 shows.1, shows.2)
      | inr later ↦ let shows = shown_too access later in (shows.0, Contains-append_right items others shows.0 shows.1, shows.2)
    ]

pub read_shown : (shows : ShowsEach) (pc : ℕ) (at : Addresses) (address : Address) → MayStandAt at address → AreAddresses at
    → AreShown (read_at pc at) pc (reads address)
read_shown shows pc at address = shows pc false at address

pub write_shown : (shows : ShowsEach) (pc : ℕ) (at : Addresses) (address : Address) → MayStandAt at address → AreAddresses at
    → AreShown (write_at pc at) pc (writes address)
write_shown shows pc at address = shows pc true at address

pub update_shown : (shows : ShowsEach) (pc : ℕ) (at : Addresses) (address : Address) → MayStandAt at address → AreAddresses at
    → AreShown (update_at pc at) pc (reads address ++ writes address)
update_shown shows pc at address stands form =
    both_shown (read_at pc at) (write_at pc at) pc (reads address) (writes address) (shows pc false at address stands form)
    (shows pc true at address stands form)

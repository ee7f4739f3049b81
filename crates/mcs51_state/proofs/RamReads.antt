-- What is read of RAM holds of what stands there.
use Rattle.std.proofs.Common.{ℕ, ◌<◌, Bool, Option, List, [], ◌∷◌, get_or, refl, sym, subst, inl, arith, Contains}
use Rattle.std.specs.Option.{option_map}
use Rattle.plain_lemmas.specs.Members.{in_one}
use Rattle.entry_value.specs.Cells.{AreCells, StandsUnder, read}
use Rattle.entry_value.specs.Words.{Suspended, HoldsOfByte, IsFromEntry}
use Rattle.value_set.specs.declared.form.Form.{Form}
use Rattle.value_set.specs.Form.{Has, IsNormal, members}
use Rattle.irq_frames.specs.KnownLaws.{KnownLaws}
use Rattle.mcs51_chip.specs.declared.state.ChipState.{ChipState}
use Rattle.mcs51_state.specs.Known.{Known}
use Rattle.mcs51_state.specs.Places.{suspended_of}
use Rattle.mcs51_state.specs.Under.{IsUnder}
use Rattle.mcs51_state.specs.JoinedFacts.{any_has, any_normal}
use Rattle.mcs51_state.specs.Reading.{kept_by, list_relation, ram_byte, ram_relation, ram_set, ram_values}
use Rattle.mcs51_state.proofs.ReadRelations.{found_is, kept_is}

-- ONE ADDRESS

pub ram_normal : (laws : KnownLaws) (known : Known) → AreCells 0 255 0 known.cells.cells → (at : ℕ) → IsNormal 256 (ram_set known at)
ram_normal laws known cells at = laws.bits.low_normal (read known.cells.cells at 1).set (laws.cells.read_normal 0 255 0 at 1 known.cells.cells cells)

ram_held : (laws : KnownLaws) (known : Known) (first : Option Suspended) (ram : ℕ → ℕ) → AreCells 0 255 0 known.cells.cells
    → StandsUnder first known.cells.cells ram → (at : ℕ) → at < 256
    → HoldsOfByte first (record { set = ram_set known at; entry = (read known.cells.cells at 1).entry }) (ram at)
ram_held laws known first ram cells stands at inside =
    laws.values.bytes.to_byte first (ram at) (read known.cells.cells at 1) (laws.cells.read_normal 0 255 0 at 1 known.cells.cells cells) (stands.0 at)
    (laws.cells.reads first ram 0 255 0 at 1 known.cells.cells cells (omega (arith, inside)) (inl refl) stands)

pub values_normal : (laws : KnownLaws) (known : Known) → AreCells 0 255 0 known.cells.cells → (set : Form)
    → IsNormal 256 (ram_values known set)
unfolding ram_values
values_normal laws known cells set = any_normal laws (ram_set known) (ram_normal laws known cells) (members 256 set)

-- OF A STATE

-- a relation is read from one address
list_related : (framed : Bool) (known : Known) (first : Option Suspended) (list : List ℕ) (at v : ℕ) → Contains list at
    → IsFromEntry first (ram_relation framed known at) v
    → IsFromEntry first (list_relation framed known list) v
list_related framed known first [] at v there holds = tt
list_related framed known first (only ∷ []) at v there holds =
    subst (λ n. IsFromEntry first (ram_relation framed known n) v) (sym (in_one only at there)) holds
list_related framed known first (one ∷ next ∷ rest) at v there holds = tt

pub values_have : (laws : KnownLaws) (framed : Bool) (known : Known) (s : ChipState) (first : Option ChipState)
    → IsUnder framed known s first
    → (set : Form) (at : ℕ) → IsNormal 256 set → Has 256 set at
    → Has 256 (ram_values known set) (get_or s.ram at 0)
unfolding ram_values
values_have laws framed known s first under set at normal has =
    let inside = laws.sets.below 256 at set normal has in
    let held = ram_held laws known (option_map suspended_of first) (λ n. get_or s.ram n 0) under.form.cells under.holds.parts.cells at inside in
    any_has laws (ram_set known) (ram_normal laws known under.form.cells) (members 256 set) at (get_or s.ram at 0) has held.0

pub ram_is : (laws : KnownLaws) (framed : Bool) (known : Known) (s : ChipState) (first : Option ChipState) → IsUnder framed known s first
    → (set : Form) (at : ℕ) → IsNormal 256 set → Has 256 set at
    → HoldsOfByte (option_map suspended_of first) (ram_byte framed known set) (get_or s.ram at 0)
ram_is laws framed known s first under set at normal has =
    let inside = laws.sets.below 256 at set normal has in
    let parts = under.holds.parts in
    let held = ram_held laws known (option_map suspended_of first) (λ n. get_or s.ram n 0) under.form.cells parts.cells at inside in
    let kept = kept_is framed known.touched s first at under.base parts.untouched inside (parts.cells.0 at) in (
      values_have laws framed known s first under set at normal has,
      list_related framed known (option_map suspended_of first) (members 256 set) at (get_or s.ram at 0) has
          (found_is (option_map suspended_of first) (read known.cells.cells at 1).entry
          (kept_by framed known.touched at) (get_or s.ram at 0) held.1 kept),
    )

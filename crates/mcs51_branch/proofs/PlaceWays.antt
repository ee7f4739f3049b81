-- What is known of a byte at its place, and what is known where it is cut.
use Rattle.std.proofs.Common.{◌≡◌, ℕ, ◌<◌, Bool, Option, Some, refl, ap, ◌∙◌, subst, arith}
use Rattle.std.specs.Prelude.{slice_index}
use Rattle.std.specs.Option.{option_map}
use Rattle.entry_value.specs.declared.word.Word.{Word}
use Rattle.entry_value.specs.Cells.{read, write_one, written}
use Rattle.entry_value.specs.Words.{HoldsOfByte, HoldsOfWord}
use Rattle.plain_lemmas.specs.Cases.{mapped}
use Rattle.irq_frames.specs.KnownLaws.{KnownLaws}
use Rattle.value_set.specs.declared.form.Form.{Form}
use Rattle.value_set.specs.Form.{Has, IsNormal}
use Rattle.value_set.specs.Laws.{IsBelow}
use Rattle.value_set.specs.Summing.{single}
use Rattle.value_bits.specs.Sets.{low_set}
use Rattle.mcs51_chip.specs.declared.state.ChipState.{ChipState}
use Rattle.mcs51_state.specs.declared.fact.Compared.{Compared}
use Rattle.mcs51_state.specs.declared.fact.Compared.TheVariants.{Accumulator, Ram}
use Rattle.mcs51_state.specs.Forms.{IsByte, IsChipCell, IsCompared, IsKnown}
use Rattle.mcs51_state.specs.Holding.{compared_in}
use Rattle.mcs51_state.specs.Known.{Known}
use Rattle.mcs51_state.specs.Places.{suspended_of}
use Rattle.mcs51_state.specs.Under.{IsUnder}
use Rattle.mcs51_branch.specs.declared.window.Window.{Window}
use Rattle.mcs51_branch.specs.Cuts.{IsInside, cut_to, place_cut, set_at, with_set, words_of}
use Rattle.mcs51_branch.proofs.Cells.{cell_normal, cell_put, cell_put_form, cell_read, cells_alike, read_relation, write_each, written_same}
use Rattle.mcs51_branch.proofs.Cutting.{part_has, part_normal}

-- WHAT IS KNOWN

pub set_normal : (laws : KnownLaws) (framed : Bool) (place : Compared) (known : Known) → IsKnown framed known
    → IsNormal 256 (set_at place known)
set_normal laws framed Accumulator known form = form.a.normal
set_normal laws framed (Ram at) known form = laws.bits.low_normal (read known.cells.cells at 1).set (cell_normal laws.cells at known.cells.cells form.cells)

pub set_has : (laws : KnownLaws) (framed : Bool) (place : Compared) (known : Known) (s : ChipState) (first : Option ChipState)
    → IsCompared place
    → IsUnder framed known s first → Has 256 (set_at place known) (compared_in place s)
set_has laws framed Accumulator known s first is under = under.holds.parts.a.0
set_has laws framed (Ram at) known s first is under =
    let cells = known.cells.cells in
    let byte : slice_index s.ram at < 256 = under.holds.parts.cells.0 at in
    let word = cell_read laws.cells (option_map suspended_of first) (slice_index s.ram) at cells under.form.cells (omega (arith, is)) under.holds.parts.cells in
    subst (Has 256 (low_set (read cells at 1).set)) (omega (arith, byte)) (laws.bits.low (slice_index s.ram at) (read cells at 1).set (cell_normal laws.cells at cells under.form.cells) word.0)

-- OTHER NUMBERS

zero_normal : KnownLaws → IsNormal 256 (single 0)
zero_normal laws = (laws.sets.single 256 0 (omega arith)).0

words_normal : (laws : KnownLaws) (set : Form) → IsNormal 256 set → IsNormal 65536 (words_of set)
words_normal laws set normal = laws.bits.pair_normal set (single 0) normal (zero_normal laws)

words_below : (laws : KnownLaws) (set : Form) → IsNormal 256 set → IsBelow 65536 256 (words_of set)
words_below laws set normal v has = laws.bits.pair_byte set v normal has

words_have : (laws : KnownLaws) (set : Form) (v : ℕ) → IsNormal 256 set → Has 256 set v → Has 65536 (words_of set) v
words_have laws set v normal has =
    subst (Has 65536 (words_of set)) (omega arith) (laws.bits.pair v 0 set (single 0) normal (zero_normal laws) has (laws.sets.single 256 0 (omega arith)).1)

pub with_set_form : (laws : KnownLaws) (framed : Bool) (place : Compared) (known : Known) (set : Form) → IsCompared place → IsNormal 256 set
    → IsKnown framed known → IsKnown framed (with_set place known set)
unfolding with_set
with_set_form laws framed Accumulator known set is normal form =
    let a : IsByte framed (record { set = set; entry = known.a.entry }) = record { normal = normal; entry = form.a.entry } in
    assumption (form, a)
with_set_form laws framed (Ram at) known set is normal form =
    let map = known.cells in
    let word : Word = record { set = words_of set; entry = (read map.cells at 1).entry } in
    let from = laws.cells.write_lo at 1 map word ∙ form.from in
    let up_to = laws.cells.write_hi at 1 map word ∙ form.up_to in
    let cells = cell_put_form laws.cells at map word form.from form.up_to form.cells (words_normal laws set normal) (words_below laws set normal) in
    let chip : IsChipCell framed (record { place = at; size = 1; word = word }) =
    record { size = refl; entry = read_relation framed map.cells at 1 form.each_cell } in
    let each_cell = write_each (IsChipCell framed) map at 1 word chip form.each_cell in
    assumption (form, from, up_to, cells, each_cell)

pub with_set_under : (laws : KnownLaws) (framed : Bool) (place : Compared) (known : Known) (set : Form) (s : ChipState) (first : Option ChipState)
    → IsCompared place → IsNormal 256 set → Has 256 set (compared_in place s) → IsUnder framed known s first
    → IsUnder framed (with_set place known set) s first
unfolding with_set
with_set_under laws framed Accumulator known set s first is normal has under =
    let held : HoldsOfByte (option_map suspended_of first) (record { set = set; entry = known.a.entry }) s.a = (has, under.holds.parts.a.1) in
    assumption (under, normal, held)
with_set_under laws framed (Ram at) known set s first is normal has under =
    let form = under.form in
    let stands = under.holds.parts.cells in
    let map = known.cells in
    let ram = slice_index s.ram in
    let word : Word = record { set = words_of set; entry = (read map.cells at 1).entry } in
    let suspended = option_map suspended_of first in
    let byte : ram at < 256 = stands.0 at in
    let old = cell_read laws.cells suspended ram at map.cells form.cells (omega (arith, is)) stands in
    let held : HoldsOfWord suspended word (ram at) = (words_have laws set (ram at) normal has, old.1) in
    let words = words_normal laws set normal in
    let bytes = words_below laws set normal in
    let put = cell_put laws.cells suspended ram at (ram at) map word form.from form.up_to form.cells (omega (arith, is)) words bytes stands held in
    let put_form = cell_put_form laws.cells at map word form.from form.up_to form.cells words bytes in
    let cells = cells_alike laws.cells suspended (written ram at 1 (ram at)) ram (write_one map at 1 word).cells put_form stands.0
    (λ address low high. written_same ram at byte address) put in
    let form_behind = with_set_form laws framed (Ram at) known set is normal form in
    assumption (under, form_behind, cells)

-- THE WAY

-- a subset that still has the byte serves each cut
pub place_way : (laws : KnownLaws) (framed : Bool) (place : Compared) (window : Window) (known : Known) (s : ChipState) (first : Option ChipState)
    → IsCompared place → IsInside (compared_in place s) window
    → IsUnder framed known s first → (way : Known) × (place_cut place window known ≡ Some way) × IsUnder framed way s first
place_way laws framed place window known s first is inside under =
    let (part, cut, normal, has) = part_has laws.sets (compared_in place s) (set_at place known) window (set_normal laws framed place known under.form) (set_has laws framed place known s first is under) inside in (
      with_set place known part,
      ap (option_map (with_set place known)) cut,
      with_set_under laws framed place known part s first is normal has under,
    )

pub place_way_form : (laws : KnownLaws) (framed : Bool) (place : Compared) (window : Window) (known way : Known)
    → IsCompared place → window.low < 256
    → IsKnown framed known → place_cut place window known ≡ Some way → IsKnown framed way
place_way_form laws framed place window known way is low form e =
    let (part, cut, same) = mapped (with_set place known) (cut_to window (set_at place known)) way e in
    subst (IsKnown framed) same (with_set_form laws framed place known part is (part_normal laws.sets (set_at place known) part window (set_normal laws framed place known form) low cut) form)

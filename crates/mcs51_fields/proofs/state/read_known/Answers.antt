use Rattle.std.proofs.Common.{◌∙◌, ap, refl, sym, List, ℕ}
use Rattle.std.specs.Option.{option_map}
use Rattle.entry_value.specs.Cells.{CellMap}
use Rattle.text_fields.specs.Items.{no_front, no_rest, rest_read}
use Rattle.value_text.specs.Memories.{memory_of}
use Rattle.mcs51_fields.specs.States.{known_of}
use Rattle.mcs51_fields.proofs.StateLemmas.{fields_read, state_of}
use Rattle.mcs51_fields.proofs.state.read_known.Goals as goal

pub returns-in_default : goal.returns-in_default
returns-in_default g c = no_front (fields_read c.args.framed) known_of c.args.text.now c.in_default.ensures

pub returns-in_default-2 : goal.returns-in_default-2
returns-in_default-2 g c =
    no_rest (fields_read c.args.framed) known_of (memory_of 0 255) c.args.text.now c.in-Some.front.1.now c.in-Some.front.0 c.in-Some.ensures
    (ap (option_map {U = CellMap × List (ℕ × ℕ)} (λ x. (g.M.Cells.map x.0, x.1))) (sym c.in_default-2.is) ∙ (rw c.new-ram.ensures at c.in_ok-cells.ensures))

pub returns : goal.returns
returns g c =
    rest_read (fields_read c.args.framed) known_of (memory_of 0 255) c.args.text.now c.in-Some.front.1.now c.in-Some.front.0
    (state_of c.in-Some.front.0) (λ memory. refl) (g.M.Cells.map c.in-Some-2.cells, c.in-Some-2.touched) c.in-Some.ensures
    (ap (option_map {U = CellMap × List (ℕ × ℕ)} (λ x. (g.M.Cells.map x.0, x.1))) (sym c.in-Some-2.is) ∙ (rw c.new-ram.ensures at c.in_ok-cells.ensures))

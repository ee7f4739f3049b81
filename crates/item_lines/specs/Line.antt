-- The lines of items, without their line feeds.
use Rattle.std.specs.Prelude.{ℕ, Bool, ◌==◌, List, [], ◌∷◌, ◌++◌, codes, if◌then◌else◌}
use Rattle.std.specs.List.{flat_map}
use Rattle.call_context.specs.declared.shown.Set.{Set}
use Rattle.call_context.specs.declared.shown.Set.TheVariants.{B, W}
use Rattle.chip_numbers.specs.declared.space.Space.{Space}
use Rattle.chip_numbers.specs.declared.space.Space.TheVariants.{Mem, Ram, Sfr, Xram, Code}
use Rattle.call_context.specs.declared.shown.Item.{Item}
use Rattle.call_context.specs.declared.shown.Item.TheVariants.{Instr, Edge, Access, Stack}
use Rattle.hex_digits.specs.Digits.{hex, short_hex, hex_bytes}
use Rattle.value_set.specs.declared.form.Form.{Form}
use Rattle.value_set.specs.declared.form.Form.TheVariants.{Values, Run}

-- numbers with commas between them
abbrev pub comma_list : ℕ → List ℕ → List ℕ
comma_list digits [] = []
comma_list digits (x ∷ xs) = hex digits x ++ flat_map (λ y. 44 ∷ hex digits y) xs

-- a star for all m numbers, the numbers of a list, or base, stride and count of a run
abbrev pub form_text : (digits m : ℕ) → Form → List ℕ
form_text digits m (Values values) = comma_list digits values
form_text digits m (Run run) =
    if run.count == m then codes "*"
    else hex digits run.base ++ codes "/" ++ short_hex run.stride ++ codes "/" ++ short_hex run.count

abbrev pub word_set_text : Form → List ℕ
word_set_text values = form_text 4 65536 values

abbrev pub byte_set_text : Form → List ℕ
byte_set_text values = form_text 2 256 values

abbrev pub set_text : Set → List ℕ
set_text (B values) = byte_set_text values
set_text (W values) = word_set_text values

abbrev pub space_text : Space → List ℕ
space_text Mem = codes "mem"
space_text Ram = codes "ram"
space_text Sfr = codes "sfr"
space_text Xram = codes "xram"
space_text Code = codes "code"

-- r1, r2, w1 or w2: read or written, and the number of bytes
abbrev pub kind_text : Bool → ℕ → List ℕ
kind_text write size = (if write then 119 else 114) ∷ (if size == 1 then 49 else 50) ∷ []

-- the line of an item, where an instruction at a place has this text
abbrev pub item_line_of : (ℕ → List ℕ → List ℕ) → Item → List ℕ
item_line_of text (Instr pc bytes) = codes "I " ++ hex 4 pc ++ codes " " ++ hex_bytes bytes ++ codes " " ++ text pc bytes
item_line_of text (Edge origin target) = codes "E " ++ hex 4 origin ++ codes " " ++ hex 4 target
item_line_of text (Access pc space write size at) =
    codes "M " ++ hex 4 pc ++ codes " " ++ space_text space ++ codes " " ++ kind_text write size ++ codes " " ++ set_text at
item_line_of text (Stack pc at) = codes "S " ++ hex 4 pc ++ codes " " ++ set_text at

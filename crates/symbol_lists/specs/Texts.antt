-- Which symbols a text has. Its lines are cut as those of an image text are.
use Rattle.std.specs.Prelude.{◌≡◌, ℕ, suc, ◌||◌, if◌then◌else◌, Bool, Option, None, Some, is_some, Result, Ok, Err, List, [], ◌∷◌, ◌++◌, codes}
use Rattle.text_lines.specs.Lines.{lines_of}
use Rattle.text_fields.specs.Fields.{behind}
use Rattle.symbol_lists.specs.declared.fault.SymbolError.{SymbolError}
use Rattle.symbol_lists.specs.declared.fault.SymbolError.TheVariants.{Bad, Memory}
use Rattle.symbol_lists.specs.declared.symbol.Form.{Form}
use Rattle.symbol_lists.specs.declared.symbol.Form.TheVariants.{Nm, Noi, Map}
use Rattle.symbol_lists.specs.Lines.{Entry, map_line, nm_line, noi_line}

abbrev pub begins : List ℕ → List ℕ → Bool
begins name text = is_some (behind name text)

-- a page of a map begins with a form feed
abbrev pub form_of : List ℕ → Form
form_of text =
    if begins (codes "DEF ") text || begins (codes "LOAD ") text then Noi
    else if begins (codes "ASxxxx") text || begins (12 ∷ codes "ASxxxx") text then Map
    else Nm

-- what a line says: perhaps a symbol, and nothing at all where it is of no form
abbrev pub said_in : Form → List ℕ → Option (Option Entry)
said_in Nm line = nm_line line
said_in Noi line = noi_line line
said_in Map line = Some (map_line line)

abbrev pub said_by : Form → List ℕ → Option (Option Entry)
said_by form [] = Some None
said_by form (b ∷ line) = said_in form (b ∷ line)

-- earlier symbols and that of a line, or the line's number
abbrev pub with_said : (number : ℕ) → (earlier : List Entry) → Option (Option Entry) → Result (List Entry) ℕ
with_said number earlier None = Err number
with_said number earlier (Some None) = Ok earlier
with_said number earlier (Some (Some entry)) = Ok (earlier ++ entry ∷ [])

abbrev pub with_line : Form → (number : ℕ) → (earlier : List Entry) → List ℕ → Result (List Entry) ℕ
with_line form number earlier line = with_said number earlier (said_by form line)

abbrev pub go_on : {A B E : Type 0} → (A → Result B E) → Result A E → Result B E
go_on next (Ok a) = next a
go_on next (Err e) = Err e

-- the symbols of so many lines and of those behind them
abbrev pub symbols_behind : Form → (earlier : List Entry) → (count : ℕ) → List (List ℕ) → Result (List Entry) ℕ
symbols_behind form earlier count [] = Ok earlier
symbols_behind form earlier count (line ∷ lines) =
    go_on (λ longer. symbols_behind form longer (suc count) lines) (with_line form (suc count) earlier line)

-- the symbols of a text, or its first line of no form, counted from 1
abbrev pub symbols_of : List ℕ → Result (List Entry) ℕ
symbols_of text = symbols_behind (form_of text) [] 0 (lines_of text)

-- what an error tells of a line, and of a text: nothing where memory ran out
abbrev pub TellsLine : Form → (number : ℕ) → (earlier : List Entry) → List ℕ → SymbolError → Type 0
TellsLine form number earlier line (Bad refused own) = (with_line form number earlier line ≡ Err refused) × (own ≡ form)
TellsLine form number earlier line Memory = Unit {0}

abbrev pub Tells : List ℕ → SymbolError → Type 0
Tells text (Bad line form) = (symbols_of text ≡ Err line) × (form ≡ form_of text)
Tells text Memory = Unit {0}

use Rattle.std.proofs.Common.{◌≡◌, ◌≤◌, ◌+◌, length, map}
use Rattle.symbol_lists.specs.Lines.{entry_of}
use Rattle.symbol_lists.specs.Texts.{form_of}
use Rattle.symbol_lists.proofs.Text.{IsRead}
use Rattle.symbol_lists.proofs.reading.read_symbols.Given as goal

-- the symbols so far, and the rest of the text
abbrev pub invariant-loop-line : goal.invariant-loop-line
invariant-loop-line l = record {
  form : l.form ≡ form_of l.text;
  read : IsRead l.text (map entry_of l.list.items) l.count l.rest;
  count : l.count + length l.rest ≤ length l.text;
}

abbrev pub decreases-loop-line : goal.decreases-loop-line
decreases-loop-line l = length l.rest

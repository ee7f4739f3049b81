-- The text of a report, line by line.
use Rattle.std.specs.Prelude.{ℕ, List, [], ◌∷◌, ◌++◌, codes, flat_map, Bool, if◌then◌else◌}
use Rattle.hex_digits.specs.Digits.{hex}
use Rattle.report_lines.specs.declared.line.Edge.{Edge}
use Rattle.report_lines.specs.declared.line.Instr.{Instr}
use Rattle.report_lines.specs.declared.line.Access.{Access}
use Rattle.report_lines.specs.declared.line.Open.{Open}
use Rattle.report_lines.specs.declared.line.Stack.{Stack}
use Rattle.report_lines.specs.declared.line.Space.{Space}
use Rattle.report_lines.specs.declared.line.Space.TheVariants.{Mem, Ram, Sfr, Xram, Code}
use Rattle.report_lines.specs.declared.line.Kind.{Kind}
use Rattle.report_lines.specs.declared.line.Kind.TheVariants.{ReadOne, ReadTwo, WriteOne, WriteTwo}
use Rattle.report_lines.specs.declared.line.Cause.{Cause}
use Rattle.report_lines.specs.declared.line.Cause.TheVariants.{Fetch, Targets, Store}
use Rattle.report_lines.specs.declared.line.Line.{Line}
use Rattle.report_lines.specs.declared.line.Line.TheVariants as line

abbrev pub edge_text : Edge → List ℕ
edge_text e = hex 4 e.from ++ codes " " ++ hex 4 e.to

abbrev pub instr_text : Instr → List ℕ
instr_text i = hex 4 i.pc ++ codes " " ++ i.bytes.now ++ codes " " ++ i.text.now

abbrev pub space_text : Space → List ℕ
space_text Mem = codes "mem"
space_text Ram = codes "ram"
space_text Sfr = codes "sfr"
space_text Xram = codes "xram"
space_text Code = codes "code"

abbrev pub kind_text : Kind → List ℕ
kind_text ReadOne = codes "r1"
kind_text ReadTwo = codes "r2"
kind_text WriteOne = codes "w1"
kind_text WriteTwo = codes "w2"

abbrev pub access_text : Access → List ℕ
access_text a = hex 4 a.pc ++ codes " " ++ space_text a.space ++ codes " " ++ kind_text a.kind ++ codes " " ++ a.at.text.now

abbrev pub cause_text : Cause → List ℕ
cause_text Fetch = codes "Fetch"
cause_text (Targets set) = codes "Targets" ++ 32 ∷ set.text.now
cause_text (Store set) = codes "Store" ++ 32 ∷ set.text.now

abbrev pub open_text : Open → List ℕ
open_text o = hex 4 o.pc ++ codes " " ++ cause_text o.cause

abbrev pub stack_text : Stack → List ℕ
stack_text s = hex 4 s.pc ++ codes " " ++ s.at.text.now

-- a line without its line feed
abbrev pub line_text : Line → List ℕ
line_text (line.Edge e) = codes "E " ++ edge_text e
line_text (line.Instr i) = codes "I " ++ instr_text i
line_text (line.Access a) = codes "M " ++ access_text a
line_text (line.Open o) = codes "O " ++ open_text o
line_text (line.Stack s) = codes "S " ++ stack_text s

abbrev pub verdict_text : Bool → List ℕ
verdict_text closed = if closed then codes "CLOSED" else codes "OPEN"

-- the first line of a report and some lines behind it
abbrev pub front_text : Bool → List Line → List ℕ
front_text closed lines = verdict_text closed ++ 10 ∷ [] ++ flat_map (λ line. line_text line ++ 10 ∷ []) lines

-- a whole report, with the text of its summary
abbrev pub report_text : Bool → List Line → List ℕ → List ℕ
report_text closed lines summary = front_text closed lines ++ codes "T " ++ summary ++ 10 ∷ []

-- The line that tells why a certificate is refused: NO, the number of the line, the fault, and what it is about.
use Rattle.std.specs.Prelude.{ℕ, List, [], ◌∷◌, ◌++◌, codes}
use Rattle.std.specs.Fmt.{decimal}
use Rattle.call_context.specs.declared.node.Node.{Node}
use Rattle.chip_analysis.specs.declared.cause.Cause.{Cause}
use Rattle.report_bytes.specs.Opens.{open_line_of}
use Rattle.node_fields.specs.Nodes.{node_field}
use Rattle.node_fields.specs.declared.outside.Outside.{Outside}
use Rattle.cert_text.specs.declared.fault.LineFault.{LineFault}
use Rattle.cert_text.specs.declared.fault.LineFault.TheVariants.{Syntax, Order}
use Rattle.cert_check.specs.declared.refusal.Refusal.{Refusal}
use Rattle.cert_check.specs.declared.refusal.Refusal.TheVariants.{Unknown, NoStart, NotIn, HasOpen}

abbrev pub line_of : List ℕ → List ℕ
line_of text = codes "NO " ++ text ++ codes "\n"

-- FAULTS OF READING

abbrev pub fault_name : LineFault → List ℕ
fault_name Syntax = codes "Syntax"
fault_name Order = codes "Order"

unfoldable pub fault_line : (line : ℕ) → LineFault → List ℕ
fault_line line fault = line_of (decimal line ++ codes " " ++ fault_name fault)

-- REFUSALS

-- a text without its letter and the space behind that
abbrev pub without_letter : List ℕ → List ℕ
without_letter [] = []
without_letter (letter ∷ []) = []
without_letter (letter ∷ space ∷ text) = text

-- a node as a certificate spells it, without N or X
unfoldable pub node_name : (digits : ℕ) → Node → List ℕ
node_name digits node = without_letter ((node_field digits).text node)

-- an open site as a report shows it, without O
unfoldable pub site_name : (pc : ℕ) → Cause → List ℕ
site_name pc cause = without_letter (open_line_of pc cause)

-- a field, and what was posted and what is held there
unfoldable pub outside_text : Outside → List ℕ
outside_text outside = outside.field ++ codes " " ++ outside.posted ++ codes " " ++ outside.held

-- a line's number, and a name
unfoldable pub headed : (line : ℕ) → (name : List ℕ) → List ℕ
headed line name = decimal line ++ codes " " ++ name ++ codes " "

abbrev pub refusal_text : (digits : ℕ) → Refusal → List ℕ
refusal_text digits (Unknown line target) = headed line (codes "Unknown") ++ node_name digits target
refusal_text digits NoStart = codes "0 NoStart"
refusal_text digits (NotIn line target outside) =
    headed line (codes "NotIn") ++ node_name digits target ++ codes " " ++ outside_text outside
refusal_text digits (HasOpen line pc cause) = headed line (codes "HasOpen") ++ site_name pc cause

-- where a stack pointer has so many digits
abbrev pub refusal_line : (digits : ℕ) → Refusal → List ℕ
refusal_line digits refusal = line_of (refusal_text digits refusal)

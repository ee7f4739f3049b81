-- The names of faults, as they are told.
use Rattle.std.specs.Prelude.{ℕ, List, codes}
use Rattle.ihex_read.specs.declared.fault.HexFault.{HexFault}
use Rattle.ihex_read.specs.declared.fault.HexFault.TheVariants.{NoColon, BadDigit, BadLength, BadSum, BadType, BadTypeLength, OutOfRange, Clash, Misplaced, NoEnd, Trailing, NoReset}

abbrev pub fault_name : HexFault → List ℕ
fault_name NoColon = codes "NoColon"
fault_name BadDigit = codes "BadDigit"
fault_name BadLength = codes "BadLength"
fault_name BadSum = codes "BadSum"
fault_name BadType = codes "BadType"
fault_name BadTypeLength = codes "BadTypeLength"
fault_name OutOfRange = codes "OutOfRange"
fault_name Clash = codes "Clash"
fault_name Misplaced = codes "Misplaced"
fault_name NoEnd = codes "NoEnd"
fault_name Trailing = codes "Trailing"
fault_name NoReset = codes "NoReset"

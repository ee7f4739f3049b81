-- The rules under which the text of a program is read.
use Rattle.std.specs.Prelude.{None}
use Rattle.image.specs.declared.chip_name.ChipName.{ChipName}
use Rattle.image.specs.declared.chip_name.ChipName.TheVariants.{Msp430, Mcs51}
use Rattle.image.specs.declared.ram_range.RamRange.{RamRange}
use Rattle.image.specs.declared.rule_set.Rules.{Rules}
use Rattle.image.specs.declared.rule_set.Rules.TheVariants as rules

-- RAM of the MSP430 from 0200h to 09FFh
abbrev pub made_ram : RamRange
made_ram = record { lo = 0x0200; hi = 0x09FF; mirror = None }

abbrev pub rules_of : ChipName → Rules
rules_of Msp430 = rules.Msp430 made_ram
rules_of Mcs51 = rules.Mcs51

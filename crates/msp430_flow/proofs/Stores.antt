-- Stores that may write a byte of the program.
use Rattle.std.proofs.Common.{◌≡◌, ℕ, true, Option, None, Some, refl, ap, ◌∙◌, is_some}
use Rattle.std.proofs.lemmas.List.Folds.{list_any_at, Any-from_list_any}
use Rattle.value_set.specs.declared.form.Form.{Form}
use Rattle.value_set.specs.Form.{Has, members}
use Rattle.msp430_decode.specs.declared.instr.Width.{Width}
use Rattle.msp430_chip.specs.declared.device.Device.{Device}
use Rattle.msp430_chip.specs.Memory.{hit_at}
use Rattle.msp430_alu.specs.Formats.{IsHit}
use Rattle.msp430_flow.specs.Chip.{CanHit}
use Rattle.msp430_flow.specs.Running.{may_hit}

-- WHERE A STORE HITS, THE TEST SAYS SO

pub hit_told : (device : Device) (width : Width) (set : Form) (at : ℕ) → IsHit device width (Some set) at → may_hit device width set ≡ true
hit_told device width set at (address, has, hits) =
    list_any_at (λ v. is_some (hit_at device width v)) (members 65536 set) has.0 address has.1
    (ap (λ v. is_some (hit_at device width v)) has.2 ∙ ap is_some hits)

-- AN OPEN STORE BREAKS ITS LIMIT

can_at : (device : Device) (width : Width) (set : Form) (address : ℕ) → Has 65536 set address → (hit : Option ℕ)
    → hit_at device width address ≡ hit
    → is_some hit ≡ true → CanHit device width set
can_at device width set address has None is some = absurd (cc)
can_at device width set address has (Some at) is some = record { address = address; at = at; is_address = has; hits = is }

pub may_hit_can : (device : Device) (width : Width) (set : Form) → may_hit device width set ≡ true → CanHit device width set
may_hit_can device width set may =
    let (k, address, inside, there, hits) = Any-from_list_any (λ v. is_some (hit_at device width v)) (members 65536 set) may in
    can_at device width set address (k, inside, there) (hit_at device width address) refl hits

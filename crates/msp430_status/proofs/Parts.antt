-- What holds of registers and RAM behind a write to SR.
use Rattle.std.proofs.Common.{◌≡◌, ℕ, ◌<◌, Option, None, List, length, get_or, set, sym, ap, ◌∙◌, subst, arith, get_or-set_other}
use Rattle.std.specs.Option.{option_map}
use Rattle.std.proofs.lemmas.List.{set-get_or}
use Rattle.value_set.specs.Form.{Has, IsNormal}
use Rattle.value_set.specs.Summing.{single}
use Rattle.value_bits.specs.declared.tri.Tri.{Tri}
use Rattle.value_bits.specs.Bits.{Agrees}
use Rattle.msp430_chip.specs.declared.device.Device.{Device}
use Rattle.msp430_chip.specs.declared.state.ChipState.{ChipState}
use Rattle.msp430_chip.specs.Leading.{LeavesFree}
use Rattle.msp430_chip.specs.Step.{Left, with_status}
use Rattle.msp430_results.specs.FlagSets.{IsResult}
use Rattle.msp430_state.specs.declared.status.Status.{Status}
use Rattle.msp430_state.specs.Holding.{HoldsOfParts, HoldsOfStatus, suspended_of}
use Rattle.msp430_state.specs.Known.{Known}
use Rattle.msp430_alu.specs.Formats.{IsLeft}
use Rattle.msp430_alu.specs.StateFacts.{status_written}
use Rattle.msp430_status.specs.Status.{put_status}

-- registers with another SR
abbrev pub status_left : (registers ram : List ℕ) → (status : ℕ) → Left
status_left registers ram status = record { registers = set registers 2 status; ram = ram; hit = None }

-- a write that sets no flags
pub unflagged : (registers ram : List ℕ) (status : ℕ)
    → with_status None (status_left registers ram status) ≡ status_left registers ram status
unflagged registers ram status = ap (λ (list : List ℕ). record { registers = list; ram = ram; hit = None }) (set-get_or (set registers 2 status) 2 0)

-- an SR that is written, with what is known of it
pub record Writes (first : Option ChipState) (registers ram : List ℕ) (known : Status) (left : Left) : Type 0 where
  pub status : ℕ
  pub holds : HoldsOfStatus (option_map suspended_of first) known status
  pub left_is : left ≡ status_left registers ram status

-- nothing is told of what these bits came from
abbrev pub bits_alone : List Tri → Status
bits_alone bits = record { bits = bits; entry = None }

-- what stands under what is known in front of the write stands under what is known behind it, whatever PC was
pub written_is : ((m v : ℕ) → v < m → IsNormal m (single v) × Has m (single v) v)
    → {device : Device} {a : Known} {first : Option ChipState} {before registers ram : List ℕ} (next : ℕ) {known : Status} {left : Left}
    → length registers ≡ 16 → next < 65536 → get_or registers 0 0 ≡ next
    → ((r : ℕ) → 0 < r → get_or registers r 0 ≡ get_or before r 0) → HoldsOfParts device a first before ram
    → Writes first registers ram known left → IsLeft device (put_status a known) first (single next) left
written_is singles {device} {a} {first} {registers} {ram} next {known} long small counter alike holds writes =
    let one = singles 65536 next small in
    let at : next ≡ get_or (set registers 2 writes.status) 0 0 = sym (get_or-set_other registers 2 0 writes.status 0 (λ e. omega (arith, e)) ∙ counter) in
    let left_so : IsLeft device (put_status a known) first (single next) (status_left registers ram writes.status) = record {
      next_is = subst (IsResult 65536 (single next)) at (record { normal = one.0; has = one.1 });
      parts = status_written registers known writes.status long writes.holds alike holds;
    } in
    subst (IsLeft device (put_status a known) first (single next)) (sym writes.left_is) left_so

-- bits that may be any stand for each SR
pub freed : {first : Option ChipState} {registers ram : List ℕ} (bits : List Tri) {left : Left}
    → ((status : ℕ) → status < 512 → Agrees bits status) → LeavesFree registers ram left
    → Writes first registers ram (bits_alone bits) left
freed bits all free = record {
  status = free.status;
  holds = record { bits = all free.status free.below; entry = tt };
  left_is = free.left_is;
}

-- What is known of registers and RAM holds behind another SR: a lemma, also for the proofs of crates above.
use Rattle.std.proofs.Common.{◌≡◌, ℕ, ◌<◌, ◌≢◌, Option, None, List, length, get_or, set, sym, ◌∙◌, subst, arith, get_or-set_same, get_or-set_other}
use Rattle.std.specs.Option.{option_map}
use Rattle.entry_value.specs.Words.{HoldsOfWord}
use Rattle.value_set.specs.Form.{Has}
use Rattle.msp430_chip.specs.declared.device.Device.{Device}
use Rattle.msp430_chip.specs.declared.state.ChipState.{ChipState}
use Rattle.msp430_state.specs.declared.status.Status.{Status}
use Rattle.msp430_state.specs.Holding.{suspended_of, HoldsOfParts, HoldsOfStatus}
use Rattle.msp430_state.specs.Known.{Known, word_of}

-- the fact goes; PC may be another one
pub status_written : {device : Device} {a : Known} {first : Option ChipState} {before : List ℕ} (registers : List ℕ) {ram : List ℕ} (status : Status) (sr : ℕ)
    → length registers ≡ 16 → HoldsOfStatus (option_map suspended_of first) status sr
    → ((r : ℕ) → 0 < r → get_or registers r 0 ≡ get_or before r 0) → HoldsOfParts device a first before ram
    → HoldsOfParts device (record a { status = status; fact = None }) first (set registers 2 sr) ram
status_written {a} {first} {before} registers status sr long is alike holds =
    let same : (r : ℕ) → 0 < r → r ≢ 2 → get_or before r 0 ≡ get_or (set registers 2 sr) r 0 =
    λ r low other. sym (get_or-set_other registers 2 r sr 0 other ∙ alike r low) in
    record {
      sp = subst (Has 65536 a.sp) (same 1 (omega arith) (λ h. omega (arith, h))) holds.sp;
      status = subst (HoldsOfStatus (option_map suspended_of first) status) (sym (get_or-set_same registers 2 sr 0 (omega (arith, long)))) is;
      words = λ register low high.
          subst (HoldsOfWord (option_map suspended_of first) (word_of a register)) (same register (omega (arith, low)) (λ h. omega (arith, h, low))) (holds.words register low high);
      fact = tt;
      cells = holds.cells;
      untouched = holds.untouched;
    }

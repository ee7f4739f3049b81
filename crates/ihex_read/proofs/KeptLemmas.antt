-- An image that lines denote keeps the rules under which they were read.
use Rattle.std.proofs.Common.{◌≡◌, ℕ, ◌<◌, ◌≤◌, Bool, true, false, List, [], ◌∷◌, zero, suc, length, take, get_or, refl, sym, ◌∙◌, ap, arith}
use Rattle.std.specs.Prelude.{◌&&◌, ◌||◌, not, if◌then◌else◌, Option, None, Some, find, Result, Ok, Err, IfOk}
use Rattle.std.specs.List.{list_any}
use Rattle.std.specs.Option.{option_or}
use Rattle.std.proofs.lemmas.Bool.Decides.{nat_tests}
use Rattle.std.proofs.lemmas.List.Folds.{list_any_at, list_any-append, find-append}
use Rattle.std.proofs.lemmas.List.{take_all}
use Rattle.std.proofs.Math.Seq.{take-suc}
use Rattle.ihex_read.specs.declared.fault.HexFault.TheVariants.{OutOfRange, Clash, Misplaced, NoReset}
use Rattle.image.specs.declared.ram_range.RamRange.{RamRange}
use Rattle.image.specs.declared.rule_set.Rules.{Rules}
use Rattle.image.specs.declared.rule_set.Rules.TheVariants.{Msp430, Mcs51}
use Rattle.image.specs.declared.tail.Tail.{Tail}
use Rattle.image.specs.Image.{byte_at}
use Rattle.ihex_read.specs.ImageText.{base_of, placed_of, has, alone_faults, placing_faults, fault_of, is_misplaced, is_end, lacks_reset, IsOpen, Denotes}
use Rattle.image.specs.Kept.{lies_in, lies_in_mirror, Suits, IsReadUnder}
use Rattle.ihex_read.specs.Record.{record_of, placed_by}
use Rattle.ihex_read.proofs.ByteLemmas.{denoted_bytes}
use Rattle.ihex_read.proofs.MadeLemmas.{placed_of-push}
use Rattle.ihex_read.proofs.WrittenLemmas.{Holds, has_byte-some}

second_none : {A : Type 0} (first second : Option A) → option_or first second ≡ None → second ≡ None
second_none None second h = h
second_none (Some x) second h = cc h

no_fault : (outside taken misplaced unready : Bool)
    → (if outside then Some OutOfRange else if taken then Some Clash else if misplaced then Some Misplaced else if unready then Some NoReset else None) ≡ None
    → (misplaced ≡ false) × (unready ≡ false)
no_fault true taken misplaced unready h = cc h
no_fault false true misplaced unready h = cc h
no_fault false false true unready h = cc h
no_fault false false false true h = cc h
no_fault false false false false h = (refl, refl)

abbrev is_barred : Rules → ℕ × ℕ → Bool
is_barred rules byte = is_misplaced rules byte.0

-- a line without a fault places nothing where the rules allow nothing, and ends no text that lacks the reset vector
line_keeps : (rules : Rules) (before : List (List ℕ)) (line : List ℕ) → fault_of rules before line ≡ None
    → (list_any (is_barred rules) (placed_by (base_of before) (record_of line)) ≡ false) × ((is_end line && lacks_reset rules (placed_of before)) ≡ false)
line_keeps rules before [] h = (refl, refl)
line_keeps rules before (b ∷ bytes) h =
    let line = b ∷ bytes in
    no_fault _ _ _ _ (second_none (find (has rules before line) alone_faults) _ (sym (find-append (has rules before line) alone_faults placing_faults) ∙ h))

neither : (a b : Bool) → a ≡ false → b ≡ false → (a || b) ≡ false
neither a b ha hb = rw (ha, hb) refl

-- nor do open lines
front_keeps : (rules : Rules) (lines : List (List ℕ)) → IsOpen rules lines → (k : ℕ) → k ≤ length lines
    → list_any (is_barred rules) (placed_of (take k lines)) ≡ false
front_keeps rules lines all_open zero h = refl
front_keeps rules lines all_open (suc k) h =
    let front = take k lines in
    let line = get_or lines k [] in
    let earlier = front_keeps rules lines all_open k (omega arith) in
    let last = (line_keeps rules front line (all_open k (omega arith)).0).0 in
    ap (λ taken. list_any (is_barred rules) (placed_of taken)) (take-suc lines k [] (omega arith))
    ∙ ap (list_any (is_barred rules)) (placed_of-push front line)
    ∙ list_any-append (is_barred rules) (placed_of front) (placed_by (base_of front) (record_of line))
    ∙ neither _ _ earlier last

lines_keep : (rules : Rules) (lines : List (List ℕ)) → IsOpen rules lines → list_any (is_barred rules) (placed_of lines) ≡ false
lines_keep rules lines all_open =
    ap (λ taken. list_any (is_barred rules) (placed_of taken)) (sym (take_all (length lines) lines (omega arith))) ∙ front_keeps rules lines all_open (length lines) (omega arith)

-- so an image has nothing there
free_at : (rules : Rules) (image : List (Option ℕ)) (placed : List (ℕ × ℕ)) → Holds image placed → list_any (is_barred rules) placed ≡ false
    → (at : ℕ) → is_misplaced rules at ≡ true → (found : Option ℕ) → byte_at image at ≡ found → found ≡ None
free_at rules image placed holds free at barred None is = refl
free_at rules image placed holds free at barred (Some value) is =
    let place = (holds at value).0 is in
    let some = list_any_at (is_barred rules) placed place.0 (at, value) place.1 (rw place.2 barred) in
    cc (some, free)

below_barred : (ram : RamRange) (at : ℕ) → at < 512 → is_misplaced (Msp430 ram) at ≡ true
below_barred ram at h = grind (arith, nat_tests)

ram_barred : (ram : RamRange) (at : ℕ) → ram.lo ≤ at → at ≤ ram.hi → is_misplaced (Msp430 ram) at ≡ true
ram_barred ram at low high = grind (arith, nat_tests)

either_true : (a b : Bool) → b ≡ true → (a || b) ≡ true
either_true true b h = refl
either_true false b h = h

mirror_barred : (ram : RamRange) (at : ℕ) → lies_in_mirror ram.mirror at ≡ true → is_misplaced (Msp430 ram) at ≡ true
mirror_barred ram at there = either_true (lies_in 0 511 at || lies_in ram.lo ram.hi at) (lies_in_mirror ram.mirror at) there

both_there : (a b : Bool) → not (a && b) ≡ false → (a ≡ true) × (b ≡ true)
both_there true true h = (refl, refl)
both_there true false h = cc h
both_there false b h = cc h

ended_reset : (ends lacks : Bool) → ends ≡ true → (ends && lacks) ≡ false → lacks ≡ false
ended_reset true lacks is h = h
ended_reset false lacks is h = cc is

suits : (rules : Rules) (image : List (Option ℕ)) (placed : List (ℕ × ℕ)) → Holds image placed → list_any (is_barred rules) placed ≡ false
    → lacks_reset rules placed ≡ false → Suits rules image
suits (Msp430 range) image placed holds free reset =
    let rules = Msp430 range in
    let has = both_there _ _ reset in record {
      peripherals = λ at below. free_at rules image placed holds free at (below_barred range at below) _ refl;
      ram = λ at low high. free_at rules image placed holds free at (ram_barred range at low high) _ refl;
      mirrored = λ at there. free_at rules image placed holds free at (mirror_barred range at there) _ refl;
      reset_low = sym (has_byte-some image placed 65534 holds) ∙ has.0;
      reset_high = sym (has_byte-some image placed 65535 holds) ∙ has.1;
    }
suits Mcs51 image placed holds free reset = tt

pub denoted_kept : (rules : Rules) (tail : Tail) (lines : List (List ℕ)) (image : List (Option ℕ)) → Denotes rules tail lines image
    → IsReadUnder rules image
denoted_kept rules tail lines image denoted =
    let bytes = denoted_bytes rules tail lines image denoted in
    let ends = denoted.3 in
    let reset = ended_reset (is_end denoted.1) _ ends.ends (line_keeps rules denoted.0 denoted.1 ends.accepted).1 in record {
      size = bytes.0;
      bytes = bytes.1;
      suits = suits rules image (placed_of denoted.0) denoted.5.bytes (lines_keep rules denoted.0 ends.open_before) reset;
    }

pub answer_kept : {E : Type 0} (rules : Rules) (tail : Tail) (lines : List (List ℕ)) (answer : Result (List (Option ℕ)) E)
    → IfOk answer (Denotes rules tail lines) → IfOk answer (IsReadUnder rules)
answer_kept rules tail lines (Ok image) denoted = denoted_kept rules tail lines image denoted
answer_kept rules tail lines (Err error) denoted = tt

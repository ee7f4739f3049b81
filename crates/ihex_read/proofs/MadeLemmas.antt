-- What one line more makes, and its fault, told by the base and the image.
use Rattle.std.proofs.Common.{◌≡◌, ℕ, ◌+◌, ◌<◌, ◌≤◌, Bool, true, false, List, [], ◌∷◌, ◌++◌, length, refl, sym, ◌∙◌, ap, subst, arith}
use Rattle.std.specs.Prelude.{◌==◌, ◌&&◌, not, if◌then◌else◌, Option, None, Some, find, nat_lt, Result, Ok, Err, OnOk}
use Rattle.std.specs.List.{list_any, enumerate_from}
use Rattle.std.specs.Option.{option_or}
use Rattle.std.specs.Result.{result_err}
use Rattle.std.proofs.lemmas.Bool.Decides.{nat_tests}
use Rattle.std.proofs.lemmas.List.{append-nil}
use Rattle.std.proofs.lemmas.List.Folds.{find-append}
use Rattle.ihex_read.specs.declared.fault.HexFault.{HexFault}
use Rattle.ihex_read.specs.declared.fault.HexFault.TheVariants.{OutOfRange, Clash, Misplaced, NoReset}
use Rattle.image.specs.declared.rule_set.Rules.{Rules}
use Rattle.image.specs.declared.rule_set.Rules.TheVariants.{Msp430, Mcs51}
use Rattle.ihex_read.specs.Alone.{alone_fault}
use Rattle.image.specs.Image.{byte_at}
use Rattle.ihex_read.specs.ImageText.{base_from, base_of, placed_from, placed_of, clashes, lacks_reset, has, alone_faults, placing_faults, fault_of}
use Rattle.ihex_read.specs.Loading.{Made, is_outside, is_taken, is_resettable, placing_fault, written}
use Rattle.ihex_read.specs.Record.{record_of, type_of, offset_of, data_of, base_behind, placed_by}
use Rattle.ihex_read.proofs.PlacingLemmas.{outside-row}
use Rattle.ihex_read.proofs.WrittenLemmas.{Holds, clashes-taken, has_byte-some, row_written, length-written}
use Rattle.ihex_read.specs.TextFacts.{base_from-append, placed_from-append}

base_from-push : (base : ℕ) (lines : List (List ℕ)) (line : List ℕ)
    → base_from base (lines ++ line ∷ []) ≡ base_behind (base_from base lines) (record_of line)
base_from-push base lines line = base_from-append base lines (line ∷ [])

placed_from-push : (base : ℕ) (lines : List (List ℕ)) (line : List ℕ)
    → placed_from base (lines ++ line ∷ []) ≡ placed_from base lines ++ placed_by (base_from base lines) (record_of line)
placed_from-push base lines line = placed_from-append base lines (line ∷ []) ∙ ap (λ places. placed_from base lines ++ places) (append-nil _)

pub placed_of-push : (lines : List (List ℕ)) (line : List ℕ)
    → placed_of (lines ++ line ∷ []) ≡ placed_of lines ++ placed_by (base_of lines) (record_of line)
placed_of-push lines line = placed_from-push 0 lines line

-- no line makes an empty image
pub made_nothing : (image : List (Option ℕ)) → length image ≡ 65536 → ((at : ℕ) → byte_at image at ≡ None) → Made [] 0 image
made_nothing image size empty = record {
  based = refl;
  placed = record {
    size = size;
    bytes = λ at value. (λ is. cc (sym (empty at) ∙ is), λ has. absurd (omega (arith, has.1)));
  };
}

any_same : {X : Type 0} (p q : X → Bool) (xs : List X) → ((x : X) → p x ≡ q x) → list_any p xs ≡ list_any q xs
any_same p q [] h = refl
any_same p q (x ∷ xs) h = rw (h x, any_same p q xs h) refl

resets : (rules : Rules) (image : List (Option ℕ)) (placed : List (ℕ × ℕ)) → Holds image placed
    → lacks_reset rules placed ≡ not (is_resettable rules image)
resets (Msp430 ram) image placed holds = rw (has_byte-some image placed 65534 holds, has_byte-some image placed 65535 holds) refl
resets Mcs51 image placed holds = refl

-- the faults that lines in front tell
placing-made : (rules : Rules) (lines : List (List ℕ)) (line : List ℕ) (base : ℕ) (image : List (Option ℕ)) → Made lines base image
    → find (has rules lines line) placing_faults ≡ placing_fault rules base image (record_of line)
placing-made rules lines line base image made =
    let clash = any_same (clashes (placed_of lines)) (is_taken image) (placed_by (base_of lines) (record_of line))
    (λ byte. clashes-taken image (placed_of lines) byte made.placed.bytes) in
    let reset = resets rules image (placed_of lines) made.placed.bytes in
    rw (made.based, clash, reset) refl

pub fault-made : (rules : Rules) (lines : List (List ℕ)) (line : List ℕ) (base : ℕ) (image : List (Option ℕ)) → Made lines base image
    → 0 < length line → fault_of rules lines line ≡ option_or (alone_fault line) (placing_fault rules base image (record_of line))
fault-made rules lines [] base image made some = absurd (omega arith)
fault-made rules lines (b ∷ bytes) base image made some =
    find-append (has rules lines (b ∷ bytes)) alone_faults placing_faults
    ∙ ap (option_or (alone_fault (b ∷ bytes))) (placing-made rules lines (b ∷ bytes) base image made)

no_placing_fault : (outside taken misplaced unready : Bool)
    → (if outside then Some OutOfRange else if taken then Some Clash else if misplaced then Some Misplaced else if unready then Some NoReset else None) ≡ None
    → (outside ≡ false) × (taken ≡ false)
no_placing_fault true taken misplaced unready h = cc h
no_placing_fault false true misplaced unready h = cc h
no_placing_fault false false misplaced unready h = (refl, refl)

within : (start n : ℕ) → (nat_lt 0 n && nat_lt 65536 (start + n)) ≡ false → 0 < n → start + n ≤ 65536
within start n h some = grind (arith, nat_tests)

-- what a record places, written to the image
placed_more : (image : List (Option ℕ)) (placed : List (ℕ × ℕ)) (data_record : Bool) (start : ℕ) (bytes : List ℕ)
    → Holds image placed → length image ≡ 65536
    → let places = if data_record then enumerate_from start bytes else [] in
    list_any is_outside places ≡ false → list_any (is_taken image) places ≡ false → Holds (written image places) (placed ++ places)
placed_more image placed false start bytes holds size inside free = rw append-nil holds
placed_more image placed true start bytes holds size inside free =
    row_written image placed start bytes holds (λ some. rw size (within start (length bytes) (sym (outside-row start bytes) ∙ inside) some)) free

-- one line more
pub made_more : (rules : Rules) (lines : List (List ℕ)) (line : List ℕ) (base : ℕ) (image : List (Option ℕ)) → Made lines base image
    → placing_fault rules base image (record_of line) ≡ None
    → Made (lines ++ line ∷ []) (base_behind base (record_of line)) (written image (placed_by base (record_of line)))
made_more rules lines line base image made none =
    let faults = no_placing_fault (list_any is_outside (placed_by base (record_of line))) (list_any (is_taken image) (placed_by base (record_of line))) _ _ none in
    let holds = placed_more image (placed_of lines) (type_of (record_of line) == 0) (base + offset_of (record_of line)) (data_of (record_of line))
    made.placed.bytes made.placed.size faults.0 faults.1 in
    let places = placed_from-push 0 lines line ∙ ap (λ b. placed_of lines ++ placed_by b (record_of line)) (sym made.based) in
    record {
      based = ap (λ b. base_behind b (record_of line)) made.based ∙ sym (base_from-push 0 lines line);
      placed = record {
        size = length-written image (placed_by base (record_of line)) ∙ made.placed.size;
        bytes = subst (Holds (written image (placed_by base (record_of line)))) (sym places) holds;
      };
    }

-- a blank line more
pub made_blank : (lines : List (List ℕ)) (line : List ℕ) (base : ℕ) (image : List (Option ℕ)) → Made lines base image → length line ≡ 0
    → Made (lines ++ line ∷ []) base image
made_blank lines [] base image made empty = made_more Mcs51 lines [] base image made refl
made_blank lines (b ∷ bytes) base image made empty = absurd (omega arith)

-- a fault that the line has by itself
pub fault_alone : (rules : Rules) (lines : List (List ℕ)) (line : List ℕ) (base : ℕ) (image : List (Option ℕ)) (fault : HexFault)
    → Made lines base image
    → 0 < length line → Some fault ≡ alone_fault line → Some fault ≡ fault_of rules lines line
fault_alone rules lines line base image fault made some alone =
    ap (λ first. option_or first (placing_fault rules base image (record_of line))) alone ∙ sym (fault-made rules lines line base image made some)

-- else that of its record
pub fault_placing : (rules : Rules) (lines : List (List ℕ)) (line bytes : List ℕ) (base : ℕ) (image : List (Option ℕ)) (fault : Option HexFault)
    → Made lines base image → 0 < length line → None ≡ alone_fault line → bytes ≡ record_of line
    → fault ≡ placing_fault rules base image bytes → fault ≡ fault_of rules lines line
fault_placing rules lines line bytes base image fault made some alone read told = told ∙ ap (placing_fault rules base image) read
    ∙ ap (λ first. option_or first (placing_fault rules base image (record_of line))) alone ∙ sym (fault-made rules lines line base image made some)

-- an accepted record more
pub made_accepted : {A : Type 0} (answer : Result A HexFault) (rules : Rules) (lines : List (List ℕ)) (line bytes : List ℕ) (base new_base : ℕ)
    (image new_image : List (Option ℕ)) → Made lines base image → bytes ≡ record_of line
    → result_err answer ≡ placing_fault rules base image bytes → OnOk answer (new_image ≡ written image (placed_by base bytes))
    → OnOk answer (new_base ≡ base_behind base bytes) → OnOk answer (Made (lines ++ line ∷ []) new_base new_image)
made_accepted (Err e) rules lines line bytes base new_base image new_image made read fault written_to based = tt
made_accepted (Ok x) rules lines line bytes base new_base image new_image made read fault written_to based =
    let more = made_more rules lines line base image made (ap (placing_fault rules base image) (sym read) ∙ sym fault) in
    let new_base_is = based ∙ ap (base_behind base) read in
    let new_image_is = written_to ∙ ap (λ r. written image (placed_by base r)) read in
    rw (new_base_is, new_image_is) more

-- an end record places nothing
pub placed_of-end : (before : List (List ℕ)) (line : List ℕ) → type_of (record_of line) ≡ 1
    → placed_of (before ++ line ∷ []) ≡ placed_of before
placed_of-end before line one = placed_of-push before line
    ∙ ap (λ n. placed_of before ++ (if n == 0 then enumerate_from (base_of before + offset_of (record_of line)) (data_of (record_of line)) else [])) one
    ∙ append-nil (placed_of before)

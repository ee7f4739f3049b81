-- The texts of programs denote images.
use Rattle.std.proofs.Common.{◌≡◌, ℕ, ◌+◌, ◌<◌, ◌≤◌, ◌==◌, ◌&&◌, ◌||◌, ◌⊎◌, inl, inr, not, nat_le, true, false, List, [], ◌∷◌, ◌++◌, length, take, slice_index_or, Option, None, refl, sym, ◌∙◌, ap, length-append, take_at, arith}
use Rattle.std.proofs.lemmas.Bool.{cases_lt, or_right, and_right, or_from, lt-leb}
use Rattle.std.proofs.lemmas.List.{get_or_append_left, get_or_at, take-append-le}
use Rattle.std.proofs.lemmas.List.Folds.{list_any-append}
use Rattle.image.specs.declared.chip_name.ChipName.{ChipName}
use Rattle.image.specs.declared.chip_name.ChipName.TheVariants.{Msp430, Mcs51}
use Rattle.image_gen.specs.Made.{low_first, high_first, made_image, msp430_program, mcs51_program}
use Rattle.ihex_read.specs.declared.fault.HexFault.{HexFault}
use Rattle.image.specs.Kept.{lies_in}
use Rattle.image.specs.declared.rule_set.Rules.{Rules}
use Rattle.image.specs.declared.rule_set.Rules.TheVariants as rules
use Rattle.image.specs.declared.tail.Tail.{Tail}
use Rattle.image.specs.declared.tail.Tail.TheVariants.{Blank}
use Rattle.ihex_read.specs.ImageText.{Denotes, Ends, FirstFault, of_line, no_end, trailing, GoesOnBehind, fault_of, has_byte, is_end, lacks_reset, placed_of}
use Rattle.text_lines.specs.Lines.{lines_of}
use Rattle.made_programs.specs.Chips.{made_ram, rules_of}
use Rattle.made_programs.proofs.Accepted.{IsFree, IsLaid, laid_none, laid_below, placed_more}
use Rattle.image_gen.specs.LengthFacts.{length-mcs51_program, length-msp430_program}
use Rattle.made_programs.proofs.Programs.{low_first_bytes, mcs51_jump_bytes, msp430_bytes, mcs51_bytes}
use Rattle.made_programs.proofs.RecordLines.{IsRow}
use Rattle.made_programs.proofs.Sizes.{text_short}
use Rattle.made_programs.proofs.Stretches.{IsStretch, last_line, laid_stretch, rows_of, two_end, two_found}

-- what is known of images and faults of lines
abbrev OneOrOther : Type 0
OneOrOther = (chosen : Rules) (tail : Tail) (lines : List (List ℕ)) → ((image : List (Option ℕ)) × Denotes chosen tail lines image)
    ⊎ ((line : ℕ) × (fault : HexFault) × FirstFault chosen tail lines line fault) ⊎ GoesOnBehind chosen tail lines

cut_sizes : (before front : List (List ℕ)) (line other : List ℕ) (behind : List (List ℕ)) → before ++ line ∷ [] ≡ front ++ other ∷ behind
    → length before ≡ length front + length behind
cut_sizes before front line other behind same =
    omega (arith, length-append before (line ∷ []), ap length same, length-append front (other ∷ behind))

-- a line up to an end record's has no fault, and those in front of that are no end records
up_to_end : (chosen : Rules) (lines before : List (List ℕ)) (line : List ℕ) → Ends chosen lines before line []
    → (front : List (List ℕ)) (other : List ℕ) (behind : List (List ℕ)) → lines ≡ front ++ other ∷ behind
    → (fault_of chosen front other ≡ None) × (length front < length before → is_end other ≡ false) × (length front ≤ length before)
up_to_end chosen lines before line ends front other behind whole =
    let same : before ++ line ∷ [] ≡ front ++ other ∷ behind = sym ends.whole ∙ whole in
    let size = cut_sizes before front line other behind same in
    let here : slice_index_or (before ++ line ∷ []) (length front) [] ≡ other =
    ap (λ xs. slice_index_or xs (length front) []) same ∙ get_or_at front other behind [] (length front) refl in
    let fore : take (length front) (before ++ line ∷ []) ≡ front =
    ap (take (length front)) same ∙ take_at front (other ∷ behind) (length front) refl in
    elim (cases_lt (length front) (length before)) [
      | inl less ↦
          let facts = ends.open_before (length front) less in
          let front_is : take (length front) before ≡ front = sym (take-append-le (length front) before (line ∷ []) (omega arith)) ∙ fore in
          let other_is : slice_index_or before (length front) [] ≡ other = sym (get_or_append_left before (line ∷ []) [] (length front) less) ∙ here in
          (cc (facts.0, front_is, other_is), λ h. cc (facts.1, other_is), omega arith)
      | inr past ↦
          let equal : length before ≡ length front = omega arith in
          let front_is : before ≡ front = sym (take_at before (line ∷ []) (length front) equal) ∙ fore in
          let other_is : line ≡ other = sym (get_or_at before line [] [] (length front) equal) ∙ here in
          (cc (ends.accepted, front_is, other_is), λ h. absurd (omega arith), omega arith)
    ]

no_fault : (chosen : Rules) (lines before : List (List ℕ)) (line : List ℕ) (n : ℕ) (fault : HexFault) → Ends chosen lines before line []
    → FirstFault chosen Blank lines n fault → ⊥
no_fault chosen lines before line n fault ends (of_line front other behind f whole all_open faulty) =
    let facts = up_to_end chosen lines before line ends front other behind whole in
    let none = facts.0 in
    cc (none, faulty)
no_fault chosen lines before line n fault ends (no_end all_open) =
    let fits : length before < length lines = omega (arith, ap length ends.whole, length-append before (line ∷ [])) in
    let facts = all_open (length before) fits in
    let here : slice_index_or lines (length before) [] ≡ line =
    ap (λ xs. slice_index_or xs (length before) []) ends.whole ∙ get_or_at before line [] [] (length before) refl in
    cc (facts.1, here, ends.ends)
no_fault chosen lines before line n fault ends (trailing front other blank more behind other_ends blanks some kind) =
    let facts = up_to_end chosen lines before line ends front other (blank ++ more ∷ behind) other_ends.whole in
    let size = cut_sizes before front line other (blank ++ more ∷ behind) (sym ends.whole ∙ other_ends.whole) in
    let less : length front < length before = omega (arith, length-append blank (more ∷ behind)) in
    let going = facts.1 less in
    cc (going, other_ends.ends)

image_from : OneOrOther → (chosen : Rules) (lines before : List (List ℕ)) (line : List ℕ) → Ends chosen lines before line []
    → (image : List (Option ℕ)) × Denotes chosen Blank lines image
image_from known chosen lines before line ends = elim (known chosen Blank lines) [
  | inl image ↦ image
  | inr others ↦ elim others [
    | inl faulty ↦ absurd (no_fault chosen lines before line faulty.0 faulty.1 ends faulty.2)
    | inr on ↦ let second = on.expected in cc second
  ]
]

-- two stretches, the second behind the first
two_laid : (chosen : Rules) (at : ℕ) (bytes : List ℕ) (next : ℕ) (more : List ℕ) → IsStretch at bytes
    → IsStretch next more → at + length bytes ≤ next
    → IsFree chosen at → IsLaid chosen (rows_of at bytes) next × IsLaid chosen (rows_of at bytes ++ rows_of next more) (next + length more)
two_laid chosen at bytes next more first second behind free =
    let one = laid_below chosen (rows_of at bytes) (at + length bytes) next (laid_stretch chosen [] at bytes (laid_none chosen at) first free) behind in
    (one, laid_stretch chosen (rows_of at bytes) next more one second (λ place above. free place (omega arith)))

-- above RAM that ends at 09FFh
free_above : (from : ℕ) → 0x0A00 ≤ from → IsFree (rules.Msp430 made_ram) from
free_above from h at above =
    or_from (lies_in 0 511 at || lies_in 512 2559 at) false
    (or_from (lies_in 0 511 at) (lies_in 512 2559 at) (and_right (nat_le 0 at) (nat_le at 511) (lt-leb at 511 (omega arith)))
    (and_right (nat_le 512 at) (nat_le at 2559) (lt-leb at 2559 (omega arith)))) refl

msp430_stretch : (number : ℕ) → number ≤ 2000 → IsStretch 0x4000 (msp430_program number)
msp430_stretch number most = record {
  fits = omega (arith, length-msp430_program number);
  bytes_are = msp430_bytes number most;
}

msp430_reset : IsStretch 0xFFFE (low_first 0x4000)
msp430_reset = record { fits = omega arith; bytes_are = low_first_bytes 0x4000 (omega arith) }

-- both bytes of the word at FFFEh
both_there : (lines : List (ℕ × ℕ)) (low high : ℕ)
    → not (has_byte (lines ++ (65534, low) ∷ (65535, high) ∷ []) 65534 && has_byte (lines ++ (65534, low) ∷ (65535, high) ∷ []) 65535) ≡ false
both_there placed low high =
    let added : List (ℕ × ℕ) = (65534, low) ∷ (65535, high) ∷ [] in
    let first : has_byte (placed ++ added) 65534 ≡ true = list_any-append (λ byte. byte.0 == 65534) placed added ∙ or_right (has_byte placed 65534) true refl in
    let second : has_byte (placed ++ added) 65535 ≡ true = list_any-append (λ byte. byte.0 == 65535) placed added ∙ or_right (has_byte placed 65535) true refl in
    rw (first, second) refl

resets : (chosen : Rules) (lines : List (List ℕ)) → chosen ≡ rules.Msp430 made_ram → IsLaid chosen lines 0xFFFE
    → lacks_reset chosen (placed_of (lines ++ rows_of 0xFFFE (low_first 0x4000))) ≡ false
resets chosen lines is laid =
    let row : IsRow 0xFFFE (low_first 0x4000) = record { starts = omega arith; short = omega arith; bytes_are = low_first_bytes 0x4000 (omega arith) } in
    let placed = placed_more chosen lines 0xFFFE 0xFFFE (low_first 0x4000) laid row in
    rw is (ap (λ xs. lacks_reset (rules.Msp430 made_ram) xs) placed ∙ both_there (placed_of lines) 0x00 0x40)

mcs51_jump : IsStretch 0x0000 (0x02 ∷ high_first 0x0030)
mcs51_jump = record { fits = omega arith; bytes_are = mcs51_jump_bytes }

mcs51_stretch : (number : ℕ) → number ≤ 2000 → IsStretch 0x0030 (mcs51_program number)
mcs51_stretch number most = record {
  fits = omega (arith, length-mcs51_program number);
  bytes_are = mcs51_bytes number most;
}

pub denoted : OneOrOther → (chip : ChipName) (number : ℕ) → number ≤ 2000
    → (image : List (Option ℕ)) × Denotes (rules_of chip) Blank (lines_of (made_image chip number)) image
denoted known Msp430 number most =
    let chosen = rules_of Msp430 in
    let program = msp430_program number in
    let word = low_first 0x4000 in
    let first = msp430_stretch number most in
    let laid = two_laid chosen 0x4000 program 0xFFFE word first msp430_reset (omega (arith, length-msp430_program number)) (free_above 0x4000 (omega arith)) in
    image_from known chosen (lines_of (made_image Msp430 number)) (rows_of 0x4000 program ++ rows_of 0xFFFE word) last_line
    (two_end chosen (lines_of (made_image Msp430 number)) (rows_of 0x4000 program ++ rows_of 0xFFFE word) 0x10000
    (two_found 0x4000 program 0xFFFE word first msp430_reset) laid.1 (resets chosen (rows_of 0x4000 program) refl laid.0))
denoted known Mcs51 number most =
    let chosen = rules_of Mcs51 in
    let program = mcs51_program number in
    let jump = 0x02 ∷ high_first 0x0030 in
    let second = mcs51_stretch number most in
    let laid = two_laid chosen 0x0000 jump 0x0030 program mcs51_jump second (omega arith) (λ at above. refl) in
    image_from known chosen (lines_of (made_image Mcs51 number)) (rows_of 0x0000 jump ++ rows_of 0x0030 program) last_line
    (two_end chosen (lines_of (made_image Mcs51 number)) (rows_of 0x0000 jump ++ rows_of 0x0030 program) (0x0030 + length program)
    (two_found 0x0000 jump 0x0030 program mcs51_jump second) laid.1 refl)

pub fits : (chip : ChipName) (number : ℕ) → number ≤ 2000 → length (made_image chip number) ≤ 4194304
fits Msp430 number most =
    text_short 0x4000 (msp430_program number) 0xFFFE (low_first 0x4000) (omega (arith, length-msp430_program number)) (omega arith)
fits Mcs51 number most =
    text_short 0x0000 (0x02 ∷ high_first 0x0030) 0x0030 (mcs51_program number) (omega arith) (omega (arith, length-mcs51_program number))

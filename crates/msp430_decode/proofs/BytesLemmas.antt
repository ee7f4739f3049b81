-- The instruction of some bytes is the one whose row they are.
use Rattle.std.proofs.Common.{◌≡◌, ℕ, ◌+◌, ◌*◌, ◌/◌, ◌%◌, ◌<◌, ◌≤◌, refl, sym, subst, length-append, arith, All, Option, None, Some, List, [], ◌∷◌, ◌++◌, length, take, slice_index, IfSome, true, false, ◌==◌, inl, inr}
use Rattle.std.proofs.lemmas.Bool.Decides.{nat_tests}
use Rattle.std.specs.List.{flat_map}
use Rattle.plain_lemmas.specs.Cases.{told}
use Rattle.plain_lemmas.specs.Small.{high_of, low_of}
use Rattle.msp430_decode.specs.declared.instr.Source.{Source}
use Rattle.msp430_decode.specs.declared.instr.Source.TheVariants as source
use Rattle.msp430_decode.specs.declared.instr.Destination.{Destination}
use Rattle.msp430_decode.specs.declared.instr.Destination.TheVariants as destination
use Rattle.msp430_decode.specs.declared.instr.Instr.{Instr}
use Rattle.msp430_decode.specs.declared.instr.Instr.TheVariants.{Double, Single, Jump, ReturnFromInterrupt}
use Rattle.msp430_decode.specs.Operands.{source_words, destination_words}
use Rattle.msp430_decode.specs.Table.{IsInstr, Row, first_word, extension_words, word_bytes, bytes_of, length_of}
use Rattle.msp430_decode.specs.Excluded.{is_excluded}
use Rattle.msp430_decode.specs.Fields.{instr_of}
use Rattle.msp430_decode.specs.Decoding.{instr_of_words, instr_of_bytes}
use Rattle.msp430_decode.proofs.OperandLemmas.{first_of, second_of}
use Rattle.msp430_decode.proofs.AgainLemmas.{instr_again, allowed_again}
use Rattle.msp430_decode.proofs.MadeLemmas.{IsMade, instr_made}
use Rattle.msp430_decode.proofs.StandLemmas.{made_row}

source_few : (s : Source) → length (source_words s) ≤ 1
source_few (source.Register register) = omega arith
source_few (source.Indexed register offset) = omega arith
source_few (source.Indirect register) = omega arith
source_few (source.IndirectIncrement register) = omega arith
source_few (source.Immediate value) = omega arith
source_few (source.Symbolic offset) = omega arith
source_few (source.Absolute address) = omega arith
source_few (source.Constant constant) = omega arith

destination_few : (d : Destination) → length (destination_words d) ≤ 1
destination_few (destination.Register register) = omega arith
destination_few (destination.Indexed register offset) = omega arith
destination_few (destination.Symbolic offset) = omega arith
destination_few (destination.Absolute address) = omega arith

pub words_few : (i : Instr) → length (extension_words i) ≤ 2
words_few (Double o b s d) = omega (arith, source_few s, destination_few d, length-append (source_words s) (destination_words d))
words_few (Single o b s) = omega (arith, source_few s)
words_few (Jump c offset) = omega arith
words_few ReturnFromInterrupt = omega arith

-- the words of an instruction are that instruction
words_again : (i : Instr) (w x y : ℕ) → IsInstr i → w ≡ first_word i → x ≡ first_of (extension_words i) →
    y ≡ second_of (extension_words i) → instr_of_words (length_of i) w x y ≡ Some i
words_again i w x y h e ex ey =
    let allowed = allowed_again i w h e in
    let again = instr_again i w x y h e ex ey in
    let same : (length_of i == length_of i) ≡ true = grind (arith, nat_tests) in
    rw allowed (rw again (rw same refl))

joined : (w : ℕ) → w % 256 + 256 * (w / 256) ≡ w
joined w = omega arith

bytes_again : (i : Instr) (ws : List ℕ) → IsInstr i → extension_words i ≡ ws → length ws ≤ 2 →
    instr_of_bytes (word_bytes (first_word i) ++ flat_map word_bytes ws) ≡ Some i
unfolding instr_of_bytes
bytes_again i [] h e few =
    let n : length_of i ≡ 2 = rw e refl in
    rw (joined (first_word i)) (rw n at (words_again i (first_word i) 0 0 h refl (rw e refl) (rw e refl)))
bytes_again i (x ∷ []) h e few =
    let n : length_of i ≡ 4 = rw e refl in
    rw (joined (first_word i), joined x) (rw n at (words_again i (first_word i) x 0 h refl (rw e refl) (rw e refl)))
bytes_again i (x ∷ y ∷ []) h e few =
    let n : length_of i ≡ 6 = rw e refl in
    rw (joined (first_word i), joined x, joined y) (rw n at (words_again i (first_word i) x y h refl (rw e refl) (rw e refl)))
bytes_again i (x ∷ y ∷ z ∷ ws) h e few = absurd (omega arith)

pub instr_again_of_bytes : (i : Instr) → IsInstr i → instr_of_bytes (bytes_of i) ≡ Some i
instr_again_of_bytes i h = bytes_again i (extension_words i) h refl (words_few i)

pub row_found : (bytes : List ℕ) (i : Instr) → Row bytes i → instr_of_bytes bytes ≡ Some i
row_found bytes i row = rw row.1 (instr_again_of_bytes i row.0)

-- what the words of an instruction say of it
record IsOfWords (len w x y : ℕ) (i : Instr) : Type 0 where
  pub allowed : is_excluded w ≡ false
  pub same : instr_of w x y ≡ i
  pub length_is : length_of i ≡ len

of_words : (len w x y : ℕ) (i : Instr) → instr_of_words len w x y ≡ Some i → IsOfWords len w x y i
of_words len w x y i e = elim (told (is_excluded w)) [
  | inl excluded ↦ absurd (cc (rw excluded at e))
  | inr allowed ↦
      (let rest = rw allowed at e in
      elim (told (length_of (instr_of w x y) == len)) [
        | inl equal ↦
            (let found : Some (instr_of w x y) ≡ Some i = rw equal at rest in
            let same : instr_of w x y ≡ i = cc in
            let length_is : length_of (instr_of w x y) ≡ len = grind (arith, nat_tests) in
            record { allowed = allowed; same = same; length_is = rw same at length_is })
        | inr other ↦ absurd (cc (rw other at rest))
      ])
]

row_of_words : (len w x y k : ℕ) (i : Instr) → w < 65536 → x < 65536 → y < 65536 → instr_of_words len w x y ≡ Some i → len ≡ 2 + 2 * k →
    Row (word_bytes w ++ flat_map word_bytes (take k (x ∷ y ∷ []))) i
row_of_words len w x y k i hw hx hy e n =
    let o = of_words len w x y i e in
    let m = subst (IsMade w x y) o.same (instr_made w x y hw hx hy o.allowed) in
    let l = o.length_is in
    made_row w x y k i m (omega arith)

pub found_row : (bytes : List ℕ) (i : Instr) → All (λ byte. byte < 256) bytes → instr_of_bytes bytes ≡ Some i → Row bytes i
unfolding instr_of_bytes
found_row (a ∷ b ∷ []) i h e =
    let ha : a < 256 = h 0 0 (omega arith) in
    let hb : b < 256 = h 1 0 (omega arith) in
    let row = row_of_words 2 (a + 256 * b) 0 0 0 i (omega arith) (omega arith) (omega arith) e refl in
    rw (low_of a b ha, high_of a b ha) at row
found_row (a ∷ b ∷ c ∷ d ∷ []) i h e =
    let ha : a < 256 = h 0 0 (omega arith) in
    let hb : b < 256 = h 1 0 (omega arith) in
    let hc : c < 256 = h 2 0 (omega arith) in
    let hd : d < 256 = h 3 0 (omega arith) in
    let row = row_of_words 4 (a + 256 * b) (c + 256 * d) 0 1 i (omega arith) (omega arith) (omega arith) e refl in
    rw (low_of a b ha, high_of a b ha, low_of c d hc, high_of c d hc) at row
found_row (a ∷ b ∷ c ∷ d ∷ f ∷ g ∷ []) i h e =
    let ha : a < 256 = h 0 0 (omega arith) in
    let hb : b < 256 = h 1 0 (omega arith) in
    let hc : c < 256 = h 2 0 (omega arith) in
    let hd : d < 256 = h 3 0 (omega arith) in
    let hf : f < 256 = h 4 0 (omega arith) in
    let hg : g < 256 = h 5 0 (omega arith) in
    let row = row_of_words 6 (a + 256 * b) (c + 256 * d) (f + 256 * g) 2 i (omega arith) (omega arith) (omega arith) e refl in
    rw (low_of a b ha, high_of a b ha, low_of c d hc, high_of c d hc, low_of f g hf, high_of f g hf) at row
found_row bytes i h e = absurd (cc)

pub found_rows : (bytes : List ℕ) (found : Option Instr) → All (λ byte. byte < 256) bytes → found ≡ instr_of_bytes bytes →
    IfSome found (λ instr. Row bytes instr)
found_rows bytes None h e = tt
found_rows bytes (Some i) h e = found_row bytes i h (sym e)

-- six bytes by their places
pub six_bytes : (bytes : List ℕ) → length bytes ≡ 6 → instr_of_bytes bytes ≡ instr_of_words 6
    (slice_index bytes 0 + 256 * slice_index bytes 1) (slice_index bytes 2 + 256 * slice_index bytes 3)
    (slice_index bytes 4 + 256 * slice_index bytes 5)
unfolding instr_of_bytes
six_bytes (a ∷ b ∷ c ∷ d ∷ e ∷ f ∷ []) h = refl
six_bytes [] h = absurd (omega arith)
six_bytes (a ∷ []) h = absurd (omega arith)
six_bytes (a ∷ b ∷ []) h = absurd (omega arith)
six_bytes (a ∷ b ∷ c ∷ []) h = absurd (omega arith)
six_bytes (a ∷ b ∷ c ∷ d ∷ []) h = absurd (omega arith)
six_bytes (a ∷ b ∷ c ∷ d ∷ e ∷ []) h = absurd (omega arith)
six_bytes (a ∷ b ∷ c ∷ d ∷ e ∷ f ∷ g ∷ bytes) h = absurd (omega arith)

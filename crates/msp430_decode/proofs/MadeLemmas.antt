-- A word that isn't excluded, with extension words, gives an instruction of the table with these words.
use Rattle.std.proofs.Common.{◌≡◌, ℕ, zero, suc, ◌/◌, ◌%◌, ◌<◌, ◌≤◌, refl, length-append, arith, [], ◌∷◌, ◌++◌, length, take, Bool, true, false, ◌==◌, ◌&&◌, ◌||◌, nat_lt, not, if◌then◌else◌, inl, inr}
use Rattle.std.proofs.lemmas.Bool.Decides.{nat_tests}
use Rattle.plain_lemmas.specs.Cases.{told}
use Rattle.msp430_decode.specs.declared.instr.Register.{Register}
use Rattle.msp430_decode.specs.declared.instr.Source.{Source}
use Rattle.msp430_decode.specs.declared.instr.Instr.{Instr}
use Rattle.msp430_decode.specs.Codes.{number, register_at, operation_code, operation_at, single_code, single_at, condition_code, condition_at, width_code, width_at}
use Rattle.msp430_decode.specs.Operands.{source_words, destination_words}
use Rattle.msp430_decode.specs.Table.{IsInstr, AreSingle, IsWritable, first_word, extension_words}
use Rattle.msp430_decode.specs.Excluded.{is_constant_operand, is_excluded, is_excluded_single, is_excluded_double}
use Rattle.msp430_decode.specs.Fields.{source_of, takes_word, destination_of, double_of, single_of, jump_of, instr_of}
use Rattle.msp430_decode.proofs.CodeLemmas.{number_of_at, operation_of_at, single_of_at, condition_of_at, width_of_at}
use Rattle.msp430_decode.proofs.OperandLemmas.{source_fields, destination_fields, source_word, takes_again, destination_word, made_writable}
use Rattle.msp430_decode.proofs.WordLemmas.{double_parts, single_parts, jump_parts}

-- An instruction of a word and as many of two further words as it takes.
pub record IsMade (w x y : ℕ) (i : Instr) : Type 0 where
  pub is_instr : IsInstr i
  pub word_is : first_word i ≡ w
  pub words_are : take (length (extension_words i)) (x ∷ y ∷ []) ≡ extension_words i

shape : (t d : Bool) (x y : ℕ) →
    take (length ((if t then x ∷ [] else []) ++ (if d then (if t then y else x) ∷ [] else []))) (x ∷ y ∷ [])
    ≡ (if t then x ∷ [] else []) ++ (if d then (if t then y else x) ∷ [] else [])
shape true true x y = refl
shape true false x y = refl
shape false true x y = refl
shape false false x y = refl

neither : (a b : Bool) → (a || b) ≡ false → (a ≡ false) × (b ≡ false)
neither true b h = absurd (cc)
neither false b h = (refl, h)

chosen_below : (t : Bool) (x y : ℕ) → x < 65536 → y < 65536 → (if t then y else x) < 65536
chosen_below true x y hx hy = hy
chosen_below false x y hx hy = hx

double_made : (w x y : ℕ) → 0x4000 ≤ w → w < 65536 → x < 65536 → y < 65536 → is_excluded_double w ≡ false →
    IsMade w x y (double_of w x y)
unfolding double_of
double_made w x y low high hx hy allowed =
    let both = neither ((w / 16 % 4 == 2) && (w / 256 % 16 == 0)) ((w / 128 % 2 == 1) && (w % 16 == 3)) allowed in
    let m = w / 16 % 4 in
    let r = register_at (w / 256 % 16) in
    let a = w / 128 % 2 in
    let d = register_at (w % 16) in
    let hm : w / 16 % 4 < 4 = omega arith in
    let ha : w / 128 % 2 < 2 = omega arith in
    let nr : number r ≡ w / 256 % 16 = number_of_at (w / 256 % 16) (omega arith) in
    let nd : number d ≡ w % 16 = number_of_at (w % 16) (omega arith) in
    let s = source_fields m r x hm hx (rw nr both.0) in
    let z = if takes_word (source_of m r x) then y else x in
    let e = destination_fields a d z ha (chosen_below (takes_word (source_of m r x)) x y hx hy) (rw nd both.1) in
    let no : operation_code (operation_at (w / 4096)) ≡ w / 4096 = operation_of_at (w / 4096) (omega arith) (omega arith) in
    let nb : width_code (width_at (w / 64 % 2)) ≡ w / 64 % 2 = width_of_at (w / 64 % 2) (omega arith) in
    let t = takes_word (source_of m r 0) in
    let words : source_words (source_of m r x) ++ destination_words (destination_of a d z)
    ≡ (if t then x ∷ [] else []) ++ (if a == 1 then (if t then y else x) ∷ [] else []) =
    rw (source_word m r x hm, destination_word a d z ha, takes_again m r x hm) in
    record {
      is_instr = (s.is_source, e.is_destination);
      word_is = rw (s.mode_is, s.register_is, e.mode_is, e.register_is, nr, nd, no, nb) (double_parts w);
      words_are = rw words (shape t (a == 1) x y);
    }

-- the fields of format II that aren't excluded
are_single : (c b : ℕ) (s : Source) → c < 6 → b < 2 → ((b == 1) && ((c == 1) || (c == 3) || (c == 5))) ≡ false →
    (nat_lt c 4 ≡ true → IsWritable s) → AreSingle (single_at c) (width_at b) s
are_single zero zero s hc hb allowed writable = writable refl
are_single zero (suc zero) s hc hb allowed writable = writable refl
are_single (suc zero) zero s hc hb allowed writable = (tt, writable refl)
are_single (suc zero) (suc zero) s hc hb allowed writable = absurd (cc)
are_single (suc (suc zero)) zero s hc hb allowed writable = writable refl
are_single (suc (suc zero)) (suc zero) s hc hb allowed writable = writable refl
are_single (suc (suc (suc zero))) zero s hc hb allowed writable = (tt, writable refl)
are_single (suc (suc (suc zero))) (suc zero) s hc hb allowed writable = absurd (cc)
are_single (suc (suc (suc (suc zero)))) zero s hc hb allowed writable = tt
are_single (suc (suc (suc (suc zero)))) (suc zero) s hc hb allowed writable = tt
are_single (suc (suc (suc (suc (suc zero))))) zero s hc hb allowed writable = tt
are_single (suc (suc (suc (suc (suc zero))))) (suc zero) s hc hb allowed writable = absurd (cc)
are_single (suc (suc (suc (suc (suc (suc c)))))) b s hc hb allowed writable = absurd (omega arith)
are_single c (suc (suc b)) s hc hb allowed writable = absurd (omega arith)

guarded : (b x : Bool) → (if b then true else x) ≡ false → (b ≡ false) × (x ≡ false)
guarded true x h = absurd (cc)
guarded false x h = (refl, h)

unless : (b e x : Bool) → e ≡ false → (if b then not e else x) ≡ false → (b ≡ false) × (x ≡ false)
unless true true x differs h = absurd (cc)
unless true false x differs h = absurd (cc)
unless false e x differs h = (refl, h)

not_both : (a b : Bool) → (a && b) ≡ false → a ≡ true → b ≡ false
not_both true b h e = h
not_both false b h e = absurd (cc)

one_word : (t : Bool) (x y : ℕ) → take (length (if t then x ∷ [] else [])) (x ∷ y ∷ []) ≡ (if t then x ∷ [] else [])
one_word true x y = refl
one_word false x y = refl

below_six : (c : ℕ) → c < 8 → (c == 7) ≡ false → (c == 6) ≡ false → c < 6
below_six c h seven six = grind (arith, nat_tests)

single_made : (w x y : ℕ) → 0x1000 ≤ w → w < 0x1400 → x < 65536 → (w == 0x1300) ≡ false → is_excluded_single w ≡ false →
    IsMade w x y (single_of w x)
unfolding single_of
single_made w x y low high hx other allowed =
    let c = w / 128 % 8 in
    let b = w / 64 % 2 in
    let m = w / 16 % 4 in
    let r = register_at (w % 16) in
    let hm : w / 16 % 4 < 4 = omega arith in
    let first = guarded (c == 7) _ allowed in
    let second = unless (c == 6) (w == 0x1300) _ other first.1 in
    let third = guarded ((b == 1) && ((c == 1) || (c == 3) || (c == 5))) _ second.1 in
    let fourth = guarded ((m == 2) && (w % 16 == 0)) _ third.1 in
    let no_seven : (w / 128 % 8 == 7) ≡ false = first.0 in
    let no_six : (w / 128 % 8 == 6) ≡ false = second.0 in
    let hc : w / 128 % 8 < 6 = below_six (w / 128 % 8) (omega arith) no_seven no_six in
    let nr : number r ≡ w % 16 = number_of_at (w % 16) (omega arith) in
    let s = source_fields m r x hm hx (rw nr fourth.0) in
    let nc : single_code (single_at c) ≡ c = single_of_at c hc in
    let nb : width_code (width_at b) ≡ b = width_of_at b (omega arith) in
    let writable : nat_lt c 4 ≡ true → IsWritable (source_of m r x) =
    λ e. made_writable m r x hm (rw nr (not_both (nat_lt c 4) (is_constant_operand m (w % 16)) fourth.1 e)) in
    rw other (record {
      is_instr = (s.is_source, are_single c b (source_of m r x) hc (omega arith) third.0 writable);
      word_is = rw (s.mode_is, s.register_is, nr, nc, nb) (single_parts w low high);
      words_are = rw (source_word m r x hm) (one_word (takes_word (source_of m r 0)) x y);
    })

jump_made : (w x y : ℕ) → 0x2000 ≤ w → w < 0x4000 → IsMade w x y (jump_of w)
unfolding jump_of
jump_made w x y low high =
    let nc : condition_code (condition_at (w / 1024 % 8)) ≡ w / 1024 % 8 = condition_of_at (w / 1024 % 8) (omega arith) in
    record { is_instr = omega arith; word_is = rw nc (jump_parts w low high); words_are = refl }

return_made : (w x y : ℕ) → w ≡ 0x1300 → IsMade w x y (single_of w x)
unfolding single_of
return_made w x y e = rw e (record { is_instr = tt; word_is = refl; words_are = refl })

small_made : (w x y : ℕ) → 0x1000 ≤ w → w < 0x1400 → x < 65536 → is_excluded_single w ≡ false → IsMade w x y (single_of w x)
small_made w x y low high hx allowed = elim (told (w == 0x1300)) [
  | inl e ↦ return_made w x y (grind (arith, nat_tests))
  | inr e ↦ single_made w x y low high hx e allowed
]

-- what is made of a word that isn't excluded
pub instr_made : (w x y : ℕ) → w < 65536 → x < 65536 → y < 65536 → is_excluded w ≡ false → IsMade w x y (instr_of w x y)
unfolding instr_of
instr_made w x y hw hx hy allowed =
    let first = guarded (nat_lt w 0x1000) _ allowed in
    let a : nat_lt w 0x1000 ≡ false = first.0 in
    let low : 0x1000 ≤ w = grind (arith, nat_tests) in
    elim (told (nat_lt w 0x1400)) [
      | inl e ↦
          (let high : w < 0x1400 = grind (arith, nat_tests) in
          let b : nat_lt w 0x2000 ≡ true = grind (arith, nat_tests) in
          rw b (small_made w x y low high hx (rw e at first.1)))
      | inr e ↦
          (let third = guarded (nat_lt w 0x2000) _ (rw e at first.1) in
          let b : nat_lt w 0x2000 ≡ false = third.0 in
          elim (told (nat_lt w 0x4000)) [
            | inl f ↦ rw (b, f) (jump_made w x y (grind (arith, nat_tests)) (grind (arith, nat_tests)))
            | inr f ↦ rw (b, f) (double_made w x y (grind (arith, nat_tests)) hw hx hy (rw f at third.1))
          ])
    ]

length_if : (t : Bool) (x y : ℕ) → length (if t then x ∷ [] else []) ≡ length (if t then y ∷ [] else [])
length_if true x y = refl
length_if false x y = refl

source_count : (m : ℕ) (r : Register) (x y : ℕ) → m < 4 → length (source_words (source_of m r x)) ≡ length (source_words (source_of m r y))
source_count m r x y h = rw (source_word m r x h, source_word m r y h) (length_if (takes_word (source_of m r 0)) x y)

destination_count : (a : ℕ) (d : Register) (x y : ℕ) → a < 2 →
    length (destination_words (destination_of a d x)) ≡ length (destination_words (destination_of a d y))
destination_count a d x y h = rw (destination_word a d x h, destination_word a d y h) (length_if (a == 1) x y)

double_count : (m : ℕ) (r : Register) (a : ℕ) (d : Register) (x y : ℕ) → m < 4 → a < 2 →
    length (source_words (source_of m r x) ++ destination_words (destination_of a d (if takes_word (source_of m r x) then y else x)))
    ≡ length (source_words (source_of m r 0) ++ destination_words (destination_of a d (if takes_word (source_of m r 0) then 0 else 0)))
double_count m r a d x y hm ha =
    rw (
      length-append (source_words (source_of m r x)) (destination_words (destination_of a d (if takes_word (source_of m r x) then y else x))),
      length-append (source_words (source_of m r 0)) (destination_words (destination_of a d (if takes_word (source_of m r 0) then 0 else 0))),
      source_count m r x 0 hm,
      destination_count a d (if takes_word (source_of m r x) then y else x) (if takes_word (source_of m r 0) then 0 else 0) ha,
    ) refl

-- how many extension words an instruction has isn't up to the words
pub instr_count : (w x y : ℕ) → length (extension_words (instr_of w x y)) ≡ length (extension_words (instr_of w 0 0))
unfolding instr_of single_of jump_of double_of
instr_count w x y = elim (told (nat_lt w 0x2000)) [
  | inl e ↦ rw e (elim (told (w == 0x1300)) [
    | inl f ↦ rw f refl
    | inr f ↦ rw f (source_count (w / 16 % 4) (register_at (w % 16)) x 0 (omega arith))
  ])
  | inr e ↦ rw e (elim (told (nat_lt w 0x4000)) [
    | inl f ↦ rw f refl
    | inr f ↦ rw f (double_count (w / 16 % 4) (register_at (w / 256 % 16)) (w / 128 % 2) (register_at (w % 16)) x y (omega arith) (omega arith))
  ])
]

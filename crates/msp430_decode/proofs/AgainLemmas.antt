-- The instruction of an instruction's words is that instruction, and its first word isn't excluded.
use Rattle.std.proofs.Common.{◌≡◌, ℕ, ◌<◌, ◌≤◌, refl, sym, ap, ◌∙◌, append-nil, arith, [], ◌++◌, true, false, ◌==◌, nat_lt}
use Rattle.std.proofs.lemmas.Bool.Decides.{nat_tests}
use Rattle.msp430_decode.specs.declared.instr.Width.{Width}
use Rattle.msp430_decode.specs.declared.instr.Width.TheVariants.{Word, Byte}
use Rattle.msp430_decode.specs.declared.instr.Operation.{Operation}
use Rattle.msp430_decode.specs.declared.instr.SingleOperation.{SingleOperation}
use Rattle.msp430_decode.specs.declared.instr.SingleOperation.TheVariants.{Rrc, Swpb, Rra, Sxt, Push, Call}
use Rattle.msp430_decode.specs.declared.instr.Condition.{Condition}
use Rattle.msp430_decode.specs.declared.instr.Source.{Source}
use Rattle.msp430_decode.specs.declared.instr.Destination.{Destination}
use Rattle.msp430_decode.specs.declared.instr.Instr.{Instr}
use Rattle.msp430_decode.specs.declared.instr.Instr.TheVariants.{Double, Single, Jump, ReturnFromInterrupt}
use Rattle.msp430_decode.specs.Codes.{number, operation_code, single_code, condition_code, width_code}
use Rattle.msp430_decode.specs.Operands.{IsSource, IsDestination, source_register, source_mode, source_words, destination_register, destination_mode, destination_words}
use Rattle.msp430_decode.specs.Table.{IsInstr, AreSingle, first_word, extension_words}
use Rattle.msp430_decode.specs.Excluded.{is_excluded, is_excluded_single, is_excluded_double}
use Rattle.msp430_decode.specs.Fields.{double_of, single_of, jump_of, instr_of}
use Rattle.msp430_decode.proofs.CodeLemmas.{number_again, number_below, operation_again, operation_below, single_again, single_below, condition_again, condition_below, width_again, width_below}
use Rattle.msp430_decode.proofs.OperandLemmas.{first_of, second_of, source_again, rest_again, destination_again, mode_below, destination_mode_below, no_indirect_pc, no_indexed_r3, not_constant}
use Rattle.msp430_decode.proofs.WordLemmas.{DoubleFields, double_word, SingleFields, single_word, jump_word}

-- the fields of the first word of format I
pub double_fields : (o : Operation) (b : Width) (s : Source) (d : Destination) (w : ℕ) → w ≡ first_word (Double o b s d) →
    DoubleFields w (operation_code o) (number (source_register s)) (destination_mode d) (width_code b) (source_mode s) (number (destination_register d))
double_fields o b s d w e =
    double_word w (operation_code o) (number (source_register s)) (destination_mode d) (width_code b) (source_mode s) (number (destination_register d)) e
    (number_below (source_register s)).1 (destination_mode_below d) (width_below b).1 (mode_below s) (number_below (destination_register d)).1

double_again : (o : Operation) (b : Width) (s : Source) (d : Destination) (w x y : ℕ) → IsSource s → IsDestination d →
    w ≡ first_word (Double o b s d) →
    x ≡ first_of (source_words s ++ destination_words d) → y ≡ second_of (source_words s ++ destination_words d) →
    double_of w x y ≡ Double o b s d
unfolding double_of
double_again o b s d w x y hs hd e ex ey =
    let f = double_fields o b s d w e in
    rw (f.code_is, f.source_is, f.ad_is, f.width_is, f.as_is, f.destination_is, ex, ey)
    (rw (operation_again o, width_again b, number_again (source_register s), number_again (destination_register d))
    (rw (source_again s (destination_words d) hs, rest_again s (destination_words d), destination_again d hd)))

pub single_fields : (o : SingleOperation) (b : Width) (s : Source) (w : ℕ) → w ≡ first_word (Single o b s) →
    SingleFields w (single_code o) (width_code b) (source_mode s) (number (source_register s))
single_fields o b s w e =
    single_word w (single_code o) (width_code b) (source_mode s) (number (source_register s)) e
    (omega (arith, single_below o)) (width_below b).1 (mode_below s) (number_below (source_register s)).1

single_instr_again : (o : SingleOperation) (b : Width) (s : Source) (w x : ℕ) → IsSource s →
    w ≡ first_word (Single o b s) → x ≡ first_of (source_words s ++ []) → single_of w x ≡ Single o b s
unfolding single_of
single_instr_again o b s w x hs e ex =
    let f = single_fields o b s w e in
    let small : w < 0x1300 = omega (arith, (single_below o).1, (width_below b).1, mode_below s, (number_below (source_register s)).1) in
    let other : (w == 0x1300) ≡ false = grind (arith, nat_tests) in
    rw (other, f.code_is, f.width_is, f.as_is, f.register_is, ex)
    (rw (single_again o, width_again b, number_again (source_register s)) (rw (source_again s [] hs)))

jump_again : (c : Condition) (offset w : ℕ) → offset < 1024 → w ≡ first_word (Jump c offset) → jump_of w ≡ Jump c offset
unfolding jump_of
jump_again c offset w h e =
    let f = jump_word w (condition_code c) offset e (condition_below c).1 h in
    rw (f.condition_is, f.offset_is) (rw (condition_again c))

-- a first word's format is told by its size
double_range : (o : Operation) (b : Width) (s : Source) (d : Destination) (w : ℕ) → w ≡ first_word (Double o b s d)
    → (0x4000 ≤ w) × (w < 65536)
double_range o b s d w e =
    let h = operation_below o in
    let hs = number_below (source_register s) in
    let hd = number_below (destination_register d) in
    (omega (arith, h.0), omega (arith, h.1, hs.1, destination_mode_below d, (width_below b).1, mode_below s, hd.1))

single_range : (o : SingleOperation) (b : Width) (s : Source) (w : ℕ) → w ≡ first_word (Single o b s) → (0x1000 ≤ w) × (w < 0x1300)
single_range o b s w e =
    (omega arith, omega (arith, (single_below o).1, (width_below b).1, mode_below s, (number_below (source_register s)).1))

jump_range : (c : Condition) (offset w : ℕ) → offset < 1024 → w ≡ first_word (Jump c offset) → (0x2000 ≤ w) × (w < 0x4000)
jump_range c offset w h e = (omega arith, omega (arith, (condition_below c).1))

returned : (w x y : ℕ) → w ≡ 0x1300 → instr_of w x y ≡ ReturnFromInterrupt
unfolding instr_of single_of
returned w x y e = rw e refl

-- the instruction of its words
pub instr_again : (i : Instr) (w x y : ℕ) → IsInstr i → w ≡ first_word i →
    x ≡ first_of (extension_words i) → y ≡ second_of (extension_words i) → instr_of w x y ≡ i
unfolding instr_of
instr_again (Double o b s d) w x y h e ex ey =
    let range = double_range o b s d w e in
    let not_single : nat_lt w 0x2000 ≡ false = grind (arith, nat_tests) in
    let not_jump : nat_lt w 0x4000 ≡ false = grind (arith, nat_tests) in
    rw (not_single, not_jump) (double_again o b s d w x y h.0 h.1 e ex ey)
instr_again (Single o b s) w x y h e ex ey =
    let range = single_range o b s w e in
    let is_single : nat_lt w 0x2000 ≡ true = grind (arith, nat_tests) in
    rw is_single (single_instr_again o b s w x h.0 e (ex ∙ ap first_of (sym (append-nil (source_words s)))))
instr_again (Jump c offset) w x y h e ex ey =
    let range = jump_range c offset w h e in
    let not_single : nat_lt w 0x2000 ≡ false = grind (arith, nat_tests) in
    let is_jump : nat_lt w 0x4000 ≡ true = grind (arith, nat_tests) in
    rw (not_single, is_jump) (jump_again c offset w h e)
instr_again ReturnFromInterrupt w x y h e ex ey = returned w x y e

double_allowed : (o : Operation) (b : Width) (s : Source) (d : Destination) (w : ℕ) → IsSource s → IsDestination d →
    w ≡ first_word (Double o b s d) → is_excluded_double w ≡ false
double_allowed o b s d w hs hd e =
    let f = double_fields o b s d w e in
    rw (f.as_is, f.source_is, f.ad_is, f.destination_is) (rw (no_indirect_pc s hs, no_indexed_r3 d hd))

single_allowed : (o : SingleOperation) (b : Width) (s : Source) (w : ℕ) → IsSource s → AreSingle o b s →
    w ≡ first_word (Single o b s) → is_excluded_single w ≡ false
single_allowed Rrc Word s w hs h e =
    let f = single_fields Rrc Word s w e in rw (f.code_is, f.width_is, f.as_is, f.register_is) (rw (no_indirect_pc s hs, not_constant s hs h))
single_allowed Rrc Byte s w hs h e =
    let f = single_fields Rrc Byte s w e in rw (f.code_is, f.width_is, f.as_is, f.register_is) (rw (no_indirect_pc s hs, not_constant s hs h))
single_allowed Swpb Word s w hs h e =
    let f = single_fields Swpb Word s w e in rw (f.code_is, f.width_is, f.as_is, f.register_is) (rw (no_indirect_pc s hs, not_constant s hs h.1))
single_allowed Swpb Byte s w hs h e = absurd h.0
single_allowed Rra Word s w hs h e =
    let f = single_fields Rra Word s w e in rw (f.code_is, f.width_is, f.as_is, f.register_is) (rw (no_indirect_pc s hs, not_constant s hs h))
single_allowed Rra Byte s w hs h e =
    let f = single_fields Rra Byte s w e in rw (f.code_is, f.width_is, f.as_is, f.register_is) (rw (no_indirect_pc s hs, not_constant s hs h))
single_allowed Sxt Word s w hs h e =
    let f = single_fields Sxt Word s w e in rw (f.code_is, f.width_is, f.as_is, f.register_is) (rw (no_indirect_pc s hs, not_constant s hs h.1))
single_allowed Sxt Byte s w hs h e = absurd h.0
single_allowed Push Word s w hs h e =
    let f = single_fields Push Word s w e in rw (f.code_is, f.width_is, f.as_is, f.register_is) (rw (no_indirect_pc s hs))
single_allowed Push Byte s w hs h e =
    let f = single_fields Push Byte s w e in rw (f.code_is, f.width_is, f.as_is, f.register_is) (rw (no_indirect_pc s hs))
single_allowed Call Word s w hs h e =
    let f = single_fields Call Word s w e in rw (f.code_is, f.width_is, f.as_is, f.register_is) (rw (no_indirect_pc s hs))
single_allowed Call Byte s w hs h e = absurd h

-- no instruction's first word is excluded
pub allowed_again : (i : Instr) (w : ℕ) → IsInstr i → w ≡ first_word i → is_excluded w ≡ false
allowed_again (Double o b s d) w h e =
    let range = double_range o b s d w e in
    let a : nat_lt w 0x1000 ≡ false = grind (arith, nat_tests) in
    let b : nat_lt w 0x1400 ≡ false = grind (arith, nat_tests) in
    let c : nat_lt w 0x2000 ≡ false = grind (arith, nat_tests) in
    let d : nat_lt w 0x4000 ≡ false = grind (arith, nat_tests) in
    rw (a, b, c, d) (double_allowed _ _ _ _ w h.0 h.1 e)
allowed_again (Single o b s) w h e =
    let range = single_range o b s w e in
    let a : nat_lt w 0x1000 ≡ false = grind (arith, nat_tests) in
    let b : nat_lt w 0x1400 ≡ true = grind (arith, nat_tests) in
    rw (a, b) (single_allowed _ _ _ w h.0 h.1 e)
allowed_again (Jump c offset) w h e =
    let range = jump_range c offset w h e in
    let a : nat_lt w 0x1000 ≡ false = grind (arith, nat_tests) in
    let b : nat_lt w 0x1400 ≡ false = grind (arith, nat_tests) in
    let c : nat_lt w 0x2000 ≡ false = grind (arith, nat_tests) in
    let d : nat_lt w 0x4000 ≡ true = grind (arith, nat_tests) in
    rw (a, b, c, d)
allowed_again ReturnFromInterrupt w h e = rw e refl

pub first_word_below : (i : Instr) → IsInstr i → first_word i < 65536
first_word_below (Double o b s d) h = (double_range o b s d _ refl).1
first_word_below (Single o b s) h = omega (arith, (single_range o b s _ refl).1)
first_word_below (Jump c offset) h = omega (arith, (jump_range c offset _ h refl).1)
first_word_below ReturnFromInterrupt h = omega arith

-- The text of a node has no space behind that of its letter, and no M, so a field of cells behind it is the first.
use Rattle.std.proofs.Common.{◌≡◌, ℕ, ◌==◌, refl, sym, ap, ◌∙◌, subst, true, false, inl, inr, arith, Bool, None, Some, List, [], ◌∷◌, ◌++◌, length, codes}
use Rattle.std.specs.Prelude.{Option, nat_lt, nat_le}
use Rattle.std.proofs.lemmas.Bool.{cases_Bool, lt-ltb, le-leb, true≢false}
use Rattle.call_context.specs.declared.node.Frame.{Frame}
use Rattle.call_context.specs.declared.node.Frame.TheVariants.{Base, Irq}
use Rattle.call_context.specs.declared.node.Node.{Node}
use Rattle.call_context.specs.declared.node.Node.TheVariants.{At, Exit}
use Rattle.text_fields.specs.Spelling.{Avoids, has_byte}
use Rattle.text_fields.specs.Numbers.{hex_number, is_digit, number_avoids}
use Rattle.text_fields.specs.Fields.{behind, beside, beside_avoids, named_avoids, or_mark, or_mark_avoids, passing_avoids, restated_avoids, told_by, told_by_avoids}
use Rattle.text_fields.specs.Lists.{listed_or_mark, listed_or_mark_avoids}
use Rattle.node_fields.specs.Decimals.{decimal_avoids, decimal_field, is_decimal}
use Rattle.node_fields.specs.Nodes.{IsFrameText, IsNodeText, calls_field, entry_field, exit_field, frame_field, frame_of, frame_parts, irq_field, level_field, location_field, node_field, sp_field, vector_field}
use Rattle.state_text.specs.Cells.{are_loose, loose_behind}
use Rattle.cert_text.proofs.RowLemmas.{IsRowText}

frame_narrow : (digits : ℕ) (frame : Frame) → IsFrameText digits frame
    → (told_by (or_mark (irq_field digits) (codes "base")) frame_of frame_parts).Form frame
frame_narrow digits Base form = (tt, refl)
frame_narrow digits (Irq vector sp level) form = ((form.0, (form.1, (omega (arith, form.2), lt-ltb level 10 form.2))), refl)

-- a byte that no node has behind its letter and the space
record IsForeign (at : ℕ) : Type 0 where
  digit : is_digit at ≡ false
  decimal : is_decimal at ≡ false
  comma : (44 == at) ≡ false
  dash : (45 == at) ≡ false
  dot : (46 == at) ≡ false
  colon : (58 == at) ≡ false
  at_sign : (64 == at) ≡ false
  base : has_byte at (codes "base") ≡ false
  irq : has_byte at (codes "irq") ≡ false

space : IsForeign 32
space = record { digit = refl; decimal = refl; comma = refl; dash = refl; dot = refl; colon = refl; at_sign = refl; base = refl; irq = refl }

letter_m : IsForeign 77
letter_m = record { digit = refl; decimal = refl; comma = refl; dash = refl; dot = refl; colon = refl; at_sign = refl; base = refl; irq = refl }

sp_avoids : (digits at : ℕ) → is_digit at ≡ false → (45 == at) ≡ false → Avoids (sp_field digits) at
sp_avoids digits at no_digit no_dash = or_mark_avoids (hex_number digits) (codes "-") at (rw no_dash refl) (number_avoids digits at no_digit)

frame_avoids : (digits at : ℕ) → IsForeign at → Avoids (frame_field digits) at
frame_avoids digits at foreign =
    restated_avoids (told_by (or_mark (irq_field digits) (codes "base")) frame_of frame_parts) (IsFrameText digits) at (frame_narrow digits)
    (told_by_avoids (or_mark (irq_field digits) (codes "base")) frame_of frame_parts at
    (or_mark_avoids (irq_field digits) (codes "base") at foreign.base
    (named_avoids (vector_field digits) (codes "irq") at foreign.irq
    (beside_avoids 64 at decimal_field (entry_field digits) foreign.at_sign (decimal_avoids at foreign.decimal)
    (beside_avoids 46 at (sp_field digits) level_field foreign.dot (sp_avoids digits at foreign.digit foreign.dash)
    (passing_avoids decimal_field (λ level. nat_lt level 10) at (decimal_avoids at foreign.decimal)))))))

calls_avoid : (at : ℕ) → is_digit at ≡ false → (44 == at) ≡ false → Avoids calls_field at
calls_avoid at no_digit no_comma = passing_avoids (listed_or_mark (hex_number 4) 44 []) (λ sites. nat_le (length sites) 8) at
    (listed_or_mark_avoids (hex_number 4) 44 [] at no_comma refl (number_avoids 4 at no_digit))

location_avoids : (digits at : ℕ) → IsForeign at → Avoids (location_field digits) at
location_avoids digits at foreign =
    beside_avoids 58 at (hex_number 4) (beside 58 calls_field (frame_field digits)) foreign.colon (number_avoids 4 at foreign.digit)
    (beside_avoids 58 at calls_field (frame_field digits) foreign.colon (calls_avoid at foreign.digit foreign.comma) (frame_avoids digits at foreign))

exit_avoids : (digits at : ℕ) → IsForeign at → Avoids (exit_field digits) at
exit_avoids digits at foreign =
    beside_avoids 58 at (hex_number 4) (frame_field digits) foreign.colon (number_avoids 4 at foreign.digit) (frame_avoids digits at foreign)

no_m : (field : List ℕ) → has_byte 77 field ≡ false → behind (codes "M=") field ≡ None
no_m [] none = refl
no_m (b ∷ field) none = elim (cases_Bool (b == 77)) [
  | inl is ↦ absurd (true≢false (sym (rw is refl) ∙ none))
  | inr other ↦ rw other refl
]

lettered : (digits letter : ℕ) (place state : List ℕ) → has_byte 32 (letter ∷ []) ≡ false → behind (codes "M=") (letter ∷ []) ≡ None
    → has_byte 32 place ≡ false → has_byte 77 place ≡ false → are_loose digits state ≡ true
    → are_loose digits (letter ∷ 32 ∷ (place ++ 32 ∷ state)) ≡ true
lettered digits letter place state no_space no_name none nor loose =
    loose_behind digits (letter ∷ []) (place ++ 32 ∷ state) no_space no_name (loose_behind digits place state none (no_m place nor) loose)

pub node_loose : (digits : ℕ) (node : Node) (state : List ℕ) → IsNodeText digits node → are_loose digits state ≡ true
    → are_loose digits ((node_field digits).text node ++ 32 ∷ state) ≡ true
node_loose digits (At pc calls frame) state form loose =
    let value : ℕ × (List ℕ × Frame) = (pc, (calls, frame)) in
    let is : (location_field digits).Form value = (form.0, ((form.1, le-leb (length calls) 8 form.2), form.3)) in
    lettered digits 78 ((location_field digits).text value) state refl refl (location_avoids digits 32 space value is)
    (location_avoids digits 77 letter_m value is) loose
node_loose digits (Exit pc frame) state form loose =
    lettered digits 88 ((exit_field digits).text (pc, frame)) state refl refl (exit_avoids digits 32 space (pc, frame) (form.0, form.1))
    (exit_avoids digits 77 letter_m (pc, frame) (form.0, form.1)) loose

pub node_begins : (digits : ℕ) (node : Node) (rest : List ℕ) → IsRowText ((node_field digits).text node ++ rest)
node_begins digits (At pc calls frame) rest =
    record { first = 78; rest = 32 ∷ ((location_field digits).text (pc, (calls, frame)) ++ rest); are = refl; letter = inl refl }
node_begins digits (Exit pc frame) rest =
    record { first = 88; rest = 32 ∷ ((exit_field digits).text (pc, frame) ++ rest); are = refl; letter = inr refl }

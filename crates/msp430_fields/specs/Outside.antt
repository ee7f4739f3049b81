-- The first field of a state that isn't within that of another, in the order of the text.
use Rattle.std.specs.Prelude.{◌≡◌, ◌↔◌, ℕ, ◌&&◌, Bool, true, Option, None, List, [], ◌∷◌, codes, length}
use Rattle.std.proofs.Common.{refl, subst, arith}
use Rattle.std.proofs.Math.Bool.{and_assoc}
use Rattle.entry_value.specs.declared.word.Word.{Word}
use Rattle.entry_value.specs.Cells.{are_within}
use Rattle.entry_value.specs.Words.{word_within}
use Rattle.irq_frames.specs.Ranges.{ranges_within}
use Rattle.known_parts.specs.Bits.{is_bit_within}
use Rattle.value_bits.specs.Pointwise.{each_passes}
use Rattle.value_set.specs.Joining.{is_within}
use Rattle.value_text.specs.Bits.{bit_field}
use Rattle.value_text.specs.Memories.{memory_outside}
use Rattle.value_text.specs.Words.{word_text}
use Rattle.node_fields.specs.declared.outside.Outside.{Outside}
use Rattle.node_fields.specs.Outside.{FindsNone, or_else, or_else_finds, told, unless, unless_finds}
use Rattle.msp430_state.specs.Forms.{IsKnown}
use Rattle.msp430_state.specs.Known.{Known, known_within}
use Rattle.msp430_state.specs.Facts.{is_fact_within}
use Rattle.msp430_state.specs.Status.{status_within}
use Rattle.msp430_fields.specs.Places.{place_field, register_rows}
use Rattle.msp430_fields.specs.Facts.{fact_field}
use Rattle.msp430_fields.specs.Parts.{sp_field, status_field}

abbrev pub registers_outside : List (ℕ × List ℕ) → (new held : List Word) → Option Outside
registers_outside [] new held = None
registers_outside (row ∷ rows) [] held = None
registers_outside (row ∷ rows) (n ∷ new) [] = None
registers_outside (row ∷ rows) (n ∷ new) (h ∷ held) =
    or_else (unless (word_within n h) (told row.1 (word_text 4 place_field) n h)) (registers_outside rows new held)

abbrev pub head_outside : (new held : Known) → Option Outside
head_outside new held =
    or_else (unless (is_within 65536 new.sp held.sp) (told (codes "SP") sp_field.text new.sp held.sp))
    (or_else (unless (status_within new.status held.status) (told (codes "SR") (status_field true).text new.status held.status))
    (unless (is_bit_within new.late held.late) (told (codes "L") bit_field.text new.late held.late)))

abbrev pub fact_outside : (new held : Known) → Option Outside
fact_outside new held = unless (is_fact_within new.fact held.fact) (told (codes "F") fact_field.text new.fact held.fact)

-- SP, SR, L, R4 to R15, F, M and T in this order
unfoldable pub outside_of : (new held : Known) → Option Outside
outside_of new held =
    or_else (head_outside new held) (or_else (registers_outside register_rows new.registers held.registers)
    (or_else (fact_outside new held) (memory_outside 4 place_field (new.cells.cells, new.touched) (held.cells.cells, held.touched))))

-- LAWS

registers_find : (rows : List (ℕ × List ℕ)) (new held : List Word) → length new ≡ length rows → length held ≡ length rows
    → FindsNone (registers_outside rows new held) (each_passes word_within new held)
registers_find [] [] [] many more = record { only = λ none. refl; back = λ passes. refl }
registers_find [] (n ∷ new) held many more = absurd (omega (arith, many))
registers_find [] [] (h ∷ held) many more = absurd (omega (arith, more))
registers_find (row ∷ rows) [] held many more = absurd (omega (arith, many))
registers_find (row ∷ rows) (n ∷ new) [] many more = absurd (omega (arith, more))
registers_find (row ∷ rows) (n ∷ new) (h ∷ held) many more =
    or_else_finds (unless_finds (word_within n h) (told row.1 (word_text 4 place_field) n h))
    (registers_find rows new held (omega (arith, many)) (omega (arith, more)))

grouped : (a b c d e f g : Bool) → ((a && (b && c)) && (d && (e && (f && g)))) ≡ (a && b && c && d && e && f && g)
grouped a b c d e f g = simp and_assoc

outside_finds : (new held : Known) → length new.registers ≡ 12 → length held.registers ≡ 12
    → FindsNone (outside_of new held) (known_within new held)
unfolding outside_of known_within
outside_finds new held many more =
    subst (FindsNone (outside_of new held)) (grouped (is_within 65536 new.sp held.sp) (status_within new.status held.status)
    (is_bit_within new.late held.late) (each_passes word_within new.registers held.registers) (is_fact_within new.fact held.fact)
    (are_within new.cells.cells held.cells.cells) (ranges_within new.touched held.touched))
    (or_else_finds
    (or_else_finds (unless_finds (is_within 65536 new.sp held.sp) _)
    (or_else_finds (unless_finds (status_within new.status held.status) _) (unless_finds (is_bit_within new.late held.late) _)))
    (or_else_finds (registers_find register_rows new.registers held.registers many more)
    (or_else_finds (unless_finds (is_fact_within new.fact held.fact) _)
    (or_else_finds (unless_finds (are_within new.cells.cells held.cells.cells) _) (unless_finds (ranges_within new.touched held.touched) _)))))

-- no field is outside exactly where the state is within
pub outside_none : (lo hi : ℕ) (framed : Bool) (new held : Known) → IsKnown lo hi framed new → IsKnown lo hi framed held
    → (outside_of new held ≡ None) ↔ (known_within new held ≡ true)
outside_none lo hi framed new held first second =
    let finds : FindsNone (outside_of new held) (known_within new held) = outside_finds new held first.count second.count in
    (finds.only, finds.back)

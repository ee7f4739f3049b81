-- The first field of a state that isn't within that of another, in the order of the text.
use Rattle.std.specs.Prelude.{◌≡◌, ◌↔◌, ◌&&◌, Bool, true, Option, None, codes}
use Rattle.std.proofs.Common.{subst}
use Rattle.std.proofs.Math.Bool.{and_assoc}
use Rattle.entry_value.specs.Cells.{are_within}
use Rattle.entry_value.specs.Words.{byte_within}
use Rattle.irq_frames.specs.Ranges.{ranges_within}
use Rattle.value_set.specs.Joining.{is_within}
use Rattle.value_text.specs.Memories.{memory_outside}
use Rattle.value_text.specs.Sets.{set_field}
use Rattle.value_text.specs.Words.{byte_text}
use Rattle.node_fields.specs.declared.outside.Outside.{Outside}
use Rattle.node_fields.specs.Outside.{FindsNone, or_else, or_else_finds, told, unless, unless_finds}
use Rattle.mcs51_state.specs.Known.{Known, known_within, registers_within}
use Rattle.mcs51_state.specs.Facts.{is_fact_within, is_same_carry, is_same_linear}
use Rattle.mcs51_state.specs.Levels.{levels_within}
use Rattle.mcs51_state.specs.Status.{status_within}
use Rattle.mcs51_fields.specs.Places.{place_field}
use Rattle.mcs51_fields.specs.Facts.{carry_field, levels_field, linear_field}
use Rattle.mcs51_fields.specs.Parts.{status_field}

-- SP, A, B and DPL
abbrev pub first_registers : (new held : Known) → Option Outside
first_registers new held =
    or_else (unless (is_within 256 new.sp held.sp) (told (codes "SP") (set_field 2).text new.sp held.sp))
    (or_else (unless (byte_within new.a held.a) (told (codes "A") (byte_text 2 place_field) new.a held.a))
    (or_else (unless (byte_within new.b held.b) (told (codes "B") (byte_text 2 place_field) new.b held.b))
    (unless (byte_within new.dpl held.dpl) (told (codes "DPL") (byte_text 2 place_field) new.dpl held.dpl))))

-- DPH, IE and IP
abbrev pub second_registers : (new held : Known) → Option Outside
second_registers new held =
    or_else (unless (byte_within new.dph held.dph) (told (codes "DPH") (byte_text 2 place_field) new.dph held.dph))
    (or_else (unless (byte_within new.ie held.ie) (told (codes "IE") (byte_text 2 place_field) new.ie held.ie))
    (unless (byte_within new.ip held.ip) (told (codes "IP") (byte_text 2 place_field) new.ip held.ip)))

-- PSW, the levels and the facts
abbrev pub third_fields : (new held : Known) → Option Outside
third_fields new held =
    or_else (unless (status_within new.psw held.psw) (told (codes "PSW") (status_field true).text new.psw held.psw))
    (or_else (unless (levels_within new.levels held.levels) (told (codes "LV") levels_field.text new.levels held.levels))
    (or_else (unless (is_fact_within is_same_linear new.linear_fact held.linear_fact) (told (codes "K") linear_field.text new.linear_fact held.linear_fact))
    (unless (is_fact_within is_same_carry new.carry_fact held.carry_fact) (told (codes "F") carry_field.text new.carry_fact held.carry_fact))))

-- all fields in the order of the text
unfoldable pub outside_of : (new held : Known) → Option Outside
outside_of new held =
    or_else (first_registers new held) (or_else (second_registers new held) (or_else (third_fields new held)
    (memory_outside 2 place_field (new.cells.cells, new.touched) (held.cells.cells, held.touched))))

-- LAWS

grouped : (sp a b dpl dph ie ip psw levels linear carry cells touched : Bool)
    → ((sp && (a && (b && dpl))) && ((dph && (ie && ip)) && ((psw && (levels && (linear && carry))) && (cells && touched))))
    ≡ ((sp && a && b && dpl && dph && ie && ip) && psw && levels && linear && carry && cells && touched)
grouped sp a b dpl dph ie ip psw levels linear carry cells touched = simp and_assoc

outside_finds : (new held : Known) → FindsNone (outside_of new held) (known_within new held)
unfolding outside_of known_within registers_within
outside_finds new held =
    subst (FindsNone (outside_of new held)) (grouped (is_within 256 new.sp held.sp) (byte_within new.a held.a) (byte_within new.b held.b)
    (byte_within new.dpl held.dpl) (byte_within new.dph held.dph) (byte_within new.ie held.ie) (byte_within new.ip held.ip)
    (status_within new.psw held.psw) (levels_within new.levels held.levels) (is_fact_within is_same_linear new.linear_fact held.linear_fact)
    (is_fact_within is_same_carry new.carry_fact held.carry_fact) (are_within new.cells.cells held.cells.cells) (ranges_within new.touched held.touched))
    (or_else_finds
    (or_else_finds (unless_finds (is_within 256 new.sp held.sp) _)
    (or_else_finds (unless_finds (byte_within new.a held.a) _)
    (or_else_finds (unless_finds (byte_within new.b held.b) _) (unless_finds (byte_within new.dpl held.dpl) _))))
    (or_else_finds
    (or_else_finds (unless_finds (byte_within new.dph held.dph) _)
    (or_else_finds (unless_finds (byte_within new.ie held.ie) _) (unless_finds (byte_within new.ip held.ip) _)))
    (or_else_finds
    (or_else_finds (unless_finds (status_within new.psw held.psw) _)
    (or_else_finds (unless_finds (levels_within new.levels held.levels) _)
    (or_else_finds (unless_finds (is_fact_within is_same_linear new.linear_fact held.linear_fact) _)
    (unless_finds (is_fact_within is_same_carry new.carry_fact held.carry_fact) _))))
    (or_else_finds (unless_finds (are_within new.cells.cells held.cells.cells) _) (unless_finds (ranges_within new.touched held.touched) _)))))

-- no field is outside exactly where the state is within
pub outside_none : (new held : Known) → (outside_of new held ≡ None) ↔ (known_within new held ≡ true)
outside_none new held = let finds : FindsNone (outside_of new held) (known_within new held) = outside_finds new held in (finds.only, finds.back)

-- The fields of a state in groups: as they are read in front of a text, and as they are written.
use Rattle.std.specs.Prelude.{ℕ, true, Option, Bool, List, [], ◌∷◌, ◌++◌}
use Rattle.entry_value.specs.declared.byte.Byte.{Byte}
use Rattle.value_set.specs.declared.form.Form.{Form}
use Rattle.mcs51_state.specs.declared.fact.LinearFact.{LinearFact}
use Rattle.mcs51_state.specs.declared.fact.CarryFact.{CarryFact}
use Rattle.mcs51_state.specs.declared.levels.Levels.{Levels}
use Rattle.mcs51_state.specs.declared.status.Status.{Status}
use Rattle.text_fields.specs.Fronts.{in_front}
use Rattle.text_fields.specs.Items.{both_in_front}
use Rattle.mcs51_fields.specs.States.{a_named, b_named, carry_named, dph_named, dpl_named, ie_named, ip_named, levels_named, linear_named, psw_named, sp_named}

-- READING

abbrev pub First : Type 0
First = Form × (Byte × (Byte × Byte))

-- SP, A, B and DPL
abbrev pub first_in_front : (framed : Bool) → List ℕ → Option (First × List ℕ)
first_in_front framed =
    both_in_front (in_front 32 sp_named)
    (both_in_front (in_front 32 (a_named framed)) (both_in_front (in_front 32 (b_named framed)) (in_front 32 (dpl_named framed))))

abbrev pub Second : Type 0
Second = Byte × (Byte × Byte)

-- DPH, IE and IP
abbrev pub second_in_front : (framed : Bool) → List ℕ → Option (Second × List ℕ)
second_in_front framed =
    both_in_front (in_front 32 (dph_named framed)) (both_in_front (in_front 32 (ie_named framed)) (in_front 32 (ip_named framed)))

abbrev pub Third : Type 0
Third = Status × (Levels × (Option LinearFact × Option CarryFact))

-- PSW, the levels and the facts
abbrev pub third_in_front : (framed : Bool) → List ℕ → Option (Third × List ℕ)
third_in_front framed =
    both_in_front (in_front 32 (psw_named framed))
    (both_in_front (in_front 32 levels_named) (both_in_front (in_front 32 linear_named) (in_front 32 carry_named)))

-- all fields but those of RAM
abbrev pub fields_in_front : (framed : Bool) → List ℕ → Option ((First × (Second × Third)) × List ℕ)
fields_in_front framed = both_in_front (first_in_front framed) (both_in_front (second_in_front framed) (third_in_front framed))

-- WRITING

-- each with a space behind it

abbrev pub first_text : Form → (a b dpl : Byte) → List ℕ
first_text sp a b dpl =
    sp_named.text sp ++ 32 ∷ ((a_named true).text a ++ 32 ∷ ((b_named true).text b ++ 32 ∷ ((dpl_named true).text dpl ++ 32 ∷ [])))

abbrev pub second_text : (dph ie ip : Byte) → List ℕ
second_text dph ie ip = (dph_named true).text dph ++ 32 ∷ ((ie_named true).text ie ++ 32 ∷ ((ip_named true).text ip ++ 32 ∷ []))

abbrev pub third_text : Status → Levels → Option LinearFact → Option CarryFact → List ℕ
third_text psw levels linear carry =
    (psw_named true).text psw ++ 32 ∷ (levels_named.text levels ++ 32 ∷ (linear_named.text linear ++ 32 ∷ (carry_named.text carry ++ 32 ∷ [])))

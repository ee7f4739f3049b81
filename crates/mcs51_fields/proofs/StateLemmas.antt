-- A state as it is read, group by group, and as it is written.
use Rattle.std.proofs.Common.{◌≡◌, ℕ, Bool, true, List, [], ◌∷◌, ◌++◌, ap, ◌∙◌, append_assoc}
use Rattle.entry_value.specs.Cells.{CellMap}
use Rattle.mcs51_state.specs.Known.{Known}
use Rattle.text_fields.specs.Items.{IsReadAs, one_read, then_read}
use Rattle.value_text.specs.Memories.{Memory}
use Rattle.mcs51_fields.specs.Fronts.{First, Second, Third, fields_in_front, first_in_front, first_text, second_in_front, second_text, third_in_front, third_text}
use Rattle.mcs51_fields.specs.States.{DphOn, Parts, PswOn, a_named, a_on, b_named, b_on, carry_named, carry_on, dph_named, dph_on, dpl_named, dpl_on, ie_named, ie_on, ip_named, ip_on, known_text, levels_named, levels_on, linear_named, linear_on, memory_field, parts_field, psw_named, psw_on, sp_named}

-- READING

abbrev with_first : First → DphOn → Parts
with_first first more = (first.0, (first.1.0, (first.1.1.0, (first.1.1.1, more))))

abbrev with_second : Second → PswOn → DphOn
with_second second more = (second.0, (second.1.0, (second.1.1, more)))

abbrev with_third : Third → Memory → PswOn
with_third third memory = (third.0, (third.1.0, (third.1.1.0, (third.1.1.1, memory))))

first_read : (framed : Bool) → IsReadAs (parts_field framed).value (first_in_front framed) (dph_on framed).value with_first
first_read framed =
    then_read (one_read sp_named (a_on framed))
    (then_read (one_read (a_named framed) (b_on framed))
    (then_read (one_read (b_named framed) (dpl_on framed)) (one_read (dpl_named framed) (dph_on framed))))

second_read : (framed : Bool) → IsReadAs (dph_on framed).value (second_in_front framed) (psw_on framed).value with_second
second_read framed =
    then_read (one_read (dph_named framed) (ie_on framed))
    (then_read (one_read (ie_named framed) (ip_on framed)) (one_read (ip_named framed) (psw_on framed)))

third_read : (framed : Bool) → IsReadAs (psw_on framed).value (third_in_front framed) (memory_field framed).value with_third
third_read framed =
    then_read (one_read (psw_named framed) (levels_on framed))
    (then_read (one_read levels_named (linear_on framed))
    (then_read (one_read linear_named (carry_on framed)) (one_read carry_named (memory_field framed))))

abbrev Front : Type 0
Front = First × (Second × Third)

abbrev with_front : Front → Memory → Parts
with_front front memory = with_first front.0 (with_second front.1.0 (with_third front.1.1 memory))

pub fields_read : (framed : Bool) → IsReadAs (parts_field framed).value (fields_in_front framed) (memory_field framed).value with_front
fields_read framed = then_read (first_read framed) (then_read (second_read framed) (third_read framed))

abbrev pub state_of : Front → CellMap × List (ℕ × ℕ) → Known
state_of front memory = record {
  sp = front.0.0;
  a = front.0.1.0;
  b = front.0.1.1.0;
  dpl = front.0.1.1.1;
  dph = front.1.0.0;
  ie = front.1.0.1.0;
  ip = front.1.0.1.1;
  psw = front.1.1.0;
  levels = front.1.1.1.0;
  linear_fact = front.1.1.1.1.0;
  carry_fact = front.1.1.1.1.1;
  cells = memory.0;
  touched = memory.1;
}

-- WRITING

three_in_front : (a b c rest : List ℕ) → (a ++ 32 ∷ (b ++ 32 ∷ (c ++ 32 ∷ []))) ++ rest ≡ a ++ 32 ∷ (b ++ 32 ∷ (c ++ 32 ∷ rest))
three_in_front a b c rest =
    append_assoc a (32 ∷ (b ++ 32 ∷ (c ++ 32 ∷ []))) rest
    ∙ ap (λ (t : List ℕ). a ++ 32 ∷ t) (append_assoc b (32 ∷ (c ++ 32 ∷ [])) rest ∙ ap (λ (t : List ℕ). b ++ 32 ∷ t) (append_assoc c (32 ∷ []) rest))

four_in_front : (a b c d rest : List ℕ)
    → (a ++ 32 ∷ (b ++ 32 ∷ (c ++ 32 ∷ (d ++ 32 ∷ [])))) ++ rest ≡ a ++ 32 ∷ (b ++ 32 ∷ (c ++ 32 ∷ (d ++ 32 ∷ rest)))
four_in_front a b c d rest =
    append_assoc a (32 ∷ (b ++ 32 ∷ (c ++ 32 ∷ (d ++ 32 ∷ [])))) rest ∙ ap (λ (t : List ℕ). a ++ 32 ∷ t) (three_in_front b c d rest)

-- the three groups, and RAM behind them
pub all_written : (k : Known) (out one two three : List ℕ) → one ≡ out ++ first_text k.sp k.a k.b k.dpl
    → two ≡ one ++ second_text k.dph k.ie k.ip
    → three ≡ two ++ third_text k.psw k.levels k.linear_fact k.carry_fact
    → three ++ (memory_field true).text (k.cells.cells, k.touched) ≡ out ++ known_text k
all_written k out one two three is_one is_two is_three =
    let memory = (memory_field true).text (k.cells.cells, k.touched) in
    let third = third_text k.psw k.levels k.linear_fact k.carry_fact in
    let second = second_text k.dph k.ie k.ip in
    let first = first_text k.sp k.a k.b k.dpl in
    ap (λ (t : List ℕ). t ++ memory) is_three ∙ append_assoc two third memory
    ∙ ap (λ (t : List ℕ). two ++ t)
    (four_in_front ((psw_named true).text k.psw) (levels_named.text k.levels) (linear_named.text k.linear_fact) (carry_named.text k.carry_fact) memory)
    ∙ ap (λ (t : List ℕ). t ++ (psw_on true).text (k.psw, (k.levels, (k.linear_fact, (k.carry_fact, (k.cells.cells, k.touched)))))) is_two
    ∙ append_assoc one second ((psw_on true).text (k.psw, (k.levels, (k.linear_fact, (k.carry_fact, (k.cells.cells, k.touched))))))
    ∙ ap (λ (t : List ℕ). one ++ t)
    (three_in_front ((dph_named true).text k.dph) ((ie_named true).text k.ie) ((ip_named true).text k.ip)
    ((psw_on true).text (k.psw, (k.levels, (k.linear_fact, (k.carry_fact, (k.cells.cells, k.touched)))))))
    ∙ ap (λ (t : List ℕ). t ++ (dph_on true).text (k.dph, (k.ie, (k.ip, (k.psw, (k.levels, (k.linear_fact, (k.carry_fact, (k.cells.cells, k.touched))))))))) is_one
    ∙ append_assoc out first ((dph_on true).text (k.dph, (k.ie, (k.ip, (k.psw, (k.levels, (k.linear_fact, (k.carry_fact, (k.cells.cells, k.touched)))))))))
    ∙ ap (λ (t : List ℕ). out ++ t)
    (four_in_front (sp_named.text k.sp) ((a_named true).text k.a) ((b_named true).text k.b) ((dpl_named true).text k.dpl)
    ((dph_on true).text (k.dph, (k.ie, (k.ip, (k.psw, (k.levels, (k.linear_fact, (k.carry_fact, (k.cells.cells, k.touched))))))))))

use Rattle.std.proofs.Common.{◌≡◌, ◌∷◌, ◌++◌, ◌∙◌, OnOk, subst, true}
use Rattle.text_fields.specs.Fronts.{named_texts}
use Rattle.text_fields.specs.Items.{behind_space, behind_text}
use Rattle.value_text.specs.Words.{word_text}
use Rattle.msp430_fields.specs.Places.{place_field}
use Rattle.msp430_fields.specs.States.{fact_named, known_text, late_named, memory_field, register_names, sp_named, status_named}
use Rattle.msp430_fields.proofs.state.push_state.Goals as goal

pub returns : goal.returns
returns g c =
    let s = c.state.inside in
    let sp = sp_named.text s.sp in
    let status = (status_named true).text s.status in
    let late = late_named.text s.late in
    let registers = named_texts 32 (word_text 4 place_field) register_names s.registers in
    let fact = fact_named.text s.fact in
    let memory = (memory_field true 0 0).text ((g.M.Cells.map s.cells).cells, s.touched) in
    subst (λ known. OnOk c.push_memory.result (c.push_memory.new.out.items ≡ c.args.out.now.items ++ known_text known)) c.state.view_is
    (subst (λ text. OnOk c.push_memory.result (c.push_memory.new.out.items ≡ text))
    (behind_space c.push_registers.new.out.items c.push_front-4.new.out.items fact memory c.in_ok-push_front-4.ensures
    ∙ behind_text c.push_front-3.new.out.items c.push_registers.new.out.items registers (fact ++ 32 ∷ memory) c.in_ok-push_registers.ensures
    ∙ behind_space c.push_front-2.new.out.items c.push_front-3.new.out.items late (registers ++ (fact ++ 32 ∷ memory)) c.in_ok-push_front-3.ensures
    ∙ behind_space c.push_front.new.out.items c.push_front-2.new.out.items status (late ++ 32 ∷ (registers ++ (fact ++ 32 ∷ memory)))
    c.in_ok-push_front-2.ensures
    ∙ behind_space c.args.out.now.items c.push_front.new.out.items sp (status ++ 32 ∷ (late ++ 32 ∷ (registers ++ (fact ++ 32 ∷ memory))))
    c.in_ok-push_front.ensures)
    c.push_memory.ensures)

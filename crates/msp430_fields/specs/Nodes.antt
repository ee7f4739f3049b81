-- The nodes of the chip, as a test.
use Rattle.std.specs.Prelude.{◌≡◌, ◌↔◌, ℕ, ◌%◌, ◌<◌, ◌==◌, ◌&&◌, nat_lt, Bool, true, Option, None, Some}
use Rattle.std.proofs.Common.{refl, arith}
use Rattle.std.proofs.lemmas.Bool.{and_parts, and_from, eqb-true, eq-eqb, ltb-true, lt-ltb}
use Rattle.call_context.specs.declared.node.Frame.{Frame}
use Rattle.call_context.specs.declared.node.Frame.TheVariants.{Base, Irq}
use Rattle.call_context.specs.declared.node.Node.{Node}
use Rattle.call_context.specs.declared.node.Node.TheVariants.{At, Exit}
use Rattle.msp430_state.specs.Forms.{IsEntrySp, IsEvenWord, IsFrame, IsNode}
use Rattle.text_fields.specs.Fields.{IfForm}
use Rattle.node_fields.specs.Nodes.{IsFrameText, IsNodeText}
use Rattle.node_fields.specs.Tests as tests
use Rattle.node_fields.specs.Tests.{IsTest, node_test}

abbrev pub is_even_word : ℕ → Bool
is_even_word word = nat_lt word 65536 && (word % 2 == 0)

abbrev pub is_entry_sp : Option ℕ → Bool
is_entry_sp None = true
is_entry_sp (Some sp) = is_even_word sp

abbrev pub is_frame : Frame → Bool
is_frame Base = true
is_frame (Irq vector sp level) = nat_lt vector 14 && (is_entry_sp sp && (level == 0))

abbrev pub is_node : Node → Bool
is_node = tests.is_node is_even_word is_frame

-- LAWS

even_only : (word : ℕ) → is_even_word word ≡ true → IsEvenWord word
even_only word test = let parts = and_parts (nat_lt word 65536) (word % 2 == 0) test in (ltb-true word 65536 parts.0, eqb-true (word % 2) 0 parts.1)

even_back : (word : ℕ) → IsEvenWord word → is_even_word word ≡ true
even_back word form = and_from (nat_lt word 65536) (word % 2 == 0) (lt-ltb word 65536 form.0) (eq-eqb (word % 2) 0 form.1)

sp_only : (sp : Option ℕ) → is_entry_sp sp ≡ true → IsEntrySp sp
sp_only None test = tt
sp_only (Some sp) test = even_only sp test

sp_back : (sp : Option ℕ) → IsEntrySp sp → is_entry_sp sp ≡ true
sp_back None form = refl
sp_back (Some sp) form = even_back sp form

frame_only : (frame : Frame) → is_frame frame ≡ true → IsFrame frame
frame_only Base test = tt
frame_only (Irq vector sp level) test =
    let one = and_parts (nat_lt vector 14) (is_entry_sp sp && (level == 0)) test in
    let two = and_parts (is_entry_sp sp) (level == 0) one.1 in
    (ltb-true vector 14 one.0, sp_only sp two.0, eqb-true level 0 two.1)

frame_back : (frame : Frame) → IsFrame frame → is_frame frame ≡ true
frame_back Base form = refl
frame_back (Irq vector sp level) form =
    and_from (nat_lt vector 14) (is_entry_sp sp && (level == 0)) (lt-ltb vector 14 form.0)
    (and_from (is_entry_sp sp) (level == 0) (sp_back sp form.1) (eq-eqb level 0 form.2))

even_test : IsTest is_even_word IsEvenWord
even_test = record { only = even_only; back = even_back }

frame_test : IsTest is_frame IsFrame
frame_test = record { only = frame_only; back = frame_back }

node_is : (node : Node) → IsNode node ↔ tests.IsNode IsEvenWord IsFrame node
node_is (At pc calls frame) = ((λ form. form), (λ form. form))
node_is (Exit pc frame) = ((λ form. form), (λ form. form))

pub nodes : IsTest is_node IsNode
nodes = record {
  only = λ node test. (node_is node).1 ((node_test even_test frame_test).only node test);
  back = λ node form. (node_test even_test frame_test).back node ((node_is node).0 form);
}

-- what a certificate writes of such a node

sp_fits : (sp : Option ℕ) → IsEntrySp sp → IfForm (λ n. n < 65536) sp
sp_fits None form = tt
sp_fits (Some sp) form = form.0

frame_fits : (frame : Frame) → IsFrame frame → IsFrameText 4 frame
frame_fits Base form = tt
frame_fits (Irq vector sp level) form = (omega (arith, form.0), sp_fits sp form.1, omega (arith, form.2))

pub node_fits : (node : Node) → IsNode node → IsNodeText 4 node
node_fits node form = tests.node_fits 4 IsEvenWord IsFrame (λ word even. even.0) frame_fits node ((node_is node).0 form)

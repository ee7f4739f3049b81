-- The nodes of the chip, as a test.
use Rattle.std.specs.Prelude.{◌≡◌, ◌↔◌, ℕ, ◌<◌, ◌&&◌, nat_lt, nat_le, Bool, true, Option, None, Some}
use Rattle.std.proofs.Common.{refl, arith}
use Rattle.std.proofs.lemmas.Bool.{and_parts, and_from, ltb-true, lt-ltb, leb-true, le-leb}
use Rattle.call_context.specs.declared.node.Frame.{Frame}
use Rattle.call_context.specs.declared.node.Frame.TheVariants.{Base, Irq}
use Rattle.call_context.specs.declared.node.Node.{Node}
use Rattle.call_context.specs.declared.node.Node.TheVariants.{At, Exit}
use Rattle.mcs51_state.specs.Forms.{IsEntrySp, IsFrame, IsNode}
use Rattle.text_fields.specs.Fields.{IfForm}
use Rattle.node_fields.specs.Nodes.{IsFrameText, IsNodeText}
use Rattle.node_fields.specs.Tests as tests
use Rattle.node_fields.specs.Tests.{IsTest, node_test}

abbrev pub is_word : ℕ → Bool
is_word word = nat_lt word 65536

abbrev pub is_entry_sp : Option ℕ → Bool
is_entry_sp None = true
is_entry_sp (Some sp) = nat_lt sp 256

-- one of the six interrupts, of level 1, 2 or 3
abbrev pub is_frame : Frame → Bool
is_frame Base = true
is_frame (Irq vector sp level) = nat_lt vector 6 && (is_entry_sp sp && (nat_le 1 level && nat_le level 3))

abbrev pub is_node : Node → Bool
is_node = tests.is_node is_word is_frame

-- LAWS

abbrev IsWord : ℕ → Type 0
IsWord word = word < 65536

word_test : IsTest is_word IsWord
word_test = record { only = λ word test. ltb-true word 65536 test; back = λ word below. lt-ltb word 65536 below }

sp_only : (sp : Option ℕ) → is_entry_sp sp ≡ true → IsEntrySp sp
sp_only None test = tt
sp_only (Some sp) test = ltb-true sp 256 test

sp_back : (sp : Option ℕ) → IsEntrySp sp → is_entry_sp sp ≡ true
sp_back None form = refl
sp_back (Some sp) form = lt-ltb sp 256 form

frame_only : (frame : Frame) → is_frame frame ≡ true → IsFrame frame
frame_only Base test = tt
frame_only (Irq vector sp level) test =
    let one = and_parts (nat_lt vector 6) _ test in
    let two = and_parts (is_entry_sp sp) _ one.1 in
    let three = and_parts (nat_le 1 level) (nat_le level 3) two.1 in
    (ltb-true vector 6 one.0, sp_only sp two.0, leb-true 1 level three.0, leb-true level 3 three.1)

frame_back : (frame : Frame) → IsFrame frame → is_frame frame ≡ true
frame_back Base form = refl
frame_back (Irq vector sp level) form =
    and_from (nat_lt vector 6) _ (lt-ltb vector 6 form.0)
    (and_from (is_entry_sp sp) _ (sp_back sp form.1) (and_from (nat_le 1 level) (nat_le level 3) (le-leb 1 level form.2) (le-leb level 3 form.3)))

frame_test : IsTest is_frame IsFrame
frame_test = record { only = frame_only; back = frame_back }

node_is : (node : Node) → IsNode node ↔ tests.IsNode IsWord IsFrame node
node_is (At pc calls frame) = ((λ form. form), (λ form. form))
node_is (Exit pc frame) = ((λ form. form), (λ form. form))

pub nodes : IsTest is_node IsNode
nodes = record {
  only = λ node test. (node_is node).1 ((node_test word_test frame_test).only node test);
  back = λ node form. (node_test word_test frame_test).back node ((node_is node).0 form);
}

-- what a certificate writes of such a node

sp_fits : (sp : Option ℕ) → IsEntrySp sp → IfForm (λ n. n < 256) sp
sp_fits None form = tt
sp_fits (Some sp) form = form

frame_fits : (frame : Frame) → IsFrame frame → IsFrameText 2 frame
frame_fits Base form = tt
frame_fits (Irq vector sp level) form = (omega (arith, form.0), sp_fits sp form.1, omega (arith, form.3))

pub node_fits : (node : Node) → IsNode node → IsNodeText 2 node
node_fits node form = tests.node_fits 2 IsWord IsFrame (λ word below. below) frame_fits node ((node_is node).0 form)

-- A chip's nodes, as a test, of what it asks of an address and of a frame.
use Rattle.std.specs.Prelude.{◌≡◌, ℕ, ◌<◌, ◌≤◌, ◌&&◌, nat_le, Bool, true, false, None, Some, List, [], ◌∷◌, length, All}
use Rattle.std.specs.List.{AllByRecursion, list_all}
use Rattle.std.proofs.Common.{refl}
use Rattle.std.proofs.lemmas.Bool.{and_parts, and_from, false≢true, leb-true, le-leb}
use Rattle.std.proofs.lemmas.List.Elements.{All-from_recursion, recursion_from_All}
use Rattle.call_context.specs.declared.node.Frame.{Frame}
use Rattle.call_context.specs.declared.node.Frame.TheVariants.{Base, Irq}
use Rattle.call_context.specs.declared.node.Node.{Node}
use Rattle.call_context.specs.declared.node.Node.TheVariants.{At, Exit}
use Rattle.call_context.specs.Nodes.{HasEntry}
use Rattle.node_fields.specs.Nodes.{IsFrameText, IsNodeText}

-- exactly what has the form passes the test
pub record IsTest {A : Type 0} (test : A → Bool) (Form : A → Type 0) : Type 0 where
  pub only : (a : A) → test a ≡ true → Form a
  pub back : (a : A) → Form a → test a ≡ true

abbrev pub has_entry : Frame → Bool
has_entry Base = false
has_entry (Irq vector None level) = false
has_entry (Irq vector (Some sp) level) = true

-- at most eight call sites; the frame of an exit has a stack pointer
abbrev pub is_node : (is_word : ℕ → Bool) → (is_frame : Frame → Bool) → Node → Bool
is_node is_word is_frame (At pc calls frame) = is_word pc && (nat_le (length calls) 8 && (list_all is_word calls && is_frame frame))
is_node is_word is_frame (Exit pc frame) = is_word pc && (is_frame frame && has_entry frame)

abbrev pub IsNode : (IsWord : ℕ → Type 0) → (IsFrame : Frame → Type 0) → Node → Type 0
IsNode IsWord IsFrame (At pc calls frame) = IsWord pc × (length calls ≤ 8) × All IsWord calls × IsFrame frame
IsNode IsWord IsFrame (Exit pc frame) = IsWord pc × IsFrame frame × HasEntry frame

-- LAWS

entry_only : (frame : Frame) → has_entry frame ≡ true → HasEntry frame
entry_only Base test = absurd (false≢true test)
entry_only (Irq vector None level) test = absurd (false≢true test)
entry_only (Irq vector (Some sp) level) test = tt

entry_back : (frame : Frame) → HasEntry frame → has_entry frame ≡ true
entry_back Base has = absurd has
entry_back (Irq vector None level) has = absurd has
entry_back (Irq vector (Some sp) level) has = refl

module _ {is_word : ℕ → Bool} {IsWord : ℕ → Type 0} (word : IsTest is_word IsWord) where
  all_only : (words : List ℕ) → list_all is_word words ≡ true → AllByRecursion IsWord words
  all_only [] test = tt
  all_only (one ∷ words) test = let parts = and_parts (is_word one) (list_all is_word words) test in (word.only one parts.0, all_only words parts.1)

  all_back : (words : List ℕ) → AllByRecursion IsWord words → list_all is_word words ≡ true
  all_back [] forms = refl
  all_back (one ∷ words) forms = and_from (is_word one) (list_all is_word words) (word.back one forms.0) (all_back words forms.1)

module _ {is_word : ℕ → Bool} {IsWord : ℕ → Type 0} {is_frame : Frame → Bool} {IsFrame : Frame → Type 0} (word : IsTest is_word IsWord) (tested : IsTest is_frame IsFrame) where
  node_only : (node : Node) → is_node is_word is_frame node ≡ true → IsNode IsWord IsFrame node
  node_only (At pc calls frame) test =
      let one = and_parts (is_word pc) _ test in
      let two = and_parts (nat_le (length calls) 8) _ one.1 in
      let three = and_parts (list_all is_word calls) (is_frame frame) two.1 in (
        word.only pc one.0,
        leb-true (length calls) 8 two.0,
        All-from_recursion IsWord calls (all_only word calls three.0),
        tested.only frame three.1,
      )
  node_only (Exit pc frame) test =
      let one = and_parts (is_word pc) _ test in
      let two = and_parts (is_frame frame) (has_entry frame) one.1 in
      (word.only pc one.0, tested.only frame two.0, entry_only frame two.1)

  node_back : (node : Node) → IsNode IsWord IsFrame node → is_node is_word is_frame node ≡ true
  node_back (At pc calls frame) form =
      and_from (is_word pc) _ (word.back pc form.0)
      (and_from (nat_le (length calls) 8) _ (le-leb (length calls) 8 form.1)
      (and_from (list_all is_word calls) (is_frame frame) (all_back word calls (recursion_from_All IsWord calls form.2)) (tested.back frame form.3)))
  node_back (Exit pc frame) form =
      and_from (is_word pc) _ (word.back pc form.0)
      (and_from (is_frame frame) (has_entry frame) (tested.back frame form.1) (entry_back frame form.2))

  pub node_test : IsTest (is_node is_word is_frame) (IsNode IsWord IsFrame)
  node_test = record { only = node_only; back = node_back }

-- what a certificate writes of such a node

sites_fit : (IsWord : ℕ → Type 0) → ((word : ℕ) → IsWord word → word < 65536) → (sites : List ℕ) → AllByRecursion IsWord sites
    → AllByRecursion (λ site. site < 65536) sites
sites_fit IsWord fits [] forms = tt
sites_fit IsWord fits (site ∷ sites) forms = (fits site forms.0, sites_fit IsWord fits sites forms.1)

pub node_fits : (digits : ℕ) (IsWord : ℕ → Type 0) (IsFrame : Frame → Type 0) → ((word : ℕ) → IsWord word → word < 65536)
    → ((frame : Frame) → IsFrame frame → IsFrameText digits frame) → (node : Node) → IsNode IsWord IsFrame node → IsNodeText digits node
node_fits digits IsWord IsFrame fits frames (At pc calls frame) form =
    (fits pc form.0, sites_fit IsWord fits calls (recursion_from_All IsWord calls form.2), form.1, frames frame form.3)
node_fits digits IsWord IsFrame fits frames (Exit pc frame) form = (fits pc form.0, frames frame form.1)

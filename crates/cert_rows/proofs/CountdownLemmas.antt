-- The small chip is orderly, and its texts are exact.
use Rattle.std.proofs.Common.{◌≡◌, ℕ, zero, suc, ◌+◌, ◌-◌, ◌%◌, ◌<◌, ◌≤◌, refl, sym, ap, ◌∙◌, subst, true, false, inl, inr, arith, Option, None, Some, List, [], ◌∷◌, get_or, length, max}
use Rattle.std.specs.Prelude.{◌↔◌, ◌==◌, ◌&&◌, Contains, codes, nat_le, nat_lt}
use Rattle.std.proofs.lemmas.Bool.{cases_Bool, and_parts, false≢true, true≢false, le-leb, leb-true, lt-ltb, ltb-true, eqb-true}
use Rattle.std.proofs.lemmas.Option.{none-some}
use Rattle.call_context.specs.declared.node.Frame.{Frame}
use Rattle.call_context.specs.declared.node.Frame.TheVariants.{Base, Irq}
use Rattle.call_context.specs.declared.node.Node.{Node}
use Rattle.call_context.specs.declared.node.Node.TheVariants.{At, Exit}
use Rattle.call_context.specs.declared.node.Unit.{Unit as WorkUnit}
use Rattle.call_context.specs.declared.node.Unit.TheVariants.{One, Back}
use Rattle.value_set.specs.Form.{make}
use Rattle.call_context.specs.Nodes.{HasEntry, IsLocation, frame_of, pc_of}
use Rattle.chip_analysis.specs.declared.cause.Cause.{Cause}
use Rattle.chip_analysis.specs.declared.cause.Cause.TheVariants.{Fetch, Targets}
use Rattle.chip_analysis.specs.Analysis.{AreFormed, IsOrdered, KeepsForm}
use Rattle.chip_analysis.specs.Orderly.{IsOrderly, location_of}
use Rattle.text_fields.specs.Numbers.{hex_number_is_exact, number_avoids}
use Rattle.node_fields.specs.Nodes.{IsNodeText}
use Rattle.state_text.specs.Cells.{loose_alone}
use Rattle.state_text.specs.Texts.{AreTexts}
use Rattle.text_fields.specs.Fields.{behind}
use Rattle.text_fields.specs.Spelling.{has_byte}
use Rattle.hex_digits.specs.Digits.{hex}
use Rattle.cert_rows.specs.Countdown.{countdown, is_frame, is_handler, is_mine, next_of, opens_of, outside, texts}
use Rattle.plain_lemmas.specs.Members.{in_none, in_one}

abbrev HasForm : Node → ℕ → Type 0
HasForm node state = (is_mine node ≡ true) × (state < 65536)

-- two causes at one address
abbrev Open : Type 0
Open = ℕ × Cause

abbrev both_at : ℕ → Cause → Cause → List Open
both_at pc first second = (pc, first) ∷ (pc, second) ∷ []

either_at : (pc at_pc : ℕ) (cause first second : Cause) (k : ℕ) → k < length (both_at pc first second)
    → get_or (both_at pc first second) k (at_pc, cause) ≡ (at_pc, cause) → pc ≡ at_pc
either_at pc at_pc cause first second zero h e = ap (λ (p : Open). p.0) e
either_at pc at_pc cause first second (suc zero) h e = ap (λ (p : Open). p.0) e
either_at pc at_pc cause first second (suc (suc k)) h e = absurd (omega (arith, h))

two_at : (pc at_pc : ℕ) (cause first second : Cause) → Contains (both_at pc first second) (at_pc, cause) → pc ≡ at_pc
two_at pc at_pc cause first second c = either_at pc at_pc cause first second c.0 c.1 c.2

location_form : (pc state : ℕ) → state < 65536 → HasForm (At (pc % 65536) [] Base) state
location_form pc state small = (rw (lt-ltb (pc % 65536) 65536 (omega arith)) refl, small)

next_posts : (pc at : ℕ) (to : Node) (state : ℕ) → at < 65536 → Contains (next_of pc at).posts (to, state) → HasForm to state
next_posts pc at to state small c = elim (cases_Bool (at == 0)) [
  | inl none ↦ absurd (in_none (to, state) (rw none at c))
  | inr some ↦
      let is = in_one (At ((pc + 1) % 65536) [] Base, at - 1) (to, state) (rw some at c) in
      subst (λ (p : Node × ℕ). HasForm p.0 p.1) is (location_form (pc + 1) (at - 1) (omega arith))
]

open_at : (pc at at_pc : ℕ) (cause : Cause) → Contains (opens_of pc at) (at_pc, cause) → pc ≡ at_pc
open_at pc at at_pc cause c = elim (cases_Bool (at == 7)) [
  | inl seven ↦ two_at pc at_pc cause (Targets (make 65536 0 1 65536)) Fetch (rw seven at c)
  | inr other ↦ absurd (in_none (at_pc, cause) (rw other at c))
]

next_opens : (pc at at_pc : ℕ) (cause : Cause) → Contains (next_of pc at).opens (at_pc, cause) → pc ≡ at_pc
next_opens pc at at_pc cause c = elim (cases_Bool (at == 0)) [
  | inl none ↦ absurd (in_none (at_pc, cause) (rw none at c))
  | inr some ↦ open_at pc at at_pc cause (rw some at c)
]

posts_formed : (unit : WorkUnit) (at : ℕ) (exit : Option ℕ) (to : Node) (state : ℕ) → AreFormed countdown unit at exit
    → Contains (countdown.work unit at exit).posts (to, state) → HasForm to state
posts_formed (One (At pc calls frame)) at None to state form c = next_posts pc at to state form.1 c
posts_formed (One (At pc calls frame)) at (Some exit) to state form c = absurd form
posts_formed (One (Exit pc frame)) at exit to state form c = absurd (in_none (to, state) c)
posts_formed (Back (At pc calls frame) (Exit from left)) at (Some exit) to state form c =
    let is = in_one (At ((pc + 2) % 65536) [] Base, exit) (to, state) c in
    subst (λ (p : Node × ℕ). HasForm p.0 p.1) is (location_form (pc + 2) exit form.1.1)
posts_formed (Back (At pc calls frame) (At from others frame')) at (Some exit) to state form c = absurd form
posts_formed (Back (At pc calls frame) from) at None to state form c = absurd (in_none (to, state) c)
posts_formed (Back (Exit pc frame) from) at exit to state form c = absurd (in_none (to, state) c)

opens_at : (unit : WorkUnit) (at : ℕ) (exit : Option ℕ) (pc : ℕ) (cause : Cause) → Contains (countdown.work unit at exit).opens (pc, cause)
    → pc_of (location_of unit) ≡ pc
opens_at (One (At pc calls frame)) at exit at_pc cause c = next_opens pc at at_pc cause c
opens_at (One (Exit pc frame)) at exit at_pc cause c = absurd (in_none (at_pc, cause) c)
opens_at (Back (At pc calls frame) from) at (Some left) at_pc cause c = absurd (in_none (at_pc, cause) c)
opens_at (Back (At pc calls frame) from) at None at_pc cause c = absurd (in_none (at_pc, cause) c)
opens_at (Back (Exit pc frame) from) at exit at_pc cause c = absurd (in_none (at_pc, cause) c)

has_entry : (frame : Frame) → is_handler frame ≡ true → HasEntry frame
has_entry Base is = absurd (false≢true is)
has_entry (Irq vector None level) is = absurd (false≢true is)
has_entry (Irq vector (Some sp) level) is = tt

no_exit : (exit : Node) (x : ℕ) → (IsLocation exit → ⊥) → HasForm exit x → HasEntry (frame_of exit)
no_exit (At pc calls frame) x isnt form = absurd (isnt tt)
no_exit (Exit pc frame) x isnt form = has_entry frame (and_parts (nat_lt pc 65536) (is_handler frame) form.0).1

keeps : KeepsForm countdown
keeps = record {
  start = (refl, omega arith);
  posts = posts_formed;
  joined = λ node held posted h p. (h.0, omega (arith, h.1, p.1));
  widened = λ coarse node held posted h p. (h.0, omega (arith, h.1, p.1));
  topped = λ node held h. (h.0, omega arith);
}

ordered : IsOrdered countdown
ordered = record {
  itself = λ node x h. le-leb x x (omega arith);
  along = λ node x y z h k l first second. le-leb x z (omega (arith, leb-true x y first, leb-true y z second));
  held_joined = λ node held posted h p. le-leb held (max held posted) (omega arith);
  posted_joined = λ node held posted h p. le-leb posted (max held posted) (omega arith);
  held_widened = λ coarse node held posted h p. le-leb held (max held posted) (omega arith);
  posted_widened = λ coarse node held posted h p. le-leb posted (max held posted) (omega arith);
  topped = λ node state h. le-leb state 65535 (omega (arith, h.1));
}

pub orderly : IsOrderly countdown
orderly = record {
  keeps = keeps;
  ordered = ordered;
  exit_form = no_exit;
  opens_break = λ unit at exit pc cause form c. (opens_at unit at exit pc cause c, tt);
}

node_fits : (node : Node) → is_mine node ≡ true → IsNodeText 4 node
node_fits (At pc [] Base) mine = (
  ltb-true pc 65536 (and_parts (nat_lt pc 65536) true (and_parts
      (nat_lt pc 65536 && true) true mine).0).0,
  tt,
  omega arith,
  tt,
)
node_fits (At pc [] (Irq vector None level)) mine =
    let parts = and_parts (nat_lt pc 65536 && true) (nat_lt vector 100 && (level == 0)) mine in
    let entry = and_parts (nat_lt vector 100) (level == 0) parts.1 in
    let zero : level ≡ 0 = eqb-true level 0 entry.1 in
    (ltb-true pc 65536 (and_parts (nat_lt pc 65536) true parts.0).0, tt, omega arith, (ltb-true vector 100 entry.0, tt, omega (arith, zero)))
node_fits (At pc [] (Irq vector (Some sp) level)) mine = absurd (false≢true ((and_parts (nat_lt pc 65536 && true) false mine).1))
node_fits (At pc (site ∷ sites) frame) mine = absurd (false≢true (and_parts (nat_lt pc 65536) false (and_parts (nat_lt pc 65536 && false)
    (is_frame frame) mine).0).1)
node_fits (Exit pc Base) mine = absurd (false≢true (and_parts (nat_lt pc 65536) false mine).1)
node_fits (Exit pc (Irq vector None level)) mine = absurd (false≢true (and_parts (nat_lt pc 65536) false mine).1)
node_fits (Exit pc (Irq vector (Some sp) level)) mine =
    let parts = and_parts (nat_lt pc 65536) (is_handler (Irq vector (Some sp) level)) mine in
    let entry = and_parts (nat_le 9 vector && nat_le vector 10 && (sp == 640)) (level == 0) parts.1 in
    let first = and_parts (nat_le 9 vector && nat_le vector 10) (sp == 640) entry.0 in
    let below : vector ≤ 10 = leb-true vector 10 (and_parts (nat_le 9 vector) (nat_le vector 10) first.0).1 in
    let at : sp ≡ 640 = eqb-true sp 640 first.1 in
    let zero : level ≡ 0 = eqb-true level 0 entry.1 in
    (ltb-true pc 65536 parts.0, (omega (arith, below), omega (arith, at), omega (arith, zero)))

-- no M begins the text
no_cells : (text : List ℕ) → has_byte 77 text ≡ false → behind (codes "M=") text ≡ None
no_cells [] none = refl
no_cells (b ∷ text) none = elim (cases_Bool (b == 77)) [
  | inl is ↦ absurd (false≢true (sym none ∙ rw is refl))
  | inr other ↦ rw other refl
]

pub exact : AreTexts countdown texts
exact = record {
  nodes = λ node state form. node_fits node form.0;
  again = λ node state form. rw form.0 ((hex_number_is_exact 4).back state form.1);
  takes = taken;
  one_line = λ node state form. number_avoids 4 10 refl state form.1;
  loose = λ node state form. loose_alone 4 (hex 4 state) (number_avoids 4 32 refl state form.1) (no_cells (hex 4 state) (number_avoids 4 77 refl state form.1));
  included = λ node new held form form'. is_within new held;
}
  where
    taken : (node : Node) (text : List ℕ) (state : ℕ) → texts.state_of node text ≡ Some state
        → HasForm node state × (texts.text_of state ≡ text)
    taken node text state e = elim (cases_Bool (is_mine node)) [
      | inl mine ↦ let is = (hex_number_is_exact 4).only text state (rw mine at e) in ((mine, is.0), is.1)
      | inr other ↦ absurd (none-some state (rw other at e))
    ]

    is_within : (new held : ℕ) → (outside new held ≡ None) ↔ (nat_le new held ≡ true)
    is_within new held = elim (cases_Bool (nat_le new held)) [
      | inl within ↦ (λ e. within, λ h. rw within refl)
      | inr over ↦ (λ e. absurd (none-some _ (sym (rw over at e))), λ h. absurd (true≢false (sym h ∙ over)))
    ]

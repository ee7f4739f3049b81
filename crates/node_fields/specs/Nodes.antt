-- Nodes as a certificate spells them: a location by its address, the sites of its calls and its frame, an exit by its address
-- and its frame, each behind its letter.
use Rattle.std.specs.Prelude.{◌≡◌, ◌⊎◌, ℕ, ◌^◌, ◌<◌, ◌≤◌, ◌==◌, nat_lt, nat_le, if◌then◌else◌, true, false, Option, None, Some, option_map, option_and_then, List, [], ◌∷◌, ◌++◌, codes, length}
use Rattle.std.specs.List.{AllByRecursion}
use Rattle.std.specs.Str.{bytes_eq}
use Rattle.std.proofs.Common.{refl, sym, ap, ◌∙◌, inl, inr, arith}
use Rattle.std.proofs.lemmas.Bool.{true≢false, ltb-true, lt-ltb, leb-true, le-leb}
use Rattle.hex_digits.specs.Digits.{hex}
use Rattle.call_context.specs.declared.node.Frame.{Frame}
use Rattle.call_context.specs.declared.node.Frame.TheVariants.{Base, Irq}
use Rattle.call_context.specs.declared.node.Node.{Node}
use Rattle.call_context.specs.declared.node.Node.TheVariants.{At, Exit}
use Rattle.text_fields.specs.Spelling.{Spelling, IsExact, Avoids, has_byte}
use Rattle.text_fields.specs.Numbers.{is_digit, hex_number, hex_number_is_exact, number_avoids, hex_length}
use Rattle.text_fields.specs.Fields.{IfForm, behind, cut_at, front_value, other_bytes, byte_differs, named, named_is_exact, named_avoids, passing, passing_is_exact, passing_avoids, or_mark, or_mark_is_exact, or_mark_avoids, beside, beside_is_exact, beside_avoids, beside_by, beside_by_is_exact, either_front, either_front_is_exact, told_by, told_by_is_exact, told_by_avoids, restated, restated_is_exact, restated_avoids}
use Rattle.text_fields.specs.Lists.{listed, listed_longer, listed_or_mark, listed_or_mark_is_exact, listed_or_mark_avoids}
use Rattle.node_fields.specs.Decimals.{is_decimal, decimal_field, decimal_is_exact, decimal_avoids}

-- FRAMES

-- a stack pointer of so many digits, or a dash for none
abbrev pub sp_field : (digits : ℕ) → Spelling (Option ℕ)
sp_field digits = or_mark (hex_number digits) (codes "-")

-- one decimal digit
abbrev pub level_field : Spelling ℕ
level_field = passing decimal_field (λ level. nat_lt level 10)

abbrev pub entry_field : (digits : ℕ) → Spelling (Option ℕ × ℕ)
entry_field digits = beside 46 (sp_field digits) level_field

-- irq with the vector, the stack pointer at entry and the level
abbrev pub vector_field : (digits : ℕ) → Spelling (ℕ × (Option ℕ × ℕ))
vector_field digits = beside 64 decimal_field (entry_field digits)

abbrev pub irq_field : (digits : ℕ) → Spelling (ℕ × (Option ℕ × ℕ))
irq_field digits = named (vector_field digits) (codes "irq")

abbrev pub frame_of : Option (ℕ × (Option ℕ × ℕ)) → Frame
frame_of None = Base
frame_of (Some parts) = Irq parts.0 parts.1.0 parts.1.1

abbrev pub frame_parts : Frame → Option (ℕ × (Option ℕ × ℕ))
frame_parts Base = None
frame_parts (Irq vector sp level) = Some (vector, (sp, level))

abbrev pub IsFrameText : (digits : ℕ) → Frame → Type 0
IsFrameText digits Base = Unit {0}
IsFrameText digits (Irq vector sp level) = (vector < 100) × IfForm (λ n. n < 16 ^ digits) sp × (level < 10)

abbrev pub frame_field : (digits : ℕ) → Spelling Frame
frame_field digits = restated (told_by (or_mark (irq_field digits) (codes "base")) frame_of frame_parts) (IsFrameText digits)

-- NODES

-- sites with commas, the oldest first, or nothing for none; at most eight
abbrev pub calls_field : Spelling (List ℕ)
calls_field = passing (listed_or_mark (hex_number 4) 44 []) (λ sites. nat_le (length sites) 8)

-- the sites of a text that isn't empty
abbrev pub some_calls : List ℕ → Option (List ℕ)
some_calls text = option_and_then (λ sites. if nat_le (length sites) 8 then Some sites else None) ((listed (hex_number 4) 44).value text)

-- sites and a frame
abbrev pub context_field : (digits : ℕ) → Spelling (List ℕ × Frame)
context_field digits = beside 58 calls_field (frame_field digits)

-- an address, sites and a frame
abbrev pub location_field : (digits : ℕ) → Spelling (ℕ × (List ℕ × Frame))
location_field digits = beside 58 (hex_number 4) (beside 58 calls_field (frame_field digits))

-- an address and a frame
abbrev pub exit_field : (digits : ℕ) → Spelling (ℕ × Frame)
exit_field digits = beside 58 (hex_number 4) (frame_field digits)

abbrev pub NodeParts : Type 0
NodeParts = (ℕ × (List ℕ × Frame)) ⊎ (ℕ × Frame)

abbrev pub node_of : NodeParts → Node
node_of (inl parts) = At parts.0 parts.1.0 parts.1.1
node_of (inr parts) = Exit parts.0 parts.1

abbrev pub node_parts : Node → NodeParts
node_parts (At pc calls frame) = inl (pc, (calls, frame))
node_parts (Exit pc frame) = inr (pc, frame)

abbrev pub IsNodeText : (digits : ℕ) → Node → Type 0
IsNodeText digits (At pc calls frame) =
    (pc < 65536) × AllByRecursion (λ site. site < 65536) calls × (length calls ≤ 8) × IsFrameText digits frame
IsNodeText digits (Exit pc frame) = (pc < 65536) × IsFrameText digits frame

-- the location and the exit of a text, without the letter
abbrev pub location_in : (digits : ℕ) → List ℕ → Option Node
location_in digits text = option_map (λ parts. node_of (inl parts)) ((location_field digits).value text)

abbrev pub exit_in : (digits : ℕ) → List ℕ → Option Node
exit_in digits text = option_map (λ parts. node_of (inr parts)) ((exit_field digits).value text)

-- N for a location and X for an exit, and then the node
abbrev pub node_field : (digits : ℕ) → Spelling Node
node_field digits = restated (told_by (either_front (codes "N ") (location_field digits) (codes "X ") (exit_field digits)) node_of node_parts)
    (IsNodeText digits)

-- ROWS

-- a node, a space, and what is written of the node
abbrev pub RowParts : Type 0 → Type 0
RowParts A = ((ℕ × (List ℕ × Frame)) × A) ⊎ ((ℕ × Frame) × A)

abbrev pub row_of : {A : Type 0} → RowParts A → Node × A
row_of (inl parts) = (node_of (inl parts.0), parts.1)
row_of (inr parts) = (node_of (inr parts.0), parts.1)

abbrev pub located : {A : Type 0} → NodeParts → A → RowParts A
located (inl parts) a = inl (parts, a)
located (inr parts) a = inr (parts, a)

abbrev pub row_parts : {A : Type 0} → Node × A → RowParts A
row_parts row = located (node_parts row.0) row.1

abbrev pub parts_field : {A : Type 0} → (digits : ℕ) → (Node → Spelling A) → Spelling (RowParts A)
parts_field digits state = either_front
    (codes "N ") (beside_by 32 (location_field digits) (λ parts. state (node_of (inl parts))))
    (codes "X ") (beside_by 32 (exit_field digits) (λ parts. state (node_of (inr parts))))

abbrev pub HasRowForm : {A : Type 0} → (digits : ℕ) → (Node → Spelling A) → Node × A → Type 0
HasRowForm digits state row = IsNodeText digits row.0 × (state row.0).Form row.1

abbrev pub row_field : {A : Type 0} → (digits : ℕ) → (Node → Spelling A) → Spelling (Node × A)
row_field digits state = restated (told_by (parts_field digits state) row_of row_parts) (HasRowForm digits state)

-- the node in front of the first space of a text, and the text behind it
abbrev pub split_in : (List ℕ → Option Node) → List ℕ → Option (Node × List ℕ)
split_in value text = option_and_then (λ parts. option_map (λ node. (node, parts.1)) (value parts.0)) (cut_at 32 text)

abbrev pub split_behind : (digits : ℕ) → Option (List ℕ) → Option (List ℕ) → Option (Node × List ℕ)
split_behind digits (Some rest) other = split_in (location_in digits) rest
split_behind digits None other = option_and_then (split_in (exit_in digits)) other

-- the node of a row, and the text behind it
abbrev pub split_row : (digits : ℕ) → List ℕ → Option (Node × List ℕ)
split_row digits line = split_behind digits (behind (codes "N ") line) (behind (codes "X ") line)

-- LAWS

sp_is_exact : (digits : ℕ) → IsExact (sp_field digits)
sp_is_exact digits = or_mark_is_exact (hex_number digits) (codes "-")
    (λ n small. byte_differs 45 (hex digits n) (codes "-") true refl (λ has. true≢false (sym has ∙ number_avoids digits 45 refl n small)))
    (hex_number_is_exact digits)

sp_avoids : (digits at : ℕ) → is_digit at ≡ false → (45 == at) ≡ false → Avoids (sp_field digits) at
sp_avoids digits at no_digit no_dash = or_mark_avoids (hex_number digits) (codes "-") at (rw no_dash refl) (number_avoids digits at no_digit)

level_is_exact : IsExact level_field
level_is_exact = passing_is_exact decimal_field (λ level. nat_lt level 10) decimal_is_exact

irq_is_exact : (digits : ℕ) → IsExact (irq_field digits)
irq_is_exact digits =
    named_is_exact (beside 64 decimal_field (entry_field digits)) (codes "irq")
    (beside_is_exact 64 decimal_field (entry_field digits) decimal_is_exact
    (beside_is_exact 46 (sp_field digits) level_field (sp_is_exact digits) level_is_exact (sp_avoids digits 46 refl refl)) (decimal_avoids 64 refl))

frame_back : (digits : ℕ) (parts : Option (ℕ × (Option ℕ × ℕ))) → (or_mark (irq_field digits) (codes "base")).Form parts
    → frame_parts (frame_of parts) ≡ parts
frame_back digits None form = refl
frame_back digits (Some parts) form = refl

frame_narrow : (digits : ℕ) (frame : Frame) → IsFrameText digits frame
    → (told_by (or_mark (irq_field digits) (codes "base")) frame_of frame_parts).Form frame
frame_narrow digits Base form = (tt, refl)
frame_narrow digits (Irq vector sp level) form = ((form.0, (form.1, (omega (arith, form.2), lt-ltb level 10 form.2))), refl)

frame_wide : (digits : ℕ) (frame : Frame)
    → (told_by (or_mark (irq_field digits) (codes "base")) frame_of frame_parts).Form frame → IsFrameText digits frame
frame_wide digits Base form = tt
frame_wide digits (Irq vector sp level) form = (form.0.0, form.0.1.0, ltb-true level 10 form.0.1.1.1)

irq_isnt_base : (digits : ℕ) (parts : ℕ × (Option ℕ × ℕ)) → bytes_eq ((irq_field digits).text parts) (codes "base") ≡ false
irq_isnt_base digits parts = refl

pub frame_is_exact : (digits : ℕ) → IsExact (frame_field digits)
frame_is_exact digits =
    restated_is_exact (told_by (or_mark (irq_field digits) (codes "base")) frame_of frame_parts) (IsFrameText digits)
    (told_by_is_exact (or_mark (irq_field digits) (codes "base")) frame_of frame_parts
    (or_mark_is_exact (irq_field digits) (codes "base") (λ parts form. irq_isnt_base digits parts) (irq_is_exact digits)) (frame_back digits))
    (frame_narrow digits) (frame_wide digits)

-- a byte that no node has behind its letter and the space
record IsForeign (at : ℕ) : Type 0 where
  digit : is_digit at ≡ false
  decimal : is_decimal at ≡ false
  comma : (44 == at) ≡ false
  dash : (45 == at) ≡ false
  dot : (46 == at) ≡ false
  colon : (58 == at) ≡ false
  at_sign : (64 == at) ≡ false
  base : has_byte at (codes "base") ≡ false
  irq : has_byte at (codes "irq") ≡ false

space : IsForeign 32
space = record { digit = refl; decimal = refl; comma = refl; dash = refl; dot = refl; colon = refl; at_sign = refl; base = refl; irq = refl }

feed : IsForeign 10
feed = record { digit = refl; decimal = refl; comma = refl; dash = refl; dot = refl; colon = refl; at_sign = refl; base = refl; irq = refl }

frame_avoids : (digits at : ℕ) → IsForeign at → Avoids (frame_field digits) at
frame_avoids digits at foreign =
    restated_avoids (told_by (or_mark (irq_field digits) (codes "base")) frame_of frame_parts) (IsFrameText digits) at (frame_narrow digits)
    (told_by_avoids (or_mark (irq_field digits) (codes "base")) frame_of frame_parts at
    (or_mark_avoids (irq_field digits) (codes "base") at foreign.base
    (named_avoids (beside 64 decimal_field (entry_field digits)) (codes "irq") at foreign.irq
    (beside_avoids 64 at decimal_field (entry_field digits) foreign.at_sign (decimal_avoids at foreign.decimal)
    (beside_avoids 46 at (sp_field digits) level_field foreign.dot (sp_avoids digits at foreign.digit foreign.dash)
    (passing_avoids decimal_field (λ level. nat_lt level 10) at (decimal_avoids at foreign.decimal)))))))

calls_is_exact : IsExact calls_field
calls_is_exact =
    passing_is_exact (listed_or_mark (hex_number 4) 44 []) (λ sites. nat_le (length sites) 8)
    (listed_or_mark_is_exact (hex_number 4) 44 [] (λ sites form. other_bytes ((listed (hex_number 4) 44).text sites) []
    (λ e. absurd (omega (arith, ap length e, listed_longer (hex_number 4) 44 4 (λ site small. omega (arith, hex_length 4 site)) sites form))))
    (hex_number_is_exact 4) (number_avoids 4 44 refl))

calls_avoid : (at : ℕ) → is_digit at ≡ false → (44 == at) ≡ false → Avoids calls_field at
calls_avoid at no_digit no_comma = passing_avoids (listed_or_mark (hex_number 4) 44 []) (λ sites. nat_le (length sites) 8) at
    (listed_or_mark_avoids (hex_number 4) 44 [] at no_comma refl (number_avoids 4 at no_digit))

location_is_exact : (digits : ℕ) → IsExact (location_field digits)
location_is_exact digits =
    beside_is_exact 58 (hex_number 4) (beside 58 calls_field (frame_field digits)) (hex_number_is_exact 4)
    (beside_is_exact 58 calls_field (frame_field digits) calls_is_exact (frame_is_exact digits) (calls_avoid 58 refl refl)) (number_avoids 4 58 refl)

exit_is_exact : (digits : ℕ) → IsExact (exit_field digits)
exit_is_exact digits =
    beside_is_exact 58 (hex_number 4) (frame_field digits) (hex_number_is_exact 4) (frame_is_exact digits) (number_avoids 4 58 refl)

location_avoids : (digits at : ℕ) → IsForeign at → Avoids (location_field digits) at
location_avoids digits at foreign =
    beside_avoids 58 at (hex_number 4) (beside 58 calls_field (frame_field digits)) foreign.colon (number_avoids 4 at foreign.digit)
    (beside_avoids 58 at calls_field (frame_field digits) foreign.colon (calls_avoid at foreign.digit foreign.comma) (frame_avoids digits at foreign))

exit_avoids : (digits at : ℕ) → IsForeign at → Avoids (exit_field digits) at
exit_avoids digits at foreign =
    beside_avoids 58 at (hex_number 4) (frame_field digits) foreign.colon (number_avoids 4 at foreign.digit) (frame_avoids digits at foreign)

node_back : (digits : ℕ) (parts : NodeParts) → node_parts (node_of parts) ≡ parts
node_back digits (inl parts) = refl
node_back digits (inr parts) = refl

node_narrow : (digits : ℕ) (node : Node) → IsNodeText digits node
    → (told_by (either_front (codes "N ") (location_field digits) (codes "X ") (exit_field digits)) node_of node_parts).Form node
node_narrow digits (At pc calls frame) form = ((form.0, ((form.1, le-leb (length calls) 8 form.2), form.3)), refl)
node_narrow digits (Exit pc frame) form = ((form.0, form.1), refl)

node_wide : (digits : ℕ) (node : Node) → (told_by (either_front (codes "N ") (location_field digits) (codes "X ")
    (exit_field digits)) node_of node_parts).Form node → IsNodeText digits node
node_wide digits (At pc calls frame) form = (form.0.0, form.0.1.0.0, leb-true (length calls) 8 form.0.1.0.1, form.0.1.1)
node_wide digits (Exit pc frame) form = (form.0.0, form.0.1)

pub node_is_exact : (digits : ℕ) → IsExact (node_field digits)
node_is_exact digits =
    restated_is_exact (told_by (either_front (codes "N ") (location_field digits) (codes "X ") (exit_field digits)) node_of node_parts) (IsNodeText digits)
    (told_by_is_exact (either_front (codes "N ") (location_field digits) (codes "X ") (exit_field digits)) node_of node_parts
    (either_front_is_exact (codes "N ") (location_field digits) (codes "X ") (exit_field digits) (location_is_exact digits) (exit_is_exact digits) refl)
    (λ parts form. node_back digits parts))
    (node_narrow digits) (node_wide digits)

-- a node is in one line
pub node_in_one_line : (digits : ℕ) (node : Node) → IsNodeText digits node → has_byte 10 ((node_field digits).text node) ≡ false
node_in_one_line digits (At pc calls frame) form =
    location_avoids digits 10 feed (pc, (calls, frame)) (form.0, ((form.1, le-leb (length calls) 8 form.2), form.3))
node_in_one_line digits (Exit pc frame) form = exit_avoids digits 10 feed (pc, frame) (form.0, form.1)

row_back : {A : Type 0} (digits : ℕ) (state : Node → Spelling A) (parts : RowParts A) → row_parts (row_of parts) ≡ parts
row_back digits state (inl parts) = refl
row_back digits state (inr parts) = refl

row_narrow : {A : Type 0} (digits : ℕ) (state : Node → Spelling A) (node : Node) (a : A) → HasRowForm digits state (node, a)
    → (told_by (parts_field digits state) row_of row_parts).Form (node, a)
row_narrow digits state (At pc calls frame) a form = (((form.0.0, ((form.0.1, le-leb (length calls) 8 form.0.2), form.0.3)), form.1), refl)
row_narrow digits state (Exit pc frame) a form = (((form.0.0, form.0.1), form.1), refl)

row_wide : {A : Type 0} (digits : ℕ) (state : Node → Spelling A) (node : Node) (a : A)
    → (told_by (parts_field digits state) row_of row_parts).Form (node, a)
    → HasRowForm digits state (node, a)
row_wide digits state (At pc calls frame) a form =
    ((form.0.0.0, form.0.0.1.0.0, leb-true (length calls) 8 form.0.0.1.0.1, form.0.0.1.1), form.0.1)
row_wide digits state (Exit pc frame) a form = ((form.0.0.0, form.0.0.1), form.0.1)

pub row_is_exact : {A : Type 0} (digits : ℕ) (state : Node → Spelling A) → ((node : Node) → IsExact (state node))
    → IsExact (row_field digits state)
row_is_exact digits state h =
    restated_is_exact (told_by (parts_field digits state) row_of row_parts) (HasRowForm digits state)
    (told_by_is_exact (parts_field digits state) row_of row_parts
    (either_front_is_exact
    (codes "N ") (beside_by 32 (location_field digits) (λ parts. state (node_of (inl parts))))
    (codes "X ") (beside_by 32 (exit_field digits) (λ parts. state (node_of (inr parts))))
    (beside_by_is_exact 32 (location_field digits) (λ parts. state (node_of (inl parts))) (location_is_exact digits) (λ parts form. h (node_of (inl parts)))
    (location_avoids digits 32 space))
    (beside_by_is_exact 32 (exit_field digits) (λ parts. state (node_of (inr parts))) (exit_is_exact digits) (λ parts form. h (node_of (inr parts)))
    (exit_avoids digits 32 space)) refl)
    (λ parts form. row_back digits state parts))
    (λ row form. row_narrow digits state row.0 row.1 form) (λ row form. row_wide digits state row.0 row.1 form)

-- a row is read by its node first
state_read : {P A : Type 0} (to : P → Node) (into : P × A → RowParts A)
    → ((p : P) (a : A) → row_of (into (p, a)) ≡ (to p, a)) → (p : P) (a : Option A)
    → option_map row_of (option_map into (option_map (λ x. (p, x)) a)) ≡ option_map (λ x. (to p, x)) a
state_read to into same p None = refl
state_read to into same p (Some a) = ap Some (same p a)

place_read : {P A : Type 0} (state : Node → Spelling A) (to : P → Node) (into : P × A → RowParts A)
    → ((p : P) (a : A) → row_of (into (p, a)) ≡ (to p, a))
    → (text : List ℕ) (place : Option P)
    → option_map row_of (option_map into (option_and_then (λ p. option_map (λ a. (p, a)) ((state (to p)).value text)) place))
    ≡ option_and_then (λ (split : Node × List ℕ). option_map (λ a. (split.0, a)) ((state split.0).value split.1))
    (option_map (λ node. (node, text)) (option_map to place))
place_read state to into same text None = refl
place_read state to into same text (Some p) = state_read to into same p ((state (to p)).value text)

cut_read : {P A : Type 0} (state : Node → Spelling A) (value : List ℕ → Option P) (to : P → Node) (into : P × A → RowParts A)
    → ((p : P) (a : A) → row_of (into (p, a)) ≡ (to p, a)) → (cut : Option (List ℕ × List ℕ))
    → option_map row_of (option_map into (option_and_then
    (λ (parts : List ℕ × List ℕ). option_and_then (λ p. option_map (λ a. (p, a)) ((state (to p)).value parts.1)) (value parts.0)) cut))
    ≡ option_and_then (λ (split : Node × List ℕ). option_map (λ a. (split.0, a)) ((state split.0).value split.1))
    (option_and_then (λ (parts : List ℕ × List ℕ). option_map (λ node. (node, parts.1)) (option_map to (value parts.0))) cut)
cut_read state value to into same None = refl
cut_read state value to into same (Some parts) = place_read state to into same parts.1 (value parts.0)

sides_read : {A : Type 0} (digits : ℕ) (state : Node → Spelling A) (first other : Option (List ℕ))
    → option_map row_of (front_value (beside_by 32 (location_field digits) (λ parts. state (node_of (inl parts)))).value
    (beside_by 32 (exit_field digits) (λ parts. state (node_of (inr parts)))).value first other)
    ≡ option_and_then (λ (split : Node × List ℕ). option_map (λ a. (split.0, a)) ((state split.0).value split.1)) (split_behind digits first other)
sides_read digits state (Some rest) other =
    cut_read state (location_field digits).value (λ parts. node_of (inl parts)) inl (λ p a. refl) (cut_at 32 rest)
sides_read digits state None None = refl
sides_read digits state None (Some rest) =
    cut_read state (exit_field digits).value (λ parts. node_of (inr parts)) inr (λ p a. refl) (cut_at 32 rest)

pub row_value : {A : Type 0} (digits : ℕ) (state : Node → Spelling A) (line : List ℕ)
    → (row_field digits state).value line ≡ option_and_then (λ (split : Node × List ℕ). option_map (λ a. (split.0, a)) ((state split.0).value split.1))
    (split_row digits line)
row_value digits state line = sides_read digits state (behind (codes "N ") line) (behind (codes "X ") line)

row_text_of : {A : Type 0} (digits : ℕ) (state : Node → Spelling A) (node : Node) (a : A)
    → (row_field digits state).text (node, a) ≡ (node_field digits).text node ++ 32 ∷ (state node).text a
row_text_of digits state (At pc calls frame) a = refl
row_text_of digits state (Exit pc frame) a = refl

-- the text of a row is that of its node, a space, and what is written of the node
pub row_text : {A : Type 0} (digits : ℕ) (state : Node → Spelling A) (row : Node × A)
    → (row_field digits state).text row ≡ (node_field digits).text row.0 ++ 32 ∷ (state row.0).text row.1
row_text digits state row = row_text_of digits state row.0 row.1

-- What is known behind a write has the form of states.
use Rattle.msp430_alu.specs.NumberFacts.{even_parts_form}
use Rattle.std.proofs.Common.{◌≡◌, ℕ, ◌+◌, ◌-◌, ◌<◌, ◌≤◌, ◌==◌, Bool, true, false, Option, None, Some, List, [], ◌∷◌, length, get_or, set, sym, ap, ◌∙◌, subst, inl, inr, arith, Contains}
use Rattle.std.specs.Prelude.{nat_lt, not, ◌||◌, if◌then◌else◌}
use Rattle.std.specs.List.{filter}
use Rattle.std.proofs.lemmas.Bool.{cond_both, eqb-true}
use Rattle.std.proofs.lemmas.List.{length-set}
use Rattle.std.proofs.lemmas.List.Elements.{All-set, Contains-get_or}
use Rattle.value_set.specs.Remainders.{HasRemainder}
use Rattle.std.proofs.lemmas.Option.{same_Some}
use Rattle.plain_lemmas.specs.Members.{in_none, in_cons, in_first, in_rest}
use Rattle.entry_value.specs.declared.cells.Cell.{Cell}
use Rattle.entry_value.specs.declared.word.Word.{Word}
use Rattle.entry_value.specs.Words.{common_entry, word_join}
use Rattle.entry_value.specs.Cells.{CellMap, AreCells, is_nothing, meets, insert, write_one, write_several, write_any, telling, with_some, kept, meets_beside, cell_behind}
use Rattle.value_set.specs.declared.form.Form.{Form}
use Rattle.value_set.specs.Form.{Has, IsNormal, members}
use Rattle.value_set.specs.Joining.{is_in}
use Rattle.value_set.specs.Summing.{count_of}
use Rattle.msp430_decode.specs.declared.instr.Register.{Register}
use Rattle.msp430_decode.specs.declared.instr.Width.{Width}
use Rattle.msp430_decode.specs.Codes.{number}
use Rattle.msp430_chip.specs.declared.device.Device.{Device}
use Rattle.msp430_chip.specs.Kinds.{Kind}
use Rattle.msp430_chip.specs.Kinds.Kind.{Counter, Stack, Status, Empty, General}
use Rattle.msp430_chip.specs.Memory.{size_of}
use Rattle.msp430_state.specs.declared.fact.FlagFact.{FlagFact}
use Rattle.entry_value.specs.RelationFacts.{common_entry_keeps}
use Rattle.msp430_state.specs.FormFacts.{no_relation, no_status_relation}
use Rattle.msp430_state.specs.Forms.{IsRelation, IsFact, IsWord, IsChipCell, IsKnown}
use Rattle.msp430_state.specs.Known.{Known}
use Rattle.irq_frames.specs.Ranges.{AreRanges}
use Rattle.msp430_results.specs.declared.flag_bits.FlagBits.{FlagBits}
use Rattle.msp430_alu.specs.Memory.{IsDevice, touched_behind, with_store}
use Rattle.msp430_results.specs.InstructionLaws.{InstructionLaws}
use Rattle.msp430_alu.specs.Registers.{fact_without, put_register, with_word, with_sp, with_flag_bits}
use Rattle.msp430_alu.proofs.Putting.{general_put}
use Rattle.msp430_alu.proofs.Storing.{IsStorable, behind_grows, size_is, some_size}

-- REGISTERS

fact_without_form : (register : ℕ) (fact : Option FlagFact) → IsFact fact → IsFact (fact_without register fact)
fact_without_form register None form = tt
fact_without_form register (Some fact) form = cond_both (fact.register == register) None (Some fact) IsFact (λ e. tt) (λ e. form)

pub word_form : {lo hi : ℕ} {framed : Bool} {a : Known} (register : ℕ) {word : Word} → IsWord framed word → IsKnown lo hi framed a
    → IsKnown lo hi framed (with_word a register word)
word_form {framed} {a} register {word} is form =
    let count = length-set a.registers (register - 4) word ∙ form.count in
    let registers = All-set (IsWord framed) a.registers (register - 4) word is form.registers in
    let fact = fact_without_form register a.fact form.fact in
    assumption (count, registers, fact, form)

pub sp_form : (laws : InstructionLaws) {lo hi : ℕ} {framed : Bool} {a : Known} (set_so : Form) → IsNormal 65536 set_so
    → IsKnown lo hi framed a → IsKnown lo hi framed (with_sp a set_so)
sp_form laws set_so normal form = let sp = even_parts_form laws.known set_so normal in assumption (sp, form)

pub register_form : (laws : InstructionLaws) {lo hi : ℕ} {framed : Bool} {a : Known} {register : Register} {word : Word}
    → Kind register → IsWord framed word → IsKnown lo hi framed a
    → IsKnown lo hi framed (put_register a register word)
register_form laws (Counter e) is form = rw e form
register_form laws {word} (Stack e) is form = rw e (sp_form laws word.set is.normal form)
register_form laws (Status e) is form = rw e form
register_form laws (Empty e) is form = rw e form
register_form laws {a} {register} {word} (General general) is form = rw (general_put a register word general.above) (word_form (number register) is form)

pub flags_form : {lo hi : ℕ} {framed : Bool} {a : Known} (flags : Option FlagBits) → IsKnown lo hi framed a
    → IsKnown lo hi framed (with_flag_bits a flags)
flags_form None form = form
flags_form {framed} {a} (Some flags) form =
    let carry = set a.status.bits 0 flags.carry in
    let zero = set carry 1 flags.zero in
    let negative = set zero 2 flags.negative in
    let bits = length-set negative 8 flags.overflow ∙ length-set zero 2 flags.negative ∙ length-set carry 1 flags.zero ∙ length-set a.status.bits 0 flags.carry ∙ form.bits in
    assumption (bits, no_status_relation framed, form)

-- CELLS

filter_form : (framed : Bool) (test : Cell → Bool) (cells : List Cell)
    → ((c : Cell) → Contains cells c → IsChipCell framed c) → (c : Cell) → Contains (filter test cells) c
    → IsChipCell framed c
filter_form framed test [] forms c h = absurd (in_none c h)
filter_form framed test (cell ∷ cells) forms c h =
    let rest : (c : Cell) → Contains (filter test cells) c → IsChipCell framed c = filter_form framed test cells (λ d there. forms d (in_rest cell cells d there)) in
    cond_both (test cell) (cell ∷ filter test cells) (filter test cells) (λ list. Contains list c → IsChipCell framed c)
    (λ e there. elim (in_cons cell (filter test cells) c there) [
      | inl same ↦ forms c (subst (Contains (cell ∷ cells)) same (in_first cell cells))
      | inr later ↦ rest c later
    ]) (λ e there. rest c there) h

insert_form : {framed : Bool} {cell : Cell} (cells : List Cell) → IsChipCell framed cell
    → ((c : Cell) → Contains cells c → IsChipCell framed c) → (c : Cell)
    → Contains (insert cell cells) c → IsChipCell framed c
insert_form {framed} {cell} [] is forms c h = elim (in_cons cell [] c h) [
  | inl same ↦ subst (IsChipCell framed) same is
  | inr none ↦ absurd (in_none c none)
]
insert_form {framed} {cell} (first ∷ cells) is forms c h =
    cond_both (nat_lt cell.place first.place) (cell ∷ first ∷ cells) (first ∷ insert cell cells) (λ list. Contains list c → IsChipCell framed c)
    (λ e there. elim (in_cons cell (first ∷ cells) c there) [
      | inl same ↦ subst (IsChipCell framed) same is
      | inr later ↦ forms c later
    ])
    (λ e there. elim (in_cons first (insert cell cells) c there) [
      | inl same ↦ forms c (subst (Contains (first ∷ cells)) same (in_first first cells))
      | inr later ↦ insert_form cells is (λ d inside. forms d (in_rest first cells d inside)) c later
    ]) h

one_form : {framed : Bool} (map : CellMap) (at size : ℕ) (word : Word) → IsChipCell framed (record { place = at; size = size; word = word })
    → ((c : Cell) → Contains map.cells c → IsChipCell framed c)
    → (c : Cell) → Contains (write_one map at size word).cells c → IsChipCell framed c
unfolding write_one
one_form {framed} map at size word is forms c h =
    let cell : Cell = record { place = at; size = size; word = word } in
    let left = filter (λ (d : Cell). not (meets at size d)) map.cells in
    let rest : (d : Cell) → Contains left d → IsChipCell framed d = filter_form framed (λ d. not (meets at size d)) map.cells forms in
    cond_both (nat_lt at map.lo || nat_lt map.hi (at + size - 1) || is_nothing size word) left (insert cell left) (λ list. Contains list c → IsChipCell framed c)
    (λ e there. rest c there) (λ e there. insert_form left is rest c there) h

with_some_from : (made : Option Cell) (cells : List Cell) (c : Cell) → Contains (with_some made cells) c → (P : Type 0)
    → (made ≡ Some c → P) → (Contains cells c → P) → P
with_some_from None cells c h P here there = there h
with_some_from (Some made) cells c h P here there = elim (in_cons made cells c h) [
  | inl same ↦ here (ap Some same)
  | inr rest ↦ there rest
]

telling_form : {framed : Bool} {made : Cell} (c : Cell) → IsChipCell framed made → telling made ≡ Some c → IsChipCell framed c
telling_form {framed} {made} c is tells =
    cond_both (is_nothing made.size made.word) None (Some made) (λ told. told ≡ Some c → IsChipCell framed c)
    (λ e told. absurd (cc)) (λ e told. subst (IsChipCell framed) (same_Some made c told) is) tells

behind_form : {framed : Bool} (at : Form) (size : ℕ) (word : Word) {cell : Cell} (c : Cell) → IsChipCell framed cell
    → cell_behind at size word cell ≡ Some c
    → IsChipCell framed c
behind_form {framed} at size word {cell} c is made =
    let joined : Cell = record { place = cell.place; size = size; word = word_join cell.word word } in
    let plain = if cell.size == size then telling joined else None in
    let rest = if not (is_in 65536 at cell.place) then Some cell else plain in
    cond_both (meets_beside at size cell) None rest (λ told. told ≡ Some c → IsChipCell framed c)
    (λ e told. absurd (cc))
    (λ e told. cond_both (not (is_in 65536 at cell.place)) (Some cell) plain (λ kept_so. kept_so ≡ Some c → IsChipCell framed c)
    (λ f same. subst (IsChipCell framed) (same_Some cell c same) is)
    (λ f same. cond_both (cell.size == size) (telling joined) None (λ last. last ≡ Some c → IsChipCell framed c)
    (λ g now. let sized : cell.size ≡ size = eqb-true cell.size size g in
    telling_form c record {
      even = λ two. is.even (sized ∙ two);
      byte = λ one. ap (λ entry. common_entry entry word.entry) (is.byte (sized ∙ one));
      entry = common_entry_keeps (IsRelation framed) cell.word.entry word.entry (no_relation framed) is.entry;
    } now)
    (λ g now. absurd (cc)) same) told) made

several_form : (framed : Bool) (at : Form) (size : ℕ) (word : Word) (cells : List Cell)
    → ((c : Cell) → Contains cells c → IsChipCell framed c)
    → (c : Cell) → Contains (kept (cell_behind at size word) cells) c → IsChipCell framed c
several_form framed at size word [] forms c h = absurd (in_none c h)
several_form framed at size word (cell ∷ cells) forms c h =
    with_some_from (cell_behind at size word cell) (kept (cell_behind at size word) cells) c h (IsChipCell framed c)
    (λ made. behind_form at size word c (forms cell (in_first cell cells)) made)
    (λ later. several_form framed at size word cells (λ d inside. forms d (in_rest cell cells d inside)) c later)

-- a word that may be stored in cells
pub record IsCellWord (framed : Bool) (width : Width) (word : Word) : Type 0 where
  pub storable : IsStorable width word
  pub byte : size_of width ≡ 1 → word.entry ≡ None
  pub entry : IsRelation framed word.entry

any_cell_form : {framed : Bool} (map : CellMap) (at : Form) {width : Width} {word : Word}
    → 1 ≤ length (members 65536 at) → (size_of width ≡ 2 → HasRemainder 65536 2 0 at)
    → IsCellWord framed width word
    → ((c : Cell) → Contains map.cells c → IsChipCell framed c) → (c : Cell)
    → Contains (write_any map at (size_of width) word).cells c → IsChipCell framed c
unfolding write_any write_several
any_cell_form {framed} map at {width} {word} some even_so is forms c h =
    let size = size_of width in
    let place = get_or (members 65536 at) 0 0 in
    let member : Has 65536 at place = Contains-get_or (members 65536 at) 0 0 (omega (arith, some)) in
    let stored : IsChipCell framed (record { place = place; size = size; word = word }) = record { even = λ two. even_so two place member; byte = is.byte; entry = is.entry } in
    cond_both (count_of 65536 at == 1) (write_one map place size word) (write_several map at size word) (λ (after : CellMap). Contains after.cells c → IsChipCell framed c)
    (λ e there. one_form map place size word stored forms c there)
    (λ e there. several_form framed at size word map.cells forms c there) h

store_touched : (laws : InstructionLaws) (device : Device) (framed : Bool) (width : Width) (at : Form) (touched : List (ℕ × ℕ))
    → device.ram.lo ≤ device.ram.hi
    → AreRanges device.ram.lo device.ram.hi touched
    → AreRanges device.ram.lo device.ram.hi (if framed then touched_behind device.ram.lo device.ram.hi (size_of width) at touched else touched)
store_touched laws device true width at touched le are = (behind_grows laws device.ram.lo device.ram.hi (size_of width) at touched le (some_size width) are).form
store_touched laws device false width at touched le are = are

store_none : (device : Device) (framed : Bool) (width : Width) (at : Form) (touched : List (ℕ × ℕ))
    → (framed ≡ false → touched ≡ []) → framed ≡ false
    → (if framed then touched_behind device.ram.lo device.ram.hi (size_of width) at touched else touched) ≡ []
store_none device true width at touched none base = absurd (cc)
store_none device false width at touched none base = none base

pub store_form : (laws : InstructionLaws) {device : Device} {framed : Bool} {a : Known} {width : Width} (at : Form) {word : Word}
    → IsDevice device → 1 ≤ length (members 65536 at)
    → (size_of width ≡ 2 → HasRemainder 65536 2 0 at) → IsCellWord framed width word → IsKnown device.ram.lo device.ram.hi framed a
    → IsKnown device.ram.lo device.ram.hi framed (with_store device framed a width at word)
store_form laws {device} {framed} {a} {width} at {word} is some even_so cell form =
    let map = a.cells in
    let size = size_of width in
    let top : map.hi < 65536 = subst (λ n. n < 65536) (sym form.up_to) is.ram.top in
    let are : AreCells map.lo map.hi map.lo map.cells =
    subst (λ lo. AreCells lo map.hi lo map.cells) (sym form.from) (subst (λ hi. AreCells device.ram.lo hi device.ram.lo map.cells) (sym form.up_to) form.cells) in
    let after = laws.known.cells.store_form map.lo size map at word top (omega arith) are (size_is width) cell.storable.normal cell.storable.byte in
    let from = laws.known.cells.store_lo size map at word ∙ form.from in
    let up_to = laws.known.cells.store_hi size map at word ∙ form.up_to in
    let cells = subst (λ lo. AreCells lo device.ram.hi lo (write_any map at size word).cells) form.from
    (subst (λ hi. AreCells map.lo hi map.lo (write_any map at size word).cells) form.up_to after) in
    let each_cell = any_cell_form map at some even_so cell form.each_cell in
    let touched = store_touched laws device framed width at a.touched (omega (arith, is.ram.some)) form.touched in
    let none_touched = store_none device framed width at a.touched form.none_touched in
    assumption (from, up_to, cells, each_cell, touched, none_touched, form)

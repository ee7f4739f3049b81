-- What the places of the suspended state held: words in form, which hold of all that a place may be read as.
use Rattle.std.proofs.Common.{◌≡◌, ℕ, zero, suc, ◌+◌, ◌-◌, ◌*◌, ◌/◌, ◌%◌, ◌<◌, Bool, true, false, Option, None, Some, List, [], ◌∷◌, map, length, get_or, refl, sym, ap, ◌∙◌, subst, inl, inr, arith, bit_and, All}
use Rattle.std.specs.Prelude.{◌==◌, ◌&&◌, ◌||◌, nat_lt, if◌then◌else◌}
use Rattle.std.specs.Option.{option_map}
use Rattle.std.proofs.lemmas.Bool.{cases_lt, and_parts, or_cases, eqb-true, cond_both, ltb-true}
use Rattle.std.proofs.lemmas.List.{get_or_past}
use Rattle.std.proofs.lemmas.List.Elements.{All-get_or, All-nil, All-cons, All-head, All-tail}
use Rattle.std.proofs.lemmas.Nat.{and_mask}
use Rattle.value_set.specs.Form.{Has}
use Rattle.value_set.specs.Summing.{single}
use Rattle.entry_value.specs.declared.word.Entry.{Entry}
use Rattle.entry_value.specs.declared.word.Word.{Word}
use Rattle.entry_value.specs.Words.{Reads, HoldsOfWord, entry_and}
use Rattle.entry_value.specs.Cells.{unknown}
use Rattle.irq_frames.specs.Resuming.{HasMasks, IsBehind, Tells, resumed_word}
use Rattle.msp430_chip.specs.declared.device.Device.{Device}
use Rattle.msp430_chip.specs.declared.state.ChipState.{ChipState}
use Rattle.msp430_chip.specs.State.{IsChipState, register_of}
use Rattle.msp430_state.specs.Forms.{IsKnown, IsRelation, IsWord, is_place}
use Rattle.msp430_state.specs.Holding.{HoldsOfParts, held_bits, suspended_of}
use Rattle.msp430_state.specs.Known.{Known, word_of}
use Rattle.msp430_state.specs.FormFacts.{and_form, no_relation, or_form}
use Rattle.plain_lemmas.specs.Cases.{clash}
use Rattle.plain_lemmas.specs.Small.{word_alone}
use Rattle.msp430_resume.specs.Resume.{place_word, status_word}
use Rattle.msp430_alu.specs.Laws.{MemoryLaws}

-- FORM

pub word_of_form : (laws : MemoryLaws) (framed : Bool) (registers : List Word) → All (IsWord framed) registers
    → (index : ℕ) → IsWord framed (get_or registers index (unknown 2))
word_of_form laws framed registers form index = elim (cases_lt index (length registers)) [
  | inl inside ↦ All-get_or (IsWord framed) registers index (unknown 2) inside form
  | inr past ↦ subst (IsWord framed) (sym (get_or_past registers index (unknown 2) past)) (record { normal = laws.known.sets.whole_normal 65536 (omega arith); entry = no_relation framed })
]

pub place_form : (laws : MemoryLaws) (lo hi : ℕ) (framed : Bool) (a : Known) (pc : ℕ) → pc < 65536
    → IsKnown lo hi framed a → (place : ℕ) → IsWord framed (place_word a pc place)
place_form laws lo hi framed a pc small form place = cond_both (place == 0) (record { set = single pc; entry = None })
    (if place == 2 then status_word a.status else word_of a place) (IsWord framed)
    (λ e. record { normal = (laws.known.sets.single 65536 pc small).0; entry = no_relation framed })
    (λ e. cond_both (place == 2) (status_word a.status) (word_of a place) (IsWord framed)
    (λ g. laws.words.status_form framed a.status form.bits form.status)
    (λ g. word_of_form laws framed a.registers form.registers (place - 4)))

pub has_masks : (entry : Option Entry) → IsRelation true entry → HasMasks entry
has_masks None form = tt
has_masks (Some entry) form = (form.1, form.2)

behind_form : (framed : Bool) (entry : Entry) (held behind : Option Entry) → IsRelation true (Some entry)
    → IsBehind entry held behind → IsRelation framed held → IsRelation framed behind
behind_form framed entry held behind masks (inl same) form = subst (IsRelation framed) (sym same) form
behind_form framed entry held behind masks (inr masked) form =
    subst (IsRelation framed) (sym masked) (or_form framed entry.or (option_map (entry_and entry.and) held) masks.2 (and_form framed entry.and held form))

resumed_relation : (laws : MemoryLaws) (framed : Bool) (places : ℕ → Word) (word : Word) (entry : Option Entry)
    → word.entry ≡ entry → ((place : ℕ) → IsWord framed (places place))
    → IsRelation true entry → IsRelation framed (resumed_word places word).entry
resumed_relation laws framed places word None is held form = subst (IsRelation framed) (sym (laws.known.frames.word_none places word is)) (no_relation framed)
resumed_relation laws framed places word (Some entry) is held form =
    behind_form framed entry (places entry.place).entry (resumed_word places word).entry form (laws.known.frames.word_entry places word entry is) (held entry.place).entry

pub resumed_form : (laws : MemoryLaws) (framed : Bool) (places : ℕ → Word) (word : Word)
    → ((place : ℕ) → IsWord framed (places place)) → IsWord true word → IsWord framed (resumed_word places word)
resumed_form laws framed places word held form = record {
  normal = laws.known.frames.word_normal places word (λ place. (held place).normal) (has_masks word.entry form.entry) form.normal;
  entry = resumed_relation laws framed places word word.entry refl held form.entry;
}

pub each_resumed : (P Q : Word → Type 0) (g : Word → Word) (words : List Word) → ((word : Word) → P word → Q (g word))
    → All P words → All Q (map g words)
each_resumed P Q g [] f h = All-nil Q
each_resumed P Q g (word ∷ words) f h = All-cons Q (g word) (map g words) (f word (All-head P word words h)) (each_resumed P Q g words f (All-tail P word words h))

pub length-resumed : (g : Word → Word) (words : List Word) → length (map g words) ≡ length words
length-resumed g [] = refl
length-resumed g (word ∷ words) = ap suc (length-resumed g words)

pub resumed_at : (g : Word → Word) (words : List Word) (i : ℕ) (d : Word) → i < length words
    → get_or (map g words) i d ≡ g (get_or words i d)
resumed_at g [] i d lt = absurd (omega arith)
resumed_at g (word ∷ words) zero d lt = refl
resumed_at g (word ∷ words) (suc i) d lt = resumed_at g words i d (omega arith)

-- WHAT A PLACE MAY BE READ AS

pub register_small : (device : Device) (f : ChipState) → IsChipState device f → (register : ℕ) → register < 16
    → register_of f register < 65536
register_small device f is register lt = All-get_or (λ r. r < 65536) f.registers register 0 (omega (arith, lt, is.registers)) is.words

pub reads_itself : (device : Device) (f : ChipState) → IsChipState device f → (place word : ℕ) → (place == 2) ≡ false
    → place < 16 → Reads (suspended_of f) place word → word ≡ register_of f place
reads_itself device f is place word other lt reads =
    let mask : held_bits place ≡ 65535 = rw other refl in
    let same : bit_and word 65535 ≡ bit_and (register_of f place) 65535 = subst (λ m. bit_and word m ≡ bit_and (register_of f place) m) mask reads.1 in
    sym (and_mask word 16 ∙ word_alone word reads.0) ∙ same ∙ and_mask (register_of f place) 16 ∙ word_alone (register_of f place) (register_small device f is place lt)

pub reads_status : (device : Device) (f : ChipState) → IsChipState device f → (word : ℕ) → Reads (suspended_of f) 2 word
    → word ≡ register_of f 2 + 512 * (word / 512)
reads_status device f is word reads =
    let same : word % 512 ≡ register_of f 2 % 512 = sym (and_mask word 9) ∙ reads.1 ∙ and_mask (register_of f 2) 9 in
    omega (arith, same, is.status)

general_place : (place : ℕ) → is_place place ≡ true → (place == 0) ≡ false → (place == 2) ≡ false → (3 < place) × (place < 16)
general_place place is no_pc no_sr = elim (or_cases ((place == 0) || (place == 2)) (nat_lt 3 place && nat_lt place 16) is) [
  | inl other ↦ elim (or_cases (place == 0) (place == 2) other) [ inl pc ↦ absurd (clash (place == 0) pc no_pc) | inr sr ↦ absurd (clash (place == 2) sr no_sr) ]
  | inr general ↦ let parts = and_parts (nat_lt 3 place) (nat_lt place 16) general in (ltb-true 3 place parts.0, ltb-true place 16 parts.1)
]

-- the suspended state, and what is known of it
pub record IsSuspended (device : Device) (framed : Bool) (a : Known) (f : ChipState) (first : Option ChipState) : Type 0 where
  pub state : IsChipState device f
  pub form : IsKnown device.ram.lo device.ram.hi framed a
  pub parts : HoldsOfParts device a first f.registers f.ram

pub status_held : (laws : MemoryLaws) (device : Device) (framed : Bool) (a : Known) (f : ChipState) (first : Option ChipState)
    → IsSuspended device framed a f first → (word : ℕ)
    → Reads (suspended_of f) 2 word → HoldsOfWord (option_map suspended_of first) (status_word a.status) word
status_held laws device framed a f first is word reads =
    let number = reads_status device f is.state word reads in
    subst (λ (n : ℕ). HoldsOfWord (option_map suspended_of first) (status_word a.status) n) (sym number)
    (laws.words.status framed first a.status (register_of f 2) (word / 512) is.form.bits is.form.status is.state.status (omega (arith, reads.0)) is.parts.status)

place_holds : (laws : MemoryLaws) (device : Device) (framed : Bool) (a : Known) (f : ChipState) (first : Option ChipState)
    → IsSuspended device framed a f first → (place word : ℕ) → is_place place ≡ true
    → Reads (suspended_of f) place word → HoldsOfWord (option_map suspended_of first) (place_word a (register_of f 0) place) word
place_holds laws device framed a f first is place word names reads =
    let pc = register_of f 0 in
    let under = option_map suspended_of first in
    cond_both (place == 0) (record { set = single pc; entry = None }) (if place == 2 then status_word a.status else word_of a place) (λ held. HoldsOfWord under held word)
    (λ e. let zeroth = eqb-true place 0 e in
    let same : word ≡ pc = reads_itself device f is.state 0 word refl (omega arith) (subst (λ p. Reads (suspended_of f) p word) zeroth reads) in
    (subst (Has 65536 (single pc)) (sym same) (laws.known.sets.single 65536 pc (register_small device f is.state 0 (omega arith))).1, tt))
    (λ e. cond_both (place == 2) (status_word a.status) (word_of a place) (λ held. HoldsOfWord under held word)
    (λ g. status_held laws device framed a f first is word (subst (λ p. Reads (suspended_of f) p word) (eqb-true place 2 g) reads))
    (λ g. let general = general_place place names e g in
    subst (λ (n : ℕ). HoldsOfWord under (word_of a place) n) (sym (reads_itself device f is.state place word g general.1 reads)) (is.parts.words place general.0 general.1)))

pub relation_tells : (laws : MemoryLaws) (device : Device) (framed : Bool) (a : Known) (f : ChipState) (first : Option ChipState)
    → IsSuspended device framed a f first → (entry : Option Entry) → IsRelation true entry
    → Tells (place_word a (register_of f 0)) (suspended_of f) (option_map suspended_of first) entry
relation_tells laws device framed a f first is None form = tt
relation_tells laws device framed a f first is (Some entry) form = λ word reads. place_holds laws device framed a f first is entry.place word form.0 reads

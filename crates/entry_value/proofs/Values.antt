-- Joins, widenings and inclusion of values, and what holds of them.
use Rattle.std.proofs.Common.{◌≡◌, ℕ, ◌+◌, ◌*◌, ◌^◌, ◌<◌, true, Option, None, Some, List, [], ◌∷◌, All, sym, ◌∙◌, ap, subst, inl, inr, arith, nat_lt}
use Rattle.std.specs.Prelude.{◌==◌, ◌&&◌}
use Rattle.std.specs.List.{filter}
use Rattle.std.proofs.lemmas.Bool.{cases_Bool, and_parts, eqb-true, ltb-true}
use Rattle.std.proofs.lemmas.List.Elements.{All-nil, All-cons}
use Rattle.value_set.specs.declared.form.Form.{Form}
use Rattle.value_set.specs.Form.{Has, IsNormal}
use Rattle.value_set.specs.Joining.{is_within}
use Rattle.value_set.specs.Summing.{single}
use Rattle.value_set.specs.Widening.{widen}
use Rattle.value_bits.specs.Sets.{low_set, pair_set}
use Rattle.entry_value.specs.declared.word.Entry.{Entry}
use Rattle.entry_value.specs.declared.word.Word.{Word}
use Rattle.entry_value.specs.Words.{Suspended, IsFromEntry, HoldsOfWord, is_same_entry, common_entry, is_entry_within, word_join, word_widen}
use Rattle.entry_value.specs.Cells.{byte_widened}
use Rattle.entry_value.specs.Values.{HoldsOf, IsFormed, Value, is_value_within, of_word, value_joined, value_widened}
use Rattle.value_bits.specs.Laws.{BitLaws}
use Rattle.value_set.specs.Laws.{AreMarks, SetLaws}
use Rattle.plain_lemmas.specs.Small.{byte_alone}

-- ---- relations

pub same_entry : (a b : Entry) → is_same_entry a b ≡ true → a ≡ b
same_entry a b h =
    let outer = and_parts ((a.place == b.place) && (a.and == b.and)) (a.or == b.or) h in
    let inner = and_parts (a.place == b.place) (a.and == b.and) outer.0 in
    ap (λ (n : ℕ). let e : Entry = record { place = n; and = a.and; or = a.or } in e) (eqb-true a.place b.place inner.0)
    ∙ ap (λ (n : ℕ). let e : Entry = record { place = b.place; and = n; or = a.or } in e) (eqb-true a.and b.and inner.1)
    ∙ ap (λ (n : ℕ). let e : Entry = record { place = b.place; and = b.and; or = n } in e) (eqb-true a.or b.or outer.1)

pub common_first : (first : Option Suspended) (a b : Option Entry) (v : ℕ) → IsFromEntry first a v → IsFromEntry first (common_entry a b) v
common_first first None b v h = tt
common_first first (Some a) None v h = tt
common_first first (Some a) (Some b) v h = elim (cases_Bool (is_same_entry a b)) [ inl same ↦ rw same h | inr other ↦ rw other tt ]

pub common_second : (first : Option Suspended) (a b : Option Entry) (v : ℕ) → IsFromEntry first b v → IsFromEntry first (common_entry a b) v
common_second first None b v h = tt
common_second first (Some a) None v h = tt
common_second first (Some a) (Some b) v h = elim (cases_Bool (is_same_entry a b)) [
  | inl same ↦ rw same (subst (λ (entry : Entry). IsFromEntry first (Some entry) v) (sym (same_entry a b same)) h)
  | inr other ↦ rw other tt
]

pub entry_within : (first : Option Suspended) (a b : Option Entry) (v : ℕ) → is_entry_within a b ≡ true
    → IsFromEntry first a v → IsFromEntry first b v
entry_within first a None v within h = tt
entry_within first None (Some b) v within h = absurd (cc)
entry_within first (Some a) (Some b) v within h = subst (λ (entry : Entry). IsFromEntry first (Some entry) v) (same_entry a b within) h

-- ---- sets with relations, of words and of bytes alike

pub join_holds_first : SetLaws → (width : ℕ) (first : Option Suspended) (v : ℕ) (a b : Value) → IsFormed width a → IsFormed width b
    → HoldsOf width first a v → HoldsOf width first (value_joined width a b) v
join_holds_first sets width first v a b n k h = (sets.join_first (2 ^ width) a.set b.set n k v h.0, common_first first a.entry b.entry v h.1)

pub join_holds_second : SetLaws → (width : ℕ) (first : Option Suspended) (v : ℕ) (a b : Value) → IsFormed width a → IsFormed width b
    → HoldsOf width first b v → HoldsOf width first (value_joined width a b) v
join_holds_second sets width first v a b n k h = (sets.join_second (2 ^ width) a.set b.set n k v h.0, common_second first a.entry b.entry v h.1)

pub widen_holds_held : SetLaws → (width : ℕ) (first : Option Suspended) (v : ℕ) (a b : Value) (marks : List ℕ)
    → IsFormed width a → IsFormed width b
    → AreMarks (2 ^ width) marks → HoldsOf width first a v → HoldsOf width first (value_widened width a b marks) v
widen_holds_held sets width first v a b marks n k below h =
    (sets.widen_held (2 ^ width) a.set b.set marks n k below v h.0, common_first first a.entry b.entry v h.1)

pub widen_holds_new : SetLaws → (width : ℕ) (first : Option Suspended) (v : ℕ) (a b : Value) (marks : List ℕ)
    → IsFormed width a → IsFormed width b
    → AreMarks (2 ^ width) marks → HoldsOf width first b v → HoldsOf width first (value_widened width a b marks) v
widen_holds_new sets width first v a b marks n k below h =
    (sets.widen_new (2 ^ width) a.set b.set marks n k below v h.0, common_second first a.entry b.entry v h.1)

pub within_holds : SetLaws → (width : ℕ) (first : Option Suspended) (v : ℕ) (a b : Value)
    → is_value_within width a b ≡ true → HoldsOf width first a v
    → HoldsOf width first b v
within_holds sets width first v a b within h =
    let parts = and_parts (is_within (2 ^ width) a.set b.set) (is_entry_within a.entry b.entry) within in
    ((sets.tested (2 ^ width) a.set b.set).0 parts.0 v h.0, entry_within first a.entry b.entry v parts.1 h.1)

-- ---- words of a size

-- what holds of either of two words of a size holds of what is made of them
pub record Covers (first : Option Suspended) (size : ℕ) (f : Word → Word → Word) : Type 0 where
  pub one : (a b : Word) (v : ℕ) → IsNormal 65536 a.set → IsNormal 65536 b.set → (size ≡ 1 → v < 256)
      → HoldsOfWord first a v → HoldsOfWord first (f a b) v
  pub other : (a b : Word) (v : ℕ) → IsNormal 65536 a.set → IsNormal 65536 b.set → (size ≡ 1 → v < 256)
      → HoldsOfWord first b v → HoldsOfWord first (f a b) v

pub join_covers : SetLaws → (first : Option Suspended) (size : ℕ) → Covers first size word_join
join_covers sets first size = record {
  one = λ a b v n k small. join_holds_first sets 16 first v (of_word a) (of_word b) n k;
  other = λ a b v n k small. join_holds_second sets 16 first v (of_word a) (of_word b) n k;
}

pub widen_covers : SetLaws → (first : Option Suspended) (size : ℕ) (marks : List ℕ) → All (λ mark. mark < 65536) marks
    → Covers first size (λ held new. word_widen held new marks)
widen_covers sets first size marks below = record {
  one = λ a b v n k small. widen_holds_held sets 16 first v (of_word a) (of_word b) marks n k below;
  other = λ a b v n k small. widen_holds_new sets 16 first v (of_word a) (of_word b) marks n k below;
}

-- ---- words of one byte

all_low : (marks : List ℕ) → All (λ mark. mark < 256) (filter (λ mark. nat_lt mark 256) marks)
all_low [] = All-nil (λ mark. mark < 256)
all_low (mark ∷ marks) = elim (cases_Bool (nat_lt mark 256)) [
  | inl below ↦ rw below (All-cons (λ n. n < 256) mark (filter (λ n. nat_lt n 256) marks) (ltb-true mark 256 below) (all_low marks))
  | inr above ↦ rw above (all_low marks)
]

abbrev widened_low : Form → Form → List ℕ → Form
widened_low held new marks = widen 256 (low_set held) (low_set new) (filter (λ mark. nat_lt mark 256) marks)

as_low : (v : ℕ) → v + 0 * 256 ≡ v
as_low v = omega arith

-- a byte as a word of one byte, and back
pub put_back : SetLaws → BitLaws → (low : Form) (v : ℕ) → IsNormal 256 low → Has 256 low v → Has 65536 (pair_set low (single 0)) v
put_back sets bits low v normal h =
    let zero_set = sets.single 256 0 (omega arith) in
    subst (λ (n : ℕ). Has 65536 (pair_set low (single 0)) n) (as_low v) (bits.pair v 0 low (single 0) normal zero_set.0 h zero_set.1)

pub low_has : BitLaws → (set : Form) (v : ℕ) → IsNormal 65536 set → v < 256 → Has 65536 set v → Has 256 (low_set set) v
low_has bits set v normal small h = subst (λ (n : ℕ). Has 256 (low_set set) n) (byte_alone v small) (bits.low v set normal h)

widened_normal : SetLaws → BitLaws → (held new : Form) (marks : List ℕ) → IsNormal 65536 held → IsNormal 65536 new
    → IsNormal 256 (widened_low held new marks)
widened_normal sets bits held new marks n k =
    sets.widen_normal 256 (low_set held) (low_set new) (filter (λ mark. nat_lt mark 256) marks) (bits.low_normal held n) (bits.low_normal new k) (all_low marks)

pub byte_held : SetLaws → BitLaws → (held new : Word) (marks : List ℕ) (v : ℕ) → IsNormal 65536 held.set → IsNormal 65536 new.set → v < 256
    → Has 65536 held.set v
    → Has 65536 (byte_widened held new marks).set v
byte_held sets bits held new marks v n k small h = elim (cases_Bool (is_within 65536 new.set held.set)) [
  | inl within ↦ rw within h
  | inr beyond ↦ rw beyond (put_back sets bits (widened_low held.set new.set marks) v (widened_normal sets bits held.set new.set marks n k)
      (sets.widen_held 256 (low_set held.set) (low_set new.set) (filter (λ mark. nat_lt mark 256) marks) (bits.low_normal held.set n) (bits.low_normal new.set k) (all_low marks)
      v (low_has bits held.set v n small h)))
]

pub byte_new : SetLaws → BitLaws → (held new : Word) (marks : List ℕ) (v : ℕ) → IsNormal 65536 held.set
    → IsNormal 65536 new.set → v < 256 → Has 65536 new.set v
    → Has 65536 (byte_widened held new marks).set v
byte_new sets bits held new marks v n k small h = elim (cases_Bool (is_within 65536 new.set held.set)) [
  | inl within ↦ rw within ((sets.tested 65536 new.set held.set).0 within v h)
  | inr beyond ↦ rw beyond (put_back sets bits (widened_low held.set new.set marks) v (widened_normal sets bits held.set new.set marks n k)
      (sets.widen_new 256 (low_set held.set) (low_set new.set) (filter (λ mark. nat_lt mark 256) marks) (bits.low_normal held.set n) (bits.low_normal new.set k) (all_low marks)
      v (low_has bits new.set v k small h)))
]

pub byte_covers : SetLaws → BitLaws → (first : Option Suspended) (size : ℕ) (marks : List ℕ) → size ≡ 1
    → Covers first size (λ held new. byte_widened held new marks)
byte_covers sets bits first size marks one = record {
  one = λ a b v n k small h. (byte_held sets bits a b marks v n k (small one) h.0, common_first first a.entry b.entry v h.1);
  other = λ a b v n k small h. (byte_new sets bits a b marks v n k (small one) h.0, common_second first a.entry b.entry v h.1);
}

-- ---- their form

-- what is made of two words of a size and a form has that form
pub record Forms (size : ℕ) (f : Word → Word → Word) : Type 0 where
  pub normal : (a b : Word) → IsNormal 65536 a.set → IsNormal 65536 b.set → IsNormal 65536 (f a b).set
  pub byte : (a b : Word) → IsNormal 65536 a.set → IsNormal 65536 b.set → size ≡ 1 → ((n : ℕ) → Has 65536 a.set n → n < 256)
      → ((n : ℕ) → Has 65536 b.set n → n < 256)
      → (n : ℕ) → Has 65536 (f a b).set n → n < 256

pub join_forms : SetLaws → (size : ℕ) → Forms size word_join
join_forms sets size = record {
  normal = λ a b n k. sets.join_normal 65536 a.set b.set n k;
  byte = λ a b n k one low other v h. sets.join_below 256 65536 a.set b.set (omega arith) n k low other v h;
}

different : (size : ℕ) → (size ≡ 1 → ⊥) → {A : Type 0} → size ≡ 1 → A
different size h e = absurd (h e)

pub widen_forms : SetLaws → (size : ℕ) (marks : List ℕ) → (size ≡ 1 → ⊥) → All (λ mark. mark < 65536) marks
    → Forms size (λ held new. word_widen held new marks)
widen_forms sets size marks wide below = record {
  normal = λ a b n k. sets.widen_normal 65536 a.set b.set marks n k below;
  byte = λ a b n k one low other v h. absurd (wide one);
}

pub byte_widened_normal : SetLaws → BitLaws → (held new : Word) (marks : List ℕ) → IsNormal 65536 held.set → IsNormal 65536 new.set
    → IsNormal 65536 (byte_widened held new marks).set
byte_widened_normal sets bits held new marks n k = elim (cases_Bool (is_within 65536 new.set held.set)) [
  | inl within ↦ rw within n
  | inr beyond ↦ rw beyond (bits.pair_normal (widened_low held.set new.set marks) (single 0) (widened_normal sets bits held.set new.set marks n k) (sets.single 256 0 (omega arith)).0)
]

pub byte_widened_low : SetLaws → BitLaws → (held new : Word) (marks : List ℕ) → IsNormal 65536 held.set → IsNormal 65536 new.set
    → ((n : ℕ) → Has 65536 held.set n → n < 256)
    → (n : ℕ) → Has 65536 (byte_widened held new marks).set n → n < 256
byte_widened_low sets bits held new marks n k low v = elim (cases_Bool (is_within 65536 new.set held.set)) [
  | inl within ↦ rw within (low v)
  | inr beyond ↦ rw beyond (bits.pair_byte (widened_low held.set new.set marks) v (widened_normal sets bits held.set new.set marks n k))
]

pub byte_forms : SetLaws → BitLaws → (size : ℕ) (marks : List ℕ) → Forms size (λ held new. byte_widened held new marks)
byte_forms sets bits size marks = record {
  normal = λ a b n k. byte_widened_normal sets bits a b marks n k;
  byte = λ a b n k one low other v h. byte_widened_low sets bits a b marks n k low v h;
}

-- Relations, and sets with relations, behind an AND and behind an OR.
use Rattle.std.proofs.Common.{◌≡◌, ℕ, ◌<◌, ◌^◌, min, max, Option, None, Some, bit_and, bit_or, sym, ap, ◌∙◌, arith}
use Rattle.std.specs.Int.{bit_at}
use Rattle.std.specs.Option.{option_map}
use Rattle.std.proofs.lemmas.Nat.{and_assoc}
use Rattle.std.proofs.lemmas.Nat.Bits.{same_from_bits, bit_at_and, bit_at_or}
use Rattle.value_set.specs.declared.form.Form.{Form}
use Rattle.value_set.specs.Form.{Has, IsNormal}
use Rattle.value_set.specs.Laws.{SetLaws}
use Rattle.value_set.specs.Summing.{single}
use Rattle.value_bits.specs.declared.tri.Logic.{Logic}
use Rattle.value_bits.specs.declared.tri.Logic.TheVariants.{And, Or}
use Rattle.value_bits.specs.Bits.{logic_of}
use Rattle.value_bits.specs.Laws.{BitLaws}
use Rattle.value_bits.specs.Sets.{logic_set}
use Rattle.entry_value.specs.declared.word.Entry.{Entry}
use Rattle.entry_value.specs.Words.{Suspended, IsFromEntry, entry_and, entry_or}
use Rattle.entry_value.specs.Values.{HoldsOf, IsFormed, Value, value_and, value_or}

bits_and_over_or : (a b c : ℕ) → min (max a b) c ≡ max (min a c) (min b c)
bits_and_over_or a b c = omega arith

bits_or_further : (a b c : ℕ) → max (max a b) c ≡ max a (max b c)
bits_or_further a b c = omega arith

and_over_or : (x y m : ℕ) → bit_and (bit_or x y) m ≡ bit_or (bit_and x m) (bit_and y m)
and_over_or x y m = same_from_bits (bit_and (bit_or x y) m) (bit_or (bit_and x m) (bit_and y m)) (λ i.
    let left : bit_at (bit_and (bit_or x y) m) i ≡ min (max (bit_at x i) (bit_at y i)) (bit_at m i) =
    bit_at_and (bit_or x y) m i ∙ ap (λ b. min b (bit_at m i)) (bit_at_or x y i) in
    let one : bit_at (bit_and x m) i ≡ min (bit_at x i) (bit_at m i) = bit_at_and x m i in
    let other : bit_at (bit_and y m) i ≡ min (bit_at y i) (bit_at m i) = bit_at_and y m i in
    let right : bit_at (bit_or (bit_and x m) (bit_and y m)) i ≡ max (min (bit_at x i) (bit_at m i)) (min (bit_at y i) (bit_at m i)) =
    bit_at_or (bit_and x m) (bit_and y m) i ∙ ap (λ b. max b (bit_at (bit_and y m) i)) one ∙ ap (max (min (bit_at x i) (bit_at m i))) other in
    left ∙ bits_and_over_or (bit_at x i) (bit_at y i) (bit_at m i) ∙ sym right)

or_further : (x y m : ℕ) → bit_or (bit_or x y) m ≡ bit_or x (bit_or y m)
or_further x y m = same_from_bits (bit_or (bit_or x y) m) (bit_or x (bit_or y m)) (λ i.
    let left : bit_at (bit_or (bit_or x y) m) i ≡ max (max (bit_at x i) (bit_at y i)) (bit_at m i) =
    bit_at_or (bit_or x y) m i ∙ ap (λ b. max b (bit_at m i)) (bit_at_or x y i) in
    let right : bit_at (bit_or x (bit_or y m)) i ≡ max (bit_at x i) (max (bit_at y i) (bit_at m i)) =
    bit_at_or x (bit_or y m) i ∙ ap (max (bit_at x i)) (bit_at_or y m i) in
    left ∙ bits_or_further (bit_at x i) (bit_at y i) (bit_at m i) ∙ sym right)

pub from_entry_and : (first : Option Suspended) (entry : Option Entry) (v m : ℕ) → IsFromEntry first entry v
    → IsFromEntry first (option_map (entry_and m) entry) (bit_and v m)
from_entry_and first None v m h = tt
from_entry_and None (Some entry) v m h = absurd h
from_entry_and (Some f) (Some entry) v m (word, reads, is) = (
  word,
  reads,
  ap (λ n. bit_and n m) is ∙ and_over_or (bit_and word entry.and) entry.or m
      ∙ ap (λ n. bit_or n (bit_and entry.or m)) (and_assoc m word entry.and),
)

pub from_entry_or : (first : Option Suspended) (entry : Option Entry) (v m : ℕ) → IsFromEntry first entry v
    → IsFromEntry first (option_map (entry_or m) entry) (bit_or v m)
from_entry_or first None v m h = tt
from_entry_or None (Some entry) v m h = absurd h
from_entry_or (Some f) (Some entry) v m (word, reads, is) =
    (word, reads, ap (λ n. bit_or n m) is ∙ or_further (bit_and word entry.and) entry.or m)

-- SETS WITH RELATIONS, OF WORDS AND OF BYTES ALIKE

pub masked_normal : SetLaws → BitLaws → (width m : ℕ) (logic : Logic) (set : Form) → m < 2 ^ width → IsNormal (2 ^ width) set
    → IsNormal (2 ^ width) (logic_set width logic set (single m))
masked_normal sets bits width m logic set below n = bits.logic_normal width logic set (single m) n (sets.single (2 ^ width) m below).0

masked_has : SetLaws → BitLaws → (width m v : ℕ) (logic : Logic) (set : Form) → m < 2 ^ width → IsNormal (2 ^ width) set
    → Has (2 ^ width) set v
    → Has (2 ^ width) (logic_set width logic set (single m)) (logic_of logic v m)
masked_has sets bits width m v logic set below n h =
    let mask = sets.single (2 ^ width) m below in
    bits.logic width v m logic set (single m) n mask.0 h mask.1

pub and_holds : SetLaws → BitLaws → (width : ℕ) (first : Option Suspended) (m v : ℕ) (value : Value) → m < 2 ^ width → IsFormed width value
    → HoldsOf width first value v → HoldsOf width first (value_and width m value) (bit_and v m)
and_holds sets bits width first m v value below n h = (masked_has sets bits width m v And value.set below n h.0, from_entry_and first value.entry v m h.1)

pub or_holds : SetLaws → BitLaws → (width : ℕ) (first : Option Suspended) (m v : ℕ) (value : Value) → m < 2 ^ width → IsFormed width value
    → HoldsOf width first value v → HoldsOf width first (value_or width m value) (bit_or v m)
or_holds sets bits width first m v value below n h = (masked_has sets bits width m v Or value.set below n h.0, from_entry_or first value.entry v m h.1)

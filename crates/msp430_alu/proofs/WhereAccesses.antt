-- Where accesses are made, in numbers and in sets.
use Rattle.std.proofs.Common.{◌≡◌, ℕ, ◌+◌, ◌-◌, ◌%◌, ◌<◌, ◌≤◌, ◌&&◌, true, false, Option, None, Some, refl, sym, ◌∙◌, subst, inl, inr, arith}
use Rattle.std.specs.Prelude.{nat_le}
use Rattle.std.proofs.lemmas.Bool.{and_from, and_parts, cases_Bool, cond-true, cond-false, leb-true, leb-false}
use Rattle.image.specs.Kept.{HasMirror}
use Rattle.value_set.specs.declared.form.Form.{Form}
use Rattle.value_set.specs.Cutting.{cut, join_parts}
use Rattle.value_set.specs.Form.{above, Has, IsNormal}
use Rattle.value_set.specs.Joining.{join}
use Rattle.value_set.specs.Remainders.{HasRemainder}
use Rattle.value_set.specs.Summing.{add, single}
use Rattle.msp430_decode.specs.declared.instr.Width.{Width}
use Rattle.msp430_decode.specs.declared.instr.Width.TheVariants.{Word as Words, Byte}
use Rattle.msp430_chip.specs.declared.device.Device.{Device}
use Rattle.msp430_chip.specs.Memory.{aligned, canon_by, size_of, HasRam}
use Rattle.msp430_state.specs.Forms.{AreEvenWords}
use Rattle.msp430_results.specs.FlagSets.{IsResult}
use Rattle.msp430_alu.specs.Memory.{canonical_by, located, moved, of_both}
use Rattle.msp430_results.specs.InstructionLaws.{InstructionLaws}
use Rattle.msp430_alu.specs.NumberFacts.{add_is, moved_normal, join_first_is, join_second_is, single_is, even_parts_is, even_parts_form, sum_even}

-- PARTS OF A SET

-- a part that is there has a number
abbrev IsThere : Option Form → ℕ → Type 0
IsThere None v = ⊥
IsThere (Some set) v = IsResult 65536 set v

abbrev IsIf : (Form → Type 0) → Option Form → Type 0
IsIf P None = Unit {0}
IsIf P (Some set) = P set

-- what a window cuts out has the numbers of the window
cut_there : (laws : InstructionLaws) {set : Form} (low len : ℕ) {v : ℕ} (found : Option Form) → cut 65536 set low len ≡ found
    → low < 65536 → IsResult 65536 set v
    → above 65536 low v < len → IsThere found v
cut_there laws {set} low len {v} None is small result lt =
    let past : len ≤ above 65536 low v = laws.known.sets.cut_none 65536 low len v set result.normal small is result.has in absurd (omega (arith, past, lt))
cut_there laws {set} low len {v} (Some part) is small result lt =
    record {
      normal = laws.known.sets.cut_normal 65536 low len set part result.normal small is;
      has = laws.known.sets.cut_holds 65536 low len v set part result.normal small is result.has lt;
    }

moved_there : (laws : InstructionLaws) (by v : ℕ) (found : Option Form) → by < 65536 → IsThere found v
    → IsThere (moved by found) ((v + by) % 65536)
moved_there laws by v None small there = absurd there
moved_there laws by v (Some part) small there = add_is laws.known 65536 v by part (single by) there (single_is laws.known 65536 by small)

-- a property of sets that parts of them, sets moved by an even number, and joins have
record IsKept (P : Form → Type 0) : Type 0 where
  cuts : (set part : Form) (low len : ℕ) → low < 65536 → cut 65536 set low len ≡ Some part → P set → P part
  moves : (set : Form) (by : ℕ) → by < 65536 → by % 2 ≡ 0 → P set → P (add 65536 set (single by))
  joins : (a b : Form) → P a → P b → P (join 65536 a b)

normal_kept : (laws : InstructionLaws) → IsKept (IsNormal 65536)
normal_kept laws = record {
  cuts = λ set part low len small is normal. laws.known.sets.cut_normal 65536 low len set part normal small is;
  moves = λ set by small no_bit. moved_normal laws.known set by small;
  joins = laws.known.sets.join_normal 65536;
}

even_kept : (laws : InstructionLaws) → IsKept AreEvenWords
even_kept laws = record {
  cuts = λ set part low len small is words. record {
    normal = laws.known.sets.cut_normal 65536 low len set part words.normal small is;
    even = laws.known.sets.cut_rest 65536 2 0 low len set part refl words.normal small is words.even;
  };
  moves = λ set by small no_bit words. sum_even laws.known set by small no_bit words;
  joins = λ a b one other. record {
    normal = laws.known.sets.join_normal 65536 a b one.normal other.normal;
    even = laws.known.sets.join_rest 65536 2 0 a b refl one.normal other.normal one.even other.even;
  };
}

cut_if : (P : Form → Type 0) → IsKept P → (set : Form) (low len : ℕ) (found : Option Form)
    → cut 65536 set low len ≡ found → low < 65536 → P set → IsIf P found
cut_if P kept set low len None is small holds = tt
cut_if P kept set low len (Some part) is small holds = kept.cuts set part low len small is holds

moved_if : (P : Form → Type 0) → IsKept P → (by : ℕ) (found : Option Form) → by < 65536 → by % 2 ≡ 0 → IsIf P found
    → IsIf P (moved by found)
moved_if P kept by None small no_bit holds = tt
moved_if P kept by (Some part) small no_bit holds = kept.moves part by small no_bit holds

first_there : (laws : InstructionLaws) (set : Form) (one other : Option Form) (v : ℕ) → IsThere one v → IsIf (IsNormal 65536) other
    → IsResult 65536 (of_both set (join_parts 65536 one other)) v
first_there laws set None other v there normal = absurd there
first_there laws set (Some a) None v there normal = there
first_there laws set (Some a) (Some b) v there normal =
    join_first_is laws.known 65536 v a b there normal

second_there : (laws : InstructionLaws) (set : Form) (one other : Option Form) (v : ℕ) → IsIf (IsNormal 65536) one → IsThere other v
    → IsResult 65536 (of_both set (join_parts 65536 one other)) v
second_there laws set one None v normal there = absurd there
second_there laws set None (Some b) v normal there = there
second_there laws set (Some a) (Some b) v normal there =
    join_second_is laws.known 65536 v a b normal there

both_if : (P : Form → Type 0) → IsKept P → (set : Form) (one other : Option Form) → P set → IsIf P one → IsIf P other
    → P (of_both set (join_parts 65536 one other))
both_if P kept set None None holds f g = holds
both_if P kept set None (Some b) holds f g = g
both_if P kept set (Some a) None holds f g = f
both_if P kept set (Some a) (Some b) holds f g = kept.joins a b f g

-- a number outside a window is in the other one
outside_window : (first last v : ℕ) → first < last → last < 65536 → v < 65536 → (nat_le first v && nat_le v last) ≡ false
    → above 65536 ((last + 1) % 65536) v < 65536 - (last + 1 - first)
outside_window first last v up end small outside = elim (cases_Bool (nat_le first v)) [
  | inr below ↦ let lt : v < first = leb-false first v below in omega (arith, up, end, small, lt)
  | inl after ↦ elim (cases_Bool (nat_le v last)) [
    | inr past ↦ let gt : last < v = leb-false v last past in omega (arith, up, end, small, gt)
    | inl before ↦ let both : (nat_le first v && nat_le v last) ≡ true = and_from (nat_le first v) (nat_le v last) after before in absurd (cc)
  ]
]

-- THE MIRROR

-- the address that a number of the set stands for is one of the canonical set's
canonical_is : (laws : InstructionLaws) (lo hi : ℕ) (mirror : Option (ℕ × ℕ)) {set : Form} {v : ℕ} → lo < hi → hi < 65536
    → lo % 2 ≡ 0 → HasMirror lo hi mirror → IsResult 65536 set v
    → IsResult 65536 (canonical_by lo mirror set) (canon_by lo mirror v)
canonical_is laws lo hi None some top even_lo is result = result
canonical_is laws lo hi (Some (first, last)) {set} {v} some top even_lo is result =
    let small : v < 65536 = laws.known.sets.below 65536 v set result.normal result.has in
    let len = last + 1 - first in
    let low = (last + 1) % 65536 in
    let by = (lo + 65536 - first) % 65536 in
    let one = cut 65536 set low (65536 - len) in
    let other = cut 65536 set first len in
    let up : first < last = is.some in
    let end : last < 65536 = is.top in
    let low_small : low < 65536 = omega arith in
    let first_small : first < 65536 = omega (arith, up, end) in
    let by_small : by < 65536 = omega arith in
    elim (cases_Bool (nat_le first v && nat_le v last)) [
      | inl inside ↦
          let ends = and_parts (nat_le first v) (nat_le v last) inside in
          let after : first ≤ v = leb-true first v ends.0 in
          let before : v ≤ last = leb-true v last ends.1 in
          let near : above 65536 first v < len = omega (arith, after, before, end) in
          let there = moved_there laws by v other by_small (cut_there laws first len other refl first_small result near) in
          let short = is.short in
          let same : (v + by) % 65536 ≡ lo + (v - first) = omega (arith, after, before, short, some, top, end) in
          let all = second_there laws set one (moved by other) ((v + by) % 65536)
          (cut_if (IsNormal 65536) (normal_kept laws) set low (65536 - len) one refl low_small result.normal) there in
          subst (IsResult 65536 (canonical_by lo (Some (first, last)) set)) (same ∙ sym (cond-true (nat_le first v && nat_le v last) (lo + (v - first)) v inside)) all
      | inr outside ↦
          let far : above 65536 low v < 65536 - len = outside_window first last v up end small outside in
          let there = cut_there laws low (65536 - len) one refl low_small result far in
          let even_first : first % 2 ≡ 0 = is.low in
          let no_bit : by % 2 ≡ 0 = omega (arith, even_lo, even_first, up, end) in
          let all = first_there laws set one (moved by other) v there
          (moved_if (IsNormal 65536) (normal_kept laws) by other by_small no_bit (cut_if (IsNormal 65536) (normal_kept laws) set first len other refl first_small result.normal)) in
          subst (IsResult 65536 (canonical_by lo (Some (first, last)) set)) (sym (cond-false (nat_le first v && nat_le v last) (lo + (v - first)) v outside)) all
    ]

canonical_kept : (P : Form → Type 0) → IsKept P → (lo hi : ℕ) (mirror : Option (ℕ × ℕ)) (set : Form) → lo % 2 ≡ 0
    → HasMirror lo hi mirror → P set
    → P (canonical_by lo mirror set)
canonical_kept P kept lo hi None set even_lo is holds = holds
canonical_kept P kept lo hi (Some (first, last)) set even_lo is holds =
    let len = last + 1 - first in
    let low = (last + 1) % 65536 in
    let by = (lo + 65536 - first) % 65536 in
    let one = cut 65536 set low (65536 - len) in
    let other = cut 65536 set first len in
    let up : first < last = is.some in
    let end : last < 65536 = is.top in
    let even_first : first % 2 ≡ 0 = is.low in
    let no_bit : by % 2 ≡ 0 = omega (arith, even_lo, even_first, up, end) in
    both_if P kept set one (moved by other) holds (cut_if P kept set low (65536 - len) one refl (omega arith) holds)
    (moved_if P kept by other (omega arith) no_bit (cut_if P kept set first len other refl (omega (arith, up, end)) holds))

-- WHERE ACCESSES ARE MADE

pub located_is : (laws : InstructionLaws) {device : Device} → HasRam device → (width : Width) {set : Form} {address : ℕ}
    → IsResult 65536 set address
    → IsResult 65536 (located device width set) (aligned device width address)
located_is laws {device} is Words {set} {address} result =
    canonical_is laws device.ram.lo device.ram.hi device.ram.mirror is.some is.top is.low is.mirror (even_parts_is laws.known set address result)
located_is laws {device} is Byte result = canonical_is laws device.ram.lo device.ram.hi device.ram.mirror is.some is.top is.low is.mirror result

pub located_normal : (laws : InstructionLaws) {device : Device} → HasRam device → (width : Width) (set : Form)
    → IsNormal 65536 set → IsNormal 65536 (located device width set)
located_normal laws {device} is Words set normal =
    canonical_kept (IsNormal 65536) (normal_kept laws) device.ram.lo device.ram.hi device.ram.mirror _ is.low is.mirror (even_parts_form laws.known set normal).normal
located_normal laws {device} is Byte set normal = canonical_kept (IsNormal 65536) (normal_kept laws) device.ram.lo device.ram.hi device.ram.mirror set is.low is.mirror normal

pub located_even : (laws : InstructionLaws) {device : Device} → HasRam device → (width : Width) (set : Form)
    → IsNormal 65536 set → size_of width ≡ 2
    → HasRemainder 65536 2 0 (located device width set)
located_even laws {device} is Words set normal e =
    (canonical_kept AreEvenWords (even_kept laws) device.ram.lo device.ram.hi device.ram.mirror _ is.low is.mirror (even_parts_form laws.known set normal)).even
located_even laws is Byte set normal e = absurd (omega (arith, e))

pub located_fits : (laws : InstructionLaws) (device : Device) → HasRam device → (width : Width) (set : Form) (v : ℕ)
    → IsNormal 65536 set → Has 65536 (located device width set) v
    → v + size_of width ≤ 65536
located_fits laws device is Words set v normal has =
    let below = laws.known.sets.below 65536 v (located device Words set) (located_normal laws is Words set normal) has in
    let even_so = located_even laws is Words set normal refl v has in
    omega (arith, below, even_so)
located_fits laws device is Byte set v normal has =
    let below = laws.known.sets.below 65536 v (located device Byte set) (located_normal laws is Byte set normal) has in
    omega (arith, below)

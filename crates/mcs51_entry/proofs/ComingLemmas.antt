-- Which interrupts come: each that the chip lets come is listed, at a stack pointer that is one of the listed ones.
use Rattle.std.proofs.Common.{◌≡◌, ℕ, zero, suc, ◌/◌, ◌^◌, ◌<◌, ◌≤◌, ◌==◌, Bool, true, false, Option, Some, None, List, [], ◌++◌, refl, sym, ap, ◌∙◌, subst, inl, inr, arith, Contains}
use Rattle.std.proofs.Math.Nat.{mod-lt}
use Rattle.std.specs.Int.{bit_at}
use Rattle.std.specs.List.{flat_map, range_with_len}
use Rattle.std.proofs.lemmas.Bool.{and_parts, cond_both, cond-true, eqb-true}
use Rattle.std.proofs.lemmas.List.Elements.{Contains-append_left, Contains-append_right, Contains-append_cases}
use Rattle.value_bits.specs.declared.tri.Tri.{Tri}
use Rattle.value_bits.specs.declared.tri.Tri.TheVariants.{Zero, One, Either}
use Rattle.value_bits.specs.Bits.{IsBit}
use Rattle.value_set.specs.declared.form.Form.{Form}
use Rattle.value_set.specs.declared.form.Form.TheVariants.{Values, Run}
use Rattle.value_set.specs.Form.{Has, IsNormal}
use Rattle.value_set.specs.Summing.{single}
use Rattle.mcs51_chip.specs.declared.place.Address.TheVariants.{InSfr as AtSfr}
use Rattle.mcs51_chip.specs.declared.state.ChipState.{ChipState}
use Rattle.mcs51_chip.specs.Interrupts.{coming, is_allowed, is_enabled, is_high, may_come}
use Rattle.mcs51_chip.specs.Registers.{bit_of}
use Rattle.mcs51_state.specs.declared.addresses.Addresses.TheVariants.{InSfr}
use Rattle.mcs51_state.specs.Forms.{IsEntrySp, IsFrame, IsKnown}
use Rattle.mcs51_state.specs.Holding.{CameAt}
use Rattle.mcs51_state.specs.Known.{Known}
use Rattle.mcs51_state.specs.Under.{IsUnder}
use Rattle.mcs51_state.specs.Reading.{read_bit}
use Rattle.mcs51_entry.specs.declared.coming.Coming.{Coming}
use Rattle.mcs51_entry.specs.Coming.{ComesSo, comings_at, comings_of, frame_of_coming, level_comings, level_in, may_be, may_enable, may_have, may_level, source_comings}
use Rattle.mcs51_results.specs.InstructionLaws.{InstructionLaws}
use Rattle.mcs51_entry.proofs.Levels.{allowed_so, allows, level_by, level_may}
use Rattle.plain_lemmas.specs.Members.{in_none, in_first, in_map, from_map, in_flat_map, from_flat_map, in_one, from_filter, in_range}

-- WHAT IS ALLOWED

allows_bit : (t : Tri) (flag : Bool) → IsBit t (bit_of flag) → may_be t flag ≡ true
allows_bit Zero true is = absurd (omega (arith, is))
allows_bit Zero false is = refl
allows_bit One true is = refl
allows_bit One false is = absurd (omega (arith, is))
allows_bit Either flag is = refl

enable_may : (laws : InstructionLaws) (framed : Bool) (a : Known) (s : ChipState) (first : Option ChipState) (place : ℕ)
    → IsUnder framed a s first → place < 8 → bit_at s.ie place ≡ 1 → may_enable a place ≡ true
enable_may laws framed a s first place under low e =
    allows_bit (read_bit a (InSfr 0xA8) place) true
    (subst (IsBit (read_bit a (InSfr 0xA8) place)) e
    (laws.operands.reads.bit framed a s first under (InSfr 0xA8) (AtSfr 0xA8) s.ie place refl (omega arith, omega arith) (0, omega arith, omega arith) low))

bit_is : (n : ℕ) → n < 2 → n ≡ bit_of (n == 1)
bit_is zero small = refl
bit_is (suc zero) small = refl
bit_is (suc (suc n)) small = absurd (omega (arith, small))

one_bit : (v place : ℕ) → bit_at v place ≡ bit_of (bit_at v place == 1)
one_bit v place = bit_is (bit_at v place) (mod-lt (v / 2 ^ place) {m = 2} (omega arith))

have_may : (laws : InstructionLaws) (framed : Bool) (a : Known) (s : ChipState) (first : Option ChipState) (source : ℕ)
    → IsUnder framed a s first → source < 6 → may_have a source (is_high s source) ≡ true
have_may laws framed a s first source under low =
    allows_bit (read_bit a (InSfr 0xB8) source) (is_high s source)
    (subst (IsBit (read_bit a (InSfr 0xB8) source)) (one_bit s.ip source)
    (laws.operands.reads.bit framed a s first under (InSfr 0xB8) (AtSfr 0xB8) s.ip source refl (omega arith, omega arith) (0, omega arith, omega arith) (omega (arith, low))))

-- a source that the chip lets come
record MayCome (s : ChipState) (source : ℕ) : Type 0 where
  pub listed : Contains (range_with_len 0 6) source
  pub below : source < 6
  pub all : bit_at s.ie 7 ≡ 1
  pub own : bit_at s.ie source ≡ 1
  pub allowed : is_allowed s (is_high s source) ≡ true

may_come_so : (s : ChipState) (source : ℕ) → Contains (coming s) source → MayCome s source
unfolding coming
may_come_so s source h =
    let found = from_filter (may_come s) (range_with_len 0 6) source h in
    let both = and_parts (is_enabled s source) (is_allowed s (is_high s source)) found.passes in
    let bits = and_parts (bit_at s.ie 7 == 1) (bit_at s.ie source == 1) both.0 in
    record {
      listed = found.there;
      below = in_range 6 source found.there;
      all = eqb-true (bit_at s.ie 7) 1 bits.0;
      own = eqb-true (bit_at s.ie source) 1 bits.1;
      allowed = both.1;
    }

pub allowed_when : (s : ChipState) (source : ℕ) → Contains (coming s) source → allows (is_high s source) s.serves_low s.serves_high ≡ true
allowed_when s source h = allowed_so s (is_high s source) (may_come_so s source h).allowed

-- WHICH COME

-- one of a source's that comes in a single state
record ComesAt (sp : Form) (source level : ℕ) (s : ChipState) : Type 0 where
  pub coming_so : Coming
  pub source_is : coming_so.source ≡ source
  pub level_is : coming_so.level ≡ level
  pub listed : Contains (comings_at sp source level) coming_so
  pub at : Has 256 coming_so.sp s.sp
  pub came : CameAt coming_so.known_sp s

comes_at : (sp : Form) (source level : ℕ) (s : ChipState) → Has 256 sp s.sp → ComesAt sp source level s
comes_at (Values sps) source level s has = record {
  coming_so = record { source = source; level = level; known_sp = Some s.sp; sp = single s.sp };
  source_is = refl;
  level_is = refl;
  listed = in_map (λ (sp : ℕ). let one : Coming = record { source = source; level = level; known_sp = Some sp; sp = single sp } in one) sps s.sp has;
  at = in_first s.sp [];
  came = refl;
}
comes_at (Run p) source level s has = let one : Coming = record { source = source; level = level; known_sp = None; sp = Run p } in
    record { coming_so = one; source_is = refl; level_is = refl; listed = in_first one []; at = has; came = tt }

in_levels : (a : Known) (source : ℕ) (high low : Bool) (coming_so : Coming)
    → Contains (level_comings a source (level_by high low)) coming_so
    → Contains (level_comings a source 1 ++ (level_comings a source 2 ++ level_comings a source 3)) coming_so
in_levels a source false low coming_so h = Contains-append_left (level_comings a source 1) (level_comings a source 2 ++ level_comings a source 3) coming_so h
in_levels a source true false coming_so h =
    Contains-append_right (level_comings a source 1) (level_comings a source 2 ++ level_comings a source 3) coming_so
    (Contains-append_left (level_comings a source 2) (level_comings a source 3) coming_so h)
in_levels a source true true coming_so h =
    Contains-append_right (level_comings a source 1) (level_comings a source 2 ++ level_comings a source 3) coming_so
    (Contains-append_right (level_comings a source 2) (level_comings a source 3) coming_so h)

listed_so : (a : Known) (source : ℕ) (coming_so : Coming) → may_enable a 7 ≡ true → may_enable a source ≡ true
    → Contains (range_with_len 0 6) source
    → Contains (level_comings a source 1 ++ (level_comings a source 2 ++ level_comings a source 3)) coming_so
    → Contains (comings_of a) coming_so
unfolding comings_of
listed_so a source coming_so all own there h =
    let levels = level_comings a source 1 ++ (level_comings a source 2 ++ level_comings a source 3) in
    let of_source : Contains (source_comings a source) coming_so = subst (λ list. Contains list coming_so) (sym (cond-true (may_enable a source) levels [] own)) h in
    subst (λ list. Contains list coming_so) (sym (cond-true (may_enable a 7) (flat_map (source_comings a) (range_with_len 0 6)) [] all))
    (in_flat_map (source_comings a) (range_with_len 0 6) source coming_so there of_source)

pub comes : (laws : InstructionLaws) (framed : Bool) (a : Known) (s : ChipState) (first : Option ChipState) (source : ℕ)
    → IsUnder framed a s first → Contains (coming s) source
    → (coming_so : Coming) × (coming_so.source ≡ source) × ComesSo a s coming_so
comes laws framed a s first source under h =
    let is = may_come_so s source h in
    let high = is_high s source in
    let level = level_in s source in
    let found = comes_at a.sp source level s under.holds.parts.sp in
    let may = level_may a source high s.serves_low s.serves_high under.holds.parts.levels (allowed_so s high is.allowed) (have_may laws framed a s first source under is.below) in
    let of_level : Contains (level_comings a source level) found.coming_so = subst (λ list. Contains list found.coming_so) (sym (cond-true (may_level a source level) (comings_at a.sp source level) [] may)) found.listed in (
      found.coming_so,
      found.source_is,
      record {
        comes = subst (Contains (coming s)) (sym found.source_is) h;
        listed = listed_so a source found.coming_so (enable_may laws framed a s first 7 under (omega arith) is.all)
            (enable_may laws framed a s first source under (let low = is.below in omega (arith, low)) is.own) is.listed (in_levels a source high s.serves_low found.coming_so of_level);
        at = found.at;
        came = found.came;
        level = found.level_is ∙ ap (level_in s) (sym found.source_is);
      },
    )

-- WHAT IS LISTED

pub record IsListed (coming_so : Coming) : Type 0 where
  pub below : coming_so.source < 6
  pub least : 1 ≤ coming_so.level
  pub most : coming_so.level ≤ 3
  pub normal : IsNormal 256 coming_so.sp
  pub entry : IsEntrySp coming_so.known_sp

at_listed : (laws : InstructionLaws) (sp : Form) (source level : ℕ) (coming_so : Coming) → IsNormal 256 sp → source < 6
    → 1 ≤ level → level ≤ 3 → Contains (comings_at sp source level) coming_so → IsListed coming_so
at_listed laws (Values sps) source level coming_so normal below least most h =
    let made : ℕ → Coming = λ sp. record { source = source; level = level; known_sp = Some sp; sp = single sp } in
    let found = from_map made sps coming_so h in
    let small = laws.known.sets.below 256 found.0 (Values sps) normal found.1 in
    let one : IsListed (made found.0) = record { below = below; least = least; most = most; normal = (laws.known.sets.single 256 found.0 small).0; entry = small } in
    subst IsListed found.2 one
at_listed laws (Run p) source level coming_so normal below least most h =
    let one : Coming = record { source = source; level = level; known_sp = None; sp = Run p } in
    let is : IsListed one = record { below = below; least = least; most = most; normal = normal; entry = tt } in
    subst IsListed (in_one one coming_so h) is

level_listed : (laws : InstructionLaws) (a : Known) (source level : ℕ) (coming_so : Coming) → IsNormal 256 a.sp
    → source < 6 → 1 ≤ level → level ≤ 3 → Contains (level_comings a source level) coming_so → IsListed coming_so
level_listed laws a source level coming_so normal below least most h =
    cond_both (may_level a source level) (comings_at a.sp source level) [] (λ (list : List Coming). Contains list coming_so → IsListed coming_so)
    (λ may there. at_listed laws a.sp source level coming_so normal below least most there) (λ may there. absurd (in_none coming_so there)) h

source_listed : (laws : InstructionLaws) (a : Known) (source : ℕ) (coming_so : Coming) → IsNormal 256 a.sp → source < 6
    → Contains (source_comings a source) coming_so → IsListed coming_so
source_listed laws a source coming_so normal below h =
    let one = level_comings a source 1 in
    let two = level_comings a source 2 in
    let three = level_comings a source 3 in
    cond_both (may_enable a source) (one ++ (two ++ three)) [] (λ (list : List Coming). Contains list coming_so → IsListed coming_so)
    (λ may there. elim (Contains-append_cases one (two ++ three) coming_so there) [
      | inl first_so ↦ level_listed laws a source 1 coming_so normal below (omega arith) (omega arith) first_so
      | inr others ↦ elim (Contains-append_cases two three coming_so others) [
        | inl second_so ↦ level_listed laws a source 2 coming_so normal below (omega arith) (omega arith) second_so
        | inr third_so ↦ level_listed laws a source 3 coming_so normal below (omega arith) (omega arith) third_so
      ]
    ])
    (λ may there. absurd (in_none coming_so there)) h

pub is_listed : (laws : InstructionLaws) (a : Known) (coming_so : Coming) → IsNormal 256 a.sp
    → Contains (comings_of a) coming_so → IsListed coming_so
unfolding comings_of
is_listed laws a coming_so normal h =
    let all = flat_map (source_comings a) (range_with_len 0 6) in
    cond_both (may_enable a 7) all [] (λ (list : List Coming). Contains list coming_so → IsListed coming_so)
    (λ may there. let found = from_flat_map (source_comings a) (range_with_len 0 6) coming_so there in
    source_listed laws a found.0 coming_so normal (in_range 6 found.0 found.1) found.2)
    (λ may there. absurd (in_none coming_so there)) h

pub frame_so : (laws : InstructionLaws) (framed : Bool) (a : Known) (coming_so : Coming) → IsKnown framed a
    → Contains (comings_of a) coming_so → IsFrame (frame_of_coming coming_so)
frame_so laws framed a coming_so form h = let is = is_listed laws a coming_so form.sp h in (is.below, is.entry, is.least, is.most)

-- whatever is known, a listed interrupt is one of the six

at_source : (sp : Form) (source level : ℕ) (coming_so : Coming) → Contains (comings_at sp source level) coming_so
    → coming_so.source ≡ source
at_source (Values sps) source level coming_so h =
    let made : ℕ → Coming = λ sp. record { source = source; level = level; known_sp = Some sp; sp = single sp } in
    let found = from_map made sps coming_so h in
    ap (λ (one : Coming). one.source) (sym found.2)
at_source (Run p) source level coming_so h =
    let one : Coming = record { source = source; level = level; known_sp = None; sp = Run p } in
    ap (λ (c : Coming). c.source) (sym (in_one one coming_so h))

level_source : (a : Known) (source level : ℕ) (coming_so : Coming) → Contains (level_comings a source level) coming_so
    → coming_so.source ≡ source
level_source a source level coming_so h =
    cond_both (may_level a source level) (comings_at a.sp source level) [] (λ (list : List Coming). Contains list coming_so → coming_so.source ≡ source)
    (λ may there. at_source a.sp source level coming_so there) (λ may there. absurd (in_none coming_so there)) h

own_source : (a : Known) (source : ℕ) (coming_so : Coming) → Contains (source_comings a source) coming_so → coming_so.source ≡ source
own_source a source coming_so h =
    let one = level_comings a source 1 in
    let two = level_comings a source 2 in
    let three = level_comings a source 3 in
    cond_both (may_enable a source) (one ++ (two ++ three)) [] (λ (list : List Coming). Contains list coming_so → coming_so.source ≡ source)
    (λ may there. elim (Contains-append_cases one (two ++ three) coming_so there) [
      | inl first_so ↦ level_source a source 1 coming_so first_so
      | inr others ↦ elim (Contains-append_cases two three coming_so others) [
        | inl second_so ↦ level_source a source 2 coming_so second_so
        | inr third_so ↦ level_source a source 3 coming_so third_so
      ]
    ])
    (λ may there. absurd (in_none coming_so there)) h

pub source_below : (a : Known) (coming_so : Coming) → Contains (comings_of a) coming_so → coming_so.source < 6
unfolding comings_of
source_below a coming_so h =
    let all = flat_map (source_comings a) (range_with_len 0 6) in
    cond_both (may_enable a 7) all [] (λ (list : List Coming). Contains list coming_so → coming_so.source < 6)
    (λ may there. let found = from_flat_map (source_comings a) (range_with_len 0 6) coming_so there in
    subst (λ n. n < 6) (sym (own_source a found.0 coming_so found.2)) (in_range 6 found.0 found.1))
    (λ may there. absurd (in_none coming_so there)) h

-- The low bytes of all words below 100h are all bytes.
use Rattle.std.proofs.Common.{◌≡◌, ℕ, ◌+◌, ◌*◌, ◌%◌, ◌<◌, ◌≤◌, map, length, sym, ◌∙◌, ap, subst, arith}
use Rattle.std.specs.List.{Contains}
use Rattle.std.proofs.lemmas.List.{length-map}
use Rattle.std.proofs.Math.Nat.{mod-eq_of_lt, mod-lt}
use Rattle.value_set.specs.declared.form.Form.{Form}
use Rattle.value_set.specs.Form.{Has, IsNormal, gather, make, members}
use Rattle.value_set.specs.Laws.{SetLaws}
use Rattle.value_set.specs.Summing.{whole}
use Rattle.value_set.specs.ListFacts.{in_from_Contains, Contains_from_in, in_map, in_mapped}
use Rattle.chip_numbers.specs.Numbers.{low_byte}

-- each byte is the low byte of the word that it is
in_lows : (v : ℕ) → SetLaws → v < 256 → Contains (map low_byte (members 65536 (whole 256))) v
in_lows v laws low =
    let words = members 65536 (whole 256) in
    let word : (0 + v * 1) % 65536 ≡ v = (let e : 0 + v * 1 ≡ v = omega arith in ap (λ (n : ℕ). n % 65536) e) ∙ mod-eq_of_lt (omega (arith, low)) in
    let there = subst (λ (n : ℕ). Contains words n) word (laws.steps_have 65536 0 1 256 v low) in
    let found = in_map low_byte v words (in_from_Contains words v there) in
    subst (λ (n : ℕ). Contains (map low_byte words) n) (mod-eq_of_lt low) (Contains_from_in (map low_byte words) (low_byte v) found)

lows_below : (v : ℕ) → Contains (map low_byte (members 65536 (whole 256))) v → v < 256
lows_below v there =
    let found = in_mapped low_byte v (members 65536 (whole 256)) (in_from_Contains (map low_byte (members 65536 (whole 256))) v there) in
    let low = mod-lt found.0 {m = 256} (omega arith) in
    omega (arith, low, found.2)

lows_some : SetLaws → 1 ≤ length (map low_byte (members 65536 (whole 256)))
lows_some laws = omega (arith, length-map (members 65536 (whole 256)) low_byte, laws.steps_long 65536 0 1 256)

pub all_lows : (any : Form) → SetLaws → any ≡ make 256 0 1 256 → any ≡ gather 256 (map low_byte (members 65536 (whole 256)))
all_lows any laws is =
    let lows = map low_byte (members 65536 (whole 256)) in
    let all = λ (v : ℕ) (low : v < 256). subst (λ (set : Form). Has 256 set v) (sym is) (laws.whole 256 v low) in
    let normal : IsNormal 256 any = subst (λ (set : Form). IsNormal 256 set) (sym is) (laws.whole_normal 256 (omega arith)) in
    let gathered = laws.gather_normal 256 lows (lows_some laws) (λ v there. lows_below v there) in
    laws.same 256 any (gather 256 lows) normal gathered
    (λ v there. laws.gather_holds 256 v lows (λ w h. lows_below w h) (in_lows v laws (laws.below 256 v any normal there)))
    (λ v there. all v (laws.below 256 v (gather 256 lows) gathered there))

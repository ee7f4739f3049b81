-- Reads at several addresses, as loops do them.
use Rattle.std.proofs.Common.{◌≡◌, ℕ, zero, suc, ◌+◌, ◌<◌, ◌≤◌, None, List, [], ◌∷◌, length, drop, get_or, refl, sym, ◌∙◌, subst, arith}
use Rattle.std.specs.Prelude.{nat_le}
use Rattle.std.proofs.lemmas.List.Elements.{Contains-get_or}
use Rattle.std.proofs.lemmas.Bool.{cond_both, false≢true, leb-true, le-leb}
use Rattle.entry_value.specs.declared.word.Word.{Word}
use Rattle.entry_value.specs.Cells.{unknown}
use Rattle.value_set.specs.declared.form.Form.{Form}
use Rattle.value_set.specs.Form.{Has, members}
use Rattle.value_set.specs.Joining.{join}
use Rattle.msp430_decode.specs.declared.instr.Width.{Width}
use Rattle.msp430_chip.specs.Memory.{size_of}
use Rattle.msp430_chip.specs.declared.device.Device.{Device}
use Rattle.msp430_state.specs.Known.{Known}
use Rattle.msp430_alu.specs.Memory.{read_one, read_each, read_list}

-- one more address
each_suc : (device : Device) (a : Known) (width : Width) (set : Form) (ms : List ℕ) (place d : ℕ) → place < length ms
    → read_each device a width set (drop place ms) ≡ read_each device a width (join 65536 set (read_one device a width (get_or ms place d)).set) (drop (suc place) ms)
each_suc device a width set [] place d inside = absurd (omega (arith, inside))
each_suc device a width set (m ∷ ms) zero d inside = refl
each_suc device a width set (m ∷ ms) (suc place) d inside = each_suc device a width set ms place d (omega (arith, inside))

pub each_more : (device : Device) (a : Known) (width : Width) (set : Form) (ms : List ℕ) (place d : ℕ) → place < length ms
    → read_each device a width set (drop place ms) ≡ read_each device a width (join 65536 set (read_one device a width (get_or ms place d)).set) (drop (place + 1) ms)
each_more device a width set ms place d inside =
    let same : suc place ≡ place + 1 = omega arith in
    subst (λ n. read_each device a width set (drop place ms) ≡ read_each device a width (join 65536 set (read_one device a width (get_or ms place d)).set) (drop n ms)) same
    (each_suc device a width set ms place d inside)

-- none behind the last
pub each_end : (device : Device) (a : Known) (width : Width) (set : Form) (ms : List ℕ) (place : ℕ) → length ms ≤ place
    → read_each device a width set (drop place ms) ≡ set
each_end device a width set [] zero past = refl
each_end device a width set [] (suc place) past = refl
each_end device a width set (m ∷ ms) zero past = absurd (omega (arith, past))
each_end device a width set (m ∷ ms) (suc place) past = each_end device a width set ms place (omega (arith, past))

pub list_many : (device : Device) (a : Known) (width : Width) (ms : List ℕ) → 256 < length ms
    → read_list device a width ms ≡ unknown (size_of width)
list_many device a width [] many = refl
list_many device a width (m ∷ []) many = absurd (omega (arith, many))
list_many device a width (m ∷ next ∷ rest) many =
    cond_both (nat_le (length rest) 254) (record { set = read_each device a width (read_one device a width m).set (next ∷ rest); entry = None }) (unknown (size_of width))
    (λ (word : Word). word ≡ unknown (size_of width))
    (λ e. let fits = leb-true (length rest) 254 e in absurd (omega (arith, many, fits))) (λ e. refl)

pub list_one : (device : Device) (a : Known) (width : Width) (ms : List ℕ) (d : ℕ) → length ms ≡ 1
    → read_list device a width ms ≡ read_one device a width (get_or ms 0 d)
list_one device a width [] d one = absurd (omega arith)
list_one device a width (m ∷ []) d one = refl
list_one device a width (m ∷ next ∷ rest) d one = absurd (omega (arith, one))

pub list_few : (device : Device) (a : Known) (width : Width) (ms : List ℕ) (d : ℕ) → 1 < length ms → length ms ≤ 256
    → read_list device a width ms ≡ record { set = read_each device a width (read_one device a width (get_or ms 0 d)).set (drop 1 ms); entry = None }
list_few device a width [] d some few = absurd (omega (arith, some))
list_few device a width (m ∷ []) d some few = absurd (omega (arith, some))
list_few device a width (m ∷ next ∷ rest) d some few =
    cond_both (nat_le (length rest) 254) (record { set = read_each device a width (read_one device a width m).set (next ∷ rest); entry = None }) (unknown (size_of width))
    (λ (word : Word). word ≡ record { set = read_each device a width (read_one device a width m).set (next ∷ rest); entry = None }) (λ e. refl)
    (λ e. let fits : length rest ≤ 254 = omega (arith, few) in absurd (false≢true (sym e ∙ le-leb (length rest) 254 fits)))

-- the number at a place is a member
pub member_fits : (set : Form) (place size n : ℕ) → place < length (members 65536 set)
    → n ≡ get_or (members 65536 set) place 0 → ((v : ℕ) → Has 65536 set v → v + size ≤ 65536)
    → n + size ≤ 65536
member_fits set place size n inside is fits =
    subst (λ m. m + size ≤ 65536) (sym is) (fits (get_or (members 65536 set) place 0) (Contains-get_or (members 65536 set) place 0 inside))

-- What is read of a text has its form.
use Rattle.std.proofs.Common.{◌≡◌, ℕ, ◌^◌, ◌≤◌, Bool, true, false, Option, None, Some, List, refl, sym, ◌∙◌, inl, inr, arith, if◌then◌else◌}
use Rattle.std.specs.Prelude.{option_map, codes, IfSome}
use Rattle.std.specs.Str.{bytes_eq}
use Rattle.value_set.specs.Form.{IsNormal}
use Rattle.value_set.specs.declared.form.Form.{Form}
use Rattle.value_set.specs.declared.form.Form.TheVariants.{Values}
use Rattle.text_fields.specs.Numbers.{IsWidth}
use Rattle.text_fields.specs.Spelling.{Spelling, IsExact, has_byte}
use Rattle.value_text.specs.Sets.{form_of, list_field, part_of, run_field, set_field, set_is_exact}

pub read_has_form : {A : Type 0} (s : Spelling A) (text : List ℕ) (result : Option A) → IsExact s
    → result ≡ s.value text → IfSome result s.Form
read_has_form s text None h e = tt
read_has_form s text (Some a) h e = (h.only text a (sym e)).0

parts : (m : ℕ) (has : Bool) (run : Option (ℕ × (ℕ × ℕ))) (list : Option (List ℕ))
    → option_map (form_of m) (option_map Some (if has then option_map inl run else option_map inr list))
    ≡ (if has then option_map (λ r. form_of m (Some (inl r))) run else option_map Values list)
parts m true None list = refl
parts m true (Some r) list = refl
parts m false run None = refl
parts m false run (Some xs) = refl

-- a text that isn't the star
set_part : (digits : ℕ) (text : List ℕ) → bytes_eq text (codes "*") ≡ false → (set_field digits).value text ≡ part_of digits text
set_part digits text other = rw other (parts (16 ^ digits) (has_byte 47 text) ((run_field digits).value text) ((list_field digits).value text))

wide : (digits : ℕ) → IsWidth digits → 2 ≤ digits
wide digits (inl two) = omega (arith, two)
wide digits (inr four) = omega (arith, four)

pub part_normal : (digits : ℕ) (text : List ℕ) (result : Option Form) → IsWidth digits
    → bytes_eq text (codes "*") ≡ false → result ≡ part_of digits text
    → IfSome result (IsNormal (16 ^ digits))
part_normal digits text result width other is = read_has_form (set_field digits) text result (set_is_exact digits (wide digits width))
    (is ∙ sym (set_part digits text other))

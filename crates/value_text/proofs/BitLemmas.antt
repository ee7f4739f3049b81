-- Rows of bits, as they are read and written.
use Rattle.std.proofs.Common.{◌≡◌, ℕ, ◌+◌, ◌-◌, ◌<◌, ◌≤◌, Option, None, Some, List, [], ◌∷◌, ◌++◌, map, length, take, drop, get_or, set, reverse, refl, sym, ap, ap₂, ◌∙◌, arith}
use Rattle.std.specs.Prelude.{option_map, option_and_then}
use Rattle.std.proofs.lemmas.Bool.{eq-eqb}
use Rattle.std.proofs.lemmas.List.{reverse-append, reverse-reverse, take_more, take_all, map-append, drop_more, take-append-drop}
use Rattle.std.proofs.lemmas.Grind.{drop-set_at}
use Rattle.std.proofs.Math.ListN.{drop_of_length-le}
use Rattle.value_bits.specs.declared.tri.Tri.{Tri}
use Rattle.text_fields.specs.Lists.{values_of}
use Rattle.value_text.specs.Bits.{bit_field, bit_of, bits_field}

-- the bits of the bytes of a text
abbrev pub row_of : List ℕ → Option (List Tri)
row_of text = values_of bit_field.value (map (λ b. b ∷ []) text)

-- one more value behind others
with_last : {A : Type 0} (first : A) (front : Option (List A)) (last : Option A)
    → option_map (λ more. first ∷ more) (option_and_then (λ xs. option_map (λ x. xs ++ x ∷ []) last) front)
    ≡ option_and_then (λ xs. option_map (λ x. xs ++ x ∷ []) last) (option_map (λ more. first ∷ more) front)
with_last first None last = refl
with_last first (Some xs) None = refl
with_last first (Some xs) (Some x) = refl

alone : {A : Type 0} (last : Option A) → option_and_then (λ a. option_map (λ more. a ∷ more) (Some [])) last ≡ option_map (λ x. x ∷ []) last
alone None = refl
alone (Some x) = refl

first_with : {A : Type 0} (first : Option A) (front : Option (List A)) (longer : Option (List A)) (last : Option A)
    → longer ≡ option_and_then (λ xs. option_map (λ x. xs ++ x ∷ []) last) front
    → option_and_then (λ a. option_map (λ more. a ∷ more) longer) first
    ≡ option_and_then (λ xs. option_map (λ x. xs ++ x ∷ []) last) (option_and_then (λ a. option_map (λ more. a ∷ more) front) first)
first_with None front longer last e = refl
first_with (Some a) front longer last e = ap (option_map (λ more. a ∷ more)) e ∙ with_last a front last

values_of-last : {A : Type 0} (value : List ℕ → Option A) (texts : List (List ℕ)) (text : List ℕ)
    → values_of value (texts ++ text ∷ []) ≡ option_and_then (λ xs. option_map (λ x. xs ++ x ∷ []) (value text)) (values_of value texts)
values_of-last value [] text = alone (value text)
values_of-last value (first ∷ texts) text = first_with (value first) (values_of value texts) (values_of value (texts ++ text ∷ [])) (value text)
    (values_of-last value texts text)

none_behind : {A : Type 0} (first : Option A) → option_and_then (λ a. option_map (λ more. a ∷ more) None) first ≡ None
none_behind None = refl
none_behind (Some a) = refl

-- a byte that is no bit
row_bad : (front rest : List ℕ) (b : ℕ) → bit_of b ≡ None → row_of (front ++ b ∷ rest) ≡ None
row_bad [] rest b e = rw e refl
row_bad (first ∷ front) rest b e = rw (row_bad front rest b e) (none_behind (bit_of first))

row_more : (text : List ℕ) (i : ℕ) (bits : List Tri) (bit : Tri) → i < length text → row_of (take i text) ≡ Some bits
    → bit_of (get_or text i 0) ≡ Some bit
    → row_of (take (i + 1) text) ≡ Some (bits ++ bit ∷ [])
row_more text i bits bit inside so_far is =
    ap row_of (take_more text i 0 inside) ∙ ap (values_of bit_field.value) (map-append (λ b. b ∷ []) (take i text) (get_or text i 0 ∷ []))
    ∙ values_of-last bit_field.value (map (λ b. b ∷ []) (take i text)) (get_or text i 0 ∷ [])
    ∙ ap₂ (λ xs x. option_and_then (λ ys. option_map (λ y. ys ++ y ∷ []) x) xs) so_far is

-- THE LOOP

pub bits_start : (count : ℕ) (bits : List Tri) (text : List ℕ) → length bits ≡ count
    → row_of (take 0 text) ≡ Some (reverse (drop (count - 0) bits))
bits_start count bits text all = ap (λ higher. Some (reverse higher)) (sym (drop_of_length-le bits (omega (arith, all))))

pub bits_step : (count i : ℕ) (bits : List Tri) (text : List ℕ) (bit : Tri) → length bits ≡ count → length text ≡ count → i < count
    → row_of (take i text) ≡ Some (reverse (drop (count - i) bits)) → Some bit ≡ bit_of (get_or text i 0) → row_of (take (i + 1) text)
    ≡ Some (reverse (drop (count - (i + 1)) (set bits (count - 1 - i) bit)))
bits_step count i bits text bit all long less so_far is =
    let place : count - (i + 1) ≡ count - 1 - i = omega arith in
    let higher : count - 1 - i + 1 ≡ count - i = omega (arith, less) in
    let put = drop-set_at bits (count - 1 - i) (count - (i + 1)) bit place (omega (arith, all, less)) ∙ ap (λ k. bit ∷ drop k bits) higher in
    row_more text i (reverse (drop (count - i) bits)) bit (omega (arith, long, less)) so_far (sym is)
    ∙ ap Some (sym (reverse-append (bit ∷ []) (drop (count - i) bits)) ∙ ap reverse (sym put))

pub bits_bad : (count i : ℕ) (text : List ℕ) → length text ≡ count → i < count → None ≡ bit_of (get_or text i 0)
    → None ≡ (bits_field count).value text
bits_bad count i text long less is =
    let whole = sym (take-append-drop i text) ∙ ap (λ rest. take i text ++ rest) (drop_more text i 0 (omega (arith, long, less))) in
    let none = ap row_of whole ∙ row_bad (take i text) (drop (i + 1) text) (get_or text i 0) (sym is) in
    rw (eq-eqb (length text) count long, none) refl

pub bits_done : (count i : ℕ) (bits : List Tri) (text : List ℕ) → length bits ≡ count → length text ≡ count → i ≤ count → count ≤ i
    → row_of (take i text) ≡ Some (reverse (drop (count - i) bits))
    → Some bits ≡ (bits_field count).value text
bits_done count i bits text all long most least so_far =
    let none : count - i ≡ 0 = omega (arith, most, least) in
    let read = ap row_of (sym (take_all i text (omega (arith, long, least)))) ∙ so_far ∙ ap (λ k. Some (reverse (drop k bits))) none in
    rw (eq-eqb (length text) count long, read, reverse-reverse bits) refl

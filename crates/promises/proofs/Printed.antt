-- What is printed is read again.
use Rattle.std.specs.Prelude.{◌≡◌, ℕ, ◌+◌, ◌*◌, ◌/◌, ◌%◌, ◌<◌, ◌≤◌, ◌==◌, nat_le, if◌then◌else◌, Bool, true, false, Option, None, Some, option_and_then, List, [], ◌∷◌, ◌++◌, length, map, codes, Contains}
use Rattle.std.specs.List.{AllByRecursion, join_with_byte, slice_split}
use Rattle.std.specs.Option.{option_map_or}
use Rattle.std.specs.Str.{bytes_eq}
use Rattle.std.proofs.Common.{refl, sym, ap, ◌∙◌, subst, inl, inr, arith, append_assoc, suc}
use Rattle.std.proofs.lemmas.Bool.{cases_Bool, le-leb, leb-true}
use Rattle.std.proofs.lemmas.Bool.Decides.{nat_tests}
use Rattle.std.proofs.lemmas.Option.{none-some, same_Some}
use Rattle.std.proofs.lemmas.List.Splits.{length-slice_split}
use Rattle.hex.specs.Hex.{hex_digit_value}
use Rattle.hex_digits.specs.Digits.{hex, hex_digit}
use Rattle.hex_digits.specs.EitherCase.{word_from, word_in_either_case}
use Rattle.text_fields.specs.Spelling.{has_byte, has_byte-between, has_byte-both, then_only, map_only, test_only}
use Rattle.text_fields.specs.Numbers.{number_avoids}
use Rattle.text_fields.specs.Fields.{behind, cut_at, cut_back, other_bytes}
use Rattle.text_fields.specs.Lists.{split_first, split_none, values_of}
use Rattle.plain_lemmas.specs.Below.{one_of_sixteen}
use Rattle.plain_lemmas.specs.Members.{in_none, in_cons, in_one, from_map}
use Rattle.promises.specs.declared.promise.Promise.{Promise}
use Rattle.promises.specs.declared.promise.Promise.TheVariants.{Write, All, Goes}
use Rattle.promises.specs.declared.promise.Window.{Window}
use Rattle.promises.specs.declared.promise.Window.TheVariants.{Between, BelowStack, AboveStack}
use Rattle.promises.specs.declared.spoken.Growth.{Growth}
use Rattle.promises.specs.declared.spoken.Growth.TheVariants.{Down, Up}
use Rattle.promises.specs.Sentences.{IsWindow, above_stack, addresses_of, addresses_text, at_most, below_stack, between, goes_from, is_stack, promises_in, sentence, targets_of, window_of, window_text, windows_of, windows_text, write_each, write_of}

-- PRINTING

gathered : (a b c d e : List ℕ) → a ++ b ++ c ++ d ++ e ≡ a ++ (b ++ c ++ d ++ e)
gathered a b c d e =
    append_assoc (a ++ b ++ c) d e ∙ append_assoc (a ++ b) c (d ++ e) ∙ append_assoc a b (c ++ (d ++ e))
    ∙ ap (λ (t : List ℕ). a ++ t) (sym (append_assoc (b ++ c) d e ∙ append_assoc b c (d ++ e)))

pub goes_said : (before after : List ℕ) (promise : Promise) (pc : ℕ) (targets shown all : List ℕ) → promise ≡ Goes pc targets → shown ≡ targets
    → after ≡ before ++ codes "targets " ++ hex 4 pc ++ codes " " → all ≡ after ++ addresses_text shown → all ≡ before ++ sentence promise
goes_said before after promise pc targets shown all is same site added =
    added ∙ ap (λ (t : List ℕ). t ++ addresses_text shown) site
    ∙ gathered before (codes "targets ") (hex 4 pc) (codes " ") (addresses_text shown)
    ∙ ap (λ ts. before ++ sentence (Goes pc ts)) same ∙ ap (λ p. before ++ sentence p) (sym is)

-- ADDRESSES

digit_back : (d : ℕ) → d < 16 → hex_digit_value (hex_digit d) ≡ Some d
digit_back d small = one_of_sixteen (λ n. hex_digit_value (hex_digit n) ≡ Some n) refl refl refl refl refl refl refl refl refl refl refl refl refl refl refl refl d small

word_back : (n : ℕ) → n < 65536 → word_in_either_case (hex 4 n) ≡ Some n
word_back n small =
    let sum : n / 16 / 16 / 16 % 16 * 4096 + n / 16 / 16 % 16 * 256 + n / 16 % 16 * 16 + n % 16 ≡ n = omega (arith, small) in
    let a : n / 16 / 16 / 16 % 16 < 16 = omega arith in
    let b : n / 16 / 16 % 16 < 16 = omega arith in
    let c : n / 16 % 16 < 16 = omega arith in
    let d : n % 16 < 16 = omega arith in
    rw (digit_back _ a, digit_back _ b, digit_back _ c, digit_back _ d) (ap Some sum)

value_below : (c d : ℕ) → hex_digit_value c ≡ Some d → d < 16
value_below c d e = grind (arith, nat_tests, e)

from_below : (a b c d : Option ℕ) (n : ℕ) → ((x : ℕ) → a ≡ Some x → x < 16) → ((x : ℕ) → b ≡ Some x → x < 16)
    → ((x : ℕ) → c ≡ Some x → x < 16) → ((x : ℕ) → d ≡ Some x → x < 16) → word_from a b c d ≡ Some n → n < 65536
from_below (Some a) (Some b) (Some c) (Some d) n la lb lc ld e =
    let same = same_Some _ n e in omega (arith, la a refl, lb b refl, lc c refl, ld d refl, same)
from_below (Some a) (Some b) (Some c) None n la lb lc ld e = absurd (none-some n e)
from_below (Some a) (Some b) None d n la lb lc ld e = absurd (none-some n e)
from_below (Some a) None c d n la lb lc ld e = absurd (none-some n e)
from_below None b c d n la lb lc ld e = absurd (none-some n e)

word_below : (text : List ℕ) (n : ℕ) → word_in_either_case text ≡ Some n → n < 65536
word_below [] n e = absurd (none-some n e)
word_below (a ∷ []) n e = absurd (none-some n e)
word_below (a ∷ b ∷ []) n e = absurd (none-some n e)
word_below (a ∷ b ∷ c ∷ []) n e = absurd (none-some n e)
word_below (a ∷ b ∷ c ∷ d ∷ []) n e =
    from_below (hex_digit_value a) (hex_digit_value b) (hex_digit_value c) (hex_digit_value d) n (value_below a) (value_below b) (value_below c) (value_below d) e
word_below (a ∷ b ∷ c ∷ d ∷ x ∷ text) n e = absurd (none-some n e)

-- WINDOWS

no_stack : (n : ℕ) → is_stack (hex 4 n) ≡ false
no_stack n = other_bytes (hex 4 n) (codes "SP") (λ same. let long : 4 ≡ 2 = ap length same in absurd (omega (arith, long)))

no_star : (n : ℕ) → bytes_eq (hex 4 n) (codes "*") ≡ false
no_star n = other_bytes (hex 4 n) (codes "*") (λ same. let long : 4 ≡ 1 = ap length same in absurd (omega (arith, long)))

window_back : (growth : Growth) (w : Window) → IsWindow growth w → window_of growth (window_text w) ≡ Some w
window_back growth (Between lo hi) form =
    let small : lo < 65536 = omega (arith, form.0, form.1) in
    rw (cut_back 45 (hex 4 lo) (hex 4 hi) (number_avoids 4 45 refl lo small), no_stack hi, no_stack lo, word_back lo small, word_back hi form.1, le-leb lo hi form.0) refl
window_back Down (BelowStack lo) form = rw (cut_back 45 (hex 4 lo) (codes "SP") (number_avoids 4 45 refl lo form), word_back lo form) refl
window_back Up (BelowStack lo) form = absurd form
window_back Down (AboveStack hi) form = absurd form
window_back Up (AboveStack hi) form =
    let small : hi < 65536 = omega (arith, form) in
    let few : hi ≤ 255 = omega (arith, form) in
    rw (no_stack hi, word_back hi small, le-leb hi 255 few) refl

window_apart : (growth : Growth) (w : Window) → IsWindow growth w → has_byte 44 (window_text w) ≡ false
window_apart growth (Between lo hi) form =
    let small : lo < 65536 = omega (arith, form.0, form.1) in
    has_byte-between 44 45 (hex 4 lo) (hex 4 hi) refl (number_avoids 4 44 refl lo small) (number_avoids 4 44 refl hi form.1)
window_apart Down (BelowStack lo) form = has_byte-both 44 (hex 4 lo) (codes "-SP") (number_avoids 4 44 refl lo form) refl
window_apart Up (BelowStack lo) form = absurd form
window_apart Down (AboveStack hi) form = absurd form
window_apart Up (AboveStack hi) form = let small : hi < 65536 = omega (arith, form) in number_avoids 4 44 refl hi small

abbrev IsRead : Option ℕ → Type 0
IsRead word = (n : ℕ) → word ≡ Some n → n < 65536

between_form : (growth : Growth) (lo hi : Option ℕ) (w : Window) → IsRead hi → between lo hi ≡ Some w → IsWindow growth w
between_form growth (Some lo) (Some hi) w small e =
    test_only (nat_le lo hi) (Between lo hi) w e (λ passes same. subst (λ v. IsWindow growth v) same (leb-true lo hi passes, small hi refl))
between_form growth (Some lo) None w small e = absurd (none-some w e)
between_form growth None hi w small e = absurd (none-some w e)

below_form : (growth : Growth) (lo : Option ℕ) (w : Window) → IsRead lo → below_stack growth lo ≡ Some w → IsWindow growth w
below_form Down lo w small e = map_only BelowStack lo w e (λ n is same. subst (λ v. IsWindow Down v) same (small n is))
below_form Up lo w small e = absurd (none-some w e)

above_form : (growth : Growth) (hi : Option ℕ) (w : Window) → above_stack growth hi ≡ Some w → IsWindow growth w
above_form Down hi w e = absurd (none-some w e)
above_form Up hi w e = then_only _ hi w e (λ n is made. test_only (nat_le n 255) (AboveStack n) w made
    (λ passes same. let few : n < 256 = omega (arith, leb-true n 255 passes) in subst (λ v. IsWindow Up v) same few))

window_form : (growth : Growth) (text : List ℕ) (w : Window) → window_of growth text ≡ Some w → IsWindow growth w
window_form growth text w e = then_only _ (cut_at 45 text) w e (λ ends is made. elim (cases_Bool (is_stack ends.1)) [
  | inl below ↦ below_form growth (word_in_either_case ends.0) w (word_below ends.0) (rw below at made)
  | inr other ↦ elim (cases_Bool (is_stack ends.0)) [
    | inl above ↦ above_form growth (word_in_either_case ends.1) w (rw (other, above) at made)
    | inr nor ↦ between_form growth (word_in_either_case ends.0) (word_in_either_case ends.1) w (word_below ends.1) (rw (other, nor) at made)
  ]
])

-- LISTS

pub record IsList {A : Type 0} (Form : A → Type 0) (most : ℕ) (xs : List A) : Type 0 where
  pub some : 1 ≤ length xs
  pub few : nat_le (length xs) most ≡ true
  pub forms : AllByRecursion Form xs

module _ {A : Type 0} (value : List ℕ → Option A) (text : A → List ℕ) (Form : A → Type 0) where
  module _ (back : (a : A) → Form a → value (text a) ≡ Some a) (apart : (a : A) → Form a → has_byte 44 (text a) ≡ false) where
    each_back : (xs : List A) → AllByRecursion Form xs → values_of value (map text xs) ≡ Some xs
    each_back [] forms = refl
    each_back (x ∷ xs) forms = rw (back x forms.0, each_back xs forms.1) refl

    split_back : (x : A) (xs : List A) → AllByRecursion Form (x ∷ xs)
        → slice_split (λ b. b == 44) (join_with_byte 44 (map text (x ∷ xs))) ≡ map text (x ∷ xs)
    split_back x [] forms = split_none 44 (text x) (apart x forms.0)
    split_back x (y ∷ xs) forms =
        split_first 44 (text x) (join_with_byte 44 (map text (y ∷ xs))) (apart x forms.0)
        ∙ ap (λ (ts : List (List ℕ)). text x ∷ ts) (split_back y xs forms.1)

    pub list_back : (most : ℕ) (xs : List A) → IsList Form most xs
        → option_and_then (at_most most) (values_of value (slice_split (λ b. b == 44) (join_with_byte 44 (map text xs)))) ≡ Some xs
    list_back most [] is = absurd (omega (arith, is.some))
    list_back most (x ∷ xs) is =
        ap (λ ts. option_and_then (at_most most) (values_of value ts)) (split_back x xs is.forms)
        ∙ ap (option_and_then (at_most most)) (each_back (x ∷ xs) is.forms)
        ∙ ap (λ (b : Bool). if b then Some (x ∷ xs) else None) is.few

  module _ (form : (t : List ℕ) (a : A) → value t ≡ Some a → Form a) where
    abbrev AreRead : List (List ℕ) → List A → Type 0
    AreRead texts xs = (length xs ≡ length texts) × AllByRecursion Form xs

    values_form : (texts : List (List ℕ)) (xs : List A) → values_of value texts ≡ Some xs → AreRead texts xs
    values_form [] xs e = subst (λ ys. AreRead [] ys) (same_Some [] xs e) (refl, tt)
    values_form (t ∷ texts) xs e = then_only _ (value t) xs e (λ a first rest. map_only _ (values_of value texts) xs rest (λ more found same.
        let others = values_form texts more found in
        subst (λ ys. AreRead (t ∷ texts) ys) same (ap suc others.0, (form t a first, others.1))))

    pub list_form : (most : ℕ) (line : List ℕ) (xs : List A)
        → option_and_then (at_most most) (values_of value (slice_split (λ b. b == 44) line)) ≡ Some xs → IsList Form most xs
    list_form most line xs e = then_only _ (values_of value (slice_split (λ b. b == 44) line)) xs e (λ all read made.
        test_only (nat_le (length all) most) all xs made (λ passes same.
        let are = values_form (slice_split (λ b. b == 44) line) all read in
        let long = length-slice_split (λ b. b == 44) line in
        subst (λ ys. IsList Form most ys) same (record { some = omega (arith, are.0, long); few = passes; forms = are.1 })))

abbrev IsAddress : ℕ → Type 0
IsAddress n = n < 65536

windows_back : (growth : Growth) (ws : List Window) → IsList (IsWindow growth) 4 ws → windows_of growth (windows_text ws) ≡ Some ws
windows_back growth ws is = list_back (window_of growth) window_text (IsWindow growth) (window_back growth) (window_apart growth) 4 ws is

addresses_back : (ns : List ℕ) → IsList IsAddress 256 ns → addresses_of (addresses_text ns) ≡ Some ns
addresses_back ns is = list_back word_in_either_case (hex 4) IsAddress word_back (number_avoids 4 44 refl) 256 ns is

-- SENTENCES

abbrev IsSaid : Growth → Promise → Type 0
IsSaid growth (Write pc windows) = IsAddress pc × IsList (IsWindow growth) 4 windows
IsSaid growth (All windows) = IsList (IsWindow growth) 4 windows
IsSaid growth (Goes pc targets) = IsAddress pc × IsList IsAddress 256 targets

one_address : (pc : ℕ) → IsAddress pc → addresses_of (hex 4 pc) ≡ Some (pc ∷ [])
one_address pc small = addresses_back (pc ∷ []) (record { some = omega arith; few = refl; forms = (small, tt) })

pub said_back : (growth : Growth) (promise : Promise) → IsSaid growth promise → promises_in growth (sentence promise) ≡ Some (promise ∷ [])
said_back growth (Write pc windows) is =
    rw (cut_back 32 (hex 4 pc) (windows_text windows) (number_avoids 4 32 refl pc is.0), windows_back growth windows is.1, no_star pc, one_address pc is.0) refl
said_back growth (All windows) is = rw (windows_back growth windows is) refl
said_back growth (Goes pc targets) is =
    rw (cut_back 32 (hex 4 pc) (addresses_text targets) (number_avoids 4 32 refl pc is.0), word_back pc is.0, addresses_back targets is.1) refl

in_all : {A : Type 0} (P : A → Type 0) (xs : List A) (x : A) → AllByRecursion P xs → Contains xs x → P x
in_all P [] x all there = absurd (in_none x there)
in_all P (y ∷ ys) x all there = elim (in_cons y ys x there) [
  | inl same ↦ subst P same all.0
  | inr later ↦ in_all P ys x all.1 later
]

module _ (growth : Growth) (promises : List Promise) (promise : Promise) (there : Contains promises promise) where
  only_said : (one : Promise) → one ∷ [] ≡ promises → IsSaid growth one → IsSaid growth promise
  only_said one same is = subst (λ p. IsSaid growth p) (in_one one promise (subst (λ ps. Contains ps promise) (sym same) there)) is

  each_said : (sites : List ℕ) (windows : List Window) → IsList (IsWindow growth) 4 windows → write_each sites windows ≡ Some promises
      → IsSaid growth promise
  each_said sites windows is e = elim (cases_Bool (bytes_eq sites (codes "*"))) [
    | inl star ↦ only_said (All windows) (same_Some _ promises (rw star at e)) is
    | inr other ↦ map_only _ (addresses_of sites) promises (rw other at e) (λ pcs read same.
        let found = from_map (λ pc. Write pc windows) pcs promise (subst (λ ps. Contains ps promise) (sym same) there) in
        let are = list_form word_in_either_case (hex 4) IsAddress word_below 256 sites pcs read in
        subst (λ p. IsSaid growth p) found.2 (in_all IsAddress pcs found.0 are.forms found.1, is))
  ]

  write_said : (rest : List ℕ) → write_of growth rest ≡ Some promises → IsSaid growth promise
  write_said rest e = then_only _ (cut_at 32 rest) promises e (λ parts is made.
      then_only _ (windows_of growth parts.1) promises made (λ windows read each.
      each_said parts.0 windows (list_form (window_of growth) window_text (IsWindow growth) (window_form growth) 4 parts.1 windows read) each))

  goes_form : (pc : Option ℕ) (targets : Option (List ℕ)) → IsRead pc → ((ns : List ℕ) → targets ≡ Some ns → IsList IsAddress 256 ns)
      → goes_from pc targets ≡ Some promises → IsSaid growth promise
  goes_form (Some pc) (Some targets) small are e = only_said (Goes pc targets) (same_Some _ promises e) (small pc refl, are targets refl)
  goes_form (Some pc) None small are e = absurd (none-some promises e)
  goes_form None targets small are e = absurd (none-some promises e)

  targets_said : (rest : List ℕ) → targets_of rest ≡ Some promises → IsSaid growth promise
  targets_said rest e = then_only _ (cut_at 32 rest) promises e (λ parts is made.
      goes_form (word_in_either_case parts.0) (addresses_of parts.1) (word_below parts.0)
      (λ ns read. list_form word_in_either_case (hex 4) IsAddress word_below 256 parts.1 ns read) made)

  front_said : (write targets : Option (List ℕ))
      → option_map_or (write_of growth) write (option_map_or targets_of targets None) ≡ Some promises → IsSaid growth promise
  front_said (Some rest) targets e = write_said rest e
  front_said None (Some rest) e = targets_said rest e
  front_said None None e = absurd (none-some promises e)

  none_said : [] ≡ promises → IsSaid growth promise
  none_said same = absurd (in_none promise (subst (λ ps. Contains ps promise) (sym same) there))

  pub line_said : (line : List ℕ) → promises_in growth line ≡ Some promises → IsSaid growth promise
  line_said [] e = none_said (same_Some [] promises e)
  line_said (b ∷ bytes) e = elim (cases_Bool (b == 35)) [
    | inl note ↦ none_said (same_Some [] promises (rw note at e))
    | inr other ↦ front_said (behind (codes "write ") (b ∷ bytes)) (behind (codes "targets ") (b ∷ bytes)) (rw other at e)
  ]

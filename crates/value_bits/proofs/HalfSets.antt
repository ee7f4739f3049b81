-- Sets of bytes and of words, made of one another.
use Rattle.std.proofs.Common.{◌≡◌, ℕ, ◌+◌, ◌-◌, ◌*◌, ◌%◌, ◌<◌, ◌≤◌, List, [], ◌∷◌, ◌++◌, map, length, take, drop, get_or, refl, sym, ◌∙◌, ap, subst, inl, inr, arith, append-nil}
use Rattle.std.specs.List.{Contains}
use Rattle.std.proofs.lemmas.Bool.{le-leb, lt-leb}
use Rattle.std.proofs.lemmas.List.{take_more, length-map, length-append, length-take-le, length-drop}
use Rattle.std.proofs.lemmas.Grind.{flat_map-append}
use Rattle.std.proofs.Math.Seq.{take-length}
use Rattle.std.proofs.lemmas.Nat.{mul-le}
use Rattle.std.proofs.Math.Nat.{mod-eq_of_lt}
use Rattle.value_set.specs.declared.form.Form.{Form}
use Rattle.value_set.specs.declared.form.Form.TheVariants.{Values, Run}
use Rattle.value_set.specs.Form.{Has, members, gather, set_of, put}
use Rattle.value_set.specs.Widths.{IsByteList}
use Rattle.value_set.specs.Summing.{single}
use Rattle.value_set.specs.ListFacts.{IsIn, in_from_Contains, Contains_from_in, in_map, in_flat_map}
use Rattle.value_bits.specs.declared.tri.Tri.{Tri}
use Rattle.chip_numbers.specs.Numbers.{low_byte, high_byte, word_of}
use Rattle.value_bits.specs.Bits.{known_bits, from_bits}
use Rattle.value_bits.specs.Sets.{low_set, high_set, words, pair_set}

pub gathered_one : (m v : ℕ) → gather m (v ∷ []) ≡ single v
unfolding set_of put
gathered_one m v = refl

-- of one number
pub low_one : (v : ℕ) → low_set (single v) ≡ single (low_byte v)
unfolding low_set set_of put
low_one v = refl

pub high_one : (v : ℕ) → high_set (single v) ≡ single (high_byte v)
unfolding high_set set_of put
high_one v = refl

pub pair_one : (x y : ℕ) → pair_set (single x) (single y) ≡ single (word_of x y)
unfolding pair_set set_of put
pair_one x y = refl

pub low_few : (set result : Form) → result ≡ gather 256 (map low_byte (members 65536 set))
    → length (members 65536 set) ≤ 256 → result ≡ low_set set
unfolding low_set
low_few set result is few = rw (le-leb (length (members 65536 set)) 256 few) is

pub low_many : (set result : Form) → result ≡ from_bits 8 (take 8 (known_bits 16 set))
    → 256 < length (members 65536 set) → result ≡ low_set set
unfolding low_set
low_many set result is many = rw (lt-leb (length (members 65536 set)) 256 many) is

pub high_few : (set result : Form) → result ≡ gather 256 (map high_byte (members 65536 set))
    → length (members 65536 set) ≤ 256 → result ≡ high_set set
unfolding high_set
high_few set result is few = rw (le-leb (length (members 65536 set)) 256 few) is

pub high_many : (set result : Form) → result ≡ from_bits 8 (drop 8 (known_bits 16 set))
    → 256 < length (members 65536 set) → result ≡ high_set set
unfolding high_set
high_many set result is many = rw (lt-leb (length (members 65536 set)) 256 many) is

pub pair_few : (low high result : Form) → result ≡ gather 65536 (words (members 256 low) (members 256 high))
    → length (members 256 low) * length (members 256 high) ≤ 256
    → result ≡ pair_set low high
unfolding pair_set
pair_few low high result is few = rw (le-leb (length (members 256 low) * length (members 256 high)) 256 few) is

pub pair_many : (low high result : Form) → result ≡ from_bits 16 (known_bits 8 low ++ known_bits 8 high)
    → 256 < length (members 256 low) * length (members 256 high)
    → result ≡ pair_set low high
unfolding pair_set
pair_many low high result is many = rw (lt-leb (length (members 256 low) * length (members 256 high)) 256 many) is

pub length-words : (lows highs : List ℕ) → length (words lows highs) ≡ length lows * length highs
length-words [] highs = omega arith
length-words (x ∷ xs) highs = let rest = length-words xs highs in omega (arith, rest, length-append (map (λ y. word_of x y) highs) (words xs highs), length-map highs (λ y. word_of x y))

pub words_more : (lows highs : List ℕ) (i d : ℕ) → i < length lows
    → words (take (i + 1) lows) highs ≡ words (take i lows) highs ++ map (λ y. word_of (get_or lows i d) y) highs
words_more lows highs i d short =
    ap (λ (xs : List ℕ). words xs highs) (take_more lows i d short)
    ∙ flat_map-append (λ x. map (λ y. word_of x y) highs) (take i lows) (get_or lows i d ∷ [])
    ∙ ap (λ (ys : List ℕ). words (take i lows) highs ++ ys) (append-nil (map (λ y. word_of (get_or lows i d) y) highs))

pub words_have : (lows highs : List ℕ) (x y : ℕ) → Contains lows x → Contains highs y → Contains (words lows highs) (word_of x y)
words_have lows highs x y h k =
    Contains_from_in (words lows highs) (word_of x y)
    (in_flat_map (λ n. map (λ m. word_of n m) highs) x (word_of x y) lows (in_from_Contains lows x h)
    (in_map (λ m. word_of x m) y highs (in_from_Contains highs y k)))

pub words_room : (lows highs : List ℕ) (i : ℕ) → i < length lows → length lows * length highs ≤ 256
    → length (words (take i lows) highs) + length highs ≤ 256
words_room lows highs i short few =
    let taken = length-take-le i lows (omega arith) in
    let long = length-words (take i lows) highs in
    let product = ap (λ (n : ℕ). n * length highs) taken in
    let more : (i + 1) * length highs ≤ length lows * length highs = grind arith in
    omega (arith, long, product, more, few)

pub words_some : (lows highs : List ℕ) → 1 ≤ length lows → 1 ≤ length highs → 1 ≤ length (words lows highs)
words_some lows highs h k = let long = length-words lows highs in let some : 1 * 1 ≤ length lows * length highs = mul-le 1 1 (length lows) (length highs) h k in omega (arith, long, some)

-- all bits from a place on
pub drop_whole : (k : ℕ) (bits : List Tri) → take (length bits - k) (drop k bits) ≡ drop k bits
drop_whole k bits = ap (λ (n : ℕ). take n (drop k bits)) (sym (length-drop k bits)) ∙ take-length (drop k bits)

-- with the high byte 0 alone, the words are the bytes
words_zero : (lows : List ℕ) → words lows (0 ∷ []) ≡ lows
words_zero [] = refl
words_zero (x ∷ xs) = let same : x + 0 * 256 ≡ x = omega arith in rw same (ap (λ (ys : List ℕ). x ∷ ys) (words_zero xs))

pub words_of_bytes : (lows : List ℕ) (high : Form) → high ≡ single 0 → lows ≡ words lows (members 256 high)
words_of_bytes lows high is = rw is (sym (words_zero lows))

low_bytes_same : (xs : List ℕ) → ((v : ℕ) → IsIn v xs → v < 256) → map low_byte xs ≡ xs
low_bytes_same [] below = refl
low_bytes_same (x ∷ xs) below =
    let same : x % 256 ≡ x = mod-eq_of_lt (below x (inl refl)) in
    rw same (ap (λ (ys : List ℕ). x ∷ ys) (low_bytes_same xs (λ v i. below v (inr i))))

-- bytes are their own low bytes
pub bytes_same : (set : Form) → IsByteList set → map low_byte (members 65536 set) ≡ members 65536 set
bytes_same (Values xs) below = low_bytes_same xs (λ v i. below v (Contains_from_in xs v i))
bytes_same (Run p) below = absurd below

pub byte_low : (set same : Form) (x : ℕ) → same ≡ set → IsByteList set → Has 65536 set x → Has 256 same (low_byte x)
byte_low (Values xs) same x is below there = rw is (subst (λ (n : ℕ). Contains xs n) (sym (mod-eq_of_lt (below x there))) there)
byte_low (Run p) same x is below there = absurd below

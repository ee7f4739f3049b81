-- The bits of registers that don't hold all of them.
use Rattle.std.proofs.Common.{◌≡◌, ℕ, zero, suc, min, max, ◌+◌, ◌-◌, ◌*◌, ◌/◌, ◌%◌, ◌^◌, ◌<◌, ◌≤◌, List, [], ◌∷◌, Contains, bit_and, bit_or, refl, sym, ap, ◌∙◌, subst, inl, inr, arith}
use Rattle.std.specs.Int.{bit_at}
use Rattle.std.proofs.Math.Nat.{pow-suc}
use Rattle.std.proofs.lemmas.Bool.{cases_lt}
use Rattle.std.proofs.lemmas.Nat.{and_le_l, or_lt}
use Rattle.std.proofs.lemmas.Nat.Bits.{same_from_bits, same_from_bits_below, bit_at_and, bit_at_or, bit_at-lt, bit_at-suc, bit_at_above, bit_at_lowest, bit_at-zero}
use Rattle.entry_value.specs.declared.word.Entry.{Entry}
use Rattle.entry_value.specs.Words.{Suspended, Reads}
use Rattle.mcs51_chip.specs.NumberFacts.{of_eight}
use Rattle.mcs51_state.specs.Writing.{own_masks}

-- MASKS

-- each bit is one of a number or of its complement
complement_bit : (width v i : ℕ) → v < 2 ^ width → i < width → bit_at v i + bit_at (2 ^ width - 1 - v) i ≡ 1
complement_bit zero v i small inside = absurd (omega (arith, inside))
complement_bit (suc width) v zero small inside =
    let power : 2 ^ suc width ≡ 2 ^ width * 2 = pow-suc 2 width in
    omega (arith, power, small, bit_at_lowest v, bit_at_lowest (2 ^ suc width - 1 - v))
complement_bit (suc width) v (suc i) small inside =
    let power : 2 ^ suc width ≡ 2 ^ width * 2 = pow-suc 2 width in
    let half : (2 ^ suc width - 1 - v) / 2 ≡ 2 ^ width - 1 - v / 2 = omega (arith, power, small) in
    let rest = complement_bit width (v / 2) i (omega (arith, power, small)) (omega (arith, inside)) in
    omega (arith, rest, bit_at-suc v i, bit_at-suc (2 ^ suc width - 1 - v) i, ap (λ n. bit_at n i) half)

-- of a word: the bits that a register doesn't hold, and those that it holds
unheld_bit : (u i : ℕ) → u < 256 → i < 16 → bit_at u i + bit_at (65535 - u) i ≡ 1
unheld_bit u i below low = complement_bit 16 u i (omega (arith, below)) low

apart : (u i : ℕ) → u < 256 → bit_at u i + bit_at (65535 - u) i ≤ 1
apart u i below = elim (cases_lt i 16) [
  | inl low ↦ omega (arith, unheld_bit u i below low)
  | inr high ↦ omega (arith, bit_at_above u 16 i (omega (arith, below)) high, bit_at_above (65535 - u) 16 i (omega arith) high)
]

within_union : (a u : ℕ) → min (max a u) u ≡ u
within_union a u = omega arith

pub gained : (a u : ℕ) → bit_and (bit_or a u) u ≡ u
gained a u = same_from_bits (bit_and (bit_or a u) u) u (λ i.
    bit_at_and (bit_or a u) u i ∙ ap (λ b. min b (bit_at u i)) (bit_at_or a u i) ∙ within_union (bit_at a i) (bit_at u i))

none_of : (o h u : ℕ) → u + h ≤ 1 → min (min o h) u ≡ 0
none_of o h u le = omega (arith, le)

pub lost : (o u : ℕ) → u < 256 → bit_and (bit_and o (65535 - u)) u ≡ 0
lost o u below = same_from_bits (bit_and (bit_and o (65535 - u)) u) 0 (λ i.
    bit_at_and (bit_and o (65535 - u)) u i ∙ ap (λ b. min b (bit_at u i)) (bit_at_and o (65535 - u) i)
    ∙ none_of (bit_at o i) (bit_at (65535 - u) i) (bit_at u i) (apart u i below) ∙ sym (bit_at-zero i))

-- a number is another one in the bits that a register holds
abbrev pub AgreesBeside : (unheld r x : ℕ) → Type 0
AgreesBeside unheld r x = (i : ℕ) → bit_at unheld i ≡ 0 → bit_at r i ≡ bit_at x i

-- the word with other bits where the register doesn't hold them
abbrev filled : (w h r u : ℕ) → ℕ
filled w h r u = bit_or (bit_and w h) (bit_and r u)

filled_bit : (w h r u i : ℕ) → bit_at (filled w h r u) i ≡ max (min (bit_at w i) (bit_at h i)) (min (bit_at r i) (bit_at u i))
filled_bit w h r u i =
    bit_at_or (bit_and w h) (bit_and r u) i
    ∙ ap (λ b. max b (bit_at (bit_and r u) i)) (bit_at_and w h i)
    ∙ ap (max (min (bit_at w i) (bit_at h i))) (bit_at_and r u i)

keeps_held : (w h r u : ℕ) → u + h ≤ 1 → min (max (min w h) (min r u)) h ≡ min w h
keeps_held w zero r u le = omega arith
keeps_held w (suc h) r u le = let none : u ≡ 0 = omega (arith, le) in rw none (omega arith)

filled_held : (w r u : ℕ) → u < 256 → bit_and (filled w (65535 - u) r u) (65535 - u) ≡ bit_and w (65535 - u)
filled_held w r u below =
    let h = 65535 - u in
    same_from_bits (bit_and (filled w h r u) h) (bit_and w h) (λ i.
    bit_at_and (filled w h r u) h i ∙ ap (λ b. min b (bit_at h i)) (filled_bit w h r u i)
    ∙ keeps_held (bit_at w i) (bit_at h i) (bit_at r i) (bit_at u i) (apart u i below) ∙ sym (bit_at_and w h i))

-- of one bit: what the masks make of the filled word
abbrev made_bit : (w h r u a o : ℕ) → ℕ
made_bit w h r u a o = max (min (max (min w h) (min r u)) (max a u)) (min o h)

bit_held : (w r a o : ℕ) → w < 2 → o < 2 → max (min w a) o ≡ r → made_bit w 1 r 0 a o ≡ r
bit_held w r a o wb ob is =
    let one : max (min w 1) (min r 0) ≡ w = omega (arith, wb) in
    let two : max a 0 ≡ a = omega arith in
    let three : min o 1 ≡ o = omega (arith, ob) in
    ap (λ n. max (min n (max a 0)) (min o 1)) one ∙ ap (λ n. max (min w n) (min o 1)) two ∙ ap (max (min w a)) three ∙ is

bit_unheld : (w r a o : ℕ) → r < 2 → a < 2 → made_bit w 0 r 1 a o ≡ r
bit_unheld w r a o rb ab =
    let one : max (min w 0) (min r 1) ≡ r = omega (arith, rb) in
    let two : max a 1 ≡ 1 = omega (arith, ab) in
    let three : min o 0 ≡ 0 = omega arith in
    let four : min r 1 ≡ r = omega (arith, rb) in
    let five : max r 0 ≡ r = omega arith in
    ap (λ n. max (min n (max a 1)) (min o 0)) one ∙ ap (λ n. max (min r n) (min o 0)) two ∙ ap (max (min r 1)) three ∙ ap (λ n. max n 0) four ∙ five

bit_past : (w h r u a o : ℕ) → h ≡ 0 → u ≡ 0 → r ≡ 0 → made_bit w h r u a o ≡ r
bit_past w h r u a o hz uz rz =
    let one : max (min w 0) (min 0 0) ≡ 0 = omega arith in
    let two : min 0 (max a 0) ≡ 0 = omega arith in
    let three : max 0 (min o 0) ≡ 0 = omega arith in
    rw (hz, uz, rz) (ap (λ n. max (min n (max a 0)) (min o 0)) one ∙ ap (λ n. max n (min o 0)) two ∙ three)

bit_either : (w h r u a o x : ℕ) → w < 2 → r < 2 → a < 2 → o < 2 → u + h ≡ 1 → x ≡ max (min w a) o → (u ≡ 0 → r ≡ x)
    → made_bit w h r u a o ≡ r
bit_either w h r zero a o x wb rb ab ob parts is same =
    let one : h ≡ 1 = omega (arith, parts) in
    subst (λ n. made_bit w n r 0 a o ≡ r) (sym one) (bit_held w r a o wb ob (sym is ∙ sym (same refl)))
bit_either w h r (suc u) a o x wb rb ab ob parts is same =
    let one : h ≡ 0 = omega (arith, parts) in
    let two : suc u ≡ 1 = omega (arith, parts) in
    subst (λ n. made_bit w h r n a o ≡ r) (sym two) (subst (λ n. made_bit w n r 1 a o ≡ r) (sym one) (bit_unheld w r a o rb ab))

made_bits : (w h r u a o i : ℕ) → bit_at (bit_or (bit_and (filled w h r u) (bit_or a u)) (bit_and o h)) i
    ≡ made_bit (bit_at w i) (bit_at h i) (bit_at r i) (bit_at u i) (bit_at a i) (bit_at o i)
made_bits w h r u a o i =
    let word = filled w h r u in
    bit_at_or (bit_and word (bit_or a u)) (bit_and o h) i
    ∙ ap (λ b. max b (bit_at (bit_and o h) i)) (bit_at_and word (bit_or a u) i)
    ∙ ap (λ b. max (min b (bit_at (bit_or a u) i)) (bit_at (bit_and o h) i)) (filled_bit w h r u i)
    ∙ ap (λ b. max (min (max (min (bit_at w i) (bit_at h i)) (min (bit_at r i) (bit_at u i))) b) (bit_at (bit_and o h) i)) (bit_at_or a u i)
    ∙ ap (max (min (max (min (bit_at w i) (bit_at h i)) (min (bit_at r i) (bit_at u i))) (max (bit_at a i) (bit_at u i)))) (bit_at_and o h i)

filled_is : (w r u a o x : ℕ) → u < 256 → r < 256 → x ≡ bit_or (bit_and w a) o → AgreesBeside u r x
    → bit_or (bit_and (filled w (65535 - u) r u) (bit_or a u)) (bit_and o (65535 - u)) ≡ r
filled_is w r u a o x below small is same =
    let h = 65535 - u in
    same_from_bits (bit_or (bit_and (filled w h r u) (bit_or a u)) (bit_and o h)) r (λ i.
    let x_bit : bit_at x i ≡ max (min (bit_at w i) (bit_at a i)) (bit_at o i) =
    ap (λ n. bit_at n i) is ∙ bit_at_or (bit_and w a) o i ∙ ap (λ b. max b (bit_at o i)) (bit_at_and w a i) in
    made_bits w h r u a o i ∙ elim (cases_lt i 16) [
      | inl low ↦ bit_either (bit_at w i) (bit_at h i) (bit_at r i) (bit_at u i) (bit_at a i) (bit_at o i) (bit_at x i)
          (bit_at-lt w i) (bit_at-lt r i) (bit_at-lt a i) (bit_at-lt o i) (unheld_bit u i below low) x_bit (same i)
      | inr high ↦ bit_past (bit_at w i) (bit_at h i) (bit_at r i) (bit_at u i) (bit_at a i) (bit_at o i)
          (bit_at_above h 16 i (omega arith) high) (bit_at_above u 16 i (omega (arith, below)) high) (bit_at_above r 16 i (omega (arith, small)) high)
    ])

-- What a register that holds some bits alone may be read as came from itself, if the written number did.
pub own_came : (f : Suspended) (unheld r x : ℕ) (entry : Entry) → unheld < 256 → f.held entry.place ≡ 65535 - unheld → r < 256
    → AgreesBeside unheld r x
    → (w : ℕ) × Reads f entry.place w × (x ≡ bit_or (bit_and w entry.and) entry.or)
    → (w : ℕ) × Reads f entry.place w × (r ≡ bit_or (bit_and w (own_masks unheld entry).and) (own_masks unheld entry).or)
own_came f unheld r x entry unheld_below at small same (w, (below, agrees), is) =
    let held = 65535 - unheld in
    let word = filled w held r unheld in
    let narrow : bit_and w held < 65536 = omega (arith, and_le_l w held, below) in
    let others : bit_and r unheld < 65536 = omega (arith, and_le_l r unheld, small) in (
      word,
      (
        or_lt 16 (bit_and w held) (bit_and r unheld) narrow others,
        subst (λ h. bit_and word h ≡ bit_and (f.number entry.place) h) (sym at)
            (filled_held w r unheld unheld_below ∙ subst (λ h. bit_and w h ≡ bit_and (f.number entry.place) h) at agrees),
      ),
      sym (filled_is w r unheld entry.and entry.or x unheld_below small is same),
    )

-- WHAT REGISTERS ARE READ AS

-- What a register that holds some bits alone may be read as, behind a write of a number: other bits stand beside those that
-- it holds.
pub record IsRead (unheld : ℕ) (others : List ℕ) (x r : ℕ) : Type 0 where
  pub below : r < 256
  pub beside : AgreesBeside unheld r x
  pub other : (t : ℕ) × Contains others t × (r ≡ bit_or (bit_and x (255 - unheld)) t)

abbrev SameAt : (u r x : ℕ) → ℕ → Type 0
SameAt u r x i = bit_at u i ≡ 0 → bit_at r i ≡ bit_at x i

-- from the bits of bytes
beside : (u r x : ℕ) → r < 256 → x < 256 → ((i : ℕ) → i < 8 → SameAt u r x i) → AgreesBeside u r x
beside u r x rb xb each i = elim (cases_lt i 8) [
  | inl low ↦ each i low
  | inr high ↦ λ none. bit_at_above r 8 i (omega (arith, rb)) high ∙ sym (bit_at_above x 8 i (omega (arith, xb)) high)
]

abbrev JoinedAt : (r x held t : ℕ) → ℕ → Type 0
JoinedAt r x held t i = bit_at r i ≡ max (min (bit_at x i) (bit_at held i)) (bit_at t i)

joined_is : (r x held t : ℕ) → r < 256 → x < 256 → t < 256 → ((i : ℕ) → i < 8 → JoinedAt r x held t i) → r ≡ bit_or (bit_and x held) t
joined_is r x held t rb xb tb each =
    let narrow : bit_and x held < 256 = omega (arith, and_le_l x held, xb) in
    same_from_bits_below 8 r (bit_or (bit_and x held) t) rb (or_lt 8 (bit_and x held) t narrow tb)
    (λ i low. each i low ∙ sym (bit_at_or (bit_and x held) t i ∙ ap (λ b. max b (bit_at t i)) (bit_at_and x held i)))

abbrev pub ie_others : List ℕ
ie_others = 0 ∷ 64 ∷ []

abbrev pub ip_others : List ℕ
ip_others = 0 ∷ 64 ∷ 128 ∷ 192 ∷ []

ie_other : (bit : ℕ) → bit < 2 → Contains ie_others (64 * bit)
ie_other zero h = (0, omega arith, refl)
ie_other (suc zero) h = (1, omega arith, refl)
ie_other (suc (suc n)) h = absurd (omega (arith, h))

ip_other : (bits : ℕ) → bits < 4 → Contains ip_others (64 * bits)
ip_other zero h = (0, omega arith, refl)
ip_other (suc zero) h = (1, omega arith, refl)
ip_other (suc (suc zero)) h = (2, omega arith, refl)
ip_other (suc (suc (suc zero))) h = (3, omega arith, refl)
ip_other (suc (suc (suc (suc n)))) h = absurd (omega (arith, h))

pub ie_is : (x bit : ℕ) → x < 256 → bit < 2 → IsRead 64 ie_others x (x % 64 + x / 128 * 128 + 64 * bit)
ie_is x bit h b =
    let r = x % 64 + x / 128 * 128 + 64 * bit in
    let below : r < 256 = omega (arith, h, b) in
    let joined = joined_is r x (255 - 64) (64 * bit) below h (omega (arith, b)) (of_eight (JoinedAt r x (255 - 64) (64 * bit))
    (omega (arith, h, b)) (omega (arith, h, b)) (omega (arith, h, b)) (omega (arith, h, b))
    (omega (arith, h, b)) (omega (arith, h, b)) (omega (arith, h, b)) (omega (arith, h, b))) in
    record {
      below = below;
      beside = beside 64 r x below h (of_eight (SameAt 64 r x)
          (λ e. omega (arith, h, b)) (λ e. omega (arith, h, b)) (λ e. omega (arith, h, b)) (λ e. omega (arith, h, b))
          (λ e. omega (arith, h, b)) (λ e. omega (arith, h, b)) (λ e. absurd (omega (arith, e))) (λ e. omega (arith, h, b)));
      other = (64 * bit, ie_other bit b, joined);
    }

pub ip_is : (x bits : ℕ) → x < 256 → bits < 4 → IsRead 192 ip_others x (x % 64 + 64 * bits)
ip_is x bits h b =
    let r = x % 64 + 64 * bits in
    let below : r < 256 = omega (arith, b) in
    let joined = joined_is r x (255 - 192) (64 * bits) below h (omega (arith, b)) (of_eight (JoinedAt r x (255 - 192) (64 * bits))
    (omega (arith, h, b)) (omega (arith, h, b)) (omega (arith, h, b)) (omega (arith, h, b))
    (omega (arith, h, b)) (omega (arith, h, b)) (omega (arith, h, b)) (omega (arith, h, b))) in
    record {
      below = below;
      beside = beside 192 r x below h (of_eight (SameAt 192 r x)
          (λ e. omega (arith, h, b)) (λ e. omega (arith, h, b)) (λ e. omega (arith, h, b)) (λ e. omega (arith, h, b))
          (λ e. omega (arith, h, b)) (λ e. omega (arith, h, b)) (λ e. absurd (omega (arith, e))) (λ e. absurd (omega (arith, e))));
      other = (64 * bits, ip_other bits b, joined);
    }

pub psw_beside : (x : ℕ) → x < 256 → AgreesBeside 3 (x / 4 * 4) x
psw_beside x h = beside 3 (x / 4 * 4) x (omega (arith, h)) h (of_eight (SameAt 3 (x / 4 * 4) x)
    (λ e. absurd (omega (arith, e))) (λ e. absurd (omega (arith, e))) (λ e. omega (arith, h)) (λ e. omega (arith, h))
    (λ e. omega (arith, h)) (λ e. omega (arith, h)) (λ e. omega (arith, h)) (λ e. omega (arith, h)))

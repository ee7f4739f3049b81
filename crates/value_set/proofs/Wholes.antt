-- The set of all numbers: what is added to it or taken from it leaves it, and all bytes are the same run of words.
use Rattle.std.proofs.Common.{◌≡◌, ℕ, ◌+◌, ◌*◌, ◌%◌, ◌<◌, get_or, sym, ◌∙◌, ap, subst, arith}
use Rattle.std.proofs.lemmas.List.Elements.{Contains-get_or}
use Rattle.std.proofs.Math.Nat.{mod-lt}
use Rattle.value_set.specs.declared.form.Form.{Form}
use Rattle.value_set.specs.Form.{members, Has, IsNormal, above, gather}
use Rattle.value_set.specs.Summing.{whole, add, sub, signed}
use Rattle.value_set.specs.declared.summing.Sign.{Sign}
use Rattle.value_set.specs.declared.summing.Sign.TheVariants.{Plus, Minus}
use Rattle.value_set.specs.StepFacts.{steps_from}
use Rattle.value_set.proofs.Members.{steps_has}
use Rattle.value_set.proofs.Rounds.{mod_low, above_below, above_back, above_sum}
use Rattle.value_set.proofs.Answering.{member_below}
use Rattle.value_set.proofs.Sums.{add_normal, add_has, sub_normal, sub_has, some_members}
use Rattle.value_set.proofs.Equal.{same_members}
use Rattle.value_set.proofs.Bounds.{gather_below}
use Rattle.value_set.proofs.BytesAsWords.{words_normal, words_hold}
use Rattle.value_set.proofs.Spans.{modulus_positive}

whole_has : (m v : ℕ) → v < m → Has m (whole m) v
whole_has m v low = steps_has m 0 1 m v (v, low, (let e : v ≡ 0 + v * 1 = omega arith in sym (mod_low v m low) ∙ ap (λ (n : ℕ). n % m) e))

-- any member of a set
a_member : ℕ → Form → ℕ
a_member m set = get_or (members m set) 0 0

has_member : (m : ℕ) (set : Form) → IsNormal m set → Has m set (a_member m set)
unfolding a_member
has_member m set n = Contains-get_or (members m set) 0 0 (let some = some_members m set n in omega (arith, some))

-- a normal set with all numbers
all_is_whole : (m : ℕ) (a set : Form) → IsNormal m a → a ≡ whole m → IsNormal m set → ((v : ℕ) → v < m → Has m set v) → a ≡ set
all_is_whole m a set n is k all = same_members m a set n k
    (λ v h. all v (member_below m v a n h))
    (λ v h. subst (λ (s : Form). Has m s v) (sym is) (whole_has m v (member_below m v set k h)))

in_whole : (m v : ℕ) (a : Form) → a ≡ whole m → v < m → Has m a v
in_whole m v a is low = subst (λ (s : Form). Has m s v) (sym is) (whole_has m v low)

-- what is made of a whole set and another is that set, where each number is reached from one of its members
stays_whole : (m : ℕ) (a b made : Form) → IsNormal m a → IsNormal m b → a ≡ whole m → IsNormal m made
    → ((v w : ℕ) → v < m → w < m → Has m b w → (x : ℕ) × (x < m) × (Has m a x → Has m made v)) → a ≡ made
stays_whole m a b made n k is normal reach = all_is_whole m a made n is normal (λ v low.
    let there = has_member m b k in
    let found = reach v (a_member m b) low (member_below m (a_member m b) b k there) there in
    found.2 (in_whole m found.0 a is found.1))

pub whole_and : (m : ℕ) (a b : Form) → IsNormal m a → IsNormal m b → a ≡ whole m → a ≡ add m a b
whole_and m a b n k is = stays_whole m a b (add m a b) n k is (add_normal m a b n k) (λ v w low small there.
    let x = above m w v in
    let sum : (x + w) % m ≡ v = ap (λ (s : ℕ). s % m) (let e : x + w ≡ w + x = omega arith in e) ∙ above_back m w v small low in
    (x, above_below m w v (modulus_positive m a n), λ has. subst (λ (s : ℕ). Has m (add m a b) s) sum (add_has m a b x w n k has there)))

pub and_whole : (m : ℕ) (a b : Form) → IsNormal m a → IsNormal m b → b ≡ whole m → b ≡ add m a b
and_whole m a b n k is = stays_whole m b a (add m a b) k n is (add_normal m a b n k) (λ v w low small there.
    let y = above m w v in
    (y, above_below m w v (modulus_positive m a n), λ has. subst (λ (s : ℕ). Has m (add m a b) s) (above_back m w v small low) (add_has m a b w y n k there has)))

pub whole_less : (m : ℕ) (a b : Form) → IsNormal m a → IsNormal m b → a ≡ whole m → a ≡ sub m a b
whole_less m a b n k is = stays_whole m a b (sub m a b) n k is (sub_normal m a b n k) (λ v w low small there.
    let x = (w + v) % m in
    (x, mod-lt (w + v) {m = m} (modulus_positive m a n), λ has. subst (λ (s : ℕ). Has m (sub m a b) s) (above_sum m w v small low) (sub_has m a b x w n k has there)))

pub less_whole : (m : ℕ) (a b : Form) → IsNormal m a → IsNormal m b → b ≡ whole m → b ≡ sub m a b
less_whole m a b n k is = stays_whole m b a (sub m a b) k n is (sub_normal m a b n k) (λ v w low small there.
    let y = above m v w in
    let below = above_below m v w (modulus_positive m a n) in
    let sum : w ≡ (y + v) % m = sym (above_back m v w low small) ∙ ap (λ (s : ℕ). s % m) (let e : v + y ≡ y + v = omega arith in e) in
    let back : above m y w ≡ v = ap (λ (s : ℕ). above m y s) sum ∙ above_sum m y v below low in
    (y, below, λ has. subst (λ (s : ℕ). Has m (sub m a b) s) back (sub_has m a b w y n k there has)))

pub whole_signed : (m : ℕ) (sign : Sign) (a b : Form) → IsNormal m a → IsNormal m b → a ≡ whole m → a ≡ signed m sign a b
whole_signed m Plus = whole_and m
whole_signed m Minus = whole_less m

pub signed_whole : (m : ℕ) (sign : Sign) (a b : Form) → IsNormal m a → IsNormal m b → b ≡ whole m → b ≡ signed m sign a b
signed_whole m Plus = and_whole m
signed_whole m Minus = less_whole m

-- ---- all bytes as words

wide_normal : (set : Form) → set ≡ whole 256 → IsNormal 65536 set
wide_normal set is = subst (λ (s : Form). IsNormal 65536 s) (sym is)
    (record { long = omega arith; strides = omega arith; below = omega arith; once = omega arith; least = λ e. absurd (omega (arith, e)) })

wide_has : (v : ℕ) (set : Form) → set ≡ whole 256 → v < 256 → Has 65536 set v
wide_has v set is low = subst (λ (s : Form). Has 65536 s v) (sym is)
    (steps_has 65536 0 1 256 v (v, low, (let e : v ≡ 0 + v * 1 = omega arith in sym (mod_low v 65536 (omega (arith, low))) ∙ ap (λ (n : ℕ). n % 65536) e)))

wide_low : (v : ℕ) (set : Form) → set ≡ whole 256 → Has 65536 set v → v < 256
wide_low v set is h =
    let run = steps_from 65536 0 1 256 v (subst (λ (s : Form). Has 65536 s v) is h) in
    let e : 0 + run.0 * 1 ≡ run.0 = omega arith in
    let plain : v ≡ run.0 = run.2 ∙ ap (λ (n : ℕ). n % 65536) e ∙ mod_low run.0 65536 (omega (arith, run.1)) in
    omega (arith, plain, run.1)

pub bytes_same : (set : Form) → IsNormal 256 set → set ≡ whole 256 → set ≡ gather 65536 (members 256 set)
bytes_same set n is = same_members 65536 set (gather 65536 (members 256 set)) (wide_normal set is) (words_normal set n)
    (λ v h. words_hold set v n (in_whole 256 v set is (wide_low v set is h)))
    (λ v h. wide_has v set is (gather_below 256 65536 (members 256 set) (omega arith) (λ w there. member_below 256 w set n there) v h))

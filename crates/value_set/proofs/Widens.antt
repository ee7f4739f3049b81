-- Widening holds both sets, in the one form.
use Rattle.std.proofs.Common.{◌≡◌, ℕ, ◌+◌, ◌-◌, ◌*◌, ◌%◌, ◌/◌, ◌<◌, ◌≤◌, Bool, true, false, List, [], ◌∷◌, length, refl, sym, ◌∙◌, ap, subst, inl, inr, arith, eqb, Option, Some, None}
use Prim.Native.Nat.{◌∣◌}
use Rattle.std.specs.Prelude.{◌||◌, unwrap_or, option_map, nat_le, map}
use Rattle.std.specs.List.{fold, All}
use Rattle.std.proofs.lemmas.List.Elements.{All-head, All-tail}
use Rattle.std.proofs.lemmas.List.{length-map}
use Rattle.std.proofs.lemmas.Bool.{cases_lt, cases_eq, cases_Bool, eqb-true, eqb-false, eq-eqb, ne_eqb, lt-leb, le-leb, lt-ltb, le-ltb, or_parts, or_left, or_right, or_from, leb-false}
use Rattle.std.proofs.Math.Nat.{dvd-zero, dvd-mul_left, div-mul-le_self, dvd-add, mul-le-mul_right}
use Rattle.value_set.specs.declared.form.Progression.{Progression}
use Rattle.value_set.specs.declared.form.Form.{Form}
use Rattle.value_set.specs.Form.{make, Has, Includes, IsNormal, Fits, greater, span, class}
use Rattle.value_set.specs.Joining.{is_within, join}
use Rattle.value_set.specs.Widening.{nearer_below, mark_at_most, lesser, nearer_above, mark_above, last_of, down_to, up_to, first_widened, last_widened, widened_between, widen_span, widen}
use Rattle.value_set.proofs.Members.{InRun}
use Rattle.value_set.proofs.Making.{fits_to, make_normal}
use Rattle.value_set.proofs.Spans.{span_is, span_has, class_normal, class_reached}
use Rattle.value_set.proofs.Joins.{IsRun, InSpan, at_multiple, includes_from_test, join_includes_first, join_includes_second, join_normal}

-- ---- marks

abbrev pub AllBelow : ℕ → List ℕ → Type 0
AllBelow m [] = Unit {0}
AllBelow m (x ∷ xs) = (x < m) × AllBelow m xs

-- a mark that was found lies above the bound and below m
abbrev FoundAbove : (m bound : ℕ) → Option ℕ → Type 0
FoundAbove m bound None = Unit {0}
FoundAbove m bound (Some mark) = (bound < mark) × (mark < m)

lesser_cases : (a b : ℕ) (P : ℕ → Type 0) → P a → P b → P (lesser a b)
lesser_cases a b P p q = elim (cases_lt b a) [ inl low ↦ rw (lt-ltb b a low) q | inr high ↦ rw (le-ltb b a high) p ]

held_above : (m bound mark : ℕ) (best : Option ℕ) → FoundAbove m bound best → bound < mark → mark < m
    → (bound < unwrap_or best mark) × (unwrap_or best mark < m)
held_above m bound mark None was high low = (high, low)
held_above m bound mark (Some b) was high low = was

nearer_above_is : (m bound : ℕ) (best : Option ℕ) (mark : ℕ) → FoundAbove m bound best → mark < m
    → FoundAbove m bound (nearer_above bound best mark)
nearer_above_is m bound best mark was low = elim (cases_lt bound mark) [
  | inl high ↦ rw (lt-ltb bound mark high) (lesser_cases (unwrap_or best mark) mark (λ n. (bound < n) × (n < m)) (held_above m bound mark best was high low) (high, low))
  | inr under ↦ rw (le-ltb bound mark under) was
]

above_found : (m bound : ℕ) (best : Option ℕ) (marks : List ℕ) → FoundAbove m bound best → AllBelow m marks
    → FoundAbove m bound (fold (nearer_above bound) best marks)
above_found m bound best [] was low = was
above_found m bound best (x ∷ xs) was low = above_found m bound (nearer_above bound best x) xs (nearer_above_is m bound best x was low.0) low.1

pub mark_above_found : (m bound mark : ℕ) (marks : List ℕ) → AllBelow m marks → mark_above bound marks ≡ Some mark
    → (bound < mark) × (mark < m)
mark_above_found m bound mark marks low is = subst (λ (found : Option ℕ). FoundAbove m bound found) is (above_found m bound None marks tt low)

-- a mark that was found is at most the bound
abbrev FoundBelow : (bound : ℕ) → Option ℕ → Type 0
FoundBelow bound None = Unit {0}
FoundBelow bound (Some mark) = mark ≤ bound

greater_at_most : (a b bound : ℕ) → a ≤ bound → b ≤ bound → greater a b ≤ bound
greater_at_most a b bound h k = elim (cases_lt a b) [ inl low ↦ rw (lt-ltb a b low) k | inr high ↦ rw (le-ltb a b high) h ]

held_below : (bound : ℕ) (best : Option ℕ) → FoundBelow bound best → unwrap_or best 0 ≤ bound
held_below bound None was = omega arith
held_below bound (Some b) was = was

nearer_below_is : (bound : ℕ) (best : Option ℕ) (mark : ℕ) → FoundBelow bound best → FoundBelow bound (nearer_below bound best mark)
nearer_below_is bound best mark was = elim (cases_lt bound mark) [
  | inl high ↦ rw (lt-ltb bound mark high) was
  | inr under ↦ rw (le-ltb bound mark under) (greater_at_most (unwrap_or best 0) mark bound (held_below bound best was) under)
]

below_found : (bound : ℕ) (best : Option ℕ) (marks : List ℕ) → FoundBelow bound best
    → FoundBelow bound (fold (nearer_below bound) best marks)
below_found bound best [] was = was
below_found bound best (x ∷ xs) was = below_found bound (nearer_below bound best x) xs (nearer_below_is bound best x was)

pub mark_at_most_found : (bound mark : ℕ) (marks : List ℕ) → Some mark ≡ mark_at_most bound marks → mark ≤ bound
mark_at_most_found bound mark marks is = subst (λ (found : Option ℕ). FoundBelow bound found) (sym is) (below_found bound None marks tt)

pub AllBelow_from : {X : Type 0} (f : X → ℕ) (m : ℕ) (xs : List X) → All (λ n. f n < m) xs → AllBelow m (map f xs)
AllBelow_from f m [] h = tt
AllBelow_from f m (x ∷ xs) h = (All-head (λ n. f n < m) x xs h, AllBelow_from f m xs (All-tail (λ n. f n < m) x xs h))

pub AllBelow_all : (m : ℕ) (xs : List ℕ) → All (λ mark. mark < m) xs → AllBelow m xs
AllBelow_all m [] h = tt
AllBelow_all m (x ∷ xs) h = (All-head (λ n. n < m) x xs h, AllBelow_all m xs (All-tail (λ n. n < m) x xs h))

-- ---- down and up in steps

down_fact : (base stride mark : ℕ) → (down_to base stride mark ≤ base) × (stride ∣ base - down_to base stride mark)
down_fact base stride mark =
    let most = div-mul-le_self (base - mark) stride in
    let back : (base - mark) / stride * stride ≡ base - down_to base stride mark = omega (arith, most) in
    (omega arith, subst (λ (n : ℕ). stride ∣ n) back (dvd-mul_left stride ((base - mark) / stride)))

up_fact : (last stride mark : ℕ) → last < mark → (last ≤ up_to last stride mark) × (up_to last stride mark < mark)
up_fact last stride mark h = let most = div-mul-le_self (mark - 1 - last) stride in (omega arith, omega (arith, most))

down_mark : (base stride first : ℕ) (found : Option ℕ) → option_map (down_to base stride) found ≡ Some first
    → (first ≤ base) × (stride ∣ base - first)
down_mark base stride first None h = cc h
down_mark base stride first (Some mark) h = let e : down_to base stride mark ≡ first = cc h in
    subst (λ (n : ℕ). (n ≤ base) × (stride ∣ base - n)) e (down_fact base stride mark)

up_mark : (m last stride top : ℕ) (found : Option ℕ) → ((mark : ℕ) → found ≡ Some mark → (last < mark) × (mark < m))
    → option_map (up_to last stride) found ≡ Some top → (last ≤ top) × (top < m)
up_mark m last stride top None high h = cc h
up_mark m last stride top (Some mark) high h =
    let e : up_to last stride mark ≡ top = cc h in
    let fact = up_fact last stride mark (high mark refl).0 in
    (omega (arith, e, fact.0), omega (arith, e, fact.1, (high mark refl).1))

pub first_cases : (run held : Progression) (marks : List ℕ) (first : ℕ) → first_widened run held marks ≡ Some first
    → (first ≤ run.base) × (run.stride ∣ run.base - first)
unfolding first_widened
first_cases run held marks first h = elim (cases_eq run.base held.base) [
  | inl same ↦ let e : Some run.base ≡ Some first = rw (eq-eqb run.base held.base same) at h in
      let f : first ≡ run.base = cc e in
      let none : 0 ≡ run.base - first = omega (arith, f) in
      (omega (arith, f), subst (λ (n : ℕ). run.stride ∣ n) none (dvd-zero run.stride))
  | inr other ↦ down_mark run.base run.stride first (mark_at_most run.base marks) (rw (ne_eqb run.base held.base other) at h)
]

last_cases : (m : ℕ) (run held : Progression) (marks : List ℕ) (last : ℕ) → AllBelow m marks → last_of run < m
    → last_widened m run held marks ≡ Some last
    → (last_of run ≤ last) × (last < m)
unfolding last_widened
last_cases m run held marks last low once h = elim (cases_eq (last_of run) (last_of held % m)) [
  | inl same ↦ let e : Some (last_of run) ≡ Some last = rw (eq-eqb (last_of run) (last_of held % m) same) at h in
      let f : last ≡ last_of run = cc e in (omega (arith, f), omega (arith, f, once))
  | inr other ↦ up_mark m (last_of run) run.stride last (mark_above (last_of run) marks) (λ mark is. mark_above_found m (last_of run) mark marks low is) (rw (ne_eqb (last_of run) (last_of held % m) other) at h)
]

-- ---- the widened run

-- Lower in steps and higher at the end, it still has each number.
wider_has : (m base stride count first last v : ℕ) → base + (count - 1) * stride < m → first ≤ base
    → stride ∣ base - first → base + (count - 1) * stride ≤ last → last < m
    → InRun m base stride count v → Has m (make m first stride ((last - first) / stride + 1)) v
wider_has m base stride count first last v once low div high top (i, short, is) =
    let most = mul-le-mul_right {m = i} {n = count - 1} stride (omega (arith, short)) in
    let sum : base + i * stride ≡ first + (base - first + i * stride) = omega arith in
    at_multiple m first stride (last - first) (base - first + i * stride) v (omega (arith, once)) (omega (arith, top))
    (dvd-add stride div (dvd-mul_left stride i)) (omega (arith, most, high)) (is ∙ ap (λ (n : ℕ). n % m) sum)

class_of_run : (m : ℕ) (run : Progression) (v : ℕ) → 0 < m → InSpan m run v → Has m (class m run.base run.stride) v
class_of_run m run v pos (i, short, is) = class_reached m run.base run.stride v (i * run.stride) pos is (dvd-mul_left run.stride i)

between_has : (m : ℕ) (run : Progression) (v : ℕ) (first last : Option ℕ) → IsRun m run → last_of run < m
    → ((n : ℕ) → first ≡ Some n → (n ≤ run.base) × (run.stride ∣ run.base - n)) → ((n : ℕ) → last ≡ Some n → (last_of run ≤ n) × (n < m))
    → InSpan m run v → Has m (widened_between m run first last) v
between_has m run v None last s once low high h = class_of_run m run v (let b = s.below in omega (arith, b)) h
between_has m run v (Some first) None s once low high h = class_of_run m run v (let b = s.below in omega (arith, b)) h
between_has m run v (Some first) (Some last) s once low high h =
    let l = low first refl in let t = high last refl in wider_has m run.base run.stride run.count first last v once l.0 l.1 t.0 t.1 h

between_normal : (m : ℕ) (run : Progression) (first last : Option ℕ) → 0 < m → ((n : ℕ) → last ≡ Some n → n < m)
    → IsNormal m (widened_between m run first last)
between_normal m run None last pos high = class_normal m run.base run.stride pos
between_normal m run (Some first) None pos high = class_normal m run.base run.stride pos
between_normal m run (Some first) (Some last) pos high = let t = high last refl in
    make_normal m first run.stride ((last - first) / run.stride + 1) (fits_to m run.stride (last - first) (omega (arith, t)))

pub widen_span-class : (m : ℕ) (run held : Progression) (marks : List ℕ)
    → ((eqb (length marks) 0) || nat_le m (last_of run)) ≡ true
    → widen_span m run held marks ≡ class m run.base run.stride
unfolding widen_span
widen_span-class m run held marks h = rw h refl

pub widen_span-between : (m : ℕ) (run held : Progression) (marks : List ℕ) → ((eqb (length marks) 0) || nat_le m (last_of run)) ≡ false
    → widen_span m run held marks ≡ widened_between m run (first_widened run held marks) (last_widened m run held marks)
unfolding widen_span
widen_span-between m run held marks h = rw h refl

pub widen_span_has : (m : ℕ) (run held : Progression) (marks : List ℕ) (v : ℕ) → IsRun m run → AllBelow m marks
    → InSpan m run v → Has m (widen_span m run held marks) v
widen_span_has m run held marks v s low h = elim (cases_Bool ((eqb (length marks) 0) || nat_le m (last_of run))) [
  | inl all ↦ rw (widen_span-class m run held marks all) (class_of_run m run v (let b = s.below in omega (arith, b)) h)
  | inr marked ↦ let once : last_of run < m = leb-false m (last_of run) (or_parts (eqb (length marks) 0) (nat_le m (last_of run)) marked).1 in
      rw (widen_span-between m run held marks marked) (between_has m run v (first_widened run held marks) (last_widened m run held marks) s once
      (λ n is. first_cases run held marks n is) (λ n is. last_cases m run held marks n low once is) h)
]

pub widen_span_normal : (m : ℕ) (run held : Progression) (marks : List ℕ) → 0 < m → AllBelow m marks
    → IsNormal m (widen_span m run held marks)
widen_span_normal m run held marks pos low = elim (cases_Bool ((eqb (length marks) 0) || nat_le m (last_of run))) [
  | inl all ↦ rw (widen_span-class m run held marks all) (class_normal m run.base run.stride pos)
  | inr marked ↦ let once : last_of run < m = leb-false m (last_of run) (or_parts (eqb (length marks) 0) (nat_le m (last_of run)) marked).1 in
      rw (widen_span-between m run held marks marked) (between_normal m run (first_widened run held marks) (last_widened m run held marks) pos
      (λ n is. (last_cases m run held marks n low once is).1))
]

pub widen-within : (m : ℕ) (held new : Form) (marks : List ℕ) → is_within m new held ≡ true → widen m held new marks ≡ held
unfolding widen
widen-within m held new marks h = rw h refl

pub widen-beyond : (m : ℕ) (held new : Form) (marks : List ℕ) → is_within m new held ≡ false
    → widen m held new marks ≡ widen_span m (span m (join m held new)) (span m held) marks
unfolding widen
widen-beyond m held new marks h = rw h refl

pub widen_cases : (m : ℕ) (held new : Form) (marks : List ℕ) (P : Form → Type 0) → (Includes m held new → P held)
    → P (widen_span m (span m (join m held new)) (span m held) marks)
    → P (widen m held new marks)
widen_cases m held new marks P kept wider = elim (cases_Bool (is_within m new held)) [
  | inl inside ↦ rw (widen-within m held new marks inside) (kept (includes_from_test m new held inside))
  | inr outside ↦ rw (widen-beyond m held new marks outside) wider
]

widened_has : (m : ℕ) (held new : Form) (marks : List ℕ) (v : ℕ) → IsNormal m held → IsNormal m new → AllBelow m marks
    → Has m (join m held new) v
    → Has m (widen_span m (span m (join m held new)) (span m held) marks) v
widened_has m held new marks v n k low h = let joined = join_normal m held new n k in
    widen_span_has m (span m (join m held new)) (span m held) marks v (span_is m (join m held new) joined) low (span_has m v (join m held new) joined h)

pub widen_includes_held : (m : ℕ) (held new : Form) (marks : List ℕ) → IsNormal m held → IsNormal m new
    → AllBelow m marks → Includes m (widen m held new marks) held
widen_includes_held m held new marks n k low = widen_cases m held new marks (λ set. Includes m set held) (λ inside v h. h)
    (λ v h. widened_has m held new marks v n k low (join_includes_first m held new n k v h))

pub widen_includes_new : (m : ℕ) (held new : Form) (marks : List ℕ) → IsNormal m held → IsNormal m new
    → AllBelow m marks → Includes m (widen m held new marks) new
widen_includes_new m held new marks n k low = widen_cases m held new marks (λ set. Includes m set new) (λ inside. inside)
    (λ v h. widened_has m held new marks v n k low (join_includes_second m held new n k v h))

pub widen_normal : (m : ℕ) (held new : Form) (marks : List ℕ) → IsNormal m held → AllBelow m marks → IsNormal m (widen m held new marks)
widen_normal m held new marks n low = let below = (span_is m held n).below in
    widen_cases m held new marks (λ set. IsNormal m set) (λ inside. n)
    (widen_span_normal m (span m (join m held new)) (span m held) marks (omega (arith, below)) low)

-- ---- as the code finds them

pub first_kept : (run held : Progression) (marks : List ℕ) → run.base ≡ held.base → Some run.base ≡ first_widened run held marks
unfolding first_widened
first_kept run held marks h = rw (eq-eqb run.base held.base h) refl

pub first_moved : (run held : Progression) (marks : List ℕ) (mark : ℕ) → (run.base ≡ held.base → ⊥)
    → Some mark ≡ mark_at_most run.base marks
    → Some (down_to run.base run.stride mark) ≡ first_widened run held marks
unfolding first_widened
first_moved run held marks mark h is = rw (ne_eqb run.base held.base h) (ap (λ (found : Option ℕ). option_map (down_to run.base run.stride) found) is)

pub first_missing : (run held : Progression) (marks : List ℕ) → (run.base ≡ held.base → ⊥)
    → None ≡ mark_at_most run.base marks → None ≡ first_widened run held marks
unfolding first_widened
first_missing run held marks h is = rw (ne_eqb run.base held.base h) (ap (λ (found : Option ℕ). option_map (down_to run.base run.stride) found) is)

pub last_kept : (m last held_last : ℕ) (run held : Progression) (marks : List ℕ) → last ≡ last_of run
    → held_last ≡ last_of held → last ≡ held_last % m → Some last ≡ last_widened m run held marks
unfolding last_widened
last_kept m last held_last run held marks a b h =
    let same : last_of run ≡ last_of held % m = sym a ∙ h ∙ ap (λ (n : ℕ). n % m) b in rw (eq-eqb (last_of run) (last_of held % m) same) (ap Some a)

other_last : (m last held_last : ℕ) (run held : Progression) → last ≡ last_of run → held_last ≡ last_of held
    → (last ≡ held_last % m → ⊥) → last_of run ≡ last_of held % m → ⊥
other_last m last held_last run held a b h same = h (a ∙ same ∙ ap (λ (n : ℕ). n % m) (sym b))

pub last_moved : (m last held_last mark : ℕ) (run held : Progression) (marks : List ℕ) → last ≡ last_of run
    → held_last ≡ last_of held → (last ≡ held_last % m → ⊥)
    → Some mark ≡ mark_above last marks → Some (up_to last run.stride mark) ≡ last_widened m run held marks
unfolding last_widened
last_moved m last held_last mark run held marks a b h is =
    rw (ne_eqb (last_of run) (last_of held % m) (other_last m last held_last run held a b h))
    (ap (λ (found : Option ℕ). option_map (up_to last run.stride) found) is ∙ ap (λ (n : ℕ). option_map (up_to n run.stride) (mark_above n marks)) a)

pub last_missing : (m last held_last : ℕ) (run held : Progression) (marks : List ℕ) → last ≡ last_of run
    → held_last ≡ last_of held → (last ≡ held_last % m → ⊥)
    → None ≡ mark_above last marks → None ≡ last_widened m run held marks
unfolding last_widened
last_missing m last held_last run held marks a b h is =
    rw (ne_eqb (last_of run) (last_of held % m) (other_last m last held_last run held a b h))
    (ap (λ (found : Option ℕ). option_map (up_to last run.stride) found) is ∙ ap (λ (n : ℕ). option_map (up_to n run.stride) (mark_above n marks)) a)

pub mark_above_seen : (m bound mark : ℕ) (marks : List ℕ) → AllBelow m marks → Some mark ≡ mark_above bound marks
    → (bound < mark) × (mark < m)
mark_above_seen m bound mark marks low is = mark_above_found m bound mark marks low (sym is)

pub unmarked : (m : ℕ) (run held : Progression) (marks : List ℕ) → length marks ≡ 0
    → class m run.base run.stride ≡ widen_span m run held marks
unmarked m run held marks h = sym (widen_span-class m run held marks (or_left (eqb (length marks) 0) (nat_le m (last_of run)) (eq-eqb (length marks) 0 h)))

pub round : (m last : ℕ) (run held : Progression) (marks : List ℕ) → last ≡ last_of run → m ≤ last
    → class m run.base run.stride ≡ widen_span m run held marks
round m last run held marks a h = sym (widen_span-class m run held marks (or_right (eqb (length marks) 0) (nat_le m (last_of run)) (le-leb m (last_of run) (omega (arith, a, h)))))

pub between : (m last : ℕ) (run held : Progression) (marks : List ℕ) (first final : Option ℕ) → (length marks ≡ 0 → ⊥)
    → last ≡ last_of run → last < m
    → first ≡ first_widened run held marks → final ≡ last_widened m run held marks
    → widened_between m run first final ≡ widen_span m run held marks
between m last run held marks first final some a h b c =
    ap (λ (n : Option ℕ). widened_between m run n final) b ∙ ap (λ (n : Option ℕ). widened_between m run (first_widened run held marks) n) c
    ∙ sym (widen_span-between m run held marks (or_from (eqb (length marks) 0) (nat_le m (last_of run)) (ne_eqb (length marks) 0 some) (lt-leb m (last_of run) (omega (arith, a, h)))))

pub first_missed : (m last : ℕ) (run held : Progression) (marks : List ℕ) → (length marks ≡ 0 → ⊥) → last ≡ last_of run → last < m
    → None ≡ first_widened run held marks → class m run.base run.stride ≡ widen_span m run held marks
first_missed m last run held marks some a h b = between m last run held marks None (last_widened m run held marks) some a h b refl

pub widened_fits : (m last first final : ℕ) (run held : Progression) (marks : List ℕ) → AllBelow m marks → last ≡ last_of run → last < m
    → Some first ≡ first_widened run held marks → Some final ≡ last_widened m run held marks
    → (first ≤ run.base) × (last ≤ final) × (final < m) × Fits m run.stride ((final - first) / run.stride + 1)
widened_fits m last first final run held marks low a h b c =
    let f = first_cases run held marks first (sym b) in
    let l = last_cases m run held marks final low (omega (arith, a, h)) (sym c) in
    (f.0, omega (arith, l.0, a), l.1, fits_to m run.stride (final - first) (omega (arith, l.1)))

pub no_marks : {X : Type 0} (f : X → ℕ) (xs : List X) (b : Bool) → b ≡ eqb (length xs) 0 → b ≡ true → length (map f xs) ≡ 0
no_marks f xs b is h = length-map xs f ∙ eqb-true (length xs) 0 (sym is ∙ h)

pub some_marks : {X : Type 0} (f : X → ℕ) (xs : List X) (b : Bool) → b ≡ eqb (length xs) 0 → b ≡ false → length (map f xs) ≡ 0 → ⊥
some_marks f xs b is h none = eqb-false (length xs) 0 (sym is ∙ h) (sym (length-map xs f) ∙ none)

pub widened_whole : (m : ℕ) (held new : Form) (marks : List ℕ) (joined : Form) (run held_run : Progression)
    → joined ≡ join m held new → run ≡ span m joined → held_run ≡ span m held
    → is_within m new held ≡ false → widen_span m run held_run marks ≡ widen m held new marks
widened_whole m held new marks joined run held_run a b c outside =
    ap (λ (p : Progression). widen_span m p held_run marks) (b ∙ ap (λ (set : Form). span m set) a)
    ∙ ap (λ (p : Progression). widen_span m (span m (join m held new)) p marks) c ∙ sym (widen-beyond m held new marks outside)

-- What holds of sets that are read at several addresses: lemmas, also for the proofs of crates above.
use Rattle.std.proofs.Common.{◌≡◌, ℕ, zero, suc, ◌+◌, ◌<◌, ◌≤◌, List, [], ◌∷◌, length, drop, get_or, refl, sym, subst, inl, inr, arith, Contains}
use Rattle.plain_lemmas.specs.Members.{in_cons, in_none}
use Rattle.irq_frames.specs.KnownLaws.{KnownLaws}
use Rattle.value_set.specs.declared.form.Form.{Form}
use Rattle.value_set.specs.Form.{Has, IsNormal}
use Rattle.value_set.specs.Joining.{join}
use Rattle.mcs51_state.specs.Joined.{all_joined, any_of}

-- AS LOOPS READ THEM

-- one more address
joined_suc : (read : ℕ → Form) (set : Form) (ms : List ℕ) (place d : ℕ) → place < length ms
    → all_joined read set (drop place ms) ≡ all_joined read (join 256 set (read (get_or ms place d))) (drop (suc place) ms)
joined_suc read set [] place d inside = absurd (omega (arith, inside))
joined_suc read set (m ∷ ms) zero d inside = refl
joined_suc read set (m ∷ ms) (suc place) d inside = joined_suc read set ms place d (omega (arith, inside))

pub joined_more : (read : ℕ → Form) (set : Form) (ms : List ℕ) (place d : ℕ) → place < length ms
    → all_joined read set (drop place ms) ≡ all_joined read (join 256 set (read (get_or ms place d))) (drop (place + 1) ms)
joined_more read set ms place d inside =
    let same : suc place ≡ place + 1 = omega arith in
    subst (λ n. all_joined read set (drop place ms) ≡ all_joined read (join 256 set (read (get_or ms place d))) (drop n ms)) same
    (joined_suc read set ms place d inside)

-- none behind the last
pub joined_end : (read : ℕ → Form) (set : Form) (ms : List ℕ) (place : ℕ) → length ms ≤ place → all_joined read set (drop place ms) ≡ set
joined_end read set [] zero past = refl
joined_end read set [] (suc place) past = refl
joined_end read set (m ∷ ms) zero past = absurd (omega (arith, past))
joined_end read set (m ∷ ms) (suc place) past = joined_end read set ms place (omega (arith, past))

pub any_is : (read : ℕ → Form) (ms : List ℕ) (d : ℕ) → 0 < length ms → any_of read ms ≡ all_joined read (read (get_or ms 0 d)) (drop 1 ms)
any_is read [] d some = absurd (omega (arith, some))
any_is read (m ∷ ms) d some = refl

-- WHAT THEY HAVE

joined_normal : (laws : KnownLaws) (read : ℕ → Form) → ((at : ℕ) → IsNormal 256 (read at)) → (set : Form) (list : List ℕ) → IsNormal 256 set
    → IsNormal 256 (all_joined read set list)
joined_normal laws read each set [] normal = normal
joined_normal laws read each set (at ∷ rest) normal =
    joined_normal laws read each (join 256 set (read at)) rest (laws.sets.join_normal 256 set (read at) normal (each at))

joined_keeps : (laws : KnownLaws) (read : ℕ → Form) → ((at : ℕ) → IsNormal 256 (read at)) → (set : Form) (list : List ℕ) (v : ℕ)
    → IsNormal 256 set → Has 256 set v → Has 256 (all_joined read set list) v
joined_keeps laws read each set [] v normal has = has
joined_keeps laws read each set (at ∷ rest) v normal has =
    joined_keeps laws read each (join 256 set (read at)) rest v (laws.sets.join_normal 256 set (read at) normal (each at))
    (laws.sets.join_first 256 set (read at) normal (each at) v has)

joined_has : (laws : KnownLaws) (read : ℕ → Form) → ((at : ℕ) → IsNormal 256 (read at)) → (set : Form) (list : List ℕ) (at v : ℕ)
    → IsNormal 256 set → Contains list at → Has 256 (read at) v → Has 256 (all_joined read set list) v
joined_has laws read each set [] at v normal there has = absurd (in_none at there)
joined_has laws read each set (one ∷ rest) at v normal there has =
    let both = laws.sets.join_normal 256 set (read one) normal (each one) in
    elim (in_cons one rest at there) [
      | inl same ↦ joined_keeps laws read each (join 256 set (read one)) rest v both
          (laws.sets.join_second 256 set (read one) normal (each one) v (subst (λ n. Has 256 (read n) v) (sym same) has))
      | inr later ↦ joined_has laws read each (join 256 set (read one)) rest at v both later has
    ]

pub any_normal : (laws : KnownLaws) (read : ℕ → Form) → ((at : ℕ) → IsNormal 256 (read at)) → (list : List ℕ)
    → IsNormal 256 (any_of read list)
any_normal laws read each [] = laws.sets.whole_normal 256 (omega arith)
any_normal laws read each (at ∷ rest) = joined_normal laws read each (read at) rest (each at)

pub any_has : (laws : KnownLaws) (read : ℕ → Form) → ((at : ℕ) → IsNormal 256 (read at)) → (list : List ℕ) (at v : ℕ) → Contains list at
    → Has 256 (read at) v → Has 256 (any_of read list) v
any_has laws read each [] at v there has = absurd (in_none at there)
any_has laws read each (one ∷ rest) at v there has = elim (in_cons one rest at there) [
  | inl same ↦ joined_keeps laws read each (read one) rest v (each one) (subst (λ n. Has 256 (read n) v) (sym same) has)
  | inr later ↦ joined_has laws read each (read one) rest at v (each one) later has
]

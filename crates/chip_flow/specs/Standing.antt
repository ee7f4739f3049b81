-- What stands at an address, by what a decoder answers.
use Rattle.std.proofs.Common.{◌≡◌, ℕ, Option, None, Some, Result, Ok, Err, refl, sym, ap, ◌∙◌}
use Rattle.plain_lemmas.specs.Cases.{same_Ok}

-- the instruction that it finds
abbrev pub found_by : {I N : Type 0} → Result (I × ℕ) N → Option I
found_by (Err refusal) = None
found_by (Ok found) = Some found.0

-- an instruction, or none
pub data Fetching {I N : Type 0} (answer : Result (I × ℕ) N) (found : Option I) : Type 0 where
  stands : (instr : I) (len : ℕ) → answer ≡ Ok (instr, len) → found ≡ Some instr → Fetching answer found
  none_stands : (refusal : N) → answer ≡ Err refusal → found ≡ None → Fetching answer found

pub by_answer : {I N : Type 0} (answer : Result (I × ℕ) N) → Fetching answer (found_by answer)
by_answer (Err refusal) = none_stands refusal refl refl
by_answer (Ok (instr, len)) = stands instr len refl refl

-- the decoder finds one
pub one_found : {I N : Type 0} (answer : Result (I × ℕ) N) (instr : I) (len : ℕ) (found : Option I)
    → answer ≡ Ok (instr, len) → Fetching answer found → found ≡ Some instr
one_found {I} answer instr len found is (stands other more there e) =
    let same : other ≡ instr = ap (λ (p : I × ℕ). p.0) (same_Ok (sym there ∙ is)) in e ∙ ap Some same
one_found answer instr len found is (none_stands refusal there e) = absurd (let both = sym there ∙ is in cc)

-- or none
pub none_found : {I N : Type 0} (answer : Result (I × ℕ) N) (refusal : N) (found : Option I) → answer ≡ Err refusal
    → Fetching answer found → found ≡ None
none_found answer refusal found is (stands instr len there e) = absurd (let both = sym there ∙ is in cc)
none_found answer refusal found is (none_stands other there e) = e

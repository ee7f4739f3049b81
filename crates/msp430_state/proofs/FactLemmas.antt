-- When two facts of the flags are the same.
use Rattle.std.proofs.Common.{◌≡◌, ℕ, ◌==◌, ◌&&◌, true, refl, ap, ◌∙◌}
use Rattle.std.proofs.lemmas.Bool.{and_from, and_parts, eqb-true, eq-eqb}
use Rattle.msp430_decode.specs.declared.instr.Width.{Width}
use Rattle.msp430_decode.specs.declared.instr.Width.TheVariants.{Word, Byte}
use Rattle.msp430_state.specs.declared.fact.FlagFact.{FlagFact}
use Rattle.known_parts.specs.Options.{IsEquality}
use Rattle.msp430_state.specs.Facts.{is_same_width, is_same_fact}

width_itself : (a : Width) → is_same_width a a ≡ true
width_itself Word = refl
width_itself Byte = refl

width_is : (a b : Width) → is_same_width a b ≡ true → a ≡ b
width_is Word Word h = refl
width_is Byte Byte h = refl
width_is Word Byte h = absurd (cc)
width_is Byte Word h = absurd (cc)

same_itself : (a : FlagFact) → is_same_fact a a ≡ true
same_itself a =
    let register = a.register == a.register in
    let added = a.added == a.added in
    let compared = a.compared == a.compared in
    and_from (register && added && compared) (is_same_width a.width a.width)
    (and_from (register && added) compared
    (and_from register added (eq-eqb a.register a.register refl) (eq-eqb a.added a.added refl))
    (eq-eqb a.compared a.compared refl))
    (width_itself a.width)

same_is : (a b : FlagFact) → is_same_fact a b ≡ true → a ≡ b
same_is a b h =
    let register = a.register == b.register in
    let added = a.added == b.added in
    let compared = a.compared == b.compared in
    let one = and_parts (register && added && compared) (is_same_width a.width b.width) h in
    let two = and_parts (register && added) compared one.0 in
    let three = and_parts register added two.0 in
    let r : a.register ≡ b.register = eqb-true a.register b.register three.0 in
    let k : a.added ≡ b.added = eqb-true a.added b.added three.1 in
    let n : a.compared ≡ b.compared = eqb-true a.compared b.compared two.1 in
    let w : a.width ≡ b.width = width_is a.width b.width one.1 in
    let made : ℕ → ℕ → ℕ → Width → FlagFact = λ register added compared width. record { register = register; added = added; compared = compared; width = width } in
    ap (λ x. made x a.added a.compared a.width) r ∙ ap (λ x. made b.register x a.compared a.width) k
    ∙ ap (λ x. made b.register b.added x a.width) n ∙ ap (made b.register b.added b.compared) w

pub fact_equality : IsEquality is_same_fact
fact_equality = record { itself = same_itself; same = same_is }

use Rattle.std.proofs.Common.{◌≡◌, ◌%◌, ◌<◌, ◌≤◌, ◌++◌, ◌∷◌, [], sym, ◌∙◌, ap, append_assoc, arith}
use Rattle.hex_digits.specs.Digits.{hex_digit, short_hex}
use Rattle.hex_digits.proofs.DigitsLemmas.{short_hex-long, short_hex-one}
use Rattle.hex_digits.proofs.writing.+push_short_hex.Goals.{then-value-ge16+in_ok-push_short_hex, else-value-ge16}
use Rattle.hex_digits.proofs.writing.+push_short_hex.Goals as goal

pub returns : goal.returns
returns t c =
    let value = c.args.value in
    let old = c.args.line.now.items in
    let last = hex_digit (value % 16) ∷ [] in
    let pushed : c.push.new.self.items ≡ c.if-value-ge16.line.items ++ last =
    c.in_ok-push.ensures.items ∙ ap (λ d. c.if-value-ge16.line.items ++ d ∷ []) c.digit.ensures.value in
    elim c.if-value-ge16.branch [
      | then-value-ge16+in_ok-push_short_hex w ↦
          let long : 16 ≤ value = omega (arith, w.if-value-ge16.true) in
          pushed ∙ ap (λ v. v.items ++ last) w.line-is ∙ ap (λ front. front ++ last) w.in_ok-push_short_hex.ensures
          ∙ append_assoc old _ last ∙ ap (λ more. old ++ more) (sym (short_hex-long value long))
      | else-value-ge16 w ↦
          let small : value < 16 = omega (arith, w.if-value-ge16.false) in
          pushed ∙ ap (λ v. v.items ++ last) w.line-is ∙ ap (λ more. old ++ more) (sym (short_hex-one value small))
    ]

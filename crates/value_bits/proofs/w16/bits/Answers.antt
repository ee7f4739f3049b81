use Rattle.std.proofs.Common.{◌≡◌, List, subst, sym}
use Rattle.value_bits.specs.declared.tri.Tri.{Tri}
use Rattle.value_bits.specs.Bits.{Agrees, known_bits}
use Rattle.value_bits.proofs.Known.{known_agrees}
use Rattle.value_bits.proofs.w16.bits.Goals as goal

pub returns-clause-agrees : goal.returns-clause-agrees
returns-clause-agrees c = λ v has.
    let same : c.copy_from_slice.new.self ≡ known_bits 16 c.args.a.now = cc in
    let normal = c.form.ensures.normal in
    subst (λ (bits : List Tri). Agrees bits v) (sym same) (known_agrees 16 v c.args.a.now normal has)

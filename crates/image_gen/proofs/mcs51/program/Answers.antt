use Rattle.std.proofs.Common.{◌≡◌, refl, append_assoc, arith}
use Rattle.image_gen.specs.Made.{mcs51_function}
use Rattle.image_gen.specs.LengthFacts.{length-mcs51_program}
use Rattle.image_gen.proofs.Parts.{begun, each-none, each-more}
use Rattle.image_gen.proofs.mcs51.program.Goals as goal

pub loop-i-init : goal.loop-i-init
loop-i-init c = rw (c.in_ok-extend_from_slice.ensures.items, c.new-bytes.ensures.items, each-none) refl

pub loop-i-preserved : goal.loop-i-preserved
loop-i-preserved c = rw (c.in_ok-extend_from_slice-2.ensures.items, c.loop-i.invariant, c.function_at-target.ensures, each-more) refl

pub loop-i-2-init : goal.loop-i-2-init
loop-i-2-init c =
    let last : c.loop-i.i ≡ c.args.number = omega (arith, c.loop-i-test.false, c.loop-i.auto.i-end) in
    rw (c.in_ok-extend_from_slice-3.ensures.items, c.loop-i.invariant, last) (begun mcs51_function _)

pub loop-i-2-preserved : goal.loop-i-2-preserved
loop-i-2-preserved c = rw (c.in_ok-extend_from_slice-4.ensures.items, c.loop-i-2.invariant, each-more, append_assoc) refl

pub returns-clause-size : goal.returns-clause-size
returns-clause-size c =
    let last : c.loop-i-2.i ≡ c.args.number = omega (arith, c.loop-i-2-test.false, c.loop-i-2.auto.i-end) in
    rw (c.loop-i-2.invariant, last) (length-mcs51_program c.args.number)

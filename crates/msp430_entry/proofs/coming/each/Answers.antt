use Rattle.std.proofs.Common.{◌≡◌, ℕ, ◌+◌, Bool, List, [], ◌++◌, sym, ap, ◌∙◌, inl, inr, arith}
use Rattle.std.specs.Prelude.{if◌then◌else◌}
use Rattle.std.specs.List.{filter, flat_map, range_with_len}
use Rattle.std.proofs.lemmas.Bool.{cases_Bool}
use Rattle.std.proofs.lemmas.Grind.{common_steps, flat_map-append}
use Rattle.plain_lemmas.specs.Members.{range_filtered}
use Rattle.msp430_chip.specs.Interrupts.{may_come}
use Rattle.msp430_entry.specs.declared.coming.Coming.{Coming}
use Rattle.msp430_entry.specs.Entry.{comings_at}
use Rattle.msp430_entry.proofs.coming.each.Goals as goal

one_added : (f : ℕ → List Coming) (p : ℕ → Bool) (n : ℕ)
    → flat_map f (filter p (range_with_len 0 (n + 1))) ≡ flat_map f (filter p (range_with_len 0 n)) ++ (if p n then f n else [])
one_added f p n = elim (cases_Bool (p n)) [
  | inl here ↦ rw (range_filtered p n, here) (grind (arith, common_steps, flat_map-append))
  | inr other ↦ rw (range_filtered p n, other) (grind (arith, common_steps))
]

pub loop-vector-preserved : goal.loop-vector-preserved
loop-vector-preserved c =
    let f = comings_at c.args.sp.now in
    let p = may_come c.args.device.now in
    let n = c.loop-vector.vector in
    c.in_ok-add_handled.ensures ∙ ap (λ list. list ++ (if p n then f n else [])) c.loop-vector.invariant ∙ sym (one_added f p n)

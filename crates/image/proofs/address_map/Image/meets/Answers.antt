use Rattle.std.proofs.Common.{◌≡◌, ◌+◌, ◌%◌, ◌<◌, ◌≤◌, ℕ, List, false, min, ap, arith}
use Rattle.std.specs.Prelude.{Option, is_some}
use Rattle.image.specs.Image.{byte_at, Meets}
use Rattle.image.proofs.address_map.Image.meets.Goals as goal

-- no address further away is another one
none_met : (image : List (Option ℕ)) (lo len n : ℕ) → min len 65536 ≤ n
    → ((k : ℕ) → k < n → is_some (byte_at image ((lo + k) % 65536)) ≡ false)
    → Meets image lo len → ⊥
none_met image lo len n all none met =
    let same : (lo + met.0 % 65536) % 65536 ≡ (lo + met.0) % 65536 = omega arith in
    let free = none (met.0 % 65536) (omega (arith, met.1)) in
    cc (ap (λ at. is_some (byte_at image at)) same, free, met.2)

pub returns : goal.returns
returns c = rw (← c.self.view_is) (λ h. cc h, λ met. absurd (none_met c.self.inside.bytes.items c.args.lo c.args.len c.loop-i.i (omega (arith, c.min-i-end.ensures)) c.loop-i.invariant met))

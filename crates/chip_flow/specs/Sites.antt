-- Call strings behind instructions have at most eight sites, each an address.
use Rattle.std.proofs.Common.{ℕ, ◌-◌, ◌≤◌, ◌==◌, ◌++◌, Option, None, Some, List, [], ◌∷◌, length, take, arith}
use Rattle.std.proofs.lemmas.Bool.{cond_both}
use Rattle.std.proofs.lemmas.List.{length-drop, length-take}
use Rattle.std.proofs.lemmas.List.Elements.{All-append, All-cons, All-drop, All-nil, All-take}
use Rattle.call_context.specs.Calls.{popped, pushed}
use Rattle.chip_flow.specs.Calls.{AreSites, calls_by}
use Rattle.chip_flow.specs.declared.calls.CallEffect.{CallEffect}
use Rattle.chip_flow.specs.declared.calls.CallEffect.TheVariants.{Pushes, Pops, Keeps}

module _ (IsAddress : ℕ → Type 0) where
  pushed_sites : (limit : ℕ) (calls : List ℕ) (pc : ℕ) → limit ≤ 8 → IsAddress pc → AreSites IsAddress calls
      → AreSites IsAddress (pushed calls pc limit)
  pushed_sites limit calls pc small is are =
      let all = calls ++ pc ∷ [] in
      let long = length-drop (length all - limit) all in
      record {
        few = omega (arith, long, small);
        each = All-drop IsAddress (length all - limit) all (All-append IsAddress calls (pc ∷ []) are.each (All-cons IsAddress pc [] is (All-nil IsAddress)));
      }

  popped_sites : (calls : List ℕ) (end : Option ℕ) (to : ℕ) → AreSites IsAddress calls → AreSites IsAddress (popped calls end to)
  popped_sites calls None to are = are
  popped_sites calls (Some end) to are = cond_both (end == to) (take (length calls - 1) calls) calls (AreSites IsAddress)
      (λ _. let few : length calls ≤ 8 = are.few in let long = length-take (length calls - 1) calls in
      record { few = omega (arith, long, few); each = All-take IsAddress (length calls - 1) calls are.each })
      (λ _. are)

  pub sites_by : (limit : ℕ) (effect : CallEffect) (end : Option ℕ) (pc : ℕ) (calls : List ℕ) (to : ℕ) → limit ≤ 8
      → IsAddress pc → AreSites IsAddress calls
      → AreSites IsAddress (calls_by limit effect end pc calls to)
  sites_by limit Pushes end pc calls to small is are = pushed_sites limit calls pc small is are
  sites_by limit Pops end pc calls to small is are = popped_sites calls end to are
  sites_by limit Keeps end pc calls to small is are = are

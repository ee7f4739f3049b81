use Rattle.std.proofs.Common.{◌≡◌, [], ℕ, suc, length, true, Option, None, Some}
use Rattle.std.specs.Borrow.{Bor}
use Rattle.std.specs.Prelude.{List}
use Rattle.std.specs.Option.{option_map}
use Rattle.cert_pages.specs.Pages.{left, names_in, onto_named, pages_named}
use Rattle.cert_pages.proofs.filling.cells_named.Given as goal

-- how much is left
abbrev size : Option (Bor (List ℕ)) → ℕ
size None = 0
size (Some names) = suc (length names.now)

abbrev pub invariant-loop-rest : goal.invariant-loop-rest
invariant-loop-rest l = let f = l.fn in
    option_map (onto_named l.text.items l.in_turn) (pages_named f.digits f.pages l.used l.least (left (option_map (λ rest. rest.now) l.rest)))
    ≡ option_map (onto_named [] true) (pages_named f.digits f.pages f.used 0 (names_in f.names))

abbrev pub decreases-loop-rest : goal.decreases-loop-rest
decreases-loop-rest l = size l.rest

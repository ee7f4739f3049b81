-- What two relations have in common: lemmas, also for the proofs of crates above.
use Rattle.std.proofs.Common.{Option, None, Some}
use Rattle.std.proofs.lemmas.Bool.{cond_both}
use Rattle.entry_value.specs.declared.word.Entry.{Entry}
use Rattle.entry_value.specs.Words.{is_same_entry, common_entry}

-- nothing, or what the first has
pub common_entry_keeps : (P : Option Entry → Type 0) (a b : Option Entry) → P None → P a → P (common_entry a b)
common_entry_keeps P None b none some = none
common_entry_keeps P (Some a) None none some = none
common_entry_keeps P (Some a) (Some b) none some = cond_both (is_same_entry a b) (Some a) None P (λ e. some) (λ e. none)

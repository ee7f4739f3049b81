-- The form of relations and bytes: lemmas, also for the proofs of crates above.
use Rattle.std.proofs.Common.{ℕ, ◌<◌, Bool, true, false, Option, None, Some, arith}
use Rattle.std.specs.Option.{option_map}
use Rattle.std.proofs.lemmas.Nat.{and_le_l, or_lt}
use Rattle.value_set.specs.declared.form.Form.{Form}
use Rattle.value_set.specs.Form.{IsNormal}
use Rattle.entry_value.specs.declared.word.Entry.{Entry}
use Rattle.entry_value.specs.Words.{entry_and, entry_or}
use Rattle.mcs51_state.specs.Forms.{IsByte, IsOwnRelation, IsRelation}
use Rattle.mcs51_state.specs.Known.{byte_of}

pub no_relation : (framed : Bool) → IsRelation framed None
no_relation true = tt
no_relation false = tt

pub no_own_relation : (framed : Bool) (place unheld : ℕ) → IsOwnRelation framed place unheld None
no_own_relation true place unheld = tt
no_own_relation false place unheld = tt

pub and_form : (framed : Bool) (m : ℕ) (entry : Option Entry) → IsRelation framed entry → IsRelation framed (option_map (entry_and m) entry)
and_form framed m None form = no_relation framed
and_form false m (Some entry) form = form
and_form true m (Some entry) (place, and_small, or_small) =
    let first = and_le_l entry.and m in
    let second = and_le_l entry.or m in
    (place, omega (arith, and_small, first), omega (arith, or_small, second))

pub or_form : (framed : Bool) (m : ℕ) (entry : Option Entry) → m < 256 → IsRelation framed entry
    → IsRelation framed (option_map (entry_or m) entry)
or_form framed m None small form = no_relation framed
or_form false m (Some entry) small form = form
or_form true m (Some entry) small (place, and_small, or_small) = (place, and_small, or_lt 8 entry.or m or_small small)

-- a byte without a relation
pub byte_form : (framed : Bool) (set : Form) → IsNormal 256 set → IsByte framed (byte_of set)
byte_form framed set normal = record { normal = normal; entry = no_relation framed }

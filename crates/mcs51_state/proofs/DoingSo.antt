-- What the formats do.
use Rattle.std.proofs.Common.{◌≡◌, ℕ, Bool, List, [], ◌++◌, Option, refl, sym, subst, append_assoc}
use Rattle.call_context.specs.declared.shown.Item.{Item}
use Rattle.choosing.specs.Asking.{Asking}
use Rattle.choosing.specs.Gives.{Gives, answer_gives}
use Rattle.mcs51_chip.specs.declared.place.Access.{Access}
use Rattle.mcs51_chip.specs.declared.place.Address.{Address}
use Rattle.mcs51_chip.specs.declared.place.Address.TheVariants.{InRam, InSfr}
use Rattle.mcs51_chip.specs.declared.place.Sfr.{Sfr}
use Rattle.mcs51_chip.specs.declared.place.Sfr.TheVariants.{Sp, Dpl, Dph, Ie, Ip, Psw, Acc, B, Other}
use Rattle.mcs51_chip.specs.declared.state.ChipState.{ChipState}
use Rattle.mcs51_chip.specs.Laws.{FormatsLead}
use Rattle.mcs51_chip.specs.Leading.{IsOfOne, MayRead}
use Rattle.mcs51_chip.specs.Memory.{reads, write, writes}
use Rattle.mcs51_chip.specs.Registers.{sfr_at, write_sfr}
use Rattle.mcs51_chip.specs.Step.{Effect, implied, moving, reading, updating, writing}
use Rattle.mcs51_state.specs.declared.addresses.Addresses.{Addresses}
use Rattle.mcs51_state.specs.Known.{Known}
use Rattle.mcs51_state.specs.Standing.{AreAddresses, MayStandAt}
use Rattle.mcs51_state.specs.Showing.{AreShown}
use Rattle.mcs51_state.specs.Doing.{DoesSo, LeadsSo}
use Rattle.mcs51_state.specs.Giving.{of_one}
use Rattle.mcs51_state.specs.Accesses.{read_at, update_at, write_at}
use Rattle.mcs51_state.specs.ShowingFacts.{none_shown}
use Rattle.mcs51_state.proofs.Together.{ShowsEach, both_shown, read_shown, update_shown, write_shown}

pub implied_does : (framed : Bool) (first : Option ChipState) (pc : ℕ) (behind : Known) (s t : ChipState) → LeadsSo framed first behind s t
    → Gives (DoesSo framed first [] pc behind s) (implied t)
implied_does framed first pc behind s t leads =
    answer_gives (DoesSo framed first [] pc behind s) ([], t) (record { shown = none_shown [] pc; leads = leads })

-- an instruction that reads a byte, and whose accesses are the same whatever it reads
read_does : (framed : Bool) (first : Option ChipState) (items : List Item) (pc : ℕ) (behind : Known) (s : ChipState) (accesses : List Access)
    (address : Address) (leads : ℕ → ChipState) (asking : Asking Effect)
    → AreShown items pc accesses → Gives (IsOfOne (MayRead s address) (λ x. (accesses, leads x))) asking
    → ((x : ℕ) → MayRead s address x → LeadsSo framed first behind s (leads x)) → Gives (DoesSo framed first items pc behind s) asking
read_does framed first items pc behind s accesses address leads asking shown gives each =
    of_one (DoesSo framed first items pc behind s) (MayRead s address) (λ x. (accesses, leads x)) asking gives (λ x may. record { shown = shown; leads = each x may })

pub reading_does : (shows : ShowsEach) (chip : FormatsLead)
    (framed : Bool) (first : Option ChipState) (items : List Item) (pc : ℕ) (behind : Known) (s : ChipState)
    (before : List Access) (at : Addresses) (address : Address) (leads : ℕ → ChipState)
    → AreShown items pc before → MayStandAt at address → AreAddresses at
    → ((x : ℕ) → MayRead s address x → LeadsSo framed first behind s (leads x))
    → Gives (DoesSo framed first (items ++ read_at pc at) pc behind s) (reading s before address leads)
reading_does shows chip framed first items pc behind s before at address leads shown stands form =
    read_does framed first (items ++ read_at pc at) pc behind s (before ++ reads address) address leads (reading s before address leads)
    (both_shown items (read_at pc at) pc before (reads address) shown (read_shown shows pc at address stands form)) (chip.reading s before address leads)

pub writing_does : (shows : ShowsEach)
    (framed : Bool) (first : Option ChipState) (items : List Item) (pc : ℕ) (behind : Known) (s : ChipState)
    (before : List Access) (at : Addresses) (address : Address) (x : ℕ)
    → AreShown items pc before → MayStandAt at address → AreAddresses at → LeadsSo framed first behind s (write address x s)
    → Gives (DoesSo framed first (items ++ write_at pc at) pc behind s) (writing s before address x)
writing_does shows framed first items pc behind s before at address x shown stands form leads =
    answer_gives (DoesSo framed first (items ++ write_at pc at) pc behind s) (before ++ writes address, write address x s)
    (record { shown = both_shown items (write_at pc at) pc before (writes address) shown (write_shown shows pc at address stands form); leads = leads })

pub updating_does : (shows : ShowsEach) (chip : FormatsLead)
    (framed : Bool) (first : Option ChipState) (items : List Item) (pc : ℕ) (behind : Known) (s : ChipState)
    (before : List Access) (at : Addresses) (address : Address) (leads : ℕ → ChipState)
    → AreShown items pc before → MayStandAt at address → AreAddresses at
    → ((x : ℕ) → MayRead s address x → LeadsSo framed first behind s (leads x))
    → Gives (DoesSo framed first (items ++ update_at pc at) pc behind s) (updating s before address leads)
updating_does shows chip framed first items pc behind s before at address leads shown stands form =
    read_does framed first (items ++ update_at pc at) pc behind s (before ++ reads address ++ writes address) address leads (updating s before address leads)
    (subst (λ all. AreShown (items ++ update_at pc at) pc all) (sym (append_assoc before (reads address) (writes address)))
    (both_shown items (update_at pc at) pc before (reads address ++ writes address) shown (update_shown shows pc at address stands form)))
    (chip.updating s before address leads)

pub moving_does : (shows : ShowsEach) (chip : FormatsLead)
    (framed : Bool) (first : Option ChipState) (items : List Item) (pc : ℕ) (behind : Known) (s : ChipState)
    (before : List Access) (at onto : Addresses) (from to : Address)
    → AreShown items pc before → MayStandAt at from → AreAddresses at → MayStandAt onto to → AreAddresses onto
    → ((x : ℕ) → MayRead s from x → LeadsSo framed first behind s (write to x s))
    → Gives (DoesSo framed first (items ++ read_at pc at ++ write_at pc onto) pc behind s) (moving s before from to)
moving_does shows chip framed first items pc behind s before at onto from to shown stands form stands_too form_too =
    read_does framed first (items ++ read_at pc at ++ write_at pc onto) pc behind s (before ++ reads from ++ writes to) from (λ x. write to x s)
    (moving s before from to)
    (both_shown (items ++ read_at pc at) (write_at pc onto) pc (before ++ reads from) (writes to)
    (both_shown items (read_at pc at) pc before (reads from) shown (read_shown shows pc at from stands form)) (write_shown shows pc onto to stands_too form_too))
    (chip.moving s before from to)

register_keeps : (register : Sfr) (x : ℕ) (s : ChipState) → (write_sfr register x s).pc ≡ s.pc
register_keeps Sp x s = refl
register_keeps Dpl x s = refl
register_keeps Dph x s = refl
register_keeps Ie x s = refl
register_keeps Ip x s = refl
register_keeps Psw x s = refl
register_keeps Acc x s = refl
register_keeps B x s = refl
register_keeps Other x s = refl

pub write_keeps : (address : Address) (x : ℕ) (s : ChipState) → (write address x s).pc ≡ s.pc
unfolding write
write_keeps (InRam at) x s = refl
write_keeps (InSfr at) x s = register_keeps (sfr_at at) x s

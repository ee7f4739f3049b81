-- What is known in front of an instruction.
use Rattle.std.proofs.Common.{◌≡◌, ℕ, ◌<◌, Bool, true, Option, None, Some, List, [], ◌∷◌, refl, sym, ap, subst, arith}
use Rattle.std.specs.Prelude.{◌&&◌, option_and_then, slice_index, unwrap_or}
use Rattle.std.proofs.lemmas.Bool.{cond_both}
use Rattle.chip_numbers.specs.Single.{Single}
use Rattle.chip_numbers.specs.Single.Single.{Instr as Ran}
use Rattle.choosing.specs.Outcome.Outcome.{Next, Wild as Leaves}
use Rattle.irq_frames.specs.KnownLaws.{KnownLaws}
use Rattle.plain_lemmas.specs.Cases.{mapped}
use Rattle.mcs51_decode.specs.declared.instr.Instr.{Instr}
use Rattle.mcs51_decode.specs.declared.instr.Pointer.{Pointer}
use Rattle.mcs51_decode.specs.Encoding.{bytes_of}
use Rattle.mcs51_decode.specs.Targets.{following}
use Rattle.mcs51_chip.specs.declared.state.ChipState.{ChipState}
use Rattle.mcs51_chip.specs.Laws.{FormatsLead}
use Rattle.mcs51_chip.specs.Leading.{MayDo}
use Rattle.mcs51_chip.specs.Memory.{pointed_by}
use Rattle.mcs51_chip.specs.Step.{Effect, Outcome, going_to, stepped}
use Rattle.mcs51_state.specs.declared.fact.Compared.TheVariants.{Ram}
use Rattle.mcs51_state.specs.Forms.{IsKnown}
use Rattle.mcs51_state.specs.Known.{Known}
use Rattle.mcs51_state.specs.OperandLaws.{OperandLaws}
use Rattle.mcs51_state.specs.Under.{IsUnder}
use Rattle.mcs51_branch.specs.Cuts.{cut_to as set_cut, place_cut, set_at, with_set}
use Rattle.mcs51_branch.specs.Laws.{JumpsHold}
use Rattle.mcs51_kept.specs.Front.{behind_in, cut_by, cut_to, first_in, front, in_ram, part_by, part_of, register_at}
use Rattle.mcs51_kept.specs.Keeping.{IsKept}
use Rattle.mcs51_kept.specs.Sites.{pointer_of, spoken}
use Rattle.mcs51_kept.proofs.Registers.{register_below, register_is}
use Rattle.mcs51_kept.proofs.Storing.{stores}
use Rattle.mcs51_kept.proofs.Windows.{in_only, stored_in, window_has}
use Rattle.promises.specs.declared.promise.Promise.{Promise}
use Rattle.promises.specs.declared.promise.Window.{Window}
use Rattle.promises.specs.Keeping.{is_in_one, is_store, keeps_at, keeps_windows, pc_of, windows_at}
use Rattle.promises.specs.Spoken.{Spoken}

-- what the laws of a front rest on
pub record Laws : Type 0 where
  pub known : KnownLaws
  pub operands : OperandLaws
  pub formats : FormatsLead
  pub jumps : JumpsHold

chained : {X Y : Type 0} (f : X → Option Y) (o : Option X) (y : Y) → option_and_then f o ≡ Some y → (x : X) × (o ≡ Some x) × (f x ≡ Some y)
chained f None y e = absurd (cc)
chained f (Some x) y e = (x, refl, e)

-- FORM

or_stays : (P : Known → Type 0) (a : Known) (part : Option Known) → P a → ((b : Known) → part ≡ Some b → P b) → P (unwrap_or part a)
or_stays P a None all each = all
or_stays P a (Some b) all each = each b refl

cut_form : (laws : Laws) (framed : Bool) (a b : Known) (register : ℕ) (windows : List Window) → register < 256 → IsKnown framed a
    → cut_by a register windows ≡ Some b → IsKnown framed b
cut_form laws framed a b register [] below form e = absurd (cc)
cut_form laws framed a b register (window ∷ []) below form e =
    laws.jumps.cut_form framed (Ram register) (in_ram (first_in a window) (behind_in a window)) a b below (omega arith) form e
cut_form laws framed a b register (window ∷ next ∷ rest) below form e = absurd (cc)

part_form : (laws : Laws) (framed : Bool) (a b : Known) (register : Option ℕ) (windows : Option (List Window))
    → ((at : ℕ) → register ≡ Some at → at < 256) → IsKnown framed a → part_by a register windows ≡ Some b → IsKnown framed b
part_form laws framed a b None windows below form e = absurd (cc)
part_form laws framed a b (Some at) None below form e = absurd (cc)
part_form laws framed a b (Some at) (Some windows) below form e = cut_form laws framed a b at windows (below at refl) form e

register_fits : (laws : Laws) (framed : Bool) (a : Known) (instr : Instr) (at : ℕ) → IsKnown framed a
    → option_and_then (register_at a) (pointer_of instr) ≡ Some at → at < 256
register_fits laws framed a instr at form e =
    let (i, points, is) = chained (register_at a) (pointer_of instr) at e in
    register_below laws.known.sets laws.operands framed a i at form is

pub front_form : (laws : Laws) (image : List (Option ℕ)) (promises : List Promise) (framed : Bool) (a : Known) (pc : ℕ) (instr : Instr)
    → IsKnown framed a → IsKnown framed (front image promises a pc instr)
unfolding part_of
front_form laws image promises framed a pc instr form =
    let register = option_and_then (register_at a) (pointer_of instr) in
    let windows = windows_at (spoken image) promises pc in
    or_stays (IsKnown framed) a (part_by a register windows) form
    (λ b e. part_form laws framed a b register windows (λ at is. register_fits laws framed a instr at form is) form e)

-- WHAT STAYS

abbrev IsSame : Known → Known → Type 0
IsSame a b = b ≡ record a { cells = b.cells }

cut_same : (a b : Known) (register : ℕ) (windows : List Window) → cut_by a register windows ≡ Some b → IsSame a b
unfolding with_set
cut_same a b register [] e = absurd (cc)
cut_same a b register (window ∷ []) e =
    let bytes = in_ram (first_in a window) (behind_in a window) in
    let (part, cut, is) = mapped (with_set (Ram register) a) (set_cut bytes (set_at (Ram register) a)) b e in
    subst (IsSame a) is refl
cut_same a b register (window ∷ next ∷ rest) e = absurd (cc)

part_same : (a b : Known) (register : Option ℕ) (windows : Option (List Window)) → part_by a register windows ≡ Some b → IsSame a b
part_same a b None windows e = absurd (cc)
part_same a b (Some at) None e = absurd (cc)
part_same a b (Some at) (Some windows) e = cut_same a b at windows e

pub front_same : (image : List (Option ℕ)) (promises : List Promise) (a : Known) (pc : ℕ) (instr : Instr)
    → IsSame a (front image promises a pc instr)
unfolding part_of
front_same image promises a pc instr =
    let register = option_and_then (register_at a) (pointer_of instr) in
    let windows = windows_at (spoken image) promises pc in
    or_stays (IsSame a) a (part_by a register windows) refl (λ b e. part_same a b register windows e)

-- A KEPT STEP

cut_holds : (laws : Laws) (framed : Bool) (a : Known) (s : ChipState) (first : Option ChipState) (register : ℕ) (windows : List Window)
    → register < 256 → IsUnder framed a s first → is_in_one windows s.sp (slice_index s.ram register) 1 ≡ true
    → IsUnder framed (unwrap_or (cut_by a register windows) a) s first
cut_holds laws framed a s first register [] below under inside = under
cut_holds laws framed a s first register (window ∷ []) below under inside =
    let at = slice_index s.ram register in
    let bytes = in_ram (first_in a window) (behind_in a window) in
    let is = window_has laws.known.sets a s.sp at window under.form.sp under.holds.parts.sp (under.holds.parts.cells.0 register) (in_only window s.sp at inside) in
    let (part, cut, stands) = laws.jumps.cut framed (Ram register) bytes a s first below is under in
    subst (λ (o : Option Known). IsUnder framed (unwrap_or o a) s first) (sym cut) stands
cut_holds laws framed a s first register (window ∷ next ∷ rest) below under inside = under

part_holds : (laws : Laws) (framed : Bool) (a : Known) (s : ChipState) (first : Option ChipState) (register : Option ℕ)
    (windows : Option (List Window))
    → IsUnder framed a s first
    → ((at : ℕ) (some : List Window) → register ≡ Some at → windows ≡ Some some
    → (at < 256) × (is_in_one some s.sp (slice_index s.ram at) 1 ≡ true))
    → IsUnder framed (unwrap_or (part_by a register windows) a) s first
part_holds laws framed a s first None windows under kept = under
part_holds laws framed a s first (Some at) None under kept = under
part_holds laws framed a s first (Some at) (Some some) under kept =
    let (below, inside) = kept at some refl refl in
    cut_holds laws framed a s first at some below under inside

-- the byte of the register is the address at which the instruction stores
pointer_in : (laws : Laws) (image : List (Option ℕ)) (promises : List Promise) (framed : Bool) (a : Known) (s : ChipState)
    (first : Option ChipState) (instr : Instr) (effect : Effect) (at : ℕ) (windows : List Window)
    → IsUnder framed a s first → MayDo image s instr effect
    → IsKept image promises (stepped s (Ran s.pc (bytes_of instr) ∷ []) effect)
    → option_and_then (register_at a) (pointer_of instr) ≡ Some at → windows_at (spoken image) promises s.pc ≡ Some windows
    → is_in_one windows s.sp (slice_index s.ram at) 1 ≡ true
pointer_in laws image promises framed a s first instr effect at windows under (choices, rest, does) kept e promised =
    let next = going_to (following s.pc instr) s in
    let (i, points, is) = chained (register_at a) (pointer_of instr) at e in
    let there = (stores laws.formats image next instr i points).each choices rest effect does in
    subst (λ register. is_in_one windows s.sp (slice_index s.ram register) 1 ≡ true)
    (sym (register_is laws.operands framed a s first i at under is))
    (stored_in image promises s instr effect (pointed_by s i) windows promised there kept)

pub front_holds : (laws : Laws) (image : List (Option ℕ)) (promises : List Promise) (framed : Bool) (a : Known) (s : ChipState)
    (first : Option ChipState) (instr : Instr) (effect : Effect) → IsUnder framed a s first → MayDo image s instr effect
    → IsKept image promises (stepped s (Ran s.pc (bytes_of instr) ∷ []) effect)
    → IsUnder framed (front image promises a s.pc instr) s first
unfolding part_of
front_holds laws image promises framed a s first instr effect under may kept =
    let register = option_and_then (register_at a) (pointer_of instr) in
    part_holds laws framed a s first register (windows_at (spoken image) promises s.pc) under
    (λ at windows e promised. (
      register_fits laws framed a instr at under.form e,
      pointer_in laws image promises framed a s first instr effect at windows under may kept e promised,
    ))

-- WITHOUT PROMISES

none_at : (spoken_so : Spoken) (pc : ℕ) → windows_at spoken_so [] pc ≡ None
none_at spoken_so pc = cond_both (is_store (spoken_so.at pc)) None None (λ (windows : Option (List Window)). windows ≡ None) (λ _. refl) (λ _. refl)

none_keep : (spoken_so : Spoken) (items : List Single) (pc : Option ℕ) → keeps_at spoken_so [] pc items ≡ true
none_keep spoken_so items None = refl
none_keep spoken_so items (Some pc) =
    subst (λ windows. (keeps_windows spoken_so.growth windows items && true) ≡ true) (sym (none_at spoken_so pc)) refl

pub none_kept : (image : List (Option ℕ)) (outcome : Outcome) → IsKept image [] outcome
none_kept image (Next items t) = none_keep (spoken image) items (pc_of items)
none_kept image (Leaves refusal) = tt

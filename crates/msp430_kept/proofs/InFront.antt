-- What is known in front of an instruction is in form, and a state from which a step keeps the promises stands under it.
use Rattle.std.proofs.Common.{◌≡◌, ℕ, ◌+◌, ◌-◌, ◌%◌, ◌<◌, ◌≤◌, ◌==◌, Bool, true, Option, None, Some, Ok, List, [], ◌∷◌, refl, sym, ap, ◌∙◌, subst, arith}
use Rattle.std.specs.Prelude.{◌&&◌, is_some, if◌then◌else◌}
use Rattle.std.proofs.lemmas.Bool.{cond_both, cond-true}
use Rattle.std.proofs.lemmas.List.Elements.{All-get_or}
use Rattle.chip_numbers.specs.Single.{Single}
use Rattle.choosing.specs.Outcome.Outcome.{Next, Wild as Leaves}
use Rattle.irq_frames.specs.KnownLaws.{KnownLaws}
use Rattle.value_set.specs.Form.{Has, IsNormal}
use Rattle.value_set.specs.declared.form.Form.{Form}
use Rattle.entry_value.specs.Cells.{unknown}
use Rattle.msp430_decode.specs.Decoding.{decoded}
use Rattle.msp430_decode.specs.declared.instr.Instr.{Instr}
use Rattle.msp430_decode.specs.declared.instr.Width.{Width}
use Rattle.msp430_decode.specs.declared.instr.Width.TheVariants.{Word, Byte}
use Rattle.msp430_chip.specs.declared.device.Device.{Device}
use Rattle.msp430_chip.specs.declared.state.ChipState.{ChipState}
use Rattle.msp430_chip.specs.declared.state.Wild.TheVariants.{NoInstr, Push, Store}
use Rattle.msp430_chip.specs.Laws.{PlaceLaws}
use Rattle.msp430_chip.specs.Leading.{MayRun}
use Rattle.msp430_chip.specs.Memory.{size_of}
use Rattle.msp430_chip.specs.Outcome.{Outcome}
use Rattle.msp430_chip.specs.State.{register_of}
use Rattle.msp430_state.specs.Forms.{IsKnown, IsWord}
use Rattle.msp430_state.specs.Known.{Known, word_of}
use Rattle.msp430_branch.specs.Cuts.{with_set}
use Rattle.msp430_branch.specs.Laws.{CutsHold}
use Rattle.msp430_alu.specs.Formats.{IsUnder}
use Rattle.msp430_kept.specs.Front.{cut_by, cut_through, cut_to, first_in, behind_in, front, windows_in, with_cut}
use Rattle.msp430_kept.specs.Keeping.{IsKept, stands_in as allows}
use Rattle.msp430_kept.specs.Laws.{FrontLaws}
use Rattle.msp430_kept.specs.Sites.{pointer_of, site_at, site_found, site_of, spoken}
use Rattle.msp430_kept.specs.declared.pointer.Pointer.{Pointer}
use Rattle.msp430_kept.proofs.Pointers.{general_pointer, instr_points}
use Rattle.msp430_kept.proofs.Stores.{begins, stands_so}
use Rattle.msp430_kept.proofs.Windows.{one_alone, points_in, stands_in}
use Rattle.plain_lemmas.specs.Cases.{mapped}
use Rattle.promises.specs.Keeping.{is_in_one, is_store, keeps_at, keeps_windows, pc_of, windows_at}
use Rattle.promises.specs.Spoken.{Spoken}
use Rattle.promises.specs.declared.promise.Promise.{Promise}
use Rattle.promises.specs.declared.promise.Window.{Window}
use Rattle.promises.specs.declared.spoken.Site.TheVariants.{Nothing}

-- WHAT STANDS AT AN ADDRESS

site_is : (image : List (Option ℕ)) (pc len : ℕ) (instr_so : Instr) → pc % 2 ≡ 0 → decoded image pc ≡ Ok (instr_so, len)
    → site_at image pc ≡ site_of instr_so
unfolding site_at
site_is image pc len instr_so even is =
    cond-true (pc % 2 == 0) (site_found (decoded image pc)) Nothing (ap (λ n. n == 0) even) ∙ ap site_found is

-- CUTS

-- what a cut of some register is made of
record IsCut (a : Known) (pointer : Pointer) (windows : List Window) (found : ℕ × Form) : Type 0 where
  register : found.0 ≡ pointer.register
  window : Window
  alone : windows ≡ window ∷ []
  cut_is : cut_to a.sp (word_of a pointer.register).set pointer.added window ≡ Some found.1

of_window : (a : Known) (pointer : Pointer) (windows : List Window) (set : Form)
    → cut_by a.sp (word_of a pointer.register).set pointer.added windows ≡ Some set → IsCut a pointer windows (pointer.register, set)
of_window a pointer [] set e = absurd (cc)
of_window a pointer (window ∷ []) set e = record { register = refl; window = window; alone = refl; cut_is = e }
of_window a pointer (window ∷ other ∷ windows) set e = absurd (cc)

-- a register that is cut is the pointer of its instruction, which has one window
record IsCutBy (device : Device) (promises : List Promise) (a : Known) (pc : ℕ) (instr_so : Instr) (found : ℕ × Form) : Type 0 where
  pointer : Pointer
  points : pointer_of instr_so ≡ Some pointer
  windows : List Window
  promised : windows_in device promises pc ≡ Some windows
  cut_so : IsCut a pointer windows found

cut_of : (device : Device) (promises : List Promise) (a : Known) (pc : ℕ) (instr_so : Instr) (found : ℕ × Form)
    → (pointer : Option Pointer) → pointer_of instr_so ≡ pointer → (windows : Option (List Window)) → windows_in device promises pc ≡ windows
    → cut_through a pointer windows ≡ Some found → IsCutBy device promises a pc instr_so found
cut_of device promises a pc instr_so found None points windows promised e = absurd (cc)
cut_of device promises a pc instr_so found (Some pointer) points None promised e = absurd (cc)
cut_of device promises a pc instr_so found (Some pointer) points (Some windows) promised e =
    let part = mapped (λ (set : Form). (pointer.register, set)) (cut_by a.sp (word_of a pointer.register).set pointer.added windows) found e in
    record {
      pointer = pointer;
      points = points;
      windows = windows;
      promised = promised;
      cut_so = subst (IsCut a pointer windows) part.2 (of_window a pointer windows part.0 part.1);
    }

-- what holds without a cut, and with each one, holds in front of an instruction
by_cut : (device : Device) (promises : List Promise) (a : Known) (pc : ℕ) (instr_so : Instr) (Is : Known → Type 0) → Is a
    → ((found : ℕ × Form) → IsCutBy device promises a pc instr_so found → Is (with_set a found.0 found.1))
    → (cut_so : Option (ℕ × Form)) → cut_through a (pointer_of instr_so) (windows_in device promises pc) ≡ cut_so → Is (with_cut a cut_so)
by_cut device promises a pc instr_so Is uncut each None e = uncut
by_cut device promises a pc instr_so Is uncut each (Some found) e =
    each found (cut_of device promises a pc instr_so found (pointer_of instr_so) refl (windows_in device promises pc) refl e)

in_front : (device : Device) (promises : List Promise) (a : Known) (pc : ℕ) (instr_so : Instr) (Is : Known → Type 0) → Is a
    → ((found : ℕ × Form) → IsCutBy device promises a pc instr_so found → Is (with_set a found.0 found.1))
    → Is (front device promises a pc instr_so)
unfolding front
in_front device promises a pc instr_so Is uncut each =
    by_cut device promises a pc instr_so Is uncut each (cut_through a (pointer_of instr_so) (windows_in device promises pc)) refl

-- FORM

low_end : (n : ℕ) → n % 65536 < 65536
low_end n = omega arith

set_of : {lo hi : ℕ} {framed : Bool} (a : Known) (register : ℕ) → IsKnown lo hi framed a → 3 < register → register < 16
    → IsNormal 65536 (word_of a register).set
set_of {framed} a register form low high =
    let count = form.count in
    (All-get_or (IsWord framed) a.registers (register - 4) (unknown 2) (omega (arith, count, low, high)) form.registers).normal

cut_normal : KnownLaws → {lo hi : ℕ} {framed : Bool} (a : Known) (pointer : Pointer) (windows : List Window) (found : ℕ × Form)
    → IsKnown lo hi framed a → 3 < pointer.register → pointer.register < 16 → IsCut a pointer windows found → IsNormal 65536 found.1
cut_normal laws a pointer windows found form low high its =
    let set = (word_of a pointer.register).set in
    laws.sets.cut_normal 65536 ((first_in a.sp its.window + 65536 - pointer.added) % 65536) (behind_in a.sp its.window - first_in a.sp its.window) set found.1
    (set_of a pointer.register form low high) (low_end _) its.cut_is

front_form : KnownLaws → CutsHold → (device : Device) (promises : List Promise) (lo hi : ℕ) (framed : Bool) (a : Known) (pc : ℕ) (instr_so : Instr)
    → IsKnown lo hi framed a → IsKnown lo hi framed (front device promises a pc instr_so)
front_form laws cuts device promises lo hi framed a pc instr_so form =
    in_front device promises a pc instr_so (IsKnown lo hi framed) form (λ found its.
    let general = general_pointer instr_so its.pointer its.points in
    subst (λ r. IsKnown lo hi framed (with_set a r found.1)) (sym its.cut_so.register)
    (cuts.set_form lo hi framed a its.pointer.register found.1 form general.0 general.1
    (cut_normal laws a its.pointer its.windows found form general.0 general.1 its.cut_so)))

front_same : (device : Device) (promises : List Promise) (a : Known) (pc : ℕ) (instr_so : Instr)
    → let b = front device promises a pc instr_so in (b.sp ≡ a.sp) × (b.status ≡ a.status) × (b.late ≡ a.late)
front_same device promises a pc instr_so =
    in_front device promises a pc instr_so (λ b. (b.sp ≡ a.sp) × (b.status ≡ a.status) × (b.late ≡ a.late)) (refl, refl, refl) (λ found its. (refl, refl, refl))

-- COVER

-- the windows of an address, where RAM answers at one address alone
plain_windows : (mirror : Option (ℕ × ℕ)) (promised : Option (List Window)) (windows : List Window)
    → (if is_some mirror then None else promised) ≡ Some windows → (mirror ≡ None) × (promised ≡ Some windows)
plain_windows None promised windows e = (refl, e)
plain_windows (Some range) promised windows e = absurd (cc)

size_some : (width : Width) → 0 < size_of width
size_some Word = omega arith
size_some Byte = omega arith

-- a store begins at or below its address, and has it
begins_below : (width : Width) (address : ℕ) → begins width address ≤ address
begins_below Word address = omega arith
begins_below Byte address = omega arith

begins_near : (width : Width) (address : ℕ) → address < begins width address + size_of width
begins_near Word address = omega arith
begins_near Byte address = omega arith

module _ (laws : KnownLaws) (places : PlaceLaws) (device : Device) (promises : List Promise) (framed : Bool) (a : Known) (s : ChipState) (first : Option ChipState)
    (instr_so : Instr) (len : ℕ) (outcome : Outcome ChipState) (under : IsUnder device framed a s first) (is : decoded device.image (register_of s 0) ≡ Ok (instr_so, len))
    (may : MayRun device s instr_so len outcome) (is_kept : IsKept device promises s outcome) where
  -- the pointer is in what is left
  in_cut : (found : ℕ × Form) (its : IsCutBy device promises a (register_of s 0) instr_so found) → Has 65536 found.1 (register_of s its.pointer.register)
  in_cut found its =
      let pc = register_of s 0 in
      let pointer = its.pointer in
      let r = register_of s pointer.register in
      let window = its.cut_so.window in
      let points = instr_points places device s len instr_so outcome pointer under.holds.state its.points may in
      let plain = plain_windows device.ram.mirror (windows_at (spoken device.image) promises pc) its.windows its.promised in
      let site = site_is device.image pc len instr_so under.holds.state.even_pc is ∙ points.site in
      let at = begins points.width points.address in
      let size = size_of points.width in
      let some = stands_so device promises s instr_so points.width points.address outcome its.windows plain.0 site plain.1 points.stored is_kept in
      let one = one_alone window (register_of s 1) at size (subst (λ all. is_in_one all (register_of s 1) at size ≡ true) its.cut_so.alone some) in
      let stands = stands_in laws a.sp window (register_of s 1) at size under.form.sp.normal under.holds.parts.sp (size_some points.width) one in
      let word = (under.holds.parts.words pointer.register points.above points.below).0 in
      let set = (word_of a pointer.register).set in
      let normal = set_of a pointer.register under.form points.above points.below in
      let low = first_in a.sp window in
      let behind = behind_in a.sp window in
      let within = points_in low behind r pointer.added at size (laws.sets.below 65536 r set normal word) points.added stands.first stands.last
      (subst (λ n. at ≤ n) points.address_is (begins_below points.width points.address)) (subst (λ n. n < at + size) points.address_is (begins_near points.width points.address)) in
      laws.sets.cut_holds 65536 ((low + 65536 - pointer.added) % 65536) (behind - low) r set found.1 normal (low_end _) its.cut_so.cut_is word within

  front_holds : CutsHold → IsUnder device framed (front device promises a (register_of s 0) instr_so) s first
  front_holds cuts =
      in_front device promises a (register_of s 0) instr_so (λ b. IsUnder device framed b s first) under (λ found its.
      let general = general_pointer instr_so its.pointer its.points in
      let normal = cut_normal laws a its.pointer its.windows found under.form general.0 general.1 its.cut_so in
      let b = with_set a its.pointer.register found.1 in
      subst (λ r. IsUnder device framed (with_set a r found.1) s first) (sym its.cut_so.register) (record {
        device_so = under.device_so;
        base = under.base;
        form = cuts.set_form device.ram.lo device.ram.hi framed a its.pointer.register found.1 under.form general.0 general.1 normal;
        holds = cuts.set device device.ram.lo device.ram.hi framed a s first its.pointer.register found.1 under.form general.0 general.1 (in_cut found its) under.holds;
      }))

-- WITHOUT PROMISES

none_at : (spoken_so : Spoken) (pc : ℕ) → windows_at spoken_so [] pc ≡ None
none_at spoken_so pc = cond_both (is_store (spoken_so.at pc)) None None (λ (windows : Option (List Window)). windows ≡ None) (λ _. refl) (λ _. refl)

none_keep : (spoken_so : Spoken) (items : List Single) (pc : Option ℕ) → keeps_at spoken_so [] pc items ≡ true
none_keep spoken_so items None = refl
none_keep spoken_so items (Some pc) =
    subst (λ windows. (keeps_windows spoken_so.growth windows items && true) ≡ true) (sym (none_at spoken_so pc)) refl

none_kept : (device : Device) (s : ChipState) (outcome : Outcome ChipState) → IsKept device [] s outcome
none_kept device s (Next items t) = none_keep (spoken device.image) items (pc_of items)
none_kept device s (Leaves (Store at)) =
    subst (λ windows. allows windows (site_at device.image (register_of s 0)) (register_of s 1) at ≡ true) (sym (none_at (spoken device.image) (register_of s 0))) refl
none_kept device s (Leaves (NoInstr refusal)) = tt
none_kept device s (Leaves (Push at)) = tt

-- THE LAWS

pub fronts : KnownLaws → CutsHold → PlaceLaws → FrontLaws
fronts laws cuts places = record {
  form = front_form laws cuts;
  same = front_same;
  holds = λ device promises framed a s first instr_so len outcome under is may is_kept.
      front_holds laws places device promises framed a s first instr_so len outcome under is may is_kept cuts;
  none = none_kept;
}

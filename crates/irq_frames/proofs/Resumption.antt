-- What holds of what goes on behind a handler.
use Rattle.std.proofs.Common.{◌≡◌, ℕ, ◌+◌, ◌-◌, ◌*◌, ◌%◌, ◌<◌, ◌≤◌, true, Option, None, Some, List, [], ◌∷◌, map, refl, sym, ◌∙◌, ap, subst, inl, inr, arith, bit_and, bit_or}
use Rattle.std.specs.Prelude.{◌⊎◌, ◌==◌, not, Contains}
use Rattle.std.specs.List.{filter}
use Rattle.std.proofs.lemmas.Bool.{cases_Bool, cond_both, and_parts, eqb-false, eqb-true, not-true}
use Rattle.value_set.specs.Form.{IsNormal}
use Rattle.entry_value.specs.declared.cells.Cell.{Cell}
use Rattle.entry_value.specs.declared.word.Entry.{Entry}
use Rattle.entry_value.specs.declared.word.Word.{Word}
use Rattle.entry_value.specs.Words.{Suspended, IsFromEntry, HoldsOfWord, word_and}
use Rattle.entry_value.specs.Cells.{CellMap, IsCell, StandsUnder, number_at, written, write_one}
use Rattle.irq_frames.specs.Ranges.{has_address}
use Rattle.irq_frames.specs.Resuming.{is_unmasked, masked_by, resumed_by, resumed_sized, resumed_word, going_on, is_all_touched, is_untouched, untouched_cells, touched_cells, with_written, cells_behind, FitsCell, EachFits, EachHolds, HasMasks, IsBehind, Tells, AreNormal, EachTells, IsCellMap, CanResume, AgreeOutside, IsFromEither}
use Rattle.irq_frames.specs.MaskFacts.{unmasked_is}
use Rattle.entry_value.specs.Laws.{CellLaws, WordLaws}
use Rattle.entry_value.specs.CellLists.{Each, StandsAt, cell_of, each_both, each_cell, each_filter, each_from, each_in, each_map, each_then, each_written, filtered_form, some_size}
use Rattle.plain_lemmas.specs.Small.{byte_alone, high_of, low_of, word_alone}

-- WORDS

masked_holds : (words : WordLaws) (first : Option Suspended) (entry : Entry) (held : Word) (word : ℕ) → HasMasks (Some entry)
    → IsNormal 65536 held.set → word < 65536
    → HoldsOfWord first held word → HoldsOfWord first (masked_by entry held) (bit_or (bit_and word entry.and) entry.or)
masked_holds words first entry held word masks normal below holds = elim (cases_Bool (is_unmasked 65535 entry)) [
  | inl whole ↦ rw whole (subst (λ (v : ℕ). HoldsOfWord first held v) (sym (unmasked_is 16 entry word whole ∙ word_alone word below)) holds)
  | inr some ↦ rw some (words.or first entry.or (bit_and word entry.and) (word_and entry.and held) masks.1 (words.and_normal entry.and held masks.0 normal)
      (words.and first entry.and word held masks.0 normal holds))
]

by_holds : (words : WordLaws) (places : ℕ → Word) (f : Suspended) (first : Option Suspended) (exit : Word) (entry : Option Entry) (v : ℕ)
    → exit.entry ≡ entry → AreNormal places
    → HasMasks entry → Tells places f first entry → HoldsOfWord (Some f) exit v → HoldsOfWord first (resumed_by places exit entry) v
by_holds words places f first exit None v is normal masks tells holds = (holds.0, subst (λ (entry : Option Entry). IsFromEntry first entry v) (sym is) tt)
by_holds words places f first exit (Some entry) v is normal masks tells holds =
    let from : IsFromEntry (Some f) (Some entry) v = subst (λ (one : Option Entry). IsFromEntry (Some f) one v) is holds.1 in
    subst (λ (n : ℕ). HoldsOfWord first (masked_by entry (places entry.place)) n) (sym from.2)
    (masked_holds words first entry (places entry.place) from.0 masks (normal entry.place) from.1.0 (tells from.0 from.1))

pub word_holds : (words : WordLaws) (places : ℕ → Word) (f : Suspended) (first : Option Suspended) (exit : Word) (v : ℕ) → AreNormal places
    → HasMasks exit.entry → Tells places f first exit.entry → HoldsOfWord (Some f) exit v → HoldsOfWord first (resumed_word places exit) v
word_holds words places f first exit v normal masks tells holds = by_holds words places f first exit exit.entry v refl normal masks tells holds

masked_normal : (words : WordLaws) (entry : Entry) (held : Word) → HasMasks (Some entry) → IsNormal 65536 held.set
    → IsNormal 65536 (masked_by entry held).set
masked_normal words entry held masks normal = elim (cases_Bool (is_unmasked 65535 entry)) [
  | inl whole ↦ rw whole normal
  | inr some ↦ rw some (words.or_normal entry.or (word_and entry.and held) masks.1 (words.and_normal entry.and held masks.0 normal))
]

by_normal : (words : WordLaws) (places : ℕ → Word) (exit : Word) (entry : Option Entry) → AreNormal places
    → HasMasks entry → IsNormal 65536 exit.set
    → IsNormal 65536 (resumed_by places exit entry).set
by_normal words places exit None normal masks own = own
by_normal words places exit (Some entry) normal masks own = masked_normal words entry (places entry.place) masks (normal entry.place)

pub word_normal : (words : WordLaws) (places : ℕ → Word) (exit : Word) → AreNormal places → HasMasks exit.entry → IsNormal 65536 exit.set
    → IsNormal 65536 (resumed_word places exit).set
word_normal words places exit = by_normal words places exit exit.entry

-- its relation
by_none : (places : ℕ → Word) (exit : Word) (entry : Option Entry) → exit.entry ≡ None → entry ≡ None
    → (resumed_by places exit entry).entry ≡ None
by_none places exit None is same = is
by_none places exit (Some entry) is same = absurd (cc)

pub word_none : (places : ℕ → Word) (exit : Word) → exit.entry ≡ None → (resumed_word places exit).entry ≡ None
word_none places exit is = by_none places exit exit.entry is is

masked_entry : (entry : Entry) (held : Word) → IsBehind entry held.entry (masked_by entry held).entry
masked_entry entry held = elim (cases_Bool (is_unmasked 65535 entry)) [
  | inl whole ↦ inl (rw whole refl)
  | inr some ↦ inr (rw some refl)
]

pub word_entry : (places : ℕ → Word) (exit : Word) (entry : Entry) → exit.entry ≡ Some entry
    → IsBehind entry (places entry.place).entry (resumed_word places exit).entry
word_entry places exit entry is = subst (λ (one : Option Entry). IsBehind entry (places entry.place).entry (resumed_by places exit one).entry) (sym is) (masked_entry entry (places entry.place))

-- CELLS THAT ARE WRITTEN

all_each : (P : Cell → Type 0) (cells : List Cell) (held : CellMap) → Each P cells → Each P held.cells
    → Each P (with_written cells held).cells
all_each P [] held h k = k
all_each P (cell ∷ cells) held h k = all_each P cells (write_one held cell.place cell.size cell.word) h.1 (each_written P held cell h.0 k)

record IsWritten (cell : Cell) : Type 0 where
  size : (cell.size ≡ 1) ⊎ (cell.size ≡ 2)
  high : cell.place < 65536
  fits : FitsCell cell.size cell.word

-- a RAM stays behind a write of what stands in it
rewritten_byte : (ram : ℕ → ℕ) (at address : ℕ) → ((b : ℕ) → ram b < 256) → written ram at 1 (ram at) address ≡ ram address
unfolding written
rewritten_byte ram at address bytes = elim (cases_Bool (address == at)) [
  | inl same ↦ rw same (byte_alone (ram at) (bytes at) ∙ ap ram (sym (eqb-true address at same)))
  | inr other ↦ rw other refl
]

rewritten_word : (ram : ℕ → ℕ) (at address : ℕ) → ((b : ℕ) → ram b < 256)
    → written ram at 2 (ram at + 256 * ram ((at + 1) % 65536)) address ≡ ram address
unfolding written
rewritten_word ram at address bytes = elim (cases_Bool (address == at)) [
  | inl same ↦ rw same (low_of (ram at) (ram ((at + 1) % 65536)) (bytes at) ∙ ap ram (sym (eqb-true address at same)))
  | inr other ↦ rw other (elim (cases_Bool (address == (at + 1) % 65536)) [
    | inl next ↦ rw next (high_of (ram at) (ram ((at + 1) % 65536)) (bytes at) ∙ ap ram (sym (eqb-true address ((at + 1) % 65536) next)))
    | inr beyond ↦ rw beyond refl
  ])
]

rewritten : (ram : ℕ → ℕ) (at size address : ℕ) → ((b : ℕ) → ram b < 256) → (size ≡ 1) ⊎ (size ≡ 2)
    → written ram at size (number_at ram at size) address ≡ ram address
rewritten ram at size address bytes (inl one) = subst (λ (s : ℕ). written ram at s (number_at ram at s) address ≡ ram address) (sym one) (rewritten_byte ram at address bytes)
rewritten ram at size address bytes (inr two) = subst (λ (s : ℕ). written ram at s (number_at ram at s) address ≡ ram address) (sym two) (rewritten_word ram at address bytes)

one_formed : (laws : CellLaws) (held : CellMap) (cell : Cell) → IsCellMap held → IsWritten cell
    → IsCellMap (write_one held cell.place cell.size cell.word)
unfolding write_one
one_formed laws held cell form is = record {
  high = form.high;
  are = laws.write_form held.lo cell.place cell.size held cell.word form.high (omega arith) form.are is.size is.fits.normal is.fits.byte;
}

one_stands : (laws : CellLaws) (first : Option Suspended) (ram : ℕ → ℕ) (held : CellMap) (cell : Cell) → IsCellMap held → IsWritten cell
    → StandsAt first ram cell
    → StandsUnder first held.cells ram → StandsUnder first (write_one held cell.place cell.size cell.word).cells ram
one_stands laws first ram held cell form is stands under =
    let at = cell.place in
    let size = cell.size in
    let v = number_at ram at size in
    laws.agree first (written ram at size v) ram held.lo held.hi held.lo (write_one held at size cell.word).cells form.high
    (laws.write_form held.lo at size held cell.word form.high (omega arith) form.are is.size is.fits.normal is.fits.byte)
    under.0 (λ b low high. rewritten ram at size b under.0 is.size)
    (laws.write first ram held.lo at size v held cell.word form.high form.are is.high is.size is.fits.normal is.fits.byte under stands)

all_formed : (laws : CellLaws) (cells : List Cell) (held : CellMap) → IsCellMap held → Each IsWritten cells
    → IsCellMap (with_written cells held)
all_formed laws [] held form each = form
all_formed laws (cell ∷ cells) held form each = all_formed laws cells (write_one held cell.place cell.size cell.word) (one_formed laws held cell form each.0) each.1

all_stand : (laws : CellLaws) (first : Option Suspended) (ram : ℕ → ℕ) (cells : List Cell) (held : CellMap) → IsCellMap held
    → Each (λ cell. IsWritten cell × StandsAt first ram cell) cells
    → StandsUnder first held.cells ram → StandsUnder first (with_written cells held).cells ram
all_stand laws first ram [] held form each under = under
all_stand laws first ram (cell ∷ cells) held form each under = all_stand laws first ram cells (write_one held cell.place cell.size cell.word)
    (one_formed laws held cell form each.0.0) each.1 (one_stands laws first ram held cell form each.0.0 each.0.1 under)

same_ends : (cells : List Cell) (held : CellMap) → ((with_written cells held).lo ≡ held.lo) × ((with_written cells held).hi ≡ held.hi)
unfolding write_one
same_ends [] held = (refl, refl)
same_ends (cell ∷ cells) held = same_ends cells (write_one held cell.place cell.size cell.word)

-- WHAT NO HANDLER TOUCHED

untouched_form : (touched : List (ℕ × ℕ)) (at : CellMap) → IsCellMap at → IsCellMap (record at { cells = untouched_cells touched at.cells })
untouched_form touched at form = record {
  high = form.high;
  are = filtered_form at.lo at.hi at.lo (λ cell. is_untouched touched cell.place cell.size) at.cells form.are;
}

within_turn : (place : ℕ) → place + 2 ≤ 65536 → (place + 1) % 65536 ≡ place + 2 - 1
within_turn place h = omega arith

same_place : (touched : List (ℕ × ℕ)) (now then_ : ℕ → ℕ) (place size : ℕ) → (size ≡ 1) ⊎ (size ≡ 2)
    → place + size ≤ 65536 → AgreeOutside touched now then_
    → is_untouched touched place size ≡ true → number_at now place size ≡ number_at then_ place size
same_place touched now then_ place size sized whole agree none =
    let parts = and_parts (not (has_address touched place)) (not (has_address touched (place + size - 1))) none in
    let first : now place ≡ then_ place = agree place (not-true (has_address touched place) parts.0) in
    let last : now (place + size - 1) ≡ then_ (place + size - 1) = agree (place + size - 1) (not-true (has_address touched (place + size - 1)) parts.1) in
    elim sized [
      | inl one ↦ subst (λ (s : ℕ). number_at now place s ≡ number_at then_ place s) (sym one) first
      | inr two ↦
          let at = within_turn place (omega (arith, two, whole)) in
          let next : now (place + 2 - 1) ≡ then_ (place + 2 - 1) = subst (λ (s : ℕ). now (place + s - 1) ≡ then_ (place + s - 1)) two last in
          let high : now ((place + 1) % 65536) ≡ then_ ((place + 1) % 65536) = ap now at ∙ next ∙ ap then_ (sym at) in
          subst (λ (s : ℕ). number_at now place s ≡ number_at then_ place s) (sym two)
          (ap (λ (b : ℕ). b + 256 * now ((place + 1) % 65536)) first ∙ ap (λ (b : ℕ). then_ place + 256 * b) high)
    ]

untouched_stand : (first : Option Suspended) (touched : List (ℕ × ℕ)) (now then_ : ℕ → ℕ) (at : CellMap) → IsCellMap at
    → ((b : ℕ) → now b < 256)
    → AgreeOutside touched now then_
    → StandsUnder first at.cells then_ → StandsUnder first (untouched_cells touched at.cells) now
untouched_stand first touched now then_ at form bytes agree under =
    let test = λ (cell : Cell). is_untouched touched cell.place cell.size in
    let each = each_both (StandsAt first then_) (IsCell at.lo at.hi) at.cells (each_from (StandsAt first then_) at.cells under.1) (each_cell at.lo at.hi at.lo at.cells form.are) in
    let kept = each_then (λ cell. (StandsAt first then_ cell × IsCell at.lo at.hi cell) × (test cell ≡ true)) (StandsAt first now) (filter test at.cells)
    (λ cell h. subst (λ (n : ℕ). HoldsOfWord first cell.word n)
    (sym (same_place touched now then_ cell.place cell.size h.0.1.size (omega (arith, h.0.1.high, form.high)) agree h.1)) h.0.0)
    (each_filter (λ cell. StandsAt first then_ cell × IsCell at.lo at.hi cell) test at.cells each) in
    (bytes, each_in (StandsAt first now) (filter test at.cells) kept)

-- CELLS THAT GO ON

exit_each : (words : Cell → Word) (P : Cell → Type 0) (touched : List (ℕ × ℕ)) (cells : List Cell)
    → ((cell : Cell) → Contains cells cell → P (going_on words cell))
    → Each P (map (going_on words) (touched_cells touched cells))
exit_each words P touched cells each =
    let test = λ (cell : Cell). is_all_touched touched cell.place cell.size in
    let Q = λ (cell : Cell). P (going_on words cell) in
    each_map (λ cell. Q cell × (test cell ≡ true)) P (going_on words) (filter test cells) (λ cell h. h.0) (each_filter Q test cells (each_from Q cells each))

exit_written : (words : Cell → Word) (exit : CellMap) → IsCellMap exit → EachFits words exit.cells → (cell : Cell)
    → Contains exit.cells cell
    → IsWritten (going_on words cell)
exit_written words exit form fit cell held =
    let is = cell_of exit.lo exit.hi exit.lo exit.cells cell form.are held in
    record {
      size = is.size;
      high = omega (arith, is.high, form.high, some_size cell.size is.size);
      fits = fit cell held;
    }

pub cells_stand : (cells : CellLaws) (words : Cell → Word) (first : Option Suspended) (then_ now : ℕ → ℕ) (at exit : CellMap) (touched : List (ℕ × ℕ))
    → IsCellMap at → IsCellMap exit → EachFits words exit.cells → EachHolds first words now exit.cells → AgreeOutside touched now then_
    → ((b : ℕ) → now b < 256) → StandsUnder first at.cells then_ → StandsUnder first (cells_behind words at exit touched).cells now
unfolding cells_behind
cells_stand cells words first then_ now at exit touched form exit_form fit hold agree bytes under =
    all_stand cells first now (map (going_on words) (touched_cells touched exit.cells)) (record at { cells = untouched_cells touched at.cells }) (untouched_form touched at form)
    (exit_each words (λ cell. IsWritten cell × StandsAt first now cell) touched exit.cells (λ cell held. (exit_written words exit exit_form fit cell held, hold cell held)))
    (untouched_stand first touched now then_ at form bytes agree under)

pub cells_formed : (cells : CellLaws) (words : Cell → Word) (at exit : CellMap) (touched : List (ℕ × ℕ)) → IsCellMap at
    → IsCellMap exit → EachFits words exit.cells
    → IsCellMap (cells_behind words at exit touched)
unfolding cells_behind
cells_formed cells words at exit touched form exit_form fit =
    all_formed cells (map (going_on words) (touched_cells touched exit.cells)) (record at { cells = untouched_cells touched at.cells }) (untouched_form touched at form)
    (exit_each words IsWritten touched exit.cells (exit_written words exit exit_form fit))

pub ends_stay : (words : Cell → Word) (at exit : CellMap) (touched : List (ℕ × ℕ))
    → ((cells_behind words at exit touched).lo ≡ at.lo) × ((cells_behind words at exit touched).hi ≡ at.hi)
unfolding cells_behind
ends_stay words at exit touched = same_ends (map (going_on words) (touched_cells touched exit.cells)) (record at { cells = untouched_cells touched at.cells })

pub cells_from : (words : Cell → Word) (at exit : CellMap) (touched : List (ℕ × ℕ)) (cell : Cell)
    → Contains (cells_behind words at exit touched).cells cell
    → IsFromEither words at.cells exit.cells cell
unfolding cells_behind
cells_from words at exit touched =
    let P = IsFromEither words at.cells exit.cells in
    let test = λ (cell : Cell). is_untouched touched cell.place cell.size in
    let first = record at { cells = untouched_cells touched at.cells } in
    let written_ones = map (going_on words) (touched_cells touched exit.cells) in
    each_in P (with_written written_ones first).cells (all_each P written_ones first
    (exit_each words P touched exit.cells (λ one held. inr (one, held, refl)))
    (each_then (λ cell. P cell × (test cell ≡ true)) P (filter test at.cells) (λ cell h. h.0) (each_filter P test at.cells (each_from P at.cells (λ cell held. inl held)))))

-- BY WHAT THE PLACES HELD

pub sized_fit : (words : WordLaws) (places : ℕ → Word) (exit : CellMap) → CanResume places exit → EachFits (resumed_sized places) exit.cells
sized_fit words places exit can cell held =
    let is = cell_of exit.lo exit.hi exit.lo exit.cells cell can.form.are held in
    elim (cases_Bool (cell.size == 1)) [
      | inl one ↦ rw one record { normal = is.normal; byte = is.byte }
      | inr two ↦ rw two record {
        normal = word_normal words places cell.word can.normal (can.masks cell held) is.normal;
        byte = λ one. absurd (eqb-false cell.size 1 two one);
      }
    ]

pub sized_hold : (words : WordLaws) (places : ℕ → Word) (suspended : Suspended) (first : Option Suspended) (now : ℕ → ℕ) (exit : CellMap)
    → CanResume places exit
    → EachTells places suspended first exit.cells → StandsUnder (Some suspended) exit.cells now
    → EachHolds first (resumed_sized places) now exit.cells
sized_hold words places f first now exit can tells left cell held =
    let v = number_at now cell.place cell.size in
    cond_both (cell.size == 1) (record { set = cell.word.set; entry = None }) (resumed_word places cell.word) (λ (word : Word). HoldsOfWord first word v)
    (λ one. ((left.1 cell held).0, tt))
    (λ two. word_holds words places f first cell.word v can.normal (can.masks cell held) (tells cell held) (left.1 cell held))

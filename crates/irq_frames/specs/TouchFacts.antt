-- What may be touched where a suspended state goes on: lemmas, also for the proofs of crates above.
use Rattle.std.proofs.Common.{◌≡◌, ℕ, Bool, true, false, List, [], refl, ◌∙◌, inl, inr}
use Rattle.std.proofs.lemmas.Bool.{cases_Bool}
use Rattle.irq_frames.specs.Laws.{RangeLaws}
use Rattle.irq_frames.specs.Ranges.{AreRanges, has_address, ranges_within, touched_behind, united}
use Rattle.irq_frames.specs.Resuming.{AgreeOutside}

lacks : (laws : RangeLaws) (at : ℕ) (ranges all : List (ℕ × ℕ)) → ranges_within ranges all ≡ true
    → has_address all at ≡ false → has_address ranges at ≡ false
lacks laws at ranges all within none = elim (cases_Bool (has_address ranges at)) [
  | inl some ↦ let there : has_address all at ≡ true = laws.has at ranges all within some in absurd (cc)
  | inr lacking ↦ lacking
]

-- a RAM that two handlers have changed, one behind the other
pub agree_behind : (laws : RangeLaws) (touched exit : List (ℕ × ℕ)) (before between behind : ℕ → ℕ)
    → AgreeOutside touched between before → AgreeOutside exit behind between
    → AgreeOutside (united touched exit) behind before
agree_behind laws touched exit before between behind one other at none =
    other at (lacks laws at exit (united touched exit) (laws.unite_second touched exit) none)
    ∙ one at (lacks laws at touched (united touched exit) (laws.unite_first touched exit) none)

pub touched_form : (laws : RangeLaws) (lo hi : ℕ) (framed : Bool) (touched exit : List (ℕ × ℕ))
    → AreRanges lo hi touched → AreRanges lo hi exit
    → AreRanges lo hi (touched_behind framed touched exit)
touched_form laws lo hi true touched exit form exit_form = laws.unite_form lo hi touched exit form exit_form
touched_form laws lo hi false touched exit form exit_form = tt

pub none_touched : (framed : Bool) (touched exit : List (ℕ × ℕ)) → framed ≡ false → touched_behind framed touched exit ≡ []
none_touched true touched exit base = absurd (cc)
none_touched false touched exit base = refl

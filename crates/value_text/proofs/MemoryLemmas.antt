-- The text of a memory, and its first field that isn't within another's.
use Rattle.std.proofs.Common.{◌≡◌, ℕ, true, false, Some, List, [], ◌∷◌, ◌++◌, ap, ap₂, ◌∙◌, append_assoc}
use Rattle.std.specs.Prelude.{codes}
use Rattle.entry_value.specs.Cells.{are_within}
use Rattle.irq_frames.specs.Ranges.{ranges_within}
use Rattle.node_fields.specs.declared.outside.Outside.{Outside}
use Rattle.text_fields.specs.Spelling.{Spelling}
use Rattle.value_text.specs.Memories.{Memory, memory_outside}
use Rattle.value_text.specs.Ranges.{ranges_text}

-- a name, the cells, a space with a name, and the ranges
pub memory_written : (out one two three four name cells other ranges : List ℕ) → one ≡ out ++ name → two ≡ one ++ cells
    → three ≡ two ++ 32 ∷ other
    → four ≡ three ++ ranges → four ≡ out ++ ((name ++ cells) ++ 32 ∷ (other ++ ranges))
memory_written out one two three four name cells other ranges first second third fourth =
    fourth ∙ ap (λ (t : List ℕ). t ++ ranges) (third ∙ ap (λ (t : List ℕ). t ++ 32 ∷ other) (second ∙ ap (λ (t : List ℕ). t ++ cells) first))
    ∙ append_assoc ((out ++ name) ++ cells) (32 ∷ other) ranges
    ∙ ap (λ (t : List ℕ). t ++ 32 ∷ (other ++ ranges)) (append_assoc out name cells)
    ∙ append_assoc out (name ++ cells) (32 ∷ (other ++ ranges))

-- what is written to an empty text
pub text_alone : (start text out : List ℕ) → start ≡ [] → out ≡ start ++ text → out ≡ text
text_alone start text out none is = is ∙ ap (λ (t : List ℕ). t ++ text) none

-- the cells are within, and the ranges aren't
pub ranges_told : (digits : ℕ) (place : Spelling ℕ) (new held : Memory) (field : Outside) (posted kept : List ℕ)
    → are_within new.0 held.0 ≡ true
    → ranges_within new.1 held.1 ≡ false → field ≡ record { field = codes "T"; posted = posted; held = kept }
    → posted ≡ ranges_text digits new.1
    → kept ≡ ranges_text digits held.1 → Some field ≡ memory_outside digits place new held
ranges_told digits place new held field posted kept cells ranges is one two =
    let made : List ℕ → List ℕ → Outside = λ posted kept. record { field = codes "T"; posted = posted; held = kept } in
    rw (cells, ranges) (ap Some (is ∙ ap₂ made one two))

-- The registers of two states one by one.
use Rattle.std.proofs.Common.{◌≡◌, ℕ, ◌+◌, ◌<◌, true, false, Some, List, length, drop, get_or, refl, ap, ◌∙◌}
use Rattle.std.proofs.lemmas.List.{drop_more}
use Rattle.entry_value.specs.declared.word.Word.{Word}
use Rattle.entry_value.specs.Words.{word_within}
use Rattle.value_text.specs.Words.{word_text}
use Rattle.msp430_fields.specs.Places.{place_field}
use Rattle.node_fields.specs.Outside.{or_else, told, unless}
use Rattle.msp430_fields.specs.Outside.{registers_outside}

module _ (rows : List (ℕ × List ℕ)) (new held : List Word) (i : ℕ) (row : ℕ × List ℕ) (n h : Word) where
  this_one : i < length rows → i < length new → i < length held
      → registers_outside (drop i rows) (drop i new) (drop i held)
      ≡ or_else (unless (word_within (get_or new i n) (get_or held i h)) (told (get_or rows i row).1 (word_text 4 place_field)
      (get_or new i n) (get_or held i h)))
      (registers_outside (drop (i + 1) rows) (drop (i + 1) new) (drop (i + 1) held))
  this_one in_rows in_new in_held = rw (drop_more rows i row in_rows, drop_more new i n in_new, drop_more held i h in_held) refl

  -- this one is within
  pub registers_go_on : i < length rows → i < length new → i < length held → word_within (get_or new i n) (get_or held i h) ≡ true
      → registers_outside (drop i rows) (drop i new) (drop i held) ≡ registers_outside (drop (i + 1) rows) (drop (i + 1) new) (drop (i + 1) held)
  registers_go_on in_rows in_new in_held within = this_one in_rows in_new in_held
      ∙ ap (λ b. or_else (unless b (told (get_or rows i row).1 (word_text 4 place_field) (get_or new i n) (get_or held i h)))
      (registers_outside (drop (i + 1) rows) (drop (i + 1) new) (drop (i + 1) held))) within

  -- or it is the first that isn't
  pub registers_found : i < length rows → i < length new → i < length held → word_within (get_or new i n) (get_or held i h) ≡ false
      → registers_outside (drop i rows) (drop i new) (drop i held)
      ≡ Some (told (get_or rows i row).1 (word_text 4 place_field) (get_or new i n) (get_or held i h))
  registers_found in_rows in_new in_held within = this_one in_rows in_new in_held
      ∙ ap (λ b. or_else (unless b (told (get_or rows i row).1 (word_text 4 place_field) (get_or new i n) (get_or held i h)))
      (registers_outside (drop (i + 1) rows) (drop (i + 1) new) (drop (i + 1) held))) within

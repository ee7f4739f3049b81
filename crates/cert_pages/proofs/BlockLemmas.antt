-- Cells of one block, the first one of which is looked at.
use Rattle.std.proofs.Common.{Bool, ◌≡◌, ℕ, ◌+◌, refl, sym, ap, ap₂, ◌∙◌, true, false, inl, inr, Option, None, Some, List, [], ◌∷◌, ◌++◌}
use Rattle.std.specs.Prelude.{◌==◌, ◌&&◌, ◌/◌, nat_le, is_some, option_map}
use Rattle.std.specs.List.{list_all}
use Rattle.std.proofs.lemmas.Bool.{and_parts, cases_Bool, false≢true}
use Rattle.std.proofs.lemmas.Option.{none-some, same_Some}
use Rattle.text_fields.specs.Spelling.{has_byte}
use Rattle.text_fields.specs.Fields.{cut_at, cut_only}
use Rattle.text_fields.specs.Lists.{split_first, split_none}
use Rattle.state_text.specs.Cells.{ascend, follows, loose_cell}
use Rattle.cert_pages.specs.Pages.{block_in, cut_by, next_place, place_by, place_from}

unmapped : {A B : Type 0} (f : A → B) (o : Option A) → option_map f o ≡ None → o ≡ None
unmapped f None e = refl
unmapped f (Some a) e = absurd (none-some (f a) (sym e))

pub uncut : (at : ℕ) (text : List ℕ) → cut_at at text ≡ None → has_byte at text ≡ false
uncut at [] e = refl
uncut at (b ∷ text) e = elim (cases_Bool (b == at)) [
  | inl same ↦ absurd (none-some ([], text) (sym (rw same at e)))
  | inr other ↦ rw other (uncut at text (unmapped _ (cut_at at text) (rw other at e)))
]

pub cut_first : (at : ℕ) (text front rest : List ℕ) → Some (front, rest) ≡ cut_at at text → cut_by at text ≡ front ∷ cut_by at rest
cut_first at text front rest e =
    let is = cut_only at text (front, rest) (sym e) in
    ap (cut_by at) (sym is.0) ∙ split_first at front rest is.1

pub cut_last : (at : ℕ) (text : List ℕ) → None ≡ cut_at at text → cut_by at text ≡ text ∷ []
cut_last at text e = split_none at text (uncut at text (sym e))

module _ (digits : ℕ) where
  -- they ascend from an address on, in the block
  abbrev pub ascend_in : (from block : ℕ) → List (List ℕ) → Bool
  ascend_in from block cells = ascend digits from cells && list_all (λ cell. block_in digits cell == block) cells

  next_of : (from block : ℕ) (cell : List ℕ) (cells : List (List ℕ)) (found : Option ((ℕ × ℕ) × List ℕ)) (place : ℕ)
      → (loose_cell digits).value cell ≡ found → place_from from block found ≡ Some place
      → ascend_in from block (cell ∷ cells) ≡ ascend_in (place + 1) block cells
  unfolding block_in
  next_of from block cell cells None place is e = absurd (none-some place e)
  next_of from block cell cells (Some found) place is e = elim (cases_Bool (nat_le from found.0.0 && (found.0.0 / 32 == block))) [
    | inl here ↦
        let parts = and_parts (nat_le from found.0.0) (found.0.0 / 32 == block) here in
        let place_is : found.0.0 ≡ place = same_Some found.0.0 place (rw here at e) in
        rw (is, parts.0, parts.1, place_is) refl
    | inr other ↦ absurd (none-some place (rw other at e))
  ]

  pub next_cell : (from block : ℕ) (cell : List ℕ) (cells : List (List ℕ)) (place : ℕ) → Some place ≡ next_place digits cell from block
      → ascend_in from block (cell ∷ cells) ≡ ascend_in (place + 1) block cells
  next_cell from block cell cells place e = next_of from block cell cells ((loose_cell digits).value cell) place refl (sym e)

  and_false : (first rest both all : Bool) → (first && both) ≡ false → ((first && rest) && (both && all)) ≡ false
  and_false true true both all e = rw e refl
  and_false true false both all e = refl
  and_false false rest both all e = refl

  none_of : (from block : ℕ) (cell : List ℕ) (cells : List (List ℕ)) (found : Option ((ℕ × ℕ) × List ℕ))
      → (loose_cell digits).value cell ≡ found → place_from from block found ≡ None → ascend_in from block (cell ∷ cells) ≡ false
  unfolding block_in
  none_of from block cell cells None is e = rw is refl
  none_of from block cell cells (Some found) is e = elim (cases_Bool (nat_le from found.0.0 && (found.0.0 / 32 == block))) [
    | inl here ↦ absurd (none-some found.0.0 (sym (rw here at e)))
    | inr other ↦
        rw is (and_false (nat_le from found.0.0) (ascend digits (found.0.0 + 1) cells) (found.0.0 / 32 == block)
        (list_all (λ c. block_in digits c == block) cells) other)
  ]

  pub no_cell : (from block : ℕ) (cell : List ℕ) (cells : List (List ℕ)) → None ≡ next_place digits cell from block
      → ascend_in from block (cell ∷ cells) ≡ false
  no_cell from block cell cells e = none_of from block cell cells ((loose_cell digits).value cell) refl (sym e)

  one_by : (from block : ℕ) (cell : List ℕ) (found : Option ℕ) → found ≡ next_place digits cell from block
      → is_some found ≡ ascend_in from block (cell ∷ [])
  one_by from block cell None e = sym (no_cell from block cell [] e)
  one_by from block cell (Some place) e = sym (next_cell from block cell [] place e)

  pub one_cell : (from block : ℕ) (text : List ℕ) → None ≡ cut_at 59 text
      → is_some (next_place digits text from block) ≡ ascend_in from block (cut_by 59 text)
  one_cell from block text e =
      one_by from block text (next_place digits text from block) refl ∙ ap (ascend_in from block) (sym (cut_last 59 text e))

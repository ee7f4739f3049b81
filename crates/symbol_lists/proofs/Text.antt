-- Lines of a text, one after the other.
use Rattle.std.specs.Prelude.{◌≡◌, ℕ, suc, ◌+◌, ◌==◌, true, false, Option, None, Some, option_map, Result, Ok, Err, List, [], ◌∷◌, ◌++◌, length}
use Rattle.std.proofs.Common.{refl, sym, ap, ◌∙◌, subst, inl, inr, arith, add-one, append_assoc, append-nil}
use Rattle.std.proofs.lemmas.Bool.{cases_Bool, eqb-true}
use Rattle.text_lines.specs.Lines.{last_line, lines_behind, lines_of, without_return}
use Rattle.text_fields.specs.Fields.{cut_at}
use Rattle.symbol_lists.specs.declared.fault.SymbolError.{SymbolError}
use Rattle.symbol_lists.specs.declared.fault.SymbolError.TheVariants.{Bad, Memory}
use Rattle.symbol_lists.specs.declared.symbol.Form.{Form}
use Rattle.symbol_lists.specs.Lines.{Entry}
use Rattle.symbol_lists.specs.Texts.{Tells, TellsLine, form_of, go_on, symbols_behind, symbols_of, with_line}

abbrev Parts : Type 0
Parts = List ℕ × List ℕ

-- THE LINES OF A TEXT

longer : (begun : List ℕ) (b : ℕ) (text front behind : List ℕ) (found : Option Parts) → cut_at 10 text ≡ found
    → option_map {U = Parts} (λ (parts : Parts). (b ∷ parts.0, parts.1)) found ≡ Some (front, behind)
    → ((rest behind : List ℕ) → cut_at 10 text ≡ Some (rest, behind)
    → lines_behind (begun ++ b ∷ []) text ≡ without_return ((begun ++ b ∷ []) ++ rest) ∷ lines_behind [] behind)
    → lines_behind (begun ++ b ∷ []) text ≡ without_return (begun ++ front) ∷ lines_behind [] behind
longer begun b text front behind None is e more = absurd (cc)
longer begun b text front behind (Some parts) is e more =
    let pair : (b ∷ parts.0, parts.1) ≡ (front, behind) = cc e in
    let first : b ∷ parts.0 ≡ front = ap (λ (p : Parts). p.0) pair in
    let last : parts.1 ≡ behind = ap (λ (p : Parts). p.1) pair in
    more parts.0 parts.1 is
    ∙ ap (λ l. without_return l ∷ lines_behind [] parts.1) (append_assoc begun (b ∷ []) parts.0 ∙ ap (λ l. begun ++ l) first)
    ∙ ap (λ t. without_return (begun ++ front) ∷ lines_behind [] t) last

cut_behind : (text begun front behind : List ℕ) → cut_at 10 text ≡ Some (front, behind)
    → lines_behind begun text ≡ without_return (begun ++ front) ∷ lines_behind [] behind
cut_behind [] begun front behind e = absurd (cc)
cut_behind (b ∷ text) begun front behind e = elim (cases_Bool (b == 10)) [
  | inl feed ↦
      let is : Some ([], text) ≡ Some (front, behind) = rw feed at e in
      let pair : ([], text) ≡ (front, behind) = cc is in
      let first : [] ≡ front = ap (λ (p : Parts). p.0) pair in
      let last : text ≡ behind = ap (λ (p : Parts). p.1) pair in
      rw feed (ap (λ l. without_return l ∷ lines_behind [] text) (sym (append-nil begun) ∙ ap (λ l. begun ++ l) first)
      ∙ ap (λ t. without_return (begun ++ front) ∷ lines_behind [] t) last)
  | inr other ↦ rw other (longer begun b text front behind (cut_at 10 text) refl (rw other at e) (λ rest left is. cut_behind text (begun ++ b ∷ []) rest left is))
]

no_part : (b : ℕ) (found : Option Parts) → option_map {U = Parts} (λ (parts : Parts). (b ∷ parts.0, parts.1)) found ≡ None → found ≡ None
no_part b None e = refl
no_part b (Some parts) e = absurd (cc)

uncut_behind : (text begun : List ℕ) → cut_at 10 text ≡ None → lines_behind begun text ≡ last_line (begun ++ text)
uncut_behind [] begun e = ap last_line (sym (append-nil begun))
uncut_behind (b ∷ text) begun e = elim (cases_Bool (b == 10)) [
  | inl feed ↦ absurd (cc (rw feed at e))
  | inr other ↦ rw other (uncut_behind text (begun ++ b ∷ []) (no_part b (cut_at 10 text) (rw other at e)) ∙ ap last_line (append_assoc begun (b ∷ []) text))
]

last_is : (rest : List ℕ) → (length rest == 0) ≡ false → last_line rest ≡ without_return rest ∷ []
last_is [] some = absurd (cc)
last_is (b ∷ rest) some = refl

-- the next line of a rest, and what is behind it
abbrev pub Next : (rest line behind : List ℕ) → Type 0
Next rest line behind = lines_of rest ≡ line ∷ lines_of behind

pub next_cut : (rest line front behind : List ℕ) → line ≡ without_return front → cut_at 10 rest ≡ Some (front, behind) → Next rest line behind
next_cut rest line front behind is e = cut_behind rest [] front behind e ∙ ap (λ l. l ∷ lines_of behind) (sym is)

pub next_last : (rest line : List ℕ) → line ≡ without_return rest → cut_at 10 rest ≡ None → (length rest == 0) ≡ false → Next rest line []
next_last rest line is e some = uncut_behind rest [] e ∙ last_is rest some ∙ ap (λ l. l ∷ []) (sym is)

-- READING

-- so many lines of a text gave these symbols, and a rest is left
abbrev pub IsRead : (text : List ℕ) → (list : List Entry) → (count : ℕ) → (rest : List ℕ) → Type 0
IsRead text list count rest = symbols_of text ≡ symbols_behind (form_of text) list count (lines_of rest)

at_end : (form : Form) (list : List Entry) (count : ℕ) (rest : List ℕ) → (length rest == 0) ≡ true → symbols_behind form list count (lines_of rest) ≡ Ok list
at_end form list count [] none = refl
at_end form list count (b ∷ rest) none = absurd (omega (arith, eqb-true (length (b ∷ rest)) 0 none))

module _ (text : List ℕ) (list : List Entry) (count : ℕ) (rest : List ℕ) (read : IsRead text list count rest) where
  -- where no line is left
  pub ended : (length rest == 0) ≡ true → symbols_of text ≡ Ok list
  ended none = read ∙ at_end (form_of text) list count rest none

  module _ (line behind : List ℕ) (next : Next rest line behind) where
    there : symbols_of text ≡ symbols_behind (form_of text) list count (line ∷ lines_of behind)
    there = read ∙ ap (symbols_behind (form_of text) list count) next

    later : (more : List Entry) → with_line (form_of text) (suc count) list line ≡ Ok more → IsRead text more (suc count) behind
    later more taken = there ∙ ap (go_on (λ longer. symbols_behind (form_of text) longer (suc count) (lines_of behind))) taken

    pub one_more : (more : List Entry) → with_line (form_of text) (count + 1) list line ≡ Ok more → IsRead text more (count + 1) behind
    one_more more taken =
        subst (λ n. IsRead text more n behind) (sym (add-one count))
        (later more (subst (λ n. with_line (form_of text) n list line ≡ Ok more) (add-one count) taken))

    refused : (number : ℕ) → with_line (form_of text) (suc count) list line ≡ Err number → symbols_of text ≡ Err number
    refused number bad = there ∙ ap (go_on (λ longer. symbols_behind (form_of text) longer (suc count) (lines_of behind))) bad

    pub tells_text : (error : SymbolError) → TellsLine (form_of text) (count + 1) list line error → Tells text error
    tells_text (Bad number form) bad =
        (refused number (subst (λ n. with_line (form_of text) n list line ≡ Err number) (add-one count) bad.0), bad.1)
    tells_text Memory bad = tt

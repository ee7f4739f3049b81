-- Lines of a text of promises, one after the other.
use Rattle.std.specs.Prelude.{◌≡◌, ℕ, zero, suc, ◌+◌, ◌-◌, ◌==◌, true, false, Option, None, Some, option_map, Ok, Err, List, [], ◌∷◌, ◌++◌, length, drop}
use Rattle.std.proofs.Common.{refl, sym, ap, ◌∙◌, subst, inl, inr, arith, add-one, zero-add, append_assoc, append-nil, length-append}
use Rattle.std.proofs.Math.Seq.{drop-append_seam}
use Rattle.std.proofs.lemmas.Bool.{cases_Bool}
use Rattle.text_lines.specs.Lines.{last_line, lines_behind, lines_of, without_return}
use Rattle.text_fields.specs.Fields.{cut_at, cut_only}
use Rattle.promises.specs.declared.fault.PromiseError.{PromiseError}
use Rattle.promises.specs.declared.fault.PromiseError.TheVariants.{Bad, Memory}
use Rattle.promises.specs.declared.fault.PromiseFault.{PromiseFault}
use Rattle.promises.specs.declared.fault.PromiseFault.TheVariants.{Syntax}
use Rattle.promises.specs.Spoken.{Spoken}
use Rattle.promises.specs.Text.{Numbered, Tells, TellsLine, behind_lines, go_on, is_end, promises_behind, promises_of, with_line}

abbrev Parts : Type 0
Parts = List ℕ × List ℕ

-- THE LINES OF A TEXT

longer : (begun : List ℕ) (b : ℕ) (text front behind : List ℕ) (found : Option Parts) → cut_at 10 text ≡ found
    → option_map {U = Parts} (λ (parts : Parts). (b ∷ parts.0, parts.1)) found ≡ Some (front, behind)
    → ((rest behind : List ℕ) → cut_at 10 text ≡ Some (rest, behind)
    → lines_behind (begun ++ b ∷ []) text ≡ without_return ((begun ++ b ∷ []) ++ rest) ∷ lines_behind [] behind)
    → lines_behind (begun ++ b ∷ []) text ≡ without_return (begun ++ front) ∷ lines_behind [] behind
longer begun b text front behind None is e more = absurd (cc)
longer begun b text front behind (Some parts) is e more =
    let pair : (b ∷ parts.0, parts.1) ≡ (front, behind) = cc e in
    let first : b ∷ parts.0 ≡ front = ap (λ (p : Parts). p.0) pair in
    let last : parts.1 ≡ behind = ap (λ (p : Parts). p.1) pair in
    more parts.0 parts.1 is
    ∙ ap (λ l. without_return l ∷ lines_behind [] parts.1) (append_assoc begun (b ∷ []) parts.0 ∙ ap (λ l. begun ++ l) first)
    ∙ ap (λ t. without_return (begun ++ front) ∷ lines_behind [] t) last

cut_behind : (text begun front behind : List ℕ) → cut_at 10 text ≡ Some (front, behind)
    → lines_behind begun text ≡ without_return (begun ++ front) ∷ lines_behind [] behind
cut_behind [] begun front behind e = absurd (cc)
cut_behind (b ∷ text) begun front behind e = elim (cases_Bool (b == 10)) [
  | inl feed ↦
      let is : Some ([], text) ≡ Some (front, behind) = rw feed at e in
      let pair : ([], text) ≡ (front, behind) = cc is in
      let first : [] ≡ front = ap (λ (p : Parts). p.0) pair in
      let last : text ≡ behind = ap (λ (p : Parts). p.1) pair in
      rw feed (ap (λ l. without_return l ∷ lines_behind [] text) (sym (append-nil begun) ∙ ap (λ l. begun ++ l) first)
      ∙ ap (λ t. without_return (begun ++ front) ∷ lines_behind [] t) last)
  | inr other ↦ rw other (longer begun b text front behind (cut_at 10 text) refl (rw other at e) (λ rest left is. cut_behind text (begun ++ b ∷ []) rest left is))
]

no_part : (b : ℕ) (found : Option Parts) → option_map {U = Parts} (λ (parts : Parts). (b ∷ parts.0, parts.1)) found ≡ None → found ≡ None
no_part b None e = refl
no_part b (Some parts) e = absurd (cc)

uncut_behind : (text begun : List ℕ) → cut_at 10 text ≡ None → lines_behind begun text ≡ last_line (begun ++ text)
uncut_behind [] begun e = ap last_line (sym (append-nil begun))
uncut_behind (b ∷ text) begun e = elim (cases_Bool (b == 10)) [
  | inl feed ↦ absurd (cc (rw feed at e))
  | inr other ↦ rw other (uncut_behind text (begun ++ b ∷ []) (no_part b (cut_at 10 text) (rw other at e)) ∙ ap last_line (append_assoc begun (b ∷ []) text))
]

last_is : (rest : List ℕ) → (length rest == 0) ≡ false → last_line rest ≡ without_return rest ∷ []
last_is [] some = absurd (cc)
last_is (b ∷ rest) some = refl

behind_longer : (b : ℕ) (text front behind : List ℕ) (m : ℕ) (found : Option Parts) → cut_at 10 text ≡ found
    → option_map {U = Parts} (λ (parts : Parts). (b ∷ parts.0, parts.1)) found ≡ Some (front, behind)
    → ((rest : List ℕ) → cut_at 10 text ≡ Some (rest, behind) → behind_lines (suc m) text ≡ behind_lines m behind)
    → behind_lines (suc m) text ≡ behind_lines m behind
behind_longer b text front behind m None is e more = absurd (cc)
behind_longer b text front behind m (Some parts) is e more =
    let pair : (b ∷ parts.0, parts.1) ≡ (front, behind) = cc e in
    more parts.0 (is ∙ ap (λ t. Some (parts.0, t)) (ap (λ (p : Parts). p.1) pair))

behind_cut : (text front behind : List ℕ) (m : ℕ) → cut_at 10 text ≡ Some (front, behind) → behind_lines (suc m) text ≡ behind_lines m behind
behind_cut [] front behind m e = absurd (cc)
behind_cut (b ∷ text) front behind m e = elim (cases_Bool (b == 10)) [
  | inl feed ↦
      let is : Some ([], text) ≡ Some (front, behind) = rw feed at e in
      let pair : ([], text) ≡ (front, behind) = cc is in
      rw feed (ap (behind_lines m) (ap (λ (p : Parts). p.1) pair))
  | inr other ↦ rw other (behind_longer b text front behind m (cut_at 10 text) refl (rw other at e) (λ rest is. behind_cut text rest behind m is))
]

none_left : (m : ℕ) → behind_lines m [] ≡ []
none_left zero = refl
none_left (suc m) = refl

uncut_left : (text : List ℕ) (m : ℕ) → cut_at 10 text ≡ None → behind_lines (suc m) text ≡ []
uncut_left [] m e = refl
uncut_left (b ∷ text) m e = elim (cases_Bool (b == 10)) [
  | inl feed ↦ absurd (cc (rw feed at e))
  | inr other ↦ rw other (uncut_left text m (no_part b (cut_at 10 text) (rw other at e)))
]

-- the next line of a rest, and what is behind it
pub record Next (rest line behind : List ℕ) : Type 0 where
  pub lines : lines_of rest ≡ line ∷ lines_of behind
  pub left : (m : ℕ) → behind_lines (suc m) rest ≡ behind_lines m behind
  pub front : List ℕ
  pub parts : front ++ behind ≡ rest

pub next_cut : (rest line front behind : List ℕ) → line ≡ without_return front → cut_at 10 rest ≡ Some (front, behind) → Next rest line behind
next_cut rest line front behind is e = record {
  lines = cut_behind rest [] front behind e ∙ ap (λ l. l ∷ lines_of behind) (sym is);
  left = λ m. behind_cut rest front behind m e;
  front = front ++ 10 ∷ [];
  parts = append_assoc front (10 ∷ []) behind ∙ (cut_only 10 rest (front, behind) e).0;
}

pub next_last : (rest line : List ℕ) → line ≡ without_return rest → cut_at 10 rest ≡ None → (length rest == 0) ≡ false → Next rest line []
next_last rest line is e some = record {
  lines = uncut_behind rest [] e ∙ last_is rest some ∙ ap (λ l. l ∷ []) (sym is);
  left = λ m. uncut_left rest m e ∙ sym (none_left m);
  front = rest;
  parts = append-nil rest;
}

-- READING

-- so many lines of a text gave a list, and a rest is left
pub record IsRead (spoken : Spoken) (text : List ℕ) (list : Numbered) (count : ℕ) (rest : List ℕ) : Type 0 where
  pub whole : promises_behind spoken [] 0 (lines_of text) ≡ promises_behind spoken list count (lines_of rest)
  pub left : (m : ℕ) → behind_lines (count + m) text ≡ behind_lines m rest
  pub front : List ℕ
  pub parts : front ++ rest ≡ text

pub none_read : (spoken : Spoken) (text : List ℕ) → IsRead spoken text [] 0 text
none_read spoken text = let from_none : (m : ℕ) → behind_lines (0 + m) text ≡ behind_lines m text = λ m. ap (λ n. behind_lines n text) (zero-add m) in record { whole = refl; left = λ m. from_none m; front = []; parts = refl }

drop_front : (front rest text : List ℕ) → front ++ rest ≡ text → drop (length text - length rest) text ≡ rest
drop_front front rest text parts =
    subst (λ t. drop (length t - length rest) t ≡ rest) parts
    (let same : length (front ++ rest) - length rest ≡ length front = omega (arith, length-append front rest) in
    ap (λ n. drop n (front ++ rest)) same ∙ drop-append_seam front rest)

module _ (spoken : Spoken) (text : List ℕ) (list : Numbered) (count : ℕ) (rest : List ℕ) (read : IsRead spoken text list count rest) where
  -- where no line is left
  pub missing : lines_of rest ≡ [] → promises_of spoken text ≡ Err (suc count, Syntax)
  missing none = ap (go_on (λ read. Ok (read.0, behind_lines read.1 text))) (read.whole ∙ ap (promises_behind spoken list count) none)

  module _ (line behind : List ℕ) (next : Next rest line behind) where
    there : promises_behind spoken [] 0 (lines_of text) ≡ promises_behind spoken list count (line ∷ lines_of behind)
    there = read.whole ∙ ap (promises_behind spoken list count) next.lines

    together : (read.front ++ next.front) ++ behind ≡ text
    together = append_assoc read.front next.front behind ∙ ap (λ r. read.front ++ r) next.parts ∙ read.parts

    behind_is : behind_lines (suc count) text ≡ behind
    behind_is = ap (λ n. behind_lines n text) (sym (add-one count)) ∙ read.left 1 ∙ next.left 0

    at_end : is_end line ≡ true → promises_behind spoken list count (line ∷ lines_of behind) ≡ Ok (list, suc count)
    at_end is = rw is refl

    pub ended : is_end line ≡ true → promises_of spoken text ≡ Ok (list, drop (length text - length behind) text)
    ended is =
        ap (go_on (λ read. Ok (read.0, behind_lines read.1 text))) (there ∙ at_end is)
        ∙ ap (λ t. Ok (list, t)) (behind_is ∙ sym (drop_front (read.front ++ next.front) behind text together))

    at_bad : is_end line ≡ false → (number : ℕ) (fault : PromiseFault) → with_line spoken (suc count) list line ≡ Err (number, fault)
        → promises_behind spoken list count (line ∷ lines_of behind) ≡ Err (number, fault)
    at_bad other number fault bad = rw (other, bad) refl

    refused : is_end line ≡ false → (number : ℕ) (fault : PromiseFault) → with_line spoken (suc count) list line ≡ Err (number, fault)
        → promises_of spoken text ≡ Err (number, fault)
    refused other number fault bad = ap (go_on (λ read. Ok (read.0, behind_lines read.1 text))) (there ∙ at_bad other number fault bad)

    later : (m : ℕ) → behind_lines (suc count + m) text ≡ behind_lines (count + suc m) text
    later m = let same : suc count + m ≡ count + suc m = omega arith in ap (λ n. behind_lines n text) same

    at_line : is_end line ≡ false → (longer : Numbered) → with_line spoken (suc count) list line ≡ Ok longer
        → promises_behind spoken list count (line ∷ lines_of behind) ≡ promises_behind spoken longer (suc count) (lines_of behind)
    at_line other longer taken = rw (other, taken) refl

    taken_more : is_end line ≡ false → (longer : Numbered) → with_line spoken (suc count) list line ≡ Ok longer
        → IsRead spoken text longer (suc count) behind
    taken_more other longer taken = record {
      whole = there ∙ at_line other longer taken;
      left = λ m. later m ∙ read.left (suc m) ∙ next.left m;
      front = read.front ++ next.front;
      parts = together;
    }

    pub one_more : is_end line ≡ false → (longer : Numbered) → with_line spoken (count + 1) list line ≡ Ok longer
        → IsRead spoken text longer (count + 1) behind
    one_more other longer taken =
        subst (λ n. IsRead spoken text longer n behind) (sym (add-one count))
        (taken_more other longer (subst (λ n. with_line spoken n list line ≡ Ok longer) (add-one count) taken))

    pub tells_text : is_end line ≡ false → (error : PromiseError) → TellsLine spoken (count + 1) list line error → Tells spoken text error
    tells_text other (Bad number fault) bad =
        refused other number fault (subst (λ n. with_line spoken n list line ≡ Err (number, fault)) (add-one count) bad)
    tells_text other Memory bad = tt

-- the last line, which has no line feed
module _ (spoken : Spoken) (text : List ℕ) (list : Numbered) (count : ℕ) (rest : List ℕ) (read : IsRead spoken text list count rest)
    (line : List ℕ) (next : Next rest line []) where
  pub ended_last : is_end line ≡ true → promises_of spoken text ≡ Ok (list, drop (length text) text)
  ended_last is =
      let all : length text - length {A = ℕ} [] ≡ length text = omega arith in
      ended spoken text list count rest read line [] next is ∙ ap (λ n. Ok (list, drop n text)) all

  pub missing_last : is_end line ≡ false → (new : Numbered) → with_line spoken (count + 1) list line ≡ Ok new
      → promises_of spoken text ≡ Err (count + 2, Syntax)
  missing_last other new taken =
      let behind : suc (count + 1) ≡ count + 2 = omega arith in
      missing spoken text new (count + 1) [] (one_more spoken text list count rest read line [] next other new taken) refl
      ∙ ap (λ n. Err (n, Syntax)) behind

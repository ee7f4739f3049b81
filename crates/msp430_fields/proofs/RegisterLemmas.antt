-- Named fields one by one, as they are read and written.
use Rattle.std.proofs.Common.{◌≡◌, ℕ, ◌+◌, ◌<◌, ◌≤◌, Option, None, Some, List, [], ◌∷◌, ◌++◌, length, take, drop, get_or, set, refl, sym, ap, ap₂, ◌∙◌, append_assoc}
use Rattle.std.specs.Prelude.{option_map, option_and_then}
use Rattle.std.proofs.lemmas.List.{append-nil, drop_all, drop_more, take_all, take_more_set}
use Rattle.text_fields.specs.Spelling.{Spelling}
use Rattle.text_fields.specs.Fields.{named}
use Rattle.text_fields.specs.Fronts.{each_in_front, in_front, named_texts}

-- READING

-- more values behind these
abbrev pub onto : {A : Type 0} → List A → Option (List A × List ℕ) → Option (List A × List ℕ)
onto front more = option_map (λ p. (front ++ p.0, p.1)) more

onto_none : {A : Type 0} (more : Option (List A × List ℕ)) → more ≡ onto [] more
onto_none None = refl
onto_none (Some p) = refl

pub fronts_begin : {A : Type 0} (at : ℕ) (s : Spelling A) (names : List (List ℕ)) (values : List A) (text : List ℕ)
    → each_in_front at s names text ≡ onto (take 0 values) (each_in_front at s (drop 0 names) text)
fronts_begin at s names values text = onto_none (each_in_front at s names text)

one_more : {A : Type 0} (front : List A) (value : A) (more : Option (List A × List ℕ))
    → onto front (option_map (λ p. (value ∷ p.0, p.1)) more) ≡ onto (front ++ value ∷ []) more
one_more front value None = refl
one_more front value (Some p) = ap (λ values. Some (values, p.1)) (sym (append_assoc front (value ∷ []) p.0))

abbrev first_of : {A : Type 0} → ℕ → Spelling A → List (List ℕ) → Option (A × List ℕ) → Option (List A × List ℕ)
first_of at s names first = option_and_then (λ p. option_map (λ more. (p.0 ∷ more.0, more.1)) (each_in_front at s names p.1)) first

-- the next value, and the text behind it
pub fronts_go_on : {A : Type 0} (at : ℕ) (s : Spelling A) (names : List (List ℕ)) (values : List A) (text rest behind : List ℕ) (i : ℕ) (value : A)
    → i < length names → i < length values
    → each_in_front at s names text ≡ onto (take i values) (each_in_front at s (drop i names) rest)
    → Some (value, behind) ≡ in_front at (named s (get_or names i [])) rest
    → each_in_front at s names text ≡ onto (take (i + 1) (set values i value)) (each_in_front at s (drop (i + 1) names) behind)
fronts_go_on at s names values text rest behind i value inside room so_far is =
    so_far
    ∙ ap (λ left. onto (take i values) (each_in_front at s left rest)) (drop_more names i [] inside)
    ∙ ap (λ first. onto (take i values) (first_of at s (drop (i + 1) names) first)) (sym is)
    ∙ one_more (take i values) value (each_in_front at s (drop (i + 1) names) behind)
    ∙ ap (λ front. onto front (each_in_front at s (drop (i + 1) names) behind)) (sym (take_more_set values i value room))

-- no value
pub fronts_bad : {A : Type 0} (at : ℕ) (s : Spelling A) (names : List (List ℕ)) (values : List A) (text rest : List ℕ) (i : ℕ)
    → i < length names
    → each_in_front at s names text ≡ onto (take i values) (each_in_front at s (drop i names) rest)
    → None ≡ in_front at (named s (get_or names i [])) rest → None ≡ each_in_front at s names text
fronts_bad at s names values text rest i inside so_far is =
    sym (so_far
    ∙ ap (λ left. onto (take i values) (each_in_front at s left rest)) (drop_more names i [] inside)
    ∙ ap (λ first. onto (take i values) (first_of at s (drop (i + 1) names) first)) (sym is))

-- all of them
pub fronts_end : {A : Type 0} (at : ℕ) (s : Spelling A) (names : List (List ℕ)) (values : List A) (text rest : List ℕ) (i : ℕ)
    → length names ≤ i
    → length values ≤ i → each_in_front at s names text ≡ onto (take i values) (each_in_front at s (drop i names) rest)
    → Some (values, rest) ≡ each_in_front at s names text
fronts_end at s names values text rest i past most so_far =
    sym (so_far
    ∙ ap (λ left. onto (take i values) (each_in_front at s left rest)) (drop_all i names past)
    ∙ ap (λ front. Some (front, rest)) (append-nil (take i values) ∙ take_all i values most))

-- WRITING

-- the next name with its value, and the byte behind them
pub texts_go_on : {A : Type 0} (at : ℕ) (text : A → List ℕ) (names : List (List ℕ)) (values : List A) (i : ℕ) (other : A) (before with_value after all : List ℕ)
    → i < length names → i < length values → before ++ named_texts at text (drop i names) (drop i values) ≡ all
    → with_value ≡ before ++ (get_or names i [] ++ text (get_or values i other)) → after ≡ with_value ++ at ∷ []
    → after ++ named_texts at text (drop (i + 1) names) (drop (i + 1) values) ≡ all
texts_go_on at text names values i other before with_value after all inside room so_far pushed parted =
    let left = named_texts at text (drop (i + 1) names) (drop (i + 1) values) in
    let one = get_or names i [] ++ text (get_or values i other) in
    ap (λ (t : List ℕ). t ++ left) (parted ∙ ap (λ (t : List ℕ). t ++ at ∷ []) pushed)
    ∙ append_assoc (before ++ one) (at ∷ []) left ∙ append_assoc before one (at ∷ left)
    ∙ ap₂ (λ ns vs. before ++ named_texts at text ns vs) (sym (drop_more names i [] inside)) (sym (drop_more values i other room)) ∙ so_far

pub texts_end : {A : Type 0} (at : ℕ) (text : A → List ℕ) (names : List (List ℕ)) (values : List A) (i : ℕ) (out all : List ℕ)
    → length names ≤ i
    → out ++ named_texts at text (drop i names) (drop i values) ≡ all → out ≡ all
texts_end at text names values i out all past so_far =
    sym (append-nil out) ∙ ap (λ ns. out ++ named_texts at text ns (drop i values)) (sym (drop_all i names past)) ∙ so_far

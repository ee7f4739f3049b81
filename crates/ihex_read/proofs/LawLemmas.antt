-- Every list of lines has an image or a first fault.
use Rattle.std.proofs.Common.{◌≡◌, ℕ, ◌+◌, ◌<◌, ◌⊎◌, inl, inr, Bool, true, false, List, [], ◌∷◌, ◌++◌, suc, length, get_or, refl, sym, ◌∙◌, ap, subst, append_assoc, length-append, arith}
use Rattle.std.specs.Prelude.{Option, None, Some, All, replicate}
use Rattle.std.specs.Option.{option_or}
use Rattle.std.proofs.lemmas.Bool.{cases_lt}
use Rattle.std.proofs.lemmas.List.{append-nil, get_or-replicate, get_or_past, length-replicate}
use Rattle.std.proofs.lemmas.List.Elements.{All-nil, All-cons, All-head, All-tail, All-get_or}
use Rattle.std.proofs.Math.Seq.{get_or-append_seam}
use Rattle.image.specs.declared.rule_set.Rules.{Rules}
use Rattle.image.specs.declared.tail.Tail.{Tail}
use Rattle.image.specs.declared.tail.Tail.TheVariants.{Blank, Second}
use Rattle.ihex_read.specs.declared.fault.HexFault.{HexFault}
use Rattle.ihex_read.specs.declared.fault.HexFault.TheVariants.{NoEnd, Trailing}
use Rattle.ihex_read.specs.Alone.{alone_fault}
use Rattle.image.specs.Image.{byte_at}
use Rattle.ihex_read.specs.ImageText.{fault_of, is_end, IsOpen, Ends, IsImage, IsTail, Denotes, FirstFault, GoesOnBehind, of_line, no_end, trailing}
use Rattle.ihex_read.specs.Loading.{Made, placing_fault, written}
use Rattle.ihex_read.specs.Record.{record_of, base_behind, placed_by}
use Rattle.ihex_read.proofs.MadeLemmas.{made_nothing, made_more, made_blank, fault-made}
use Rattle.ihex_read.specs.TextFacts.{open_more}
use Rattle.ihex_read.proofs.TextLemmas.{among_open, same_cut, one_end, no_end_behind_fault, no_end_among_open}

-- an image of nothing
nothing : ℕ → List (Option ℕ)
nothing n = replicate n None

length-nothing : (n : ℕ) → length (nothing n) ≡ n
unfolding nothing
length-nothing n = length-replicate n None

nothing_at : (n at : ℕ) → byte_at (nothing n) at ≡ None
unfolding nothing
nothing_at n at = elim (cases_lt at n) [
  | inl below ↦ get_or-replicate n at None None below
  | inr past ↦ let size = length-nothing n in get_or_past (nothing n) at None (omega (arith, size))
]

-- the option that is left where the first is none
second_none : {A : Type 0} (first second : Option A) → option_or first second ≡ None → second ≡ None
second_none None second h = h
second_none (Some x) second h = cc h

-- an accepted line makes something
made_line : (rules : Rules) (before : List (List ℕ)) (line : List ℕ) (base : ℕ) (image : List (Option ℕ)) → Made before base image
    → fault_of rules before line ≡ None → (new_base : ℕ) × (new_image : List (Option ℕ)) × Made (before ++ line ∷ []) new_base new_image
made_line rules before [] base image made accepted = (base, image, made_blank before [] base image made refl)
made_line rules before (b ∷ bytes) base image made accepted =
    let none = second_none (alone_fault (b ∷ bytes)) (placing_fault rules base image (record_of (b ∷ bytes)))
    (sym (fault-made rules before (b ∷ bytes) base image made (omega arith)) ∙ accepted) in
    (base_behind base (record_of (b ∷ bytes)), written image (placed_by base (record_of (b ∷ bytes))), made_more rules before (b ∷ bytes) base image made none)

abbrev Outcome : Rules → Tail → List (List ℕ) → Type 0
Outcome rules tail lines = ((image : List (Option ℕ)) × Denotes rules tail lines image)
    ⊎ ((line : ℕ) × (fault : HexFault) × FirstFault rules tail lines line fault) ⊎ GoesOnBehind rules tail lines

-- all blank, or the first that isn't
blank_front : (lines : List (List ℕ)) → All (λ line. line ≡ []) lines
    ⊎ ((blank : List (List ℕ)) × (more : List ℕ) × (behind : List (List ℕ)) × (lines ≡ blank ++ more ∷ behind) × All (λ line. line ≡ []) blank × (more ≡ [] → ⊥))
blank_front [] = inl (All-nil (λ line. line ≡ []))
blank_front ([] ∷ lines) = elim (blank_front lines) [
  | inl blank ↦ inl (All-cons (λ line. line ≡ []) [] lines refl blank)
  | inr found ↦ inr ([] ∷ found.0, found.1, found.2, ap (λ rest. [] ∷ rest) found.3, All-cons (λ line. line ≡ []) [] found.0 refl found.4, found.5)
]
blank_front ((b ∷ line) ∷ lines) = inr ([], b ∷ line, lines, refl, All-nil (λ l. l ≡ []), λ e. cc e)

-- behind an end record
behind_end : (rules : Rules) (tail : Tail) (lines before : List (List ℕ)) (line : List ℕ) (behind : List (List ℕ)) (image : List (Option ℕ))
    → Ends rules lines before line behind → IsImage image before → Outcome rules tail lines
behind_end rules Second lines before line [] image ends placed = inl (image, (before, line, [], ends, refl, placed))
behind_end rules Second lines before line (first ∷ behind) image ends placed =
    inr (inr (record { expected = refl; before = before; line = line; first = first; behind = behind; ends = ends }))
behind_end rules Blank lines before line behind image ends placed = elim (blank_front behind) [
  | inl blank ↦ inl (image, (before, line, behind, ends, blank, placed))
  | inr found ↦ inr (inl (
    length before + 1 + length found.0 + 1,
    Trailing,
    trailing before line found.0 found.1 found.2 (subst (Ends rules lines before line) found.3 ends) found.4 found.5 refl,
  ))
]

-- at a line behind open ones
at_line : (rules : Rules) (tail : Tail) (rest lines before : List (List ℕ)) (line : List ℕ) (base : ℕ) (image : List (Option ℕ))
    (told : Option HexFault) → fault_of rules before line ≡ told → (end_record : Bool) → is_end line ≡ end_record
    → lines ≡ before ++ line ∷ rest
    → IsOpen rules before → Made before base image
    → ((next : List (List ℕ)) (new_base : ℕ) (new_image : List (Option ℕ)) → lines ≡ next ++ rest → IsOpen rules next → Made next new_base new_image
    → Outcome rules tail lines)
    → Outcome rules tail lines
at_line rules tail rest lines before line base image (Some fault) faulty end_record ends whole all_open made go =
    inr (inl (length before + 1, fault, of_line before line rest fault whole all_open faulty))
at_line rules tail rest lines before line base image None accepted true ends whole all_open made go =
    behind_end rules tail lines before line rest image
    (record { whole = whole; open_before = all_open; accepted = accepted; ends = ends }) made.placed
at_line rules tail rest lines before line base image None accepted false ends whole all_open made go =
    let more = made_line rules before line base image made accepted in
    go (before ++ line ∷ []) more.0 more.1 (whole ∙ sym (append_assoc before (line ∷ []) rest)) (open_more rules before line all_open accepted ends) more.2

outcome_from : (rules : Rules) (tail : Tail) (rest lines before : List (List ℕ)) (base : ℕ) (image : List (Option ℕ))
    → lines ≡ before ++ rest
    → IsOpen rules before → Made before base image → Outcome rules tail lines
outcome_from rules tail [] lines before base image whole all_open made =
    inr (inl (length lines + 1, NoEnd, no_end (subst (IsOpen rules) (sym (whole ∙ append-nil before)) all_open)))
outcome_from rules tail (line ∷ rest) lines before base image whole all_open made =
    at_line rules tail rest lines before line base image (fault_of rules before line) refl (is_end line) refl whole all_open made
    (λ next new_base new_image. outcome_from rules tail rest lines next new_base new_image)

pub some_outcome : (rules : Rules) (tail : Tail) (lines : List (List ℕ)) → Outcome rules tail lines
some_outcome rules tail lines = outcome_from rules tail lines lines [] 0 (nothing 65536) refl (λ k h. absurd (omega arith))
    (made_nothing (nothing 65536) (length-nothing 65536) (nothing_at 65536))

some_none : {A : Type 0} {place : Option A} {x : A} → place ≡ Some x → place ≡ None → ⊥
some_none e f = cc (e, f)

heads : {x y : List ℕ} {xs ys : List (List ℕ)} → x ∷ xs ≡ y ∷ ys → x ≡ y
heads e = cc e

-- never both
pub not_blank : (blank behind : List (List ℕ)) (more : List ℕ) → All (λ l. l ≡ []) (blank ++ more ∷ behind) → more ≡ []
not_blank blank behind more all_blank =
    let fits : length blank < length (blank ++ more ∷ behind) = omega (arith, length-append blank (more ∷ behind)) in
    let here = All-get_or (λ l. l ≡ []) (blank ++ more ∷ behind) (length blank) [] fits all_blank in
    rw get_or-append_seam at here

pub not_both : (rules : Rules) (tail : Tail) (lines : List (List ℕ)) (image : List (Option ℕ)) {line : ℕ} {fault : HexFault}
    → Denotes rules tail lines image → FirstFault rules tail lines line fault → ⊥
not_both rules tail lines image denoted (of_line before line behind fault whole all_open faulty) =
    no_end_behind_fault rules lines before denoted.0 line denoted.1 behind denoted.2 fault whole all_open (sym faulty) denoted.3
not_both rules tail lines image denoted (no_end all_open) = no_end_among_open rules lines denoted.0 denoted.1 denoted.2 all_open denoted.3
not_both rules tail lines image denoted (trailing before line blank more behind ends blank_lines more_there blank_tail) =
    let same = one_end rules lines before denoted.0 line denoted.1 (blank ++ more ∷ behind) denoted.2 ends denoted.3 in
    let all_blank = subst (λ t. IsTail t denoted.2) blank_tail denoted.4 in
    more_there (not_blank blank behind more (subst (All (λ l. l ≡ [])) (sym same.2) all_blank))

-- one image
same_place : (first second : Option ℕ) → ((value : ℕ) → first ≡ Some value → second ≡ Some value)
    → ((value : ℕ) → second ≡ Some value → first ≡ Some value)
    → first ≡ second
same_place None None there back = refl
same_place None (Some v) there back = back v refl
same_place (Some v) second there back = sym (there v refl)

same_lists : (xs ys : List (Option ℕ)) → length xs ≡ length ys → ((at : ℕ) → get_or xs at None ≡ get_or ys at None) → xs ≡ ys
same_lists [] [] size each = refl
same_lists [] (y ∷ ys) size each = absurd (omega arith)
same_lists (x ∷ xs) [] size each = absurd (omega arith)
same_lists (x ∷ xs) (y ∷ ys) size each = let first = each 0 in let rest = same_lists xs ys (omega arith) (λ at. each (suc at)) in cc (first, rest)

same_image : (image other : List (Option ℕ)) (lines : List (List ℕ)) → IsImage image lines → IsImage other lines → image ≡ other
same_image image other lines one two = same_lists image other (one.size ∙ sym two.size)
    (λ at. same_place (byte_at image at) (byte_at other at)
    (λ value is. (two.bytes at value).1 ((one.bytes at value).0 is)) (λ value is. (one.bytes at value).1 ((two.bytes at value).0 is)))

pub one_image : (rules : Rules) (tail : Tail) (lines : List (List ℕ)) (image other : List (Option ℕ)) → Denotes rules tail lines image
    → Denotes rules tail lines other → image ≡ other
one_image rules tail lines image other one two =
    let same = one_end rules lines one.0 two.0 one.1 two.1 one.2 two.2 one.3 two.3 in
    same_image image other one.0 one.5 (subst (IsImage other) (sym same.0) two.5)

-- one first fault
two_faulty : (rules : Rules) (b₁ b₂ : List (List ℕ)) (x₁ x₂ : List ℕ) (r₁ r₂ : List (List ℕ)) (f₁ f₂ : HexFault)
    → b₁ ++ x₁ ∷ r₁ ≡ b₂ ++ x₂ ∷ r₂
    → IsOpen rules b₁ → IsOpen rules b₂ → fault_of rules b₁ x₁ ≡ Some f₁ → fault_of rules b₂ x₂ ≡ Some f₂
    → (length b₁ + 1 ≡ length b₂ + 1) × (f₁ ≡ f₂)
two_faulty rules b₁ b₂ x₁ x₂ r₁ r₂ f₁ f₂ same open₁ open₂ faulty₁ faulty₂ = elim (cases_lt (length b₁) (length b₂)) [
  | inl less ↦ let accepted = (among_open rules b₁ b₂ x₁ r₁ (x₂ ∷ r₂) same less open₂).0 in absurd (some_none faulty₁ accepted)
  | inr more ↦ elim (cases_lt (length b₂) (length b₁)) [
    | inl less ↦ let accepted = (among_open rules b₂ b₁ x₂ r₂ (x₁ ∷ r₁) (sym same) less open₁).0 in absurd (some_none faulty₂ accepted)
    | inr equal ↦ let cut = same_cut b₁ b₂ x₁ x₂ r₁ r₂ same (omega arith) in (omega arith, cc (faulty₁, faulty₂, cut.0, cut.1))
  ]
]

faulty_among_open : (rules : Rules) (lines before : List (List ℕ)) (line : List ℕ) (behind : List (List ℕ)) (fault : HexFault)
    → lines ≡ before ++ line ∷ behind
    → fault_of rules before line ≡ Some fault → IsOpen rules lines → ⊥
faulty_among_open rules lines before line behind fault whole faulty all_open =
    let fits : length before < length lines = omega (arith, ap length whole, length-append before (line ∷ behind)) in
    some_none faulty (among_open rules before lines line behind [] (sym whole ∙ sym (append-nil lines)) fits all_open).0

same_front : (blank₁ blank₂ behind₁ behind₂ : List (List ℕ)) (more₁ more₂ : List ℕ) → All (λ l. l ≡ []) blank₁ → All (λ l. l ≡ []) blank₂
    → (more₁ ≡ [] → ⊥) → (more₂ ≡ [] → ⊥) → blank₁ ++ more₁ ∷ behind₁ ≡ blank₂ ++ more₂ ∷ behind₂ → length blank₁ ≡ length blank₂
same_front [] [] behind₁ behind₂ more₁ more₂ all₁ all₂ not₁ not₂ e = refl
same_front [] (y ∷ ys) behind₁ behind₂ more₁ more₂ all₁ all₂ not₁ not₂ e = absurd (not₁ (heads e ∙ All-head (λ l. l ≡ []) y ys all₂))
same_front (x ∷ xs) [] behind₁ behind₂ more₁ more₂ all₁ all₂ not₁ not₂ e = absurd (not₂ (sym (heads e) ∙ All-head (λ l. l ≡ []) x xs all₁))
same_front (x ∷ xs) (y ∷ ys) behind₁ behind₂ more₁ more₂ all₁ all₂ not₁ not₂ e =
    let rest = same_front xs ys behind₁ behind₂ more₁ more₂ (All-tail (λ l. l ≡ []) x xs all₁) (All-tail (λ l. l ≡ []) y ys all₂) not₁ not₂ (cc e) in
    omega (arith, rest)

pub one_fault : (rules : Rules) (tail : Tail) (lines : List (List ℕ)) {line other_line : ℕ} {fault other : HexFault}
    → FirstFault rules tail lines line fault
    → FirstFault rules tail lines other_line other → (line ≡ other_line) × (fault ≡ other)
one_fault rules tail lines (of_line b₁ x₁ r₁ f₁ w₁ open₁ h₁) (of_line b₂ x₂ r₂ f₂ w₂ open₂ h₂) =
    two_faulty rules b₁ b₂ x₁ x₂ r₁ r₂ f₁ f₂ (sym w₁ ∙ w₂) open₁ open₂ h₁ h₂
one_fault rules tail lines (of_line b₁ x₁ r₁ f₁ w₁ open₁ h₁) (no_end open₂) = absurd (faulty_among_open rules lines b₁ x₁ r₁ f₁ w₁ h₁ open₂)
one_fault rules tail lines (of_line b₁ x₁ r₁ f₁ w₁ open₁ h₁) (trailing b₂ x₂ blank₂ m₂ r₂ e₂ all₂ not₂ t₂) =
    absurd (no_end_behind_fault rules lines b₁ b₂ x₁ x₂ r₁ (blank₂ ++ m₂ ∷ r₂) f₁ w₁ open₁ (sym h₁) e₂)
one_fault rules tail lines (no_end open₁) (of_line b₂ x₂ r₂ f₂ w₂ open₂ h₂) = absurd (faulty_among_open rules lines b₂ x₂ r₂ f₂ w₂ h₂ open₁)
one_fault rules tail lines (no_end open₁) (no_end open₂) = (refl, refl)
one_fault rules tail lines (no_end open₁) (trailing b₂ x₂ blank₂ m₂ r₂ e₂ all₂ not₂ t₂) =
    absurd (no_end_among_open rules lines b₂ x₂ (blank₂ ++ m₂ ∷ r₂) open₁ e₂)
one_fault rules tail lines (trailing b₁ x₁ blank₁ m₁ r₁ e₁ all₁ not₁ t₁) (of_line b₂ x₂ r₂ f₂ w₂ open₂ h₂) =
    absurd (no_end_behind_fault rules lines b₂ b₁ x₂ x₁ r₂ (blank₁ ++ m₁ ∷ r₁) f₂ w₂ open₂ (sym h₂) e₁)
one_fault rules tail lines (trailing b₁ x₁ blank₁ m₁ r₁ e₁ all₁ not₁ t₁) (no_end open₂) =
    absurd (no_end_among_open rules lines b₁ x₁ (blank₁ ++ m₁ ∷ r₁) open₂ e₁)
one_fault rules tail lines (trailing b₁ x₁ blank₁ m₁ r₁ e₁ all₁ not₁ t₁) (trailing b₂ x₂ blank₂ m₂ r₂ e₂ all₂ not₂ t₂) =
    let same = one_end rules lines b₁ b₂ x₁ x₂ (blank₁ ++ m₁ ∷ r₁) (blank₂ ++ m₂ ∷ r₂) e₁ e₂ in
    let front = same_front blank₁ blank₂ r₁ r₂ m₁ m₂ all₁ all₂ not₁ not₂ same.2 in
    (omega (arith, ap length same.0, front), refl)

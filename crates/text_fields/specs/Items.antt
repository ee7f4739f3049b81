-- The fields of a line, with a space between each two.
use Rattle.std.specs.Prelude.{◌≡◌, ℕ, Bool, false, Option, None, Some, option_map, option_and_then, List, [], ◌∷◌, ◌++◌}
use Rattle.std.specs.List.{AllByRecursion}
use Rattle.std.proofs.Common.{refl, sym, ap, ◌∙◌, append_assoc}
use Rattle.std.proofs.lemmas.Option.{none-some, same_Some}
use Rattle.text_fields.specs.Spelling.{Spelling, IsExact, Avoids, has_byte}
use Rattle.text_fields.specs.Fields.{beside, beside_is_exact, beside_avoids, named, named_is_exact, named_avoids, passing, passing_is_exact, passing_avoids, told_by, told_by_is_exact, told_by_avoids, restated, restated_is_exact, restated_avoids}
use Rattle.text_fields.specs.Fronts.{beside_in_front, each_beside, each_beside_is_exact, each_beside_avoids, each_in_front, in_front}

-- ITEMS AND LINES

-- a field that stands between spaces
pub record IsItem {A : Type 0} (s : Spelling A) : Type 0 where
  pub exact : IsExact s
  pub no_space : Avoids s 32
  pub no_feed : Avoids s 10

-- fields in one line
pub record IsLine {A : Type 0} (s : Spelling A) : Type 0 where
  pub exact : IsExact s
  pub no_feed : Avoids s 10

-- no name has a space or a line feed
pub record AreNames (names : List (List ℕ)) : Type 0 where
  pub no_space : AllByRecursion (λ name. has_byte 32 name ≡ false) names
  pub no_feed : AllByRecursion (λ name. has_byte 10 name ≡ false) names

pub item_line : {A : Type 0} {s : Spelling A} → IsItem s → IsLine s
item_line item = record { exact = item.exact; no_feed = item.no_feed }

pub named_item : {A : Type 0} {s : Spelling A} (name : List ℕ) → has_byte 32 name ≡ false → has_byte 10 name ≡ false
    → IsItem s → IsItem (named s name)
named_item {s = s} name no_space no_feed item = record {
  exact = named_is_exact s name item.exact;
  no_space = named_avoids s name 32 no_space item.no_space;
  no_feed = named_avoids s name 10 no_feed item.no_feed;
}

pub passing_item : {A : Type 0} {s : Spelling A} (test : A → Bool) → IsItem s → IsItem (passing s test)
passing_item {s = s} test item = record {
  exact = passing_is_exact s test item.exact;
  no_space = passing_avoids s test 32 item.no_space;
  no_feed = passing_avoids s test 10 item.no_feed;
}

-- the same said in other words
pub restated_item : {A : Type 0} (s : Spelling A) (Form : A → Type 0) → ((a : A) → Form a → s.Form a)
    → ((a : A) → s.Form a → Form a) → IsItem s
    → IsItem (restated s Form)
restated_item s Form narrow wide item = record {
  exact = restated_is_exact s Form item.exact narrow wide;
  no_space = restated_avoids s Form 32 narrow item.no_space;
  no_feed = restated_avoids s Form 10 narrow item.no_feed;
}

pub told_item : {A B : Type 0} {s : Spelling A} (to : A → B) (from : B → A) → ((a : A) → s.Form a → from (to a) ≡ a)
    → IsItem s → IsItem (told_by s to from)
told_item {s = s} to from again item = record {
  exact = told_by_is_exact s to from item.exact again;
  no_space = told_by_avoids s to from 32 item.no_space;
  no_feed = told_by_avoids s to from 10 item.no_feed;
}

pub beside_line : {A B : Type 0} {s : Spelling A} {t : Spelling B} → IsItem s → IsLine t → IsLine (beside 32 s t)
beside_line {s = s} {t = t} item line = record {
  exact = beside_is_exact 32 s t item.exact line.exact item.no_space;
  no_feed = beside_avoids 32 10 s t refl item.no_feed line.no_feed;
}

pub each_line : {A B : Type 0} {s : Spelling A} {t : Spelling B} (names : List (List ℕ)) → AreNames names → IsItem s → IsLine t
    → IsLine (each_beside 32 names s t)
each_line {s = s} {t = t} names are item line = record {
  exact = each_beside_is_exact 32 names s t item.exact line.exact item.no_space are.no_space;
  no_feed = each_beside_avoids 32 10 names s t refl are.no_feed item.no_feed line.no_feed;
}

pub told_line : {A B : Type 0} {s : Spelling A} (to : A → B) (from : B → A) (Form : B → Type 0) → ((a : A) → s.Form a → from (to a) ≡ a)
    → ((b : B) → Form b → (told_by s to from).Form b) → ((b : B) → (told_by s to from).Form b → Form b) → IsLine s
    → IsLine (restated (told_by s to from) Form)
told_line {s = s} to from Form again narrow wide line = record {
  exact = restated_is_exact (told_by s to from) Form (told_by_is_exact s to from line.exact again) narrow wide;
  no_feed = restated_avoids (told_by s to from) Form 10 narrow (told_by_avoids s to from 10 line.no_feed);
}

-- READING, one front after another

-- what is read in front of a text, and then in front of the text behind it
abbrev pub both_in_front : {A B : Type 0} → (List ℕ → Option (A × List ℕ)) → (List ℕ → Option (B × List ℕ)) → List ℕ
    → Option ((A × B) × List ℕ)
both_in_front first second text = option_and_then (λ one. option_map (λ two. ((one.0, two.0), two.1)) (second one.1)) (first text)

-- what is made of a front, and of the text behind it
abbrev behind_front : {F R W : Type 0} → (F → R → W) → (List ℕ → Option R) → Option (F × List ℕ) → Option W
behind_front make rest front = option_and_then (λ p. option_map (make p.0) (rest p.1)) front

-- the whole is read as the front of a text and the rest behind it
pub record IsReadAs {F R W : Type 0} (whole : List ℕ → Option W) (front : List ℕ → Option (F × List ℕ)) (rest : List ℕ → Option R) (make : F → R → W) : Type 0 where
  pub is : (text : List ℕ) → whole text ≡ behind_front make rest (front text)

pub one_read : {A B : Type 0} (s : Spelling A) (t : Spelling B)
    → IsReadAs {F = A} {R = B} {W = A × B} (beside 32 s t).value (in_front 32 s) t.value (λ a b. (a, b))
one_read s t = record { is = λ text. beside_in_front 32 s t text }

pub each_read : {A B : Type 0} (names : List (List ℕ)) (s : Spelling A) (t : Spelling B)
    → IsReadAs {F = List A} {R = B} {W = List A × B} (each_beside 32 names s t).value (each_in_front 32 s names) t.value (λ a b. (a, b))
each_read names s t = record { is = λ text. refl }

made_twice : {F G R W V : Type 0} (make : F → V → W) (more : G → R → V) (first : F) (second : G) (rest : Option R)
    → option_map (make first) (option_map (more second) rest) ≡ option_map (λ r. make first (more second r)) rest
made_twice make more first second None = refl
made_twice make more first second (Some r) = refl

second_front : {F G R W V : Type 0} (make : F → V → W) (more : G → R → V) (rest : List ℕ → Option R) (first : F) (front : Option (G × List ℕ))
    → option_map (make first) (behind_front more rest front)
    ≡ behind_front {F = F × G} (λ p r. make p.0 (more p.1 r)) rest (option_map (λ two. ((first, two.0), two.1)) front)
second_front make more rest first None = refl
second_front make more rest first (Some p) = made_twice make more first p.0 (rest p.1)

first_front : {F G R W V : Type 0} (make : F → V → W) (more : G → R → V) (between : List ℕ → Option V) (front : List ℕ → Option (G × List ℕ))
    (rest : List ℕ → Option R) → IsReadAs between front rest more → (first : Option (F × List ℕ))
    → behind_front make between first
    ≡ behind_front {F = F × G} (λ p r. make p.0 (more p.1 r)) rest (option_and_then (λ p. option_map (λ two. ((p.0, two.0), two.1)) (front p.1)) first)
first_front make more between front rest read None = refl
first_front make more between front rest read (Some p) =
    ap (option_map (make p.0)) (read.is p.1) ∙ second_front make more rest p.0 (front p.1)

-- a front and then another
pub then_read : {F G R W V : Type 0} {whole : List ℕ → Option W} {first : List ℕ → Option (F × List ℕ)} {between : List ℕ → Option V} {make : F → V → W}
    {second : List ℕ → Option (G × List ℕ)} {rest : List ℕ → Option R} {more : G → R → V} → IsReadAs whole first between make
    → IsReadAs between second rest more → IsReadAs whole (both_in_front first second) rest (λ p r. make p.0 (more p.1 r))
then_read {first = first} {between = between} {make = make} {second = second} {rest = rest} {more = more} one next = record {
  is = λ text. one.is text ∙ first_front make more between second rest next (first text);
}

-- A value is made of a front and of what stands behind it, of which a view tells enough.

-- no front is read
pub no_front : {F R W V : Type 0} {whole : List ℕ → Option W} {front : List ℕ → Option (F × List ℕ)} {rest : List ℕ → Option R} {make : F → R → W}
    → IsReadAs whole front rest make → (made : W → V) (text : List ℕ) → None ≡ front text → None ≡ option_map made (whole text)
no_front {rest = rest} {make = make} read made text none =
    sym (ap (option_map made) (read.is text ∙ ap (behind_front make rest) (sym none)))

none_made : {F R W V A : Type 0} (make : F → R → W) (made : W → V) (view : R → A) (first : F) (more : Option R)
    → None ≡ option_map view more
    → option_map made (option_map (make first) more) ≡ None
none_made make made view first None e = refl
none_made make made view first (Some r) e = absurd (none-some (view r) e)

-- nothing is read behind it
pub no_rest : {F R W V A : Type 0} {whole : List ℕ → Option W} {front : List ℕ → Option (F × List ℕ)} {rest : List ℕ → Option R} {make : F → R → W}
    → IsReadAs whole front rest make → (made : W → V) (view : R → A) (text behind : List ℕ) (first : F) → Some (first, behind) ≡ front text
    → None ≡ option_map view (rest behind) → None ≡ option_map made (whole text)
no_rest {rest = rest} {make = make} read made view text behind first is none =
    sym (ap (option_map made) (read.is text ∙ ap (behind_front make rest) (sym is)) ∙ none_made make made view first (rest behind) none)

some_made : {F R W V A : Type 0} (make : F → R → W) (made : W → V) (view : R → A) (first : F) (state : A → V)
    → ((r : R) → made (make first r) ≡ state (view r)) → (more : Option R) (found : A) → Some found ≡ option_map view more
    → option_map made (option_map (make first) more) ≡ Some (state found)
some_made make made view first state same None found e = absurd (none-some found (sym e))
some_made make made view first state same (Some r) found e = ap Some (same r) ∙ ap (λ a. Some (state a)) (sym (same_Some found (view r) e))

-- both are read
pub rest_read : {F R W V A : Type 0} {whole : List ℕ → Option W} {front : List ℕ → Option (F × List ℕ)} {rest : List ℕ → Option R} {make : F → R → W}
    → IsReadAs whole front rest make → (made : W → V) (view : R → A) (text behind : List ℕ) (first : F) (state : A → V)
    → ((r : R) → made (make first r) ≡ state (view r)) → (found : A) → Some (first, behind) ≡ front text
    → Some found ≡ option_map view (rest behind)
    → Some (state found) ≡ option_map made (whole text)
rest_read {rest = rest} {make = make} read made view text behind first state same found is found_is =
    sym (ap (option_map made) (read.is text ∙ ap (behind_front make rest) (sym is)) ∙ some_made make made view first state same (rest behind) found found_is)

-- WRITING

-- what follows a text and the space behind it
pub behind_space : (before after text rest : List ℕ) → after ≡ before ++ (text ++ 32 ∷ []) → after ++ rest ≡ before ++ (text ++ 32 ∷ rest)
behind_space before after text rest pushed =
    ap (λ (t : List ℕ). t ++ rest) pushed ∙ append_assoc before (text ++ 32 ∷ []) rest
    ∙ ap (λ (t : List ℕ). before ++ t) (append_assoc text (32 ∷ []) rest)

pub behind_text : (before after text rest : List ℕ) → after ≡ before ++ text → after ++ rest ≡ before ++ (text ++ rest)
behind_text before after text rest pushed = ap (λ (t : List ℕ). t ++ rest) pushed ∙ append_assoc before text rest

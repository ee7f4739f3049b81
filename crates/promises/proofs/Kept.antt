-- A step that breaks no promise of a text keeps them all.
use Rattle.std.specs.Prelude.{◌≡◌, ℕ, ◌&&◌, if◌then◌else◌, Bool, true, false, Option, None, Some, option_map, List, [], ◌∷◌}
use Rattle.std.specs.Option.{is_none, option_or}
use Rattle.std.proofs.Common.{refl, sym, ap, ap₂, ◌∙◌}
use Rattle.chip_numbers.specs.Single.{Single}
use Rattle.promises.specs.declared.promise.Promise.{Promise}
use Rattle.promises.specs.Spoken.{Spoken}
use Rattle.promises.specs.Text.{Numbered, promises_alone}
use Rattle.promises.specs.Breaking.{broken_by, broken_from, line_unless, numbered, numbered_targets, numbered_windows}
use Rattle.promises.specs.Keeping.{first_of_all, is_store, keeps, keeps_at, keeps_targets, keeps_windows, pc_of, targets_for, windows_at, windows_for, windows_for_all}

abbrev alone : {A : Type 0} → Option (ℕ × A) → Option A
alone found = option_map (λ line. line.1) found

or_alone : {A : Type 0} (line : ℕ) (found : Option A) (rest : Option (ℕ × A)) (others : Option A) → alone rest ≡ others
    → alone (option_or (option_map (λ a. (line, a)) found) rest) ≡ option_or found others
or_alone line None rest others e = e
or_alone line (Some a) rest others e = refl

first_alone : {A : Type 0} (given : Promise → Option A) (list : Numbered)
    → alone (first_of_all (numbered given) list) ≡ first_of_all given (promises_alone list)
first_alone given [] = refl
first_alone given (x ∷ list) = or_alone x.0 (given x.1) (first_of_all (numbered given) list) (first_of_all given (promises_alone list)) (first_alone given list)

alone_or : {A : Type 0} (a b : Option (ℕ × A)) → alone (option_or a b) ≡ option_or (alone a) (alone b)
alone_or None b = refl
alone_or (Some a) b = refl

alone_if : {A : Type 0} (b : Bool) (found : Option (ℕ × A)) (other : Option A) → alone found ≡ other
    → alone (if b then found else None) ≡ (if b then other else None)
alone_if true found other e = e
alone_if false found other e = refl

windows_alone : (spoken : Spoken) (list : Numbered) (pc : ℕ)
    → alone (numbered_windows spoken list pc) ≡ windows_at spoken (promises_alone list) pc
windows_alone spoken list pc =
    alone_or (first_of_all (numbered (windows_for pc)) list) (if is_store (spoken.at pc) then first_of_all (numbered windows_for_all) list else None)
    ∙ ap₂ option_or (first_alone (windows_for pc) list)
    (alone_if (is_store (spoken.at pc)) (first_of_all (numbered windows_for_all) list) _ (first_alone windows_for_all list))

none_or : {A : Type 0} (a b : Option A) → is_none (option_or a b) ≡ (is_none a && is_none b)
none_or None b = refl
none_or (Some a) b = refl

none_if : (b : Bool) (line : ℕ) → is_none (if b then None else Some line) ≡ b
none_if true line = refl
none_if false line = refl

none_kept : {A : Type 0} (test : Option A → Bool) (found : Option (ℕ × A)) → test None ≡ true
    → is_none (line_unless test found) ≡ test (alone found)
none_kept test None e = sym e
none_kept test (Some line) e = none_if (test (Some line.1)) line.0

kept_from : (spoken : Spoken) (list : Numbered) (pc : Option ℕ) (step : List Single)
    → is_none (broken_from spoken list pc step) ≡ keeps_at spoken (promises_alone list) pc step
kept_from spoken list None step = refl
kept_from spoken list (Some pc) step =
    none_or (line_unless (λ windows. keeps_windows spoken.growth windows step) (numbered_windows spoken list pc))
    (line_unless (λ targets. keeps_targets targets step) (numbered_targets list pc))
    ∙ ap₂ (λ a b. a && b)
    (none_kept (λ windows. keeps_windows spoken.growth windows step) (numbered_windows spoken list pc) refl
    ∙ ap (λ windows. keeps_windows spoken.growth windows step) (windows_alone spoken list pc))
    (none_kept (λ targets. keeps_targets targets step) (numbered_targets list pc) refl
    ∙ ap (λ targets. keeps_targets targets step) (first_alone (targets_for pc) list))

pub kept : (spoken : Spoken) (list : Numbered) (step : List Single) → is_none (broken_by spoken list step) ≡ keeps spoken (promises_alone list) step
kept spoken list step = kept_from spoken list (pc_of step) step

-- Lists of one length, place by place.
use Rattle.std.specs.Prelude.{Bool, true, false, ◌&&◌, List, [], ◌∷◌}

-- what a function makes of the two items at each place
abbrev pub each_with : {A : Type 0} → (A → A → A) → List A → List A → List A
each_with f [] ys = []
each_with f (x ∷ xs) [] = []
each_with f (x ∷ xs) (y ∷ ys) = f x y ∷ each_with f xs ys

-- whether a test holds of the two items at each place
abbrev pub each_passes : {A : Type 0} → (A → A → Bool) → List A → List A → Bool
each_passes test [] [] = true
each_passes test [] (y ∷ ys) = false
each_passes test (x ∷ xs) [] = false
each_passes test (x ∷ xs) (y ∷ ys) = test x y && each_passes test xs ys

-- Runs by their steps and by the number of them, and runs of kept steps.
use Rattle.std.proofs.Common.{◌≡◌, ◌+◌, ◌++◌, ℕ, zero, suc, Bool, true, false, Some, List, [], ◌∷◌, length, refl, sym, ap, ◌∙◌, subst, inl, inr, arith}
use Rattle.std.specs.Prelude.{Contains, slice_get}
use Rattle.std.specs.List.{AllByRecursion, take_while}
use Rattle.std.proofs.lemmas.Bool.{cases_Bool, cond-true, cond-false}
use Rattle.std.proofs.lemmas.List.{length-append}
use Rattle.std.proofs.lemmas.List.Elements.{All-from_recursion, recursion_from_All}
use Rattle.std.proofs.lemmas.List.Sums.{take_while-cons}
use Rattle.std.proofs.lemmas.Option.{none-some, same_Some}
use Rattle.chip_law.specs.Kept.{IsCut, MeetsInFront, RunAlike, RunsInFront, RunsUpTo, kept}
use Rattle.chip_law.specs.Machine.{Machine}
use Rattle.chip_law.specs.Outcome.{Leaving}
use Rattle.chip_law.specs.Outcome.Outcome.{Next}
use Rattle.chip_law.specs.Runs.{Leads, Meets, RunsBy, RunsTo}
use Rattle.chip_numbers.specs.Single.{Single}

-- BY STEPS, AND BY THEIR NUMBER

module _ {S : Type 0} (m : Machine S) where
  then_step : (s : S) (steps : List (List Single)) (t : S) (items : List Single) (u : S) → Leads m s steps t → m.Step t (Next items u)
      → Leads m s (steps ++ items ∷ []) u
  then_step s [] t items u leads step = (u, subst (λ x. m.Step x (Next items u)) (sym leads) step, refl)
  then_step s (first ∷ later) t items u leads step = (leads.0, leads.1, then_step leads.0 later t items u leads.2 step)

  pub run_then : (steps : List (List Single)) (t : S) (items : List Single) (u : S) → RunsBy m steps t → m.Step t (Next items u)
      → RunsBy m (steps ++ items ∷ []) u
  run_then steps t items u run step = (run.0, run.1, then_step run.0 steps t items u run.2 step)

  pub by_steps : (n : ℕ) (t : S) → RunsTo m n t → (steps : List (List Single)) × (length steps ≡ n) × RunsBy m steps t
  by_steps zero t reset = ([], refl, (t, reset, refl))
  by_steps (suc n) t run =
      let front = by_steps n run.0 run.2 in
      let long : length front.0 ≡ n = front.1 in
      (front.0 ++ run.1 ∷ [], omega (arith, length-append front.0 (run.1 ∷ []), long), run_then front.0 run.0 run.1 t front.2 run.3)

  -- steps from a state to which some run leads
  on_from : (n : ℕ) (s : S) (steps : List (List Single)) (t : S) (k : ℕ) → n + length steps ≡ k → RunsTo m n s → Leads m s steps t → RunsTo m k t
  on_from n s [] t k e run leads = let same : n ≡ k = omega (arith, e) in subst (λ i. RunsTo m i t) same (subst (RunsTo m n) leads run)
  on_from n s (items ∷ later) t k e run leads = on_from (suc n) leads.0 later t k (omega (arith, e)) (s, items, run, leads.1) leads.2

  pub by_number : (n : ℕ) (steps : List (List Single)) (t : S) → length steps ≡ n → RunsBy m steps t → RunsTo m n t
  by_number n steps t long run = on_from 0 run.0 steps t n (omega (arith, long)) run.1 run.2

  -- what one of the steps did is met
  pub met_from : (n : ℕ) (s : S) (steps : List (List Single)) (t : S) (i k : ℕ) (items : List Single) (item : Single) → n + i ≡ k
      → RunsTo m n s → Leads m s steps t → slice_get steps i ≡ Some items → Contains items item → Meets m k item
  met_from n s [] t i k items item e run leads at contains = absurd (none-some items at)
  met_from n s (first ∷ later) t zero k items item e run leads at contains =
      let same : n ≡ k = omega (arith, e) in
      subst (λ j. Meets m j item) same (s, first, leads.0, run, leads.1, subst (λ xs. Contains xs item) (sym (same_Some first items at)) contains)
  met_from n s (first ∷ later) t (suc i) k items item e run leads at contains =
      met_from (suc n) leads.0 later t i k items item (omega (arith, e)) (s, first, run, leads.1) leads.2 at contains

-- STEPS THAT ARE KEPT

module _ (keeps : List Single → Bool) where
  abbrev pub AreKept : List (List Single) → Type 0
  AreKept steps = AllByRecursion (λ items. keeps items ≡ true) steps

  front_on : (items : List Single) (later : List (List Single)) → keeps items ≡ true → take_while keeps (items ∷ later) ≡ items ∷ take_while keeps later
  front_on items later is = take_while-cons keeps items later ∙ cond-true (keeps items) (items ∷ take_while keeps later) [] is

  front_ends : (items : List Single) (later : List (List Single)) → keeps items ≡ false → take_while keeps (items ∷ later) ≡ []
  front_ends items later is = take_while-cons keeps items later ∙ cond-false (keeps items) (items ∷ take_while keeps later) [] is

  front_all : (steps : List (List Single)) → AreKept steps → take_while keeps steps ≡ steps
  front_all [] all = refl
  front_all (items ∷ later) all = front_on items later all.0 ∙ ap (λ (xs : List (List Single)). items ∷ xs) (front_all later all.1)

  kept_then : (steps : List (List Single)) (items : List Single) → AreKept steps → keeps items ≡ true → AreKept (steps ++ items ∷ [])
  kept_then [] items all is = (is, tt)
  kept_then (first ∷ later) items all is = (all.0, kept_then later items all.1 is)

-- the element behind the others
last_is : {X : Type 0} (xs : List X) (x : X) (n : ℕ) → length xs ≡ n → slice_get (xs ++ x ∷ []) n ≡ Some x
last_is [] x zero long = refl
last_is [] x (suc n) long = absurd (omega (arith, long))
last_is (y ∷ ys) x zero long = absurd (omega (arith, long))
last_is (y ∷ ys) x (suc n) long = last_is ys x n (omega (arith, long))

module _ {S : Type 0} (keeps : List Single → Bool) (leaves : S → Leaving → Bool) (m : Machine S) where
  abbrev own : Machine S
  own = kept keeps leaves m

  own_leads : (s : S) (steps : List (List Single)) (t : S) → Leads own s steps t → AreKept keeps steps × Leads m s steps t
  own_leads s [] t leads = (tt, leads)
  own_leads s (items ∷ later) t leads = let rest = own_leads leads.0 later t leads.2 in ((leads.1.1, rest.0), (leads.0, leads.1.0, rest.1))

  leads_own : (s : S) (steps : List (List Single)) (t : S) → AreKept keeps steps → Leads m s steps t → Leads own s steps t
  leads_own s [] t all leads = leads
  leads_own s (items ∷ later) t all leads = (leads.0, (leads.1, all.0), leads_own leads.0 later t all.1 leads.2)

  -- what leads on from a state, in two parts
  record CutFrom (s : S) (steps : List (List Single)) (t : S) : Type 0 where
    others : List (List Single)
    parts : take_while keeps steps ++ others ≡ steps
    at : S
    front : Leads own s (take_while keeps steps) at
    goes_on : Leads m at others t

  cut_from : (s : S) (steps : List (List Single)) (t : S) → Leads m s steps t → CutFrom s steps t
  cut_from s [] t leads = record { others = []; parts = refl; at = s; front = refl; goes_on = leads }
  cut_from s (items ∷ later) t leads = elim (cases_Bool (keeps items)) [
    | inl is ↦
        let rest = cut_from leads.0 later t leads.2 in
        let front = sym (front_on keeps items later is) in
        record {
          others = rest.others;
          parts = subst (λ (xs : List (List Single)). xs ++ rest.others ≡ items ∷ later) front (ap (λ (xs : List (List Single)). items ∷ xs) rest.parts);
          at = rest.at;
          front = subst (λ xs. Leads own s xs rest.at) front (leads.0, (leads.1, is), rest.front);
          goes_on = rest.goes_on;
        }
    | inr is ↦
        let front = sym (front_ends keeps items later is) in
        record {
          others = items ∷ later;
          parts = subst (λ (xs : List (List Single)). xs ++ items ∷ later ≡ items ∷ later) front refl;
          at = s;
          front = subst (λ xs. Leads own s xs s) front refl;
          goes_on = leads;
        }
  ]

  cut : (steps : List (List Single)) (t : S) → RunsBy m steps t → IsCut keeps leaves m steps t
  cut steps t run =
      let parts = cut_from run.0 steps t run.2 in
      record { others = parts.others; parts = parts.parts; at = parts.at; front = (run.0, run.1, parts.front); goes_on = parts.goes_on }

  in_front : (n : ℕ) (s : S) → RunsTo own n s → RunsInFront keeps m n s
  in_front n s run =
      let by = by_steps own n s run in
      let both = own_leads by.2.0 by.0 s by.2.2 in
      record { steps = by.0; number = by.1; all = All-from_recursion (λ items. keeps items ≡ true) by.0 both.0; runs = (by.2.0, by.2.1, both.1) }

  all_in : (n : ℕ) (s : S) (run : RunsInFront keeps m n s) → AreKept keeps run.steps
  all_in n s run = recursion_from_All (λ items. keeps items ≡ true) run.steps run.all

  from_front : (n : ℕ) (s : S) → RunsInFront keeps m n s → RunsTo own n s
  from_front n s run = by_number own n run.steps s run.number (run.runs.0, run.runs.1, leads_own run.runs.0 run.steps s (all_in n s run) run.runs.2)

  met_in_front : (n : ℕ) (item : Single) → Meets own n item → MeetsInFront keeps m n item
  met_in_front n item met =
      let front = in_front n met.0 met.3 in
      let items = met.1 in
      let steps = front.steps ++ items ∷ [] in
      let all = kept_then keeps front.steps items (all_in n met.0 front) met.4.1 in
      record {
        steps = steps;
        end = met.2;
        runs = run_then m front.steps met.0 items met.2 front.runs met.4.0;
        items = items;
        met = ap (λ xs. slice_get xs n) (front_all keeps steps all) ∙ last_is front.steps items n front.number;
        contains = met.5;
      }

  met_from_front : (n : ℕ) (item : Single) → MeetsInFront keeps m n item → Meets own n item
  met_from_front n item met =
      let parts = cut met.steps met.end met.runs in
      met_from own 0 parts.front.0 (take_while keeps met.steps) parts.at n n met.items item (omega arith) parts.front.1 parts.front.2 met.met met.contains

  pub up_to : RunsUpTo keeps leaves m
  up_to = record {
    cut = cut;
    runs = λ n s. (in_front n s, from_front n s);
    meets = λ n item. (met_in_front n item, met_from_front n item);
    wild = λ n. (
      (λ wild. record { s = wild.0; why = wild.1; runs = in_front n wild.0 wild.2; step = wild.3.0; keeps_so = wild.3.1 }),
      (λ wild. (wild.s, wild.why, from_front n wild.s wild.runs, (wild.step, wild.keeps_so))),
    );
  }

  -- WITHOUT PROMISES

  module _ (all : (items : List Single) → keeps items ≡ true) where
    own_runs : (n : ℕ) (s : S) → RunsTo own n s → RunsTo m n s
    own_runs zero s run = run
    own_runs (suc n) t run = (run.0, run.1, own_runs n run.0 run.2, run.3.0)

    runs_own : (n : ℕ) (s : S) → RunsTo m n s → RunsTo own n s
    runs_own zero s run = run
    runs_own (suc n) t run = (run.0, run.1, runs_own n run.0 run.2, (run.3, all run.1))

    pub all_alike : ((s : S) (why : Leaving) → leaves s why ≡ true) → RunAlike own m
    all_alike every = record {
      runs = λ n s. (own_runs n s, runs_own n s);
      meets = λ n item. (
        (λ met. (met.0, met.1, met.2, own_runs n met.0 met.3, met.4.0, met.5)),
        (λ met. (met.0, met.1, met.2, runs_own n met.0 met.3, (met.4, all met.1), met.5)),
      );
      wild = λ n. (
        (λ wild. (wild.0, wild.1, own_runs n wild.0 wild.2, wild.3.0)),
        (λ wild. (wild.0, wild.1, runs_own n wild.0 wild.2, (wild.3, every wild.0 wild.1))),
      );
    }

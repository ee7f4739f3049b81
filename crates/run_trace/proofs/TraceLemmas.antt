-- A run step by step: the text so far, followed by what the rest of the run tells, is that of the whole run.
use Rattle.std.proofs.Common.{◌≡◌, ℕ, zero, suc, ◌+◌, List, [], ◌∷◌, ◌++◌, None, Some, Result, Ok, Err, refl, sym, ◌∙◌, ap, ap₂, append_assoc}
use Rattle.std.specs.Prelude.{codes, map, IfOk}
use Rattle.std.specs.List.{flat_map}
use Rattle.chip_numbers.specs.Single.{Single}
use Rattle.call_context.specs.declared.shown.Item.{Item}
use Rattle.item_lines.specs.Line.{item_line_of}
use Rattle.choosing.specs.Outcome.Outcome.{Next, Wild as Leaves}
use Rattle.run_trace.specs.Runner.{Runner}
use Rattle.run_trace.specs.Trace.{Ended, after, ended_by, end_line, met_lines, need_line, run_from, wild_line}
use Rattle.run_trace.specs.declared.trace.End.{End}
use Rattle.run_trace.specs.declared.trace.End.TheVariants.{Ran, Wild, NeedChoice}
use Rattle.run_trace.specs.declared.trace.Trace.{Trace}

module _ {S W : Type 0} (runner : Runner S W) (text_of : ℕ → List ℕ → List ℕ) where
  run_more : (more steps : ℕ) (s : S) (choices : List ℕ)
      → run_from runner text_of (suc more) steps s choices
      ≡ ended_by runner text_of steps s (run_from runner text_of more (steps + 1)) (runner.step s choices)
  unfolding run_from
  run_more more steps s choices = refl

  run_end : (steps : ℕ) (s : S) (choices : List ℕ) → run_from runner text_of zero steps s choices ≡ (Ran, end_line steps)
  unfolding run_from
  run_end steps s choices = refl

  -- the end of a run, by what its next step is
  next_is : (left more steps : ℕ) (s : S) (choices : List ℕ) (e : Ended) → left ≡ suc more
      → ended_by runner text_of steps s (run_from runner text_of more (steps + 1)) (runner.step s choices) ≡ e
      → run_from runner text_of left steps s choices ≡ e
  next_is left more steps s choices e size is =
      ap (λ n. run_from runner text_of n steps s choices) size ∙ run_more more steps s choices ∙ is

  lines_of_items : (singles : List Single)
      → flat_map (λ item. item_line_of text_of item ++ codes "\n") (map runner.item singles) ≡ met_lines runner text_of singles
  lines_of_items [] = refl
  lines_of_items (single ∷ singles) =
      ap (λ rest. (item_line_of text_of (runner.item single) ++ codes "\n") ++ rest) (lines_of_items singles)

  pub met : (left more steps : ℕ) (s t : S) (choices rest : List ℕ) (singles : List Single) (items : List Item) (text new : List ℕ) (whole : Ended)
      → left ≡ suc more → runner.step s choices ≡ Some (Next singles t, rest) → items ≡ map runner.item singles
      → new ≡ text ++ flat_map (λ item. item_line_of text_of item ++ codes "\n") items
      → after text (run_from runner text_of left steps s choices) ≡ whole
      → after new (run_from runner text_of more (steps + 1) t rest) ≡ whole
  met left more steps s t choices rest singles items text new whole size is shown new_is so_far =
      let onward = run_from runner text_of more (steps + 1) t rest in
      let next = next_is left more steps s choices (after (met_lines runner text_of singles) onward) size
      (ap (ended_by runner text_of steps s (run_from runner text_of more (steps + 1))) is) in
      let lines : new ≡ text ++ met_lines runner text_of singles =
      new_is ∙ ap (λ i. text ++ flat_map (λ item. item_line_of text_of item ++ codes "\n") i) shown ∙ ap (λ l. text ++ l) (lines_of_items singles) in
      ap (λ t. after t onward) lines ∙ ap (λ l. (onward.0, l)) (append_assoc text (met_lines runner text_of singles) onward.1) ∙ sym (ap (after text) next) ∙ so_far

  pub went_wild : (left more steps : ℕ) (s : S) (choices rest : List ℕ) (cause : W) (text new : List ℕ) (whole : Ended)
      → left ≡ suc more → runner.step s choices ≡ Some (Leaves cause, rest) → new ≡ text ++ wild_line (steps + 1) (runner.pc s)
      → after text (run_from runner text_of left steps s choices) ≡ whole → (Wild, new) ≡ whole
  went_wild left more steps s choices rest cause text new whole size is new_is so_far =
      let next = next_is left more steps s choices (Wild, wild_line (steps + 1) (runner.pc s)) size
      (ap (ended_by runner text_of steps s (run_from runner text_of more (steps + 1))) is) in
      ap (λ l. (Wild, l)) new_is ∙ sym (ap (after text) next) ∙ so_far

  pub lacked : (left more steps : ℕ) (s : S) (choices : List ℕ) (text new : List ℕ) (whole : Ended)
      → left ≡ suc more → runner.step s choices ≡ None → new ≡ text ++ need_line (steps + 1)
      → after text (run_from runner text_of left steps s choices) ≡ whole → (NeedChoice, new) ≡ whole
  lacked left more steps s choices text new whole size is new_is so_far =
      let next = next_is left more steps s choices (NeedChoice, need_line (steps + 1)) size
      (ap (ended_by runner text_of steps s (run_from runner text_of more (steps + 1))) is) in
      ap (λ l. (NeedChoice, l)) new_is ∙ sym (ap (after text) next) ∙ so_far

  pub ended : (left steps : ℕ) (s : S) (choices : List ℕ) (text new : List ℕ) (whole : Ended)
      → left ≡ 0 → new ≡ text ++ end_line steps → after text (run_from runner text_of left steps s choices) ≡ whole → (Ran, new) ≡ whole
  ended left steps s choices text new whole none new_is so_far =
      let next = ap (λ n. run_from runner text_of n steps s choices) none ∙ run_end steps s choices in
      ap (λ l. (Ran, l)) new_is ∙ sym (ap (after text) next) ∙ so_far

-- a trace by its two parts
pub told : {F : Type 0} (r : Result Trace F) (end : End) (text : List ℕ) (whole : Ended) → (end, text) ≡ whole
    → IfOk r (λ trace. trace.end ≡ end) → IfOk r (λ trace. trace.text ≡ text) → IfOk r (λ trace. (trace.end, trace.text) ≡ whole)
told (Ok trace) end text whole is same_end same_text = ap₂ (λ e t. (e, t)) same_end same_text ∙ is
told (Err error) end text whole is same_end same_text = tt

-- The trace of a run along a script: what each step meets, and how the run ends.
use Rattle.std.specs.Prelude.{ℕ, zero, suc, ◌+◌, Option, None, Some, List, ◌++◌, codes}
use Rattle.std.specs.Fmt.{decimal}
use Rattle.std.specs.List.{flat_map}
use Rattle.chip_numbers.specs.Single.{Single}
use Rattle.hex_digits.specs.Digits.{hex}
use Rattle.item_lines.specs.Line.{item_line_of}
use Rattle.choosing.specs.Outcome.{Outcome}
use Rattle.choosing.specs.Outcome.Outcome.{Next, Wild as Leaves}
use Rattle.run_trace.specs.Runner.{Runner}
use Rattle.run_trace.specs.declared.trace.End.{End}
use Rattle.run_trace.specs.declared.trace.End.TheVariants.{Ran, Wild, NeedChoice}

-- how many steps were done, or the number of the step that wasn't
unfoldable pub end_line : ℕ → List ℕ
end_line steps = codes "END " ++ decimal steps ++ codes "\n"

unfoldable pub wild_line : (step pc : ℕ) → List ℕ
wild_line step pc = codes "WILD " ++ decimal step ++ codes " " ++ hex 4 pc ++ codes "\n"

unfoldable pub need_line : ℕ → List ℕ
need_line step = codes "NEED " ++ decimal step ++ codes "\n"

-- how a run ended, with its text
abbrev pub Ended : Type 0
Ended = End × List ℕ

abbrev pub after : List ℕ → Ended → Ended
after text ended = (ended.0, text ++ ended.1)

module _ {S W : Type 0} (runner : Runner S W) (text_of : ℕ → List ℕ → List ℕ) where
  -- the lines of what a step met, in the form of a report with one value each
  abbrev pub met_lines : List Single → List ℕ
  met_lines singles = flat_map (λ single. item_line_of text_of (runner.item single) ++ codes "\n") singles

  -- the end of a run after so many steps, by the next step from a state, and by what follows that
  abbrev pub ended_by : ℕ → S → (S → List ℕ → Ended) → Option (Outcome Single S W × List ℕ) → Ended
  ended_by steps s go None = (NeedChoice, need_line (steps + 1))
  ended_by steps s go (Some (Leaves cause, choices)) = (Wild, wild_line (steps + 1) (runner.pc s))
  ended_by steps s go (Some (Next singles t, choices)) = after (met_lines singles) (go t choices)

  -- a run of at most so many more steps after so many, from a state with these choices left
  unfoldable pub run_from : (more steps : ℕ) → S → List ℕ → Ended
  run_from zero steps s choices = (Ran, end_line steps)
  run_from (suc more) steps s choices = ended_by steps s (run_from more (steps + 1)) (runner.step s choices)

  -- a run of at most so many steps from a state along a script
  abbrev pub run_of : (steps : ℕ) → S → (script : List ℕ) → Ended
  run_of steps s script = run_from steps 0 s script

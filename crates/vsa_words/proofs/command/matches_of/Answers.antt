use Rattle.std.proofs.Common.{◌≡◌, true, ap, sym, ◌∙◌, map, string_bytes, rules}
use Rattle.clap.specs.Words.{app_of, fault_of, is_simple, is_simple_and_free, matches_of}
use Rattle.vsa_words.proofs.CommandLemmas.{command_is_free, command_is_simple, not_taken}
use Rattle.vsa_words.proofs.command.matches_of.Goals as goal

pub returns-in-Ok : goal.returns-in-Ok
returns-in-Ok c =
    let words = map string_bytes c.args.words.now in
    let made = c.in_ok-command.ensures in
    let free : is_simple_and_free (app_of c.in_ok-command.command) ≡ true = ap is_simple_and_free made ∙ command_is_free in
    let simple : is_simple (app_of c.in_ok-command.command) ≡ true = ap is_simple made ∙ command_is_simple in (
      ap (λ a. fault_of a words) (sym made) ∙ c.in-Ok.ensures.kinds free,
      (c.in-Ok.ensures.matches simple).0 ∙ ap (λ a. matches_of a words) made,
    )

pub returns : goal.returns
returns c =
    let words = map string_bytes c.args.words.now in
    let made = c.in_ok-command.ensures in
    let free : is_simple_and_free (app_of c.in_ok-command.command) ≡ true = ap is_simple_and_free made ∙ command_is_free in
    λ taken. not_taken (fault_of (app_of c.in_ok-command.command) words) c.in-Err.error (search rules) (c.in-Err.ensures.kinds free)
    (ap (λ a. fault_of a words) made ∙ taken)

-- The command has each option, and each option that is said fits.
use Rattle.std.proofs.Common.{◌≡◌, ◌∙◌, ◌<◌, ◌+◌, suc, ℕ, List, length, drop, take, get_or, drop-cons, ap, sym, subst, arith}
use Rattle.std.specs.List.{All}
use Rattle.clap.specs.Words.{App, with_rule}
use Rattle.image.specs.declared.chip_name.ChipName.{ChipName}
use Rattle.vsa_words.specs.declared.options.OptionName.{OptionName}
use Rattle.vsa_words.specs.declared.options.OptionName.TheVariants as name
use Rattle.vsa_words.specs.declared.options.Options.{Options}
use Rattle.vsa_words.specs.declared.reading.Mode.{Mode}
use Rattle.vsa_words.specs.Command.{every_option, option_rule, with_options}
use Rattle.vsa_words.specs.Options.{Fits, IsFitting}

-- the command with one more option, and those that are left
pub with_options-next : (options : List OptionName) (i : ℕ) (app next whole : App) → i < length options
    → next ≡ with_rule app (option_rule (get_or options i name.Ram)) → with_options (drop i options) app ≡ whole
    → with_options (drop (i + 1) options) next ≡ whole
with_options-next options i app next whole below is held =
    let more : i + 1 ≡ suc i = omega arith in
    ap (λ n. with_options (drop n options) next) more ∙ ap (with_options (drop (suc i) options)) is
    ∙ sym (ap (λ left. with_options left app) (drop-cons options i name.Ram below)) ∙ held

-- all of them, one by one
all_fit : (mode : Mode) (chip : ChipName) (o : Options) → All (IsFitting mode chip o) every_option → Fits mode chip o
all_fit mode chip o all name.Ram = all 0 name.Ram (omega arith)
all_fit mode chip o all name.Mirror = all 1 name.Ram (omega arith)
all_fit mode chip o all name.Calls = all 2 name.Ram (omega arith)
all_fit mode chip o all name.Targets = all 3 name.Ram (omega arith)
all_fit mode chip o all name.Workers = all 4 name.Ram (omega arith)
all_fit mode chip o all name.Steps = all 5 name.Ram (omega arith)
all_fit mode chip o all name.Number = all 6 name.Ram (omega arith)
all_fit mode chip o all name.Cert = all 7 name.Ram (omega arith)

pub fit_at_end : (mode : Mode) (chip : ChipName) (o : Options) (i : ℕ) → i ≡ 8
    → All (IsFitting mode chip o) (take i every_option) → Fits mode chip o
fit_at_end mode chip o i end held = all_fit mode chip o (subst (λ n. All (IsFitting mode chip o) (take n every_option)) end held)

-- The command of the words: a mode and a chip, and the options.
use Rattle.std.specs.Prelude.{◌≡◌, true, Option, Some, List, [], ◌∷◌, codes}
use Rattle.clap.specs.declared.builder.action.ArgAction.TheVariants.{SetTrue}
use Rattle.clap.specs.Words.{App, Rule, Text, fault_of, first_of, matches_of, new_app, new_rule, with_rule}
use Rattle.vsa_words.specs.declared.options.OptionName.{OptionName}
use Rattle.vsa_words.specs.declared.options.OptionName.TheVariants as name
use Rattle.vsa_words.specs.declared.options.Value.{Value}
use Rattle.vsa_words.specs.declared.options.Value.TheVariants.{Range, Number, Nothing}
use Rattle.vsa_words.specs.Options.{option_word, value_of}

-- a word that is needed, by its place, and that help names
abbrev pub needed : Text → Rule
needed id = record (new_rule id) { required = true; value_names = 1 }

-- an option with one text, which help names
abbrev pub with_text : Text → Rule
with_text id = record (new_rule id) { long = Some id; value_names = 1 }

-- a flag, whose text is true where it is given
abbrev pub flag : Text → Rule
flag id = record (new_rule id) { long = Some id; action = Some SetTrue }

abbrev pub rule_by : Value → Text → Rule
rule_by Range id = with_text id
rule_by (Number least most) id = with_text id
rule_by Nothing id = flag id

abbrev pub option_rule : OptionName → Rule
option_rule option = rule_by (value_of option) (option_word option)

abbrev pub every_option : List OptionName
every_option = name.Ram ∷ name.Mirror ∷ name.Calls ∷ name.Targets ∷ name.Workers ∷ name.Steps ∷ name.Number ∷ name.Cert ∷ []

-- words that aren't behind the program's name
abbrev pub nameless : App → App
nameless app = record app { top = record app.top { no_binary_name = true } }

-- a mode and a chip
abbrev pub with_places : App
with_places = with_rule (with_rule (nameless (new_app (codes "vsa"))) (needed (codes "mode"))) (needed (codes "chip"))

abbrev pub with_options : List OptionName → App → App
with_options [] app = app
with_options (option ∷ options) app = with_options options (with_rule app (option_rule option))

unfoldable pub command : App
command = with_options every_option with_places

-- the command takes the words: none of them is an error
abbrev pub AreTaken : List Text → Type 0
AreTaken words = fault_of command words ≡ []

-- the text that the words give for a name, where they do
abbrev pub given : List Text → Text → Option Text
given words id = first_of id (matches_of command words)

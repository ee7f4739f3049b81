use Rattle.std.proofs.Common.{◌≡◌, ◌∙◌, ap, sym, Some}
use Rattle.clap.specs.Words.{first_value, found_of}
use Rattle.vsa_words.specs.Numbers.{IsRange}
use Rattle.vsa_words.specs.Words.{text_of}
use Rattle.vsa_words.specs.Options.{option_word}
use Rattle.vsa_words.proofs.WordsLemmas.{none_said}
use Rattle.vsa_words.proofs.options.range_said.Goals as goal

pub returns-in_err-range_of-in-Some : goal.returns-in_err-range_of-in-Some
returns-in_err-range_of-in-Some c =
    let texts = first_value (found_of c.args.matches.now) in
    let given : Some c.as_bytes.result.now ≡ texts (option_word c.args.option) =
    ap Some c.as_bytes.ensures.value ∙ sym (ap text_of c.in-Some.is) ∙ c.get_str.ensures ∙ ap texts c.word.ensures in
    rw c.from_residual.ensures (none_said IsRange c.as_bytes.result.now (texts (option_word c.args.option)) given c.in_err-range_of-in-Some.ensures)

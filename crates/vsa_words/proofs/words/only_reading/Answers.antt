use Rattle.clap.specs.Words.{found_of}
use Rattle.vsa_words.specs.Words.{text_of}
use Rattle.vsa_words.proofs.CommandLemmas.{matched}
use Rattle.vsa_words.proofs.WordsLemmas.{Texts, found_by, only_found}
use Rattle.vsa_words.proofs.words.only_reading.Goals as goal

pub returns : goal.returns
returns c =
    let m = c.in-Some.matches in
    let words = c.args.words.now in
    let given = matched (Texts words) c.in_ok-matches.field-0 m c.in-Some.is c.in_ok-matches.ensures in
    let found = found_by words (found_of m) (text_of c.get_str.result) (text_of c.get_str-2.result)
    c.mode_of-mode.result c.chip_of-chip.result c.options_of.result given c.get_str.ensures c.get_str-2.ensures
    c.mode_of-mode.ensures c.chip_of-chip.ensures c.options_of.ensures in
    only_found words c.mode_of-mode.result c.chip_of-chip.result c.options_of.result c.reading_with.result found c.reading_with.ensures

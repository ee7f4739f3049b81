use Rattle.std.proofs.lemmas.Result.{IfOk-weaker}
use Rattle.vsa_words.proofs.WordsLemmas.{only_alone, only_bounds, only_end, only_none, only_range, only_reads}
use Rattle.vsa_words.proofs.words.reading_of.Goals as goal

pub returns : goal.returns
returns c =
    let words = c.args.words.now in
    let found = c.only_reading in
    record {
      reads = IfOk-weaker found.result _ _ (only_reads words) found.ensures;
      range = IfOk-weaker found.result _ _ (only_range words) found.ensures;
      end = IfOk-weaker found.result _ _ (only_end words) found.ensures;
      bounded = IfOk-weaker found.result _ _ (only_bounds words) found.ensures;
      alone = IfOk-weaker found.result _ _ (only_alone words) found.ensures;
      none = IfOk-weaker found.result _ _ (only_none words) found.ensures;
    }

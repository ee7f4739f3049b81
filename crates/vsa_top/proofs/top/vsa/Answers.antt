use Rattle.std.proofs.Common.{◌≡◌, sym}
use Rattle.vsa_words.specs.Words.{Reads}
use Rattle.vsa_words.specs.declared.reading.Reading.{Reading}
use Rattle.vsa_words.specs.declared.reading.Reading.TheVariants.{Analyse, Assert, Check, Gen}
use Rattle.vsa_top.proofs.WordsLemmas.{as_told, none_of, read_as, some_of}
use Rattle.vsa_top.proofs.top.vsa.Goals as goal

pub returns-in-Ok-Some-clause-headline : goal.returns-in-Ok-Some-clause-headline
returns-in-Ok-Some-clause-headline g c = λ task reads told.
    let read = c.in-Ok-Some.ensures in
    let is = read_as c.in-Ok-Some.field-0-is read.alone read.range read.end read.bounded c.answer.ensures.answer (Analyse task) reads in
    c.reports_hold.ensures.closed task _ _ _ _ is.range is.end is.bounded (as_told told is.answer)

pub returns-in-Ok-Some-clause-stack : goal.returns-in-Ok-Some-clause-stack
returns-in-Ok-Some-clause-stack g c = λ task reads told.
    let read = c.in-Ok-Some.ensures in
    let is = read_as c.in-Ok-Some.field-0-is read.alone read.range read.end read.bounded c.answer.ensures.answer (Analyse task) reads in
    c.reports_hold.ensures.bounded task _ _ _ _ is.range is.end is.bounded (as_told told is.answer)

pub returns-in-Ok-Some-clause-open_sites : goal.returns-in-Ok-Some-clause-open_sites
returns-in-Ok-Some-clause-open_sites g c = λ task reads told.
    let read = c.in-Ok-Some.ensures in
    let is = read_as c.in-Ok-Some.field-0-is read.alone read.range read.end read.bounded c.answer.ensures.answer (Analyse task) reads in
    c.reports_hold.ensures.open task _ _ _ _ is.range is.end is.bounded (as_told told is.answer)

pub returns-in-Ok-Some-clause-assertions : goal.returns-in-Ok-Some-clause-assertions
returns-in-Ok-Some-clause-assertions g c = λ task reads told.
    let read = c.in-Ok-Some.ensures in
    let is = read_as c.in-Ok-Some.field-0-is read.alone read.range read.end read.bounded c.answer.ensures.answer (Assert task) reads in
    c.reports_hold.ensures.asserted task _ _ _ _ is.range is.end is.bounded (as_told told is.answer)

pub returns-in-Ok-Some-clause-left_open : goal.returns-in-Ok-Some-clause-left_open
returns-in-Ok-Some-clause-left_open g c = λ task reads told.
    let read = c.in-Ok-Some.ensures in
    let is = read_as c.in-Ok-Some.field-0-is read.alone read.range read.end read.bounded c.answer.ensures.answer (Assert task) reads in
    c.reports_hold.ensures.left_open task _ _ _ _ is.range is.end is.bounded (as_told told is.answer)

pub returns-in-Ok-Some-clause-certified : goal.returns-in-Ok-Some-clause-certified
returns-in-Ok-Some-clause-certified g c = λ task reads told.
    let read = c.in-Ok-Some.ensures in
    let is = read_as c.in-Ok-Some.field-0-is read.alone read.range read.end read.bounded c.answer.ensures.answer (Check task) reads in
    c.reports_hold.ensures.certified task _ _ _ _ is.range is.end is.bounded (as_told told is.answer)

pub returns-in-Ok-Some-clause-own : goal.returns-in-Ok-Some-clause-own
returns-in-Ok-Some-clause-own g c = λ task reads asked told.
    let read = c.in-Ok-Some.ensures in
    let is = read_as c.in-Ok-Some.field-0-is read.alone read.range read.end read.bounded c.answer.ensures.answer (Analyse task) reads in
    c.own_certificates_pass.ensures.written task _ _ _ _ is.range is.end is.bounded asked (as_told told is.answer)

pub returns-in-Ok-Some-clause-open_alone : goal.returns-in-Ok-Some-clause-open_alone
returns-in-Ok-Some-clause-open_alone g c = λ other reads told.
    let read = c.in-Ok-Some.ensures in
    let is = read_as c.in-Ok-Some.field-0-is read.alone read.range read.end read.bounded c.answer.ensures.answer other reads in
    c.reports_hold.ensures.open_alone other _ _ _ _ (as_told told is.answer)

pub returns-in-Ok-Some-clause-usage : goal.returns-in-Ok-Some-clause-usage
returns-in-Ok-Some-clause-usage g c = λ none.
    absurd (none c.in-Ok-Some.reading
    (some_of c.in-Ok-Some.field-0 c.in-Ok-Some.reading (Reads c.args.words.now) c.in-Ok-Some.field-0-is c.in-Ok-Some.ensures.reads))

pub returns-in-Ok-Some-clause-usage_journal : goal.returns-in-Ok-Some-clause-usage_journal
returns-in-Ok-Some-clause-usage_journal g c = λ none.
    absurd (none c.in-Ok-Some.reading
    (some_of c.in-Ok-Some.field-0 c.in-Ok-Some.reading (Reads c.args.words.now) c.in-Ok-Some.field-0-is c.in-Ok-Some.ensures.reads))

pub returns-in-Ok-Some-clause-answer : goal.returns-in-Ok-Some-clause-answer
returns-in-Ok-Some-clause-answer g c = λ other reads.
    let read = c.in-Ok-Some.ensures in
    let is = read_as c.in-Ok-Some.field-0-is read.alone read.range read.end read.bounded c.answer.ensures.answer other reads in
    is.answer

pub returns-in-Ok-Some-clause-complete : goal.returns-in-Ok-Some-clause-complete
returns-in-Ok-Some-clause-complete g c = λ other text image second reads e gives quiet_source quiet_sink.
    let read = c.in-Ok-Some.ensures in
    let is = read_as c.in-Ok-Some.field-0-is read.alone read.range read.end read.bounded c.answer.ensures.answer other reads in
    c.reports_hold.ensures.complete other _ _ _ _ _ text image second is.answer e gives
    (λ fault. quiet_source (c.answer.ensures.read_fault fault)) (λ fault. quiet_sink (c.answer.ensures.write_fault fault))

pub returns-in-Ok-Some-clause-made : goal.returns-in-Ok-Some-clause-made
returns-in-Ok-Some-clause-made g c = λ chip number reads quiet_source quiet_sink.
    let read = c.in-Ok-Some.ensures in
    let is = read_as c.in-Ok-Some.field-0-is read.alone read.range read.end read.bounded c.answer.ensures.answer (Gen chip number) reads in
    c.reports_hold.ensures.made chip number _ _ _ _ _ is.bounded.1 is.answer
    (λ fault. quiet_source (c.answer.ensures.read_fault fault)) (λ fault. quiet_sink (c.answer.ensures.write_fault fault))

pub returns-in-Ok-Some-clause-unread : goal.returns-in-Ok-Some-clause-unread
returns-in-Ok-Some-clause-unread g c = λ chip number reads.
    let same : Gen chip number ≡ c.in-Ok-Some.reading =
    some_of _ _ (λ r. (other : Reading) → Reads c.args.words.now other → other ≡ r) c.in-Ok-Some.field-0-is c.in-Ok-Some.ensures.alone (Gen chip number) reads in
    c.answer.ensures.unread chip number (sym same)

pub returns-in-Ok-Some-clause-one_reply : goal.returns-in-Ok-Some-clause-one_reply
returns-in-Ok-Some-clause-one_reply g c = λ other text reads works told e.
    let read = c.in-Ok-Some.ensures in
    let is = read_as c.in-Ok-Some.field-0-is read.alone read.range read.end read.bounded c.answer.ensures.answer other reads in
    c.replies_are_one.ensures other _ _ _ _ _ text works is.answer told e

pub returns-in-Ok-Some-clause-verdict : goal.returns-in-Ok-Some-clause-verdict
returns-in-Ok-Some-clause-verdict g c = λ task text certificate image reads e gives quiet_source quiet_sink.
    let read = c.in-Ok-Some.ensures in
    let is = read_as c.in-Ok-Some.field-0-is read.alone read.range read.end read.bounded c.answer.ensures.answer (Check task) reads in
    c.reports_hold.ensures.verdict task _ _ _ _ _ text certificate image is.answer e gives
    (λ fault. quiet_source (c.answer.ensures.read_fault fault)) (λ fault. quiet_sink (c.answer.ensures.write_fault fault))

pub returns-in-Ok-Some-clause-exact : goal.returns-in-Ok-Some-clause-exact
returns-in-Ok-Some-clause-exact g c = λ task text certificate image reads e gives fits quiet_source quiet_sink.
    let read = c.in-Ok-Some.ensures in
    let is = read_as c.in-Ok-Some.field-0-is read.alone read.range read.end read.bounded c.answer.ensures.answer (Check task) reads in
    c.reports_hold.ensures.exact task _ _ _ _ _ text certificate image is.range is.end is.bounded is.answer e gives fits
    (λ fault. quiet_source (c.answer.ensures.read_fault fault)) (λ fault. quiet_sink (c.answer.ensures.write_fault fault))

pub returns-in-Ok-Some-clause-accepted : goal.returns-in-Ok-Some-clause-accepted
returns-in-Ok-Some-clause-accepted g c = λ task text report certificate image reads e gives own fits quiet_source quiet_sink.
    let read = c.in-Ok-Some.ensures in
    let is = read_as c.in-Ok-Some.field-0-is read.alone read.range read.end read.bounded c.answer.ensures.answer (Check task) reads in
    c.own_certificates_pass.ensures.accepted task _ _ _ _ _ text report certificate image
    is.range is.end is.bounded is.answer e gives own fits
    (λ fault. quiet_source (c.answer.ensures.read_fault fault)) (λ fault. quiet_sink (c.answer.ensures.write_fault fault))

pub returns-in-Ok-None-clause-answer : goal.returns-in-Ok-None-clause-answer
returns-in-Ok-None-clause-answer g c = λ reading reads.
    absurd (none_of _ ((r : Reading) → Reads c.args.words.now r → ⊥) c.in-Ok-None.field-0-is c.in-Ok-None.ensures.none reading reads)

pub returns-in-Ok-None-clause-complete : goal.returns-in-Ok-None-clause-complete
returns-in-Ok-None-clause-complete g c = λ reading text image second reads.
    absurd (none_of _ ((r : Reading) → Reads c.args.words.now r → ⊥) c.in-Ok-None.field-0-is c.in-Ok-None.ensures.none reading reads)

pub returns-in-Ok-None-clause-verdict : goal.returns-in-Ok-None-clause-verdict
returns-in-Ok-None-clause-verdict g c = λ task text certificate image reads.
    absurd (none_of _ ((r : Reading) → Reads c.args.words.now r → ⊥) c.in-Ok-None.field-0-is c.in-Ok-None.ensures.none (Check task) reads)

pub returns-in-Ok-None-clause-exact : goal.returns-in-Ok-None-clause-exact
returns-in-Ok-None-clause-exact g c = λ task text certificate image reads.
    absurd (none_of _ ((r : Reading) → Reads c.args.words.now r → ⊥) c.in-Ok-None.field-0-is c.in-Ok-None.ensures.none (Check task) reads)

pub returns-in-Ok-None-clause-accepted : goal.returns-in-Ok-None-clause-accepted
returns-in-Ok-None-clause-accepted g c = λ task text report certificate image reads.
    absurd (none_of _ ((r : Reading) → Reads c.args.words.now r → ⊥) c.in-Ok-None.field-0-is c.in-Ok-None.ensures.none (Check task) reads)

pub returns-in-Ok-None-clause-made : goal.returns-in-Ok-None-clause-made
returns-in-Ok-None-clause-made g c = λ chip number reads.
    absurd (none_of _ ((r : Reading) → Reads c.args.words.now r → ⊥) c.in-Ok-None.field-0-is c.in-Ok-None.ensures.none (Gen chip number) reads)

pub returns-in-Ok-None-clause-one_reply : goal.returns-in-Ok-None-clause-one_reply
returns-in-Ok-None-clause-one_reply g c = λ reading text reads.
    absurd (none_of _ ((r : Reading) → Reads c.args.words.now r → ⊥) c.in-Ok-None.field-0-is c.in-Ok-None.ensures.none reading reads)

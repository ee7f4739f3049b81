use Rattle.std.proofs.Common.{◌≡◌, ℕ, List, ◌++◌, ◌∙◌, sym, arith}
use Rattle.image.specs.declared.tail.Tail.TheVariants.{Second}
use Rattle.ihex_read.specs.Reading.{HasEnded}
use Rattle.vsa_top.specs.Input.{LacksImage, input_error_of}
use Rattle.vsa_top.proofs.InputLemmas.{IfErr-is, bad_piece, long_piece, none_begun, ended_there, used_all, more_behind, unended}
use Rattle.vsa_top.proofs.input.feed_piece.Goals.{else-used-piece-via-then-used-piece+else-not-is_at_second, else-used-piece-via-else-used-piece}
use Rattle.vsa_top.proofs.input.feed_piece.Goals as goal

pub returns-in_err-used-clause-refused : goal.returns-in_err-used-clause-refused
returns-in_err-used-clause-refused c =
    let reader = c.args.reader.now in
    IfErr-is c.from_residual.result (input_error_of c.in_err-used.field-0.0)
    (λ error. (behind : List ℕ) → LacksImage reader.rules reader.tail ((reader.text ++ c.args.piece.now) ++ behind) error) c.from_residual.ensures.1
    (λ behind. bad_piece c.whole_faults_stay.ensures reader.rules reader.tail reader.text c.args.piece.now behind c.args.room c.min-count.result
    c.in_err-used.field-0.0 c.requires.room c.min-count.ensures (c.in_err-used.ensures.bad c.requires.faultless))

pub returns-then-not-is_at_second-clause-refused : goal.returns-then-not-is_at_second-clause-refused
returns-then-not-is_at_second-clause-refused c = λ behind.
    let reader = c.args.reader.now in
    let piece = c.args.piece.now in
    let count = c.min-count.result in
    let used = c.in_ok-used.used in
    let is = c.in_ok-used.ensures.text in
    let here : (c.args.tail ≡ Second) × HasEnded c.feed.new.self.rules c.feed.new.self.text → ⊥ = λ ended.
    absurd (cc (sym c.if-not-is_at_second.true ∙ c.is_at_second.ensures.1 ended)) in
    let all = used_all reader c.feed.new.self c.args.tail used count piece is c.requires.tail here c.in_ok-used.ensures.stops in
    let within = c.in_ok-used.ensures.within in
    long_piece reader.rules reader.tail reader.text piece behind c.args.room count c.requires.room c.min-count.ensures
    (more_behind used count c.args.room piece c.min-count.ensures c.if-used-piece.true within all) c.in_ok-used.ensures.good
    (unended reader c.feed.new.self c.args.tail used count piece is within c.requires.tail here all)

pub returns-clause-first : goal.returns-clause-first
returns-clause-first c =
    none_begun c.args.reader.now c.feed.new.self c.in_ok-used.used c.min-count.result c.args.piece.now c.in_ok-used.ensures.text c.in_ok-used.ensures.within
    c.in_ok-used.ensures.first

pub returns-clause-stops : goal.returns-clause-stops
returns-clause-stops c = λ fewer.
    elim c.else-used-piece.branch [
      | else-used-piece-via-then-used-piece+else-not-is_at_second w ↦
          ended_there c.args.reader.now c.feed.new.self c.args.tail c.in_ok-used.used c.min-count.result c.args.piece.now c.in_ok-used.ensures.text
          c.in_ok-used.ensures.within c.requires.tail (w.is_at_second.ensures.0 w.if-not-is_at_second.false)
      | else-used-piece-via-else-used-piece w ↦ absurd (omega (arith, fewer, w.if-used-piece.false))
    ]

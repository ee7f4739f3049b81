-- What a claim answers.
use Rattle.std.specs.Prelude.{◌≡◌, ℕ, ◌≢◌, []}
use Rattle.chip_analysis.specs.Analysis.{Analysis}
use Rattle.book_rules.specs.declared.event.Event.TheVariants.{Claim}
use Rattle.round_core.specs.declared.ticket.Claimed.{Claimed}
use Rattle.round_core.specs.declared.ticket.Claimed.TheVariants.{Ticket, Idle, Finished}
use Rattle.book_rules.specs.Machine.{IsFirst, IsFinished, NoneClaimable, replay}
use Rattle.book_rules.specs.Kept.{Kept, with_event, IsOutOf}

abbrev pub AnswersClaim : {C B A : Type 0} → Analysis A → Kept B → Kept B → ℕ → Claimed C B A → Type 0
AnswersClaim m old new seat (Ticket t) =
    IsFirst (replay m old.journal) t.unit × (t.seat ≡ seat) × (new ≡ with_event old (Claim seat t.unit)) × IsOutOf (replay m new.journal) t
AnswersClaim m old new seat Idle = (new ≡ old) × NoneClaimable (replay m old.journal) × ((replay m old.journal).out ≢ [])
AnswersClaim m old new seat Finished = (new ≡ old) × IsFinished (replay m old.journal)

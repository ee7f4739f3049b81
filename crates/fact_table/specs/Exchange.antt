-- What an exchange does to the book: it posts works, and then claims units.
use Rattle.std.specs.Prelude.{◌≡◌, ◌≢◌, ℕ, ◌<◌, ◌≤◌, ◌⊎◌, Bool, true, false, Result, Ok, Err, List, [], ◌∷◌, ◌++◌, length, map}
use Rattle.std.specs.List.{AllByRecursion, IsDistinct}
use Rattle.chip_analysis.specs.Analysis.{Analysis}
use Rattle.fact_table.specs.declared.exchange.Last.{Last}
use Rattle.fact_table.specs.declared.exchange.Last.TheVariants.{Full, Shared, Idle, Finished, Memory}
use Rattle.round_core.specs.Ahead.{IsAhead}
use Rattle.book_rules.specs.Claimable.{HasAtLeast}
use Rattle.book_rules.specs.Kept.{Kept, with_event, IsOutOf}
use Rattle.book_rules.specs.Machine.{BookState, Out, HasClaimable, IsFinished, IsFirst, NoneClaimable, replay}
use Rattle.book_rules.specs.Same.{same_unit}
use Rattle.round_core.specs.declared.ahead.Looked.{Looked}
use Rattle.book_rules.specs.declared.event.Event.{Event}
use Rattle.book_rules.specs.declared.event.Event.TheVariants.{Claim, Post}
use Rattle.round_core.specs.declared.ticket.Done.{Done}

-- a book with more events
abbrev pub with_events : {B : Type 0} → Kept B → List Event → Kept B
with_events book events = record { base = book.base; journal = book.journal ++ events }

abbrev pub tickets_of : {C B A : Type 0} → List (Done C B A) → List (Out A)
tickets_of done = map (λ d. d.ticket) done

-- what was looked ahead of the first of these works
abbrev pub AreAhead : {C B A : Type 0} → Analysis A → List (Done C B A) → List (List (Looked A)) → Type 0
AreAhead m done [] = Unit {0}
AreAhead m [] (rows ∷ ahead) = ⊥
AreAhead m (first ∷ done) (rows ∷ ahead) = IsAhead m first rows × AreAhead m done ahead

-- the work is that of its ticket
abbrev pub IsWorked : {C B A : Type 0} → Analysis A → Done C B A → Type 0
IsWorked m done = done.work ≡ m.work done.ticket.unit done.ticket.at done.ticket.exit

module _ {A : Type 0} where
  -- the posts of these tickets' works, and a seat's claims of their units
  abbrev pub post_events : List (Out A) → List Event
  post_events tickets = map (λ t. Post t.seat t.unit) tickets

  abbrev pub claim_events : ℕ → List (Out A) → List Event
  claim_events seat tickets = map (λ t. Claim seat t.unit) tickets

  -- two tickets are of one unit
  abbrev pub one_unit : Out A → Out A → Bool
  one_unit s t = same_unit t.unit s.unit

  -- each of these tickets is out, and no two are of one unit
  pub record AreOutOf (b : BookState A) (tickets : List (Out A)) : Type 0 where
    pub each : AllByRecursion (IsOutOf b) tickets
    pub distinct : IsDistinct one_unit tickets

  -- what is told behind so many tickets
  abbrev pub TellsLast : {D : Type 0} → BookState A → (want share : ℕ) → List D → List (Out A) → Last → Type 0
  TellsLast b want share unposted tickets Full = (unposted ≡ []) × (length tickets ≡ want)
  TellsLast b want share unposted tickets Shared =
      (unposted ≡ []) × (1 ≤ length tickets) × (length tickets < want) × HasClaimable b × (HasAtLeast b share → ⊥)
  TellsLast b want share unposted tickets Idle = (unposted ≡ []) × (length tickets < want) × NoneClaimable b × (b.out ≢ [])
  TellsLast b want share unposted tickets Finished = (unposted ≡ []) × (tickets ≡ []) × IsFinished b
  TellsLast b want share unposted tickets Memory = (unposted ≡ []) ⊎ (tickets ≡ [])

  -- why a claim gave no ticket, behind others of the same turn or as the first
  abbrev pub TellsNone : BookState A → ℕ → Bool → Last → Type 0
  TellsNone b share behind Full = ⊥
  TellsNone b share behind Shared = (behind ≡ true) × HasClaimable b × (HasAtLeast b share → ⊥)
  TellsNone b share behind Idle = NoneClaimable b × (behind ≡ false → b.out ≢ [])
  TellsNone b share behind Finished = IsFinished b
  TellsNone b share behind Memory = Unit {0}

  module _ (m : Analysis A) (seat : ℕ) where
    -- the ticket of the first unit that can be claimed behind a journal
    pub record IsClaimed (journal : List Event) (ticket : Out A) : Type 0 where
      pub first : IsFirst (replay m journal) ticket.unit
      pub seat_is : ticket.seat ≡ seat
      pub out : IsOutOf (replay m (journal ++ Claim seat ticket.unit ∷ [])) ticket

    -- tickets that were claimed one behind the other, each where so many units could be claimed
    abbrev pub AreShared : ℕ → List Event → List (Out A) → Type 0
    AreShared share journal [] = Unit {0}
    AreShared share journal (ticket ∷ tickets) =
        HasAtLeast (replay m journal) share × IsClaimed journal ticket × AreShared share (journal ++ Claim seat ticket.unit ∷ []) tickets

    -- the first is claimed in any case
    abbrev pub AreClaimed : ℕ → List Event → List (Out A) → Type 0
    AreClaimed share journal [] = Unit {0}
    AreClaimed share journal (ticket ∷ tickets) = IsClaimed journal ticket
        × AreShared share (journal ++ Claim seat ticket.unit ∷ []) tickets

    -- what the book answers a further claim of a turn
    abbrev pub AnswersFurther : {B : Type 0} → Kept B → Kept B → ℕ → Bool → Result (Out A) Last → Type 0
    AnswersFurther old new share behind (Ok ticket) =
        (behind ≡ true → HasAtLeast (replay m old.journal) share) × IsClaimed old.journal ticket
        × (new ≡ with_event old (Claim seat ticket.unit))
    AnswersFurther old new share behind (Err last) = (new ≡ old) × TellsNone (replay m old.journal) share behind last

    -- the claims of a turn, up to `want`
    pub record ClaimsSome {B : Type 0} (old : Kept B) (want share : ℕ) (tickets : List (Out A)) (last : Last) (new : Kept B) : Type 0 where
      pub claims : AreClaimed share old.journal tickets
      pub book : new ≡ with_events old (claim_events seat tickets)
      pub out : AreOutOf (replay m new.journal) tickets
      pub last_is : TellsLast {D = Out A} (replay m new.journal) want share [] tickets last

    -- The works that aren't handed back are posted in their order, and then units are claimed.
    pub record ExchangesOn {C B : Type 0} (old : Kept B) (done : List (Done C B A)) (want share : ℕ) (unposted : List (Done C B A)) (tickets : List (Out A)) (last : Last) (new : Kept B) : Type 0 where
      pub posted : List (Done C B A)
      pub whole : done ≡ posted ++ unposted
      pub claims : AreClaimed share (old.journal ++ post_events (tickets_of posted)) tickets
      pub book : new ≡ with_events old (post_events (tickets_of posted) ++ claim_events seat tickets)
      pub out : AreOutOf (replay m new.journal) (tickets_of unposted ++ tickets)
      pub last_is : TellsLast (replay m new.journal) want share unposted tickets last

  -- The works are posted in their order but for those that are left, whose tickets are still out.
  pub record Posts {C B : Type 0} (m : Analysis A) (old : Kept B) (done left : List (Done C B A)) (new : Kept B) : Type 0 where
    pub posted : List (Done C B A)
    pub whole : done ≡ posted ++ left
    pub book : new ≡ with_events old (post_events (tickets_of posted))
    pub out : AreOutOf (replay m new.journal) (tickets_of left)

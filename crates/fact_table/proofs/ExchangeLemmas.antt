-- What posts and claims of one turn do to a book.
use Rattle.std.proofs.Common.{◌≡◌, ◌≢◌, ℕ, ◌==◌, ◌<◌, Bool, true, false, List, [], ◌∷◌, ◌++◌, length, Some, None, Result, Ok, Err, refl, sym, ap, ◌∙◌, subst, inl, inr, append-nil, append_assoc, arith}
use Rattle.std.specs.List.{AllByRecursion, IsDistinct}
use Rattle.std.specs.Prelude.{nat_lt}
use Rattle.std.proofs.lemmas.Bool.{false_from_ne_true}
use Rattle.std.proofs.lemmas.Bool.Decides.{nat_tests}
use Rattle.std.proofs.lemmas.List.{map-append}
use Rattle.call_context.specs.declared.node.Unit.{Unit as WorkUnit}
use Rattle.chip_analysis.specs.Analysis.{Analysis}
use Rattle.fact_table.specs.Exchange.{AnswersFurther, AreClaimed, AreOutOf, AreShared, ClaimsSome, ExchangesOn, IsClaimed, IsWorked, Posts, TellsLast, TellsNone, claim_events, one_unit, post_events, tickets_of, with_events}
use Rattle.fact_table.specs.declared.exchange.Last.{Last}
use Rattle.fact_table.specs.declared.exchange.Last.TheVariants.{Full, Shared, Idle, Finished, Memory}
use Rattle.book_rules.specs.Claimable.{HasAtLeast}
use Rattle.book_rules.specs.Counts.{unit_of}
use Rattle.book_rules.specs.Kept.{Kept, with_event, IsOutOf}
use Rattle.book_rules.specs.Machine.{BookState, Out, out_at, replay}
use Rattle.book_rules.specs.Same.{same_unit}
use Rattle.book_rules.specs.declared.event.Event.{Event}
use Rattle.book_rules.specs.declared.event.Event.TheVariants.{Claim, Post}
use Rattle.round_core.specs.declared.ticket.Done.{Done}

-- LISTS

pub all_map : {X : Type 0} (P Q : X → Type 0) → (xs : List X) → ((x : X) → P x → Q x) → AllByRecursion P xs → AllByRecursion Q xs
all_map P Q [] f a = tt
all_map P Q (x ∷ xs) f a = (f x a.0, all_map P Q xs f a.1)

pub all_both : {X : Type 0} (P Q : X → Type 0) → (xs : List X) → AllByRecursion P xs → AllByRecursion Q xs
    → AllByRecursion (λ x. P x × Q x) xs
all_both P Q [] a b = tt
all_both P Q (x ∷ xs) a b = ((a.0, b.0), all_both P Q xs a.1 b.1)

pub all_push : {X : Type 0} (P : X → Type 0) → (xs : List X) (x : X) → AllByRecursion P xs → P x → AllByRecursion P (xs ++ x ∷ [])
all_push P [] x a p = (p, tt)
all_push P (y ∷ ys) x a p = (a.0, all_push P ys x a.1 p)

pub all_append : {X : Type 0} (P : X → Type 0) → (xs ys : List X) → AllByRecursion P xs → AllByRecursion P ys → AllByRecursion P (xs ++ ys)
all_append P [] ys a b = b
all_append P (x ∷ xs) ys a b = (a.0, all_append P xs ys a.1 b)

distinct_push : {X : Type 0} (e : X → X → Bool) (xs : List X) (x : X) → IsDistinct e xs
    → AllByRecursion (λ y. e y x ≡ false) xs → IsDistinct e (xs ++ x ∷ [])
unfolding IsDistinct
distinct_push e [] x d a = (tt, tt)
distinct_push e (y ∷ ys) x d a = (all_push (λ z. e y z ≡ false) ys x d.0 a.0, distinct_push e ys x d.1 a.1)

pub none_from_test : {X : Type 0} (n : ℕ) (xs : List X) → n ≡ length xs → (n == 0) ≡ true → xs ≡ []
none_from_test n [] e h = refl
none_from_test n (x ∷ xs) e h = let z : n ≡ 0 = grind (arith, nat_tests) in absurd (omega arith)

-- whether it is a further claim
pub some_behind : (n count : ℕ) → n ≡ count → 0 < n → nat_lt 0 count ≡ true
some_behind n count e h = grind (arith, nat_tests)

pub behind_some : (n count : ℕ) → n ≡ count → nat_lt 0 count ≡ true → 0 < n
behind_some n count e h = grind (arith, nat_tests)

-- TICKETS THAT ARE OUT

module _ {A : Type 0} where
  pub none_out_of : (b : BookState A) → AreOutOf b []
  unfolding IsDistinct
  none_out_of b = record { each = tt; distinct = tt }

  -- what is out stays out behind an event of another unit
  abbrev pub Beside : Analysis A → Type 0
  Beside m = (journal : List Event) (event : Event) (unit : WorkUnit) (o : Out A) → out_at (replay m journal).out unit ≡ Some o
      → same_unit unit (unit_of event) ≡ false → out_at (replay m (journal ++ event ∷ [])).out unit ≡ Some o

  -- a unit that is at home is none of those that are out
  other_out : (b : BookState A) (unit : WorkUnit) (t : Out A) → ((u v : WorkUnit) → same_unit u v ≡ true → u ≡ v) → out_at b.out unit ≡ None
      → IsOutOf b t → same_unit t.unit unit ≡ false
  other_out b unit t one home out = false_from_ne_true (same_unit t.unit unit) (λ s.
      let bad : None ≡ Some t = sym home ∙ ap (λ u. out_at b.out u) (sym (one t.unit unit s)) ∙ out in absurd (cc))

  out_other : (b : BookState A) (unit : WorkUnit) (t : Out A) → ((u v : WorkUnit) → same_unit u v ≡ true → u ≡ v) → out_at b.out unit ≡ None
      → IsOutOf b t → same_unit unit t.unit ≡ false
  out_other b unit t one home out = false_from_ne_true (same_unit unit t.unit) (λ s.
      let bad : None ≡ Some t = sym home ∙ ap (λ u. out_at b.out u) (one unit t.unit s) ∙ out in absurd (cc))

  some_out : (b : BookState A) (t : Out A) → IsOutOf b t → b.out ≢ []
  some_out b t out none = let bad : None ≡ Some t = sym (ap (λ os. out_at os t.unit) none) ∙ out in absurd (cc)

  module _ (m : Analysis A) (beside : Beside m) where
    -- the first of these tickets comes home
    pub others_out : (journal : List Event) (event : Event) (t : Out A) (ts : List (Out A)) → unit_of event ≡ t.unit
        → AreOutOf (replay m journal) (t ∷ ts)
        → AreOutOf (replay m (journal ++ event ∷ [])) ts
    unfolding IsDistinct
    others_out journal event t ts own out = record {
      each = all_map _ (IsOutOf (replay m (journal ++ event ∷ []))) ts
          (λ s h. beside journal event s.unit s h.0 (subst (λ u. same_unit s.unit u ≡ false) (sym own) h.1)) (all_both _ _ ts out.each.1 out.distinct.0);
      distinct = out.distinct.1;
    }

    -- a further unit is claimed
    further_out : (seat : ℕ) (journal : List Event) (ts : List (Out A)) (t : Out A) → ((u v : WorkUnit) → same_unit u v ≡ true → u ≡ v)
        → AreOutOf (replay m journal) ts → IsClaimed m seat journal t
        → AreOutOf (replay m (journal ++ Claim seat t.unit ∷ [])) (ts ++ t ∷ [])
    further_out seat journal ts t one out claimed =
        let home = claimed.first.claimable.at_home in
        record {
          each = all_push (IsOutOf (replay m (journal ++ Claim seat t.unit ∷ []))) ts t
              (all_map _ (IsOutOf (replay m (journal ++ Claim seat t.unit ∷ []))) ts
              (λ s h. beside journal (Claim seat t.unit) s.unit s h (other_out (replay m journal) t.unit s one home h)) out.each) claimed.out;
          distinct = distinct_push one_unit ts t out.distinct (all_map _ _ ts (λ s h. out_other (replay m journal) t.unit s one home h) out.each);
        }

-- POSTS

-- the events of some works and one more
posts_push : {C B A : Type 0} (posted : List (Done C B A)) (done : Done C B A)
    → post_events (tickets_of (posted ++ done ∷ [])) ≡ post_events (tickets_of posted) ++ Post done.ticket.seat done.ticket.unit ∷ []
posts_push posted done =
    ap (λ ts. post_events ts) (map-append (λ d. d.ticket) posted (done ∷ []))
    ∙ map-append (λ t. Post t.seat t.unit) (tickets_of posted) (done.ticket ∷ [])

module _ {C B A : Type 0} (m : Analysis A) where
  pub posts_none : (k : Kept B) (done : List (Done C B A)) → AreOutOf (replay m k.journal) (tickets_of done) → Posts m k done done k
  posts_none k done out = record {
    posted = [];
    whole = refl;
    book = ap (λ j. record { base = k.base; journal = j }) (sym (append-nil k.journal));
    out = out;
  }

  -- one more is posted
  pub posts_more : (old k k' : Kept B) (done : List (Done C B A)) (first : Done C B A) (left : List (Done C B A)) → Beside m
      → k' ≡ with_event k (Post first.ticket.seat first.ticket.unit) → Posts m old done (first ∷ left) k → Posts m old done left k'
  posts_more old k k' done first left beside e p =
      let event = Post first.ticket.seat first.ticket.unit in
      let events = post_events (tickets_of p.posted) in
      record {
        posted = p.posted ++ first ∷ [];
        whole = p.whole ∙ sym (append_assoc p.posted (first ∷ []) left);
        book = e ∙ ap (λ b. with_event b event) p.book
            ∙ ap (λ j. record { base = old.base; journal = j }) (append_assoc old.journal events (event ∷ []))
            ∙ ap (λ es. with_events old es) (sym (posts_push p.posted first));
        out = subst (λ b. AreOutOf (replay m b.journal) (tickets_of left)) (sym e)
            (others_out m beside k.journal event first.ticket (tickets_of left) refl p.out);
      }

  -- works behind the first
  pub works_rest : (first : Done C B A) (left : List (Done C B A)) (done : List (Done C B A)) → done ≡ first ∷ left
      → AllByRecursion (IsWorked m) done → AllByRecursion (IsWorked m) left
  works_rest first left done e h = let at : AllByRecursion (IsWorked m) (first ∷ left) = subst (λ ds. AllByRecursion (IsWorked m) ds) e h in at.1

-- CLAIMS

module _ {A : Type 0} (m : Analysis A) (seat : ℕ) where
  at_journal : (a b : List Event) (share : ℕ) (t : Out A) → a ≡ b → HasAtLeast (replay m a) share × IsClaimed m seat a t
      → HasAtLeast (replay m b) share × IsClaimed m seat b t
  at_journal a b share t e h = subst (λ j. HasAtLeast (replay m j) share × IsClaimed m seat j t) e h

  shared_push : (share : ℕ) (journal : List Event) (ts : List (Out A)) (t : Out A) → AreShared m seat share journal ts
      → HasAtLeast (replay m (journal ++ claim_events seat ts)) share × IsClaimed m seat (journal ++ claim_events seat ts) t
      → AreShared m seat share journal (ts ++ t ∷ [])
  shared_push share journal [] t a h = let at = at_journal (journal ++ []) journal share t (append-nil journal) h in (at.0, at.1, tt)
  shared_push share journal (s ∷ ss) t a h = (
    a.0,
    a.1,
    shared_push share (journal ++ Claim seat s.unit ∷ []) ss t a.2
        (at_journal (journal ++ claim_events seat (s ∷ ss)) ((journal ++ Claim seat s.unit ∷ []) ++ claim_events seat ss) share t
        (sym (append_assoc journal (Claim seat s.unit ∷ []) (claim_events seat ss))) h),
  )

  claimed_push : (share : ℕ) (journal : List Event) (ts : List (Out A)) (t : Out A) → AreClaimed m seat share journal ts
      → (0 < length ts → HasAtLeast (replay m (journal ++ claim_events seat ts)) share)
      → IsClaimed m seat (journal ++ claim_events seat ts) t
      → AreClaimed m seat share journal (ts ++ t ∷ [])
  claimed_push share journal [] t a h c = (subst (λ j. IsClaimed m seat j t) (append-nil journal) c, tt)
  claimed_push share journal (s ∷ ss) t a h c = (
    a.0,
    shared_push share (journal ++ Claim seat s.unit ∷ []) ss t a.1
        (at_journal (journal ++ claim_events seat (s ∷ ss)) ((journal ++ Claim seat s.unit ∷ []) ++ claim_events seat ss) share t
        (sym (append_assoc journal (Claim seat s.unit ∷ []) (claim_events seat ss))) (h (omega arith), c)),
  )

  -- and why they end
  tells : (b : BookState A) (want share : ℕ) (behind : Bool) (ts : List (Out A)) (last : Last) → length ts < want
      → (behind ≡ true → 0 < length ts) → (0 < length ts → behind ≡ true)
      → AreOutOf b ts → TellsNone b share behind last → TellsLast {D = Out A} b want share [] ts last
  tells b want share behind ts Full below so os out h = absurd h
  tells b want share behind ts Shared below so os out h = (refl, so h.0, below, h.1, h.2)
  tells b want share behind [] Idle below so os out h = (refl, below, h.0, h.1 (not_behind behind so))
    where
      not_behind : (b : Bool) → (b ≡ true → 0 < 0) → b ≡ false
      not_behind true f = absurd (omega (arith, f refl))
      not_behind false f = refl
  tells b want share behind (t ∷ ts) Idle below so os out h = (refl, below, h.0, some_out b t out.each.0)
  tells b want share behind [] Finished below so os out h = (refl, refl, h)
  tells b want share behind (t ∷ ts) Finished below so os out h = absurd (some_out b t out.each.0 h.none_out)
  tells b want share behind ts Memory below so os out h = inl refl

  module _ {B : Type 0} where
    -- what the claims of a turn have done so far
    pub record ClaimsSoFar (old : Kept B) (share : ℕ) (tickets : List (Out A)) (k : Kept B) : Type 0 where
      pub claims : AreClaimed m seat share old.journal tickets
      pub book : k ≡ with_events old (claim_events seat tickets)
      pub out : AreOutOf (replay m k.journal) tickets

    pub claims_none : (k : Kept B) (share : ℕ) (tickets : List (Out A)) → tickets ≡ [] → ClaimsSoFar k share tickets k
    claims_none k share tickets e = subst (λ ts. ClaimsSoFar k share ts k) (sym e) (record {
      claims = tt;
      book = ap (λ j. record { base = k.base; journal = j }) (sym (append-nil k.journal));
      out = none_out_of (replay m k.journal);
    })

    pub claims_more : (old k k' : Kept B) (share : ℕ) (behind : Bool) (ts : List (Out A)) (t : Out A) → Beside m
        → ((u v : WorkUnit) → same_unit u v ≡ true → u ≡ v)
        → (0 < length ts → behind ≡ true) → AnswersFurther m seat k k' share behind (Ok t) → ClaimsSoFar old share ts k
        → ClaimsSoFar old share (ts ++ t ∷ []) k'
    claims_more old k k' share behind ts t beside one so a c =
        let claim = Claim seat t.unit in
        let journal : k.journal ≡ old.journal ++ claim_events seat ts = ap (λ b. b.journal) c.book in
        record {
          claims = claimed_push share old.journal ts t c.claims
              (λ some. subst (λ j. HasAtLeast (replay m j) share) journal (a.0 (so some))) (subst (λ j. IsClaimed m seat j t) journal a.1);
          book = a.2 ∙ ap (λ b. with_event b claim) c.book
              ∙ ap (λ j. record { base = old.base; journal = j }) (append_assoc old.journal (claim_events seat ts) (claim ∷ []))
              ∙ ap (λ es. with_events old es) (sym (map-append (λ s. Claim seat s.unit) ts (t ∷ [])));
          out = subst (λ b. AreOutOf (replay m b.journal) (ts ++ t ∷ [])) (sym a.2) (further_out m beside seat k.journal ts t one c.out a.1);
        }

    pub claims_end : (old k k' : Kept B) (want share : ℕ) (behind : Bool) (ts : List (Out A)) (last : Last)
        → length ts < want → (behind ≡ true → 0 < length ts) → (0 < length ts → behind ≡ true)
        → AnswersFurther m seat k k' share behind (Err last) → ClaimsSoFar old share ts k → ClaimsSome m seat old want share ts last k'
    claims_end old k k' want share behind ts last below so os a c = subst (ClaimsSome m seat old want share ts last) (sym a.0) (record {
      claims = c.claims;
      book = c.book;
      out = c.out;
      last_is = tells (replay m k.journal) want share behind ts last below so os c.out a.1;
    })

    pub claims_full : (old k : Kept B) (want share : ℕ) (ts : List (Out A)) → length ts ≡ want
        → ClaimsSoFar old share ts k → ClaimsSome m seat old want share ts Full k
    claims_full old k want share ts all c = record { claims = c.claims; book = c.book; out = c.out; last_is = (refl, all) }

    -- one claim is a further one, where that may come
    pub claims_further : (k k' : Kept B) (share : ℕ) (behind : Bool) (r : Result (Out A) Last)
        → (behind ≡ true → HasAtLeast (replay m k.journal) share)
        → AnswersFurther m seat k k' 0 false r → AnswersFurther m seat k k' share behind r
    claims_further k k' share behind (Ok t) may a = (may, a.1, a.2)
    claims_further k k' share behind (Err Full) may a = a
    claims_further k k' share behind (Err Shared) may a = let bad : false ≡ true = a.1.0 in absurd (cc)
    claims_further k k' share behind (Err Idle) may a = (a.0, (a.1.0, λ none. a.1.1 refl))
    claims_further k k' share behind (Err Finished) may a = a
    claims_further k k' share behind (Err Memory) may a = a

    -- POSTS AND CLAIMS

    pub exchanged : {C : Type 0} (old mid k : Kept B) (done : List (Done C B A)) (want share : ℕ) (unposted : List (Done C B A)) (ts : List (Out A)) (last : Last)
        → unposted ≡ [] → Posts m old done unposted mid → ClaimsSome m seat mid want share ts last k
        → ExchangesOn m seat old done want share unposted ts last k
    exchanged {C = C} old mid k done want share unposted ts last none p c =
        let posts = post_events (tickets_of p.posted) in
        record {
          posted = p.posted;
          whole = p.whole;
          claims = subst (λ j. AreClaimed m seat share j ts) (ap (λ b. b.journal) p.book) c.claims;
          book = c.book ∙ ap (λ b. with_events b (claim_events seat ts)) p.book
              ∙ ap (λ j. record { base = old.base; journal = j }) (append_assoc old.journal posts (claim_events seat ts));
          out = subst (λ ds. AreOutOf (replay m k.journal) (tickets_of ds ++ ts)) (sym none) c.out;
          last_is = told (replay m k.journal) want share unposted ts last none c.last_is;
        }
      where
        told : (b : BookState A) (want share : ℕ) (unposted : List (Done C B A)) (ts : List (Out A)) (last : Last) → unposted ≡ []
            → TellsLast {D = Out A} b want share [] ts last → TellsLast b want share unposted ts last
        told b want share unposted ts Full none h = (none, h.1)
        told b want share unposted ts Shared none h = (none, h.1, h.2, h.3, h.4)
        told b want share unposted ts Idle none h = (none, h.1, h.2, h.3)
        told b want share unposted ts Finished none h = (none, h.1, h.2)
        told b want share unposted ts Memory none h = inl none

    -- works are left, and nothing is claimed
    pub exchanged_not : {C : Type 0} (old k : Kept B) (done : List (Done C B A)) (want share : ℕ) (unposted : List (Done C B A)) (ts : List (Out A))
        → ts ≡ [] → Posts m old done unposted k → ExchangesOn m seat old done want share unposted ts Memory k
    exchanged_not old k done want share unposted ts none p = subst (λ l. ExchangesOn m seat old done want share unposted l Memory k) (sym none) (record {
      posted = p.posted;
      whole = p.whole;
      claims = tt;
      book = p.book ∙ ap (λ es. with_events old es) (sym (append-nil (post_events (tickets_of p.posted))));
      out = subst (λ ts. AreOutOf (replay m k.journal) ts) (sym (append-nil (tickets_of unposted))) p.out;
      last_is = inr refl;
    })

-- The event of a post.
use Rattle.std.specs.Prelude.{◌≡◌, ℕ, Some, List, [], ◌∷◌, ◌++◌, length}
use Rattle.std.proofs.Common.{sym, ◌∙◌, ap, subst, inl, inr}
use Rattle.call_context.specs.declared.node.Unit.{Unit as WorkUnit}
use Rattle.chip_analysis.specs.Analysis.{Analysis}
use Rattle.chip_analysis.specs.declared.chip.Work.{Work}
use Rattle.book_rules.specs.declared.event.Event.{Event}
use Rattle.book_rules.specs.declared.event.Event.TheVariants.{Post}
use Rattle.round_core.specs.declared.parts.Parts.{Parts}
use Rattle.book_rules.specs.Machine.{BookState, Held, Out, after, out_at, without, with_done, all_raised, posted, replay}
use Rattle.round_core.specs.Agenda.{IsIn}
use Rattle.round_core.specs.Expected.{Grows, ExpectsRows, ExpectsUnit}
use Rattle.round_core.specs.Prepared.{IsPrepared}
use Rattle.round_core.specs.Raise.{with_all}
use Rattle.round_core.specs.Shown.{Shows}
use Rattle.round_core.specs.Turns.{place_out, AreGivenBack, TakesHome}
use Rattle.book_rules.specs.Replays.{replay-push, post-leaves}
use Rattle.round_core.proofs.PostLemmas.{behind-shown}

module _ {A : Type 0} where
  -- an agenda that grows stands for the same book
  pub grown-shown : (b : BookState A) (p p' : Parts A) → p'.nodes.rows ≡ p.nodes.rows → p'.works.rows ≡ p.works.rows
      → p'.turns ≡ p.turns → Grows p.agenda p'.agenda → Shows b p → Shows b p'
  grown-shown b p p' hs ds ts g s = record {
    nodes = hs ∙ s.nodes;
    done = ds ∙ s.done;
    distinct = s.distinct;
    home = λ u h. ap (λ t. place_out t.out u) ts ∙ s.home u h;
    out = λ u o h. let x = s.out u o h in (x.0, ap (λ t. place_out t.out u) ts ∙ x.1, x.2);
    count = ap (λ t. length t.out) ts ∙ s.count;
    apart = s.apart;
    given_back = subst (λ t. AreGivenBack t) (sym ts) s.given_back;
    expected = λ u k.
        let x = s.expected u k in (
          x.0,
          x.1,
          elim x.2 [
            | inl i ↦ inl (g.candidates x.0 i)
            | inr i ↦ inr (subst (λ t. IsIn x.0 t.returned) (sym ts) i)
          ],
        );
    waiting = λ n f w. let x = s.waiting n f w in (x.0, x.1, g.waiting f x.0 x.2);
    exits = λ pc f i at. g.exits f i (s.exits pc f i at);
  }

module _ {A : Type 0} (m : Analysis A) where
  abbrev with_work : BookState A → Out A → Work A → BookState A
  with_work b o work = record {
    nodes = all_raised m b.nodes work.posts;
    done = with_done b.done (record { unit = o.unit; work = work; versions = o.versions });
    out = without b.out o.unit;
  }

  abbrev with_nodes : BookState A → Out A → Work A → List (Held A) → BookState A
  with_nodes b o work nodes = record {
    nodes = nodes;
    done = with_done b.done (record { unit = o.unit; work = work; versions = o.versions });
    out = without b.out o.unit;
  }

  post-behind : (b : BookState A) (seat : ℕ) (o : Out A) (work : Work A) (raised : List (Held A)) → out_at b.out o.unit ≡ Some o
      → work ≡ m.work o.unit o.at o.exit → with_all b.nodes raised ≡ all_raised m b.nodes work.posts
      → after m b (Post seat o.unit) ≡ with_nodes b o work (with_all b.nodes raised)
  post-behind b seat o work raised is own rise =
      post-leaves m b seat o.unit ∙ ap (λ t. posted m b t) is ∙ ap (λ w. with_work b o w) (sym own)
      ∙ ap (λ hs. with_nodes b o work hs) (sym rise)

  -- any book behind a post
  pub posted-shown : (b : BookState A) (p q p' : Parts A) (seat : ℕ) (o : Out A) (work : Work A) (raised : List (Held A))
      → Shows b p → out_at b.out o.unit ≡ Some o → work ≡ m.work o.unit o.at o.exit
      → IsPrepared p q o.unit o.versions work.waits raised → with_all p.nodes.rows raised ≡ all_raised m p.nodes.rows work.posts
      → p'.nodes.rows ≡ with_all q.nodes.rows raised
      → p'.works.rows ≡ with_done q.works.rows (record { unit = o.unit; work = work; versions = o.versions })
      → TakesHome q.turns.out o.unit p'.turns.out → p'.turns.returned ≡ q.turns.returned → p'.agenda ≡ q.agenda
      → Shows (after m b (Post seat o.unit)) p'
  posted-shown b p q p' seat o work raised s is own ready rise nodes works home returned agenda =
      let g = ready.agenda in
      let mid = g.0 in
      let er : ExpectsRows b.done p.agenda mid (with_all b.nodes raised) raised =
      subst (λ ds. ExpectsRows ds p.agenda mid (with_all b.nodes raised) raised) s.done
      (subst (λ hs. ExpectsRows p.works.rows p.agenda mid (with_all hs raised) raised) s.nodes g.1) in
      let eu : ExpectsUnit mid p'.agenda b.nodes o.unit o.versions work.waits =
      subst (λ a. ExpectsUnit mid a b.nodes o.unit o.versions work.waits) (sym agenda) (subst (λ hs. ExpectsUnit mid q.agenda hs o.unit o.versions work.waits) s.nodes g.3) in
      let g2 : Grows mid p'.agenda = subst (λ a. Grows mid a) (sym agenda) g.4 in
      let came : TakesHome p.turns.out o.unit p'.turns.out = subst (λ t. TakesHome t.out o.unit p'.turns.out) ready.turns home in
      let shown = behind-shown b p p' o work raised mid s is ready.distinct er g.2 eu g2 came (returned ∙ ap (λ t. t.returned) ready.turns)
      (nodes ∙ ap (λ hs. with_all hs raised) (ready.nodes ∙ s.nodes))
      (works ∙ ap (λ ds. with_done ds (record { unit = o.unit; work = work; versions = o.versions })) (ready.works ∙ s.done)) in
      let risen : with_all b.nodes raised ≡ all_raised m b.nodes work.posts =
      subst (λ hs. with_all hs raised ≡ all_raised m hs work.posts) s.nodes rise in
      subst (λ c. Shows c p') (sym (post-behind b seat o work raised is own risen)) shown

  -- the book of a journal behind a post, with one more event
  pub journal-posted : (journal journal' : List Event) (p' : Parts A) (seat : ℕ) (u : WorkUnit) → journal' ≡ journal ++ Post seat u ∷ []
      → Shows (after m (replay m journal) (Post seat u)) p' → Shows (replay m journal') p'
  journal-posted journal journal' p' seat u e s =
      subst (λ c. Shows c p') (sym (ap (λ j. replay m j) e ∙ replay-push m journal (Post seat u))) s

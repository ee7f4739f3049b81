-- Agendas that grow.
use Rattle.std.specs.Prelude.{ℕ, List}
use Rattle.std.proofs.Common.{sym, ◌∙◌, ap, subst}
use Rattle.call_context.specs.declared.node.Node.{Node}
use Rattle.call_context.specs.declared.node.Node.TheVariants.{At, Exit}
use Rattle.round_core.specs.declared.agenda.Agenda.{Agenda}
use Rattle.round_core.specs.declared.raised.Risen.{Risen}
use Rattle.round_core.specs.Agenda.{IsIn}
use Rattle.round_core.specs.Expected.{Grows, ExpectsNode, ExpectsRows}
use Rattle.book_rules.specs.Machine.{Held, Done, place_of}
use Rattle.round_core.specs.Raise.{with_all, held_of, held_rows, ArePlaced}
use Rattle.round_core.proofs.ListLemmas.{in-map}

pub grows-refl : (a : Agenda) → Grows a a
grows-refl a = record { candidates = λ p h. h; waiting = λ f p h. h; exits = λ f p h. h }

pub grows-then : (a b c : Agenda) → Grows a b → Grows b c → Grows a c
grows-then a b c g h = record {
  candidates = λ p i. h.candidates p (g.candidates p i);
  waiting = λ f p i. h.waiting f p (g.waiting f p i);
  exits = λ f p i. h.exits f p (g.exits f p i);
}

module _ {A : Type 0} (done : List (Done A)) where
  pub node-later : (old mid new : Agenda) (n : Node) (p : ℕ) → Grows mid new → ExpectsNode done old mid n p → ExpectsNode done old new n p
  node-later old mid new (At pc calls frame) p g e = (g.candidates _ e.0, λ f w x h. g.candidates _ (e.1 f w x h))
  node-later old mid new (Exit pc frame) p g e = (g.exits frame p e.0, λ x h. g.candidates _ (e.1 x h))

  pub node-earlier : (first old new : Agenda) (n : Node) (p : ℕ) → Grows first old → ExpectsNode done old new n p
      → ExpectsNode done first new n p
  node-earlier first old new (At pc calls frame) p g e = (e.0, λ f w x h. e.1 f w x (g.exits f x h))
  node-earlier first old new (Exit pc frame) p g e = (e.0, λ x h. e.1 x (g.waiting frame x h))

  -- the rows that a post raises are expected, each at its place
  pub expects-rows : (old new : Agenda) (ns : List (Held A)) (rs : List (Risen A)) → ArePlaced ns rs
      → ((r : Risen A) → IsIn r rs → ExpectsNode done old new r.node r.place)
      → ExpectsRows done old new (with_all ns (held_rows rs)) (held_rows rs)
  expects-rows old new ns rs a e row h =
      let r = in-map (λ (r : Risen A). held_of r) row rs h in (
        r.0.place,
        ap (λ (t : Held A). place_of (with_all ns (held_rows rs)) t.node) r.2 ∙ a r.0 r.1,
        subst (λ (t : Held A). ExpectsNode done old new t.node r.0.place) (sym r.2) (e r.0 r.1),
      )

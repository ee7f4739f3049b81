-- The book with one node.
use Rattle.std.specs.Prelude.{[], ◌∷◌}
use Rattle.call_context.specs.declared.node.Node.{Node}
use Rattle.call_context.specs.declared.node.Node.TheVariants.{At, Exit}
use Rattle.round_core.specs.declared.agenda.Agenda.{Agenda}
use Rattle.round_core.specs.declared.place.Place.TheVariants as place
use Rattle.round_core.specs.Agenda.{IsIn, places_in}
use Rattle.book_rules.specs.Machine.{BookState}

abbrev pub one_node : {A : Type 0} → Node → A → BookState A
one_node node state = record { nodes = record { node = node; state = state; rises = 1 } ∷ []; done = []; out = [] }

-- the own work of its location is among the candidates, or its exit is known
abbrev pub ExpectsOne : Agenda → Node → Type 0
ExpectsOne agenda (At pc calls frame) = IsIn (place.One 0) agenda.candidates.keys
ExpectsOne agenda (Exit pc frame) = IsIn 0 (places_in agenda.exits frame)

-- Tickets of units.
use Rattle.std.specs.Prelude.{◌≡◌, ℕ, Some, List}
use Rattle.call_context.specs.declared.node.Unit.{Unit as WorkUnit}
use Rattle.book_rules.specs.Machine.{Held, Out, inputs_of, versions_of}

-- a ticket with copies of a unit's inputs, over these nodes
pub record IsTicketOf {A : Type 0} (nodes : List (Held A)) (seat : ℕ) (unit : WorkUnit) (ticket : Out A) : Type 0 where
  pub seat_is : ticket.seat ≡ seat
  pub unit_is : ticket.unit ≡ unit
  pub versions_are : ticket.versions ≡ versions_of nodes unit
  pub inputs_are : inputs_of nodes unit ≡ Some (ticket.at, ticket.exit)
  pub nodes_are : ticket.nodes ≡ nodes

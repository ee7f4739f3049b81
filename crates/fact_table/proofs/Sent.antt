-- What is under the lock may go to another thread, and threads may share the table, where the abstract states may go to another one.
use denote.RattleType.{RattleType}
use denote.Struct.Declared.{shape}
use denote.Param.Send.{IsSend, IsSync, sendable, view_send, recorded_send, struct_send}
use denote.Param.SendFields.{declared_send, declared_sync}
use Rattle.std.proofs.Crossing.{crosses, Box-send}
use Rattle.chip_analysis.specs.declared.chip.Chip.{Ghosts}
use Rattle.round_core.proofs.parts.Parts.TheSendSync as parts
use Rattle.round_core.proofs.spent.Spent.TheSendSync as spent
use Rattle.round_core.specs.contracts.book.Book.TheInside as inside
use Rattle.round_core.specs.contracts.book.Book as book
use Rattle.fact_table.specs.contracts.facts.Facts as facts
use Rattle.fact_table.specs.contracts.table.FactTable as table
use Rattle.fact_table.proofs.door.Door.TheSendSync.{the_sync as door_sync}
use Rattle.turn_table.proofs.table.TurnTable.TheSendSync.{the_sync as turns_sync}

module _ (C B A : RattleType) (g : Ghosts C.Denot B.Denot A.Denot) where
  inside_send : IsSend A → IsSend (inside.the_row C B A g)
  inside_send s =
      recorded_send (inside.the_field C B A g).row _ _ (inside.the_type C B A g).to_one
      (struct_send (shape (inside.the_type C B A g)) (
        search (sendable, crosses) depth 20,
        (search (sendable, crosses, parts.the_field_send, s) depth 20, (search (sendable, crosses, spent.the_field_send, s) depth 20, tt)),
      ))

  pub book_send : IsSend A → IsSend (book.the_row C B A g)
  book_send s = view_send (inside.the_row C B A g) _ _ _ _ (inside_send s)

  pub facts_send : IsSend A → IsSend (facts.the_row C B A g)
  facts_send s = declared_send (facts.the_type C B A g) (Box-send (book.the_row C B A g) (book_send s), tt)

  pub shared_sync : IsSend A → IsSync (table.the_row C B A g)
  shared_sync s = declared_sync (table.the_type C B A g) (turns_sync _ _ _ _ (facts_send s), (door_sync, tt))

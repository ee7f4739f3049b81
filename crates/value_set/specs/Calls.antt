-- The words of the calls' contracts: which set each call gives, and what is said of it.
pub use Rattle.value_set.specs.Collecting.{IsNoRun}
pub use Rattle.value_set.specs.Cutting.{cut}
pub use Rattle.value_set.specs.Ends.{greatest, least}
pub use Rattle.value_set.specs.Form.{Has, Includes, IsNormal, above, gather, make, members, steps}
pub use Rattle.value_set.specs.Joining.{is_within, join}
pub use Rattle.value_set.specs.Summing.{add, combine, single, sub, twice}
pub use Rattle.value_set.specs.Widening.{widen}
